use Rattle.std.proofs.Common.{◌-◌, arith}
use Rattle.std.proofs.lemmas.Result.{IfErr-weaker}
use Rattle.nb_map.proofs.AtHome.{put-rises}
use Rattle.nb_map.proofs.Away.{just-both, made-both, short-both}
use Rattle.nb_map.proofs.Made.{made-within}
use Rattle.nb_map.specs.Progress.{Tries}
use Rattle.nb_map.proofs.steps.write.put_if_match_in.Goals as goal

-- ---- at home

pub returns-in-Made-clause-made : goal.returns-in-Made-clause-made
returns-in-Made-clause-made g c =
    made-within _ _
    (put-rises c.args.chain.now.shape 1 _ (omega (arith, c.requires.some))) c.in-Made.ensures.tried.made

pub returns-in-Left-clause-made : goal.returns-in-Left-clause-made
returns-in-Left-clause-made g c =
    made-within _ _
    (put-rises c.args.chain.now.shape 1 _ (omega (arith, c.requires.some)))
    c.in-Left.ensures.tried.0.made

pub returns-in-Overflow-clause-made : goal.returns-in-Overflow-clause-made
returns-in-Overflow-clause-made g c =
    made-within _ _
    (put-rises c.args.chain.now.shape 1 _ (omega (arith, c.requires.some)))
    c.in-Overflow.ensures.tried.made

-- ---- elsewhere

pub returns-after-left-eq0-clause-made : goal.returns-after-left-eq0-clause-made
returns-after-left-eq0-clause-made g c =
    made-both c.args.chain.now c.in-GoesOn.ensures.tried (Tries c.args.tries)
    (Tries (c.args.tries - (1 - c.write_home.new.left))) (omega (arith, c.requires.some))
    c.write_above.ensures.climbed.made

pub returns-after-left-eq0-clause-refused : goal.returns-after-left-eq0-clause-refused
returns-after-left-eq0-clause-refused g c =
    IfErr-weaker c.write_above.result _ _
    (just-both c.args.chain.now c.in-GoesOn.ensures.tried (Tries c.args.tries)
    (Tries (c.args.tries - (1 - c.write_home.new.left))) (omega (arith, c.requires.some))
    c.write_above.ensures.climbed.made.grown)
    c.write_above.ensures.climbed.refused

pub returns-after-left-eq0-clause-short : goal.returns-after-left-eq0-clause-short
returns-after-left-eq0-clause-short g c =
    short-both c.args.chain.now c.in-GoesOn.ensures.tried c.write_above.ensures.climbed.made

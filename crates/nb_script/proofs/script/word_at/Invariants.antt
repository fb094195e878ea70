use Rattle.std.proofs.Common.{◌≡◌, ℕ, ◌+◌, slice_get}
use Rattle.nb_script.specs.Script.{words_in}
use Rattle.nb_script.proofs.script.word_at.Given as goal

-- the words that are left are those behind the ones that were passed
abbrev pub invariant-loop-passed : goal.invariant-loop-passed
invariant-loop-passed l = (i : ℕ) → slice_get (words_in l.text) (l._passed + i)
    ≡ slice_get (words_in l.rest) i

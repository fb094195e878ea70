use Rattle.std.proofs.Common.{◌∙◌, Some, subst, sym}
use Rattle.nb_core.specs.Tables.{IsUnprimed}
use Rattle.nb_core.specs.declared.calls.Call.TheVariants as call
use Rattle.nb_table.proofs.Theorems.{steps_add_up}
use Rattle.nb_table.specs.Chains.{Extended}
use Rattle.nb_table.specs.Events.{read}
use Rattle.nb_map.proofs.Made.{made-read}
use Rattle.nb_map.proofs.There.{unprimed-there}
use Rattle.nb_map.proofs.Tried.{shown-none}
use Rattle.nb_map.proofs.steps.there.get_there.Goals as goal

pub unreachable-requires : goal.unreachable-requires
unreachable-requires c =
    shown-none c.load_value_word-word.result (sym c.shows.ensures ∙ c.in-None.is)
    (subst IsUnprimed c.load_value_word-word.ensures.found
    (unprimed-there c.args.chain.now c.load_value_word-word.new.seat c.args.slot c.requires.one
    (steps_add_up.own c.requires.own (steps_add_up.one c.load_value_word-word.ensures.grows))
    c.requires.slot.0))

pub returns : goal.returns
returns c =
    let before = c.args.seat.now in
    let get = call.Get c.args.key in
    made-read c.args.chain.now.shape get (Some c.in-Some.number)
    (subst (λ shown. Extended c.args.chain.now.shape before c.load_value_word-word.new.seat
    (read before.number get shown) 1) (sym c.shows.ensures ∙ c.in-Some.is)
    c.load_value_word-word.ensures.grows)

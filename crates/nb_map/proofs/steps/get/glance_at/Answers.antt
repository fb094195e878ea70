use Rattle.std.proofs.Common.{◌∙◌, None, Some, ap, cond, subst, sym, arith}
use Rattle.nb_core.specs.Tables.{IsUnprimed}
use Rattle.nb_core.specs.declared.calls.Call.TheVariants as call
use Rattle.nb_table.specs.Chains.{seen_by}
use Rattle.nb_map.proofs.Glanced.{made-glance, made-primed, made-untold}
use Rattle.nb_map.proofs.Tried.{none-of, shown-none}
use Rattle.nb_map.proofs.Home.{copied-away}
use Rattle.nb_map.proofs.OnPath.{slot-is}
use Rattle.nb_map.proofs.Rungs.{read-near}
use Rattle.nb_map.proofs.steps.get.glance_at.Goals as goal
use Rattle.nb_table.proofs.Theorems.{steps_add_up}

pub returns-then-is_own-clause-made : goal.returns-then-is_own-clause-made
returns-then-is_own-clause-made c =
    let told = c.read_if.ensures ∙ ap (λ b. cond b (Some (call.Get c.args.key)) None)
    c.if-is_own.true in
    rw c.if-is_own.true
    (made-primed c.args.chain.now.shape c.args.key c.load_value_word_at-word.result c.read_if.result
    told (sym c.shows.ensures ∙ none-of c.shows.result c.in_default.not-Some)
    c.load_value_word_at-word.ensures.grows)

pub returns-then-is_own-clause-glance : goal.returns-then-is_own-clause-glance
returns-then-is_own-clause-glance c own =
    let chain = c.args.chain.now in
    let p = chain.shape in
    let slot = c.args.slot in
    let k = c.args.key in
    let d = c.args.distance in
    let seen = seen_by p c.load_value_word_at-word.new.seat in
    let lasting = steps_add_up.stays c.requires.at.own
    (steps_add_up.one c.load_value_word_at-word.ensures.grows) in
    let primed = shown-none c.load_value_word_at-word.result
    (sym c.shows.ensures ∙ none-of c.shows.result c.in_default.not-Some) in
    let others = lasting.others slot.g k d c.requires.at.table c.requires.at.others in (
      omega arith,
      read-near chain c.requires.at,
      others,
      copied-away p seen slot.g k d slot.i others (slot-is c.requires.slot)
          (lasting.claimed slot.g slot.i k c.requires.slot.placed.slot (c.requires.claimed own))
          (subst (λ v. IsUnprimed v → ⊥) (sym c.load_value_word_at-word.ensures.found) primed),
    )

pub returns-else-is_own-clause-made : goal.returns-else-is_own-clause-made
returns-else-is_own-clause-made c =
    let told = c.read_if.ensures ∙ ap (λ b. cond b (Some (call.Get c.args.key)) None)
    c.if-is_own.false in
    rw c.if-is_own.false
    (made-untold c.args.chain.now.shape c.args.key c.load_value_word_at-word.result c.read_if.result
    told
    c.load_value_word_at-word.ensures.grows)

pub returns-clause-made : goal.returns-clause-made
returns-clause-made c =
    made-glance c.args.chain.now.shape c.args.key c.load_value_word_at-word.result c.read_if.result
    c.args.is_own c.in-Some.number c.shown_if.result c.read_if.ensures c.shown_if.ensures
    (sym c.shows.ensures ∙ c.in-Some.is) c.load_value_word_at-word.ensures.grows

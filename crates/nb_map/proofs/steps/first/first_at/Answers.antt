use Rattle.std.proofs.Common.{◌≡◌, ◌∙◌, ◌≢◌, ℕ, ◌≤◌, [], ◌∷◌, true, Option, Some, None, arith, sym, subst}
use Rattle.nb_core.specs.History.{number_in_value}
use Rattle.nb_core.specs.Log.{log_of, reply_at}
use Rattle.nb_core.specs.States.{shown_by_value}
use Rattle.nb_core.specs.Tables.{IsSlot}
use Rattle.nb_core.specs.declared.states.ValueState.TheVariants.{Live, Null}
use Rattle.nb_table.specs.Chains.{Extended, seen_by}
use Rattle.nb_map.proofs.Firsts.{at-loaded, had-at, is-first, lost-first, made-first, made-load, made-lost}
use Rattle.nb_map.proofs.Made.{made-within}
use Rattle.nb_map.proofs.Rungs.{slot-stays}
use Rattle.nb_core.specs.declared.events.Event.TheVariants.{Won}
use Rattle.nb_map.specs.FirstPut.{HasHad}
use Rattle.nb_map.specs.Calling.{HasMade}
use Rattle.nb_map.specs.NamedCalls.{put_if_absent_of}
use Rattle.nb_map.specs.inside.Firsts.{IsFirst, first_made}
use Rattle.nb_map.proofs.steps.first.first_at.Goals as goal

pub returns-in_default : goal.returns-in_default
returns-in_default c = record {
  made = made-within 1 2 (omega arith)
      (made-load c.args.chain.now c.args.key c.args.number c.args.slot c.requires.one c.requires.at c.load_value_word_at-from.ensures.grows);
  first = had-at c.args.chain.now c.args.key c.args.number c.args.slot c.requires.one
      (at-loaded c.args.chain.now c.args.key c.args.number c.args.slot c.requires.one c.requires.at
      c.load_value_word_at-from.ensures.grows)
      (λ null. c.in_default.not-Null
      (c.state.ensures ∙ sym c.load_value_word_at-from.ensures.found ∙ null));
}

pub win_value_at-requires-clause-claimed : goal.win_value_at-requires-clause-claimed
win_value_at-requires-clause-claimed c =
    (at-loaded c.args.chain.now c.args.key c.args.number c.args.slot c.requires.one c.requires.at
    c.load_value_word_at-from.ensures.grows).claimed

-- ---- the exchange is won

-- from null
won :
    (c : goal.In-Ok)
    → Extended c.args.chain.now.shape c.load_value_word_at-from.new.seat c.win_value_at.new.seat
    (Won c.load_value_word_at-from.new.seat.number c.args.slot.g c.args.slot.i Null
    (Live c.args.number) (put_if_absent_of c.args.key c.args.number)
    (reply_at (put_if_absent_of c.args.key c.args.number) None) ∷ []) 1
won c =
    let p = c.args.chain.now.shape in
    let loaded = c.load_value_word_at-from.new.seat in
    let put = put_if_absent_of c.args.key c.args.number in
    subst (λ from. Extended p loaded c.win_value_at.new.seat
    (Won loaded.number c.args.slot.g c.args.slot.i from (Live c.args.number) put
    (record { before = number_in_value from; matched = true }) ∷ []) 1)
    (sym c.state.ensures ∙ c.in-Null.is) c.in-Ok.ensures.won.0

pub returns-in-Ok-clause-made : goal.returns-in-Ok-clause-made
returns-in-Ok-clause-made c =
    made-first c.args.chain.now c.args.key c.args.number c.args.slot c.requires.one c.requires.at
    c.load_value_word_at-from.ensures.grows (won c)

pub returns-in-Ok-clause-first : goal.returns-in-Ok-clause-first
returns-in-Ok-clause-first c =
    is-first c.args.chain.now c.args.key c.args.number c.args.slot c.requires.one c.requires.at
    c.load_value_word_at-from.ensures.grows (won c)

-- ---- or lost

pub returns-in-Err-clause-made : goal.returns-in-Err-clause-made
returns-in-Err-clause-made c =
    let p = c.args.chain.now.shape in
    let put = put_if_absent_of c.args.key c.args.number in
    subst (λ first. HasMade p put c.args.seat.now c.win_value_at.new.seat
    (first_made c.args.key c.args.number first) 2) (sym c.left_there.ensures)
    (made-lost c.args.chain.now c.args.key c.args.number c.args.slot c.requires.one c.requires.at
    c.load_value_word_at-from.ensures.grows c.in-Err.found c.in-Err.ensures.lost.1)

pub returns-in-Err-clause-first : goal.returns-in-Err-clause-first
returns-in-Err-clause-first c =
    subst (IsFirst c.args.chain.now.shape c.args.key c.args.number c.args.seat.now
    c.win_value_at.new.seat) (sym c.left_there.ensures)
    (lost-first c.args.chain.now c.args.key c.args.number c.args.slot c.requires.one c.requires.at
    c.load_value_word_at-from.ensures.grows c.in-Err.found c.in-Err.ensures.lost.1
    c.in-Err.ensures.lost.2
    (λ null. c.in-Err.ensures.lost.0 (null ∙ sym (sym c.state.ensures ∙ c.in-Null.is))))

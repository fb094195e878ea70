use Rattle.std.proofs.Common.{◌∙◌, ◌≢◌, ◌+◌, None, Some, ap, refl, sym, subst, arith}
use Rattle.std.proofs.lemmas.Bool.{eq-eqb}
use Rattle.nb_core.specs.Paths.{IsOnPathAt}
use Rattle.nb_core.specs.Tables.{path_slot}
use Rattle.nb_core.specs.declared.calls.Call.TheVariants as call
use Rattle.nb_core.specs.declared.slot_paths.Slot.{Slot}
use Rattle.nb_core.specs.declared.states.KeyState.{KeyState}
use Rattle.nb_core.specs.declared.states.KeyState.TheVariants.{Claimed}
use Rattle.nb_table.specs.Chains.{Extended, seen_by}
use Rattle.nb_table.specs.Events.{read, shown_by_key}
use Rattle.nb_map.specs.Calling.{HasMade}
use Rattle.nb_map.specs.inside.Climbing.{IsAt, rung_for_read}
use Rattle.nb_map.specs.inside.Reading.{IsGlance}
use Rattle.nb_map.proofs.Home.{closed-away, others-away}
use Rattle.nb_map.proofs.OnPath.{found-on_path, load-on_path, slot-on_path, slot-reached}
use Rattle.nb_map.proofs.Made.{made-quiet, made-read, made-within}
use Rattle.nb_map.proofs.Rungs.{at-stays, read-near}
use Rattle.nb_map.proofs.Searched.{made-then, others-more, read-before, shown-other, shown-own}
use Rattle.nb_map.proofs.steps.get.glance_on.Goals as goal
use Rattle.nb_table.proofs.Theorems.{steps_add_up}

pub load_key_word_at-word-requires-clause-slot : goal.load_key_word_at-word-requires-clause-slot
load_key_word_at-word-requires-clause-slot c =
    let place = c.slot-at.ensures c.args.chain.now.shape c.args.path.g c.args.key c.requires.path in
    place.placed

pub load_key_word_at-word-requires-clause-reached :
    goal.load_key_word_at-word-requires-clause-reached
load_key_word_at-word-requires-clause-reached c =
    let place = c.slot-at.ensures c.args.chain.now.shape c.args.path.g c.args.key c.requires.path in
    slot-reached c.args.chain.now c.requires.at place

pub load_key_word_at-word-requires-clause-on_path :
    goal.load_key_word_at-word-requires-clause-on_path
load_key_word_at-word-requires-clause-on_path c =
    let place = c.slot-at.ensures c.args.chain.now.shape c.args.path.g c.args.key c.requires.path in
    slot-on_path c.args.chain.now c.requires.at place (read-near c.args.chain.now c.requires.at)

-- ---- at the key's own slot

pub glance_at-requires-clause-at : goal.glance_at-requires-clause-at
glance_at-requires-clause-at c =
    let place = c.slot-at.ensures c.args.chain.now.shape c.args.path.g c.args.key c.requires.path in
    let chain = c.args.chain.now in
    let get = call.Get c.args.key in
    subst (λ (at : Slot). IsAt chain get c.load_key_word_at-word.new.seat
    (rung_for_read at.g c.args.distance)) (sym place.is)
    (at-stays chain c.requires.at
    (made-read chain.shape get _ c.load_key_word_at-word.ensures.grows))

pub glance_at-requires-clause-slot : goal.glance_at-requires-clause-slot
glance_at-requires-clause-slot c =
    let place = c.slot-at.ensures c.args.chain.now.shape c.args.path.g c.args.key c.requires.path in
    subst (λ (at : Slot). IsOnPathAt c.args.chain.now.shape at.g c.args.key c.args.distance
    c.slot-at.result) (sym place.is) place

pub returns-then-is-clause-glance : goal.returns-then-is-clause-glance
returns-then-is-clause-glance c =
    let place = c.slot-at.ensures c.args.chain.now.shape c.args.path.g c.args.key c.requires.path in
    let p = c.args.chain.now.shape in
    subst (λ (at : Slot). IsGlance p (seen_by p c.glance_at.new.seat) at.g c.args.key
    c.args.distance c.glance_at.result) place.is (c.glance_at.ensures.glance refl)

pub returns-then-is-clause-made : goal.returns-then-is-clause-made
returns-then-is-clause-made c =
    let place = c.slot-at.ensures c.args.chain.now.shape c.args.path.g c.args.key c.requires.path in
    let chain = c.args.chain.now in
    let p = chain.shape in
    let g = c.args.path.g in
    let k = c.args.key in
    let d = c.args.distance in
    let get = call.Get k in
    let old = c.args.seat.now in
    let new = c.load_key_word_at-word.new.seat in
    let at = path_slot p g k d in
    let seen = λ (s : KeyState). Extended p old new (read old.number get (shown_by_key p g at s k)) 1
    in
    let load = load-on_path get c.load_key_word_at-word.result place
    c.load_key_word_at-word.ensures.grows in
    let none = shown-own p g at k k k refl (sym (eq-eqb k k refl)) in
    made-then c.requires.at.own
    (made-quiet p get
    (subst (λ shown. Extended p old new (read old.number get shown) 1) none
    (subst seen (c.is.ensures.yes c.if-is.true) load)))
    c.glance_at.ensures.made

-- ---- at another key's

pub returns-in-Claimed-clause-made : goal.returns-in-Claimed-clause-made
returns-in-Claimed-clause-made c =
    let place = c.slot-at.ensures c.args.chain.now.shape c.args.path.g c.args.key c.requires.path in
    let chain = c.args.chain.now in
    let p = chain.shape in
    let g = c.args.path.g in
    let k = c.args.key in
    let d = c.args.distance in
    let get = call.Get k in
    let old = c.args.seat.now in
    let new = c.load_key_word_at-word.new.seat in
    let at = path_slot p g k d in
    let seen = λ (s : KeyState). Extended p old new (read old.number get (shown_by_key p g at s k)) 1
    in
    let load = load-on_path get c.load_key_word_at-word.result place
    c.load_key_word_at-word.ensures.grows in
    let is = sym c.state.ensures ∙ c.in-Claimed.is in
    let other = c.in-Claimed.field-0 in
    let differs : other ≢ k = (λ same. c.is.ensures.no c.if-is.false (is ∙ ap Claimed same)) in
    let none = shown-other chain g c.requires.at.table get d other (read-near chain c.requires.at)
    differs ∙ read-before p g get (d + 1) c.requires.near in
    made-within 1 2 (omega arith) (subst (λ made. HasMade p get old new made 1) none
    (made-read p get (shown_by_key p g at (Claimed other) k) (subst seen is load)))

pub returns-in-Claimed-clause-glance : goal.returns-in-Claimed-clause-glance
returns-in-Claimed-clause-glance c =
    let place = c.slot-at.ensures c.args.chain.now.shape c.args.path.g c.args.key c.requires.path in
    let chain = c.args.chain.now in
    let p = chain.shape in
    let g = c.args.path.g in
    let k = c.args.key in
    let d = c.args.distance in
    let seen = seen_by p c.load_key_word_at-word.new.seat in
    let found = found-on_path seen c.load_key_word_at-word.result place
    c.load_key_word_at-word.ensures.found in
    let lasting = steps_add_up.stays c.requires.at.own
    (steps_add_up.one c.load_key_word_at-word.ensures.grows) in
    let is = sym c.state.ensures ∙ c.in-Claimed.is in
    let differs : c.in-Claimed.field-0 ≢ k =
    (λ same. c.is.ensures.no c.if-is.false (is ∙ ap Claimed same)) in
    let others = others-more p _ _ lasting g k d _ c.in-Claimed.field-0 c.requires.at.table
    c.requires.at.others refl (found ∙ is) differs in (
      omega arith,
      c.requires.near,
      others,
      others-away p seen g k (d + 1) (omega arith) others,
    )

-- ---- at an empty one

pub returns-in-Empty-clause-made : goal.returns-in-Empty-clause-made
returns-in-Empty-clause-made c =
    let place = c.slot-at.ensures c.args.chain.now.shape c.args.path.g c.args.key c.requires.path in
    let chain = c.args.chain.now in
    let p = chain.shape in
    let g = c.args.path.g in
    let k = c.args.key in
    let d = c.args.distance in
    let get = call.Get k in
    let old = c.args.seat.now in
    let new = c.load_key_word_at-word.new.seat in
    let at = path_slot p g k d in
    let seen = λ (s : KeyState). Extended p old new (read old.number get (shown_by_key p g at s k)) 1
    in
    let load = load-on_path get c.load_key_word_at-word.result place
    c.load_key_word_at-word.ensures.grows in
    made-within 1 2 (omega arith)
    (made-read p get (Some None) (subst seen (sym c.state.ensures ∙ c.in-Empty.is) load))

-- ---- at a closed one

pub returns-in-Dead-clause-made : goal.returns-in-Dead-clause-made
returns-in-Dead-clause-made c =
    let place = c.slot-at.ensures c.args.chain.now.shape c.args.path.g c.args.key c.requires.path in
    let chain = c.args.chain.now in
    let p = chain.shape in
    let g = c.args.path.g in
    let k = c.args.key in
    let d = c.args.distance in
    let get = call.Get k in
    let old = c.args.seat.now in
    let new = c.load_key_word_at-word.new.seat in
    let at = path_slot p g k d in
    let seen = λ (s : KeyState). Extended p old new (read old.number get (shown_by_key p g at s k)) 1
    in
    let load = load-on_path get c.load_key_word_at-word.result place
    c.load_key_word_at-word.ensures.grows in
    made-within 1 2 (omega arith)
    (made-quiet p get (subst seen (sym c.state.ensures ∙ c.in-Dead.is) load))

pub returns-in-Dead-clause-glance : goal.returns-in-Dead-clause-glance
returns-in-Dead-clause-glance c =
    let place = c.slot-at.ensures c.args.chain.now.shape c.args.path.g c.args.key c.requires.path in
    let chain = c.args.chain.now in
    let p = chain.shape in
    let g = c.args.path.g in
    let k = c.args.key in
    let d = c.args.distance in
    let seen = seen_by p c.load_key_word_at-word.new.seat in
    let found = found-on_path seen c.load_key_word_at-word.result place
    c.load_key_word_at-word.ensures.found in
    let lasting = steps_add_up.stays c.requires.at.own
    (steps_add_up.one c.load_key_word_at-word.ensures.grows) in
    let others = lasting.others g k d c.requires.at.table c.requires.at.others in (
      omega arith,
      read-near chain c.requires.at,
      others,
      closed-away p seen g k d others (found ∙ sym c.state.ensures ∙ c.in-Dead.is),
    )

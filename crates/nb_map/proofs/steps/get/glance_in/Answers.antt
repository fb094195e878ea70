use Rattle.std.proofs.Common.{◌∙◌, None, Some, inl, inr, refl, sym, subst, arith, rules, IsTrue}
use Rattle.std.proofs.lemmas.Bool.{eq-eqb}
use Rattle.std.proofs.lemmas.Nat.{pow_pos}
use Rattle.nb_core.specs.Paths.{IsOnPathAt}
use Rattle.nb_core.specs.Tables.{path_slot}
use Rattle.nb_core.specs.declared.calls.Call.TheVariants as call
use Rattle.nb_core.specs.declared.slot_paths.Slot.{Slot}
use Rattle.nb_core.specs.declared.states.KeyState.{KeyState}
use Rattle.nb_core.specs.declared.states.KeyState.TheVariants.{Claimed}
use Rattle.nb_table.specs.Chains.{Extended, seen_by}
use Rattle.nb_table.specs.Events.{read, shown_by_key}
use Rattle.nb_map.specs.Calling.{HasMade}
use Rattle.nb_map.specs.inside.Climbing.{IsAt, rung_for_read}
use Rattle.nb_map.specs.inside.Reading.{IsGlance, glanced_by}
use Rattle.nb_map.proofs.Glanced.{glance-either, made-looked, turned}
use Rattle.nb_map.proofs.Home.{dead-away, others-away}
use Rattle.nb_map.proofs.OnPath.{found-on_path, load-on_path, slot-of_path, slot-on_path, slot-reached}
use Rattle.nb_map.proofs.Made.{made-quiet, made-read, made-within}
use Rattle.nb_map.proofs.Rungs.{at-stays}
use Rattle.nb_map.proofs.Searched.{others-more, others-none, read-before, shown-other, shown-own, two-slots}
use Rattle.nb_map.proofs.steps.get.glance_in.Goals as goal
use Rattle.nb_table.proofs.Theorems.{steps_add_up}

pub load_key_word_at-word-requires-clause-slot : goal.load_key_word_at-word-requires-clause-slot
load_key_word_at-word-requires-clause-slot c =
    (slot-of_path c.shape.ensures refl c.path.ensures c.slot-home.ensures).placed

pub load_key_word_at-word-requires-clause-reached :
    goal.load_key_word_at-word-requires-clause-reached
load_key_word_at-word-requires-clause-reached c =
    slot-reached c.args.chain.now c.requires.at
    (slot-of_path c.shape.ensures refl c.path.ensures c.slot-home.ensures)

pub load_key_word_at-word-requires-clause-on_path :
    goal.load_key_word_at-word-requires-clause-on_path
load_key_word_at-word-requires-clause-on_path c =
    slot-on_path c.args.chain.now c.requires.at
    (slot-of_path c.shape.ensures refl c.path.ensures c.slot-home.ensures)
    (pow_pos _)

pub returns-then-not-is_or_empty-clause-made : goal.returns-then-not-is_or_empty-clause-made
returns-then-not-is_or_empty-clause-made c =
    let chain = c.args.chain.now in
    let p = chain.shape in
    let get = call.Get c.args.key in
    let old = c.args.seat.now in
    let new = c.load_key_word_at-word.new.seat in
    let home = path_slot p c.args.g c.args.key 0 in
    let seen = λ (s : KeyState). Extended p old new
    (read old.number get (shown_by_key p c.args.g home s c.args.key)) 1 in
    let place = slot-of_path c.shape.ensures refl c.path.ensures c.slot-home.ensures in
    let load = load-on_path get c.load_key_word_at-word.result place
    c.load_key_word_at-word.ensures.grows in
    elim (c.is_or_empty.ensures.no c.if-not-is_or_empty.true) [
      | inl dead ↦
          subst (λ glance. HasMade p get old new (glanced_by get glance) 2)
          (sym (c.away.ensures.dead dead))
          (made-within 1 2 (omega arith) (made-quiet p get
          (subst seen dead load)))
      | inr other ↦
          let table = c.requires.at.table in
          let more = two-slots p c.requires.at.own.plan c.args.g table in
          let none = shown-other chain c.args.g table get 0 other.0 (pow_pos _) other.2
          ∙ read-before p c.args.g get 1 more in
          subst (λ glance. HasMade p get old new (glanced_by get glance) 2)
          (sym (c.away.ensures.other other.0 other.1))
          (made-within 1 2 (omega arith) (subst (λ made. HasMade p get old new made 1) none
          (made-read p get (shown_by_key p c.args.g home (Claimed other.0) c.args.key)
          (subst seen other.1 load))))
    ]

pub returns-then-not-is_or_empty-clause-glance :
    goal.returns-then-not-is_or_empty-clause-glance
returns-then-not-is_or_empty-clause-glance c =
    let chain = c.args.chain.now in
    let p = chain.shape in
    let seen = seen_by p c.load_key_word_at-word.new.seat in
    let place = slot-of_path c.shape.ensures refl c.path.ensures c.slot-home.ensures in
    let found = found-on_path seen c.load_key_word_at-word.result place
    c.load_key_word_at-word.ensures.found in
    elim (c.is_or_empty.ensures.no c.if-not-is_or_empty.true) [
      | inl dead ↦
          subst (IsGlance p seen c.args.g c.args.key 0) (sym (c.away.ensures.dead dead)) (
            omega arith,
            pow_pos _,
            others-none p seen c.args.g c.args.key,
            dead-away p seen c.args.g c.args.key
                (found ∙ dead),
          )
      | inr other ↦
          let table = c.requires.at.table in
          let lasting = steps_add_up.stays c.requires.at.own
          (steps_add_up.one c.load_key_word_at-word.ensures.grows) in
          let others = others-more p _ _ lasting c.args.g c.args.key 0 _ other.0 table
          (others-none p (seen_by p c.args.seat.now) c.args.g c.args.key) refl
          (found ∙ other.1) other.2 in
          subst (IsGlance p seen c.args.g c.args.key 0)
          (sym (c.away.ensures.other other.0 other.1)) (
            omega arith,
            two-slots p c.requires.at.own.plan c.args.g table,
            others,
            others-away p seen c.args.g c.args.key 1 (omega arith) others,
          )
    ]

pub glance_at-requires-clause-at : goal.glance_at-requires-clause-at
glance_at-requires-clause-at c =
    let chain = c.args.chain.now in
    let get = call.Get c.args.key in
    let place = slot-of_path c.shape.ensures refl c.path.ensures c.slot-home.ensures in
    subst (λ (home : Slot). IsAt chain get c.load_key_word_at-word.new.seat
    (rung_for_read home.g 0)) (sym place.is)
    (at-stays chain c.requires.at
    (made-read chain.shape get _ c.load_key_word_at-word.ensures.grows))

pub glance_at-requires-clause-slot : goal.glance_at-requires-clause-slot
glance_at-requires-clause-slot c =
    let place = slot-of_path c.shape.ensures refl c.path.ensures c.slot-home.ensures in
    subst (λ (home : Slot). IsOnPathAt c.args.chain.now.shape home.g c.args.key 0
    c.slot-home.result) (sym place.is) place

pub returns-clause-glance : goal.returns-clause-glance
returns-clause-glance c =
    let p = c.args.chain.now.shape in
    let place = slot-of_path c.shape.ensures refl c.path.ensures c.slot-home.ensures in
    subst (λ (home : Slot). IsGlance p (seen_by p c.glance_at.new.seat) home.g c.args.key 0
    c.glance_at.result) place.is
    (glance-either p (seen_by p c.glance_at.new.seat) _ c.args.key 0 _ c.glance_at.result
    c.glance_at.ensures.glance c.glance_at.ensures.empty)

pub returns-clause-made : goal.returns-clause-made
returns-clause-made c =
    let chain = c.args.chain.now in
    let p = chain.shape in
    let get = call.Get c.args.key in
    let old = c.args.seat.now in
    let home = path_slot p c.args.g c.args.key 0 in
    let seen = λ (s : KeyState). Extended p old c.load_key_word_at-word.new.seat
    (read old.number get (shown_by_key p c.args.g home s c.args.key)) 1 in
    let load = load-on_path get c.load_key_word_at-word.result
    (slot-of_path c.shape.ensures refl c.path.ensures c.slot-home.ensures)
    c.load_key_word_at-word.ensures.grows in
    let passed : IsTrue c.is_or_empty.result = search rules in
    made-looked chain c.args.key _ c.glance_at.result c.requires.at.own
    (λ own. elim (c.is_or_empty.ensures.yes passed) [
      | inl mine ↦
          let none = shown-own p c.args.g home c.args.key c.args.key c.args.key
          refl (sym (eq-eqb c.args.key c.args.key refl)) in
          made-quiet p get
          (subst (λ shown. Extended p old c.load_key_word_at-word.new.seat (read old.number get shown)
          1) none
          (subst seen mine load))
      | inr empty ↦ absurd (c.is_empty.ensures.no (turned _ _ own) empty)
    ])
    (λ own. made-read p get (Some None) (subst seen (c.is_empty.ensures.yes (turned _ _ own))
    load))
    c.glance_at.ensures.empty c.glance_at.ensures.made

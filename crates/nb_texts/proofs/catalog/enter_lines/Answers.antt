use Rattle.std.proofs.Common.{◌≡◌, ◌∙◌, ◌+◌, Err, [], ◌∷◌, ap, arith, drop, map, refl, rules, subst}
use Rattle.std.specs.Prelude.{Some, slice_get, slice_index_or}
use Rattle.std.proofs.lemmas.Grind.{common_steps}
use Rattle.std.proofs.lemmas.List.{drop_all, drop_more}
use Rattle.nb_lines.specs.declared.faults.ProgramFault.TheVariants as fault
use Rattle.nb_map.specs.Maps.{MapOf}
use Rattle.nb_texts.specs.Entering.{HasEntered, HasNoRoomFor}
use Rattle.nb_texts.specs.Hashes.{key_for}
use Rattle.nb_texts.specs.Lines.{lines_in}
use Rattle.nb_texts.specs.declared.clues.Clue.TheVariants.{Place}
use Rattle.nb_texts.proofs.ClueLemmas.{clue-now, entering-begun, entering-done, entering-grown, entering-kept, entering-more, entering-stopped, some-left}
use Rattle.nb_texts.proofs.LinesLemmas.{grown-none}
use Rattle.nb_texts.proofs.StoppedLemmas.{kept-entered, kept-none, kept-then}
use Rattle.nb_texts.proofs.catalog.enter_lines.Goals as goal

pub loop-clue-init : goal.loop-clue-init
loop-clue-init g c = record {
  kept = record { map = refl; reserve = refl };
  so_far =
      entering-begun c.args.handle.now.map.chain.shape c.args.hashing c.args.handle.now.map c.args.handle.now.seat c.args.texts.now
      (lines_in c.args.block.now) c.args.clues.now c.in_ok-places.places.items c.known.ensures.own
      c.requires c.in_ok-places.ensures.items;
}

pub returns-clause-entered : goal.returns-clause-entered
returns-clause-entered g c =
    let now = c.loop-clue in
    let hashing = c.args.hashing in
    let before = c.args.handle.now.seat in
    let texts = c.args.texts.now in
    let lines = lines_in c.args.block.now in
    let so_far = now.invariant.so_far in
    let all : so_far.done ≡ lines
    = entering-done c.args.handle.now.map.chain.shape hashing before now.handle.seat texts now.texts lines (lines_in now.rest.now)
    (drop now.clue-index c.args.clues.now) now.places.items so_far
    (drop_all now.clue-index c.args.clues.now c.loop-clue-test.false) in
    subst (HasEntered c.args.handle.now.map.chain.shape (key_for hashing) before now.handle.seat texts now.texts) all so_far.entered

pub returns-clause-places : goal.returns-clause-places
returns-clause-places g c =
    let now = c.loop-clue in
    let hashing = c.args.hashing in
    let before = c.args.handle.now.seat in
    let texts = c.args.texts.now in
    let lines = lines_in c.args.block.now in
    let so_far = now.invariant.so_far in
    let all : so_far.done ≡ lines
    = entering-done c.args.handle.now.map.chain.shape hashing before now.handle.seat texts now.texts lines (lines_in now.rest.now)
    (drop now.clue-index c.args.clues.now) now.places.items so_far
    (drop_all now.clue-index c.args.clues.now c.loop-clue-test.false) in
    subst (λ lines. map (slice_get now.texts) now.places.items ≡ map Some lines) all so_far.placed

pub split_line-requires : goal.split_line-requires
split_line-requires g c =
    let now = c.loop-clue in
    let clues = c.args.clues.now in
    record {
      some = λ none.
          some-left c.args.handle.now.map.chain.shape c.args.hashing c.args.handle.now.seat now.handle.seat c.args.texts.now now.texts
          (lines_in c.args.block.now) (lines_in now.rest.now) (drop now.clue-index clues)
          now.places.items now.invariant.so_far (slice_index_or clues now.clue-index (Place 0))
          (drop (now.clue-index + 1) clues)
          (drop_more clues now.clue-index (Place 0) c.loop-clue-test.true) (ap lines_in none);
    }

pub enter_by-requires : goal.enter_by-requires
enter_by-requires g c =
    let now = c.loop-clue in
    let clues = c.args.clues.now in
    clue-now c.args.handle.now.map.chain.shape c.args.hashing c.args.handle.now.seat now.handle.seat c.args.texts.now now.texts
    (lines_in c.args.block.now) (lines_in now.rest.now) (drop now.clue-index clues) now.places.items
    now.invariant.so_far (slice_index_or clues now.clue-index (Place 0))
    (drop (now.clue-index + 1) clues) c.split_line.result.0.now (lines_in c.split_line.result.1.now)
    (drop_more clues now.clue-index (Place 0) c.loop-clue-test.true) c.split_line.ensures.line

pub loop-clue-preserved : goal.loop-clue-preserved
loop-clue-preserved g c =
    let now = c.loop-clue in
    let clues = c.args.clues.now in
    let kept = c.in_ok-place.ensures.rest in
    record {
      kept = record {
        map = kept.map ∙ now.invariant.kept.map;
        reserve = kept.reserve ∙ now.invariant.kept.reserve;
      };
      so_far =
          entering-more c.args.handle.now.map.chain.shape c.args.hashing c.args.handle.now.seat now.handle.seat c.args.texts.now
          now.texts (lines_in c.args.block.now) (lines_in now.rest.now) (drop now.clue-index clues)
          now.places.items now.invariant.so_far (slice_index_or clues now.clue-index (Place 0))
          (drop (now.clue-index + 1) clues) c.split_line.result.0.now
          (lines_in c.split_line.result.1.now) c.enter_by.new.handle.seat c.enter_by.new.texts
          c.push.new.self.items c.in_ok-place.place
          (drop_more clues now.clue-index (Place 0) c.loop-clue-test.true) c.split_line.ensures.line
          (subst (λ (m : MapOf). HasEntered m.chain.shape (key_for c.args.hashing) now.handle.seat
          c.enter_by.new.handle.seat now.texts c.enter_by.new.texts (c.split_line.result.0.now ∷ []))
          now.invariant.kept.map c.in_ok-place.ensures.entered)
          c.in_ok-place.ensures.grown c.in_ok-place.ensures.placed
          c.in_ok-push.ensures.items;
    }

pub returns-in_err-place-clause-full : goal.returns-in_err-place-clause-full
returns-in_err-place-clause-full g c =
    let now = c.loop-clue in
    let p = c.args.handle.now.map.chain.shape in
    let keys = key_for c.args.hashing in
    let line = c.split_line.result.0.now in
    let left = lines_in c.split_line.result.1.now in
    let after = c.enter_by.new.handle.seat in
    let told : c.from_residual-in_err-place.result ≡ Err fault.FullOfLines
    → HasNoRoomFor now.handle.map.chain.shape keys now.handle.seat after now.texts (line ∷ [])
    = first_of (search rules, grind (arith, common_steps)) in
    λ is. entering-stopped p c.args.hashing c.args.handle.now.seat now.handle.seat c.args.texts.now
    now.texts (lines_in c.args.block.now) (lines_in now.rest.now)
    (drop now.clue-index c.args.clues.now) now.places.items now.invariant.so_far line left after
    c.split_line.ensures.line
    (subst (λ (m : MapOf). HasNoRoomFor m.chain.shape keys now.handle.seat after now.texts (line ∷ []))
    now.invariant.kept.map (told is))

pub returns-in_err-places-clause-grown : goal.returns-in_err-places-clause-grown
returns-in_err-places-clause-grown g c =
    grown-none (lines_in c.args.block.now) c.args.texts.now c.args.texts.now refl

pub returns-clause-grown : goal.returns-clause-grown
returns-clause-grown g c =
    let now = c.loop-clue in
    entering-kept c.args.handle.now.map.chain.shape c.args.hashing c.args.handle.now.seat now.handle.seat
    c.args.texts.now now.texts (lines_in c.args.block.now) (lines_in now.rest.now)
    (drop now.clue-index c.args.clues.now) now.places.items now.invariant.so_far

pub returns-in_err-place-clause-grown : goal.returns-in_err-place-clause-grown
returns-in_err-place-clause-grown g c =
    let now = c.loop-clue in
    entering-grown c.args.handle.now.map.chain.shape c.args.hashing c.args.handle.now.seat
    now.handle.seat c.args.texts.now now.texts (lines_in c.args.block.now) (lines_in now.rest.now)
    (drop now.clue-index c.args.clues.now) now.places.items now.invariant.so_far
    c.split_line.result.0.now (lines_in c.split_line.result.1.now) c.enter_by.new.texts
    c.split_line.ensures.line c.enter_by.ensures.grown

pub returns-in_err-push-clause-grown : goal.returns-in_err-push-clause-grown
returns-in_err-push-clause-grown g c =
    let now = c.loop-clue in
    entering-grown c.args.handle.now.map.chain.shape c.args.hashing c.args.handle.now.seat
    now.handle.seat c.args.texts.now now.texts (lines_in c.args.block.now) (lines_in now.rest.now)
    (drop now.clue-index c.args.clues.now) now.places.items now.invariant.so_far
    c.split_line.result.0.now (lines_in c.split_line.result.1.now) c.enter_by.new.texts
    c.split_line.ensures.line c.enter_by.ensures.grown

pub returns-in_err-places-clause-index : goal.returns-in_err-places-clause-index
returns-in_err-places-clause-index g c =
    kept-none (key_for c.args.hashing) c.args.handle.now.map c.args.handle.now.seat c.args.texts.now
    c.known.ensures.own

pub returns-clause-index : goal.returns-clause-index
returns-clause-index g c =
    let now = c.loop-clue in
    kept-entered (key_for c.args.hashing) c.args.handle.now.map.chain.shape c.args.handle.now.seat
    now.handle.seat c.args.texts.now now.texts now.invariant.so_far.done now.invariant.so_far.entered

pub returns-in_err-place-clause-index : goal.returns-in_err-place-clause-index
returns-in_err-place-clause-index g c =
    let now = c.loop-clue in
    let keys = key_for c.args.hashing in
    kept-then keys c.args.handle.now.seat now.handle.seat c.enter_by.new.handle.seat c.args.texts.now
    now.texts c.enter_by.new.texts
    (kept-entered keys c.args.handle.now.map.chain.shape c.args.handle.now.seat now.handle.seat
    c.args.texts.now now.texts now.invariant.so_far.done now.invariant.so_far.entered)
    c.enter_by.ensures.index

pub returns-in_err-push-clause-index : goal.returns-in_err-push-clause-index
returns-in_err-push-clause-index g c =
    let now = c.loop-clue in
    let keys = key_for c.args.hashing in
    kept-then keys c.args.handle.now.seat now.handle.seat c.enter_by.new.handle.seat c.args.texts.now
    now.texts c.enter_by.new.texts
    (kept-entered keys c.args.handle.now.map.chain.shape c.args.handle.now.seat now.handle.seat
    c.args.texts.now now.texts now.invariant.so_far.done now.invariant.so_far.entered)
    c.enter_by.ensures.index

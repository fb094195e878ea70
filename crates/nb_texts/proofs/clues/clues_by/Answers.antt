use Rattle.std.proofs.Common.{◌≡◌, ◌∙◌, ◌+◌, [], ◌∷◌, ap, drop, map, sym}
use Rattle.std.specs.Prelude.{slice_index}
use Rattle.std.proofs.lemmas.List.{drop_all, drop_more}
use Rattle.nb_texts.specs.Hashes.{hash_of}
use Rattle.nb_texts.specs.Lines.{lines_in}
use Rattle.nb_texts.proofs.ClueLemmas.{clues-all, clues-begun, clues-more, hashed-next, hashed-none}
use Rattle.nb_texts.proofs.clues.clues_by.Goals as goal

pub loop-hash-init : goal.loop-hash-init
loop-hash-init c = record {
  so_far =
      clues-begun c.args.hashing c.args.texts.now (lines_in c.args.text.now) c.in_ok-clues.clues.items
      c.in_ok-clues.ensures.items;
  left = c.requires;
}

pub split_line-requires : goal.split_line-requires
split_line-requires c =
    let now = c.loop-hash in
    let hashes = c.args.hashes.now in
    record {
      some = λ none.
          let wrong : slice_index hashes now.hash-index ∷ drop (now.hash-index + 1) hashes ≡ []
          = sym (drop_more hashes now.hash-index 0 c.loop-hash-test.true) ∙ now.invariant.left
          ∙ ap (λ rest. map (hash_of c.args.hashing) (lines_in rest)) none in
          absurd cc;
    }

pub clue_by-requires : goal.clue_by-requires
clue_by-requires c =
    let now = c.loop-hash in
    let hashes = c.args.hashes.now in
    (hashed-next c.args.hashing (lines_in now.rest.now) c.split_line.result.0.now
    (lines_in c.split_line.result.1.now) (slice_index hashes now.hash-index)
    (drop (now.hash-index + 1) hashes) c.split_line.ensures.line
    (sym (drop_more hashes now.hash-index 0 c.loop-hash-test.true) ∙ now.invariant.left)).0

pub loop-hash-preserved : goal.loop-hash-preserved
loop-hash-preserved c =
    let now = c.loop-hash in
    let hashes = c.args.hashes.now in
    record {
      so_far =
          clues-more c.args.hashing c.args.texts.now (lines_in c.args.text.now) (lines_in now.rest.now)
          (lines_in c.split_line.result.1.now) now.clues.items c.push.new.self.items
          c.split_line.result.0.now c.clue_by.result now.invariant.so_far c.split_line.ensures.line
          c.in_ok-push.ensures.items c.clue_by.ensures;
      left =
          (hashed-next c.args.hashing (lines_in now.rest.now) c.split_line.result.0.now
          (lines_in c.split_line.result.1.now) (slice_index hashes now.hash-index)
          (drop (now.hash-index + 1) hashes) c.split_line.ensures.line
          (sym (drop_more hashes now.hash-index 0 c.loop-hash-test.true) ∙ now.invariant.left)).1;
    }

pub returns : goal.returns
returns c =
    let now = c.loop-hash in
    clues-all c.args.hashing c.args.texts.now (lines_in c.args.text.now) (lines_in now.rest.now)
    now.clues.items now.invariant.so_far
    (hashed-none c.args.hashing (lines_in now.rest.now)
    (sym (drop_all now.hash-index c.args.hashes.now c.loop-hash-test.false) ∙ now.invariant.left))

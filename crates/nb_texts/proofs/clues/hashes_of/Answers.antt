use Rattle.std.proofs.Common.{◌∙◌, ◌++◌, [], ◌∷◌, ap, append-nil, append_assoc, arith, map, sym}
use Rattle.std.proofs.lemmas.Bool.Decides.{nat_tests}
use Rattle.std.proofs.lemmas.List.{nil_from_length}
use Rattle.nb_texts.specs.Hashes.{hash_of}
use Rattle.nb_texts.specs.Lines.{lines_in}
use Rattle.nb_texts.proofs.clues.hashes_of.Goals as goal

pub loop-rest-init : goal.loop-rest-init
loop-rest-init c =
    ap (λ hashes. hashes ++ map (hash_of c.args.hashing) (lines_in c.args.text.now))
    (sym c.new-hashes.ensures.items)

pub loop-rest-preserved : goal.loop-rest-preserved
loop-rest-preserved c =
    let hash = hash_of c.args.hashing in
    let behind = map hash (lines_in c.split_line.result.1.now) in
    let now = c.loop-rest.hashes.items in
    c.loop-rest.invariant
    ∙ ap (λ lines. now ++ map hash lines) c.split_line.ensures.line
    ∙ ap (λ first. now ++ first ∷ behind) (sym c.hash_of.ensures)
    ∙ sym (append_assoc now (c.hash_of.result ∷ []) behind)
    ∙ ap (λ hashes. hashes ++ behind) (sym c.in_ok-push.ensures.items)

pub returns : goal.returns
returns c =
    let none = nil_from_length c.loop-rest.rest.now (grind (arith, nat_tests, c.is_empty.ensures, c.loop-rest-test.false)) in
    sym (c.loop-rest.invariant
    ∙ ap (λ rest. c.loop-rest.hashes.items ++ map (hash_of c.args.hashing) (lines_in rest)) none
    ∙ append-nil c.loop-rest.hashes.items)

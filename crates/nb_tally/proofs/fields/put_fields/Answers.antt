use Rattle.std.proofs.Common.{◌≡◌, ◌∙◌, ◌∷◌, [], ◌++◌, List, ℕ, ap, length, map, sym}
use Rattle.std.proofs.lemmas.Bool.{eqb-true}
use Rattle.std.proofs.lemmas.List.{nil_from_length}
use Rattle.nb_texts.specs.Lines.{lines_in, text_of_lines}
use Rattle.nb_tally.proofs.FieldsLemmas.{text-all, text-more}
use Rattle.nb_tally.specs.Fields.{field}
use Rattle.nb_tally.proofs.fields.put_fields.Goals as goal

pub loop-rest-preserved : goal.loop-rest-preserved
loop-rest-preserved c =
    let room = c.loop-rest.room.items in
    let of = field c.args.column in
    let line = c.split_line.result.0.now in
    let next = c.split_line.result.1.now in
    let more : c.push.new.self.items ≡ (room ++ of line) ++ 10 ∷ []
    = c.in_ok-push.ensures.items
    ∙ ap (λ (room : List ℕ). room ++ 10 ∷ [])
    (c.in_ok-extend_from_slice.ensures.items ∙ ap (λ (field : List ℕ). room ++ field) c.field_of.ensures) in
    text-more room c.push.new.self.items (of line) (map of (lines_in next)) more
    ∙ ap (λ (lines : List (List ℕ)). room ++ text_of_lines (map of lines)) (sym c.split_line.ensures.line)
    ∙ c.loop-rest.invariant

pub returns : goal.returns
returns c =
    let rest = c.loop-rest.rest.now in
    text-all c.args.column c.loop-rest.room.items rest c.args.block.now
    (nil_from_length rest (eqb-true (length rest) 0 (sym c.loop-rest-test.ensures))) c.loop-rest.invariant

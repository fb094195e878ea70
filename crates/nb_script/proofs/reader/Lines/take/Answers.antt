use Rattle.std.proofs.Common.{◌≡◌, ◌∙◌, ◌∷◌, ◌++◌, ℕ, ap, sym, rules}
use Rattle.std.proofs.lemmas.Result.{IfErr-weaker}
use Rattle.nb_script.specs.Script.{Bytes, lines_of}
use Rattle.nb_script.specs.Reading.{with_bytes, with_texts}
use Rattle.nb_script.specs.declared.reader.Lines.{Lines}
use Rattle.nb_script.proofs.Reading.{too_many, long_line, on_ok_both, first_along, lines_of-newline}
use Rattle.nb_script.proofs.reader.Lines.take.Goals as goal

pub returns-then-self-gt-LINES_MAX-clause-fault : goal.returns-then-self-gt-LINES_MAX-clause-fault
returns-then-self-gt-LINES_MAX-clause-fault c = λ more.
    too_many c.args.self.now.seats c.args.self.now.number c.args.self.now.partial.items c.args.byte
    more _ c.if-self-gt-LINES_MAX.true

-- a newline ends the line that has begun
ended :
    (l : Lines) (byte : ℕ) (more : Bytes) → byte ≡ 10
    → with_bytes l (byte ∷ more) ≡ with_texts l (l.partial.items ∷ lines_of more)
ended l byte more e = ap (with_texts l) (ap (λ b. lines_of (l.partial.items ++ b ∷ more)) e
    ∙ lines_of-newline l.partial.items more l.one_line)

pub returns-then-byte-eq10-clause-ok : goal.returns-then-byte-eq10-clause-ok
returns-then-byte-eq10-clause-ok c =
    on_ok_both c.end_line.result c.end_line.ensures.ok c.end_line.ensures.ended (λ same over more.
    ap (λ p. with_texts c.end_line.new.self (lines_of (p ++ more))) over.0 ∙ same (lines_of more)
    ∙ sym (ended c.args.self.now c.args.byte more c.if-byte-eq10.true))

pub returns-then-byte-eq10-clause-fault : goal.returns-then-byte-eq10-clause-fault
returns-then-byte-eq10-clause-fault c =
    IfErr-weaker c.end_line.result _ _ (λ fault first.
    first_along _ _ (λ more. lines_of more)
    (λ more. ended c.args.self.now c.args.byte more c.if-byte-eq10.true)
    fault first) c.end_line.ensures.fault

pub returns-then-is_full-clause-fault : goal.returns-then-is_full-clause-fault
returns-then-is_full-clause-fault c = λ more.
    long_line c.args.self.now.seats c.args.self.now.number c.args.self.now.partial.items c.args.byte
    more _
    (search rules) (search rules) c.args.self.now.one_line (search rules)

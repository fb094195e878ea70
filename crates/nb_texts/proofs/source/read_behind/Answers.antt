use Rattle.std.proofs.Common.{◌≡◌, ◌∙◌, ◌+◌, [], ◌∷◌, ◌++◌, ap, ap₂, append-nil, arith, drop, subst, sym, take}
use Rattle.std.proofs.lemmas.Bool.{eq-eqb, eqb-true}
use Rattle.std.proofs.lemmas.List.{length-take, take-append-drop, take_more, take_rest}
use Rattle.std.specs.Io.KnownBytes.{Consumes}
use Rattle.std.specs.Prelude.{slice_index}
use Rattle.nb_texts.proofs.SourceLemmas.{one-behind}
use Rattle.nb_texts.specs.Sources.{IsInOneLine}
use Rattle.nb_texts.proofs.source.read_behind.Goals as goal

pub returns-clause-taken : goal.returns-clause-taken
returns-clause-taken g c =
    let rem = g.I.Read.remaining in
    let bytes = take c.in-Some.count c.read_some.new.room in
    let last = c.in-Some-memrchr.last in
    let found = c.in-Some-memrchr.ensures in
    let block = c.args.block.now.items in
    let some = rw c.in-Some.is at c.in_ok-count.ensures.read in
    let front : c.extend_from_slice-2.new.self.items ≡ block ++ take (last + 1) bytes
    = c.in_ok-extend_from_slice-2.ensures.items in
    let behind : c.extend_from_slice-3.new.self.items ≡ drop (last + 1) bytes
    = c.in_ok-extend_from_slice-3.ensures.items
    ∙ ap₂ (λ rest bytes. rest ++ bytes) c.requires.none (take_rest bytes (last + 1)) in
    let newline : take (last + 1) bytes ≡ take last bytes ++ 10 ∷ []
    = take_more bytes last 0 found.0.high
    ∙ ap (λ byte. take last bytes ++ byte ∷ []) (eqb-true (slice_index bytes last) 10 found.1) in
    let whole : bytes ≡ take (last + 1) bytes ++ c.extend_from_slice-3.new.self.items
    = sym (take-append-drop (last + 1) bytes) ∙ ap (λ rest. take (last + 1) bytes ++ rest) (sym behind) in
    record {
      part = take (last + 1) bytes;
      took = subst (Consumes (rem c.args.reader.now) (rem c.read_some.new.reader)) whole some.1;
      kept = front;
      few =
          omega (
            arith,
            length-take (last + 1) bytes,
            length-take c.in-Some.count c.read_some.new.room,
            c.in_ok-count.ensures.room,
          );
      ends = (
        (take last bytes, newline),
        subst IsInOneLine (sym behind) (one-behind bytes (last + 1)
            (λ k low less is. found.0.after k low less (eq-eqb (slice_index bytes k) 10 is))),
      );
    }

pub returns-in_default-memrchr-clause-taken : goal.returns-in_default-memrchr-clause-taken
returns-in_default-memrchr-clause-taken g c =
    let bytes = take c.in-Some.count c.read_some.new.room in
    let some = rw c.in-Some.is at c.in_ok-count.ensures.read in
    let none = c.requires.none in
    let found = c.in_default-memrchr.ensures in
    record {
      part = bytes;
      took = rw (none, append-nil) some.1;
      kept = c.in_ok-extend_from_slice.ensures.items;
      few =
          omega (
            arith,
            length-take c.in-Some.count c.read_some.new.room,
            c.in_ok-count.ensures.room,
          );
      ends = (
        one-behind bytes 0 (λ k low less is. found k low less (eq-eqb (slice_index bytes k) 10 is)),
        none,
      );
    }

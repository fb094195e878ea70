use Rattle.std.proofs.Common.{◌≡◌, ◌++◌, ap, arith, rules}
use Rattle.std.proofs.lemmas.Bool.Decides.{nat_tests}
use Rattle.std.proofs.lemmas.List.{nil_from_length}
use Rattle.nb_texts.specs.Lines.{lines_in}
use Rattle.nb_texts.proofs.SourceLemmas.{cut-shorter}
use Rattle.nb_texts.proofs.ClueLemmas.{clues-all, clues-begun, clues-further, looked-more, looked-none}
use Rattle.nb_texts.proofs.clues.looked_up.Goals as goal

pub loop-rest-init : goal.loop-rest-init
loop-rest-init c = record {
  so_far =
      clues-begun c.args.hashing c.args.texts.now (lines_in c.args.text.now)
      c.new-clues.result.items c.new-clues.ensures.items;
  looked = looked-none c.args.reader.now c.known.ensures.own;
}

pub loop-rest-preserved : goal.loop-rest-preserved
loop-rest-preserved c =
    let pushed :
    c.extend_from_slice.new.self.items ≡ c.loop-rest.clues.items ++ c.in_ok-more.more.items =
    search rules in record {
      so_far =
          clues-further c.args.hashing c.args.texts.now (lines_in c.args.text.now)
          (lines_in c.loop-rest.rest.now) (lines_in c.split_text.result.0.now)
          (lines_in c.split_text.result.1.now) c.loop-rest.clues.items c.in_ok-more.more.items
          c.extend_from_slice.new.self.items c.loop-rest.invariant.so_far c.split_text.ensures.lines
          pushed c.in_ok-more.ensures;
      looked =
          looked-more c.args.reader.now c.loop-rest.reader c.found_at.new.reader
          c.loop-rest.invariant.looked c.found_at.ensures;
    }

pub returns-clause-clues : goal.returns-clause-clues
returns-clause-clues c =
    clues-all c.args.hashing c.args.texts.now (lines_in c.args.text.now)
    (lines_in c.loop-rest.rest.now) c.loop-rest.clues.items c.loop-rest.invariant.so_far
    (ap lines_in (nil_from_length c.loop-rest.rest.now (grind (arith, nat_tests, c.is_empty.ensures, c.loop-rest-test.false))))

pub loop-rest-smaller : goal.loop-rest-smaller
loop-rest-smaller c =
    cut-shorter _ c.loop-rest.rest.now c.split_text.result.0.now c.split_text.result.1.now
    c.split_text.ensures.cut (search rules)

pub returns-in_err-found-clause-looked : goal.returns-in_err-found-clause-looked
returns-in_err-found-clause-looked c =
    looked-more c.args.reader.now c.loop-rest.reader c.found_at.new.reader
    c.loop-rest.invariant.looked c.found_at.ensures

pub returns-in_err-more-clause-looked : goal.returns-in_err-more-clause-looked
returns-in_err-more-clause-looked c =
    looked-more c.args.reader.now c.loop-rest.reader c.found_at.new.reader
    c.loop-rest.invariant.looked c.found_at.ensures

pub returns-in_err-extend_from_slice-clause-looked :
    goal.returns-in_err-extend_from_slice-clause-looked
returns-in_err-extend_from_slice-clause-looked c =
    looked-more c.args.reader.now c.loop-rest.reader c.found_at.new.reader
    c.loop-rest.invariant.looked c.found_at.ensures

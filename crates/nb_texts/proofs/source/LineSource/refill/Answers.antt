use Rattle.std.proofs.Common.{◌≡◌, ◌∙◌, ap, arith, length, not, subst, sym}
use Rattle.std.proofs.lemmas.Bool.Decides.{nat_tests}
use Rattle.std.proofs.lemmas.List.{nil_from_length}
use Rattle.std.specs.Bool.{OnTrue}
use Rattle.nb_texts.proofs.SourceLemmas.{HasRead, cut-done, end-done, more-done, none-in-line, read-none}
use Rattle.nb_texts.specs.Sources.{HasTakenIn, IsBlock, IsInOneLine}
use Rattle.nb_texts.specs.declared.source.Turn.TheVariants.{Cut, Ended, More}
use Rattle.nb_texts.proofs.source.LineSource.refill.Goals as goal

pub loop-init : goal.loop-init
loop-init g c =
    let known = g.I.Read.remaining c.args.reader.now in
    let before = c.args.self.now.rest.items in
    let is = sym c.in_ok-begin_block.ensures.block in (
      c.in_ok-begin_block.ensures.rest,
      subst (HasRead known known before) is (read-none known before),
      subst IsInOneLine is c.requires.rest,
      ap (λ room. length room.items) c.begin_block.ensures.room,
    )

pub returns-in-Cut-clause-rest : goal.returns-in-Cut-clause-rest
returns-in-Cut-clause-rest g c =
    let rem = g.I.Read.remaining in
    let old = c.loop.self in
    let new = c.read_on.new.self in
    let on : HasTakenIn (length old.room.items) (rem c.loop.reader) (rem c.read_on.new.reader) old.block.items
    new.block.items new.rest.items Cut
    = subst (HasTakenIn (length old.room.items) (rem c.loop.reader) (rem c.read_on.new.reader) old.block.items
    new.block.items new.rest.items) c.in-Cut.is c.in_ok-read_on.ensures.taken in
    on.ends.1

pub returns-in-Cut-clause-cut : goal.returns-in-Cut-clause-cut
returns-in-Cut-clause-cut g c =
    let rem = g.I.Read.remaining in
    let now = c.loop in
    let ahead = length now.self.room.items in
    let old = now.self.block.items in
    let block = c.read_on.new.self.block.items in
    let rest = c.read_on.new.self.rest.items in
    let next = rem c.read_on.new.reader in
    let done = cut-done ahead (rem c.args.reader.now) (rem now.reader) next c.args.self.now.rest.items old
    block rest now.invariant.1 now.invariant.2
    (subst (HasTakenIn ahead (rem now.reader) next old block rest) c.in-Cut.is c.in_ok-read_on.ensures.taken) in
    done.0

pub returns-in-Cut-clause-block : goal.returns-in-Cut-clause-block
returns-in-Cut-clause-block g c =
    let rem = g.I.Read.remaining in
    let now = c.loop in
    let ahead = length now.self.room.items in
    let old = now.self.block.items in
    let block = c.read_on.new.self.block.items in
    let rest = c.read_on.new.self.rest.items in
    let next = rem c.read_on.new.reader in
    let done = cut-done ahead (rem c.args.reader.now) (rem now.reader) next c.args.self.now.rest.items old
    block rest now.invariant.1 now.invariant.2
    (subst (HasTakenIn ahead (rem now.reader) next old block rest) c.in-Cut.is c.in_ok-read_on.ensures.taken) in
    subst (λ ahead. IsBlock ahead block) now.invariant.3 done.1

pub returns-in-Ended-clause-rest : goal.returns-in-Ended-clause-rest
returns-in-Ended-clause-rest g c =
    let rem = g.I.Read.remaining in
    let old = c.loop.self in
    let new = c.read_on.new.self in
    let on : HasTakenIn (length old.room.items) (rem c.loop.reader) (rem c.read_on.new.reader) old.block.items
    new.block.items new.rest.items Ended
    = subst (HasTakenIn (length old.room.items) (rem c.loop.reader) (rem c.read_on.new.reader) old.block.items
    new.block.items new.rest.items) c.in-Ended.is c.in_ok-read_on.ensures.taken in
    none-in-line new.rest.items on.ends.1

pub returns-in-Ended-clause-cut : goal.returns-in-Ended-clause-cut
returns-in-Ended-clause-cut g c =
    let rem = g.I.Read.remaining in
    let now = c.loop in
    let ahead = length now.self.room.items in
    let old = now.self.block.items in
    let block = c.read_on.new.self.block.items in
    let rest = c.read_on.new.self.rest.items in
    let next = rem c.read_on.new.reader in
    let done = end-done (not c.is_empty.result) ahead (rem c.args.reader.now) (rem now.reader) next
    c.args.self.now.rest.items old block rest now.invariant.1 now.invariant.2
    (subst (HasTakenIn ahead (rem now.reader) next old block rest) c.in-Ended.is c.in_ok-read_on.ensures.taken)
    (λ no. nil_from_length block (grind (arith, nat_tests, no, c.is_empty.ensures, c.read_on.new.self.block.ok.0)))
    (λ some none. absurd (grind (arith, nat_tests, some, ap length none, c.is_empty.ensures, c.read_on.new.self.block.ok.0))) in
    done.0

pub returns-in-Ended-clause-block : goal.returns-in-Ended-clause-block
returns-in-Ended-clause-block g c =
    let rem = g.I.Read.remaining in
    let now = c.loop in
    let ahead = length now.self.room.items in
    let old = now.self.block.items in
    let block = c.read_on.new.self.block.items in
    let rest = c.read_on.new.self.rest.items in
    let next = rem c.read_on.new.reader in
    let done = end-done (not c.is_empty.result) ahead (rem c.args.reader.now) (rem now.reader) next
    c.args.self.now.rest.items old block rest now.invariant.1 now.invariant.2
    (subst (HasTakenIn ahead (rem now.reader) next old block rest) c.in-Ended.is c.in_ok-read_on.ensures.taken)
    (λ no. nil_from_length block (grind (arith, nat_tests, no, c.is_empty.ensures, c.read_on.new.self.block.ok.0)))
    (λ some none. absurd (grind (arith, nat_tests, some, ap length none, c.is_empty.ensures, c.read_on.new.self.block.ok.0))) in
    subst (λ ahead. OnTrue (not c.is_empty.result) (IsBlock ahead block)) now.invariant.3 done.1

pub loop-preserved : goal.loop-preserved
loop-preserved g c =
    let rem = g.I.Read.remaining in
    let now = c.loop in
    let ahead = length now.self.room.items in
    let old = now.self.block.items in
    let block = c.read_on.new.self.block.items in
    let rest = c.read_on.new.self.rest.items in
    let next = rem c.read_on.new.reader in
    let on : HasTakenIn ahead (rem now.reader) next old block rest More
    = subst (HasTakenIn ahead (rem now.reader) next old block rest) c.in-More.is
    c.in_ok-read_on.ensures.taken in
    let done = more-done ahead (rem c.args.reader.now) (rem now.reader) next c.args.self.now.rest.items old
    block rest now.invariant.1 now.invariant.2 on in
    (on.ends.1, done.0, done.1, c.read_on.ensures.room ∙ now.invariant.3)

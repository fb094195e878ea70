use Rattle.std.proofs.Common.{◌∙◌, [], Some, subst, sym}
use Rattle.std.proofs.lemmas.List.Elements.{All-pop}
use Rattle.nb_map.proofs.Entries.{again-read, entries_at_rest, have-none, read-mine, settled-read, walked-read}
use Rattle.nb_map.specs.Entries.{HaveOnlyRead}
use Rattle.nb_map.specs.Maps.{IsMine}
use Rattle.nb_map.specs.Settling.{HaveSettled}
use Rattle.nb_map.proofs.map.Map.entries.Goals as goal

pub returns-in_err-size-clause-read : goal.returns-in_err-size-clause-read
returns-in_err-size-clause-read c =
    subst (HaveOnlyRead c.args.self.now c.args.seats.now.items) (sym c.in_err-size.ensures.back)
    (have-none c.args.self.now c.args.seats.now.items c.requires.own)

pub returns-in_err-entries-clause-read : goal.returns-in_err-entries-clause-read
returns-in_err-entries-clause-read c =
    settled-read c.args.self.now c.args.seats.now.items c.settle.new.seats.items c.requires.own
    c.in_ok-size.ensures.settled

pub list-listed-requires-clause-own : goal.list-listed-requires-clause-own
list-listed-requires-clause-own c =
    (All-pop (IsMine c.args.self.now) c.settle.new.seats.items c.pop.new.self.items
    (Some c.in-Some.walker) c.in-Some.ensures.items c.settle.ensures.own).1

pub returns-in_err-listed-clause-read : goal.returns-in_err-listed-clause-read
returns-in_err-listed-clause-read c =
    let m = c.args.self.now in
    let first = subst (λ seats. HaveSettled m c.args.seats.now.items seats c.in_ok-size.size)
    c.in-Some.ensures.items c.in_ok-size.ensures.settled in
    subst (HaveOnlyRead m c.args.seats.now.items) (sym c.push_reserved.ensures.items)
    (walked-read m c.args.seats.now.items c.pop.new.self.items [] c.in-Some.walker
    c.list-listed.new.seat c.requires.own first c.list-listed.ensures.read)

pub returns-in_err-listed-clause-own : goal.returns-in_err-listed-clause-own
returns-in_err-listed-clause-own c =
    read-mine c.args.self.now c.args.seats.now.items c.push_reserved.new.self.items
    (returns-in_err-listed-clause-read c)

pub settle-requires-2 : goal.settle-requires-2
settle-requires-2 c =
    let m = c.args.self.now in
    let first = subst (λ seats. HaveSettled m c.args.seats.now.items seats c.in_ok-size.size)
    c.in-Some.ensures.items c.in_ok-size.ensures.settled in
    let read = subst (HaveOnlyRead m c.args.seats.now.items) (sym c.push_reserved.ensures.items)
    (walked-read m c.args.seats.now.items c.pop.new.self.items [] c.in-Some.walker
    c.list-listed.new.seat c.requires.own first c.list-listed.ensures.read) in
    record { own = read-mine m c.args.seats.now.items c.push_reserved.new.self.items read }

pub returns-in_default-settle-clause-read : goal.returns-in_default-settle-clause-read
returns-in_default-settle-clause-read c =
    let m = c.args.self.now in
    let first = subst (λ seats. HaveSettled m c.args.seats.now.items seats c.in_ok-size.size)
    c.in-Some.ensures.items c.in_ok-size.ensures.settled in
    subst (HaveOnlyRead m c.args.seats.now.items)
    (sym (c.in_default-settle.ensures.back ∙ c.push_reserved.ensures.items))
    (walked-read m c.args.seats.now.items c.pop.new.self.items [] c.in-Some.walker
    c.list-listed.new.seat c.requires.own first c.list-listed.ensures.read)

pub returns-clause-listed : goal.returns-clause-listed
returns-clause-listed c =
    let m = c.args.self.now in
    let first = subst (λ seats. HaveSettled m c.args.seats.now.items seats c.in_ok-size.size)
    c.in-Some.ensures.items c.in_ok-size.ensures.settled in
    let again = subst (λ seats. HaveSettled m seats c.settle-2.new.seats.items c.in-Ok.field-0)
    c.push_reserved.ensures.items c.in-Ok.ensures.settled in
    entries_at_rest m c.args.seats.now.items c.pop.new.self.items [] c.settle-2.new.seats.items
    c.in-Some.walker c.list-listed.new.seat c.in_ok-size.size c.in-Ok.field-0
    c.list-listed.new.entries.items first c.in_ok-listed.ensures.listed again

pub returns-clause-read : goal.returns-clause-read
returns-clause-read c =
    let m = c.args.self.now in
    let first = subst (λ seats. HaveSettled m c.args.seats.now.items seats c.in_ok-size.size)
    c.in-Some.ensures.items c.in_ok-size.ensures.settled in
    let again = subst (λ seats. HaveSettled m seats c.settle-2.new.seats.items c.in-Ok.field-0)
    c.push_reserved.ensures.items c.in-Ok.ensures.settled in
    again-read m c.args.seats.now.items _ c.settle-2.new.seats.items c.requires.own
    (walked-read m c.args.seats.now.items c.pop.new.self.items [] c.in-Some.walker
    c.list-listed.new.seat c.requires.own first c.list-listed.ensures.read)
    again

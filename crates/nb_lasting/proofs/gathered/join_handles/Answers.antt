use Rattle.std.proofs.Common.{◌≡◌, ◌∙◌, ◌∷◌, [], ap, arith, length, length-append, sym}
use Rattle.std.proofs.lemmas.List.{nil_from_length}
use Rattle.nb_lasting.proofs.Joined.{all-joined, few-joined, first-joined, first-out, never-both, one-joined, other-one}
use Rattle.nb_lasting.proofs.gathered.join_handles.Goals as goal

pub loop-other-init : goal.loop-other-init
loop-other-init c =
    let others = c.remove-whole.new.self.items in
    let are : c.args.handles.items ≡ c.remove-whole.result ∷ others =
    first-out c.args.handles.items c.remove-whole.result c.requires.single.some
    c.remove-whole.ensures.value
    ∙ ap (λ hs. c.remove-whole.result ∷ hs) (sym c.remove-whole.ensures.items) in (
      first-joined c.args.handles.items others c.reverse.new.self.items c.remove-whole.result
          c.requires.single are c.reverse.ensures.items,
      omega (arith, c.args.handles.ok, c.remove-whole.ensures.capacity, c.reverse.ensures.capacity),
    )

pub loop-other-preserved : goal.loop-other-preserved
loop-other-preserved c = (
  one-joined c.args.handles.items c.loop-other.others.items c.pop.new.self.items c.loop-other.whole
      c.in-Some.other c.requires.single c.loop-other.invariant.0 c.in-Some.ensures.items
      c.join.new.self c.in-Ok.ensures.same.0 c.in-Ok.ensures.same.1 c.in-Ok.ensures.joined,
  omega (arith, c.loop-other.invariant.1, c.in-Some.ensures.capacity),
)

pub join-requires : goal.join-requires
join-requires c = record {
  one = other-one c.args.handles.items c.loop-other.others.items c.pop.new.self.items c.loop-other.whole
      c.in-Some.other c.requires.single c.loop-other.invariant.0 c.in-Some.ensures.items;
}

pub unreachable-requires : goal.unreachable-requires
unreachable-requires c =
    never-both c.join.result c.in_default-join.field-0 c.in_default-join.is
    (c.join.ensures.few
    (few-joined c.args.handles.items c.loop-other.others.items c.pop.new.self.items
    c.loop-other.whole c.in-Some.other c.requires.single c.loop-other.invariant.0
    c.in-Some.ensures.items))

pub returns : goal.returns
returns c =
    let empty : c.pop.new.self.items ≡ [] =
    nil_from_length c.pop.new.self.items (omega (arith, c.pop.ensures, c.in_default.ensures)) in
    let none : c.loop-other.others.items ≡ [] =
    nil_from_length c.loop-other.others.items
    (omega (
      arith,
      ap length c.in_default.ensures.items,
      ap length empty,
      length-append c.pop.new.self.items [],
    )) in
    record {
      map = λ single. (c.loop-other.invariant.0.one single).0;
      seats = all-joined c.args.handles.items c.loop-other.others.items c.loop-other.whole
          c.loop-other.invariant.0 none;
      empty = empty;
      room = omega (arith, c.loop-other.invariant.1, c.in_default.ensures.capacity);
    }

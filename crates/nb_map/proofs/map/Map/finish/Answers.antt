use Rattle.std.proofs.Common.{◌∙◌, ap, length, refl, subst, sym}
use Rattle.std.proofs.lemmas.List.{length-map}
use Rattle.std.proofs.lemmas.List.Elements.{All-weaker}
use Rattle.nb_map.proofs.Paired.{own-chains, own-counts}
use Rattle.nb_map.proofs.Sizes.{AreGathered, ended-with, is-ended, seen}
use Rattle.nb_map.specs.inside.Models.{map_within}
use Rattle.nb_map.specs.Maps.{AreMine, HasCounted, IsMine}
use Rattle.nb_map.proofs.map.Map.finish.Goals as goal

pub close-requires : goal.close-requires
close-requires c =
    let mine = subst (λ m. AreMine m c.args.seats.items) (sym c.self.view_is) c.requires.own in
    record { own = own-chains (map_within c.self.inside) _ _ _ c.parted-chain_seats.ensures.parted mine }

pub close-requires-2 : goal.close-requires-2
close-requires-2 c =
    let mine = subst (λ m. AreMine m c.args.seats.items) (sym c.self.view_is) c.requires.own in
    record { own = own-counts (map_within c.self.inside) _ _ _ c.parted-chain_seats.ensures.parted mine }

-- what is known of the seats, once both are closed
gathered :
    (c : goal.In-Ok-Ok) → AreGathered c.args.self.chain.shape c.args.seats.items
    c.parted-chain_seats.result.0.items c.parted-chain_seats.result.1.items c.in-Ok-Ok.closed
gathered c = record {
  parted = c.parted-chain_seats.ensures.parted;
  shape = c.in-Ok-Ok.ensures.shape ∙ ap (λ m. m.chain.shape) c.self.view_is;
  closed_with = c.in-Ok-Ok.ensures.closed;
  all =
      sym (length-map c.args.seats.items (λ seat. seat.chain))
      ∙ ap length (sym c.parted-chain_seats.ensures.parted.of_chain)
      ∙ c.in-Ok-Ok.ensures.all.0 refl ∙ ap (λ m. m.chain.shape.seats) c.self.view_is;
  counted = All-weaker (IsMine c.args.self) HasCounted (λ seat mine. mine.counted)
      c.args.seats.items c.requires.own;
}

pub invariant_of-result : goal.invariant_of-result
invariant_of-result c = record {
  left = c.in-Ok-Ok.ensures.closed.left;
  size = is-ended _ _ _ _ _ (gathered c) c.in-Ok-Ok.size c.in-Ok-Ok.ensures'.sum;
}

pub returns-clause-ended : goal.returns-clause-ended
returns-clause-ended c =
    ended-with _ _ _ _ _ (gathered c.before) c.in-Ok-Ok.size c.in-Ok-Ok.ensures'.sum

pub returns-clause-tables : goal.returns-clause-tables
returns-clause-tables c = record {
  shape = (gathered c.before).shape;
  left =
      c.in-Ok-Ok.ensures.closed.left;
  seen = seen _ _ _ _ _ (gathered c.before);
}

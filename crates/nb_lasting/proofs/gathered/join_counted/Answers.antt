use Rattle.std.proofs.Common.{◌∙◌, ap, arith, length, refl, sym}
use Rattle.nb_map.specs.Maps.{MapOf}
use Rattle.nb_lasting.proofs.Refused.{counted-long}
use Rattle.nb_lasting.proofs.Renewed.{length-each}
use Rattle.nb_lasting.proofs.gathered.join_counted.Goals as goal

pub count_whole-size-requires : goal.count_whole-size-requires
count_whole-size-requires c = record {
  whole = ap length c.join_handles-whole.ensures.seats ∙ length-each c.args.handles.items
      ∙ c.requires.all c.requires.single
      ∙ ap (λ (m : MapOf). m.chain.shape.seats)
      (sym (c.join_handles-whole.ensures.map c.requires.single));
}

pub returns : goal.returns
returns c =
    let before = c.join_handles-whole.result.0 in
    let whole = c.count_whole-size.new.whole in
    let seats = ap length c.join_handles-whole.ensures.seats ∙ length-each c.args.handles.items in
    let long = counted-long c.count_whole-size.result before whole
    c.count_whole-size.ensures.settled c.count_whole-size.ensures.kept ∙ seats in
    record {
      counted = record {
        joined = before;
        whole = whole;
        one_map = c.join_handles-whole.ensures.map;
        seats = c.join_handles-whole.ensures.seats;
        parted = refl;
        same = c.count_whole-size.ensures.map;
        settled = c.count_whole-size.ensures.settled;
        kept = c.count_whole-size.ensures.kept;
      };
      whole = long ∙ c.requires.all c.requires.single
          ∙ ap (λ (m : MapOf). m.chain.shape.seats)
          (sym (c.count_whole-size.ensures.map ∙ c.join_handles-whole.ensures.map c.requires.single));
      empty = c.join_handles-whole.ensures.empty;
      room = omega (arith, long, c.join_handles-whole.ensures.room);
    }

-- What a look at how full the map is promises, as one at the set.
use Rattle.std.proofs.Common.{◌∙◌, ◌++◌, ap, sym}
use Rattle.std.proofs.lemmas.List.{append_assoc}
use Rattle.nb_map.specs.Fullness as of_map
use Rattle.nb_map.specs.declared.occupancy.Occupancy.{Occupancy}
use Rattle.nb_set.specs.Fullness.{HasSampled}
use Rattle.nb_set.specs.Sets.{SeatOf, SetOf}
use Rattle.nb_set.proofs.Logged.{logged-as}

pub sampled :
    {set : SetOf} {before after : SeatOf} {found : Occupancy}
    → of_map.HasSampled set.map before after found → HasSampled set before after found
sampled {before = before} looked = record {
  promised = looked;
  logged = logged-as looked.logged;
  later =
      let first = looked.top.grows in
      record {
        number = looked.grown.number ∙ first.number;
        seen = record {
          later = looked.grown.later ++ first.others;
          is = looked.grown.seen ∙ ap (λ h. looked.grown.later ++ h) first.seen
              ∙ sym (append_assoc looked.grown.later first.others before.chain.seen);
        };
      };
  own = looked.own;
}

-- The seats of a chain are dealt one after another.
use Rattle.std.proofs.Common.{◌≡◌, ◌∙◌, ℕ, ap, sym, refl, List, [], ◌∷◌, arith}
use Rattle.std.proofs.lemmas.List.Elements.{All-same}
use Rattle.atomic_table.specs.declared.shared.Seat.{Seat}
use Rattle.nb_core.proofs.Seating.{All-numbered}
use Rattle.nb_core.specs.Plans.{IsPlan}
use Rattle.nb_table.specs.Chains.{AreOwn, ChainOf, IsOwn, SeenBy, new_seat, new_seats}
use Rattle.nb_table.specs.Inside.{IsSeat, part_of, seat_of, seat_with}
use Rattle.nb_table.specs.Views.{first_part, new_part}
use Rattle.nb_table.specs.declared.chain.ChainSeat.TheInside as seat
use Rattle.nb_table.specs.declared.view.View.{View}

-- the seat that is dealt next
module _
    (token : Seat (Unit {0}) View) (rest : View) (number : ℕ)
    (me : token.me ≡ (first_part rest, []))
    (next : (first_part rest).parts ≡ new_part number ∷ []) where
  -- it remembers nothing
  abbrev dealt : seat.Inside
  dealt = record { seat = token; top = 0 }

  parts : token.me.0.parts ≡ new_part number ∷ []
  parts = ap (λ m. m.0.parts) me ∙ next

  pub dealt-is_seat : IsSeat dealt
  dealt-is_seat =
      record { one = parts ∙ ap (λ ps. part_of ps ∷ []) (sym parts); free = ap (λ m. m.1) me }

  pub dealt-seat_of : seat_of dealt ≡ new_seat token.table_id number
  dealt-seat_of = ap (λ ps. seat_with token.table_id 0 (part_of ps)) parts

-- the new seats of a chain are its own
pub dealt-own :
    (chain : ChainOf) → IsPlan chain.shape → (dealt : List SeenBy) (count : ℕ)
    → dealt ≡ new_seats chain.id count
    → AreOwn chain dealt
dealt-own chain plan dealt count are =
    All-same (IsOwn chain) dealt (new_seats chain.id count) are
    (All-numbered (IsOwn chain) (new_seat chain.id) 0 count
    (λ n low high. record { at = refl; plan = plan; legal = tt; known = omega arith }))

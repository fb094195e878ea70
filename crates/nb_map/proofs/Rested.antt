-- Steps of a seat without an event of its own.
use Rattle.std.proofs.Common.{◌≡◌, ◌≢◌, ℕ, ◌==◌, Bool, true, false, cond, List, [], ◌∷◌, refl, subst, sym, arith}
use Rattle.std.specs.List.{All}
use Rattle.std.proofs.lemmas.Bool.{eqb-false}
use Rattle.std.proofs.lemmas.List.Elements.{All-cons, All-nil}
use Rattle.nb_core.proofs.Theorems.{own_lasts}
use Rattle.nb_core.specs.History.{seat_of_event}
use Rattle.nb_core.specs.Plans.{Plan}
use Rattle.nb_core.specs.declared.calls.Call.{Call}
use Rattle.nb_core.specs.declared.calls.Call.TheVariants.{Get}
use Rattle.nb_core.specs.declared.events.Event.{Event}
use Rattle.nb_table.specs.Chains.{Grown, SeenBy, own_events}
use Rattle.nb_map.specs.Calling.{HasCountedTurned, HasMade, MayMake}
use Rattle.nb_map.specs.Logs.{HasLogged}
use Rattle.nb_map.specs.Maps.{IsMine, MapOf, SeatOf}
use Rattle.nb_map.proofs.Counted.{uncounted-mine}
use Rattle.nb_map.proofs.Logged.{logged}

-- where none of these events is the seat's, each is another's
others-all :
    (s : ℕ) (es : List Event) → own_events s es ≡ [] → All (λ e. seat_of_event e ≢ s) es
others-all s [] none = All-nil (λ e. seat_of_event e ≢ s)
others-all s (e ∷ es) none = of (seat_of_event e == s) refl none
    (others-all s es)
  where
    of : (b : Bool) → (seat_of_event e == s) ≡ b
        → cond b (e ∷ own_events s es) (own_events s es) ≡ []
        → (own_events s es ≡ [] → All (λ e. seat_of_event e ≢ s) es)
        → All (λ e. seat_of_event e ≢ s) (e ∷ es)
    of true mine none rest = absurd (let both : e ∷ own_events s es ≡ [] = none in cc)
    of false other none rest = All-cons (λ e. seat_of_event e ≢ s) e es
        (eqb-false (seat_of_event e) s other) (rest none)

-- so they are steps that any call may make
pub made-rested :
    {p : Plan} {before after : SeenBy} {count : ℕ} (call : Call) → Grown p before after [] count
    → HasMade p call before after [] count
made-rested {p} {before} {after} {count} call grown = record {
  own = [];
  count = count;
  grown = grown;
  calls = refl;
  may = All-nil (MayMake p before.seen after.seen call);
  counted = subst (HasCountedTurned p before.number before.seen) (sym grown.seen)
      (λ g. let still = own_lasts p grown.later before.seen before.number
      (others-all before.number grown.later grown.own_are) in
      omega (arith, still.counted g, still.turned g));
  few = omega arith;
}

pub logged-rested :
    {map : MapOf} {before after : SeatOf} {count : ℕ} → IsMine map before
    → Grown map.chain.shape before.chain after.chain [] count → HasLogged before after []
logged-rested mine grown = logged mine (made-rested (Get 0) grown)

pub mine-rested :
    {map : MapOf} {before after : SeatOf} {count : ℕ} → IsMine map before
    → Grown map.chain.shape before.chain after.chain [] count → after.count ≡ before.count
    → IsMine map after
mine-rested mine grown same = uncounted-mine mine (made-rested (Get 0) grown) same refl

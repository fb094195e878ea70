-- The tries that a call loses, and the exchanges that others won meanwhile.
use Rattle.std.proofs.Common.{◌≡◌, ◌∙◌, ℕ, ◌+◌, List, ◌++◌, length, Option, ap, false, refl, sym, subst, subst₂, arith}
use Rattle.nb_core.proofs.Theorems.{passed_over_adds}
use Rattle.nb_core.specs.Calls.{leaves_alone}
use Rattle.nb_core.specs.History.{key_of_call}
use Rattle.nb_core.specs.Meaning.{passed_over}
use Rattle.nb_core.specs.Plans.{Plan}
use Rattle.nb_core.specs.declared.calls.Call.{Call}
use Rattle.nb_core.specs.declared.events.Event.{Event}
use Rattle.nb_table.specs.Chains.{Grown, SeenBy}
use Rattle.nb_map.specs.Progress.{Limit, Tries, passed_since}
use Rattle.nb_map.specs.Refusals.{AreAllTries, IsJust}
use Rattle.nb_map.specs.declared.faults.PutFault.{PutFault}
use Rattle.nb_map.specs.declared.faults.PutFault.TheVariants.{Full, Contended, ValueRange}
use Rattle.nb_map.specs.inside.Climbing.{IsRefused, IsSpent, LeavesAllAlone}

-- ---- the exchanges that others won

-- up to a moment and since then
pub passed-sum :
    (call : Call) {p : Plan} {start mid after : SeenBy} {own own' : List Event} {count count' : ℕ}
    → Grown p start mid own count
    → Grown p mid after own' count' → passed_since call start mid + passed_since call mid after
    ≡ passed_since call start after
passed-sum call {p} {start} {mid} {after} a b =
    subst (λ s. passed_since call start mid + passed_over after.seen (length mid.seen)
    (key_of_call call) s ≡ passed_since call start after) (sym a.number)
    (omega (
      arith,
      at mid.seen after.seen a.later b.later a.seen b.seen (key_of_call call)
          start.number,
    ))
  where
    at : (m a later later' : List Event) → m ≡ later ++ start.seen → a ≡ later' ++ m → (k s : ℕ)
        → passed_over a (length start.seen) k s ≡ passed_over a (length m) k s
        + passed_over m (length start.seen) k s
    at m a later later' is is' k s =
        subst₂ (λ m a. passed_over a (length start.seen) k s ≡ passed_over a (length m) k s
        + passed_over m (length start.seen) k s) (sym is)
        (sym (is' ∙ ap (λ h. later' ++ h) is)) (passed_over_adds later' later start.seen k s)

-- ---- the tries of a call

-- it has lost none so far
pub spent-none : (call : Call) (before after : SeenBy) (tries : ℕ)
    → IsSpent call before after tries tries
spent-none call before after tries = record {
  fewer = omega arith;
  lost = omega arith;
  read = λ read. refl;
}

-- what was lost adds up
pub spent-more :
    {p : Plan} {call : Call} {start mid after : SeenBy} {own own' : List Event} {count count' : ℕ}
    {tries left left' : ℕ}
    → Grown p start mid own count → Grown p mid after own' count'
    → IsSpent call start mid tries left → IsSpent call mid after left left'
    → IsSpent call start after tries left'
spent-more {call = call} a b first then = record {
  fewer = omega (arith, first.fewer, then.fewer);
  lost = omega (arith, first.lost, then.lost, passed-sum call a b);
  read = λ read. then.read read ∙ first.read read;
}

-- more steps, in which it lost none
pub spent-later :
    {p : Plan} {call : Call} {start mid after : SeenBy} {own own' : List Event} {count count' : ℕ}
    {tries left : ℕ}
    → IsSpent call start mid tries left → Grown p start mid own count → Grown p mid after own' count'
    → IsSpent call start after tries left
spent-later {call = call} {mid = mid} {after} {left = left} spent a b =
    spent-more a b spent (spent-none call mid after left)

-- and steps before, in which it lost none
pub spent-sooner :
    {p : Plan} {call : Call} {start mid after : SeenBy} {own own' : List Event} {count count' : ℕ}
    {tries left : ℕ}
    → Grown p start mid own count → Grown p mid after own' count'
    → IsSpent call mid after tries left → IsSpent call start after tries left
spent-sooner {call = call} {start} {mid} {tries = tries} a b spent =
    spent-more a b (spent-none call start mid tries) spent

-- ---- refusals

-- a refusal that is just for the tries that were left is so for all
pub just-longer :
    (p : Plan) (call : Call) {start mid after : SeenBy} {own own' : List Event} {count count' : ℕ}
    (limit left : Limit) → Grown p start mid own count → Grown p mid after own' count'
    → (AreAllTries left (passed_since call mid after)
    → AreAllTries limit (passed_since call start mid + passed_since call mid after))
    → (fault : PutFault) → IsJust p call mid after left fault → IsJust p call start after limit fault
just-longer p call limit left a b all Full just = just
just-longer p call limit left a b all Contended just =
    subst (AreAllTries limit) (passed-sum call a b) (all just)
just-longer p call limit left a b all ValueRange just = just

pub refused-longer :
    {p : Plan} {call : Call} {start mid after : SeenBy} {own own' : List Event} {count count' : ℕ}
    {tries left : ℕ} → Grown p start mid own count → Grown p mid after own' count'
    → IsSpent call start mid tries left → (fault : PutFault)
    → IsRefused p call mid after left fault → IsRefused p call start after tries fault
refused-longer {p} {call} {tries = tries} {left} a b spent fault refused = (
  just-longer p call (Tries tries) (Tries left) a b (λ all. omega (arith, spent.lost, all))
      fault refused.0,
  refused.1,
)

-- a call that acts is no read
pub no-read :
    (call : Call) (number : Option ℕ) → leaves_alone call number ≡ false → LeavesAllAlone call → ⊥
no-read call number acts read =
    let alone = read number in
    cc

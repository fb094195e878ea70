-- What a call may reply where it wins an exchange, or leaves the map alone.
use Rattle.std.proofs.Common.{◌≡◌, ◌≢◌, ◌∙◌, ℕ, ◌≤◌, ap, sym, subst, refl, inl, inr, Bool, true, false, cond, Option, Some, None, MatchOption}
use Rattle.std.proofs.lemmas.Bool.{cond-false, le-ltb}
use Rattle.std.specs.FinMap.{get}
use Rattle.nb_core.specs.Calls.{is_past_max, leaves_alone, overflows}
use Rattle.nb_core.specs.Log.{Numbers, changed, holds_of, map_after, reply_at, reply_of}
use Rattle.nb_core.specs.History.{IsExchange, number_in_value, key_of_call, map_of}
use Rattle.nb_core.specs.Laws.{ReadReplies, WinReplies}
use Rattle.nb_core.proofs.Keys.{map_in_range}
use Rattle.nb_core.proofs.Computed.{alone-why, map_after-left}
use Rattle.nb_core.proofs.Shown.{win_number}
use Rattle.nb_core.specs.declared.numbers.TheConstants.{VALUE_MAX}
use Rattle.nb_core.specs.declared.calls.Call.{Call}
use Rattle.nb_core.specs.declared.calls.Call.TheVariants as call
use Rattle.nb_core.specs.declared.states.ValueState.{ValueState}
use Rattle.nb_core.specs.declared.states.ValueState.TheVariants.{Tombstone, Live}

-- ---- a call that wins

-- an exchange puts no number past the greatest one
put-fits :
    (o : Option ℕ) (a b : ValueState)
    → MatchOption o ((b ≡ Tombstone) × ((n : ℕ) × (a ≡ Live n)))
    (λ n. (b ≡ Live n) × (b ≢ a) × (n ≤ VALUE_MAX)) → is_past_max o ≡ false
put-fits None a b exchange = refl
put-fits (Some n) a b exchange = le-ltb VALUE_MAX n exchange.2

-- the condition of an exchange held, and it doesn't overflow
exchange-replies :
    (c : Call) (k : ℕ) (a b : ValueState) (m : Numbers) → get m (key_of_call c) ≡ number_in_value a
    → IsExchange c k a b
    → (record { before = number_in_value a; matched = true } ≡ reply_of c m)
    × (overflows c m ≡ false)
exchange-replies (call.Get key) k a b m at exchange = absurd exchange
exchange-replies (call.Write key want change) k a b m at exchange =
    let holds : holds_of want (get m key) ≡ true = ap (holds_of want) at ∙ exchange.1 in (
      λ i. record { before = sym at i; matched = sym holds i },
      rw (holds, at) (put-fits (changed change (number_in_value a)) a b exchange.2),
    )

pub win_replies : WinReplies
win_replies p plan h legal s g i a b c slot may =
    exchange-replies c may.key a b (map_of h) (win_number p plan h legal g i a b c slot may)
    may.exchange

-- ---- a call that leaves the map alone

-- if the map has a number here, it isn't past the greatest one
abbrev FitsIfSome : Option ℕ → Type 0
FitsIfSome number = (n : ℕ) → number ≡ Some n → n ≤ VALUE_MAX

-- and then it passes the test
is_past_max-fits : (number : Option ℕ) → FitsIfSome number → is_past_max number ≡ false
is_past_max-fits None fits = refl
is_past_max-fits (Some n) fits = le-ltb VALUE_MAX n (fits n refl)

-- a reply that says what the map has at the call's key is the map's
reply_at-map : (c : Call) (m : Numbers) → reply_at c (get m (key_of_call c)) ≡ reply_of c m
reply_at-map (call.Get k) m = refl
reply_at-map (call.Write k want change) m = refl

-- a call that leaves its key's number alone doesn't overflow,
overflows-left :
    (c : Call) (m : Numbers) → let number = get m (key_of_call c) in FitsIfSome number
    → leaves_alone c number ≡ true → overflows c m ≡ false
overflows-left (call.Get k) m fits alone = refl
overflows-left (call.Write k want change) m fits alone =
    let number = get m k in
    let past = λ (b : Bool). cond b (is_past_max (changed change number)) false in
    elim (alone-why k want change number alone) as (λ why. past (holds_of want number) ≡ false) [
      | inl fails ↦ cond-false _ _ _ fails
      | inr same ↦ elim (holds_of want number) as (λ b. past b ≡ false) [
        | true ↦ ap is_past_max same ∙ is_past_max-fits number fits
        | false ↦ refl
      ]
    ]

-- and may reply it
read-replies :
    (c : Call) (m : Numbers) (number : Option ℕ) → get m (key_of_call c) ≡ number
    → FitsIfSome number → leaves_alone c number ≡ true
    → (reply_at c number ≡ reply_of c m) × (overflows c m ≡ false) × (map_after c m ≡ m)
read-replies c m number at fits alone =
    let alone_here = ap (leaves_alone c) at ∙ alone in (
      ap (reply_at c) (sym at) ∙ reply_at-map c m,
      overflows-left c m (subst FitsIfSome (sym at) fits) alone_here,
      map_after-left c m alone_here,
    )

pub read_replies : ReadReplies
read_replies p plan h legal s c number at alone =
    read-replies c (map_of h) number at (λ n some.
    (map_in_range p plan h legal (key_of_call c) n (at ∙ some)).1) alone

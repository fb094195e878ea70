-- How a write goes on with all handles.
use Rattle.std.proofs.Common.{◌≡◌, ◌≢◌, ◌∙◌, ◌<◌, ℕ, List, ap, arith, inl, inr, refl, slice_get, subst, sym}
use Rattle.std.specs.Prelude.{Err, None, Ok, OnErr, OnOk, Option, Result, ⊤}
use Rattle.atomic_table.specs.Table.{Me}
use Rattle.nb_core.specs.declared.calls.Call.{Call}
use Rattle.nb_core.specs.declared.calls.Reply.{Reply}
use Rattle.nb_map.specs.Handles.{HandleOf}
use Rattle.nb_map.specs.declared.faults.PutFault.TheVariants as put_fault
use Rattle.nb_map.specs.declared.faults.PutFault.{PutFault}
use Rattle.nb_lasting.proofs.Dealt.{there_is}
use Rattle.nb_lasting.proofs.Renewed.{all-from}
use Rattle.nb_lasting.proofs.Written.{same-in, set-at}
use Rattle.nb_lasting.specs.Gathered.{HasWrittenBy}
use Rattle.nb_lasting.specs.Holding.{HasTriedOnAs, tried_of}
use Rattle.nb_lasting.specs.Renewal.{AreAllHome, AreHomeStill, HoldsBelow, IsHomeSeen}
use Rattle.nb_lasting.specs.Tries.{Again, Anew, Done, HasTriedWithAll, NoRoom, WithAll}
use Rattle.nb_lasting.specs.Visits.{AreBack, AreBackSeen, AreBackStill, HasGoneRound, HasMadeMapAnew, HasTakenAll, SharedOf, gave, took_all}
use Rattle.nb_lasting.specs.declared.faults.GrowFault.{GrowFault}
use Rattle.nb_lasting.specs.declared.faults.WriteFault.{WriteFault}
use Rattle.nb_lasting.specs.declared.shared.Account.{Account}
use Rattle.nb_lasting.specs.declared.shared.LaneView.{LaneView}

-- all handles are taken
pub taken-all :
    (of : SharedOf) (before : Account) (me : Me (Option HandleOf) LaneView)
    (handles : List HandleOf) → HoldsBelow of.guests me handles
    → me.0.account ≡ took_all handles before → HasTakenAll of handles before me.0.account
taken-all of before me handles holds account = record {
  count = holds.held.count;
  numbered = λ i h at. (holds.held.each i h at).0.number;
  account = account;
}

-- ---- where they are when they are home again, in words of those that were taken

pub back-seen :
    (lane n : ℕ) (me : Me (Option HandleOf) LaneView) (handles : List HandleOf) (after : Account)
    → lane < n → HoldsBelow n me handles → IsHomeSeen lane me.0.map me.0.account after
    → AreBackSeen lane handles me.0.account after
back-seen lane n me handles after below holds seen =
    let own = there_is handles lane (omega (arith, below, holds.held.count)) in
    record {
      there = own.0;
      back = seen.back;
      own = own.1;
      same = seen.map ∙ sym (holds.held.each lane own.0 own.1).0.map;
      number = seen.number;
      account = seen.account;
    }

pub home-still :
    (lane n : ℕ) (me : Me (Option HandleOf) LaneView) (handles : List HandleOf) (after : Account)
    → lane < n → HoldsBelow n me handles → AreHomeStill lane me.0.map me.0.account after
    → AreBackStill lane handles me.0.account after
home-still lane n me handles after below holds (inl same) = inl same
home-still lane n me handles after below holds (inr (inl seen)) =
    inr (inl (back-seen lane n me handles after below holds seen))
home-still lane n me handles after below holds (inr (inr begun)) =
    inr (inr (record {
      first = begun.first;
      same = all-from (λ (h : HandleOf). h.map ≡ begun.first.map) handles
          (λ i h at. (holds.held.each i h at).0.map ∙ sym begun.map);
      account = begun.account;
    }))

pub back-by :
    (result : Result ⊤ GrowFault) (of : SharedOf) (lane n : ℕ)
    (me : Me (Option HandleOf) LaneView) (handles : List HandleOf) (after : Account) → lane < n
    → HoldsBelow n me handles → OnOk result (HasMadeMapAnew of me.0.account after)
    → OnErr result (AreHomeStill lane me.0.map me.0.account after)
    → AreBack of lane handles me.0.account after
back-by (Ok done) of lane n me handles after below holds made still = inr made
back-by (Err fault) of lane n me handles after below holds made still =
    inl (home-still lane n me handles after below holds still)

module _ (call : Call) (lane : ℕ) (of : SharedOf) (before : Account) where
  -- it is refused
  pub goes-refused :
      (after : Account) (result : Result (Option Reply) WriteFault) (fault : WriteFault)
      → result ≡ Err fault → HasGoneRound of (AreBackStill lane) before after
      → HasTriedOnAs call lane of before after result
  goes-refused after result fault is round =
      subst (HasTriedOnAs call lane of before after) (sym is) (NoRoom round)

  module _ (handles : List HandleOf) (then : Account)
      (taken : HasTakenAll of handles before then) where
    -- the map is made anew
    pub goes-anew : (after : Account) → HasMadeMapAnew of then after
        → HasTriedOnAs call lane of before after (Ok None)
    goes-anew after anew = λ outcome next last made try on.
        Anew (record { handles = handles; then = then; taken = taken; anew = anew }) try on

    -- it wrote by its own handle
    pub goes-with-all :
        (more : List HandleOf) (after : Account) (reply : Result Reply PutFault)
        → HasWrittenBy lane call handles more reply → AreAllHome lane more then after
        → reply ≢ Err put_fault.Full
        → HasTriedOnAs call lane of before after (tried_of reply)
    goes-with-all more after reply wrote home room = by reply with-all room
      where
        back : home.0 ≡ wrote.new
        back =
            sym (same-in wrote.new home.0
            (sym (set-at handles lane wrote.new wrote.old wrote.was)
            ∙ ap (λ l. slice_get l lane) (sym wrote.is) ∙ home.1))

        with-all : HasTriedWithAll call lane of before after reply
        with-all = record {
          handles = handles;
          then = then;
          taken = taken;
          there = wrote.old;
          back = wrote.new;
          own = wrote.was;
          account = home.2 ∙ ap (λ h. gave h then) back;
          done = wrote.wrote;
        }

        by :
            (reply : Result Reply PutFault) → HasTriedWithAll call lane of before after reply
            → reply ≢ Err put_fault.Full
            → HasTriedOnAs call lane of before after (tried_of reply)
        by (Ok reply) tried room = WithAll tried room (Done (λ none. none))
        by (Err put_fault.ValueRange) tried room = WithAll tried room (Done (λ none. none))
        by (Err put_fault.Full) tried room = absurd (room refl)
        by (Err put_fault.Contended) tried room = λ outcome next last made try on.
            WithAll tried room (Again try on)

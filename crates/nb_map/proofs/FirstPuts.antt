-- A put at a key that never had a number, on a map.
use Rattle.std.proofs.Common.{◌≡◌, ◌∙◌, ℕ, ◌+◌, ◌≤◌, ◌<◌, ℤ, pos, List, [], ◌∷◌, Option, Some, None, Result, Ok, Err, ap, inl, inr, refl, subst, sym, arith}
use Rattle.nb_core.specs.Log.{Entry, IsBeginning, log_of, reply_at}
use Rattle.nb_core.specs.Meaning.{net_of_call}
use Rattle.nb_core.specs.declared.calls.Call.TheVariants.{Get}
use Rattle.nb_map.proofs.Counted.{counted-mine, uncounted-mine}
use Rattle.nb_map.proofs.Logged.{logged, logged-then, worked-uncounted}
use Rattle.nb_map.proofs.Made.{begins-more, made-more, made-within}
use Rattle.nb_map.proofs.Updated.{made-as, made-logged}
use Rattle.nb_map.specs.Calling.{HasMade}
use Rattle.nb_map.specs.FirstPut.{HasAnsweredFirst, HasHad, HasPutIfNew}
use Rattle.nb_map.specs.Logs.{HasReplied, log}
use Rattle.nb_map.specs.Maps.{HasWorked, IsMine, MapOf, SeatOf, accounted}
use Rattle.nb_map.specs.NamedCalls.{put_if_absent_of}
use Rattle.nb_map.specs.Promises.{HasGot}
use Rattle.nb_map.specs.Steps.{first_put_steps, search_steps}
use Rattle.nb_map.specs.declared.faults.Full.{Full}
use Rattle.nb_map.specs.declared.map.first.FirstPut.TheVariants as put
use Rattle.nb_map.specs.declared.steps.first.First.{First}
use Rattle.nb_map.specs.declared.steps.first.First.TheVariants as first
use Rattle.nb_map.specs.inside.Firsts.{IsFirst, first_made, number_now}

module _ {map : MapOf} {key number : ℕ} {before after : SeatOf} (mine : IsMine map before) where
  -- it is made, and counted
  pub put-first :
      HasMade map.chain.shape (put_if_absent_of key number) before.chain after.chain
      (first_made key number first.Put) (4 + search_steps map.chain.shape 0)
      → IsFirst map.chain.shape key number before.chain after.chain first.Put
      → after.count ≡ accounted (pos 1) before.count
      → HasPutIfNew map key number before after (Ok put.Put)
  put-first made first counted = record {
    answered = record {
      replied = logged mine made;
      earlier = first.0;
      last = first.1;
      never = first.2;
    };
    worked = record {
      steps = (_, made-within _ _ (omega arith) made);
      net = pos 1;
      count = counted;
    };
    own = counted-mine (reply_at (put_if_absent_of key number) None) mine made counted;
  }

  -- it found a number and left it there
  pub put-found :
      (n : ℕ)
      → HasMade map.chain.shape (put_if_absent_of key number) before.chain after.chain
      (first_made key number (first.Found n)) (4 + search_steps map.chain.shape 0)
      → IsFirst map.chain.shape key number before.chain after.chain (first.Found n)
      → after.count ≡ before.count
      → HasPutIfNew map key number before after (Ok (put.Found n))
  put-found n made had same = record {
    answered = (had, inr (logged mine made));
    worked = worked-uncounted (made-within _ _ (omega arith) made) same;
    own = uncounted-mine mine made same refl;
  }

  -- it is refused
  pub put-full :
      (full : Full)
      → HasMade map.chain.shape (put_if_absent_of key number) before.chain after.chain
      (first_made key number first.Full) (4 + search_steps map.chain.shape 0)
      → IsFirst map.chain.shape key number before.chain after.chain first.Full
      → before.chain.steps < after.chain.steps → after.count ≡ before.count
      → HasPutIfNew map key number before after (Err full)
  put-full full made just looked same = record {
    answered = record { unmade = logged mine made; just = just; looked = looked };
    worked = worked-uncounted (made-within _ _ (omega arith) made) same;
    own = uncounted-mine mine made same refl;
  }

-- the map had a number at the key, so it had also by a longer log
had-longer :
    {first whole : List Entry} {key : ℕ} → IsBeginning first whole → HasHad first key
    → HasHad whole key
had-longer begun had = record {
  earlier = had.earlier;
  begun = begins-more had.begun begun;
  number = had.number;
  had = had.had;
}

-- it found that the key has had a number, and a read tells what it has now
pub looked-again :
    {map : MapOf} {key number : ℕ} {before then after : SeatOf} (mine : IsMine map before)
    (found : Option ℕ)
    → HasMade map.chain.shape (put_if_absent_of key number) before.chain then.chain
    (first_made key number first.Had) (4 + search_steps map.chain.shape 0)
    → IsFirst map.chain.shape key number before.chain then.chain first.Had
    → then.count ≡ before.count → HasGot map key then after found
    → HasPutIfNew map key number before after (Ok (number_now found))
looked-again {map} {key} {number} {before} {then} {after} mine found made had same got = record {
  answered = answer found replied;
  worked = record {
    steps = (
      _,
      made-more map.chain mine.chain made
          (made-as (put_if_absent_of key number) refl (λ fills. absurd cc)
          (made-logged got.worked.steps.1 got.replied)),
    );
    net = got.worked.net;
    count = got.worked.count ∙ ap (accounted got.worked.net) same;
  };
  own = got.own;
}
  where
    replied : HasReplied (Get key) before after (reply_at (Get key) found)
    replied = logged-then (logged mine made) got.replied

    had-now : HasHad (log after) key
    had-now =
        had-longer (record { later = got.replied.later; is = got.replied.grown }) had

    answer :
        (found : Option ℕ) → HasReplied (Get key) before after (reply_at (Get key) found)
        → HasAnsweredFirst map key number before after (Ok (number_now found))
    answer (Some n) replied = (had-now, inl replied)
    answer None replied = (had-now, replied)

-- The log of a legal history is replayed, and leaves the history's map; and the calls of a log that
-- goes on.
use Rattle.std.proofs.Common.{◌≡◌, ◌∙◌, ◌<◌, ◌==◌, Bool, true, false, cond, List, [], ◌∷◌, ◌++◌, ap, sym, subst, refl}
use Rattle.std.specs.List.{All}
use Rattle.std.proofs.lemmas.List.Elements.{All-cons, All-nil}
use Rattle.nb_core.specs.History.{map_of}
use Rattle.nb_core.specs.Laws.{CallsAppend, HasLog, LogIsReplayed}
use Rattle.nb_core.specs.Log.{Entry, IsReplayed, calls_of, log_of, map_after, map_of_log, reply_of}
use Rattle.nb_core.specs.Plans.{Plan}
use Rattle.nb_core.proofs.Net.{after_win-call}
use Rattle.nb_core.proofs.Shown.{win_number}
use Rattle.nb_core.specs.declared.calls.Call.{Call}
use Rattle.nb_core.specs.declared.calls.Reply.{Reply}
use Rattle.nb_core.specs.declared.events.Event.{Event}
use Rattle.nb_core.specs.declared.events.Event.TheVariants.{Won, Read}

-- where the event is a call's, which left the map and replied as the plain one does
more :
    (p : Plan) (e : Event) (h : List Event) (entry : Entry) → log_of (e ∷ h) ≡ entry ∷ log_of h
    → entry.seat < p.seats
    → map_of (e ∷ h) ≡ map_after entry.call (map_of h)
    → entry.reply ≡ reply_of entry.call (map_of h) → HasLog p h → HasLog p (e ∷ h)
more p e h entry log within map reply before =
    record {
      replayed = subst IsReplayed (sym log) (
        reply ∙ ap (reply_of entry.call) (sym before.map),
        before.replayed,
      );
      map = ap map_of_log log ∙ ap (map_after entry.call) before.map ∙ sym map;
      seats = subst (All (λ entry. entry.seat < p.seats)) (sym log)
          (All-cons (λ entry. entry.seat < p.seats) entry (log_of h) within before.seats);
    }

pub log_is_replayed : LogIsReplayed
log_is_replayed p plan [] legal = record {
  replayed = tt;
  map = refl;
  seats =
      All-nil (λ entry. entry.seat < p.seats);
}
log_is_replayed p plan (Won s g i a b c r ∷ h) legal =
    let number = win_number p plan h legal.0 g i a b c legal.1.1 legal.2 in
    let map = after_win-call (map_of h) c legal.2.key a b number legal.2.exchange in
    more p (Won s g i a b c r) h (record { seat = s; call = c; reply = r })
    refl legal.1.0 map legal.3.0 (log_is_replayed p plan h legal.0)
log_is_replayed p plan (Read s c r ∷ h) legal =
    more p (Read s c r) h (record { seat = s; call = c; reply = r }) refl legal.1.0 (sym legal.3.2)
    legal.3.0 (log_is_replayed p plan h legal.0)
log_is_replayed p plan (e ∷ h) legal =
    let before = log_is_replayed p plan h legal.0 in
    record { replayed = before.replayed; map = before.map; seats = before.seats }

pub calls_append : CallsAppend
calls_append s [] log = refl
calls_append s (entry ∷ later) log =
    ap (λ calls. cond (entry.seat == s) ((entry.call, entry.reply) ∷ calls) calls)
    (calls_append s later log)
    ∙ one (entry.seat == s) (entry.call, entry.reply) (calls_of s later) (calls_of s log)
  where
    one : (b : Bool) (c : Call × Reply) (made more : List (Call × Reply))
        → cond b (c ∷ made ++ more) (made ++ more) ≡ cond b (c ∷ made) made ++ more
    one true c made more = refl
    one false c made more = refl

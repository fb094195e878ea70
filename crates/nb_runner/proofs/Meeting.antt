-- Workers whose seats meet.
use Rattle.std.proofs.Common.{◌≡◌, ◌∙◌, ◌<◌, ◌+◌, ℕ, List, [], ◌∷◌, ◌++◌, arith, drop, get_or, length, set, take, ap, refl, subst, sym}
use Rattle.std.proofs.lemmas.List.{drop_more, drop-set-lt, map-append, map_more, take_more_set, with_items_is}
use Rattle.std.proofs.lemmas.List.Elements.{All-append, All-cons, All-head, All-nil, All-push, All-tail, All-weaker, all_zip_more, length_all_zip}
use Rattle.std.specs.List.{All, AllZip}
use Rattle.std.specs.Vec.{with_items}
use Rattle.std.specs.declared.alloc.Global.{Global}
use Rattle.std.specs.declared.vec.Vec.{Vec}
use Rattle.nb_map.proofs.Theorems.{logs_add_up}
use Rattle.nb_map.specs.Logs.{HasLogged}
use Rattle.nb_map.specs.Maps.{IsMine, MapOf, SeatOf}
use Rattle.nb_table.specs.Chains.{Extended}
use Rattle.nb_table.proofs.Theorems.{steps_add_up}
use Rattle.nb_core.specs.Log.{IsBeginning}
use Rattle.nb_core.specs.declared.events.Event.{Event}
use Rattle.nb_runner.specs.Working.{HasMetAll, HasMetAs, worker_seats}
use Rattle.nb_runner.specs.declared.workers.Worker.{Worker}
use Rattle.nb_runner.proofs.CallLemmas.{IsHeardBy, beginning-grown, beginning-more}
use Rattle.nb_runner.proofs.Together.{all-zip-push, all-zip-then}

-- what a seat has of a meeting with another one
abbrev pub Meets : MapOf → (other before after : SeatOf) → Type 0
Meets m other before after =
    HasLogged before after [] × IsBeginning other.chain.seen after.chain.seen
    × Extended m.chain.shape before.chain after.chain [] 1 × (after.count ≡ before.count)

-- who has seen more has heard of the same seats
later-heard :
    (h h' : List Event) → IsBeginning h h' → (seats : List SeatOf) → All (IsHeardBy h) seats
    → All (IsHeardBy h') seats
later-heard h h' begun = All-weaker (IsHeardBy h) (IsHeardBy h') (λ seat b. beginning-more b begun)

-- lists with the same rest have the same element in front of it, and the same rest behind that
pub same-at :
    {A : Type 0} (xs ys : List A) (i : ℕ) (d : A) → i < length xs → i < length ys
    → drop i ys ≡ drop i xs → get_or ys i d ≡ get_or xs i d
same-at xs ys i d below below' same =
    ap (λ zs. get_or zs 0 d) (sym (drop_more ys i d below') ∙ same ∙ drop_more xs i d below)

pub same-after :
    {A : Type 0} (xs ys : List A) (i : ℕ) (y : A) → i < length xs → i < length ys
    → drop i ys ≡ drop i xs
    → drop (i + 1) (set ys i y) ≡ drop (i + 1) xs
same-after xs ys i y below below' same =
    drop-set-lt (i + 1) ys i y (omega arith)
    ∙ ap (drop 1) (sym (drop_more ys i y below') ∙ same ∙ drop_more xs i y below)

-- the worker has this seat now
abbrev pub seated : Worker → SeatOf → Worker
seated worker seat = record { number = worker.number; seat = seat; answers = worker.answers }

module _ (m : MapOf) where
  -- ---- one seat

  -- a seat that has met none
  pub met-none : (seat : SeatOf) → IsMine m seat → HasMetAll m [] seat seat
  met-none seat mine = record {
    logged = logs_add_up.none mine;
    heard = All-nil (IsHeardBy seat.chain.seen);
    steps = 0;
    grown = steps_add_up.none mine.chain;
    counter = refl;
  }

  -- a seat that has met one
  pub met-one : (other before after : SeatOf) → Meets m other before after
      → HasMetAll m (other ∷ []) before after
  met-one other before after meets = record {
    logged = meets.0;
    steps = 1;
    grown = steps_add_up.one meets.2;
    counter = meets.3;
    heard = All-cons (IsHeardBy after.chain.seen) other [] meets.1 (All-nil (IsHeardBy after.chain.seen));
  }

  -- one meeting after another
  pub met-then :
      (seats more : List SeatOf) (before now after : SeatOf) → HasMetAll m seats before now
      → HasMetAll m more now after
      → HasMetAll m (seats ++ more) before after
  met-then seats more before now after a b = record {
    logged = logs_add_up.more a.logged b.logged;
    steps = a.steps + b.steps;
    grown = steps_add_up.more a.grown b.grown;
    counter = b.counter ∙ a.counter;
    heard =
        All-append (IsHeardBy after.chain.seen) seats more
        (later-heard now.chain.seen after.chain.seen (beginning-grown b.grown) seats a.heard)
        b.heard;
  }

  -- of a seat that has heard more
  pub met-less :
      (seats others : List SeatOf) (before after : SeatOf) → HasMetAll m others before after
      → All (IsHeardBy after.chain.seen) seats
      → HasMetAll m seats before after
  met-less seats others before after met heard =
      record {
        logged = met.logged;
        steps = met.steps;
        grown = met.grown;
        counter =
            met.counter;
        heard = heard;
      }

  -- a seat has met itself
  pub met-itself : (seats : List SeatOf) (before after : SeatOf) → HasMetAll m seats before after
      → HasMetAll m (seats ++ before ∷ []) before after
  met-itself seats before after met = met-less (seats ++ before ∷ []) seats before after met
      (All-push (IsHeardBy after.chain.seen) seats before met.heard (beginning-grown met.grown))

  -- ---- one worker

  pub met-as :
      (seats : List SeatOf) (worker : Worker) (after : SeatOf) → IsMine m after
      → HasMetAll m seats worker.seat after
      → HasMetAs m seats worker (seated worker after)
  met-as seats worker after mine met = record {
    number = refl;
    answers = refl;
    own = mine;
    met = met;
  }

  -- ---- a seat meets each of these workers

  -- the others so far, and one more
  pub each-more :
      (workers now : List Worker) (i : ℕ) (worker : Worker) (s t t' u : SeatOf) → i < length workers
      → i < length now
      → worker ≡ get_or workers i worker → drop i now ≡ drop i workers → IsMine m t' → IsMine m u
      → HasMetAll m (worker_seats (take i workers)) s t
      → AllZip (HasMetAs m (s ∷ [])) (take i workers) (take i now) → Meets m worker.seat t t'
      → Meets m t worker.seat u
      → IsMine m t' × HasMetAll m (worker_seats (take (i + 1) workers)) s t'
      × AllZip (HasMetAs m (s ∷ [])) (take (i + 1) workers)
      (take (i + 1) (set now i (seated worker u)))
      × (drop (i + 1) (set now i (seated worker u)) ≡ drop (i + 1) workers)
  each-more workers now i worker s t t' u below below' at rest own mine met all a b =
      let met' = met-then (worker_seats (take i workers)) (worker.seat ∷ []) s t t' met
      (met-one worker.seat t t' a) in (
        own,
        subst (λ seats. HasMetAll m seats s t')
            (sym (map_more (λ w. w.seat) workers i worker below
            ∙ ap (λ w. worker_seats (take i workers) ++ w.seat ∷ []) (sym at)))
            met',
        subst (AllZip (HasMetAs m (s ∷ [])) (take (i + 1) workers))
            (sym (take_more_set now i (seated worker u) below'))
            (all_zip_more (HasMetAs m (s ∷ [])) workers (take i now) i worker (seated worker u)
            below at all
            (met-as (s ∷ []) worker u mine
            (met-less (s ∷ []) (t ∷ []) worker.seat u (met-one t worker.seat u b)
            (All-cons (IsHeardBy u.chain.seen) s [] (beginning-more (beginning-grown met.grown) b.1)
            (All-nil (IsHeardBy u.chain.seen)))))),
        same-after workers now i (seated worker u) below below' rest,
      )

  -- ---- all workers

  -- who has heard of them later has heard of them as they were
  heard-earlier :
      (seats : List SeatOf) (h : List Event) (before after : List Worker)
      → AllZip (HasMetAs m seats) before after
      → All (IsHeardBy h) (worker_seats after) → All (IsHeardBy h) (worker_seats before)
  heard-earlier seats h [] [] all heard = All-nil (IsHeardBy h)
  heard-earlier seats h [] (v ∷ after) all heard = absurd all
  heard-earlier seats h (w ∷ before) [] all heard = absurd all
  heard-earlier seats h (w ∷ before) (v ∷ after) all heard =
      All-cons (IsHeardBy h) w.seat (worker_seats before)
      (beginning-more (beginning-grown all.0.met.grown)
      (All-head (IsHeardBy h) v.seat (worker_seats after) heard))
      (heard-earlier seats h before after all.1
      (All-tail (IsHeardBy h) v.seat (worker_seats after) heard))

  -- the last one has met the others, which meet then
  pub all-met :
      (before between after : List Worker) (last : Worker) (t : SeatOf) → IsMine m t
      → HasMetAll m (worker_seats before) last.seat t
      → AllZip (HasMetAs m (last.seat ∷ [])) before between
      → AllZip (HasMetAs m (worker_seats between)) between after
      → AllZip (HasMetAs m (worker_seats (before ++ last ∷ []))) (before ++ last ∷ [])
      (after ++ seated last t ∷ [])
  all-met before between after last t mine met each others =
      let seats = worker_seats before ++ last.seat ∷ [] in
      subst (λ all. AllZip (HasMetAs m all) (before ++ last ∷ []) (after ++ seated last t ∷ []))
      (sym (map-append (λ w. w.seat) before (last ∷ [])))
      (all-zip-push (HasMetAs m seats) before after last (seated last t)
      (all-zip-then (HasMetAs m (last.seat ∷ [])) (HasMetAs m (worker_seats between))
      (HasMetAs m seats) one before between after each others)
      (met-as seats last t mine (met-itself (worker_seats before) last.seat t met)))
    where
      one : (w v u : Worker) → HasMetAs m (last.seat ∷ []) w v
          → HasMetAs m (worker_seats between) v u
          → HasMetAs m (worker_seats before ++ last.seat ∷ []) w u
      one w v u a b = record {
        number = b.number ∙ a.number;
        answers = b.answers ∙ a.answers;
        own = b.own;
        met =
            let then = met-then (last.seat ∷ []) (worker_seats between)
            w.seat v.seat u.seat a.met b.met in
            let h = u.seat.chain.seen in
            met-less (worker_seats before ++ last.seat ∷ []) (last.seat ∷ worker_seats between)
            w.seat u.seat then
            (All-push (IsHeardBy h) (worker_seats before) last.seat
            (heard-earlier (last.seat ∷ []) h before between each b.met.heard)
            (All-head (IsHeardBy h) last.seat (worker_seats between) then.heard));
      }

-- a vector's workers, after each has met these seats
pub kept-back :
    (m : MapOf) (seats : List SeatOf) (kept : Vec Worker Global) (before after : List Worker)
    → length before ≡ kept.len
    → AllZip (HasMetAs m seats) before after → (with_items kept after).items ≡ after
kept-back m seats kept before after count all =
    with_items_is kept after (sym (length_all_zip (HasMetAs m seats) before after all) ∙ count)

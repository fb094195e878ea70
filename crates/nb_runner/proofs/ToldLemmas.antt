-- From what the workers did to what the text tells.
use Rattle.std.proofs.Common.{◌≡◌, ◌≢◌, ◌∙◌, ◌==◌, inl, inr, Bool, true, false, add-one, cond, ℕ, zero, suc, ◌+◌, ◌-◌, ◌<◌, ◌≤◌, not, List, [], ◌∷◌, ◌++◌, length, map, ap, sym, subst, refl, arith}
use Rattle.std.proofs.lemmas.Bool.{cases_eq, eq-eqb}
use Rattle.std.proofs.lemmas.List.{append-nil, append_cancel_right, map-append}
use Rattle.std.specs.List.{All, AllZip, range_with_len}
use Rattle.std.proofs.lemmas.List.Elements.{All-cons, All-head, All-nil, All-tail, All-weaker}
use Rattle.std.proofs.lemmas.List.FromFn.{length-map-range_with_len}
use Rattle.nb_core.specs.Log.{Entry, IsBeginning, calls_of, log_of}
use Rattle.nb_core.specs.History.{IsLegal}
use Rattle.nb_core.specs.Plans.{IsPlan, Plan, generations_of, size_of}
use Rattle.nb_core.specs.declared.calls.Call.{Call}
use Rattle.nb_core.specs.declared.events.Event.{Event}
use Rattle.nb_core.proofs.Theorems.{calls_append}
use Rattle.nb_map.specs.Crowding.{others_filled}
use Rattle.nb_map.specs.Ending.{EndedOf, EndedWith, HasAll, HasTablesLeft, log_left}
use Rattle.nb_map.specs.Logs.{HasLogged, log}
use Rattle.nb_map.specs.Maps.{MapOf, SeatOf, new_seat, new_seats}
use Rattle.nb_script.specs.Script.{Phase}
use Rattle.nb_runner.specs.Text.{call_of}
use Rattle.nb_runner.specs.Told.{AreClaimsOf, ArePhasesTold, AreTold, HasDone, IsCommandTold, IsPhaseTold, Refusals, WasCrowded, key_of_command}
use Rattle.nb_runner.specs.Working.{AreAnswered, HasMetAll, HaveMet, HaveRun, IsAnswered, PhaseRan, HasRunCommand, commands_but, commands_in, commands_of}
use Rattle.nb_script.specs.declared.script.Command.{Command}
use Rattle.nb_runner.specs.declared.answers.Answer.{Answer}
use Rattle.nb_runner.specs.declared.answers.Answer.TheVariants as answer
use Rattle.nb_runner.proofs.CallLemmas.{Calls, IsHeardBy, IsSeenBy, heard-seen, Longest, beginning-grown, beginning-itself, beginning-logged, beginning-more, beginning-none, calls-apart, log-begins, longest, later-apart}
use Rattle.nb_runner.proofs.Claims.{Claimant, asked-more, claimant-less, claims-crowd, claims-of}
use Rattle.nb_runner.proofs.Filling.{HasClaimed, among-all, among-but, among-right, claimed-answered, claimed-commands, claimed-meeting, claimed-met, claimed-new, claimed-phase, others-same, put-left, put-right}

-- ---- between moments

done-none : (w : ℕ) (x : List Entry) → HasDone w [] x x
done-none w x = record { begun = beginning-itself x; made = refl }

-- nothing, and then something
done-then :
    (w : ℕ) (calls : Calls) (x y z : List Entry) → HasDone w [] x y → HasDone w calls y z
    → HasDone w calls x z
done-then w calls x y z rested done = record {
  begun = beginning-more rested.begun done.begun;
  made =
      calls_append w done.begun.later rested.begun.later
      ∙ ap (λ none. calls_of w done.begun.later ++ none) rested.made
      ∙ append-nil (calls_of w done.begun.later) ∙ done.made;
}

-- where no worker made a call since, the log was at its end
all-ended :
    (n : ℕ) (base whole : List Entry) → IsBeginning base whole → All (λ entry. entry.seat < n) whole
    → ((w : ℕ) → w < n → HasDone w [] base whole) → whole ≡ base
all-ended n base whole begun below rested = of begun.later begun.is
    (λ w less. same w (rested w less))
  where
    P : Entry → Type 0
    P entry = entry.seat < n

    same : (w : ℕ) → HasDone w [] base whole → calls_of w begun.later ≡ []
    same w rested = ap (calls_of w) (append_cancel_right begun.later rested.begun.later base
        (sym begun.is ∙ rested.begun.is)) ∙ rested.made

    first : (entry : Entry) (calls : Calls) (b : Bool) → b ≡ true
        → cond b ((entry.call, entry.reply) ∷ calls) calls ≡ [] → ⊥
    first entry calls true is none = absurd cc
    first entry calls false is none = absurd cc

    of : (later : List Entry) → whole ≡ later ++ base → ((w : ℕ) → w < n → calls_of w later ≡ [])
        → whole ≡ base
    of [] is none = is
    of (entry ∷ later) is none =
        let s = entry.seat in
        absurd (first entry (calls_of s later) (s == s) (eq-eqb s s refl)
        (none s (All-head P entry (later ++ base) (subst (All P) is below))))

-- ---- one worker

-- the map's seat with this number
record IsNumbered (w : ℕ) (seat : SeatOf) : Type 0 where
  number : seat.chain.number ≡ w

numbered-logged :
    (w : ℕ) (before after : SeatOf) (made : Calls) → IsNumbered w before
    → HasLogged before after made → IsNumbered w after
numbered-logged w before after made is logged = record { number = logged.number ∙ is.number }

done-of :
    (w : ℕ) (calls : Calls) (before after : SeatOf) → IsNumbered w before
    → HasLogged before after calls
    → HasDone w calls (log before) (log after)
done-of w calls before after is logged =
    record {
      begun = beginning-logged logged;
      made =
          ap (λ n. calls_of n logged.later) (sym is.number) ∙ logged.own;
    }

-- an answered command made some calls
answered-logged :
    (m : MapOf) (c : Command) (a : Answer) (before after : SeatOf) → IsAnswered m c a before after
    → (made : Calls) × HasLogged before after made
answered-logged m c answer.Nothing before after h = (_, h.2)
answered-logged m c (answer.Value n) before after h = (_, h.2)
answered-logged m c (answer.Matched b) before after h = (_, h.2)
answered-logged m c answer.Full before after h = (_, h.unmade)
answered-logged m c answer.Range before after h = (_, h.unmade)

-- ---- with nothing before and after

module _ (full : Refusals) where
  told-later :
      (so_far : List Command) (w : ℕ) (c : Command) (a : Answer) (x y z : List Entry)
      → HasDone w [] x y → IsCommandTold full so_far w c a y z → IsCommandTold full so_far w c a x z
  told-later so_far w c answer.Nothing x y z rested h =
      (h.0, h.1, done-then w ((call_of c, h.0) ∷ []) x y z rested h.2)
  told-later so_far w c (answer.Value n) x y z rested h =
      (h.0, h.1, done-then w ((call_of c, h.0) ∷ []) x y z rested h.2)
  told-later so_far w c (answer.Matched b) x y z rested h =
      (h.0, h.1, done-then w ((call_of c, h.0) ∷ []) x y z rested h.2)
  told-later so_far w c answer.Full x y z rested h = (h.0, done-then w [] x y z rested h.1)
  told-later so_far w c answer.Range x y z rested h = (h.0, done-then w [] x y z rested h.1)

  all-later :
      (so_far : List Command) (w : ℕ) (cs : List Command) (answers : List Answer)
      (x y z : List Entry) → HasDone w [] x y
      → AreTold full so_far w cs answers y z → AreTold full so_far w cs answers x z
  all-later so_far w [] [] x y z rested h = done-then w [] x y z rested h
  all-later so_far w [] (a ∷ answers) x y z rested h = absurd h
  all-later so_far w (c ∷ cs) [] x y z rested h = absurd h
  all-later so_far w (c ∷ cs) (a ∷ answers) x y z rested h =
      (h.0, told-later so_far w c a x y h.0 rested h.1, h.2)

  all-sooner :
      (so_far : List Command) (w : ℕ) (cs : List Command) (answers : List Answer)
      (x y z : List Entry) → AreTold full so_far w cs answers x y → HasDone w [] y z
      → AreTold full so_far w cs answers x z
  all-sooner so_far w [] [] x y z h rested = done-then w [] x y z h rested
  all-sooner so_far w [] (a ∷ answers) x y z h rested = absurd h
  all-sooner so_far w (c ∷ cs) [] x y z h rested = absurd h
  all-sooner so_far w (c ∷ cs) (a ∷ answers) x y z h rested =
      (h.0, h.1, all-sooner (so_far ++ c ∷ []) w cs answers h.0 y z h.2 rested)

module _ (m : MapOf) (plan : IsPlan m.chain.shape) (history : List Event)
    (legal : IsLegal m.chain.shape history) where
  abbrev p : Plan
  p = m.chain.shape

  abbrev full : Refusals
  full = WasCrowded p history

  abbrev whole : List Entry
  whole = log_of history

  -- what the seat has seen is a beginning of the history
  abbrev HasBegun : SeatOf → Type 0
  HasBegun seat = IsBeginning seat.chain.seen history

  -- what each other seat has claimed until this moment
  abbrev OthersClaimed : List Event → List Command → ℕ → Type 0
  OthersClaimed h cs w =
      (n : ℕ) → n < p.seats → n ≢ w → Claimant p history h (map call_of cs) n

  -- so until an earlier moment, of one command more
  others-more :
      (h x : List Event) (cs : List Command) (c : Command) (w : ℕ) → IsBeginning x h
      → OthersClaimed h cs w → OthersClaimed x (cs ++ c ∷ []) w
  others-more h x cs c w begun others n less differs =
      claimant-less p history h x (map call_of cs) (map call_of (cs ++ c ∷ [])) n begun
      (λ k put. put-left cs (c ∷ []) k put) (others n less differs)

  -- ---- one worker's commands

  -- the seat's own claims after one command more
  own-more :
      (so_far : List Command) (c : Command) (a : Answer) (before after : SeatOf)
      → HasRunCommand m c a before after → HasClaimed p so_far before.chain
      → HasClaimed p (so_far ++ c ∷ []) after.chain
  own-more so_far c = claimed-answered m plan so_far (so_far ++ c ∷ [])
      (λ k put. put-left so_far (c ∷ []) k put) c
      (λ may. put-right so_far (c ∷ []) (key_of_command c) (inl (may, refl)))

  -- a command was refused for want of room
  refused-told :
      (so_far : List Command) (w : ℕ) (c : Command) (before after : SeatOf) → IsNumbered w after
      → HasRunCommand m c answer.Full before after → HasBegun after
      → HasClaimed p (so_far ++ c ∷ []) after.chain
      → OthersClaimed after.chain.seen (so_far ++ c ∷ []) w → full so_far c (log after)
  refused-told so_far w c before after is h seen own others = (
    now,
    seen,
    refl,
    h.0.just.1,
    claims,
    (
      ap not h.0.just.0,
      subst (λ most. size_of p (generations_of p - 1) ≤ most)
          (ap (others_filled k) (map-append call_of so_far (c ∷ []))
          ∙ others-same k (map call_of so_far) (call_of c) refl)
          (claims-crowd p plan history legal calls now seen after.chain k claims h.0.just.1),
    ),
  )
    where
      now : List Event
      now = after.chain.seen

      k : ℕ
      k = key_of_command c

      calls : List Call
      calls = map call_of (so_far ++ c ∷ [])

      each : (n : ℕ) → n < p.seats → Claimant p history now calls n
      each n less = elim (cases_eq n w) [
        | inl same ↦ record {
          seat = after.chain;
          number = is.number ∙ sym same;
          asked = own;
          above = beginning-itself now;
          begun = seen;
        }
        | inr differs ↦ others n less differs
      ]

      claims : AreClaimsOf p now (so_far ++ c ∷ [])
      claims = claims-of p plan history legal calls now seen each

  -- what is told of an answered command
  answered-told :
      (so_far : List Command) (w : ℕ) (c : Command) (a : Answer) (before after : SeatOf)
      → IsNumbered w before → HasRunCommand m c a before after → HasBegun after
      → HasClaimed p so_far before.chain → OthersClaimed after.chain.seen (so_far ++ c ∷ []) w
      → IsCommandTold full so_far w c a (log before) (log after)
  answered-told so_far w c answer.Nothing before after is h seen own others =
      (h.0.0, h.0.1, done-of w ((call_of c, h.0.0) ∷ []) before after is h.0.2)
  answered-told so_far w c (answer.Value n) before after is h seen own others =
      (h.0.0, h.0.1, done-of w ((call_of c, h.0.0) ∷ []) before after is h.0.2)
  answered-told so_far w c (answer.Matched b) before after is h seen own others =
      (h.0.0, h.0.1, done-of w ((call_of c, h.0.0) ∷ []) before after is h.0.2)
  answered-told so_far w c answer.Full before after is h seen own others = (
    refused-told so_far w c before after (numbered-logged w before after [] is h.0.unmade) h seen
        (own-more so_far c answer.Full before after h own) others,
    done-of w [] before after is h.0.unmade,
  )
  answered-told so_far w c answer.Range before after is h seen own others =
      (h.0.just, done-of w [] before after is h.0.unmade)

  -- what was seen before these commands is a beginning of what is seen after them
  answered-seen :
      (cs : List Command) (answers : List Answer) (before after : SeatOf)
      → AreAnswered m cs answers before after
      → IsBeginning before.chain.seen after.chain.seen
  answered-seen [] [] before after h = subst
      (λ (s : SeatOf). IsBeginning before.chain.seen s.chain.seen) (sym h)
      (beginning-itself before.chain.seen)
  answered-seen [] (a ∷ answers) before after h = absurd h
  answered-seen (c ∷ cs) [] before after h = absurd h
  answered-seen (c ∷ cs) (a ∷ answers) before after h =
      beginning-more (beginning-grown h.1.1.1.1.grown) (answered-seen cs answers h.0 after h.2)

  -- the seat's number after them
  answered-numbered :
      (w : ℕ) (cs : List Command) (answers : List Answer) (before after : SeatOf)
      → IsNumbered w before → AreAnswered m cs answers before after
      → IsNumbered w after
  answered-numbered w [] [] before after is h = subst (IsNumbered w) (sym h) is
  answered-numbered w [] (a ∷ answers) before after is h = absurd h
  answered-numbered w (c ∷ cs) [] before after is h = absurd h
  answered-numbered w (c ∷ cs) (a ∷ answers) before after is h =
      let logged = answered-logged m c a before h.0 h.1.0 in
      answered-numbered w cs answers h.0 after (numbered-logged w before h.0 logged.0 is logged.1)
      h.2

  all-told :
      (so_far : List Command) (w : ℕ) (cs : List Command) (answers : List Answer)
      (before after : SeatOf) → IsNumbered w before → AreAnswered m cs answers before after
      → HasBegun after → HasClaimed p so_far before.chain → OthersClaimed after.chain.seen so_far w
      → AreTold full so_far w cs answers (log before) (log after)
  all-told so_far w [] [] before after is h seen own others =
      subst (λ (s : SeatOf). HasDone w [] (log before) (log s)) (sym h) (done-none w (log before))
  all-told so_far w [] (a ∷ answers) before after is h seen own others = absurd h
  all-told so_far w (c ∷ cs) [] before after is h seen own others = absurd h
  all-told so_far w (c ∷ cs) (a ∷ answers) before after is h seen own others =
      let logged = answered-logged m c a before h.0 h.1.0 in
      let later = answered-seen cs answers h.0 after h.2 in (
        log h.0,
        answered-told so_far w c a before h.0 is h.1 (beginning-more later seen) own
            (others-more after.chain.seen h.0.chain.seen so_far c w later others),
        all-told (so_far ++ c ∷ []) w cs answers h.0 after
            (numbered-logged w before h.0 logged.0 is logged.1) h.2 seen
            (own-more so_far c a before h.0 h.1 own)
            (others-more after.chain.seen after.chain.seen so_far c w
            (beginning-itself after.chain.seen) others),
      )

  -- ---- all workers, in one phase

  -- The seat has this number, and has made no call since the log was this.
  record IsQuietSince (base : List Entry) (w : ℕ) (seat : SeatOf) : Type 0 where
    is : IsNumbered w seat
    rested : HasDone w [] base (log seat)

  -- the same of all these seats, from number w on
  abbrev AreQuietSince : List Entry → ℕ → List SeatOf → Type 0
  AreQuietSince base w [] = Unit {0}
  AreQuietSince base w (seat ∷ seats) = IsQuietSince base w seat × AreQuietSince base (suc w) seats

  -- the seat's own claims, where these commands may have run
  abbrev Claimed : List Command → SeatOf → Type 0
  Claimed so_far seat = HasClaimed p so_far seat.chain

  claimed-more :
      (cs ds : List Command) (seat : SeatOf) → Claimed cs seat → Claimed (cs ++ ds) seat
  claimed-more cs ds seat =
      asked-more p (map call_of cs) (map call_of (cs ++ ds)) seat.chain
      (λ k put. put-left cs ds k put)

  module _
      (so_far : List Command) (phase : Phase) (base : List Entry) (seats : List SeatOf)
      (long : Longest base seats)
    where
      -- the commands that may have run before the worker's own of the phase
      abbrev but : ℕ → List Command
      but w = so_far ++ commands_but w phase

      -- When the seats have met, the one of this number has seen what all had seen, and its claims
      -- are of keys that these commands may put.
      record HasMetWith (cs : List Command) (n : ℕ) : Type 0 where
        seat : SeatOf
        number : seat.chain.number ≡ n
        claimed : Claimed cs seat
        heard : All (IsHeardBy seat.chain.seen) seats
        begun : HasBegun seat

      -- So it is of each other seat than w.
      other-met :
          (w n : ℕ) → n ≢ w → (v : ℕ) (first : List (List Answer))
          (before apart joined : List SeatOf)
          → AreQuietSince base v before → PhaseRan m phase v first before apart
          → AllZip (HasMetAll m seats) apart joined → All (Claimed so_far) before
          → All HasBegun joined → v ≤ n → n < v + length before → HasMetWith (but w) n
      other-met w n differs v first [] apart joined quiet ran met claimed seen above below =
          absurd (omega (arith, above, below))
      other-met w n differs v [] (s ∷ before) apart joined quiet ran met claimed seen above
          below = absurd ran
      other-met w n differs v (mine ∷ others) (s ∷ before) [] joined quiet ran met claimed seen
          above below = absurd ran
      other-met w n differs v (mine ∷ others) (s ∷ before) (t ∷ apart) [] quiet ran met claimed
          seen above below = absurd met
      other-met w n differs v (mine ∷ others) (s ∷ before) (t ∷ apart) (u ∷ joined) quiet ran
          met claimed seen above below = elim (cases_eq v n) [
            | inl here ↦ record {
              seat = u;
              number =
                  met.0.grown.number
                  ∙ (answered-numbered v (commands_of v phase) mine s t quiet.0.is ran.0).number
                  ∙ here;
              claimed =
                  claimed-met m plan (but w) seats t u met.0
                  (claimed-commands m plan (but w) (commands_of v phase) mine s t
                  (among-right so_far (commands_but w phase) (commands_of v phase)
                  (among-but w v (λ same. differs (sym here ∙ same)) phase)) ran.0
                  (claimed-more so_far (commands_but w phase) s
                  (All-head (Claimed so_far) s before claimed)));
              heard = met.0.heard;
              begun = All-head HasBegun u joined seen;
            }
            | inr past ↦ other-met w n differs (suc v) others before apart joined quiet.1 ran.1
                met.1 (All-tail (Claimed so_far) s before claimed)
                (All-tail HasBegun u joined seen) (omega (arith, above, past))
                (omega (arith, below))
          ]

      -- what each other seat has claimed until the seat met them
      others-claimed :
          (w : ℕ) (apart : SeatOf)
          → ((n : ℕ) → n < p.seats → n ≢ w → HasMetWith (but w) n)
          → ((h : List Event) → All (IsHeardBy h) seats → IsHeardBy h apart)
          → OthersClaimed apart.chain.seen (but w) w
      others-claimed w apart met one n less differs =
          let other = met n less differs in
          record {
            seat = other.seat.chain;
            number = other.number;
            asked = other.claimed;
            above = one other.seat.chain.seen other.heard;
            begun = other.begun;
          }

      -- One seat's commands of the phase come before the seats have met. Then its log goes on from
      -- all of theirs, and it made no call since.
      one-told :
          (w : ℕ) (mine : List Answer) (before apart joined : SeatOf) → IsQuietSince base w before
          → AreAnswered m (commands_of w phase) mine before apart → HasBegun apart
          → IsSeenBy long.whole apart → HasMetAll m seats apart joined
          → Claimed so_far before → OthersClaimed apart.chain.seen (but w) w
          → AreTold full (but w) w (commands_of w phase) mine base long.whole
          × IsQuietSince long.whole w joined
      one-told w mine before apart joined quiet answered begun up met own others = (
        all-later full (but w) w (commands_of w phase) mine base (log before) long.whole
            quiet.rested
            (all-sooner full (but w) w (commands_of w phase) mine (log before) (log apart)
            long.whole
            (all-told (but w) w (commands_of w phase) mine before apart quiet.is answered begun
            (claimed-more so_far (commands_but w phase) before own) others)
            (record { begun = up; made = still.1 })),
        record {
          is = numbered-logged w apart joined [] is met.logged;
          rested =
              record { begun = heard; made = still.0 };
        },
      )
        where
          is : IsNumbered w apart
          is = answered-numbered w (commands_of w phase) mine before apart quiet.is answered

          mid : IsBeginning base (log apart)
          mid = beginning-more quiet.rested.begun
              (log-begins (answered-seen (commands_of w phase) mine before apart answered))

          heard : IsBeginning long.whole (log joined)
          heard = long.least (log joined) (beginning-more mid (beginning-logged met.logged))
              (heard-seen joined.chain.seen seats met.heard)

          still : (calls_of w heard.later ≡ []) × (calls_of w up.later ≡ [])
          still = calls-apart w heard.later up.later
              (ap (calls_of w) (sym (later-apart (beginning-logged met.logged) heard up))
              ∙ ap (λ n. calls_of n met.logged.later) (sym is.number)
              ∙ met.logged.own)

      -- what is known when the phase is over
      record PhaseOver (w : ℕ) (first : List (List Answer)) (before joined : List SeatOf) :
          Type 0 where
        told : IsPhaseTold full so_far phase w first base long.whole
        quiet : AreQuietSince long.whole w joined
        each : length first ≡ length before
        count : length joined ≡ length before

      phase-told :
          (w : ℕ) (first : List (List Answer)) (before apart joined : List SeatOf)
          → AreQuietSince base w before
          → PhaseRan m phase w first before apart → All HasBegun apart
          → All (IsSeenBy long.whole) apart → AllZip (HasMetAll m seats) apart joined
          → All (Claimed so_far) before
          → ((v n : ℕ) → n < p.seats → n ≢ v → HasMetWith (but v) n)
          → ((h : List Event) → All (IsHeardBy h) seats → All (IsHeardBy h) apart)
          → PhaseOver w first before joined
      phase-told w [] [] [] [] quiet ran begun up met own with some =
          record { told = tt; quiet = tt; each = refl; count = refl }
      phase-told w (mine ∷ others) (s ∷ before) (t ∷ apart) (u ∷ joined) quiet ran begun up met
          own with some =
          let one = one-told w mine s t u quiet.0 ran.0 (All-head HasBegun t apart begun)
          (All-head (IsSeenBy long.whole) t apart up) met.0
          (All-head (Claimed so_far) s before own)
          (others-claimed w t (with w)
          (λ h all. All-head (IsHeardBy h) t apart (some h all))) in
          let rest = phase-told (suc w) others before apart joined quiet.1 ran.1
          (All-tail HasBegun t apart begun)
          (All-tail (IsSeenBy long.whole) t apart up) met.1
          (All-tail (Claimed so_far) s before own) with
          (λ h all. All-tail (IsHeardBy h) t apart (some h all)) in
          record {
            told = (one.0, rest.told);
            quiet = (one.1, rest.quiet);
            each = ap suc rest.each;
            count = ap suc rest.count;
          }
      phase-told w [] [] [] (u ∷ joined) quiet ran begun up met own with some = absurd met
      phase-told w [] [] (t ∷ apart) joined quiet ran begun up met own with some = absurd ran
      phase-told w [] (s ∷ before) apart joined quiet ran begun up met own with some = absurd ran
      phase-told w (mine ∷ others) [] apart joined quiet ran begun up met own with some =
          absurd ran
      phase-told w (mine ∷ others) (s ∷ before) [] joined quiet ran begun up met own with some =
          absurd ran
      phase-told w (mine ∷ others) (s ∷ before) (t ∷ apart) [] quiet ran begun up met own with
          some = absurd met

  -- ---- what the seats saw before, the history has too

  phase-begins :
      (phase : Phase) (w : ℕ) (first : List (List Answer)) (before apart : List SeatOf)
      → PhaseRan m phase w first before apart
      → All HasBegun apart → All HasBegun before
  phase-begins phase w [] [] [] ran seen = All-nil HasBegun
  phase-begins phase w (mine ∷ others) (s ∷ before) (t ∷ apart) ran seen =
      All-cons HasBegun s before
      (beginning-more (answered-seen (commands_of w phase) mine s t ran.0)
      (All-head HasBegun t apart seen))
      (phase-begins phase (suc w) others before apart ran.1 (All-tail HasBegun t apart seen))
  phase-begins phase w [] [] (t ∷ apart) ran seen = absurd ran
  phase-begins phase w [] (s ∷ before) apart ran seen = absurd ran
  phase-begins phase w (mine ∷ others) [] apart ran seen = absurd ran
  phase-begins phase w (mine ∷ others) (s ∷ before) [] ran seen = absurd ran

  met-begins : (seats apart joined : List SeatOf) → AllZip (HasMetAll m seats) apart joined
      → All HasBegun joined → All HasBegun apart
  met-begins seats [] [] met seen = All-nil HasBegun
  met-begins seats (t ∷ apart) (u ∷ joined) met seen =
      All-cons HasBegun t apart (beginning-more (beginning-grown met.0.grown)
      (All-head HasBegun u joined seen))
      (met-begins seats apart joined met.1 (All-tail HasBegun u joined seen))
  met-begins seats [] (u ∷ joined) met seen = absurd met
  met-begins seats (t ∷ apart) [] met seen = absurd met

  run-begins :
      (phases : List Phase) (answers : List (List (List Answer))) (before after : List SeatOf)
      → HaveRun m phases answers before after
      → All HasBegun after → All HasBegun before
  run-begins [] [] before after h seen = subst (All HasBegun) h seen
  run-begins [] (first ∷ answers) before after h seen = absurd h
  run-begins (phase ∷ phases) [] before after h seen = absurd h
  run-begins (phase ∷ phases) (first ∷ answers) before after h seen =
      phase-begins phase 0 first before h.0 h.2
      (met-begins h.0 h.0 h.1 h.3 (run-begins phases answers h.1 after h.4 seen))

  -- ---- all phases

  -- what the seat has seen is a beginning of the history, and all its calls are in its own log
  abbrev IsDone : SeatOf → Type 0
  IsDone seat = HasBegun seat × HasAll whole seat

  -- a seat that was quiet up to the end made no call in the rest of the log
  none-by : (base : List Entry) (w : ℕ) (seat : SeatOf) → IsQuietSince base w seat → IsDone seat
      → HasDone w [] base whole
  none-by base w seat quiet done =
      let all = done.1 in
      done-then w [] base (log seat) whole quiet.rested (record {
        begun = record { later = all.later; is = all.is };
        made = subst (λ n. calls_of n all.later ≡ []) quiet.is.number all.others;
      })

  none-told :
      (base : List Entry) (v : ℕ) (seats : List SeatOf) → AreQuietSince base v seats
      → All IsDone seats
      → (w : ℕ) → v ≤ w → w < v + length seats → HasDone w [] base whole
  none-told base v [] quiet done w above below = absurd (omega (arith, above, below))
  none-told base v (s ∷ seats) quiet done w above below = elim (cases_eq v w) [
    | inl here ↦ subst (λ n. HasDone n [] base whole) here
        (none-by base v s quiet.0 (All-head IsDone s seats done))
    | inr past ↦ none-told base (suc v) seats quiet.1 (All-tail IsDone s seats done) w
        (omega (arith, above, past)) (omega (arith, below))
  ]

  -- One phase after what all had seen: what they have all seen when it is over.
  record OnePhase (so_far : List Command) (base : List Entry) (phase : Phase)
      (first : List (List Answer)) (joined : List SeatOf) : Type 0 where
    next : List Entry
    ends : IsBeginning next whole
    told : IsPhaseTold full so_far phase 0 first base next
    claimed : All (Claimed (so_far ++ commands_in phase)) joined
    quiet : AreQuietSince next 0 joined
    each : length first ≡ p.seats
    count : length joined ≡ p.seats

  one-phase :
      (so_far : List Command) (base : List Entry) → IsBeginning base whole
      → (phase : Phase) (first : List (List Answer)) (before apart joined : List SeatOf)
      → AreQuietSince base 0 before → length before ≡ p.seats → All (Claimed so_far) before
      → PhaseRan m phase 0 first before apart → HaveMet m apart joined
      → All HasBegun joined → OnePhase so_far base phase first joined
  one-phase so_far base begun phase first before apart joined quiet all own ran met seen = record {
    next = long.whole;
    ends = long.least whole begun logs_apart;
    told = over.told;
    claimed =
        claimed-meeting m plan next apart apart joined met
        (claimed-phase m plan next phase 0 first before apart
        (among-right so_far (commands_in phase) (commands_in phase) (among-all (commands_in phase)))
        ran (All-weaker (Claimed so_far) (Claimed next) (claimed-more so_far (commands_in phase)) before
        own));
    quiet = over.quiet;
    each = over.each ∙ all;
    count = over.count ∙ all;
  }
    where
      next : List Command
      next = so_far ++ commands_in phase

      seen_apart : All HasBegun apart
      seen_apart = met-begins apart apart joined met seen

      logs_apart : All (IsSeenBy whole) apart
      logs_apart = All-weaker HasBegun (IsSeenBy whole) (λ seat b. log-begins b) apart seen_apart

      long : Longest base apart
      long = longest whole base apart begun logs_apart

      over : PhaseOver so_far phase base apart long 0 first before joined
      over = phase-told so_far phase base apart long 0 first before apart joined quiet ran seen_apart
          long.all met own
          (λ v n less differs. other-met so_far phase base apart long v n differs 0 first before apart
          joined quiet ran met own seen (omega arith) (omega (arith, less, all)))
          (λ h heard. heard)

  abbrev IsEach : List (List Answer) → Type 0
  IsEach phase = length phase ≡ p.seats

  run-told :
      (so_far : List Command) (base : List Entry) → IsBeginning base whole
      → (phases : List Phase) (answers : List (List (List Answer))) (before after : List SeatOf)
      → AreQuietSince base 0 before → length before ≡ p.seats → All (Claimed so_far) before
      → HaveRun m phases answers before after → All IsDone after
      → All (λ entry. entry.seat < p.seats) whole
      → ArePhasesTold full so_far phases answers base whole × All IsEach answers
  run-told so_far base begun [] [] before after quiet all own h done made = (
    all-ended p.seats base whole begun made
        (λ w below. none-told base 0 after (subst (AreQuietSince base 0) (sym h) quiet) done w
        (omega arith) (omega (arith, below, all, ap length h))),
    All-nil IsEach,
  )
  run-told so_far base begun [] (first ∷ answers) before after quiet all own h done made = absurd h
  run-told so_far base begun (phase ∷ phases) [] before after quiet all own h done made = absurd h
  run-told so_far base begun (phase ∷ phases) (first ∷ answers) before after quiet all own h done
      made =
      let seen = run-begins phases answers h.1 after h.4
      (All-weaker IsDone HasBegun (λ seat done. done.0) after done) in
      let one = one-phase so_far base begun phase first before h.0 h.1 quiet all own h.2 h.3 seen in
      let others = run-told (so_far ++ commands_in phase) one.next one.ends phases answers h.1 after
      one.quiet one.count one.claimed h.4 done made in (
        (one.next, one.told, others.0),
        All-cons IsEach first answers one.each others.1,
      )

  -- ---- from new seats

  new-quiet : (w n : ℕ) → AreQuietSince [] w (map (new_seat m) (range_with_len w n))
  new-quiet w zero = tt
  new-quiet w (suc n) =
      let later = new-quiet (w + 1) n in (
        record { is = record { number = refl }; rested = done-none w [] },
        subst (λ v. AreQuietSince [] v (map (new_seat m) (range_with_len (w + 1) n))) (add-one w)
            later,
      )

  from-new :
      (phases : List Phase) (answers : List (List (List Answer))) (after : List SeatOf)
      → HaveRun m phases answers (new_seats m p.seats) after
      → All IsDone after → All (λ entry. entry.seat < p.seats) whole
      → ArePhasesTold full [] phases answers [] whole × All IsEach answers
  from-new phases answers after = run-told [] [] (beginning-none whole) phases answers
      (new_seats m p.seats) after (new-quiet 0 p.seats)
      (length-map-range_with_len (new_seat m) 0 p.seats) (claimed-new m plan [] p.seats)

-- What the workers answered is what a text may tell of the ended map's log.
pub told-phases :
    (m : MapOf) → IsPlan m.chain.shape → (phases : List Phase) (answers : List (List (List Answer)))
    (after : List SeatOf) (ended : EndedOf)
    → HaveRun m phases answers (new_seats m m.chain.shape.seats) after → EndedWith after ended
    → HasTablesLeft m.chain.shape after ended
    → All (λ entry. entry.seat < m.chain.shape.seats) (log_left ended)
    → ArePhasesTold (WasCrowded m.chain.shape ended.tables.history) [] phases answers []
    (log_left ended)
    × All (λ phase. length phase ≡ m.chain.shape.seats) answers
told-phases m plan phases answers after ended ran with left made =
    from-new m plan ended.tables.history
    (subst (λ q. IsLegal q ended.tables.history) left.shape left.left.legal) phases answers after ran
    (λ k d within. let is = left.seen k d within in
    (record { later = is.later; is = is.is }, with.logs k d within)) made

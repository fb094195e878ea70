-- What the seats of a run have claimed: keys that their commands may put, so that a full map has as
-- many of these.
use Rattle.std.proofs.Common.{◌≡◌, ◌≢◌, ◌∙◌, ◌==◌, not, Bool, true, false, cond, ℕ, suc, List, [], ◌∷◌, ◌++◌, map, filter, ap, sym, subst, refl, inl, inr}
use Rattle.std.specs.List.{All, AllZip}
use Rattle.std.specs.Set.{distinct_count}
use Rattle.std.proofs.lemmas.Bool.{cases_Bool, eq-eqb, eqb-true, ne_eqb}
use Rattle.std.proofs.lemmas.List.{append-nil, map-append}
use Rattle.std.proofs.lemmas.List.Elements.{All-cons, All-head, All-nil, All-tail, All-weaker, filter-append}
use Rattle.nb_core.proofs.Seating.{All-numbered}
use Rattle.nb_core.specs.History.{key_of_call}
use Rattle.nb_core.specs.Plans.{IsPlan, Plan}
use Rattle.nb_core.specs.declared.calls.Call.{Call}
use Rattle.nb_table.specs.Chains.{SeenBy}
use Rattle.nb_map.proofs.Theorems.{asks_add_up}
use Rattle.nb_map.specs.Crowding.{HasAskedFor, IsFilled, fills, others_filled}
use Rattle.nb_map.specs.Maps.{MapOf, SeatOf, new_seat, new_seats}
use Rattle.nb_script.specs.Script.{Phase}
use Rattle.nb_runner.specs.Text.{call_of}
use Rattle.nb_runner.specs.Told.{key_of_command}
use Rattle.nb_runner.specs.Working.{AreAnswered, HasMetAll, HasRunCommand, PhaseRan, commands_but, commands_of}
use Rattle.nb_runner.specs.declared.answers.Answer.{Answer}
use Rattle.nb_script.specs.declared.script.Command.{Command}

-- ---- keys that commands may put

-- one of these commands may put the key
abbrev pub IsPut : List Command → ℕ → Type 0
IsPut cs k = IsFilled (map call_of cs) k

-- more commands may put it too
pub put-left : (cs ds : List Command) (k : ℕ) → IsPut cs k → IsPut (cs ++ ds) k
put-left [] ds k put = absurd put
put-left (c ∷ cs) ds k put =
    elim put [ inl here ↦ inl here | inr later ↦ inr (put-left cs ds k later) ]

pub put-right : (cs ds : List Command) (k : ℕ) → IsPut ds k → IsPut (cs ++ ds) k
put-right [] ds k put = put
put-right (c ∷ cs) ds k put = inr (put-right cs ds k put)

-- one call more fills no key but its own
pub others-same :
    (k : ℕ) (calls : List Call) (call : Call) → key_of_call call ≡ k
    → others_filled k (calls ++ call ∷ []) ≡ others_filled k calls
others-same k calls call key =
    ap (distinct_count (λ i j. i == j))
    (ap (λ xs. filter other (map key_of_call xs)) (filter-append fills calls (call ∷ []))
    ∙ ap (filter other) (map-append key_of_call (filter fills calls) (filter fills (call ∷ [])))
    ∙ filter-append other before (map key_of_call (filter fills (call ∷ [])))
    ∙ ap (λ xs. filter other before ++ xs) (none (fills call)) ∙ append-nil (filter other before))
  where
    other : ℕ → Bool
    other j = not (j == k)

    before : List ℕ
    before = map key_of_call (filter fills calls)

    none : (b : Bool) → filter other (map key_of_call (cond b (call ∷ []) [])) ≡ []
    none true = ap (λ x. cond (not x) (key_of_call call ∷ []) []) (eq-eqb (key_of_call call) k key)
    none false = refl

-- ---- what a seat has claimed

-- the seat's own claims are of keys that these commands may put, or that have a slot in the table
-- below
abbrev pub HasClaimed : Plan → List Command → SeenBy → Type 0
HasClaimed p cs seat = HasAskedFor p (map call_of cs) seat

-- ---- a run

-- where one of the commands may put its key, so may one of all
abbrev pub AreAmong : (all cs : List Command) → Type 0
AreAmong all cs = All (λ c. fills (call_of c) ≡ true → IsPut all (key_of_command c)) cs

-- so it is of all commands themselves
pub among-all : (cs : List Command) → AreAmong cs cs
among-all [] = All-nil (λ (c : Command). fills (call_of c) ≡ true → IsPut [] (key_of_command c))
among-all (c ∷ cs) =
    All-cons (λ d. fills (call_of d) ≡ true → IsPut (c ∷ cs) (key_of_command d)) c cs
    (λ may. inl (may, refl))
    (All-weaker (λ d. fills (call_of d) ≡ true → IsPut cs (key_of_command d))
    (λ d. fills (call_of d) ≡ true → IsPut (c ∷ cs) (key_of_command d))
    (λ d put may. inr (put may)) cs (among-all cs))

-- and of one worker's, among those of all but another
pub among-but :
    (w v : ℕ) → v ≢ w → (phase : Phase) → AreAmong (commands_but w phase) (commands_of v phase)
among-but w v differs [] = All-nil (λ (c : Command). fills (call_of c) ≡ true → ⊥)
among-but w v differs (task ∷ phase) =
    elim (cases_Bool (task.0 == v)) [
      | inl mine ↦ mine-of (task.0 == v) (task.0 == w) mine
          (ne_eqb task.0 w (λ same. differs (sym (eqb-true task.0 v mine) ∙ same)))
          (among-but w v differs phase)
      | inr other ↦ other-of (task.0 == v) (task.0 == w) other (among-but w v differs phase)
    ]
  where
    Q : List Command → Command → Type 0
    Q all c = fills (call_of c) ≡ true → IsPut all (key_of_command c)

    rest : List Command
    rest = commands_but w phase

    own : List Command
    own = commands_of v phase

    all : Bool → List Command
    all b = map (λ task. task.1) (cond (not b) (task ∷ filter (λ task. not (task.0 == w)) phase)
        (filter (λ task. not (task.0 == w)) phase))

    chosen : Bool → List Command
    chosen b = map (λ task. task.1) (cond b (task ∷ filter (λ task. task.0 == v) phase)
        (filter (λ task. task.0 == v) phase))

    later : AreAmong rest own → All (Q (task.1 ∷ rest)) own
    later = All-weaker (Q rest) (Q (task.1 ∷ rest)) (λ c put may. inr (put may)) own

    mine-of :
        (a b : Bool) → a ≡ true → b ≡ false → AreAmong rest own → All (Q (all b)) (chosen a)
    mine-of true false is other among = All-cons (Q (task.1 ∷ rest)) task.1 own
        (λ may. inl (may, refl)) (later among)
    mine-of true true is other among = absurd cc
    mine-of false b is other among = absurd cc

    other-of : (a b : Bool) → a ≡ false → AreAmong rest own → All (Q (all b)) (chosen a)
    other-of true b is among = absurd cc
    other-of false true is among = among
    other-of false false is among = later among

-- and among more
pub among-right : (more all cs : List Command) → AreAmong all cs → AreAmong (more ++ all) cs
among-right more all cs =
    All-weaker (λ c. fills (call_of c) ≡ true → IsPut all (key_of_command c))
    (λ c. fills (call_of c) ≡ true → IsPut (more ++ all) (key_of_command c))
    (λ c put may. put-right more all (key_of_command c) (put may)) cs

-- what holds of all of a phase's commands holds of one worker's
all-of-worker :
    (P : Command → Type 0) (w : ℕ) (phase : Phase) → All P (map (λ task. task.1) phase)
    → All P (commands_of w phase)
all-of-worker P w [] all = All-nil P
all-of-worker P w (task ∷ phase) all =
    of (task.0 == w) (all-of-worker P w phase (All-tail P task.1 (map (λ task. task.1) phase) all))
  where
    of : (b : Bool) → All P (commands_of w phase)
        → All P (map (λ task. task.1) (cond b (task ∷ filter (λ task. task.0 == w) phase)
        (filter (λ task. task.0 == w) phase)))
    of true rest = All-cons P task.1 (commands_of w phase)
        (All-head P task.1 (map (λ task. task.1) phase) all) rest
    of false rest = rest

module _ (m : MapOf) (plan : IsPlan m.chain.shape) where
  abbrev p : Plan
  p = m.chain.shape

  -- a command was answered
  pub claimed-answered :
      (cs cs' : List Command) → ((k : ℕ) → IsPut cs k → IsPut cs' k) → (c : Command)
      → (fills (call_of c) ≡ true → IsPut cs' (key_of_command c))
      → (a : Answer) (before after : SeatOf) → HasRunCommand m c a before after
      → HasClaimed p cs before.chain → HasClaimed p cs' after.chain
  claimed-answered cs cs' more c adds a before after is claimed =
      asks_add_up.more plan more adds claimed is.1.1

  -- the seats met
  pub claimed-met :
      (cs : List Command) (seats : List SeatOf) (before after : SeatOf)
      → HasMetAll m seats before after → HasClaimed p cs before.chain
      → HasClaimed p cs after.chain
  claimed-met cs seats before after met claimed = asks_add_up.rested plan claimed met.grown

  module _ (cs : List Command) where
    abbrev Claimed : SeatOf → Type 0
    Claimed seat = HasClaimed p cs seat.chain

    -- some commands were answered
    pub claimed-commands :
        (commands : List Command) (answers : List Answer) (before after : SeatOf)
        → AreAmong cs commands
        → AreAnswered m commands answers before after → Claimed before → Claimed after
    claimed-commands [] [] before after among is claimed = subst Claimed (sym is) claimed
    claimed-commands [] (a ∷ answers) before after among is claimed = absurd is
    claimed-commands (c ∷ commands) [] before after among is claimed = absurd is
    claimed-commands (c ∷ commands) (a ∷ answers) before after among is claimed =
        claimed-commands commands answers is.0 after
        (All-tail (λ c. fills (call_of c) ≡ true → IsPut cs (key_of_command c))
        c commands among) is.2
        (claimed-answered cs cs (λ k put. put) c
        (All-head (λ c. fills (call_of c) ≡ true → IsPut cs (key_of_command c))
        c commands among) a before is.0 is.1
        claimed)

    -- the workers ran a phase
    pub claimed-phase :
        (phase : Phase) (w : ℕ) (answers : List (List Answer)) (before after : List SeatOf)
        → AreAmong cs (map (λ task. task.1) phase)
        → PhaseRan m phase w answers before after → All Claimed before → All Claimed after
    claimed-phase phase w [] [] [] among ran all = All-nil Claimed
    claimed-phase phase w (mine ∷ others) (s ∷ before) (t ∷ after) among ran all =
        All-cons Claimed t after
        (claimed-commands (commands_of w phase) mine s t
        (all-of-worker (λ c. fills (call_of c) ≡ true → IsPut cs (key_of_command c))
        w phase among) ran.0
        (All-head Claimed s before all))
        (claimed-phase phase (suc w) others before after among ran.1
        (All-tail Claimed s before all))
    claimed-phase phase w _ _ _ among ran all = absurd ran

    -- every two seats met
    pub claimed-meeting : (seats before after : List SeatOf) → AllZip (HasMetAll m seats) before after
        → All Claimed before → All Claimed after
    claimed-meeting seats [] [] met all = All-nil Claimed
    claimed-meeting seats [] (t ∷ after) met all = absurd met
    claimed-meeting seats (s ∷ before) [] met all = absurd met
    claimed-meeting seats (s ∷ before) (t ∷ after) met all =
        All-cons Claimed t after (claimed-met cs seats s t met.0 (All-head Claimed s before all))
        (claimed-meeting seats before after met.1 (All-tail Claimed s before all))

    -- new seats have claimed nothing
    pub claimed-new : (count : ℕ) → All Claimed (new_seats m count)
    claimed-new count =
        All-numbered Claimed (new_seat m) 0 count (λ n low high. asks_add_up.none refl)

-- When a map can be full, for one worker at each of its commands; and that all commands are its own.
use Rattle.std.proofs.Common.{◌≡◌, ◌∙◌, ◌<◌, ℕ, zero, suc, List, [], ◌∷◌, ◌++◌, Some, map, take, ap, sym, subst, refl, append_assoc, append-nil, arith}
use Rattle.std.specs.Prelude.{slice_get}
use Rattle.std.specs.List.{All, flat_map}
use Rattle.std.proofs.lemmas.Bool.{eq-eqb}
use Rattle.std.proofs.lemmas.List.Elements.{All-head, All-tail}
use Rattle.nb_core.specs.Plans.{Plan}
use Rattle.nb_script.specs.Script.{Phase}
use Rattle.nb_runner.specs.Told.{MayCrowd, all_commands}
use Rattle.nb_runner.specs.Working.{commands_but, commands_of}
use Rattle.nb_runner.specs.declared.answers.Answer.{Answer}
use Rattle.nb_runner.specs.declared.answers.Answer.TheVariants as answer
use Rattle.nb_script.specs.declared.script.Command.{Command}

-- ---- refused commands

-- Where one of these commands found the map full, the commands before it may have filled it: those
-- done, and the earlier ones of these.
abbrev pub AreJust : Plan → (done cs : List Command) → List Answer → Type 0
AreJust p done [] [] = Unit {0}
AreJust p done [] (a ∷ answers) = ⊥
AreJust p done (c ∷ cs) [] = ⊥
AreJust p done (c ∷ cs) (a ∷ answers) = (a ≡ answer.Full → MayCrowd p done c)
    × AreJust p (done ++ c ∷ []) cs answers

-- so many commands, and more
pub just-append :
    (p : Plan) (done cs ds : List Command) (answers more : List Answer) → AreJust p done cs answers
    → AreJust p (done ++ cs) ds more
    → AreJust p done (cs ++ ds) (answers ++ more)
just-append p done [] ds [] more first later =
    subst (λ xs. AreJust p xs ds more) (append-nil done) later
just-append p done [] ds (a ∷ answers) more first later = absurd first
just-append p done (c ∷ cs) ds [] more first later = absurd first
just-append p done (c ∷ cs) ds (a ∷ answers) more first later = (
  first.0,
  just-append p (done ++ c ∷ []) cs ds answers more first.1
      (subst (λ xs. AreJust p xs ds more) (sym (append_assoc done (c ∷ []) cs)) later),
)

-- the same of the command at a place
pub just-at :
    (p : Plan) (done cs : List Command) (answers : List Answer) → AreJust p done cs answers
    → (n : ℕ) (c : Command)
    → slice_get answers n ≡ Some answer.Full → slice_get cs n ≡ Some c
    → MayCrowd p (done ++ take n cs) c
just-at p done [] [] just n c full is = cc
just-at p done [] (a ∷ answers) just n c full is = absurd just
just-at p done (d ∷ cs) [] just n c full is = absurd just
just-at p done (d ∷ cs) (a ∷ answers) just zero c full is =
    let refused : a ≡ answer.Full = cc in
    let same : d ≡ c = cc in
    subst (MayCrowd p (done ++ [])) same (subst (λ xs. MayCrowd p xs d) (sym (append-nil done))
    (just.0 refused))
just-at p done (d ∷ cs) (a ∷ answers) just (suc n) c full is =
    subst (λ xs. MayCrowd p xs c) (append_assoc done (d ∷ []) (take n cs))
    (just-at p (done ++ d ∷ []) cs answers just.1 n c full is)

-- ---- whose the commands are

-- where all workers' numbers are below 1, all commands are the one worker's
pub commands-first :
    (phase : Phase) → All (λ task. task.0 < 1) phase
    → commands_of 0 phase ≡ map (λ task. task.1) phase
commands-first [] below = refl
commands-first (task ∷ phase) below =
    let zero : task.0 ≡ 0 = omega (
      arith,
      All-head (λ (task : ℕ × Command). task.0 < 1) task phase below,
    ) in
    rw (eq-eqb task.0 0 zero)
    (ap (λ cs. task.1 ∷ cs) (commands-first phase
    (All-tail (λ (task : ℕ × Command). task.0 < 1) task phase below)))

-- and none another's
pub commands-none :
    (phase : Phase) → All (λ task. task.0 < 1) phase → commands_but 0 phase ≡ []
commands-none [] below = refl
commands-none (task ∷ phase) below =
    let zero : task.0 ≡ 0 = omega (
      arith,
      All-head (λ (task : ℕ × Command). task.0 < 1) task phase below,
    ) in
    rw (eq-eqb task.0 0 zero)
    (commands-none phase (All-tail (λ (task : ℕ × Command). task.0 < 1) task phase below))

pub commands-lone :
    (phases : List Phase) → All (λ phase. All (λ task. task.0 < 1) phase) phases
    → flat_map (commands_of 0) phases ≡ all_commands phases
commands-lone [] below = refl
commands-lone (phase ∷ phases) below =
    let P : Phase → Type 0 = λ phase. All (λ task. task.0 < 1) phase in
    ap (λ cs. cs ++ flat_map (commands_of 0) phases)
    (commands-first phase (All-head P phase phases below))
    ∙ ap (λ cs. map (λ task. task.1) phase ++ cs)
    (commands-lone phases (All-tail P phase phases below))

use Rattle.std.proofs.Common.{◌≡◌, ◌∙◌, ◌+◌, ◌<◌, ◌≤◌, [], ◌++◌, ℕ, List, ap, append_assoc, append-nil, arith, refl, sym, length, drop, map, replicate, slice_index, subst₂, Vec, Global}
use Rattle.std.proofs.lemmas.List.{drop_all, length-map}
use Rattle.std.proofs.lemmas.Option.{slice_get_within}
use Rattle.nb_runner.specs.Text.{ending_of}
use Rattle.nb_runner.specs.Output.{after_phase, all_lines, left, phase_lines}
use Rattle.nb_script.specs.Script.{Bytes, Phase}
use Rattle.nb_runner.specs.Working.{commands_of}
use Rattle.nb_runner.specs.declared.answers.Answer.{Answer}
use Rattle.nb_script.specs.declared.script.Command.{Command}
use Rattle.nb_runner.proofs.OutputLemmas.{answers-at, count-next, left-after, left-all, none-done, phases-next}
use Rattle.nb_runner.proofs.Saying.{SaysOn, last-said, more-said, next-failed, none-said}
use Rattle.nb_runner.proofs.output.tell.Goals as goal

abbrev lists_of : List (Vec Answer Global) → List (List Answer)
lists_of answers = map (λ list. list.items) answers

abbrev tasks_of : Vec (ℕ × Command) Global → Phase
tasks_of phase = phase.items

pub loop-phase-init : goal.loop-phase-init
loop-phase-init g c =
    let lists = lists_of c.args.answers.now in
    let phases = map tasks_of c.args.phases.now in
    let ending = ending_of c.args.size c.args.entries.now in
    let whole : Bytes = all_lines phases lists ++ ending in (
      subst₂ (λ waiting rest. SaysOn g.W.Sink.contents g.W.Sink.failed c.args.writer.now
          c.args.writer.now [] waiting (all_lines phases rest ++ ending) whole)
          (sym c.new-waiting.ensures)
          (sym (left-all (replicate 256 0) 0 lists (none-done 256)))
          (none-said c.args.writer.now [] whole c.requires.unfailed),
      λ w mine at.
          omega (
            arith,
            none-done 256 w,
            answers-at phases 0 lists c.requires.enough w mine at w (omega arith),
          ),
    )

-- what is left to say begins with the phase
phase-first :
    (phase : Phase) (next : Vec (ℕ × Command) Global) (rest rest' ending : Bytes)
    (lists : List (List Answer)) → phase ≡ next.items
    → rest ≡ phase_lines next.items 0 lists ++ rest'
    → rest ++ ending ≡ phase_lines phase 0 lists ++ (rest' ++ ending)
phase-first phase next rest rest' ending lists same is =
    ap (λ bytes. bytes ++ ending) is ∙ append_assoc (phase_lines next.items 0 lists) rest' ending
    ∙ ap (λ p. phase_lines p 0 lists ++ (rest' ++ ending)) (sym same)

pub loop-phase-preserved : goal.loop-phase-preserved
loop-phase-preserved g c =
    let lists = lists_of c.args.answers.now in
    let all = c.args.phases.now in
    let i = c.loop-phase.phase-index in
    let next = c.phase-item.result in
    let before = c.loop-phase.done in
    let after = c.say_phase.new.done in
    let said = c.in_ok-say_phase.ensures in
    let so_many : length lists ≡ length c.args.answers.now =
    length-map c.args.answers.now (λ list. list.items) in
    let more : (k : ℕ) → 0 ≤ k → k < 0 + length lists
    → slice_index after k ≡ slice_index before k + length (commands_of k next.items) =
    λ k above below.
    said.done k (omega (arith, below, so_many))
    ∙ ap (λ phase. slice_index before k + length (commands_of k phase))
    c.as_slice.ensures.value in (
      more-said c.loop-phase.invariant.0 said.said
          (phase-first c.as_slice.result.now next _
          (all_lines (map tasks_of (drop (i + 1) all)) (left after 0 lists)) _
          (left before 0 lists) c.as_slice.ensures.value
          (phases-next tasks_of all (left before 0 lists) (left after 0 lists)
          i next c.loop-phase-test.true c.phase-item.is
          (left-after next.items before after 0 lists more))),
      λ w mine at.
          omega (
            arith,
            c.loop-phase.invariant.1 w mine at,
            count-next tasks_of all w i next c.loop-phase-test.true c.phase-item.is,
            more w (omega arith) (omega (arith, slice_get_within lists w mine at)),
          ),
    )

pub returns-in_err-say_phase-clause-begun : goal.returns-in_err-say_phase-clause-begun
returns-in_err-say_phase-clause-begun g c =
    let now = left c.loop-phase.done 0 (lists_of c.args.answers.now) in
    let next = c.phase-item.result in
    let failed = next-failed _ c.from_residual.result c.loop-phase.invariant.0
    c.in_err-say_phase.ensures.said
    (phase-first c.as_slice.result.now next _ _ _ now c.as_slice.ensures.value
    (phases-next tasks_of c.args.phases.now now (after_phase next.items 0 now)
    c.loop-phase.phase-index next c.loop-phase-test.true c.phase-item.is refl))
    c.from_residual.ensures.0 in
    failed.begun

-- once all phases are said, the ending is left
ending-left :
    (i : ℕ) (phases : List (Vec (ℕ × Command) Global)) (lists : List (List Answer))
    (ending : Bytes) → length phases ≤ i
    → all_lines (map tasks_of (drop i phases)) lists ++ ending ≡ ending ++ []
ending-left i phases lists ending past =
    ap (λ ps. all_lines (map tasks_of ps) lists ++ ending) (drop_all i phases past)
    ∙ sym (append-nil ending)

pub returns-in_err-say_ending-clause-begun : goal.returns-in_err-say_ending-clause-begun
returns-in_err-say_ending-clause-begun g c =
    let failed = next-failed _ c.from_residual-in_err-say_ending.result c.loop-phase.invariant.0
    c.in_err-say_ending.ensures
    (ending-left c.loop-phase.phase-index c.args.phases.now _ _ c.loop-phase-test.false)
    c.from_residual-in_err-say_ending.ensures.0 in
    failed.begun

pub returns-clause-begun : goal.returns-clause-begun
returns-clause-begun g c =
    let said = last-said (more-said c.loop-phase.invariant.0 c.in_ok-say_ending.ensures
    (ending-left c.loop-phase.phase-index c.args.phases.now _ _ c.loop-phase-test.false))
    c.flush.ensures.flushed refl in
    said.begun

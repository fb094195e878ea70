use Rattle.std.proofs.Common.{◌≡◌, ◌∙◌, ℕ, ◌+◌, ◌-◌, ◌≤◌, suc, sym, ap, arith, [], None, List, slice_get, option_map, Bor}
use Rattle.nb_script.specs.Script.{Bytes, words_in}
use Rattle.nb_script.proofs.script.word_at.Goals as goal

pub loop-passed-preserved : goal.loop-passed-preserved
loop-passed-preserved c = λ i.
    let next : c.loop-passed._passed + 1 + i ≡ c.loop-passed._passed + suc i = omega arith in
    ap (slice_get (words_in c.args.text.now)) next ∙ c.loop-passed.invariant (suc i)
    ∙ ap (λ ws. slice_get ws (suc i)) c.in_ok-after.ensures.some

-- where nothing is left, there is no word at this place or behind it
none_at :
    (words left : List Bytes) (passed place : ℕ) → passed ≤ place
    → ((i : ℕ) → slice_get words (passed + i) ≡ slice_get left i) → left ≡ []
    → slice_get words place ≡ None
none_at words left passed place le same none =
    let e : place ≡ passed + (place - passed) = omega arith in
    ap (slice_get words) e ∙ same (place - passed) ∙ ap (λ ws. slice_get ws (place - passed)) none

pub returns-in_err-after : goal.returns-in_err-after
returns-in_err-after c =
    ap (option_map (λ (word : Bor Bytes). word.now)) c.from_residual.ensures
    ∙ sym (none_at (words_in c.args.text.now) _ c.loop-passed._passed c.args.place (omega arith)
    c.loop-passed.invariant c.in_err-after.ensures.none)

pub returns-in_err-word : goal.returns-in_err-word
returns-in_err-word c =
    ap (option_map (λ (word : Bor Bytes). word.now)) c.from_residual-in_err-word.ensures
    ∙ sym (none_at (words_in c.args.text.now) _ c.loop-passed._passed c.args.place (omega arith)
    c.loop-passed.invariant c.in_err-word.ensures.none)

pub returns : goal.returns
returns c =
    let e : c.args.place ≡ c.loop-passed._passed + 0 = omega arith in
    sym (ap (slice_get (words_in c.args.text.now)) e ∙ c.loop-passed.invariant 0
    ∙ ap (λ ws. slice_get ws 0) c.in_ok-word.ensures.some)

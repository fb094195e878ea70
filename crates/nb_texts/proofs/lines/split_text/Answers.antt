use Rattle.std.proofs.Common.{◌≡◌, ◌≢◌, ◌∙◌, ◌+◌, ◌-◌, ◌<◌, ◌++◌, List, ap, ap₂, append-nil, arith, drop, inr, length, length-drop, refl, subst, sym, take, ℕ}
use Rattle.std.proofs.lemmas.Bool.{eq-eqb, eqb-true}
use Rattle.std.proofs.lemmas.List.{get_or-drop, take_rest}
use Rattle.std.proofs.lemmas.List.Elements.{All-from_get_or}
use Rattle.std.specs.Prelude.{slice_index}
use Rattle.nb_texts.proofs.LinesLemmas.{lines-cut}
use Rattle.nb_texts.proofs.SourceLemmas.{cut-from}
use Rattle.nb_texts.specs.Lines.{lines_in}
use Rattle.nb_texts.specs.Sources.{IsCutBehind}
use Rattle.nb_texts.proofs.lines.split_text.Goals as goal

pub returns-in-Some : goal.returns-in-Some
returns-in-Some c =
    let text = c.args.text.now in
    let at = c.args.at in
    let more = c.in-Some.more in
    let found = c.in-Some.ensures in
    let rest : take (length text - at) (drop at text) ≡ drop at text = take_rest text at in
    let less : at + more < length text
    = omega (arith, found.0.high, ap length rest, length-drop at text) in
    let here : slice_index (drop at text) more ≡ 10
    = ap (λ bytes. slice_index bytes more) (sym rest)
    ∙ eqb-true (slice_index (take (length text - at) (drop at text)) more) 10 found.1 in
    let is : slice_index text (at + more) ≡ 10 = sym (get_or-drop at text more 0) ∙ here in
    let before : (k : ℕ) → k < more → slice_index (drop at text) k ≢ 10
    = λ k less is. found.0.before k (omega arith) less
    (eq-eqb (slice_index (take (length text - at) (drop at text)) k) 10
    (ap (λ bytes. slice_index bytes k) rest ∙ is)) in
    record {
      lines =
          lines-cut text (at + more) less is
          ∙ ap₂ (λ front back. lines_in front ++ lines_in back) (sym c.split_at.ensures.front)
          (sym c.split_at.ensures.back);
      cut =
          subst (λ (front : List ℕ). IsCutBehind at text front c.split_at.result.1.now)
          (sym c.split_at.ensures.front)
          (subst (λ (behind : List ℕ). IsCutBehind at text (take (at + more + 1) text) behind)
          (sym c.split_at.ensures.back) (cut-from text at more less here before));
    }

pub returns-in-None-clause-cut : goal.returns-in-None-clause-cut
returns-in-None-clause-cut c =
    let text = c.args.text.now in
    let at = c.args.at in
    let none = c.in-None.ensures in
    let rest : take (length text - at) (drop at text) ≡ drop at text = take_rest text at in
    record {
      line = drop at text;
      one = All-from_get_or (λ byte. byte ≢ 10) (drop at text) 0
          (λ k less is. none k (omega arith) (omega (arith, less, ap length rest))
          (eq-eqb (slice_index (take (length text - at) (drop at text)) k) 10
          (ap (λ bytes. slice_index bytes k) rest ∙ is)));
      whole = sym (append-nil text);
      cut = inr (refl, refl);
    }

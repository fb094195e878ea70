-- What is said through the buffer, one part after another.
use Rattle.std.proofs.Common.{◌≡◌, ◌∙◌, ℕ, suc, Bool, false, Result, Ok, Err, IfErr, OnOk, is_err, ◌+◌, ◌<◌, List, [], ◌∷◌, ◌++◌, Option, ap, sym, subst, refl, length, drop, get_or, append_assoc, append-nil, add-one}
use Rattle.std.proofs.Math.Seq.{drop-cons}
use Rattle.std.specs.List.{flat_map}
use Rattle.std.specs.Result.{IsErr}
use Rattle.std.specs.Io.KnownBytes.{Appends}
use Rattle.std.proofs.KnownBytes.{Appends-nil, Appends-trans}
use Rattle.nb_script.specs.Script.{Bytes}
use Rattle.nb_script.specs.Streams.{AppendsSome}
use Rattle.nb_script.specs.declared.streams.Failed.{Failed}
use Rattle.nb_runner.specs.Output.{HasSaid, Says}

-- something of the whole was said, and this is the rest
pub record SaysOn {W : Type 0} (contents : W → Option Bytes) (failed : W → Bool)
    (before after : W) (waiting waiting' rest whole : Bytes) : Type 0 where
  pub text : Bytes
  pub said : HasSaid contents failed before after waiting waiting' text (Ok tt)
  pub all : text ++ rest ≡ whole

module _ {W : Type 0} {contents : W → Option Bytes} {failed : W → Bool} where
  said-nothing :
      (w : W) (p : Bytes) → failed w ≡ false → HasSaid contents failed w w p p [] (Ok tt)
  said-nothing w p unfailed = record {
    said = record {
      out = [];
      appended = Appends-nil (contents w);
      is = append-nil p;
    };
    begun = tt;
    marks = unfailed;
  }

  -- one text after another, of which the second may have failed
  pub said-both :
      {a b c : W} {p q r first second : Bytes} {result : Result (Unit {0}) Failed}
      → HasSaid contents failed a b p q first (Ok tt)
      → HasSaid contents failed b c q r second result
      → HasSaid contents failed a c p r (first ++ second) result
  said-both {a = a} {b = b} {c = c} {p = p} {q = q} {r = r} {first = first} {second = second}
      {result = Ok x} one two =
      let s : Says (contents a) p (contents b) q first = one.said in
      let t : Says (contents b) q (contents c) r second = two.said in
      record {
        said = record {
          out = s.out ++ t.out;
          appended = Appends-trans _ _ _ s.out t.out s.appended t.appended;
          is = sym (append_assoc p first second) ∙ ap (λ bytes. bytes ++ second) s.is
              ∙ append_assoc s.out q second
              ∙ ap (λ bytes. s.out ++ bytes) t.is ∙ sym (append_assoc s.out t.out r);
        };
        begun = tt;
        marks = two.marks;
      }
  said-both {a = a} {b = b} {c = c} {p = p} {q = q} {r = r} {first = first} {second = second}
      {result = Err e} one two =
      let s : Says (contents a) p (contents b) q first = one.said in
      let t : AppendsSome (contents b) (contents c) (q ++ second) = two.begun in
      record {
        said = tt;
        begun = record {
          out = s.out ++ t.out;
          missing = t.missing;
          are = append_assoc s.out t.out t.missing ∙ ap (λ bytes. s.out ++ bytes) t.are
              ∙ sym (append_assoc s.out q second)
              ∙ ap (λ bytes. bytes ++ second) (sym s.is) ∙ append_assoc p first second;
          appended = Appends-trans _ _ _ s.out t.out s.appended t.appended;
        };
        marks = two.marks;
      }

  -- where a part failed, the whole did
  pub part-failed :
      {a b : W} {p q part : Bytes} {e : Failed} (rest : Bytes) (result : Result (Unit {0}) Failed)
      → HasSaid contents failed a b p q part (Err e) → IsErr result
      → HasSaid contents failed a b p q (part ++ rest) result
  part-failed rest (Ok x) h err = absurd cc
  part-failed {a = a} {b = b} {p = p} {part = part} rest (Err e) h err =
      let some : AppendsSome (contents a) (contents b) (p ++ part) = h.begun in
      record {
        said = tt;
        begun = record {
          out = some.out;
          missing = some.missing ++ rest;
          are = sym (append_assoc some.out some.missing rest)
              ∙ ap (λ bytes. bytes ++ rest) some.are ∙ append_assoc p part rest;
          appended = some.appended;
        };
        marks = h.marks;
      }

  -- ---- one part after another of a whole

  pub none-said :
      (w : W) (p whole : Bytes) → failed w ≡ false → SaysOn contents failed w w p p whole whole
  none-said w p whole unfailed = record {
    text = [];
    said = said-nothing w p unfailed;
    all = refl;
  }

  pub more-said :
      {a b c : W} {p q r part rest rest' whole : Bytes}
      → SaysOn contents failed a b p q rest whole → HasSaid contents failed b c q r part (Ok tt)
      → rest ≡ part ++ rest' → SaysOn contents failed a c p r rest' whole
  more-said {part = part} {rest' = rest'} so_far said next = record {
    text = so_far.text ++ part;
    said = said-both so_far.said said;
    all = append_assoc so_far.text part rest' ∙ ap (λ bytes. so_far.text ++ bytes) (sym next)
        ∙ so_far.all;
  }

  -- the next part failed
  pub next-failed :
      {a b c : W} {p q r part rest whole : Bytes} {e : Failed} (rest' : Bytes)
      (result : Result (Unit {0}) Failed) → SaysOn contents failed a b p q rest whole → HasSaid contents failed b c q r part (Err e)
      → rest ≡ part ++ rest' → IsErr result → HasSaid contents failed a c p r whole result
  next-failed {a = a} {c = c} {p = p} {r = r} rest' result so_far said next err =
      subst (λ text. HasSaid contents failed a c p r text result)
      (ap (λ bytes. so_far.text ++ bytes) (sym next) ∙ so_far.all)
      (said-both so_far.said (part-failed rest' result said err))

  -- the last part, which may have failed
  pub last-said :
      {a b c : W} {p q r part rest whole : Bytes} {result : Result (Unit {0}) Failed}
      → SaysOn contents failed a b p q rest whole → HasSaid contents failed b c q r part result
      → rest ≡ part → HasSaid contents failed a c p r whole result
  last-said {a = a} {c = c} {p = p} {r = r} {result = result} so_far said is =
      subst (λ text. HasSaid contents failed a c p r text result)
      (ap (λ bytes. so_far.text ++ bytes) (sym is) ∙ so_far.all) (said-both so_far.said said)

  -- where nothing waits, the text goes out at once
  pub written :
      {a b : W} {p q text : Bytes} (result : Result (Unit {0}) Failed) → p ≡ [] → q ≡ []
      → OnOk result (Appends (contents a) (contents b) text)
      → IfErr result (λ e. AppendsSome (contents a) (contents b) text)
      → failed b ≡ is_err result → HasSaid contents failed a b p q text result
  written {text = text} (Ok x) before after gone some marks = record {
    said = record {
      out = text;
      appended = gone;
      is = ap (λ bytes. bytes ++ text) before ∙ sym (append-nil text)
          ∙ ap (λ bytes. text ++ bytes) (sym after);
    };
    begun = tt;
    marks = marks;
  }
  written {a = a} {b = b} {text = text} (Err e) before after gone some marks = record {
    said = tt;
    begun = subst (λ bytes. AppendsSome (contents a) (contents b) (bytes ++ text)) (sym before) some;
    marks = marks;
  }

-- ---- items, each with its text

module _ {X : Type 0} (f : X → Bytes) (xs : List X) where
  pub texts-at : (i : ℕ) (x : X) → i < length xs
      → flat_map f (drop i xs) ≡ f (get_or xs i x) ++ flat_map f (drop (i + 1) xs)
  texts-at i x below = ap (flat_map f) (drop-cons xs i x below)
      ∙ ap (λ n. f (get_or xs i x) ++ flat_map f (drop n xs)) (sym (add-one i))

  pub texts-next : (i : ℕ) (x : X) → i < length xs → x ≡ get_or xs i x
      → flat_map f (drop i xs) ≡ f x ++ flat_map f (drop (i + 1) xs)
  texts-next i x below is =
      ap (flat_map f) (drop-cons xs i x below ∙ ap (λ y. y ∷ drop (suc i) xs) (sym is))
      ∙ ap (λ n. f x ++ flat_map f (drop n xs)) (sym (add-one i))

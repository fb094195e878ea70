-- What clap's getters read, by the rows of what it found.
use Rattle.std.proofs.Common.{◌≡◌, ◌∙◌, ℕ, ap, sym, refl, List, Option, Some, None, Result, codes, IfSome, IfNone}
use Rattle.std.specs.Prelude.{option_and_then}
use Rattle.std.specs.Str.Parse.{ExplainsUnsignedError, HasUnsignedDigitsIfOk, ParsesUnsigned}
use Rattle.std.specs.declared.num.ParseIntError.{ParseIntError}
use Rattle.clap.specs.declared.parser.matches.Found.{Found}
use Rattle.clap.specs.Matches.{ReadsOne}
use Rattle.clap.specs.Words.{Text, first_of, first_value, one_text, rows_of}
use Rattle.clap.proofs.WalkLemmas.{first_value-rows, one_text-rows}
use Rattle.nb_core.specs.Plans.{Plan}
use Rattle.nb_script.specs.Options.{AreOptionsOf, number_in, plan_asked, tuned_plan, u32_of}
use Rattle.nb_script.proofs.TextLemmas.{u32_read, u32_refused}

same_value : {X : Type 0} {a b : X} → Some a ≡ Some b → a ≡ b
same_value e = cc

-- what `from_str` gives for a `u32`
abbrev Gives : List ℕ → Result ℕ ParseIntError → Type 0
Gives bs r = ParsesUnsigned 32 10 bs r × ExplainsUnsignedError 10 bs r × HasUnsignedDigitsIfOk bs r

-- a number that `get_one` gives
pub number_found : (f : Found) (name : Text) (n : ℕ) → (one_text f name ≡ None → Some n ≡ None)
    → ((t : List ℕ) → one_text f name ≡ Some t → ReadsOne Gives t (Some n))
    → number_in name (rows_of f) ≡ Some n
number_found f name n none value = go (one_text f name) refl
  where
    go : (o : Option Text) → one_text f name ≡ o → number_in name (rows_of f) ≡ Some n
    go None e =
        let bad : Some n ≡ None = none e in
        cc
    go (Some t) e = ap (option_and_then u32_of) (sym (one_text-rows f name) ∙ e)
        ∙ u32_read ParseIntError t n (value t e).0

-- and where it gives none
number_missing :
    (f : Found) (name : Text) → ((t : List ℕ) → one_text f name ≡ Some t → ReadsOne Gives t None)
    → number_in name (rows_of f) ≡ None
number_missing f name value = go (one_text f name) refl
  where
    go : (o : Option Text) → one_text f name ≡ o → number_in name (rows_of f) ≡ None
    go None e = ap (option_and_then u32_of) (sym (one_text-rows f name) ∙ e)
    go (Some t) e = ap (option_and_then u32_of) (sym (one_text-rows f name) ∙ e)
        ∙ u32_refused t (value t e).0 (value t e).1.0

-- where an option has no number there is no plan
pub none_found :
    (f : Found) (name : Text) (r : Option Plan)
    → ((t : List ℕ) → one_text f name ≡ Some t → ReadsOne Gives t None)
    → ((plan : Plan) → AreOptionsOf (rows_of f) plan
    → (n : ℕ) × (number_in name (rows_of f) ≡ Some n)) → IfNone r ((plan : Plan)
    → AreOptionsOf (rows_of f) plan → ⊥)
none_found f name (Some p) value has = tt
none_found f name None value has = λ plan x.
    let bad : None ≡ Some (has plan x).0 = sym (number_missing f name value) ∙ (has plan x).1 in
    cc

-- the text of the plan, if there is one
pub text_is :
    (f : Found) (given text : Option Text) → given ≡ first_value f (codes "plan") → given ≡ text
    → first_of (codes "plan") (rows_of f) ≡ text
text_is f given text first is = sym (first_value-rows f (codes "plan")) ∙ sym first ∙ is

-- the plan of the numbers and the text that the getters give
module _ (f : Found) (bits generations seats stripes reprobes chunk : ℕ)
    (has_bits : number_in (codes "bits") (rows_of f) ≡ Some bits)
    (has_generations : number_in (codes "generations") (rows_of f) ≡ Some generations)
    (has_seats : number_in (codes "seats") (rows_of f) ≡ Some seats)
    (has_stripes : number_in (codes "stripes") (rows_of f) ≡ Some stripes)
    (has_reprobes : number_in (codes "reprobes") (rows_of f) ≡ Some reprobes)
    (has_chunk : number_in (codes "chunk") (rows_of f) ≡ Some chunk) where
  abbrev asked : Option Plan
  asked = option_and_then (λ p. tuned_plan p reprobes chunk)
      (plan_asked (first_of (codes "plan") (rows_of f)) bits generations seats stripes)

  found : (plan : Plan) → asked ≡ Some plan → AreOptionsOf (rows_of f) plan
  found plan h = record {
    bits = bits;
    generations = generations;
    seats = seats;
    stripes = stripes;
    reprobes = reprobes;
    chunk = chunk;
    bits_found = has_bits;
    generations_found = has_generations;
    seats_found = has_seats;
    stripes_found = has_stripes;
    reprobes_found = has_reprobes;
    chunk_found = has_chunk;
    plan_found = h;
  }

  found_is : (plan : Plan) → AreOptionsOf (rows_of f) plan → asked ≡ Some plan
  found_is plan x =
      let same_bits : bits ≡ x.bits = same_value (sym has_bits ∙ x.bits_found) in
      let same_generations : generations ≡ x.generations =
      same_value (sym has_generations ∙ x.generations_found) in
      let same_seats : seats ≡ x.seats = same_value (sym has_seats ∙ x.seats_found) in
      let same_stripes : stripes ≡ x.stripes = same_value (sym has_stripes ∙ x.stripes_found) in
      let same_reprobes : reprobes ≡ x.reprobes =
      same_value (sym has_reprobes ∙ x.reprobes_found) in
      let same_chunk : chunk ≡ x.chunk = same_value (sym has_chunk ∙ x.chunk_found) in
      rw (same_bits, same_generations, same_seats, same_stripes, same_reprobes, same_chunk)
      x.plan_found

  -- where none is asked for there is none
  pub none_asked :
      (r : Option Plan) → asked ≡ None
      → IfNone r ((plan : Plan) → AreOptionsOf (rows_of f) plan → ⊥)
  none_asked (Some plan) none = tt
  none_asked None none = λ plan x.
      let bad : None ≡ Some plan = sym none ∙ found_is plan x in
      cc

  -- is found where it is made, and else none is
  pub settled :
      (r : Option Plan) → r ≡ asked
      → IfSome r (AreOptionsOf (rows_of f))
      × IfNone r ((plan : Plan) → AreOptionsOf (rows_of f) plan → ⊥)
  settled (Some plan) is = (found plan (sym is), tt)
  settled None is = (
    tt,
    λ plan x. let bad : None ≡ Some plan = is ∙ found_is plan x in
        cc,
  )

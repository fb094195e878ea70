-- What the words of nbrun's command line give.
use Rattle.std.specs.Prelude.{◌≡◌, ◌≢◌, ◌==◌, ◌^◌, ◌⊎◌, ℕ, pos, List, [], ◌∷◌, Option, Some, None, option_and_then, option_map, if◌then◌else◌, nat_lt, codes}
use Rattle.std.specs.Result.{result_ok}
use Rattle.std.specs.List.{slice_split}
use Rattle.std.specs.Str.Parse.{without_leading_plus}
use Rattle.clap.specs.Words.{App, IsAmong, Row, Rule, Text, fault_of, first_of, matches_of, new_app, new_rule, one_of, with_rule}
use Rattle.clap.specs.declared.error.kind.ErrorKind.{ErrorKind}
use Rattle.clap.specs.declared.error.kind.ErrorKind.TheVariants as kind
use Rattle.clap.specs.declared.error.kind.ErrorKind.TheVariants.{DisplayHelp}
use Rattle.nb_script.specs.declared.options.OptionFault.{OptionFault}
use Rattle.nb_script.specs.declared.options.OptionFault.TheVariants.{Usage, Help, OutOfMemory}
use Rattle.nb_core.specs.Digits.{number_spelled}
use Rattle.nb_core.specs.Plans.{Plan, checked_chunk, checked_plan, checked_reprobes, checked_shape}
use Rattle.clap.specs.declared.builder.ArgAction.TheVariants.{Set}
use Rattle.clap.specs.declared.builder.value_parser.ValueParser.{ValueParser}
use Rattle.clap.specs.declared.builder.value_parser.ValueParser.TheVariants.{Signed}

-- ---- the command

-- the option --NAME, which takes one value
abbrev pub option_rule : Text → Rule
option_rule name = record (new_rule name) { long = Some name; action = Some Set; value_names = 1 }

-- the option --NAME, which takes a value that the parser checks, and has a default
abbrev pub checked_rule : Text → ValueParser → Text → Rule
checked_rule name parser default =
    record (option_rule name) { parser = Some parser; defaults = default ∷ [] }

-- the same, whose value is a number from low to high
abbrev pub number_rule : Text → ℕ → ℕ → Text → Rule
number_rule name low high default = checked_rule name (Signed (pos low) (pos high)) default

-- the options for the tables of a map that doubles, for its seats and for its stripes
abbrev pub with_map : App → App
with_map app =
    with_rule (with_rule (with_rule (with_rule app
    (number_rule (codes "bits") 2 12 (codes "4")))
    (number_rule (codes "generations") 1 8 (codes "4")))
    (number_rule (codes "seats") 1 8 (codes "1")))
    (number_rule (codes "stripes") 1 8 (codes "1"))

-- the options for how a map grows, and for its tables one by one
abbrev pub with_growth : App → App
with_growth app =
    with_rule (with_rule (with_rule app
    (number_rule (codes "reprobes") 1 4294967295 (codes "4294967295")))
    (number_rule (codes "chunk") 4 1024 (codes "8")))
    (option_rule (codes "plan"))

-- the command line of nbrun
abbrev pub nbrun : App
nbrun = with_growth (with_map (new_app (codes "nbrun")))

-- ---- what a text says

-- the numbers, where each text writes one
abbrev pub numbers_of : List Text → Option (List ℕ)
numbers_of [] = Some []
numbers_of (t ∷ ts) =
    option_and_then (λ n. option_map (λ ns. n ∷ ns) (numbers_of ts)) (number_spelled t)

-- the exponents of a plan: numbers, with one comma (44) between two
abbrev pub exponents_of : Text → Option (List ℕ)
exponents_of text = numbers_of (slice_split (λ b. b == 44) text)

-- ---- what the words give

-- the number that a text writes, as a `u32` is read: it has to fit, and a plus may precede it
abbrev pub u32_of : Text → Option ℕ
u32_of text = option_and_then (λ n. if nat_lt n (2 ^ 32) then Some n else None)
    (number_spelled (without_leading_plus text))

-- the number that stands for an option in what clap found
abbrev pub number_in : Text → List Row → Option ℕ
number_in name rows = option_and_then u32_of (one_of name rows)

-- the plan of the exponents that a text writes
abbrev pub plan_of_text : Text → ℕ → ℕ → Option Plan
plan_of_text text seats stripes =
    option_and_then (λ es. result_ok (checked_plan es seats stripes)) (exponents_of text)

-- the same, or where there is no text the plan of tables that double
abbrev pub plan_asked : Option Text → ℕ → ℕ → ℕ → ℕ → Option Plan
plan_asked (Some text) bits generations seats stripes = plan_of_text text seats stripes
plan_asked None bits generations seats stripes =
    result_ok (checked_shape bits generations seats stripes)

-- the plan with this reprobe limit and this chunk
abbrev pub tuned_plan : Plan → ℕ → ℕ → Option Plan
tuned_plan plan reprobes chunk =
    option_and_then (λ p. result_ok (checked_chunk p chunk))
    (result_ok (checked_reprobes plan reprobes))

-- the plan is of the text and the numbers that clap found
pub record AreOptionsOf (rows : List Row) (plan : Plan) : Type 0 where
  pub bits : ℕ
  pub generations : ℕ
  pub seats : ℕ
  pub stripes : ℕ
  pub reprobes : ℕ
  pub chunk : ℕ
  pub bits_found : number_in (codes "bits") rows ≡ Some bits
  pub generations_found : number_in (codes "generations") rows ≡ Some generations
  pub seats_found : number_in (codes "seats") rows ≡ Some seats
  pub stripes_found : number_in (codes "stripes") rows ≡ Some stripes
  pub reprobes_found : number_in (codes "reprobes") rows ≡ Some reprobes
  pub chunk_found : number_in (codes "chunk") rows ≡ Some chunk
  pub plan_found : option_and_then (λ p. tuned_plan p reprobes chunk)
      (plan_asked (first_of (codes "plan") rows) bits generations seats stripes) ≡ Some plan

-- clap takes the words, and the plan is of what they give for each option, or its default
abbrev pub AreGiven : List Text → Plan → Type 0
AreGiven words plan = (fault_of nbrun words ≡ []) × AreOptionsOf (matches_of nbrun words) plan

-- ---- when there are no options

-- clap refuses the words, and not by a request for help
abbrev pub AreRefused : List Text → Type 0
AreRefused words = (k : ErrorKind) × IsAmong k (fault_of nbrun words) × (k ≢ DisplayHelp)

-- clap takes the words, but they give no plan
abbrev pub GivesNone : List Text → Type 0
GivesNone words =
    (fault_of nbrun words ≡ []) × ((plan : Plan) → AreOptionsOf (matches_of nbrun words) plan → ⊥)

-- when each fault comes
abbrev pub IsDue : List Text → OptionFault → Type 0
IsDue words Usage = AreRefused words ⊎ GivesNone words
IsDue words (Help text) = IsAmong DisplayHelp (fault_of nbrun words)
IsDue words OutOfMemory = Unit {0}

-- the fault that a kind of clap's error comes to, where the text of help may find no memory
abbrev pub ComesTo : ErrorKind → OptionFault → Type 0
ComesTo k Usage = (k ≢ kind.OutOfMemory) × (k ≢ DisplayHelp)
ComesTo k (Help text) = k ≡ DisplayHelp
ComesTo k OutOfMemory = (k ≡ kind.OutOfMemory) ⊎ (k ≡ DisplayHelp)

-- What the words give, and when each fault comes.
use Rattle.std.proofs.Common.{◌≡◌, ◌∙◌, ◌⊎◌, sym, subst, inl, inr, refl, true, List, []}
use Rattle.clap.specs.Words.{App, HasMatchesOf, IsAmong, Row, Text, fault_of, found_of, is_simple_and_free, matches_of, rows_of}
use Rattle.clap.specs.declared.error.kind.ErrorKind.{ErrorKind}
use Rattle.clap.specs.declared.error.kind.ErrorKind.TheVariants as kind
use Rattle.clap.specs.declared.error.kind.ErrorKind.TheVariants.{DisplayHelp}
use Rattle.clap.specs.declared.parser.matches.ArgMatches.{ArgMatches}
use Rattle.nb_core.specs.Plans.{Plan}
use Rattle.nb_script.specs.declared.options.OptionFault.{OptionFault}
use Rattle.nb_script.specs.declared.options.OptionFault.TheVariants.{Usage, Help, OutOfMemory}
use Rattle.nb_script.specs.Options.{AreGiven, ComesTo, GivesNone, IsDue, AreOptionsOf, AreRefused, nbrun}

-- the fault of an error of clap's
pub is_due : (app : App) (words : List Text) (k : ErrorKind) (fault : OptionFault) → app ≡ nbrun
    → (is_simple_and_free app ≡ true → (k ≡ kind.OutOfMemory) ⊎ IsAmong k (fault_of app words))
    → ComesTo k fault → IsDue words fault
is_due app words k fault is kinds h = go fault
    (subst (λ (a : App). is_simple_and_free a ≡ true → (k ≡ kind.OutOfMemory)
    ⊎ IsAmong k (fault_of a words)) is kinds refl) h
  where
    go : (x : OptionFault) → (k ≡ kind.OutOfMemory) ⊎ IsAmong k (fault_of nbrun words) → ComesTo k x
        → IsDue words x
    go Usage (inl memory) h = absurd (h.0 memory)
    go Usage (inr among) h = inl (k, among, h.1)
    go (Help text) (inl memory) h =
        let bad : kind.OutOfMemory ≡ DisplayHelp = sym memory ∙ h in
        cc
    go (Help text) (inr among) h = subst (λ (x : ErrorKind). IsAmong x (fault_of nbrun words))
        h among
    go OutOfMemory faults h = tt

is_taken :
    (app : App) (words : List Text) → app ≡ nbrun
    → (is_simple_and_free app ≡ true → fault_of app words ≡ []) → fault_of nbrun words ≡ []
is_taken app words is kinds = subst (λ (a : App). is_simple_and_free a ≡ true
    → fault_of a words ≡ []) is kinds refl

rows_are :
    (app : App) (words : List Text) (m : ArgMatches) → app ≡ nbrun → HasMatchesOf app words m
    → rows_of (found_of m) ≡ matches_of nbrun words
rows_are app words m is matched = (subst (λ (a : App). HasMatchesOf a words m) is matched refl).0

-- what is found in the matches is what the words give
pub are_given :
    (app : App) (words : List Text) (m : ArgMatches) (plan : Plan) → app ≡ nbrun
    → (is_simple_and_free app ≡ true → fault_of app words ≡ []) → HasMatchesOf app words m
    → AreOptionsOf (rows_of (found_of m)) plan → AreGiven words plan
are_given app words m plan is kinds matched found = (
  is_taken app words is kinds,
  subst (λ (rs : List Row). AreOptionsOf rs plan) (rows_are app words m is matched) found,
)

-- the fault of words that clap takes
pub is_none_due :
    (app : App) (words : List Text) (m : ArgMatches) → app ≡ nbrun
    → (is_simple_and_free app ≡ true → fault_of app words ≡ []) → HasMatchesOf app words m
    → ((plan : Plan) → AreOptionsOf (rows_of (found_of m)) plan → ⊥) → AreRefused words
    ⊎ GivesNone words
is_none_due app words m is kinds matched none = inr (
  is_taken app words is kinds,
  subst (λ (rs : List Row). (plan : Plan) → AreOptionsOf rs plan → ⊥)
      (rows_are app words m is matched) none,
)

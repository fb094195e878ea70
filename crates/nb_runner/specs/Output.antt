-- The output, written through a buffer from the workers' answers, each worker's in one list for all
-- phases.
use Rattle.std.specs.Prelude.{◌≡◌, ℕ, suc, Bool, List, [], ◌∷◌, ◌++◌, IfErr, OnOk, Option, Result, drop, is_err, length, slice_index, take}
use Rattle.std.specs.Io.KnownBytes.{Appends}
use Rattle.std.specs.List.{flat_map}
use Rattle.nb_script.specs.Script.{Bytes, Phase}
use Rattle.nb_script.specs.Streams.{AppendsSome}
use Rattle.nb_script.specs.declared.streams.Failed.{Failed}
use Rattle.nb_runner.specs.Text.{answer_line}
use Rattle.nb_runner.specs.Working.{commands_of}
use Rattle.nb_runner.specs.declared.answers.Answer.{Answer}

-- Some bytes went out, and behind them others wait: with these, the text has been said.
pub record Says (written : Option Bytes) (waiting : Bytes) (written' : Option Bytes)
    (waiting' : Bytes) (text : Bytes) : Type 0 where
  pub out : Bytes
  pub appended : Appends written written' out
  pub is : waiting ++ text ≡ out ++ waiting'

-- What has come of saying a text to a writer, behind the bytes that waited.
pub record HasSaid {W : Type 0} (contents : W → Option Bytes) (failed : W → Bool)
    (before after : W) (waiting waiting' text : Bytes) (result : Result (Unit {0}) Failed) :
    Type 0 where
  pub said : OnOk result (Says (contents before) waiting (contents after) waiting' text)
  -- a beginning of all of it went out, perhaps none and perhaps all
  pub begun : IfErr result (λ _. AppendsSome (contents before) (contents after) (waiting ++ text))
  pub marks : failed after ≡ is_err result

-- ---- the text

-- a phase's lines, from the lists of the workers from number w on: each begins with what the worker
-- was answered in it
abbrev pub phase_lines : Phase → (w : ℕ) → List (List Answer) → Bytes
phase_lines phase w [] = []
phase_lines phase w (mine ∷ others) = flat_map (answer_line w)
    (take (length (commands_of w phase)) mine) ++ phase_lines phase (suc w) others

-- what the lists have behind the phase's answers
abbrev pub after_phase : Phase → (w : ℕ) → List (List Answer) → List (List Answer)
after_phase phase w [] = []
after_phase phase w (mine ∷ others) =
    drop (length (commands_of w phase)) mine ∷ after_phase phase (suc w) others

abbrev pub all_lines : List Phase → List (List Answer) → Bytes
all_lines [] answers = []
all_lines (phase ∷ phases) answers =
    phase_lines phase 0 answers ++ all_lines phases (after_phase phase 0 answers)

-- Each worker from number w on has as many answers as it has commands in these phases.
abbrev pub AreAnswersOf : List Phase → (w : ℕ) → List (List Answer) → Type 0
AreAnswersOf phases w [] = Unit {0}
AreAnswersOf phases w (mine ∷ others) =
    (length mine ≡ length (flat_map (commands_of w) phases)) × AreAnswersOf phases (suc w) others

-- ---- the lists, of which each worker has said so many

-- what is left of the lists of the workers from number w on
abbrev pub left : (done : List ℕ) (w : ℕ) → List (List Answer) → List (List Answer)
left done w [] = []
left done w (mine ∷ others) = drop (slice_index done w) mine ∷ left done (suc w) others

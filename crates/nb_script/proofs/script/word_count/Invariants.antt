use Rattle.std.proofs.Common.{ℕ, ◌≡◌, ◌+◌, ◌≤◌, length}
use Rattle.nb_script.specs.Script.{Bytes, words_in}
use Rattle.nb_script.proofs.script.word_count.Given as goal

pub record HasCounted (text : Bytes) (count : ℕ) (rest : Bytes) : Type 0 where
  -- the words so far, and those that are left, are all
  pub counted : count + length (words_in rest) ≡ length (words_in text)
  pub small : count + length rest ≤ length text

abbrev pub invariant-loop-after : goal.invariant-loop-after
invariant-loop-after l = HasCounted l.text l.count l.rest

abbrev pub decreases-loop-after : goal.decreases-loop-after
decreases-loop-after l = length l.rest

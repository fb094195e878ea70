-- The lines of an input are taken, block after block.
use Rattle.std.proofs.Common.{◌≡◌, ◌∙◌, ◌+◌, ◌^◌, ◌<◌, ◌≤◌, ℕ, Bool, true, false, List, [], ◌++◌, None, Option, Some, IfSome, ap, append_assoc, arith, inl, inr, length, length-append, refl, subst, sym, take}
use Rattle.std.specs.Bool.{IsTrue}
use Rattle.std.specs.Prelude.{◌⊎◌}
use Rattle.nb_core.specs.declared.shapes.TheConstants.{MOST_KEYS}
use Rattle.nb_lines.specs.declared.faults.ProgramFault.TheVariants as fault
use Rattle.nb_lines.specs.declared.faults.ProgramFault.{ProgramFault}
use Rattle.nb_texts.proofs.LinesLemmas.{with-append, with-longer}
use Rattle.nb_texts.proofs.ReadingLemmas.{IsReading, on-known, reading-begun, reading-ended, reading-first, reading-many, reading-more, reading-next}
use Rattle.nb_texts.specs.Catalogs.{IsNoRoom}
use Rattle.nb_texts.specs.Lines.{distinct, lines_in, with_new_lines}
use Rattle.nb_texts.specs.Sources.{HasCut, IsBlock, IsReadFault}
use Rattle.nb_texts.specs.Taking.{LinesAreRefused, AreTooMany, Follows, HasLeft, HasTakenLines, IsEndedBy, IsTooMuch}
use Rattle.nb_texts.specs.declared.memory.Taken.{Taken}

-- ---- in the loop

-- These lines were taken, which are so many; behind them comes what is left of the input.
pub record IsTaking (known now : Option (List ℕ)) (holds : List (List ℕ) → Type 0) (taken : ℕ)
    (rest : List ℕ) : Type 0 where
  pub lines : List (List ℕ)
  pub many : taken ≡ length lines
  pub held : holds lines
  pub reading : IsReading known now lines rest

pub taking-begun :
    (known : Option (List ℕ)) (holds : List (List ℕ) → Type 0) (rest : List ℕ) → holds [] → rest ≡ []
    → IsTaking known known holds 0 rest
taking-begun known holds rest begun empty =
    record { lines = []; many = refl; held = begun; reading = reading-begun known rest empty }

-- the input has ended
pub taking-ended :
    (known now next : Option (List ℕ)) (holds : List (List ℕ) → Type 0) (taken taken' : Taken)
    (rest rest' block : List ℕ) (some : Bool) → IsTaking known now holds taken.lines rest
    → HasCut some now next rest block rest' → some ≡ false → taken'.lines ≡ taken.lines
    → HasTakenLines known taken' holds
taking-ended known now next holds taken taken' rest rest' block some way cut ended same = record {
  lines = way.lines;
  many = same ∙ way.many;
  held = way.held;
  first = reading-first known now way.lines rest taken'.lines (same ∙ way.many) way.reading;
  whole = λ is. reading-ended known now next way.lines rest rest' block some way.reading cut ended;
}

-- a block was left
pub taking-stopped :
    (known now : Option (List ℕ)) (holds holds' : List (List ℕ) → Type 0) (taken : Taken)
    (rest : List ℕ) → IsTaking known now holds taken.lines rest → taken.is_whole ≡ false
    → ((lines : List (List ℕ)) → holds lines → holds' lines) → HasTakenLines known taken holds'
taking-stopped known now holds holds' taken rest way part same = record {
  lines = way.lines;
  many = way.many;
  held = same way.lines way.held;
  first = reading-first known now way.lines rest taken.lines way.many way.reading;
  whole = λ is. absurd (let wrong : false ≡ true = sym part ∙ is in cc);
}

module _
    (known now next : Option (List ℕ)) (holds : List (List ℕ) → Type 0) (taken : ℕ)
    (rest rest' block : List ℕ) (some : Bool) (way : IsTaking known now holds taken rest)
    (cut : HasCut some now next rest block rest')
  where
    read : IsReading known next (way.lines ++ lines_in block) rest'
    read = reading-more known now next way.lines rest rest' block some way.reading cut

    -- a block was taken
    pub taking-more :
        (holds' : List (List ℕ) → Type 0) (taken' : ℕ) → taken' ≡ taken + length (lines_in block)
        → ((lines : List (List ℕ)) → holds lines → holds' (lines ++ lines_in block))
        → IsTaking known next holds' taken' rest'
    taking-more holds' taken' more step = record {
      lines = way.lines ++ lines_in block;
      many = omega (arith, more, way.many, length-append way.lines (lines_in block));
      held = step way.lines way.held;
      reading = read;
    }

    pub taking-left :
        (ahead : ℕ) (leaves : List ℕ → Type 0) → IsBlock ahead block → leaves block
        → HasLeft ahead known taken leaves
    taking-left ahead leaves one left = record {
      block = block;
      is_block = one;
      left = left;
      next = reading-next known now next way.lines rest rest' block some taken way.many way.reading cut;
    }

    pub taking-refused :
        (refuses : List (List ℕ) → Type 0)
        → ((lines more : List (List ℕ)) → holds lines → refuses (lines ++ (lines_in block ++ more)))
        → LinesAreRefused known refuses
    taking-refused refuses told = of known read
      where
        of : (known : Option (List ℕ)) → IsReading known next (way.lines ++ lines_in block) rest'
            → LinesAreRefused known refuses
        of None reading = record {
          lines = way.lines ++ (lines_in block ++ []);
          refused = told way.lines [] way.held;
          are = tt;
        }
        of (Some input) (left, is, same) = record {
          lines = way.lines ++ (lines_in block ++ lines_in (rest' ++ left));
          refused = told way.lines (lines_in (rest' ++ left)) way.held;
          are = sym (same ∙ append_assoc way.lines (lines_in block) (lines_in (rest' ++ left)));
        }

    pub taking-many : 2 ^ 64 ≤ taken + length (lines_in block) → AreTooMany known
    taking-many many =
        reading-many known next (way.lines ++ lines_in block) rest' (2 ^ 64)
        (omega (arith, many, way.many, length-append way.lines (lines_in block))) read

-- ---- what follows of lines that were taken

pub taken-as :
    (known : Option (List ℕ)) (taken : Taken) (holds holds' : List (List ℕ) → Type 0)
    → HasTakenLines known taken holds → ((lines : List (List ℕ)) → holds lines → holds' lines)
    → HasTakenLines known taken holds'
taken-as known taken holds holds' has told = record {
  lines = has.lines;
  many = has.many;
  held = told has.lines has.held;
  first = has.first;
  whole = has.whole;
}

pub left-as :
    (ahead : ℕ) (known : Option (List ℕ)) (taken : ℕ) (leaves leaves' : List ℕ → Type 0)
    → HasLeft ahead known taken leaves → ((block : List ℕ) → leaves block → leaves' block)
    → HasLeft ahead known taken leaves'
left-as ahead known taken leaves leaves' has told =
    record { block = has.block; is_block = has.is_block; left = told has.block has.left; next = has.next }

module _ (known : Option (List ℕ)) (taken : Taken) (holds P : List (List ℕ) → Type 0)
    (has : HasTakenLines known taken holds) (told : (lines : List (List ℕ)) → holds lines → P lines)
  where
    -- of all lines
    pub taken-whole : IsTrue taken.is_whole → IfSome known (λ input. P (lines_in input))
    taken-whole is =
        on-known known (λ input. has.lines ≡ lines_in input) (λ input. P (lines_in input))
        (λ input all. subst P all (told has.lines has.held))
        (has.whole is)

    -- and of the first ones
    pub taken-first :
        (Q : List ℕ → Type 0)
        → ((input : List ℕ) → taken.lines ≤ length (lines_in input) → P (take taken.lines (lines_in input))
        → Q input)
        → IfSome known Q
    taken-first Q told' =
        on-known known
        (λ input. (taken.lines ≤ length (lines_in input)) × (take taken.lines (lines_in input) ≡ has.lines))
        Q
        (λ input is. told' input is.0 (subst P (sym is.1) (told has.lines has.held)))
        has.first

-- what was left of a block that comes behind lines
pub left-told :
    (ahead : ℕ) (known : Option (List ℕ)) (taken : ℕ) (leaves : List ℕ → Type 0)
    (Q : List ℕ → Type 0) → HasLeft ahead known taken leaves
    → ((input block : List ℕ) → IsBlock ahead block → leaves block → Follows taken block input → Q input)
    → IfSome known Q
left-told ahead known taken leaves Q has told =
    on-known known (Follows taken has.block) Q
    (λ input next. told input has.block has.is_block has.left next) has.next

-- ---- why lines were refused

-- they were, or there was another reason
pub ended-or :
    (known : Option (List ℕ)) (told : ProgramFault) (refuses : ProgramFault → List (List ℕ) → Type 0)
    (other : ProgramFault → Type 0) → IsEndedBy known (λ told lines. refuses told lines ⊎ other told) told
    → IsEndedBy known refuses told ⊎ other told
ended-or known told refuses other (inl read) = inl (inl read)
ended-or known told refuses other (inr (inr often)) = inl (inr (inr often))
ended-or known told refuses other (inr (inl refused)) = elim refused.refused [
  | inl is ↦ inl (inr (inl (record { lines = refused.lines; refused = is; are = refused.are })))
  | inr is ↦ inr is
]

module _
    (f : List (List ℕ) → List (List ℕ)) (known : Option (List ℕ)) (told : ProgramFault)
    (ended : IsEndedBy known (λ told lines. IsTooMuch told (f lines)) told)
  where
    pub ended-errors : IsReadFault told ⊎ IsNoRoom told ⊎ (told ≡ fault.TooOften)
    ended-errors = elim ended [
      | inl read ↦ inl read
      | inr (inl refused) ↦ inr refused.refused.errors
      | inr (inr often) ↦ inr (inr often.0)
    ]

    pub ended-too_many : told ≡ fault.FullOfLines
        → IfSome known (λ input. MOST_KEYS < length (distinct (f (lines_in input))))
    ended-too_many is = elim ended [
      | inl (inl read) ↦ absurd (let wrong : fault.Read ≡ fault.FullOfLines = sym read ∙ is in cc)
      | inl (inr memory) ↦ absurd (let wrong : fault.OutOfMemory ≡ fault.FullOfLines = sym memory ∙ is in cc)
      | inr (inl refused) ↦
          on-known known (λ input. refused.lines ≡ lines_in input)
          (λ input. MOST_KEYS < length (distinct (f (lines_in input))))
          (λ input are. subst (λ lines. MOST_KEYS < length (distinct (f lines))) are (refused.refused.too_many is))
          refused.are
      | inr (inr often) ↦ absurd (let wrong : fault.TooOften ≡ fault.FullOfLines = sym often.0 ∙ is in cc)
    ]

    pub ended-too_often :
        ((lines : List (List ℕ)) → length (f lines) ≡ length lines) → told ≡ fault.TooOften
        → IfSome known (λ input. 2 ^ 64 ≤ length (lines_in input))
    ended-too_often many is = elim ended [
      | inl (inl read) ↦ absurd (let wrong : fault.Read ≡ fault.TooOften = sym read ∙ is in cc)
      | inl (inr memory) ↦ absurd (let wrong : fault.OutOfMemory ≡ fault.TooOften = sym memory ∙ is in cc)
      | inr (inl refused) ↦
          on-known known (λ input. refused.lines ≡ lines_in input) (λ input. 2 ^ 64 ≤ length (lines_in input))
          (λ input are.
          omega (arith, refused.refused.too_often is, many refused.lines, ap length are))
          refused.are
      | inr (inr often) ↦ often.1
    ]

-- ---- lines that are entered

-- where these lines are too many, they are with more
pub past-more :
    (lines more : List (List ℕ)) (most : ℕ) → most < length (distinct lines)
    → most < length (distinct (lines ++ more))
past-more lines more most past =
    omega (arith, past, ap length (with-append [] lines more), with-longer (distinct lines) more)

-- and so are they where a block is too much
pub past-block :
    (lines block more : List (List ℕ)) (most : ℕ) → most < length (with_new_lines (distinct lines) block)
    → most < length (distinct (lines ++ (block ++ more)))
past-block lines block more most past =
    subst (λ all. most < length (distinct all)) (append_assoc lines block more)
    (past-more (lines ++ block) more most (omega (arith, past, ap length (with-append [] lines block))))

-- there is no room
pub no-room :
    (told : ProgramFault) (taken : List (List ℕ)) → IsNoRoom told
    → (told ≡ fault.FullOfLines → MOST_KEYS < length (distinct taken)) → IsTooMuch told taken
no-room told taken none full = record {
  errors = inl none;
  too_many = full;
  too_often = λ is. elim none [
    | inl memory ↦ absurd (let wrong : fault.OutOfMemory ≡ fault.TooOften = sym memory ∙ is in cc)
    | inr room ↦ absurd (let wrong : fault.FullOfLines ≡ fault.TooOften = sym room ∙ is in cc)
  ];
}

-- there is no memory
pub no-memory : (told : ProgramFault) (taken : List (List ℕ)) → told ≡ fault.OutOfMemory → IsTooMuch told taken
no-memory told taken memory =
    no-room told taken (inl memory)
    (λ is. absurd (let wrong : fault.OutOfMemory ≡ fault.FullOfLines = sym memory ∙ is in cc))

-- there is no room, or a line comes too often
pub no-count :
    (told : ProgramFault) (taken : List (List ℕ)) → IsNoRoom told ⊎ (told ≡ fault.TooOften)
    → (told ≡ fault.FullOfLines → MOST_KEYS < length (distinct taken))
    → (told ≡ fault.TooOften → 2 ^ 64 ≤ length taken) → IsTooMuch told taken
no-count told taken (inl none) full often = no-room told taken none full
no-count told taken (inr is) full often =
    record { errors = inr is; too_many = full; too_often = often }

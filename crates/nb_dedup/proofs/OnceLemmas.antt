-- Each line of an input is written where it comes first.
use Rattle.std.proofs.Common.{◌≡◌, ◌∙◌, ◌+◌, ◌<◌, ◌≤◌, ℕ, false, true, List, [], ◌∷◌, ◌++◌, None, Option, Some, IfSome, ap, arith, drop, length, subst, sym}
use Rattle.std.specs.Prelude.{min}
use Rattle.std.proofs.KnownBytes.{Appends-nil, Appends-trans}
use Rattle.std.proofs.lemmas.List.{drop_at}
use Rattle.std.proofs.lemmas.List.Concat.{flat_map-append}
use Rattle.std.specs.Io.KnownBytes.{Appends}
use Rattle.nb_core.specs.declared.shapes.TheConstants.{MOST_KEYS}
use Rattle.nb_texts.proofs.Theorems.{kept-more, kept-none, left-told, no-more-room, past-block, with-append, with-grows}
use Rattle.nb_texts.specs.Catalogs.{IsAtRest}
use Rattle.nb_texts.specs.Lines.{distinct, lines_in, text_of_lines, with_new_lines}
use Rattle.nb_texts.specs.Memory.{TellsWhetherFits, ahead_under}
use Rattle.nb_texts.specs.Taking.{HasLeft}
use Rattle.nb_texts.specs.declared.catalog.Catalog.{Catalog}
use Rattle.nb_texts.specs.declared.memory.Load.{Load}
use Rattle.nb_texts.specs.declared.memory.MemoryLimit.{MemoryLimit}
use Rattle.nb_dedup.specs.Limits.{HasPrintedLines, LinesMayNotFit, BlockMayNotFit}

pub printed-none :
    (limit : Option MemoryLimit) (before : Option (List ℕ)) (catalog : Catalog) → IsAtRest catalog
    → catalog.texts ≡ [] → HasPrintedLines limit before before [] catalog
printed-none limit before catalog rest none =
    record { rest = rest; are = none; wrote = Appends-nil before; kept = kept-none limit catalog }

written-more :
    (before now next : Option (List ℕ)) (texts texts' lines : List (List ℕ)) (first : ℕ)
    → Appends before now (text_of_lines texts) → Appends now next (text_of_lines (drop first texts'))
    → first ≡ length texts → texts' ≡ with_new_lines texts lines
    → Appends before next (text_of_lines texts')
written-more before now next texts texts' lines first written more is entered =
    let more-lines = with-grows texts lines in
    let added = more-lines.0 in
    let grown = more-lines.1 in
    let behind : drop first texts' ≡ added
    = ap (drop first) (entered ∙ grown) ∙ drop_at texts added first (sym is) in
    let all : text_of_lines texts ++ text_of_lines (drop first texts') ≡ text_of_lines texts'
    = ap (λ added. text_of_lines texts ++ text_of_lines added) behind
    ∙ sym (flat_map-append (λ line. line ++ 10 ∷ []) texts added)
    ∙ ap text_of_lines (sym (entered ∙ grown)) in
    subst (Appends before next) all
    (Appends-trans before now next (text_of_lines texts) (text_of_lines (drop first texts')) written more)

-- a block was entered, and its new lines were written
pub printed-more :
    (limit : Option MemoryLimit) (before now next : Option (List ℕ)) (lines : List (List ℕ))
    (catalog made catalog' : Catalog) (block : List ℕ) (load : Load) (first : ℕ)
    → HasPrintedLines limit before now lines catalog → made.texts ≡ catalog.texts → IsAtRest catalog'
    → catalog'.texts ≡ with_new_lines made.texts (lines_in block)
    → catalog'.handle.map ≡ made.handle.map → load.lines ≡ length (lines_in block)
    → load.bytes ≡ length block → TellsWhetherFits limit made load true → first ≡ length made.texts
    → Appends now next (text_of_lines (drop first catalog'.texts))
    → HasPrintedLines limit before next (lines ++ lines_in block) catalog'
printed-more limit before now next lines catalog made catalog' block load first printed same rest entered map
    many bytes fits is wrote =
    let known : made.texts ≡ distinct lines = same ∙ printed.are in
    let all : catalog'.texts ≡ distinct (lines ++ lines_in block)
    = entered ∙ ap (λ texts. with_new_lines texts (lines_in block)) known
    ∙ sym (with-append [] lines (lines_in block)) in
    record {
      rest = rest;
      are = all;
      wrote =
          subst (λ texts. Appends before next (text_of_lines texts)) all
          (written-more before now next made.texts catalog'.texts (lines_in block) first
          (subst (λ texts. Appends before now (text_of_lines texts)) (sym known) printed.wrote) wrote is
          entered);
      kept =
          kept-more limit (length (lines ++ lines_in block)) made catalog' load block fits
          (omega (arith, many)) bytes entered map;
    }

-- a block was left
pub printed-left_alone :
    (limit : Option MemoryLimit) (before now : Option (List ℕ)) (lines : List (List ℕ))
    (catalog made : Catalog) → HasPrintedLines limit before now lines catalog → made ≡ catalog
    → HasPrintedLines limit before now lines made
printed-left_alone limit before now lines catalog made printed same = rw same printed

pub printed-over :
    (limit : Option MemoryLimit) (catalog : Catalog) (load : Load) (block : List ℕ)
    → load.lines ≡ length (lines_in block) → load.bytes ≡ length block
    → TellsWhetherFits limit catalog load false → BlockMayNotFit limit catalog block
printed-over limit catalog load block many bytes over = of (length (lines_in block)) (length block) many bytes
  where
    of :
        (n m : ℕ) → load.lines ≡ n → load.bytes ≡ m
        → TellsWhetherFits limit catalog (record { lines = n; bytes = m }) false
    of n m many bytes = rw (sym many, sym bytes) over

-- a block found no room
pub printed-full :
    (limit : Option MemoryLimit) (before now : Option (List ℕ)) (lines more : List (List ℕ))
    (catalog made : Catalog) (block : List ℕ) (load : Load)
    → HasPrintedLines limit before now lines catalog → made.texts ≡ catalog.texts
    → load.lines ≡ length (lines_in block)
    → min (length made.texts + load.lines) MOST_KEYS ≤ made.room
    → made.room < length (with_new_lines made.texts (lines_in block))
    → MOST_KEYS < length (distinct (lines ++ (lines_in block ++ more)))
printed-full limit before now lines more catalog made block load printed same many room past =
    past-block lines (lines_in block) more MOST_KEYS
    (subst (λ texts. MOST_KEYS < length (with_new_lines texts (lines_in block))) (same ∙ printed.are)
    (no-more-room made.texts (lines_in block) load.lines made.room (omega (arith, many)) room past))

-- a block that was left comes behind lines
pub printed-left :
    (limit : Option MemoryLimit) (known : Option (List ℕ)) (taken : ℕ) (catalog : Catalog)
    → HasLeft (ahead_under limit) known taken (BlockMayNotFit limit catalog)
    → IfSome limit (λ limit. IfSome known (λ input. LinesMayNotFit limit input taken catalog))
printed-left None known taken catalog left = tt
printed-left (Some limit) known taken catalog left =
    left-told (ahead_under (Some limit)) known taken (BlockMayNotFit (Some limit) catalog)
    (λ input. LinesMayNotFit limit input taken catalog) left
    (λ input block one over next.
    record { block = block; is_block = one; rest = next.0; next = next.1; over = over })

-- The lines of an input are counted block after block, and the rarest are forgotten.
use Rattle.std.proofs.Common.{◌≡◌, ◌∙◌, ◌+◌, ◌*◌, ◌^◌, ◌<◌, ◌≤◌, ℕ, Bool, true, false, cond, List, [], ◌++◌, None, Option, Some, IfSome, ap, append-nil, arith, length, length-append, map, refl, subst, sym}
use Rattle.std.specs.Prelude.{MatchOption, max, min, nat_le}
use Rattle.std.proofs.lemmas.Bool.{le-leb}
use Rattle.nb_texts.proofs.Theorems.{kept-more, kept-none, left-told, lines-none, no-more-room, past-block, past-more, with-append, with-few, within-distinct, within-none}
use Rattle.nb_texts.specs.Catalogs.{IsAtRest}
use Rattle.nb_texts.specs.Forgetting.{AreLines, FitsAlone, IsTallyWithin}
use Rattle.nb_texts.specs.Lines.{distinct, lines_in, with_new_lines}
use Rattle.nb_texts.specs.Memory.{TellsWhetherFits, ahead_under, bytes_of_map, bytes_of_texts, bytes_to_make, lines_with, load_of, room_at_first, shape_with_room, widened}
use Rattle.nb_texts.specs.Sources.{IsBlock}
use Rattle.nb_texts.specs.Taking.{HasLeft}
use Rattle.nb_texts.specs.Tallies.{IsTally, times}
use Rattle.nb_texts.specs.declared.catalog.Catalog.{Catalog}
use Rattle.nb_texts.specs.declared.memory.Load.{Load}
use Rattle.nb_texts.specs.declared.memory.MemoryLimit.{MemoryLimit}
use Rattle.nb_tally.proofs.CountedLemmas.{counted-all, counted-append, counted-many, counted-none}
use Rattle.nb_tally.specs.Counted.{HasCountedBlocks, IsLeftOut}
use Rattle.nb_tally.specs.Fields.{counted_of}
use Rattle.nb_tally.specs.Forgotten.{Again, Begun, CanForget, Entered, FitsNever, HasCutFor, HasForgotten, HasRoomForLines, HasTallied, HasTalliedMore, IsAlike, IsNarrow, KeepsTold, Never, Tells, ahead_finer}
use Rattle.nb_tally.specs.Limits.{MayNotFit}
use Rattle.nb_tally.specs.declared.fields.Column.{Column}
use Rattle.nb_core.specs.declared.shapes.TheConstants.{MOST_KEYS}
use Rattle.nb_tally.specs.declared.lines_forgotten.Missed.{Missed}
use Rattle.nb_tally.specs.declared.lines_forgotten.RoughTally.{RoughTally}

-- ---- a tally with the same lines and counts

pub same-told :
    (before after : RoughTally) → after.tally.catalog.texts ≡ before.tally.catalog.texts
    → after.tally.counts.items ≡ before.tally.counts.items → after.missed.times ≡ before.missed.times
    → KeepsTold before after
same-told before after texts counts missed = λ lines tells. rw (texts, counts, missed) tells

pub same-ready :
    (before after : RoughTally) → CanForget before → IsAtRest after.tally.catalog
    → after.tally.catalog.texts ≡ before.tally.catalog.texts
    → after.tally.counts.items ≡ before.tally.counts.items → CanForget after
same-ready before after ready rest texts counts = record {
  rest = rest;
  lines = subst AreLines (sym texts) ready.lines;
  tally = (ready.tally.0, rw (texts, counts) ready.tally.1);
}

-- there are no lines
pub ready-none :
    (rough : RoughTally) → IsAtRest rough.tally.catalog → rough.tally.catalog.texts ≡ []
    → rough.tally.counts.items ≡ [] → CanForget rough
ready-none rough rest none zero =
    let within = within-none rough.tally.catalog.texts rough.tally.counts.items none zero in
    record {
      rest = rest;
      lines = subst AreLines (sym none) lines-none;
      tally = (within.counted, within.tally);
    }

-- ---- room is made

pub forgotten-alike : (before then after : RoughTally) → HasForgotten before then → IsAlike then after
    → HasForgotten before after
forgotten-alike before then after forgot same = record {
  cut = forgot.cut;
  middle = forgot.middle;
  tally = λ all tally. rw (same.texts, same.counts) (forgot.tally all tally);
  missed = same.missed ∙ forgot.missed;
}

-- what makes room from a tally makes it from one that is alike
pub made-from :
    {limit : Option MemoryLimit} {most : ℕ} {block : Load} {before then after : RoughTally}
    → IsAlike before then → HasCutFor limit most block then after
    → HasCutFor limit most block before after
made-from alike (Never same) =
    Never (record {
      texts = same.texts ∙ alike.texts;
      counts = same.counts ∙ alike.counts;
      missed = same.missed ∙ alike.missed;
    })
made-from alike (Again made narrow over forgot) = Again (made-from alike made) narrow over forgot

-- a map is narrow that was made for as many lines as one that is, or for so many
pub narrow-more :
    (limit : Option MemoryLimit) (most more : ℕ) (before after : Catalog)
    → after.handle.map.chain.shape ≡ shape_with_room after.room → after.room ≤ max before.room more
    → IsNarrow limit most before → IsNarrow limit (max most more) after
narrow-more None most more before after made wide narrow = record { made = made; room = tt }
narrow-more (Some limit) most more before after made wide narrow =
    record { made = made; room = omega (arith, wide, narrow.room) }

pub narrow-same :
    (limit : Option MemoryLimit) (most : ℕ) (before after : Catalog)
    → after.handle.map.chain.shape ≡ shape_with_room after.room → after.room ≤ before.room
    → IsNarrow limit most before → IsNarrow limit most after
narrow-same None most before after made less narrow = record { made = made; room = tt }
narrow-same (Some limit) most before after made less narrow =
    record { made = made; room = omega (arith, less, narrow.room) }

pub narrow-begun :
    (limit : Option MemoryLimit) (room first : ℕ) (catalog : Catalog)
    → catalog.handle.map.chain.shape ≡ shape_with_room catalog.room
    → MatchOption limit (first ≡ room) (λ limit. first ≡ min room (room_at_first limit))
    → catalog.room ≤ first → IsNarrow limit 0 catalog
narrow-begun None room first catalog made is less = record { made = made; room = tt }
narrow-begun (Some limit) room first catalog made is less =
    record { made = made; room = omega (arith, is, less) }

-- for what is counted of a block
made-for :
    (limit : Option MemoryLimit) (most : ℕ) (load : Load) (counted : List ℕ) (before after : RoughTally)
    → load.lines ≡ length (lines_in counted) → load.bytes ≡ length counted
    → HasCutFor limit most load before after → HasCutFor limit most (load_of counted) before after
made-for limit most load counted before after many bytes made =
    of (length (lines_in counted)) (length counted) many bytes
  where
    of :
        (n m : ℕ) → load.lines ≡ n → load.bytes ≡ m
        → HasCutFor limit most (record { lines = n; bytes = m }) before after
    of n m many bytes = rw (sym many, sym bytes) made

-- ---- block after block

counted-alike :
    (lines : List (List ℕ)) (before then after : RoughTally) → HasTalliedMore lines before then
    → IsAlike then after → HasTalliedMore lines before after
counted-alike lines before then after counted same = record {
  tally = λ all tally. rw (same.texts, same.counts) (counted.tally all tally);
  missed = same.missed ∙ counted.missed;
}

tallied-alike :
    {ahead : ℕ} {limit : Option MemoryLimit} {column : Option Column} {lines : List (List ℕ)} {most : ℕ}
    {rough rough' : RoughTally} → IsAlike rough rough' → HasTallied ahead limit column lines most rough
    → HasTallied ahead limit column lines most rough'
tallied-alike same (Begun none zero nothing) =
    Begun (same.texts ∙ none) (same.counts ∙ zero) (same.missed ∙ nothing)
tallied-alike same (Entered tallied block counted one are more wide made entered) =
    Entered tallied block counted one are more wide made (counted-alike (lines_in counted) _ _ _ entered same)

pub roughly-none :
    (ahead : ℕ) (column : Option Column) (limit : Option MemoryLimit) (forgets : Bool)
    (rough : RoughTally) → IsAtRest rough.tally.catalog → rough.tally.catalog.texts ≡ [] → rough.tally.counts.items ≡ []
    → rough.missed ≡ record { times = 0; cuts = 0 } → IsNarrow limit 0 rough.tally.catalog
    → HasCountedBlocks ahead column limit forgets rough []
roughly-none ahead column limit forgets rough rest none zero nothing narrow =
    let missed = ap (λ (missed : Missed). missed.times) nothing in
    record {
      ready = ready-none rough rest none zero;
      tells =
          subst (Tells rough) (sym (counted-none column))
          (subst (λ missed. IsTallyWithin missed [] rough.tally.catalog.texts rough.tally.counts.items)
          (sym missed) (within-none rough.tally.catalog.texts rough.tally.counts.items none zero));
      exact = λ is.
          subst (λ lines. IsTally lines rough.tally.catalog.texts rough.tally.counts.items)
          (sym (counted-none column))
          (record { are = none; told = zero ∙ ap (map (λ line. times line [])) (sym none) });
      kept = kept-none limit rough.tally.catalog;
      room = omega (arith, ap length none);
      most = 0;
      narrow = narrow;
      tallied = Begun none zero nothing;
      unlimited = λ is. missed;
    }

-- a block was entered, for which room was made
pub roughly-more :
    (ahead : ℕ) (column : Option Column) (limit : Option MemoryLimit) (forgets : Bool)
    (lines : List (List ℕ))
    (rough made rough' : RoughTally) (block counted : List ℕ) (load : Load)
    → HasCountedBlocks ahead column limit forgets rough lines → IsBlock ahead block
    → lines_in counted ≡ counted_of column (lines_in block) → load.lines ≡ length (lines_in block)
    → load.bytes ≡ length counted → KeepsTold rough made
    → TellsWhetherFits limit made.tally.catalog load true
    → ((most : ℕ) → IsNarrow limit most rough.tally.catalog → HasCutFor limit most load rough made)
    → made.tally.catalog.room
    ≤ max rough.tally.catalog.room (2 * (length rough.tally.catalog.texts + load.lines))
    → HasRoomForLines (length made.tally.catalog.texts + load.lines) made.tally.catalog
    → (limit ≡ None → made.missed.times ≡ rough.missed.times)
    → (forgets ≡ false → IsAlike rough made) → CanForget rough'
    → ((all : List (List ℕ)) → Tells made all → Tells rough' (all ++ lines_in counted))
    → HasTalliedMore (lines_in counted) made rough'
    → rough'.tally.catalog.texts ≡ with_new_lines made.tally.catalog.texts (lines_in counted)
    → rough'.tally.catalog.handle.map ≡ made.tally.catalog.handle.map
    → rough'.tally.catalog.room ≡ made.tally.catalog.room → rough'.missed ≡ made.missed
    → HasCountedBlocks ahead column limit forgets rough' (lines ++ lines_in block)
roughly-more ahead column limit forgets lines rough made rough' block counted load has one are many bytes keeps fits cut
    wide room same alike ready told more texts map still missed =
    let among = 2 * (length rough.tally.catalog.texts + length (lines_in block)) in
    let few : load.lines ≡ length (lines_in counted)
    = omega (arith, many, ap length are, counted-many column (lines_in block)) in
    record {
      ready = ready;
      tells =
          subst (Tells rough')
          (ap (λ more. counted_of column lines ++ more) are
          ∙ sym (counted-append column lines (lines_in block)))
          (told (counted_of column lines) (keeps (counted_of column lines) has.tells));
      exact = λ is.
          subst (λ all. IsTally all rough'.tally.catalog.texts rough'.tally.counts.items)
          (ap (λ more. counted_of column lines ++ more) are
          ∙ sym (counted-append column lines (lines_in block)))
          (more.tally (counted_of column lines)
          (rw ((alike is).texts, (alike is).counts) (has.exact is)));
      kept =
          kept-more limit (length (lines ++ lines_in block)) made.tally.catalog rough'.tally.catalog load
          counted fits (omega (arith, few)) bytes texts map;
      room =
          omega (
            arith,
            room,
            few,
            still,
            ap length texts,
            with-few made.tally.catalog.texts (lines_in counted),
          );
      most = max has.most among;
      narrow =
          narrow-more limit has.most among rough.tally.catalog rough'.tally.catalog ready.rest.made
          (omega (arith, wide, still, many)) has.narrow;
      tallied =
          Entered has.tallied block counted one are refl refl
          (made-for limit has.most load counted rough made few bytes (cut has.most has.narrow)) more;
      unlimited = λ is.
          ap (λ (missed : Missed). missed.times) missed ∙ same is ∙ has.unlimited is;
    }

-- a block was left
pub roughly-same :
    (ahead : ℕ) (column : Option Column) (limit : Option MemoryLimit) (forgets : Bool)
    (lines : List (List ℕ))
    (rough made : RoughTally) → HasCountedBlocks ahead column limit forgets rough lines → CanForget made
    → IsAlike rough made → made.tally.catalog ≡ rough.tally.catalog
    → HasCountedBlocks ahead column limit forgets made lines
roughly-same ahead column limit forgets lines rough made has ready alike same = record {
  ready = ready;
  tells =
      same-told rough made alike.texts alike.counts (ap (λ (missed : Missed). missed.times) alike.missed)
      (counted_of column lines) has.tells;
  exact = λ is. rw (alike.texts, alike.counts) (has.exact is);
  kept = rw same has.kept;
  room = rw same has.room;
  most = has.most;
  narrow = rw same has.narrow;
  tallied = tallied-alike alike has.tallied;
  unlimited = λ is. ap (λ (missed : Missed). missed.times) alike.missed ∙ has.unlimited is;
}

-- ---- a refusal

-- there are more lines than any map has room for,
pub roughly-past :
    (ahead : ℕ) (column : Option Column) (limit : Option MemoryLimit) (forgets : Bool)
    (lines more : List (List ℕ))
    (rough : RoughTally) (most : ℕ) → HasCountedBlocks ahead column limit forgets rough lines
    → most < length rough.tally.catalog.texts
    → most < length (distinct (counted_of column (lines ++ more)))
roughly-past ahead column limit forgets lines more rough most has past =
    let counted = counted_of column lines in
    rw (counted-append column lines more)
    (past-more counted (counted_of column more) most
    (omega (
      arith,
      past,
      within-distinct rough.missed.times counted [] rough.tally.catalog.texts rough.tally.counts.items
          has.tells,
      ap (λ lines. length (distinct lines)) (append-nil counted),
    )))

-- or there are with a block
pub roughly-full :
    (ahead : ℕ) (column : Option Column) (limit : Option MemoryLimit) (forgets : Bool)
    (lines more : List (List ℕ))
    (rough made : RoughTally) (block counted : List ℕ) (load : Load)
    → HasCountedBlocks ahead column limit forgets rough lines → KeepsTold rough made
    → lines_in counted ≡ counted_of column (lines_in block) → load.lines ≡ length (lines_in block)
    → HasRoomForLines (length made.tally.catalog.texts + load.lines) made.tally.catalog
    → made.tally.catalog.room < length (with_new_lines made.tally.catalog.texts (lines_in counted))
    → MOST_KEYS < length (distinct (counted_of column (lines ++ (lines_in block ++ more))))
roughly-full ahead column limit forgets lines more rough made block counted load has keeps are many room past =
    let known = counted_of column lines in
    let texts = made.tally.catalog.texts in
    rw (counted-all column lines (lines_in block) more (lines_in counted) are)
    (past-block known (lines_in counted) (counted_of column more) MOST_KEYS
    (omega (
      arith,
      no-more-room texts (lines_in counted) load.lines made.tally.catalog.room
          (omega (arith, many, ap length are, counted-many column (lines_in block))) room past,
      within-distinct made.missed.times known (lines_in counted) texts made.tally.counts.items
          (keeps known has.tells),
      ap length (with-append [] known (lines_in counted)),
    )))

-- a count can't tell how often lines came
pub roughly-often :
    (ahead : ℕ) (column : Option Column) (limit : Option MemoryLimit) (forgets : Bool)
    (lines more : List (List ℕ))
    (rough made : RoughTally) (counted : List (List ℕ))
    → HasCountedBlocks ahead column limit forgets rough lines → KeepsTold rough made
    → ((all : List (List ℕ)) → Tells made all → 2 ^ 64 ≤ length (all ++ counted))
    → 2 ^ 64 ≤ length (counted_of column lines ++ (counted ++ more))
roughly-often ahead column limit forgets lines more rough made counted has keeps often =
    let known = counted_of column lines in
    omega (
      arith,
      often known (keeps known has.tells),
      length-append known counted,
      length-append known (counted ++ more),
      length-append counted more,
    )

-- for what is counted of a block that was left
module _
    (limit : Option MemoryLimit) (column : Option Column) (catalog : Catalog) (load : Load)
    (block counted : List ℕ) (many : load.lines ≡ length (lines_in block))
    (are : lines_in counted ≡ counted_of column (lines_in block)) (bytes : load.bytes ≡ length counted)
  where
    few : load.lines ≡ length (lines_in counted)
    few = omega (arith, many, ap length are, counted-many column (lines_in block))

    pub over-with :
        TellsWhetherFits limit catalog load false → TellsWhetherFits limit catalog (load_of counted) false
    over-with over = of (length (lines_in counted)) (length counted) few bytes
      where
        of :
            (n m : ℕ) → load.lines ≡ n → load.bytes ≡ m
            → TellsWhetherFits limit catalog (record { lines = n; bytes = m }) false
        of n m many bytes = rw (sym many, sym bytes) over

    pub alone-with :
        IfSome limit (λ limit. FitsAlone limit catalog load → ⊥)
        → IfSome limit (λ limit. FitsAlone limit catalog (load_of counted) → ⊥)
    alone-with never = of limit never
      where
        of :
            (limit : Option MemoryLimit) → IfSome limit (λ limit. FitsAlone limit catalog load → ⊥)
            → IfSome limit (λ limit. FitsAlone limit catalog (load_of counted) → ⊥)
        of None never = tt
        of (Some limit) never = λ fits.
            never (record { room = omega (arith, few, fits.room); bytes = rw (few, bytes) fits.bytes })

-- a block that was left comes behind lines, where none are forgotten,
pub counted-left :
    (column : Option Column) (limit : Option MemoryLimit) (known : Option (List ℕ)) (taken : ℕ)
    (catalog : Catalog)
    → HasLeft (ahead_under limit) known taken (IsLeftOut column limit false catalog)
    → IfSome limit (λ limit. IfSome known (λ input. MayNotFit column limit input taken catalog))
counted-left column None known taken catalog left = tt
counted-left column (Some limit) known taken catalog left =
    left-told (ahead_under (Some limit)) known taken (IsLeftOut column (Some limit) false catalog)
    (λ input. MayNotFit column limit input taken catalog) left
    (λ input block one out next.
    record {
      block = block;
      counted = out.counted;
      comes = record { is_block = one; rest = next.0; next = next.1; are = out.are };
      over = out.over;
    })

-- and where some may be
pub roughly-left :
    (column : Option Column) (limit : Option MemoryLimit) (known : Option (List ℕ)) (taken : ℕ)
    (catalog : Catalog)
    → HasLeft (ahead_finer limit) known taken (IsLeftOut column limit true catalog)
    → IfSome limit (λ limit. IfSome known (λ input. FitsNever column limit input taken catalog))
roughly-left column None known taken catalog left = tt
roughly-left column (Some limit) known taken catalog left =
    left-told (ahead_finer (Some limit)) known taken (IsLeftOut column (Some limit) true catalog)
    (λ input. FitsNever column limit input taken catalog) left
    (λ input block one out next.
    record {
      block = block;
      counted = out.counted;
      comes = record { is_block = one; rest = next.0; next = next.1; are = out.are };
      over = out.never refl;
    })

-- ---- a block that fits alone fits where there are no lines

pub none-over :
    (limit : Option MemoryLimit) (before after : Catalog) (block : Load)
    → IfSome limit (λ limit. FitsAlone limit before block)
    → TellsWhetherFits limit after block false → after.texts ≡ []
    → after.handle.map.chain.shape ≡ before.handle.map.chain.shape → after.room ≡ before.room → ⊥
none-over None before after block alone over none shape room = cc
none-over (Some limit) before after block alone over none shape room =
    let few : lines_with after block ≤ after.room
    = omega (arith, ap length none, alone.room, room) in
    let fits : nat_le (lines_with after block) after.room ≡ true = le-leb (lines_with after block) after.room few in
    omega (
      arith,
      over,
      alone.bytes,
      ap (bytes_of_texts limit.each) none,
      ap (λ shape. bytes_of_map shape) shape,
      ap {B = ℕ} (λ b. cond b 0 (bytes_to_make (widened (lines_with after block)) (length after.texts))) fits,
    )

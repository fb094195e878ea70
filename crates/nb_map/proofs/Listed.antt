-- A walk lists the entries that it shows.
use Rattle.std.proofs.Common.{◌≡◌, ◌∙◌, ℕ, Bool, true, false, List, [], ◌∷◌, ◌++◌, reverse, None, Some, ap, refl, subst, sym}
use Rattle.std.specs.List.{All}
use Rattle.std.proofs.lemmas.List.{reverse-append}
use Rattle.std.proofs.lemmas.List.Elements.{All-cons, All-nil}
use Rattle.nb_core.specs.declared.calls.Call.{Call}
use Rattle.nb_core.specs.declared.calls.Reply.{Reply}
use Rattle.nb_map.proofs.Logged.{worked-uncounted}
use Rattle.nb_map.proofs.Made.{made-within}
use Rattle.nb_map.proofs.Swept.{HasSweptTo, come-walked, counted-reads, far-reads, swept-missed, swept-read}
use Rattle.nb_map.proofs.Walked.{held-since}
use Rattle.nb_map.proofs.WholeWalk.{whole_walk}
use Rattle.nb_map.specs.Bulk.{Begun, HasSwept, Kept, Missed, Unwanted, read_as, whole_walk_steps}
use Rattle.nb_map.specs.Maps.{IsMine, MapOf, SeatOf}
use Rattle.nb_map.specs.Promises.{HasWalkedOn}
use Rattle.nb_map.specs.Entries.{HasListed, HasOnlyRead, IsRead}
use Rattle.nb_map.specs.Walks.{HasShownAll, WalkOf}

-- the entries so far are left with this one more, which stays
abbrev pub Lists : List (ℕ × ℕ) → (k n : ℕ) → Bool → List (ℕ × ℕ) → Type 0
Lists entries k n keep more = (keep ≡ true) × (more ≡ entries ++ (k, n) ∷ [])

-- they are what was shown, the oldest first
lists-shown :
    {calls : List (Call × Reply)} {shown entries : List (ℕ × ℕ)}
    → HasSwept Lists [] calls shown entries → reverse entries ≡ shown
lists-shown Begun = refl
lists-shown (Missed swept k) = lists-shown swept
lists-shown (Kept {f = entries} swept k n more step) =
    ap reverse step.1 ∙ reverse-append entries ((k, n) ∷ [])
    ∙ ap (λ rest. (k, n) ∷ rest) (lists-shown swept)
lists-shown (Unwanted swept k n more step reply) = absurd (let wrong : false ≡ true = step.0 in cc)

-- and all calls are reads
lists-reads :
    {calls : List (Call × Reply)} {shown entries : List (ℕ × ℕ)}
    → HasSwept Lists [] calls shown entries → All IsRead calls
lists-reads Begun = All-nil IsRead
lists-reads (Missed {calls} swept k) =
    All-cons IsRead (read_as k None) calls (k, None, refl) (lists-reads swept)
lists-reads (Kept {calls} swept k n more step) =
    All-cons IsRead (read_as k (Some n)) calls (k, Some n, refl) (lists-reads swept)
lists-reads (Unwanted swept k n more step reply) = absurd (let wrong : false ≡ true = step.0 in cc)

module _ {m : MapOf} {before : SeatOf} (mine : IsMine m before) where
  -- so far
  pub list-read :
      {now : SeatOf} {walk : WalkOf} {entries : List (ℕ × ℕ)}
      → HasSweptTo m before Lists [] now walk entries
      → HasOnlyRead m before now (whole_walk_steps m.chain.shape)
  list-read {now} {walk} sweep =
      let reads = lists-reads sweep.swept in
      let same = sweep.come.count ∙ counted-reads sweep.calls before.count reads in
      record {
        made = sweep.calls;
        reads = reads;
        logged = sweep.come.logged;
        worked = λ key. worked-uncounted
            (made-within _ _ (far-reads m before now walk.place sweep.calls reads)
            (sweep.come.steps key).1)
            same;
        count = same;
        own = sweep.come.mine;
      }

  -- at the walk's end
  pub list-all :
      {now after : SeatOf} {walk walk' : WalkOf} {entries : List (ℕ × ℕ)}
      → HasSweptTo m before Lists [] now walk entries
      → HasWalkedOn m now after walk walk' None
      → HasListed before after entries × HasOnlyRead m before after (whole_walk_steps m.chain.shape)
  list-all {after = after} {walk' = walk'} {entries} sweep on =
      let come = come-walked mine None sweep.come on in
      let swept = swept-missed on.read.misses on.read.missed sweep.swept in
      let whole = whole_walk m after walk' sweep.shown come.underway (on.ended refl) in
      let all : HasShownAll before after sweep.shown = record {
        once = whole.once;
        made = on.read.misses ++ sweep.calls;
        logged = come.logged;
        read = swept-read swept;
        held = λ k held. whole.held k (held-since k held come.begun);
      } in
      let listed : (all : HasShownAll before after (reverse entries)) × All IsRead all.made =
      subst (λ shown. (all : HasShownAll before after shown) × All IsRead all.made)
      (sym (lists-shown sweep.swept)) (all, lists-reads swept) in (
        record { all = listed.0; reads = listed.1 },
        list-read (record {
          shown = sweep.shown;
          calls = on.read.misses ++ sweep.calls;
          swept = swept;
          come = come;
        }),
      )

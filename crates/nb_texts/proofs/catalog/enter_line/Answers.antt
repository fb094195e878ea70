use Rattle.std.proofs.Common.{◌≡◌, ◌≢◌, ◌∙◌, arith, [], ◌∷◌, ◌++◌, None, Option, Some, ap, length, refl, subst, subst₂, sym, ℕ}
use Rattle.std.specs.Prelude.{slice_get}
use Rattle.nb_core.specs.Meaning.{IsCrowded}
use Rattle.nb_map.specs.Handles.{HandleOf}
use Rattle.nb_map.specs.Logs.{HasFound}
use Rattle.nb_map.specs.Maps.{MapOf}
use Rattle.nb_map.specs.NamedCalls.{put_if_absent_of, remove_of}
use Rattle.nb_texts.proofs.FindingLemmas.{entered-found, entered-new, get-last, tried-more, tried-none}
use Rattle.nb_texts.proofs.FullLemmas.{all-tried, stopped-full, stopped-many}
use Rattle.nb_texts.proofs.LinesLemmas.{grown-none, grown-push}
use Rattle.nb_texts.proofs.StoppedLemmas.{kept-entered, kept-none, kept-refused, kept-removed, kept-then, kept-tried}
use Rattle.nb_texts.specs.Claims.{HasClaimedBy}
use Rattle.nb_texts.specs.Entering.{HasEntered, HasKeptIndex}
use Rattle.nb_texts.specs.Hashes.{key_after, key_for}
use Rattle.nb_texts.proofs.catalog.enter_line.Goals as goal

pub loop-tries-init : goal.loop-tries-init
loop-tries-init g c = (
  record { map = refl; reserve = refl },
  refl,
  tried-none c.args.handle.now.map.chain.shape (key_for c.args.hashing c.args.line.now)
      c.args.handle.now.map c.args.handle.now.seat c.args.texts.now c.args.line.now
      c.known.ensures.own,
)

pub returns-in-None-clause-entered : goal.returns-in-None-clause-entered
returns-in-None-clause-entered g c =
    let now = c.loop-tries in
    let keys = key_for c.args.hashing in
    let texts = c.args.texts.now in
    let line = c.args.line.now in
    let P : ℕ → Option ℕ → Type 0 = λ key number. HasFound (put_if_absent_of key c.in_ok-number.number)
    now.handle.seat c.put.new.handle.seat number in
    let found : P (keys line now.tries) None
    = subst₂ P (c.key_after-key.ensures ∙ ap (λ hash. key_after hash now.tries) c.requires) c.in-None.is
    c.in_ok-put.ensures.found in
    let claims = subst₂ (λ (m : MapOf) key. HasClaimedBy m.chain.shape
    (put_if_absent_of key c.in_ok-number.number ∷ []) now.handle.seat c.put.new.handle.seat)
    now.invariant.0.map (c.key_after-key.ensures ∙ ap (λ hash. key_after hash now.tries) c.requires)
    c.in_ok-put.ensures.claims in
    let last : c.in_ok-number.number ≡ length texts = c.in_ok-number.ensures.same ∙ c.len-place.ensures in
    let pushed : texts ++ line ∷ [] ≡ c.push_at.new.texts
    = ap (λ texts. texts ++ line ∷ []) (sym now.invariant.1) ∙ sym c.in_ok-push_at-in-None.ensures.put in
    let p = c.args.handle.now.map.chain.shape in
    subst (λ (handle : HandleOf). HasEntered p keys c.args.handle.now.seat handle.seat texts
    c.push_at.new.texts (line ∷ [])) (sym c.in_ok-push_at-in-None.ensures.same)
    (subst (λ texts'. HasEntered p keys c.args.handle.now.seat c.put.new.handle.seat texts texts' (line ∷ []))
    pushed (entered-new p keys c.args.handle.now.seat now.handle.seat c.put.new.handle.seat texts line
    now.tries c.in_ok-number.number now.invariant.2 claims found last))

pub returns-in-None-clause-placed : goal.returns-in-None-clause-placed
returns-in-None-clause-placed g c =
    let texts = c.args.texts.now in
    let line = c.args.line.now in
    ap (λ texts. slice_get texts c.len-place.result) (c.in_ok-push_at-in-None.ensures.put
    ∙ ap (λ texts. texts ++ line ∷ []) c.loop-tries.invariant.1)
    ∙ ap (slice_get (texts ++ line ∷ [])) c.len-place.ensures ∙ get-last texts line

pub returns-then-is_at-clause-entered : goal.returns-then-is_at-clause-entered
returns-then-is_at-clause-entered g c =
    let now = c.loop-tries in
    let keys = key_for c.args.hashing in
    let texts = c.args.texts.now in
    let line = c.args.line.now in
    let P : ℕ → Option ℕ → Type 0 = λ key number. HasFound (put_if_absent_of key c.in_ok-number.number)
    now.handle.seat c.put.new.handle.seat number in
    let found : P (keys line now.tries) (Some c.get-found.result)
    = subst₂ P (c.key_after-key.ensures ∙ ap (λ hash. key_after hash now.tries) c.requires)
    (c.in-Some.is ∙ ap Some (sym c.get-found.ensures.number)) c.in_ok-put.ensures.found in
    let at : slice_get texts c.get-found.result ≡ Some line
    = ap (λ texts. slice_get texts c.get-found.result) (sym now.invariant.1)
    ∙ c.is_at.ensures.0 c.if-is_at.true in
    let claims = subst₂ (λ (m : MapOf) key. HasClaimedBy m.chain.shape
    (put_if_absent_of key c.in_ok-number.number ∷ []) now.handle.seat c.put.new.handle.seat)
    now.invariant.0.map (c.key_after-key.ensures ∙ ap (λ hash. key_after hash now.tries) c.requires)
    c.in_ok-put.ensures.claims in
    let p = c.args.handle.now.map.chain.shape in
    subst (λ texts'. HasEntered p keys c.args.handle.now.seat c.put.new.handle.seat texts texts' (line ∷ []))
    (sym now.invariant.1) (entered-found p keys c.args.handle.now.seat now.handle.seat
    c.put.new.handle.seat texts line now.tries c.in_ok-number.number now.invariant.2 claims
    c.get-found.result found at)

pub loop-tries-preserved : goal.loop-tries-preserved
loop-tries-preserved g c =
    let now = c.loop-tries in
    let keys = key_for c.args.hashing in
    let texts = c.args.texts.now in
    let line = c.args.line.now in
    let P : ℕ → Option ℕ → Type 0 = λ key number. HasFound (put_if_absent_of key c.in_ok-number.number)
    now.handle.seat c.put.new.handle.seat number in
    let found : P (keys line now.tries) (Some c.get-found.result)
    = subst₂ P (c.key_after-key.ensures ∙ ap (λ hash. key_after hash now.tries) c.requires)
    (c.in-Some.is ∙ ap Some (sym c.get-found.ensures.number)) c.in_ok-put.ensures.found in
    let other : slice_get texts c.get-found.result ≢ Some line
    = λ at.
    let yes = c.is_at.ensures.1 (ap (λ texts. slice_get texts c.get-found.result) now.invariant.1 ∙ at) in
    let not_so = c.if-is_at.false in
    cc in
    let claims = subst₂ (λ (m : MapOf) key. HasClaimedBy m.chain.shape
    (put_if_absent_of key c.in_ok-number.number ∷ []) now.handle.seat c.put.new.handle.seat)
    now.invariant.0.map (c.key_after-key.ensures ∙ ap (λ hash. key_after hash now.tries) c.requires)
    c.in_ok-put.ensures.claims in
    let rest = c.in_ok-put.ensures.rest in (
      record {
        map = rest.map ∙ now.invariant.0.map;
        reserve = rest.reserve ∙ now.invariant.0.reserve;
      },
      now.invariant.1,
      tried-more c.args.handle.now.map.chain.shape (keys line) c.args.handle.now.seat now.handle.seat
          c.put.new.handle.seat texts line now.tries c.in_ok-number.number now.invariant.2 claims
          c.get-found.result found other,
    )

pub returns-in-None-clause-grown : goal.returns-in-None-clause-grown
returns-in-None-clause-grown g c =
    grown-push c.args.line.now c.args.texts.now c.push_at.new.texts
    (c.in_ok-push_at-in-None.ensures.put
    ∙ ap (λ texts. texts ++ c.args.line.now ∷ []) c.loop-tries.invariant.1)

pub returns-in_err-push_at-in-None-clause-grown : goal.returns-in_err-push_at-in-None-clause-grown
returns-in_err-push_at-in-None-clause-grown g c =
    grown-none (c.args.line.now ∷ []) c.args.texts.now c.push_at.new.texts
    (c.in_err-push_at-in-None.ensures.kept ∙ c.loop-tries.invariant.1)

pub returns-then-is_at-clause-grown : goal.returns-then-is_at-clause-grown
returns-then-is_at-clause-grown g c =
    grown-none (c.args.line.now ∷ []) c.args.texts.now c.loop-tries.texts c.loop-tries.invariant.1

pub returns-in_err-number-clause-grown : goal.returns-in_err-number-clause-grown
returns-in_err-number-clause-grown g c =
    grown-none (c.args.line.now ∷ []) c.args.texts.now c.args.texts.now refl

pub returns-in_err-put-clause-grown : goal.returns-in_err-put-clause-grown
returns-in_err-put-clause-grown g c =
    grown-none (c.args.line.now ∷ []) c.args.texts.now c.loop-tries.texts c.loop-tries.invariant.1

pub returns-clause-grown : goal.returns-clause-grown
returns-clause-grown g c =
    grown-none (c.args.line.now ∷ []) c.args.texts.now c.loop-tries.texts c.loop-tries.invariant.1

pub returns-in_err-number-clause-full : goal.returns-in_err-number-clause-full
returns-in_err-number-clause-full g c = λ is.
    let p = c.args.handle.now.map.chain.shape in
    let keys = key_for c.args.hashing in
    let seat = c.args.handle.now.seat in
    let texts = c.args.texts.now in
    let line = c.args.line.now in
    let tried = tried-none p (keys line) c.args.handle.now.map seat texts line c.known.ensures.own in
    stopped-many p keys seat seat texts line 0 tried
    (λ m replayed index. omega (arith, c.in_err-number.ensures.full, c.len-place.ensures))

pub returns-in_err-put-clause-full : goal.returns-in_err-put-clause-full
returns-in_err-put-clause-full g c = λ is.
    let now = c.loop-tries in
    let keys = key_for c.args.hashing in
    let same = now.invariant.0.map in
    let key : c.key_after-key.result ≡ keys c.args.line.now now.tries
    = c.key_after-key.ensures ∙ ap (λ hash. key_after hash now.tries) c.requires in
    let told = c.in_err-put.ensures in
    stopped-full c.args.handle.now.map.chain.shape keys c.args.handle.now.seat now.handle.seat
    c.args.texts.now c.args.line.now now.tries now.invariant.2 c.put.new.handle.seat
    (record {
      number = c.in_ok-number.number;
      logged = told.full.0;
      claims =
          subst₂ (λ (m : MapOf) key. HasClaimedBy m.chain.shape
          (put_if_absent_of key c.in_ok-number.number ∷ []) now.handle.seat c.put.new.handle.seat)
          same key told.claims;
      crowded =
          subst₂ (λ (m : MapOf) key. IsCrowded m.chain.shape c.put.new.handle.seat.chain.seen key)
          same key told.full.1;
    })

pub returns-clause-full : goal.returns-clause-full
returns-clause-full g c = λ is.
    let now = c.loop-tries in
    let p = c.args.handle.now.map.chain.shape in
    let before = c.args.handle.now.seat in
    let texts = c.args.texts.now in
    let line = c.args.line.now in
    stopped-many p (key_for c.args.hashing) before now.handle.seat texts line now.tries
    now.invariant.2
    (all-tried p c.args.hashing before now.handle.seat texts line now.tries now.invariant.2
    (omega (arith, c.loop-tries-test.false)))

pub returns-in_err-number-clause-index : goal.returns-in_err-number-clause-index
returns-in_err-number-clause-index g c =
    kept-none (key_for c.args.hashing) c.args.handle.now.map c.args.handle.now.seat c.args.texts.now
    c.known.ensures.own

pub returns-in_err-put-clause-index : goal.returns-in_err-put-clause-index
returns-in_err-put-clause-index g c =
    let now = c.loop-tries in
    let p = c.args.handle.now.map.chain.shape in
    let keys = key_for c.args.hashing in
    let before = c.args.handle.now.seat in
    let texts = c.args.texts.now in
    subst (HasKeptIndex keys before c.put.new.handle.seat texts) (sym now.invariant.1)
    (kept-then keys before now.handle.seat c.put.new.handle.seat texts texts texts
    (kept-tried keys p before now.handle.seat texts c.args.line.now now.tries now.invariant.2)
    (kept-refused keys now.handle.seat c.put.new.handle.seat texts c.in_err-put.ensures.full.0))

pub returns-in-None-clause-index : goal.returns-in-None-clause-index
returns-in-None-clause-index g c =
    kept-entered (key_for c.args.hashing) c.args.handle.now.map.chain.shape c.args.handle.now.seat
    c.push_at.new.handle.seat c.args.texts.now c.push_at.new.texts (c.args.line.now ∷ [])
    (returns-in-None-clause-entered g c)

pub returns-then-is_at-clause-index : goal.returns-then-is_at-clause-index
returns-then-is_at-clause-index g c =
    kept-entered (key_for c.args.hashing) c.args.handle.now.map.chain.shape c.args.handle.now.seat
    c.put.new.handle.seat c.args.texts.now c.loop-tries.texts (c.args.line.now ∷ [])
    (returns-then-is_at-clause-entered g c)

pub returns-in_err-push_at-in-None-clause-index : goal.returns-in_err-push_at-in-None-clause-index
returns-in_err-push_at-in-None-clause-index g c =
    let now = c.loop-tries in
    let p = c.args.handle.now.map.chain.shape in
    let keys = key_for c.args.hashing in
    let before = c.args.handle.now.seat in
    let texts = c.args.texts.now in
    let line = c.args.line.now in
    let key : c.key_after-key.result ≡ keys line now.tries
    = c.key_after-key.ensures ∙ ap (λ hash. key_after hash now.tries) c.requires in
    let P : ℕ → Option ℕ → Type 0 = λ key number. HasFound (put_if_absent_of key c.in_ok-number.number)
    now.handle.seat c.put.new.handle.seat number in
    let found : P (keys line now.tries) None = subst₂ P key c.in-None.is c.in_ok-put.ensures.found in
    let taken = c.in_err-push_at-in-None.ensures.taken in
    let gone = subst (λ key. HasFound (remove_of key) c.put.new.handle.seat c.push_at.new.handle.seat taken.0)
    key taken.1 in
    subst (HasKeptIndex keys before c.push_at.new.handle.seat texts)
    (sym (c.in_err-push_at-in-None.ensures.kept ∙ now.invariant.1))
    (kept-removed p keys before now.handle.seat c.put.new.handle.seat c.push_at.new.handle.seat texts
    line now.tries c.in_ok-number.number now.invariant.2 found taken.0 gone)

pub returns-clause-index : goal.returns-clause-index
returns-clause-index g c =
    let now = c.loop-tries in
    let keys = key_for c.args.hashing in
    let before = c.args.handle.now.seat in
    let texts = c.args.texts.now in
    subst (HasKeptIndex keys before now.handle.seat texts) (sym now.invariant.1)
    (kept-tried keys c.args.handle.now.map.chain.shape before now.handle.seat texts c.args.line.now
    now.tries now.invariant.2)

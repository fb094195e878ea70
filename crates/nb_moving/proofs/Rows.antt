-- The cores of a key's row: each comes once, and its link leads to the next.
use Rattle.std.proofs.Common.{◌≡◌, ◌∙◌, ℕ, Bool, true, false, ◌||◌, ◌==◌, cond, List, [], ◌∷◌, ◌++◌, Option, Some, None, ap, sym, subst, refl, inl, inr}
use Rattle.std.specs.Option.{is_some, option_map}
use Rattle.std.proofs.lemmas.Bool.{both_ways, cond-false, cond-true, cond_both, eq-eqb, eqb-true, eqb-false, ne_eqb, or_parts, cases_Bool}
use Rattle.nb_core.specs.History.{key_of_call}
use Rattle.nb_moving.specs.Laws.{CoresAreDistinct, RowsAreLinked, first_core}
use Rattle.nb_moving.specs.Moving.{IsLegal, MayBegin, KeyPlace, becomes, behind, change_at, followed, has_core, left_by, link_of, new_place, row_of}
use Rattle.nb_moving.specs.declared.events.Event.{Event}
use Rattle.nb_moving.specs.declared.events.Event.TheVariants.{Begin, Seal, Look, Read, Write, Freeze, Copy, Mark, Close, Fill}
use Rattle.nb_moving.specs.declared.events.Link.{Link}
use Rattle.nb_moving.specs.declared.events.State.{State}
use Rattle.nb_moving.specs.declared.events.State.TheVariants.{Number, Frozen, Closed, Full}
use Rattle.nb_moving.proofs.Places.{IsDistinct, append-distinct, cores, cores-append, cores-put, cores-seal, has_core-mem, mem, put}

pub cores-becomes :
    (k key c : ℕ) (s : State) (row : List KeyPlace) → cores (becomes k key c s row) ≡ cores row
cores-becomes k key c s row =
    cond_both (k == key) (change_at c (put s) row) row (λ r. cores r ≡ cores row)
    (λ own. cores-put c s row) (λ other. refl)

-- ---- each core comes once

distinct-begin :
    (h : List Event) (c : ℕ) (link : Link) → MayBegin h c link → (key : ℕ)
    → IsDistinct (cores (row_of h key))
    → IsDistinct (cores (cond (has_core c (row_of h key))
    (row_of h key ++ new_place (followed link key)) (row_of h key)))
distinct-begin h c link may key before =
    let row = row_of h key in
    let to = followed link key in
    cond_both (has_core c row) (row ++ new_place to) row (λ r. IsDistinct (cores r))
    (λ there. subst IsDistinct (sym (cores-append row to))
    (append-distinct (cores row) to before (sym (has_core-mem to row) ∙ may.new key key)))
    (λ other. before)

pub are-distinct : (h : List Event) → IsLegal h → (key : ℕ) → IsDistinct (cores (row_of h key))
are-distinct [] legal key = (refl, tt)
are-distinct (Begin t c link ∷ h) legal key =
    distinct-begin h c link legal.1 key (are-distinct h legal.0 key)
are-distinct (Seal t c ∷ h) legal key =
    subst IsDistinct (sym (cores-seal c (row_of h key))) (are-distinct h legal.0 key)
are-distinct (Look t c k ∷ h) legal key = are-distinct h legal.0 key
are-distinct (Read t c call reply ∷ h) legal key = are-distinct h legal.0 key
are-distinct (Write t c call reply ∷ h) legal key =
    subst IsDistinct
    (sym (cores-becomes (key_of_call call) key c (left_by call reply.before) (row_of h key)))
    (are-distinct h legal.0 key)
are-distinct (Freeze t c k n ∷ h) legal key =
    subst IsDistinct (sym (cores-becomes k key c (Frozen n) (row_of h key)))
    (are-distinct h legal.0 key)
are-distinct (Copy t i c k n ∷ h) legal key =
    subst IsDistinct (sym (cores-becomes k key c (Number n) (row_of h key)))
    (are-distinct h legal.0 key)
are-distinct (Mark t c j k n ∷ h) legal key =
    subst IsDistinct (sym (cores-becomes k key c (Closed true) (row_of h key)))
    (are-distinct h legal.0 key)
are-distinct (Close t c k had ∷ h) legal key =
    subst IsDistinct (sym (cores-becomes k key c (Closed had) (row_of h key)))
    (are-distinct h legal.0 key)
are-distinct (Fill t c k ∷ h) legal key =
    subst IsDistinct (sym (cores-becomes k key c Full (row_of h key)))
    (are-distinct h legal.0 key)

behind-none :
    (c : ℕ) (row : List KeyPlace) → IsDistinct (cores row) → has_core c (behind c row) ≡ false
behind-none c [] distinct = refl
behind-none c (q ∷ r) distinct = here (q.core == c) refl (behind-none c r distinct.1)
  where
    here : (b : Bool) → (q.core == c) ≡ b → has_core c (behind c r) ≡ false → has_core c (cond b r (behind c r)) ≡ false
    here true e more =
        has_core-mem c r ∙ ap (λ x. mem x (cores r)) (sym (eqb-true q.core c e)) ∙ distinct.0
    here false e more = more

pub cores_are_distinct : CoresAreDistinct
cores_are_distinct h legal key c = behind-none c (row_of h key) (are-distinct h legal key)

-- ---- each core's link leads to the next

abbrev head_of : List ℕ → Option ℕ
head_of [] = None
head_of (c ∷ cs) = Some c

-- the core behind this one
abbrev next_of : ℕ → List ℕ → Option ℕ
next_of c [] = None
next_of c (x ∷ cs) = cond (x == c) (head_of cs) (next_of c cs)

first-head : (row : List KeyPlace) → first_core row ≡ head_of (cores row)
first-head [] = refl
first-head (p ∷ row) = refl

next-behind : (c : ℕ) (row : List KeyPlace) → first_core (behind c row) ≡ next_of c (cores row)
next-behind c [] = refl
next-behind c (q ∷ r) = here (q.core == c) (next-behind c r)
  where
    here : (b : Bool) → first_core (behind c r) ≡ next_of c (cores r)
        → first_core (cond b r (behind c r)) ≡ cond b (head_of (cores r)) (next_of c (cores r))
    here true more = first-head r
    here false more = more

-- each core of the row is followed by what its link says
abbrev IsLinked : List Event → ℕ → List ℕ → Type 0
IsLinked h key cs = (c : ℕ) → mem c cs ≡ true
    → next_of c cs ≡ option_map (λ link. followed link key) (link_of h c)

-- a core that is in no row has no link
abbrev AreThere : List Event → Type 0
AreThere h = (c : ℕ) → is_some (link_of h c) ≡ true → (key : ℕ) × (mem c (cores (row_of h key)) ≡ true)

none-from : (o : Option Link) → (is_some o ≡ true → ⊥) → o ≡ None
none-from None not_some = refl
none-from (Some link) not_some = absurd (not_some refl)

-- the last core of the old row is followed by the new one
append-last :
    (cs : List ℕ) (d to : ℕ) → mem d cs ≡ true → next_of d cs ≡ None
    → next_of d (cs ++ to ∷ []) ≡ Some to
append-last [] d to there none = absurd (both_ways false refl there)
append-last (x ∷ cs) d to there none = here (x == d) there none (append-last cs d to)
  where
    first : (l : List ℕ) → head_of l ≡ None → head_of (l ++ to ∷ []) ≡ Some to
    first [] none = refl
    first (y ∷ l) none = cc

    here : (b : Bool) → (b || mem d cs) ≡ true → cond b (head_of cs) (next_of d cs) ≡ None
        → (mem d cs ≡ true → next_of d cs ≡ None → next_of d (cs ++ to ∷ []) ≡ Some to)
        → cond b (head_of (cs ++ to ∷ [])) (next_of d (cs ++ to ∷ [])) ≡ Some to
    here true there none more = first cs none
    here false there none more = more there none

-- another core is followed by what followed it
append-next :
    (cs : List ℕ) (c to x : ℕ) → next_of c cs ≡ Some x → next_of c (cs ++ to ∷ []) ≡ Some x
append-next [] c to x some = cc
append-next (y ∷ cs) c to x some = here (y == c) some (append-next cs c to x)
  where
    first : (l : List ℕ) → head_of l ≡ Some x → head_of (l ++ to ∷ []) ≡ Some x
    first [] some = cc
    first (z ∷ l) some = some

    here : (b : Bool) → cond b (head_of cs) (next_of c cs) ≡ Some x
        → (next_of c cs ≡ Some x → next_of c (cs ++ to ∷ []) ≡ Some x)
        → cond b (head_of (cs ++ to ∷ [])) (next_of c (cs ++ to ∷ [])) ≡ Some x
    here true some more = first cs some
    here false some more = more some

-- nothing follows the new one
append-none : (cs : List ℕ) (to : ℕ) → mem to cs ≡ false → next_of to (cs ++ to ∷ []) ≡ None
append-none [] to none = cond-true (to == to) None None (eq-eqb to to refl)
append-none (x ∷ cs) to none =
    let parts = or_parts (x == to) (mem to cs) none in
    cond-false (x == to) (head_of (cs ++ to ∷ [])) (next_of to (cs ++ to ∷ [])) parts.0
    ∙ append-none cs to parts.1

-- there is one last core
one-last :
    (cs : List ℕ) (c d : ℕ) → mem c cs ≡ true → mem d cs ≡ true → next_of c cs ≡ None
    → next_of d cs ≡ None → c ≡ d
one-last [] c d a b x y = absurd (both_ways false refl a)
one-last (e ∷ cs) c d a b x y = here (e == c) (e == d) refl refl a b x y (one-last cs c d)
  where
    empty : (l : List ℕ) (z : ℕ) → head_of l ≡ None → mem z l ≡ true → ⊥
    empty [] z none there = both_ways false refl there
    empty (w ∷ l) z none there = cc

    here : (s t : Bool) → (e == c) ≡ s → (e == d) ≡ t → (s || mem c cs) ≡ true → (t || mem d cs) ≡ true
        → cond s (head_of cs) (next_of c cs) ≡ None → cond t (head_of cs) (next_of d cs) ≡ None
        → (mem c cs ≡ true → mem d cs ≡ true → next_of c cs ≡ None → next_of d cs ≡ None → c ≡ d) → c ≡ d
    here true true p q a b x y more = sym (eqb-true e c p) ∙ eqb-true e d q
    here true false p q a b x y more = absurd (empty cs d x b)
    here false true p q a b x y more = absurd (empty cs c y a)
    here false false p q a b x y more = more a b x y

pub append-mem-cases :
    (cs : List ℕ) (c to : ℕ) → mem c (cs ++ to ∷ []) ≡ true → mem c cs ≡ false → to ≡ c
append-mem-cases [] c to there none = here (to == c) refl there
  where
    here : (b : Bool) → (to == c) ≡ b → (b || false) ≡ true → to ≡ c
    here true e there = eqb-true to c e
    here false e there = absurd (both_ways false refl there)
append-mem-cases (x ∷ cs) c to there none =
    let parts = or_parts (x == c) (mem c cs) none in
    append-mem-cases cs c to (sym (ap (λ b. b || mem c (cs ++ to ∷ [])) parts.0) ∙ there) parts.1

append-mem : (cs : List ℕ) (c to : ℕ) → mem c cs ≡ true → mem c (cs ++ to ∷ []) ≡ true
append-mem [] c to there = absurd (both_ways false refl there)
append-mem (x ∷ cs) c to there = here (x == c) there (append-mem cs c to)
  where
    here : (b : Bool) → (b || mem c cs) ≡ true
        → (mem c cs ≡ true → mem c (cs ++ to ∷ []) ≡ true) → (b || mem c (cs ++ to ∷ [])) ≡ true
    here true there more = refl
    here false there more = more there

-- a core of a row is one of it ever after
pub mem-lasts :
    (e : Event) (h : List Event) (c key : ℕ) → mem c (cores (row_of h key)) ≡ true
    → mem c (cores (row_of (e ∷ h) key)) ≡ true
mem-lasts (Begin t d link) h c key is =
    cond_both {A = List KeyPlace} (has_core d (row_of h key))
    (row_of h key ++ new_place (followed link key)) (row_of h key) (λ r. mem c (cores r) ≡ true)
    (λ has. ap (mem c) (cores-append (row_of h key) (followed link key))
    ∙ append-mem (cores (row_of h key)) c (followed link key) is) (λ has. is)
mem-lasts (Seal t d) h c key is = ap (mem c) (cores-seal d (row_of h key)) ∙ is
mem-lasts (Look t d k) h c key is = is
mem-lasts (Read t d call reply) h c key is = is
mem-lasts (Write t d call reply) h c key is =
    ap (mem c) (cores-becomes (key_of_call call) key d (left_by call reply.before) (row_of h key)) ∙ is
mem-lasts (Freeze t d k n) h c key is =
    ap (mem c) (cores-becomes k key d (Frozen n) (row_of h key)) ∙ is
mem-lasts (Copy t i d k n) h c key is =
    ap (mem c) (cores-becomes k key d (Number n) (row_of h key)) ∙ is
mem-lasts (Mark t d j k n) h c key is =
    ap (mem c) (cores-becomes k key d (Closed true) (row_of h key)) ∙ is
mem-lasts (Close t d k had) h c key is =
    ap (mem c) (cores-becomes k key d (Closed had) (row_of h key)) ∙ is
mem-lasts (Fill t d k) h c key is = ap (mem c) (cores-becomes k key d Full (row_of h key)) ∙ is

record IsLaid (h : List Event) : Type 0 where
  linked : (key : ℕ) → IsLinked h key (cores (row_of h key))
  there : AreThere h

same-laid :
    (h g : List Event) → ((key : ℕ) → cores (row_of g key) ≡ cores (row_of h key))
    → ((c : ℕ) → link_of g c ≡ link_of h c) → IsLaid h → IsLaid g
same-laid h g rows links before = record {
  linked = λ key c is. ap (next_of c) (rows key)
      ∙ before.linked key c (sym (ap (mem c) (rows key)) ∙ is)
      ∙ ap (option_map (λ link. followed link key)) (sym (links c));
  there = λ c is.
      let old = before.there c (ap is_some (sym (links c)) ∙ is) in
      (old.0, ap (mem c) (rows old.0) ∙ old.1);
}

-- where the link, if it is set, leads the key
abbrev follows : ℕ → Option Link → Option ℕ
follows key o = option_map (λ link. followed link key) o

-- nothing follows the new core, which has no link
next-new :
    (cs : List ℕ) (d c to key : ℕ) (link : Link) (o : Option Link) → to ≡ c → (d == c) ≡ false
    → mem to cs ≡ false → o ≡ None
    → next_of c (cs ++ to ∷ []) ≡ follows key (cond (d == c) (Some link) o)
next-new cs d c to key link o same apart fresh unset =
    ap (λ x. next_of x (cs ++ to ∷ [])) (sym same) ∙ append-none cs to fresh
    ∙ ap (follows key) (sym (cond-false (d == c) (Some link) o apart ∙ unset))

-- another core is followed by what followed it, as it isn't the last one
next-other :
    (cs : List ℕ) (d c to key : ℕ) (o : Option Link) → (d == c) ≡ false → mem d cs ≡ true
    → mem c cs ≡ true → next_of d cs ≡ None → next_of c cs ≡ follows key o
    → next_of c (cs ++ to ∷ []) ≡ follows key o
next-other cs d c to key (Some l) apart has in_row last e = append-next cs c to (followed l key) e
next-other cs d c to key None apart has in_row last e =
    absurd (eqb-false d c apart (sym (one-last cs c d in_row has e last)))

next-old :
    (b : Bool) (cs : List ℕ) (d c key : ℕ) (link : Link) (o : Option Link) → (d == c) ≡ b
    → mem d cs ≡ true → mem c cs ≡ true → next_of d cs ≡ None → next_of c cs ≡ follows key o
    → next_of c (cs ++ followed link key ∷ []) ≡ follows key (cond b (Some link) o)
next-old true cs d c key link o e has in_row last next =
    ap (λ x. next_of x (cs ++ followed link key ∷ [])) (sym (eqb-true d c e))
    ∙ append-last cs d (followed link key) has last
next-old false cs d c key link o e has in_row last next =
    next-other cs d c (followed link key) key o e has in_row last next

-- what follows a core of the row once another's link was set
module _ (h : List Event) (d : ℕ) (link : Link) (may : MayBegin h d link) (before : IsLaid h) where
  fresh : (key q : ℕ) → mem (followed link key) (cores (row_of h q)) ≡ false
  fresh key q = sym (has_core-mem (followed link key) (row_of h q)) ∙ may.new key q

  unset : (key : ℕ) → link_of h (followed link key) ≡ None
  unset key = none-from (link_of h (followed link key)) (λ some.
      let at = before.there (followed link key) some in
      both_ways (mem (followed link key) (cores (row_of h at.0))) (fresh key at.0) at.1)

  next-appended :
      (key c : ℕ) → mem d (cores (row_of h key)) ≡ true
      → mem c (cores (row_of h key) ++ followed link key ∷ []) ≡ true
      → next_of c (cores (row_of h key) ++ followed link key ∷ [])
      ≡ follows key (cond (d == c) (Some link) (link_of h c))
  next-appended key c has is =
      let cs = cores (row_of h key) in
      let to = followed link key in
      let last : next_of d cs ≡ None = before.linked key d has ∙ ap (follows key) may.once in
      elim (cases_Bool (mem c cs)) [
        | inl in_row ↦
            next-old (d == c) cs d c key link (link_of h c) refl has in_row last
            (before.linked key c in_row)
        | inr none ↦
            let same = append-mem-cases cs c to is none in
            let apart : (d == c) ≡ false = ne_eqb d c
            (λ e. both_ways (mem c cs) none (ap (λ x. mem x cs) (sym e) ∙ has)) in
            next-new cs d c to key link (link_of h c) same apart (fresh key key)
            (ap (link_of h) (sym same) ∙ unset key)
      ]

  next-elsewhere :
      (key c : ℕ) → mem d (cores (row_of h key)) ≡ false → mem c (cores (row_of h key)) ≡ true
      → next_of c (cores (row_of h key))
      ≡ option_map (λ link. followed link key) (cond (d == c) (Some link) (link_of h c))
  next-elsewhere key c has is =
      let apart : (d == c) ≡ false = ne_eqb d c
      (λ e. both_ways (mem d (cores (row_of h key))) has
      (ap (λ x. mem x (cores (row_of h key))) e ∙ is)) in
      before.linked key c is
      ∙ ap (option_map (λ link. followed link key))
      (sym (cond-false (d == c) (Some link) (link_of h c) apart))

  begin-linked :
      (t key : ℕ) → IsLinked (Begin t d link ∷ h) key (cores (row_of (Begin t d link ∷ h) key))
  begin-linked t key =
      cond_both {A = List KeyPlace} (has_core d (row_of h key))
      (row_of h key ++ new_place (followed link key)) (row_of h key)
      (λ r. IsLinked (Begin t d link ∷ h) key (cores r))
      (λ has. subst (IsLinked (Begin t d link ∷ h) key)
      (sym (cores-append (row_of h key) (followed link key)))
      (λ c is. next-appended key c (sym (has_core-mem d (row_of h key)) ∙ has) is))
      (λ has c is. next-elsewhere key c (sym (has_core-mem d (row_of h key)) ∙ has) is)

  begin-there : (t : ℕ) → AreThere (Begin t d link ∷ h)
  begin-there t c is = here (d == c) refl is
    where
      here : (b : Bool) → (d == c) ≡ b → is_some (cond b (Some link) (link_of h c)) ≡ true
          → (key : ℕ) × (mem c (cores (row_of (Begin t d link ∷ h) key)) ≡ true)
      here true e is = (
        may.there.0,
        mem-lasts (Begin t d link) h c may.there.0 (ap (λ x. mem x (cores (row_of h may.there.0))) (sym (eqb-true d c e))
            ∙ sym (has_core-mem d (row_of h may.there.0)) ∙ may.there.1),
      )
      here false e is =
          let old = before.there c is in (old.0, mem-lasts (Begin t d link) h c old.0 old.1)

begin-laid : (h : List Event) (t d : ℕ) (link : Link) → MayBegin h d link → IsLaid h
    → IsLaid (Begin t d link ∷ h)
begin-laid h t d link may before = record {
  linked = begin-linked h d link may before t;
  there = begin-there h d link may before t;
}

first-linked : (key : ℕ) → IsLinked [] key (0 ∷ [])
first-linked key c is = here (0 == c)
  where
    here : (b : Bool) → cond b (head_of []) None ≡ None
    here true = refl
    here false = refl

is-laid : (h : List Event) → IsLegal h → IsLaid h
is-laid [] legal = record { linked = first-linked; there = λ c is. absurd (both_ways false refl is) }
is-laid (Begin t c link ∷ h) legal = begin-laid h t c link legal.1 (is-laid h legal.0)
is-laid (Seal t c ∷ h) legal =
    same-laid h (Seal t c ∷ h) (λ key. cores-seal c (row_of h key)) (λ d. refl) (is-laid h legal.0)
is-laid (Look t c k ∷ h) legal =
    same-laid h (Look t c k ∷ h) (λ key. refl) (λ d. refl) (is-laid h legal.0)
is-laid (Read t c call reply ∷ h) legal =
    same-laid h (Read t c call reply ∷ h) (λ key. refl) (λ d. refl) (is-laid h legal.0)
is-laid (Write t c call reply ∷ h) legal =
    same-laid h (Write t c call reply ∷ h)
    (λ key. cores-becomes (key_of_call call) key c (left_by call reply.before) (row_of h key))
    (λ d. refl) (is-laid h legal.0)
is-laid (Freeze t c k n ∷ h) legal =
    same-laid h (Freeze t c k n ∷ h) (λ key. cores-becomes k key c (Frozen n) (row_of h key))
    (λ d. refl) (is-laid h legal.0)
is-laid (Copy t i c k n ∷ h) legal =
    same-laid h (Copy t i c k n ∷ h) (λ key. cores-becomes k key c (Number n) (row_of h key))
    (λ d. refl) (is-laid h legal.0)
is-laid (Mark t c j k n ∷ h) legal =
    same-laid h (Mark t c j k n ∷ h) (λ key. cores-becomes k key c (Closed true) (row_of h key))
    (λ d. refl) (is-laid h legal.0)
is-laid (Close t c k had ∷ h) legal =
    same-laid h (Close t c k had ∷ h) (λ key. cores-becomes k key c (Closed had) (row_of h key))
    (λ d. refl) (is-laid h legal.0)
is-laid (Fill t c k ∷ h) legal =
    same-laid h (Fill t c k ∷ h) (λ key. cores-becomes k key c Full (row_of h key)) (λ d. refl)
    (is-laid h legal.0)

pub rows_are_linked : RowsAreLinked
rows_are_linked h legal key c is =
    next-behind c (row_of h key)
    ∙ (is-laid h legal).linked key c (sym (has_core-mem c (row_of h key)) ∙ is)

-- Two fields go from one struct into another, and what they own goes with them.
use mathlib.Core.Path.{◌≡◌, refl, sym, subst}
use mathlib.Core.List.{List, [], ◌∷◌, ◌++◌}
use seplogic.Ra.Ura.{Ura}
use mir.Syntax.{Sym, Fn, Callee, local, value_local, ty_ptr, place, field, copy, rv_opd, aggregate, assign, seq, return}
use mir.Val.{Val}
use base.Logic.{SProp, ent, emp}
use base.Fml.{ftrue, fsep}
use contract.Monad.{fact}
use contract.Running.{MachineTables, Running, tables}
use denote.Exit.{yes}
use denote.Memory.{lone}
use denote.Signature.{plain}
use denote.Steps.{heard, nothing}
use denote.Triple.Clauses.{Clauses, Ended, closing}
use denote.Triple.Spec.{Meets}
use denote.Triple.Walked.{says, Stays, stay_dropped, ends_at, Goes-dropped}
use prog.Model.{Model}
use prog.Wp.{Calls, Closed, Loops, WpFn}
use types.Logic.{Logic, sem}
use types.Kit.{‵, raw, ◌⊛◌, ◌$◌, ◌∵◌, !, qed, by, move, keep, drop, join, split, fsplit, fjoin, rewrite, suffices, done}
use types.Part.{whole, sub, agg}
use types.Run.{stop, fld, no_more, and_then, of_opd, returns, enter}
use types.ByLocal.{alloc_all, pass_all, free_all, look_at, get, get_in, sets}
use Rattle.std.proofs.raw_atomic.Walks.{proved_at}
use Rattle.std.specs.Prelude.{Some}
use Rattle.std_alloc.proofs.BoxSteps.Form.{Bx, D, B, word, box_typed}
use Rattle.std_alloc.proofs.BoxSteps.Steps.{box_out, box_in}
use Rattle.std_heap.specs.contracts.Global as Heap
use Rattle.std_heap.specs.contracts.GlobalAllocator.TheImpl.{ghosts}
use Rattle.nb_ffi.specs.contracts.parts.Parts as Parts
use Rattle.nb_ffi.proofs.HandleBox.{Handle, box_of, opened, pair_of}
use denote.RattleType.{RattleType}

-- the code, between structs of these names
abbrev pub moving : (from to : Sym) → Fn
moving from to =
    record {
      lifetimes = 0;
      outlives = [];
      ty_params = [];
      givens = 0;
      params = 1;
      locals = local (pair_of to) value_local ∷ local (pair_of from) value_local ∷ local ty_ptr value_local ∷ local (lone Heap.the_row.mir) value_local ∷ local ty_ptr value_local ∷ [];
      body = seq (assign (place 2 []) (rv_opd (copy (place 1 (field 0 ∷ [])))))
          (seq (assign (place 3 []) (rv_opd (copy (place 1 (field 1 ∷ [])))))
          (seq (assign (place 4 []) (rv_opd (copy (place 2 []))))
          (seq (assign (place 0 []) (aggregate (copy (place 4 []) ∷ copy (place 3 []) ∷ []))) return)));
    }

module _ (S : Handle) {M : Type 1} {𝓤 : Ura M} (𝓛 : Logic 𝓤) where
  open 𝓛 use {H}

  abbrev E : Bx
  E = box_of S.type S.laws

  moves : (C : Calls 𝓤 H) (Λ : Loops 𝓤 H) (from to : Sym) (v : D E) (vs : List Val) (Post : Val → SProp 𝓤)
      → ((w : Val) → ent 𝓤 (sem 𝓛 ((B E).own_val v (w ∷ []))) (Post w))
      → ent 𝓤 (sem 𝓛 ((B E).own_val v vs)) (WpFn 𝓤 H C Λ (moving from to) (vs ++ []) Post)
  moves C Λ from to v vs Post ends =
      qed 𝓛 (‵ ((B E).own_val v vs) ∷ []) ∵
      box_out E ! v vs (λ b o hv e ws fa. box_in E ! v b o v.value e refl $
      let w = word E hv b o in
      by ! (subst (λ (us : List Val). ent 𝓤 (sem 𝓛 ((B E).own_val v (w ∷ []))) (WpFn 𝓤 H C Λ (moving from to) (us ++ []) Post)) (sym ws)
      (qed 𝓛 (‵ ((B E).own_val v (w ∷ [])) ∷ []) ∵ enter ! C Λ (moving from to) (w ∷ []) _ $ alloc_all ! (λ ls. pass_all ! refl (box_typed E hv b o fa, tt) $
      sets ! (of_opd ! (get_in ! (fld ! refl (stop !)) (sub ! 0 refl (whole !)))) refl (tt, tt) $ sets ! (of_opd ! (get_in ! (fld ! refl (stop !)) (sub ! 1 refl (whole !)))) refl fa $
      sets ! (of_opd ! (get ! refl)) refl (tt, tt) $ sets ! (agg ! (and_then ! (get ! refl) (and_then ! (get ! refl) (no_more !)))) refl (box_typed E hv b o fa) $ returns ! (look_at ! 0 refl) $ free_all ! refl $
      by ! (ends w)))))

  abbrev P : RattleType
  P = Parts.the_row S.type Heap.the_row ghosts

  -- ---- the parts of a box become a handle
  abbrev filled : Ended
  filled = record { signature = record { lifetimes = 0; outlives = []; params = plain (λ _. P) ∷ []; result = plain (λ _. S.row) }; kept = (yes, tt) }

  abbrev filled_stays : Stays filled.signature.params filled.kept
  filled_stays = (stay_dropped (plain (λ _. P)) yes, tt)

  abbrev fills : Clauses 𝓤 filled
  fills = λ κs args. record { ghost = Unit {0}; requires = λ _. emp 𝓤; ensures = λ _ result end. fact 𝓤 (S.value result ≡ Some args.0.value) }

  -- ---- a handle becomes the parts of a box
  abbrev taken : Ended
  taken = record { signature = record { lifetimes = 0; outlives = []; params = plain (λ _. S.row) ∷ []; result = plain (λ _. P) }; kept = (yes, tt) }

  abbrev taken_stays : Stays taken.signature.params taken.kept
  taken_stays = (stay_dropped (plain (λ _. S.row)) yes, tt)

  abbrev Open : S.row.Denot → Type 0
  Open s = (w : S.type.Denot) × (S.value s ≡ Some w)

  abbrev takes : Clauses 𝓤 taken
  takes = λ κs args. record { ghost = Unit {0}; requires = λ _. fact 𝓤 (Open args.0); ensures = λ _ result end. fact 𝓤 (S.value args.0 ≡ Some result.value) }

  module _ (𝓜 : Model 𝓤 H) (𝓡 : Running 𝓤 H 𝓜) (k : Callee) where
    abbrev 𝓣 : MachineTables 𝓤 H 𝓜
    𝓣 = tables 𝓤 H 𝓜 𝓡 𝓡.env

    pub of_parts : Closed 𝓤 H 𝓣.C 𝓣.Λ k (moving (Parts.the_type S.type Heap.the_row ghosts).name S.name) → Meets 𝓛 filled.signature (𝓣.C k) (closing 𝓛 filled fills)
    of_parts unfolds =
        proved_at 𝓛 filled filled_stays fills 𝓜 𝓡 (Goes-dropped 𝓛 0 (plain (λ _. P)) yes (λ κs x f. refl), tt) k (moving (Parts.the_type S.type Heap.the_row ghosts).name S.name) unfolds (λ z are.
        let x = z.0.3.0 in
        let v : D E = record { ptr = x.ptr; alloc = x.alloc; value = x.value } in
        let made = S.make v.ptr v.alloc (Some v.value) in
        qed 𝓛 ((‵ ftrue ⊛ ‵ (fsep (P.own_val x z.0.4.0) ftrue)) ∷ raw (emp 𝓤) ∷ []) ∵ split ! $ drop ! $ fsplit ! $ keep ! (0 ∷ []) $
        rewrite ! 0 (λ f. ‵ f) (S.parts_own x z.0.4.0) refl $
        by ! (moves 𝓣.C 𝓣.Λ _ _ v z.0.4.0 _ (λ w.
        qed 𝓛 (‵ ((B E).own_val v (w ∷ [])) ∷ []) ∵ rewrite ! 0 (λ f. ‵ f) (sym (S.full_owns v.ptr v.alloc v.value (w ∷ []))) refl $
        suffices ! _ (ends_at 𝓛 filled filled_stays fills z w made (tt, tt) (tt, tt)) $ says ! (S.has_value v.ptr v.alloc (Some v.value)) $
        nothing ! $ nothing ! $ fjoin ! $ join ! $ nothing ! $ join ! $ done !)))

    pub into_parts : Closed 𝓤 H 𝓣.C 𝓣.Λ k (moving S.name (Parts.the_type S.type Heap.the_row ghosts).name) → Meets 𝓛 taken.signature (𝓣.C k) (closing 𝓛 taken takes)
    into_parts unfolds =
        proved_at 𝓛 taken taken_stays takes 𝓜 𝓡 (Goes-dropped 𝓛 0 (plain (λ _. S.row)) yes (λ κs h f. S.leaves_none h f), tt) k (moving S.name (Parts.the_type S.type Heap.the_row ghosts).name) unfolds (λ z are.
        let s = z.0.3.0 in
        qed 𝓛 ((‵ ftrue ⊛ ‵ (fsep (S.row.own_val s z.0.4.0) ftrue)) ∷ raw (fact 𝓤 (Open s)) ∷ []) ∵ move ! (1 ∷ []) $ heard ! (Open s) (λ known. split ! $ drop ! $ fsplit ! $ keep ! (0 ∷ []) $
        let v : D E = record { ptr = S.ptr s; alloc = S.alloc s; value = known.0 } in
        let made : P.Denot = record { ptr = v.ptr; alloc = v.alloc; value = v.value } in
        rewrite ! 0 (λ f. ‵ f) (opened S s known.1 z.0.4.0) refl $
        by ! (moves 𝓣.C 𝓣.Λ _ _ v z.0.4.0 _ (λ w.
        qed 𝓛 (‵ ((B E).own_val v (w ∷ [])) ∷ []) ∵ rewrite ! 0 (λ f. ‵ f) (sym (S.parts_own made (w ∷ []))) refl $
        suffices ! _ (ends_at 𝓛 taken taken_stays takes z w made (S.last s, tt) (tt, tt)) $ says ! known.1 $
        nothing ! $ nothing ! $ fjoin ! $ join ! $ nothing ! $ join ! $ done !))))

-- A struct of a null pointer and an allocator is made, which owns no more than the allocator does.
use mathlib.Core.Path.{◌≡◌, refl, sym, subst}
use mathlib.Core.List.{List, [], ◌∷◌, ◌++◌}
use lib.Dec.{T, lit<}
use seplogic.Ra.Ura.{Ura}
use mir.Syntax.{Sym, Fn, Callee, local, value_local, place, copy, int, w64, aggregate, assign, seq, return}
use mir.Val.{Val, vstruct, vcons, vnil, has_ty, WT}
use base.Logic.{SProp, ent, emp, id⊢}
use contract.Monad.{fact}
use contract.Running.{MachineTables, Running, tables}
use denote.Exit.{yes}
use base.Fml.{Fml, ftrue, fsep}
use denote.Memory.{lone}
use denote.RattleType.{Valss}
use denote.RawPtr.{RawPtr, null_ptr, ptr_val}
use denote.Signature.{plain}
use denote.Steps.{nothing}
use denote.Struct.Owning.{shape}
use denote.Struct.Struct.{within}
use denote.Triple.Clauses.{Clauses, Ended, closing}
use denote.Triple.Spec.{Meets}
use denote.Triple.Walked.{says, Stays, stay_dropped, ends_at, Goes-dropped}
use prog.Model.{Model}
use prog.Wp.{Calls, Closed, Loops, WpFn}
use types.Logic.{Logic, sem}
use types.Kit.{‵, raw, ◌⊛◌, ◌$◌, ◌∵◌, !, qed, by, move, keep, drop, use1, join, split, fsplit, fjoin, fpack, feq_i, rewrite, suffices, done}
use types.Part.{agg}
use types.Run.{no_more, and_then, lit, returns, enter}
use types.ByLocal.{alloc_all, pass_all, free_all, look_at, get, sets}
use Rattle.core.proofs.alloc.Calls.{Fits, α, handle_tells}
use Rattle.std.proofs.raw_atomic.Walks.{proved_at}
use Rattle.std.specs.Global.{Global}
use Rattle.std.specs.Prelude.{None}
use Rattle.std_alloc.proofs.BoxSteps.Form.{Bx, P, owning}
use Rattle.std_alloc.proofs.ResultValues.{and_tt}
use Rattle.std_heap.specs.contracts.Global as Heap
use Rattle.nb_ffi.proofs.HandleBox.{Handle, box_of, pair_of, pair_owns}

-- the code, for a struct of this name
abbrev pub emptying : Sym → Fn
emptying name =
    record {
      lifetimes = 0;
      outlives = [];
      ty_params = [];
      givens = 0;
      params = 1;
      locals = local (pair_of name) value_local ∷ local (lone Heap.the_row.mir) value_local ∷ [];
      body = seq (assign (place 0 []) (aggregate (int w64 0 ∷ copy (place 1 []) ∷ []))) return;
    }

-- its machine value
abbrev word : Val → Val
word hv = vstruct (vcons (ptr_val null_ptr) (vcons hv vnil))

module _ (S : Handle) {M : Type 1} {𝓤 : Ura M} (𝓛 : Logic 𝓤) where
  open 𝓛 use {H}

  abbrev E : Bx
  E = box_of S.type S.laws

  -- what such a struct owns
  abbrev none_owns : Global → List Val → Fml
  none_owns a vs = fsep (pair_owns S.type S.laws null_ptr a vs) ftrue

  typed : (hv : Val) → Fits E.al hv → T (has_ty (pair_of S.name) (word hv)) × WT (word hv)
  typed hv fa = (and_tt (has_ty (α E.al) hv) fa.0, (record { fits = lit< tt }, (fa.1, tt)))

  empties : (C : Calls 𝓤 H) (Λ : Loops 𝓤 H) (a : Global) (vs : List Val) (Post : Val → SProp 𝓤)
      → ((w : Val) → ent 𝓤 (sem 𝓛 (none_owns a (w ∷ []))) (Post w))
      → ent 𝓤 (sem 𝓛 (Heap.the_row.own_val a vs)) (WpFn 𝓤 H C Λ (emptying S.name) (vs ++ []) Post)
  empties C Λ a vs Post ends =
      qed 𝓛 (‵ (Heap.the_row.own_val a vs) ∷ []) ∵
      handle_tells E.al ! a vs (λ hv ws fa.
      let w = word hv in
      nothing ! $ nothing ! $ move ! (2 ∷ 0 ∷ []) $ fjoin ! $ feq_i ! (List Val) (ptr_val null_ptr ∷ []) (ptr_val null_ptr ∷ []) refl $ fjoin ! $
      feq_i ! (List Val) (w ∷ []) (w ∷ []) refl $ fjoin ! $
      fpack ! (Valss (RawPtr ∷ P E ∷ [])) (within (shape (owning E)) (null_ptr, (a, tt)) (w ∷ [])) (ptr_val null_ptr ∷ [], (hv ∷ [], tt)) $ fjoin ! $
      use1 𝓛 (‵ (none_owns a (w ∷ []))) (id⊢ 𝓤 _) $
      by ! (subst (λ (us : List Val). ent 𝓤 (sem 𝓛 (none_owns a (w ∷ []))) (WpFn 𝓤 H C Λ (emptying S.name) (us ++ []) Post)) (sym ws)
      (qed 𝓛 (‵ (none_owns a (w ∷ [])) ∷ []) ∵ enter ! C Λ (emptying S.name) (hv ∷ []) _ $ alloc_all ! (λ ls. pass_all ! refl (fa, tt) $
      sets ! (agg ! (and_then ! (lit ! tt) (and_then ! (get ! refl) (no_more !)))) refl (typed hv fa) $ returns ! (look_at ! 0 refl) $ free_all ! refl $
      by ! (ends w)))))

  abbrev emptied : Ended
  emptied = record { signature = record { lifetimes = 0; outlives = []; params = plain (λ _. Heap.the_row) ∷ []; result = plain (λ _. S.row) }; kept = (yes, tt) }

  abbrev stayed : Stays emptied.signature.params emptied.kept
  stayed = (stay_dropped (plain (λ _. Heap.the_row)) yes, tt)

  abbrev clauses : Clauses 𝓤 emptied
  clauses = λ κs args. record { ghost = Unit {0}; requires = λ _. emp 𝓤; ensures = λ _ result end. fact 𝓤 (S.value result ≡ None) }

  module _ (𝓜 : Model 𝓤 H) (𝓡 : Running 𝓤 H 𝓜) (k : Callee) where
    abbrev 𝓣 : MachineTables 𝓤 H 𝓜
    𝓣 = tables 𝓤 H 𝓜 𝓡 𝓡.env

    pub empty : Closed 𝓤 H 𝓣.C 𝓣.Λ k (emptying S.name) → Meets 𝓛 emptied.signature (𝓣.C k) (closing 𝓛 emptied clauses)
    empty unfolds =
        proved_at 𝓛 emptied stayed clauses 𝓜 𝓡 (Goes-dropped 𝓛 0 (plain (λ _. Heap.the_row)) yes (λ κs x f. refl), tt) k (emptying S.name) unfolds (λ z are.
        let a = z.0.3.0 in
        let made = S.make null_ptr a None in
        qed 𝓛 ((‵ ftrue ⊛ ‵ (fsep (Heap.the_row.own_val a z.0.4.0) ftrue)) ∷ raw (emp 𝓤) ∷ []) ∵ split ! $ drop ! $ fsplit ! $ keep ! (0 ∷ []) $
        by ! (empties 𝓣.C 𝓣.Λ a z.0.4.0 _ (λ w.
        qed 𝓛 (‵ (none_owns a (w ∷ [])) ∷ []) ∵ rewrite ! 0 (λ f. ‵ f) (sym (S.empty_owns a (w ∷ []))) refl $
        suffices ! _ (ends_at 𝓛 emptied stayed clauses z w made (tt, tt) (tt, tt)) $ says ! (S.has_value null_ptr a None) $
        nothing ! $ nothing ! $ fjoin ! $ join ! $ nothing ! $ join ! $ done !)))

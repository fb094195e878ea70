-- A handle lends what it stands for, and follows it.
use mathlib.Core.Path.{◌≡◌, refl, sym}
use mathlib.Core.List.{List, [], ◌∷◌}
use Prim.Native.Nat.{ℕ}
use seplogic.Ra.Ura.{Ura}
use base.Fraction.{full_share}
use base.Logic.{SProp, ent, sep}
use base.Fml.{Lft, GName, Share, Fml, ftrue, flft, fsep}
use mir.Raw.{raw as bare}
use mir.Syntax.{Sym, Fn, Callee, local, value_local, ty_ptr, ty_ref, named, mut, erased, place, field, deref, copy, rv_opd, addr_of, assign, block, seq, return}
use mir.Val.{Val, vptr}
use prog.Model.{Model}
use prog.Wp.{Env, Calls, Closed, Loops, WpFn}
use types.Logic.{Logic, sem}
use types.Kit.{‵, ◌⊛◌, some, at_ret, ◌$◌, ◌∵◌, !, qed, by, move, keep, use1, drop, split, join, pick, fsplit, fsplit3, fjoin, suffices, frame, done, raw, later, await, group, fpack, rewrite}
use types.Part.{whole, sub, look_in}
use types.Run.{stop, fld, load, of_opd, first, blocks, exec, returns, enter, addr}
use types.ByLocal.{alloc_all, pass_all, free_all, look_at, get, through, sets, env, sets_last}
use contract.Monad.{fact}
use contract.Running.{Running, tables}
use denote.Exit.{no}
use denote.Follow.{follows, Part, lends_Part}
use denote.Memory.{cell_at, lone, mem, part_at, part_of}
use denote.RattleType.{RattleType, owns}
use denote.RawPtr.{block_ptr}
use denote.Ref.{MutRef, mut_vals, mut_Tells}
use denote.Signature.{plain, mut_ref_to}
use denote.Steps.{heard, nothing, opens}
use denote.Triple.Clauses.{Clauses, Ended, closing}
use denote.Triple.Entry.{on_entry}
use denote.Triple.Spec.{Meets}
use denote.Triple.Walked.{says, Stays, stay_dropped, walk_of, ends_at, Goes-spent_ref}
use Rattle.core.proofs.alloc.Calls.{token}
use Rattle.std.proofs.raw_atomic.Walks.{proved}
use Rattle.std.specs.Prelude.{Some}
use Rattle.std_alloc.proofs.VecSteps.Shapes.{after}
use Rattle.std_alloc.proofs.BoxSteps.Form.{Bx, D, τ, word, handle}
use Rattle.std_alloc.proofs.BoxSteps.Steps.{box_out, box_in}
use Rattle.nb_ffi.proofs.HandleBox.{Handle, box_of, opened, pair_of}

-- the code, for a handle of this type and name that stands for a value of that type
abbrev pub lending : (handle : RattleType) → Sym → (type : RattleType) → Fn
lending handle name type =
    record {
      lifetimes = 1;
      outlives = [];
      ty_params = [];
      givens = 0;
      params = 1;
      locals = local (ty_ref (named 0) mut type.written.ty) value_local ∷ local (ty_ref (named 0) mut handle.written.ty) value_local ∷ local (ty_ref erased mut type.written.ty) value_local
          ∷ local ty_ptr value_local ∷ local ty_ptr value_local ∷ [];
      body = seq (block (seq (assign (place 3 []) (rv_opd (copy (place 1 (deref (pair_of name) ∷ field 0 ∷ [])))))
          (seq (assign (place 4 []) (rv_opd (copy (place 3 [])))) (assign (place 2 []) (addr_of (place 4 (deref (lone type.mir) ∷ [])))))))
          (seq (assign (place 0 []) (rv_opd (copy (place 2 [])))) return);
    }

module _ (S : Handle) where
  abbrev E : Bx
  E = box_of S.type S.laws

  -- the handle as a box
  abbrev box : S.row.Denot → S.type.Denot → D E
  box h w = record { ptr = S.ptr h; alloc = S.alloc h; value = w }

  -- the handle, with this in the place of what it stands for
  abbrev with_value : S.row.Denot → S.type.Denot → S.row.Denot
  with_value h w = S.make (S.ptr h) (S.alloc h) (Some w)

  abbrev Open : S.row.Denot → Type 0
  Open h = (w : S.type.Denot) × (S.value h ≡ Some w)

  abbrev lent : Ended
  lent = record {
    signature = record { lifetimes = 1; outlives = []; params = mut_ref_to (0 ∷ []) tt (plain (λ _. S.row)) ∷ []; result = mut_ref_to (0 ∷ []) tt (plain (λ _. S.type)) };
    kept = (no, tt);
  }

  abbrev stayed : Stays lent.signature.params lent.kept
  stayed = (stay_dropped (mut_ref_to (0 ∷ []) tt (plain (λ _. S.row))) no, tt)

  module _ {M : Type 1} {𝓤 : Ura M} (𝓛 : Logic 𝓤) where
    open 𝓛 use {H, A}

    abbrev clauses : Clauses 𝓤 lent
    clauses = λ κs args. record {
      ghost = Unit {0};
      requires = λ _. fact 𝓤 (Open args.0.now);
      ensures = λ _ result end. sep 𝓤 (sem 𝓛 (follows S.row S.type args.0.ghost_name result.ghost_name (with_value args.0.now))) (fact 𝓤 (S.value args.0.now ≡ Some result.now));
    }

    module _ (κ : Lft) (q : Share) (rb ro : ℕ) (γ : GName) (h : S.row.Denot) where
      abbrev bound : (walk_of 𝓛 lent stayed clauses).Ghost
      bound = (((κ, tt), (q, tt), tt, (record { ref_ptr = (rb, ro); ghost_name = γ; now = h }, tt), (vptr rb ro ∷ [], tt)), tt)

      abbrev Post : Val → SProp 𝓤
      Post = (walk_of 𝓛 lent stayed clauses).post bound

      module _ (b o : ℕ) (hv : Val) where
        -- all of the handle but what it stands for
        abbrev Rest : Fml
        Rest = fsep (fsep (token E.al (S.alloc h) (bare (τ E)) (block_ptr b o)) (handle E (S.alloc h) hv)) (cell_at full_share (pair_of S.name ∷ []) (word E hv b o ∷ []) rb ro)

        back : S.ptr h ≡ block_ptr b o → (w : S.type.Denot) → ent 𝓤 (sep 𝓤 (sem 𝓛 ((mem S.type).own_at w b o)) (sem 𝓛 Rest)) (sem 𝓛 ((mem S.row).own_at (with_value h w) rb ro))
        unfolding part_of
        back at_b w =
            qed 𝓛 (‵ (part_at S.type full_share w b o) ∷ ‵ Rest ∷ []) ∵ rewrite ! 0 (λ f. ‵ f) (S.value_lies w b o) refl $
            move ! (1 ∷ []) $ fsplit ! $ fsplit ! $ move ! (3 ∷ []) $ box_in E ! (box h w) b o w at_b refl $
            rewrite ! 0 (λ f. ‵ f) (sym (S.full_owns (S.ptr h) (S.alloc h) w (word E hv b o ∷ []))) refl $ move ! (1 ∷ 0 ∷ []) $
            rewrite ! 0 (λ ts. ‵ (cell_at full_share ts (word E hv b o ∷ []) rb ro)) (sym S.is_pair) refl $ fjoin ! $
            fpack ! (List Val) (λ us. fsep (cell_at full_share S.row.mir us rb ro) (S.row.own_val (with_value h w) us)) (word E hv b o ∷ []) $ done !

        exits : (γ' : GName) (known : Open h)
            → ent 𝓤 (sep 𝓤 (sem 𝓛 ((MutRef (named 0) κ S.type).own_val (record { ref_ptr = (b, o); ghost_name = γ'; now = known.0 }) (vptr b o ∷ []))) (sep 𝓤 (A.lft κ q) (sem 𝓛 (follows S.row S.type γ γ' (with_value h))))) (Post (vptr b o))
        exits γ' known =
            qed 𝓛 (‵ ((MutRef (named 0) κ S.type).own_val (record { ref_ptr = (b, o); ghost_name = γ'; now = known.0 }) (vptr b o ∷ [])) ∷ ‵ (flft κ q) ∷ ‵ (follows S.row S.type γ γ' (with_value h)) ∷ []) ∵
            suffices ! _ (ends_at 𝓛 lent stayed clauses bound (vptr b o) (record { ref_ptr = (b, o); ghost_name = γ'; now = known.0 }) (tt, tt) (tt, tt)) $
            nothing ! $ nothing ! $ fjoin ! $ join ! $ nothing ! $ move ! (2 ∷ 0 ∷ []) $ join ! $ join ! $ frame ! $ says ! known.1 $ done !

      module _ (C : Calls 𝓤 H) (Λ : Loops 𝓤 H) where
        walk : ent 𝓤 (sep 𝓤 (on_entry 𝓛 lent.signature (κ, tt) (q, tt) (record { ref_ptr = (rb, ro); ghost_name = γ; now = h }, tt) (vptr rb ro ∷ [], tt)) (fact 𝓤 (Open h))) (WpFn 𝓤 H C Λ (lending S.row S.name S.type) (vptr rb ro ∷ []) Post)
        walk =
            qed 𝓛 (((‵ (flft κ q) ⊛ ‵ ftrue) ⊛ ‵ (owns (MutRef (named 0) κ S.row ∷ []) (record { ref_ptr = (rb, ro); ghost_name = γ; now = h }, tt) (vptr rb ro ∷ [], tt))) ∷ raw (fact 𝓤 (Open h)) ∷ []) ∵
            move ! (1 ∷ []) $ heard ! (Open h) (λ known. split ! $
            enter ! C Λ (lending S.row S.name S.type) (vptr rb ro ∷ []) _ $
            alloc_all ! (λ l. pass_all ! refl ((tt, tt), tt) $
            let En : Env 𝓤 H = env (lending S.row S.name S.type).locals l in
            move ! (1 ∷ []) $ fsplit ! $ fsplit3 ! $ drop ! $ move ! (3 ∷ []) $ split ! $ move ! (2 ∷ 3 ∷ 0 ∷ []) $
            opens ! tt S.row {h = h} rb ro (λ vs. move ! (1 ∷ []) $ rewrite ! 0 (λ f. ‵ f) (opened S h known.1 vs) refl $ box_out E ! (box h known.0) vs (λ b o hv at_b ws fa.
            rewrite ! 0 (λ f. ‵ f) (sym (S.value_lies known.0 b o)) refl $ move ! (1 ∷ 2 ∷ []) $ fjoin ! $ move ! (1 ∷ []) $
            rewrite ! 2 (λ (us : List Val). ‵ (cell_at full_share S.row.mir us rb ro)) ws refl $
            rewrite ! 2 (λ ts. ‵ (cell_at full_share ts (word E hv b o ∷ []) rb ro)) S.is_pair refl $
            first ! $ blocks ! $
            sets ! (of_opd ! (load ! (through ! refl (fld ! refl (stop !))) (look_in ! 2 (sub ! 0 refl (whole !))))) refl (tt, tt) $
            sets ! (of_opd ! (get ! refl)) refl (tt, tt) $
            sets_last ! (addr ! (through ! refl (stop !))) refl (tt, tt) $
            exec ! C Λ En (after 1 (lending S.row S.name S.type).body) (at_ret En Post) $
            sets ! (of_opd ! (get ! refl)) refl (tt, tt) $
            move ! (1 ∷ 2 ∷ []) $ fjoin ! $ move ! (2 ∷ 3 ∷ 4 ∷ 1 ∷ 0 ∷ []) $ group ! 5 $
            use1 𝓛 (later (some (λ (γ' : GName). raw (Part 𝓛 S.row S.type (with_value h) (named 0) κ q rb ro b o γ (sem 𝓛 (Rest b o hv)) (back b o hv at_b) known.0 γ'))))
            (lends_Part 𝓛 S.row S.type (with_value h) (named 0) κ q rb ro b o γ (sem 𝓛 (Rest b o hv)) (back b o hv at_b) (S.row.coded.code h) (S.row.coded.code h) known.0) $ await ! tt $ pick ! (λ γ'.
            returns ! (look_at ! 0 refl) $ free_all ! refl $
            keep ! (0 ∷ []) $ by ! (exits b o hv γ' known))))))

    module _ (𝓜 : Model 𝓤 H) (𝓡 : Running 𝓤 H 𝓜) where
      pub lend : (k : Callee) → Closed 𝓤 H (tables 𝓤 H 𝓜 𝓡 𝓡.env).C (tables 𝓤 H 𝓜 𝓡 𝓡.env).Λ k (lending S.row S.name S.type)
          → Meets 𝓛 lent.signature ((tables 𝓤 H 𝓜 𝓡 𝓡.env).C k) (closing 𝓛 lent clauses)
      lend k unfolds =
          let 𝓣 = tables 𝓤 H 𝓜 𝓡 𝓡.env in
          proved 𝓛 lent stayed clauses 𝓜 𝓡 (Goes-spent_ref 𝓛 1 (0 ∷ []) tt (plain (λ _. S.row)), tt) k (lending S.row S.name S.type) unfolds
          (λ κs. (mut_vals, tt)) (λ κs. (mut_Tells (named 0) κs.0 S.row, tt))
          (λ κs qs bounds a g are. walk κs.0 qs.0 a.0.ref_ptr.0 a.0.ref_ptr.1 a.0.ghost_name a.0.now 𝓣.C 𝓣.Λ)

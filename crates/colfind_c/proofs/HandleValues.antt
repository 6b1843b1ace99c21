-- The machine values of a `Handle`: a pointer, null where it holds nothing. Assumes `Logic`.
use Rattle.std.proofs.Common.{◌≡◌, ℕ, List, [], ◌∷◌, ◌++◌, refl, subst}
use seplogic.Ra.Ura.{Ura}
use mir.Raw.{raw as bare}
use mir.Val.{Val, vstruct, vcons, vnil, of_list}
use base.Logic.{SProp, ent, guard, via, never, fst∗, snd∗, guard_i}
use contract.Monad.{fact_use}
use types.Logic.{Logic, sem}
use types.Kit.{Item, Goal, Seq, Step, step, ‵, given, ◌$◌, drop, fsplit, fjoin, fpick, fpack, feq_i, feq_l, learn, use1}
use denote.RattleType.{Valss}
use denote.Builtin.{RawPtr}
use denote.Memory.{lone}
use denote.RawPtr.{Ptr, block_ptr, null_ptr, ptr_val, in_a_block, lies_at, Testable}
use base.Fraction.{full_share}
use denote.Steps.{nothing}
use denote.Struct.Struct.{within}
use denote.Struct.Owning.{shape}
use Rattle.std.specs.Prelude.{Option, None, Some}
use Rattle.std.proofs.GlobalToken.{dealloc_token-Testable}
use Rattle.std_alloc.specs.Box.Ownership.{box_owns}
use Rattle.colfind_c.specs.Handles.{heap, right, held}
use Rattle.colfind_c.specs.contracts.owned.Owned.{the_row as R}
use Rattle.colfind_c.specs.contracts.handle.Handle as handle

abbrev pub word : Ptr → Val
word p = vstruct (vcons (ptr_val p) vnil)

module _ {M : Type 1} {𝓤 : Ura M} (𝓛 : Logic 𝓤) where
  pub tested : (p : Ptr) (x : R.Denot) → ent 𝓤 (sem 𝓛 (box_owns right R p x)) (guard 𝓤 (Testable p) (sem 𝓛 (box_owns right R p x)))
  tested p x = let B : SProp 𝓤 = sem 𝓛 (box_owns right R p x) in
      fact_use 𝓤 (Testable p) (via 𝓤 _ (snd∗ 𝓤 (sem 𝓛 (lies_at R full_share p x)) (sem 𝓛 (right (bare (lone R.mir)) p))) (dealloc_token-Testable 𝓛 heap (bare (lone R.mir)) p)) (guard_i 𝓤 (Testable p) B)

module _ {M : Type 1} {𝓤 : Ura M} {𝓛 : Logic 𝓤} {K : Type 0} {Γ : List (Item 𝓤)} {G : Goal 𝓤 𝓛.H} where
  pub handle_in : K → (p : Ptr) (y : Option R.Denot)
      → Step K 𝓛 (‵ (handle.the_row.own_val (record { at = p; value = y }) (word p ∷ [])) ∷ Γ) G (‵ (held R p y) ∷ Γ) G
  handle_in t p y = step (λ s. let v : Val = word p in
      nothing t $ feq_i t (List Val) (ptr_val p ∷ []) (ptr_val p ∷ []) refl $ fjoin t $ feq_i t (List Val) (v ∷ []) (v ∷ []) refl $ fjoin t $
      fpack t (Valss (RawPtr ∷ [])) (within (shape handle.the_type) (p, tt) (v ∷ [])) (ptr_val p ∷ [], tt) $ fjoin t $ s)

  pub handle_out : K → (d : handle.the_row.Denot) (vs : List Val)
      → (vs ≡ word d.at ∷ [] → Seq K 𝓛 (‵ (held R d.at d.value) ∷ Γ) G)
      → Seq K 𝓛 (‵ (handle.the_row.own_val d vs) ∷ Γ) G
  handle_out t d vs k = fsplit t $ fpick t (λ vss. fsplit t $ feq_l t (λ ev. fsplit t $ feq_l t (λ ep. drop t $
      k (subst (λ (ps : List Val). vs ≡ vstruct (of_list (ps ++ [])) ∷ []) ep ev))))

  pub held_out : K → (p : Ptr) (y : Option R.Denot)
      → (y ≡ None → p ≡ null_ptr → Seq K 𝓛 Γ G)
      → ((b o : ℕ) (x : R.Denot) → y ≡ Some x → p ≡ block_ptr b o → Testable (block_ptr b o) → Seq K 𝓛 (‵ (box_owns right R (block_ptr b o) x) ∷ Γ) G)
      → Seq K 𝓛 (‵ (held R p y) ∷ Γ) G
  held_out t p None none one = feq_l t (λ e. none refl e)
  held_out t p (Some x) none one =
      in_a_block t p (λ q. box_owns right R q x) (fst∗ 𝓤 (never 𝓤) (sem 𝓛 (right (bare (lone R.mir)) null_ptr))) (λ b o e.
      use1 𝓛 (given (Testable (block_ptr b o)) (‵ (box_owns right R (block_ptr b o) x))) (tested 𝓛 (block_ptr b o) x) $ learn t (λ s. one b o x refl e s))

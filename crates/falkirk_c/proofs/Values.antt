-- The machine values of a handle, and the steps that take one apart and make one. Assumes `Logic`.
use Rattle.std.proofs.Common.{◌≡◌, ℕ, List, [], ◌∷◌, ◌++◌, refl, subst}
use seplogic.Ra.Ura.{Ura}
use mir.Syntax.{Ty}
use mir.Val.{Val, vstruct, vcons, vnil, of_list, has_ty, WT}
use lib.Dec.{T}
use types.Logic.{Logic, sem}
use base.Logic.{via, fst∗, snd∗, never, guard_i}
use base.Fraction.{full_share}
use contract.Monad.{fact_use}
use mir.Raw.{raw as bare}
use denote.Memory.{lone}
use denote.Laws.{Typed}
use Rattle.std.specs.contracts.impls.GlobalAllocator.TheImpl.{ghosts}
use Rattle.std.specs.Box.Ownership.{box_owns}
use Rattle.std.proofs.GlobalToken.{dealloc_token-Testable}
use Rattle.std.specs.declared.option.Option.TheVariants.{None, Some}
use Rattle.fw_talk.specs.contracts.talk.Talk as talk
use types.Kit.{Item, Goal, Seq, Step, step, given, learn, use1, ‵, ◌$◌, drop, fsplit, fjoin, fpick, fpack, feq_i, feq_l}
use contract.Running.{Running, tables}
use prog.Model.{Model}
use sound.WpLaws.{FmC}
use denote.RattleType.{Valss}
use denote.Builtin.{RawPtr}
use denote.RawPtr.{Ptr, block_ptr, null_ptr, ptr_val, lies_at, in_a_block, Testable}
use denote.Steps.{nothing}
use denote.Struct.Struct.{within}
use denote.Struct.Owning.{shape}
use denote.Triple.Table.{framed}
use Rattle.std.specs.declared.option.Option.{Option}
use Rattle.falkirk_c.specs.Held.{heap, held}
use Rattle.falkirk_c.specs.contracts.handle.Handle as handle

abbrev pub Good : Ty → Val → Type 0
Good τ v = T (has_ty τ v) × WT v

pub one : (τ : Ty) (vs : List Val) → Typed (τ ∷ []) vs → (v : Val) × (vs ≡ v ∷ []) × Good τ v
one τ [] t = absurd t
one τ (v ∷ []) t = (v, refl, t.0)
one τ (v ∷ w ∷ vs) t = absurd t.1

abbrev pub single : Ptr → Val
single p = vstruct (vcons (ptr_val p) vnil)

module _ {M : Type 1} {𝓤 : Ura M} (𝓛 : Logic 𝓤) (𝓜 : Model 𝓤 𝓛.H) (𝓡 : Running 𝓤 𝓛.H 𝓜) where
  pub fm : FmC 𝓤 𝓛.H 𝓛.laws (tables 𝓤 𝓛.H 𝓜 𝓡 𝓡.env).C
  fm f = framed 𝓤 𝓛.H 𝓜 (tables 𝓤 𝓛.H 𝓜 𝓡 𝓡.env) f

module _ {M : Type 1} {𝓤 : Ura M} {𝓛 : Logic 𝓤} {K : Type 0} {Γ : List (Item 𝓤)} {G : Goal 𝓤 𝓛.H} where
  pub handle_out : K → (d : (handle.the_row).Denot) (vs : List Val) → (vs ≡ single d.at ∷ [] → Seq K 𝓛 (‵ (held d.at d.holds) ∷ Γ) G) → Seq K 𝓛 (‵ ((handle.the_row).own_val d vs) ∷ Γ) G
  handle_out t d vs k =
      fsplit t $ fpick t (λ vss. fsplit t $ feq_l t (λ ev. fsplit t $ feq_l t (λ ep. drop t $ k (subst (λ (ps : List Val). vs ≡ vstruct (of_list (ps ++ [])) ∷ []) ep ev))))

  -- null owns nothing, and a talk's block may be compared with null
  pub either : K → (p : Ptr) (x : Option (talk.the_row).Denot) → (p ≡ null_ptr → x ≡ None → Seq K 𝓛 Γ G)
      → ((b o : ℕ) (y : (talk.the_row).Denot) → p ≡ block_ptr b o → x ≡ Some y → Testable (block_ptr b o) → Seq K 𝓛 (‵ (box_owns (ghosts.dealloc_token heap) talk.the_row (block_ptr b o) y) ∷ Γ) G) → Seq K 𝓛 (‵ (held p x) ∷ Γ) G
  either t p None none one = feq_l t (λ e. none e refl)
  either t p (Some y) none one =
      in_a_block t p (λ q. box_owns (ghosts.dealloc_token heap) talk.the_row q y) (fst∗ 𝓤 (never 𝓤) (sem 𝓛 (ghosts.dealloc_token heap (bare (lone (talk.the_row).mir)) null_ptr))) (λ b o e.
      let B = box_owns (ghosts.dealloc_token heap) talk.the_row (block_ptr b o) y in let τ = bare (lone (talk.the_row).mir) in
      use1 𝓛 (given (Testable (block_ptr b o)) (‵ B))
      (fact_use 𝓤 (Testable (block_ptr b o)) (via 𝓤 _ (snd∗ 𝓤 (sem 𝓛 (lies_at talk.the_row full_share (block_ptr b o) y)) (sem 𝓛 (ghosts.dealloc_token heap τ (block_ptr b o)))) (dealloc_token-Testable 𝓛 heap τ (block_ptr b o))) (guard_i 𝓤 (Testable (block_ptr b o)) (sem 𝓛 B))) $
      learn t (λ test. one b o y e refl test))

  pub handle_in : K → (p : Ptr) (x : Option (talk.the_row).Denot) → Step K 𝓛 (‵ ((handle.the_row).own_val (record { at = p; holds = x }) (single p ∷ [])) ∷ Γ) G (‵ (held p x) ∷ Γ) G
  handle_in t p x = step (λ s.
      nothing t $ feq_i t (List Val) (ptr_val p ∷ []) (ptr_val p ∷ []) refl $ fjoin t $ feq_i t (List Val) (single p ∷ []) (single p ∷ []) refl $ fjoin t $
      fpack t (Valss (RawPtr ∷ [])) (within (shape handle.the_type) (p, tt) (single p ∷ [])) (ptr_val p ∷ [], tt) $ fjoin t $ s)

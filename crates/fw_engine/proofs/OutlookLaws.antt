-- Whether some node is failed, by the list of those that are.
use Rattle.std.proofs.Common.{◌≡◌, ◌↔◌, ℕ, zero, suc, Bool, true, false, List, [], ◌∷◌, Option, Some, None, refl, sym, ◌∙◌, ap, subst}
use Rattle.std.proofs.lemmas.Bool.{true≢false}
use Rattle.std.specs.Prelude.{slice_index_or}
use Rattle.std.specs.List.{list_any}
use Rattle.fw_keep.specs.Stored.{Records}
use Rattle.fw_model.specs.Machine.{is_failed}
use Rattle.fw_engine.specs.declared.engine.Engine.{Engine}
use Rattle.fw_engine.specs.Engine.{ForEachState, IsNoneFailed}

-- where none of a list is, none at a place is
none-at : (bs : List Bool) → list_any (λ down. down) bs ≡ false → (p : ℕ) → slice_index_or bs p false ≡ false
none-at [] e p = refl
none-at (true ∷ bs) e p = absurd (true≢false e)
none-at (false ∷ bs) e zero = refl
none-at (false ∷ bs) e (suc p) = none-at bs e p

-- where none at a place is, none of the list is
none-of : (bs : List Bool) → ((p : ℕ) → slice_index_or bs p false ≡ false) → list_any (λ down. down) bs ≡ false
none-of [] f = refl
none-of (true ∷ bs) f = absurd (true≢false (f 0))
none-of (false ∷ bs) f = none-of bs (λ p. f (suc p))

-- nothing is found where no node is failed
pub none-failed : {T : Type 0} (engine : Engine) (found : Option T) (bs : List Bool) (any : Bool) → found ≡ None → bs ≡ engine.running.failed.items
    → any ≡ list_any (λ down. down) bs → any ≡ false → (records : Option Records) → ForEachState engine records (λ sys state. found ≡ None ↔ IsNoneFailed state)
none-failed engine found bs any nothing is told e records sys state s = (
  (λ same p. subst (λ fs. slice_index_or fs p false ≡ false) s.apart.failed (subst (λ fs. slice_index_or fs p false ≡ false) is (none-at bs (sym told ∙ e) p))),
  (λ none. nothing),
)

-- something is found where some node is
pub some-failed : {T : Type 0} (engine : Engine) (found : Option T) (x : T) → found ≡ Some x → (bs : List Bool) (any : Bool) → bs ≡ engine.running.failed.items
    → any ≡ list_any (λ down. down) bs → any ≡ true → (records : Option Records) → ForEachState engine records (λ sys state. found ≡ None ↔ IsNoneFailed state)
some-failed engine found x something bs any is told e records sys state s = (
  (λ same. absurd (both same)),
  (λ none.
      let quiet = none-of bs (λ p.
      subst (λ fs. slice_index_or fs p false ≡ false) (sym is) (subst (λ fs. slice_index_or fs p false ≡ false) (sym s.apart.failed) (none p))) in
      absurd (true≢false (sym e ∙ told ∙ quiet))),
)
  where
    both : found ≡ None → ⊥
    both same = cc

-- Progress that is cut, by what is counted and settled anew.
use Rattle.std.proofs.Common.{◌≡◌, ℕ, ◌+◌, ◌<◌, List, [], ◌∷◌, ◌++◌, length, slice_index_or, Result, Ok, Err, sym, ap, subst, ◌∙◌, inl, inr, arith}
use Rattle.std.specs.Prelude.{IfOk}
use Rattle.std.proofs.lemmas.Bool.{cases_lt}
use Rattle.std.proofs.lemmas.List.{get_or_append_left}
use Rattle.std.proofs.Math.Seq.{get_or-append_seam}
use Rattle.fw_time.specs.declared.stamp.Bounds.{Bounds}
use Rattle.fw_frontier.specs.Frontier.{meet}
use Rattle.fw_frontier.specs.Front.{Front, IsCanonical, IsFrontOf, frontier_of}
use Rattle.fw_flow.specs.declared.choice.Cut.{Cut}
use Rattle.fw_flow.specs.declared.choice.Cut.TheVariants.{At}
use Rattle.fw_model.specs.Choice.{IsCanonicalCut}
use Rattle.fw_stands.specs.Recovered.{IsSettledBy}

-- what is so at each of the first places of a list is so at one more, if it is at the element that is put behind
pub each-pushed : {A : Type 0} (d : A) (P : ℕ → A → Type 0) (n : ℕ) (xs ys : List A) (x : A) → length xs ≡ n → ys ≡ xs ++ x ∷ []
    → ((i : ℕ) → i < n → P i (slice_index_or xs i d)) → P n x → (i : ℕ) → i < n + 1 → P i (slice_index_or ys i d)
each-pushed {A = A} d P n xs ys x long is each last i l = elim (cases_lt i n) [
  | inl below ↦
      subst (P i) (sym (ap (λ (zs : List A). slice_index_or zs i d) is ∙ get_or_append_left xs (x ∷ []) d i (omega arith))) (each i below)
  | inr above ↦
      let at : i ≡ n = omega arith in
      let here : slice_index_or ys n d ≡ x =
      ap (λ (zs : List A). slice_index_or zs n d) is ∙ ap (λ k. slice_index_or (xs ++ x ∷ []) k d) (sym long) ∙ get_or-append_seam xs x [] d in
      subst (λ k. P k (slice_index_or ys k d)) (sym at) (subst (P n) (sym here) last)
]

-- ---- what is settled after a cut

-- the front that two have in common is what is settled after a cut to one of them
pub met-settles : {E : Type 0} (before f : Front) (cut : Cut) (r : Result Front E) → cut ≡ At f
    → ((bounds : Bounds) → IsCanonical bounds before → IsCanonical bounds f
    → IfOk r (λ g. IsFrontOf bounds g (meet (frontier_of bounds before) (frontier_of bounds f))))
    → IfOk r (IsSettledBy before cut)
met-settles before f cut (Err x) is names = tt
met-settles before f cut (Ok g) is names = subst (λ x. IsSettledBy before x g) (sym is) names

pub met-canonical : {E : Type 0} (before f : Front) (cut : Cut) (r : Result Front E) → cut ≡ At f
    → ((bounds : Bounds) → IsCanonical bounds before → IsCanonical bounds f
    → IfOk r (λ g. IsFrontOf bounds g (meet (frontier_of bounds before) (frontier_of bounds f))))
    → (bounds : Bounds) → IsCanonical bounds before → IsCanonicalCut bounds cut → IfOk r (IsCanonical bounds)
met-canonical before f cut (Err x) is names bounds b c = tt
met-canonical before f cut (Ok g) is names bounds b c = (names bounds b (subst (IsCanonicalCut bounds) is c)).canonical

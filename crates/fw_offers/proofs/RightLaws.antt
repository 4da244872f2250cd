-- In what sides and notification frontiers have to lie.
use Rattle.std.proofs.Common.{◌≡◌, ℕ, zero, suc, ◌+◌, ◌<◌, List, [], ◌∷◌, ◌++◌, length, get_or, refl, sym, ap, subst, ◌∙◌, inl, inr, arith}
use Rattle.fw_time.specs.declared.stamp.Bounds.{Bounds}
use Rattle.fw_frontier.specs.Frontier.{Frontier}
use Rattle.fw_frontier.specs.Front.{Front, frontier_of, IsFrontOf}
use Rattle.fw_flow.specs.declared.choice.Choice.{Choice}
use Rattle.fw_flow.specs.declared.choice.Cut.{Cut}
use Rattle.fw_flow.specs.declared.choice.Cut.TheVariants.{Present}
use Rattle.fw_flow.specs.declared.choice.Offer.{Offer}
use Rattle.fw_flow.specs.Dataflow.{Dataflow, sender, receiver, bounds_of}
use Rattle.fw_model.specs.Choice.{cut_of, IsCanonicalCut}
use Rattle.fw_model.specs.Covers.{set_of}
use Rattle.fw_model.specs.Offers.{arrived_from, covers_of}
use Rattle.fw_flow.specs.declared.side.Side.{Side}
use Rattle.fw_flow.specs.declared.side.Side.TheVariants.{Delivered, Discarded}
use Rattle.fw_model.specs.Inclusions.{side_bounds, IsSideOfFlow, right_of}
use Rattle.fw_model.specs.Choice.{IsChoiceOf}
use Rattle.std.proofs.lemmas.Bool.{cases_lt}
use Rattle.std.proofs.lemmas.List.{get_or_read}
use Rattle.fw_model.specs.Lowerings.{choice_of}

-- what comes from what a front names
pub arrived_same : (flow : Dataflow) (offers : List Offer) (e : ℕ) (b c : Bounds) (f g : Front) (s : Frontier) → IsFrontOf c f s → IsFrontOf b g (arrived_from flow offers e (frontier_of c f)) → IsFrontOf b g (arrived_from flow offers e s)
arrived_same flow offers e b c f g s n m = subst (λ h. IsFrontOf b g (arrived_from flow offers e h)) (λ i t. n.same t i) m

pub cut_here : (flow : Dataflow) (choice : Choice) (p q : ℕ) (c : Cut) → IsChoiceOf flow choice → p < length flow.nodes → c ≡ cut_of choice q → q ≡ p → IsCanonicalCut (bounds_of flow p) c
cut_here flow choice p q c r l is e = subst (IsCanonicalCut (bounds_of flow p)) (sym (is ∙ ap (cut_of choice) e)) (r.cuts p l)

pub there_at : (flow : Dataflow) (side other : Side) → IsSideOfFlow flow side → side ≡ other → IsSideOfFlow flow other
there_at flow side other l e = subst (IsSideOfFlow flow) e l

pub delivered_at_cut : (flow : Dataflow) (offers : List Offer) (side : Side) (d q : ℕ) (choice : Choice) (g : Front) (c : Cut) → side ≡ Delivered d → c ≡ cut_of choice q → q ≡ sender flow d
    → IsFrontOf (bounds_of flow (receiver flow d)) g (arrived_from flow offers d (set_of flow (sender flow d) c)) → IsFrontOf (side_bounds flow side) g (right_of flow (covers_of flow offers) side choice)
delivered_at_cut flow offers side d q choice g c e is k n =
    subst (λ s. IsFrontOf (side_bounds flow s) g (right_of flow (covers_of flow offers) s choice)) (sym e)
    (subst (λ x. IsFrontOf (bounds_of flow (receiver flow d)) g (arrived_from flow offers d (set_of flow (sender flow d) x))) (is ∙ ap (cut_of choice) k) n)

pub discarded_at_cut : (flow : Dataflow) (offers : List Offer) (side : Side) (d q : ℕ) (choice : Choice) (g : Front) (c : Cut) → side ≡ Discarded d → c ≡ cut_of choice q → q ≡ receiver flow d
    → IsFrontOf (bounds_of flow (receiver flow d)) g (set_of flow (receiver flow d) c) → IsFrontOf (side_bounds flow side) g (right_of flow (covers_of flow offers) side choice)
discarded_at_cut flow offers side d q choice g c e is k n =
    subst (λ s. IsFrontOf (side_bounds flow s) g (right_of flow (covers_of flow offers) s choice)) (sym e)
    (subst (λ x. IsFrontOf (bounds_of flow (receiver flow d)) g (set_of flow (receiver flow d) x)) (is ∙ ap (cut_of choice) k) n)

-- ---- what each cut keeps

at_before : {A : Type 0} (xs : List A) (x : A) (p : ℕ) (d : A) → p < length xs → get_or (xs ++ x ∷ []) p d ≡ get_or xs p d
at_before [] x p d l = absurd (omega arith)
at_before (y ∷ xs) x zero d l = refl
at_before (y ∷ xs) x (suc p) d l = at_before xs x p d (omega arith)

at_end : {A : Type 0} (xs : List A) (x : A) (d : A) → get_or (xs ++ x ∷ []) (length xs) d ≡ x
at_end [] x d = refl
at_end (y ∷ xs) x d = at_end xs x d

pub each_more : {A : Type 0} (P : ℕ → A → Type 0) (xs ys : List A) (x : A) (n q : ℕ) (d : A) → ys ≡ xs ++ x ∷ [] → length xs ≡ n → q ≡ n
    → ((p : ℕ) → p < n → P p (get_or xs p d)) → P q x → (p : ℕ) → p < n + 1 → P p (get_or ys p d)
each_more P xs ys x n q d e c same h k p l = elim (cases_lt p n) [
  | inl m ↦ subst (P p) (sym (ap (λ zs. get_or zs p d) e ∙ at_before xs x p d (omega arith))) (h p m)
  | inr m ↦
      let here : p ≡ length xs = omega arith in
      let there : q ≡ p = omega arith in
      let is : get_or ys p d ≡ x = ap (λ zs. get_or zs p d) e ∙ ap (λ i. get_or (xs ++ x ∷ []) i d) here ∙ at_end xs x d in
      subst (P p) (sym is) (subst (λ i. P i x) there k)
]

pub kept_here : (flow : Dataflow) (cuts : List Cut) (i : ℕ) (x : Cut) (f : Front) → i < length cuts → x ≡ get_or cuts i x → IsFrontOf (bounds_of flow i) f (set_of flow i x)
    → IsFrontOf (bounds_of flow i) f (set_of flow i (cut_of (choice_of cuts []) i))
kept_here flow cuts i x f l is n = subst (λ c. IsFrontOf (bounds_of flow i) f (set_of flow i c)) (get_or_read cuts i x l is Present) n

pub canonical_here : (flow : Dataflow) (cuts : List Cut) (i : ℕ) (x : Cut) → i < length cuts → x ≡ get_or cuts i x → IsCanonicalCut (bounds_of flow i) (cut_of (choice_of cuts []) i) → IsCanonicalCut (bounds_of flow i) x
canonical_here flow cuts i x l is c = subst (IsCanonicalCut (bounds_of flow i)) (sym (get_or_read cuts i x l is Present)) c

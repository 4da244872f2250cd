-- The batches with which a session opens, node by node.
use Rattle.std.proofs.Common.{◌≡◌, ◌≢◌, ℕ, ◌+◌, ◌≤◌, Bool, true, false, nat_lt, cond, List, [], ◌∷◌, ◌++◌, length, map, refl, sym, ap, subst, ◌∙◌, inl, inr, arith}
use Rattle.std.proofs.lemmas.Bool.{cases_eq, cases_lt, lt-ltb, ne_eqb, ltb-true}
use Rattle.fw_lemmas.proofs.Numbers.{eqb-self}
use Rattle.fw_bag.specs.declared.rec.Rec.{Rec}
use Rattle.fw_lines.specs.Batches.{batches_at}
use Rattle.fw_flow.specs.Dataflow.{Dataflow, node_ids, batches_of_nodes}
use Rattle.fw_session.specs.Opening.{AddsFirst}
use Rattle.fw_session.specs.Story.{first_batches, opening_batches}
use Rattle.fw_session.proofs.SessionLaws.{none-past}

-- the nodes before a place have the batches with which they open, and the others none
abbrev pub HaveFirst : Dataflow → ℕ → List (ℕ × List (List Rec)) → Type 0
HaveFirst flow place batches = (q : ℕ) → batches_at batches q ≡ cond (nat_lt q place) (first_batches flow q) []

not-below : (q place : ℕ) → place ≤ q → nat_lt q place ≡ false
not-below q place ge = by (nat_lt q place) refl
  where
    by : (b : Bool) → nat_lt q place ≡ b → b ≡ false
    by true e = let lt = ltb-true q place e in absurd (omega arith)
    by false e = refl

pub first-none : (flow : Dataflow) (batches : List (ℕ × List (List Rec))) → batches ≡ [] → HaveFirst flow 0 batches
first-none flow batches none q =
    ap (λ bs. batches_at bs q) none ∙ ap (λ b. cond b (first_batches flow q) []) (sym (not-below q 0 (omega arith)))

below-more : (q place : ℕ) → q ≢ place → nat_lt q (place + 1) ≡ nat_lt q place
below-more q place n = elim (cases_lt q place) [
  | inl lt ↦ lt-ltb q (place + 1) (omega arith) ∙ sym (lt-ltb q place lt)
  | inr ge ↦ not-below q (place + 1) (omega (arith, ge, n)) ∙ sym (not-below q place ge)
]

pub first-more : (flow : Dataflow) (place : ℕ) (old new : List (ℕ × List (List Rec))) → HaveFirst flow place old → AddsFirst flow place old new
    → HaveFirst flow (place + 1) new
first-more flow place old new have adds q = elim (cases_eq q place) [
  | inl e ↦ subst (λ p. batches_at new p ≡ cond (nat_lt p (place + 1)) (first_batches flow p) []) (sym e)
      (adds place
      ∙ ap (λ b. cond b (batches_at old place ++ first_batches flow place) (batches_at old place)) (eqb-self place)
      ∙ ap (λ bs. bs ++ first_batches flow place) (have place ∙ ap (λ b. cond b (first_batches flow place) []) (not-below place place (omega arith)))
      ∙ ap (λ b. cond b (first_batches flow place) []) (sym (lt-ltb place (place + 1) (omega arith))))
  | inr n ↦ adds q ∙ ap (λ b. cond b (batches_at old q ++ first_batches flow place) (batches_at old q)) (ne_eqb place q (λ e. n (sym e)))
      ∙ have q ∙ ap (λ b. cond b (first_batches flow q) []) (sym (below-more q place n))
]

none-first : (flow : Dataflow) (q : ℕ) → length flow.nodes ≤ q → first_batches flow q ≡ []
none-first flow q ge = ap (λ b. cond b ([] ∷ []) []) (none-past flow q ge)

first-all : (flow : Dataflow) (batches : List (ℕ × List (List Rec))) → HaveFirst flow (length flow.nodes) batches → (q : ℕ)
    → batches_at batches q ≡ first_batches flow q
first-all flow batches have q = elim (cases_lt q (length flow.nodes)) [
  | inl lt ↦ have q ∙ ap (λ b. cond b (first_batches flow q) []) (lt-ltb q (length flow.nodes) lt)
  | inr ge ↦ have q ∙ ap (λ b. cond b (first_batches flow q) []) (not-below q (length flow.nodes) ge) ∙ sym (none-first flow q ge)
]

same-map : {A B : Type 0} (f g : A → B) → ((x : A) → f x ≡ g x) → (xs : List A) → map f xs ≡ map g xs
same-map f g e [] = refl
same-map f g e (x ∷ xs) = ap (λ y. y ∷ map f xs) (e x) ∙ ap (λ ys. g x ∷ ys) (same-map f g e xs)

pub opening-given : (flow : Dataflow) (batches : List (ℕ × List (List Rec))) → HaveFirst flow (length flow.nodes) batches
    → batches_of_nodes flow batches ≡ opening_batches flow
unfolding batches_of_nodes
opening-given flow batches have = same-map (batches_at batches) (first_batches flow) (first-all flow batches have) (node_ids flow)

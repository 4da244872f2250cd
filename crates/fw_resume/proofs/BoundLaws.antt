-- An output acknowledges at most 2^32 stamps: each is one of its domain.
use Rattle.std.proofs.Common.{◌≡◌, ℕ, zero, suc, ◌+◌, ◌<◌, ◌≤◌, ◌^◌, List, [], ◌∷◌, length, map, sym, ap, subst, ◌∙◌, inl, inr, arith, slice_index_or, slice_set}
use Rattle.std.proofs.lemmas.Bool.{and_parts, cases_eq, cases_lt}
use Rattle.std.proofs.lemmas.List.{get_or-set_same, get_or-set_other, get_or_past, length-set}
use Rattle.fw_time.specs.Stamp.{in_domain}
use Rattle.fw_frontier.specs.Front.{inside}
use Rattle.fw_flow.specs.declared.step.Step.{Step}
use Rattle.fw_flow.specs.declared.step.Step.TheVariants.{Inject, Deliver, Notify, Progress as ProgressStep, Checkpoint, Persist, Fail, Recover, Collect, Ack}
use Rattle.fw_flow.specs.Dataflow.{System, bounds_of, node_ids}
use Rattle.fw_flow.specs.WellFormed.{IsWellFormed}
use Rattle.fw_model.specs.Machine.{Machine, ack_count_of, first_state, front_of}
use Rattle.fw_model.specs.Reached.{IsReached}
use Rattle.fw_model.specs.Steps.{Effect, LeadsTo, Outcome, Run, StepsTo, did, idle}
use Rattle.fw_stands.proofs.SpellingLaws.{stamps_have_spellings}

-- no bound is above 2^32
abbrev AreBounded : List ℕ → Type 0
AreBounded bounds = (o : ℕ) → slice_index_or bounds o 0 ≤ 2 ^ 32

set-bounded : (bounds : List ℕ) (q n : ℕ) → n ≤ 2 ^ 32 → AreBounded bounds → AreBounded (slice_set bounds q n)
set-bounded bounds q n l a o = elim (cases_eq o q) [
  | inl e ↦ elim (cases_lt q (length bounds)) [
    | inl k ↦
        let g : slice_index_or (slice_set bounds q n) o 0 ≡ n = ap (λ i. slice_index_or (slice_set bounds q n) i 0) e ∙ get_or-set_same bounds q n 0 k in
        subst (λ i. i ≤ 2 ^ 32) (sym g) l
    | inr k ↦
        let g : slice_index_or (slice_set bounds q n) o 0 ≡ 0 = get_or_past (slice_set bounds q n) o 0 (omega (arith, k, e, length-set bounds q n)) in
        subst (λ i. i ≤ 2 ^ 32) (sym g) (omega arith)
  ]
  | inr e ↦
      let g : slice_index_or (slice_set bounds q n) o 0 ≡ slice_index_or bounds o 0 = get_or-set_other bounds q o n 0 e in
      subst (λ i. i ≤ 2 ^ 32) (sym g) (a o)
]

kept-bounded : (state next : Machine) → next.ack_counts ≡ state.ack_counts → AreBounded state.ack_counts → AreBounded next.ack_counts
kept-bounded state next e a = subst AreBounded (sym e) a

led-bounded : (sys : System) → IsWellFormed sys.flow → (state : Machine) (step : Step) (next : Machine) (effect : Effect) → AreBounded state.ack_counts
    → LeadsTo sys state step next effect → AreBounded next.ack_counts
led-bounded sys w state (Inject s) next effect a t = kept-bounded state next (ap (λ (m : Machine). m.ack_counts) t.3) a
led-bounded sys w state (Deliver e at) next effect a t = kept-bounded state next (ap (λ (m : Machine). m.ack_counts) t.3) a
led-bounded sys w state (Notify p at) next effect a t = kept-bounded state next (ap (λ (m : Machine). m.ack_counts) t.3) a
led-bounded sys w state ProgressStep next effect a t = kept-bounded state next (ap (λ (m : Machine). m.ack_counts) t.3) a
led-bounded sys w state (Checkpoint p) next effect a t = kept-bounded state next (ap (λ (m : Machine). m.ack_counts) t.3) a
led-bounded sys w state Persist next effect a t = kept-bounded state next (ap (λ (m : Machine). m.ack_counts) t.2) a
led-bounded sys w state (Fail ps) next effect a t = kept-bounded state next (ap (λ (m : Machine). m.ack_counts) t.4) a
led-bounded sys w state Recover next effect a t = kept-bounded state next (ap (λ (m : Machine). m.ack_counts) t.7) a
led-bounded sys w state Collect next effect a t = kept-bounded state next (ap (λ (m : Machine). m.ack_counts) t.3) a
led-bounded sys w state (Ack q) next effect a t =
    let x = t.0 in
    let b = bounds_of sys.flow q in
    let fit = ((stamps_have_spellings sys.flow w q).1 (x ∷ []) (and_parts (in_domain b (x ∷ [])) (inside (front_of state.settled q) (x ∷ [])) t.1.settled).0).fit in
    let l : x < 2 ^ 32 = fit.0 in
    subst (λ (m : Machine). AreBounded m.ack_counts) (sym t.2) (set-bounded state.ack_counts q (x + 1) (omega (arith, l)) a)

run-bounded : (sys : System) → IsWellFormed sys.flow → (steps : List Step) (outcomes : List Outcome) (state last : Machine) → AreBounded state.ack_counts
    → Run sys state steps outcomes last → AreBounded last.ack_counts
run-bounded sys w [] [] state last a r = kept-bounded state last (ap (λ (m : Machine). m.ack_counts) r) a
run-bounded sys w [] (x ∷ os) state last a r = absurd r
run-bounded sys w (s ∷ ss) [] state last a r = absurd r
run-bounded sys w (s ∷ ss) (x ∷ os) state last a r = run-bounded sys w ss os r.0 last (one x r.1) r.2
  where
    one : (outcome : Outcome) → StepsTo sys state s r.0 outcome → AreBounded r.0.ack_counts
    one (did effect) t = led-bounded sys w state s r.0 effect a t
    one idle t = kept-bounded state r.0 (ap (λ (m : Machine). m.ack_counts) t.1) a

zeros-bounded : (xs : List ℕ) → AreBounded (map (λ p. 0) xs)
zeros-bounded [] o = omega arith
zeros-bounded (x ∷ xs) zero = omega arith
zeros-bounded (x ∷ xs) (suc o) = zeros-bounded xs o

pub bounds-few : (sys : System) → IsWellFormed sys.flow → (state : Machine) → IsReached sys state → (o : ℕ) → ack_count_of state o ≤ 2 ^ 32
bounds-few sys w state r = run-bounded sys w r.0 r.1 (first_state sys) state (zeros-bounded (node_ids sys.flow)) r.2

-- Whether progress is enabled, and where it grows, by the fronts that are kept.
use Rattle.std.proofs.Common.{◌≡◌, ℕ, true, false, not, ◌||◌, [], ◌∷◌, refl, sym, ap, ◌∙◌, inl, inr, Bool, List, ◌<◌, length}
use Rattle.std.proofs.lemmas.Bool.{cases_Bool, or_parts, or_cases, or_left, and_from, and_parts, and_right, false_from_ne_true, not_from_false}
use Rattle.std.specs.List.{AllByRecursion, list_any}
use Rattle.fw_lemmas.proofs.Bools.{two_ways}
use Rattle.fw_time.specs.Stamp.{Stamp, in_domain}
use Rattle.fw_time.specs.declared.stamp.Bounds.{Bounds}
use Rattle.fw_frontier.specs.Frontier.{Within, join, Frontier}
use Rattle.fw_frontier.specs.Front.{Front, IsCanonical, IsFrontOf, frontier_of, inside, is_within, same_front}
use Rattle.fw_frontier.proofs.CanonicalLaws.{in_domain-canonical}
use Rattle.fw_frontier.proofs.NamesLaws.{all-outside, is_within-holds}
use Rattle.fw_frontier.proofs.SameLaws.{same_front-from}
use Rattle.fw_flow.specs.Dataflow.{bounds_of, System}
use Rattle.fw_flow.specs.WellFormed.{IsWellFormedSystem}
use Rattle.fw_flow.specs.declared.step.Step.TheVariants.{Progress as ProgressStep}
use Rattle.fw_model.specs.Machine.{family_of, front_of, is_failed, Machine, events}
use Rattle.fw_model.proofs.SettleLaws.{settled-grows}
use Rattle.fw_model.specs.Reached.{IsReached}
use Rattle.fw_model.specs.Steps.{GrowsTo, LeadsTo, silent}
use Rattle.fw_model.specs.History.{IsComplete}
use Rattle.fw_model.specs.Auto.{IsIdle}
use Rattle.fw_progress.specs.Settle.{has_more, IsJoined}
use Rattle.fw_stands.specs.Settling.{GrowsByKept, settled_state}
use Rattle.fw_stands.proofs.AtReached.{reached-settled}
use Rattle.fw_stands.proofs.GrowthLaws.{all_settled-idle, joined-same, joined-has, grows-to_complete, ungrown-same, grown-differs}

-- ---- fronts

none-inside : (f g : Front) → has_more f g ≡ false → is_within f g ≡ true
none-inside f [] e = refl
none-inside f (o ∷ g) e =
    let a = or_parts (inside f o) (has_more f g) e in
    and_from (not (inside f o)) (is_within f g) (not_from_false (inside f o) a.0) (none-inside f g a.1)

pub no_more-within : (b : Bounds) (f g : Front) → has_more f g ≡ false → Within (frontier_of b f) (frontier_of b g)
no_more-within b f g e = is_within-holds b f g (none-inside f g e)

-- a stamp that is inside one and outside the other
record IsBetween (b : Bounds) (f g : Front) (t : Stamp) : Type 0 where
  of_domain : in_domain b t ≡ true
  gained : inside f t ≡ true
  lacked : inside g t ≡ false

found-between : (b : Bounds) (f g os : Front) → AllByRecursion (λ o. in_domain b o ≡ true) os → AllByRecursion (λ o. inside g o ≡ false) os
    → list_any (λ o. inside f o) os ≡ true → (t : Stamp) × IsBetween b f g t
found-between b f g [] d n e = absurd (two_ways false e refl)
found-between b f g (o ∷ os) d n e = elim (or_cases (inside f o) (list_any (λ q. inside f q) os) e) [
  | inl i ↦ (o, record { of_domain = d.0; gained = i; lacked = n.0 })
  | inr i ↦ found-between b f g os d.1 n.1 i
]

between : (b : Bounds) (f g : Front) → IsCanonical b g → has_more f g ≡ true → (t : Stamp) × IsBetween b f g t
between b f g c e = found-between b f g g (in_domain-canonical b g c) (all-outside g) e

more-not_within : (b : Bounds) (f g : Front) → IsCanonical b g → has_more f g ≡ true → Within (frontier_of b f) (frontier_of b g) → ⊥
more-not_within b f g c e within =
    let t = between b f g c e in
    let i = within t.0 (and_from (in_domain b t.0) (inside f t.0) t.1.of_domain t.1.gained) in
    two_ways (inside g t.0) (and_parts (in_domain b t.0) (inside g t.0) i).1 t.1.lacked

-- ---- the step

-- where at no node that is not failed more is kept than settled, and what is kept is complete, the step of progress is idle
pub no_more-idle : (sys : System) (state : Machine) (kept : List Front) → IsComplete sys (events state.history) (family_of sys.flow kept)
    → ((p : ℕ) → p < length sys.flow.nodes → is_failed state p ≡ false → has_more (front_of kept p) (front_of state.settled p) ≡ false)
    → IsIdle sys state ProgressStep
no_more-idle sys state kept c none =
    all_settled-idle sys state (family_of sys.flow kept) c
    (λ p l f. no_more-within (bounds_of sys.flow p) (front_of kept p) (front_of state.settled p) (none p l f))

-- where at a node that is not failed more is kept than settled, and what is kept is complete, the step of progress is enabled
pub more-progress : (sys : System) → IsWellFormedSystem sys → (state : Machine) → IsReached sys state
    → (kept : List Front) → IsComplete sys (events state.history) (family_of sys.flow kept) → (p : ℕ) → p < length sys.flow.nodes
    → is_failed state p ≡ false → has_more (front_of kept p) (front_of state.settled p) ≡ true
    → (settled : List Front) × LeadsTo sys state ProgressStep (settled_state sys state settled) silent
more-progress sys w state r kept c p l f e =
    let b = bounds_of sys.flow p in
    let t = between b (front_of kept p) (front_of state.settled p) (reached-settled sys state w r p l) e in
    let g = settled-grows sys state (family_of sys.flow kept) c (record {
      node = p;
      at = t.0;
      declared = l;
      live = f;
      complete = and_from (in_domain b t.0) (inside (front_of kept p) t.0) t.1.of_domain t.1.gained;
      unsettled = and_right (in_domain b t.0) (inside (front_of state.settled p) t.0) t.1.lacked;
    }) in
    (g.0, (family_of sys.flow kept, g.0, g.1, refl, refl))

-- ---- where it grows

-- progress leaves what is settled of a node as it was exactly where the node is failed, or no more is kept of it than was settled,
-- where what is kept is complete
pub fronts-grow : (sys : System) → IsWellFormedSystem sys → (state : Machine) → IsReached sys state
    → (done : ℕ → Frontier) (settled : List Front) → GrowsTo sys state done settled
    → (kept : List Front) → IsComplete sys (events state.history) (family_of sys.flow kept) → (p : ℕ) → p < length sys.flow.nodes
    → same_front (front_of state.settled p) (front_of settled p)
    ≡ (is_failed state p || not (has_more (front_of kept p) (front_of state.settled p)))
fronts-grow sys w state r done settled grown kept c p l =
    let g = grows-to_complete sys state done settled grown (family_of sys.flow kept) c in
    let old = front_of state.settled p in
    let new = front_of settled p in
    let more = has_more (front_of kept p) old in
    elim (cases_Bool (is_failed state p)) [
      | inl f ↦ same_front-from old new (sym (g.failed p l f)) ∙ sym (or_left (is_failed state p) (not more) f)
      | inr f ↦ elim (cases_Bool more) [
        | inl m ↦
            grown-differs sys state (family_of sys.flow kept) settled g p l f
            (more-not_within (bounds_of sys.flow p) (front_of kept p) old (reached-settled sys state w r p l) m)
            ∙ sym (ap (λ b. b || not more) f ∙ ap not m)
        | inr m ↦
            same_front-from old new (sym (ungrown-same sys w state r (family_of sys.flow kept) settled g p l (no_more-within (bounds_of sys.flow p) (front_of kept p) old m)))
            ∙ sym (ap (λ b. b || not more) f ∙ ap not m)
      ]
    ]

-- ---- fronts that are joined

grows-failed : (b : Bounds) (settled kept both : Front) → both ≡ settled → GrowsByKept true settled kept both
grows-failed b settled kept both e = record { lost = λ f. e; same = λ n. e; all = λ f. absurd (two_ways true refl f) }

grows-live : (b : Bounds) (settled kept both : Front) → IsCanonical b settled → IsFrontOf b both (join (frontier_of b settled) (frontier_of b kept)) → GrowsByKept false settled kept both
grows-live b settled kept both c n = record {
  lost = λ f. absurd (two_ways false f refl);
  same = λ none. joined-same b settled both (frontier_of b kept) c (no_more-within b kept settled none) n;
  all = λ f. false_from_ne_true (has_more kept both) (λ more. more-not_within b kept both n.canonical more (joined-has b settled both (frontier_of b kept) n));
}

-- a front that is as it was at a node that is failed, and else the union with what is kept, grows by what is kept, whatever it stands for
pub joined-grow : (bounds : Bounds) (failed : Bool) (settled kept both : Front) → IsCanonical bounds settled → IsCanonical bounds kept
    → IsJoined bounds failed settled kept both → GrowsByKept failed settled kept both
joined-grow b true settled kept both cs ck j = grows-failed b settled kept both j
joined-grow b false settled kept both cs ck j = grows-live b settled kept both cs (j cs ck)

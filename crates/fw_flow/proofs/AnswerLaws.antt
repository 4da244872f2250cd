-- Each rule of a flow's declarations is kept or broken, first on some line: so declarations are those of a well-formed dataflow, or
-- break a rule first.
use Rattle.std.proofs.Common.{◌≡◌, ℕ, zero, suc, ◌<◌, ◌≤◌, ◌⊎◌, inl, inr, Bool, true, false, ◌&&◌, ◌==◌, List, [], ◌∷◌, length, take, Option, Some, None, ◌^◌, refl, sym, ap, ◌∙◌, subst, arith, slice_get, IfSome}
use Rattle.std.proofs.lemmas.Bool.{cases_lt, cases_eq, and_parts, and_from, eqb-true, eq-eqb, true≢false, false≢true}
use Rattle.std.specs.List.{AllByRecursion}
use Rattle.std.specs.Prelude.{IsTrue}
use Rattle.fw_lines.specs.declared.refusal.Code.{Code}
use Rattle.fw_lines.specs.declared.refusal.Code.TheVariants.{F3, F4, F5, F6, F7, F8, F9, F12}
use Rattle.fw_lines.specs.declared.refusal.Refusal.{Refusal}
use Rattle.fw_flow.specs.declared.kind.Domain.{Domain}
use Rattle.fw_flow.specs.declared.kind.Domain.TheVariants.{Epoch, Number, Loop as InLoop}
use Rattle.fw_flow.specs.Kind.{Kind, RawKind}
use Rattle.fw_flow.specs.declared.kind.Kind.TheVariants.{Input, OutputEpoch, OutputNumber, Concat, Join, Regroup}
use Rattle.fw_flow.specs.declared.kind.Policy.{Policy}
use Rattle.fw_flow.specs.declared.kind.Policy.TheVariants as policy
use Rattle.fw_flow.specs.Declaring.{Declaration}
use Rattle.fw_flow.specs.declared.raw.Declaration.TheVariants.{Loop as ALoop, Node as ANode, Edge as AnEdge}
use Rattle.fw_flow.specs.Declaring.{Declared}
use Rattle.fw_flow.specs.Check.{are_names_declared, IsWithinLimitsAfter, NamesTheDeclared, HasItsDegrees, JoinsDomains, AreWalksRight, IsWalkWrong, HasAllowedPolicy, StaysWithinLimits, HasNodeOf, all_lines, loop_lines, node_lines, edge_lines, HoldsBelow, IsFirstBreak, KeepsRule, IsBroken, rules, later_rules, IsFirstBrokenOf, IsFirstBroken, IsChecked, IsSplitNumber}
use Rattle.fw_flow.specs.Dataflow.{Dataflow, ends_within, kind_of, policy_of, sender, receiver, in_edges, out_edges, domain_of, out_domain_of, is_input_kind, is_output_kind}
use Rattle.fw_flow.specs.Raw.{names_of, loop_names, node_names, edge_names, flow_of_declarations}
use Rattle.fw_flow.specs.Depths.{depth_of, depth_graph, ReturningPath}
use Rattle.fw_flow.specs.Walks.{IsPath}
use Rattle.fw_flow.specs.WellFormed.{HasShortChain, IsInDegree, IsOutDegree, IsPolicyAllowed, IsGroupSize, may_keep_nothing}
use Rattle.fw_flow.proofs.Checks.{both_declared, length-edge_lines, IsWellFormed-from_rules, numbers-within}
use Rattle.fw_flow.proofs.Depths.{no_return-right, return-wrong}
use Rattle.fw_flow.proofs.Reach.{reach, Path-from_reach, reach-from_Path, find_below}

-- it is so, or it is not
abbrev Decided : Type 0 → Type 0
Decided P = P ⊎ (P → ⊥)

decided_le : (a b : ℕ) → Decided (a ≤ b)
decided_le a b = elim (cases_lt b a) [ inl more ↦ inr (λ h. omega (arith, h, more)) | inr less ↦ inl (omega (arith, less)) ]

decided_lt : (a b : ℕ) → Decided (a < b)
decided_lt a b = elim (cases_lt a b) [ inl less ↦ inl less | inr more ↦ inr (λ h. omega (arith, h, more)) ]

decided_eq : (a b : ℕ) → Decided (a ≡ b)
decided_eq a b = elim (cases_eq a b) [ inl same ↦ inl same | inr other ↦ inr other ]

decided_true : (b : Bool) → Decided (b ≡ true)
decided_true true = inl refl
decided_true false = inr (λ e. false≢true e)

decided_both : (P Q : Type 0) → Decided P → Decided Q → Decided (P × Q)
decided_both P Q (inl p) (inl q) = inl (p, q)
decided_both P Q (inl p) (inr q) = inr (λ h. q h.1)
decided_both P Q (inr p) q = inr (λ h. p h.0)

decided_three : (P Q R : Type 0) → Decided P → Decided Q → Decided R → Decided (P × Q × R)
decided_three P Q R (inl p) (inl q) (inl r) = inl (p, q, r)
decided_three P Q R (inl p) (inl q) (inr r) = inr (λ h. r h.2)
decided_three P Q R (inl p) (inr q) r = inr (λ h. q h.1)
decided_three P Q R (inr p) q r = inr (λ h. p h.0)

decided_some : (P : Declared → Type 0) → ((d : Declared) → Decided (P d)) → (o : Option Declared) → Decided (IfSome o P)
decided_some P f None = inl tt
decided_some P f (Some d) = f d

-- ---- the rules of a place

decided_in : (kind : Kind) (n : ℕ) → Decided (IsInDegree kind n)
decided_in Input n = decided_eq n 0
decided_in (Concat within) n = decided_le 2 n
decided_in (Join within) n = decided_eq n 2
decided_in kind n = decided_eq n 1

decided_out : (kind : Kind) (n : ℕ) → Decided (IsOutDegree kind n)
decided_out OutputEpoch n = decided_eq n 0
decided_out OutputNumber n = decided_eq n 0
decided_out kind n = inl tt

decided_domains : (d e : Domain) → Decided (d ≡ e)
decided_domains Epoch Epoch = inl refl
decided_domains Number Number = inl refl
decided_domains (InLoop l) (InLoop k) = elim (cases_eq l k) [ inl same ↦ inl (ap InLoop same) | inr other ↦ inr (λ e. other (cc e)) ]
decided_domains Epoch Number = inr (λ e. cc e)
decided_domains Epoch (InLoop k) = inr (λ e. cc e)
decided_domains Number Epoch = inr (λ e. cc e)
decided_domains Number (InLoop k) = inr (λ e. cc e)
decided_domains (InLoop l) Epoch = inr (λ e. cc e)
decided_domains (InLoop l) Number = inr (λ e. cc e)

decided_none : (p : Policy) → Decided (p ≡ policy.None)
decided_none policy.None = inl refl
decided_none policy.Lazy = inr (λ e. cc e)
decided_none policy.Logged = inr (λ e. cc e)
decided_none policy.Eager = inr (λ e. cc e)
decided_none policy.Full = inr (λ e. cc e)

decided_policy : (kind : Kind) (p : Policy) → Decided (IsPolicyAllowed kind p)
decided_policy Input p = decided_none p
decided_policy OutputEpoch p = decided_none p
decided_policy OutputNumber p = decided_none p
decided_policy kind policy.None = decided_true (may_keep_nothing kind)
decided_policy kind policy.Lazy = inl tt
decided_policy kind policy.Logged = inl tt
decided_policy kind policy.Eager = inl tt
decided_policy kind policy.Full = inl tt

decided_group : (kind : RawKind) → Decided (IsGroupSize kind)
decided_group (Regroup n) = decided_both (1 ≤ n) (n < 2 ^ 32) (decided_le 1 n) (decided_lt n (2 ^ 32))
decided_group kind = inl tt

decided_split : (split : Option ℕ) → Decided (IsSplitNumber split)
decided_split None = inl tt
decided_split (Some n) = decided_both (2 ≤ n) (n ≤ 64) (decided_le 2 n) (decided_le n 64)

decided_limits : (before : List Declared) (d : Declaration) → Decided (IsWithinLimitsAfter before d)
decided_limits before (ALoop name max parent) =
    decided_three (length (loop_names before) < 64) (1 ≤ max) (max ≤ 1024) (decided_lt (length (loop_names before)) 64) (decided_le 1 max) (decided_le max 1024)
decided_limits before (ANode name kind p split part) =
    decided_three (length (node_names before) < 256) (IsGroupSize kind) (IsSplitNumber split) (decided_lt (length (node_names before)) 256) (decided_group kind) (decided_split split)
decided_limits before (AnEdge name from to) = decided_lt (length (edge_names before)) 512

-- ---- the first place at which a rule is broken

-- a rule that is decided at each place holds below a number, or is broken first at some place below it
broken_below : (Rule : ℕ → Type 0) → ((p : ℕ) → Decided (Rule p)) → (n : ℕ)
    → HoldsBelow Rule n ⊎ ((p : ℕ) × (p < n) × HoldsBelow Rule p × (Rule p → ⊥))
broken_below Rule decide zero = inl (λ p lt. absurd (omega arith))
broken_below Rule decide (suc n) = elim (broken_below Rule decide n) [
  | inl holds ↦ elim (decide n) [
    | inl here ↦ inl (λ p lt. elim (cases_eq p n) [ inl same ↦ subst Rule (sym same) here | inr other ↦ holds p (omega (arith, lt, other)) ])
    | inr broken ↦ inr (n, omega arith, holds, broken)
  ]
  | inr found ↦ inr (found.0, omega (arith, found.1), found.2, found.3)
]

line_there : (lines : List ℕ) (p : ℕ) → p < length lines → (line : ℕ) × (slice_get lines p ≡ Some line)
line_there [] p lt = absurd (omega arith)
line_there (line ∷ lines) zero lt = (line, refl)
line_there (line ∷ lines) (suc p) lt = line_there lines p (omega arith)

-- of places with lines
first_break : (Rule : ℕ → Type 0) (lines : List ℕ) → ((p : ℕ) → Decided (Rule p)) → HoldsBelow Rule (length lines) ⊎ ((line : ℕ) × IsFirstBreak Rule lines line)
first_break Rule lines decide = elim (broken_below Rule decide (length lines)) [
  | inl holds ↦ inl holds
  | inr found ↦
      let at = line_there lines found.0 found.1 in
      inr (at.0, record { place = found.0; there = at.1; earlier = found.2; broken = found.3 })
]

-- ---- the rules of the whole flow

-- the ends of the edges are nodes
abbrev AreEndsDeclared : Dataflow → Type 0
AreEndsDeclared flow = (e : ℕ) → e < length flow.edges → (sender flow e < length flow.nodes) × (receiver flow e < length flow.nodes)

-- a path of some edges begins at a node
starts_at : (flow : Dataflow) → AreEndsDeclared flow → (depth p : ℕ) (es : List ℕ) (q : ℕ) → 0 < length es → IsPath (depth_graph flow depth) p es q → p < length flow.nodes
starts_at flow ends depth p [] q some path = absurd (omega arith)
starts_at flow ends depth p (e ∷ es) q some path = subst (λ x. x < length flow.nodes) path.2 (ends e path.0).0

-- at a depth a path comes back, or none does
return_at : (flow : Dataflow) → AreEndsDeclared flow → (depth : ℕ) → ReturningPath flow depth ⊎ (ReturningPath flow depth → ⊥)
return_at flow ends depth =
    let g = depth_graph flow depth in
    let n = length flow.nodes in
    elim (find_below (λ p. (depth_of flow p == depth) && reach g n p p) n) [
      | inl found ↦
          let p = found.0 in
          let parts = and_parts (depth_of flow p == depth) (reach g n p p) found.2 in
          inl (record { node = p; at = eqb-true (depth_of flow p) depth parts.0; path = Path-from_reach g n p p parts.1 })
      | inr none ↦ inr (λ back.
          let p = back.node in
          let lt = starts_at flow ends depth p back.path.edges p back.path.some back.path.path in
          true≢false (sym (and_from (depth_of flow p == depth) (reach g n p p) (eq-eqb (depth_of flow p) depth back.at)
          (reach-from_Path g n p p (λ e l. (ends e l).1) back.path)) ∙ none p lt))
    ]

-- at one of these depths a path comes back, or at none
return_below : (flow : Dataflow) → AreEndsDeclared flow → (n : ℕ) → ((depth : ℕ) × ReturningPath flow depth) ⊎ ((depth : ℕ) → depth < n → ReturningPath flow depth → ⊥)
return_below flow ends zero = inr (λ depth lt. absurd (omega arith))
return_below flow ends (suc n) = elim (return_below flow ends n) [
  | inl found ↦ inl found
  | inr none ↦ elim (return_at flow ends n) [
    | inl back ↦ inl (n, back)
    | inr no_return ↦ inr (λ depth lt back. elim (cases_eq depth n) [
      | inl same ↦ no_return (subst (ReturningPath flow) same back)
      | inr other ↦ none depth (omega (arith, lt, other)) back
    ])
  ]
]

-- where edges join equal domains, the closed walks are right, or one is wrong
walks_right : (flow : Dataflow) → AreEndsDeclared flow → HoldsBelow (JoinsDomains flow) (length flow.edges) → AreWalksRight flow ⊎ IsWalkWrong flow
walks_right flow ends joins = elim (return_below flow ends 4) [
  | inl found ↦ inr (return-wrong flow joins found.0 found.1)
  | inr none ↦ inl (no_return-right flow (λ depth le. none depth (omega arith)))
]

decided_node : (flow : Dataflow) (sort : Kind → Bool) → Decided (HasNodeOf flow sort)
decided_node flow sort = elim (find_below (λ p. sort (kind_of flow p)) (length flow.nodes)) [
  | inl found ↦ inl found
  | inr none ↦ inr (λ h. true≢false (sym h.2 ∙ none h.0 h.1))
]

-- ---- each rule, and the first that is broken

-- the rule is kept, or broken first on some line
abbrev IsKeptOrBroken : List Declared → Code → Type 0
IsKeptOrBroken raw code = KeepsRule raw code ⊎ ((line : ℕ) × IsBroken raw code line)

names_kept : (raw : List Declared) → IsKeptOrBroken raw F3
names_kept raw = first_break (NamesTheDeclared raw) (all_lines raw)
    (λ p. decided_some (λ d. IsTrue (are_names_declared (names_of raw) d.declaration)) (λ d. decided_true (are_names_declared (names_of raw) d.declaration)) (slice_get raw p))

chains_kept : (raw : List Declared) → IsKeptOrBroken raw F12
chains_kept raw = first_break (HasShortChain (flow_of_declarations raw)) (loop_lines raw) (λ l. decided_true (ends_within 3 (flow_of_declarations raw) (Some l)))

degrees_kept : (raw : List Declared) → IsKeptOrBroken raw F4
degrees_kept raw =
    let flow = flow_of_declarations raw in
    first_break (HasItsDegrees flow) (node_lines raw) (λ p.
    decided_both (IsInDegree (kind_of flow p) (length (in_edges flow p))) (IsOutDegree (kind_of flow p) (length (out_edges flow p)))
    (decided_in (kind_of flow p) (length (in_edges flow p))) (decided_out (kind_of flow p) (length (out_edges flow p))))

domains_kept : (raw : List Declared) → IsKeptOrBroken raw F5
domains_kept raw =
    let flow = flow_of_declarations raw in
    first_break (JoinsDomains flow) (edge_lines raw) (λ e. decided_domains (out_domain_of flow (sender flow e)) (domain_of flow (receiver flow e)))

-- the walks are decided where the ends of the edges are declared and joined
walks_kept : (raw : List Declared) → KeepsRule raw F3 → KeepsRule raw F5 → IsKeptOrBroken raw F6
walks_kept raw names domains =
    elim (walks_right (flow_of_declarations raw) (both_declared raw names) (λ e lt. domains e (omega (arith, lt, length-edge_lines raw)))) [
      | inl right ↦ inl right
      | inr wrong ↦ inr (0, (wrong, refl))
    ]

policies_kept : (raw : List Declared) → IsKeptOrBroken raw F7
policies_kept raw = first_break (HasAllowedPolicy (flow_of_declarations raw)) (node_lines raw) (λ p. decided_policy (kind_of (flow_of_declarations raw) p) (policy_of (flow_of_declarations raw) p))

limits_kept : (raw : List Declared) → IsKeptOrBroken raw F8
limits_kept raw = first_break (StaysWithinLimits raw) (all_lines raw)
    (λ p. decided_some (λ d. IsWithinLimitsAfter (take p raw) d.declaration) (λ d. decided_limits (take p raw) d.declaration) (slice_get raw p))

borders_kept : (raw : List Declared) → IsKeptOrBroken raw F9
borders_kept raw =
    let flow = flow_of_declarations raw in
    elim (decided_both (HasNodeOf flow is_input_kind) (HasNodeOf flow is_output_kind) (decided_node flow is_input_kind) (decided_node flow is_output_kind)) [
      | inl has ↦ inl has
      | inr lacks ↦ inr (0, (lacks, refl))
    ]

-- these rules are kept, or one of them is the first that is broken
abbrev HaveAnswer : List Code → List Declared → Type 0
HaveAnswer codes raw = AllByRecursion (KeepsRule raw) codes ⊎ ((refusal : Refusal) × IsFirstBrokenOf codes raw refusal)

-- so it is with one more before them
answer_more : (raw : List Declared) (code : Code) (codes : List Code) → IsKeptOrBroken raw code → (KeepsRule raw code → HaveAnswer codes raw) → HaveAnswer (code ∷ codes) raw
answer_more raw code codes (inl kept) rest = elim (rest kept) [
  | inl all ↦ inl (kept, all)
  | inr later ↦ inr (later.0, inr (kept, later.1))
]
answer_more raw code codes (inr broken) rest = inr (record { code = code; line = broken.0 }, inl (refl, broken.1))

rules_answer : (raw : List Declared) → HaveAnswer rules raw
rules_answer raw =
    answer_more raw F3 later_rules (names_kept raw) (λ names.
    answer_more raw F12 (F4 ∷ F5 ∷ F6 ∷ F7 ∷ F8 ∷ F9 ∷ []) (chains_kept raw) (λ chains.
    answer_more raw F4 (F5 ∷ F6 ∷ F7 ∷ F8 ∷ F9 ∷ []) (degrees_kept raw) (λ degrees.
    answer_more raw F5 (F6 ∷ F7 ∷ F8 ∷ F9 ∷ []) (domains_kept raw) (λ domains.
    answer_more raw F6 (F7 ∷ F8 ∷ F9 ∷ []) (walks_kept raw names domains) (λ walks.
    answer_more raw F7 (F8 ∷ F9 ∷ []) (policies_kept raw) (λ policies.
    answer_more raw F8 (F9 ∷ []) (limits_kept raw) (λ limits.
    answer_more raw F9 [] (borders_kept raw) (λ borders. inl tt))))))))

-- declarations are those of a well-formed dataflow, or break a rule first
pub some_answer : (raw : List Declared) → ((flow : Dataflow) × IsChecked raw flow) ⊎ ((refusal : Refusal) × IsFirstBroken raw refusal)
some_answer raw = elim (rules_answer raw) [
  | inl all ↦
      let later = all.1 in
      let wf = IsWellFormed-from_rules raw all.0 later.0 later.1.0 later.1.1.0 later.1.1.1.0 later.1.1.1.1.0 later.1.1.1.1.1.0 later.1.1.1.1.1.1.0 in
      inl (flow_of_declarations raw, record { well_formed = wf; split_numbers = numbers-within raw later.1.1.1.1.1.0; value = refl })
  | inr refused ↦ inr refused
]

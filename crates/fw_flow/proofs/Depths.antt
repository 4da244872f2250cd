-- The rule on closed walks holds exactly where at each depth no walk comes back to a node of that depth.
use Rattle.std.proofs.Common.{◌≡◌, ◌⊎◌, inl, inr, ℕ, ◌<◌, ◌≤◌, Bool, true, false, not, ◌&&◌, ◌==◌, nat_le, List, [], ◌∷◌, ◌++◌, length, refl, sym, ap, ◌∙◌, subst, arith}
use Rattle.std.proofs.lemmas.Bool.{and_parts, and_from, or_cases, or_left, or_right, eqb-true, eq-eqb, le-leb, leb-true, cases_Bool, false_from_ne_true, true≢false, not-true, not_from_false}
use Rattle.fw_lemmas.proofs.Numbers.{zero-le}
use Rattle.fw_flow.specs.declared.kind.Domain.{Domain}
use Rattle.fw_flow.specs.declared.kind.Domain.TheVariants.{Epoch, Number, Loop as InLoop}
use Rattle.fw_flow.specs.Kind.{Kind}
use Rattle.fw_flow.specs.declared.kind.Kind.TheVariants.{Enter, Feedback, Leave, Regroup, Sequence}
use Rattle.fw_flow.specs.Dataflow.{Dataflow, kind_of, sender, receiver, parent_of, loops_of, domain_of, domain_of_kind, out_domain_of, out_domain_of_kind, is_loop, is_one_of, is_domain_within, is_domain_of}
use Rattle.fw_flow.specs.WellFormed.{IsWalk, Passes, StaysWithin, is_feedback_of, is_kind_in, is_outside_kind}
use Rattle.fw_flow.specs.Walks.{IsPath, Path}
use Rattle.fw_flow.specs.Depths.{depth_of, is_feedback_at, depth_graph, ReturningPath}
use Rattle.fw_flow.specs.Check.{AreWalksRight, IsWalkWrong, JoinsDomains, HoldsBelow}
use Rattle.fw_flow.proofs.Chains.{loops-unfold, loops-few, within-depth}

-- ---- walks and paths

walk-from_path : (flow : Dataflow) (j p : ℕ) (es : List ℕ) (q : ℕ) → IsPath (depth_graph flow j) p es q → IsWalk flow p es q
walk-from_path flow j p [] q h = h
walk-from_path flow j p (e ∷ es) q h = (h.0, h.2, walk-from_path flow j (receiver flow e) es q h.3)

-- each edge is free
abbrev pub AreFree : Dataflow → ℕ → List ℕ → Type 0
AreFree flow j [] = Unit {0}
AreFree flow j (e ∷ es) = ((depth_graph flow j).is_free e ≡ true) × AreFree flow j es

-- the closed walk begun at the node that is passed: the first part of the walk is put last
pub record Turned (flow : Dataflow) (j : ℕ) (sort : Kind → Bool) : Type 0 where
  pub node : ℕ
  pub is : sort (kind_of flow node) ≡ true
  pub path : Path (depth_graph flow j) node node

-- a walk each of whose edges is free is a path
pub path-from_walk : (flow : Dataflow) (j p : ℕ) (es : List ℕ) (q : ℕ) → IsWalk flow p es q → AreFree flow j es → IsPath (depth_graph flow j) p es q
path-from_walk flow j p [] q h f = h
path-from_walk flow j p (e ∷ es) q h f = (h.0, f.0, h.1, path-from_walk flow j (receiver flow e) es q h.2 f.1)

append-path : (flow : Dataflow) (j p : ℕ) (es : List ℕ) (q : ℕ) (fs : List ℕ) (r : ℕ) → IsPath (depth_graph flow j) p es q → IsPath (depth_graph flow j) q fs r → IsPath (depth_graph flow j) p (es ++ fs) r
append-path flow j p [] q fs r h k = subst (λ x. IsPath (depth_graph flow j) x fs r) (sym h) k
append-path flow j p (e ∷ es) q fs r h k = (h.0, h.1, h.2, append-path flow j (receiver flow e) es q fs r h.3 k)

-- a path that passes a node of the sort has it as a start of its later part
pub turn : (flow : Dataflow) (j : ℕ) (sort : Kind → Bool) (p q : ℕ) (before es : List ℕ) → IsPath (depth_graph flow j) q before p → IsPath (depth_graph flow j) p es q
    → Passes flow sort es → Turned flow j sort
turn flow j sort p q before [] h k passes = absurd passes
turn flow j sort p q before (e ∷ es) h k (inl here) =
    let whole : IsPath (depth_graph flow j) p ((e ∷ es) ++ before) p = append-path flow j p (e ∷ es) q before p k h in
    record {
      node = p;
      is = ap (λ x. sort (kind_of flow x)) (sym k.2) ∙ here;
      path = record { edges = (e ∷ es) ++ before; some = omega arith; path = whole };
    }
turn flow j sort p q before (e ∷ es) h k (inr later) =
    let one : IsPath (depth_graph flow j) p (e ∷ []) (receiver flow e) = (k.0, k.1, k.2, refl) in
    turn flow j sort (receiver flow e) q (before ++ e ∷ []) es (append-path flow j q before p (e ∷ []) (receiver flow e) h one) k.3 later

-- ---- from depths to the rule

no_feedback_at_zero : (flow : Dataflow) (kind : Kind) → is_feedback_at flow 0 kind ≡ false
no_feedback_at_zero flow (Feedback l) =
    false_from_ne_true (length (loops_of flow (InLoop l)) == 0)
    (λ h. let e = eqb-true (length (loops_of flow (InLoop l))) 0 h in let u = ap length (loops-unfold flow l) in absurd (omega arith))
no_feedback_at_zero flow kind = refl

all_free-zero : (flow : Dataflow) (es : List ℕ) → AreFree flow 0 es
all_free-zero flow [] = tt
all_free-zero flow (e ∷ es) = (
  and_from _ _ (zero-le (depth_of flow (sender flow e)))
      (and_from _ _ (zero-le (depth_of flow (receiver flow e))) (not_from_false _ (no_feedback_at_zero flow (kind_of flow (sender flow e))))),
  all_free-zero flow es,
)

outside-depth : (flow : Dataflow) (d : Domain) → not (is_loop d) ≡ true → length (loops_of flow d) ≡ 0
unfolding loops_of
outside-depth flow Epoch h = refl
outside-depth flow Number h = refl
outside-depth flow (InLoop l) h = absurd (cc)

pub in_domain-is : (l : ℕ) (d : Domain) → is_domain_of l d ≡ true → d ≡ InLoop l
in_domain-is l Epoch h = absurd (cc)
in_domain-is l Number h = absurd (cc)
in_domain-is l (InLoop k) h = ap InLoop (eqb-true k l h)

-- of a loop and one within it of the same depth, the one is the other
same_depth : (flow : Dataflow) (l k : ℕ) → is_domain_within flow l (InLoop k) ≡ true → length (loops_of flow (InLoop k)) ≡ length (loops_of flow (InLoop l)) → k ≡ l
same_depth flow l k h e =
    elim (or_cases (k == l) (is_one_of l (loops_of flow (parent_of flow k))) (sym (ap (λ ls. is_one_of l ls) (loops-unfold flow k)) ∙ h)) [
      | inl same ↦ eqb-true k l same
      | inr other ↦
          let less = within-depth flow l (parent_of flow k) other in
          let u = ap length (loops-unfold flow k) in
          absurd (omega arith)
    ]

-- within a loop, a kind that is no feedback of it is no feedback of a loop of its depth
not_at_depth : (flow : Dataflow) (l : ℕ) (kind : Kind) → is_domain_within flow l (domain_of_kind flow kind) ≡ true → is_feedback_of l kind ≡ false
    → is_feedback_at flow (length (loops_of flow (InLoop l))) kind ≡ false
not_at_depth flow l (Feedback k) h f =
    false_from_ne_true (length (loops_of flow (InLoop k)) == length (loops_of flow (InLoop l)))
    (λ e. let same = same_depth flow l k h (eqb-true _ _ e) in true≢false (sym (eq-eqb k l same) ∙ f))
not_at_depth flow l kind h f = refl

-- a closed walk that stays in a loop is of free edges of the loop's depth, or is fed back
free_or_fed_back : (flow : Dataflow) (l p : ℕ) (es : List ℕ) (q : ℕ) → IsWalk flow p es q → StaysWithin flow l es → is_domain_within flow l (domain_of flow q) ≡ true
    → AreFree flow (length (loops_of flow (InLoop l))) es ⊎ Passes flow (is_feedback_of l) es
free_or_fed_back flow l p [] q h s last = inl tt
free_or_fed_back flow l p (e ∷ es) q h s last =
    elim (cases_Bool (is_feedback_of l (kind_of flow (sender flow e)))) [
      | inl here ↦ inr (inl here)
      | inr onward ↦ elim (free_or_fed_back flow l (receiver flow e) es q h.2 s.1 last) [
        | inr later ↦ inr (inr later)
        | inl rest ↦
            let from = within-depth flow l (domain_of flow (sender flow e)) s.0 in
            let to = within-depth flow l (domain_of flow (receiver flow e)) (next_within flow l (receiver flow e) es q h.2 s.1 last) in
            inl (
              and_from _ _ (le-leb _ _ from)
                  (and_from _ _ (le-leb _ _ to) (not_from_false _ (not_at_depth flow l (kind_of flow (sender flow e)) s.0 onward))),
              rest,
            )
      ]
    ]
  where
    next_within : (flow : Dataflow) (l p : ℕ) (es : List ℕ) (q : ℕ) → IsWalk flow p es q → StaysWithin flow l es → is_domain_within flow l (domain_of flow q) ≡ true
        → is_domain_within flow l (domain_of flow p) ≡ true
    next_within flow l p [] q h s last = ap (λ x. is_domain_within flow l (domain_of flow x)) h ∙ last
    next_within flow l p (e ∷ es) q h s last = sym (ap (λ x. is_domain_within flow l (domain_of flow x)) h.1) ∙ s.0

starts_within : (flow : Dataflow) (l p : ℕ) (es : List ℕ) (q : ℕ) → 0 < length es → IsWalk flow p es q → StaysWithin flow l es → is_domain_within flow l (domain_of flow p) ≡ true
starts_within flow l p [] q some h s = absurd (omega arith)
starts_within flow l p (e ∷ es) q some h s = sym (ap (λ x. is_domain_within flow l (domain_of flow x)) h.1) ∙ s.0

-- where at no depth a path returns, the closed walks are right
pub no_return-right : (flow : Dataflow) → ((depth : ℕ) → depth ≤ 3 → ReturningPath flow depth → ⊥) → AreWalksRight flow
no_return-right flow none = record {
  in_loops = λ p es closed passes.
      let t = turn flow 0 (is_outside_kind flow) p p [] es refl (path-from_walk flow 0 p es p closed.walk (all_free-zero flow es)) passes in
      none 0 (omega arith) (record { node = t.node; at = outside-depth flow (domain_of flow t.node) t.is; path = t.path });
  fed_back = λ l p es closed stays passes.
      let j = length (loops_of flow (InLoop l)) in
      elim (free_or_fed_back flow l p es p closed.walk stays (starts_within flow l p es p closed.some closed.walk stays)) [
        | inr fed ↦ fed
        | inl free ↦
            let t = turn flow j (is_kind_in flow l) p p [] es refl (path-from_walk flow j p es p closed.walk free) passes in
            absurd (none j (loops-few flow (InLoop l)) (record { node = t.node; at = ap (λ d. length (loops_of flow d)) (in_domain-is l (domain_of flow t.node) t.is); path = t.path }))
      ];
}

-- ---- from a return to a wrong walk

-- the domain is no loop's
abbrev IsOutside : Domain → Type 0
IsOutside Epoch = Unit {0}
IsOutside Number = Unit {0}
IsOutside (InLoop l) = ⊥

none_within : (flow : Dataflow) (l : ℕ) (d : Domain) → IsOutside d → is_domain_within flow l d ≡ true → ⊥
unfolding loops_of
none_within flow l Epoch o h = cc
none_within flow l Number o h = cc
none_within flow l (InLoop k) o h = o

-- a loop that the sender's domain lies in, of a depth that the receiver's has too, is one that the receiver's domain lies in
kind-within : (flow : Dataflow) (l : ℕ) (kind : Kind) → is_domain_within flow l (domain_of_kind flow kind) ≡ true
    → length (loops_of flow (InLoop l)) ≤ length (loops_of flow (out_domain_of_kind flow kind)) → is_domain_within flow l (out_domain_of_kind flow kind) ≡ true
kind-within flow l (Enter k) h e = ap (λ ls. is_one_of l ls) (loops-unfold flow k) ∙ or_right (k == l) (is_one_of l (loops_of flow (parent_of flow k))) h
kind-within flow l (Leave k) h e =
    elim (or_cases (k == l) (is_one_of l (loops_of flow (parent_of flow k))) (sym (ap (λ ls. is_one_of l ls) (loops-unfold flow k)) ∙ h)) [
      | inr within ↦ within
      | inl same ↦
          let u = ap length (loops-unfold flow k) in
          let s = ap (λ x. length (loops_of flow (InLoop x))) (eqb-true k l same) in
          absurd (omega arith)
    ]
kind-within flow l (Regroup n) h e = absurd (none_within flow l Number tt h)
kind-within flow l Sequence h e = absurd (none_within flow l Epoch tt h)
kind-within flow l kind h e = h

-- a path of the loop's depth that begins within the loop stays within it
path-stays : (flow : Dataflow) → HoldsBelow (JoinsDomains flow) (length flow.edges) → (l p : ℕ) (es : List ℕ) (q : ℕ) → IsPath (depth_graph flow (length (loops_of flow (InLoop l)))) p es q
    → is_domain_within flow l (domain_of flow p) ≡ true → StaysWithin flow l es
path-stays flow joins l p [] q h w = tt
path-stays flow joins l p (e ∷ es) q h w =
    let here : is_domain_within flow l (domain_of flow (sender flow e)) ≡ true = ap (λ x. is_domain_within flow l (domain_of flow x)) h.2 ∙ w in
    let j = length (loops_of flow (InLoop l)) in
    let both = and_parts (nat_le j (depth_of flow (sender flow e)))
    (nat_le j (depth_of flow (receiver flow e)) && not (is_feedback_at flow j (kind_of flow (sender flow e)))) h.1 in
    let to = and_parts (nat_le j (depth_of flow (receiver flow e))) (not (is_feedback_at flow j (kind_of flow (sender flow e)))) both.1 in
    let deep : j ≤ depth_of flow (receiver flow e) = leb-true j (depth_of flow (receiver flow e)) to.0 in
    let same : length (loops_of flow (out_domain_of flow (sender flow e))) ≡ depth_of flow (receiver flow e) = ap (λ d. length (loops_of flow d)) (joins e h.0) in
    let long : length (loops_of flow (InLoop l)) ≤ length (loops_of flow (out_domain_of flow (sender flow e))) = omega (arith, deep, same) in
    let next = kind-within flow l (kind_of flow (sender flow e)) here long in
    (here, path-stays flow joins l (receiver flow e) es q h.3 (sym (ap (is_domain_within flow l) (joins e h.0)) ∙ next))

-- a path of the loop's depth leaves no feedback of the loop
path-avoids : (flow : Dataflow) (l p : ℕ) (es : List ℕ) (q : ℕ) → IsPath (depth_graph flow (length (loops_of flow (InLoop l)))) p es q → Passes flow (is_feedback_of l) es → ⊥
path-avoids flow l p [] q h passes = passes
path-avoids flow l p (e ∷ es) q h (inl here) =
    let free = not-true _ (and_parts _ _ (and_parts _ _ h.1).1).1 in
    true≢false (sym (at_depth flow l (kind_of flow (sender flow e)) here) ∙ free)
  where
    at_depth : (flow : Dataflow) (l : ℕ) (kind : Kind) → is_feedback_of l kind ≡ true → is_feedback_at flow (length (loops_of flow (InLoop l))) kind ≡ true
    at_depth flow l (Feedback k) h = eq-eqb _ _ (ap (λ x. length (loops_of flow (InLoop x))) (eqb-true k l h))
    at_depth flow l kind h = absurd (cc)
path-avoids flow l p (e ∷ es) q h (inr later) = path-avoids flow l (receiver flow e) es q h.3 later

passes_first : (flow : Dataflow) (sort : Kind → Bool) (p : ℕ) (es : List ℕ) (q : ℕ) → 0 < length es → IsWalk flow p es q → sort (kind_of flow p) ≡ true → Passes flow sort es
passes_first flow sort p [] q some h is = absurd (omega arith)
passes_first flow sort p (e ∷ es) q some h is = inl (ap (λ x. sort (kind_of flow x)) h.1 ∙ is)

wrong_at : (flow : Dataflow) → HoldsBelow (JoinsDomains flow) (length flow.edges) → (p : ℕ) (d : Domain) → domain_of flow p ≡ d → Path (depth_graph flow (length (loops_of flow d))) p p → IsWalkWrong flow
wrong_at flow joins p (InLoop l) e path =
    let j = length (loops_of flow (InLoop l)) in
    let walk = walk-from_path flow j p path.edges p path.path in
    let own : is_domain_within flow l (InLoop l) ≡ true =
    ap (λ ls. is_one_of l ls) (loops-unfold flow l) ∙ or_left (l == l) (is_one_of l (loops_of flow (parent_of flow l))) (eq-eqb l l refl) in
    inr (
      l,
      record {
        node = p;
        edges = path.edges;
        closed = record { some = path.some; walk = walk };
        stays = path-stays flow joins l p path.edges p path.path (ap (is_domain_within flow l) e ∙ own);
        passes = passes_first flow (is_kind_in flow l) p path.edges p path.some walk (ap (is_domain_of l) e ∙ eq-eqb l l refl);
        avoids = path-avoids flow l p path.edges p path.path;
      },
    )
wrong_at flow joins p d e path =
    let walk = walk-from_path flow (length (loops_of flow d)) p path.edges p path.path in
    inl (record {
      node = p;
      edges = path.edges;
      closed = record { some = path.some; walk = walk };
      passes = passes_first flow (is_outside_kind flow) p path.edges p path.some walk (ap (λ x. not (is_loop x)) e);
    })

-- where edges join equal domains and a path returns, some closed walk is wrong
pub return-wrong : (flow : Dataflow) → HoldsBelow (JoinsDomains flow) (length flow.edges) → (depth : ℕ) → ReturningPath flow depth → IsWalkWrong flow
return-wrong flow joins depth back =
    wrong_at flow joins back.node (domain_of flow back.node) refl (subst (λ k. Path (depth_graph flow k) back.node back.node) (sym back.at) back.path)

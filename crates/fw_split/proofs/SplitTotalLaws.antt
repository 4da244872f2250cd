-- The smallest split meets what the law asks for.
use Rattle.std.proofs.Common.{◌≡◌, inl, inr, ℕ, zero, suc, ◌+◌, ◌<◌, ◌≤◌, List, [], ◌∷◌, ◌++◌, length, map, codes, Some, None, refl, sym, ap, ◌∙◌, subst, arith, lit<, lit≤}
use Rattle.std.proofs.lemmas.Bool.{cases_lt}
use Rattle.std.proofs.lemmas.Fmt.{decimal_digit}
use Rattle.std.proofs.lemmas.List.{get_or-map, get_or_past, length-map}
use Rattle.std.specs.Fmt.{decimal}
use Rattle.std.specs.List.{IsDistinct}
use Rattle.fw_bag.specs.declared.rec.Rec.{Rec}
use Rattle.fw_flow.specs.declared.kind.Kind.TheVariants.{Input, OutputEpoch, Total, Concat}
use Rattle.fw_flow.specs.declared.kind.Policy.TheVariants as policy
use Rattle.fw_flow.specs.declared.node.Node.{Node}
use Rattle.fw_flow.specs.Check.{IsChecked}
use Rattle.fw_flow.specs.Dataflow.{Dataflow, batches_of, idle_node, in_edges, kind_of, node_at, out_edges, policy_of, receiver, sender}
use Rattle.fw_flow.specs.declared.raw.Declaration.TheVariants.{Node as ANode, Edge as AnEdge}
use Rattle.fw_flow.specs.Declaring.{Declared}
use Rattle.fw_flow.specs.Expand.{expand}
use Rattle.fw_flow.specs.Raw.{flow_of_declarations}
use Rattle.fw_flow.specs.WellFormed.{IsClosedWalk, IsWalk, IsWellFormed}
use Rattle.fw_split.specs.Exact.{IsExactExpansion}
use Rattle.fw_split.specs.Expansion.{EdgeOrigin, NodeOrigin}
use Rattle.fw_split.specs.SplitTotal.{SplitTotalExpands, given_by_name, split_total}
use Rattle.fw_split.specs.Unsplit.{AreAsWritten, HaveSameBatches, unsplit}
use Rattle.fw_split.proofs.ExpandsLaws.{declarations-expand}

-- ---- batches by names are the same where names are

batches-named : (given : List ℕ → List (List Rec)) → given [] ≡ [] → (flow : Dataflow) (p : ℕ) → batches_of (given_by_name given flow) p ≡ given (node_at flow p).name
unfolding batches_of node_at
batches-named given none flow p = elim (cases_lt p (length flow.nodes)) [
  | inl lt ↦ get_or-map (λ (n : Node). given n.name) flow.nodes p idle_node [] lt
  | inr past ↦
      get_or_past (map (λ (n : Node). given n.name) flow.nodes) p [] (omega (arith, past, length-map flow.nodes (λ (n : Node). given n.name)))
      ∙ sym (ap (λ (n : Node). given n.name) (get_or_past flow.nodes p idle_node past) ∙ none)
]

pub same-named : (given : List ℕ → List (List Rec)) → given [] ≡ [] → (small large : Dataflow) → HaveSameBatches (given_by_name given small) (given_by_name given large)
same-named given none small large p q e = batches-named given none large q ∙ ap given e ∙ sym (batches-named given none small p)

-- ---- its declarations are as texts write them

written : AreAsWritten split_total
unfolding IsDistinct
written = record {
  names = (refl, (refl, (refl, (refl, (refl, tt)))));
  loops = tt;
  nodes = ((refl, (refl, tt)), ((refl, tt), (tt, tt)));
  edges = ((refl, tt), (tt, tt));
  no_parts = (refl, (refl, (refl, (tt, (tt, tt)))));
}

-- ---- its expansion is well formed

by_five : (P : ℕ → Type 0) → P 0 → P 1 → P 2 → P 3 → P 4 → (p : ℕ) → p < 5 → P p
by_five P a b c d e zero l = a
by_five P a b c d e (suc zero) l = b
by_five P a b c d e (suc (suc zero)) l = c
by_five P a b c d e (suc (suc (suc zero))) l = d
by_five P a b c d e (suc (suc (suc (suc zero)))) l = e
by_five P a b c d e (suc (suc (suc (suc (suc p))))) l = absurd (omega arith)

-- a walk along edges that all lead to later nodes rises by its length
rises : (flow : Dataflow) → ((e : ℕ) → e < length flow.edges → sender flow e < receiver flow e) → (p : ℕ) (es : List ℕ) (q : ℕ) → IsWalk flow p es q → p + length es ≤ q
rises flow up p [] q w = let h : p ≡ q = w in omega arith
rises flow up p (e ∷ es) q w =
    let g : sender flow e ≡ p = w.1 in
    omega (arith, up e w.0, rises flow up (receiver flow e) es q w.2)

-- so none comes back
never_back : (flow : Dataflow) → ((e : ℕ) → e < length flow.edges → sender flow e < receiver flow e) → (p : ℕ) (es : List ℕ) → IsClosedWalk flow p es → ⊥
never_back flow up p es w = absurd (omega (arith, w.some, rises flow up p es p w.walk))

-- the dataflow of the expansion
abbrev in_two : Dataflow
in_two = record {
  loops = [];
  nodes =
      record { name = codes "in"; kind = Input; policy = policy.None; part = None }
      ∷ record { name = codes "sums.0"; kind = Total; policy = policy.Lazy; part = Some (record { place = 0; last = 1 }) }
      ∷ record { name = codes "sums.1"; kind = Total; policy = policy.Lazy; part = Some (record { place = 1; last = 1 }) }
      ∷ record { name = codes "sums"; kind = Concat None; policy = policy.None; part = None }
      ∷ record { name = codes "out"; kind = OutputEpoch; policy = policy.None; part = None }
      ∷ [];
  edges =
      record { name = codes "sums.out.0"; sender = 1; receiver = 3 }
      ∷ record { name = codes "sums.out.1"; sender = 2; receiver = 3 }
      ∷ record { name = codes "a.0"; sender = 0; receiver = 1 }
      ∷ record { name = codes "a.1"; sender = 0; receiver = 2 }
      ∷ record { name = codes "b"; sender = 3; receiver = 4 }
      ∷ [];
}

-- what it expands to, with numerals for the places of the replicas
abbrev spelled : List ℕ → List ℕ → List Declared
spelled first second =
    record { line = 1; declaration = ANode (codes "in") Input policy.None None None }
    ∷ record { line = 2; declaration = ANode (codes "sums" ++ 46 ∷ first) Total policy.Lazy None (Some (record { place = 0; last = 1 })) }
    ∷ record { line = 2; declaration = ANode (codes "sums" ++ 46 ∷ second) Total policy.Lazy None (Some (record { place = 1; last = 1 })) }
    ∷ record { line = 2; declaration = ANode (codes "sums") (Concat None) policy.None (Some 2) None }
    ∷ record { line = 2; declaration = AnEdge (codes "sums" ++ (codes ".out." ++ first)) (codes "sums" ++ 46 ∷ first) (codes "sums") }
    ∷ record { line = 2; declaration = AnEdge (codes "sums" ++ (codes ".out." ++ second)) (codes "sums" ++ 46 ∷ second) (codes "sums") }
    ∷ record { line = 3; declaration = ANode (codes "out") OutputEpoch policy.None None None }
    ∷ record { line = 4; declaration = AnEdge (codes "a" ++ 46 ∷ first) (codes "in") (codes "sums" ++ 46 ∷ first) }
    ∷ record { line = 4; declaration = AnEdge (codes "a" ++ 46 ∷ second) (codes "in") (codes "sums" ++ 46 ∷ second) }
    ∷ record { line = 5; declaration = AnEdge (codes "b") (codes "sums") (codes "out") }
    ∷ []

it_expands : expand split_total ≡ spelled (codes "0") (codes "1")
it_expands =
    let made : expand split_total ≡ spelled (decimal 0) (decimal 1) = refl in
    made ∙ ap (λ n. spelled n (decimal 1)) (decimal_digit 0 (lit< tt)) ∙ ap (spelled (codes "0")) (decimal_digit 1 (lit< tt))

it_is : flow_of_declarations (expand split_total) ≡ in_two
it_is = ap flow_of_declarations it_expands

well_formed : IsWellFormed in_two
unfolding kind_of policy_of sender receiver in_edges out_edges
well_formed =
    let up : (e : ℕ) → e < 5 → sender in_two e < receiver in_two e =
    by_five (λ e. sender in_two e < receiver in_two e) (lit< tt) (lit< tt) (lit< tt) (lit< tt) (lit< tt) in
    record {
      loops_declared = by_five _ tt tt tt tt tt;
      parents_declared = λ l h. absurd (omega arith);
      chains = λ l h. absurd (omega arith);
      senders_declared = by_five _ (lit< tt) (lit< tt) (lit< tt) (lit< tt) (lit< tt);
      receivers_declared = by_five _ (lit< tt) (lit< tt) (lit< tt) (lit< tt) (lit< tt);
      in_degrees = by_five _ refl refl refl (lit≤ tt) refl;
      out_degrees = by_five _ tt tt tt tt refl;
      domains = by_five _ refl refl refl refl refl;
      in_loops = λ p es w passes. never_back in_two up p es w;
      fed_back = λ l p es w stays passes. absurd (never_back in_two up p es w);
      policies = by_five _ refl tt tt refl refl;
      limits = record {
        nodes = lit≤ tt;
        edges = lit≤ tt;
        loops = lit≤ tt;
        counters = λ l h. absurd (omega arith);
        groups = by_five _ tt tt tt tt tt;
      };
      input = (0, lit< tt, refl);
      output = (4, lit< tt, refl);
    }

checked : IsChecked (expand split_total) (flow_of_declarations (expand split_total))
checked = record {
  well_formed = subst IsWellFormed (sym it_is) well_formed;
  split_numbers = (tt, (tt, (tt, ((lit≤ tt, lit≤ tt), (tt, (tt, (tt, (tt, (tt, (tt, tt))))))))));
  value = refl;
}

pub split_total-expands : SplitTotalExpands
split_total-expands = (written, checked, each)
  where
    small : Dataflow
    small = flow_of_declarations (unsplit split_total)

    large : Dataflow
    large = flow_of_declarations (expand split_total)

    each : (given : List ℕ → List (List Rec)) → given [] ≡ [] → HaveSameBatches (given_by_name given small) (given_by_name given large)
        × ((of_node : ℕ → NodeOrigin) × (of_edge : ℕ → EdgeOrigin) × IsExactExpansion (given_by_name given small) (given_by_name given large) of_node of_edge)
    each given none =
        let same = same-named given none small large in
        (same, declarations-expand split_total (given_by_name given small) (given_by_name given large) written refl checked same)

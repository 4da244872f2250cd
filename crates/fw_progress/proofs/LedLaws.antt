-- What a feedback leads to, as it is marked.
use Rattle.std.proofs.Common.{◌≡◌, ◌⊎◌, ℕ, zero, suc, ◌+◌, ◌*◌, ◌<◌, ◌≤◌, Bool, true, false, ◌||◌, ◌==◌, List, [], ◌∷◌, ◌++◌, length, get_or, set, drop, replicate, refl, sym, ap, subst, ◌∙◌, inl, inr, arith}
use Rattle.std.specs.List.{AllByRecursion}
use Rattle.std.proofs.lemmas.Bool.{cases_eq, eq-eqb, eqb-true, both_ways, or_cases, or_left, or_right}
use Rattle.std.proofs.lemmas.List.{drop_more, drop_all, get_or-set_same, get_or-set_other, length-append, length-set}
use Rattle.fw_lemmas.proofs.Each.{each-weaker, each-at}
use Rattle.fw_flow.specs.Dataflow.{Dataflow, sender, receiver, out_edges}
use Rattle.fw_flow.proofs.OutEdgeLaws.{out_edges-at, out_edges-from}
use Rattle.fw_progress.specs.Counts.{is_in}
use Rattle.fw_progress.specs.Leap.{is_as_deep, is_node_marked, AreLedTo, unmarked, IsMarking}
use Rattle.fw_progress.proofs.IntoLaws.{in-push}

-- ---- marks

still-marked : (marks : List Bool) (k q : ℕ) → is_node_marked marks q ≡ true → is_node_marked (set marks k true) q ≡ true
still-marked marks k q e = elim (cases_eq q k) [
  | inl s ↦ by marks q e s
  | inr n ↦ get_or-set_other marks k q true false n ∙ e
]
  where
    by : (ms : List Bool) (q : ℕ) → is_node_marked ms q ≡ true → q ≡ k → is_node_marked (set ms k true) q ≡ true
    by ms q e s = subst (λ n. is_node_marked (set ms n true) q ≡ true) s (at ms q e)
      where
        at : (ms : List Bool) (q : ℕ) → is_node_marked ms q ≡ true → is_node_marked (set ms q true) q ≡ true
        at [] q e = e
        at (m ∷ ms) zero e = refl
        at (m ∷ ms) (suc q) e = at ms q e

was-marked : (marks : List Bool) (k q : ℕ) → is_node_marked (set marks k true) q ≡ true → (q ≡ k) ⊎ (is_node_marked marks q ≡ true)
was-marked marks k q e = elim (cases_eq q k) [
  | inl s ↦ inl s
  | inr n ↦ inr (sym (get_or-set_other marks k q true false n) ∙ e)
]

pub none-marked : (n q : ℕ) → is_node_marked (replicate n false) q ≡ false
none-marked zero q = refl
none-marked (suc n) zero = refl
none-marked (suc n) (suc q) = none-marked n q

-- to mark a node that is marked changes nothing
pub set-marked : (marks : List Bool) (k : ℕ) → is_node_marked marks k ≡ true → set marks k true ≡ marks
set-marked [] k e = refl
set-marked (m ∷ ms) zero e = ap (λ b. b ∷ ms) (sym e)
set-marked (m ∷ ms) (suc k) e = ap (λ bs. m ∷ bs) (set-marked ms k e)

unmarked-less : (marks : List Bool) (k : ℕ) → k < length marks → is_node_marked marks k ≡ false → unmarked (set marks k true) + 1 ≡ unmarked marks
unmarked-less [] k l e = absurd (omega arith)
unmarked-less (true ∷ ms) zero l e = absurd (cc)
unmarked-less (false ∷ ms) zero l e = refl
unmarked-less (true ∷ ms) (suc k) l e = unmarked-less ms k (omega arith) e
unmarked-less (false ∷ ms) (suc k) l e = let h = unmarked-less ms k (omega arith) e in omega arith

-- ---- edges

pub out_edge : (flow : Dataflow) (p : ℕ) (edges : List ℕ) (i e : ℕ) → edges ≡ out_edges flow p → i < length edges → e ≡ get_or edges i e → (e < length flow.edges) × (sender flow e ≡ p)
out_edge flow p edges i e es l is =
    let P : ℕ → Type 0 = λ d. (d < length flow.edges) × (sender flow d ≡ p) in
    let found : P (get_or edges i e) = each-at P edges i e l (subst (AllByRecursion P) (sym es) (out_edges-from P flow p (λ d m s. (m, s)))) in
    subst P (sym is) found

each-in : (xs : List ℕ) → AllByRecursion (λ x. is_in xs x ≡ true) xs
each-in [] = tt
each-in (x ∷ xs) = (
  or_left (x == x) (is_in xs x) (eq-eqb x x refl),
  each-weaker (λ y. is_in xs y ≡ true) (λ y. is_in (x ∷ xs) y ≡ true) xs (λ y k. or_right (x == y) (is_in xs y) k) (each-in xs),
)

has-out_edge : (flow : Dataflow) (p e : ℕ) → e < length flow.edges → sender flow e ≡ p → is_in (out_edges flow p) e ≡ true
has-out_edge flow p e l r = out_edges-at (λ d. is_in (out_edges flow p) d ≡ true) flow p (each-in (out_edges flow p)) e l r

-- ---- the search

-- at first the feedback alone is marked, and found
pub first_marking : (flow : Dataflow) (p : ℕ) (none : List Bool) → p < length flow.nodes → length none ≡ length flow.nodes → ((q : ℕ) → is_node_marked none q ≡ false)
    → IsMarking flow p (set none p true) (p ∷ []) []
first_marking flow p none l one clear = record {
  one_each = length-set none p true ∙ one;
  begins = here;
  there = λ q k. elim (or_cases (p == q) false k) [
    | inl j ↦ subst (λ n. is_node_marked (set none p true) n ≡ true) (eqb-true p q j) here
    | inr j ↦ absurd (cc)
  ];
  goes_on = λ e m k d. inr (inl (or_left (p == sender flow e) false (eq-eqb p (sender flow e) (sym (only (sender flow e) k)))));
  least = λ has k go q i. subst (λ n. has n ≡ true) (sym (only q i)) k;
}
  where
    here : is_node_marked (set none p true) p ≡ true
    here = get_or-set_same none p true false (omega arith)

    only : (q : ℕ) → is_node_marked (set none p true) q ≡ true → q ≡ p
    only q i = elim (was-marked none p q i) [
      | inl e ↦ e
      | inr e ↦ absurd (both_ways (is_node_marked none q) (clear q) e)
    ]

-- the node that is taken is marked, and its out-edges are left
pub pop_marking : (flow : Dataflow) (p : ℕ) (marks : List Bool) (found rest : List ℕ) (q : ℕ) → found ≡ rest ++ q ∷ [] → IsMarking flow p marks found []
    → (is_node_marked marks q ≡ true) × IsMarking flow p marks rest (out_edges flow q)
pop_marking flow p marks found rest q is m = (
  m.there q (in-found q (or_right (is_in rest q) (q == q) (eq-eqb q q refl))),
  record {
    one_each = m.one_each;
    begins = m.begins;
    there = λ r k. m.there r (in-found r (or_left (is_in rest r) (q == r) k));
    goes_on = λ e l k d. elim (m.goes_on e l k d) [
      | inl j ↦ inl j
      | inr j ↦ elim j [
        | inl j ↦ elim (or_cases (is_in rest (sender flow e)) (q == sender flow e) (sym (split (sender flow e)) ∙ j)) [
          | inl i ↦ inr (inl i)
          | inr i ↦ inr (inr (has-out_edge flow q e l (sym (eqb-true q (sender flow e) i))))
        ]
        | inr j ↦ absurd (cc)
      ]
    ];
    least = m.least;
  },
)
  where
    split : (r : ℕ) → is_in found r ≡ (is_in rest r || (q == r))
    split r = ap (λ ns. is_in ns r) is ∙ in-push rest q r

    in-found : (r : ℕ) → (is_in rest r || (q == r)) ≡ true → is_in found r ≡ true
    in-found r k = split r ∙ k

-- where none is found any more, the marked nodes are those that the feedback leads to
pub all_marked : (flow : Dataflow) (p : ℕ) (marks : List Bool) (found : List ℕ) → length found ≡ 0 → IsMarking flow p marks found [] → AreLedTo flow p marks
all_marked flow p marks [] none m = record {
  one_each = m.one_each;
  begins = m.begins;
  goes_on = λ e l k d. elim (m.goes_on e l k d) [
    | inl j ↦ j
    | inr j ↦ elim j [
      | inl j ↦ absurd (cc)
      | inr j ↦ absurd (cc)
    ]
  ];
  least = m.least;
}
all_marked flow p marks (q ∷ found) none m = absurd (omega arith)

-- ---- the receivers of a node

-- the receivers of the first edges of a marked node are marked
pub record IsSpreading (flow : Dataflow) (p node : ℕ) (edges : List ℕ) (k : ℕ) (old : List Bool) (began : List ℕ) (marks : List Bool) (found : List ℕ) : Type 0 where
  pub marking : IsMarking flow p marks found (drop k edges)
  pub marked : is_node_marked marks node ≡ true
  pub left : 2 * unmarked marks + length found ≤ 2 * unmarked old + length began

pub spread_none : (flow : Dataflow) (p node : ℕ) (edges : List ℕ) (marks : List Bool) (found : List ℕ) → edges ≡ out_edges flow node → is_node_marked marks node ≡ true
    → IsMarking flow p marks found (out_edges flow node) → IsSpreading flow p node edges 0 marks found marks found
spread_none flow p node edges marks found es k m = record { marking = subst (IsMarking flow p marks found) (sym es) m; marked = k; left = omega arith }

-- an edge whose receiver is not so deep, or is marked, is done
pub spread_same : (flow : Dataflow) (p node : ℕ) (edges : List ℕ) (k e r : ℕ) (old : List Bool) (began : List ℕ) (marks : List Bool) (found : List ℕ) → k < length edges → e ≡ get_or edges k e → r ≡ receiver flow e
    → (is_as_deep flow p r ≡ false) ⊎ (is_node_marked marks r ≡ true)
    → IsSpreading flow p node edges k old began marks found → IsSpreading flow p node edges (k + 1) old began marks found
spread_same flow p node edges k e r old began marks found l is at done s =
    let m = subst (IsMarking flow p marks found) (drop_more edges k e l ∙ ap (λ d. d ∷ drop (k + 1) edges) (sym is)) s.marking in
    record {
      marking = record {
        one_each = m.one_each;
        begins = m.begins;
        there = m.there;
        goes_on = λ d i j b. elim (m.goes_on d i j b) [
          | inl h ↦ inl h
          | inr h ↦ elim h [
            | inl h ↦ inr (inl h)
            | inr h ↦ elim (or_cases (e == d) (is_in (drop (k + 1) edges) d) h) [
              | inl q ↦ inl (here d (eqb-true e d q) b)
              | inr q ↦ inr (inr q)
            ]
          ]
        ];
        least = m.least;
      };
      marked = s.marked;
      left = s.left;
    }
  where
    here : (d : ℕ) → e ≡ d → is_as_deep flow p (receiver flow d) ≡ true → is_node_marked marks (receiver flow d) ≡ true
    here d q b =
        let to : r ≡ receiver flow d = at ∙ ap (receiver flow) q in
        elim done [
          | inl shallow ↦ absurd (both_ways (is_as_deep flow p r) shallow (ap (is_as_deep flow p) to ∙ b))
          | inr marked ↦ ap (is_node_marked marks) (sym to) ∙ marked
        ]

-- a receiver that is as deep and was not marked is marked, and found
pub spread_more : (flow : Dataflow) (p node : ℕ) (edges : List ℕ) (k e r : ℕ) (old : List Bool) (began : List ℕ) (marks : List Bool) (found : List ℕ) → edges ≡ out_edges flow node → k < length edges → e ≡ get_or edges k e
    → r ≡ receiver flow e → r < length flow.nodes → is_as_deep flow p r ≡ true → is_node_marked marks r ≡ false
    → IsSpreading flow p node edges k old began marks found → IsSpreading flow p node edges (k + 1) old began (set marks r true) (found ++ r ∷ [])
spread_more flow p node edges k e r old began marks found es l is at there deep new s =
    let one = s.marking.one_each in
    let less = unmarked-less marks r (omega arith) new in
    let long = length-append found (r ∷ []) in
    let before = s.left in
    record {
      marking = record {
        one_each = length-set marks r true ∙ m.one_each;
        begins = still-marked marks r p m.begins;
        there = λ q j. elim (or_cases (is_in found q) (r == q) (sym (in-push found r q) ∙ j)) [
          | inl h ↦ still-marked marks r q (m.there q h)
          | inr h ↦ subst (λ n. is_node_marked (set marks r true) n ≡ true) (eqb-true r q h) here
        ];
        goes_on = λ d i j b. elim (was-marked marks r (sender flow d) j) [
          | inl h ↦ inr (inl (in-push found r (sender flow d) ∙ or_right (is_in found (sender flow d)) (r == sender flow d) (eq-eqb r (sender flow d) (sym h))))
          | inr h ↦ elim (m.goes_on d i h b) [
            | inl h ↦ inl (still-marked marks r (receiver flow d) h)
            | inr h ↦ elim h [
              | inl h ↦ inr (inl (in-push found r (sender flow d) ∙ or_left (is_in found (sender flow d)) (r == sender flow d) h))
              | inr h ↦ elim (or_cases (e == d) (is_in (drop (k + 1) edges) d) h) [
                | inl q ↦ inl (subst (λ n. is_node_marked (set marks r true) n ≡ true) (at ∙ ap (receiver flow) (eqb-true e d q)) here)
                | inr q ↦ inr (inr q)
              ]
            ]
          ]
        ];
        least = λ has j go q i. elim (was-marked marks r q i) [
          | inl h ↦ subst (λ n. has n ≡ true) (sym (h ∙ at)) (go e edge.0 (subst (λ n. has n ≡ true) (sym edge.1) (m.least has j go node s.marked)) (ap (is_as_deep flow p) (sym at) ∙ deep))
          | inr h ↦ m.least has j go q h
        ];
      };
      marked = still-marked marks r node s.marked;
      left = omega arith;
    }
  where
    m : IsMarking flow p marks found (e ∷ drop (k + 1) edges)
    m = subst (IsMarking flow p marks found) (drop_more edges k e l ∙ ap (λ d. d ∷ drop (k + 1) edges) (sym is)) s.marking

    here : is_node_marked (set marks r true) r ≡ true
    here = let one = s.marking.one_each in get_or-set_same marks r true false (omega arith)

    edge : (e < length flow.edges) × (sender flow e ≡ node)
    edge = out_edge flow node edges k e es l is

-- at the end all are done
pub spread_all : (flow : Dataflow) (p node : ℕ) (edges : List ℕ) (k : ℕ) (old : List Bool) (began : List ℕ) (marks : List Bool) (found : List ℕ) → length edges ≤ k
    → IsSpreading flow p node edges k old began marks found → IsMarking flow p marks found []
spread_all flow p node edges k old began marks found l s = subst (IsMarking flow p marks found) (drop_all k edges l) s.marking

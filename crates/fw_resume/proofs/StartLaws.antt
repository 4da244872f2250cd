-- What the numbers and fronts of a root make of inputs, outputs and lists of one for each.
use Rattle.std.proofs.Common.{◌≡◌, ℕ, zero, suc, ◌+◌, ◌<◌, ◌≤◌, Bool, true, false, ◌&&◌, ◌||◌, ◌==◌, nat_lt, cond, List, [], ◌∷◌, ◌++◌, length, map, filter, get_or, replicate, Some, None, refl, sym, ap, subst, ◌∙◌, inl, inr, arith, add-one}
use Rattle.std.specs.Prelude.{slice_get, unwrap_or}
use Rattle.std.specs.List.{AllByRecursion, AllZip, enumerate_from, range_with_len}
use Rattle.std.specs.BTreeMap.{is_at}
use Rattle.std.specs.Map.{remove_entry}
use Rattle.std.specs.Ordering.{nat_cmp}
use Rattle.std.proofs.lemmas.Bool.{and_from, and_parts, cases_Bool, cases_eq, cases_lt, cond_both, eq-eqb, eqb-true, false_from_ne_true, lt-ltb}
use Rattle.std.proofs.lemmas.List.{get_or-replicate, get_or_past, length-replicate}
use Rattle.fw_time.specs.Stamp.{in_domain, same}
use Rattle.fw_time.specs.declared.stamp.Bounds.{Bounds}
use Rattle.fw_bag.specs.declared.rec.Rec.{Rec}
use Rattle.fw_bag.specs.Keyed.{sorted_recs}
use Rattle.fw_bytes.specs.Sound.{each_may_follow, may_follow_stamps}
use Rattle.fw_bytes.proofs.FrontLaws.{canonical_of_sound}
use Rattle.fw_frontier.specs.Front.{Front, IsCanonical}
use Rattle.fw_flow.specs.Dataflow.{Dataflow, System, batches_of, batches_of_nodes, bounds_of, is_one_of, kind_of, node_ids, receiver}
use Rattle.fw_flow.specs.NodeFunction.{delivered_recs}
use Rattle.fw_lines.specs.Batches.{batches_at}
use Rattle.fw_model.specs.History.{injected_count}
use Rattle.fw_model.specs.Machine.{Machine, AreCanonical, ack_count_of, events, front_of, is_failed}
use Rattle.fw_border.specs.Outputs.{OutputState, new_output, recs_at_number}
use Rattle.fw_border.specs.Sources.{SourceState, advanced, given_up, source_at, unused_source}
use Rattle.fw_edge.specs.Messages.{MessagesState}
use Rattle.fw_rollback.specs.Edges.{nothing_there, on_edge}
use Rattle.fw_root.specs.declared.extent.Extent.{Extent}
use Rattle.fw_root.specs.declared.of_flow.Role.{Role}
use Rattle.fw_root.specs.declared.root.NodeFronts.{NodeFronts}
use Rattle.fw_root.specs.declared.root.Root.{Root}
use Rattle.fw_root.specs.OfFlow.{Given, allows_stamp, nodes_as, number_standing_for, place_among_nodes, plays}
use Rattle.fw_root.specs.Sound.{AreNodeFronts, IsFrontIn, IsRootFor, may_follow_outside}
use Rattle.fw_stands.specs.Parts.{IsOutputOf, IsSourceOf, kept_recs}
use Rattle.std.proofs.lemmas.Slice.Zip.{AllZip-long}
use Rattle.std.proofs.lemmas.List.FromFn.{length-range_with_len}
use Rattle.fw_resume.specs.Borders.{acknowledged_by, advanced_by, number_or_none, started}

-- ---- fronts

each-sound : (b : Bounds) (x : Extent) (before f : Front) → each_may_follow (may_follow_outside b x) before f ≡ true
    → AllByRecursion (λ s. in_domain b s ≡ true) f × (each_may_follow may_follow_stamps before f ≡ true)
each-sound b x before [] e = (tt, refl)
each-sound b x before (s ∷ f) e =
    let a = and_parts (may_follow_outside b x before s) (each_may_follow (may_follow_outside b x) (before ++ s ∷ []) f) e in
    let d = and_parts (in_domain b s) (allows_stamp b x s && may_follow_stamps before s) a.0 in
    let m = and_parts (allows_stamp b x s) (may_follow_stamps before s) d.1 in
    let rest = each-sound b x (before ++ s ∷ []) f a.1 in
    ((d.0, rest.0), and_from (may_follow_stamps before s) (each_may_follow may_follow_stamps (before ++ s ∷ []) f) m.1 rest.1)

pub front-canonical : (b : Bounds) (x : Extent) (f : Front) → IsFrontIn b x f → IsCanonical b f
front-canonical b x f i =
    let k = each-sound b x [] f i.outside.follow in
    canonical_of_sound b f k.0 (record { few = i.outside.few; parts = i.outside.parts; follow = k.1 })

fronts-canonical : (P : ℕ → NodeFronts → Type 0) (flow : Dataflow) (pick : NodeFronts → Front) → ((p : ℕ) (f : NodeFronts) → P p f → IsCanonical (bounds_of flow p) (pick f))
    → (a : ℕ) (fronts : List NodeFronts) → AllZip P (range_with_len a (length fronts)) fronts → (p : ℕ) → IsCanonical (bounds_of flow (a + p)) (front_of (map pick fronts) p)
fronts-canonical P flow pick k a [] z p = tt
fronts-canonical P flow pick k a (f ∷ fs) z zero = subst (λ q. IsCanonical (bounds_of flow q) (pick f)) (omega arith) (k a f z.0)
fronts-canonical P flow pick k a (f ∷ fs) z (suc p) =
    subst (λ q. IsCanonical (bounds_of flow q) (front_of (map pick fs) p)) (omega arith) (fronts-canonical P flow pick k (a + 1) fs z.1 p)

pub fronts_each : (flow : Dataflow) (batches : Given) (root : Root) → IsRootFor flow batches root → length root.fronts ≡ length flow.nodes
fronts_each flow batches root r = AllZip-long (AreNodeFronts flow batches root.injected) (node_ids flow) root.fronts r.fronts ∙ length-range_with_len 0 (length flow.nodes)

picked-canonical : (flow : Dataflow) (batches : Given) (root : Root) → IsRootFor flow batches root → (pick : NodeFronts → Front)
    → ((p : ℕ) (f : NodeFronts) → AreNodeFronts flow batches root.injected p f → IsCanonical (bounds_of flow p) (pick f)) → AreCanonical flow (map pick root.fronts)
picked-canonical flow batches root r pick k p =
    subst (λ q. IsCanonical (bounds_of flow q) (front_of (map pick root.fronts) p)) (omega arith)
    (fronts-canonical (AreNodeFronts flow batches root.injected) flow pick k 0 root.fronts
    (subst (λ n. AllZip (AreNodeFronts flow batches root.injected) (range_with_len 0 n) root.fronts) (sym (fronts_each flow batches root r)) r.fronts) p)

pub lows-canonical : (flow : Dataflow) (batches : Given) (root : Root) → IsRootFor flow batches root → AreCanonical flow (map (λ (f : NodeFronts). f.low) root.fronts)
lows-canonical flow batches root r = picked-canonical flow batches root r (λ (f : NodeFronts). f.low) (λ p f a. front-canonical (bounds_of flow p) _ f.low a.low)

pub settled-canonical : (flow : Dataflow) (batches : Given) (root : Root) → IsRootFor flow batches root → AreCanonical flow (map (λ (f : NodeFronts). f.settled) root.fronts)
settled-canonical flow batches root r = picked-canonical flow batches root r (λ (f : NodeFronts). f.settled) (λ p f a. front-canonical (bounds_of flow p) _ f.settled a.settled)

-- ---- numbers that stand for nodes

number-there : (f : ℕ → ℕ) (qs : List ℕ) (p : ℕ) → is_one_of p qs ≡ true → number_standing_for qs (map f qs) p ≡ Some (f p)
number-there f [] p i = absurd (cc)
number-there f (q ∷ qs) p i = elim (cases_Bool (q == p)) [
  | inl k ↦ ap (λ b. slice_get (f q ∷ map f qs) (cond b 0 (suc (place_among_nodes qs p)))) k ∙ ap (λ x. Some (f x)) (eqb-true q p k)
  | inr k ↦ ap (λ b. slice_get (f q ∷ map f qs) (cond b 0 (suc (place_among_nodes qs p)))) k ∙ number-there f qs p (sym (ap (λ b. b || is_one_of p qs) k) ∙ i)
]

number-none : (ns qs : List ℕ) (p : ℕ) → length ns ≤ length qs → is_one_of p qs ≡ false → number_standing_for qs ns p ≡ None
number-none [] [] p l i = refl
number-none (n ∷ ns) [] p l i = absurd (omega (arith, l))
number-none ns (q ∷ qs) p l i = elim (cases_Bool (q == p)) [
  | inl k ↦ let c : true ≡ false = sym (ap (λ b. b || is_one_of p qs) k) ∙ i in absurd (cc)
  | inr k ↦ ap (λ b. slice_get ns (cond b 0 (suc (place_among_nodes qs p)))) k ∙ by ns l (λ ms m. number-none ms qs p m (sym (ap (λ b. b || is_one_of p qs) k) ∙ i))
]
  where
    by : (ms : List ℕ) → length ms ≤ length (q ∷ qs) → ((ls : List ℕ) → length ls ≤ length qs → number_standing_for qs ls p ≡ None) → slice_get ms (suc (place_among_nodes qs p)) ≡ None
    by [] m r = refl
    by (m ∷ ms) n r = r ms (omega (arith, n))

one-in_range : (p a n : ℕ) → a ≤ p → p < a + n → is_one_of p (range_with_len a n) ≡ true
one-in_range p a zero l m = absurd (omega (arith, l, m))
one-in_range p a (suc n) l m = elim (cases_eq a p) [
  | inl e ↦ ap (λ b. b || is_one_of p (range_with_len (a + 1) n)) (eq-eqb a p e)
  | inr e ↦ ap (λ b. (a == p) || b) (one-in_range p (a + 1) n (omega (arith, l, e)) (omega (arith, m))) ∙ or-true (a == p)
]
  where
    or-true : (b : Bool) → (b || true) ≡ true
    or-true true = refl
    or-true false = refl

one-kept : (test : ℕ → Bool) (p : ℕ) → test p ≡ true → (xs : List ℕ) → is_one_of p xs ≡ true → is_one_of p (filter test xs) ≡ true
one-kept test p e [] i = absurd (cc)
one-kept test p e (x ∷ xs) i =
    let left = filter test xs in elim (cases_Bool (x == p)) [
      | inl k ↦ ap (λ c. is_one_of p (cond c (x ∷ left) left)) (ap test (eqb-true x p k) ∙ e) ∙ ap (λ d. d || is_one_of p left) k
      | inr k ↦
          let r = one-kept test p e xs (sym (ap (λ b. b || is_one_of p xs) k) ∙ i) in
          cond_both (test x) (x ∷ left) left (λ ys. is_one_of p ys ≡ true) (λ c. ap (λ d. d || is_one_of p left) k ∙ r) (λ c. r)
    ]

one-dropped : (test : ℕ → Bool) (p : ℕ) → test p ≡ false → (xs : List ℕ) → is_one_of p (filter test xs) ≡ false
one-dropped test p e [] = refl
one-dropped test p e (x ∷ xs) =
    let left = filter test xs in
    cond_both (test x) (x ∷ left) left (λ ys. is_one_of p ys ≡ false)
    (λ c. ap (λ d. d || is_one_of p left) (false_from_ne_true (x == p) (λ k. let q : true ≡ false = sym c ∙ ap test (eqb-true x p k) ∙ e in absurd (cc))) ∙ one-dropped test p e xs)
    (λ c. one-dropped test p e xs)

map-length : (f : ℕ → ℕ) (xs : List ℕ) → length (map f xs) ≡ length xs
map-length f [] = refl
map-length f (x ∷ xs) = ap (λ n. suc n) (map-length f xs)

pub number_there : (flow : Dataflow) (part : Role) (f : ℕ → ℕ) (numbers : List ℕ) (p : ℕ) → numbers ≡ map f (nodes_as flow part) → p < length flow.nodes
    → plays part (kind_of flow p) ≡ true → number_standing_for (nodes_as flow part) numbers p ≡ Some (f p)
unfolding nodes_as
number_there flow part f numbers p e l k =
    ap (λ ns. number_standing_for (nodes_as flow part) ns p) e
    ∙ number-there f (nodes_as flow part) p
    (one-kept (λ q. plays part (kind_of flow q)) p k (node_ids flow) (one-in_range p 0 (length flow.nodes) (omega arith) (omega (arith, l))))

pub number_none : (flow : Dataflow) (part : Role) (f : ℕ → ℕ) (numbers : List ℕ) (p : ℕ) → numbers ≡ map f (nodes_as flow part) → plays part (kind_of flow p) ≡ false
    → number_standing_for (nodes_as flow part) numbers p ≡ None
unfolding nodes_as
number_none flow part f numbers p e k =
    number-none numbers (nodes_as flow part) p (let m = ap length e ∙ map-length f (nodes_as flow part) in omega (arith, m))
    (one-dropped (λ q. plays part (kind_of flow q)) p k (node_ids flow))

pub number_of_node : (flow : Dataflow) (part : Role) (f : ℕ → ℕ) (numbers : List ℕ) (p : ℕ) → numbers ≡ map f (nodes_as flow part) → p < length flow.nodes
    → plays part (kind_of flow p) ≡ true → number_or_none (nodes_as flow part) numbers p ≡ f p
number_of_node flow part f numbers p e l k = ap (λ o. unwrap_or o 0) (number_there flow part f numbers p e l k)

pub number_of_other : (flow : Dataflow) (part : Role) (f : ℕ → ℕ) (numbers : List ℕ) (p : ℕ) → numbers ≡ map f (nodes_as flow part) → plays part (kind_of flow p) ≡ false
    → number_or_none (nodes_as flow part) numbers p ≡ 0
number_of_other flow part f numbers p e k = ap (λ o. unwrap_or o 0) (number_none flow part f numbers p e k)

-- ---- inputs

advanced-is : (n : ℕ) (batches : List (List Rec)) → n ≤ length batches
    → advanced_by n (unused_source batches) ≡ record { given = length batches; injected = n; held = enumerate_from 0 batches }
advanced-is zero batches l = refl
advanced-is (suc n) batches l =
    ap advanced (advanced-is n batches (omega (arith, l)))
    ∙ ap (λ b. cond b (record { given = length batches; injected = n + 1; held = enumerate_from 0 batches }) (record { given = length batches; injected = n; held = enumerate_from 0 batches }))
    (lt-ltb n (length batches) (omega (arith, l)))
    ∙ ap (λ k. record { given = length batches; injected = k; held = enumerate_from 0 batches }) (add-one n)

pub at-unused : (all : List (List (List Rec))) (p : ℕ) → source_at (map unused_source all) p ≡ unused_source (get_or all p [])
at-unused [] p = refl
at-unused (x ∷ xs) zero = refl
at-unused (x ∷ xs) (suc p) = at-unused xs p

pub source-is : (sys : System) (state : Machine) (s n : ℕ) (source : SourceState) → n ≡ injected_count s (events state.history) → n ≤ length (batches_of sys s)
    → source ≡ started n (front_of state.low s) (unused_source (batches_of sys s)) → IsSourceOf sys state s source
source-is sys state s n source k l e =
    let all = e ∙ ap (given_up (front_of state.low s)) (advanced-is n (batches_of sys s) l) in record {
      given = ap (λ (x : SourceState). x.given) all;
      injected = ap (λ (x : SourceState). x.injected) all ∙ k;
      held = ap (λ (x : SourceState). x.held) all;
    }

-- ---- outputs

no-recs : (n : ℕ) → (acknowledged_by n new_output).recs ≡ []
no-recs zero = refl
no-recs (suc n) = ap (λ (os : List (ℕ × List Rec)). remove_entry (is_at (nat_cmp (acknowledged_by n new_output).bound)) os) (no-recs n)

so-bound : (n : ℕ) → (acknowledged_by n new_output).bound ≡ n
so-bound zero = refl
so-bound (suc n) = ap (λ b. b + 1) (so-bound n) ∙ add-one n

pub output-is : (sys : System) (state : Machine) (o n : ℕ) (output : OutputState) → is_failed state o ≡ true → n ≡ ack_count_of state o → output ≡ acknowledged_by n new_output
    → IsOutputOf sys state o output
output-is sys state o n output f k e = record {
  bound = ap (λ (x : OutputState). x.bound) e ∙ so-bound n ∙ k;
  recs = λ x. ap (λ (y : OutputState). recs_at_number y.recs x) e ∙ ap (λ (rs : List (ℕ × List Rec)). recs_at_number rs x) (no-recs n) ∙ sym (none x);
}
  where
    none : (x : ℕ) → kept_recs sys state o x ≡ []
    none x = ap (λ b. cond (b || nat_lt x (ack_count_of state o)) [] (sorted_recs (delivered_recs (λ e s. (receiver sys.flow e == o) && same s (x ∷ [])) (events state.history)))) f

-- ---- lists of one for each

pub all-same : {A : Type 0} (xs : List A) (n i : ℕ) (x : A) → xs ≡ replicate n x → get_or xs i x ≡ x
all-same xs n i x e = ap (λ ys. get_or ys i x) e ∙ elim (cases_lt i n) [
  | inl l ↦ get_or-replicate n i x x l
  | inr l ↦ get_or_past (replicate n x) i x (omega (arith, l, length-replicate n x))
]

pub nothing-on : (all : List MessagesState) (n e : ℕ) → all ≡ replicate n nothing_there → (on_edge all e).messages ≡ []
nothing-on all n e is = ap (λ (s : MessagesState). s.messages) (all-same all n e nothing_there is)

pub each-same : {A : Type 0} (x : A) (a n : ℕ) → replicate n x ≡ map (λ p. x) (range_with_len a n)
each-same x a zero = refl
each-same x a (suc n) = ap (λ xs. x ∷ xs) (each-same x (a + 1) n)

pub length-map' : {A B : Type 0} (g : A → B) (xs : List A) → length (map g xs) ≡ length xs
length-map' g [] = refl
length-map' g (x ∷ xs) = ap (λ n. suc n) (length-map' g xs)

pub batches-length : (flow : Dataflow) (batches : Given) → length (batches_of_nodes flow batches) ≡ length flow.nodes
unfolding batches_of_nodes
batches-length flow batches = length-map' (batches_at batches) (node_ids flow) ∙ length-range_with_len 0 (length flow.nodes)

-- Which inclusions a dataflow has, their numbers, those that a lowering can break, and the flags of those that wait.
use Rattle.std.proofs.Common.{◌≡◌, ◌⊎◌, ℕ, zero, suc, ◌+◌, ◌-◌, ◌*◌, ◌<◌, ◌≤◌, Bool, true, false, ◌==◌, List, [], ◌∷◌, ◌++◌, length, map, take, set, get_or, refl, sym, ap, subst, ◌∙◌, inl, inr, arith}
use Rattle.std.specs.List.{AllByRecursion}
use Rattle.std.proofs.Math.Seq.{take-suc}
use Rattle.std.proofs.lemmas.Bool.{eqb-true, or_cases, cases_eq, cases_lt}
use Rattle.std.proofs.lemmas.List.{append_assoc, get_or-set_same, get_or-set_other, length-append, length-map, length-set}
use Rattle.fw_lemmas.proofs.Each.{each-weaker, each-append, each-prefix, each-suffix, each_of-map}
use Rattle.fw_flow.specs.Dataflow.{Dataflow, sender, receiver, in_edges, out_edges}
use Rattle.fw_flow.proofs.EdgeLaws.{in_edges-at}
use Rattle.fw_flow.proofs.OutEdgeLaws.{out_edges-at}
use Rattle.fw_flow.specs.declared.side.Side.{Side}
use Rattle.fw_flow.specs.declared.side.Limit.{Limit}
use Rattle.fw_flow.specs.declared.side.Side.TheVariants.{Delivered, Discarded, Notified}
use Rattle.fw_flow.specs.declared.side.Limit.TheVariants.{Own, Note}
use Rattle.fw_monitor.specs.declared.worklist.OnEdge.{OnEdge}
use Rattle.fw_flow.specs.declared.side.Inclusion.{Inclusion}
use Rattle.fw_flow.specs.declared.side.Inclusion.TheVariants.{OfCut, OfNote}
use Rattle.fw_model.specs.Inclusions.{owner, IsInclusionOf, note_node, node_of, inclusions_at, inclusions_to}
use Rattle.fw_monitor.specs.Worklist.{inclusion_on_edge, may_break, reads_cut, reads_note, after_cut, after_note, after, number, inclusion_count, waits, count, AreMadeToWait}
use Rattle.fw_monitor.specs.Trail.{degree}
use Rattle.fw_model.proofs.InclusionLaws.{ins-there, outs-there}

-- ---- what holds of each of five lists in turn

five : {A : Type 0} (P : A → Type 0) (a b c d e : List A) → AllByRecursion P (a ++ b ++ c ++ d ++ e)
    → AllByRecursion P a × AllByRecursion P b × AllByRecursion P c × AllByRecursion P d × AllByRecursion P e
five P a b c d e h =
    let four = each-prefix P (a ++ b ++ c ++ d) e h in
    let three = each-prefix P (a ++ b ++ c) d four in
    let two = each-prefix P (a ++ b) c three in
    (each-prefix P a b two, each-suffix P a b two, each-suffix P (a ++ b) c three, each-suffix P (a ++ b ++ c) d four, each-suffix P (a ++ b ++ c ++ d) e h)

five_of : {A : Type 0} (P : A → Type 0) (a b c d e : List A) → AllByRecursion P a → AllByRecursion P b → AllByRecursion P c → AllByRecursion P d → AllByRecursion P e
    → AllByRecursion P (a ++ b ++ c ++ d ++ e)
five_of P a b c d e h i j k l =
    each-append P (a ++ b ++ c ++ d) e (each-append P (a ++ b ++ c) d (each-append P (a ++ b) c (each-append P a b h i) j) k) l

-- ---- the inclusions in the list

pub inclusions_next : (flow : Dataflow) (ys zs : List Inclusion) (n p : ℕ) → ys ≡ inclusions_to flow n → zs ≡ ys ++ inclusions_at flow p → p ≡ n → zs ≡ inclusions_to flow (n + 1)
unfolding inclusions_to
inclusions_next flow ys zs n p e f k =
    let s : suc n ≡ n + 1 = omega arith in
    f ∙ ap (λ x. x ++ inclusions_at flow p) e ∙ ap (λ q. inclusions_to flow n ++ inclusions_at flow q) k ∙ ap (inclusions_to flow) s

pub take_next : {A : Type 0} (xs : List A) (n : ℕ) (x : A) → n < length xs → x ≡ get_or xs n x → take (n + 1) xs ≡ take n xs ++ x ∷ []
take_next xs n x l is =
    let s : n + 1 ≡ suc n = omega arith in
    ap (λ k. take k xs) s ∙ take-suc xs n x l ∙ ap (λ y. take n xs ++ y ∷ []) (sym is)

-- a list that is longer by a part, and again by another one
pub longer : {A : Type 0} (z a b u v : List A) → u ≡ z ++ a → v ≡ u ++ b → v ≡ z ++ (a ++ b)
longer z a b u v e f = f ∙ ap (λ w. w ++ b) e ∙ append_assoc z a b

-- the same by what is said of edges
pub longer_on : (what : OnEdge) (z a u v : List Inclusion) (es ds : List ℕ) → es ≡ ds → u ≡ z ++ a → v ≡ u ++ map (inclusion_on_edge what) es → v ≡ z ++ (a ++ map (inclusion_on_edge what) ds)
longer_on what z a u v es ds same e f = longer z a (map (inclusion_on_edge what) ds) u v e (f ∙ ap (λ xs. u ++ map (inclusion_on_edge what) xs) same)

-- ---- those that a lowering can break

after_cut-each : (P : Inclusion → Type 0) (flow : Dataflow) (p : ℕ) (j : Inclusion) → IsInclusionOf flow j → AllByRecursion P (after_cut flow p) → reads_cut flow p j ≡ true → P j
after_cut-each P flow p j l a = at j l
  where
    parts : AllByRecursion (λ d. P (OfCut (Delivered d))) (in_edges flow p) × AllByRecursion (λ d. P (OfCut (Discarded d))) (in_edges flow p)
        × AllByRecursion (λ d. P (OfCut (Delivered d))) (out_edges flow p) × AllByRecursion (λ d. P (OfCut (Discarded d))) (out_edges flow p)
        × (P (OfCut (Notified p)) × P (OfNote (Own p)) × Unit {0})
    parts =
        let ins = in_edges flow p in
        let outs = out_edges flow p in
        let h = five P (map (λ d. OfCut (Delivered d)) ins) (map (λ d. OfCut (Discarded d)) ins) (map (λ d. OfCut (Delivered d)) outs) (map (λ d. OfCut (Discarded d)) outs)
        (OfCut (Notified p) ∷ OfNote (Own p) ∷ []) a in (
          each_of-map P (λ d. OfCut (Delivered d)) ins h.0,
          each_of-map P (λ d. OfCut (Discarded d)) ins h.1,
          each_of-map P (λ d. OfCut (Delivered d)) outs h.2,
          each_of-map P (λ d. OfCut (Discarded d)) outs h.3,
          (h.4.0, h.4.1.0, tt),
        )

    at : (j : Inclusion) → IsInclusionOf flow j → reads_cut flow p j ≡ true → P j
    at (OfCut (Delivered d)) m k = elim (or_cases (receiver flow d == p) (sender flow d == p) k) [
      | inl e ↦ in_edges-at (λ x. P (OfCut (Delivered x))) flow p parts.0 d m (eqb-true (receiver flow d) p e)
      | inr e ↦ out_edges-at (λ x. P (OfCut (Delivered x))) flow p parts.2 d m (eqb-true (sender flow d) p e)
    ]
    at (OfCut (Discarded d)) m k = elim (or_cases (sender flow d == p) (receiver flow d == p) k) [
      | inl e ↦ out_edges-at (λ x. P (OfCut (Discarded x))) flow p parts.3 d m (eqb-true (sender flow d) p e)
      | inr e ↦ in_edges-at (λ x. P (OfCut (Discarded x))) flow p parts.1 d m (eqb-true (receiver flow d) p e)
    ]
    at (OfCut (Notified q)) m k = subst (λ x. P (OfCut (Notified x))) (sym (eqb-true q p k)) parts.4.0
    at (OfNote (Own q)) m k = subst (λ x. P (OfNote (Own x))) (sym (eqb-true q p k)) parts.4.1
    at (OfNote (Note d)) m k = absurd (cc)

after_note-each : (P : Inclusion → Type 0) (flow : Dataflow) (p : ℕ) (j : Inclusion) → IsInclusionOf flow j → AllByRecursion P (after_note flow p) → reads_note flow p j ≡ true → P j
after_note-each P flow p (OfCut (Delivered d)) m a k = absurd (cc)
after_note-each P flow p (OfCut (Discarded d)) m a k = absurd (cc)
after_note-each P flow p (OfCut (Notified q)) m a k = subst (λ x. P (OfCut (Notified x))) (sym (eqb-true q p k)) a.0
after_note-each P flow p (OfNote (Own q)) m a k = absurd (cc)
after_note-each P flow p (OfNote (Note d)) m a k =
    out_edges-at (λ x. P (OfNote (Note x))) flow p (each_of-map P (λ x. OfNote (Note x)) (out_edges flow p) a.1) d m (eqb-true (sender flow d) p k)

pub after-each : (P : Inclusion → Type 0) (flow : Dataflow) (i j : Inclusion) → IsInclusionOf flow j → AllByRecursion P (after flow i) → may_break flow i j ≡ true → P j
after-each P flow (OfCut side) j m a k = after_cut-each P flow (owner flow side) j m a k
after-each P flow (OfNote limit) j m a k = after_note-each P flow (note_node flow limit) j m a k

pub after-there : (flow : Dataflow) (i : Inclusion) → node_of flow i < length flow.nodes → AllByRecursion (IsInclusionOf flow) (after flow i)
after-there flow (OfCut side) l =
    let p = owner flow side in
    let ins = in_edges flow p in
    let outs = out_edges flow p in
    five_of (IsInclusionOf flow) (map (λ d. OfCut (Delivered d)) ins) (map (λ d. OfCut (Discarded d)) ins) (map (λ d. OfCut (Delivered d)) outs) (map (λ d. OfCut (Discarded d)) outs)
    (OfCut (Notified p) ∷ OfNote (Own p) ∷ [])
    (ins-there flow (λ d. OfCut (Delivered d)) p (λ d m. m)) (ins-there flow (λ d. OfCut (Discarded d)) p (λ d m. m))
    (outs-there flow (λ d. OfCut (Delivered d)) p (λ d m. m)) (outs-there flow (λ d. OfCut (Discarded d)) p (λ d m. m)) (l, (l, tt))
after-there flow (OfNote limit) l = (l, outs-there flow (λ d. OfNote (Note d)) (note_node flow limit) (λ d m. m))

-- they are at most two, and three for each edge of the node
pub after-most : (flow : Dataflow) (i : Inclusion) → length (after flow i) ≤ 2 + 3 * degree flow (node_of flow i)
after-most flow (OfCut side) =
    let ins = in_edges flow (owner flow side) in
    let outs = out_edges flow (owner flow side) in
    let a = map (λ d. OfCut (Delivered d)) ins in
    let b = map (λ d. OfCut (Discarded d)) ins in
    let c = map (λ d. OfCut (Delivered d)) outs in
    let d = map (λ d. OfCut (Discarded d)) outs in
    let la = length-map ins (λ d. OfCut (Delivered d)) in
    let lb = length-map ins (λ d. OfCut (Discarded d)) in
    let lc = length-map outs (λ d. OfCut (Delivered d)) in
    let ld = length-map outs (λ d. OfCut (Discarded d)) in
    let two = length-append a b in
    let three = length-append (a ++ b) c in
    let four = length-append (a ++ b ++ c) d in
    let all = length-append (a ++ b ++ c ++ d) (OfCut (Notified (owner flow side)) ∷ OfNote (Own (owner flow side)) ∷ []) in
    omega arith
after-most flow (OfNote limit) = let h = length-map (out_edges flow (note_node flow limit)) (λ d. OfNote (Note d)) in omega arith

-- ---- numbers

pub number-below : (flow : Dataflow) (i : Inclusion) → IsInclusionOf flow i → number flow i < inclusion_count flow
number-below flow (OfCut (Delivered d)) l = omega arith
number-below flow (OfCut (Discarded e)) l = omega arith
number-below flow (OfCut (Notified p)) l = omega arith
number-below flow (OfNote (Own p)) l = omega arith
number-below flow (OfNote (Note d)) l = omega arith

-- each number below how many there are is one of an inclusion
pub each_number : (flow : Dataflow) (P : ℕ → Type 0) → ((i : Inclusion) → IsInclusionOf flow i → P (number flow i)) → (n : ℕ) → n < inclusion_count flow → P n
each_number flow P h n l =
    let e = length flow.edges in
    let v = length flow.nodes in
    elim (cases_lt n e) [
      | inl k ↦ h (OfCut (Delivered n)) k
      | inr first ↦ elim (cases_lt (n - e) e) [
        | inl k ↦ let r : e + (n - e) ≡ n = omega arith in subst P r (h (OfCut (Discarded (n - e))) k)
        | inr second ↦ elim (cases_lt (n - e - e) e) [
          | inl k ↦ let r : e + e + (n - e - e) ≡ n = omega arith in subst P r (h (OfNote (Note (n - e - e))) k)
          | inr third ↦ elim (cases_lt (n - e - e - e) v) [
            | inl k ↦ let r : e + e + e + (n - e - e - e) ≡ n = omega arith in subst P r (h (OfCut (Notified (n - e - e - e))) k)
            | inr fourth ↦ let r : e + e + e + v + (n - e - e - e - v) ≡ n = omega arith in subst P r (h (OfNote (Own (n - e - e - e - v))) (omega arith))
          ]
        ]
      ]
    ]

numbers-apart : (flow : Dataflow) (side : Side) (limit : Limit) → IsInclusionOf flow (OfCut side) → IsInclusionOf flow (OfNote limit) → number flow (OfCut side) ≡ number flow (OfNote limit) → ⊥
numbers-apart flow (Delivered d) (Own q) l m k = omega arith
numbers-apart flow (Delivered d) (Note e) l m k = omega arith
numbers-apart flow (Discarded d) (Own q) l m k = omega arith
numbers-apart flow (Discarded d) (Note e) l m k = omega arith
numbers-apart flow (Notified p) (Own q) l m k = omega arith
numbers-apart flow (Notified p) (Note e) l m k = omega arith

number-one : (flow : Dataflow) (i j : Inclusion) → IsInclusionOf flow i → IsInclusionOf flow j → number flow i ≡ number flow j → i ≡ j
number-one flow (OfCut (Delivered d)) (OfCut (Delivered e)) l m k = ap (λ x. OfCut (Delivered x)) k
number-one flow (OfCut (Discarded d)) (OfCut (Discarded e)) l m k = let r : d ≡ e = omega arith in ap (λ x. OfCut (Discarded x)) r
number-one flow (OfCut (Notified p)) (OfCut (Notified q)) l m k = let r : p ≡ q = omega arith in ap (λ x. OfCut (Notified x)) r
number-one flow (OfNote (Own p)) (OfNote (Own q)) l m k = let r : p ≡ q = omega arith in ap (λ x. OfNote (Own x)) r
number-one flow (OfNote (Note d)) (OfNote (Note e)) l m k = let r : d ≡ e = omega arith in ap (λ x. OfNote (Note x)) r
number-one flow (OfCut a) (OfNote b) l m k = absurd (numbers-apart flow a b l m k)
number-one flow (OfNote a) (OfCut b) l m k = absurd (numbers-apart flow b a m l (sym k))
number-one flow i j l m k = absurd (omega arith)

-- ---- flags

-- one that waited is cleared
pub count-cleared : (ws : List Bool) (k : ℕ) → k < length ws → get_or ws k true ≡ true → count (set ws k false) + 1 ≡ count ws
count-cleared [] k l e = absurd (omega arith)
count-cleared (true ∷ ws) zero l e = omega arith
count-cleared (false ∷ ws) zero l e = absurd (cc)
count-cleared (true ∷ ws) (suc k) l e = let h = count-cleared ws k (omega arith) e in omega arith
count-cleared (false ∷ ws) (suc k) l e = count-cleared ws k (omega arith) e

-- one is put back
count-put : (ws : List Bool) (k : ℕ) → count (set ws k true) ≤ count ws + 1
count-put [] k = omega arith
count-put (true ∷ ws) zero = omega arith
count-put (false ∷ ws) zero = omega arith
count-put (true ∷ ws) (suc k) = let h = count-put ws k in omega arith
count-put (false ∷ ws) (suc k) = count-put ws k

count-kept : (ws : List Bool) (k : ℕ) → count ws ≤ count (set ws k true)
count-kept [] k = omega arith
count-kept (true ∷ ws) zero = omega arith
count-kept (false ∷ ws) zero = omega arith
count-kept (true ∷ ws) (suc k) = let h = count-kept ws k in omega arith
count-kept (false ∷ ws) (suc k) = count-kept ws k

put-same : (ws : List Bool) (k : ℕ) → get_or (set ws k true) k true ≡ true
put-same [] k = refl
put-same (w ∷ ws) zero = refl
put-same (w ∷ ws) (suc k) = put-same ws k

put-still : (ws : List Bool) (k i : ℕ) → get_or ws i true ≡ true → get_or (set ws k true) i true ≡ true
put-still ws k i e = elim (cases_eq i k) [
  | inl s ↦ subst (λ x. get_or (set ws k true) x true ≡ true) (sym s) (put-same ws k)
  | inr n ↦ get_or-set_other ws k i true true n ∙ e
]

-- what does not wait once one is cleared did not wait, or is that one
pub cleared-other : (flow : Dataflow) (ws : List Bool) (i j : Inclusion) → IsInclusionOf flow i → IsInclusionOf flow j → waits flow (set ws (number flow i) false) j ≡ false
    → (j ≡ i) ⊎ (waits flow ws j ≡ false)
cleared-other flow ws i j l m e = elim (cases_eq (number flow j) (number flow i)) [
  | inl s ↦ inl (number-one flow j i m l s)
  | inr n ↦ inr (sym (get_or-set_other ws (number flow i) (number flow j) false true n) ∙ e)
]

-- what did not wait does not wait once one is cleared
pub cleared-rest : (flow : Dataflow) (ws : List Bool) (i j : Inclusion) → number flow i < length ws → waits flow ws j ≡ false → waits flow (set ws (number flow i) false) j ≡ false
cleared-rest flow ws i j m e = elim (cases_eq (number flow j) (number flow i)) [
  | inl s ↦ subst (λ x. get_or (set ws (number flow i) false) x true ≡ false) (sym s) (get_or-set_same ws (number flow i) false true m)
  | inr n ↦ get_or-set_other ws (number flow i) (number flow j) false true n ∙ e
]

-- at first all wait
pub all_waits : (ws : List Bool) → AllByRecursion (λ w. w ≡ true) ws → (k : ℕ) → get_or ws k true ≡ true
all_waits [] a k = refl
all_waits (w ∷ ws) a zero = a.0
all_waits (w ∷ ws) a (suc k) = all_waits ws a.1 k

pub count-most : (ws : List Bool) → count ws ≤ length ws
count-most [] = omega arith
count-most (true ∷ ws) = let h = count-most ws in omega arith
count-most (false ∷ ws) = let h = count-most ws in omega arith

pub count-all : (ws : List Bool) → AllByRecursion (λ w. w ≡ true) ws → count ws ≡ length ws
count-all [] a = refl
count-all (true ∷ ws) a = let h = count-all ws a.1 in omega arith
count-all (false ∷ ws) a = absurd (let e = a.0 in cc)

-- at last none waits
pub count-none : (ws : List Bool) → ((n : ℕ) → n < length ws → get_or ws n true ≡ false) → count ws ≡ 0
count-none [] h = refl
count-none (true ∷ ws) h = absurd (let e = h 0 (omega arith) in cc)
count-none (false ∷ ws) h = count-none ws (λ n l. h (suc n) (omega arith))

-- ---- what is put back

pub put_one : (flow : Dataflow) (ws : List Bool) (i : Inclusion) → IsInclusionOf flow i → AreMadeToWait flow (i ∷ []) ws (set ws (number flow i) true)
put_one flow ws i there = record {
  one_each = length-set ws (number flow i) true;
  wait = (put-same ws (number flow i), tt);
  still = λ j e. put-still ws (number flow i) (number flow j) e;
  few = count-put ws (number flow i);
  none_out = count-kept ws (number flow i);
  none_before = λ p a j m l e. elim (cases_eq (number flow j) (number flow i)) [
    | inl s ↦
        let k = a.0 in
        let here : node_of flow i < p = subst (λ x. node_of flow x < p) (number-one flow j i m there s) l in
        absurd (omega arith)
    | inr n ↦ get_or-set_other ws (number flow i) (number flow j) true true n ∙ e
  ];
}

put_more : (flow : Dataflow) (is js : List Inclusion) (a b c : List Bool) → AreMadeToWait flow is a b → AreMadeToWait flow js b c → AreMadeToWait flow (is ++ js) a c
put_more flow is js a b c k l =
    let few = k.few in
    let more = l.few in
    let first = k.none_out in
    let second = l.none_out in
    let both = length-append is js in
    record {
      one_each = l.one_each ∙ k.one_each;
      wait = each-append (λ i. waits flow c i ≡ true) is js (each-weaker (λ i. waits flow b i ≡ true) (λ i. waits flow c i ≡ true) is (λ i e. l.still i e) k.wait) l.wait;
      still = λ j e. l.still j (k.still j e);
      few = omega arith;
      none_out = omega arith;
      none_before = λ p h j m before e.
          l.none_before p (each-suffix (λ i. p ≤ node_of flow i) is js h) j m before (k.none_before p (each-prefix (λ i. p ≤ node_of flow i) is js h) j m before e);
    }

pub put_next : (flow : Dataflow) (all : List Inclusion) (n : ℕ) (x : Inclusion) (a b c : List Bool) → n < length all → x ≡ get_or all n x
    → AreMadeToWait flow (take n all) a b → AreMadeToWait flow (x ∷ []) b c → AreMadeToWait flow (take (n + 1) all) a c
put_next flow all n x a b c l is k one = subst (λ xs. AreMadeToWait flow xs a c) (sym (take_next all n x l is)) (put_more flow (take n all) (x ∷ []) a b c k one)

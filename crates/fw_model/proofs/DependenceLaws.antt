-- What an out bag at a stamp depends on: the bags on the sender's in-edges at stamps of lesser measure.
use Rattle.std.proofs.Common.{◌≡◌, ℕ, suc, ◌+◌, ◌<◌, Bool, cond, true, false, ◌==◌, List, [], ◌∷◌, length, get_or, map, refl, sym, ap, subst, ◌∙◌, inl, inr, arith}
use Rattle.std.proofs.lemmas.Bool.{cond_both, cases_Bool, eqb-true}
use Rattle.std.specs.List.{AllByRecursion}
use Rattle.fw_lemmas.proofs.Each.{each-weaker}
use Rattle.fw_time.specs.Stamp.{Stamp, same}
use Rattle.fw_flow.specs.declared.node.Edge.{Edge}
use Rattle.fw_flow.specs.Dataflow.{System, Dataflow, kind_of, sender, receiver, edges_into, in_edges, batches_of}
use Rattle.fw_flow.specs.WellFormed.{IsWellFormed}
use Rattle.fw_flow.specs.Ranks.{is_looped}
use Rattle.fw_flow.specs.WholeBags.{Timed, timed_recs, timed_where, in_order, outputs_of_kind, outputs_of}
use Rattle.fw_model.specs.Denotation.{Family}
use Rattle.fw_model.specs.LawsOfDenotation.{RecsAtStampsDecideBag, OutBagsDependOnLesserMeasure}
use Rattle.fw_model.proofs.KindSorts.{inner-from_loop}
use Rattle.fw_model.proofs.TimedLaws.{IsAscendingTimed, ascending-in_order, ascending-filter, how_often_timed, how_often-in_order, same_from_how_often, how_often-filter_in, how_often-filter_out}
use Rattle.fw_model.specs.Wholes.{part, takes_part_of, AgreeWhere}
use Rattle.fw_model.proofs.DistinctLaws.{how_often_timed-one}
use Rattle.fw_model.proofs.WholeLaws.{makes_lawfully, takes-sent}
use Rattle.fw_model.proofs.MeasureLaws.{sends_to_loop}
use Rattle.fw_model.proofs.StampLaws.{same-is, same-refl}
use Rattle.fw_model.specs.Measure.{Measure}

-- ---- in-edges

edges_into-each : (all : List Edge) (p : ℕ) (d : Edge) (es : List Edge) (n : ℕ) → n + length es ≡ length all
    → ((k : ℕ) → k < length es → get_or all (n + k) d ≡ get_or es k d)
    → AllByRecursion (λ e. (e < length all) × ((get_or all e d).receiver ≡ p)) (edges_into n es p)
edges_into-each all p d [] n l w = tt
edges_into-each all p d (x ∷ es) n l w =
    let rest = edges_into-each all p d es (n + 1) (omega arith)
    (λ k h. let e : n + 1 + k ≡ n + suc k = omega arith in ap (λ i. get_or all i d) e ∙ w (suc k) (omega arith)) in
    let z : n ≡ n + 0 = omega arith in
    cond_both (x.receiver == p) (n ∷ edges_into (n + 1) es p) (edges_into (n + 1) es p)
    (AllByRecursion (λ e. (e < length all) × ((get_or all e d).receiver ≡ p)))
    (λ h. ((omega arith, ap (λ i. (get_or all i d).receiver) z ∙ ap (λ (c : Edge). c.receiver) (w 0 (omega arith)) ∙ eqb-true x.receiver p h), rest))
    (λ h. rest)

-- the in-edges of a node are edges that lead to it
pub in_edges-each : (flow : Dataflow) (p : ℕ) → AllByRecursion (λ e. (e < length flow.edges) × (receiver flow e ≡ p)) (in_edges flow p)
unfolding in_edges receiver
in_edges-each flow p =
    edges_into-each flow.edges p (record { name = []; sender = length flow.nodes; receiver = length flow.nodes }) flow.edges 0 (omega arith)
    (λ k h. let e : 0 + k ≡ k = omega arith in ap (λ i. get_or flow.edges i (record { name = []; sender = length flow.nodes; receiver = length flow.nodes })) e)

-- two functions that agree on the elements of a list give one list
pub map-agree : {A B : Type 0} (f g : A → B) (xs : List A) → AllByRecursion (λ x. f x ≡ g x) xs → map f xs ≡ map g xs
map-agree f g [] a = refl
map-agree f g (x ∷ xs) a = ap (λ y. y ∷ map f xs) a.0 ∙ ap (λ ys. g x ∷ ys) (map-agree f g xs a.1)

-- ---- the dependence

-- each bag of the family ascends
abbrev pub AreAscending : Family → Type 0
AreAscending family = (e : ℕ) → IsAscendingTimed (family e)

-- the families have each timed rec of lesser measure than this equally often, on each edge into the node
abbrev pub AgreeBelow : (flow : Dataflow) → Measure flow → Family → Family → ℕ → ℕ → Type 0
AgreeBelow flow by f g p m =
    (d : ℕ) → d < length flow.edges → receiver flow d ≡ p → (y : Timed) → by.measure p y.at < m → how_often_timed y (f d) ≡ how_often_timed y (g d)

-- two bags in order, in which each timed rec that passes is equally often, have one part that passes
parts-agree : (p : Stamp → Bool) (xs ys : List Timed) → IsAscendingTimed xs → IsAscendingTimed ys
    → ((y : Timed) → p y.at ≡ true → how_often_timed y xs ≡ how_often_timed y ys) → part p xs ≡ part p ys
parts-agree p xs ys a b w =
    let test : Timed → Bool = λ r. p r.at in
    same_from_how_often (part p xs) (part p ys) (ascending-filter test xs a) (ascending-filter test ys b)
    (λ y. elim (cases_Bool (p y.at)) [
      | inl e ↦ how_often-filter_in test y xs e ∙ w y e ∙ sym (how_often-filter_in test y ys e)
      | inr e ↦ how_often-filter_out test y xs e ∙ sym (how_often-filter_out test y ys e)
    ])

-- how often a timed rec is in a list can be seen from the part at its stamp
how_often-part : (x : Timed) (xs ys : List Timed) → part (same x.at) xs ≡ part (same x.at) ys → how_often_timed x xs ≡ how_often_timed x ys
how_often-part x xs ys e =
    let test : Timed → Bool = λ r. same x.at r.at in
    sym (how_often-filter_in test x xs (same-refl x.at)) ∙ ap (how_often_timed x) e ∙ how_often-filter_in test x ys (same-refl x.at)

unlooped-agree : (sys : System) → IsWellFormed sys.flow → (by : Measure sys.flow) (f g : Family) → AreAscending f → AreAscending g
    → (e : ℕ) → e < length sys.flow.edges → (x : Timed)
    → AgreeBelow sys.flow by f g (sender sys.flow e) (by.measure (receiver sys.flow e) x.at)
    → is_looped sys.flow (receiver sys.flow e) ≡ false
    → how_often_timed x (outputs_of sys f (sender sys.flow e)) ≡ how_often_timed x (outputs_of sys g (sender sys.flow e))
unlooped-agree sys w by f g a b e l x h k =
    let flow = sys.flow in
    let q = sender flow e in
    let bags = map-agree f g (in_edges flow q)
    (each-weaker (λ d. (d < length flow.edges) × (receiver flow d ≡ q)) (λ d. f d ≡ g d) (in_edges flow q)
    (λ d i. same_from_how_often (f d) (g d) (a d) (b d) (λ y. h d i.0 i.1 y (by.into_unlooped e l k y.at x.at)))
    (in_edges-each flow q)) in
    let F : List (List Timed) → List Timed = outputs_of_kind flow (kind_of flow q) (batches_of sys q) in
    how_often-in_order x (F (map f (in_edges flow q)))
    ∙ ap (λ bs. how_often_timed x (F bs)) bags
    ∙ sym (how_often-in_order x (F (map g (in_edges flow q))))

looped-agree : (sys : System) → IsWellFormed sys.flow → (by : Measure sys.flow) (f g : Family) → (e : ℕ) → e < length sys.flow.edges → (x : Timed)
    → AgreeBelow sys.flow by f g (sender sys.flow e) (by.measure (receiver sys.flow e) x.at)
    → is_looped sys.flow (receiver sys.flow e) ≡ true
    → how_often_timed x (outputs_of sys f (sender sys.flow e)) ≡ how_often_timed x (outputs_of sys g (sender sys.flow e))
looped-agree sys w by f g e l x h k =
    let flow = sys.flow in
    let q = sender flow e in
    let t = x.at in
    let ds = in_edges flow q in
    let kind = kind_of flow q in
    let F : List (List Timed) → List Timed = outputs_of_kind flow kind (batches_of sys q) in
    let inner = inner-from_loop flow kind (sends_to_loop flow w e l k) in
    let agree = each-weaker (λ d. (d < length flow.edges) × (receiver flow d ≡ q)) (λ d. AgreeWhere (takes_part_of flow kind t) (f d) (g d)) ds
    (λ d i u r j.
    let y : Timed = record { at = u; rec = r } in
    let sent = takes-sent flow kind inner t u j in
    sym (how_often_timed-one y (f d)) ∙ h d i.0 i.1 y (by.into_looped e l k u t sent.0 sent.1 sent.2) ∙ how_often_timed-one y (g d))
    (in_edges-each flow q) in
    how_often-in_order x (F (map f ds))
    ∙ how_often_timed-one x (F (map f ds))
    ∙ (makes_lawfully flow kind).agrees inner (batches_of sys q) t x.rec f g ds agree
    ∙ sym (how_often_timed-one x (F (map g ds)))
    ∙ sym (how_often-in_order x (F (map g ds)))

-- Two families that agree on the sender's in-edges at each stamp of lesser measure give each timed rec of the measure
-- equally often on the edge.
pub outputs-agree : (sys : System) → IsWellFormed sys.flow → (by : Measure sys.flow) (f g : Family) → AreAscending f → AreAscending g
    → (e : ℕ) → e < length sys.flow.edges → (x : Timed)
    → AgreeBelow sys.flow by f g (sender sys.flow e) (by.measure (receiver sys.flow e) x.at)
    → how_often_timed x (outputs_of sys f (sender sys.flow e)) ≡ how_often_timed x (outputs_of sys g (sender sys.flow e))
outputs-agree sys w by f g a b e l x h = elim (cases_Bool (is_looped sys.flow (receiver sys.flow e))) [
  | inl k ↦ looped-agree sys w by f g e l x h k
  | inr k ↦ unlooped-agree sys w by f g a b e l x h k
]

-- ---- the laws, by the recs at stamps

pub ascending-from_in_order : (xs : List Timed) → in_order xs ≡ xs → IsAscendingTimed xs
ascending-from_in_order xs e = subst IsAscendingTimed e (ascending-in_order xs)

-- the part at a stamp is its recs at the stamp
part-recs : (t : Stamp) (xs : List Timed) → part (same t) xs ≡ timed_recs t (timed_where (same t) xs)
part-recs t [] = refl
part-recs t (x ∷ xs) = step (part-recs t xs) (same t x.at) refl
  where
    step : part (same t) xs ≡ timed_recs t (timed_where (same t) xs) → (b : Bool) → same t x.at ≡ b
        → cond b (x ∷ part (same t) xs) (part (same t) xs) ≡ timed_recs t (map (λ (r : Timed). r.rec) (cond b (x ∷ part (same t) xs) (part (same t) xs)))
    step ih true e =
        let at : Stamp → Timed = λ s. record { at = s; rec = x.rec } in
        ap (λ y. y ∷ part (same t) xs) (sym (ap at (same-is t x.at e))) ∙ ap (λ ys. at t ∷ ys) ih
    step ih false e = ih

how_often-at : (t : Stamp) (xs ys : List Timed) → timed_where (same t) xs ≡ timed_where (same t) ys → (y : Timed) → y.at ≡ t → how_often_timed y xs ≡ how_often_timed y ys
how_often-at t xs ys e y i =
    let same_recs : timed_where (same y.at) xs ≡ timed_where (same y.at) ys =
    ap (λ s. timed_where (same s) xs) i ∙ e ∙ sym (ap (λ s. timed_where (same s) ys) i) in
    how_often-part y xs ys (part-recs y.at xs ∙ ap (timed_recs y.at) same_recs ∙ sym (part-recs y.at ys))

pub recs_decide : RecsAtStampsDecideBag
recs_decide xs ys a b h =
    same_from_how_often xs ys (ascending-from_in_order xs a) (ascending-from_in_order ys b) (λ y. how_often-at y.at xs ys (h y.at) y refl)

pub out_bags-depend : OutBagsDependOnLesserMeasure
out_bags-depend sys f g w by a b e l t h =
    let flow = sys.flow in
    let q = sender flow e in
    let X = outputs_of_kind flow (kind_of flow q) (batches_of sys q) (map f (in_edges flow q)) in
    let Y = outputs_of_kind flow (kind_of flow q) (batches_of sys q) (map g (in_edges flow q)) in
    ap (map (λ (r : Timed). r.rec))
    (parts-agree (same t) (in_order X) (in_order Y) (ascending-in_order X) (ascending-in_order Y)
    (λ y i. outputs-agree sys w by f g (λ d. ascending-from_in_order (f d) (a d)) (λ d. ascending-from_in_order (g d) (b d)) e l y
    (λ d j r z k. how_often-at z.at (f d) (g d)
    (h d j r z.at (let s : by.measure (receiver flow e) t ≡ by.measure (receiver flow e) y.at = ap (by.measure (receiver flow e)) (same-is t y.at i) in omega arith)) z refl)))

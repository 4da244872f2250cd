-- What running a node leads to.
use Rattle.std.proofs.Common.{◌≡◌, ◌≢◌, ℕ, suc, ◌+◌, ◌<◌, ◌≤◌, ◌⊎◌, true, List, [], ◌∷◌, length, get_or, set, map, refl, sym, ap, subst, ◌∙◌, inl, inr, arith}
use Rattle.std.specs.Prelude.{filter}
use Rattle.std.specs.List.{AllByRecursion}
use Rattle.std.proofs.lemmas.List.{get_or-set_same, get_or-set_other, length-set}
use Rattle.std.proofs.lemmas.Bool.{cases_lt}
use Rattle.std.specs.Ordering.{is_eq}
use Rattle.std.specs.Cmp.Lexicographic.{slice_cmp}
use Rattle.fw_lemmas.proofs.Each.{each-mapped}
use Rattle.fw_lemmas.proofs.Orderings.{equal_from_is_eq, slice_cmp-same}
use Rattle.fw_time.specs.Stamp.{Stamp, same}
use Rattle.fw_bag.specs.declared.rec.Rec.{Rec}
use Rattle.fw_flow.specs.Dataflow.{Dataflow, System, kind_of, sender, receiver, in_edges, batches_of, system_of}
use Rattle.fw_flow.specs.KeyParts.{is_carried}
use Rattle.fw_flow.specs.WellFormed.{IsWellFormed, IsWellFormedSystem}
use Rattle.fw_flow.specs.WholeBags.{Timed, timed_cmp, in_order, outputs_of, outputs_of_kind, timed_where}
use Rattle.fw_model.specs.Carried.{carried_timed}
use Rattle.fw_model.specs.Denotation.{Family, IsDenotation, bag_at}
use Rattle.fw_model.specs.Measure.{Measure}
use Rattle.fw_model.proofs.CarriedLaws.{where-carried}
use Rattle.fw_model.proofs.TimedLaws.{each-in_order, in_order-twice, timed_cmp-same}
use Rattle.fw_model.proofs.DependenceLaws.{out_bags-depend}
use Rattle.fw_model.proofs.DenotationLaws.{denotation-in_order}
use Rattle.fw_model.proofs.DenotationDomainLaws.{IsIn, IsOut, outputs-in_domain}
use Rattle.fw_model.proofs.OutputLaws.{At}
use Rattle.fw_denote.specs.Domains.{AreIn, AreOut}
use Rattle.fw_denote.specs.Holding.{AreBagsHeld, AreRight, AreSolvedUpTo, family_held, bag_sent_by}
use Rattle.fw_denote.proofs.DenoteLaws.{held-in_order}
use Rattle.fw_denote.proofs.WholeLaws.{comes_in}

equal_or_not : (p q : ℕ) → (p ≡ q) ⊎ (p ≢ q)
equal_or_not p q = elim (cases_lt p q) [
  | inl a ↦ inr (λ e. omega arith)
  | inr a ↦ elim (cases_lt q p) [ inl b ↦ inr (λ e. omega arith) | inr b ↦ inl (omega arith) ]
]

-- lists that are found equal are the same
pub same_from_cmp : (xs ys : List Timed) → is_eq (slice_cmp timed_cmp xs ys) ≡ true → xs ≡ ys
same_from_cmp xs ys h = slice_cmp-same timed_cmp timed_cmp-same xs ys (equal_from_is_eq (slice_cmp timed_cmp xs ys) h)

-- ---- what is held

set_cases : (P : ℕ → List Timed → Type 0) (bags : List (List Timed)) (p : ℕ) (bag : List Timed) → p < length bags → P p bag
    → ((q : ℕ) → P q (bag_sent_by bags q)) → (q : ℕ) → P q (bag_sent_by (set bags p bag) q)
set_cases P bags p bag l here there q = elim (equal_or_not q p) [
  | inl e ↦
      let found : bag ≡ bag_sent_by (set bags p bag) q = sym (ap (bag_sent_by (set bags p bag)) e ∙ get_or-set_same bags p bag [] l) in
      subst (P q) found (subst (λ i. P i bag) (sym e) here)
  | inr n ↦ subst (P q) (sym (get_or-set_other bags p q bag [] n)) (there q)
]

each-edge : (n : ℕ) (es : List ℕ) (Q : ℕ → Type 0) → ((i d : ℕ) → i < length es → Q (get_or es i d)) → AllByRecursion Q es
each-edge n [] Q h = tt
each-edge n (e ∷ es) Q h = (h 0 0 (omega arith), each-edge n es Q (λ i d l. h (suc i) d (omega arith)))

-- what a node sends is at stamps of its out domain
sent-in_domain : (flow : Dataflow) (batches : List (ℕ × List (List Rec))) → IsWellFormedSystem (system_of flow batches) → (bags : List (List Timed)) → AreBagsHeld flow bags
    → (p : ℕ) → AreOut flow (kind_of flow p) (outputs_of (system_of flow batches) (family_held flow bags) p)
sent-in_domain flow batches w bags h p =
    let sys = system_of flow batches in
    let kind = kind_of flow p in
    let es = in_edges flow p in
    let out = outputs_of_kind flow kind (batches_of sys p) (map (family_held flow bags) es) in
    let few = w.few p in
    each-in_order (At (IsOut flow kind)) out
    (outputs-in_domain flow kind (batches_of sys p) (map (family_held flow bags) es) (omega arith)
    (each-mapped (λ e. AreIn flow kind (family_held flow bags e)) (AllByRecursion (At (IsIn flow kind))) (family_held flow bags) (λ e a. a) es
    (each-edge 0 es (λ e. AreIn flow kind (family_held flow bags e)) (λ i d l. comes_in flow w.flow bags h p kind es i d refl refl l))))

-- another bag for a node is held
pub held_with : (flow : Dataflow) (bags : List (List Timed)) (p : ℕ) (bag : List Timed) → AreBagsHeld flow bags → p < length bags
    → in_order bag ≡ bag → AreOut flow (kind_of flow p) bag → AreBagsHeld flow (set bags p bag)
held_with flow bags p bag h l o a = record {
  one_each = length-set bags p bag ∙ h.one_each;
  in_order = set_cases (λ q rs. in_order rs ≡ rs) bags p bag l o h.in_order;
  in_domain = set_cases (λ q rs. AreOut flow (kind_of flow q) rs) bags p bag l a h.in_domain;
}

pub held_more : (flow : Dataflow) (batches : List (ℕ × List (List Rec))) → IsWellFormedSystem (system_of flow batches) → (bags : List (List Timed)) → AreBagsHeld flow bags
    → (p : ℕ) → p < length flow.nodes → AreBagsHeld flow (set bags p (outputs_of (system_of flow batches) (family_held flow bags) p))
held_more flow batches w bags h p there =
    let sys = system_of flow batches in
    let bag = outputs_of sys (family_held flow bags) p in
    let l : p < length bags = let n = h.one_each in omega arith in
    record {
      one_each = length-set bags p bag ∙ h.one_each;
      in_order = set_cases (λ q rs. in_order rs ≡ rs) bags p bag l (in_order-twice (outputs_of_kind flow (kind_of flow p) (batches_of sys p) (map (family_held flow bags) (in_edges flow p)))) h.in_order;
      in_domain = set_cases (λ q rs. AreOut flow (kind_of flow q) rs) bags p bag l (sent-in_domain flow batches w bags h p) h.in_domain;
    }

-- ---- what is solved

pub solved_more : (sys : System) (bags new : List (List Timed)) (p : ℕ) → new ≡ set bags p (outputs_of sys (family_held sys.flow bags) p) → new ≡ bags → p < length bags
    → AreSolvedUpTo sys p bags → AreSolvedUpTo sys (p + 1) new
solved_more sys bags new p e same there h q l =
    subst (λ (bs : List (List Timed)). bag_sent_by bs q ≡ outputs_of sys (family_held sys.flow bs) q) (sym same)
    (elim (equal_or_not q p) [
      | inl i ↦
          let out = outputs_of sys (family_held sys.flow bags) p in
          ap (bag_sent_by bags) i ∙ ap (λ (bs : List (List Timed)). bag_sent_by bs p) (sym same ∙ e) ∙ get_or-set_same bags p out [] there
          ∙ ap (outputs_of sys (family_held sys.flow bags)) (sym i)
      | inr n ↦ h q (omega arith)
    ])

-- ---- what is right

right-sent : (sys : System) → IsWellFormed sys.flow → (by : Measure sys.flow) (family : Family) → IsDenotation sys family → (bags : List (List Timed)) → AreBagsHeld sys.flow bags
    → (p m : ℕ) → AreRight sys.flow by family p m bags → (e : ℕ) → e < length sys.flow.edges → sender sys.flow e ≡ p → (t : Stamp)
    → by.measure (receiver sys.flow e) t < m + 1 → timed_where (same t) (carried_timed sys.flow e (outputs_of sys (family_held sys.flow bags) p)) ≡ bag_at family e t
right-sent sys w by family d bags h p m a e l i t k =
    let flow = sys.flow in
    ap (λ q. timed_where (same t) (carried_timed flow e (outputs_of sys (family_held flow bags) q))) (sym i)
    ∙ where-carried flow e (same t) (outputs_of sys (family_held flow bags) (sender flow e))
    ∙ ap (filter (is_carried flow e)) (out_bags-depend sys (family_held flow bags) family w by (held-in_order flow bags h) (λ x. denotation-in_order sys family d x) e l t
    (λ x xl r s j. a.each x xl s (let z : by.measure (receiver flow x) s ≡ by.measure (sender flow e) s = ap (λ q. by.measure q s) r in omega arith)))
    ∙ sym (ap (timed_where (same t)) (d e) ∙ where-carried flow e (same t) (outputs_of sys family (sender flow e)))

pub right_more : (sys : System) → IsWellFormed sys.flow → (by : Measure sys.flow) (family : Family) → IsDenotation sys family → (bags : List (List Timed)) → AreBagsHeld sys.flow bags
    → (p m : ℕ) → p < length sys.flow.nodes → AreRight sys.flow by family p m bags
    → AreRight sys.flow by family (p + 1) m (set bags p (outputs_of sys (family_held sys.flow bags) p))
right_more sys w by family d bags h p m there a =
    let out = outputs_of sys (family_held sys.flow bags) p in
    let l : p < length bags = let n = h.one_each in omega arith in
    let moved : (e : ℕ) (t : Stamp) → sender sys.flow e ≡ p → bag_at (family_held sys.flow (set bags p out)) e t ≡ timed_where (same t) (carried_timed sys.flow e out) =
    λ e t i. ap (λ rs. timed_where (same t) (carried_timed sys.flow e rs)) (ap (bag_sent_by (set bags p out)) i ∙ get_or-set_same bags p out [] l) in
    let kept : (e : ℕ) (t : Stamp) → sender sys.flow e ≢ p → bag_at (family_held sys.flow (set bags p out)) e t ≡ bag_at (family_held sys.flow bags) e t =
    λ e t n. ap (λ rs. timed_where (same t) (carried_timed sys.flow e rs)) (get_or-set_other bags p (sender sys.flow e) out [] n) in
    record {
      each = λ e el t k. elim (equal_or_not (sender sys.flow e) p) [
        | inl i ↦ moved e t i ∙ right-sent sys w by family d bags h p m a e el i t (omega arith)
        | inr n ↦ kept e t n ∙ a.each e el t k
      ];
      first = λ e el s t k. elim (equal_or_not (sender sys.flow e) p) [
        | inl i ↦ moved e t i ∙ right-sent sys w by family d bags h p m a e el i t k
        | inr n ↦ kept e t n ∙ a.first e el (omega arith) t k
      ];
    }

pub right_next : (sys : System) → IsWellFormed sys.flow → (by : Measure sys.flow) (family : Family) (n m : ℕ) (bags : List (List Timed)) → length sys.flow.nodes ≤ n
    → AreRight sys.flow by family n m bags → AreRight sys.flow by family 0 (m + 1) bags
right_next sys w by family n m bags l a = record {
  each = λ e el t k. let s = w.senders_declared e el in a.first e el (omega arith) t k;
  first = λ e el s t k. absurd (omega arith);
}

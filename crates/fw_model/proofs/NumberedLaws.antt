-- On numbered edges the denotation has one rec at each number, without a gap.
use Rattle.std.proofs.Common.{◌≡◌, ◌&&◌, ℕ, zero, suc, ◌+◌, ◌<◌, nat_le, true, false, List, [], ◌∷◌, length, map, refl, sym, ap, subst, ◌∙◌, inl, inr, append-nil, arith}
use Rattle.std.proofs.lemmas.Bool.{cond_both, cases_lt}
use Rattle.std.specs.List.{AllByRecursion}
use Rattle.std.specs.Ordering.{ordering_then, is_gt}
use Rattle.std.specs.declared.cmp.Ordering.TheVariants.{Less, Equal}
use Rattle.fw_lemmas.proofs.Orderings.{nat_cmp-less}
use Rattle.fw_bag.specs.declared.rec.Rec.{Rec}
use Rattle.fw_bag.specs.Rec.{rec_cmp}
use Rattle.fw_time.specs.Stamp.{stamp_cmp}
use Rattle.fw_flow.specs.declared.kind.Domain.{Domain}
use Rattle.fw_flow.specs.declared.kind.Domain.TheVariants.{Epoch, Number, Loop as InLoop}
use Rattle.fw_flow.specs.Kind.{Kind}
use Rattle.fw_flow.specs.declared.kind.Kind.TheVariants.{OutputNumber, Ledger}
use Rattle.fw_flow.specs.Dataflow.{System, is_loop, kind_of, sender, receiver, in_edges, batches_of, greatest_number, domain_of, out_domain_of, domain_of_kind, is_of_numbers, is_numbered}
use Rattle.fw_flow.specs.WellFormed.{IsWellFormed, IsInDegree}
use Rattle.fw_flow.specs.WholeBags.{Timed, timed_cmp, in_order, numbered_recs, running_totals, joint_bag, outputs_of, outputs_of_kind}
use Rattle.fw_model.specs.Carried.{carried_timed}
use Rattle.fw_model.specs.Denotation.{Family, IsDenotation, AreNumberedFrom}
use Rattle.fw_model.specs.LawsOfDenotation.{DenotationIsNumbered}
use Rattle.fw_model.proofs.KindSorts.{sends_numbers}
use Rattle.fw_model.proofs.LegalLaws.{edge_domains}
use Rattle.fw_model.proofs.TimedLaws.{IsAscendingTimed, ascending-cons, ascending-nil, in_order-ascending}
use Rattle.fw_model.proofs.MeasureLaws.{measure-exists}
use Rattle.fw_model.proofs.DependenceLaws.{in_edges-each}
use Rattle.fw_model.proofs.CarriedLaws.{carried_timed-none, carried_timed-numbered}
use Rattle.fw_model.proofs.DenotationLaws.{past-outputs}
use Rattle.fw_model.specs.Measure.{Measure}

-- ---- numbered lists

timed_cmp-less : (x y : Timed) (n k : ℕ) → x.at ≡ n ∷ [] → y.at ≡ k ∷ [] → n < k → timed_cmp x y ≡ Less
timed_cmp-less x y n k i j h =
    let stamps : stamp_cmp x.at y.at ≡ Less =
    ap (λ s. stamp_cmp s y.at) i ∙ ap (λ s. stamp_cmp (n ∷ []) s) j ∙ ap (λ o. ordering_then o Equal) (nat_cmp-less n k h) in
    ap (λ o. ordering_then o (rec_cmp x.rec y.rec)) stamps

numbered-above : (x : Timed) (n k : ℕ) → x.at ≡ n ∷ [] → n < k → (xs : List Timed) → AreNumberedFrom k xs → AllByRecursion (λ y. is_gt (timed_cmp x y) ≡ false) xs
numbered-above x n k i h [] a = tt
numbered-above x n k i h (y ∷ ys) a = (ap is_gt (timed_cmp-less x y n k i a.0 h), numbered-above x n (k + 1) i (omega arith) ys a.1)

numbered-ascending : (n : ℕ) (xs : List Timed) → AreNumberedFrom n xs → IsAscendingTimed xs
numbered-ascending n [] a = ascending-nil
numbered-ascending n (x ∷ xs) a = ascending-cons x xs (numbered-above x n (n + 1) a.0 (omega arith) xs a.1) (numbered-ascending (n + 1) xs a.1)

-- what is numbered is in order
numbered-in_order : (n : ℕ) (xs : List Timed) → AreNumberedFrom n xs → AreNumberedFrom n (in_order xs)
numbered-in_order n xs a = subst (AreNumberedFrom n) (sym (in_order-ascending xs (numbered-ascending n xs a))) a

numbered-are : (n : ℕ) (rs : List Timed) → AreNumberedFrom n (numbered_recs n rs)
numbered-are n [] = tt
numbered-are n (r ∷ rs) =
    cond_both (nat_le n greatest_number) (record { at = n ∷ []; rec = r.rec } ∷ numbered_recs (n + 1) rs) [] (AreNumberedFrom n)
    (λ e. (refl, numbered-are (n + 1) rs)) (λ e. tt)

numbered-map : (n : ℕ) (g : Timed → Rec) (rs : List Timed) → AreNumberedFrom n rs → AreNumberedFrom n (map (λ (r : Timed). record { at = r.at; rec = g r }) rs)
numbered-map n g [] a = tt
numbered-map n g (r ∷ rs) a = (a.0, numbered-map (n + 1) g rs a.1)

-- ---- the senders of numbered edges

number-no_loop : (d e : Domain) → is_of_numbers d ≡ true → (is_loop d && is_loop e) ≡ false
number-no_loop Epoch e k = refl
number-no_loop Number e k = refl
number-no_loop (InLoop l) e k = absurd (cc)

the_one : {A : Type 0} (P : A → Type 0) (xs : List A) → length xs ≡ 1 → AllByRecursion P xs → (x : A) × (xs ≡ x ∷ []) × P x
the_one P [] l a = absurd (omega arith)
the_one P (x ∷ []) l a = (x, refl, a.0)
the_one P (x ∷ y ∷ xs) l a = absurd (omega arith)

-- ---- the law

numbered-by_measure : (sys : System) (family : Family) → IsWellFormed sys.flow → (by : Measure sys.flow) → IsDenotation sys family
    → (m e : ℕ) → e < length sys.flow.edges → is_numbered sys.flow e ≡ true → by.measure (receiver sys.flow e) [] < m → AreNumberedFrom 0 (family e)
numbered-by_measure sys family w by d zero e l k h = absurd (omega arith)
numbered-by_measure sys family w by d (suc m) e l k h =
    let flow = sys.flow in
    let q = sender flow e in
    let out : Kind → List (List Timed) → List Timed = λ kind bags. in_order (outputs_of_kind flow kind (batches_of sys q) bags) in
    let here : family e ≡ out (kind_of flow q) (map family (in_edges flow q)) = d e ∙ carried_timed-numbered flow e k (outputs_of sys family q) in
    let whose : (kind : Kind) → kind_of flow q ≡ kind → AreNumberedFrom 0 (out kind (map family (in_edges flow q))) → AreNumberedFrom 0 (family e) =
    λ kind is a. subst (AreNumberedFrom 0) (sym (here ∙ ap (λ kd. out kd (map family (in_edges flow q))) is)) a in
    elim (sends_numbers flow (kind_of flow q) (ap is_of_numbers (edge_domains flow w e) ∙ k)) [
      | inl (inl is) ↦ whose _ is (numbered-in_order 0 _ (numbered-are 0 (in_order (joint_bag (map family (in_edges flow q))))))
      | inl (inr is) ↦
          let one : length (in_edges flow q) ≡ 1 = subst (λ kind. IsInDegree kind (length (in_edges flow q))) is (w.in_degrees q (w.senders_declared e l)) in
          let c = the_one (λ i. (i < length flow.edges) × (receiver flow i ≡ q)) (in_edges flow q) one (in_edges-each flow q) in
          let i = c.0 in
          let at_number : is_numbered flow i ≡ true =
          ap (λ p. is_of_numbers (domain_of flow p)) (c.2).1 ∙ ap (λ kind. is_of_numbers (domain_of_kind flow kind)) is in
          let less = by.into_unlooped e l (number-no_loop (domain_of flow (receiver flow e)) (out_domain_of flow (receiver flow e)) k) [] [] in
          let same : by.measure (receiver flow i) [] ≡ by.measure q [] = ap (λ p. by.measure p []) (c.2).1 in
          let before = numbered-by_measure sys family w by d m i (c.2).0 at_number (omega arith) in
          let only : joint_bag (map family (in_edges flow q)) ≡ family i = ap (λ ds. joint_bag (map family ds)) c.1 ∙ append-nil (family i) in
          whose Ledger is (subst (λ rs. AreNumberedFrom 0 (in_order (running_totals rs))) (sym only)
          (numbered-in_order 0 (running_totals (family i)) (numbered-map 0 _ (family i) before)))
      | inr is ↦ whose OutputNumber is tt
    ]

pub denotation-numbered : DenotationIsNumbered
denotation-numbered sys family w d e k = elim (cases_lt e (length sys.flow.edges)) [
  | inl l ↦
      let by = measure-exists sys.flow w in
      numbered-by_measure sys family w by d (suc (by.measure (receiver sys.flow e) [])) e l k (omega arith)
  | inr l ↦ subst (AreNumberedFrom 0) (sym (d e ∙ ap (carried_timed sys.flow e) (past-outputs sys family e l) ∙ carried_timed-none sys.flow e)) tt
]

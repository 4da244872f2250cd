-- What settles, node after node.
use Rattle.std.proofs.Common.{◌≡◌, ◌≢◌, ℕ, zero, suc, ◌+◌, ◌-◌, ◌<◌, ◌≤◌, Bool, true, false, not, ◌&&◌, ◌||◌, ◌==◌, List, [], length, get_or, refl, sym, ap, subst, ◌∙◌, inl, inr, arith}
use Rattle.std.specs.Prelude.{Some, nat_lt}
use Rattle.std.proofs.lemmas.Bool.{and_from, both_ways, cases_Bool, cases_eq, cases_lt, eq-eqb, lt-ltb, ne_eqb}
use Rattle.std.proofs.lemmas.Bool.Decides.{nat_tests}
use Rattle.std.proofs.lemmas.List.{get_or_past, get_or-set_other, get_or-set_same}
use Rattle.fw_lemmas.proofs.Bools.{first_holds, second_holds}
use Rattle.fw_frontier.specs.Front.{Front}
use Rattle.fw_flow.specs.Dataflow.{Dataflow, policy_of, node_frontier}
use Rattle.fw_model.specs.Machine.{front_of}
use Rattle.fw_model.specs.Writes.{takes_checkpoints}
use Rattle.fw_progress.specs.declared.traces.Traces.{Traces}
use Rattle.fw_progress.specs.Settle.{has_more, IsGrownAt, AreGrownBefore}
use Rattle.fw_progress.specs.Trace.{AreSettledTo, IsTraceWithin, IsTraceIf}
use Rattle.fw_progress.proofs.CutTraceLaws.{thinned-traces}
use Rattle.fw_progress.proofs.SettleLaws.{none_settled-first, others-settle_nothing, one_more-settles}
use Rattle.fw_stands.specs.Settling.{AreSettledAt}
use Rattle.fw_stands.proofs.SettlingLaws.{none-settled_yet, one_more-settled, same_nodes-settled}
use Rattle.fw_rollback.specs.Tables.{table_at}
use Rattle.fw_running.specs.declared.running.Running.{Running}
use Rattle.fw_running.specs.Kept.{table_of}
use Rattle.fw_running.specs.Shaped.{IsShaped}
use Rattle.fw_settle.specs.Settling.{grows, NoneGrowsIn, settled_into, ChangesSettled, IsTableSettled, settles_when_asked, settles_table, SettlesTo, SettlesNothing, SettlesKept, settles_traces, HaveSettled}

-- ---- which nodes

-- past a place that is to settle, or up to which none is
pub none-joined : (running : Running) (from mid until : ℕ) → NoneGrowsIn running from mid → NoneGrowsIn running mid until → NoneGrowsIn running from until
none-joined running from mid until a b = λ p l m. elim (cases_lt p mid) [
  | inl k ↦ a p l k
  | inr k ↦ b p k m
]

pub none-empty : (running : Running) (from : ℕ) → NoneGrowsIn running from from
none-empty running from = λ p l m. absurd (omega (arith, l, m))

-- one node more
pub none-more : (running : Running) (from p : ℕ) → NoneGrowsIn running from p → grows running p ≡ false → NoneGrowsIn running from (p + 1)
none-more running from p a isnt = λ q l m. elim (cases_lt q p) [
  | inl k ↦ a q l k
  | inr k ↦ subst (λ n. grows running n ≡ false) (let e : p ≡ q = omega (arith, k, m) in e) isnt
]

-- past the last node none is
pub past-grows : (running : Running) → IsShaped running → (p : ℕ) → length running.flow.nodes ≤ p → grows running p ≡ false
past-grows running shaped p l =
    let each = shaped.progress.settled_each in
    ap (λ f. not (get_or running.failed.items p false) && has_more (front_of running.progress.kept p) f)
    (get_or_past running.progress.settled p [] (omega (arith, l, each)))
    ∙ isnt (not (get_or running.failed.items p false))
  where
    isnt : (b : Bool) → (b && false) ≡ false
    isnt true = refl
    isnt false = refl

-- ---- fronts of other nodes

-- traces that are settled to fronts are settled to other ones that are the same where a node settles
pub other-fronts : (flow : Dataflow) (test : ℕ → Bool) (fronts other : List Front) (old new : Traces) → AreSettledAt flow test fronts old new
    → ((p : ℕ) → test p ≡ true → front_of other p ≡ front_of fronts p) → AreSettledAt flow test other old new
other-fronts flow test fronts other old new a same = record {
  here = λ p i whole sys h e d t.
      let P : Front → Type 0 = λ f. IsTraceWithin whole sys h p f old → IsTraceIf whole sys h p (node_frontier flow p f) new in
      subst P (sym (same p i)) (a.here p i whole sys h e d) t;
  others = a.others;
}

-- ---- node after node

-- the nodes that settle their traces, one node later
later-test : (running : Running) (p : ℕ) → (grows running p && takes_checkpoints (policy_of running.flow p)) ≡ false → (q : ℕ)
    → settles_traces running (p + 1) q ≡ settles_traces running p q
later-test running p isnt q = elim (cases_eq q p) [
  | inl same ↦
      let none : (n : ℕ) → settles_traces running n q ≡ false =
      λ n. ap (λ b. nat_lt q n && b) (ap (λ x. grows running x && takes_checkpoints (policy_of running.flow x)) same ∙ isnt) ∙ and-no (nat_lt q n) in
      none (p + 1) ∙ sym (none p)
  | inr other ↦ ap (λ b. b && (grows running q && takes_checkpoints (policy_of running.flow q))) (past q p other)
]
  where
    and-no : (b : Bool) → (b && false) ≡ false
    and-no true = refl
    and-no false = refl

    past : (q p : ℕ) → q ≢ p → nat_lt q (p + 1) ≡ nat_lt q p
    past q p n = grind (arith, nat_tests)

one-test : (running : Running) (p : ℕ) → (grows running p && takes_checkpoints (policy_of running.flow p)) ≡ true → (q : ℕ)
    → settles_traces running (p + 1) q ≡ ((q == p) || settles_traces running p q)
one-test running p is q = elim (cases_eq q p) [
  | inl same ↦
      and_from (nat_lt q (p + 1)) (grows running q && takes_checkpoints (policy_of running.flow q)) (lt-ltb q (p + 1) (omega (arith, same)))
      (ap (λ x. grows running x && takes_checkpoints (policy_of running.flow x)) same ∙ is)
      ∙ sym (ap (λ b. b || settles_traces running p q) (eq-eqb q p same))
  | inr other ↦
      ap (λ b. b && (grows running q && takes_checkpoints (policy_of running.flow q))) (past q p other)
      ∙ sym (ap (λ b. b || settles_traces running p q) (ne_eqb q p other))
]
  where
    past : (q p : ℕ) → q ≢ p → nat_lt q (p + 1) ≡ nat_lt q p
    past q p n = grind (arith, nat_tests)

-- a node of its own place is not among those before
own-test : (running : Running) (p : ℕ) → settles_traces running p p ≡ false
own-test running p = ap (λ b. b && (grows running p && takes_checkpoints (policy_of running.flow p))) (not-below p)
  where
    not-below : (p : ℕ) → nat_lt p p ≡ false
    not-below p = grind (arith, nat_tests)

pub settled-none : (old : Running) → HaveSettled 0 old old
settled-none old = record {
  settled = none_settled-first old.flow old.failed.items old.progress.settled old.progress.kept;
  tables = λ p l g. absurd (omega (arith, l));
  other_tables = λ p n. refl;
  traces = same_nodes-settled old.flow (λ p. false) (settles_traces old 0) (λ p. ap (λ b. b && (grows old p && takes_checkpoints (policy_of old.flow p))) (below-zero p)) old.progress.settled old.traces old.traces
      (none-settled_yet old.flow old.progress.settled old.traces);
}
  where
    below-zero : (p : ℕ) → nat_lt p 0 ≡ false
    below-zero p = grind (arith, nat_tests)

-- where none up to the next place is to settle
settled-skip : (old new : Running) (p : ℕ) → HaveSettled p old new → grows old p ≡ false → HaveSettled (p + 1) old new
settled-skip old new p h isnt = record {
  settled = others-settle_nothing old.flow old.failed.items old.progress.settled old.progress.kept new.progress.settled p (p + 1) (omega arith)
      (none-more old p p (none-empty old p) isnt) h.settled;
  tables = λ q l g. elim (cases_lt q p) [
    | inl k ↦ h.tables q k g
    | inr k ↦
        absurd (both_ways (grows old q) (subst (λ n. grows old n ≡ false) (let e : p ≡ q = omega (arith, k, l) in e) isnt)
        (first_holds (grows old q) (not (settles_when_asked old.flow q)) g))
  ];
  other_tables = λ q n. h.other_tables q (λ l. n (omega arith));
  traces = same_nodes-settled old.flow (settles_traces old p) (settles_traces old (p + 1))
      (later-test old p (ap (λ b. b && takes_checkpoints (policy_of old.flow p)) isnt)) new.progress.settled old.traces new.traces h.traces;
}

pub settled-past : (old new : Running) (place later : ℕ) → HaveSettled place old new → place ≤ later → NoneGrowsIn old place later → HaveSettled later old new
settled-past old new place later h o none =
    subst (λ n. HaveSettled n old new) (let e : place + (later - place) ≡ later = omega (arith, o) in e)
    (go (later - place) (λ p l m. none p l (omega (arith, m, o))))
  where
    go : (k : ℕ) → NoneGrowsIn old place (place + k) → HaveSettled (place + k) old new
    go zero n = subst (λ m. HaveSettled m old new) (let e : place ≡ place + 0 = omega arith in e) h
    go (suc k) n =
        subst (λ m. HaveSettled m old new) (let e : (place + k) + 1 ≡ place + suc k = omega arith in e)
        (settled-skip old new (place + k) (go k (λ p l m. n p l (omega (arith, m)))) (n (place + k) (omega arith) (omega arith)))

live-is : (failed more : Bool) → failed ≡ false → (not failed && more) ≡ more
live-is failed more e = ap (λ b. not b && more) e

-- the next node settles, and is to
settled-one : (old mid new : Running) (p : ℕ) (f : Front) → HaveSettled p old mid → ChangesSettled old mid → p < length old.progress.settled
    → get_or old.failed.items p false ≡ false → IsGrownAt old.flow mid.progress.settled old.progress.kept p (Some f)
    → SettlesTo p f mid new → mid.flow ≡ old.flow → HaveSettled (p + 1) old new
settled-one old mid new p f h c there live grown s same =
    let flow = old.flow in
    let before = mid.progress.settled in
    let one = h.settled.one_each in
    let unsettled : front_of before p ≡ front_of old.progress.settled p = h.settled.others p (λ l. absurd (omega (arith, l))) in
    let more : has_more (front_of old.progress.kept p) (front_of old.progress.settled p) ≡ true =
    ap (has_more (front_of old.progress.kept p)) (sym unsettled) ∙ grown.0 in
    let is : grows old p ≡ true = live-is (get_or old.failed.items p false) (has_more (front_of old.progress.kept p) (front_of old.progress.settled p)) live ∙ more in
    let here : front_of new.progress.settled p ≡ f =
    ap (λ fs. front_of fs p) s.settled ∙ get_or-set_same before p f [] (omega (arith, there, one)) in
    let apart : (q : ℕ) → q ≢ p → front_of new.progress.settled q ≡ front_of before q =
    λ q n. ap (λ fs. front_of fs q) s.settled ∙ get_or-set_other before p q f [] n in
    let table_before : table_of mid p ≡ table_of old p = h.other_tables p (λ l. absurd (omega (arith, l))) in
    let others : (q : ℕ) → q ≢ p → table_of new q ≡ table_of mid q = λ q n. elim (cases_Bool (not (settles_when_asked mid.flow p))) [
      | inl k ↦ (s.table.settles k).others q n
      | inr k ↦ ap (λ ts. table_at ts q) (s.table.stays k)
    ] in
    let traces_before = other-fronts flow (settles_traces old p) before new.progress.settled old.traces mid.traces h.traces
    (λ q i. apart q (λ e. both_ways (settles_traces old p q) (ap (settles_traces old p) e ∙ own-test old p) i)) in
    record {
      settled = subst (λ fs. AreGrownBefore flow old.failed.items old.progress.settled old.progress.kept fs (p + 1)) (sym s.settled)
          (one_more-settles flow old.failed.items old.progress.settled old.progress.kept before p p f (omega arith) there (none-empty old p) live grown h.settled);
      tables = λ q l g. elim (cases_eq q p) [
        | inl e ↦
            subst (λ n. IsTableSettled flow n (front_of new.progress.settled n) (table_of old n) (table_of new n)) (sym e)
            (subst (λ x. IsTableSettled flow p x (table_of old p) (table_of new p)) (sym here)
            (subst (λ t. IsTableSettled flow p f t (table_of new p)) table_before
            (subst (λ w. IsTableSettled w p f (table_of mid p) (table_of new p)) same
            (s.table.settles (ap (λ w. not (settles_when_asked w p)) same ∙ ap (λ k. not (settles_when_asked flow k)) (sym e)
            ∙ second_holds (grows old q) (not (settles_when_asked flow q)) g)).here)))
        | inr n ↦
            subst (λ x. IsTableSettled flow q x (table_of old q) (table_of new q)) (sym (apart q n))
            (subst (IsTableSettled flow q (front_of before q) (table_of old q)) (sym (others q n)) (h.tables q (omega (arith, l, n)) g))
      ];
      other_tables = λ q n. elim (cases_eq q p) [
        | inl e ↦
            let waits : not (settles_when_asked mid.flow p) ≡ false =
            ap (λ w. not (settles_when_asked w p)) same ∙ sym (ap (λ b. b && not (settles_when_asked flow p)) is) ∙ ap (settles_table old) (sym e) ∙ n (omega (arith, e)) in
            ap (λ k. table_of new k) e ∙ ap (λ ts. table_at ts p) (s.table.stays waits) ∙ table_before ∙ ap (λ k. table_of old k) (sym e)
        | inr d ↦ others q d ∙ h.other_tables q (λ l. n (omega (arith, l)))
      ];
      traces = elim (cases_Bool (takes_checkpoints (policy_of flow p))) [
        | inl takes ↦
            same_nodes-settled flow (λ q. (q == p) || settles_traces old p q) (settles_traces old (p + 1))
            (one-test old p (and_from (grows old p) (takes_checkpoints (policy_of flow p)) is takes)) new.progress.settled old.traces new.traces
            (one_more-settled flow (settles_traces old p) new.progress.settled old.traces mid.traces new.traces traces_before p (own-test old p)
            (subst (λ x. AreSettledTo flow p x mid.traces new.traces) (sym here)
            (subst (λ w. AreSettledTo w p f mid.traces new.traces) same
            (thinned-traces mid.flow p f mid.traces new.traces (s.traces.takes (ap (λ w. takes_checkpoints (policy_of w p)) same ∙ takes))))))
        | inr isnt ↦
            same_nodes-settled flow (settles_traces old p) (settles_traces old (p + 1))
            (later-test old p (ap (λ b. grows old p && b) isnt ∙ and-no (grows old p))) new.progress.settled old.traces new.traces
            (subst (λ t. AreSettledAt flow (settles_traces old p) new.progress.settled old.traces t)
            (sym (s.traces.other (ap (λ w. takes_checkpoints (policy_of w p)) same ∙ isnt))) traces_before)
      ];
    }
  where
    and-no : (b : Bool) → (b && false) ≡ false
    and-no true = refl
    and-no false = refl

-- the next node settles nothing, and is not to
settled-same : (old mid new : Running) (p : ℕ) → HaveSettled p old mid → grows old p ≡ false → SettlesNothing mid new → HaveSettled (p + 1) old new
settled-same old mid new p h isnt s =
    let next = settled-skip old mid p h isnt in
    record {
      settled = subst (λ fs. AreGrownBefore old.flow old.failed.items old.progress.settled old.progress.kept fs (p + 1)) (sym s.settled) next.settled;
      tables = λ q l g. subst (λ fs. IsTableSettled old.flow q (front_of fs q) (table_of old q) (table_of new q)) (sym s.settled)
          (subst (λ ts. IsTableSettled old.flow q (front_of mid.progress.settled q) (table_of old q) (table_at ts q)) (sym s.tables) (next.tables q l g));
      other_tables = λ q n. ap (λ ts. table_at ts q) s.tables ∙ next.other_tables q n;
      traces = subst (λ fs. AreSettledAt old.flow (settles_traces old (p + 1)) fs old.traces new.traces) (sym s.settled)
          (subst (λ t. AreSettledAt old.flow (settles_traces old (p + 1)) mid.progress.settled old.traces t) (sym s.traces) next.traces);
    }

-- the next node that is not failed settles what is kept of it
pub settled-next : (old mid new : Running) (p : ℕ) → HaveSettled p old mid → ChangesSettled old mid → p < length old.progress.settled
    → get_or old.failed.items p false ≡ false → SettlesKept p mid new → HaveSettled (p + 1) old new
settled-next old mid new p h c there live s =
    let same : mid.flow ≡ old.flow = ap (λ (r : Running). r.flow) c in
    let kept : mid.progress.kept ≡ old.progress.kept = ap (λ (r : Running). r.progress.kept) c in
    let unsettled : front_of mid.progress.settled p ≡ front_of old.progress.settled p = h.settled.others p (λ l. absurd (omega (arith, l))) in
    let alike : has_more (front_of mid.progress.kept p) (front_of mid.progress.settled p) ≡ has_more (front_of old.progress.kept p) (front_of old.progress.settled p) =
    ap (λ fs. has_more (front_of fs p) (front_of mid.progress.settled p)) kept ∙ ap (has_more (front_of old.progress.kept p)) unsettled in
    elim (cases_Bool (has_more (front_of mid.progress.kept p) (front_of mid.progress.settled p))) [
      | inl more ↦
          let t = s.more more in
          settled-one old mid new p t.0 h c there live
          (subst (λ fs. IsGrownAt old.flow mid.progress.settled fs p (Some t.0)) kept (subst (λ w. IsGrownAt w mid.progress.settled mid.progress.kept p (Some t.0)) same t.1))
          t.2 same
      | inr none ↦
          settled-same old mid new p h
          (live-is (get_or old.failed.items p false) (has_more (front_of old.progress.kept p) (front_of old.progress.settled p)) live ∙ sym alike ∙ none)
          (s.none none)
    ]

-- ---- changes of settling

pub changes-none : (old : Running) → ChangesSettled old old
changes-none old = refl

pub changes-both : (old mid new : Running) → ChangesSettled old mid → ChangesSettled mid new → ChangesSettled old new
changes-both old mid new a b = b ∙ ap (settled_into new) a

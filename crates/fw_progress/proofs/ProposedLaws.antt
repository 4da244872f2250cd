-- The frontiers that a leap proposes are the largest low family.
use Rattle.std.proofs.Common.{◌≡◌, ◌↔◌, ◌⊎◌, ℕ, zero, suc, ◌+◌, ◌<◌, ◌≤◌, Bool, true, false, ◌||◌, List, [], ◌∷◌, ◌++◌, length, get_or, set, refl, sym, ap, subst, ◌∙◌, inl, inr, arith}
use Rattle.std.proofs.lemmas.Bool.{and_from, cases_eq, cases_lt, both_ways}
use Rattle.std.proofs.lemmas.List.{length-set}
use Rattle.fw_lemmas.proofs.Lists.{read_at}
use Rattle.fw_time.specs.Stamp.{in_domain}
use Rattle.fw_time.specs.declared.stamp.Bounds.{Bounds}
use Rattle.fw_frontier.specs.Frontier.{Within}
use Rattle.fw_frontier.specs.Front.{Front, inside, frontier_of, IsCanonical, IsFrontOf}
use Rattle.fw_frontier.proofs.NamesLaws.{frontier-closed}
use Rattle.fw_flow.specs.Dataflow.{Dataflow, bounds_of, node_frontier}
use Rattle.fw_model.specs.Machine.{front_of, family_of}
use Rattle.fw_progress.specs.declared.counts.Counts.{Counts}
use Rattle.fw_progress.specs.Counts.{target_by}
use Rattle.fw_progress.specs.Leap.{is_node_marked, AreRaisedAtMarks, AreRaisedUpTo, IsLoweredAt, StaysLow, AreLoweredInTurn, AreLoweredBefore, IsPass, IsLastPass, ArePasses, AreLeftBy, AreProposed, AreNoneProposed, AreLoweredSoFar, AreOnTheWay}
use Rattle.fw_progress.proofs.TargetLaws.{target-monotone}
use Rattle.fw_progress.proofs.GrowLaws.{front_old, family_new, family_old}
use Rattle.fw_progress.proofs.StartLaws.{past-all}

-- ---- the marked nodes are raised

pushed-old : (fronts : List Front) (f : Front) (q : ℕ) → q < length fronts → front_of (fronts ++ f ∷ []) q ≡ front_of fronts q
pushed-old [] f q l = absurd (omega (arith, l))
pushed-old (x ∷ fronts) f zero l = refl
pushed-old (x ∷ fronts) f (suc q) l = pushed-old fronts f q (omega (arith, l))

pushed-new : (fronts : List Front) (f : Front) → front_of (fronts ++ f ∷ []) (length fronts) ≡ f
pushed-new [] f = refl
pushed-new (x ∷ fronts) f = pushed-new fronts f

-- one front more, with all stamps or as it was
pub one_raised : (marks : List Bool) (p : ℕ) (m : Bool) (f : Front) (fronts old new : List Front) → m ≡ is_node_marked marks p → length old ≡ p
    → ((m ≡ true) × (f ≡ [])) ⊎ ((m ≡ false) × (f ≡ front_of fronts p)) → new ≡ old ++ f ∷ [] → AreRaisedUpTo marks p fronts old → AreRaisedUpTo marks (p + 1) fronts new
one_raised marks p m f fronts old new is at what to before =
    let here : front_of new p ≡ f = ap (λ fs. front_of fs p) to ∙ ap (front_of (old ++ f ∷ [])) (sym at) ∙ pushed-new old f in
    let there : (q : ℕ) → q < p → front_of new q ≡ front_of old q = λ q l. ap (λ fs. front_of fs q) to ∙ pushed-old old f q (omega (arith, l, at)) in
    record {
      marked = λ q l k. elim (cases_eq q p) [
        | inl s ↦ elim (what) [
          | inl all ↦ ap (front_of new) s ∙ here ∙ all.1
          | inr same ↦ absurd (both_ways (is_node_marked marks p) (sym is ∙ same.0) (ap (is_node_marked marks) (sym s) ∙ k))
        ]
        | inr s ↦ there q (omega (arith, l, s)) ∙ before.marked q (omega (arith, l, s)) k
      ];
      others = λ q l k. elim (cases_eq q p) [
        | inl s ↦ elim (what) [
          | inl all ↦ absurd (both_ways (is_node_marked marks p) (ap (is_node_marked marks) (sym s) ∙ k) (sym is ∙ all.0))
          | inr same ↦ ap (front_of new) s ∙ here ∙ same.1 ∙ ap (front_of fronts) (sym s)
        ]
        | inr s ↦ there q (omega (arith, l, s)) ∙ before.others q (omega (arith, l, s)) k
      ];
    }

pub all_raised : (flow : Dataflow) (marks : List Bool) (n : ℕ) (old new : List Front) → length new ≡ length flow.nodes → n ≡ length flow.nodes → AreRaisedUpTo marks n old new → AreRaisedAtMarks flow marks old new
all_raised flow marks n old new one e before = record {
  one_each = one;
  marked = λ p l. before.marked p (omega (arith, l, e));
  others = λ p l. before.others p (omega (arith, l, e));
}

-- ---- a node is lowered

-- what a test against the node's target reads where the node has more
pub one_lowered : (flow : Dataflow) (counts : Counts) (marks : List Bool) (fronts new : List Front) (p i : ℕ) (x most : Front) (r m : Bool) → i ≡ p → i < length fronts → x ≡ get_or fronts i x
    → IsFrontOf (bounds_of flow p) most (target_by flow counts (family_of flow fronts) p)
    → ((b : Bounds) → IsCanonical b most → (r ≡ true) ↔ Within (frontier_of b x) (frontier_of b most)) → r ≡ false
    → m ≡ is_node_marked marks i → m ≡ true → new ≡ set fronts p most → IsLoweredAt flow counts marks p fronts new
one_lowered flow counts marks fronts new p i x most r m e l is names test none mark one to =
    let b = bounds_of flow p in
    let here : x ≡ front_of fronts p = read_at fronts p i x [] e l is in
    record {
      marked = ap (is_node_marked marks) (sym e) ∙ sym mark ∙ one;
      more = λ w. both_ways r none ((test b names.canonical).1 (λ t j. names.same t ∙ w t (sym (ap (λ g. frontier_of b g t) here) ∙ j)));
      front = most;
      most = names;
      changed = to;
    }

-- ---- the nodes are lowered in turn

pub none_lowered : (flow : Dataflow) (counts : Counts) (marks : List Bool) (fronts : List Front) → AreLoweredSoFar flow counts marks 0 false fronts fronts
none_lowered flow counts marks fronts = record {
  each = refl;
  more = λ e. absurd (cc);
  same = λ e. refl;
  low = λ e p l. absurd (omega (arith, l));
}

neither : (a b : Bool) → (a || b) ≡ false → (a ≡ false) × (b ≡ false)
neither true b k = absurd (cc)
neither false b k = (refl, k)

either : (a b : Bool) → (a || b) ≡ true → (a ≡ true) ⊎ ((a ≡ false) × (b ≡ true))
either true b k = inl refl
either false b k = inr (refl, k)

is-or-not : (b : Bool) → (b ≡ true) ⊎ (b ≡ false)
is-or-not true = inl refl
is-or-not false = inr refl

pub more_lowered : (flow : Dataflow) (counts : Counts) (marks : List Bool) (n p : ℕ) (old mid new : List Front) (lowered more : Bool) → p ≡ n → n < length flow.nodes
    → AreLoweredSoFar flow counts marks n lowered old mid → (more ≡ true → IsLoweredAt flow counts marks p mid new) → (more ≡ false → StaysLow flow counts marks p mid new)
    → AreLoweredSoFar flow counts marks (n + 1) (lowered || more) old new
more_lowered flow counts marks n p old mid new lowered more e l so down stays =
    let next : n + 1 ≡ suc n = omega (arith) in
    let here : IsLoweredAt flow counts marks n mid new ⊎ StaysLow flow counts marks n mid new = subst (λ q. IsLoweredAt flow counts marks q mid new ⊎ StaysLow flow counts marks q mid new) e (elim (is-or-not more) [
      | inl k ↦ inl (down k)
      | inr k ↦ inr (stays k)
    ]) in
    record {
      each = subst (λ k. AreLoweredInTurn flow counts marks k old new) (sym next) (mid, (so.each, here));
      more = λ k low. elim (either lowered more k) [
        | inl before ↦ so.more before low
        | inr now ↦
            let at = down now.1 in
            at.more (subst (λ fs. Within (family_of flow fs p) (target_by flow counts (family_of flow fs) p)) (sym (so.same now.0)) (low p (omega (arith, e, l)) at.marked))
      ];
      same = λ k. let both = neither lowered more k in (stays both.1).same ∙ so.same both.0;
      low = λ k q m marked.
          let both = neither lowered more k in
          elim (cases_eq q p) [
            | inl s ↦
                let mine = (stays both.1).within (ap (is_node_marked marks) (sym s) ∙ marked) in
                subst (λ r. Within (family_of flow old r) (target_by flow counts (family_of flow old) r)) (sym s)
                (subst (λ fs. Within (family_of flow fs p) (target_by flow counts (family_of flow fs) p)) (so.same both.0) mine)
            | inr s ↦ so.low both.0 q (omega (arith, m, s, e)) marked
          ];
    }

pub is_pass : (flow : Dataflow) (counts : Counts) (marks : List Bool) (n : ℕ) (lowered : Bool) (old new : List Front) → n ≡ length flow.nodes
    → AreLoweredSoFar flow counts marks n lowered old new → lowered ≡ true → IsPass flow counts marks old new
is_pass flow counts marks n lowered old new e so one = record {
  more = so.more one;
  each = subst (λ k. AreLoweredInTurn flow counts marks k old new) e so.each;
}

pub is_last_pass : (flow : Dataflow) (counts : Counts) (marks : List Bool) (n : ℕ) (lowered : Bool) (old new : List Front) → n ≡ length flow.nodes
    → AreLoweredSoFar flow counts marks n lowered old new → lowered ≡ false → IsLastPass flow counts marks old new
is_last_pass flow counts marks n lowered old new e so none = record {
  same = so.same none;
  low = subst (λ k. AreLoweredBefore flow counts marks k old) e (so.low none);
}

-- ---- passes

pub left_none : (flow : Dataflow) (counts : Counts) (marks : List Bool) (old first : List Front) → AreRaisedAtMarks flow marks old first → AreLeftBy flow counts marks 0 old first
left_none flow counts marks old first r = record { first = first; raised = r; passed = refl }

pub left_more : (flow : Dataflow) (counts : Counts) (marks : List Bool) (n : ℕ) (old mid new : List Front) → AreLeftBy flow counts marks n old mid → IsPass flow counts marks mid new
    → AreLeftBy flow counts marks (n + 1) old new
left_more flow counts marks n old mid new left pass =
    let next : n + 1 ≡ suc n = omega (arith) in
    record { first = left.first; raised = left.raised; passed = subst (λ k. ArePasses flow counts marks k left.first new) (sym next) (mid, (left.passed, pass)) }

pub left_all : (flow : Dataflow) (counts : Counts) (marks : List Bool) (n : ℕ) (old new : List Front) → n ≡ length flow.nodes → AreLeftBy flow counts marks n old new
    → AreNoneProposed flow counts marks old
left_all flow counts marks n old new e left = record { last = new; left = subst (λ k. AreLeftBy flow counts marks k old new) e left }

-- ---- each low family lies within what is left

raised-way : (flow : Dataflow) (counts : Counts) (marks : List Bool) (old first : List Front) → AreRaisedAtMarks flow marks old first → AreOnTheWay flow counts marks old first
raised-way flow counts marks old first r = record {
  one_each = r.one_each;
  others = r.others;
  above = λ family low p t i.
      let d = (low.frontier p).inside_domain t i in
      elim (cases_lt p (length flow.nodes)) [
        | inl l ↦ elim (is-or-not (is_node_marked marks p)) [
          | inl m ↦ and_from (in_domain (bounds_of flow p) t) (inside (front_of first p) t) d (ap (λ os. inside os t) (r.marked p l m))
          | inr m ↦ ap (λ g. node_frontier flow p g t) (r.others p l m) ∙ low.others p l m t i
        ]
        | inr l ↦ past-all flow first p t (omega (arith, l, r.one_each)) d
      ];
}

lowered-way : (flow : Dataflow) (counts : Counts) (marks : List Bool) (p : ℕ) (old mid new : List Front) → p < length flow.nodes → AreOnTheWay flow counts marks old mid
    → IsLoweredAt flow counts marks p mid new → AreOnTheWay flow counts marks old new
lowered-way flow counts marks p old mid new l way down =
    let there : p < length mid = omega (arith, l, way.one_each) in
    subst (AreOnTheWay flow counts marks old) (sym down.changed) (record {
      one_each = length-set mid p down.front ∙ way.one_each;
      others = λ q k m. front_old mid p q down.front (λ s. both_ways (is_node_marked marks q) m (ap (is_node_marked marks) s ∙ down.marked)) ∙ way.others q k m;
      above = λ family low q t i. elim (cases_eq q p) [
        | inl s ↦
            let mine : family p t ≡ true = subst (λ r. family r t ≡ true) s i in
            let can = target-monotone flow counts family (family_of flow mid) (way.above family low) p t (low.marked p l down.marked t mine) in
            subst (λ r. family_of flow (set mid p down.front) r t ≡ true) (sym s) (family_new flow mid p down.front t there ∙ down.most.same t ∙ can)
        | inr s ↦ family_old flow mid p q down.front t s ∙ way.above family low q t i
      ];
    })

turn-way : (flow : Dataflow) (counts : Counts) (marks : List Bool) (n : ℕ) (old mid new : List Front) → n ≤ length flow.nodes → AreOnTheWay flow counts marks old mid
    → AreLoweredInTurn flow counts marks n mid new → AreOnTheWay flow counts marks old new
turn-way flow counts marks zero old mid new l way each = subst (AreOnTheWay flow counts marks old) (sym each) way
turn-way flow counts marks (suc n) old mid new l way each =
    let before = turn-way flow counts marks n old mid each.0 (omega (arith, l)) way each.1.0 in
    elim (each.1.1) [
      | inl down ↦ lowered-way flow counts marks n old each.0 new (omega (arith, l)) before down
      | inr stays ↦ subst (AreOnTheWay flow counts marks old) (sym stays.same) before
    ]

passes-way : (flow : Dataflow) (counts : Counts) (marks : List Bool) (n : ℕ) (old first new : List Front) → AreOnTheWay flow counts marks old first
    → ArePasses flow counts marks n first new → AreOnTheWay flow counts marks old new
passes-way flow counts marks zero old first new way passed = subst (AreOnTheWay flow counts marks old) (sym passed) way
passes-way flow counts marks (suc n) old first new way passed =
    turn-way flow counts marks (length flow.nodes) old passed.0 new (omega (arith)) (passes-way flow counts marks n old first passed.0 way passed.1.0) passed.1.1.each

-- what is left and low is proposed
pub are_proposed : (flow : Dataflow) (counts : Counts) (marks : List Bool) (n : ℕ) (old next new : List Front) → n < length flow.nodes → AreLeftBy flow counts marks n old next
    → IsLastPass flow counts marks next new → AreProposed flow counts marks old new
are_proposed flow counts marks n old next new l left last =
    let way = passes-way flow counts marks n old left.first next (raised-way flow counts marks old left.first left.raised) left.passed in
    subst (AreProposed flow counts marks old) (sym last.same) (record {
      low = record {
        frontier = λ p. frontier-closed (bounds_of flow p) (front_of next p);
        marked = last.low;
        others = λ p k m t i. sym (ap (λ g. node_frontier flow p g t) (way.others p k m)) ∙ i;
      };
      largest = way.above;
      passes = n;
      few = l;
      left = left;
    })

-- The measure of a stamp at a node: the rank along the whole dataflow and then, from the outermost loop inward, the counter
-- and the rank within its rounds.
use Rattle.std.proofs.Common.{◌≡◌, ◌⊎◌, ℕ, zero, suc, ◌+◌, ◌-◌, ◌*◌, ◌<◌, ◌≤◌, min, true, false, ◌&&◌, ◌==◌, nat_le, List, [], ◌∷◌, length, Some, refl, sym, ap, ◌∙◌, subst, inl, inr, arith}
use Rattle.std.proofs.Math.Nat.{mul-le-mul_right, min-le_right}
use Rattle.std.proofs.lemmas.Bool.{and_parts, or_left, or_right, eqb-true, eq-eqb, false_from_ne_true}
use Rattle.fw_time.specs.Stamp.{Stamp, leq, nest, outer, counter}
use Rattle.fw_time.proofs.StampLaws.{outer-nest, counter-nest}
use Rattle.fw_flow.specs.declared.kind.Domain.{Domain}
use Rattle.fw_flow.specs.declared.kind.Domain.TheVariants.{Epoch, Number, Loop as InLoop}
use Rattle.fw_flow.specs.Kind.{Kind}
use Rattle.fw_flow.specs.declared.kind.Kind.TheVariants.{OutputEpoch, OutputNumber, Enter, Feedback, Leave, Sequence, Regroup}
use Rattle.fw_flow.specs.Dataflow.{Dataflow, kind_of, sender, receiver, max_of, send_stamp, send_stamp_of_kind, parent_of, loops_of, domain_of, domain_of_kind, out_domain_of, out_domain_of_kind, is_loop, is_one_of}
use Rattle.fw_flow.specs.Ranks.{is_looped, IsWithinRound, Ranks}
use Rattle.fw_flow.specs.WellFormed.{IsLoopDeclared, IsWellFormed, is_feedback_of}
use Rattle.fw_flow.proofs.Chains.{loops-unfold, loops-few, not_own_parent}
use Rattle.fw_flow.proofs.RankLaws.{ranks-exist}
use Rattle.fw_model.specs.LawsOfDenotation.{MeasureExists}
use Rattle.fw_model.specs.Measure.{rounds_in_loop, enough_rounds}
use Rattle.fw_model.proofs.StampLaws.{counter-leq, some_is}
use Rattle.fw_model.proofs.FeedbackLaws.{fed_back-some}

-- ---- stamps without their counters

outer-leq : (s t : Stamp) → leq s t ≡ true → leq (outer s) (outer t) ≡ true
outer-leq [] [] k = refl
outer-leq [] (y ∷ t) k = cc
outer-leq (x ∷ s) [] k = cc
outer-leq (x ∷ []) (y ∷ []) k = refl
outer-leq (x ∷ []) (y ∷ z ∷ t) k = let a = and_parts (nat_le x y) false k in absurd (cc)
outer-leq (x ∷ z ∷ s) (y ∷ []) k = let a = and_parts (nat_le x y) false k in absurd (cc)
outer-leq (x ∷ w ∷ s) (y ∷ z ∷ t) k =
    let a = and_parts (nat_le x y) (leq (w ∷ s) (z ∷ t)) k in
    ap (λ b. b && leq (outer (w ∷ s)) (outer (z ∷ t))) a.0 ∙ outer-leq (w ∷ s) (z ∷ t) a.1

-- ---- numbers with places added

-- a number with so many places added, each filled from 0 up to b
abbrev lift : ℕ → ℕ → ℕ → ℕ
lift b zero x = x
lift b (suc k) x = lift b k (x * b)

lift-most : (b k x y : ℕ) → x ≤ y → lift b k x ≤ lift b k y
lift-most b zero x y h = h
lift-most b (suc k) x y h = lift-most b k (x * b) (y * b) (mul-le-mul_right b h)

times-less : (b x y : ℕ) → 0 < b → x < y → x * b < y * b
times-less b x y s h = let k : (x + 1) * b ≤ y * b = mul-le-mul_right b (omega arith) in omega arith

lift-less : (b k x y : ℕ) → 0 < b → x < y → lift b k x < lift b k y
lift-less b zero x y s h = h
lift-less b (suc k) x y s h = lift-less b k (x * b) (y * b) s (times-less b x y s h)

lift-join : (b j k x : ℕ) → lift b j (lift b k x) ≡ lift b (k + j) x
lift-join b j zero x = let e : j ≡ 0 + j = omega arith in ap (λ n. lift b n x) e
lift-join b j (suc k) x = let e : suc (k + j) ≡ suc k + j = omega arith in lift-join b j k (x * b) ∙ ap (λ n. lift b n x) e

lift-last : (b k x : ℕ) → lift b (suc k) x ≡ lift b k x * b
lift-last b zero x = refl
lift-last b (suc k) x = lift-last b k (x * b)

-- one place more, of a counter and a rank
abbrev with_place : ℕ → ℕ → ℕ → ℕ → ℕ
with_place n x c r = (x * 1025 + c) * (n + 1) + r

place-under : (n x c r : ℕ) → c ≤ 1024 → r ≤ n → with_place n x c r < (x + 1) * (1025 * (n + 1))
place-under n x c r h k = let m : (x * 1025 + c + 1) * (n + 1) ≤ ((x + 1) * 1025) * (n + 1) = mul-le-mul_right (n + 1) (omega arith) in omega arith

place-over : (n x c r : ℕ) → x * (1025 * (n + 1)) ≤ with_place n x c r
place-over n x c r = let m : (x * 1025) * (n + 1) ≤ (x * 1025 + c) * (n + 1) = mul-le-mul_right (n + 1) (omega arith) in omega arith

place-keeps : (n x y c d r q : ℕ) → x ≤ y → c ≤ d → r ≤ q → with_place n x c r ≤ with_place n y d q
place-keeps n x y c d r q a b e = let m : (x * 1025 + c) * (n + 1) ≤ (y * 1025 + d) * (n + 1) = mul-le-mul_right (n + 1) (omega arith) in omega arith

place-rises : (n x y c d r q : ℕ) → x ≤ y → c ≤ d → r < q → with_place n x c r < with_place n y d q
place-rises n x y c d r q a b e = let m : (x * 1025 + c) * (n + 1) ≤ (y * 1025 + d) * (n + 1) = mul-le-mul_right (n + 1) (omega arith) in omega arith

place-counts : (n x y c d r q : ℕ) → x ≤ y → c < d → r ≤ n → with_place n x c r < with_place n y d q
place-counts n x y c d r q a b e = let m : (x * 1025 + c + 1) * (n + 1) ≤ (y * 1025 + d) * (n + 1) = mul-le-mul_right (n + 1) (omega arith) in omega arith

-- ---- the measure

-- the counter of a stamp, at most the greatest one of any loop
abbrev few_counter : Stamp → ℕ
few_counter t = min (counter t) 1024

-- the place of a stamp at a node among those of these loops, each in the next
abbrev position : (flow : Dataflow) → Ranks flow → List ℕ → ℕ → Stamp → ℕ
position flow r [] p t = r.lambda p
position flow r (l ∷ ls) p t = with_place (length flow.nodes) (position flow r ls p (outer t)) (few_counter t) (r.sigma l p)

-- the measure, were the node in these loops
abbrev measure_in : (flow : Dataflow) → Ranks flow → List ℕ → ℕ → Stamp → ℕ
measure_in flow r ls p t = lift (rounds_in_loop flow) (3 - length ls) (position flow r ls p t)

-- the measure of a stamp at a node
unfoldable measure : (flow : Dataflow) → Ranks flow → ℕ → Stamp → ℕ
measure flow r p t = measure_in flow r (loops_of flow (domain_of flow p)) p t

few_counter-most : (t : Stamp) → few_counter t ≤ 1024
few_counter-most t = min-le_right (counter t) 1024

few_counter-leq : (s t : Stamp) → leq s t ≡ true → few_counter s ≤ few_counter t
few_counter-leq s t k = let a = counter-leq s t k in omega arith

position-under : (flow : Dataflow) (r : Ranks flow) (ls : List ℕ) (p : ℕ) → p < length flow.nodes → (t : Stamp)
    → position flow r ls p t < lift (rounds_in_loop flow) (length ls) (r.lambda p + 1)
position-under flow r [] p h t = omega arith
position-under flow r (l ∷ ls) p h t =
    let n = length flow.nodes in
    let x = position flow r ls p (outer t) in
    let top = lift (rounds_in_loop flow) (length ls) (r.lambda p + 1) in
    let a = position-under flow r ls p h (outer t) in
    let b = place-under n x (few_counter t) (r.sigma l p) (few_counter-most t) ((r.of_rounds l).bound p h) in
    let c : (x + 1) * rounds_in_loop flow ≤ top * rounds_in_loop flow = mul-le-mul_right (rounds_in_loop flow) (omega arith) in
    let d = lift-last (rounds_in_loop flow) (length ls) (r.lambda p + 1) in
    omega arith

position-over : (flow : Dataflow) (r : Ranks flow) (ls : List ℕ) (p : ℕ) (t : Stamp) → lift (rounds_in_loop flow) (length ls) (r.lambda p) ≤ position flow r ls p t
position-over flow r [] p t = omega arith
position-over flow r (l ∷ ls) p t =
    let n = length flow.nodes in
    let x = position flow r ls p (outer t) in
    let low = lift (rounds_in_loop flow) (length ls) (r.lambda p) in
    let c : low * rounds_in_loop flow ≤ x * rounds_in_loop flow = mul-le-mul_right (rounds_in_loop flow) (position-over flow r ls p (outer t)) in
    let b = place-over n x (few_counter t) (r.sigma l p) in
    let d = lift-last (rounds_in_loop flow) (length ls) (r.lambda p) in
    omega arith

-- the edge is within a round of each of these loops
abbrev WithinRounds : Dataflow → List ℕ → ℕ → Type 0
WithinRounds flow ls e = (l : ℕ) → is_one_of l ls ≡ true → IsWithinRound flow l e

inner_round : (flow : Dataflow) (l : ℕ) (ls : List ℕ) (e : ℕ) → WithinRounds flow (l ∷ ls) e → IsWithinRound flow l e
inner_round flow l ls e w = w l (or_left (l == l) (is_one_of l ls) (eq-eqb l l refl))

outer_rounds : (flow : Dataflow) (l : ℕ) (ls : List ℕ) (e : ℕ) → WithinRounds flow (l ∷ ls) e → WithinRounds flow ls e
outer_rounds flow l ls e w k h = w k (or_right (l == k) (is_one_of k ls) h)

position-keeps : (flow : Dataflow) (r : Ranks flow) (e : ℕ) → e < length flow.edges → (ls : List ℕ) → WithinRounds flow ls e → (s t : Stamp) → leq s t ≡ true
    → position flow r ls (sender flow e) s ≤ position flow r ls (receiver flow e) t
position-keeps flow r e lt [] w s t k = r.of_loops.keeps e lt
position-keeps flow r e lt (l ∷ ls) w s t k =
    place-keeps (length flow.nodes) _ _ _ _ _ _
    (position-keeps flow r e lt ls (outer_rounds flow l ls e w) (outer s) (outer t) (outer-leq s t k))
    (few_counter-leq s t k) ((r.of_rounds l).keeps e lt (inner_round flow l ls e w))

position-rises : (flow : Dataflow) (r : Ranks flow) (e : ℕ) → e < length flow.edges → (l : ℕ) (ls : List ℕ) → WithinRounds flow (l ∷ ls) e
    → domain_of flow (receiver flow e) ≡ InLoop l → (s t : Stamp) → leq s t ≡ true
    → position flow r (l ∷ ls) (sender flow e) s < position flow r (l ∷ ls) (receiver flow e) t
position-rises flow r e lt l ls w d s t k =
    place-rises (length flow.nodes) _ _ _ _ _ _
    (position-keeps flow r e lt ls (outer_rounds flow l ls e w) (outer s) (outer t) (outer-leq s t k))
    (few_counter-leq s t k) ((r.of_rounds l).rises e lt (inner_round flow l ls e w) d)

-- ---- how a node of a kind sends into a loop

-- at the same stamp of one domain; at a loop's next counter; into a loop; or out of one
abbrev Moves : Dataflow → Kind → Stamp → Stamp → Type 0
Moves flow kind s u =
    ((domain_of_kind flow kind ≡ out_domain_of_kind flow kind) × ((s ≡ u) × ((l : ℕ) → is_feedback_of l kind ≡ false)))
    ⊎ (((k : ℕ) × ((kind ≡ Feedback k) × ((counter s < max_of flow k) × (nest (outer s) (counter s + 1) ≡ u))))
    ⊎ (((k : ℕ) × ((kind ≡ Enter k) × (nest s 0 ≡ u)))
    ⊎ ((k : ℕ) × ((kind ≡ Leave k) × (outer s ≡ u)))))

moves : (flow : Dataflow) (kind : Kind) (s u : Stamp) → is_loop (out_domain_of_kind flow kind) ≡ true → send_stamp_of_kind flow kind s ≡ Some u → Moves flow kind s u
moves flow OutputEpoch s u d e = absurd (cc)
moves flow OutputNumber s u d e = absurd (cc)
moves flow (Enter k) s u d e = inr (inr (inl (k, (refl, some_is (nest s 0) u e))))
moves flow (Feedback k) s u d e = let a = fed_back-some (max_of flow k) s u e in inr (inl (k, (refl, (a.0, a.1))))
moves flow (Leave k) s u d e = inr (inr (inr (k, (refl, some_is (outer s) u e))))
moves flow Sequence s u d e = absurd (cc)
moves flow (Regroup n) s u d e = absurd (cc)
moves flow kind s u d e = inl (refl, (some_is s u e, λ l. refl))

loop-is : (d : Domain) → is_loop d ≡ true → (l : ℕ) × (d ≡ InLoop l)
loop-is Epoch k = absurd (cc)
loop-is Number k = absurd (cc)
loop-is (InLoop l) k = (l, refl)

-- ---- the measure falls

rounds_in_loop-some : (flow : Dataflow) → 0 < rounds_in_loop flow
rounds_in_loop-some flow = omega arith

-- the measure by the loops of the node's domain, and by the same loops named otherwise
measure-in : (flow : Dataflow) (r : Ranks flow) (p : ℕ) (t : Stamp) (ls : List ℕ) → loops_of flow (domain_of flow p) ≡ ls → measure flow r p t ≡ measure_in flow r ls p t
unfolding measure
measure-in flow r p t ls e = ap (λ x. measure_in flow r x p t) e

-- whether a loop is one of these, where these are named otherwise
one_of-same : (ls ks : List ℕ) (l : ℕ) → ls ≡ ks → is_one_of l ks ≡ true → is_one_of l ls ≡ true
one_of-same ls ks l e h = ap (λ x. is_one_of l x) e ∙ h

-- from the same domain
falls-same : (flow : Dataflow) (r : Ranks flow) (e : ℕ) → e < length flow.edges → (l : ℕ)
    → domain_of flow (receiver flow e) ≡ InLoop l → domain_of flow (sender flow e) ≡ InLoop l
    → ((k : ℕ) → is_feedback_of k (kind_of flow (sender flow e)) ≡ false)
    → (s t : Stamp) → leq s t ≡ true → measure flow r (sender flow e) s < measure flow r (receiver flow e) t
falls-same flow r e lt l d i onward s t k =
    let ls = loops_of flow (parent_of flow l) in
    let to = ap (loops_of flow) d ∙ loops-unfold flow l in
    let from = ap (loops_of flow) i ∙ loops-unfold flow l in
    let a = measure-in flow r (sender flow e) s (l ∷ ls) from in
    let b = measure-in flow r (receiver flow e) t (l ∷ ls) to in
    let c = lift-less (rounds_in_loop flow) (3 - length (l ∷ ls)) _ _ (rounds_in_loop-some flow)
    (position-rises flow r e lt l ls
    (λ j h. record { from = one_of-same _ _ j from h; to = one_of-same _ _ j to h; onward = onward j })
    d s t k) in
    omega arith

-- from a feedback
falls-fed_back : (flow : Dataflow) → IsWellFormed flow → (r : Ranks flow) (e : ℕ) → e < length flow.edges → (l : ℕ)
    → domain_of flow (receiver flow e) ≡ InLoop l → kind_of flow (sender flow e) ≡ Feedback l
    → (s t u : Stamp) → counter s < max_of flow l → nest (outer s) (counter s + 1) ≡ u → leq u t ≡ true
    → measure flow r (sender flow e) s < measure flow r (receiver flow e) t
falls-fed_back flow w r e lt l d is s t u more next k =
    let q = sender flow e in
    let p = receiver flow e in
    let ls = loops_of flow (parent_of flow l) in
    let to = ap (loops_of flow) d ∙ loops-unfold flow l in
    let from = ap (λ kind. loops_of flow (domain_of_kind flow kind)) is ∙ loops-unfold flow l in
    let a = measure-in flow r q s (l ∷ ls) from in
    let b = measure-in flow r p t (l ∷ ls) to in
    let declared : l < length flow.loops = subst (IsLoopDeclared flow) is (w.loops_declared q (w.senders_declared e lt)) in
    let few = (w.limits.counters l declared).1 in
    let up : counter u ≡ counter s + 1 = ap counter (sym next) ∙ counter-nest (outer s) (counter s + 1) in
    let out : outer u ≡ outer s = ap outer (sym next) ∙ outer-nest (outer s) (counter s + 1) in
    let below = counter-leq u t k in
    let less : few_counter s < few_counter t = omega arith in
    let rounds : WithinRounds flow ls e = λ j h. record {
      from = one_of-same _ _ j from (or_right (l == j) (is_one_of j ls) h);
      to = one_of-same _ _ j to (or_right (l == j) (is_one_of j ls) h);
      onward = ap (is_feedback_of j) is ∙ false_from_ne_true (l == j) (λ same. not_own_parent flow l (ap (λ x. is_one_of x ls) (eqb-true l j same) ∙ h));
    } in
    let same_outer : leq (outer s) (outer t) ≡ true = ap (λ x. leq x (outer t)) (sym out) ∙ outer-leq u t k in
    let c = lift-less (rounds_in_loop flow) (3 - length (l ∷ ls)) _ _ (rounds_in_loop-some flow)
    (place-counts (length flow.nodes) _ _ _ _ _ (r.sigma l p)
    (position-keeps flow r e lt ls rounds (outer s) (outer t) same_outer) less
    ((r.of_rounds l).bound q (w.senders_declared e lt))) in
    omega arith

-- adding a place to a number of one loop less
lift-enter : (flow : Dataflow) (l : ℕ) (ls : List ℕ) (x : ℕ) → length (l ∷ ls) ≤ 3
    → lift (rounds_in_loop flow) (3 - length ls) x ≡ lift (rounds_in_loop flow) (3 - length (l ∷ ls)) (x * rounds_in_loop flow)
lift-enter flow l ls x h = let e : 3 - length ls ≡ suc (3 - length (l ∷ ls)) = omega arith in ap (λ k. lift (rounds_in_loop flow) k x) e

-- from an enter
falls-entered : (flow : Dataflow) → IsWellFormed flow → (r : Ranks flow) (e : ℕ) → e < length flow.edges → (l : ℕ)
    → domain_of flow (receiver flow e) ≡ InLoop l → kind_of flow (sender flow e) ≡ Enter l
    → (s t : Stamp) → leq (nest s 0) t ≡ true → measure flow r (sender flow e) s < measure flow r (receiver flow e) t
falls-entered flow w r e lt l d is s t k =
    let n = length flow.nodes in
    let q = sender flow e in
    let p = receiver flow e in
    let ls = loops_of flow (parent_of flow l) in
    let to = ap (loops_of flow) d ∙ loops-unfold flow l in
    let from : loops_of flow (domain_of flow q) ≡ ls = ap (λ kind. loops_of flow (domain_of_kind flow kind)) is in
    let a = measure-in flow r q s ls from in
    let b = measure-in flow r p t (l ∷ ls) to in
    let few : length (l ∷ ls) ≤ 3 = let x = loops-few flow (InLoop l) in let y = ap length (loops-unfold flow l) in omega arith in
    let rounds : WithinRounds flow ls e = λ j h. record {
      from = one_of-same _ _ j from h;
      to = one_of-same _ _ j to (or_right (l == j) (is_one_of j ls) h);
      onward = ap (is_feedback_of j) is;
    } in
    let same_outer : leq s (outer t) ≡ true = ap (λ x. leq x (outer t)) (sym (outer-nest s 0)) ∙ outer-leq (nest s 0) t k in
    let x = position flow r ls q s in
    let y = position flow r ls p (outer t) in
    let keeps : x * rounds_in_loop flow ≤ y * rounds_in_loop flow = mul-le-mul_right (rounds_in_loop flow) (position-keeps flow r e lt ls rounds s (outer t) same_outer) in
    let some = (r.of_rounds l).some p (w.receivers_declared e lt) d in
    let over : (y * 1025) * (n + 1) ≤ (y * 1025 + few_counter t) * (n + 1) = mul-le-mul_right (n + 1) (omega arith) in
    let c = lift-less (rounds_in_loop flow) (3 - length (l ∷ ls)) (x * rounds_in_loop flow) (position flow r (l ∷ ls) p t) (rounds_in_loop-some flow) (omega arith) in
    let f = lift-enter flow l ls x few in
    omega arith

-- from a leave
falls-left : (flow : Dataflow) → IsWellFormed flow → (r : Ranks flow) (e : ℕ) → e < length flow.edges → (l k : ℕ)
    → domain_of flow (receiver flow e) ≡ InLoop l → kind_of flow (sender flow e) ≡ Leave k → parent_of flow k ≡ InLoop l
    → (s t : Stamp) → leq (outer s) t ≡ true → measure flow r (sender flow e) s < measure flow r (receiver flow e) t
falls-left flow w r e lt l k d is up s t i =
    let n = length flow.nodes in
    let q = sender flow e in
    let p = receiver flow e in
    let ls = loops_of flow (parent_of flow l) in
    let to = ap (loops_of flow) d ∙ loops-unfold flow l in
    let parent : loops_of flow (parent_of flow k) ≡ l ∷ ls = ap (loops_of flow) up ∙ loops-unfold flow l in
    let from : loops_of flow (domain_of flow q) ≡ k ∷ l ∷ ls =
    ap (λ kind. loops_of flow (domain_of_kind flow kind)) is ∙ loops-unfold flow k ∙ ap (λ x. k ∷ x) parent in
    let a = measure-in flow r q s (k ∷ l ∷ ls) from in
    let b = measure-in flow r p t (l ∷ ls) to in
    let few : length (k ∷ l ∷ ls) ≤ 3 = let x = loops-few flow (domain_of flow q) in let y = ap length from in omega arith in
    let rounds : WithinRounds flow (l ∷ ls) e = λ j h. record {
      from = one_of-same _ _ j from (or_right (k == j) (is_one_of j (l ∷ ls)) h);
      to = one_of-same _ _ j to h;
      onward = ap (is_feedback_of j) is;
    } in
    let x = position flow r (l ∷ ls) q (outer s) in
    let y = position flow r (l ∷ ls) p t in
    let rises : x < y = position-rises flow r e lt l ls rounds d (outer s) t i in
    let more : (x + 1) * rounds_in_loop flow ≤ y * rounds_in_loop flow = mul-le-mul_right (rounds_in_loop flow) (omega arith) in
    let under = place-under n x (few_counter s) (r.sigma k q) (few_counter-most s) ((r.of_rounds k).bound q (w.senders_declared e lt)) in
    let c = lift-less (rounds_in_loop flow) (3 - length (k ∷ l ∷ ls)) (position flow r (k ∷ l ∷ ls) q s) (y * rounds_in_loop flow) (rounds_in_loop-some flow) (omega arith) in
    let f = lift-enter flow k (l ∷ ls) y few in
    omega arith

-- the receiver of an edge into a looped node gets messages at a loop's times
looped-in : (flow : Dataflow) (p : ℕ) → is_looped flow p ≡ true → (l : ℕ) × (domain_of flow p ≡ InLoop l)
looped-in flow p h = loop-is (domain_of flow p) (and_parts (is_loop (domain_of flow p)) (is_loop (out_domain_of flow p)) h).0

measure_falls-looped : (flow : Dataflow) → IsWellFormed flow → (r : Ranks flow) (e : ℕ) → e < length flow.edges
    → is_looped flow (receiver flow e) ≡ true → (s t u : Stamp) → send_stamp flow (sender flow e) s ≡ Some u → leq u t ≡ true
    → measure flow r (sender flow e) s < measure flow r (receiver flow e) t
measure_falls-looped flow w r e lt looped s t u sends below =
    let kind = kind_of flow (sender flow e) in
    let in_loop = looped-in flow (receiver flow e) looped in
    let l = in_loop.0 in
    let d = in_loop.1 in
    let out : out_domain_of_kind flow kind ≡ InLoop l = w.domains e lt ∙ d in
    elim (moves flow kind s u (ap is_loop out) sends) [
      | inl a ↦ falls-same flow r e lt l d (a.0 ∙ out) ((a.1).1) s t (ap (λ x. leq x t) ((a.1).0) ∙ below)
      | inr b ↦ elim b [
        | inl a ↦
            let same : InLoop a.0 ≡ InLoop l = sym (ap (out_domain_of_kind flow) ((a.1).0)) ∙ out in
            let k : a.0 ≡ l = cc in
            falls-fed_back flow w r e lt l d ((a.1).0 ∙ ap (λ x. Feedback x) k) s t u
            (subst (λ x. counter s < max_of flow x) k (((a.1).1).0)) (((a.1).1).1) below
        | inr c ↦ elim c [
          | inl a ↦
              let same : InLoop a.0 ≡ InLoop l = sym (ap (out_domain_of_kind flow) ((a.1).0)) ∙ out in
              let k : a.0 ≡ l = cc in
              falls-entered flow w r e lt l d ((a.1).0 ∙ ap (λ x. Enter x) k) s t (ap (λ x. leq x t) ((a.1).1) ∙ below)
          | inr a ↦
              falls-left flow w r e lt l a.0 d ((a.1).0) (sym (ap (out_domain_of_kind flow) ((a.1).0)) ∙ out) s t (ap (λ x. leq x t) ((a.1).1) ∙ below)
        ]
      ]
    ]

-- three places in all
all-places : (flow : Dataflow) (d : Domain) (x : ℕ) → lift (rounds_in_loop flow) (3 - length (loops_of flow d)) (lift (rounds_in_loop flow) (length (loops_of flow d)) x) ≡ lift (rounds_in_loop flow) 3 x
all-places flow d x =
    let few = loops-few flow d in
    let e : length (loops_of flow d) + (3 - length (loops_of flow d)) ≡ 3 = omega arith in
    lift-join (rounds_in_loop flow) (3 - length (loops_of flow d)) (length (loops_of flow d)) x ∙ ap (λ k. lift (rounds_in_loop flow) k x) e

measure-under : (flow : Dataflow) (r : Ranks flow) (p : ℕ) → p < length flow.nodes → (t : Stamp) → measure flow r p t < lift (rounds_in_loop flow) 3 (r.lambda p + 1)
measure-under flow r p h t =
    let ls = loops_of flow (domain_of flow p) in
    let a = measure-in flow r p t ls refl in
    let b = lift-less (rounds_in_loop flow) (3 - length ls) _ _ (rounds_in_loop-some flow) (position-under flow r ls p h t) in
    let c = all-places flow (domain_of flow p) (r.lambda p + 1) in
    omega arith

measure-over : (flow : Dataflow) (r : Ranks flow) (p : ℕ) (t : Stamp) → lift (rounds_in_loop flow) 3 (r.lambda p) ≤ measure flow r p t
measure-over flow r p t =
    let ls = loops_of flow (domain_of flow p) in
    let a = measure-in flow r p t ls refl in
    let b = lift-most (rounds_in_loop flow) (3 - length ls) _ _ (position-over flow r ls p t) in
    let c = all-places flow (domain_of flow p) (r.lambda p) in
    omega arith

measure_falls-unlooped : (flow : Dataflow) → IsWellFormed flow → (r : Ranks flow) (e : ℕ) → e < length flow.edges
    → is_looped flow (receiver flow e) ≡ false → (s t : Stamp) → measure flow r (sender flow e) s < measure flow r (receiver flow e) t
measure_falls-unlooped flow w r e lt h s t =
    let up = r.of_loops.rises e lt h in
    let a = measure-under flow r (sender flow e) (w.senders_declared e lt) s in
    let b = lift-most (rounds_in_loop flow) 3 (r.lambda (sender flow e) + 1) (r.lambda (receiver flow e)) (omega arith) in
    let c = measure-over flow r (receiver flow e) t in
    omega arith

measure-below : (flow : Dataflow) (r : Ranks flow) (p : ℕ) → p < length flow.nodes → (t : Stamp) → measure flow r p t < enough_rounds flow
unfolding enough_rounds
measure-below flow r p h t =
    let top = r.of_loops.bound p h in
    let a = measure-under flow r p h t in
    let b = lift-most (rounds_in_loop flow) 3 (r.lambda p + 1) (length flow.nodes + 1) (omega arith) in
    let c : lift (rounds_in_loop flow) 3 (length flow.nodes + 1) ≡ (length flow.nodes + 1) * rounds_in_loop flow * rounds_in_loop flow * rounds_in_loop flow = refl in
    omega arith

-- ---- the law

pub sends_to_loop : (flow : Dataflow) → IsWellFormed flow → (e : ℕ) → e < length flow.edges → is_looped flow (receiver flow e) ≡ true
    → is_loop (out_domain_of flow (sender flow e)) ≡ true
sends_to_loop flow w e l k = ap is_loop (w.domains e l) ∙ (and_parts (is_loop (domain_of flow (receiver flow e))) (is_loop (out_domain_of flow (receiver flow e))) k).0

pub measure-exists : MeasureExists
measure-exists flow w =
    let r = ranks-exist flow w in
    record {
      measure = measure flow r;
      bound = measure-below flow r;
      into_unlooped = measure_falls-unlooped flow w r;
      into_looped = measure_falls-looped flow w r;
    }

-- When an output may acknowledge by what is kept of it, and what is kept of it then.
use Rattle.std.proofs.Common.{◌≡◌, ℕ, ◌+◌, ◌<◌, ◌≤◌, ◌^◌, Bool, true, false, cond, nat_lt, nat_le, ◌||◌, ◌&&◌, ◌==◌, ◌⊎◌, if◌then◌else◌, List, [], ◌∷◌, ◌++◌, length, refl, sym, ap, ◌∙◌, subst, inl, inr, arith, Some, unwrap_or, get_or-set_same, get_or-set_other, slice_index_or, zero, suc, ◌↔◌}
use Rattle.std.proofs.lemmas.Bool.{cases_Bool, cases_lt, cases_eq, or_right, or_parts, or_from, and_parts, and_from, cond-true, cond-false, ltb-false, leb-true, le-leb, lt-ltb, le-ltb}
use Rattle.std.proofs.lemmas.Cmp.{tied_itself, nat_cmp_total}
use Rattle.std.specs.Ordering.{is_eq, is_le, nat_cmp}
use Rattle.std.specs.BTreeMap.{is_at}
use Rattle.std.specs.Map.{lookup}
use Rattle.fw_lemmas.proofs.Bools.{two_ways}
use Rattle.fw_time.specs.Stamp.{Stamp, same, leq, in_domain}
use Rattle.fw_time.specs.declared.stamp.Bounds.{Bounds}
use Rattle.fw_bag.specs.declared.rec.Rec.{Rec}
use Rattle.fw_bag.specs.Rec.{rec_cmp}
use Rattle.fw_bag.specs.Bag.{with_rec}
use Rattle.fw_bag.specs.Keyed.{sorted_recs}
use Rattle.fw_frontier.specs.Front.{inside}
use Rattle.fw_flow.specs.declared.event.Event.{Event}
use Rattle.fw_flow.specs.declared.event.Event.TheVariants.{Inject, Deliver, Notify}
use Rattle.fw_flow.specs.Kind.{Kind}
use Rattle.fw_flow.specs.declared.kind.Kind.TheVariants.{OutputEpoch, OutputNumber}
use Rattle.fw_flow.specs.Dataflow.{System, Dataflow, kind_of, receiver, is_output_kind, bounds_of, bounds_of_domain, domain_of_kind, greatest_number, batches_of}
use Rattle.fw_flow.specs.NodeFunction.{delivered_recs}
use Rattle.fw_flow.specs.declared.step.Step.TheVariants.{Ack}
use Rattle.fw_model.specs.Machine.{Machine, events, front_of, is_failed, ack_count_of}
use Rattle.fw_model.specs.Steps.{MayAcknowledge, HasSomethingAt, recs_at_output, acked, HasEpoch, LeadsTo}
use Rattle.fw_model.specs.Reached.{IsReached}
use Rattle.fw_model.specs.Auto.{IsIdle}
use Rattle.fw_border.specs.Outputs.{OutputState, recs_at_number, next_recs, acknowledged, AreByNumber}
use Rattle.fw_border.proofs.OutputLaws.{recs_at-removed, recs_at-removed_apart}
use Rattle.fw_stands.specs.Parts.{kept_recs, IsOutputOf}
use Rattle.fw_stands.specs.Acknowledging.{AreEpochs, HasSomething, CanAcknowledgeIn, acknowledged_state, KeepsAllButOutput, IsGreatestCount}
use Rattle.fw_stands.proofs.AtReached.{reached-bounds}

-- ---- recs in order

put-some : (r : Rec) (rs : List Rec) → with_rec r rs ≡ [] → ⊥
put-some r [] e = absurd (cc)
put-some r (x ∷ xs) e = elim (is_le (rec_cmp r x)) as (λ b. (if b then r ∷ x ∷ xs else x ∷ with_rec r xs) ≡ [] → ⊥) [
  | true ↦ λ i. absurd (cc)
  | false ↦ λ i. absurd (cc)
] e

sorted-some : (rs : List Rec) → 0 < length rs → sorted_recs rs ≡ [] → ⊥
sorted-some [] l e = absurd (omega arith)
sorted-some (r ∷ rs) l e = put-some r (sorted_recs rs) e

sorted-none : (rs : List Rec) → (sorted_recs rs ≡ [] → ⊥) → 0 < length rs
sorted-none [] k = absurd (k refl)
sorted-none (r ∷ rs) k = omega arith

-- ---- deliveries

-- Some delivery passes a test: each test that it passes finds something.
record Found (test : ℕ → Stamp → Bool) (h : List Event) : Type 0 where
  edge : ℕ
  at : Stamp
  passes : test edge at ≡ true
  finds : (other : ℕ → Stamp → Bool) → other edge at ≡ true → 0 < length (delivered_recs other h)

longer : (xs ys : List Rec) → 0 < length ys → 0 < length (xs ++ ys)
longer [] ys l = l
longer (x ∷ xs) ys l = omega arith

found : (test : ℕ → Stamp → Bool) (h : List Event) → 0 < length (delivered_recs test h) → Found test h
found test [] l = absurd (omega arith)
found test (Inject s x ∷ h) l = let f = found test h l in record { edge = f.edge; at = f.at; passes = f.passes; finds = f.finds }
found test (Notify p t ∷ h) l = let f = found test h l in record { edge = f.edge; at = f.at; passes = f.passes; finds = f.finds }
found test (Deliver e m ∷ h) l = elim (cases_Bool (test e m.at)) [
  | inl i ↦ record {
    edge = e;
    at = m.at;
    passes = i;
    finds = λ other j. subst (λ b. 0 < length (cond b (m.rec ∷ []) [] ++ delivered_recs other h)) (sym j) (omega arith);
  }
  | inr i ↦
      let f = found test h (subst (λ b. 0 < length (cond b (m.rec ∷ []) [] ++ delivered_recs test h)) i l) in
      record {
        edge = f.edge;
        at = f.at;
        passes = f.passes;
        finds = λ other j. longer (cond (other e m.at) (m.rec ∷ []) []) (delivered_recs other h) (f.finds other j);
      }
]

-- a delivery that passes one test passes another
finds-also : (test other : ℕ → Stamp → Bool) (h : List Event) → ((e : ℕ) (s : Stamp) → test e s ≡ true → other e s ≡ true) → 0 < length (delivered_recs test h) → 0 < length (delivered_recs other h)
finds-also test other h k l = let f = found test h l in f.finds other (k f.edge f.at f.passes)

same-turned : (s t : Stamp) → same s t ≡ true → same t s ≡ true
same-turned s t i = let a = and_parts (leq s t) (leq t s) i in and_from (leq t s) (leq s t) a.1 a.0

to-same : (flow : Dataflow) (o : ℕ) (t : Stamp) (e : ℕ) (s : Stamp) → ((receiver flow e == o) && same t s) ≡ true → ((receiver flow e == o) && same s t) ≡ true
to-same flow o t e s i = let a = and_parts (receiver flow e == o) (same t s) i in and_from (receiver flow e == o) (same s t) a.0 (same-turned t s a.1)

-- a stamp above a number is one
number-above : (x : ℕ) (s : Stamp) → leq (x ∷ []) s ≡ true → (y : ℕ) × (x ≤ y) × (s ≡ y ∷ [])
number-above x [] i = absurd (cc)
number-above x (y ∷ []) i = (y, leb-true x y (and_parts (nat_le x y) true i).0, refl)
number-above x (y ∷ z ∷ s) i = absurd (two_ways (nat_le x y && false) i (never (nat_le x y)))
  where
    never : (b : Bool) → (b && false) ≡ false
    never true = refl
    never false = refl

above-number : (x y : ℕ) → x ≤ y → leq (x ∷ []) (y ∷ []) ≡ true
above-number x y l = and_from (nat_le x y) true (le-leb x y l) refl

same-number : (y : ℕ) → same (y ∷ []) (y ∷ []) ≡ true
same-number y = let l : y ≤ y = omega arith in and_from (leq (y ∷ []) (y ∷ [])) (leq (y ∷ []) (y ∷ [])) (above-number y y l) (above-number y y l)

-- a stamp that is the same as a number is above each lesser one
above-same : (x y : ℕ) (s : Stamp) → x ≤ y → same s (y ∷ []) ≡ true → leq (x ∷ []) s ≡ true
above-same x y s l i =
    let a = number-above y s (and_parts (leq s (y ∷ [])) (leq (y ∷ []) s) i).1 in
    let m = a.1 in
    subst (λ t. leq (x ∷ []) t ≡ true) (sym a.2) (above-number x a.0 (omega arith))

-- ---- what is kept

-- what came to output o at x
came : System → Machine → ℕ → ℕ → List Rec
came sys state o x = delivered_recs (λ e s. (receiver sys.flow e == o) && same s (x ∷ [])) (events state.history)

kept-live : (sys : System) (state : Machine) (o x : ℕ) → is_failed state o ≡ false → ack_count_of state o ≤ x → kept_recs sys state o x ≡ sorted_recs (came sys state o x)
unfolding came
kept-live sys state o x f l =
    cond-false (is_failed state o || nat_lt x (ack_count_of state o)) [] (sorted_recs (came sys state o x))
    (or_from (is_failed state o) (nat_lt x (ack_count_of state o)) f (le-ltb x (ack_count_of state o) l))

-- where something is kept, the output is not failed and did not acknowledge it, and something came
kept-came : (sys : System) (state : Machine) (o x : ℕ) → (kept_recs sys state o x ≡ [] → ⊥) → (ack_count_of state o ≤ x) × (0 < length (came sys state o x))
unfolding came
kept-came sys state o x k = elim (cases_Bool (is_failed state o || nat_lt x (ack_count_of state o))) [
  | inl i ↦ absurd (k (cond-true (is_failed state o || nat_lt x (ack_count_of state o)) [] (sorted_recs (came sys state o x)) i))
  | inr i ↦ (
    ltb-false x (ack_count_of state o) (or_parts (is_failed state o) (nat_lt x (ack_count_of state o)) i).1,
    sorted-none (came sys state o x) (λ e. k (cond-false (is_failed state o || nat_lt x (ack_count_of state o)) [] (sorted_recs (came sys state o x)) i ∙ e)),
  )
]

-- the first number of a list has its recs
first-there : (y : ℕ) (rs : List Rec) (es : List (ℕ × List Rec)) → recs_at_number ((y, rs) ∷ es) y ≡ rs
first-there y rs es =
    ap (λ o. unwrap_or o []) (cond-true (is_at (nat_cmp y) y) (Some rs) (lookup (is_at (nat_cmp y)) es) (ap is_eq (tied_itself nat_cmp_total y)))

-- what has a rec is kept somewhere
some-there : (es : List (ℕ × List Rec)) → AreByNumber es → (es ≡ [] → ⊥) → (y : ℕ) × (recs_at_number es y ≡ [] → ⊥)
some-there [] b k = absurd (k refl)
some-there (e ∷ es) b k = (e.0, gone b.some.0)
  where
    gone : 0 < length e.1 → recs_at_number (e ∷ es) e.0 ≡ [] → ⊥
    gone has none =
        let long : length e.1 ≡ 0 = ap length (sym (first-there e.0 e.1 es) ∙ none) in
        absurd (omega (arith, has, long))

-- ---- epochs

epoch-of : (sources : List (List (List Rec))) (s x : ℕ) → x < length (slice_index_or sources s []) → HasEpoch sources x
epoch-of [] s x l = absurd (omega arith)
epoch-of (batches ∷ sources) zero x l = inl l
epoch-of (batches ∷ sources) (suc s) x l = inr (epoch-of sources s x l)

source-of : (sources : List (List (List Rec))) (x : ℕ) → HasEpoch sources x → (s : ℕ) × (x < length (slice_index_or sources s []))
source-of [] x h = absurd h
source-of (batches ∷ sources) x (inl l) = (0, l)
source-of (batches ∷ sources) x (inr h) = let s = source-of sources x h in (suc s.0, s.1)

-- the greatest number of batches of a source is how many epochs have one
pub greatest_count-epochs : (sys : System) (count : ℕ) → IsGreatestCount sys count → AreEpochs sys count
unfolding batches_of
greatest_count-epochs sys count g x = (
  λ l. epoch-of sys.batches g.some.0 x (let m = g.some.1 in omega (arith, l, m)),
  λ h. let s = source-of sys.batches x h in let l = s.1 in let m = g.most s.0 in omega (arith, l, m),
)

-- ---- whether there is something to acknowledge

something-kept : (sys : System) (state : Machine) (epochs : ℕ) → AreEpochs sys epochs → (o : ℕ) (output : OutputState) → IsOutputOf sys state o output
    → is_failed state o ≡ false → (kind : Kind) → is_output_kind kind ≡ true → (x : ℕ) → x ≡ ack_count_of state o
    → HasSomethingAt sys (events state.history) kind o x → HasSomething epochs output kind x
unfolding came
something-kept sys state epochs k o output b f OutputNumber i x e d = λ none.
    let l : ack_count_of state o ≤ x = omega (arith, e) in
    sorted-some (came sys state o x)
    (finds-also (λ d s. (receiver sys.flow d == o) && same (x ∷ []) s) (λ d s. (receiver sys.flow d == o) && same s (x ∷ [])) (events state.history)
    (to-same sys.flow o (x ∷ [])) d)
    (sym (kept-live sys state o x f l) ∙ sym (b.recs x) ∙ none)
something-kept sys state epochs k o output b f OutputEpoch i x e (inl d) = inl ((k x).1 d)
something-kept sys state epochs k o output b f OutputEpoch i x e (inr d) = inr (λ none.
    let w = found (λ d s. (receiver sys.flow d == o) && leq (x ∷ []) s) (events state.history) d in
    let a = and_parts (receiver sys.flow w.edge == o) (leq (x ∷ []) w.at) w.passes in
    let y = number-above x w.at a.1 in
    let l : ack_count_of state o ≤ y.0 = (let m = y.1 in omega (arith, e, m)) in
    sorted-some (came sys state o y.0)
    (w.finds (λ d s. (receiver sys.flow d == o) && same s (y.0 ∷ []))
    (and_from (receiver sys.flow w.edge == o) (same w.at (y.0 ∷ [])) a.0 (subst (λ s. same s (y.0 ∷ []) ≡ true) (sym y.2) (same-number y.0))))
    (sym (kept-live sys state o y.0 f l) ∙ sym (b.recs y.0) ∙ ap (λ es. recs_at_number es y.0) none))
something-kept sys state epochs k o output b f kind i x e d = absurd (cc)

kept-something : (sys : System) (state : Machine) (epochs : ℕ) → AreEpochs sys epochs → (o : ℕ) (output : OutputState) → AreByNumber output.recs → IsOutputOf sys state o output
    → (kind : Kind) → is_output_kind kind ≡ true → (x : ℕ) → x ≡ ack_count_of state o
    → HasSomething epochs output kind x → HasSomethingAt sys (events state.history) kind o x
unfolding came
kept-something sys state epochs k o output n b OutputNumber i x e d =
    let c = kept-came sys state o x (λ none. d (b.recs x ∙ none)) in
    finds-also (λ d s. (receiver sys.flow d == o) && same s (x ∷ [])) (λ d s. (receiver sys.flow d == o) && same (x ∷ []) s) (events state.history)
    (λ d s j. let a = and_parts (receiver sys.flow d == o) (same s (x ∷ [])) j in
    and_from (receiver sys.flow d == o) (same (x ∷ []) s) a.0 (same-turned s (x ∷ []) a.1)) c.1
kept-something sys state epochs k o output n b OutputEpoch i x e (inl d) = inl ((k x).0 d)
kept-something sys state epochs k o output n b OutputEpoch i x e (inr d) =
    let y = some-there output.recs n d in
    let c = kept-came sys state o y.0 (λ none. y.1 (b.recs y.0 ∙ none)) in
    let l : x ≤ y.0 = (let m = c.0 in omega (arith, e, m)) in
    inr (finds-also (λ d s. (receiver sys.flow d == o) && same s (y.0 ∷ [])) (λ d s. (receiver sys.flow d == o) && leq (x ∷ []) s) (events state.history)
    (λ d s j. let a = and_parts (receiver sys.flow d == o) (same s (y.0 ∷ [])) j in
    and_from (receiver sys.flow d == o) (leq (x ∷ []) s) a.0 (above-same x y.0 s l a.1)) c.1)
kept-something sys state epochs k o output n b kind i x e d = absurd (cc)

-- ---- the law

output-bounds : (flow : Dataflow) (kind : Kind) → is_output_kind kind ≡ true → bounds_of_domain flow (domain_of_kind flow kind) ≡ record { greatest = greatest_number ∷ []; sides = false }
output-bounds flow OutputEpoch i = refl
output-bounds flow OutputNumber i = refl
output-bounds flow kind i = absurd (cc)

node-bounds : (flow : Dataflow) (o : ℕ) → is_output_kind (kind_of flow o) ≡ true → bounds_of flow o ≡ record { greatest = greatest_number ∷ []; sides = false }
unfolding bounds_of
node-bounds flow o i = output-bounds flow (kind_of flow o) i

number-in : (flow : Dataflow) (o x : ℕ) → is_output_kind (kind_of flow o) ≡ true → in_domain (bounds_of flow o) (x ∷ []) ≡ leq (x ∷ []) (greatest_number ∷ [])
number-in flow o x i = ap (λ (b : Bounds). in_domain b (x ∷ [])) (node-bounds flow o i)

in-number : (x : ℕ) → leq (x ∷ []) (greatest_number ∷ []) ≡ true → x < 2 ^ 32
in-number x i = let l = leb-true x greatest_number (and_parts (nat_le x greatest_number) true i).0 in omega arith

number-from : (x : ℕ) → x < 2 ^ 32 → leq (x ∷ []) (greatest_number ∷ []) ≡ true
number-from x l = above-number x greatest_number (omega arith)

can-by_kept : (sys : System) (state : Machine) (epochs : ℕ) → AreEpochs sys epochs → (o : ℕ) (output : OutputState) → IsOutputOf sys state o output
    → (x : ℕ) → MayAcknowledge sys state o x → (x ≡ output.bound) × CanAcknowledgeIn sys state epochs o output
can-by_kept sys state epochs k o output b x m =
    let is : x ≡ output.bound = m.next ∙ sym b.bound in
    let a = and_parts (in_domain (bounds_of sys.flow o) (x ∷ [])) (inside (front_of state.settled o) (x ∷ [])) m.settled in (
      is,
      record {
        there = m.declared;
        live = m.live;
        output = m.output;
        number = subst (λ n. n < 2 ^ 32) is (in-number x (sym (number-in sys.flow o x m.output) ∙ a.0));
        settled = subst (λ n. inside (front_of state.settled o) (n ∷ []) ≡ true) is a.1;
        some = subst (λ n. HasSomething epochs output (kind_of sys.flow o) n) is
            (something-kept sys state epochs k o output b m.live (kind_of sys.flow o) m.output x m.next m.there);
      },
    )

kept-may : (sys : System) (state : Machine) (epochs : ℕ) → AreEpochs sys epochs → (o : ℕ) (output : OutputState) → AreByNumber output.recs → IsOutputOf sys state o output
    → CanAcknowledgeIn sys state epochs o output → MayAcknowledge sys state o output.bound
kept-may sys state epochs k o output n b c = record {
  declared = c.there;
  output = c.output;
  live = c.live;
  next = b.bound;
  settled = and_from (in_domain (bounds_of sys.flow o) (output.bound ∷ [])) (inside (front_of state.settled o) (output.bound ∷ []))
      (number-in sys.flow o output.bound c.output ∙ number-from output.bound c.number) c.settled;
  there = kept-something sys state epochs k o output n b (kind_of sys.flow o) c.output output.bound b.bound c.some;
}

-- an output may acknowledge x exactly where x is its bound and it may by what is kept
pub acknowledges-where_kept : (sys : System) (state : Machine) (epochs : ℕ) → AreEpochs sys epochs
    → (o : ℕ) (output : OutputState) → AreByNumber output.recs → IsOutputOf sys state o output
    → (x : ℕ) → MayAcknowledge sys state o x ↔ ((x ≡ output.bound) × CanAcknowledgeIn sys state epochs o output)
acknowledges-where_kept sys state epochs k o output n b x = (
  can-by_kept sys state epochs k o output b x,
  λ c. subst (MayAcknowledge sys state o) (sym c.0) (kept-may sys state epochs k o output n b c.1),
)

-- where it may not by what is kept, it acknowledges nothing
pub nothing_kept-idle : (sys : System) (state : Machine) (epochs : ℕ) → AreEpochs sys epochs
    → (o : ℕ) (output : OutputState) → IsOutputOf sys state o output
    → (CanAcknowledgeIn sys state epochs o output → ⊥) → IsIdle sys state (Ack o)
nothing_kept-idle sys state epochs k o output b none next effect t = none (can-by_kept sys state epochs k o output b t.0 t.1).1

-- a node that is no output acknowledges nothing
pub only_outputs-acknowledge : (sys : System) (state : Machine) (o : ℕ) → is_output_kind (kind_of sys.flow o) ≡ false → IsIdle sys state (Ack o)
only_outputs-acknowledge sys state o none next effect t = two_ways (is_output_kind (kind_of sys.flow o)) t.1.output none

-- a node acknowledges only where it is an output that may by what is kept
pub acknowledges-only_where : (sys : System) (state : Machine) (epochs : ℕ) → AreEpochs sys epochs
    → (o : ℕ) (output : OutputState) → (is_output_kind (kind_of sys.flow o) ≡ true → IsOutputOf sys state o output)
    → (CanAcknowledgeIn sys state epochs o output → ⊥) → IsIdle sys state (Ack o)
acknowledges-only_where sys state epochs k o output b none next effect t =
    nothing_kept-idle sys state epochs k o output (b t.1.output) none next effect t

-- the recs that are shown are those that are kept
shown-kept : (sys : System) (state : Machine) (o : ℕ) (output : OutputState) → IsOutputOf sys state o output → is_failed state o ≡ false
    → recs_at_output sys state o output.bound ≡ next_recs output
unfolding came
shown-kept sys state o output b f =
    let l : ack_count_of state o ≤ output.bound = (let e = b.bound in omega (arith, e)) in
    sym (b.recs output.bound ∙ kept-live sys state o output.bound f l)

-- where it may by what is kept, it acknowledges its bound and shows the recs that are kept there
pub kept-acknowledged : (sys : System) (state : Machine) (epochs : ℕ) → AreEpochs sys epochs
    → (o : ℕ) (output : OutputState) → AreByNumber output.recs → IsOutputOf sys state o output → CanAcknowledgeIn sys state epochs o output
    → LeadsTo sys state (Ack o) (acknowledged_state state o output.bound) (acked o (output.bound ∷ []) (next_recs output))
kept-acknowledged sys state epochs k o output n b c = (
  output.bound,
  kept-may sys state epochs k o output n b c,
  refl,
  ap (acked o (output.bound ∷ [])) (sym (shown-kept sys state o output b c.live)),
)

-- ---- what is kept then

not-below : (x n : ℕ) → (x ≡ n → ⊥) → nat_lt x (n + 1) ≡ nat_lt x n
not-below x n k = elim (cases_lt x n) [
  | inl l ↦ lt-ltb x (n + 1) (omega arith) ∙ sym (lt-ltb x n l)
  | inr l ↦ le-ltb x (n + 1) (above (cases_eq x n) l) ∙ sym (le-ltb x n l)
]
  where
    above : (x ≡ n) ⊎ (x ≡ n → ⊥) → n ≤ x → n + 1 ≤ x
    above (inl e) l = absurd (k e)
    above (inr e) l = omega (arith, e, l)

-- the recs at x as the bound is
kept_at : System → Machine → ℕ → ℕ → ℕ → List Rec
kept_at sys state o x n = if is_failed state o || nat_lt x n then [] else sorted_recs (came sys state o x)

kept-beyond : (sys : System) (state : Machine) (o x n : ℕ) → x < n → kept_at sys state o x n ≡ []
unfolding kept_at
kept-beyond sys state o x n l =
    cond-true (is_failed state o || nat_lt x n) [] (sorted_recs (came sys state o x)) (or_right (is_failed state o) (nat_lt x n) (lt-ltb x n l))

kept-same : (sys : System) (state : Machine) (o x n : ℕ) → (x ≡ n → ⊥) → kept_at sys state o x (n + 1) ≡ kept_at sys state o x n
unfolding kept_at
kept-same sys state o x n k = ap (λ b. if is_failed state o || b then [] else sorted_recs (came sys state o x)) (not-below x n k)

-- then the output without the recs at its bound, which is one more, is what is kept
pub acknowledged-stands : (sys : System) (state : Machine) → IsReached sys state → (o : ℕ) → o < length sys.flow.nodes
    → (output : OutputState) → AreByNumber output.recs → IsOutputOf sys state o output
    → IsOutputOf sys (acknowledged_state state o output.bound) o (acknowledged output)
unfolding kept_at came
acknowledged-stands sys state r o l output n b =
    let at : ack_count_of (acknowledged_state state o output.bound) o ≡ output.bound + 1 =
    get_or-set_same state.ack_counts o (output.bound + 1) 0 (let e = reached-bounds sys state r in omega (arith, e, l)) in
    record {
      bound = sym at;
      recs = λ x. elim (cases_eq x output.bound) [
        | inl e ↦
            let below : x < output.bound + 1 = omega (arith, e) in
            ap (recs_at_number (acknowledged output).recs) e ∙ recs_at-removed output.bound output.recs n.ordered
            ∙ sym (kept-beyond sys state o x (output.bound + 1) below)
            ∙ ap (kept_at sys state o x) (sym at)
        | inr e ↦
            recs_at-removed_apart output.bound x output.recs e ∙ b.recs x
            ∙ ap (kept_at sys state o x) (sym b.bound)
            ∙ sym (kept-same sys state o x output.bound e)
            ∙ ap (kept_at sys state o x) (sym at)
      ];
    }

-- ---- the rest

-- an acknowledgement leaves all other parts as they were
pub acknowledgement-keeps : (sys : System) (state : Machine) (o x : ℕ) → KeepsAllButOutput sys state (acknowledged_state state o x) o
unfolding kept_at came
acknowledgement-keeps sys state o x =
    let at : (q : ℕ) → (q ≡ o → ⊥) → ack_count_of (acknowledged_state state o x) q ≡ ack_count_of state q = λ q k. get_or-set_other state.ack_counts o q (x + 1) 0 k in
    record {
      others = λ q k output b. record {
        bound = b.bound ∙ sym (at q k);
        recs = λ y. b.recs y ∙ ap (kept_at sys state q y) (sym (at q k));
      };
      tables = λ p table t. record { there = t.there; of_events = t.of_events };
      queues = λ e. refl;
      logs = λ e. refl;
      sources = λ s source t. record { given = t.given; injected = t.injected; held = t.held };
      traces = λ floor p traces t. t;
      lost = λ p t. (
        λ a. (a.0, record { event = a.1.event; there = a.1.there; is = a.1.is; not_logged = a.1.not_logged }),
        λ a. (a.0, record { event = a.1.event; there = a.1.there; is = a.1.is; not_logged = a.1.not_logged }),
      );
    }

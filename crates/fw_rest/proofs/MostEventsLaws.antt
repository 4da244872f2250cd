-- How many events a legal history has at most.
use Rattle.std.proofs.Common.{◌≡◌, ℕ, zero, suc, ◌+◌, ◌<◌, ◌≤◌, true, false, not, ◌&&◌, ◌==◌, cond, List, [], ◌∷◌, ◌++◌, length, get_or, refl, sym, ap, subst, ◌∙◌, inl, inr, arith}
use Rattle.std.specs.List.{range_with_len}
use Rattle.std.proofs.lemmas.List.{get_or_past}
use Rattle.std.proofs.lemmas.Bool.{cases_Bool, cases_lt, and_parts, and_from, or_cases, or_parts, eqb-true, eq-eqb, false_from_ne_true, cond_both}
use Rattle.fw_lemmas.proofs.Bools.{two_ways}
use Rattle.fw_time.specs.Stamp.{Stamp, same}
use Rattle.fw_bag.specs.declared.rec.Rec.{Rec}
use Rattle.fw_flow.specs.declared.event.Event.{Event}
use Rattle.fw_flow.specs.declared.event.Event.TheVariants.{Inject, Deliver, Notify}
use Rattle.fw_flow.specs.declared.event.Message.{Message}
use Rattle.fw_flow.specs.declared.node.Node.{Node}
use Rattle.fw_flow.specs.Dataflow.{System, Dataflow, idle_node, kind_of, receiver, batches_of, is_input_kind, is_notified_kind, node_ids}
use Rattle.fw_flow.specs.WellFormed.{IsWellFormedSystem}
use Rattle.fw_flow.specs.WholeBags.{Timed}
use Rattle.fw_model.specs.Auto.{edge_ids}
use Rattle.fw_model.specs.Denotation.{Family, IsDenotation}
use Rattle.fw_model.specs.History.{some_at, delivered_messages, pending_messages, was_delivered_to, was_notified, is_owed_notice, injected_count, IsDeliverable, IsLegal}
use Rattle.fw_model.proofs.DescentLaws.{past_edges-quiet}
use Rattle.fw_model.proofs.InputLaws.{injected-few}
use Rattle.fw_model.proofs.LedgerLaws.{length-timed_of}
use Rattle.fw_model.proofs.PendingLaws.{is_among-some_at}
use Rattle.fw_model.proofs.SentLaws.{timed_of}
use Rattle.fw_model.proofs.StampLaws.{same-is, same-from}
use Rattle.fw_model.proofs.SubBagLaws.{delivered_within}
use Rattle.fw_model.proofs.WeightLaws.{weigh, weigh-less, is_at, is_at-is, is_at-self, at_stamp, one, one-in, one-out}
use Rattle.fw_rest.specs.StepsToRest.{sum_over, most_events}

-- ---- sums over places

pub sum-at_most : (f g : ℕ → ℕ) → ((p : ℕ) → f p ≤ g p) → (ps : List ℕ) → sum_over f ps ≤ sum_over g ps
sum-at_most f g h [] = omega arith
sum-at_most f g h (p ∷ ps) = let a = h p in let b = sum-at_most f g h ps in omega arith

-- where the number at one place rises, and none falls, the sum rises
pub sum-rises : (f g : ℕ → ℕ) → ((p : ℕ) → f p ≤ g p) → (q : ℕ) → f q < g q → (n a : ℕ) → a ≤ q → q < a + n
    → sum_over f (range_with_len a n) < sum_over g (range_with_len a n)
sum-rises f g h q l zero a i j = absurd (omega arith)
sum-rises f g h q l (suc n) a i j = elim (cases_lt a q) [
  | inl k ↦ let b = sum-rises f g h q l n (a + 1) (omega arith) (omega arith) in let c = h a in omega arith
  | inr k ↦
      let e : q ≡ a = omega arith in
      let d : f a < g a = subst (λ p. f p < g p) e l in
      let b = sum-at_most f g h (range_with_len (a + 1) n) in
      omega arith
]

-- ---- the events of a history, by what they are

-- how many of the events are injections
how_many_injected : List Event → ℕ
how_many_injected [] = 0
how_many_injected (Inject s x ∷ h) = suc (how_many_injected h)
how_many_injected (Deliver e m ∷ h) = how_many_injected h
how_many_injected (Notify p t ∷ h) = how_many_injected h

-- how many are deliveries
how_many_delivered : List Event → ℕ
how_many_delivered [] = 0
how_many_delivered (Inject s x ∷ h) = how_many_delivered h
how_many_delivered (Deliver e m ∷ h) = suc (how_many_delivered h)
how_many_delivered (Notify p t ∷ h) = how_many_delivered h

-- a node and a stamp, as one stamp with a rec that says nothing
abbrev mark : ℕ → Stamp → Timed
mark p t = record { at = p ∷ t; rec = record { key = 0; value = 0 } }

-- the marks of the deliveries, and of the notifications
arrivals : Dataflow → List Event → List Timed
arrivals flow [] = []
arrivals flow (Inject s x ∷ h) = arrivals flow h
arrivals flow (Deliver e m ∷ h) = mark (receiver flow e) m.at ∷ arrivals flow h
arrivals flow (Notify p t ∷ h) = arrivals flow h

notices : List Event → List Timed
notices [] = []
notices (Inject s x ∷ h) = notices h
notices (Deliver e m ∷ h) = notices h
notices (Notify p t ∷ h) = mark p t ∷ notices h

each-counted : (h : List Event) → length h ≡ how_many_injected h + how_many_delivered h + length (notices h)
unfolding how_many_injected how_many_delivered notices
each-counted [] = refl
each-counted (Inject s x ∷ h) = let i = each-counted h in omega arith
each-counted (Deliver e m ∷ h) = let i = each-counted h in omega arith
each-counted (Notify p t ∷ h) = let i = each-counted h in omega arith

arrivals-counted : (flow : Dataflow) (h : List Event) → length (arrivals flow h) ≡ how_many_delivered h
unfolding how_many_delivered arrivals
arrivals-counted flow [] = refl
arrivals-counted flow (Inject s x ∷ h) = arrivals-counted flow h
arrivals-counted flow (Deliver e m ∷ h) = ap suc (arrivals-counted flow h)
arrivals-counted flow (Notify p t ∷ h) = arrivals-counted flow h

-- ---- no more notifications than deliveries

-- how often the mark is among these
abbrev often : Timed → List Timed → ℕ
often x xs = weigh (one x.at x.rec) xs

mark-one : (x : Timed) → one x.at x.rec x ≡ 1
mark-one x = one-in x.at x.rec x (is_at-self x)

-- another mark weighs nothing
mark-other : (p q : ℕ) (s t : Stamp) → (q == p && same s t) ≡ false → one (p ∷ t) (record { key = 0; value = 0 }) (mark q s) ≡ 0
mark-other p q s t k = one-out (p ∷ t) (record { key = 0; value = 0 }) (mark q s) (false_from_ne_true _ (λ i.
    let e : at_stamp (p ∷ t) (record { key = 0; value = 0 }) ≡ mark q s = is_at-is (p ∷ t) (record { key = 0; value = 0 }) (mark q s) i in
    let at : p ∷ t ≡ q ∷ s = ap (λ (x : Timed). x.at) e in
    let node : q ≡ p = sym (ap (λ u. get_or u 0 0) at) in
    let stamp : s ≡ t = sym (ap rest_of at) in
    two_ways (q == p && same s t) (and_from (q == p) (same s t) (eq-eqb q p node) (same-from s t stamp)) k))
  where
    rest_of : Stamp → Stamp
    rest_of [] = []
    rest_of (x ∷ u) = u

notices-none : (p : ℕ) (t : Stamp) (h : List Event) → was_notified p t h ≡ false → often (mark p t) (notices h) ≡ 0
unfolding weigh notices
notices-none p t [] k = refl
notices-none p t (Inject s x ∷ h) k = notices-none p t h k
notices-none p t (Deliver e m ∷ h) k = notices-none p t h k
notices-none p t (Notify q s ∷ h) k =
    let a = or_parts (q == p && same s t) (was_notified p t h) k in
    let z = mark-other p q s t a.0 in
    let i = notices-none p t h a.1 in
    omega arith

arrivals-some : (flow : Dataflow) (p : ℕ) (t : Stamp) (h : List Event) → was_delivered_to flow p t h ≡ true → 0 < often (mark p t) (arrivals flow h)
unfolding weigh arrivals
arrivals-some flow p t [] k = absurd (cc)
arrivals-some flow p t (Inject s x ∷ h) k = arrivals-some flow p t h k
arrivals-some flow p t (Notify q s ∷ h) k = arrivals-some flow p t h k
arrivals-some flow p t (Deliver e m ∷ h) k = elim (or_cases (receiver flow e == p && same m.at t) (was_delivered_to flow p t h) k) [
  | inl i ↦
      let a = and_parts (receiver flow e == p) (same m.at t) i in
      let x : mark (receiver flow e) m.at ≡ mark p t = ap (λ q. mark q m.at) (eqb-true (receiver flow e) p a.0) ∙ ap (λ u. mark p u) (same-is m.at t a.1) in
      let z : one (p ∷ t) (record { key = 0; value = 0 }) (mark (receiver flow e) m.at) ≡ 1 = ap (one (p ∷ t) (record { key = 0; value = 0 })) x ∙ mark-one (mark p t) in
      omega arith
  | inr i ↦ let b = arrivals-some flow p t h i in omega arith
]

notices-within : (sys : System) (h : List Event) → IsLegal sys h → (u : Stamp) (r : Rec) → weigh (one u r) (notices h) ≤ weigh (one u r) (arrivals sys.flow h)
unfolding weigh notices arrivals
notices-within sys [] l u r = omega arith
notices-within sys (Inject s x ∷ h) l u r = notices-within sys h l.1 u r
notices-within sys (Deliver e m ∷ h) l u r = let i = notices-within sys h l.1 u r in omega arith
notices-within sys (Notify p t ∷ h) l u r =
    let before = notices-within sys h l.1 u r in
    let owed = l.0.is_owed in
    let a = and_parts (is_notified_kind (kind_of sys.flow p) && was_delivered_to sys.flow p t h) (not (was_notified p t h)) owed in
    let b = and_parts (is_notified_kind (kind_of sys.flow p)) (was_delivered_to sys.flow p t h) a.0 in
    let never : was_notified p t h ≡ false = false_from_ne_true (was_notified p t h) (λ k. two_ways (not (was_notified p t h)) a.1 (ap not k)) in
    let none = notices-none p t h never in
    let some = arrivals-some sys.flow p t h b.1 in
    elim (cases_Bool (is_at u r (mark p t))) [
      | inl e ↦
          let x : at_stamp u r ≡ mark p t = is_at-is u r (mark p t) e in
          let c : weigh (one u r) (notices h) ≡ often (mark p t) (notices h) = ap (λ (y : Timed). often y (notices h)) x in
          let d : weigh (one u r) (arrivals sys.flow h) ≡ often (mark p t) (arrivals sys.flow h) = ap (λ (y : Timed). often y (arrivals sys.flow h)) x in
          let z = one-in u r (mark p t) e in
          omega arith
      | inr e ↦ let z = one-out u r (mark p t) e in omega arith
    ]

pub weigh-length : {A : Type 0} (xs : List A) → weigh (λ x. 1) xs ≡ length xs
unfolding weigh
weigh-length [] = refl
weigh-length (x ∷ xs) = let h = weigh-length xs in omega arith

notices-few : (sys : System) (h : List Event) → IsLegal sys h → length (notices h) ≤ how_many_delivered h
notices-few sys h l =
    let a = weigh-less (λ x. 1) (notices h) (arrivals sys.flow h) (λ u r k. notices-within sys h l u r) in
    let b = weigh-length (notices h) in
    let c = weigh-length (arrivals sys.flow h) in
    let d = arrivals-counted sys.flow h in
    omega arith

-- ---- no more deliveries than recs

delivered-longer : (e d : ℕ) (h : List Event) (m : Message) → length (delivered_messages h d) ≤ length (delivered_messages (Deliver e m ∷ h) d)
delivered-longer e d h m =
    cond_both (e == d) (m ∷ []) [] (λ ms. length (delivered_messages h d) ≤ length (ms ++ delivered_messages h d)) (λ k. omega arith) (λ k. omega arith)

pub edge-declared : (sys : System) (h : List Event) (e : ℕ) (m : Message) → IsDeliverable sys h e m → e < length sys.flow.edges
edge-declared sys h e m k = elim (cases_lt e (length sys.flow.edges)) [
  | inl l ↦ l
  | inr l ↦ absurd (two_ways (some_at (same m.at) (pending_messages sys h e)) (is_among-some_at m (pending_messages sys h e) k.is_pending) (past_edges-quiet sys h e m.at l))
]

delivered-all : (sys : System) (h : List Event) → IsLegal sys h → how_many_delivered h ≤ sum_over (λ e. length (delivered_messages h e)) (edge_ids sys.flow)
unfolding how_many_delivered
delivered-all sys [] l = omega arith
delivered-all sys (Inject s x ∷ h) l = delivered-all sys h l.1
delivered-all sys (Notify p t ∷ h) l = delivered-all sys h l.1
delivered-all sys (Deliver e m ∷ h) l =
    let before = delivered-all sys h l.1 in
    let now : delivered_messages (Deliver e m ∷ h) e ≡ m ∷ delivered_messages h e = ap (λ b. cond b (m ∷ []) [] ++ delivered_messages h e) (eq-eqb e e refl) in
    let longer = ap length now in
    let there = edge-declared sys h e m l.0 in
    let more = sum-rises (λ d. length (delivered_messages h d)) (λ d. length (delivered_messages (Deliver e m ∷ h) d)) (λ d. delivered-longer e d h m) e (omega arith)
    (length sys.flow.edges) 0 (omega arith) (omega arith) in
    omega arith

-- no more messages are delivered on an edge than the family has recs there
pub delivered-few : (sys : System) (h : List Event) (family : Family) → IsWellFormedSystem sys → IsLegal sys h → IsDenotation sys family
    → (e : ℕ) → length (delivered_messages h e) ≤ length (family e)
delivered-few sys h family w l den e =
    let a = weigh-less (λ x. 1) (timed_of (delivered_messages h e)) (family e) (λ t q k. delivered_within sys h family w l den e t q) in
    let b = weigh-length (timed_of (delivered_messages h e)) in
    let c = weigh-length (family e) in
    let d = length-timed_of (delivered_messages h e) in
    omega arith

-- ---- no more injections than batches

pub input-declared : (flow : Dataflow) (p : ℕ) → is_input_kind (kind_of flow p) ≡ true → p < length flow.nodes
unfolding kind_of
input-declared flow p k = elim (cases_lt p (length flow.nodes)) [
  | inl l ↦ l
  | inr l ↦ absurd (two_ways _ k (ap (λ (n : Node). is_input_kind n.kind) (get_or_past flow.nodes p idle_node l)))
]

pub notified-declared : (sys : System) (h : List Event) (p : ℕ) (t : Stamp) → is_owed_notice sys h p t ≡ true → p < length sys.flow.nodes
unfolding kind_of
notified-declared sys h p t k = elim (cases_lt p (length sys.flow.nodes)) [
  | inl l ↦ l
  | inr l ↦ absurd (two_ways _ k
      (ap (λ (n : Node). is_notified_kind n.kind && was_delivered_to sys.flow p t h && not (was_notified p t h)) (get_or_past sys.flow.nodes p idle_node l)))
]

injected-all : (sys : System) (h : List Event) → IsLegal sys h → how_many_injected h ≤ sum_over (λ p. injected_count p h) (node_ids sys.flow)
unfolding how_many_injected
injected-all sys [] l = omega arith
injected-all sys (Deliver e m ∷ h) l = injected-all sys h l.1
injected-all sys (Notify p t ∷ h) l = injected-all sys h l.1
injected-all sys (Inject s x ∷ h) l =
    let before = injected-all sys h l.1 in
    let now : injected_count s (Inject s x ∷ h) ≡ injected_count s h + 1 = ap (λ b. cond b (injected_count s h + 1) (injected_count s h)) (eq-eqb s s refl) in
    let there = input-declared sys.flow s l.0.input in
    let longer : (p : ℕ) → injected_count p h ≤ injected_count p (Inject s x ∷ h) =
    λ p. cond_both (s == p) (injected_count p h + 1) (injected_count p h) (λ n. injected_count p h ≤ n) (λ k. omega arith) (λ k. omega arith) in
    let more = sum-rises (λ p. injected_count p h) (λ p. injected_count p (Inject s x ∷ h)) longer s (omega arith) (length sys.flow.nodes) 0 (omega arith) (omega arith) in
    omega arith

-- ---- in all

pub few_events : (sys : System) (h : List Event) (family : Family) → IsWellFormedSystem sys → IsLegal sys h → IsDenotation sys family
    → length h ≤ most_events sys family
few_events sys h family w l den =
    let a = each-counted h in
    let b = notices-few sys h l in
    let c = delivered-all sys h l in
    let d = sum-at_most (λ e. length (delivered_messages h e)) (λ e. length (family e)) (λ e. delivered-few sys h family w l den e) (edge_ids sys.flow) in
    let f = injected-all sys h l in
    let g = sum-at_most (λ p. injected_count p h) (λ p. length (batches_of sys p)) (λ p. injected-few sys h l p) (node_ids sys.flow) in
    omega arith

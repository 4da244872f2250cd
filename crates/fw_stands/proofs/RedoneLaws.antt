-- The events of a node that are left can be done once more.
use Rattle.std.proofs.Common.{◌≡◌, ℕ, ◌<◌, Bool, true, false, not, ◌&&◌, ◌||◌, ◌==◌, List, [], ◌∷◌, length, filter, refl, sym, ap, subst, ◌∙◌, inl, inr}
use Rattle.std.specs.List.{AllByRecursion}
use Rattle.std.proofs.lemmas.Bool.{and_parts, and_from, or_cases, or_left, or_right, cond_both, eqb-true, eq-eqb, cases_Bool, false_from_ne_true}
use Rattle.fw_lemmas.proofs.Bools.{two_ways}
use Rattle.fw_lemmas.proofs.Each.{each-weaker}
use Rattle.fw_lemmas.proofs.Filters.{filter-in, filter-out}
use Rattle.fw_time.specs.Stamp.{Stamp, leq, same, in_domain}
use Rattle.fw_frontier.specs.Frontier.{Frontier}
use Rattle.fw_frontier.specs.Front.{Front}
use Rattle.fw_flow.specs.declared.event.Event.{Event}
use Rattle.fw_flow.specs.declared.event.Event.TheVariants.{Inject, Deliver, Notify}
use Rattle.fw_flow.specs.Kind.{Kind}
use Rattle.fw_flow.specs.declared.kind.Kind.TheVariants.{Input, Total}
use Rattle.fw_flow.specs.declared.kind.Policy.{Policy}
use Rattle.fw_flow.specs.declared.kind.Policy.TheVariants as policy
use Rattle.fw_flow.specs.Dataflow.{System, Dataflow, kind_of, policy_of, receiver, in_edges, greatest_number, bounds_of, is_input_kind, is_notified_kind, is_one_of, node_frontier, HasEpochs}
use Rattle.fw_flow.specs.NodeFunction.{event_node, event_stamp}
use Rattle.fw_flow.specs.Projection.{events_at}
use Rattle.fw_flow.specs.WellFormed.{IsWellFormed, IsPolicyAllowed}
use Rattle.fw_flow.proofs.EdgeLaws.{in_edges-at}
use Rattle.fw_flow.specs.declared.choice.Choice.{Choice}
use Rattle.fw_flow.specs.declared.choice.Cut.TheVariants.{At}
use Rattle.fw_model.specs.Filtering.{events_inside}
use Rattle.fw_model.specs.History.{was_delivered_to, was_notified, IsEnabled, IsLegal}
use Rattle.fw_model.specs.LawsOfReplay.{not_given_up, replayed_events}
use Rattle.fw_model.specs.Machine.{events, is_failed, Machine}
use Rattle.fw_model.specs.Told.{is_told, EachDelivery, IsSumOfTold}
use Rattle.fw_model.proofs.ClosedLaws.{settled-outside}
use Rattle.fw_model.proofs.LegalLaws.{enabled-in_domain, legal-in_domain}
use Rattle.fw_model.proofs.NotifiedLaws.{notified-settled}
use Rattle.fw_model.proofs.OrderLaws.{either_way}
use Rattle.fw_model.proofs.RecoveryLaws.{edge-there}
use Rattle.fw_model.proofs.ReplayLaws.{replayed-those}
use Rattle.fw_model.proofs.RestoringLaws.{full-declared}
use Rattle.fw_model.proofs.StampLaws.{same-is, same-from}
use Rattle.fw_model.proofs.ToldLaws.{after-notice, deliveries_lie-inside, paid-told, same-recs, bounds-total, lesser-from}
use Rattle.fw_model.specs.Choice.{cut_of}
use Rattle.fw_stands.specs.Redone.{CanBeRedone}
use Rattle.fw_stands.proofs.RecoveredFacts.{knows}
use Rattle.fw_stands.specs.Recovered.{Recovers}

-- ---- what was told, and what part of the events tells

-- what a part of the events tells, all of them tell
pub told-kept : (k : Frontier) (vs : List Event) (s : Stamp) → is_told (events_inside k vs) s ≡ true → is_told vs s ≡ true
told-kept k [] s i = i
told-kept k (Inject q x ∷ vs) s i =
    told-kept k vs s (cond_both (k (x ∷ [])) (Inject q x ∷ events_inside k vs) (events_inside k vs) (λ ws. is_told ws s ≡ true → is_told (events_inside k vs) s ≡ true) (λ e j. j) (λ e j. j) i)
told-kept k (Deliver d m ∷ vs) s i =
    told-kept k vs s (cond_both (k m.at) (Deliver d m ∷ events_inside k vs) (events_inside k vs) (λ ws. is_told ws s ≡ true → is_told (events_inside k vs) s ≡ true) (λ e j. j) (λ e j. j) i)
told-kept k (Notify q t ∷ vs) s i =
    let rest = events_inside k vs in
    cond_both (k t) (Notify q t ∷ rest) rest (λ ws. is_told ws s ≡ true → is_told (Notify q t ∷ vs) s ≡ true)
    (λ e j. elim (or_cases (same s t) (is_told rest s) j) [
      | inl c ↦ or_left (same s t) (is_told vs s) c
      | inr c ↦ or_right (same s t) (is_told vs s) (told-kept k vs s c)
    ])
    (λ e j. or_right (same s t) (is_told vs s) (told-kept k vs s j)) i

-- what all events tell of a stamp inside, those inside tell
pub told-inside : (k : Frontier) (vs : List Event) (s : Stamp) → k s ≡ true → is_told vs s ≡ true → is_told (events_inside k vs) s ≡ true
told-inside k [] s c i = i
told-inside k (Inject q x ∷ vs) s c i =
    let rest = told-inside k vs s c i in
    cond_both (k (x ∷ [])) (Inject q x ∷ events_inside k vs) (events_inside k vs) (λ ws. is_told ws s ≡ true) (λ e. rest) (λ e. rest)
told-inside k (Deliver d m ∷ vs) s c i =
    let rest = told-inside k vs s c i in
    cond_both (k m.at) (Deliver d m ∷ events_inside k vs) (events_inside k vs) (λ ws. is_told ws s ≡ true) (λ e. rest) (λ e. rest)
told-inside k (Notify q t ∷ vs) s c i =
    let rest = events_inside k vs in
    cond_both (k t) (Notify q t ∷ rest) rest (λ ws. is_told ws s ≡ true)
    (λ e. elim (or_cases (same s t) (is_told vs s) i) [
      | inl j ↦ or_left (same s t) (is_told rest s) j
      | inr j ↦ or_right (same s t) (is_told rest s) (told-inside k vs s c j)
    ])
    (λ e. elim (or_cases (same s t) (is_told vs s) i) [
      | inl j ↦ absurd (two_ways (k t) (ap k (sym (same-is s t j)) ∙ c) e)
      | inr j ↦ told-inside k vs s c j
    ])

swap : (s t : Stamp) → same s t ≡ true → same t s ≡ true
swap s t i = let a = and_parts (leq s t) (leq t s) i in and_from (leq t s) (leq s t) a.1 a.0

-- one that was told was notified
pub told-notified : (flow : Dataflow) (p : ℕ) (s : Stamp) (h : List Event) → is_told (events_at flow p h) s ≡ true → was_notified p s h ≡ true
told-notified flow p s [] n = n
told-notified flow p s (Inject q x ∷ h) n =
    let vs = events_at flow p h in
    told-notified flow p s h (cond_both (q == p) (Inject q x ∷ vs) vs (λ ws. is_told ws s ≡ true → is_told vs s ≡ true) (λ e j. j) (λ e j. j) n)
told-notified flow p s (Deliver d m ∷ h) n =
    let vs = events_at flow p h in
    told-notified flow p s h (cond_both (receiver flow d == p) (Deliver d m ∷ vs) vs (λ ws. is_told ws s ≡ true → is_told vs s ≡ true) (λ e j. j) (λ e j. j) n)
told-notified flow p s (Notify q t ∷ h) n =
    let vs = events_at flow p h in
    cond_both (q == p) (Notify q t ∷ vs) vs (λ ws. is_told ws s ≡ true → was_notified p s (Notify q t ∷ h) ≡ true)
    (λ e j. elim (or_cases (same s t) (is_told vs s) j) [
      | inl i ↦ or_left (q == p && same t s) (was_notified p s h) (and_from (q == p) (same t s) e (swap s t i))
      | inr i ↦ or_right (q == p && same t s) (was_notified p s h) (told-notified flow p s h i)
    ])
    (λ e j. or_right (q == p && same t s) (was_notified p s h) (told-notified flow p s h j)) n

-- ---- deliveries

pub each-delivery_both : (P Q : Stamp → Type 0) (vs : List Event) → EachDelivery P vs → EachDelivery Q vs → EachDelivery (λ s. P s × Q s) vs
each-delivery_both P Q [] a b = tt
each-delivery_both P Q (Inject s x ∷ vs) a b = each-delivery_both P Q vs a b
each-delivery_both P Q (Deliver d m ∷ vs) a b = ((a.0, b.0), each-delivery_both P Q vs a.1 b.1)
each-delivery_both P Q (Notify q t ∷ vs) a b = each-delivery_both P Q vs a b

pub each-delivery_weaker : (P Q : Stamp → Type 0) (vs : List Event) → ((s : Stamp) → P s → Q s) → EachDelivery P vs → EachDelivery Q vs
each-delivery_weaker P Q [] f a = tt
each-delivery_weaker P Q (Inject s x ∷ vs) f a = each-delivery_weaker P Q vs f a
each-delivery_weaker P Q (Deliver d m ∷ vs) f a = (f m.at a.0, each-delivery_weaker P Q vs f a.1)
each-delivery_weaker P Q (Notify q t ∷ vs) f a = each-delivery_weaker P Q vs f a

-- each delivery among the events of a node inside a test was delivered to it
pub delivered-there : (flow : Dataflow) (p : ℕ) (k : Frontier) (P : Stamp → Type 0) (h : List Event) → ((s : Stamp) → was_delivered_to flow p s h ≡ true → P s)
    → EachDelivery P (events_inside k (events_at flow p h))
delivered-there flow p k P [] f = tt
delivered-there flow p k P (Inject q x ∷ h) f =
    let vs = events_at flow p h in
    let rest = delivered-there flow p k P h f in
    cond_both (q == p) (Inject q x ∷ vs) vs (λ ws. EachDelivery P (events_inside k ws))
    (λ e. cond_both (k (x ∷ [])) (Inject q x ∷ events_inside k vs) (events_inside k vs) (EachDelivery P) (λ i. rest) (λ i. rest)) (λ e. rest)
delivered-there flow p k P (Deliver d m ∷ h) f =
    let vs = events_at flow p h in
    let here : Stamp → Bool = λ s. receiver flow d == p && same m.at s in
    let rest = delivered-there flow p k P h (λ s i. f s (or_right (here s) (was_delivered_to flow p s h) i)) in
    cond_both (receiver flow d == p) (Deliver d m ∷ vs) vs (λ ws. EachDelivery P (events_inside k ws))
    (λ e. cond_both (k m.at) (Deliver d m ∷ events_inside k vs) (events_inside k vs) (EachDelivery P)
    (λ i. (f m.at (or_left (here m.at) (was_delivered_to flow p m.at h) (and_from (receiver flow d == p) (same m.at m.at) e (same-from m.at m.at refl))), rest))
    (λ i. rest))
    (λ e. rest)
delivered-there flow p k P (Notify q t ∷ h) f =
    let vs = events_at flow p h in
    let rest = delivered-there flow p k P h f in
    cond_both (q == p) (Notify q t ∷ vs) vs (λ ws. EachDelivery P (events_inside k ws))
    (λ e. cond_both (k t) (Notify q t ∷ events_inside k vs) (events_inside k vs) (EachDelivery P) (λ i. rest) (λ i. rest)) (λ e. rest)

-- ---- a total's sums

both-tests : (a b d : Bool) → (a ≡ true → b ≡ false → d ≡ true) → (b ≡ true → a ≡ true) → (d ≡ true → a ≡ true) → a ≡ (b || d)
both-tests true true d f g k = refl
both-tests true false d f g k = sym (f refl refl)
both-tests false true d f g k = g refl
both-tests false false true f g k = k refl
both-tests false false false f g k = refl

-- where a total may be notified of an epoch, what came up to it, among the events inside, came at it or at an epoch that was told
sums-inside : (sys : System) (h : List Event) → IsWellFormed sys.flow → HasEpochs sys → IsLegal sys h → (p : ℕ) → kind_of sys.flow p ≡ Total
    → (k : Frontier) (t : Stamp) → IsEnabled sys h (Notify p t) → IsSumOfTold (λ s. false) (events_inside k (events_at sys.flow p h)) t
sums-inside sys h w b l p is k t enabled =
    let vs = events_at sys.flow p h in
    let us = events_inside k vs in
    let n : is_notified_kind (kind_of sys.flow p) ≡ true = ap is_notified_kind is in
    let line : (u : Stamp) → in_domain (bounds_of sys.flow p) u ≡ true → leq u (greatest_number ∷ []) ≡ true =
    λ u d. sym (ap (λ c. in_domain c u) (bounds-total sys.flow p is)) ∙ d in
    let here = line t (enabled-in_domain sys h w b (legal-in_domain sys h w b l) (Notify p t) enabled) in
    let Inside : Stamp → Type 0 = λ s. (k s ≡ true) × (in_domain (bounds_of sys.flow p) s ≡ true) in
    let Came : Stamp → Type 0 = λ s. was_delivered_to sys.flow p s h ≡ true in
    let below : (s : Stamp) → in_domain (bounds_of sys.flow p) s ≡ true → is_told vs s ≡ true → leq s t ≡ true =
    λ s d i. elim (either_way greatest_number s t (line s d) here) [
      | inl j ↦ j
      | inr j ↦ absurd (two_ways (p == p && leq t s) (and_from (p == p) (leq t s) (eq-eqb p p refl) j)
          (settled-outside sys h p s n (notified-settled sys h w b l p s (told-notified sys.flow p s h i)) (Notify p t) enabled))
    ] in
    same-recs (λ s. leq s t) (λ s. same s t || (false || is_told us s)) us
    (each-delivery_weaker (λ s. Inside s × Came s) (λ s. leq s t ≡ (same s t || (false || is_told us s))) us
    (λ s a. both-tests (leq s t) (same s t) (is_told us s)
    (λ i j. told-inside k vs s a.0.0 (paid-told sys h p s n a.1 (enabled.none_lesser s (lesser-from s t i j))))
    (λ i. (and_parts (leq s t) (leq t s) i).0)
    (λ i. below s a.0.1 (told-kept k vs s i)))
    (each-delivery_both Inside Came us (deliveries_lie-inside sys h w b l p k) (delivered-there sys.flow p k Came h (λ s i. i))))

-- ---- the events inside, one after the other

-- on an in-edge of its node something is delivered
each_among : (xs : List ℕ) → AllByRecursion (λ d. is_one_of d xs ≡ true) xs
each_among [] = tt
each_among (x ∷ xs) = (
  or_left (x == x) (is_one_of x xs) (eq-eqb x x refl),
  each-weaker (λ d. is_one_of d xs ≡ true) (λ d. ((x == d) || is_one_of d xs) ≡ true) xs (λ d h. or_right (x == d) (is_one_of d xs) h) (each_among xs),
)

pub received-on : (flow : Dataflow) (p e : ℕ) → p < length flow.nodes → receiver flow e ≡ p → is_one_of e (in_edges flow p) ≡ true
received-on flow p e l is = in_edges-at (λ d. is_one_of d (in_edges flow p) ≡ true) flow p (each_among (in_edges flow p)) e (edge-there flow e p is l) is

untold : (k : Frontier) (vs : List Event) (s : Stamp) → is_told vs s ≡ false → is_told (events_inside k vs) s ≡ false
untold k vs s o = false_from_ne_true (is_told (events_inside k vs) s) (λ i. two_ways (is_told vs s) (told-kept k vs s i) o)

notified-enabled : (sys : System) (h : List Event) (q : ℕ) (t : Stamp) → IsEnabled sys h (Notify q t) → is_notified_kind (kind_of sys.flow q) ≡ true
notified-enabled sys h q t k =
    let a = and_parts (is_notified_kind (kind_of sys.flow q) && was_delivered_to sys.flow q t h) (not (was_notified q t h)) k.is_owed in
    (and_parts (is_notified_kind (kind_of sys.flow q)) (was_delivered_to sys.flow q t h) a.0).0

-- an event that came next can be done after those inside that were before it
redone-next : (sys : System) (h : List Event) → IsWellFormed sys.flow → HasEpochs sys → IsLegal sys h → (p : ℕ) → p < length sys.flow.nodes
    → is_input_kind (kind_of sys.flow p) ≡ false → (k : Frontier) (v : Event) → IsEnabled sys h v → event_node sys.flow v ≡ p
    → CanBeRedone sys.flow p (events_inside k (events_at sys.flow p h)) → CanBeRedone sys.flow p (v ∷ events_inside k (events_at sys.flow p h))
redone-next sys h w b l p lp n k (Inject s x) enabled e before =
    absurd (two_ways (is_input_kind (kind_of sys.flow p)) (ap (λ q. is_input_kind (kind_of sys.flow q)) (sym e) ∙ enabled.input) n)
redone-next sys h w b l p lp n k (Deliver d m) enabled e before = (
  received-on sys.flow p d lp e,
  λ i. untold k (events_at sys.flow p h) m.at (after-notice sys h w b l p i (Deliver d m) enabled e),
  before,
)
redone-next sys h w b l p lp n k (Notify q t) enabled e before =
    let i : is_notified_kind (kind_of sys.flow p) ≡ true = ap (λ r. is_notified_kind (kind_of sys.flow r)) (sym e) ∙ notified-enabled sys h q t enabled in (
      e,
      untold k (events_at sys.flow p h) t (after-notice sys h w b l p i (Notify q t) enabled e),
      λ is. sums-inside sys h w b l p is k t (subst (λ r. IsEnabled sys h (Notify r t)) e enabled),
      before,
    )

-- in a legal history the events of a node inside a test can be done once more
pub can-redone : (sys : System) (h : List Event) → IsWellFormed sys.flow → HasEpochs sys → IsLegal sys h → (p : ℕ) → p < length sys.flow.nodes
    → is_input_kind (kind_of sys.flow p) ≡ false → (k : Frontier) → CanBeRedone sys.flow p (events_inside k (events_at sys.flow p h))
can-redone sys [] w b l p lp n k = tt
can-redone sys (v ∷ h) w b l p lp n k =
    let vs = events_at sys.flow p h in
    let rest = can-redone sys h w b l.1 p lp n k in
    let Can : List Event → Type 0 = CanBeRedone sys.flow p in
    cond_both (event_node sys.flow v == p) (v ∷ vs) vs (λ ws. Can (events_inside k ws))
    (λ e. cond_both (k (event_stamp v)) (v ∷ events_inside k vs) (events_inside k vs) Can
    (λ i. redone-next sys h w b l.1 p lp n k v l.0 (eqb-true (event_node sys.flow v) p e) rest) (λ i. rest))
    (λ e. rest)

-- ---- the logged events that are left

-- two tests, one after the other
pub inside-both : (f g : Frontier) (vs : List Event) → events_inside g (events_inside f vs) ≡ events_inside (λ t. f t && g t) vs
inside-both f g [] = refl
inside-both f g (v ∷ vs) =
    let at = event_stamp v in
    let one : Event → Bool = λ u. f (event_stamp u) in
    let two : Event → Bool = λ u. g (event_stamp u) in
    let both : Event → Bool = λ u. f (event_stamp u) && g (event_stamp u) in
    let rest = inside-both f g vs in
    elim (cases_Bool (f at)) [
      | inr o ↦ ap (filter two) (filter-out one v vs o) ∙ rest ∙ sym (filter-out both v vs (ap (λ c. c && g at) o))
      | inl i ↦ ap (filter two) (filter-in one v vs i) ∙ elim (cases_Bool (g at)) [
        | inl j ↦ filter-in two v (filter one vs) j ∙ ap (λ ws. v ∷ ws) rest ∙ sym (filter-in both v vs (and_from (f at) (g at) i j))
        | inr j ↦ filter-out two v (filter one vs) j ∙ rest ∙ sym (filter-out both v vs (ap (λ c. c && g at) i ∙ j))
      ]
    ]

full-no_input : (kind : Kind) (p : Policy) → IsPolicyAllowed kind p → p ≡ policy.Full → is_input_kind kind ≡ false
full-no_input Input p a is = let e : policy.None ≡ policy.Full = sym a ∙ is in absurd (cc e)
full-no_input kind p a is = refl

-- a node that logs its events is no input
pub full-inner : (flow : Dataflow) → IsWellFormed flow → (p : ℕ) → policy_of flow p ≡ policy.Full → is_input_kind (kind_of flow p) ≡ false
full-inner flow w p full = full-no_input (kind_of flow p) (policy_of flow p) (w.policies p (full-declared flow p full)) full

-- where a node that logs its events is cut, the logged events that are left inside the cut can be done once more from nothing
pub replayed-redone : (sys : System) (state : Machine) (choice : Choice) (settled : List Front) → Recovers sys state choice settled
    → (p : ℕ) (f : Front) → policy_of sys.flow p ≡ policy.Full → cut_of choice p ≡ At f
    → CanBeRedone sys.flow p (replayed_events sys state p (node_frontier sys.flow p f))
replayed-redone sys state choice settled r p f full is =
    let w = r.well_formed.flow in
    let k = knows sys state choice settled r in
    let h = events state.history in
    let b = node_frontier sys.flow p f in
    let g = not_given_up sys state.low p in
    subst (CanBeRedone sys.flow p)
    (sym (replayed-those sys r.well_formed r.reached.0 r.reached.1 state r.reached.2 (is_failed state) choice r.largest p f full is ∙ inside-both b g (events_at sys.flow p h)))
    (can-redone sys h w k.epochs k.legal p (full-declared sys.flow p full) (full-inner sys.flow w p full) (λ t. b t && g t))

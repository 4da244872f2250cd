-- Complete frontiers, notifications and the step that settles, by tests that compute.
use Rattle.std.specs.List.{list_all, list_any}
use Rattle.std.specs.Ordering.{is_gt}
use Rattle.std.proofs.Common.{Bool, List, Some, [], ap, arith, eqb-true, false, inl, inr, leb, length, nat_lt, not, refl, subst, suc, sym, true, zero, ℕ, ⊎_elim, ◌&&◌, ◌++◌, ◌<◌, ◌==◌, ◌||◌, ◌∙◌, ◌∷◌, ◌≡◌, ◌≤◌}
use Rattle.std.proofs.lemmas.Bool.{and_from, and_parts, and_right, both_ways, cases_lt, eq-eqb, false_from_ne_true, false≢true, ltb-true, not-true, or_cases, or_left, or_right}
use Rattle.std.proofs.lemmas.Bool.Decides.{nat_tests}
use Rattle.std.proofs.lemmas.List.{get_or_past}
use Rattle.fw_lemmas.proofs.Bools.{two_ways}
use Rattle.fw_lemmas.proofs.Each.{each-weaker, each-of_all}
use Rattle.fw_time.specs.Stamp.{Stamp, in_domain, leq, lesser, same, stamp_cmp}
use Rattle.fw_time.specs.declared.stamp.Bounds.{Bounds}
use Rattle.fw_time.proofs.StampLaws.{leq-trans, same-is}
use Rattle.fw_frontier.specs.Front.{Front, all_in_domain, frontier_of, inside, is_within}
use Rattle.fw_frontier.specs.Frontier.{Frontier, IsFrontier, Within, everything}
use Rattle.fw_frontier.proofs.NamesLaws.{frontier-closed, is_within-holds}
use Rattle.fw_flow.specs.Dataflow.{Dataflow, System, bounds_of, bounds_of_domain, domain_of_kind, greatest_number, greatest_of_kind, is_input_kind, is_notified_kind, kind_of, out_domain_of_kind, node_ids, receiver, sender}
use Rattle.fw_flow.specs.Projection.{first_coordinate, phi, phi_of_kind, psi, psi_of_kind, sent_count}
use Rattle.fw_flow.specs.WellFormed.{IsWellFormed}
use Rattle.fw_flow.specs.declared.event.Event.{Event}
use Rattle.fw_flow.specs.declared.event.Event.TheVariants.{Deliver, Inject, Notify, Notify as Notified}
use Rattle.fw_flow.specs.Kind.{Kind}
use Rattle.fw_flow.specs.declared.kind.Kind.TheVariants.{Enter, Feedback, Leave, Regroup}
use Rattle.fw_flow.specs.declared.node.Edge.{Edge}
use Rattle.fw_flow.specs.declared.step.Step.TheVariants.{Progress}
use Rattle.fw_flow.proofs.EdgeLaws.{kind-past}
use Rattle.fw_model.specs.History.{IsAdmissible, IsClosedFor, IsComplete, IsNotifiable, IsQuiet, injected_count, injected_epochs, is_exhausted, is_owed_notice, pending_messages, some_at, was_delivered_to, was_notified}
use Rattle.fw_model.specs.Machine.{Machine, events, family_of, front_of, is_failed, no_stamps}
use Rattle.fw_model.specs.Steps.{StepsTo, did, eager_writes, silent, with_event}
use Rattle.fw_model.proofs.DescentLaws.{past_edges-joined, past_edges-phi, past_edges-quiet}
use Rattle.fw_model.proofs.LowLaws.{input-is, none-within}
use Rattle.fw_model.proofs.MeetLaws.{phi-everything}
use Rattle.fw_model.proofs.PhiLaws.{phi-monotone}
use Rattle.fw_progress.specs.Counts.{moves_stamps}
use Rattle.fw_progress.proofs.TargetLaws.{unmoved-domain, unmoved-phi}
use Rattle.fw_examples.proofs.Fronts.{canonical_by, each_below, each_below-at, is_canonical, join_by, none_at, within_outside}
use Rattle.fw_flow.specs.declared.step.Step.TheVariants as step

-- a kind whose messages are at the stamps of its events, so that phi and psi of a frontier are the frontier
abbrev pub is_plain : Kind → Bool
is_plain kind = not (moves_stamps kind)

plain_domain : (flow : Dataflow) (kind : Kind) → is_plain kind ≡ true → out_domain_of_kind flow kind ≡ domain_of_kind flow kind
plain_domain flow kind k = unmoved-domain flow kind (not-true (moves_stamps kind) k)

plain_phi : (greatest : Stamp) (kind : Kind) (count : ℕ) (f : Frontier) (u : Stamp) → is_plain kind ≡ true → phi_of_kind greatest kind count f u ≡ f u
plain_phi greatest kind count f u k = unmoved-phi greatest kind count f u (not-true (moves_stamps kind) k)

plain_psi : (greatest : Stamp) (kind : Kind) (f : Frontier) (u : Stamp) → is_plain kind ≡ true → psi_of_kind greatest kind f u ≡ f u
plain_psi greatest (Enter l) f u k = absurd (false≢true k)
plain_psi greatest (Feedback l) f u k = absurd (false≢true k)
plain_psi greatest (Leave l) f u k = absurd (false≢true k)
plain_psi greatest (Regroup n) f u k = absurd (false≢true k)
plain_psi greatest kind f u k = refl

-- what is inside is inside phi
pub into_phi : (sys : System) (h : List Event) (e : ℕ) (f : Frontier) → is_plain (kind_of sys.flow (sender sys.flow e)) ≡ true
    → IsFrontier (bounds_of sys.flow (sender sys.flow e)) f → Within f (phi sys h e f)
unfolding phi bounds_of
into_phi sys h e f k is_frontier u i =
    and_from _ _
    (ap (λ d. in_domain (bounds_of_domain sys.flow d) u) (plain_domain sys.flow (kind_of sys.flow (sender sys.flow e)) k) ∙ is_frontier.inside_domain u i)
    (plain_phi (greatest_of_kind sys.flow (kind_of sys.flow (sender sys.flow e))) (kind_of sys.flow (sender sys.flow e)) (sent_count sys h (sender sys.flow e) f) f u k ∙ i)

-- and what is inside phi is inside
pub from_phi : (sys : System) (h : List Event) (e : ℕ) (f : Frontier) → is_plain (kind_of sys.flow (sender sys.flow e)) ≡ true → Within (phi sys h e f) f
unfolding phi
from_phi sys h e f k u i = sym (plain_phi (greatest_of_kind sys.flow (kind_of sys.flow (sender sys.flow e))) (kind_of sys.flow (sender sys.flow e)) (sent_count sys h (sender sys.flow e) f) f u k) ∙ (and_parts _ _ i).1

pub from_psi : (sys : System) (e : ℕ) (f : Frontier) → is_plain (kind_of sys.flow (sender sys.flow e)) ≡ true → Within (psi sys.flow e f) f
unfolding psi
from_psi sys e f k u i = sym (plain_psi (greatest_of_kind sys.flow (kind_of sys.flow (sender sys.flow e))) (kind_of sys.flow (sender sys.flow e)) f u k) ∙ (and_parts _ _ i).1

-- the two ends of an edge out of such a node have one domain
pub one_domain : (flow : Dataflow) → IsWellFormed flow → (e : ℕ) → e < length flow.edges → is_plain (kind_of flow (sender flow e)) ≡ true
    → bounds_of flow (sender flow e) ≡ bounds_of flow (receiver flow e)
unfolding bounds_of
one_domain flow formed e l k = ap (bounds_of_domain flow) (sym (plain_domain flow (kind_of flow (sender flow e)) k) ∙ formed.domains e l)

-- ---- what is inside a list of outside stamps at an edge

-- whether the receiver has nothing inside, the sender all, or the sender what the receiver has on an edge out of such a node
abbrev pub is_from_sender : Dataflow → Front → Front → ℕ → Bool
is_from_sender flow at_receiver at_sender e =
    is_within at_receiver (no_stamps (bounds_of flow (receiver flow e)))
    || (is_within [] at_sender || (is_plain (kind_of flow (sender flow e)) && is_within at_receiver at_sender))

-- all comes from all
pub everything_from : (sys : System) (h : List Event) → IsWellFormed sys.flow → (e : ℕ) → e < length sys.flow.edges
    → Within (everything (bounds_of sys.flow (receiver sys.flow e))) (phi sys h e (everything (bounds_of sys.flow (sender sys.flow e))))
unfolding bounds_of
everything_from sys h formed e l t d = phi-everything sys h e t ∙ ap (λ domain. in_domain (bounds_of_domain sys.flow domain) t) (formed.domains e l) ∙ d

-- what is inside no outside stamp comes from all
all_from : (sys : System) (h : List Event) → IsWellFormed sys.flow → (e : ℕ) → e < length sys.flow.edges → (os : Front) → is_within [] os ≡ true → (t : Stamp)
    → in_domain (bounds_of sys.flow (receiver sys.flow e)) t ≡ true → phi sys h e (frontier_of (bounds_of sys.flow (sender sys.flow e)) os) t ≡ true
all_from sys h formed e l os n t d =
    phi-monotone sys h e (everything (bounds_of sys.flow (sender sys.flow e))) (frontier_of (bounds_of sys.flow (sender sys.flow e)) os)
    (λ u i. is_within-holds (bounds_of sys.flow (sender sys.flow e)) [] os n u (and_from _ _ i refl)) t (everything_from sys h formed e l t d)

pub from_sender : (sys : System) (h : List Event) → IsWellFormed sys.flow → (e : ℕ) → e < length sys.flow.edges → (at_receiver at_sender : Front)
    → is_from_sender sys.flow at_receiver at_sender e ≡ true
    → Within (frontier_of (bounds_of sys.flow (receiver sys.flow e)) at_receiver) (phi sys h e (frontier_of (bounds_of sys.flow (sender sys.flow e)) at_sender))
from_sender sys h formed e l x y k t i =
    ⊎_elim
    (λ n. none-within (bounds_of sys.flow (receiver sys.flow e)) (phi sys h e (frontier_of (bounds_of sys.flow (sender sys.flow e)) y)) t
    (is_within-holds (bounds_of sys.flow (receiver sys.flow e)) x (no_stamps (bounds_of sys.flow (receiver sys.flow e))) n t i))
    (λ o. ⊎_elim
    (λ n. all_from sys h formed e l y n t (and_parts _ _ i).0)
    (λ p. let a = and_parts _ _ p in
    into_phi sys h e _ a.0 (frontier-closed _ y) t
    (subst (λ (b : Bounds). frontier_of b y t ≡ true) (sym (one_domain sys.flow formed e l a.0))
    (is_within-holds (bounds_of sys.flow (receiver sys.flow e)) x y a.1 t i)))
    (or_cases _ _ o))
    (or_cases _ _ k)

-- ---- admissible families

-- what lies within at the sender of an edge lies within at its receiver, where what that projects to does
pub next_within : (sys : System) (h : List Event) (other : ℕ → Frontier) → IsAdmissible sys h other → (e : ℕ) (f g : Frontier) → Within (phi sys h e f) g
    → Within (other (sender sys.flow e)) f → Within (other (receiver sys.flow e)) g
next_within sys h other adm e f g along w t i = along t (phi-monotone sys h e (other (sender sys.flow e)) f w t (adm.follows e t i))

-- whether a delivery to node p at a stamp that passes the test was followed by its notification
abbrev pub is_paid_at : Dataflow → List Event → ℕ → (Stamp → Bool) → Event → Bool
is_paid_at flow h p test (Inject s x) = true
is_paid_at flow h p test (Deliver e m) = not (receiver flow e == p) || (not (test m.at) || was_notified p m.at h)
is_paid_at flow h p test (Notify q t) = true

-- whether node p is owed nothing at the stamps that pass the test
abbrev pub is_paid_where : System → List Event → ℕ → (Stamp → Bool) → Bool
is_paid_where sys h p test = not (is_notified_kind (kind_of sys.flow p)) || list_all (is_paid_at sys.flow h p test) h

delivered_paid : (flow : Dataflow) (h : List Event) (p : ℕ) (test : Stamp → Bool) (t : Stamp) → test t ≡ true → (vs : List Event)
    → list_all (is_paid_at flow h p test) vs ≡ true → was_delivered_to flow p t vs ≡ true → was_notified p t h ≡ true
delivered_paid flow h p test t k [] a d = absurd (false≢true d)
delivered_paid flow h p test t k (Inject s x ∷ vs) a d = delivered_paid flow h p test t k vs a d
delivered_paid flow h p test t k (Notify q s ∷ vs) a d = delivered_paid flow h p test t k vs a d
delivered_paid flow h p test t k (Deliver e m ∷ vs) a d =
    let b = and_parts _ _ a in
    ⊎_elim
    (λ here.
    let c = and_parts _ _ here in
    let is : m.at ≡ t = same-is m.at t c.1 in
    ⊎_elim
    (λ n. absurd (two_ways _ c.0 (not-true _ n)))
    (λ n. ⊎_elim (λ o. absurd (two_ways _ (subst (λ s. test s ≡ true) (sym is) k) (not-true _ o))) (λ o. subst (λ s. was_notified p s h ≡ true) is o) (or_cases _ _ n))
    (or_cases _ _ b.0))
    (delivered_paid flow h p test t k vs b.1)
    (or_cases _ _ d)

pub paid_where : (sys : System) (h : List Event) (p : ℕ) (test : Stamp → Bool) → is_paid_where sys h p test ≡ true → (t : Stamp) → test t ≡ true
    → is_owed_notice sys h p t ≡ false
paid_where sys h p test a t k = false_from_ne_true _ (λ o.
    let b = and_parts _ _ o in
    let c = and_parts _ _ b.0 in
    ⊎_elim (λ n. two_ways _ c.0 (not-true _ n)) (λ l. two_ways _ (delivered_paid sys.flow h p test t k h l c.1) (not-true _ b.1)) (or_cases _ _ a))

-- whether nothing is pending for node p at the stamps that pass the test
abbrev pub is_quiet_where : System → List Event → ℕ → (Stamp → Bool) → Bool
is_quiet_where sys h p test = each_below (λ e. not (receiver sys.flow e == p) || not (some_at test (pending_messages sys h e))) (length sys.flow.edges)

pub quiet_where : (sys : System) (h : List Event) (p : ℕ) (test : Stamp → Bool) → is_quiet_where sys h p test ≡ true → (t : Stamp) → test t ≡ true
    → IsQuiet sys h p t
quiet_where sys h p test a t k e r = elim (cases_lt e (length sys.flow.edges)) [
  | inr l ↦ past_edges-quiet sys h e t l
  | inl l ↦
      none_at test (pending_messages sys h e) t
      (⊎_elim (λ n. absurd (two_ways _ (eq-eqb (receiver sys.flow e) p r) (not-true _ n))) (λ n. not-true _ n)
      (or_cases _ _ (each_below-at (λ d. not (receiver sys.flow d == p) || not (some_at test (pending_messages sys h d))) (length sys.flow.edges) a e l)))
      k
]

-- whether an input injected all epochs inside
abbrev pub is_injected : System → List Event → ℕ → Front → Bool
is_injected sys h s os = not (is_input_kind (kind_of sys.flow s)) || (is_exhausted sys h s || list_any (λ o. leq o (injected_count s h ∷ [])) os)

input-bounds : (flow : Dataflow) (p : ℕ) → is_input_kind (kind_of flow p) ≡ true → bounds_of flow p ≡ record { greatest = greatest_number ∷ []; sides = false }
unfolding bounds_of
input-bounds flow p k = ap (λ kind. bounds_of_domain flow (domain_of_kind flow kind)) (input-is (kind_of flow p) k)

-- an epoch that is not at or past a number is below it
below_number : (n k : ℕ) (t : Stamp) → in_domain (record { greatest = n ∷ []; sides = false }) t ≡ true → leq (k ∷ []) t ≡ false → nat_lt (first_coordinate t) k ≡ true
below_number n k [] d l = absurd (false≢true d)
below_number n k (x ∷ []) d l = grind (arith, nat_tests)
below_number n k (x ∷ y ∷ t) d l = absurd (false≢true (and_parts (leb x n) false d).1)

pub injected_by : (sys : System) (h : List Event) (s : ℕ) (os : Front) → is_injected sys h s os ≡ true → is_input_kind (kind_of sys.flow s) ≡ true
    → Within (frontier_of (bounds_of sys.flow s) os) (injected_epochs sys h s)
injected_by sys h s os a k t i =
    let b = and_parts _ _ i in
    and_from _ _ b.0
    (⊎_elim
    (λ n. absurd (two_ways _ k (not-true _ n)))
    (λ c. ⊎_elim
    (λ e. or_left _ _ e)
    (λ o. or_right _ _ (below_number greatest_number (injected_count s h) t
    (ap (λ (bounds : Bounds). in_domain bounds t) (sym (input-bounds sys.flow s k)) ∙ b.0)
    (false_from_ne_true _ (λ l. two_ways _ b.1 (past os o l)))))
    (or_cases _ _ c))
    (or_cases _ _ a))
  where
    past : (qs : Front) → list_any (λ o. leq o (injected_count s h ∷ [])) qs ≡ true → leq (injected_count s h ∷ []) t ≡ true → inside qs t ≡ false
    past [] o l = absurd (false≢true o)
    past (q ∷ qs) o l =
        ⊎_elim
        (λ m. ap (λ c. not c && inside qs t) (leq-trans q (injected_count s h ∷ []) t m l))
        (λ m. and_right (not (leq q t)) (inside qs t) (past qs m l))
        (or_cases _ _ o)

-- whether nothing is missing at the nodes alone, inside these frontiers
abbrev pub are_clear : System → List Event → List Front → Bool
are_clear sys h fronts =
    each_below (λ p. is_quiet_where sys h p (inside (front_of fronts p)) && (is_paid_where sys h p (inside (front_of fronts p)) && is_injected sys h p (front_of fronts p)))
    (length sys.flow.nodes)

-- whether each edge leads from what the sender has inside to what the receiver has
abbrev pub do_follow : System → List Front → Bool
do_follow sys fronts = each_below (λ e. is_from_sender sys.flow (front_of fronts (receiver sys.flow e)) (front_of fronts (sender sys.flow e)) e) (length sys.flow.edges)

-- whether the family of these frontiers is admissible
abbrev pub is_admissible : System → List Event → List Front → Bool
is_admissible sys h fronts = are_clear sys h fronts && do_follow sys fronts

-- nothing is missing at a node past the last one
past_node : (sys : System) (h : List Event) (p : ℕ) (t : Stamp) → length sys.flow.nodes ≤ p → is_owed_notice sys h p t ≡ false
past_node sys h p t l = ap (λ kind. is_notified_kind kind && was_delivered_to sys.flow p t h && not (was_notified p t h)) (kind-past sys.flow p l)

pub admissible_with : (sys : System) (h : List Event) (fronts : List Front) → IsWellFormed sys.flow → are_clear sys h fronts ≡ true
    → ((e : ℕ) → e < length sys.flow.edges → Within (family_of sys.flow fronts (receiver sys.flow e)) (phi sys h e (family_of sys.flow fronts (sender sys.flow e))))
    → IsAdmissible sys h (family_of sys.flow fronts)
admissible_with sys h fronts formed a follows =
    let at = each_below-at
    (λ p. is_quiet_where sys h p (inside (front_of fronts p)) && (is_paid_where sys h p (inside (front_of fronts p)) && is_injected sys h p (front_of fronts p)))
    (length sys.flow.nodes) a in
    record {
      frontier = λ p. frontier-closed (bounds_of sys.flow p) (front_of fronts p);
      quiet = λ p t i. elim (cases_lt p (length sys.flow.nodes)) [
        | inl l ↦ quiet_where sys h p (inside (front_of fronts p)) (and_parts _ _ (at p l)).0 t (and_parts _ _ i).1
        | inr l ↦ λ e r. elim (cases_lt e (length sys.flow.edges)) [
          | inl m ↦ let d = formed.receivers_declared e m in absurd (omega arith)
          | inr m ↦ past_edges-quiet sys h e t m
        ]
      ];
      paid = λ p t i. elim (cases_lt p (length sys.flow.nodes)) [
        | inl l ↦ paid_where sys h p (inside (front_of fronts p)) (and_parts _ _ (and_parts _ _ (at p l)).1).0 t (and_parts _ _ i).1
        | inr l ↦ past_node sys h p t l
      ];
      follows = λ e t i. elim (cases_lt e (length sys.flow.edges)) [
        | inl l ↦ follows e l t i
        | inr l ↦
            let j = past_edges-joined sys.flow e l in
            let d = (frontier-closed (bounds_of sys.flow (receiver sys.flow e)) (front_of fronts (receiver sys.flow e))).inside_domain t i in
            past_edges-phi sys h e (family_of sys.flow fronts (sender sys.flow e)) t l (ap (λ q. in_domain (bounds_of sys.flow q) t) j ∙ d) (ap (λ q. family_of sys.flow fronts q t) j ∙ i)
      ];
      source = λ p k. elim (cases_lt p (length sys.flow.nodes)) [
        | inl l ↦ injected_by sys h p (front_of fronts p) (and_parts _ _ (and_parts _ _ (at p l)).1).1 k
        | inr l ↦ let x = ap is_input_kind (kind-past sys.flow p l) in absurd (cc)
      ];
    }

pub admissible_by : (sys : System) (h : List Event) (fronts : List Front) → IsWellFormed sys.flow → is_admissible sys h fronts ≡ true
    → IsAdmissible sys h (family_of sys.flow fronts)
admissible_by sys h fronts formed a =
    let b = and_parts _ _ a in
    admissible_with sys h fronts formed b.0
    (λ e l. from_sender sys h formed e l (front_of fronts (receiver sys.flow e)) (front_of fronts (sender sys.flow e))
    (each_below-at (λ e. is_from_sender sys.flow (front_of fronts (receiver sys.flow e)) (front_of fronts (sender sys.flow e)) e) (length sys.flow.edges) b.1 e l))

-- ---- complete frontiers, where each edge leads to a later node

-- whether some number below n passes the test
abbrev some_below : (ℕ → Bool) → ℕ → Bool
some_below test zero = false
some_below test (suc n) = test n || some_below test n

some_below-one : (test : ℕ → Bool) (n : ℕ) → some_below test n ≡ true → (i : ℕ) × (i < n) × (test i ≡ true)
some_below-one test zero h = absurd (false≢true h)
some_below-one test (suc n) h =
    ⊎_elim (λ a. (n, omega arith, a)) (λ a. let i = some_below-one test n a in (i.0, (let l = i.1 in omega arith), i.2)) (or_cases _ _ h)

-- whether edge e keeps a stamp out of node p: a message is pending there, or the sender, a node before p, has it outside
abbrev pub is_barred_on : System → List Event → List Front → ℕ → Stamp → ℕ → Bool
is_barred_on sys h fronts p o e =
    receiver sys.flow e == p
    && (some_at (same o) (pending_messages sys h e)
    || (is_plain (kind_of sys.flow (sender sys.flow e)) && (nat_lt (sender sys.flow e) p && not (family_of sys.flow fronts (sender sys.flow e) o))))

-- whether a stamp is outside each admissible family at node p
abbrev pub is_barred : System → List Event → List Front → ℕ → Stamp → Bool
is_barred sys h fronts p o =
    some_below (is_barred_on sys h fronts p o) (length sys.flow.edges)
    || (is_owed_notice sys h p o || (is_input_kind (kind_of sys.flow p) && not (injected_epochs sys h p o)))

-- whether the family of these frontiers is complete
abbrev pub is_complete : System → List Event → List Front → Bool
is_complete sys h fronts =
    is_admissible sys h fronts
    && each_below (λ p. all_in_domain (bounds_of sys.flow p) (front_of fronts p) && list_all (is_barred sys h fronts p) (front_of fronts p)) (length sys.flow.nodes)

barred_out : (sys : System) (h : List Event) (fronts : List Front) (other : ℕ → Frontier) → IsAdmissible sys h other → (p : ℕ)
    → ((q : ℕ) → q < p → Within (other q) (family_of sys.flow fronts q)) → (o : Stamp) → is_barred sys h fronts p o ≡ true → other p o ≡ true → ⊥
barred_out sys h fronts other adm p before o b k =
    ⊎_elim
    (λ s.
    let e = some_below-one (is_barred_on sys h fronts p o) (length sys.flow.edges) s in
    let c = and_parts _ _ e.2 in
    let r : receiver sys.flow e.0 ≡ p = eqb-true (receiver sys.flow e.0) p c.0 in
    ⊎_elim
    (λ w. both_ways _ (adm.quiet p o k e.0 r) w)
    (λ d.
    let f = and_parts _ _ d in
    let g = and_parts _ _ f.1 in
    let inside_sender : other (sender sys.flow e.0) o ≡ true =
    from_phi sys h e.0 (other (sender sys.flow e.0)) f.0 o (adm.follows e.0 o (subst (λ q. other q o ≡ true) (sym r) k)) in
    both_ways _ (not-true _ g.1) (before (sender sys.flow e.0) (ltb-true (sender sys.flow e.0) p g.0) o inside_sender))
    (or_cases _ _ c.1))
    (λ d. ⊎_elim
    (λ w. both_ways _ (adm.paid p o k) w)
    (λ s. let c = and_parts _ _ s in both_ways _ (not-true _ c.1) (adm.source p c.0 o k))
    (or_cases _ _ d))
    (or_cases _ _ b)

pub complete_by : (sys : System) (h : List Event) (fronts : List Front) → IsWellFormed sys.flow → length fronts ≡ length sys.flow.nodes → is_complete sys h fronts ≡ true
    → IsComplete sys h (family_of sys.flow fronts)
complete_by sys h fronts formed one_each a = record { admissible = admissible_by sys h fronts formed (and_parts _ _ a).0; largest = λ other adm p. below other adm (suc p) p (omega arith) }
  where
    test : ℕ → Bool
    test p = all_in_domain (bounds_of sys.flow p) (front_of fronts p) && list_all (is_barred sys h fronts p) (front_of fronts p)

    at_node : (other : ℕ → Frontier) → IsAdmissible sys h other → (p : ℕ) → ((q : ℕ) → q < p → Within (other q) (family_of sys.flow fronts q))
        → Within (other p) (family_of sys.flow fronts p)
    at_node other adm p before = elim (cases_lt p (length sys.flow.nodes)) [
      | inr l ↦ λ t i. and_from _ _ ((adm.frontier p).inside_domain t i) (ap (λ os. inside os t) (get_or_past fronts p [] (omega arith)))
      | inl l ↦
          let c = and_parts _ _ (each_below-at (λ p. all_in_domain (bounds_of sys.flow p) (front_of fronts p) && list_all (is_barred sys h fronts p) (front_of fronts p)) (length sys.flow.nodes) (and_parts _ _ a).1 p l) in
          within_outside (bounds_of sys.flow p) (other p) (front_of fronts p) (adm.frontier p) c.0
          (each-weaker (λ o. is_barred sys h fronts p o ≡ true) (λ o. other p o ≡ true → ⊥) (front_of fronts p) (barred_out sys h fronts other adm p before) (each-of_all (is_barred sys h fronts p) (front_of fronts p) c.1))
    ]

    below : (other : ℕ → Frontier) → IsAdmissible sys h other → (n p : ℕ) → p < n → Within (other p) (family_of sys.flow fronts p)
    below other adm zero p l = absurd (omega arith)
    below other adm (suc n) p l = at_node other adm p (λ q m. below other adm n q (omega arith))

-- ---- the step that settles

-- whether no node is failed, each list is canonical, and what was settled lies within
abbrev pub is_grown : System → Machine → List Front → Bool
is_grown sys state fronts =
    each_below (λ p. not (is_failed state p) && (is_canonical (bounds_of sys.flow p) (front_of fronts p) && is_within (front_of state.settled p) (front_of fronts p))) (length sys.flow.nodes)

pub settles_complete : (sys : System) (state : Machine) (fronts : List Front) → IsComplete sys (events state.history) (family_of sys.flow fronts)
    → length fronts ≡ length sys.flow.nodes → is_grown sys state fronts ≡ true
    → (p : ℕ) (t : Stamp) → p < length sys.flow.nodes → family_of sys.flow fronts p t ≡ true → frontier_of (bounds_of sys.flow p) (front_of state.settled p) t ≡ false
    → StepsTo sys state Progress (record state { settled = fronts; writes = state.writes ++ eager_writes sys state fronts (node_ids sys.flow) }) (did silent)
settles_complete sys state fronts is one_each grown p t l new old =
    let at = each_below-at (λ p. not (is_failed state p) && (is_canonical (bounds_of sys.flow p) (front_of fronts p) && is_within (front_of state.settled p) (front_of fronts p))) (length sys.flow.nodes) grown in (
      family_of sys.flow fronts,
      fronts,
      record {
        complete = is;
        some = (p, t, l, not-true _ (and_parts _ _ (at p l)).0, new, old);
        one_each = one_each;
        each = λ q m live. let a = and_parts _ _ (and_parts _ _ (at q m)).1 in record {
          canonical = canonical_by _ _ a.0;
          same = join_by _ _ (is_within-holds (bounds_of sys.flow q) (front_of state.settled q) (front_of fronts q) a.1);
        };
        failed = λ q m f. absurd (both_ways _ (not-true _ (and_parts _ _ (at q m)).0) f);
      },
      refl,
      refl,
    )

pub settles : (sys : System) (state : Machine) (fronts : List Front) → IsWellFormed sys.flow → length fronts ≡ length sys.flow.nodes
    → is_complete sys (events state.history) fronts ≡ true → is_grown sys state fronts ≡ true
    → (p : ℕ) (t : Stamp) → p < length sys.flow.nodes → family_of sys.flow fronts p t ≡ true → frontier_of (bounds_of sys.flow p) (front_of state.settled p) t ≡ false
    → StepsTo sys state Progress (record state { settled = fronts; writes = state.writes ++ eager_writes sys state fronts (node_ids sys.flow) }) (did silent)
settles sys state fronts formed one_each is grown p t l new old =
    settles_complete sys state fronts (complete_by sys (events state.history) fronts formed one_each is) one_each grown p t l new old

-- ---- notifications

past-receiver : (flow : Dataflow) (d : ℕ) → length flow.edges ≤ d → receiver flow d ≡ length flow.nodes
unfolding receiver
past-receiver flow d m = ap (λ (e : Edge). e.receiver) (get_or_past flow.edges d (record { name = []; sender = length flow.nodes; receiver = length flow.nodes }) m)

-- whether a stamp is closed for node p, as it is complete before it by the family of these frontiers
abbrev pub is_closed : System → List Event → ℕ → Stamp → List Front → Bool
is_closed sys h p t fronts =
    is_quiet_where sys h p (λ s. leq s t)
    && (is_admissible sys h fronts && each_below (λ d. not (receiver sys.flow d == p) || phi sys h d (family_of sys.flow fronts (sender sys.flow d)) t) (length sys.flow.edges))

pub closed_by : (sys : System) (h : List Event) (p : ℕ) (t : Stamp) (fronts : List Front) → IsWellFormed sys.flow → p < length sys.flow.nodes → is_closed sys h p t fronts ≡ true
    → IsClosedFor sys h p t
closed_by sys h p t fronts formed l a =
    let b = and_parts _ _ a in
    let c = and_parts _ _ b.1 in
    record {
      quiet = quiet_where sys h p (λ s. leq s t) b.0;
      complete = (
        family_of sys.flow fronts,
        admissible_by sys h fronts formed c.0,
        λ d r. elim (cases_lt d (length sys.flow.edges)) [
          | inl m ↦
              ⊎_elim (λ n. absurd (two_ways _ (eq-eqb (receiver sys.flow d) p r) (not-true _ n))) (λ i. i)
              (or_cases _ _ (each_below-at (λ d. not (receiver sys.flow d == p) || phi sys h d (family_of sys.flow fronts (sender sys.flow d)) t) (length sys.flow.edges) c.1 d m))
          | inr m ↦ let n = past-receiver sys.flow d m in absurd (omega arith)
        ],
      );
    }

-- whether node p may be notified of the stamp
abbrev pub is_notifiable : System → List Event → ℕ → Stamp → List Front → Bool
is_notifiable sys h p t fronts = is_owed_notice sys h p t && (is_paid_where sys h p (λ s. lesser s t) && is_closed sys h p t fronts)

pub notifiable_by : (sys : System) (h : List Event) (p : ℕ) (t : Stamp) (fronts : List Front) → IsWellFormed sys.flow → p < length sys.flow.nodes → is_notifiable sys h p t fronts ≡ true
    → IsNotifiable sys h p t
notifiable_by sys h p t fronts formed l a =
    let b = and_parts _ _ a in
    let c = and_parts _ _ b.1 in
    let closed = closed_by sys h p t fronts formed l c.1 in
    record { is_owed = b.0; none_lesser = paid_where sys h p (λ s. lesser s t) c.0; quiet = closed.quiet; complete = closed.complete }

pub notifies : (sys : System) (state : Machine) (p : ℕ) (t : Stamp) (fronts : List Front) → IsWellFormed sys.flow → p < length sys.flow.nodes
    → is_notifiable sys (events state.history) p t fronts ≡ true → is_failed state p ≡ false → is_gt (stamp_cmp t t) ≡ false
    → StepsTo sys state (step.Notify p (Some t)) (with_event sys state (Notified p t)) (did silent)
notifies sys state p t fronts formed l is live alike =
    (t, record { enabled = notifiable_by sys (events state.history) p t fronts formed l is; asked = refl; least = λ other o a. subst (λ s. is_gt (stamp_cmp t s) ≡ false) a alike }, live, refl, refl)

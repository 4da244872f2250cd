-- Of which stamps a node was notified, where it may be notified of one more.
use Rattle.std.proofs.Common.{◌≡◌, ℕ, Bool, true, false, cond, not, ◌&&◌, ◌||◌, ◌==◌, List, [], ◌∷◌, ◌++◌, refl, sym, ap, ◌∙◌, inl, inr}
use Rattle.std.specs.List.{AllByRecursion, list_any}
use Rattle.std.proofs.lemmas.Bool.{and_parts, and_from, or_cases, or_left, or_right, cond_both, eq-eqb, cases_Bool, false_from_ne_true}
use Rattle.fw_lemmas.proofs.Bools.{two_ways}
use Rattle.fw_lemmas.proofs.Each.{each-weaker}
use Rattle.fw_time.specs.declared.stamp.Bounds.{Bounds}
use Rattle.fw_time.specs.Stamp.{Stamp, leq, lesser, same, in_domain}
use Rattle.fw_frontier.specs.Frontier.{Frontier}
use Rattle.fw_flow.specs.declared.event.Event.{Event}
use Rattle.fw_flow.specs.declared.event.Event.TheVariants.{Inject, Deliver, Notify}
use Rattle.fw_flow.specs.declared.kind.Kind.TheVariants.{Total}
use Rattle.fw_flow.specs.Dataflow.{System, Dataflow, kind_of, receiver, greatest_number, domain_of_kind, bounds_of, bounds_of_domain, is_notified_kind, node_frontier, HasEpochs}
use Rattle.fw_flow.specs.NodeFunction.{event_node, event_stamp, delivered_recs}
use Rattle.fw_flow.specs.Projection.{events_at}
use Rattle.fw_flow.specs.WellFormed.{IsWellFormed}
use Rattle.fw_model.specs.History.{was_delivered_to, was_notified, is_owed_notice, IsEnabled, IsLegal}
use Rattle.fw_model.specs.LawsOfTables.{NothingComesAfterItsNotice, SettledIsTold, TotalsSumWhatWasTold, DeliveriesLieInside}
use Rattle.fw_model.specs.Filtering.{events_inside}
use Rattle.fw_model.specs.Told.{is_told, EachDelivery}
use Rattle.fw_model.specs.Order.{notified_stamps}
use Rattle.fw_model.specs.Machine.{events, front_of}
use Rattle.fw_model.proofs.StampLaws.{same-is, same-from}
use Rattle.fw_model.proofs.DomainLaws.{has_epochs}
use Rattle.fw_model.proofs.RecoveryLaws.{runs-legal}
use Rattle.fw_model.proofs.LegalLaws.{enabled-in_domain, legal-in_domain, legal_events-in_domain}
use Rattle.fw_model.proofs.SequenceLaws.{notified_in_domain}
use Rattle.fw_model.proofs.OrderLaws.{each-notified, either_way}
use Rattle.fw_model.proofs.ClosedLaws.{IsSettled, settled-outside, settled-step, settled-now}
use Rattle.fw_model.proofs.RestoringLaws.{full-reached}
use Rattle.fw_model.proofs.AskedLaws.{reached-all}

-- ---- what was told

-- each stamp of which the node was notified is settled after all events
told-settled : (sys : System) (h : List Event) → IsWellFormed sys.flow → HasEpochs sys → IsLegal sys h → (p : ℕ)
    → AllByRecursion (IsSettled sys h p) (notified_stamps (events_at sys.flow p h))
told-settled sys h w b l p =
    each-notified sys p (λ g. IsSettled sys g p) (λ g v m k t s. settled-step sys g w b m p t s v k) (λ g t m k. settled-now sys g w b m p t k) h l

-- an event that may come next is not up to a stamp that was told
next-above : (sys : System) (h : List Event) → IsWellFormed sys.flow → HasEpochs sys → IsLegal sys h
    → (p : ℕ) → is_notified_kind (kind_of sys.flow p) ≡ true → (v : Event) → IsEnabled sys h v → event_node sys.flow v ≡ p
    → AllByRecursion (λ u. leq (event_stamp v) u ≡ false) (notified_stamps (events_at sys.flow p h))
next-above sys h w b l p n v k e =
    each-weaker (IsSettled sys h p) (λ u. leq (event_stamp v) u ≡ false) (notified_stamps (events_at sys.flow p h))
    (λ u s. false_from_ne_true (leq (event_stamp v) u) (λ i.
    two_ways (event_node sys.flow v == p && leq (event_stamp v) u) (and_from (event_node sys.flow v == p) (leq (event_stamp v) u) (eq-eqb (event_node sys.flow v) p e) i)
    (settled-outside sys h p u n s v k)))
    (told-settled sys h w b l p)

-- no stamp of the list is the same where it is up to none of them
not-among : (s : Stamp) (us : List Stamp) → AllByRecursion (λ u. leq s u ≡ false) us → list_any (λ u. same s u) us ≡ false
not-among s [] a = refl
not-among s (u ∷ us) a = ap (λ b. (b && leq u s) || list_any (λ u. same s u) us) a.0 ∙ not-among s us a.1

pub after-notice : NothingComesAfterItsNotice
after-notice sys h w b l p n v k e = not-among (event_stamp v) (notified_stamps (events_at sys.flow p h)) (next-above sys h w b l p n v k e)

-- a node that was notified was told
pub notified-told : (flow : Dataflow) (p : ℕ) (s : Stamp) (h : List Event) → was_notified p s h ≡ true → is_told (events_at flow p h) s ≡ true
notified-told flow p s [] n = n
notified-told flow p s (Inject q x ∷ h) n =
    let vs = events_at flow p h in
    let rest = notified-told flow p s h n in
    cond_both (q == p) (Inject q x ∷ vs) vs (λ ws. is_told ws s ≡ true) (λ e. rest) (λ e. rest)
notified-told flow p s (Deliver d m ∷ h) n =
    let vs = events_at flow p h in
    let rest = notified-told flow p s h n in
    cond_both (receiver flow d == p) (Deliver d m ∷ vs) vs (λ ws. is_told ws s ≡ true) (λ e. rest) (λ e. rest)
notified-told flow p s (Notify q t ∷ h) n =
    let vs = events_at flow p h in
    cond_both (q == p) (Notify q t ∷ vs) vs (λ ws. is_told ws s ≡ true)
    (λ e. elim (or_cases (q == p && same t s) (was_notified p s h) n) [
      | inl i ↦ or_left (same s t) (is_told vs s) (let a = and_parts (q == p) (same t s) i in
          let b = and_parts (leq t s) (leq s t) a.1 in and_from (leq s t) (leq t s) b.1 b.0)
      | inr i ↦ or_right (same s t) (is_told vs s) (notified-told flow p s h i)
    ])
    (λ e. elim (or_cases (q == p && same t s) (was_notified p s h) n) [
      | inl i ↦ absurd (two_ways (q == p) (and_parts (q == p) (same t s) i).0 e)
      | inr i ↦ notified-told flow p s h i
    ])

-- where something was delivered and nothing is owed, it was told
pub paid-told : (sys : System) (h : List Event) (p : ℕ) (s : Stamp) → is_notified_kind (kind_of sys.flow p) ≡ true → was_delivered_to sys.flow p s h ≡ true
    → is_owed_notice sys h p s ≡ false → is_told (events_at sys.flow p h) s ≡ true
paid-told sys h p s n d o = elim (cases_Bool (was_notified p s h)) [
  | inl i ↦ notified-told sys.flow p s h i
  | inr i ↦ absurd (two_ways (is_owed_notice sys h p s)
      (and_from (is_notified_kind (kind_of sys.flow p) && was_delivered_to sys.flow p s h) (not (was_notified p s h))
      (and_from (is_notified_kind (kind_of sys.flow p)) (was_delivered_to sys.flow p s h) n d) (ap not i)) o)
]

-- ---- the deliveries of a node

each-delivered : (flow : Dataflow) (p : ℕ) (P : Stamp → Type 0) (h : List Event) → ((s : Stamp) → was_delivered_to flow p s h ≡ true → P s)
    → EachDelivery P (events_at flow p h)
each-delivered flow p P [] k = tt
each-delivered flow p P (Inject q x ∷ h) k =
    let vs = events_at flow p h in
    let rest = each-delivered flow p P h k in
    cond_both (q == p) (Inject q x ∷ vs) vs (EachDelivery P) (λ e. rest) (λ e. rest)
each-delivered flow p P (Deliver d m ∷ h) k =
    let vs = events_at flow p h in
    let rest = each-delivered flow p P h (λ s i. k s (or_right (receiver flow d == p && same m.at s) (was_delivered_to flow p s h) i)) in
    cond_both (receiver flow d == p) (Deliver d m ∷ vs) vs (EachDelivery P)
    (λ e. (
      k m.at (or_left (receiver flow d == p && same m.at m.at) (was_delivered_to flow p m.at h)
          (and_from (receiver flow d == p) (same m.at m.at) e (same-from m.at m.at refl))),
      rest,
    ))
    (λ e. rest)
each-delivered flow p P (Notify q t ∷ h) k =
    let vs = events_at flow p h in
    let rest = each-delivered flow p P h k in
    cond_both (q == p) (Notify q t ∷ vs) vs (EachDelivery P) (λ e. rest) (λ e. rest)

pub settled-told : SettledIsTold
settled-told sys w steps outcomes last r p n =
    let full = full-reached sys last w (reached-all sys w steps outcomes last r) in
    let h = events last.history in
    each-delivered sys.flow p (λ s. node_frontier sys.flow p (front_of last.settled p) s ≡ true → is_told (events_at sys.flow p h) s ≡ true) h
    (λ s d i. paid-told sys h p s n d (full.paid p s i))

-- recs by tests that find the same of each delivery
pub same-recs : (test other : Stamp → Bool) (vs : List Event) → EachDelivery (λ s. test s ≡ other s) vs
    → delivered_recs (λ d s. test s) vs ≡ delivered_recs (λ d s. other s) vs
same-recs test other [] a = refl
same-recs test other (Inject s x ∷ vs) a = same-recs test other vs a
same-recs test other (Deliver d m ∷ vs) a =
    ap (λ b. cond b (m.rec ∷ []) [] ++ delivered_recs (λ d s. test s) vs) a.0
    ∙ ap (λ rs. cond (other m.at) (m.rec ∷ []) [] ++ rs) (same-recs test other vs a.1)
same-recs test other (Notify q t ∷ vs) a = same-recs test other vs a

-- ---- totals

pub bounds-total : (flow : Dataflow) (p : ℕ) → kind_of flow p ≡ Total → bounds_of flow p ≡ record { greatest = greatest_number ∷ []; sides = false }
unfolding bounds_of
bounds-total flow p is = ap (λ k. bounds_of_domain flow (domain_of_kind flow k)) is

-- a stamp that was told is up to a next one of one coordinate
told-below : (g : ℕ) (t s : Stamp) (us : List Stamp) → leq t (g ∷ []) ≡ true → AllByRecursion (λ u. leq u (g ∷ []) ≡ true) us
    → AllByRecursion (λ u. leq t u ≡ false) us → list_any (λ u. same s u) us ≡ true → leq s t ≡ true
told-below g t s [] d ds a i = cc
told-below g t s (u ∷ us) d ds a i = elim (or_cases (same s u) (list_any (λ u. same s u) us) i) [
  | inl k ↦ elim (either_way g u t ds.0 d) [
    | inl l ↦ ap (λ x. leq x t) (same-is s u k) ∙ l
    | inr l ↦ absurd (two_ways (leq t u) l a.0)
  ]
  | inr k ↦ told-below g t s us d ds.1 a.1 k
]

both-tests : (a b c d : Bool) → (a ≡ true → b ≡ false → d ≡ true) → (b ≡ true → a ≡ true) → (c ≡ true → d ≡ true) → (d ≡ true → a ≡ true) → a ≡ (b || (c || d))
both-tests true true c d f g h k = refl
both-tests true false true d f g h k = refl
both-tests true false false d f g h k = sym (f refl refl)
both-tests false true c d f g h k = g refl
both-tests false false true d f g h k = k (h refl)
both-tests false false false true f g h k = k refl
both-tests false false false false f g h k = refl

pub lesser-from : (s t : Stamp) → leq s t ≡ true → same s t ≡ false → lesser s t ≡ true
lesser-from s t i j =
    let o : leq t s ≡ false = sym (ap (λ b. b && leq t s) i) ∙ j in
    and_from (leq s t) (not (leq t s)) i (ap not o)

pub totals-sum : TotalsSumWhatWasTold
totals-sum sys w steps outcomes last r p is t k =
    let all = reached-all sys w steps outcomes last r in
    let full = full-reached sys last w all in
    let h = events last.history in
    let before = events_at sys.flow p h in
    let n : is_notified_kind (kind_of sys.flow p) ≡ true = ap is_notified_kind is in
    let b = has_epochs sys w in
    let l = runs-legal sys steps outcomes last w.flow b r in
    let settled : Frontier = node_frontier sys.flow p (front_of last.settled p) in
    let line : (u : Stamp) → in_domain (bounds_of sys.flow p) u ≡ true → leq u (greatest_number ∷ []) ≡ true =
    λ u d. sym (ap (λ c. in_domain c u) (bounds-total sys.flow p is)) ∙ d in
    let above = next-above sys h w.flow b l p n (Notify p t) k refl in
    let lines = each-weaker (λ u. in_domain (bounds_of sys.flow p) u ≡ true) (λ u. leq u (greatest_number ∷ []) ≡ true) (notified_stamps before) line
    (notified_in_domain (bounds_of sys.flow p) before (legal_events-in_domain sys h w.flow b l p)) in
    let here = line t (enabled-in_domain sys h w.flow b (legal-in_domain sys h w.flow b l) (Notify p t) k) in
    same-recs (λ s. leq s t) (λ s. same s t || (settled s || is_told before s)) before
    (each-delivered sys.flow p (λ s. leq s t ≡ (same s t || (settled s || is_told before s))) h
    (λ s d. both-tests (leq s t) (same s t) (settled s) (is_told before s)
    (λ i j. paid-told sys h p s n d (k.none_lesser s (lesser-from s t i j)))
    (λ i. (and_parts (leq s t) (leq t s) i).0)
    (λ i. paid-told sys h p s n d (full.paid p s i))
    (λ i. told-below greatest_number t s (notified_stamps before) here lines above i)))

-- ---- what lies inside

-- what holds of each event at a stamp inside is so of each delivery among those inside
deliveries-inside : (bounds : Bounds) (f : Frontier) (vs : List Event) → AllByRecursion (λ v. in_domain bounds (event_stamp v) ≡ true) vs
    → EachDelivery (λ s. (f s ≡ true) × (in_domain bounds s ≡ true)) (events_inside f vs)
deliveries-inside bounds f [] d = tt
deliveries-inside bounds f (Inject s x ∷ vs) d =
    let rest = events_inside f vs in
    let P : Stamp → Type 0 = λ s. (f s ≡ true) × (in_domain bounds s ≡ true) in
    cond_both (f (x ∷ [])) (Inject s x ∷ rest) rest (EachDelivery P) (λ e. deliveries-inside bounds f vs d.1) (λ e. deliveries-inside bounds f vs d.1)
deliveries-inside bounds f (Deliver e m ∷ vs) d =
    let rest = events_inside f vs in
    let P : Stamp → Type 0 = λ s. (f s ≡ true) × (in_domain bounds s ≡ true) in
    cond_both (f m.at) (Deliver e m ∷ rest) rest (EachDelivery P) (λ i. ((i, d.0), deliveries-inside bounds f vs d.1)) (λ i. deliveries-inside bounds f vs d.1)
deliveries-inside bounds f (Notify p t ∷ vs) d =
    let rest = events_inside f vs in
    let P : Stamp → Type 0 = λ s. (f s ≡ true) × (in_domain bounds s ≡ true) in
    cond_both (f t) (Notify p t ∷ rest) rest (EachDelivery P) (λ e. deliveries-inside bounds f vs d.1) (λ e. deliveries-inside bounds f vs d.1)

pub deliveries_lie-inside : DeliveriesLieInside
deliveries_lie-inside sys h w b l p f = deliveries-inside (bounds_of sys.flow p) f (events_at sys.flow p h) (legal_events-in_domain sys h w b l p)

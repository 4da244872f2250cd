-- A sequence numbers in the order of its notifications, so what is inside phi comes from events inside.
use Rattle.std.proofs.Common.{◌≡◌, ℕ, ◌+◌, ◌<◌, ◌≤◌, Bool, true, false, cond, ◌==◌, ◌||◌, nat_lt, nat_le, List, [], ◌∷◌, ◌++◌, length, refl, sym, ap, subst, ◌∙◌, inl, inr, ◌⊎◌, arith}
use Rattle.std.specs.List.{AllByRecursion}
use Rattle.std.proofs.lemmas.Bool.{and_parts, and_from, and_left, or_cases, ltb-true, cases_Bool, cond_both, both_ways}
use Rattle.fw_lemmas.proofs.Each.{each-weaker, each-both, each-append}
use Rattle.fw_bag.specs.declared.rec.Rec.{Rec}
use Rattle.fw_time.specs.declared.stamp.Bounds.{Bounds}
use Rattle.fw_time.specs.Stamp.{Stamp, leq, in_domain}
use Rattle.fw_frontier.specs.Frontier.{Frontier, IsFrontier}
use Rattle.fw_flow.specs.declared.event.Event.{Event}
use Rattle.fw_flow.specs.declared.event.Event.TheVariants.{Inject, Deliver, Notify}
use Rattle.fw_flow.specs.declared.event.Message.{Message}
use Rattle.fw_flow.specs.Dataflow.{greatest_of_kind, System, Dataflow, kind_of, sender, receiver, greatest_number, domain_of_kind, bounds_of, bounds_of_domain}
use Rattle.fw_flow.specs.NodeFunction.{event_stamp, numbered_messages, sequence_sent, sends_of_kind, sends, sent_by}
use Rattle.fw_flow.specs.Projection.{events_at, all_inside, count_from, sent_count, first_coordinate, phi_of_kind, phi}
use Rattle.fw_model.specs.History.{injected_count}
use Rattle.fw_model.specs.LawsOfSending.{InsidePhiOfSequenceComesFromInside}
use Rattle.fw_model.proofs.CarriedLaws.{carried-each}
use Rattle.fw_model.proofs.PhiLaws.{count-append}
use Rattle.fw_model.specs.Order.{notified_stamps, AreDescending}
use Rattle.fw_model.specs.Sending.{SendsByCount, recs_by_count}

-- ---- counts

pub count-le_length : (f : Frontier) (ms : List Message) → count_from f ms ≤ length ms
count-le_length f [] = omega arith
count-le_length f (m ∷ ms) =
    let h = count-le_length f ms in
    cond_both (all_inside f m.causes) (count_from f ms + 1) (count_from f ms) (λ n. n ≤ length (m ∷ ms)) (λ e. omega arith) (λ e. omega arith)

pub count-none : (f : Frontier) (ms : List Message) → AllByRecursion (λ (m : Message). all_inside f m.causes ≡ false) ms → count_from f ms ≡ 0
count-none f [] a = refl
count-none f (m ∷ ms) a = ap (λ b. cond b (count_from f ms + 1) (count_from f ms)) a.0 ∙ count-none f ms a.1

-- ---- numbered messages

-- the message has a number from n on, and one cause
abbrev pub IsNumbered : ℕ → Stamp → Message → Type 0
IsNumbered n cause m = (n ≤ first_coordinate m.at) × (m.causes ≡ cause ∷ [])

pub numbered-each : (n : ℕ) (cause : Stamp) (rs : List Rec) → AllByRecursion (IsNumbered n cause) (numbered_messages n cause rs)
numbered-each n cause [] = tt
numbered-each n cause (r ∷ rs) =
    cond_both (nat_le n greatest_number) (record { at = n ∷ []; rec = r; causes = cause ∷ [] } ∷ numbered_messages (n + 1) cause rs) []
    (AllByRecursion (IsNumbered n cause))
    (λ e. (
      (omega arith, refl),
      each-weaker (IsNumbered (n + 1) cause) (IsNumbered n cause) (numbered_messages (n + 1) cause rs)
          (λ m a. let l = a.0 in (omega arith, a.1)) (numbered-each (n + 1) cause rs),
    ))
    (λ e. tt)

pub one_inside : (f : Frontier) (t : Stamp) (m : Message) (b : Bool) → f t ≡ b → m.causes ≡ t ∷ [] → all_inside f m.causes ≡ b
one_inside f t m true k e = ap (all_inside f) e ∙ and_from (f t) true k refl
one_inside f t m false k e = ap (all_inside f) e ∙ and_left (f t) true k

causes-inside : (f : Frontier) (vs : List Event) → AllByRecursion (λ s. f s ≡ true) (notified_stamps vs)
    → AllByRecursion (λ (m : Message). all_inside f m.causes ≡ true) (sequence_sent vs)
causes-inside f [] a = tt
causes-inside f (Inject s x ∷ vs) a = causes-inside f vs a
causes-inside f (Deliver e m ∷ vs) a = causes-inside f vs a
causes-inside f (Notify p t ∷ vs) a =
    let n = length (sequence_sent vs) in
    let rs = recs_by_count vs t in
    each-append _ (numbered_messages n t rs) (sequence_sent vs)
    (each-weaker (IsNumbered n t) (λ m. all_inside f m.causes ≡ true) (numbered_messages n t rs) (λ m b. one_inside f t m true a.0 b.1) (numbered-each n t rs))
    (causes-inside f vs a.1)

-- the numbers below the count of messages from events inside are those of messages from events inside
numbers-inside : (bounds : Bounds) (f : Frontier) → IsFrontier bounds f → (vs : List Event)
    → AllByRecursion (λ s. in_domain bounds s ≡ true) (notified_stamps vs) → AreDescending (notified_stamps vs)
    → AllByRecursion (λ (m : Message). first_coordinate m.at < count_from f (sequence_sent vs) → all_inside f m.causes ≡ true) (sequence_sent vs)
numbers-inside bounds f fr [] d o = tt
numbers-inside bounds f fr (Inject s x ∷ vs) d o = numbers-inside bounds f fr vs d o
numbers-inside bounds f fr (Deliver e m ∷ vs) d o = numbers-inside bounds f fr vs d o
numbers-inside bounds f fr (Notify p t ∷ vs) d o =
    let n = length (sequence_sent vs) in
    let rs = recs_by_count vs t in
    let now = numbered_messages n t rs in
    let all = sequence_sent (Notify p t ∷ vs) in
    elim (cases_Bool (f t)) [
      | inl k ↦
          each-weaker (λ (m : Message). all_inside f m.causes ≡ true) (λ m. first_coordinate m.at < count_from f all → all_inside f m.causes ≡ true) all (λ m i l. i)
          (causes-inside f (Notify p t ∷ vs) (
            k,
            each-weaker (λ s. (in_domain bounds s ≡ true) × (leq s t ≡ true)) (λ s. f s ≡ true) (notified_stamps vs)
                (λ s a. fr.closed s t a.0 a.1 k) (each-both _ _ (notified_stamps vs) d.1 o.0),
          ))
      | inr k ↦
          let none = count-none f now
          (each-weaker (IsNumbered n t) (λ m. all_inside f m.causes ≡ false) now (λ m b. one_inside f t m false k b.1) (numbered-each n t rs)) in
          let same : count_from f all ≡ count_from f (sequence_sent vs) = omega (arith, count-append f now (sequence_sent vs)) in
          let fewer = count-le_length f (sequence_sent vs) in
          each-append (λ (m : Message). first_coordinate m.at < count_from f all → all_inside f m.causes ≡ true) now (sequence_sent vs)
          (each-weaker (IsNumbered n t) (λ m. first_coordinate m.at < count_from f all → all_inside f m.causes ≡ true) now
          (λ m b l. let c = b.0 in absurd (omega arith)) (numbered-each n t rs))
          (each-weaker (λ (m : Message). first_coordinate m.at < count_from f (sequence_sent vs) → all_inside f m.causes ≡ true)
          (λ m. first_coordinate m.at < count_from f all → all_inside f m.causes ≡ true) (sequence_sent vs)
          (λ m i l. i (omega arith)) (numbers-inside bounds f fr vs d.1 o.1))
    ]

-- ---- what a sequence sent

-- no event injects
pub HasNoInject : List Event → Type 0
HasNoInject [] = Unit {0}
HasNoInject (Inject s x ∷ vs) = ⊥
HasNoInject (Deliver e m ∷ vs) = HasNoInject vs
HasNoInject (Notify p t ∷ vs) = HasNoInject vs

no_inject-delivery : (b : Bool) (e : ℕ) (m : Message) (vs : List Event) → HasNoInject vs → HasNoInject (cond b (Deliver e m ∷ vs) vs)
unfolding HasNoInject
no_inject-delivery true e m vs n = n
no_inject-delivery false e m vs n = n

no_inject-notification : (b : Bool) (p : ℕ) (t : Stamp) (vs : List Event) → HasNoInject vs → HasNoInject (cond b (Notify p t ∷ vs) vs)
unfolding HasNoInject
no_inject-notification true p t vs n = n
no_inject-notification false p t vs n = n

no_inject-injection : (b : Bool) (s x n : ℕ) (vs : List Event) → cond b (n + 1) n ≡ 0 → (n ≡ 0 → HasNoInject vs) → HasNoInject (cond b (Inject s x ∷ vs) vs)
no_inject-injection true s x n vs e k = absurd (omega arith)
no_inject-injection false s x n vs e k = k e

pub no_inject : (flow : Dataflow) (p : ℕ) (h : List Event) → injected_count p h ≡ 0 → HasNoInject (events_at flow p h)
unfolding HasNoInject
no_inject flow p [] n = tt
no_inject flow p (Inject s x ∷ h) n = no_inject-injection (s == p) s x (injected_count p h) (events_at flow p h) n (no_inject flow p h)
no_inject flow p (Deliver e m ∷ h) n = no_inject-delivery (receiver flow e == p) e m (events_at flow p h) (no_inject flow p h n)
no_inject flow p (Notify q t ∷ h) n = no_inject-notification (q == p) q t (events_at flow p h) (no_inject flow p h n)

pub sent_by-sequence : (sys : System) (p : ℕ) → SendsByCount (kind_of sys.flow p) → (vs : List Event) → HasNoInject vs → sent_by sys p vs ≡ sequence_sent vs
unfolding sends HasNoInject
sent_by-sequence sys p is [] n = refl
sent_by-sequence sys p is (Inject s x ∷ vs) n = absurd n
sent_by-sequence sys p is (Deliver e m ∷ vs) n =
    ap (λ k. sends_of_kind sys k vs (Deliver e m) ++ sent_by sys p vs) is ∙ sent_by-sequence sys p is vs n
sent_by-sequence sys p is (Notify q t ∷ vs) n =
    ap (λ k. sends_of_kind sys k vs (Notify q t) ++ sent_by sys p vs) is
    ∙ ap (λ ms. numbered_messages (length (sequence_sent vs)) t (recs_by_count vs t) ++ ms) (sent_by-sequence sys p is vs n)

pub notified_in_domain : (bounds : Bounds) (vs : List Event) → AllByRecursion (λ v. in_domain bounds (event_stamp v) ≡ true) vs
    → AllByRecursion (λ s. in_domain bounds s ≡ true) (notified_stamps vs)
notified_in_domain bounds [] d = tt
notified_in_domain bounds (Inject s x ∷ vs) d = notified_in_domain bounds vs d.1
notified_in_domain bounds (Deliver e m ∷ vs) d = notified_in_domain bounds vs d.1
notified_in_domain bounds (Notify p t ∷ vs) d = (d.0, notified_in_domain bounds vs d.1)

pub bounds-sequence : (flow : Dataflow) (p : ℕ) → SendsByCount (kind_of flow p) → bounds_of flow p ≡ record { greatest = greatest_number ∷ []; sides = false }
unfolding bounds_of
bounds-sequence flow p is = ap (λ k. bounds_of_domain flow (domain_of_kind flow k)) is

pub phi-sequence : (sys : System) (h : List Event) (e : ℕ) (f : Frontier) (u : Stamp) → SendsByCount (kind_of sys.flow (sender sys.flow e)) → phi sys h e f u ≡ true
    → (f (greatest_number ∷ []) ≡ true) ⊎ (first_coordinate u < sent_count sys h (sender sys.flow e) f)
unfolding phi
phi-sequence sys h e f u is k =
    let count = sent_count sys h (sender sys.flow e) f in
    let a = and_parts _ (phi_of_kind (greatest_of_kind sys.flow (kind_of sys.flow (sender sys.flow e))) (kind_of sys.flow (sender sys.flow e)) count f u) k in
    let b : (f (greatest_number ∷ []) || nat_lt (first_coordinate u) count) ≡ true = sym (ap (λ kind. phi_of_kind (greatest_of_kind sys.flow kind) kind count f u) is) ∙ a.1 in
    elim (or_cases (f (greatest_number ∷ [])) (nat_lt (first_coordinate u) count) b) [ inl i ↦ inl i | inr i ↦ inr (ltb-true (first_coordinate u) count i) ]

pub inside_phi_of_sequence-from_inside : InsidePhiOfSequenceComesFromInside
inside_phi_of_sequence-from_inside sys h e f is fr d o =
    let p = sender sys.flow e in
    let vs = events_at sys.flow p h in
    let bounds = bounds_of sys.flow p in
    let top = greatest_number ∷ [] in
    let notified = notified_in_domain bounds vs d in
    let sent_is = sent_by-sequence sys p is vs (no_inject sys.flow p h o.injects_nothing) in
    let Q : Message → Type 0 = λ m. phi sys h e f m.at ≡ true → all_inside f m.causes ≡ true in
    let P : List Message → Type 0 = λ ms. AllByRecursion Q ms in
    carried-each sys.flow e Q (sent_by sys p vs) (subst P (sym sent_is) (elim (cases_Bool (f top)) [
      | inl k ↦
          each-weaker (λ (m : Message). all_inside f m.causes ≡ true) Q (sequence_sent vs) (λ m i l. i)
          (causes-inside f vs (each-weaker (λ s. in_domain bounds s ≡ true) (λ s. f s ≡ true) (notified_stamps vs)
          (λ s i. fr.closed s top i (sym (ap (λ b. in_domain b s) (bounds-sequence sys.flow p is)) ∙ i) k) notified))
      | inr k ↦
          each-weaker (λ (m : Message). first_coordinate m.at < count_from f (sequence_sent vs) → all_inside f m.causes ≡ true) Q (sequence_sent vs)
          (λ m i l. elim (phi-sequence sys h e f m.at is l) [
            | inl j ↦ absurd (both_ways (f top) k j)
            | inr j ↦ let same = ap (count_from f) sent_is in i (omega arith)
          ])
          (numbers-inside bounds f fr vs notified o.in_order)
    ]))

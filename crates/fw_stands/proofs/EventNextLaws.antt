-- What a queue has next is what the machine delivers next.
use Rattle.std.proofs.Common.{◌≡◌, ℕ, Bool, true, false, cond, List, [], ◌∷◌, Option, Some, None, refl, sym, ap, subst, ◌∙◌, inl, inr, arith, ◌↔◌}
use Rattle.std.specs.Prelude.{find}
use Rattle.std.specs.declared.cmp.Ordering.{Ordering}
use Rattle.std.specs.declared.cmp.Ordering.TheVariants.{Less, Equal, Greater}
use Rattle.std.specs.Ordering.{is_eq, is_gt, ordering_reverse}
use Rattle.std.proofs.lemmas.Bool.{cases_Bool, cond-true, cond-false, or_cases, or_left, or_right, false≢true, both_ways}
use Rattle.std.proofs.lemmas.Cmp.{tied_itself}
use Rattle.fw_time.specs.Stamp.{Stamp, same}
use Rattle.fw_time.proofs.StampLaws.{same-is, same-refl}
use Rattle.fw_flow.specs.declared.event.Event.{Event}
use Rattle.fw_flow.specs.declared.event.Message.{Message}
use Rattle.fw_flow.specs.Dataflow.{System, Dataflow, receiver, is_numbered}
use Rattle.fw_flow.specs.Message.{message_cmp, is_message_among}
use Rattle.fw_flow.specs.WellFormed.{IsWellFormed, IsWellFormedSystem}
use Rattle.fw_flow.proofs.MessageLaws.{among-each, message_cmp-equal, message_cmp-same, message_total}
use Rattle.fw_model.specs.History.{pending_messages, IsDeliverable, IsLegal}
use Rattle.fw_model.specs.Machine.{Machine, events, is_failed}
use Rattle.fw_model.specs.Reached.{IsReached}
use Rattle.fw_model.specs.SortedMessages.{sorted_messages}
use Rattle.fw_model.specs.Steps.{is_asked, IsStampNamed, IsNextMessage}
use Rattle.fw_model.proofs.DomainLaws.{has_epochs}
use Rattle.fw_model.proofs.FirstLaws.{copies-among, first-next}
use Rattle.fw_model.proofs.RecoveryLaws.{runs-legal}
use Rattle.fw_model.proofs.SentLaws.{is_among-copies}
use Rattle.fw_model.proofs.SortedLaws.{IsAscendingMessages, ascending-sorted_messages, sorted_messages-weigh}
use Rattle.fw_stands.specs.Events.{asked_of_queue, if_asked, next_queued, IsDeliveryOf}
use Rattle.fw_stands.specs.Parts.{queued}

-- ---- a reached state

pub legal-reached : (sys : System) (state : Machine) → IsWellFormedSystem sys → IsReached sys state → IsLegal sys (events state.history)
legal-reached sys state w r = runs-legal sys r.0 r.1 state w.flow (has_epochs sys w) r.2

-- ---- the first message that passes a test

first-among : (m : Message) (ms : List Message) → is_message_among m (m ∷ ms) ≡ true
first-among m ms = or_left (is_eq (message_cmp m m)) (is_message_among m ms) (ap is_eq (tied_itself message_total m))

-- The message is the first of these that passes the test.
record IsFirst (test : Message → Bool) (ms : List Message) (m : Message) : Type 0 where
  among : is_message_among m ms ≡ true
  passes : test m ≡ true
  least : (other : Message) → is_message_among other ms ≡ true → test other ≡ true → is_gt (message_cmp m other) ≡ false

found-first : (test : Message → Bool) (ms : List Message) (m : Message) → IsAscendingMessages ms → find test ms ≡ Some m → IsFirst test ms m
unfolding IsAscendingMessages
found-first test [] m a k = absurd (cc k)
found-first test (x ∷ xs) m a k = elim (cases_Bool (test x)) [
  | inl e ↦
      let some : Some x ≡ Some m = sym (cond-true (test x) (Some x) (find test xs) e) ∙ k in
      let is : x ≡ m = cc some in
      subst (IsFirst test (x ∷ xs)) is (record {
        among = first-among x xs;
        passes = e;
        least = λ other i t. among-each (λ y. is_gt (message_cmp x y) ≡ false) other (x ∷ xs) i (ap is_gt (tied_itself message_total x), a.0);
      })
  | inr e ↦
      let f = found-first test xs m a.1 (sym (cond-false (test x) (Some x) (find test xs) e) ∙ k) in
      record {
        among = or_right (is_eq (message_cmp m x)) (is_message_among m xs) f.among;
        passes = f.passes;
        least = λ other i t. elim (or_cases (is_eq (message_cmp other x)) (is_message_among other xs) i) [
          | inl j ↦ absurd (both_ways (test x) e (sym (ap test (message_cmp-equal other x j)) ∙ t))
          | inr j ↦ f.least other j t
        ];
      }
]

found-none : (test : Message → Bool) (ms : List Message) → find test ms ≡ None → (m : Message) → is_message_among m ms ≡ true → test m ≡ false
found-none test [] k m i = absurd (false≢true i)
found-none test (x ∷ xs) k m i = elim (cases_Bool (test x)) [
  | inl e ↦ let some : Some x ≡ None = sym (cond-true (test x) (Some x) (find test xs) e) ∙ k in absurd (cc some)
  | inr e ↦ elim (or_cases (is_eq (message_cmp m x)) (is_message_among m xs) i) [
    | inl j ↦ ap test (message_cmp-equal m x j) ∙ e
    | inr j ↦ found-none test xs (sym (cond-false (test x) (Some x) (find test xs) e) ∙ k) m j
  ]
]

-- two messages of which none is greater are one
neither-greater : (m x : Message) → is_gt (message_cmp m x) ≡ false → is_gt (message_cmp x m) ≡ false → x ≡ m
neither-greater m x g k = by (message_cmp m x) refl
  where
    by : (o : Ordering) → message_cmp m x ≡ o → x ≡ m
    by Less e = absurd (both_ways (is_gt (message_cmp x m)) k (ap is_gt (message_total.antisymm x m ∙ ap ordering_reverse e)))
    by Equal e = sym (message_cmp-same m x e)
    by Greater e = absurd (both_ways (is_gt (message_cmp m x)) g (ap is_gt e))

-- ---- what is asked for

asked-is : (at : Option Stamp) (t : Stamp) → is_asked at t ≡ true → IsStampNamed at t
asked-is None t k = tt
asked-is (Some s) t k = same-is s t k

is-asked : (at : Option Stamp) (t : Stamp) → IsStampNamed at t → is_asked at t ≡ true
is-asked None t k = refl
is-asked (Some s) t k = subst (λ u. same s u ≡ true) k (same-refl s)

-- ---- what is among the messages in order

among-sorted : (m : Message) (ms : List Message) → is_message_among m ms ≡ true → is_message_among m (sorted_messages ms) ≡ true
among-sorted m ms i =
    let a = is_among-copies m ms i in
    let b = sorted_messages-weigh (λ x. cond (is_eq (message_cmp m x)) 1 0) ms in
    copies-among m (sorted_messages ms) (omega arith)

among-unsorted : (m : Message) (ms : List Message) → is_message_among m (sorted_messages ms) ≡ true → is_message_among m ms ≡ true
among-unsorted m ms i =
    let a = is_among-copies m (sorted_messages ms) i in
    let b = sorted_messages-weigh (λ x. cond (is_eq (message_cmp m x)) 1 0) ms in
    copies-among m ms (omega arith)

-- ---- on an edge that is not numbered

-- what may be delivered is what is pending
deliverable : (sys : System) (h : List Event) (e : ℕ) (m : Message) → is_numbered sys.flow e ≡ false → is_message_among m (sorted_messages (pending_messages sys h e)) ≡ true
    → IsDeliverable sys h e m
deliverable sys h e m n i = record {
  is_pending = among-unsorted m (pending_messages sys h e) i;
  numbered = λ k. absurd (both_ways (is_numbered sys.flow e) n k);
}

next-from : (sys : System) (h : List Event) (e : ℕ) (at : Option Stamp) (m : Message) → is_numbered sys.flow e ≡ false
    → IsFirst (λ x. is_asked at x.at) (sorted_messages (pending_messages sys h e)) m → IsNextMessage sys h e at m
next-from sys h e at m n f = record {
  enabled = deliverable sys h e m n f.among;
  asked = asked-is at m.at f.passes;
  least = λ other d a. f.least other (among-sorted other (pending_messages sys h e) d.is_pending) (is-asked at other.at a);
}

next-to : (sys : System) (h : List Event) (e : ℕ) (at : Option Stamp) (m : Message) → is_numbered sys.flow e ≡ false → IsNextMessage sys h e at m
    → find (λ (x : Message). is_asked at x.at) (sorted_messages (pending_messages sys h e)) ≡ Some m
next-to sys h e at m n x = by (find test qs) refl
  where
    test : Message → Bool
    test y = is_asked at y.at

    qs : List Message
    qs = sorted_messages (pending_messages sys h e)

    there : is_message_among m qs ≡ true
    there = among-sorted m (pending_messages sys h e) x.enabled.is_pending

    by : (found : Option Message) → find test qs ≡ found → find test qs ≡ Some m
    by None k = absurd (both_ways (test m) (found-none test qs k m there) (is-asked at m.at x.asked))
    by (Some y) k =
        let f = found-first test qs y (ascending-sorted_messages (pending_messages sys h e)) k in
        let least = x.least y (deliverable sys h e y n f.among) (asked-is at y.at f.passes) in
        k ∙ ap Some (neither-greater m y least (f.least m there (is-asked at m.at x.asked)))

-- ---- on a numbered edge

numbered-from : (sys : System) (h : List Event) → IsWellFormed sys.flow → IsLegal sys h → (e : ℕ) (at : Option Stamp) (m : Message) (rest : List Message)
    → is_numbered sys.flow e ≡ true → sorted_messages (pending_messages sys h e) ≡ m ∷ rest → is_asked at m.at ≡ true → IsNextMessage sys h e at m
numbered-from sys h w l e at m rest n k a =
    let d = first-next sys h w l e n m rest k in
    record {
      enabled = d.deliverable;
      asked = asked-is at m.at a;
      least = λ other o i. subst (λ x. is_gt (message_cmp m x) ≡ false) (sym (d.only other o)) (ap is_gt (tied_itself message_total m));
    }

-- the first one, if it is asked for
abbrev first_if : Option Stamp → List Message → Option Message
first_if at qs = if_asked at (find (λ (x : Message). true) qs)

numbered-both : (sys : System) (h : List Event) → IsWellFormed sys.flow → IsLegal sys h → (e : ℕ) (at : Option Stamp) (m : Message)
    → is_numbered sys.flow e ≡ true → (qs : List Message) → sorted_messages (pending_messages sys h e) ≡ qs
    → (IsNextMessage sys h e at m → first_if at qs ≡ Some m) × (first_if at qs ≡ Some m → IsNextMessage sys h e at m)
numbered-both sys h w l e at m n [] k = (
  (λ x. absurd (false≢true (subst (λ qs. is_message_among m qs ≡ true) k (among-sorted m (pending_messages sys h e) x.enabled.is_pending)))),
  (λ i. absurd (cc i)),
)
numbered-both sys h w l e at m n (x ∷ rest) k =
    let d = first-next sys h w l e n x rest k in (
      (λ y.
          let is = d.only m y.enabled in
          cond-true (is_asked at x.at) (Some x) None (ap (λ (z : Message). is_asked at z.at) (sym is) ∙ is-asked at m.at y.asked) ∙ ap Some (sym is)),
      (λ i. elim (cases_Bool (is_asked at x.at)) [
        | inl a ↦
            let some : Some x ≡ Some m = sym (cond-true (is_asked at x.at) (Some x) None a) ∙ i in
            let is : x ≡ m = cc some in
            subst (IsNextMessage sys h e at) is (numbered-from sys h w l e at x rest n k a)
        | inr a ↦
            let none : None ≡ Some m = sym (cond-false (is_asked at x.at) (Some x) None a) ∙ i in
            absurd (cc none)
      ]),
    )

-- ---- any edge

-- what is found by a test passes it
found-passes : (test : Message → Bool) (ms : List Message) (m : Message) → find test ms ≡ Some m → test m ≡ true
found-passes test [] m k = absurd (cc k)
found-passes test (x ∷ xs) m k = elim (cases_Bool (test x)) [
  | inl e ↦
      let some : Some x ≡ Some m = sym (cond-true (test x) (Some x) (find test xs) e) ∙ k in
      let is : x ≡ m = cc some in
      ap test (sym is) ∙ e
  | inr e ↦ found-passes test xs m (sym (cond-false (test x) (Some x) (find test xs) e) ∙ k)
]

-- what is found among those that are asked for is asked for
if-found : (at : Option Stamp) (qs : List Message) → if_asked at (find (λ (x : Message). is_asked at x.at) qs) ≡ find (λ (x : Message). is_asked at x.at) qs
if-found at qs = by (find (λ (x : Message). is_asked at x.at) qs) refl
  where
    by : (found : Option Message) → find (λ (x : Message). is_asked at x.at) qs ≡ found → if_asked at found ≡ found
    by None k = refl
    by (Some m) k = cond-true (is_asked at m.at) (Some m) None (found-passes (λ (x : Message). is_asked at x.at) qs m k)

next-asked : (flow : Dataflow) (e : ℕ) (at : Option Stamp) (qs : List Message) → is_numbered flow e ≡ false
    → next_queued flow e at qs ≡ find (λ (x : Message). is_asked at x.at) qs
next-asked flow e at qs n =
    ap (λ b. if_asked at (find (λ (x : Message). is_asked (cond b None at) x.at) qs)) n ∙ if-found at qs

next-first : (flow : Dataflow) (e : ℕ) (at : Option Stamp) (qs : List Message) → is_numbered flow e ≡ true → next_queued flow e at qs ≡ first_if at qs
next-first flow e at qs n = ap (λ b. if_asked at (find (λ (x : Message). is_asked (cond b None at) x.at) qs)) n

next-both : (sys : System) (h : List Event) → IsWellFormed sys.flow → IsLegal sys h → (e : ℕ) (at : Option Stamp) (m : Message)
    → (IsNextMessage sys h e at m → next_queued sys.flow e at (sorted_messages (pending_messages sys h e)) ≡ Some m)
    × (next_queued sys.flow e at (sorted_messages (pending_messages sys h e)) ≡ Some m → IsNextMessage sys h e at m)
next-both sys h w l e at m =
    let qs = sorted_messages (pending_messages sys h e) in
    elim (cases_Bool (is_numbered sys.flow e)) [
      | inl n ↦
          let b = numbered-both sys h w l e at m n qs refl in
          ((λ x. next-first sys.flow e at qs n ∙ b.0 x), (λ i. b.1 (sym (next-first sys.flow e at qs n) ∙ i)))
      | inr n ↦ (
        (λ x. next-asked sys.flow e at qs n ∙ next-to sys h e at m n x),
        (λ i. next-from sys h e at m n
            (found-first (λ (x : Message). is_asked at x.at) qs m (ascending-sorted_messages (pending_messages sys h e)) (sym (next-asked sys.flow e at qs n) ∙ i))),
      )
    ]

-- ---- the laws

pub queued-live : (sys : System) (state : Machine) (e : ℕ) → is_failed state (receiver sys.flow e) ≡ false
    → queued sys state e ≡ sorted_messages (pending_messages sys (events state.history) e)
queued-live sys state e f = cond-false (is_failed state (receiver sys.flow e)) [] (sorted_messages (pending_messages sys (events state.history) e)) f

queued-failed : (sys : System) (state : Machine) (e : ℕ) → is_failed state (receiver sys.flow e) ≡ true → queued sys state e ≡ []
queued-failed sys state e f = cond-true (is_failed state (receiver sys.flow e)) [] (sorted_messages (pending_messages sys (events state.history) e)) f

-- in each reached state, the message that the machine delivers next to a node that is not failed is the one that its queue has next
pub queues-have_next : (sys : System) (state : Machine) → IsWellFormedSystem sys → IsReached sys state
    → (e : ℕ) (at : Option Stamp) (m : Message) → is_failed state (receiver sys.flow e) ≡ false
    → IsNextMessage sys (events state.history) e at m ↔ (next_queued sys.flow e at (queued sys state e) ≡ Some m)
queues-have_next sys state w r e at m f =
    let b = next-both sys (events state.history) w.flow (legal-reached sys state w r) e at m in
    let q = ap (next_queued sys.flow e at) (queued-live sys state e f) in
    ((λ x. q ∙ b.0 x), (λ i. b.1 (sym q ∙ i)))

-- in each reached state a delivery takes what the queue has next
pub deliveries-take_next : (sys : System) (state : Machine) → IsWellFormedSystem sys → IsReached sys state
    → (e : ℕ) (at : Option Stamp) → IsDeliveryOf sys state e at (next_queued sys.flow e at (queued sys state e))
deliveries-take_next sys state w r e at = by (next_queued sys.flow e at (queued sys state e)) refl
  where
    by : (next : Option Message) → next_queued sys.flow e at (queued sys state e) ≡ next → IsDeliveryOf sys state e at next
    by None k = (
      (λ other effect t.
          let there = (queues-have_next sys state w r e at t.0 t.2).0 t.1 in
          let none : None ≡ Some t.0 = sym k ∙ there in
          absurd (cc none)),
      refl,
    )
    by (Some m) k = elim (cases_Bool (is_failed state (receiver sys.flow e))) [
      | inl f ↦
          let none : None ≡ Some m = sym (ap (next_queued sys.flow e at) (queued-failed sys state e f)) ∙ k in
          absurd (cc none)
      | inr f ↦ (m, (queues-have_next sys state w r e at m f).1 k, f, refl, refl)
    ]

-- the first of all is the first at its stamp
first-at_stamp : (at : Option Stamp) (qs : List Message) (m : Message) → find (λ (x : Message). is_asked at x.at) qs ≡ Some m
    → find (λ (x : Message). is_asked (Some m.at) x.at) qs ≡ Some m
first-at_stamp None [] m k = k
first-at_stamp None (x ∷ xs) m k =
    let is : x ≡ m = cc k in
    cond-true (same m.at x.at) (Some x) (find (λ (y : Message). same m.at y.at) xs) (ap (λ (y : Message). same m.at y.at) is ∙ same-refl m.at) ∙ k
first-at_stamp (Some s) qs m k =
    let at = same-is s m.at (found-passes (λ (x : Message). same s x.at) qs m k) in
    ap (λ t. find (λ (x : Message). same t x.at) qs) (sym at) ∙ k

if-some : (at : Option Stamp) (found : Option Message) (m : Message) → if_asked at found ≡ Some m → found ≡ Some m
if-some at None m k = k
if-some at (Some x) m k = elim (cases_Bool (is_asked at x.at)) [
  | inl a ↦ sym (cond-true (is_asked at x.at) (Some x) None a) ∙ k
  | inr a ↦ let none : None ≡ Some m = sym (cond-false (is_asked at x.at) (Some x) None a) ∙ k in absurd (cc none)
]

-- what a queue has next is the first message at its own stamp
pub next-first_at_its_stamp : (flow : Dataflow) (e : ℕ) (at : Option Stamp) (queue : List Message) (m : Message)
    → next_queued flow e at queue ≡ Some m → find (λ (x : Message). is_asked (Some m.at) x.at) queue ≡ Some m
next-first_at_its_stamp flow e at queue m k =
    first-at_stamp (asked_of_queue flow e at) queue m (if-some at (find (λ (x : Message). is_asked (asked_of_queue flow e at) x.at) queue) m k)

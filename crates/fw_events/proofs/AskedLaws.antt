-- What is delivered next, and whether something may be delivered or injected.
use Rattle.std.proofs.Common.{◌≡◌, ℕ, ◌<◌, ◌≤◌, Bool, true, false, not, ◌&&◌, cond, List, [], ◌∷◌, length, Option, Some, None, Result, refl, sym, ap, subst, ◌∙◌, inl, inr, arith}
use Rattle.std.specs.Prelude.{◌↔◌, IfNone, IfSome, IsTrue, OnOk, find, is_some, option_map, slice_get, slice_set}
use Rattle.std.proofs.lemmas.Result.{on_ok_weaker}
use Rattle.std.specs.List.{AllByRecursion}
use Rattle.std.proofs.lemmas.Option.{get_or_from_slice_get, same_Some, slice_get-get_or, slice_get_within}
use Rattle.std.proofs.lemmas.Bool.{cases_Bool, cases_lt, cond-true, cond-false, false≢true}
use Rattle.std.proofs.lemmas.List.{get_or-set_same, get_or_past}
use Rattle.fw_time.specs.Stamp.{Stamp, in_domain}
use Rattle.fw_bag.specs.declared.rec.Rec.{Rec}
use Rattle.fw_flow.specs.Message.{messages_without}
use Rattle.fw_flow.specs.declared.event.Message.{Message}
use Rattle.fw_flow.specs.declared.kind.Domain.{Domain}
use Rattle.fw_flow.specs.declared.kind.Domain.TheVariants.{Epoch, Number, Loop as InLoop}
use Rattle.fw_flow.specs.Dataflow.{Dataflow, bounds_of, kind_of, receiver, is_input_kind, is_numbered, is_of_numbers}
use Rattle.fw_model.specs.Steps.{is_asked}
use Rattle.fw_model.proofs.NothingInsideLaws.{kind-declared}
use Rattle.fw_border.specs.Sources.{next_batch}
use Rattle.fw_edge.specs.Messages.{MessagesState}
use Rattle.fw_rollback.specs.Edges.{nothing_there, on_edge}
use Rattle.fw_stands.specs.Events.{asked_of_queue, next_queued}
use Rattle.fw_stands.proofs.EventNextLaws.{next-first_at_its_stamp}
use Rattle.fw_running.specs.Shaped.{IsOnEdge, IsShaped}
use Rattle.fw_running.specs.declared.running.Running.{Running}
use Rattle.fw_running.specs.Kept.{queue_at, source_of, is_down}
use Rattle.fw_running.specs.Ready.{CanDeliver, CanInject}
use Rattle.fw_events.specs.Taking.{without_found}
use Rattle.fw_events.specs.declared.delivery.Next.{Next}

-- past the last edge there is nothing
pub nothing-past : (all : List MessagesState) (e : ℕ) → length all ≤ e → (on_edge all e).messages ≡ []
nothing-past all e past = ap (λ (q : MessagesState). q.messages) (get_or_past all e nothing_there past)

-- what is asked of the queue of an edge
pub asked_none : (flow : Dataflow) (e : ℕ) → asked_of_queue flow e None ≡ None
asked_none flow e = by (is_numbered flow e)
  where
    by : (b : Bool) → ◌≡◌ {A = Option Stamp} (cond b None None) None
    by true = refl
    by false = refl

pub asked_numbers : (flow : Dataflow) (e : ℕ) (at : Option Stamp) → is_numbered flow e ≡ true → asked_of_queue flow e at ≡ None
asked_numbers flow e at numbers = cond-true (is_numbered flow e) None at numbers

pub asked_others : (flow : Dataflow) (e : ℕ) (at : Option Stamp) → is_numbered flow e ≡ false → asked_of_queue flow e at ≡ at
asked_others flow e at others = cond-false (is_numbered flow e) None at others

-- the domain of numbers alone is that of numbers
pub not_of_numbers : (d : Domain) → (d ≡ Number → ⊥) → is_of_numbers d ≡ false
not_of_numbers Epoch n = refl
not_of_numbers Number n = absurd (n refl)
not_of_numbers (InLoop l) n = refl

-- the queue of an edge is the one that is there
pub queue-there : (all : List MessagesState) (e : ℕ) (q : MessagesState) → Some q ≡ slice_get all e → (on_edge all e).messages ≡ q.messages
queue-there all e q is = ap (λ (x : MessagesState). x.messages) (get_or_from_slice_get all e q nothing_there (sym is))

pub queue-none : (all : List MessagesState) (e : ℕ) → None ≡ slice_get all e → (on_edge all e).messages ≡ []
queue-none all e is = elim (cases_lt e (length all)) [
  | inl l ↦ let none : None ≡ Some (on_edge all e) = is ∙ slice_get-get_or all e nothing_there l in absurd (cc none)
  | inr past ↦ nothing-past all e past
]

-- where there is no queue nothing is the first
pub nothing-first : (all : List MessagesState) (e : ℕ) (test : Message → Bool) → None ≡ slice_get all e → None ≡ find test (on_edge all e).messages
nothing-first all e test is = sym (ap (find test) (queue-none all e is))

-- what is found is one of them
found-holds : (P : Message → Type 0) (test : Message → Bool) (ms : List Message) (m : Message) → AllByRecursion P ms → find test ms ≡ Some m → P m
found-holds P test [] m a k = absurd (cc k)
found-holds P test (x ∷ ms) m a k = elim (cases_Bool (test x)) [
  | inl t ↦ let is : Some x ≡ Some m = sym (cond-true (test x) (Some x) (find test ms) t) ∙ k in subst P (same_Some x m is) a.0
  | inr t ↦ found-holds P test ms m a.1 (sym (cond-false (test x) (Some x) (find test ms) t) ∙ k)
]

-- A message is the next one on edge e, where this is asked for, and it is this rec at this stamp.
pub record IsNextOn (running : Running) (e : ℕ) (asked : Option Stamp) (at : Stamp) (rec : Rec) : Type 0 where
  pub m : Message
  pub next : next_queued running.flow e asked (queue_at running e) ≡ Some m
  pub at_is : m.at ≡ at
  pub rec_is : m.rec ≡ rec

-- the stamp and the rec of a message
abbrev pub next_of : Message → Next
next_of m = record { at = m.at; rec = m.rec }

pub is_next : (running : Running) (e : ℕ) (asked : Option Stamp) (n : Next)
    → Some n ≡ option_map next_of (next_queued running.flow e asked (queue_at running e)) → IsNextOn running e asked n.at n.rec
is_next running e asked n some = by (next_queued running.flow e asked (queue_at running e)) refl some
  where
    by : (next : Option Message) → next_queued running.flow e asked (queue_at running e) ≡ next → Some n ≡ option_map next_of next
        → IsNextOn running e asked n.at n.rec
    by None k s = absurd (cc s)
    by (Some m) k s =
        let same = same_Some n (next_of m) s in
        record { m = m; next = k; at_is = sym (ap (λ (x : Next). x.at) same); rec_is = sym (ap (λ (x : Next). x.rec) same) }

pub none_next : (running : Running) (e : ℕ) (asked : Option Stamp)
    → None ≡ option_map next_of (next_queued running.flow e asked (queue_at running e)) → next_queued running.flow e asked (queue_at running e) ≡ None
none_next running e asked none = by (next_queued running.flow e asked (queue_at running e)) none
  where
    by : (next : Option Message) → None ≡ option_map next_of next → next ≡ None
    by None s = refl
    by (Some m) s = absurd (cc s)

-- it is the first of what is pending at its stamp, at a stamp of the receiver's domain, on an edge of the flow
pub next-first : (running : Running) (e : ℕ) (asked : Option Stamp) (m : Message) → next_queued running.flow e asked (queue_at running e) ≡ Some m
    → find (λ (x : Message). is_asked (Some m.at) x.at) (queue_at running e) ≡ Some m
next-first running e asked m k = next-first_at_its_stamp running.flow e asked (queue_at running e) m k

pub next-in_domain : (running : Running) (e : ℕ) (asked : Option Stamp) (m : Message) → IsShaped running
    → next_queued running.flow e asked (queue_at running e) ≡ Some m → in_domain (bounds_of running.flow (receiver running.flow e)) m.at ≡ true
next-in_domain running e asked m s k =
    (found-holds (IsOnEdge running.flow e) (λ (x : Message). is_asked (Some m.at) x.at) (queue_at running e) m (s.queues e) (next-first running e asked m k)).at

pub next-there : (running : Running) (e : ℕ) (asked : Option Stamp) (m : Message) → length running.parts.queues ≡ length running.flow.edges
    → next_queued running.flow e asked (queue_at running e) ≡ Some m → e < length running.flow.edges
next-there running e asked m each k = elim (cases_lt e (length running.flow.edges)) [
  | inl l ↦ l
  | inr past ↦
      let none : None ≡ Some m = sym (ap (find (λ (x : Message). is_asked (Some m.at) x.at)) (nothing-past running.parts.queues e (omega arith)))
      ∙ next-first running e asked m k in
      absurd (cc none)
]

-- so is what is found, also while the flow stays as it is
pub next-at : (old now : Running) (e p : ℕ) (asked : Option Stamp) (n : Next) → IsShaped old → now.flow ≡ old.flow → p ≡ receiver old.flow e
    → Some n ≡ option_map next_of (next_queued old.flow e asked (queue_at old e)) → in_domain (bounds_of now.flow p) n.at ≡ true
next-at old now e p asked n s flow to some =
    let next = is_next old e asked n some in
    ap (λ f. in_domain (bounds_of f p) n.at) flow ∙ ap (λ q. in_domain (bounds_of old.flow q) n.at) to
    ∙ ap (in_domain (bounds_of old.flow (receiver old.flow e))) (sym next.at_is) ∙ next-in_domain old e asked next.m s next.next

-- ---- the queue of an edge that is lent

lent-there : (all : List MessagesState) (e : ℕ) (old : MessagesState) → Some old ≡ slice_get all e → e < length all
lent-there all e old is = slice_get_within all e old (sym is)

pub lent-here : {T E : Type 0} (all : List MessagesState) (e : ℕ) (old new : MessagesState) (result : Result T E) (f : List Message → List Message)
    → Some old ≡ slice_get all e → OnOk result (new.messages ≡ f old.messages) → OnOk result ((on_edge (slice_set all e new) e).messages ≡ f (on_edge all e).messages)
lent-here all e old new result f is put = on_ok_weaker result (λ h.
    ap (λ (q : MessagesState). q.messages) (get_or-set_same all e new nothing_there (lent-there all e old is)) ∙ h ∙ ap f (sym (queue-there all e old is))) put

taken-out : (old new : MessagesState) (found : Option Message) → IfSome found (λ m. new ≡ record old { messages = messages_without m old.messages })
    → IfNone found (new ≡ old) → new.messages ≡ without_found found old.messages
taken-out old new None some none = ap (λ (q : MessagesState). q.messages) none
taken-out old new (Some m) some none = ap (λ (q : MessagesState). q.messages) some

pub taken-here : (all : List MessagesState) (e : ℕ) (old new : MessagesState) (test : Message → Bool) (found : Option Message) → Some old ≡ slice_get all e
    → found ≡ find test old.messages → IfSome found (λ m. new ≡ record old { messages = messages_without m old.messages }) → IfNone found (new ≡ old)
    → (on_edge (slice_set all e new) e).messages ≡ without_found (find test (on_edge all e).messages) (on_edge all e).messages
taken-here all e old new test found is value some none =
    ap (λ (q : MessagesState). q.messages) (get_or-set_same all e new nothing_there (lent-there all e old is)) ∙ taken-out old new found some none
    ∙ ap (λ o. without_found o old.messages) value ∙ ap (λ ms. without_found (find test ms) ms) (sym (queue-there all e old is))

pub taken-nowhere : (all : List MessagesState) (e : ℕ) (test : Message → Bool) → None ≡ slice_get all e
    → (on_edge all e).messages ≡ without_found (find test (on_edge all e).messages) (on_edge all e).messages
taken-nowhere all e test is = queue-none all e is ∙ ap (λ ms. without_found (find test ms) ms) (sym (queue-none all e is))

-- ---- what may be delivered or injected

pub delivers-where : (running : Running) (e : ℕ) → length running.parts.queues ≡ length running.flow.edges → (none down : Bool)
    → IsTrue none ↔ (queue_at running e ≡ []) → down ≡ is_down running (receiver running.flow e) → IsTrue (not none && not down) ↔ CanDeliver running e
delivers-where running e each true down i k = (λ h. absurd (false≢true h), λ c. absurd (c.some (i.0 refl)))
delivers-where running e each false true i k = (λ h. absurd (false≢true h), λ c. absurd (false≢true (sym c.live ∙ sym k)))
delivers-where running e each false false i k = (
  (λ h. record {
    there = elim (cases_lt e (length running.flow.edges)) [
      | inl l ↦ l
      | inr past ↦ absurd (false≢true (i.1 (nothing-past running.parts.queues e (omega arith))))
    ];
    live = sym k;
    some = λ none. false≢true (i.1 none);
  }),
  (λ c. refl),
)

pub injects-by : (running : Running) (s : ℕ) (down input some : Bool) → down ≡ is_down running s → input ≡ is_input_kind (kind_of running.flow s)
    → some ≡ is_some (next_batch (source_of running s)) → IsTrue (not down && (input && some)) ↔ CanInject running s
injects-by running s true input some d i n = (λ h. absurd (false≢true h), λ c. absurd (false≢true (sym c.live ∙ sym d)))
injects-by running s false false some d i n = (λ h. absurd (false≢true h), λ c. absurd (false≢true (i ∙ c.input)))
injects-by running s false true false d i n = (λ h. absurd (false≢true h), λ c. absurd (c.some (none-there (next_batch (source_of running s)) (sym n))))
  where
    none-there : (o : Option (List Rec)) → is_some o ≡ false → o ≡ None
    none-there None k = refl
    none-there (Some x) k = absurd (false≢true (sym k))
injects-by running s false true true d i n = (
  (λ h. record {
    there = kind-declared running.flow s is_input_kind (sym i) refl;
    live = sym d;
    input = sym i;
    some = λ none. false≢true (sym (ap is_some none) ∙ sym n);
  }),
  (λ c. refl),
)

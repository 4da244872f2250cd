-- What stands for a history stands for it as it goes on by an event.
use Rattle.std.proofs.Common.{◌≡◌, ◌≢◌, ℕ, zero, suc, ◌+◌, ◌-◌, ◌<◌, ◌≤◌, Bool, true, false, not, ◌&&◌, ◌||◌, ◌==◌, nat_lt, cond, List, [], ◌∷◌, ◌++◌, Option, length, get_or, map, refl, sym, ap, subst, ◌∙◌, inl, inr, arith}
use Rattle.std.specs.Prelude.{filter}
use Rattle.std.specs.List.{AllByRecursion}
use Rattle.std.proofs.lemmas.Bool.{and_parts, and_from, cases_Bool, cases_eq, eq-eqb, eqb-true, false_from_ne_true, both_ways, or_cases, or_left, or_right}
use Rattle.std.proofs.lemmas.List.{length-map}
use Rattle.std.proofs.Math.Bool.{and-false}
use Rattle.std.proofs.lemmas.Bool.Decides.{nat_tests}
use Rattle.std.proofs.lemmas.List.Sorted.{IsNonDecreasingBy-push}
use Rattle.fw_lemmas.proofs.Each.{each-weaker, each-at, each-append}
use Rattle.fw_time.specs.Stamp.{Stamp, leq, same, in_domain}
use Rattle.fw_time.proofs.StampLaws.{same-is, same-refl}
use Rattle.fw_bag.specs.declared.rec.Rec.{Rec}
use Rattle.fw_flow.specs.Counting.{how_many}
use Rattle.fw_flow.specs.declared.event.Event.{Event}
use Rattle.fw_flow.specs.declared.event.Event.TheVariants.{Inject, Deliver, Notify}
use Rattle.fw_flow.specs.declared.event.Message.{Message}
use Rattle.fw_flow.specs.declared.key_part.KeyPart.{KeyPart}
use Rattle.fw_flow.specs.Dataflow.{System, Dataflow, kind_of, sender, receiver, greatest_number, is_notified_kind, is_sequence_kind, HasEpochs}
use Rattle.fw_flow.specs.NodeFunction.{event_node, sends}
use Rattle.fw_flow.specs.Projection.{events_at, IsSentTable}
use Rattle.fw_flow.specs.KeyParts.{is_of_part_if, is_carried, part_of}
use Rattle.fw_flow.specs.SentTable.{EpochsAscend}
use Rattle.fw_flow.specs.WellFormed.{IsWellFormed}
use Rattle.fw_model.specs.Carried.{carried}
use Rattle.fw_model.specs.History.{sent_messages, message_on, delivered_messages, pending_messages, is_delivery_to, was_delivered_to, was_notified, is_owed_notice, injected_count, some_at, IsLegal}
use Rattle.fw_model.specs.LawsOfPending.{sent_on}
use Rattle.fw_frontier.specs.Front.{Front}
use Rattle.fw_model.specs.Machine.{family_of}
use Rattle.fw_model.specs.Order.{notified_stamps, AreDescending}
use Rattle.fw_model.specs.Sending.{SendsByCount}
use Rattle.fw_model.proofs.CarriedLaws.{sent-more}
use Rattle.fw_model.proofs.ClosedLaws.{settled-outside}
use Rattle.fw_model.proofs.CompleteLaws.{admissible-stays}
use Rattle.fw_model.proofs.KindSorts.{is_sequence}
use Rattle.fw_model.proofs.LegalLaws.{enabled-in_domain, legal-in_domain}
use Rattle.fw_model.proofs.NotifiedLaws.{notified-settled}
use Rattle.fw_model.proofs.OrderLaws.{sequences-in_order}
use Rattle.fw_model.proofs.PendingLaws.{is_among-some_at}
use Rattle.fw_model.proofs.PendingNumberLaws.{of_message, many-weigh}
use Rattle.fw_model.proofs.ProgressLaws.{leave-stuck}
use Rattle.fw_model.proofs.SentLaws.{less-weigh, delivered-was_sent}
use Rattle.fw_model.proofs.SequenceLaws.{bounds-sequence}
use Rattle.fw_model.proofs.StampLaws.{in_line}
use Rattle.fw_model.proofs.TableLaws.{table-follows}
use Rattle.fw_model.proofs.OncePerNumberLaws.{any_at}
use Rattle.fw_progress.specs.declared.counts.Counts.{Counts}
use Rattle.fw_progress.specs.Counts.{pending_of, owed_of, injected_in, sent_of, is_in}
use Rattle.fw_progress.specs.History.{count_at, IsCountOf, AreKeptAdmissible, AreSameRecs, recs_sent}
use Rattle.fw_progress.specs.Progress.{stamps_of_part, stamps_on, ArePendingMore, DeliversOne, IsNotified, IsInjected}
use Rattle.fw_progress.specs.Growths.{IsEnlisted}
use Rattle.fw_progress.specs.Tally.{times_in, has_one}
use Rattle.fw_progress.proofs.HistoryLaws.{count-some}

-- ---- what is pending after an event

count-append : (t : Stamp) (xs ys : List Message) → count_at t (xs ++ ys) ≡ count_at t xs + count_at t ys
count-append t [] ys = omega arith
count-append t (x ∷ xs) ys = by (same t x.at) (count-append t xs ys)
  where
    by : (b : Bool) → count_at t (xs ++ ys) ≡ count_at t xs + count_at t ys
        → cond b (count_at t (xs ++ ys) + 1) (count_at t (xs ++ ys)) ≡ cond b (count_at t xs + 1) (count_at t xs) + count_at t ys
    by true e = omega (arith, e)
    by false e = e

-- in a legal history what was sent at a stamp is what was delivered and what is pending
pending-balance : (sys : System) (h : List Event) → IsLegal sys h → (e : ℕ) (t : Stamp)
    → count_at t (pending_messages sys h e) + count_at t (delivered_messages h e) ≡ count_at t (sent_messages sys h e)
pending-balance sys h l e t =
    let w = of_message (any_at t) in
    let a = less-weigh w (sent_messages sys h e) (delivered_messages h e) (delivered-was_sent sys h l e) in
    let x = many-weigh t (pending_messages sys h e) in
    let y = many-weigh t (delivered_messages h e) in
    let z = many-weigh t (sent_messages sys h e) in
    omega arith

event-balance : (sys : System) (h : List Event) (v : Event) → IsLegal sys (v ∷ h) → (e : ℕ) (t : Stamp)
    → count_at t (pending_messages sys (v ∷ h) e) + count_at t (message_on e v) ≡ count_at t (pending_messages sys h e) + count_at t (sent_on sys h e v)
event-balance sys h v l e t =
    let now = pending-balance sys (v ∷ h) l e t in
    let before = pending-balance sys h l.1 e t in
    let more = ap (count_at t) (sent-more sys h v e) ∙ count-append t (sent_on sys h e v) (sent_messages sys h e) in
    let came = count-append t (message_on e v) (delivered_messages h e) in
    omega arith

-- the stamps of what an event sends that an edge carries are those of the messages that it carries
pub stamps-carried : (flow : Dataflow) (e : ℕ) (ms : List Message) → stamps_on flow e (map (λ (m : Message). (m.at, m.rec)) ms) ≡ map (λ (m : Message). m.at) (carried flow e ms)
unfolding carried is_carried
stamps-carried flow e [] = refl
stamps-carried flow e (m ∷ ms) = by (is_of_part_if part m.rec.key) (stamps-carried flow e ms)
  where
    part : Option KeyPart
    part = part_of flow (receiver flow e)

    sent : List (Stamp × Rec)
    sent = map (λ (n : Message). (n.at, n.rec)) ms

    by : (b : Bool) → stamps_of_part part sent ≡ map (λ (n : Message). n.at) (filter (λ (n : Message). is_of_part_if part n.rec.key) ms)
        → map (λ (s : Stamp × Rec). s.0) (cond b ((m.at, m.rec) ∷ filter (λ (s : Stamp × Rec). is_of_part_if part s.1.key) sent) (filter (λ (s : Stamp × Rec). is_of_part_if part s.1.key) sent))
        ≡ map (λ (n : Message). n.at) (cond b (m ∷ filter (λ (n : Message). is_of_part_if part n.rec.key) ms) (filter (λ (n : Message). is_of_part_if part n.rec.key) ms))
    by true h = ap (λ ts. m.at ∷ ts) h
    by false h = h

stamps-many : (test : Stamp → Bool) (part : Option KeyPart) (xs : List (Stamp × Rec))
    → how_many test (stamps_of_part part xs) ≡ how_many (λ (s : Stamp × Rec). is_of_part_if part s.1.key && test s.0) xs
stamps-many test part [] = refl
stamps-many test part (x ∷ xs) = by (is_of_part_if part x.1.key) (stamps-many test part xs)
  where
    kept : List (Stamp × Rec)
    kept = filter (λ (s : Stamp × Rec). is_of_part_if part s.1.key) xs

    all : ℕ
    all = how_many (λ (s : Stamp × Rec). is_of_part_if part s.1.key && test s.0) xs

    by : (b : Bool) → how_many test (stamps_of_part part xs) ≡ all → how_many test (map (λ (s : Stamp × Rec). s.0) (cond b (x ∷ kept) kept)) ≡ cond (b && test x.0) (all + 1) all
    by true h = ap (λ n. cond (test x.0) (n + 1) n) h
    by false h = h

-- where the same recs are sent, as many are carried at each stamp
pub same-many : (xs ys : List (Stamp × Rec)) → AreSameRecs xs ys → (test : Stamp → Bool) (part : Option KeyPart)
    → how_many test (stamps_of_part part xs) ≡ how_many test (stamps_of_part part ys)
same-many xs ys h test part =
    stamps-many test part xs ∙ h (λ (s : Stamp × Rec). is_of_part_if part s.1.key && test s.0) ∙ sym (stamps-many test part ys)

length-many : {A : Type 0} (xs : List A) → length xs ≡ how_many (λ (x : A). true) xs
length-many [] = refl
length-many (x ∷ xs) = let h = length-many xs in omega arith

-- and as many in all
pub same-length : (xs ys : List (Stamp × Rec)) → AreSameRecs xs ys → length xs ≡ length ys
same-length xs ys h = length-many xs ∙ h (λ (s : Stamp × Rec). true) ∙ sym (length-many ys)

pub same-carried : (xs ys : List (Stamp × Rec)) → AreSameRecs xs ys → (part : Option KeyPart) → length (stamps_of_part part xs) ≡ length (stamps_of_part part ys)
same-carried xs ys h part = length-many (stamps_of_part part xs) ∙ same-many xs ys h (λ (s : Stamp). true) part ∙ sym (length-many (stamps_of_part part ys))

many-map : (t : Stamp) (ms : List Message) → how_many (same t) (map (λ (m : Message). m.at) ms) ≡ count_at t ms
many-map t [] = refl
many-map t (m ∷ ms) = ap (λ n. cond (same t m.at) (n + 1) n) (many-map t ms)

-- what an event sends on an edge, by the stamps of what this carries
sent_on-count : (sys : System) (h : List Event) (v : Event) (e : ℕ) (t : Stamp) → count_at t (sent_on sys h e v) ≡ cond (sender sys.flow e == event_node sys.flow v) (how_many (same t) (stamps_on sys.flow e (recs_sent sys h v))) 0
sent_on-count sys h v e t =
    let p = event_node sys.flow v in
    let q = sender sys.flow e in
    let S : ℕ → List Message = λ n. sends sys n (events_at sys.flow n h) v in
    let there = how_many (same t) (stamps_on sys.flow e (recs_sent sys h v)) in
    elim (cases_eq p q) [
      | inl k ↦
          ap (λ b. count_at t (cond b (carried sys.flow e (S q)) [])) (eq-eqb p q k) ∙ ap (λ n. count_at t (carried sys.flow e (S n))) (sym k)
          ∙ sym (many-map t (carried sys.flow e (S p))) ∙ ap (how_many (same t)) (sym (stamps-carried sys.flow e (S p)))
          ∙ sym (ap (λ b. cond b there 0) (eq-eqb q p (sym k)))
      | inr n ↦
          ap (λ b. count_at t (cond b (carried sys.flow e (S q)) [])) (false_from_ne_true (p == q) (λ k. n (eqb-true p q k)))
          ∙ sym (ap (λ b. cond b there 0) (false_from_ne_true (q == p) (λ k. n (sym (eqb-true q p k)))))
    ]

-- what is pending, where what the event delivered was taken and what it sent was added
pending-event : (sys : System) (h : List Event) (v : Event) (sent : List (Stamp × Rec)) (old between new : List (List (Stamp × ℕ))) → IsLegal sys (v ∷ h) → AreSameRecs (recs_sent sys h v) sent
    → ((e : ℕ) → e < length sys.flow.edges → (t : Stamp) → times_in t (get_or old e []) ≡ count_at t (pending_messages sys h e))
    → ((e : ℕ) → e < length sys.flow.edges → (t : Stamp) → times_in t (get_or between e []) + count_at t (message_on e v) ≡ times_in t (get_or old e []))
    → ArePendingMore sys.flow (event_node sys.flow v) sent between new
    → (e : ℕ) → e < length sys.flow.edges → (t : Stamp) → times_in t (get_or new e []) ≡ count_at t (pending_messages sys (v ∷ h) e)
pending-event sys h v sent old between new l is o taken s e m t =
    let a = s.times e m t in
    let b = event-balance sys h v l e t in
    let c = sent_on-count sys h v e t ∙ ap (λ n. cond (sender sys.flow e == event_node sys.flow v) n 0) (same-many (recs_sent sys h v) sent is (same t) (part_of sys.flow (receiver sys.flow e))) in
    let d = taken e m t in
    let f = o e m t in
    omega arith

-- ---- deliveries

-- nothing is delivered at a stamp that the node was notified of
not-notified : (sys : System) (h : List Event) (e : ℕ) (m : Message) → IsWellFormed sys.flow → HasEpochs sys → IsLegal sys (Deliver e m ∷ h)
    → is_notified_kind (kind_of sys.flow (receiver sys.flow e)) ≡ true → (t : Stamp) → same m.at t ≡ true → was_notified (receiver sys.flow e) t h ≡ false
not-notified sys h e m w b l n t k = false_from_ne_true (was_notified (receiver sys.flow e) t h) (λ was.
    let p = receiver sys.flow e in
    both_ways (p == p && leq m.at t) (settled-outside sys h p t n (notified-settled sys h w b l.1 p t was) (Deliver e m) l.0)
    (and_from (p == p) (leq m.at t) (eq-eqb p p refl) (and_parts (leq m.at t) (leq t m.at) k).0))

one-more : (b : Bool) (n : ℕ) → nat_lt 0 (cond b (n + 1) n) ≡ (b || nat_lt 0 n)
one-more true n = grind (arith, nat_tests)
one-more false n = refl

owed-more : (s d n : Bool) → (s ≡ true → n ≡ false) → (s || (true && d && not n)) ≡ (true && (s || d) && not n)
owed-more true d n e = ap not (sym (e refl))
owed-more false d n e = refl

-- what a node is owed after a delivery
owed-delivered : (sys : System) (h : List Event) (e : ℕ) (m : Message) (sent : List (Stamp × Rec)) (old new : Counts) → IsWellFormed sys.flow → HasEpochs sys → IsLegal sys (Deliver e m ∷ h)
    → IsCountOf sys h old → DeliversOne sys.flow e m.at sent old new → (p : ℕ) → p < length sys.flow.nodes → (t : Stamp)
    → has_one t (owed_of new p) ≡ is_owed_notice sys (Deliver e m ∷ h) p t
owed-delivered sys h e m sent old new w b l c d p there t =
    let q = receiver sys.flow e in
    let k = is_notified_kind (kind_of sys.flow p) in
    let wd = was_delivered_to sys.flow p t h in
    let wn = was_notified p t h in
    elim (cases_eq p q) [
      | inr n ↦
          let kept : owed_of new p ≡ owed_of old p = elim (cases_Bool (is_notified_kind (kind_of sys.flow q))) [
            | inl i ↦ (d.owes i).others p n
            | inr i ↦ ap (λ xs. get_or xs p []) (d.owes_none i)
          ] in
          ap (has_one t) kept ∙ c.owed p there t
          ∙ ap (λ x. k && (x || wd) && not wn) (sym (ap (λ x. x && same m.at t) (false_from_ne_true (q == p) (λ i. n (sym (eqb-true q p i))))))
      | inl i ↦
          let here : is_delivery_to sys.flow p t (Deliver e m) ≡ same m.at t = ap (λ x. x && same m.at t) (eq-eqb q p (sym i)) in
          elim (cases_Bool k) [
            | inl yes_waits ↦
                let waits : is_notified_kind (kind_of sys.flow q) ≡ true = sym (ap (λ x. is_notified_kind (kind_of sys.flow x)) i) ∙ yes_waits in
                let times : times_in t (owed_of new p) ≡ cond (same m.at t) (times_in t (owed_of old p) + 1) (times_in t (owed_of old p)) =
                subst (λ x. times_in t (owed_of new x) ≡ cond (same m.at t) (times_in t (owed_of old x) + 1) (times_in t (owed_of old x))) (sym i) ((d.owes waits).here.times t) in
                ap (nat_lt 0) times ∙ one-more (same m.at t) (times_in t (owed_of old p)) ∙ ap (λ x. same m.at t || x) (c.owed p there t)
                ∙ ap (λ x. same m.at t || (x && wd && not wn)) yes_waits
                ∙ owed-more (same m.at t) wd wn (λ s. subst (λ x. was_notified x t h ≡ false) (sym i) (not-notified sys h e m w b l waits t s))
                ∙ ap (λ x. x && (same m.at t || wd) && not wn) (sym yes_waits)
                ∙ ap (λ x. k && (x || wd) && not wn) (sym here)
            | inr never ↦
                let waits : is_notified_kind (kind_of sys.flow q) ≡ false = sym (ap (λ x. is_notified_kind (kind_of sys.flow x)) i) ∙ never in
                ap (λ xs. has_one t (get_or xs p [])) (d.owes_none waits) ∙ c.owed p there t
                ∙ ap (λ x. x && wd && not wn) never ∙ sym (ap (λ x. x && (is_delivery_to sys.flow p t (Deliver e m) || wd) && not wn) never)
          ]
    ]

-- one less is pending where a message was taken
taken-one : (sys : System) (h : List Event) (e : ℕ) (m : Message) (sent : List (Stamp × Rec)) (old new : Counts) → IsLegal sys (Deliver e m ∷ h) → IsCountOf sys h old
    → (d : DeliversOne sys.flow e m.at sent old new) → (x : ℕ) → x < length sys.flow.edges → (t : Stamp)
    → times_in t (get_or d.between x []) + count_at t (message_on x (Deliver e m)) ≡ times_in t (pending_of old x)
taken-one sys h e m sent old new l c d x there t = elim (cases_eq x e) [
  | inr n ↦
      let none = ap (λ b. count_at t (cond b (m ∷ []) [])) (false_from_ne_true (e == x) (λ k. n (sym (eqb-true e x k)))) in
      let kept = ap (times_in t) (d.taken.others x n) in
      omega arith
  | inl i ↦
      let one : count_at t (message_on x (Deliver e m)) ≡ cond (same t m.at) (0 + 1) 0 = ap (λ b. count_at t (cond b (m ∷ []) [])) (eq-eqb e x (sym i)) in
      let less : times_in t (get_or d.between x []) ≡ cond (same m.at t) (times_in t (pending_of old x) - 1) (times_in t (pending_of old x)) =
      subst (λ y. times_in t (get_or d.between y []) ≡ cond (same m.at t) (times_in t (pending_of old y) - 1) (times_in t (pending_of old y))) (sym i) (d.taken.here.times t) in
      step (same t m.at) (same m.at t) (times_in t (get_or d.between x [])) (times_in t (pending_of old x)) (count_at t (message_on x (Deliver e m))) (flip t m.at) one less (some t i)
]
  where
    flip : (s u : Stamp) → same s u ≡ same u s
    flip s u = swap (leq s u) (leq u s)
      where
        swap : (a b : Bool) → (a && b) ≡ (b && a)
        swap true true = refl
        swap true false = refl
        swap false true = refl
        swap false false = refl

    some : (t : Stamp) → x ≡ e → same t m.at ≡ true → times_in t (pending_of old x) ≡ 0 → ⊥
    some t i k z =
        let here : x < length sys.flow.edges = there in
        let is : t ≡ m.at = same-is t m.at k in
        let none = count-some t (pending_messages sys h x) (sym (c.pending x here t) ∙ z) in
        let one = is_among-some_at m (pending_messages sys h e) l.0.is_pending in
        both_ways (some_at (same m.at) (pending_messages sys h e)) (sym (λ j. some_at (same (is j)) (pending_messages sys h (i j))) ∙ none) one

    step : (a b : Bool) (n o c : ℕ) → a ≡ b → c ≡ cond a (0 + 1) 0 → n ≡ cond b (o - 1) o → (a ≡ true → o ≡ 0 → ⊥) → n + c ≡ o
    step true true n o c e x y f = less o n c x y (f refl)
      where
        less : (o n c : ℕ) → c ≡ 1 → n ≡ o - 1 → (o ≡ 0 → ⊥) → n + c ≡ o
        less zero n c x y f = absurd (f refl)
        less (suc o) n c x y f = omega (arith, x, y)
    step true false n o c e x y f = absurd (cc)
    step false true n o c e x y f = absurd (cc)
    step false false n o c e x y f = omega (arith, x, y)

pub delivered-counts : (sys : System) (h : List Event) (e : ℕ) (m : Message) (sent : List (Stamp × Rec)) (old new : Counts) → IsWellFormed sys.flow → HasEpochs sys → IsLegal sys (Deliver e m ∷ h)
    → AreSameRecs (recs_sent sys h (Deliver e m)) sent → IsCountOf sys h old → DeliversOne sys.flow e m.at sent old new → IsCountOf sys (Deliver e m ∷ h) new
delivered-counts sys h e m sent old new w b l is c d = record {
  pending = pending-event sys h (Deliver e m) sent old.pending.items d.between new.pending.items l is c.pending (taken-one sys h e m sent old new l c d) d.sends;
  owed = owed-delivered sys h e m sent old new w b l c d;
  batches = λ p l. ap (λ xs. get_or xs p 0) d.batches ∙ c.batches p l;
  injected = λ p l. ap (λ xs. get_or xs p 0) d.injected ∙ c.injected p l;
  sent = λ p l k. subst (IsSentTable sys (Deliver e m ∷ h) p) (sym (ap (λ xs. get_or xs p []) d.counted)) ((table-follows sys p k).stays h (sent_of old p) (Deliver e m) refl (c.sent p l k));
  in_order = λ p l k. subst EpochsAscend (sym (ap (λ xs. get_or xs p []) d.counted)) (c.in_order p l k);
  epochs = λ p l k. subst (AllByRecursion (λ entry. was_notified p (entry.0 ∷ []) h ≡ true)) (sym (ap (λ xs. get_or xs p []) d.counted)) (c.epochs p l k);
}

-- ---- injections

pub injected-counts : (sys : System) (h : List Event) (s x : ℕ) (sent : List (Stamp × Rec)) (old new : Counts) → HasEpochs sys → IsLegal sys (Inject s x ∷ h)
    → AreSameRecs (recs_sent sys h (Inject s x)) sent → IsCountOf sys h old → IsInjected sys.flow s sent old new → IsCountOf sys (Inject s x ∷ h) new
injected-counts sys h s x sent old new b l is c d = record {
  pending = pending-event sys h (Inject s x) sent old.pending.items old.pending.items new.pending.items l is c.pending (λ e m t. omega arith) d.sends;
  owed = λ p l t. ap (λ xs. has_one t (get_or xs p [])) d.owed ∙ c.owed p l t;
  batches = λ p l. ap (λ xs. get_or xs p 0) d.batches ∙ c.batches p l;
  injected = λ p there. elim (cases_eq p s) [
    | inr n ↦ d.next.others p n ∙ c.injected p there ∙ sym (ap (λ k. cond k (injected_count p h + 1) (injected_count p h)) (false_from_ne_true (s == p) (λ k. n (sym (eqb-true s p k)))))
    | inl i ↦
        let now = c.injected p there in
        let all = b s in
        let few = l.0.there in
        let which = l.0.next in
        let same_node = ap (λ q. injected_count q h) i in
        let next : injected_in new p ≡ injected_in old p + 1 = subst (λ q. injected_in new q ≡ injected_in old q + 1) (sym i) (d.next.here (let here = ap (λ q. injected_in old q) i in omega arith)) in
        next ∙ ap (λ k. k + 1) now ∙ sym (ap (λ k. cond k (injected_count p h + 1) (injected_count p h)) (eq-eqb s p (sym i)))
  ];
  sent = λ p l k. subst (IsSentTable sys (Inject s x ∷ h) p) (sym (ap (λ xs. get_or xs p []) d.counted)) ((table-follows sys p k).stays h (sent_of old p) (Inject s x) refl (c.sent p l k));
  in_order = λ p l k. subst EpochsAscend (sym (ap (λ xs. get_or xs p []) d.counted)) (c.in_order p l k);
  epochs = λ p l k. subst (AllByRecursion (λ entry. was_notified p (entry.0 ∷ []) h ≡ true)) (sym (ap (λ xs. get_or xs p []) d.counted)) (c.epochs p l k);
}

-- ---- notifications

-- what holds of each stamp of which a node was notified holds of one of them
notified-at : (flow : Dataflow) (p : ℕ) (t : Stamp) (P : Stamp → Type 0) (h : List Event) → AllByRecursion P (notified_stamps (events_at flow p h)) → was_notified p t h ≡ true → P t
notified-at flow p t P [] a k = absurd (cc)
notified-at flow p t P (Inject s x ∷ h) a k = notified-at flow p t P h (rest (s == p) a) k
  where
    rest : (b : Bool) → AllByRecursion P (notified_stamps (cond b (Inject s x ∷ events_at flow p h) (events_at flow p h))) → AllByRecursion P (notified_stamps (events_at flow p h))
    rest true r = r
    rest false r = r
notified-at flow p t P (Deliver e m ∷ h) a k = notified-at flow p t P h (rest (receiver flow e == p) a) k
  where
    rest : (b : Bool) → AllByRecursion P (notified_stamps (cond b (Deliver e m ∷ events_at flow p h) (events_at flow p h))) → AllByRecursion P (notified_stamps (events_at flow p h))
    rest true r = r
    rest false r = r
notified-at flow p t P (Notify q s ∷ h) a k = by (q == p) a k (notified-at flow p t P h)
  where
    by : (b : Bool) → AllByRecursion P (notified_stamps (cond b (Notify q s ∷ events_at flow p h) (events_at flow p h))) → ((b && same s t) || was_notified p t h) ≡ true
        → (AllByRecursion P (notified_stamps (events_at flow p h)) → was_notified p t h ≡ true → P t) → P t
    by true r j f = elim (or_cases (same s t) (was_notified p t h) j) [ inl i ↦ subst P (same-is s t i) r.0 | inr i ↦ f r.1 i ]
    by false r j f = f r j

-- an epoch of which a sequence is notified comes after those of its table
takes-next : (sys : System) (h : List Event) (p x : ℕ) (counts : Counts) → IsWellFormed sys.flow → HasEpochs sys → IsLegal sys (Notify p (x ∷ []) ∷ h) → SendsByCount (kind_of sys.flow p)
    → p < length sys.flow.nodes → IsCountOf sys h counts → (n : ℕ) → EpochsAscend (sent_of counts p ++ (x, n) ∷ [])
takes-next sys h p x counts w b l k there c n =
    let table = sent_of counts p in
    let order = (sequences-in_order sys (Notify p (x ∷ []) ∷ h) w b l p k).in_order in
    let first : AllByRecursion (λ s. leq s (x ∷ []) ≡ true) (notified_stamps (events_at sys.flow p h)) =
    (subst (λ z. AreDescending (notified_stamps (cond z (Notify p (x ∷ []) ∷ events_at sys.flow p h) (events_at sys.flow p h)))) (eq-eqb p p refl) order).0 in
    let each : AllByRecursion (λ (entry : ℕ × ℕ). entry.0 ≤ x) table =
    each-weaker (λ (entry : ℕ × ℕ). was_notified p (entry.0 ∷ []) h ≡ true) (λ entry. entry.0 ≤ x) table
    (λ entry j. below entry.0 (notified-at sys.flow p (entry.0 ∷ []) (λ s. leq s (x ∷ []) ≡ true) h first j)) (c.epochs p there k) in
    IsNonDecreasingBy-push (λ (entry : ℕ × ℕ). entry.0) table (x, n) (c.in_order p there k) (λ d some. each-at (λ (entry : ℕ × ℕ). entry.0 ≤ x) table (length table - 1) d (omega arith) each)
  where
    below : (y : ℕ) → leq (y ∷ []) (x ∷ []) ≡ true → y ≤ x
    below y j = grind (arith, nat_tests)

owed-cases : (a k wd wn z : Bool) → (a ≡ true → z ≡ false) → (a ≡ false → z ≡ (k && wd && not wn)) → z ≡ (k && wd && not (a || wn))
owed-cases true k wd wn z e f = e refl ∙ sym (and-false (k && wd))
owed-cases false k wd wn z e f = f refl

owed-notified : (sys : System) (h : List Event) (p : ℕ) (t : Stamp) (sent : List (Stamp × Rec)) (old new : Counts) → IsCountOf sys h old → IsNotified sys.flow p t sent old new
    → (q : ℕ) → q < length sys.flow.nodes → (s : Stamp) → has_one s (owed_of new q) ≡ is_owed_notice sys (Notify p t ∷ h) q s
owed-notified sys h p t sent old new c d q there s =
    let k = is_notified_kind (kind_of sys.flow q) in
    let wd = was_delivered_to sys.flow q s h in
    let wn = was_notified q s h in
    elim (cases_eq q p) [
      | inr n ↦
          ap (has_one s) (d.paid.others q n) ∙ c.owed q there s
          ∙ ap (λ x. k && wd && not (x || wn)) (sym (ap (λ x. x && same t s) (false_from_ne_true (p == q) (λ i. n (sym (eqb-true p q i))))))
      | inl i ↦
          let times : times_in s (owed_of new q) ≡ cond (same t s) 0 (times_in s (owed_of old q)) =
          subst (λ x. times_in s (owed_of new x) ≡ cond (same t s) 0 (times_in s (owed_of old x))) (sym i) (d.paid.here.times s) in
          owed-cases (same t s) k wd wn (has_one s (owed_of new q))
          (λ j. ap (nat_lt 0) (times ∙ ap (λ x. cond x 0 (times_in s (owed_of old q))) j))
          (λ j. ap (nat_lt 0) (times ∙ ap (λ x. cond x 0 (times_in s (owed_of old q))) j) ∙ c.owed q there s)
          ∙ ap (λ x. k && wd && not (x || wn)) (sym (ap (λ x. x && same t s) (eq-eqb p q (sym i))))
    ]

-- the table of a sequence after a notification
table-notified : (sys : System) (h : List Event) (p x : ℕ) (sent : List (Stamp × Rec)) (old new : Counts) → IsWellFormed sys.flow → HasEpochs sys → IsLegal sys (Notify p (x ∷ []) ∷ h)
    → SendsByCount (kind_of sys.flow p) → p < length sys.flow.nodes → IsCountOf sys h old → IsNotified sys.flow p (x ∷ []) sent old new → sent_of new p ≡ sent_of old p ++ (x, length sent) ∷ []
table-notified sys h p x sent old new w b l k there c d = (d.counted k x refl).here (takes-next sys h p x old w b l k there c)

other-table : (sys : System) (p q : ℕ) (t : Stamp) (sent : List (Stamp × Rec)) (old new : Counts) → IsNotified sys.flow p t sent old new → q ≢ p → (SendsByCount (kind_of sys.flow p) → (x : ℕ) × (t ≡ x ∷ []))
    → sent_of new q ≡ sent_of old q
other-table sys p q t sent old new d n line = elim (cases_Bool (is_sequence_kind (kind_of sys.flow p))) [
  | inr i ↦ ap (λ xs. get_or xs q []) (d.counted_none i)
  | inl i ↦
      let k = is_sequence (kind_of sys.flow p) i in
      let x = line k in
      (d.counted k x.0 x.1).others q n
]

-- a sequence is notified of epochs
epoch-of : (sys : System) (h : List Event) (p : ℕ) (t : Stamp) → IsWellFormed sys.flow → HasEpochs sys → IsLegal sys (Notify p t ∷ h) → SendsByCount (kind_of sys.flow p) → (x : ℕ) × (t ≡ x ∷ [])
epoch-of sys h p t w b l k =
    let d = enabled-in_domain sys h w b (legal-in_domain sys h w b l.1) (Notify p t) l.0 in
    let line = in_line t greatest_number (sym (ap (λ c. in_domain c t) (bounds-sequence sys.flow p k)) ∙ d) in
    (line.0, line.1)

-- the recs that a sequence sends by a notification are as many as its messages
sent-length : (sys : System) (h : List Event) (p : ℕ) (t : Stamp) (sent : List (Stamp × Rec)) → AreSameRecs (recs_sent sys h (Notify p t)) sent → length (sends sys p (events_at sys.flow p h) (Notify p t)) ≡ length sent
sent-length sys h p t sent is = sym (length-map (sends sys p (events_at sys.flow p h) (Notify p t)) (λ (m : Message). (m.at, m.rec))) ∙ same-length (recs_sent sys h (Notify p t)) sent is

-- each epoch of the table of a sequence is one of which it was notified
epochs-grow : (p x n : ℕ) (h : List Event) (table : List (ℕ × ℕ)) → AllByRecursion (λ entry. was_notified p (entry.0 ∷ []) h ≡ true) table
    → AllByRecursion (λ entry. was_notified p (entry.0 ∷ []) (Notify p (x ∷ []) ∷ h) ≡ true) (table ++ (x, n) ∷ [])
epochs-grow p x n h table a =
    let P : ℕ × ℕ → Type 0 = λ entry. was_notified p (entry.0 ∷ []) (Notify p (x ∷ []) ∷ h) ≡ true in
    each-append P table ((x, n) ∷ [])
    (each-weaker (λ (entry : ℕ × ℕ). was_notified p (entry.0 ∷ []) h ≡ true) P table
    (λ entry k. or_right (p == p && same (x ∷ []) (entry.0 ∷ [])) (was_notified p (entry.0 ∷ []) h) k) a)
    (or_left (p == p && same (x ∷ []) (x ∷ [])) (was_notified p (x ∷ []) h) (and_from (p == p) (same (x ∷ []) (x ∷ [])) (eq-eqb p p refl) (same-refl (x ∷ []))), tt)

pub notified-counts : (sys : System) (h : List Event) (p : ℕ) (t : Stamp) (sent : List (Stamp × Rec)) (old new : Counts) → IsWellFormed sys.flow → HasEpochs sys → IsLegal sys (Notify p t ∷ h) → p < length sys.flow.nodes
    → AreSameRecs (recs_sent sys h (Notify p t)) sent → IsCountOf sys h old → IsNotified sys.flow p t sent old new → IsCountOf sys (Notify p t ∷ h) new
notified-counts sys h p t sent old new w b l there is c d =
    let v : Event = Notify p t in
    let line = epoch-of sys h p t w b l in
    let table : SendsByCount (kind_of sys.flow p) → (x : ℕ) × (t ≡ x ∷ []) × (sent_of new p ≡ sent_of old p ++ (x, length sent) ∷ []) = λ k.
    let x = line k in
    let T : Stamp → Type 0 = λ s. IsLegal sys (Notify p s ∷ h) in
    let N : Stamp → Type 0 = λ s. IsNotified sys.flow p s sent old new in
    (x.0, x.1, table-notified sys h p x.0 sent old new w b (subst T x.1 l) k there c (subst N x.1 d)) in
    record {
      pending = pending-event sys h v sent old.pending.items old.pending.items new.pending.items l is c.pending (λ e m s. omega arith) d.sends;
      owed = owed-notified sys h p t sent old new c d;
      batches = λ q m. ap (λ xs. get_or xs q 0) d.batches ∙ c.batches q m;
      injected = λ q m. ap (λ xs. get_or xs q 0) d.injected ∙ c.injected q m;
      sent = λ q m k. elim (cases_eq q p) [
        | inr n ↦
            subst (IsSentTable sys (v ∷ h) q) (sym (other-table sys p q t sent old new d n line))
            ((table-follows sys q k).stays h (sent_of old q) v (false_from_ne_true (p == q) (λ j. n (sym (eqb-true p q j)))) (c.sent q m k))
        | inl i ↦
            let kp : SendsByCount (kind_of sys.flow p) = sym (ap (kind_of sys.flow) i) ∙ k in
            let x = table kp in
            let V : Stamp → Type 0 = λ s. IsSentTable sys (Notify p s ∷ h) p (sent_of old p ++ (x.0, length (sends sys p (events_at sys.flow p h) (Notify p s))) ∷ []) in
            let grown = subst V (sym x.1) ((table-follows sys p kp).grows h (sent_of old p) x.0 (c.sent p there kp)) in
            subst (λ r. IsSentTable sys (v ∷ h) r (sent_of new r)) (sym i)
            (subst (IsSentTable sys (v ∷ h) p) (sym (x.2 ∙ ap (λ n. sent_of old p ++ (x.0, n) ∷ []) (sym (sent-length sys h p t sent is)))) grown)
      ];
      in_order = λ q m k. elim (cases_eq q p) [
        | inr n ↦ subst EpochsAscend (sym (other-table sys p q t sent old new d n line)) (c.in_order q m k)
        | inl i ↦
            let kp : SendsByCount (kind_of sys.flow p) = sym (ap (kind_of sys.flow) i) ∙ k in
            let x = table kp in
            let T : Stamp → Type 0 = λ s. IsLegal sys (Notify p s ∷ h) in
            subst (λ r. EpochsAscend (sent_of new r)) (sym i) (subst EpochsAscend (sym x.2) (takes-next sys h p x.0 old w b (subst T x.1 l) kp there c (length sent)))
      ];
      epochs = λ q m k. elim (cases_eq q p) [
        | inr n ↦
            subst (AllByRecursion (λ (entry : ℕ × ℕ). was_notified q (entry.0 ∷ []) (v ∷ h) ≡ true)) (sym (other-table sys p q t sent old new d n line))
            (each-weaker (λ (entry : ℕ × ℕ). was_notified q (entry.0 ∷ []) h ≡ true) (λ entry. was_notified q (entry.0 ∷ []) (v ∷ h) ≡ true) (sent_of old q)
            (λ entry j. or_right (p == q && same t (entry.0 ∷ [])) (was_notified q (entry.0 ∷ []) h) j) (c.epochs q m k))
        | inl i ↦
            let kp : SendsByCount (kind_of sys.flow p) = sym (ap (kind_of sys.flow) i) ∙ k in
            let x = table kp in
            let E : Stamp → Type 0 = λ s. AllByRecursion (λ (entry : ℕ × ℕ). was_notified p (entry.0 ∷ []) (Notify p s ∷ h) ≡ true) (sent_of old p ++ (x.0, length sent) ∷ []) in
            subst (λ r. AllByRecursion (λ (entry : ℕ × ℕ). was_notified r (entry.0 ∷ []) (v ∷ h) ≡ true) (sent_of new r)) (sym i)
            (subst (AllByRecursion (λ (entry : ℕ × ℕ). was_notified p (entry.0 ∷ []) (v ∷ h) ≡ true)) (sym x.2) (subst E (sym x.1) (epochs-grow p x.0 (length sent) h (sent_of old p) (c.epochs p there kp))))
      ];
    }

-- ---- kept frontiers

-- an event leaves the kept frontiers, where its node waits from then on
pub kept-event : (sys : System) (h : List Event) (v : Event) → IsWellFormed sys.flow → HasEpochs sys → IsLegal sys (v ∷ h) → (kept : List Front) (work more : List ℕ)
    → IsEnlisted (event_node sys.flow v) work more → AreKeptAdmissible sys h kept work → AreKeptAdmissible sys (v ∷ h) kept more
kept-event sys h v w b l kept work more put k = record {
  admissible = admissible-stays sys h w b l.1 (family_of sys.flow kept) k.admissible v l.0;
  stuck = λ p there out.
      let free : is_in work p ≡ false = false_from_ne_true (is_in work p) (λ j. both_ways (is_in more p) out (put.stays p j)) in
      leave-stuck sys h v (family_of sys.flow kept) l k.admissible p (λ i. both_ways (is_in more p) out (ap (is_in more) i ∙ put.there)) (k.stuck p there free);
}

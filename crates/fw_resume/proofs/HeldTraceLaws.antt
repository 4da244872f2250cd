-- What is told to traces that start again is what an engine knows of a state before its first recovery.
use Rattle.std.proofs.Common.{◌≡◌, ◌↔◌, ℕ, zero, suc, ◌+◌, ◌<◌, ◌≤◌, ◌^◌, Bool, true, false, not, ◌&&◌, ◌||◌, ◌==◌, cond, nat_lt, List, [], ◌∷◌, ◌++◌, length, get_or, map, filter, Some, refl, sym, ap, subst, ◌∙◌, inl, inr, arith}
use Rattle.std.specs.List.{AllByRecursion, AllZip, Contains, flat_map, range_with_len}
use Rattle.std.proofs.lemmas.Bool.{cases_Bool, cases_eq, cond_both, eq-eqb, eqb-true, lt-ltb, ltb-true, or_cases}
use Rattle.std.proofs.lemmas.List.{map-append}
use Rattle.std.proofs.lemmas.List.Elements.{Contains-append_left, Contains-append_right}
use Rattle.fw_lemmas.proofs.Each.{each-append, each-filter, each_of-filter, each-there, each-weaker}
use Rattle.fw_time.specs.Stamp.{Stamp, in_domain}
use Rattle.fw_bag.specs.declared.rec.Rec.{Rec}
use Rattle.fw_frontier.specs.Frontier.{Frontier}
use Rattle.fw_frontier.specs.Front.{Front, inside}
use Rattle.fw_lines.specs.Batches.{batches_at}
use Rattle.fw_flow.specs.declared.event.Event.{Event as Happened}
use Rattle.fw_flow.specs.declared.event.Event.TheVariants as happened
use Rattle.fw_flow.specs.declared.event.Message.{Message}
use Rattle.fw_flow.specs.declared.kind.Policy.TheVariants as policy
use Rattle.fw_flow.specs.Dataflow.{System, Dataflow, batches_of, bounds_of, greatest_number, is_input_kind, kind_of, node_frontier, policy_of, receiver, system_of, HasEpochs, sender, out_edges, is_one_of}
use Rattle.fw_flow.specs.NodeFunction.{event_node, event_stamp}
use Rattle.fw_flow.specs.WellFormed.{IsPolicyAllowed, IsWellFormedSystem}
use Rattle.fw_flow.proofs.OutEdgeLaws.{out_edges-from}
use Rattle.fw_model.specs.Carried.{carried_recs}
use Rattle.fw_model.specs.Choice.{is_serial_logged, logged_history}
use Rattle.fw_model.specs.Covers.{stamp_of_notice}
use Rattle.fw_model.specs.EventStamps.{causes_in, base_of_sent}
use Rattle.fw_model.proofs.AlikeLaws.{for-less}
use Rattle.fw_model.specs.History.{delivered_messages, injected_count, message_on, IsLegal, sent_messages}
use Rattle.fw_model.specs.Machine.{Machine, SerialEvent, Write, Stage, acknowledged, checkpoint, logged_event, events, front_of}
use Rattle.fw_model.specs.Machine.{Written as WrittenBy}
use Rattle.fw_model.specs.Reached.{IsReached}
use Rattle.fw_model.specs.Writes.{not_collected, takes_checkpoints}
use Rattle.fw_model.proofs.CarriedLaws.{carried-none}
use Rattle.fw_model.proofs.AskedLaws.{AreSerialsBelow, reached-all, serials-each}
use Rattle.fw_model.proofs.ChoiceLaws.{by_batches-input}
use Rattle.fw_model.proofs.DomainLaws.{has_epochs}
use Rattle.fw_model.proofs.LegalLaws.{legal_events-in_domain, only_inputs_inject}
use Rattle.fw_model.proofs.RecoveryLaws.{runs-legal}
use Rattle.fw_model.proofs.ThinnedLaws.{each-contained}
use Rattle.fw_record.specs.declared.record.Event.{Event}
use Rattle.fw_record.specs.declared.record.Event.TheVariants.{Deliver, Notify}
use Rattle.fw_keep.specs.declared.entry.Entry.{Entry}
use Rattle.fw_keep.specs.declared.entry.Written.{Written}
use Rattle.fw_keep.specs.declared.entry.Written.TheVariants as written
use Rattle.fw_policy.specs.Entries.{AreEntriesOf, HasEventTold, HoldsWhatIsWritten, IsEntryOf, told_of, uncollected}
use Rattle.fw_policy.proofs.WayLaws.{events-full}
use Rattle.fw_progress.specs.declared.traces.Traces.{Traces}
use Rattle.fw_progress.specs.Trace.{HasOutside, HasTraceOutside, IsTraceAmong, IsTraceIf, delivered_on, stamps_notified, stamps_where_sent}
use Rattle.fw_progress.proofs.OutLaws.{out-among}
use Rattle.fw_progress.proofs.AmongLaws.{input-trace}
use Rattle.fw_progress.proofs.CutTraceLaws.{edge-domain}
use Rattle.fw_progress.proofs.TraceLaws.{each-had}
use Rattle.fw_regain.specs.Third.{IsKeptLogged}
use Rattle.fw_regain.proofs.CauseLaws.{injected-send}
use Rattle.fw_regain.proofs.ThirdLaws.{nothing-collected}
use Rattle.fw_progress.proofs.OfferLaws.{each-joined}
use Rattle.fw_regain.proofs.GreatestLaws.{each-from}
use Rattle.fw_running.proofs.CountLaws.{batches_there}
use Rattle.fw_resume.proofs.RecallLaws.{contains-itself, contains-nothing, recalled-append}
use Rattle.fw_running.specs.Held.{KnowsTracesHeld}
use Rattle.fw_resume.specs.Recalled.{Recall, RecallsAreOf, of_sending, of_delivery, of_notice, HaveRecalled, recalls_of, recalls_of_batch, recalls_of_entry, recalls_of_event, recalls_of_input, recalls_of_inputs, recalls_of_written, sending_on}

-- ---- lists

flat-has : {A B : Type 0} (f : A → List B) (xs : List A) (x : A) (y : B) → Contains xs x → Contains (f x) y → Contains (flat_map f xs) y
flat-has {A = A} {B = B} f xs x y c d = each-contained (λ z. Contains (f z) y → Contains (flat_map f xs) y) x xs c (each xs) d
  where
    each : (zs : List A) → AllByRecursion (λ z. Contains (f z) y → Contains (flat_map f zs) y) zs
    each [] = tt
    each (z ∷ zs) = (
      (λ d. Contains-append_left (f z) (flat_map f zs) y d),
      each-weaker (λ w. Contains (f w) y → Contains (flat_map f zs) y) (λ w. Contains (f w) y → Contains (f z ++ flat_map f zs) y) zs
          (λ w g d. Contains-append_right (f z) (flat_map f zs) y (g d)) (each zs),
    )

each-number : (P : ℕ → Type 0) (a n : ℕ) → ((x : ℕ) → a ≤ x → x < a + n → P x) → AllByRecursion P (range_with_len a n)
each-number P a zero f = tt
each-number P a (suc n) f = (f a (omega arith) (omega arith), each-number P (a + 1) n (λ x l m. f x (omega (arith, l)) (omega (arith, m))))

number-there : (a n x : ℕ) → a ≤ x → x < a + n → Contains (range_with_len a n) x
number-there a zero x l m = absurd (omega (arith, l, m))
number-there a (suc n) x l m = elim (cases_eq x a) [
  | inl e ↦ (0, omega arith, sym e)
  | inr d ↦ Contains-append_right (a ∷ []) (range_with_len (a + 1) n) x (number-there (a + 1) n x (omega (arith, l, d)) (omega (arith, m)))
]

-- what is kept of a list that has it
kept-there : {A : Type 0} (test : A → Bool) (xs : List A) (x : A) → Contains xs x → test x ≡ true → Contains (filter test xs) x
kept-there test xs x c k = each-contained (λ u. test u ≡ true → Contains (filter test xs) u) x xs c (each_of-filter (Contains (filter test xs)) test xs (each-there (filter test xs))) k

-- of two lists that go together, one is there for each of the second
record IsBeside {A B : Type 0} (R : A → B → Type 0) (xs : List A) (y : B) : Type 0 where
  other : A
  there : Contains xs other
  beside : R other y

zip-beside : {A B : Type 0} (R : A → B → Type 0) (xs : List A) (ys : List B) → AllZip R xs ys → AllByRecursion (IsBeside R xs) ys
zip-beside R [] [] a = tt
zip-beside R [] (y ∷ ys) a = absurd a
zip-beside R (x ∷ xs) [] a = tt
zip-beside R (x ∷ xs) (y ∷ ys) a = (
  record { other = x; there = (0, omega arith, refl); beside = a.0 },
  each-weaker (IsBeside R xs) (IsBeside R (x ∷ xs)) ys (λ z b. record { other = b.other; there = Contains-append_right (x ∷ []) xs b.other b.there; beside = b.beside })
      (zip-beside R xs ys a.1),
)

zip-left : {A B : Type 0} (R : A → B → Type 0) (P : A → Type 0) → ((x : A) (y : B) → R x y → P x) → (xs : List A) (ys : List B) → AllZip R xs ys → AllByRecursion P xs
zip-left R P f [] ys a = tt
zip-left R P f (x ∷ xs) [] a = absurd a
zip-left R P f (x ∷ xs) (y ∷ ys) a = (f x y a.0, zip-left R P f xs ys a.1)

-- ---- what happened

-- it is of what happened
abbrev Happens : System → List Happened → Recall → Type 0
Happens sys h (of_sending e t) = Contains (causes_in (sent_messages sys h e)) t
Happens sys h (of_delivery e t) = Contains (map (λ (m : Message). m.at) (delivered_messages h e)) t
Happens sys h (of_notice p t) = Contains (flat_map (stamp_of_notice p) h) t

-- which epochs an input sent on an edge
abbrev InputsSend : System → List Happened → Type 0
InputsSend sys h = (e : ℕ) → is_input_kind (kind_of sys.flow (sender sys.flow e)) ≡ true → (t : Stamp) → Contains (causes_in (sent_messages sys h e)) t
    ↔ ((x : ℕ) × (t ≡ x ∷ []) × (x < injected_count (sender sys.flow e) h) × (0 < length (carried_recs sys.flow e (get_or (batches_of sys (sender sys.flow e)) x []))))

batch-happens : (flow : Dataflow) (given : List (ℕ × List (List Rec))) (h : List Happened) (low : Front) (p x : ℕ) → InputsSend (system_of flow given) h
    → IsLegal (system_of flow given) h → p < length flow.nodes → x < injected_count p h
    → AllByRecursion (Happens (system_of flow given) h) (recalls_of_batch flow p low (batches_at given p) x)
batch-happens flow given h low p x sends legal l m =
    let sys = system_of flow given in
    let batch = get_or (batches_at given p) x [] in
    let told : ℕ → List Recall = sending_on flow batch (x ∷ []) in
    let E : ℕ → Type 0 = λ e. AllByRecursion (Happens sys h) (told e) in
    cond_both (inside low (x ∷ [])) [] (flat_map told (out_edges flow p)) (AllByRecursion (Happens sys h)) (λ k. tt)
    (λ k. elim (cases_Bool (is_input_kind (kind_of flow p))) [
      | inl i ↦
          each-joined (Happens sys h) told (out_edges flow p)
          (out_edges-from E flow p
          (λ e there r.
          cond_both (nat_lt 0 (length (carried_recs flow e batch))) (of_sending e (x ∷ []) ∷ []) [] (AllByRecursion (Happens sys h))
          (λ some.
          let of_batch : 0 < length (carried_recs flow e batch) = ltb-true 0 (length (carried_recs flow e batch)) some in
          let mine : 0 < length (carried_recs flow e (get_or (batches_of sys p) x [])) =
          subst (λ bs. 0 < length (carried_recs flow e (get_or bs x []))) (sym (batches_there flow given p l)) of_batch in (
            (sends e (subst (λ q. is_input_kind (kind_of flow q) ≡ true) (sym r) i) (x ∷ [])).1 (
              x,
              refl,
              subst (λ q. x < injected_count q h) (sym r) m,
              subst (λ q. 0 < length (carried_recs flow e (get_or (batches_of sys q) x []))) (sym r) mine,
            ),
            tt,
          ))
          (λ none. tt)))
      | inr n ↦ let none = only_inputs_inject sys h legal p n in absurd (omega (arith, m, none))
    ])

delivery-told : (e : ℕ) (t : Stamp) (r : Rec) (v : Happened) → told_of v ≡ Some (Deliver e t r) → Contains (map (λ (m : Message). m.at) (message_on e v)) t
delivery-told e t r (happened.Inject s x) k = absurd (cc)
delivery-told e t r (happened.Notify q s) k = absurd (cc)
delivery-told e t r (happened.Deliver d m) k =
    let edge : d ≡ e = cc in
    let at : m.at ≡ t = cc in
    subst (λ b. Contains (map (λ (z : Message). z.at) (cond b (m ∷ []) [])) t) (sym (eq-eqb d e edge)) (0, omega arith, at)

notice-told : (flow : Dataflow) (p : ℕ) (t : Stamp) (v : Happened) → event_node flow v ≡ p → told_of v ≡ Some (Notify t) → Contains (stamp_of_notice p v) t
notice-told flow p t (happened.Inject s x) n k = absurd (cc)
notice-told flow p t (happened.Deliver d m) n k = absurd (cc)
notice-told flow p t (happened.Notify q s) n k =
    let at : s ≡ t = cc in
    subst (λ b. Contains (cond b (s ∷ []) []) t) (sym (eq-eqb q p n)) (0, omega arith, at)

delivery-happens : (flow : Dataflow) (p serial e : ℕ) (t : Stamp) (r : Rec) (h : List SerialEvent) → HasEventTold flow p serial (Deliver e t r) h
    → Contains (map (λ (m : Message). m.at) (delivered_messages (events h) e)) t
delivery-happens flow p serial e t r [] k = absurd k
delivery-happens flow p serial e t r (v ∷ h) k =
    let at : List Message → List Stamp = λ ms. map (λ (m : Message). m.at) ms in
    subst (λ ss. Contains ss t) (sym (map-append (λ (m : Message). m.at) (message_on e v.event) (delivered_messages (events h) e))) (elim k [
      | inl a ↦ Contains-append_left (at (message_on e v.event)) (at (delivered_messages (events h) e)) t (delivery-told e t r v.event a.told)
      | inr a ↦ Contains-append_right (at (message_on e v.event)) (at (delivered_messages (events h) e)) t (delivery-happens flow p serial e t r h a)
    ])

notice-happens : (flow : Dataflow) (p serial : ℕ) (t : Stamp) (h : List SerialEvent) → HasEventTold flow p serial (Notify t) h → Contains (flat_map (stamp_of_notice p) (events h)) t
notice-happens flow p serial t [] k = absurd k
notice-happens flow p serial t (v ∷ h) (inl a) = Contains-append_left (stamp_of_notice p v.event) (flat_map (stamp_of_notice p) (events h)) t (notice-told flow p t v.event a.node a.told)
notice-happens flow p serial t (v ∷ h) (inr a) = Contains-append_right (stamp_of_notice p v.event) (flat_map (stamp_of_notice p) (events h)) t (notice-happens flow p serial t h a)

event-happens : (sys : System) (state : Machine) (p serial : ℕ) (event : Event) → HasEventTold sys.flow p serial event state.history
    → AllByRecursion (Happens sys (events state.history)) (recalls_of_event sys.flow p event)
event-happens sys state p serial (Deliver e t r) k =
    cond_both (receiver sys.flow e == p) (of_delivery e t ∷ []) [] (AllByRecursion (Happens sys (events state.history)))
    (λ i. (delivery-happens sys.flow p serial e t r state.history k, tt)) (λ i. tt)
event-happens sys state p serial (Notify t) k = (notice-happens sys.flow p serial t state.history k, tt)

written-happens : (sys : System) (state : Machine) (p : ℕ) (entry : Written) (w : WrittenBy) → HoldsWhatIsWritten sys state p entry w
    → AllByRecursion (Happens sys (events state.history)) (recalls_of_written sys.flow p entry)
written-happens sys state p (written.Checkpoint recorded stamps sent) w k = tt
written-happens sys state p (written.Event event) (checkpoint f low) k = absurd k
written-happens sys state p (written.Event event) (logged_event serial) k = event-happens sys state p serial event k

entry-happens : (sys : System) (state : Machine) (entry : Entry) (w : Write) → IsEntryOf sys state entry w
    → AllByRecursion (Happens sys (events state.history)) (recalls_of_entry sys.flow entry)
entry-happens sys state entry w e =
    subst (λ p. AllByRecursion (Happens sys (events state.history)) (recalls_of_written sys.flow p entry.written)) (sym e.node)
    (written-happens sys state w.node entry.written w.written e.holds)

-- all that is told happened
all-happens : (flow : Dataflow) (given : List (ℕ × List (List Rec))) (state : Machine) (injected : List ℕ) (low : List Front) (entries : List Entry)
    → InputsSend (system_of flow given) (events state.history) → IsLegal (system_of flow given) (events state.history)
    → ((p : ℕ) → p < length flow.nodes → get_or injected p 0 ≡ injected_count p (events state.history)) → AreEntriesOf (system_of flow given) state entries (uncollected state)
    → AllByRecursion (Happens (system_of flow given) (events state.history)) (recalls_of flow given injected low entries)
all-happens flow given state injected low entries sends legal counts of =
    let sys = system_of flow given in
    let h = events state.history in
    let batches : ℕ → List Recall = λ p. recalls_of_input flow p (front_of low p) (batches_at given p) (get_or injected p 0) in
    each-append (Happens sys h) (recalls_of_inputs flow given injected low (length flow.nodes)) (flat_map (recalls_of_entry flow) entries)
    (each-joined (Happens sys h) batches (range_with_len 0 (length flow.nodes)) (each-number (λ p. AllByRecursion (Happens sys h) (batches p)) 0 (length flow.nodes) (λ p a b.
    let there : p < length flow.nodes = omega (arith, b) in
    let count = counts p there in
    each-joined (Happens sys h) (recalls_of_batch flow p (front_of low p) (batches_at given p)) (range_with_len 0 (get_or injected p 0))
    (each-number (λ x. AllByRecursion (Happens sys h) (recalls_of_batch flow p (front_of low p) (batches_at given p) x)) 0 (get_or injected p 0)
    (λ x c d. batch-happens flow given h (front_of low p) p x sends legal there (omega (arith, d, count)))))))
    (each-joined (Happens sys h) (recalls_of_entry flow) entries
    (zip-left (IsEntryOf sys state) (λ e. AllByRecursion (Happens sys h) (recalls_of_entry flow e)) (entry-happens sys state) entries (uncollected state) of))

-- ---- what is known of the traces is of what happened

abbrev AreFirst : System → Traces → Type 0
AreFirst sys traces = (p : ℕ) (base : Frontier) → IsTraceIf false sys [] p base traces

pub recalled-among : (sys : System) (h : List Happened) (these : List Recall) (old new : Traces) → AreFirst sys old → HaveRecalled these old new
    → AllByRecursion (Happens sys h) these → (p : ℕ) → IsTraceAmong sys h p new
recalled-among sys h these old new first m all p = record {
  delivered = λ d l r. each-had (Contains (map (λ (z : Message). z.at) (delivered_messages h d))) (delivered_on new d) (λ s c. elim ((m.is (of_delivery d s)).0 c) [
    | inl was ↦ absurd (contains-nothing s (each-contained (Contains []) s (delivered_on old d) was (none.delivered d l r).among))
    | inr now ↦ each-contained (Happens sys h) (of_delivery d s) these now all
  ]);
  notified = each-had (Contains (flat_map (stamp_of_notice p) h)) (stamps_notified new p) (λ s c. elim ((m.is (of_notice p s)).0 c) [
    | inl was ↦ absurd (contains-nothing s (each-contained (Contains []) s (stamps_notified old p) was none.notified.among))
    | inr now ↦ each-contained (Happens sys h) (of_notice p s) these now all
  ]);
  sent = λ d l r k. each-had (Contains (causes_in (sent_messages sys h d))) (stamps_where_sent new d) (λ s c. elim ((m.is (of_sending d s)).0 c) [
    | inl was ↦ absurd (contains-nothing s (each-contained (Contains []) s (stamps_where_sent old d) was
        (subst (λ ms. AllByRecursion (Contains (causes_in ms)) (stamps_where_sent old d)) (carried-none sys.flow d) (for-less sys.flow p (base_of_sent sys.flow p (λ s. true)) (causes_in (sent_messages sys [] d)) (stamps_where_sent old d) (none.sent d l r k)).among)))
    | inr now ↦ each-contained (Happens sys h) (of_sending d s) these now all
  ]);
}
  where
    none : IsTraceIf false sys [] p (λ s. true) old
    none = first p (λ s. true)

-- ---- inputs

among-there : (es : List ℕ) (e : ℕ) → is_one_of e es ≡ true → Contains es e
among-there [] e k = absurd (cc)
among-there (x ∷ es) e k = elim (or_cases (x == e) (is_one_of e es) k) [
  | inl i ↦ subst (Contains (x ∷ es)) (eqb-true x e i) (Contains-append_left (x ∷ []) es x (contains-itself x))
  | inr i ↦ Contains-append_right (x ∷ []) es e (among-there es e i)
]

sent-told : (flow : Dataflow) (given : List (ℕ × List (List Rec))) (injected : List ℕ) (low : List Front) (entries : List Entry) (p x : ℕ) → p < length flow.nodes → (e : ℕ) → is_one_of e (out_edges flow p) ≡ true
    → x < get_or injected p 0 → 0 < length (carried_recs flow e (get_or (batches_at given p) x [])) → inside (front_of low p) (x ∷ []) ≡ false
    → Contains (recalls_of flow given injected low entries) (of_sending e (x ∷ []))
sent-told flow given injected low entries p x l e on m some out =
    let batch = get_or (batches_at given p) x [] in
    let of : ℕ → List Recall = λ q. recalls_of_input flow q (front_of low q) (batches_at given q) (get_or injected q 0) in
    let told : ℕ → List Recall = sending_on flow batch (x ∷ []) in
    let here : Contains (told e) (of_sending e (x ∷ [])) =
    subst (λ b. Contains (cond b (of_sending e (x ∷ []) ∷ []) []) (of_sending e (x ∷ []))) (sym (lt-ltb 0 (length (carried_recs flow e batch)) some)) (contains-itself (of_sending e (x ∷ []))) in
    let one : Contains (recalls_of_batch flow p (front_of low p) (batches_at given p) x) (of_sending e (x ∷ [])) =
    subst (λ b. Contains (cond b [] (flat_map told (out_edges flow p))) (of_sending e (x ∷ []))) (sym out)
    (flat-has told (out_edges flow p) e (of_sending e (x ∷ [])) (among-there (out_edges flow p) e on) here) in
    Contains-append_left (recalls_of_inputs flow given injected low (length flow.nodes)) (flat_map (recalls_of_entry flow) entries) (of_sending e (x ∷ []))
    (flat-has of (range_with_len 0 (length flow.nodes)) p (of_sending e (x ∷ [])) (number-there 0 (length flow.nodes) p (omega arith) (omega (arith, l)))
    (flat-has (recalls_of_batch flow p (front_of low p) (batches_at given p)) (range_with_len 0 (get_or injected p 0)) x (of_sending e (x ∷ []))
    (number-there 0 (get_or injected p 0) x (omega arith) (omega (arith, m))) one))

-- ---- events that are logged

-- an event of a serial is told as its write says
told-each : (flow : Dataflow) (p s n : ℕ) (event : Event) (h : List SerialEvent) → AreSerialsBelow n h → HasEventTold flow p s event h
    → AllByRecursion (λ (v : SerialEvent). v.serial ≡ s → (event_node flow v.event ≡ p) × (told_of v.event ≡ Some event)) h
told-each flow p s n event [] b k = tt
told-each flow p s n event (v ∷ h) b (inl a) = (
  (λ e. (a.node, a.told)),
  each-weaker (λ (u : SerialEvent). u.serial < v.serial) (λ (u : SerialEvent). u.serial ≡ s → (event_node flow u.event ≡ p) × (told_of u.event ≡ Some event)) h
      (λ u l e. let same = a.same_serial in absurd (omega (arith, l, e, same))) (serials-each v.serial v.serial h (let r : v.serial ≤ v.serial = omega arith in r) b.1),
)
told-each flow p s n event (v ∷ h) b (inr a) = (
  (λ e. let less = below v.serial h b.1 a in absurd (omega (arith, less, e))),
  told-each flow p s v.serial event h b.1 a,
)
  where
    below : (m : ℕ) (us : List SerialEvent) → AreSerialsBelow m us → HasEventTold flow p s event us → s < m
    below m [] c k = absurd k
    below m (u ∷ us) c (inl a) = let l = c.0 in let same = a.same_serial in omega (arith, l, same)
    below m (u ∷ us) c (inr a) = let l = c.0 in let less = below u.serial us c.1 a in omega (arith, l, less)

acknowledged-stays : (w : Write) → w.stage ≡ acknowledged → not_collected w ≡ true
acknowledged-stays w e = ap (λ (s : Stage). not_collected (record w { stage = s })) e

delivered-recall : (flow : Dataflow) (p : ℕ) (entry : Written) (event : Event) (d : ℕ) (m : Message) → entry ≡ written.Event event → receiver flow d ≡ p
    → told_of (happened.Deliver d m) ≡ Some event → Contains (recalls_of_written flow p entry) (of_delivery d m.at)
delivered-recall flow p entry event d m e into k =
    let is : entry ≡ written.Event (Deliver d m.at m.rec) = e ∙ ap written.Event (let s : event ≡ Deliver d m.at m.rec = cc in s) in
    subst (λ w. Contains (recalls_of_written flow p w) (of_delivery d m.at)) (sym is)
    (subst (λ b. Contains (cond b (of_delivery d m.at ∷ []) []) (of_delivery d m.at)) (sym (eq-eqb (receiver flow d) p into)) (contains-itself (of_delivery d m.at)))

noticed-recall : (flow : Dataflow) (p : ℕ) (entry : Written) (event : Event) (t : Stamp) → entry ≡ written.Event event → told_of (happened.Notify p t) ≡ Some event
    → Contains (recalls_of_written flow p entry) (of_notice p t)
noticed-recall flow p entry event t e k =
    let is : entry ≡ written.Event (Notify t) = e ∙ ap written.Event (let s : event ≡ Notify t = cc in s) in
    subst (λ w. Contains (recalls_of_written flow p w) (of_notice p t)) (sym is) (contains-itself (of_notice p t))

-- the entry of a logged event, and what it tells
record IsEntered (flow : Dataflow) (entries : List Entry) (v : SerialEvent) : Type 0 where
  entry : Entry
  there : Contains entries entry
  event : Event
  is : entry.written ≡ written.Event event
  node : event_node flow v.event ≡ entry.node
  told : told_of v.event ≡ Some event

entered : (sys : System) (state : Machine) (entries : List Entry) (v : SerialEvent) → AreSerialsBelow state.next state.history → Contains state.history v
    → AreEntriesOf sys state entries (uncollected state) → IsKeptLogged v.serial state.writes → IsEntered sys.flow entries v
entered sys state entries v serials there of logged =
    let w = logged.write in
    let kept : Contains (uncollected state) w = kept-there not_collected state.writes w logged.there (acknowledged-stays w logged.acknowledged) in
    let b = each-contained (IsBeside (IsEntryOf sys state) entries) w (uncollected state) kept (zip-beside (IsEntryOf sys state) entries (uncollected state) of) in
    by b.other b.there b.beside b.other.written refl w.written logged.logs b.beside.holds
  where
    by : (e : Entry) → Contains entries e → IsEntryOf sys state e logged.write → (ew : Written) → e.written ≡ ew → (ww : WrittenBy) → ww ≡ logged_event v.serial
        → HoldsWhatIsWritten sys state logged.write.node ew ww → IsEntered sys.flow entries v
    by e c o ew is ww l k = at ew is (subst (HoldsWhatIsWritten sys state logged.write.node ew) l k)
      where
        at : (ew : Written) → e.written ≡ ew → HoldsWhatIsWritten sys state logged.write.node ew (logged_event v.serial) → IsEntered sys.flow entries v
        at (written.Checkpoint recorded stamps sent) i k = absurd k
        at (written.Event event) i k =
            let t = each-contained (λ (u : SerialEvent). u.serial ≡ v.serial → (event_node sys.flow u.event ≡ logged.write.node) × (told_of u.event ≡ Some event)) v state.history there
            (told-each sys.flow logged.write.node v.serial state.next event state.history serials k) refl in
            record { entry = e; there = c; event = event; is = i; node = t.0 ∙ sym o.node; told = t.1 }

-- what is told of an event that was entered
entered-delivered : (flow : Dataflow) (given : List (ℕ × List (List Rec))) (injected : List ℕ) (low : List Front) (entries : List Entry) (v : SerialEvent) (d : ℕ) (m : Message)
    → v.event ≡ happened.Deliver d m → IsEntered flow entries v → Contains (recalls_of flow given injected low entries) (of_delivery d m.at)
entered-delivered flow given injected low entries v d m is e =
    Contains-append_right (recalls_of_inputs flow given injected low (length flow.nodes)) (flat_map (recalls_of_entry flow) entries) (of_delivery d m.at)
    (flat-has (recalls_of_entry flow) entries e.entry (of_delivery d m.at) e.there
    (delivered-recall flow e.entry.node e.entry.written e.event d m e.is (sym (ap (event_node flow) is) ∙ e.node) (sym (ap told_of is) ∙ e.told)))

entered-noticed : (flow : Dataflow) (given : List (ℕ × List (List Rec))) (injected : List ℕ) (low : List Front) (entries : List Entry) (v : SerialEvent) (p : ℕ) (t : Stamp)
    → v.event ≡ happened.Notify p t → IsEntered flow entries v → Contains (recalls_of flow given injected low entries) (of_notice p t)
entered-noticed flow given injected low entries v p t is e =
    let mine : p ≡ e.entry.node = sym (ap (event_node flow) is) ∙ e.node in
    Contains-append_right (recalls_of_inputs flow given injected low (length flow.nodes)) (flat_map (recalls_of_entry flow) entries) (of_notice p t)
    (flat-has (recalls_of_entry flow) entries e.entry (of_notice p t) e.there
    (subst (λ q. Contains (recalls_of_written flow e.entry.node e.entry.written) (of_notice q t)) (sym mine)
    (noticed-recall flow e.entry.node e.entry.written e.event t e.is (ap (λ q. told_of (happened.Notify q t)) (sym mine) ∙ sym (ap told_of is) ∙ e.told))))

-- what holds of each that was delivered
each-delivered : (P : Stamp → Type 0) (d : ℕ) (h : List SerialEvent) → AllByRecursion (λ (v : SerialEvent). (m : Message) → v.event ≡ happened.Deliver d m → P m.at) h
    → AllByRecursion P (map (λ (m : Message). m.at) (delivered_messages (events h) d))
each-delivered P d [] a = tt
each-delivered P d (v ∷ h) a = by v.event a.0 (each-delivered P d h a.1)
  where
    by : (e : Happened) → ((m : Message) → e ≡ happened.Deliver d m → P m.at) → AllByRecursion P (map (λ (m : Message). m.at) (delivered_messages (events h) d))
        → AllByRecursion P (map (λ (m : Message). m.at) (message_on d e ++ delivered_messages (events h) d))
    by (happened.Inject s x) f rest = rest
    by (happened.Notify q t) f rest = rest
    by (happened.Deliver c m) f rest = on (c == d) refl
      where
        on : (b : Bool) → (c == d) ≡ b → AllByRecursion P (map (λ (z : Message). z.at) (cond b (m ∷ []) [] ++ delivered_messages (events h) d))
        on true e = (f m (ap (λ x. happened.Deliver x m) (eqb-true c d e)), rest)
        on false e = rest

each-noticed : (P : Stamp → Type 0) (p : ℕ) (h : List SerialEvent) → AllByRecursion (λ (v : SerialEvent). (t : Stamp) → v.event ≡ happened.Notify p t → P t) h
    → AllByRecursion P (flat_map (stamp_of_notice p) (events h))
each-noticed P p [] a = tt
each-noticed P p (v ∷ h) a = by v.event a.0 (each-noticed P p h a.1)
  where
    by : (e : Happened) → ((t : Stamp) → e ≡ happened.Notify p t → P t) → AllByRecursion P (flat_map (stamp_of_notice p) (events h))
        → AllByRecursion P (stamp_of_notice p e ++ flat_map (stamp_of_notice p) (events h))
    by (happened.Inject s x) f rest = rest
    by (happened.Deliver c m) f rest = rest
    by (happened.Notify q t) f rest = on (q == p) refl
      where
        on : (b : Bool) → (q == p) ≡ b → AllByRecursion P (cond b (t ∷ []) [] ++ flat_map (stamp_of_notice p) (events h))
        on true e = (f t (ap (λ x. happened.Notify x t) (eqb-true q p e)), rest)
        on false e = rest

-- ---- the law

second-holds : (a b : Bool) → a ≡ true → (not a || b) ≡ true → b ≡ true
second-holds true b e k = k
second-holds false b e k = absurd (cc)

second-fails : (a b : Bool) → a ≡ true → (a && b) ≡ false → b ≡ false
second-fails true b e k = k
second-fails false b e k = absurd (cc)

pub recalled-held : (flow : Dataflow) (given : List (ℕ × List (List Rec))) (injected : List ℕ) (low : List Front) (entries : List Entry) (old new : Traces) (state : Machine)
    → IsWellFormedSystem (system_of flow given) → IsReached (system_of flow given) state → ((p : ℕ) → p < length flow.nodes → get_or injected p 0 ≡ injected_count p (events state.history)) → low ≡ state.low
    → AreEntriesOf (system_of flow given) state entries (uncollected state) → AreFirst (system_of flow given) old → HaveRecalled (recalls_of flow given injected low entries) old new
    → KnowsTracesHeld (system_of flow given) state new
recalled-held flow given injected low entries old new state w r counts lows of first m = record {
  among = λ p l. among p;
  inputs = λ p l way.
      let is = by_batches-input (kind_of flow p) (policy_of flow p) way in
      let none : policy_of flow p ≡ policy.None = subst (λ k. IsPolicyAllowed k (policy_of flow p)) is (w.flow.policies p l) in
      let takes : takes_checkpoints (policy_of flow p) ≡ false = ap takes_checkpoints none in
      subst (λ b. IsTraceIf b sys h p (cond b (settled p) (base p)) new) (sym takes) (input-trace sys h p (base p) new w.flow legal l is (among p) (outside p l (ap is_input_kind is)));
  logged = λ p l way.
      let full = events-full (kind_of flow p) (policy_of flow p) way in
      let takes : takes_checkpoints (policy_of flow p) ≡ false = ap takes_checkpoints full in
      subst (λ b. HasTraceOutside flow (logged_history sys state p) p (cond b (settled p) (base p)) new) (sym takes) (record {
        delivered = λ d k into.
            each-delivered (λ t. base p t ≡ false → Contains (delivered_on new d) t) d (filter (test p) state.history)
            (each-filter (λ (v : SerialEvent). (z : Message) → v.event ≡ happened.Deliver d z → base p z.at ≡ false → Contains (delivered_on new d) z.at) (test p) state.history
            (each-from (λ (v : SerialEvent). test p v ≡ true → (z : Message) → v.event ≡ happened.Deliver d z → base p z.at ≡ false → Contains (delivered_on new d) z.at) state.history
            (λ v c passes z is out. (m.is (of_delivery d z.at)).1 (inr (entered-delivered flow given injected low entries v d z is
            (there p v c passes (ap (event_node flow) is ∙ into) (ap (λ e. base p (event_stamp e)) is ∙ out)))))));
        notified =
            each-noticed (λ t. base p t ≡ false → Contains (stamps_notified new p) t) p (filter (test p) state.history)
            (each-filter (λ (v : SerialEvent). (t : Stamp) → v.event ≡ happened.Notify p t → base p t ≡ false → Contains (stamps_notified new p) t) (test p) state.history
            (each-from (λ (v : SerialEvent). test p v ≡ true → (t : Stamp) → v.event ≡ happened.Notify p t → base p t ≡ false → Contains (stamps_notified new p) t) state.history
            (λ v c passes t is out. (m.is (of_notice p t)).1 (inr (entered-noticed flow given injected low entries v p t is
            (there p v c passes (ap (event_node flow) is) (ap (λ e. base p (event_stamp e)) is ∙ out)))))));
      });
}
  where
    sys : System
    sys = system_of flow given

    h : List Happened
    h = events state.history

    base : ℕ → Frontier
    base p = node_frontier flow p (front_of state.low p)

    settled : ℕ → Frontier
    settled p = node_frontier flow p (front_of state.settled p)

    test : ℕ → SerialEvent → Bool
    test p v = not (event_node flow v.event == p) || is_serial_logged v.serial state.writes

    legal : IsLegal sys h
    legal = runs-legal sys r.0 r.1 state w.flow (has_epochs sys w) r.2

    sends : InputsSend sys h
    sends e i t = injected-send sys h e legal i t

    among : (p : ℕ) → IsTraceAmong sys h p new
    among p = recalled-among sys h (recalls_of flow given injected low entries) old new first m (all-happens flow given state injected low entries sends legal counts of) p

    there : (p : ℕ) (v : SerialEvent) → Contains state.history v → test p v ≡ true → event_node flow v.event ≡ p → base p (event_stamp v.event) ≡ false → IsEntered flow entries v
    there p v c passes n out =
        let logged = second-holds (event_node flow v.event == p) (is_serial_logged v.serial state.writes) (eq-eqb (event_node flow v.event) p n) passes in
        let kept = each-contained (λ (u : SerialEvent). event_node flow u.event ≡ p → base p (event_stamp u.event) ≡ false → is_serial_logged u.serial state.writes ≡ true
        → IsKeptLogged u.serial state.writes) v state.history c (nothing-collected sys state p w r) n out logged in
        entered sys state entries v (reached-all sys w r.0 r.1 state r.2).restore.serials c of kept

    outside_by : (e : ℕ) → e < length flow.edges → sender flow e < length flow.nodes → is_input_kind (kind_of flow (sender flow e)) ≡ true
        → HasOutside (base (sender flow e)) (causes_in (sent_messages sys h e)) (stamps_where_sent new e)
    outside_by e there l input =
        let p = sender flow e in
        let ms = sent_messages sys h e in
        let B : Stamp → Type 0 = λ u. in_domain (bounds_of flow p) u ≡ true in
        let of_domain = edge-domain sys h p e refl (legal_events-in_domain sys h w.flow (has_epochs sys w) legal p) in
        each-had (λ t. base p t ≡ false → Contains (stamps_where_sent new e) t) (causes_in ms) (λ t c out.
        let s = (sends e input t).0 c in
        let x = s.0 in
        let in_it : in_domain (bounds_of flow p) t ≡ true = each-contained B t (causes_in ms) c of_domain in
        let out_it : inside (front_of low p) (x ∷ []) ≡ false = ap (λ fs. inside (front_of fs p) (x ∷ [])) lows ∙ ap (inside (front_of state.low p)) (sym s.1)
        ∙ second-fails (in_domain (bounds_of flow p) t) (inside (front_of state.low p) t) in_it out in
        let less : x < get_or injected p 0 = let count = counts p l in let k = s.2 in omega (arith, count, k) in
        let some : 0 < length (carried_recs flow e (get_or (batches_at given p) x [])) =
        subst (λ bs. 0 < length (carried_recs flow e (get_or bs x []))) (batches_there flow given p l) s.3 in
        subst (Contains (stamps_where_sent new e)) (sym s.1)
        ((m.is (of_sending e (x ∷ []))).1 (inr (sent-told flow given injected low entries p x l e (out-among flow p e there refl) less some out_it))))

    outside : (p : ℕ) → p < length flow.nodes → is_input_kind (kind_of flow p) ≡ true
        → (e : ℕ) → e < length flow.edges → sender flow e ≡ p → HasOutside (base p) (causes_in (sent_messages sys h e)) (stamps_where_sent new e)
    outside p l input e there r =
        subst (λ q. HasOutside (base q) (causes_in (sent_messages sys h e)) (stamps_where_sent new e)) r
        (outside_by e there (subst (λ q. q < length flow.nodes) (sym r) l) (subst (λ q. is_input_kind (kind_of flow q) ≡ true) (sym r) input))

pub recalls-held : (flow : Dataflow) (given : List (ℕ × List (List Rec))) (injected : List ℕ) (low : List Front) (entries : List Entry) (old mid new : Traces) (state : Machine)
    → RecallsAreOf flow given injected low entries old state → HaveRecalled (recalls_of_inputs flow given injected low (length flow.nodes)) old mid
    → HaveRecalled (flat_map (recalls_of_entry flow) entries) mid new → KnowsTracesHeld (system_of flow given) state new
recalls-held flow given injected low entries old mid new state a b c =
    recalled-held flow given injected low entries old new state a.well_formed a.reached a.counts a.lows a.written a.first
    (recalled-append (recalls_of_inputs flow given injected low (length flow.nodes)) (flat_map (recalls_of_entry flow) entries) old mid new b c)

-- of a well-formed system no node has more batches than there are epochs
pub batches-few : (flow : Dataflow) (given : List (ℕ × List (List Rec))) → HasEpochs (system_of flow given) → (p : ℕ) → p < length flow.nodes → length (batches_at given p) ≤ 2 ^ 32
batches-few flow given few p l = let less = subst (λ bs. length bs ≤ greatest_number + 1) (batches_there flow given p l) (few p) in omega (arith, less)

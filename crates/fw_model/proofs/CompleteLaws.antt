-- Where all has come nothing more comes.
use Rattle.std.proofs.Common.{◌≡◌, ℕ, ◌+◌, ◌≤◌, Bool, true, false, not, ◌&&◌, ◌||◌, ◌==◌, nat_lt, List, [], ◌∷◌, length, get_or, Some, None, refl, sym, ap, subst, ◌∙◌, inl, inr, ◌⊎◌, arith, ◌++◌}
use Rattle.std.proofs.Math.Bool.{and-false}
use Rattle.std.specs.List.{AllByRecursion}
use Rattle.std.proofs.lemmas.Bool.{and_parts, and_from, or_cases, or_right, cond_both, eqb-true, ltb-true, lt-ltb, cases_lt, false_from_ne_true}
use Rattle.std.proofs.lemmas.List.{get_or_past}
use Rattle.fw_lemmas.proofs.Bools.{two_ways}
use Rattle.fw_lemmas.proofs.Each.{each-weaker}
use Rattle.fw_time.specs.Stamp.{Stamp, leq, same, in_domain}
use Rattle.fw_time.proofs.StampLaws.{leq-refl}
use Rattle.fw_frontier.specs.Frontier.{Frontier, Within}
use Rattle.fw_flow.specs.declared.event.Event.{Event}
use Rattle.fw_flow.specs.declared.event.Event.TheVariants.{Inject, Deliver, Notify}
use Rattle.fw_flow.specs.declared.event.Message.{Message}
use Rattle.fw_flow.specs.declared.kind.Kind.TheVariants.{OutputEpoch}
use Rattle.fw_flow.specs.Dataflow.{System, Dataflow, idle_node, kind_of, sender, receiver, greatest_number, bounds_of, is_input_kind, is_notified_kind, batches_of, send_stamp, send_stamp_of_kind, HasEpochs}
use Rattle.fw_flow.specs.NodeFunction.{event_node, event_stamp, numbered_messages, sequence_sent, sends_of_kind, sends}
use Rattle.fw_flow.specs.Projection.{events_at, count_from, first_coordinate, phi, IsSenderFrontier}
use Rattle.fw_flow.specs.WellFormed.{IsWellFormed}
use Rattle.fw_model.proofs.KindSorts.{by_stamp-single}
use Rattle.fw_model.proofs.LesserLaws.{lesser-in_domain, lesser-on_edge}
use Rattle.fw_model.specs.Carried.{carried}
use Rattle.fw_model.specs.LawsOfPending.{sent_on}
use Rattle.fw_model.specs.History.{some_at, sent_messages, delivered_messages, pending_messages, was_delivered_to, was_notified, is_owed_notice, injected_count, is_exhausted, injected_epochs, IsAdmissible, IsEnabled, IsLegal}
use Rattle.fw_flow.specs.Message.{messages_less}
use Rattle.fw_model.specs.LawsOfCompleteFrontiers.{EnabledIsOutside, AdmissibleStaysAdmissible}
use Rattle.fw_model.proofs.PhiLaws.{phi-longer}
use Rattle.fw_model.proofs.FrontierLaws.{phi-frontier}
use Rattle.fw_model.proofs.SendingLaws.{phi-by_stamp, phi-in_domain}
use Rattle.fw_model.proofs.SendsLaws.{IsAt, sends-each}
use Rattle.fw_model.proofs.SequenceLaws.{IsNumbered, numbered-each, count-le_length, no_inject, sent_by-sequence, phi-sequence, bounds-sequence}
use Rattle.fw_model.proofs.WellFormedLaws.{senders_well_formed}
use Rattle.fw_model.proofs.LegalLaws.{enabled-in_domain, legal-in_domain, only_inputs_inject}
use Rattle.fw_model.proofs.CarriedLaws.{carried-each, sent-more}
use Rattle.fw_model.proofs.PendingLaws.{quiet-new, quiet-without, is_among-some_at}
use Rattle.fw_model.specs.Sending.{is_single_kind, SendsByStamp, SendsByCount, recs_by_count_on}

-- ---- an enabled event is outside

pub enabled-outside : EnabledIsOutside
enabled-outside sys h done a (Inject s x) k = false_from_ne_true (done s (x ∷ [])) (λ i.
    let l = k.there in
    let n = k.next in
    let j = a.source s k.input (x ∷ []) i in
    let both = and_parts (in_domain (bounds_of sys.flow s) (x ∷ [])) (is_exhausted sys h s || nat_lt x (injected_count s h)) j in
    elim (or_cases (is_exhausted sys h s) (nat_lt x (injected_count s h)) both.1) [
      | inl e ↦ let z = eqb-true (injected_count s h) (length (batches_of sys s)) e in omega arith
      | inr e ↦ let z = ltb-true x (injected_count s h) e in omega arith
    ])
enabled-outside sys h done a (Deliver e m) k = false_from_ne_true (done (receiver sys.flow e) m.at) (λ i.
    two_ways _ (is_among-some_at m (pending_messages sys h e) k.is_pending) (a.quiet (receiver sys.flow e) m.at i e refl))
enabled-outside sys h done a (Notify p t) k = false_from_ne_true (done p t) (λ i. two_ways _ k.is_owed (a.paid p t i))

-- ---- what an event outside sends is outside phi

-- an output is owed nothing
pub not_past : (sys : System) (h : List Event) (p : ℕ) (t : Stamp) → kind_of sys.flow p ≡ OutputEpoch → is_owed_notice sys h p t ≡ false
not_past sys h p t k = ap (λ kind. is_notified_kind kind && was_delivered_to sys.flow p t h && not (was_notified p t h)) k

pub past_edges-idle : (flow : Dataflow) (e : ℕ) → length flow.edges ≤ e → kind_of flow (sender flow e) ≡ OutputEpoch
unfolding sender kind_of
past_edges-idle flow e l =
    let past = get_or_past flow.edges e (record { name = []; sender = length flow.nodes; receiver = length flow.nodes }) l in
    let last : length flow.nodes ≤ length flow.nodes = omega arith in
    ap (λ d. (get_or flow.nodes d.sender idle_node).kind) past ∙ ap (λ n. n.kind) (get_or_past flow.nodes (length flow.nodes) idle_node last)

-- the sender of any edge is a sequence, sends by stamp, or sends nothing
pub sender_sorts : (flow : Dataflow) → IsWellFormed flow → (e : ℕ)
    → (SendsByCount (kind_of flow (sender flow e)) ⊎ SendsByStamp flow (kind_of flow (sender flow e))) ⊎ (kind_of flow (sender flow e) ≡ OutputEpoch)
sender_sorts flow w e = elim (cases_lt e (length flow.edges)) [ inl l ↦ inl (senders_well_formed flow w e l) | inr l ↦ inr (past_edges-idle flow e l) ]

-- each of these messages on the edge is outside phi
abbrev AreOutsidePhi : System → List Event → ℕ → Frontier → List Message → Type 0
AreOutsidePhi sys h e f ms = AllByRecursion (λ (m : Message). phi sys h e f m.at ≡ true → ⊥) ms

by_stamp-outside : (sys : System) (h : List Event) (e : ℕ) (f : Frontier) (v : Event) → SendsByStamp sys.flow (kind_of sys.flow (sender sys.flow e))
    → IsSenderFrontier sys.flow e f → in_domain (bounds_of sys.flow (sender sys.flow e)) (event_stamp v) ≡ true → f (event_stamp v) ≡ false
    → AreOutsidePhi sys h e f (sends sys (sender sys.flow e) (events_at sys.flow (sender sys.flow e) h) v)
by_stamp-outside sys h e f v p fr d o =
    let q = sender sys.flow e in
    each-weaker (IsAt (send_stamp sys.flow q (event_stamp v)) (event_stamp v)) (λ m. phi sys h e f m.at ≡ true → ⊥) (sends sys q (events_at sys.flow q h) v)
    (λ m a k.
    let all = (phi-by_stamp sys h e f p fr m.at (phi-in_domain sys h e f m.at k)).0 k in
    two_ways (f (event_stamp v)) (all (event_stamp v) m.at d a.0 (leq-refl m.at)) o)
    (sends-each sys q (by_stamp-single sys.flow (kind_of sys.flow q) p) (events_at sys.flow q h) v)

idle-outside : (sys : System) (h : List Event) (e : ℕ) (f : Frontier) (v : Event) → kind_of sys.flow (sender sys.flow e) ≡ OutputEpoch
    → AreOutsidePhi sys h e f (sends sys (sender sys.flow e) (events_at sys.flow (sender sys.flow e) h) v)
idle-outside sys h e f v is =
    let q = sender sys.flow e in
    each-weaker (IsAt (send_stamp sys.flow q (event_stamp v)) (event_stamp v)) (λ m. phi sys h e f m.at ≡ true → ⊥) (sends sys q (events_at sys.flow q h) v)
    (λ m a k. let r : None ≡ Some m.at = sym (ap (λ kind. send_stamp_of_kind sys.flow kind (event_stamp v)) is) ∙ a.0 in cc r)
    (sends-each sys q (ap is_single_kind is) (events_at sys.flow q h) v)

sequence-outside : (sys : System) (h : List Event) (e : ℕ) (f : Frontier) (v : Event) → SendsByCount (kind_of sys.flow (sender sys.flow e))
    → IsSenderFrontier sys.flow e f → in_domain (bounds_of sys.flow (sender sys.flow e)) (event_stamp v) ≡ true → f (event_stamp v) ≡ false
    → injected_count (sender sys.flow e) h ≡ 0
    → AreOutsidePhi sys h e f (sends sys (sender sys.flow e) (events_at sys.flow (sender sys.flow e) h) v)
unfolding sends
sequence-outside sys h e f v is fr d o n =
    let q = sender sys.flow e in
    let vs = events_at sys.flow q h in
    let before = sequence_sent vs in
    let rs = recs_by_count_on sys vs v in
    let P : List Message → Type 0 = λ ms. AreOutsidePhi sys h e f ms in
    let sent_is = ap (count_from f) (sent_by-sequence sys q is vs (no_inject sys.flow q h n)) in
    let fewer = count-le_length f before in
    subst P (sym (ap (λ kind. sends_of_kind sys kind vs v) is))
    (each-weaker (IsNumbered (length before) (event_stamp v)) (λ m. phi sys h e f m.at ≡ true → ⊥) (numbered_messages (length before) (event_stamp v) rs)
    (λ m a k. elim (phi-sequence sys h e f m.at is k) [
      | inl top ↦ two_ways (f (event_stamp v))
          (fr.closed (event_stamp v) (greatest_number ∷ []) d (sym (ap (λ b. in_domain b (event_stamp v)) (bounds-sequence sys.flow q is)) ∙ d) top) o
      | inr l ↦ let c = a.0 in omega arith
    ])
    (numbered-each (length before) (event_stamp v) rs))

fresh-outside : (sys : System) (h : List Event) → IsWellFormed sys.flow → IsLegal sys h → (e : ℕ) (f : Frontier) (v : Event)
    → IsSenderFrontier sys.flow e f → in_domain (bounds_of sys.flow (sender sys.flow e)) (event_stamp v) ≡ true → f (event_stamp v) ≡ false
    → AreOutsidePhi sys h e f (sends sys (sender sys.flow e) (events_at sys.flow (sender sys.flow e) h) v)
fresh-outside sys h w l e f v fr d o = elim (sender_sorts sys.flow w e) [
  | inl (inl is) ↦ sequence-outside sys h e f v is fr d o (only_inputs_inject sys h l (sender sys.flow e) (ap is_input_kind is))
  | inl (inr p) ↦ by_stamp-outside sys h e f v p fr d o
  | inr is ↦ idle-outside sys h e f v is
]

-- ---- an enabled event leaves a family admissible

outside-other : (sys : System) (h : List Event) (e : ℕ) (f : Frontier) (t : Stamp) → IsSenderFrontier sys.flow e f → phi sys h e f t ≡ true
    → (ms : List Message) → AreOutsidePhi sys h e f ms → AllByRecursion (λ (m : Message). same t m.at ≡ false) ms
outside-other sys h e f t fr i ms o =
    let p = phi-frontier sys h e f fr in
    each-weaker (λ (m : Message). phi sys h e f m.at ≡ true → ⊥) (λ m. same t m.at ≡ false) ms
    (λ m a. false_from_ne_true (same t m.at) (λ k.
    let b = and_parts (leq t m.at) (leq m.at t) k in
    a (p.closed m.at t (lesser-on_edge sys.flow e m.at t b.1 (p.inside_domain t i)) b.1 i))) o

pub quiet-sent : (sys : System) (h : List Event) → IsWellFormed sys.flow → HasEpochs sys → IsLegal sys h
    → (done : ℕ → Frontier) → IsAdmissible sys h done → (v : Event) → IsEnabled sys h v
    → (e : ℕ) (t : Stamp) → phi sys h e (done (sender sys.flow e)) t ≡ true → some_at (same t) (pending_messages sys h e) ≡ false
    → some_at (same t) (messages_less (sent_messages sys (v ∷ h) e) (delivered_messages h e)) ≡ false
quiet-sent sys h w b l done a v k e t i quiet =
    let q = sender sys.flow e in
    let new = sends sys q (events_at sys.flow q h) v in
    let fresh : AllByRecursion (λ (m : Message). same t m.at ≡ false) (sent_on sys h e v) =
    cond_both (event_node sys.flow v == q) (carried sys.flow e new) [] (AllByRecursion (λ (m : Message). same t m.at ≡ false))
    (λ c.
    let here = eqb-true (event_node sys.flow v) q c in
    let d = enabled-in_domain sys h w b (legal-in_domain sys h w b l) v k in
    let o = enabled-outside sys h done a v k in
    carried-each sys.flow e (λ (m : Message). same t m.at ≡ false) new
    (outside-other sys h e (done q) t (a.frontier q) i new
    (fresh-outside sys h w l e (done q) v (a.frontier q)
    (sym (ap (λ n. in_domain (bounds_of sys.flow n) (event_stamp v)) here) ∙ d) (sym (ap (λ n. done n (event_stamp v)) here) ∙ o))))
    (λ c. tt) in
    subst (λ (ms : List Message). some_at (same t) (messages_less ms (delivered_messages h e)) ≡ false) (sym (sent-more sys h v e))
    (quiet-new t (sent_on sys h e v) (sent_messages sys h e) (delivered_messages h e) fresh quiet)

pub quiet-event : (v : Event) (h : List Event) (e : ℕ) (t : Stamp) (ms : List Message)
    → some_at (same t) (messages_less ms (delivered_messages h e)) ≡ false → some_at (same t) (messages_less ms (delivered_messages (v ∷ h) e)) ≡ false
quiet-event (Inject s x) h e t ms k = k
quiet-event (Deliver d m) h e t ms k =
    cond_both (d == e) (m ∷ []) [] (λ ds. some_at (same t) (messages_less ms (ds ++ delivered_messages h e)) ≡ false)
    (λ c. quiet-without t m (messages_less ms (delivered_messages h e)) k) (λ c. k)
quiet-event (Notify p s) h e t ms k = k

pub not_owed-notified : (a b c d : Bool) → (a && b && not d) ≡ false → (a && b && not (c || d)) ≡ false
not_owed-notified a b true d k = and-false (a && b)
not_owed-notified a b false d k = k

pub not_owed-delivered : (a b c d : Bool) → c ≡ false → (a && b && not d) ≡ false → (a && (c || b) && not d) ≡ false
not_owed-delivered a b true d e k = cc
not_owed-delivered a b false d e k = k

paid-event : (sys : System) (h : List Event) (done : ℕ → Frontier) → IsAdmissible sys h done → (v : Event)
    → done (event_node sys.flow v) (event_stamp v) ≡ false → (p : ℕ) (t : Stamp) → done p t ≡ true → is_owed_notice sys (v ∷ h) p t ≡ false
paid-event sys h done a (Inject s x) o p t i = a.paid p t i
paid-event sys h done a (Deliver e m) o p t i =
    not_owed-delivered (is_notified_kind (kind_of sys.flow p)) (was_delivered_to sys.flow p t h) (receiver sys.flow e == p && same m.at t) (was_notified p t h)
    (false_from_ne_true _ (λ k.
    let c = and_parts (receiver sys.flow e == p) (same m.at t) k in
    let b = and_parts (leq m.at t) (leq t m.at) c.1 in
    let fr = a.frontier p in
    let j = fr.closed m.at t (lesser-in_domain sys.flow p m.at t b.0 (fr.inside_domain t i)) b.0 i in
    two_ways (done (receiver sys.flow e) m.at) (ap (λ n. done n m.at) (eqb-true (receiver sys.flow e) p c.0) ∙ j) o))
    (a.paid p t i)
paid-event sys h done a (Notify q s) o p t i =
    not_owed-notified (is_notified_kind (kind_of sys.flow p)) (was_delivered_to sys.flow p t h) (q == p && same s t) (was_notified p t h) (a.paid p t i)

injected-grows : (sys : System) (h : List Event) (v : Event) → IsEnabled sys h v → (s : ℕ) → Within (injected_epochs sys h s) (injected_epochs sys (v ∷ h) s)
injected-grows sys h (Deliver e m) k s = λ t i. i
injected-grows sys h (Notify p u) k s = λ t i. i
injected-grows sys h (Inject q x) k s = λ t i.
    let d = in_domain (bounds_of sys.flow s) t in
    let n = injected_count s h in
    let a = and_parts d (is_exhausted sys h s || nat_lt (first_coordinate t) n) i in
    cond_both (q == s) (n + 1) n (λ c. (d && (c == length (batches_of sys s) || nat_lt (first_coordinate t) c)) ≡ true)
    (λ e. and_from d _ a.0 (elim (or_cases (is_exhausted sys h s) (nat_lt (first_coordinate t) n) a.1) [
      | inl j ↦
          let z = eqb-true n (length (batches_of sys s)) j in
          let y = k.next in
          let l = k.there in
          let same_node = eqb-true q s e in
          let u = ap (λ r. injected_count r h) same_node in
          let g = ap (λ r. length (batches_of sys r)) same_node in
          absurd (omega arith)
      | inr j ↦ let z = ltb-true (first_coordinate t) n j in or_right _ (nat_lt (first_coordinate t) (n + 1)) (lt-ltb (first_coordinate t) (n + 1) (omega arith))
    ]))
    (λ e. i)

pub admissible-stays : AdmissibleStaysAdmissible
admissible-stays sys h w b l done a v k = record {
  frontier = a.frontier;
  quiet = λ p t i e r. quiet-event v h e t (sent_messages sys (v ∷ h) e)
      (quiet-sent sys h w b l done a v k e t (a.follows e t (ap (λ n. done n t) r ∙ i)) (a.quiet p t i e r));
  paid = λ p t i. paid-event sys h done a v (enabled-outside sys h done a v k) p t i;
  follows = λ e t i. phi-longer sys h (v ∷ []) e (done (sender sys.flow e)) t (a.follows e t i);
  source = λ s j t i. injected-grows sys h v k s t (a.source s j t i);
}

-- Two lists of batches that are alike in a history: what was sent, what is pending, what may come and what is complete are the same.
use Rattle.std.proofs.Common.{◌≡◌, ℕ, ◌&&◌, ◌||◌, ◌==◌, nat_lt, cond, List, [], ◌∷◌, ◌++◌, length, get_or, refl, sym, ap, ◌∙◌}
use Rattle.std.specs.List.{AllByRecursion}
use Rattle.fw_lemmas.proofs.Each.{each-weaker, each-kept}
use Rattle.fw_time.specs.Stamp.{Stamp, same, in_domain}
use Rattle.fw_bag.specs.declared.rec.Rec.{Rec}
use Rattle.fw_frontier.specs.Frontier.{Frontier}
use Rattle.fw_flow.specs.declared.event.Event.{Event}
use Rattle.fw_flow.specs.declared.event.Event.TheVariants.{Inject, Deliver, Notify}
use Rattle.fw_flow.specs.declared.event.Message.{Message}
use Rattle.fw_flow.specs.Kind.{Kind}
use Rattle.fw_flow.specs.declared.kind.Kind.TheVariants.{Sequence}
use Rattle.fw_flow.specs.Dataflow.{Dataflow, kind_of, sender, bounds_of, bounds_of_domain, out_domain_of_kind, greatest_of_kind, batches_of, is_input_kind, send_stamp_of_kind}
use Rattle.fw_flow.specs.NodeFunction.{recs_on, numbered_messages, sequence_sent, messages_at_some, event_stamp, event_node, sends_of_kind, sends, sent_by}
use Rattle.fw_flow.specs.Message.{messages_less, is_message_among}
use Rattle.fw_flow.specs.Projection.{events_at, sent_count, count_from, phi_of_kind, phi, first_coordinate}
use Rattle.fw_model.specs.Carried.{carried}
use Rattle.fw_model.specs.History.{some_at, sent_messages, delivered_messages, pending_messages, injected_count, is_exhausted, injected_epochs, IsQuiet, IsAdmissible, IsComplete, IsNotifiable, IsDeliverable}
use Rattle.fw_feeding.specs.Feeding.{with_batches}

-- the event injects the same batch of both
abbrev pub InjectsAlike : Dataflow → List (List (List Rec)) → List (List (List Rec)) → Event → Type 0
InjectsAlike flow now later (Inject s x) = get_or (batches_of (with_batches flow now) s) x [] ≡ get_or (batches_of (with_batches flow later) s) x []
InjectsAlike flow now later (Deliver e m) = Unit {0}
InjectsAlike flow now later (Notify p t) = Unit {0}

-- in a history what was injected is the same, and of each source all batches of both were injected or of neither
pub record AreAlikeIn (flow : Dataflow) (now later : List (List (List Rec))) (h : List Event) : Type 0 where
  pub injected : AllByRecursion (InjectsAlike flow now later) h
  pub exhausted : (s : ℕ) → is_exhausted (with_batches flow now) h s ≡ is_exhausted (with_batches flow later) h s

injects-back : (flow : Dataflow) (now later : List (List (List Rec))) (v : Event) → InjectsAlike flow now later v → InjectsAlike flow later now v
injects-back flow now later (Inject s x) a = sym a
injects-back flow now later (Deliver e m) a = tt
injects-back flow now later (Notify p t) a = tt

pub alike-back : (flow : Dataflow) (now later : List (List (List Rec))) (h : List Event) → AreAlikeIn flow now later h → AreAlikeIn flow later now h
alike-back flow now later h a = record {
  injected = each-weaker (InjectsAlike flow now later) (InjectsAlike flow later now) h (λ v i. injects-back flow now later v i) a.injected;
  exhausted = λ s. sym (a.exhausted s);
}

-- ---- what is sent

recs-alike : (flow : Dataflow) (now later : List (List (List Rec))) (kind : Kind) (before : List Event) (v : Event) → InjectsAlike flow now later v
    → recs_on (with_batches flow now) kind before v ≡ recs_on (with_batches flow later) kind before v
recs-alike flow now later kind before (Inject s x) a = ap (λ rs. cond (is_input_kind kind) rs []) a
recs-alike flow now later kind before (Deliver e m) a = refl
recs-alike flow now later kind before (Notify p t) a = refl

sends-alike : (flow : Dataflow) (now later : List (List (List Rec))) (kind : Kind) (before : List Event) (v : Event)
    → recs_on (with_batches flow now) kind before v ≡ recs_on (with_batches flow later) kind before v
    → sends_of_kind (with_batches flow now) kind before v ≡ sends_of_kind (with_batches flow later) kind before v
sends-alike flow now later Sequence before v a = ap (numbered_messages (length (sequence_sent before)) (event_stamp v)) a
sends-alike flow now later kind before v a = ap (messages_at_some (send_stamp_of_kind flow kind (event_stamp v)) (event_stamp v)) a

sent-alike : (flow : Dataflow) (now later : List (List (List Rec))) (p : ℕ) (vs : List Event) → AllByRecursion (InjectsAlike flow now later) vs
    → sent_by (with_batches flow now) p vs ≡ sent_by (with_batches flow later) p vs
unfolding sends
sent-alike flow now later p [] a = refl
sent-alike flow now later p (v ∷ before) a =
    let kind = kind_of flow p in
    let one = sends-alike flow now later kind before v (recs-alike flow now later kind before v a.0) in
    let rest = sent-alike flow now later p before a.1 in
    ap (λ ms. ms ++ sent_by (with_batches flow now) p before) one ∙ ap (λ ms. sends_of_kind (with_batches flow later) kind before v ++ ms) rest

pub node-alike : (flow : Dataflow) (now later : List (List (List Rec))) (h : List Event) → AllByRecursion (InjectsAlike flow now later) h → (p : ℕ)
    → sent_by (with_batches flow now) p (events_at flow p h) ≡ sent_by (with_batches flow later) p (events_at flow p h)
node-alike flow now later h a p =
    sent-alike flow now later p (events_at flow p h) (each-kept (InjectsAlike flow now later) (λ v. event_node flow v == p) h a)

pub messages-alike : (flow : Dataflow) (now later : List (List (List Rec))) (h : List Event) → AllByRecursion (InjectsAlike flow now later) h → (e : ℕ)
    → sent_messages (with_batches flow now) h e ≡ sent_messages (with_batches flow later) h e
messages-alike flow now later h a e = ap (carried flow e) (node-alike flow now later h a (sender flow e))

pub pending-alike : (flow : Dataflow) (now later : List (List (List Rec))) (h : List Event) → AreAlikeIn flow now later h → (e : ℕ)
    → pending_messages (with_batches flow now) h e ≡ pending_messages (with_batches flow later) h e
pending-alike flow now later h a e = ap (λ ms. messages_less ms (delivered_messages h e)) (messages-alike flow now later h a.injected e)

count-alike : (flow : Dataflow) (now later : List (List (List Rec))) (h : List Event) → AreAlikeIn flow now later h → (p : ℕ) (f : Frontier)
    → sent_count (with_batches flow now) h p f ≡ sent_count (with_batches flow later) h p f
count-alike flow now later h a p f =
    ap (count_from f) (node-alike flow now later h a.injected p)

pub phi-alike : (flow : Dataflow) (now later : List (List (List Rec))) (h : List Event) → AreAlikeIn flow now later h → (e : ℕ) (f : Frontier) (u : Stamp)
    → phi (with_batches flow now) h e f u ≡ phi (with_batches flow later) h e f u
unfolding phi
phi-alike flow now later h a e f u =
    let kind = kind_of flow (sender flow e) in
    ap (λ n. in_domain (bounds_of_domain flow (out_domain_of_kind flow kind)) u && phi_of_kind (greatest_of_kind flow kind) kind n f u)
    (count-alike flow now later h a (sender flow e) f)

-- ---- what is complete, and what may come

pub quiet-alike : (flow : Dataflow) (now later : List (List (List Rec))) (h : List Event) → AreAlikeIn flow now later h → (p : ℕ) (t : Stamp)
    → IsQuiet (with_batches flow now) h p t → IsQuiet (with_batches flow later) h p t
quiet-alike flow now later h a p t q = λ e r. sym (ap (some_at (same t)) (pending-alike flow now later h a e)) ∙ q e r

pub epochs-alike : (flow : Dataflow) (now later : List (List (List Rec))) (h : List Event) → AreAlikeIn flow now later h → (s : ℕ) (t : Stamp)
    → injected_epochs (with_batches flow now) h s t ≡ injected_epochs (with_batches flow later) h s t
epochs-alike flow now later h a s t =
    ap (λ b. in_domain (bounds_of flow s) t && (b || nat_lt (first_coordinate t) (injected_count s h))) (a.exhausted s)

pub admissible-alike : (flow : Dataflow) (now later : List (List (List Rec))) (h : List Event) → AreAlikeIn flow now later h → (done : ℕ → Frontier)
    → IsAdmissible (with_batches flow now) h done → IsAdmissible (with_batches flow later) h done
admissible-alike flow now later h a done i = record {
  frontier = i.frontier;
  quiet = λ p t k. quiet-alike flow now later h a p t (i.quiet p t k);
  paid = i.paid;
  follows = λ e t k. sym (phi-alike flow now later h a e (done (sender flow e)) t) ∙ i.follows e t k;
  source = λ s k t j. sym (epochs-alike flow now later h a s t) ∙ i.source s k t j;
}

pub complete-alike : (flow : Dataflow) (now later : List (List (List Rec))) (h : List Event) → AreAlikeIn flow now later h → (done : ℕ → Frontier)
    → IsComplete (with_batches flow now) h done → IsComplete (with_batches flow later) h done
complete-alike flow now later h a done i = record {
  admissible = admissible-alike flow now later h a done i.admissible;
  largest = λ other k. i.largest other (admissible-alike flow later now h (alike-back flow now later h a) other k);
}

pub deliverable-alike : (flow : Dataflow) (now later : List (List (List Rec))) (h : List Event) → AreAlikeIn flow now later h → (e : ℕ) (m : Message)
    → IsDeliverable (with_batches flow now) h e m → IsDeliverable (with_batches flow later) h e m
deliverable-alike flow now later h a e m i = record {
  is_pending = sym (ap (is_message_among m) (pending-alike flow now later h a e)) ∙ i.is_pending;
  numbered = i.numbered;
}

pub notifiable-alike : (flow : Dataflow) (now later : List (List (List Rec))) (h : List Event) → AreAlikeIn flow now later h → (p : ℕ) (t : Stamp)
    → IsNotifiable (with_batches flow now) h p t → IsNotifiable (with_batches flow later) h p t
notifiable-alike flow now later h a p t i =
    let c = i.complete in
    record {
      is_owed = i.is_owed;
      none_lesser = i.none_lesser;
      quiet = λ s k. quiet-alike flow now later h a p s (i.quiet s k);
      complete = (c.0, admissible-alike flow now later h a c.0 c.1, λ d r. sym (phi-alike flow now later h a d (c.0 (sender flow d)) t) ∙ c.2 d r);
    }

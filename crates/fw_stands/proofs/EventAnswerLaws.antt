-- What a node answers is what it sends.
use Rattle.std.proofs.Common.{◌≡◌, ℕ, ◌==◌, true, List, [], ◌∷◌, map, get_or, refl, sym, ap, ◌∙◌, inl, inr, slice_index_or}
use Rattle.std.proofs.lemmas.Bool.{cases_Bool, cond-false, cond-true, eqb-true}
use Rattle.fw_time.specs.Stamp.{Stamp}
use Rattle.fw_bag.specs.declared.rec.Rec.{Rec}
use Rattle.fw_flow.specs.declared.event.Event.{Event}
use Rattle.fw_flow.specs.declared.event.Event.TheVariants.{Inject, Notify}
use Rattle.fw_flow.specs.declared.event.Message.{Message}
use Rattle.fw_flow.specs.Kind.{Kind}
use Rattle.fw_flow.specs.declared.kind.Kind.TheVariants as kind
use Rattle.fw_flow.specs.Dataflow.{System, batches_of, sender, kind_of, is_input_kind, is_output_kind}
use Rattle.fw_flow.specs.NodeFunction.{event_node, messages_at, sends, sends_of_kind}
use Rattle.fw_flow.specs.Projection.{events_at}
use Rattle.fw_model.proofs.LowLaws.{input-is}
use Rattle.fw_model.specs.Carried.{carried}
use Rattle.fw_model.specs.SortedMessages.{sorted_messages}
use Rattle.fw_model.specs.LawsOfPending.{sent_on}
use Rattle.fw_node.specs.Answers.{caused_by}
use Rattle.fw_node.specs.Sends.{notice_sends}
use Rattle.fw_node.proofs.NoticeLaws.{notices_are_sends}
use Rattle.fw_stands.specs.Events.{sends_at, AreSent, at_epoch, put_on}

-- ---- what is sent

-- what an event sends on an edge is what comes to it
pub sent_on-put_on : (sys : System) (h : List Event) (v : Event) (e : ℕ) → sent_on sys h e v ≡ put_on sys.flow e v (sends_at sys h v)
sent_on-put_on sys h v e =
    let p = event_node sys.flow v in
    let q = sender sys.flow e in
    let S : ℕ → List Message = λ n. carried sys.flow e (sends sys n (events_at sys.flow n h) v) in
    elim (cases_Bool (p == q)) [
      | inl k ↦ cond-true (p == q) (S q) [] k ∙ sym (ap S (eqb-true p q k)) ∙ sym (cond-true (p == q) (S p) [] k)
      | inr k ↦ cond-false (p == q) (S q) [] k ∙ sym (cond-false (p == q) (S p) [] k)
    ]

-- ---- notifications

-- what a node answers to a notification is sent
pub notices-send : (sys : System) (h : List Event) (p : ℕ) (t : Stamp)
    → AreSent sys h (Notify p t) (caused_by t (notice_sends (kind_of sys.flow p) (events_at sys.flow p h) t))
notices-send sys h p t = sym (notices_are_sends sys p (events_at sys.flow p h) t)

-- ---- injections

-- what an input sends is its batch
batch-sent : (sys : System) (s x : ℕ) (k : Kind) (before : List Event) → k ≡ kind.Input
    → sends_of_kind sys k before (Inject s x) ≡ messages_at (x ∷ []) (x ∷ []) (get_or (batches_of sys s) x [])
batch-sent sys s x k before e = ap (λ j. sends_of_kind sys j before (Inject s x)) e

batch-sends : (sys : System) (s x : ℕ) (before : List Event) → is_input_kind (kind_of sys.flow s) ≡ true
    → sends sys s before (Inject s x) ≡ messages_at (x ∷ []) (x ∷ []) (get_or (batches_of sys s) x [])
unfolding sends
batch-sends sys s x before k = batch-sent sys s x (kind_of sys.flow s) before (input-is (kind_of sys.flow s) k)

one_cause-at : (t : Stamp) (rs : List Rec) → caused_by t (map (λ (r : Rec). (t, r)) rs) ≡ messages_at t t rs
one_cause-at t [] = refl
one_cause-at t (r ∷ rs) = ap (λ (ms : List Message). record { at = t; rec = r; causes = t ∷ [] } ∷ ms) (one_cause-at t rs)

-- the batch that an input injects is sent
pub injections-send : (sys : System) (h : List Event) (s x : ℕ) → is_input_kind (kind_of sys.flow s) ≡ true
    → AreSent sys h (Inject s x) (at_epoch x (slice_index_or (batches_of sys s) x []))
injections-send sys h s x k =
    let rs = get_or (batches_of sys s) x [] in
    ap sorted_messages (one_cause-at (x ∷ []) rs ∙ sym (batch-sends sys s x (events_at sys.flow s h) k))

-- ---- outputs

output-none : (sys : System) (k : Kind) (before : List Event) (v : Event) → is_output_kind k ≡ true → sends_of_kind sys k before v ≡ []
output-none sys kind.OutputEpoch before v o = refl
output-none sys kind.OutputNumber before v o = refl
output-none sys k before v o = absurd (cc)

output-sends : (sys : System) (p : ℕ) (before : List Event) (v : Event) → is_output_kind (kind_of sys.flow p) ≡ true → sends sys p before v ≡ []
unfolding sends
output-sends sys p before v o = output-none sys (kind_of sys.flow p) before v o

-- an output sends nothing
pub outputs-send_nothing : (sys : System) (h : List Event) (v : Event) → is_output_kind (kind_of sys.flow (event_node sys.flow v)) ≡ true
    → AreSent sys h v []
outputs-send_nothing sys h v o =
    ap sorted_messages (sym (output-sends sys (event_node sys.flow v) (events_at sys.flow (event_node sys.flow v) h) v o))

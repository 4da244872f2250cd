-- What is queued after a recovery.
use Rattle.std.proofs.Common.{◌≡◌, ℕ, ◌<◌, Bool, true, not, List, [], length, sym, ap, ◌∙◌, inl, inr}
use Rattle.std.proofs.lemmas.Bool.{cases_Bool, cond-false}
use Rattle.fw_lemmas.proofs.Each.{each-kept}
use Rattle.fw_time.specs.Stamp.{in_domain}
use Rattle.fw_frontier.specs.Front.{Front, inside}
use Rattle.fw_flow.specs.declared.choice.Choice.{Choice}
use Rattle.fw_flow.specs.declared.choice.Cut.TheVariants.{At, Present}
use Rattle.fw_flow.specs.declared.event.Message.{Message}
use Rattle.fw_flow.specs.Dataflow.{System, policy_of, sender, receiver, bounds_of}
use Rattle.fw_flow.specs.Projection.{all_inside}
use Rattle.fw_flow.specs.Restoring.{can_resend}
use Rattle.fw_flow.proofs.MessageLaws.{less-each}
use Rattle.fw_model.specs.Choice.{cut_of, kept_of}
use Rattle.fw_model.specs.Covers.{set_of}
use Rattle.fw_model.specs.Filtering.{messages_from, messages_outside}
use Rattle.fw_model.specs.History.{sent_messages, delivered_messages, pending_messages}
use Rattle.fw_model.specs.Machine.{Machine, events, is_failed}
use Rattle.fw_model.specs.Resending.{at_receiver, messages_to_resend, logged_messages}
use Rattle.fw_model.specs.Settled.{IsCutWithinSettled}
use Rattle.fw_model.specs.SortedMessages.{sorted_messages}
use Rattle.fw_model.specs.Steps.{recovered_state, front_of_cut}
use Rattle.fw_model.proofs.PendingKeptLaws.{pending-present, pending-cut, pending-without_log}
use Rattle.fw_model.proofs.RestoringLaws.{logs-hold}
use Rattle.fw_model.proofs.SortedLaws.{sorted_messages-filter, sorted_messages-twice}
use Rattle.fw_stands.specs.Recovered.{Recovers}
use Rattle.fw_stands.specs.Parts.{queued, logged}
use Rattle.fw_stands.proofs.RecoveredLogs.{logged-none, logged-now}
use Rattle.fw_stands.proofs.RecoveredFacts.{knows, no_input-receives, cut_within-settled, none_failed, present_lives, IsCausedIn, edge-caused, legal-at, from-cut, outside-cut}

-- what is queued after a recovery is what is pending
pub queued-now : (sys : System) (state : Machine) (choice : Choice) (settled : List Front) (e : ℕ)
    → queued sys (recovered_state sys state choice settled) e ≡ sorted_messages (pending_messages sys (events (recovered_state sys state choice settled).history) e)
queued-now sys state choice settled e =
    let next = recovered_state sys state choice settled in
    cond-false (is_failed next (receiver sys.flow e)) [] (sorted_messages (pending_messages sys (events next.history) e))
    (none_failed sys state choice settled (receiver sys.flow e))

-- ---- a receiver that stays as it is

-- after a recovery what is queued for a receiver that stays as it is is of what was queued what comes from inside the sender's cut
pub queues-present : (sys : System) (state : Machine) (choice : Choice) (settled : List Front) → Recovers sys state choice settled
    → (e : ℕ) → e < length sys.flow.edges → cut_of choice (receiver sys.flow e) ≡ Present
    → queued sys (recovered_state sys state choice settled) e
    ≡ messages_from (inside (front_of_cut (cut_of choice (sender sys.flow e)))) (queued sys state e)
queues-present sys state choice settled r e l is =
    let w = r.well_formed.flow in
    let k = knows sys state choice settled r in
    let h = events state.history in
    let q = receiver sys.flow e in
    let p = sender sys.flow e in
    let f = kept_of sys.flow choice p in
    let g = inside (front_of_cut (cut_of choice p)) in
    let pending = pending_messages sys h e in
    let caused = less-each (IsCausedIn sys.flow p) (sent_messages sys h e) (delivered_messages h e) (edge-caused sys h w k.epochs k.legal e) in
    queued-now sys state choice settled e
    ∙ ap sorted_messages (pending-present sys state choice w k.epochs k.legal k.meets e is ∙ from-cut sys choice p pending caused)
    ∙ sorted_messages-filter (λ (m : Message). all_inside g m.causes) pending
    ∙ ap (messages_from g) (sym (cond-false (is_failed state q) [] (sorted_messages pending) (present_lives sys state choice settled r q (w.receivers_declared e l) is)))

-- ---- a receiver that is cut

within-settled : (sys : System) (state : Machine) (choice : Choice) (settled : List Front) → Recovers sys state choice settled
    → (e : ℕ) → e < length sys.flow.edges → (g : Front) → cut_of choice (receiver sys.flow e) ≡ At g → IsCutWithinSettled sys state choice (receiver sys.flow e)
within-settled sys state choice settled r e l g is t i =
    let q = receiver sys.flow e in
    let w = r.well_formed.flow in
    cut_within-settled sys state choice settled r q (w.receivers_declared e l) (no_input-receives sys.flow w e l) g is t
    (sym (ap (λ c. set_of sys.flow q c t) is) ∙ i)

-- what a log holds outside the cut of the receiver
logged-outside : (sys : System) (state : Machine) (choice : Choice) (settled : List Front) → Recovers sys state choice settled
    → (e : ℕ) → e < length sys.flow.edges → (g : Front) → cut_of choice (receiver sys.flow e) ≡ At g → can_resend (policy_of sys.flow (sender sys.flow e)) ≡ true
    → sorted_messages (messages_outside (inside g) (logged sys (recovered_state sys state choice settled) e)) ≡ sorted_messages (messages_to_resend sys state choice e)
logged-outside sys state choice settled r e l g is can =
    let w = r.well_formed.flow in
    let k = knows sys state choice settled r in
    let q = receiver sys.flow e in
    let f = kept_of sys.flow choice (sender sys.flow e) in
    let log = logged_messages sys state state.low e f in
    let outside : Message → Bool = λ m. not (inside g m.at) in
    let sent = sent_messages sys (events state.history) e in
    let P : Message → Type 0 = λ m. in_domain (bounds_of sys.flow q) m.at ≡ true in
    let at = each-kept P (λ m. not (at_receiver sys state.low e m.at)) (messages_from f sent)
    (each-kept P (λ m. all_inside f m.causes) sent (legal-at sys (events state.history) w k.epochs k.legal e)) in
    let held = logs-hold sys r.well_formed r.reached.0 r.reached.1 state r.reached.2 (is_failed state) choice r.largest e l in
    ap (λ ms. sorted_messages (messages_outside (inside g) ms)) (logged-now sys state choice settled r e can)
    ∙ ap sorted_messages (sym (sorted_messages-filter outside log))
    ∙ sorted_messages-twice (messages_outside (inside g) log)
    ∙ ap sorted_messages (ap (λ c. messages_outside (inside (front_of_cut c)) log) (sym is) ∙ sym (outside-cut sys choice q log at) ∙ held.logged)

-- what is queued for a receiver that is cut is what the edge's log holds outside the cut, and nothing where there is no log
pub queues-cut : (sys : System) (state : Machine) (choice : Choice) (settled : List Front) → Recovers sys state choice settled
    → (e : ℕ) → e < length sys.flow.edges → (g : Front) → cut_of choice (receiver sys.flow e) ≡ At g
    → queued sys (recovered_state sys state choice settled) e
    ≡ sorted_messages (messages_outside (inside g) (logged sys (recovered_state sys state choice settled) e))
queues-cut sys state choice settled r e l g is =
    let w = r.well_formed.flow in
    let k = knows sys state choice settled r in
    let next = recovered_state sys state choice settled in
    let within = within-settled sys state choice settled r e l g is in
    queued-now sys state choice settled e
    ∙ elim (cases_Bool (can_resend (policy_of sys.flow (sender sys.flow e)))) [
      | inl can ↦
          ap sorted_messages (pending-cut sys state choice w k.epochs k.legal k.full k.meets e within)
          ∙ sym (logged-outside sys state choice settled r e l g is can)
      | inr cannot ↦
          ap sorted_messages (pending-without_log sys state choice w k.epochs k.legal k.full k.meets e within (r.largest.consistent.discarded e l) cannot)
          ∙ sym (ap (λ ms. sorted_messages (messages_outside (inside g) ms)) (logged-none sys next e cannot))
    ]

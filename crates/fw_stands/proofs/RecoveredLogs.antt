-- What logs hold after a recovery.
use Rattle.std.proofs.Common.{◌≡◌, ◌≢◌, ℕ, Bool, true, false, not, List, [], ◌∷◌, ◌++◌, refl, sym, ap, subst, ◌∙◌, inl, inr, ◌<◌, length}
use Rattle.std.proofs.lemmas.Bool.{cases_Bool, cond-false, cond-true, and_from, and_left, false_from_ne_true}
use Rattle.std.specs.List.{AllByRecursion}
use Rattle.fw_lemmas.proofs.Bools.{two_ways}
use Rattle.fw_lemmas.proofs.Each.{each-weaker, each-one, each-kept, all-of_each}
use Rattle.fw_lemmas.proofs.Filters.{filter-all, filter-none, filter-inner}
use Rattle.fw_time.specs.Stamp.{in_domain}
use Rattle.fw_frontier.specs.Frontier.{Frontier, Within, nothing}
use Rattle.fw_frontier.specs.Front.{Front, inside}
use Rattle.fw_frontier.proofs.NamesLaws.{frontier-closed}
use Rattle.fw_flow.specs.declared.choice.Choice.{Choice}
use Rattle.fw_flow.specs.declared.choice.Cut.TheVariants.{Present, At}
use Rattle.fw_flow.specs.declared.event.Event.{Event}
use Rattle.fw_flow.specs.declared.event.Message.{Message}
use Rattle.fw_flow.specs.Kind.{Kind}
use Rattle.fw_flow.specs.declared.kind.Kind.TheVariants.{Input, OutputEpoch, OutputNumber}
use Rattle.fw_flow.specs.declared.kind.Policy.{Policy}
use Rattle.fw_flow.specs.declared.kind.Policy.TheVariants as policy
use Rattle.fw_flow.specs.Dataflow.{System, Dataflow, kind_of, policy_of, sender, receiver, bounds_of, node_frontier}
use Rattle.fw_flow.specs.NodeFunction.{event_stamp, sent_by}
use Rattle.fw_flow.specs.Projection.{events_at, all_inside}
use Rattle.fw_flow.specs.declared.restoring.Restoring.TheVariants.{Checkpoints, Events}
use Rattle.fw_flow.specs.Restoring.{can_resend, restoring, way_of}
use Rattle.fw_flow.specs.WellFormed.{IsPolicyAllowed, may_keep_nothing, IsWellFormed}
use Rattle.fw_model.specs.Carried.{carried}
use Rattle.fw_model.specs.Choice.{cut_of, kept_of}
use Rattle.fw_model.specs.Covers.{set_of}
use Rattle.fw_model.specs.Filtering.{events_inside, messages_from, messages_outside}
use Rattle.fw_model.specs.History.{sent_messages}
use Rattle.fw_model.specs.LawsOfReplay.{not_given_up, replayed_events}
use Rattle.fw_model.specs.Machine.{Machine, events, family_of, front_of, is_failed, no_stamps}
use Rattle.fw_model.specs.Resending.{at_receiver, logged_messages}
use Rattle.fw_model.specs.SortedMessages.{sorted_messages}
use Rattle.fw_model.specs.Steps.{recovered_state}
use Rattle.fw_model.proofs.CarriedLaws.{carried-from, carried-none}
use Rattle.fw_model.proofs.CauseLaws.{outside-sent}
use Rattle.fw_model.proofs.LowLaws.{none-within}
use Rattle.fw_model.proofs.ReplayLaws.{replayed-send, replayed-those}
use Rattle.fw_model.proofs.SendPartLaws.{part-sends, passing-send}
use Rattle.fw_stands.specs.Recovered.{Recovers}
use Rattle.fw_stands.specs.Parts.{is_logging, logged}
use Rattle.fw_stands.proofs.RecoveredFacts.{knows, none_failed, present_lives, IsCausedIn, edge-caused, legal-at, sent-now, outside-front, none_given-up}

-- ---- after any recovery

-- the log of a sender that is not failed and can send again
pub logged-live : (sys : System) (state : Machine) (e : ℕ) → can_resend (policy_of sys.flow (sender sys.flow e)) ≡ true → is_failed state (sender sys.flow e) ≡ false
    → logged sys state e ≡ sorted_messages (messages_outside (family_of sys.flow state.low (receiver sys.flow e)) (sent_messages sys (events state.history) e))
logged-live sys state e can live =
    cond-true (is_logging sys state e) (sorted_messages (messages_outside (family_of sys.flow state.low (receiver sys.flow e)) (sent_messages sys (events state.history) e))) []
    (and_from (can_resend (policy_of sys.flow (sender sys.flow e))) (not (is_failed state (sender sys.flow e))) can (ap not live))

-- the log of a sender that cannot send again is empty
pub logged-none : (sys : System) (state : Machine) (e : ℕ) → can_resend (policy_of sys.flow (sender sys.flow e)) ≡ false → logged sys state e ≡ []
logged-none sys state e cannot =
    cond-false (is_logging sys state e) (sorted_messages (messages_outside (family_of sys.flow state.low (receiver sys.flow e)) (sent_messages sys (events state.history) e))) []
    (and_left (can_resend (policy_of sys.flow (sender sys.flow e))) (not (is_failed state (sender sys.flow e))) cannot)

-- after a recovery the log has what comes from what the sender keeps
pub logged-now : (sys : System) (state : Machine) (choice : Choice) (settled : List Front) → Recovers sys state choice settled
    → (e : ℕ) → can_resend (policy_of sys.flow (sender sys.flow e)) ≡ true
    → logged sys (recovered_state sys state choice settled) e ≡ sorted_messages (logged_messages sys state state.low e (kept_of sys.flow choice (sender sys.flow e)))
logged-now sys state choice settled r e can =
    logged-live sys (recovered_state sys state choice settled) e can (none_failed sys state choice settled (sender sys.flow e))
    ∙ ap (λ ms. sorted_messages (messages_outside (family_of sys.flow state.low (receiver sys.flow e)) ms)) (sent-now sys state choice settled r e)

-- ---- a sender that stays as it is

-- what has causes of the domain is all from what a node keeps that stays as it is
present-keeps : (flow : Dataflow) (choice : Choice) (p : ℕ) → cut_of choice p ≡ Present → (ms : List Message) → AllByRecursion (IsCausedIn flow p) ms
    → messages_from (kept_of flow choice p) ms ≡ ms
present-keeps flow choice p is ms a =
    filter-all (λ (m : Message). all_inside (kept_of flow choice p) m.causes) ms
    (each-weaker (IsCausedIn flow p) (λ m. all_inside (kept_of flow choice p) m.causes ≡ true) ms
    (λ m c. all-of_each (kept_of flow choice p) m.causes
    (each-weaker (λ t. in_domain (bounds_of flow p) t ≡ true) (λ t. kept_of flow choice p t ≡ true) m.causes (λ t d. ap (λ x. set_of flow p x t) is ∙ d) c)) a)

-- the log of a sender that stays as it is stays
pub logs-present : (sys : System) (state : Machine) (choice : Choice) (settled : List Front) → Recovers sys state choice settled
    → (e : ℕ) → e < length sys.flow.edges → cut_of choice (sender sys.flow e) ≡ Present
    → logged sys (recovered_state sys state choice settled) e ≡ logged sys state e
logs-present sys state choice settled r e l is =
    let w = r.well_formed.flow in
    let k = knows sys state choice settled r in
    let p = sender sys.flow e in
    let sent = sent_messages sys (events state.history) e in
    elim (cases_Bool (can_resend (policy_of sys.flow p))) [
      | inr cannot ↦ logged-none sys (recovered_state sys state choice settled) e cannot ∙ sym (logged-none sys state e cannot)
      | inl can ↦
          logged-now sys state choice settled r e can
          ∙ ap (λ ms. sorted_messages (messages_outside (family_of sys.flow state.low (receiver sys.flow e)) ms))
          (present-keeps sys.flow choice p is sent (edge-caused sys (events state.history) w k.epochs k.legal e))
          ∙ sym (logged-live sys state e can (present_lives sys state choice settled r p (w.senders_declared e l) is))
    ]

-- ---- a sender that is cut

-- its log has what comes from inside the cut
pub logged-cut : (sys : System) (state : Machine) (choice : Choice) (settled : List Front) → Recovers sys state choice settled
    → (e : ℕ) → can_resend (policy_of sys.flow (sender sys.flow e)) ≡ true → (f : Front) → cut_of choice (sender sys.flow e) ≡ At f
    → logged sys (recovered_state sys state choice settled) e ≡ sorted_messages (logged_messages sys state state.low e (node_frontier sys.flow (sender sys.flow e) f))
logged-cut sys state choice settled r e can f is =
    logged-now sys state choice settled r e can
    ∙ ap (λ c. sorted_messages (logged_messages sys state state.low e (set_of sys.flow (sender sys.flow e) c))) is

-- what has a cause does not come from inside no stamps
none-from : (sys : System) (p : ℕ) (vs : List Event) → messages_from (node_frontier sys.flow p (no_stamps (bounds_of sys.flow p))) (sent_by sys p vs) ≡ []
none-from sys p vs =
    let b = bounds_of sys.flow p in
    let f = node_frontier sys.flow p (no_stamps b) in
    filter-none (λ (m : Message). all_inside f m.causes) (sent_by sys p vs)
    (outside-sent sys p f vs
    (each-one (λ v. f (event_stamp v) ≡ false) vs (λ v. false_from_ne_true (f (event_stamp v)) (λ i. two_ways false (none-within b nothing (event_stamp v) i) refl))))

-- the log of a sender that is cut to no stamps is empty
pub logs-of_nothing : (sys : System) (state : Machine) (choice : Choice) (settled : List Front) → Recovers sys state choice settled
    → (e : ℕ) → e < length sys.flow.edges → cut_of choice (sender sys.flow e) ≡ At (no_stamps (bounds_of sys.flow (sender sys.flow e)))
    → logged sys (recovered_state sys state choice settled) e ≡ []
logs-of_nothing sys state choice settled r e l is =
    let p = sender sys.flow e in
    elim (cases_Bool (can_resend (policy_of sys.flow p))) [
      | inr cannot ↦ logged-none sys (recovered_state sys state choice settled) e cannot
      | inl can ↦
          logged-cut sys state choice settled r e can (no_stamps (bounds_of sys.flow p)) is
          ∙ ap (λ ms. sorted_messages (messages_outside (at_receiver sys state.low e) ms))
          (carried-from sys.flow e (node_frontier sys.flow p (no_stamps (bounds_of sys.flow p))) (sent_by sys p (events_at sys.flow p (events state.history)))
          ∙ ap (carried sys.flow e) (none-from sys p (events_at sys.flow p (events state.history))) ∙ carried-none sys.flow e)
    ]

-- ---- two watermarks

-- what lies outside two frontiers, of which the first lies within the second
pub outside-both : (f g : Frontier) → Within f g → (ms : List Message) → messages_outside g (messages_outside f ms) ≡ messages_outside g ms
outside-both f g w ms =
    filter-inner (λ (m : Message). not (g m.at)) (λ m. not (f m.at)) ms
    (each-one (λ (m : Message). not (g m.at) ≡ true → not (f m.at) ≡ true) ms (λ m k. by (f m.at) (g m.at) (w m.at) k))
  where
    by : (a b : Bool) → (a ≡ true → b ≡ true) → not b ≡ true → not a ≡ true
    by true b h k = absurd (two_ways (not b) k (ap not (h refl)))
    by false b h k = refl

-- ---- from logged events

full-resends : (p : Policy) → p ≡ policy.Full → can_resend p ≡ true
full-resends p is = ap can_resend is

-- what an edge carries of what the logged events that are left send is at stamps of the receiver
replayed-at : (sys : System) (state : Machine) (choice : Choice) (settled : List Front) → Recovers sys state choice settled
    → (e : ℕ) → policy_of sys.flow (sender sys.flow e) ≡ policy.Full → (f : Front) → cut_of choice (sender sys.flow e) ≡ At f
    → AllByRecursion (λ (m : Message). in_domain (bounds_of sys.flow (receiver sys.flow e)) m.at ≡ true)
    (carried sys.flow e (sent_by sys (sender sys.flow e) (replayed_events sys state (sender sys.flow e) (node_frontier sys.flow (sender sys.flow e) f))))
replayed-at sys state choice settled r e full f is =
    let w = r.well_formed.flow in
    let k = knows sys state choice settled r in
    let p = sender sys.flow e in
    let h = events state.history in
    let b = node_frontier sys.flow p f in
    let g = not_given_up sys state.low p in
    let vs = events_at sys.flow p h in
    let P : Message → Type 0 = λ m. in_domain (bounds_of sys.flow (receiver sys.flow e)) m.at ≡ true in
    let sent : AllByRecursion P (carried sys.flow e (sent_by sys p vs)) = legal-at sys h w k.epochs k.legal e in
    let inside_cut : sent_by sys p (events_inside b vs) ≡ messages_from b (sent_by sys p vs) = part-sends sys h w k.epochs k.legal p b (frontier-closed (bounds_of sys.flow p) f) in
    let cut_sent : AllByRecursion P (carried sys.flow e (sent_by sys p (events_inside b vs))) =
    subst (AllByRecursion P) (carried-from sys.flow e b (sent_by sys p vs) ∙ ap (carried sys.flow e) (sym inside_cut))
    (each-kept P (λ m. all_inside b m.causes) (carried sys.flow e (sent_by sys p vs)) sent) in
    subst (λ us. AllByRecursion P (carried sys.flow e (sent_by sys p us)))
    (sym (replayed-those sys r.well_formed r.reached.0 r.reached.1 state r.reached.2 (is_failed state) choice r.largest p f full is))
    (elim (cases_Bool (may_keep_nothing (kind_of sys.flow p))) [
      | inl may ↦
          subst (AllByRecursion P) (carried-from sys.flow e g (sent_by sys p (events_inside b vs)) ∙ ap (carried sys.flow e) (sym (passing-send sys p may g (events_inside b vs))))
          (each-kept P (λ m. all_inside g m.causes) (carried sys.flow e (sent_by sys p (events_inside b vs))) cut_sent)
      | inr must ↦ subst (λ us. AllByRecursion P (carried sys.flow e (sent_by sys p us))) (sym (none_given-up sys state.low p must (events_inside b vs))) cut_sent
    ])

-- the log of a sender that logs its events and is cut is what the edge carries of what the logged events that are left send inside the
-- cut, but for what lies inside the low watermark of the receiver
pub logs-from_replay : (sys : System) (state : Machine) (choice : Choice) (settled : List Front) → Recovers sys state choice settled
    → (e : ℕ) → e < length sys.flow.edges → policy_of sys.flow (sender sys.flow e) ≡ policy.Full
    → (f : Front) → cut_of choice (sender sys.flow e) ≡ At f
    → logged sys (recovered_state sys state choice settled) e
    ≡ sorted_messages (messages_outside (inside (front_of state.low (receiver sys.flow e)))
    (carried sys.flow e (sent_by sys (sender sys.flow e) (replayed_events sys state (sender sys.flow e) (node_frontier sys.flow (sender sys.flow e) f)))))
logs-from_replay sys state choice settled r e l full f is =
    let p = sender sys.flow e in
    let q = receiver sys.flow e in
    let b = node_frontier sys.flow p f in
    logged-cut sys state choice settled r e (full-resends (policy_of sys.flow p) full) f is
    ∙ ap sorted_messages
    (sym (replayed-send sys r.well_formed r.reached.0 r.reached.1 state r.reached.2 (is_failed state) choice r.largest p f full is e l refl)
    ∙ outside-front sys.flow q (front_of state.low q) (carried sys.flow e (sent_by sys p (replayed_events sys state p b))) (replayed-at sys state choice settled r e full f is))

-- ---- which nodes can send again

cannot-resend : (kind : Kind) (p : Policy) → IsPolicyAllowed kind p → restoring kind p ≢ Checkpoints → restoring kind p ≢ Events → can_resend p ≡ false
cannot-resend Input p a n m = ap can_resend a
cannot-resend OutputEpoch p a n m = ap can_resend a
cannot-resend OutputNumber p a n m = ap can_resend a
cannot-resend kind policy.None a n m = refl
cannot-resend kind policy.Lazy a n m = refl
cannot-resend kind policy.Logged a n m = absurd (n refl)
cannot-resend kind policy.Eager a n m = absurd (n refl)
cannot-resend kind policy.Full a n m = absurd (m refl)

-- a node that is restored neither by checkpoints nor by its events cannot send again
pub others-have_no_log : (flow : Dataflow) → IsWellFormed flow → (p : ℕ) → p < length flow.nodes → way_of flow p ≢ Checkpoints → way_of flow p ≢ Events
    → can_resend (policy_of flow p) ≡ false
others-have_no_log flow w p l n m = cannot-resend (kind_of flow p) (policy_of flow p) (w.policies p l) n m

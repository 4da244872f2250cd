-- Nothing comes inside what is settled, nor inside the low watermark.
use Rattle.std.proofs.Common.{◌≡◌, ℕ, ◌<◌, Bool, true, false, not, ◌&&◌, List, [], ◌∷◌, ◌++◌, length, refl, sym, ap, ◌∙◌, inl, inr}
use Rattle.std.proofs.lemmas.Bool.{and_parts, cases_lt}
use Rattle.std.proofs.lemmas.List.{get_or_past}
use Rattle.fw_lemmas.proofs.Bools.{two_ways}
use Rattle.fw_flow.specs.declared.event.Event.{Event}
use Rattle.fw_flow.specs.declared.event.Event.TheVariants.{Inject, Deliver, Notify}
use Rattle.fw_flow.specs.declared.event.Message.{Message}
use Rattle.fw_flow.specs.Kind.{Kind}
use Rattle.fw_flow.specs.declared.kind.Kind.TheVariants.{OutputEpoch}
use Rattle.fw_flow.specs.declared.node.Node.{Node}
use Rattle.fw_flow.specs.Dataflow.{System, Dataflow, idle_node, kind_of, sender, is_input_kind, is_notified_kind}
use Rattle.fw_flow.specs.NodeFunction.{event_node, sends, sends_of_kind, sent_by}
use Rattle.fw_flow.specs.Projection.{events_at}
use Rattle.fw_flow.specs.WellFormed.{IsWellFormed}
use Rattle.fw_flow.specs.Message.{is_message_among, messages_without, messages_less}
use Rattle.fw_model.specs.Carried.{carried}
use Rattle.fw_model.specs.History.{delivered_messages, pending_messages, was_delivered_to, was_notified, IsEnabled}
use Rattle.fw_model.proofs.CarriedLaws.{carried-none}
use Rattle.fw_model.proofs.CompleteLaws.{past_edges-idle}
use Rattle.fw_model.proofs.LowLaws.{settled-outside, event-outside}
use Rattle.fw_model.proofs.RestoringLaws.{full-reached}
use Rattle.fw_model.proofs.AskedLaws.{reached-all}
use Rattle.fw_model.specs.LawsOfSettled.{NothingComesInsideSettled}

-- ---- the place of an enabled event is declared

-- a place whose kind is not the one of an idle node is declared
pub kind-declared : (flow : Dataflow) (p : ℕ) (test : Kind → Bool) → test (kind_of flow p) ≡ true → test idle_node.kind ≡ false → p < length flow.nodes
unfolding kind_of
kind-declared flow p test k n = elim (cases_lt p (length flow.nodes)) [
  | inl l ↦ l
  | inr past ↦ absurd (two_ways (test idle_node.kind) (sym (ap (λ (x : Node). test x.kind) (get_or_past flow.nodes p idle_node past)) ∙ k) n)
]

-- a node that is idle sends nothing
pub idle-sent : (sys : System) (q : ℕ) → kind_of sys.flow q ≡ OutputEpoch → (vs : List Event) → sent_by sys q vs ≡ []
unfolding sends
idle-sent sys q is [] = refl
idle-sent sys q is (v ∷ vs) = ap (λ k. sends_of_kind sys k vs v ++ sent_by sys q vs) is ∙ idle-sent sys q is vs

less-none : (ds : List Message) → messages_less [] ds ≡ []
less-none [] = refl
less-none (d ∷ ds) = ap (messages_without d) (less-none ds)

-- an edge on which something is pending is declared
pending-declared : (sys : System) (h : List Event) (e : ℕ) (m : Message) → is_message_among m (pending_messages sys h e) ≡ true → e < length sys.flow.edges
pending-declared sys h e m k = elim (cases_lt e (length sys.flow.edges)) [
  | inl l ↦ l
  | inr past ↦
      let q = sender sys.flow e in
      let none : pending_messages sys h e ≡ [] =
      ap (λ ms. messages_less (carried sys.flow e ms) (delivered_messages h e)) (idle-sent sys q (past_edges-idle sys.flow e past) (events_at sys.flow q h))
      ∙ ap (λ ms. messages_less ms (delivered_messages h e)) (carried-none sys.flow e) ∙ less-none (delivered_messages h e) in
      absurd (two_ways (is_message_among m (pending_messages sys h e)) k (ap (is_message_among m) none))
]

enabled-declared : (sys : System) → IsWellFormed sys.flow → (h : List Event) (v : Event) → IsEnabled sys h v → event_node sys.flow v < length sys.flow.nodes
enabled-declared sys w h (Inject s x) k = kind-declared sys.flow s is_input_kind k.input refl
enabled-declared sys w h (Deliver e m) k = w.receivers_declared e (pending-declared sys h e m k.is_pending)
enabled-declared sys w h (Notify q t) k =
    let owing = and_parts (is_notified_kind (kind_of sys.flow q) && was_delivered_to sys.flow q t h) (not (was_notified q t h)) k.is_owed in
    kind-declared sys.flow q is_notified_kind (and_parts (is_notified_kind (kind_of sys.flow q)) (was_delivered_to sys.flow q t h) owing.0).0 refl

-- ---- the law

pub settled-nothing_inside : NothingComesInsideSettled
settled-nothing_inside sys w steps outcomes last r v k =
    let f = reached-all sys w steps outcomes last r in
    let full = full-reached sys last w f in
    let p = event_node sys.flow v in
    record {
      low = event-outside sys last f.recover.notices v w.flow full f.recover.lie_settled f.recover.watermark k p (enabled-declared sys w.flow _ v k) refl;
      settled = λ n. settled-outside sys last v full k p (λ e. two_ways (is_input_kind (kind_of sys.flow p)) (ap is_input_kind e) n) refl;
    }

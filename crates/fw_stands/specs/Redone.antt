-- Which events a node can do once more, one after the other, from nothing, and how entries tell them.
use Rattle.std.specs.Prelude.{◌≡◌, ℕ, Bool, true, false, ◌&&◌, ◌==◌, List, [], ◌∷◌}
use Rattle.fw_frontier.specs.Frontier.{Frontier}
use Rattle.fw_flow.specs.declared.event.Event.{Event}
use Rattle.fw_flow.specs.declared.event.Event.TheVariants.{Inject, Deliver, Notify}
use Rattle.fw_flow.specs.declared.kind.Kind.TheVariants.{Total}
use Rattle.fw_flow.specs.Dataflow.{Dataflow, kind_of, in_edges, is_notified_kind, is_one_of}
use Rattle.fw_model.specs.Told.{is_told, IsSumOfTold}
use Rattle.fw_record.specs.declared.record.Event.{Event as Told}
use Rattle.fw_keep.specs.declared.entry.Entry.{Entry}
use Rattle.fw_keep.specs.declared.entry.Written.{Written}
use Rattle.fw_keep.specs.declared.entry.Written.TheVariants as written
use Rattle.fw_record.specs.Event.{stamp_of_event}

-- Each of these events, the latest first, can be done by node p after those before it: a delivery is on one of its in-edges,
-- nothing comes to a node at a stamp of which it was notified, it is notified of none twice, and of a total what came up to an
-- epoch came at it or at one of which it was notified.
abbrev pub CanBeRedone : Dataflow → ℕ → List Event → Type 0
CanBeRedone flow p [] = Unit {0}
CanBeRedone flow p (Inject s x ∷ before) = ⊥
CanBeRedone flow p (Deliver e m ∷ before) =
    (is_one_of e (in_edges flow p) ≡ true) × (is_notified_kind (kind_of flow p) ≡ true → is_told before m.at ≡ false) × CanBeRedone flow p before
CanBeRedone flow p (Notify q t ∷ before) =
    (q ≡ p) × (is_told before t ≡ false) × (kind_of flow p ≡ Total → IsSumOfTold (λ s. false) before t) × CanBeRedone flow p before

-- the event that is written, if one is
abbrev pub event_in : Written → List Told
event_in (written.Checkpoint recorded stamps sent) = []
event_in (written.Event event) = event ∷ []

-- whether an event is written, and is at a stamp inside
abbrev pub is_event_inside : Frontier → Written → Bool
is_event_inside f (written.Checkpoint recorded stamps sent) = false
is_event_inside f (written.Event event) = f (stamp_of_event event)

-- whether the entry is an acknowledged one of an event of node p inside f
abbrev pub is_logged_inside : ℕ → Frontier → Entry → Bool
is_logged_inside p f e = (e.node == p) && (e.acknowledged && is_event_inside f e.written)

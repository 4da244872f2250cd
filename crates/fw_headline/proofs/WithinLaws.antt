-- Whether what an inclusion asks for holds at a choice is decided, in a state of the machine; and whether cuts and choices lie within
-- others.
use Rattle.std.proofs.Common.{ℕ, length, inl, inr}
use Rattle.fw_frontier.specs.Frontier.{Frontier, Within}
use Rattle.fw_frontier.specs.Front.{frontier_of}
use Rattle.fw_flow.specs.declared.choice.Choice.{Choice}
use Rattle.fw_flow.specs.declared.choice.Cut.{Cut}
use Rattle.fw_flow.specs.declared.choice.Cut.TheVariants.{Present, At}
use Rattle.fw_flow.specs.declared.side.Side.{Side}
use Rattle.fw_flow.specs.declared.side.Side.TheVariants.{Delivered, Discarded, Notified}
use Rattle.fw_flow.specs.declared.side.Inclusion.{Inclusion}
use Rattle.fw_flow.specs.declared.side.Inclusion.TheVariants.{OfCut, OfNote}
use Rattle.fw_flow.specs.Dataflow.{System, bounds_of}
use Rattle.fw_model.proofs.ConsistentLaws.{within-front, delivered-decided, discarded-decided, notified-decided}
use Rattle.fw_model.proofs.Decisions.{Decided, decided-places}
use Rattle.fw_model.specs.Choice.{cut_of, notice_of, IsCutWithin, IsChoiceWithin}
use Rattle.fw_model.specs.Covers.{covers_in}
use Rattle.fw_model.specs.Inclusions.{note_node, owner, left_of, right_of, limit_of, Holds}
use Rattle.fw_model.specs.Machine.{Machine, front_of}

pub left-decided : (sys : System) (state : Machine) (side : Side) (cut : Cut) (g : Frontier) → Decided (Within (left_of (covers_in sys state) side cut) g)
left-decided sys state (Delivered d) cut g = delivered-decided sys state d cut g
left-decided sys state (Discarded e) cut g = discarded-decided sys state e cut g
left-decided sys state (Notified p) cut g = notified-decided sys state p cut g

pub holds-decided : (sys : System) (state : Machine) (choice : Choice) (i : Inclusion) → Decided (Holds sys.flow (covers_in sys state) choice i)
holds-decided sys state choice (OfCut side) =
    left-decided sys state side (cut_of choice (owner sys.flow side)) (right_of sys.flow (covers_in sys state) side choice)
holds-decided sys state choice (OfNote limit) =
    let p = note_node sys.flow limit in
    within-front (bounds_of sys.flow p) (front_of choice.notices p) (limit_of sys.flow (covers_in sys state) limit choice)

-- ---- cuts and choices

pub cut_within-decided : (sys : System) (p : ℕ) (x y : Cut) → Decided (IsCutWithin sys.flow p x y)
cut_within-decided sys p x Present = inl tt
cut_within-decided sys p Present (At g) = inr (λ k. k)
cut_within-decided sys p (At f) (At g) = within-front (bounds_of sys.flow p) f (frontier_of (bounds_of sys.flow p) g)

pub choice_within-decided : (sys : System) (one other : Choice) → Decided (IsChoiceWithin sys.flow one other)
choice_within-decided sys one other =
    let n = length sys.flow.nodes in
    let Cuts : ℕ → Type 0 = λ p. IsCutWithin sys.flow p (cut_of one p) (cut_of other p) in
    let Notes : ℕ → Type 0 = λ p. Within (notice_of sys.flow one p) (notice_of sys.flow other p) in
    elim (decided-places n Cuts (λ p. cut_within-decided sys p (cut_of one p) (cut_of other p))) [
      | inr r ↦ inr (λ w. r w.cuts)
      | inl a ↦ elim (decided-places n Notes (λ p. within-front (bounds_of sys.flow p) (front_of one.notices p) (notice_of sys.flow other p))) [
        | inr r ↦ inr (λ w. r w.notices)
        | inl b ↦ inl (record { cuts = a; notices = b })
      ]
    ]

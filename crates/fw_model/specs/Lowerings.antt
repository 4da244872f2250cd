-- Lowerings of a choice's values: what is left in place of one, and the greatest of it.
use Rattle.std.specs.Prelude.{◌≡◌, ℕ, List, [], ◌∷◌, ◌++◌, set}
use Rattle.std.specs.List.{AllByRecursion}
use Rattle.fw_frontier.specs.Frontier.{Frontier, Within}
use Rattle.fw_frontier.specs.Front.{Front, IsCanonical}
use Rattle.fw_flow.specs.declared.choice.Choice.{Choice}
use Rattle.fw_flow.specs.declared.choice.Cut.{Cut}
use Rattle.fw_flow.specs.declared.choice.Cut.TheVariants.{Present, At}
use Rattle.fw_flow.specs.declared.side.Side.{Side}
use Rattle.fw_flow.specs.declared.side.Side.TheVariants.{Delivered, Discarded, Notified}
use Rattle.fw_flow.specs.declared.side.Limit.TheVariants.{Own, Note}
use Rattle.fw_flow.specs.declared.side.Inclusion.{Inclusion}
use Rattle.fw_flow.specs.declared.side.Inclusion.TheVariants.{OfCut, OfNote}
use Rattle.fw_flow.specs.declared.trail.Part.{Part}
use Rattle.fw_flow.specs.declared.trail.Part.TheVariants as part
use Rattle.fw_flow.specs.declared.trail.Cause.{Cause}
use Rattle.fw_flow.specs.declared.trail.Cause.TheVariants as cause
use Rattle.fw_flow.specs.declared.trail.Lowering.{Lowering}
use Rattle.fw_flow.specs.Dataflow.{Dataflow, bounds_of, node_frontier}
use Rattle.fw_model.specs.Covers.{Covers}
use Rattle.fw_model.specs.Choice.{cut_of, notice_of, IsCutWithin}
use Rattle.fw_model.specs.Inclusions.{owner, note_node, node_of, left_of, right_of, limit_of, Holds, IsInclusionOf, inclusions}

-- these cuts and notification frontiers
abbrev pub choice_of : List Cut → List Front → Choice
choice_of cuts notices = record { cuts = cuts; notices = notices }

-- a cut that its node offers, within the one that it has, whose side lies in what it has to lie in
pub record IsCutLeft (flow : Dataflow) (covers : Covers) (offers : ℕ → Cut → Type 0) (choice : Choice) (side : Side) (x : Cut) : Type 0 where
  pub offered : offers (owner flow side) x
  pub within : IsCutWithin flow (owner flow side) x (cut_of choice (owner flow side))
  pub meets : Within (left_of covers side x) (right_of flow covers side choice)

-- a frontier of a node's domain, within its notification frontier and within another one
pub record IsNoteLeft (flow : Dataflow) (choice : Choice) (p : ℕ) (right : Frontier) (f : Front) : Type 0 where
  pub canonical : IsCanonical (bounds_of flow p) f
  pub within : Within (node_frontier flow p f) (notice_of flow choice p)
  pub meets : Within (node_frontier flow p f) right

-- a value that is left in place of the one on the left of an inclusion: within it, it meets the inclusion, all else as it stands
abbrev pub IsValueLeft : Dataflow → Covers → (ℕ → Cut → Type 0) → Choice → Inclusion → Cut → Type 0
IsValueLeft flow covers offers choice (OfCut side) x = IsCutLeft flow covers offers choice side x
IsValueLeft flow covers offers choice (OfNote limit) Present = ⊥
IsValueLeft flow covers offers choice (OfNote limit) (At f) = IsNoteLeft flow choice (note_node flow limit) (limit_of flow covers limit choice) f

-- the greatest value that is left
pub record IsGreatestLeft (flow : Dataflow) (covers : Covers) (offers : ℕ → Cut → Type 0)
    (choice : Choice) (i : Inclusion) (x : Cut) : Type 0 where
  pub left : IsValueLeft flow covers offers choice i x
  pub greatest : (y : Cut) → IsValueLeft flow covers offers choice i y → IsCutWithin flow (node_of flow i) y x

-- the choice with another value on the left of an inclusion
abbrev pub with_value : Dataflow → Choice → Inclusion → Cut → Choice
with_value flow choice (OfCut side) x = choice_of (set choice.cuts (owner flow side) x) choice.notices
with_value flow choice (OfNote limit) Present = choice
with_value flow choice (OfNote limit) (At f) = choice_of choice.cuts (set choice.notices (note_node flow limit) f)

-- which of the node's values stands on the left of an inclusion
abbrev pub part_of : Inclusion → Part
part_of (OfCut side) = part.Cut
part_of (OfNote limit) = part.Note

-- what it says of the node
abbrev pub cause_of : Inclusion → Cause
cause_of (OfCut (Delivered d)) = cause.Delivered d
cause_of (OfCut (Discarded e)) = cause.Discarded e
cause_of (OfCut (Notified p)) = cause.Notified
cause_of (OfNote (Own p)) = cause.Own
cause_of (OfNote (Note d)) = cause.Note d

-- the lowering of what stands on the left of an inclusion to a value
abbrev pub lowering_of : Dataflow → Inclusion → Cut → Lowering
lowering_of flow i x = record { node = node_of flow i; part = part_of i; to = x; by = cause_of i }

-- the lowering is of an inclusion that fails at a choice, to the greatest value that is left; the next choice has it
pub record IsRightLowering (flow : Dataflow) (covers : Covers) (offers : ℕ → Cut → Type 0)
    (choice : Choice) (l : Lowering) (next : Choice) : Type 0 where
  pub inclusion : Inclusion
  pub of_flow : IsInclusionOf flow inclusion
  pub told : l ≡ lowering_of flow inclusion l.to
  pub fails : Holds flow covers choice inclusion → ⊥
  pub greatest : IsGreatestLeft flow covers offers choice inclusion l.to
  pub with_it : next ≡ with_value flow choice inclusion l.to

-- right lowerings, one after the other, lead from a choice to another
abbrev pub LeadRight : Dataflow → Covers → (ℕ → Cut → Type 0) → Choice → List Lowering → Choice → Type 0
LeadRight flow covers offers choice [] end = choice ≡ end
LeadRight flow covers offers choice (l ∷ ls) end =
    (next : Choice) × IsRightLowering flow covers offers choice l next × LeadRight flow covers offers next ls end

-- the inclusion fails, and each one before it holds
pub record IsFirstFailing (flow : Dataflow) (covers : Covers) (choice : Choice) (i : Inclusion) : Type 0 where
  pub fails : Holds flow covers choice i → ⊥
  pub earlier : List Inclusion
  pub later : List Inclusion
  pub place : inclusions flow ≡ earlier ++ i ∷ later
  pub hold : AllByRecursion (Holds flow covers choice) earlier

-- the next choice is this one with the greatest value that is left for the first inclusion that fails
pub record IsLoweredBy (flow : Dataflow) (covers : Covers) (offers : ℕ → Cut → Type 0)
    (choice : Choice) (l : Lowering) (next : Choice) : Type 0 where
  pub inclusion : Inclusion
  pub first : IsFirstFailing flow covers choice inclusion
  pub told : l ≡ lowering_of flow inclusion l.to
  pub greatest : IsGreatestLeft flow covers offers choice inclusion l.to
  pub with_it : next ≡ with_value flow choice inclusion l.to

-- these lowerings, one after the other, lead from a choice to another
abbrev pub Leads : Dataflow → Covers → (ℕ → Cut → Type 0) → Choice → List Lowering → Choice → Type 0
Leads flow covers offers choice [] end = choice ≡ end
Leads flow covers offers choice (l ∷ ls) end =
    (next : Choice) × IsLoweredBy flow covers offers choice l next × Leads flow covers offers next ls end

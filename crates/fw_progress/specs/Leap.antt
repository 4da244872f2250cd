-- Frontiers that many nodes get at once.
use Rattle.std.specs.Prelude.{◌≡◌, ◌⊎◌, ℕ, zero, suc, ◌+◌, ◌<◌, ◌==◌, nat_le, Bool, true, false, List, [], ◌∷◌, length, set, slice_index_or}
use Rattle.std.specs.List.{list_any}
use Rattle.fw_frontier.specs.Frontier.{Frontier, IsFrontier, Within}
use Rattle.fw_frontier.specs.Front.{Front, IsFrontOf}
use Rattle.fw_flow.specs.Dataflow.{Dataflow, kind_of, sender, receiver, bounds_of}
use Rattle.fw_flow.specs.WellFormed.{is_feedback_kind}
use Rattle.fw_model.specs.Machine.{front_of, family_of}
use Rattle.fw_progress.specs.declared.counts.Counts.{Counts}
use Rattle.fw_progress.specs.declared.growth.Growth.{Growth}
use Rattle.fw_progress.specs.Counts.{target_by, IsAdmissibleBy, is_in}
use Rattle.fw_progress.specs.Growths.{GrewOnce, HaveGrown}

-- Node p leads a loop to its next counter, grew before among these growths, and can have more than it has.
pub record IsClimbing (flow : Dataflow) (counts : Counts) (fronts : List Front) (growths : List Growth) (p : ℕ) : Type 0 where
  pub feedback : is_feedback_kind (kind_of flow p) ≡ true
  pub grew : list_any (λ (g : Growth). g.node == p) growths ≡ true
  pub above : Within (family_of flow fronts p) (target_by flow counts (family_of flow fronts) p)
  pub more : Within (target_by flow counts (family_of flow fronts) p) (family_of flow fronts p) → ⊥

-- the stamps of node q have as many coordinates as those of node p, or more
abbrev pub is_as_deep : Dataflow → ℕ → ℕ → Bool
is_as_deep flow p q = nat_le (length (bounds_of flow p).greatest) (length (bounds_of flow q).greatest)

-- the node is marked
abbrev pub is_node_marked : List Bool → ℕ → Bool
is_node_marked marks p = slice_index_or marks p false

-- with a node the set has the receivers of its out-edges that are as deep as node p
abbrev pub GoesOnToReceivers : Dataflow → ℕ → (ℕ → Bool) → Type 0
GoesOnToReceivers flow p has =
    (e : ℕ) → e < length flow.edges → has (sender flow e) ≡ true → is_as_deep flow p (receiver flow e) ≡ true → has (receiver flow e) ≡ true

-- The marked nodes are those that a feedback leads to in its loop and in the loops within it: the least set that has the feedback
-- and goes on.
pub record AreLedTo (flow : Dataflow) (p : ℕ) (marks : List Bool) : Type 0 where
  pub one_each : length marks ≡ length flow.nodes
  pub begins : is_node_marked marks p ≡ true
  pub goes_on : GoesOnToReceivers flow p (is_node_marked marks)
  pub least : (has : ℕ → Bool) → has p ≡ true → GoesOnToReceivers flow p has → (q : ℕ) → is_node_marked marks q ≡ true → has q ≡ true

-- the next frontier of a node has all of the one so far, and has no more, or lies within what the node can have by the next ones
pub record CanLeapAt (flow : Dataflow) (counts : Counts) (old next : List Front) (p : ℕ) : Type 0 where
  pub above : Within (family_of flow old p) (family_of flow next p)
  pub within : Within (family_of flow next p) (family_of flow old p) ⊎ Within (family_of flow next p) (target_by flow counts (family_of flow next) p)

-- so of each node
abbrev pub CanLeap : Dataflow → Counts → List Front → List Front → Type 0
CanLeap flow counts old next = (p : ℕ) → p < length flow.nodes → CanLeapAt flow counts old next p

-- each node has all of its frontier among the others
abbrev pub AreAbove : Dataflow → List Front → List Front → Type 0
AreAbove flow low high = (p : ℕ) → p < length flow.nodes → Within (family_of flow low p) (family_of flow high p)

-- A node has its next frontier, if that is above the one so far, and the others have theirs.
pub record IsReachedAt (flow : Dataflow) (p : ℕ) (old next new : List Front) : Type 0 where
  pub grows : AreAbove flow old new
  pub below : AreAbove flow old next → AreAbove flow new next
  pub here : Within (family_of flow old p) (family_of flow next p) → Within (family_of flow next p) (family_of flow new p)

-- Frontiers grew to their next ones, one after the other, each of them once.
pub record HaveReached (flow : Dataflow) (counts : Counts) (old next new : List Front) (work rest : List ℕ) (growths more : List Growth) : Type 0 where
  pub grew : HaveGrown flow counts old new work rest growths more
  pub once : GrewOnce growths more
  pub below : AreAbove flow new next
  pub above : AreAbove flow next new

-- the marked nodes have all stamps, and the others the frontiers that they had
pub record AreRaisedAtMarks (flow : Dataflow) (marks : List Bool) (old new : List Front) : Type 0 where
  pub one_each : length new ≡ length flow.nodes
  pub marked : (p : ℕ) → p < length flow.nodes → is_node_marked marks p ≡ true → front_of new p ≡ []
  pub others : (p : ℕ) → p < length flow.nodes → is_node_marked marks p ≡ false → front_of new p ≡ front_of old p

-- a marked node had more than it can have by the others, and gets what it can have
pub record IsLoweredAt (flow : Dataflow) (counts : Counts) (marks : List Bool) (p : ℕ) (old new : List Front) : Type 0 where
  pub marked : is_node_marked marks p ≡ true
  pub more : Within (family_of flow old p) (target_by flow counts (family_of flow old) p) → ⊥
  pub front : Front
  pub most : IsFrontOf (bounds_of flow p) front (target_by flow counts (family_of flow old) p)
  pub changed : new ≡ set old p front

-- nothing changed, since the node is not marked or has no more than it can have
pub record StaysLow (flow : Dataflow) (counts : Counts) (marks : List Bool) (p : ℕ) (old new : List Front) : Type 0 where
  pub same : new ≡ old
  pub within : is_node_marked marks p ≡ true → Within (family_of flow old p) (target_by flow counts (family_of flow old) p)

-- one after the other each node before a place is lowered, or stays
abbrev pub AreLoweredInTurn : Dataflow → Counts → List Bool → ℕ → List Front → List Front → Type 0
AreLoweredInTurn flow counts marks zero old new = new ≡ old
AreLoweredInTurn flow counts marks (suc p) old new =
    (mid : List Front) × (AreLoweredInTurn flow counts marks p old mid
    × (IsLoweredAt flow counts marks p mid new ⊎ StaysLow flow counts marks p mid new))

-- the marked nodes before a place have no more than they can have
abbrev pub AreLoweredBefore : Dataflow → Counts → List Bool → ℕ → List Front → Type 0
AreLoweredBefore flow counts marks n fronts =
    (p : ℕ) → p < n → is_node_marked marks p ≡ true → Within (family_of flow fronts p) (target_by flow counts (family_of flow fronts) p)

-- all marked nodes have no more than they can have
abbrev pub AreLowered : Dataflow → Counts → List Bool → List Front → Type 0
AreLowered flow counts marks fronts = AreLoweredBefore flow counts marks (length flow.nodes) fronts

-- a pass over the nodes, before which a marked node had more than it can have
pub record IsPass (flow : Dataflow) (counts : Counts) (marks : List Bool) (old new : List Front) : Type 0 where
  pub more : AreLowered flow counts marks old → ⊥
  pub each : AreLoweredInTurn flow counts marks (length flow.nodes) old new

-- so many passes, one after the other
abbrev pub ArePasses : Dataflow → Counts → List Bool → ℕ → List Front → List Front → Type 0
ArePasses flow counts marks zero old new = new ≡ old
ArePasses flow counts marks (suc n) old new =
    (mid : List Front) × (ArePasses flow counts marks n old mid × IsPass flow counts marks mid new)

-- these are what so many passes leave of the raised frontiers
pub record AreLeftBy (flow : Dataflow) (counts : Counts) (marks : List Bool) (passes : ℕ) (old new : List Front) : Type 0 where
  pub first : List Front
  pub raised : AreRaisedAtMarks flow marks old first
  pub passed : ArePasses flow counts marks passes first new

-- in the family no marked node has more than it can have, and no other one more than in the old frontiers
pub record IsLowFamily (flow : Dataflow) (counts : Counts) (marks : List Bool) (old : List Front) (family : ℕ → Frontier) : Type 0 where
  pub frontier : (p : ℕ) → IsFrontier (bounds_of flow p) (family p)
  pub marked : (p : ℕ) → p < length flow.nodes → is_node_marked marks p ≡ true → Within (family p) (target_by flow counts family p)
  pub others : (p : ℕ) → p < length flow.nodes → is_node_marked marks p ≡ false → Within (family p) (family_of flow old p)

-- The frontiers that are proposed: the largest family in which no marked node has more than it can have by the old frontiers
-- of the others, where fewer passes lead to them than there are nodes.
pub record AreProposed (flow : Dataflow) (counts : Counts) (marks : List Bool) (old next : List Front) : Type 0 where
  pub low : IsLowFamily flow counts marks old (family_of flow next)
  pub largest : (family : ℕ → Frontier) → IsLowFamily flow counts marks old family → (p : ℕ) → Within (family p) (family_of flow next p)
  pub passes : ℕ
  pub few : passes < length flow.nodes
  pub left : AreLeftBy flow counts marks passes old next

-- no frontiers are proposed: as many passes as there are nodes were needed, or did not suffice
pub record AreNoneProposed (flow : Dataflow) (counts : Counts) (marks : List Bool) (old : List Front) : Type 0 where
  pub last : List Front
  pub left : AreLeftBy flow counts marks (length flow.nodes) old last

-- A leap is taken: the node climbs, frontiers are proposed for the nodes that it leads to, they may be leapt to, and each node has
-- its one afterwards.
pub record IsLeapTaken (flow : Dataflow) (counts : Counts) (p : ℕ) (old new : List Front) (growths : List Growth) : Type 0 where
  pub climbs : IsClimbing flow counts old growths p
  pub marks : List Bool
  pub led : AreLedTo flow p marks
  pub next : List Front
  pub proposed : AreProposed flow counts marks old next
  pub can : CanLeap flow counts old next
  pub below : AreAbove flow new next
  pub above : AreAbove flow next new

-- no frontiers are proposed for the nodes that node p leads to
pub record IsWithoutProposal (flow : Dataflow) (counts : Counts) (p : ℕ) (old : List Front) : Type 0 where
  pub marks : List Bool
  pub led : AreLedTo flow p marks
  pub none : AreNoneProposed flow counts marks old

-- frontiers are proposed for the nodes that node p leads to, and may not be leapt to
pub record CannotLeap (flow : Dataflow) (counts : Counts) (p : ℕ) (old : List Front) : Type 0 where
  pub marks : List Bool
  pub led : AreLedTo flow p marks
  pub next : List Front
  pub proposed : AreProposed flow counts marks old next
  pub cannot : CanLeap flow counts old next → ⊥

-- no leap is taken, and nothing changed: the node does not climb, no frontiers are proposed, or they may not be leapt to
pub record IsNoLeap (flow : Dataflow) (counts : Counts) (p : ℕ) (old new : List Front) (work rest : List ℕ) (growths more : List Growth) : Type 0 where
  pub same : new ≡ old
  pub same_work : rest ≡ work
  pub same_growths : more ≡ growths
  pub why : (IsClimbing flow counts old growths p → ⊥) ⊎ (IsWithoutProposal flow counts p old ⊎ CannotLeap flow counts p old)

-- Frontiers grew to others at once, each node's by one growth: what was admissible is so then. A leap is taken, or nothing changed, and
-- then for a reason.
pub record HaveLeapt (flow : Dataflow) (counts : Counts) (p : ℕ) (old new : List Front) (work rest : List ℕ) (growths more : List Growth) : Type 0 where
  pub grew : HaveGrown flow counts old new work rest growths more
  pub once : GrewOnce growths more
  pub admissible : IsAdmissibleBy flow counts (family_of flow old) → IsAdmissibleBy flow counts (family_of flow new)
  pub taken : IsLeapTaken flow counts p old new growths ⊎ IsNoLeap flow counts p old new work rest growths more

-- ---- for the proofs

-- of the nodes before a place the marked ones have all stamps, and the others the frontiers that they had
pub record AreRaisedUpTo (marks : List Bool) (n : ℕ) (old new : List Front) : Type 0 where
  pub marked : (p : ℕ) → p < n → is_node_marked marks p ≡ true → front_of new p ≡ []
  pub others : (p : ℕ) → p < n → is_node_marked marks p ≡ false → front_of new p ≡ front_of old p

-- The nodes before a place were lowered in turn, and whether one had more than it can have.
pub record AreLoweredSoFar (flow : Dataflow) (counts : Counts) (marks : List Bool) (n : ℕ) (lowered : Bool) (old new : List Front) : Type 0 where
  pub each : AreLoweredInTurn flow counts marks n old new
  pub more : lowered ≡ true → AreLowered flow counts marks old → ⊥
  pub same : lowered ≡ false → new ≡ old
  pub low : lowered ≡ false → AreLoweredBefore flow counts marks n old

-- Frontiers from the raised ones down: those of the unmarked nodes stay, and each low family lies within them.
pub record AreOnTheWay (flow : Dataflow) (counts : Counts) (marks : List Bool) (old fronts : List Front) : Type 0 where
  pub one_each : length fronts ≡ length flow.nodes
  pub others : (p : ℕ) → p < length flow.nodes → is_node_marked marks p ≡ false → front_of fronts p ≡ front_of old p
  pub above : (family : ℕ → Frontier) → IsLowFamily flow counts marks old family → (p : ℕ) → Within (family p) (family_of flow fronts p)

-- a pass that changed nothing, since no marked node had more than it can have
pub record IsLastPass (flow : Dataflow) (counts : Counts) (marks : List Bool) (old new : List Front) : Type 0 where
  pub same : new ≡ old
  pub low : AreLowered flow counts marks old

-- how many nodes are not marked
abbrev pub unmarked : List Bool → ℕ
unmarked [] = 0
unmarked (true ∷ marks) = unmarked marks
unmarked (false ∷ marks) = unmarked marks + 1

-- The marked nodes are led to, and the set of them goes on but for the nodes that are found and these edges.
pub record IsMarking (flow : Dataflow) (p : ℕ) (marks : List Bool) (found left : List ℕ) : Type 0 where
  pub one_each : length marks ≡ length flow.nodes
  pub begins : is_node_marked marks p ≡ true
  pub there : (q : ℕ) → is_in found q ≡ true → is_node_marked marks q ≡ true
  pub goes_on : (e : ℕ) → e < length flow.edges → is_node_marked marks (sender flow e) ≡ true → is_as_deep flow p (receiver flow e) ≡ true
      → (is_node_marked marks (receiver flow e) ≡ true) ⊎ ((is_in found (sender flow e) ≡ true) ⊎ (is_in left e ≡ true))
  pub least : (has : ℕ → Bool) → has p ≡ true → GoesOnToReceivers flow p has → (q : ℕ) → is_node_marked marks q ≡ true → has q ≡ true

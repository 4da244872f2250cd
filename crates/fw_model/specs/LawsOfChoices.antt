-- Laws of choices: there is one largest choice, and the union of two consistent choices is consistent where it is offered.
use Rattle.std.specs.Prelude.{◌≡◌, ◌⊎◌, ℕ, ◌<◌, Bool, length}
use Rattle.fw_frontier.specs.Frontier.{Within, join}
use Rattle.fw_flow.specs.declared.choice.Cut.{Cut}
use Rattle.fw_flow.specs.Dataflow.{System, sender, receiver}
use Rattle.fw_model.specs.Machine.{Machine}
use Rattle.fw_flow.specs.declared.choice.Choice.{Choice}
use Rattle.fw_model.specs.Choice.{View, IsCandidate, IsConsistent, IsCutWithin, IsChoiceWithin, IsLargest, cut_of}
use Rattle.fw_model.specs.Unions.{IsUnionOfCuts, IsUnionOfChoices}
use Rattle.fw_flow.specs.declared.restoring.Restoring.TheVariants.{Checkpoints}
use Rattle.fw_flow.specs.Restoring.{way_of}
use Rattle.fw_model.specs.Covers.{covers_in}

-- a largest choice of the restore candidates is the only one: two of them are the same cuts and the same lists of stamps
abbrev pub LargestChoiceIsOne : Type 0
LargestChoiceIsOne = (sys : System) (state : Machine) (lost : ℕ → Bool) (view : View) (one other : Choice)
    → IsLargest sys state (IsCandidate sys state lost view) one → IsLargest sys state (IsCandidate sys state lost view) other
    → one ≡ other

-- two consistent choices of the restore candidates have a union
abbrev pub ConsistentChoicesHaveUnion : Type 0
ConsistentChoicesHaveUnion = (sys : System) (state : Machine) (lost : ℕ → Bool) (view : View) (one other : Choice)
    → IsConsistent sys state (IsCandidate sys state lost view) one
    → IsConsistent sys state (IsCandidate sys state lost view) other
    → (union : Choice) × IsUnionOfChoices sys one other union

-- each of two choices lies within their union
abbrev pub EachLiesWithinUnion : Type 0
EachLiesWithinUnion = (sys : System) (one other union : Choice) → IsUnionOfChoices sys one other union
    → IsChoiceWithin sys.flow one union × IsChoiceWithin sys.flow other union

-- The union of two candidates of a node is a candidate; where it is restored by its checkpoints, if one of the two lies
-- within the other.
abbrev pub UnionOfCandidatesIsCandidate : Type 0
UnionOfCandidatesIsCandidate = (sys : System) (state : Machine) (lost : ℕ → Bool) (view : View) (p : ℕ) (one other union : Cut)
    → IsCandidate sys state lost view p one → IsCandidate sys state lost view p other → IsUnionOfCuts sys p one other union
    → (way_of sys.flow p ≡ Checkpoints
    → IsCutWithin sys.flow p one other ⊎ IsCutWithin sys.flow p other one)
    → IsCandidate sys state lost view p union

-- what counts as delivered inside the union of two cuts counts as delivered inside one of them
abbrev pub DeliveredOfUnion : Type 0
DeliveredOfUnion = (sys : System) (state : Machine) (d : ℕ) (one other union : Cut) → IsUnionOfCuts sys (receiver sys.flow d) one other union
    → Within ((covers_in sys state).delivered d union) (join ((covers_in sys state).delivered d one) ((covers_in sys state).delivered d other))

-- what counts as notified inside the union of two cuts counts as notified inside one of them
abbrev pub NotifiedOfUnion : Type 0
NotifiedOfUnion = (sys : System) (state : Machine) (p : ℕ) (one other union : Cut) → IsUnionOfCuts sys p one other union
    → Within ((covers_in sys state).notified p union) (join ((covers_in sys state).notified p one) ((covers_in sys state).notified p other))

-- what a node sent inside the union of two cuts and cannot send again, it sent inside one of them
abbrev pub DiscardedOfUnion : Type 0
DiscardedOfUnion = (sys : System) (state : Machine) (e : ℕ) (one other union : Cut)
    → IsUnionOfCuts sys (sender sys.flow e) one other union
    → Within ((covers_in sys state).discarded e union)
    (join ((covers_in sys state).discarded e one) ((covers_in sys state).discarded e other))

-- the union of two consistent choices of the restore candidates is consistent, where each of its cuts is offered
abbrev pub UnionOfConsistentIsConsistent : Type 0
UnionOfConsistentIsConsistent = (sys : System) (state : Machine) (lost : ℕ → Bool) (view : View) (one other union : Choice)
    → IsConsistent sys state (IsCandidate sys state lost view) one
    → IsConsistent sys state (IsCandidate sys state lost view) other → IsUnionOfChoices sys one other union
    → ((p : ℕ) → p < length sys.flow.nodes → IsCandidate sys state lost view p (cut_of union p))
    → IsConsistent sys state (IsCandidate sys state lost view) union

-- Laws of what checkpoints stand on: those of a node are a chain, whichever of them are whole.
use Rattle.std.specs.Prelude.{◌≡◌, ◌⊎◌, ℕ, ◌+◌, ◌<◌, ◌≤◌, ◌==◌, if◌then◌else◌, List, [], ◌∷◌, filter, length, Option, Some, None}
use Rattle.std.specs.List.{AllByRecursion, flat_map}
use Rattle.fw_frontier.specs.Front.{Front}
use Rattle.fw_flow.specs.declared.step.Step.{Step}
use Rattle.fw_flow.specs.Dataflow.{System}
use Rattle.fw_flow.specs.WellFormed.{IsWellFormedSystem}
use Rattle.fw_model.specs.Machine.{Machine, Write, Written, checkpoint, logged_event, first_state}
use Rattle.fw_model.specs.Steps.{Outcome, Run, checkpoints_of, next_depth, base_of_depth}
use Rattle.fw_model.specs.Writes.{not_collected}

-- A checkpoint in a chain: its front, its base and its depth.
pub record Link : Type 0 where
  pub front : Front
  pub base : Option Front
  pub depth : ℕ

-- the link of what is written with this base and depth, if it is a checkpoint
abbrev pub link_of : Option Front → ℕ → Written → List Link
link_of base depth (checkpoint f low) = record { front = f; base = base; depth = depth } ∷ []
link_of base depth (logged_event serial) = []

-- the links of node p's checkpoints, in order of asking
abbrev pub links_of : ℕ → List Write → List Link
links_of p writes = flat_map (λ (write : Write). if write.node == p then link_of write.base write.depth write.written else []) writes

-- the link is whole, so that it stands on no other
abbrev pub IsWholeLink : Link → Type 0
IsWholeLink link = (link.base ≡ None) × (link.depth ≡ 0)

-- after the last link so far, if there is one, this one is whole, or stands on that and is one deeper
abbrev pub StandsOnLast : Option Link → Link → Type 0
StandsOnLast None link = IsWholeLink link
StandsOnLast (Some last) link = IsWholeLink link ⊎ ((link.base ≡ Some last.front) × (link.depth ≡ last.depth + 1))

-- the links are a chain after this last one: each is whole, or stands on the one before it
abbrev pub IsChain : Option Link → List Link → Type 0
IsChain last [] = Unit {0}
IsChain last (link ∷ links) = StandsOnLast last link × IsChain (Some link) links

-- in each state to which steps of a well-formed system lead from the first one, each checkpoint of a node, in flight, acknowledged
-- or collected, is whole, or stands on the one that was asked before it and is still among the writes
abbrev pub EachStandsOnTheOneBefore : Type 0
EachStandsOnTheOneBefore = (sys : System) → IsWellFormedSystem sys → (steps : List Step) (outcomes : List Outcome) (last : Machine)
    → Run sys (first_state sys) steps outcomes last → (p : ℕ) → p < length sys.flow.nodes → IsChain None (links_of p last.writes)

-- in each such state those of them that were not collected are a chain by themselves: the first of them is whole, and each of the others is
-- whole, or stands on the one before it, which was not collected either
abbrev pub WhatIsNotCollectedIsAChain : Type 0
WhatIsNotCollectedIsAChain = (sys : System) → IsWellFormedSystem sys → (steps : List Step) (outcomes : List Outcome) (last : Machine)
    → Run sys (first_state sys) steps outcomes last → (p : ℕ) → p < length sys.flow.nodes → IsChain None (links_of p (filter not_collected last.writes))

-- in each such state the next checkpoint of a node has its depth and its base by what was not collected alone
abbrev pub TheNextStandsOnWhatIsLeft : Type 0
TheNextStandsOnWhatIsLeft = (sys : System) → IsWellFormedSystem sys → (steps : List Step) (outcomes : List Outcome) (last : Machine)
    → Run sys (first_state sys) steps outcomes last → (p : ℕ) → p < length sys.flow.nodes
    → (next_depth p (filter not_collected last.writes) ≡ next_depth p last.writes)
    × (base_of_depth (next_depth p last.writes) (checkpoints_of p (filter not_collected last.writes))
    ≡ base_of_depth (next_depth p last.writes) (checkpoints_of p last.writes))

-- the write stands on seven others at most
abbrev pub IsShallow : Write → Type 0
IsShallow write = write.depth ≤ 7

-- in each state of a run each write does
abbrev pub EachStandsOnFew : Type 0
EachStandsOnFew = (sys : System) (steps : List Step) (outcomes : List Outcome) (last : Machine) → Run sys (first_state sys) steps outcomes last
    → AllByRecursion IsShallow last.writes

-- For the proof of src/opening.rt: the batches with which a session opens.
use Rattle.std.specs.Prelude.{◌≡◌, ℕ, List, ◌++◌, ◌==◌, if◌then◌else◌}
use Rattle.fw_bag.specs.declared.rec.Rec.{Rec}
use Rattle.fw_lines.specs.Batches.{batches_at}
use Rattle.fw_flow.specs.Dataflow.{Dataflow}
use Rattle.fw_session.specs.Story.{first_batches}

-- a node is given the batches with which it opens behind those that it has, and the others keep theirs
abbrev pub AddsFirst : Dataflow → ℕ → List (ℕ × List (List Rec)) → List (ℕ × List (List Rec)) → Type 0
AddsFirst flow node old new =
    (other : ℕ) → batches_at new other ≡ (if node == other then batches_at old other ++ first_batches flow node else batches_at old other)

-- For the proofs of src/show.rt: what is told of a node.
use Rattle.std.specs.Prelude.{ℕ, List}
use Rattle.fw_flow.specs.Dataflow.{Dataflow}
use Rattle.fw_session.specs.Story.{Story}
use Rattle.fw_live.specs.declared.show.Aspect.{Aspect}
use Rattle.fw_live.specs.declared.show.Aspect.TheVariants.{Source, Settled, Output}
use Rattle.fw_live.specs.ShowText.{source_line, settled_line, output_line}

-- the line of it
abbrev pub aspect_line : Aspect → Dataflow → Story → ℕ → List ℕ
aspect_line Source flow story p = source_line flow story p
aspect_line Settled flow story p = settled_line flow story p
aspect_line Output flow story p = output_line flow story p

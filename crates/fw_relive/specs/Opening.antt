-- What a call over a store that lasts opens with.
use Rattle.std.specs.Prelude.{◌⊎◌, ◌≡◌, ℕ, Bool, true, false, List, [], ◌++◌, Option, Some, None, if◌then◌else◌, codes}
use Rattle.std.specs.Fmt.{decimal}
use Rattle.std.specs.List.{flat_map}
use Rattle.fw_outside.specs.declared.fault.OutFault.TheVariants as out
use Rattle.fw_outside.specs.Outside.{SinkView}
use Rattle.fw_flow.specs.Dataflow.{Dataflow, is_input_kind, kind_of, node_at, node_ids}
use Rattle.fw_model.specs.Steps.{Outcome}
use Rattle.fw_running.specs.EffectText.{outcome_text}
use Rattle.fw_running.specs.Steps.{outcome_of}
use Rattle.fw_session.specs.Story.{Story}
use Rattle.fw_command.specs.Writing.{IsCutOff}
use Rattle.fw_hold.specs.Starting.{resumed_text}
use Rattle.fw_lasting.specs.declared.start.Resumed.{Resumed}
use Rattle.fw_live.specs.declared.fault.ServeFault.{ServeFault}
use Rattle.fw_live.specs.declared.fault.ServeFault.TheVariants.{Read, Write, Store, NoMemory}
use Rattle.fw_living.specs.Life.{came_in_story}

-- ---- what came

-- what is told of a source that is closed
abbrev pub closed_word : Bool → List ℕ
closed_word true = []
closed_word false = codes " closed"

-- `from NAME COUNT`, or `from NAME COUNT closed`: how many batches came to an input, and whether it is closed; nothing of another node
abbrev pub from_line : Dataflow → Story → ℕ → List ℕ
from_line flow story p =
    if is_input_kind (kind_of flow p)
    then codes "from " ++ ((node_at flow p).name ++ (codes " " ++ (decimal (came_in_story flow story p) ++ (closed_word (story.now.opened p)
    ++ codes "\n"))))
    else []

-- ---- a root

-- Behind a root: so many steps were done, these lines were kept last, and this came of the recovery that restored every node.
pub record Restart : Type 0 where
  pub steps : ℕ
  pub lines : List ℕ
  pub outcome : Outcome

-- `resumed at STEPS`, the lines that were kept last, and those of the recovery; nothing where there is no root
abbrev pub restart_text : Dataflow → Restart → List ℕ
restart_text flow restart = resumed_text restart.steps restart.lines ++ outcome_text flow restart.outcome

abbrev pub found_text : Dataflow → Option Restart → List ℕ
found_text flow None = []
found_text flow (Some restart) = restart_text flow restart

-- the lines that were kept last
abbrev pub lines_found : Option Restart → List ℕ
lines_found None = []
lines_found (Some restart) = restart.lines

-- ---- the whole text

-- What came to each input; then what was found of a root; then `done 0`.
abbrev pub opened_text : Dataflow → Story → Option Restart → List ℕ
opened_text flow story found = flat_map (from_line flow story) (node_ids flow) ++ (found_text flow found ++ codes "done 0\n")

-- ---- for the proofs of src/opening.rt

-- what a start tells
abbrev pub restart_of : Resumed → Restart
restart_of resumed = record { steps = resumed.steps; lines = resumed.lines; outcome = outcome_of resumed.stepped }

abbrev pub restart_in : Option Resumed → Option Restart
restart_in None = None
restart_in (Some resumed) = Some (restart_of resumed)

-- how much of a text was written where it ended so: nothing, as the store failed or memory was refused before; or it was cut off
abbrev pub CutsOpening : ServeFault → List ℕ → SinkView → SinkView → Type 0
CutsOpening Read text before after = ⊥
CutsOpening Write text before after = IsCutOff text out.Failed before after
CutsOpening Store text before after = after ≡ before
CutsOpening NoMemory text before after = (after ≡ before) ⊎ IsCutOff text out.NoMemory before after

-- What a command does with what its texts spell.
use Rattle.std.specs.Prelude.{◌≡◌, ℕ, Bool, false, List, Option, Result, OnOk, OnErr, IsErrOf}
use Rattle.fw_outside.specs.declared.fault.OutFault.TheVariants as output
use Rattle.fw_outside.specs.Outside.{StoreView, SinkView}
use Rattle.fw_flow.specs.Dataflow.{Dataflow, System, system_of}
use Rattle.fw_flow.specs.WellFormed.{IsWellFormedSystem}
use Rattle.fw_schedule.specs.declared.item.Item.{Item}
use Rattle.fw_run.specs.declared.fault.RunFault.{RunFault}
use Rattle.fw_run.specs.declared.work.Work.{Work}
use Rattle.fw_run.specs.declared.work.Work.TheVariants.{Run, Denote, Check}
use Rattle.fw_generate.specs.Laws.{AreAccepted}
use Rattle.fw_generate.specs.Texts.{Texts}
use Rattle.fw_command.specs.declared.reading.Job.{Job}
use Rattle.fw_keep.specs.Stored.{Records, IsEmptyStore}
use Rattle.fw_command.specs.Command.{Command, Task, takes_steps, tells_denotation, lists_nodes, Start, at_first, Manner}
use Rattle.fw_command.specs.DenotationText.{PrintsDenotation}
use Rattle.fw_running.specs.declared.fault.EngineFault.TheVariants as fault
use Rattle.fw_run.specs.declared.fault.RunFault.TheVariants as stop
use Rattle.fw_run.specs.Ends.{PrintsOfRun, NoFaults, NoneLeft, SomeLeft, StaysUnseen, IsWholeRun, IsOutputFault, IsStoreFault, IsDamageIn}
use Rattle.fw_run.specs.Enduring.{RoseIfOn, RoseByFaults, StaysOrRose}
use Rattle.fw_run.specs.Fault.{faults_after_run}
use Rattle.fw_command.specs.Manner.{told_in}
use Rattle.fw_command.specs.Listing.{check_text}
use Rattle.fw_run.specs.Performing.{WritesUntil}
use Rattle.fw_command.specs.Reading.{IsReadyToRun}
use Rattle.fw_command.specs.Texts.{HasTexts, Accepts, spelled_system, spelled_items}
use Rattle.fw_command.specs.Writing.{WritesText}

-- what a command does to make this work of its texts
abbrev pub task_of : Work → Task
task_of (Run manner job) = takes_steps (told_in manner)
task_of (Denote fed) = tells_denotation
task_of (Check flow) = lists_nodes

-- the dataflow of the work
abbrev pub flow_in : Work → Dataflow
flow_in (Run manner job) = job.flow
flow_in (Denote fed) = fed.flow
flow_in (Check flow) = flow

-- the texts spell the job, and all three are accepted
pub record SpellsJob (job : Job) (texts : Texts) : Type 0 where
  pub accepted : AreAccepted texts job.flow
  pub system : system_of job.flow job.batches ≡ spelled_system job.flow texts
  pub items : job.items ≡ spelled_items job.flow texts

-- the texts, accepted, spell the work
abbrev pub Spells : Work → Texts → Type 0
Spells (Run manner job) texts = SpellsJob job texts
Spells (Denote fed) texts = system_of fed.flow fed.batches ≡ spelled_system fed.flow texts
Spells (Check flow) texts = Unit {0}

-- the work is that of the command, with what its accepted texts spell
pub record IsWork (told : Option (List ℕ → Option (List ℕ))) (command : Command) (work : Work) : Type 0 where
  pub does : command.task ≡ task_of work
  pub texts : Texts
  pub there : HasTexts told command.texts texts
  pub accepted : Accepts command.texts texts (flow_in work)
  pub spelled : Spells work texts

-- what the work asks of the system
abbrev pub IsReadyWork : Work → Type 0
IsReadyWork (Run manner job) = IsReadyToRun (system_of job.flow job.batches) job.items
IsReadyWork (Denote fed) = IsWellFormedSystem (system_of fed.flow fed.batches)
IsReadyWork (Check flow) = Unit {0}

-- what a run asks of its store where it begins: that it holds no record, where it tells them
abbrev pub IsStoreAt : Start → Option Records → Type 0
IsStoreAt at_first records = IsEmptyStore records

-- what the work asks of the store
abbrev pub IsStoreFor : Work → Option Records → Type 0
IsStoreFor (Run manner job) records = IsStoreAt (told_in manner).start records
IsStoreFor (Denote fed) records = Unit {0}
IsStoreFor (Check flow) records = Unit {0}

-- this is what the work prints, of a run as far as it is known
abbrev pub IsTextOfWork : Type 0 → (Bool → ℕ → Type 0) → (List ℕ → Type 0) → Work → List ℕ → Type 0
IsTextOfWork Tells IsCount IsLeft (Run manner job) printed =
    PrintsOfRun Tells IsCount IsLeft (told_in manner) (system_of job.flow job.batches) job.items printed
IsTextOfWork Tells IsCount IsLeft (Denote fed) printed = PrintsDenotation (system_of fed.flow fed.batches) printed
IsTextOfWork Tells IsCount IsLeft (Check flow) printed = printed ≡ check_text flow

-- all that the work prints was written, or cut off by the fault that was answered
abbrev pub PrintsWork : {T : Type 0} → Type 0 → (Bool → ℕ → Type 0) → (List ℕ → Type 0) → Work → Result T RunFault → SinkView → SinkView → Type 0
PrintsWork Tells IsCount IsLeft work answer before after =
    WritesText (IsTextOfWork Tells IsCount IsLeft work) (λ printed. WritesUntil printed answer before after)

-- the work takes steps, and this is true of how they are told, of its system and its items
abbrev pub IsRun : Work → (Manner → System → List Item → Type 0) → Type 0
IsRun (Run manner job) IsSo = IsSo (told_in manner) (system_of job.flow job.batches) job.items
IsRun (Denote fed) IsSo = ⊥
IsRun (Check flow) IsSo = ⊥

-- if the work takes steps, this is true of how they are told, of its system and its items
abbrev pub IfRun : Work → (Manner → System → List Item → Type 0) → Type 0
IfRun (Run manner job) IsSo = IsSo (told_in manner) (system_of job.flow job.batches) job.items
IfRun (Denote fed) IsSo = Unit {0}
IfRun (Check flow) IsSo = Unit {0}

-- Work that does not go on through faults of its store ends at the first: it failed once if that is the answer, and else never.
abbrev pub EndsAtFault : {T : Type 0} → Work → Result T RunFault → ℕ → ℕ → Type 0
EndsAtFault (Run manner job) answer before after = manner.course.goes_on ≡ false → after ≡ faults_after_run answer before
EndsAtFault (Denote fed) answer before after = after ≡ faults_after_run answer before
EndsAtFault (Check flow) answer before after = after ≡ faults_after_run answer before

-- this stays in work that the first fault of its store ends, if its steps are not seen
abbrev pub StaysIfUnseen : {O : Type 0} → Work → O → O → Type 0
StaysIfUnseen (Run manner job) before after = manner.course.goes_on ≡ false → StaysUnseen manner.is_seen before after
StaysIfUnseen (Denote fed) before after = Unit {0}
StaysIfUnseen (Check flow) before after = Unit {0}

-- only work that takes steps changes its store
abbrev pub StaysUnlessRun : {K : Type 0} → Work → K → K → Type 0
StaysUnlessRun (Run manner job) before after = Unit {0}
StaysUnlessRun (Denote fed) before after = after ≡ before
StaysUnlessRun (Check flow) before after = after ≡ before

-- What is answered of a work, by what the store tells at its end: all that it prints was written, or it was cut off by the fault; what a run
-- leaves in the store, and where the output, the store or a damaged record ended it; and how often the store failed.
pub record EndsWork {T : Type 0} (Tells : Type 0) (work : Work) (answer : Result T RunFault) (before after : StoreView) (out wrote : SinkView)
    : Type 0 where
  pub printed : OnOk answer (PrintsWork Tells NoFaults NoneLeft work answer out wrote)
  pub cut_off : OnErr answer (PrintsWork Tells (RoseIfOn before.faults after.faults) SomeLeft work answer out wrote)
  pub left : OnOk answer (IfRun work (IsWholeRun Tells after.records out wrote))
  pub last_taken : IsErrOf answer (stop.Out output.Failed) → IfRun work (IsOutputFault Tells before.faults after.faults after.records out wrote)
  pub store_fault : IsErrOf answer (stop.Engine fault.StoreFault)
      → IsRun work (IsStoreFault Tells before.faults after.faults after.records out wrote)
  pub damaged : (id : ℕ) → IsErrOf answer (stop.Engine (fault.Damaged id))
      → IsRun work (IsDamageIn Tells before.faults after.faults id after.given out wrote)
  pub none : OnOk answer (after.faults ≡ before.faults)
  pub first : EndsAtFault work answer before.faults after.faults
  pub some : IsErrOf answer (stop.Engine fault.StoreFault) → RoseByFaults before.faults after.faults
  pub rises : StaysOrRose before.faults after.faults

-- What is read before a run begins.
use Rattle.std.specs.Prelude.{◌≡◌, ℕ, ◌<◌, ◌≤◌, List, length, Option, Result, Ok, Err}
use Rattle.fw_outside.specs.Outside.{one_more}
use Rattle.fw_lines.specs.declared.fault.ReadFault.{ReadFault}
use Rattle.fw_lines.specs.declared.fault.ReadFault.TheVariants as lines
use Rattle.fw_lines.specs.declared.refusal.Code.{Code}
use Rattle.fw_lines.specs.declared.refusal.Refusal.{Refusal}
use Rattle.fw_lines.specs.Faults.{IsOfWhole}
use Rattle.fw_flow.specs.Dataflow.{System, system_of}
use Rattle.fw_flow.specs.WellFormed.{IsWellFormedSystem}
use Rattle.fw_schedule.specs.declared.item.Item.{Item}
use Rattle.fw_schedule.specs.Schedule.{step_count, step_limit}
use Rattle.fw_command.specs.declared.reading.JobFault.{JobFault}
use Rattle.fw_command.specs.declared.reading.JobFault.TheVariants.{Failed, Refused, NoMemory}
use Rattle.fw_command.specs.declared.reading.Fed.{Fed}
use Rattle.fw_command.specs.declared.reading.Job.{Job}
use Rattle.fw_generate.specs.Laws.{AreAccepted}
use Rattle.fw_generate.specs.Draws.{words_from}
use Rattle.fw_generate.specs.Texts.{Texts, texts_of}
use Rattle.fw_command.specs.Command.{Origin, Seeded}
use Rattle.fw_command.specs.Texts.{HasText, HasTexts, Accepts, spelled_system, spelled_items}

-- where the fault is a refusal it is one of these; the other faults say nothing here
abbrev pub IfJobRefused : (Refusal → Type 0) → JobFault → Type 0
IfJobRefused P Failed = Unit {0}
IfJobRefused P (Refused refusal) = P refusal
IfJobRefused P NoMemory = Unit {0}

-- how often a folder has failed after an answer of this kind: once more where it failed, and else as often as before
abbrev pub read_faults_after : {T : Type 0} → Result T JobFault → ℕ → ℕ
read_faults_after (Ok value) count = count
read_faults_after (Err Failed) count = one_more count
read_faults_after (Err (Refused refusal)) count = count
read_faults_after (Err NoMemory) count = count

-- the fault of a text as the fault of a job
abbrev pub job_fault : ReadFault → JobFault
job_fault (lines.Refused refusal) = Refused refusal
job_fault lines.NoMemory = NoMemory

-- the text under the name has more bytes than the limit, and is refused so as a whole
abbrev pub IsTooLarge : Option (List ℕ → Option (List ℕ)) → List ℕ → ℕ → Code → Refusal → Type 0
IsTooLarge told name limit code refusal = HasText told name (λ text. (limit < length text) × IsOfWhole code refusal)

-- what the texts of a run spell, and they are accepted
pub record IsJob (told : Option (List ℕ → Option (List ℕ))) (origin : Origin) (job : Job) : Type 0 where
  pub texts : Texts
  pub there : HasTexts told origin texts
  pub accepted : AreAccepted texts job.flow
  pub system : system_of job.flow job.batches ≡ spelled_system job.flow texts
  pub items : job.items ≡ spelled_items job.flow texts

-- the same of the generated texts of a seed and a size, whatever this is
pub record IsGenerated (seeded : Seeded) (job : Job) : Type 0 where
  pub texts : Texts
  pub drawn : texts ≡ texts_of seeded.size (words_from seeded.seed)
  pub accepted : AreAccepted texts job.flow
  pub system : system_of job.flow job.batches ≡ spelled_system job.flow texts
  pub items : job.items ≡ spelled_items job.flow texts

-- the same of the texts of a flow and its inputs
pub record IsFed (told : Option (List ℕ → Option (List ℕ))) (origin : Origin) (fed : Fed) : Type 0 where
  pub texts : Texts
  pub there : HasTexts told origin texts
  pub accepted : Accepts origin texts fed.flow
  pub system : system_of fed.flow fed.batches ≡ spelled_system fed.flow texts

-- what a run of items asks: the engine a well-formed system, and the counts of steps that they are not too many
pub record IsReadyToRun (sys : System) (items : List Item) : Type 0 where
  pub well_formed : IsWellFormedSystem sys
  pub few : step_count items ≤ step_limit

-- How often a folder failed, over several calls.
use Rattle.std.proofs.Common.{◌≡◌, ℕ, Err, ◌∙◌, ap}
use Rattle.fw_outside.specs.Outside.{one_more}
use Rattle.fw_command.specs.declared.reading.JobFault.{JobFault}
use Rattle.fw_command.specs.declared.reading.JobFault.TheVariants as job
use Rattle.fw_command.specs.Reading.{read_faults_after}

-- a fault in a later text is told as it was, if the folder did not fail before
pub read_passed : (A B : Type 0) (f : JobFault) (first mid last : ℕ) → mid ≡ first → last ≡ read_faults_after {T = A} (Err f) mid → last ≡ read_faults_after {T = B} (Err f) first
read_passed A B job.Failed first mid last same e = e ∙ ap one_more same
read_passed A B (job.Refused refusal) first mid last same e = e ∙ same
read_passed A B job.NoMemory first mid last same e = e ∙ same

-- The status of a command over texts of choices, and the line that stands for it.
use Rattle.std.specs.Prelude.{◌≡◌, ◌⊎◌, ℕ, List, [], ◌∷◌, ◌++◌, Option, Some, None, Result, Ok, Err, codes}
use Rattle.fw_outside.specs.declared.fault.OutFault.{OutFault}
use Rattle.fw_outside.specs.declared.fault.OutFault.TheVariants as output
use Rattle.fw_outside.specs.Outside.{SinkView, one_more}
use Rattle.fw_lines.specs.declared.refusal.Refusal.{Refusal}
use Rattle.fw_lines.specs.Refusal as flows
use Rattle.fw_offers_text.specs.declared.code.ChoiceRefusal.{ChoiceRefusal}
use Rattle.fw_offers_text.specs.Code as choices
use Rattle.fw_command.specs.declared.reading.JobFault.{JobFault}
use Rattle.fw_command.specs.declared.reading.JobFault.TheVariants as job
use Rattle.fw_command.specs.Writing.{IsWritten, IsCutOff}
use Rattle.fw_choosing.specs.declared.status.ChoosingStatus.{ChoosingStatus}
use Rattle.fw_choosing.specs.declared.status.ChoosingStatus.TheVariants.{Done, BadWords, FlowRefused, OffersRefused, CertificateRefused, ReadFault, WriteFault, NoMemory, NoChoice, NotShown}

-- the number of a status
abbrev pub choosing_number : ChoosingStatus → ℕ
choosing_number Done = 0
choosing_number BadWords = 2
choosing_number (FlowRefused refusal) = 3
choosing_number ReadFault = 6
choosing_number WriteFault = 7
choosing_number NoMemory = 10
choosing_number (OffersRefused refusal) = 12
choosing_number (CertificateRefused refusal) = 13
choosing_number NoChoice = 14
choosing_number NotShown = 14

-- the numbers that a status may have
abbrev pub choosing_numbers : List ℕ
choosing_numbers = 0 ∷ 2 ∷ 3 ∷ 6 ∷ 7 ∷ 10 ∷ 12 ∷ 13 ∷ 14 ∷ []

-- the refusal of the flow's text, where it is refused
abbrev pub flow_refusal : ChoosingStatus → Option Refusal
flow_refusal (FlowRefused refusal) = Some refusal
flow_refusal status = None

-- the status that tells why a flow was not read
abbrev pub flow_status : JobFault → ChoosingStatus
flow_status job.Failed = ReadFault
flow_status (job.Refused refusal) = FlowRefused refusal
flow_status job.NoMemory = NoMemory

-- the status that tells why the text was not written
abbrev pub fault_status : OutFault → ChoosingStatus
fault_status output.Failed = WriteFault
fault_status output.NoMemory = NoMemory

-- how often a folder has failed that fails once where the status tells it, and else never
abbrev pub fetch_faults_told : ChoosingStatus → ℕ → ℕ
fetch_faults_told ReadFault count = one_more count
fetch_faults_told status count = count

-- the same where an error is the status with which a command ends
abbrev pub read_faults_by : {T : Type 0} → Result T ChoosingStatus → ℕ → ℕ
read_faults_by (Ok value) count = count
read_faults_by (Err status) count = fetch_faults_told status count

-- the line on the notes, ended by a line feed; none where all went well
abbrev pub ending_line : ChoosingStatus → List ℕ
ending_line Done = []
ending_line BadWords = codes "bad words\n"
ending_line (FlowRefused refusal) = flows.refusal_text refusal ++ codes "\n"
ending_line (OffersRefused refusal) = choices.choice_refusal_text refusal ++ codes "\n"
ending_line (CertificateRefused refusal) = choices.choice_refusal_text refusal ++ codes "\n"
ending_line ReadFault = codes "read fault\n"
ending_line WriteFault = codes "write fault\n"
ending_line NoMemory = codes "no memory\n"
ending_line NoChoice = codes "no choice\n"
ending_line NotShown = codes "not shown\n"

-- the line was written, or cut off by a fault of the sink
abbrev pub IsNoted : List ℕ → SinkView → SinkView → Type 0
IsNoted line before after = IsWritten line before after ⊎ ((fault : OutFault) × IsCutOff line fault before after)

-- the line of the status takes memory, since it has a word of its own
abbrev pub NamesRefusal : ChoosingStatus → Type 0
NamesRefusal status =
    ((refusal : Refusal) × (status ≡ FlowRefused refusal)) ⊎ ((refusal : ChoiceRefusal) × (status ≡ OffersRefused refusal))
    ⊎ ((refusal : ChoiceRefusal) × (status ≡ CertificateRefused refusal))

-- the status that is answered is the one that was, or that of want of memory where its line takes memory
abbrev pub IsToldStatus : ChoosingStatus → ChoosingStatus → Type 0
IsToldStatus status result = (result ≡ status) ⊎ (NamesRefusal status × (result ≡ NoMemory))

-- The status of a command, and the line that stands for it.
use Rattle.std.specs.Prelude.{◌≡◌, ◌⊎◌, ℕ, List, [], ◌∷◌, ◌++◌, Option, Some, None, codes}
use Rattle.std.specs.Fmt.{decimal}
use Rattle.fw_outside.specs.Outside.{SinkView, one_more, TakesPrefix}
use Rattle.fw_lines.specs.declared.refusal.Code.{Code}
use Rattle.fw_lines.specs.declared.refusal.Code.TheVariants.{F1, F2, F3, F4, F5, F6, F7, F8, F9, F10, F11, F12, I1, I2, I3, I4, I5, S1, S2, S3, S4}
use Rattle.fw_lines.specs.declared.refusal.Refusal.{Refusal}
use Rattle.fw_lines.specs.Refusal.{refusal_text}
use Rattle.fw_run.specs.declared.status.Status.{Status}
use Rattle.fw_run.specs.declared.status.Status.TheVariants.{Done, BadWords, Refused, ReadFault, WriteFault, StoreFault, Damaged, DamagedRoot, NoMemory, ForeignRoot}
use Rattle.fw_command.specs.Writing.{IsWritten}

-- 3 for a flow that is refused, 4 for inputs, 5 for a schedule
abbrev pub refusal_number : Code → ℕ
refusal_number F1 = 3
refusal_number F2 = 3
refusal_number F3 = 3
refusal_number F4 = 3
refusal_number F5 = 3
refusal_number F6 = 3
refusal_number F7 = 3
refusal_number F8 = 3
refusal_number F9 = 3
refusal_number F10 = 3
refusal_number F11 = 3
refusal_number F12 = 3
refusal_number I1 = 4
refusal_number I2 = 4
refusal_number I3 = 4
refusal_number I4 = 4
refusal_number I5 = 4
refusal_number S1 = 5
refusal_number S2 = 5
refusal_number S3 = 5
refusal_number S4 = 5

-- the number of a status
abbrev pub status_number : Status → ℕ
status_number Done = 0
status_number BadWords = 2
status_number (Refused refusal) = refusal_number refusal.code
status_number ReadFault = 6
status_number WriteFault = 7
status_number StoreFault = 8
status_number (Damaged id) = 9
status_number (DamagedRoot id) = 9
status_number NoMemory = 10
status_number ForeignRoot = 11

-- the refusal that a status tells, if it tells one
abbrev pub refusal_of : Status → Option Refusal
refusal_of (Refused refusal) = Some refusal
refusal_of status = None

-- how often a folder has failed that fails once where the status tells it, and else never
abbrev pub read_faults_told : Status → ℕ → ℕ
read_faults_told ReadFault count = one_more count
read_faults_told status count = count

-- the same of the output
abbrev pub write_faults_told : Status → ℕ → ℕ
write_faults_told WriteFault count = one_more count
write_faults_told status count = count

-- the same of the store
abbrev pub store_faults_told : Status → ℕ → ℕ
store_faults_told StoreFault count = one_more count
store_faults_told status count = count

-- the line on the notes, ended by a line feed; none where all went well
abbrev pub note_line : Status → List ℕ
note_line Done = []
note_line BadWords = codes "bad words\n"
note_line (Refused refusal) = refusal_text refusal ++ codes "\n"
note_line ReadFault = codes "read fault\n"
note_line WriteFault = codes "write fault\n"
note_line StoreFault = codes "store fault\n"
note_line (Damaged id) = codes "damaged record " ++ decimal id ++ codes "\n"
note_line (DamagedRoot id) = codes "damaged root " ++ decimal id ++ codes "\n"
note_line NoMemory = codes "no memory\n"
note_line ForeignRoot = codes "foreign root\n"

-- The line was written, or cut off by one refusal: the sink took first bytes of it, refused once more, and failed once more too or
-- refused for want of memory.
abbrev pub IsTold : List ℕ → SinkView → SinkView → Type 0
IsTold line before after = IsWritten line before after
    ⊎ (TakesPrefix before.taken line after.taken × (after.refusals ≡ one_more before.refusals)
    × ((after.faults ≡ one_more before.faults) ⊎ (after.faults ≡ before.faults)))

-- the numbers that a status may have
abbrev pub status_numbers : List ℕ
status_numbers = 0 ∷ 2 ∷ 3 ∷ 4 ∷ 5 ∷ 6 ∷ 7 ∷ 8 ∷ 9 ∷ 10 ∷ 11 ∷ []

-- the line of the status has a word of its own, so that it takes memory
abbrev pub HasWord : Status → Type 0
HasWord status = ((refusal : Refusal) × (status ≡ Refused refusal)) ⊎ (((id : ℕ) × (status ≡ Damaged id)) ⊎ ((id : ℕ) × (status ≡ DamagedRoot id)))

-- the status tells of a root: it is one of `hold` alone
abbrev pub TellsOfRoot : Status → Type 0
TellsOfRoot status = ((id : ℕ) × (status ≡ DamagedRoot id)) ⊎ (status ≡ ForeignRoot)

-- the status that is answered is the one that was, or that of want of memory where its line takes memory
abbrev pub IsTellingOf : Status → Status → Type 0
IsTellingOf status result = (result ≡ status) ⊎ (HasWord status × (result ≡ NoMemory))

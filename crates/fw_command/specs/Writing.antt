-- What was written to a sink.
use Rattle.std.specs.Prelude.{◌≡◌, ◌⊎◌, ℕ, ◌≤◌, List, Result, Ok, Err}
use Rattle.fw_outside.specs.declared.fault.OutFault.{OutFault}
use Rattle.fw_outside.specs.declared.fault.OutFault.TheVariants.{Failed, NoMemory}
use Rattle.fw_outside.specs.Outside.{SinkView, Takes, TakesPrefix, one_more}

-- neither the sink's count of faults nor that of refusals fell
pub record NeverFall (before after : SinkView) : Type 0 where
  pub faults : before.faults ≤ after.faults
  pub refusals : before.refusals ≤ after.refusals

-- how often a sink has failed after what this fault ended: once more where the fault is its own, and else as often as before
abbrev pub faults_by : OutFault → ℕ → ℕ
faults_by Failed count = one_more count
faults_by NoMemory count = count

-- how often it has refused a write then: once more where it failed; where memory was refused once more, or, if it was not asked, as
-- often as before
abbrev pub IsRefusedBy : OutFault → ℕ → ℕ → Type 0
IsRefusedBy Failed before after = after ≡ one_more before
IsRefusedBy NoMemory before after = (after ≡ before) ⊎ (after ≡ one_more before)

-- the sink took all of these bytes, and refused no write
pub record IsWritten (bytes : List ℕ) (before after : SinkView) : Type 0 where
  pub taken : Takes before.taken bytes after.taken
  pub none_refused : after.refusals ≡ before.refusals
  pub none_failed : after.faults ≡ before.faults

-- the sink took first of these bytes, none of them or all perhaps, and refused no write
pub record IsPartWritten (bytes : List ℕ) (before after : SinkView) : Type 0 where
  pub taken : TakesPrefix before.taken bytes after.taken
  pub none_refused : after.refusals ≡ before.refusals
  pub none_failed : after.faults ≡ before.faults

-- the sink took first of these bytes, none of them or all perhaps, until this fault; its counts tell one of its own
pub record IsCutOff (bytes : List ℕ) (fault : OutFault) (before after : SinkView) : Type 0 where
  pub taken : TakesPrefix before.taken bytes after.taken
  pub faults : after.faults ≡ faults_by fault before.faults
  pub refusals : IsRefusedBy fault before.refusals after.refusals

-- what an answer says of the bytes: they were written, or cut off by a fault
abbrev pub Writes : {T : Type 0} → List ℕ → Result T OutFault → SinkView → SinkView → Type 0
Writes bytes (Ok value) before after = IsWritten bytes before after
Writes bytes (Err fault) before after = IsCutOff bytes fault before after

-- a text of which the one is true was written, or cut off, as the other says
pub record WritesText (IsWanted IsPut : List ℕ → Type 0) : Type 0 where
  pub printed : List ℕ
  pub text : IsWanted printed
  pub written : IsPut printed

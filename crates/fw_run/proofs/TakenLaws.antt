-- What a sink took of what is printed before a run ended.
use Rattle.std.proofs.Common.{◌≡◌, inl, ℕ, List, [], ◌++◌, take, drop, Result, Err, refl, sym, ◌∙◌, ap, subst}
use Rattle.std.proofs.lemmas.List.{append-nil, take-append-drop}
use Rattle.fw_outside.specs.declared.fault.OutFault.{OutFault}
use Rattle.fw_outside.specs.declared.fault.OutFault.TheVariants.{NoMemory}
use Rattle.fw_outside.specs.Outside.{SinkView}
use Rattle.fw_command.specs.Writing.{faults_by, IsRefusedBy, IsWritten, IsCutOff}
use Rattle.fw_command.proofs.WritingLaws.{takes_first, takes_more, takes_none, written_more}
use Rattle.fw_hold.specs.Going.{IsCutIn}
use Rattle.fw_run.specs.declared.fault.RunFault.{RunFault}
use Rattle.fw_run.specs.declared.fault.RunFault.TheVariants.{Out, Engine}
use Rattle.fw_run.specs.Performing.{IsCutAfter, IsTaken, WritesUntil}

-- ---- what was taken before a fault

-- nothing was written
pub taken_nothing : (view : SinkView) → IsCutAfter [] NoMemory view view
taken_nothing view = record { taken = takes_none view.taken; faults = refl; refusals = inl refl }

-- bytes were written, and then others before a fault
pub taken_more : (one other : List ℕ) (fault : OutFault) (before mid after : SinkView) → IsWritten one before mid → IsCutAfter other fault mid after → IsCutAfter (one ++ other) fault before after
taken_more one other fault before mid after w c = record {
  taken = takes_more before.taken mid.taken after.taken one other w.taken c.taken;
  faults = c.faults ∙ ap (faults_by fault) w.none_failed;
  refusals = subst (λ n. IsRefusedBy fault n after.refusals) w.none_refused c.refusals;
}

-- the same of each fault of a run
pub taken_on : (A B : Type 0) (one other : List ℕ) (fault : RunFault) (before mid after : SinkView) → IsWritten one before mid → IsTaken {T = A} other (Err fault) mid after
    → IsTaken {T = B} (one ++ other) (Err fault) before after
taken_on A B one other (Out fault) before mid after w t = taken_more one other fault before mid after w t
taken_on A B one other (Engine fault) before mid after w t = written_more one other before mid after w t

-- what was taken of bytes that were cut off, and what was not
pub record IsCutAt (bytes : List ℕ) (fault : OutFault) (before after : SinkView) : Type 0 where
  pub one : List ℕ
  pub other : List ℕ
  pub parts : bytes ≡ one ++ other
  pub taken : IsCutAfter one fault before after

pub taken_part : (bytes : List ℕ) (fault : OutFault) (before after : SinkView) → IsCutOff bytes fault before after → IsCutAt bytes fault before after
taken_part bytes fault before after c = record {
  one = take c.taken.0 bytes;
  other = drop c.taken.0 bytes;
  parts = sym (take-append-drop c.taken.0 bytes);
  taken = record { taken = c.taken.2; faults = c.faults; refusals = c.refusals };
}

-- a text was written, and a line behind it cut off
pub line_cut : (text line : List ℕ) (fault : OutFault) (before mid after : SinkView) → IsWritten text before mid → IsCutOff line fault mid after → IsCutIn text line fault before after
line_cut text line fault before mid after w c = record {
  part = take c.taken.0 line;
  left = drop c.taken.0 line;
  parts = sym (take-append-drop c.taken.0 line);
  taken = takes_more before.taken mid.taken after.taken text (take c.taken.0 line) w.taken c.taken.2;
  faults = subst (λ (n : ℕ). after.faults ≡ faults_by fault n) w.none_failed c.faults;
  refusals = subst (λ (n : ℕ). IsRefusedBy fault n after.refusals) w.none_refused c.refusals;
}

-- where nothing stands behind bytes they were written, or cut off
pub written_alone : {bytes : List ℕ} {before after : SinkView} → IsWritten (bytes ++ []) before after → IsWritten bytes before after
written_alone {bytes} {before} {after} w = subst (λ (b : List ℕ). IsWritten b before after) (append-nil bytes) w

pub cut_alone : {bytes : List ℕ} {fault : OutFault} {before after : SinkView} → IsCutOff (bytes ++ []) fault before after → IsCutOff bytes fault before after
cut_alone {bytes} {fault} {before} {after} c = subst (λ (b : List ℕ). IsCutOff b fault before after) (append-nil bytes) c

-- ---- first bytes

-- so they are where more was to be written
pub until_of-taken : (T A : Type 0) (one other : List ℕ) (fault : RunFault) (before after : SinkView) → IsTaken {T = A} one (Err fault) before after
    → WritesUntil {T = T} (one ++ other) (Err fault) before after
until_of-taken T A one other (Out fault) before after c = record {
  taken = takes_first before.taken after.taken one other c.taken;
  faults = c.faults;
  refusals = c.refusals;
}
until_of-taken T A one other (Engine fault) before after w = record {
  taken = takes_first before.taken after.taken one other w.taken;
  none_refused = w.none_refused;
  none_failed = w.none_failed;
}

-- and where no more was
pub until_all : (T A : Type 0) (bytes : List ℕ) (fault : RunFault) (before after : SinkView) → IsTaken {T = A} bytes (Err fault) before after
    → WritesUntil {T = T} bytes (Err fault) before after
until_all T A bytes fault before after t =
    subst (λ (b : List ℕ). WritesUntil {T = T} b (Err fault) before after) (append-nil bytes) (until_of-taken T A bytes [] fault before after t)

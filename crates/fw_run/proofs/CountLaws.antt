-- How often the folder, the output and the notes failed, and that no count falls.
use Rattle.std.proofs.Common.{◌≡◌, inl, inr, ◌⊎◌, ℕ, ◌≤◌, List, Err, refl, sym, ◌∙◌, ap, subst, arith}
use Rattle.fw_outside.specs.declared.fault.OutFault.TheVariants as output
use Rattle.fw_outside.specs.Outside.{SinkView, one_more}
use Rattle.fw_lines.specs.declared.refusal.Refusal.{Refusal}
use Rattle.fw_running.specs.declared.fault.EngineFault.TheVariants as engine
use Rattle.fw_run.proofs.FaultCounts.{never_falls-one}
use Rattle.fw_run.specs.declared.fault.RunFault.{RunFault}
use Rattle.fw_run.specs.declared.fault.RunFault.TheVariants.{Out, Engine}
use Rattle.fw_run.specs.declared.status.Status.{Status}
use Rattle.fw_run.specs.declared.status.Status.TheVariants.{Done, BadWords, Refused, ReadFault, WriteFault, StoreFault, Damaged, DamagedRoot, NoMemory, ForeignRoot}
use Rattle.fw_run.specs.Call.{CountsWrites}
use Rattle.fw_run.specs.Fault.{status_of}
use Rattle.fw_run.specs.Performing.{WritesUntil}
use Rattle.fw_run.specs.Status.{HasWord, IsTellingOf, IsTold, read_faults_told, write_faults_told}
use Rattle.fw_command.specs.Writing.{NeverFall, IsWritten}

-- ---- how often the folder failed

-- a status that tells a fault of a run tells none of the folder
pub read_told-none : (f : RunFault) (count : ℕ) → read_faults_told (status_of f) count ≡ count
read_told-none (Out output.Failed) count = refl
read_told-none (Out output.NoMemory) count = refl
read_told-none (Engine engine.StoreFault) count = refl
read_told-none (Engine (engine.Damaged id)) count = refl
read_told-none (Engine engine.NoMemory) count = refl

-- and so once the status is told
pub read_told : (status result : Status) (before after : ℕ) → IsTellingOf status result → after ≡ read_faults_told status before → after ≡ read_faults_told result before
read_told status result before after (inl e) k = subst (λ (s : Status). after ≡ read_faults_told s before) (sym e) k
read_told status result before after (inr (inl (refusal, e), m)) k = k ∙ ap (λ (s : Status). read_faults_told s before) e ∙ sym (ap (λ (s : Status). read_faults_told s before) m)
read_told status result before after (inr (inr (inl (id, e)), m)) k = k ∙ ap (λ (s : Status). read_faults_told s before) e ∙ sym (ap (λ (s : Status). read_faults_told s before) m)
read_told status result before after (inr (inr (inr (id, e)), m)) k = k ∙ ap (λ (s : Status). read_faults_told s before) e ∙ sym (ap (λ (s : Status). read_faults_told s before) m)

-- ---- how often the output failed

write_not_memory : WriteFault ≡ NoMemory → ⊥
write_not_memory e = absurd (cc)

-- all was written
pub writes_all : (bytes : List ℕ) (before after : SinkView) → IsWritten bytes before after → CountsWrites Done before after
writes_all bytes before after w = record { faults = w.none_failed; refusals = λ m. w.none_refused; no_memory = λ m. inl w.none_refused }

-- or some, until a fault
pub writes_until : (T : Type 0) (bytes : List ℕ) (f : RunFault) (before after : SinkView) → WritesUntil {T = T} bytes (Err f) before after → CountsWrites (status_of f) before after
writes_until T bytes (Out output.Failed) before after w = record { faults = w.faults; refusals = λ m. w.refusals; no_memory = λ m. absurd (write_not_memory m) }
writes_until T bytes (Out output.NoMemory) before after w = record { faults = w.faults; refusals = λ m. absurd (m refl); no_memory = λ m. w.refusals }
writes_until T bytes (Engine engine.StoreFault) before after w = record { faults = w.none_failed; refusals = λ m. w.none_refused; no_memory = λ m. inl w.none_refused }
writes_until T bytes (Engine (engine.Damaged id)) before after w = record { faults = w.none_failed; refusals = λ m. w.none_refused; no_memory = λ m. inl w.none_refused }
writes_until T bytes (Engine engine.NoMemory) before after w = record { faults = w.none_failed; refusals = λ m. w.none_refused; no_memory = λ m. inl w.none_refused }

-- and so once the status is told
pub writes_told : (status result : Status) (before after : SinkView) → IsTellingOf status result → CountsWrites status before after → CountsWrites result before after
writes_told status result before after (inl e) k = subst (λ (s : Status). CountsWrites s before after) (sym e) k
writes_told status result before after (inr t) k = subst (λ (s : Status). CountsWrites s before after) (sym t.1) (at t.0)
  where
    of_word : (s : Status) → (s ≡ NoMemory → ⊥) → ((count : ℕ) → write_faults_told s count ≡ count) → CountsWrites s before after → CountsWrites NoMemory before after
    of_word s other quiet c = record {
      faults = c.faults ∙ quiet before.faults;
      refusals = λ m. absurd (m refl);
      no_memory = λ m. inl (c.refusals other ∙ quiet before.refusals);
    }

    refused_not_memory : (refusal : Refusal) → Refused refusal ≡ NoMemory → ⊥
    refused_not_memory refusal m = absurd (cc)

    damaged_not_memory : (id : ℕ) → Damaged id ≡ NoMemory → ⊥
    damaged_not_memory id m = absurd (cc)

    root_not_memory : (id : ℕ) → DamagedRoot id ≡ NoMemory → ⊥
    root_not_memory id m = absurd (cc)

    at : HasWord status → CountsWrites NoMemory before after
    at (inl (refusal, e)) = of_word (Refused refusal) (refused_not_memory refusal) (λ count. refl) (subst (λ (s : Status). CountsWrites s before after) e k)
    at (inr (inl (id, e))) = of_word (Damaged id) (damaged_not_memory id) (λ count. refl) (subst (λ (s : Status). CountsWrites s before after) e k)
    at (inr (inr (id, e))) = of_word (DamagedRoot id) (root_not_memory id) (λ count. refl) (subst (λ (s : Status). CountsWrites s before after) e k)

-- ---- no count falls

pub never_falls-read : (status : Status) (before after : ℕ) → after ≡ read_faults_told status before → before ≤ after
never_falls-read Done before after e = omega (arith, e)
never_falls-read BadWords before after e = omega (arith, e)
never_falls-read (Refused refusal) before after e = omega (arith, e)
never_falls-read ReadFault before after e = subst (λ (n : ℕ). before ≤ n) (sym e) (never_falls-one before)
never_falls-read WriteFault before after e = omega (arith, e)
never_falls-read StoreFault before after e = omega (arith, e)
never_falls-read (Damaged id) before after e = omega (arith, e)
never_falls-read (DamagedRoot id) before after e = omega (arith, e)
never_falls-read NoMemory before after e = omega (arith, e)
never_falls-read ForeignRoot before after e = omega (arith, e)

-- nor one of the output
same_or_more : (before after : ℕ) → (after ≡ before) ⊎ (after ≡ one_more before) → before ≤ after
same_or_more before after (inl e) = omega (arith, e)
same_or_more before after (inr e) = subst (λ (n : ℕ). before ≤ n) (sym e) (never_falls-one before)

write_told-more : (status : Status) (before after : ℕ) → after ≡ write_faults_told status before → (after ≡ before) ⊎ (after ≡ one_more before)
write_told-more Done before after e = inl e
write_told-more BadWords before after e = inl e
write_told-more (Refused refusal) before after e = inl e
write_told-more ReadFault before after e = inl e
write_told-more WriteFault before after e = inr e
write_told-more StoreFault before after e = inl e
write_told-more (Damaged id) before after e = inl e
write_told-more (DamagedRoot id) before after e = inl e
write_told-more NoMemory before after e = inl e
write_told-more ForeignRoot before after e = inl e

refusals_more : (status : Status) (before after : SinkView) → CountsWrites status before after → (after.refusals ≡ before.refusals) ⊎ (after.refusals ≡ one_more before.refusals)
refusals_more Done before after k = write_told-more Done before.refusals after.refusals (k.refusals (λ m. absurd (cc)))
refusals_more BadWords before after k = write_told-more BadWords before.refusals after.refusals (k.refusals (λ m. absurd (cc)))
refusals_more (Refused refusal) before after k = write_told-more (Refused refusal) before.refusals after.refusals (k.refusals (λ m. absurd (cc)))
refusals_more ReadFault before after k = write_told-more ReadFault before.refusals after.refusals (k.refusals (λ m. absurd (cc)))
refusals_more WriteFault before after k = write_told-more WriteFault before.refusals after.refusals (k.refusals (λ m. absurd (cc)))
refusals_more StoreFault before after k = write_told-more StoreFault before.refusals after.refusals (k.refusals (λ m. absurd (cc)))
refusals_more (Damaged id) before after k = write_told-more (Damaged id) before.refusals after.refusals (k.refusals (λ m. absurd (cc)))
refusals_more (DamagedRoot id) before after k = write_told-more (DamagedRoot id) before.refusals after.refusals (k.refusals (λ m. absurd (cc)))
refusals_more NoMemory before after k = k.no_memory refl
refusals_more ForeignRoot before after k = write_told-more ForeignRoot before.refusals after.refusals (k.refusals (λ m. absurd (cc)))

pub never_fall-out : (status : Status) (before after : SinkView) → CountsWrites status before after → NeverFall before after
never_fall-out status before after k = record {
  faults = same_or_more before.faults after.faults (write_told-more status before.faults after.faults k.faults);
  refusals = same_or_more before.refusals after.refusals (refusals_more status before after k);
}

-- nor one of the notes
pub never_fall-notes : (line : List ℕ) (before after : SinkView) → IsTold line before after → NeverFall before after
never_fall-notes line before after (inl w) = record { faults = same_or_more before.faults after.faults (inl w.none_failed); refusals = same_or_more before.refusals after.refusals (inl w.none_refused) }
never_fall-notes line before after (inr (taken, refused, failed)) = record {
  faults = same_or_more before.faults after.faults (elim failed [ inl e ↦ inr e | inr e ↦ inl e ]);
  refusals = same_or_more before.refusals after.refusals (inr refused);
}

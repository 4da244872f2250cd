-- What a call answers: one record of all that is promised of it.
use Rattle.std.specs.Prelude.{◌≡◌, ◌⊎◌, ◌≤◌, ◌↔◌, ℕ, List, Option, None, IsSome}
use Rattle.fw_outside.specs.declared.fault.OutFault.TheVariants as output
use Rattle.fw_outside.specs.Outside.{StoreView, SinkView}
use Rattle.fw_lines.specs.declared.refusal.Refusal.{Refusal}
use Rattle.fw_run.specs.declared.status.Status.{Status}
use Rattle.fw_run.specs.declared.status.Status.TheVariants.{Done, BadWords, Refused, WriteFault, StoreFault, Damaged, NoMemory}
use Rattle.fw_run.specs.Call.{Call, AnswersTexts, CountsFaults, CountsWrites, PrintsAll, PrintsPart, PrintsFirst, LeavesStore, StopsAtOutput, StopsAtStore, StopsAtDamage, HasRefused, KeepsFolder, KeepsStore}
use Rattle.fw_run.specs.Status.{TellsOfRoot, read_faults_told, status_number}
use Rattle.fw_command.specs.Command.{IsUnseen}
use Rattle.fw_command.specs.Writing.{NeverFall}

-- what is outside of a call: a folder, a store and an output
pub record Outside (F K O : Type 0) : Type 0 where
  pub folder : F
  pub store : K
  pub out : O

-- What is known of it: the folder's texts, where it tells them, how often it was asked and how often it failed; what is known of the
-- store; and of the output.
pub record Known (F K O : Type 0) : Type 0 where
  pub texts : F → Option (List ℕ → Option (List ℕ))
  pub fetches : F → ℕ
  pub read_faults : F → ℕ
  pub store : K → StoreView
  pub out : O → SinkView

abbrev pub outside_of : {F K O : Type 0} → F → K → O → Outside F K O
outside_of folder store out = record { folder = folder; store = store; out = out }

abbrev pub known_by : {F K O : Type 0} → (F → Option (List ℕ → Option (List ℕ))) → (F → ℕ) → (F → ℕ) → (K → StoreView) → (O → SinkView) → Known F K O
known_by texts fetches read_faults store out =
    record { texts = texts; fetches = fetches; read_faults = read_faults; store = store; out = out }

-- the store tells its records
abbrev pub TellsRecords : {F K O : Type 0} → Known F K O → Outside F K O → Type 0
TellsRecords known outside = IsSome (known.store outside.store).records

-- What is true of a call with this status, by what the store and the folder tell at its end.
pub record RunAnswers {F K O : Type 0} (known : Known F K O) (call : Call) (before : Outside F K O) (status : Status) (after : Outside F K O)
    : Type 0 where
  -- 0: all that the command prints of accepted texts was written, and no write was refused; and a run left in the store the
  -- records of what its nodes wrote, and behind a collection no others. What a run prints is known where the store tells its records, or no recovery reads a
  -- checkpoint; else a run whose steps are seen promises the lines up to the first recovery that reads one.
  pub done : status ≡ Done → PrintsAll (TellsRecords known after) call (known.out before.out) (known.out after.out)
  pub stored : status ≡ Done
      → LeavesStore (TellsRecords known after) call (known.store after.store).records (known.out before.out) (known.out after.out)
  -- 2: exactly where the words are no command.
  pub bad_words : (status ≡ BadWords) ↔ (call.command ≡ None)
  -- 3 to 5: the first of the texts that is not accepted breaks this rule first, on this line.
  pub refused : (refusal : Refusal) → status ≡ Refused refusal → HasRefused call refusal
  -- 6: the folder failed. Its count of faults is one more there, and at no other status.
  pub read_fault : known.read_faults after.folder ≡ read_faults_told status (known.read_faults before.folder)
  -- 7: the output failed, and first bytes of what is printed were written.
  pub write_fault : status ≡ WriteFault → PrintsPart (TellsRecords known after) call (known.store before.store).faults
      (known.store after.store).faults output.Failed (known.out before.out) (known.out after.out)
  -- Of a run: the lines of all steps that were taken but the last were written, and the output failed in those of the last, or in the
  -- last line; as many faults of the store were told until then as its count rose by; and the store holds the records of what its nodes
  -- wrote until then, and behind a collection no others. That is known as at 0, up to the item in which the output failed.
  pub last_taken : status ≡ WriteFault → StopsAtOutput (TellsRecords known after) call (known.store before.store).faults
      (known.store after.store).faults (known.store after.store).records (known.out before.out) (known.out after.out)
  -- 8: the store failed, in a step that may call it. A run ends there: the step asks for a write, or is a recovery that reads a record or a
  -- collection (which sweeps where it is idle too), the lines of the steps before were written (of generated texts nothing), and the store
  -- holds the records of what this step leaves. `endure` goes on to its end: all was written, with a line for each step in which the store
  -- failed, and the store holds the records of what its nodes wrote, and behind a collection no others. That is known where the store tells its records, or no recovery before that step
  -- (of `endure`: none at all) reads a checkpoint; else `run` promises the lines up to the first recovery that reads one, and `endure`
  -- those of what it prints (`store_part`). Which records the store holds is said only where it tells them.
  pub store_fault : status ≡ StoreFault → StopsAtStore (TellsRecords known after) call (known.store before.store).faults
      (known.store after.store).faults (known.store after.store).records (known.out before.out) (known.out after.out)
  -- 9: in a recovery the store, which does not tell its records, gave under this id bytes that spell no record of the entry with
  -- the id. Where no recovery before reads a checkpoint, this one is enabled, the entry is that of a write, and the lines of the
  -- steps before were written (of generated texts nothing); else these promise the lines up to the first that reads one.
  pub damaged : (id : ℕ) → status ≡ Damaged id → StopsAtDamage (TellsRecords known after) call (known.store before.store).faults
      (known.store after.store).faults id (known.store after.store).given (known.out before.out) (known.out after.out)
  -- 8 and 9: no write was refused, whatever the store tells; and first bytes of what is printed were written, as far as that is
  -- known.
  pub store_part : 8 ≤ status_number status → status_number status ≤ 9 → PrintsFirst (TellsRecords known after) call
      (known.store before.store).faults (known.store after.store).faults (known.out before.out) (known.out after.out)
  -- 9 `damaged root` and 11: of `hold` alone.
  pub no_root : TellsOfRoot status → ⊥
  -- 10: at any time; nothing was written, or first bytes.
  pub no_memory : status ≡ NoMemory → (after.out ≡ before.out) ⊎ PrintsPart (TellsRecords known after) call (known.store before.store).faults
      (known.store after.store).faults output.NoMemory (known.out before.out) (known.out after.out)
  -- At 2 to 6 nothing was written, nor at 8 and 9 by a command that tells no step. Whatever the status: what was asked
  -- of the folder, that only a run changes the store, how often the store and the output failed, and that no count of faults, nor one
  -- of refusals, falls.
  pub nothing_out : 2 ≤ status_number status → status_number status ≤ 6 → after.out ≡ before.out
  pub nothing_told : IsUnseen call.command → 8 ≤ status_number status → status_number status ≤ 9 → after.out ≡ before.out
  pub folder : KeepsFolder known.texts known.fetches call.command status before.folder after.folder
  pub store : KeepsStore call.command status before.store after.store
  pub store_count : CountsFaults call.command status (known.store before.store).faults (known.store after.store).faults
  pub out_count : CountsWrites status (known.out before.out) (known.out after.out)
  pub never_fall : (known.read_faults before.folder ≤ known.read_faults after.folder)
      × ((known.store before.store).faults ≤ (known.store after.store).faults) × NeverFall (known.out before.out) (known.out after.out)
  -- a store that tells its records at the end told them before: it may cease to tell them, and does not begin
  pub told_before : TellsRecords known after → TellsRecords known before
  -- Which texts are refused and of which all is printed.
  pub answer : AnswersTexts (TellsRecords known after) call status

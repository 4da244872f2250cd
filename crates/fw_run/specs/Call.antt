-- What a call of `falkirk` promises of its words, its texts and what is outside.
use Rattle.std.specs.Prelude.{◌≡◌, ◌≢◌, ◌⊎◌, ◌≤◌, ℕ, Bool, true, List, Option, Some, None, IsSome, option_map, option_and_then}
use Rattle.std.specs.Borrow.{Bor}
use Rattle.fw_flow.specs.Dataflow.{Dataflow, System}
use Rattle.fw_outside.specs.declared.fault.OutFault.{OutFault}
use Rattle.fw_outside.specs.Outside.{SinkView, one_more}
use Rattle.fw_lines.specs.declared.refusal.Refusal.{Refusal}
use Rattle.fw_schedule.specs.declared.item.Item.{Item}
use Rattle.fw_keep.specs.Stored.{Records}
use Rattle.fw_run.specs.declared.status.Status.{Status}
use Rattle.fw_run.specs.declared.status.Status.TheVariants.{Done, Refused, ReadFault, WriteFault, StoreFault, Damaged, NoMemory}
use Rattle.fw_command.specs.Command.{Command, Task, takes_steps, tells_denotation, lists_nodes, Manner, manner_of, GoesOnThrough, asks_folder}
use Rattle.fw_command.specs.DenotationText.{PrintsDenotation}
use Rattle.fw_run.specs.Ends.{PrintsOfRun, NoFaults, NoneLeft, SomeLeft, IsWholeRun, IsOutputFault, IsStoreFault, IsDamageIn}
use Rattle.fw_run.specs.Enduring.{RoseIfOn, RoseByFaults, RoseOrFull, StaysOrRose}
use Rattle.fw_command.specs.Listing.{check_text}
use Rattle.fw_run.specs.Status.{IsTold, write_faults_told, store_faults_told, note_line, status_number}
use Rattle.fw_generate.specs.Laws.{AreAccepted}
use Rattle.fw_generate.specs.Texts.{Texts}
use Rattle.fw_command.specs.Texts.{HasTexts, Accepts, Refuses, AsksNoMore, spelled_system, spelled_items}
use Rattle.fw_command.specs.Words.{command_of, words_in}
use Rattle.fw_command.specs.Writing.{IsWritten, IsPartWritten, IsCutOff, WritesText}

-- what a call is given: the command that its words are, if they are one, and the folder's texts, where it tells them
pub record Call : Type 0 where
  pub command : Option Command
  pub told : Option (List ℕ → Option (List ℕ))

-- the call with these words, where the folder tells this
abbrev pub call_of : List (Bor (List ℕ)) → Option (List ℕ → Option (List ℕ)) → Call
call_of words told = record { command = command_of (words_in words); told = told }

-- This is what a command prints of accepted texts, of which the flow's declares this dataflow; of a run, as far as it is known, it is first
-- bytes of that: the one is true of how many faults there are, by whether it goes on through them, the other of the bytes that are left.
abbrev pub Prints : Type 0 → (Bool → ℕ → Type 0) → (List ℕ → Type 0) → Task → Texts → Dataflow → List ℕ → Type 0
Prints Tells IsCount IsLeft (takes_steps manner) texts flow printed =
    PrintsOfRun Tells IsCount IsLeft manner (spelled_system flow texts) (spelled_items flow texts) printed
Prints Tells IsCount IsLeft tells_denotation texts flow printed = PrintsDenotation (spelled_system flow texts) printed
Prints Tells IsCount IsLeft lists_nodes texts flow printed = printed ≡ check_text flow

-- ---- the texts

-- the words are a command, which accepts these texts, which are there
pub record HasAccepted (call : Call) (texts : Texts) : Type 0 where
  pub command : Command
  pub words : call.command ≡ Some command
  pub there : HasTexts call.told command.texts texts
  pub flow : Dataflow
  pub accepted : Accepts command.texts texts flow

-- the words are a command, and the first of its texts that it does not accept is refused so
pub record HasRefused (call : Call) (refusal : Refusal) : Type 0 where
  pub command : Command
  pub words : call.command ≡ Some command
  pub first : Refuses call.told command.texts refusal

-- a record was damaged in a store that does not tell its records
abbrev pub IsDamageEnd : Type 0 → Status → Type 0
IsDamageEnd Tells status = ((id : ℕ) × (status ≡ Damaged id)) × (Tells → ⊥)

-- all of accepted texts was printed, or what is outside failed or memory was refused
abbrev pub IsRunEnd : Type 0 → Status → Type 0
IsRunEnd Tells status = (status ≡ Done)
    ⊎ ((status ≡ ReadFault) ⊎ ((status ≡ WriteFault) ⊎ ((status ≡ StoreFault) ⊎ (IsDamageEnd Tells status ⊎ (status ≡ NoMemory)))))

-- a text was refused so, or the folder failed or memory was refused
abbrev pub IsRefusalEnd : Refusal → Status → Type 0
IsRefusalEnd refusal status = (status ≡ Refused refusal) ⊎ ((status ≡ ReadFault) ⊎ (status ≡ NoMemory))

-- Texts that are there are accepted by a command, or one of them is the first that it refuses. Where the folder tells its texts, that
-- one is refused, and of accepted ones all is printed, also where the folder is not asked; unless what is outside fails or memory is
-- refused.
pub record AnswersTexts (Tells : Type 0) (call : Call) (status : Status) : Type 0 where
  pub decided : (command : Command) (texts : Texts) → HasTexts call.told command.texts texts
      → ((flow : Dataflow) × Accepts command.texts texts flow) ⊎ ((refusal : Refusal) × Refuses call.told command.texts refusal)
  pub refuses : (refusal : Refusal) → IsSome call.told → HasRefused call refusal → IsRefusalEnd refusal status
  pub completes : (texts : Texts) → (accepted : HasAccepted call texts) → (asks_folder accepted.command ≡ true → IsSome call.told) → IsRunEnd Tells status

-- ---- what is outside

-- the text that the call prints of the texts that it accepts: that of a run, as far as it is known; that of the denotation; or the list of
-- the flow's nodes
pub record IsPrintout (Tells : Type 0) (IsCount : Bool → ℕ → Type 0) (IsLeft : List ℕ → Type 0) (call : Call) (printed : List ℕ) : Type 0 where
  pub texts : Texts
  pub accepted : HasAccepted call texts
  pub text : Prints Tells IsCount IsLeft accepted.command.task texts accepted.flow printed

-- all that the call prints was written, and it tells no fault of the store
abbrev pub PrintsAll : Type 0 → Call → SinkView → SinkView → Type 0
PrintsAll Tells call before after =
    WritesText (IsPrintout Tells NoFaults NoneLeft call) (λ printed. IsWritten printed before after)

-- What the call prints was cut off by a fault: first bytes of it were written. As often as it tells that the store failed the store's
-- count rose, from the first number to the second.
abbrev pub PrintsPart : Type 0 → Call → ℕ → ℕ → OutFault → SinkView → SinkView → Type 0
PrintsPart Tells call count last fault before after =
    WritesText (IsPrintout Tells (RoseIfOn count last) SomeLeft call) (λ printed. IsCutOff printed fault before after)

-- First bytes of what the call prints were written, and no write was refused. As often as it tells that the store failed the store's
-- count rose, from the first number to the second.
abbrev pub PrintsFirst : Type 0 → Call → ℕ → ℕ → SinkView → SinkView → Type 0
PrintsFirst Tells call count last before after =
    WritesText (IsPrintout Tells (RoseIfOn count last) SomeLeft call) (λ printed. IsPartWritten printed before after)

-- the call takes the steps of accepted texts, and this is true of how it tells them, and of the system and the items that the texts
-- spell
pub record IsRunOf (call : Call) (IsSo : Manner → System → List Item → Type 0) : Type 0 where
  pub command : Command
  pub words : call.command ≡ Some command
  pub manner : Manner
  pub takes : manner_of command ≡ Some manner
  pub texts : Texts
  pub there : HasTexts call.told command.texts texts
  pub flow : Dataflow
  pub accepted : AreAccepted texts flow
  pub so : IsSo manner (spelled_system flow texts) (spelled_items flow texts)

-- a run left the writes of its last state in the store
abbrev pub LeavesStore : Type 0 → Call → Option Records → SinkView → SinkView → Type 0
LeavesStore Tells call records before after =
    (command : Command) → call.command ≡ Some command → IsSome (manner_of command) → IsRunOf call (IsWholeRun Tells records before after)

-- if the call is a run, its output failed in the lines of a step or in the last line; the store's count rose from the first number to the
-- second
abbrev pub StopsAtOutput : Type 0 → Call → ℕ → ℕ → Option Records → SinkView → SinkView → Type 0
StopsAtOutput Tells call count last records before after =
    (command : Command) → call.command ≡ Some command → IsSome (manner_of command) → IsRunOf call (IsOutputFault Tells count last records before after)

-- the call is a run, and its store failed
abbrev pub StopsAtStore : Type 0 → Call → ℕ → ℕ → Option Records → SinkView → SinkView → Type 0
StopsAtStore Tells call count last records before after = IsRunOf call (IsStoreFault Tells count last records before after)

-- the call is a run, and was ended by a damaged record; the store's count rose from the first number to the second
abbrev pub StopsAtDamage : Type 0 → Call → ℕ → ℕ → ℕ → Option (ℕ × List ℕ) → SinkView → SinkView → Type 0
StopsAtDamage Tells call count last id given before after = IsRunOf call (IsDamageIn Tells count last id given before after)

-- How often the store failed: where all went well, never; in a call that does not go on through faults, once where the status tells it,
-- and else never; in one that does, once at least where the status tells it. How often that was stands with what is printed, as far as
-- that is known. Where the status tells a fault the count rose, or stood at its end. Whatever the status, it stays or rises by faults.
pub record CountsFaults (command : Option Command) (status : Status) (before after : ℕ) : Type 0 where
  pub none : status ≡ Done → after ≡ before
  pub once : (GoesOnThrough command → ⊥) → after ≡ store_faults_told status before
  pub some : status ≡ StoreFault → RoseByFaults before after
  pub rose : status ≡ StoreFault → RoseOrFull before after
  pub rises : StaysOrRose before after

-- How often the output failed: once where the status tells it, and else never. How often it refused a write: once where the status
-- tells that it failed, once or never where memory was refused, and else never.
pub record CountsWrites (status : Status) (before after : SinkView) : Type 0 where
  pub faults : after.faults ≡ write_faults_told status before.faults
  pub refusals : status ≢ NoMemory → after.refusals ≡ write_faults_told status before.refusals
  pub no_memory : status ≡ NoMemory → (after.refusals ≡ before.refusals) ⊎ (after.refusals ≡ one_more before.refusals)

-- only a run changes the store, and none that was not begun
pub record KeepsStore {K : Type 0} (command : Option Command) (status : Status) (before after : K) : Type 0 where
  pub no_run : option_and_then manner_of command ≡ None → after ≡ before
  pub not_begun : 2 ≤ status_number status → status_number status ≤ 6 → after ≡ before

-- The folder keeps its texts. It was not asked where the words are no command or texts are generated, nor perhaps where memory was
-- refused. Else it was asked once; by a run or for a denotation a second time only where the flow is accepted; by a run a third time only
-- where the inputs are too, and no fourth.
pub record KeepsFolder {F : Type 0} (texts : F → Option (List ℕ → Option (List ℕ))) (fetch_count : F → ℕ) (command : Option Command) (status : Status)
    (before after : F) : Type 0 where
  pub texts_stay : texts after ≡ texts before
  pub nothing_read : option_map asks_folder command ≢ Some true → after ≡ before
  pub asked_no_more : (asked : Command) → command ≡ Some asked
      → ((status ≡ NoMemory) × (after ≡ before)) ⊎ AsksNoMore (texts before) asked.texts (fetch_count before) (fetch_count after)

-- The notes took the status's line, or first bytes of it where they refused it, once; they are as they were where all went well.
pub record TellsNotes {N : Type 0} (view : N → SinkView) (status : Status) (before after : N) : Type 0 where
  pub told : IsTold (note_line status) (view before) (view after)
  pub no_notes : status ≡ Done → after ≡ before

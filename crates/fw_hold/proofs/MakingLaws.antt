-- How moves of a held run come together.
use Rattle.std.proofs.Common.{◌≡◌, ℕ, List, [], ◌∷◌, ◌++◌, take, drop, Some, Result, Ok, Err, refl, sym, subst}
use Rattle.std.proofs.lemmas.List.{append-nil, take-append-drop}
use Rattle.std.specs.Prelude.{OnOk}
use Rattle.fw_outside.specs.declared.fault.OutFault.{OutFault}
use Rattle.fw_outside.specs.Outside.{SinkView}
use Rattle.fw_keep.specs.Stored.{Records}
use Rattle.fw_running.specs.declared.fault.EngineFault.{EngineFault}
use Rattle.fw_running.specs.declared.fault.EngineFault.TheVariants as engine
use Rattle.fw_command.proofs.WritingLaws.{written_nothing}
use Rattle.fw_command.specs.Writing.{IsWritten, IsCutOff}
use Rattle.fw_hold.specs.declared.fault.HoldFault.{HoldFault}
use Rattle.fw_hold.specs.declared.fault.HoldFault.TheVariants.{Engine}
use Rattle.fw_hold.specs.Going.{IsCutIn, WritesUpTo, HoldsKeptIn, MakesMoves}
use Rattle.fw_hold.specs.Kept.{HeldTexts, Found, HoldsKeptPoint, system_in}
use Rattle.fw_hold.specs.Moves.{Move, SchedulePoint, KeptPoint, Makes, kept_after, move_text}
use Rattle.fw_hold.proofs.MoveLaws.{makes_one, makes_none}

-- ---- none

-- the fault is not that of a record
abbrev pub IsUndamaged : EngineFault → Type 0
IsUndamaged engine.StoreFault = Unit {0}
IsUndamaged (engine.Damaged id) = ⊥
IsUndamaged engine.NoMemory = Unit {0}

nothing_wrote : (T : Type 0) (f : EngineFault) → IsUndamaged f → (lines : List ℕ) (view : SinkView) → WritesUpTo {T = T} [] lines (Err (Engine f)) view view
nothing_wrote T engine.StoreFault is lines view = written_nothing view
nothing_wrote T (engine.Damaged id) is lines view = is
nothing_wrote T engine.NoMemory is lines view = written_nothing view

-- no move was made: what was kept is kept, and nothing was written
pub no_move : (T : Type 0) (AreSo : List Move → Type 0) (texts : HeldTexts) (starts : ℕ) (kept : KeptPoint) (point : SchedulePoint) (f : EngineFault) (is : IsUndamaged f) (held : Records) (view : SinkView)
    (IsSo : KeptPoint → SchedulePoint → Type 0) → AreSo [] → (found : Found) × HoldsKeptPoint texts starts held found kept
    → MakesMoves {T = T} AreSo texts starts kept point (Err (Engine f)) (Some held) view view IsSo
no_move T AreSo texts starts kept point f is held view IsSo none holds = record {
  moves = [];
  now = kept;
  last = point;
  made = makes_none (system_in texts) texts.items kept point;
  are = none;
  cut = λ fault e. absurd (cc);
  holds = (holds.0, (held, refl, holds.1));
  wrote = nothing_wrote T f is kept.lines view;
  so = tt;
}

-- ---- one

-- a move was made that says nothing and is no turn
pub quiet_move : (T : Type 0) (value : T) (AreSo : List Move → Type 0) (texts : HeldTexts) (starts : ℕ) (kept : KeptPoint) (point : SchedulePoint) (move : Move) (to : SchedulePoint) (held : Records)
    (view : SinkView) (IsSo : KeptPoint → SchedulePoint → Type 0) → Makes (system_in texts) texts.items point move to → AreSo (move ∷ []) → move_text texts.flow move ≡ []
    → kept_after texts.flow kept move to ≡ kept → (found : Found) × HoldsKeptPoint texts starts held found kept → IsSo kept to
    → MakesMoves {T = T} AreSo texts starts kept point (Ok value) (Some held) view view IsSo
quiet_move T value AreSo texts starts kept point move to held view IsSo makes is silent same holds so = record {
  moves = move ∷ [];
  now = kept_after texts.flow kept move to;
  last = to;
  made = makes_one (system_in texts) texts.items kept point move to makes;
  are = is;
  cut = λ fault e none. absurd (cc);
  holds = subst (λ (k : KeptPoint). HoldsKeptIn texts starts (Some held) k) (sym same) (holds.0, (held, refl, holds.1));
  wrote = subst (λ t. IsWritten (t ++ []) view view) (sym silent) (written_nothing view);
  so = subst (λ (k : KeptPoint). IsSo k to) (sym same) so;
}

-- what an answer says of the lines of one turn
pub of_one : (T : Type 0) (lines : List ℕ) (answer : Result T HoldFault) (before after : SinkView) → WritesUpTo lines lines answer before after
    → WritesUpTo (lines ++ []) lines answer before after
of_one T lines answer before after w = subst (λ t. WritesUpTo t lines answer before after) (sym (append-nil lines)) w

-- lines that were cut off
pub cut_lines : (lines : List ℕ) (f : OutFault) (before after : SinkView) → IsCutOff lines f before after → IsCutIn [] lines f before after
cut_lines lines f before after c = record {
  part = take c.taken.0 lines;
  left = drop c.taken.0 lines;
  parts = sym (take-append-drop c.taken.0 lines);
  taken = c.taken.2;
  faults = c.faults;
  refusals = c.refusals;
}

-- a turn was made, and its root is kept
pub turn_move : (T : Type 0) (AreSo : List Move → Type 0) (texts : HeldTexts) (starts : ℕ) (kept : KeptPoint) (point : SchedulePoint) (move : Move) (to : SchedulePoint) (lines : List ℕ)
    (answer : Result T HoldFault) (held : Records) (before after : SinkView) (IsSo : KeptPoint → SchedulePoint → Type 0) → Makes (system_in texts) texts.items point move to → AreSo (move ∷ [])
    → move_text texts.flow move ≡ lines → kept_after texts.flow kept move to ≡ record { point = to; lines = lines }
    → (found : Found) × HoldsKeptPoint texts starts held found (record { point = to; lines = lines }) → WritesUpTo lines lines answer before after
    → OnOk answer (IsSo (record { point = to; lines = lines }) to) → MakesMoves {T = T} AreSo texts starts kept point answer (Some held) before after IsSo
turn_move T AreSo texts starts kept point move to lines answer held before after IsSo makes is text keeps holds wrote so = record {
  moves = move ∷ [];
  now = kept_after texts.flow kept move to;
  last = to;
  made = makes_one (system_in texts) texts.items kept point move to makes;
  are = is;
  cut = λ fault e none. absurd (cc);
  holds = subst (λ (k : KeptPoint). HoldsKeptIn texts starts (Some held) k) (sym keeps) (holds.0, (held, refl, holds.1));
  wrote = subst (λ (k : KeptPoint). WritesUpTo (move_text texts.flow move ++ []) k.lines answer before after) (sym keeps)
      (subst (λ t. WritesUpTo (t ++ []) lines answer before after) (sym text) (of_one T lines answer before after wrote));
  so = subst (λ (k : KeptPoint). OnOk answer (IsSo k to)) (sym keeps) so;
}

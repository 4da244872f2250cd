-- How a start that has begun goes on, and how it ends.
use Rattle.std.proofs.Common.{◌≡◌, inl, inr, ℕ, ◌+◌, ◌≤◌, List, [], ◌∷◌, ◌++◌, length, Option, Ok, Err, refl, sym, ◌∙◌, ap, subst, arith, append_assoc}
use Rattle.std.specs.Prelude.{IsErrOf}
use Rattle.std.proofs.lemmas.List.{append-nil}
use Rattle.fw_outside.specs.declared.fault.OutFault.{OutFault}
use Rattle.fw_outside.specs.Outside.{SinkView}
use Rattle.fw_flow.specs.declared.choice.Choice.{Choice}
use Rattle.fw_flow.specs.Dataflow.{Dataflow}
use Rattle.fw_keep.specs.Catalogue.{KeepState}
use Rattle.fw_keep.specs.Stored.{Records}
use Rattle.fw_root.specs.declared.root.Root.{Root}
use Rattle.fw_running.specs.declared.fault.EngineFault.TheVariants as engine
use Rattle.fw_command.proofs.WritingLaws.{written_more, written_nothing}
use Rattle.fw_command.specs.Writing.{IsWritten}
use Rattle.fw_hold.specs.declared.fault.HoldFault.{HoldFault}
use Rattle.fw_hold.specs.declared.fault.HoldFault.TheVariants.{Out, Engine, DamagedRoot, ForeignRoot}
use Rattle.fw_hold.specs.declared.place.HeldCounts.{HeldCounts}
use Rattle.fw_hold.specs.declared.place.SchedulePlace.{SchedulePlace}
use Rattle.fw_hold.specs.Engine.{Standings}
use Rattle.fw_hold.specs.Going.{AreForward, IsOneTurn, IsRunAt, HoldsFound, HoldsKeptIn, MakesMoves, WritesUpTo}
use Rattle.fw_hold.specs.Hold.{IsAtEnd}
use Rattle.fw_hold.specs.Kept.{HeldTexts, Found, no_root, a_root, HoldsKeptPoint, IsKeptBy, system_in}
use Rattle.fw_hold.specs.Moves.{Move, restored, turned, passed, ended_early, SchedulePoint, KeptPoint, moves_text}
use Rattle.fw_hold.specs.Starting.{EndsStart, HasBegun, RestoresAsFound, lines_written_last, opening_text}
use Rattle.fw_hold.proofs.EndLaws.{IsOfPut}
use Rattle.fw_hold.proofs.MoveLaws.{forward_both, makes_both, makes_none, text_both, writes_behind}
use Rattle.fw_hold.proofs.TurnLaws.{holds_last, kept_in}

-- ---- one start more

pub kept_later : (texts : HeldTexts) (starts : ℕ) (held : Records) (kept : KeptPoint) (root : Root) → IsKeptBy texts starts held kept root → IsKeptBy texts (starts + 1) held kept root
kept_later texts starts held kept root by = kept_in texts starts (starts + 1) held held kept root (omega arith) by.counted by.named by

holds_later : (texts : HeldTexts) (starts : ℕ) (held : Records) (found : Found) (kept : KeptPoint) → HoldsKeptPoint texts starts held found kept → HoldsKeptPoint texts (starts + 1) held found kept
holds_later texts starts held no_root kept h = h
holds_later texts starts held a_root kept (root, by) = (root, kept_later texts starts held kept root by)

-- what is found is kept by the start that finds it, too
pub found_later : (texts : HeldTexts) (starts : ℕ) (records : Option Records) (found : Found) (kept : KeptPoint) → HoldsFound texts starts records found kept
    → HoldsKeptIn texts (starts + 1) records kept
found_later texts starts records found kept h = (found, (h.0, h.1, holds_later texts starts h.0 found kept h.2))

-- ---- it does not come to a move

-- nothing was told
pub ends_unopened : (T : Type 0) (texts : HeldTexts) (starts : ℕ) (found : Found) (kept : KeptPoint) (fault : HoldFault) (records : Option Records) (view : SinkView)
    (IsSo : T → KeptPoint → SchedulePoint → Type 0) → IsOfPut fault → HoldsKeptIn texts (starts + 1) records kept
    → EndsStart texts starts found kept (Err fault) records view view IsSo
ends_unopened T texts starts found kept fault records view IsSo is holds = record {
  moves = [];
  now = kept;
  last = kept.point;
  made = makes_none (system_in texts) texts.items kept kept.point;
  begins = inl refl;
  holds = holds;
  text = [];
  told = inr (refl, refl);
  opened = tt;
  wrote = by fault is;
  so = tt;
}
  where
    by : (f : HoldFault) → IsOfPut f → WritesUpTo {T = T} [] (lines_written_last found kept [] kept) (Err f) view view
    by (Out f) is = absurd is
    by (Engine engine.StoreFault) is = written_nothing view
    by (Engine (engine.Damaged id)) is = absurd is
    by (Engine engine.NoMemory) is = written_nothing view
    by (DamagedRoot id) is = absurd is
    by ForeignRoot is = absurd is

-- what it opens with was told, or cut off
pub ends_opened : (T : Type 0) (texts : HeldTexts) (starts : ℕ) (found : Found) (kept : KeptPoint) (fault : HoldFault) (records : Option Records) (before after : SinkView)
    (IsSo : T → KeptPoint → SchedulePoint → Type 0) → WritesUpTo {T = T} (opening_text found kept) (opening_text found kept) (Err fault) before after
    → HoldsKeptIn texts (starts + 1) records kept → EndsStart texts starts found kept (Err fault) records before after IsSo
ends_opened T texts starts found kept fault records before after IsSo wrote holds = record {
  moves = [];
  now = kept;
  last = kept.point;
  made = makes_none (system_in texts) texts.items kept kept.point;
  begins = inl refl;
  holds = holds;
  text = opening_text found kept;
  told = inl (sym (append-nil (opening_text found kept)));
  opened = tt;
  wrote = wrote;
  so = tt;
}

-- ---- moves behind others

-- what an answer says of a text does not go by the type of its value
pub writes_alike : (S T : Type 0) (text lines : List ℕ) (fault : HoldFault) (before after : SinkView) → WritesUpTo {T = S} text lines (Err fault) before after
    → WritesUpTo {T = T} text lines (Err fault) before after
writes_alike S T text lines (Out fault) before after w = w
writes_alike S T text lines (Engine engine.StoreFault) before after w = w
writes_alike S T text lines (Engine (engine.Damaged id)) before after w = w
writes_alike S T text lines (Engine engine.NoMemory) before after w = w
writes_alike S T text lines (DamagedRoot id) before after w = w
writes_alike S T text lines ForeignRoot before after w = w

-- the lines in which a text may be cut off are those of the last turn, where a move was made; and else it was not cut off
lines_alike : (T : Type 0) (texts : HeldTexts) (found : Found) (kept : KeptPoint) (moves : List Move) (now : KeptPoint) (text : List ℕ) (fault : HoldFault) (before after : SinkView)
    → ((f : OutFault) → fault ≡ Out f → moves ≡ [] → ⊥) → WritesUpTo {T = T} text now.lines (Err fault) before after
    → WritesUpTo {T = T} text (lines_written_last found kept moves now) (Err fault) before after
lines_alike T texts found kept [] now text (Out fault) before after cut w = absurd (cut fault refl refl)
lines_alike T texts found kept [] now text (Engine engine.StoreFault) before after cut w = w
lines_alike T texts found kept [] now text (Engine (engine.Damaged id)) before after cut w = w
lines_alike T texts found kept [] now text (Engine engine.NoMemory) before after cut w = w
lines_alike T texts found kept [] now text (DamagedRoot id) before after cut w = w
lines_alike T texts found kept [] now text ForeignRoot before after cut w = w
lines_alike T texts found kept (move ∷ moves) now text fault before after cut w = w

err_is : (S : Type 0) (fault : HoldFault) (f : OutFault) → fault ≡ Out f → IsErrOf {T = S} (Err fault) (Out f)
err_is S fault f e = ap Err e

restores_on : (found : Found) (moves others : List Move) → RestoresAsFound found moves → AreForward others → RestoresAsFound found (moves ++ others)
restores_on no_root moves others r f = forward_both moves others r f
restores_on a_root [] others r f = absurd r
restores_on a_root (restored choice ∷ moves) others r f = forward_both moves others r f
restores_on a_root (turned effect ∷ moves) others r f = absurd r
restores_on a_root (passed ∷ moves) others r f = absurd r
restores_on a_root (ended_early ∷ moves) others r f = absurd r

none_left : (moves others : List Move) → moves ++ others ≡ [] → others ≡ []
none_left [] others e = e
none_left (move ∷ moves) others e = absurd (cc)

-- the text of all moves
text_on : (flow : Dataflow) (opening : List ℕ) (moves others : List Move) → (opening ++ moves_text flow moves) ++ moves_text flow others ≡ opening ++ moves_text flow (moves ++ others)
text_on flow opening moves others = append_assoc opening (moves_text flow moves) (moves_text flow others) ∙ ap (λ t. opening ++ t) (sym (text_both flow moves others))

-- a run that has begun makes moves, and goes on
pub begun_on : {E : Type 0} (Stand : Standings E) (keep_of : E → KeepState) (flow_of : E → Dataflow) (T : Type 0) (value : T) (texts : HeldTexts) (starts : ℕ) (found : Found)
    (kept : KeptPoint) (old new : Option Records) (before mid after : SinkView) (engine later : E) (place then_place : SchedulePlace)
    → (begun : HasBegun Stand keep_of flow_of texts starts found kept old before mid engine place)
    → MakesMoves {T = T} AreForward texts (starts + 1) begun.now begun.last (Ok value) new mid after
    (IsRunAt Stand keep_of flow_of texts (starts + 1) new later then_place)
    → HasBegun Stand keep_of flow_of texts starts found kept new before after later then_place
begun_on Stand keep_of flow_of T value texts starts found kept old new before mid after engine later place then_place begun m = record {
  moves = begun.moves ++ m.moves;
  now = m.now;
  last = m.last;
  made = makes_both (system_in texts) texts.items kept kept.point begun.moves begun.now begun.last m.moves m.now m.last begun.made m.made;
  begins = restores_on found begun.moves m.moves begun.begins m.are;
  wrote = subst (λ t. IsWritten t before after) (text_on texts.flow (opening_text found kept) begun.moves m.moves)
      (written_more (opening_text found kept ++ moves_text texts.flow begun.moves) (moves_text texts.flow m.moves) before mid after begun.wrote m.wrote);
  under_way = m.so;
}

-- a run that has begun makes moves, and ends
pub ends_on : {E : Type 0} (Stand : Standings E) (keep_of : E → KeepState) (flow_of : E → Dataflow) (S T : Type 0) (texts : HeldTexts) (starts : ℕ) (found : Found)
    (kept : KeptPoint) (old new : Option Records) (before mid after : SinkView) (engine : E) (place : SchedulePlace) (fault : HoldFault) (IsLater : KeptPoint → SchedulePoint → Type 0)
    (IsSo : T → KeptPoint → SchedulePoint → Type 0) → (begun : HasBegun Stand keep_of flow_of texts starts found kept old before mid engine place)
    → MakesMoves {T = S} AreForward texts (starts + 1) begun.now begun.last (Err fault) new mid after IsLater
    → EndsStart {T = T} texts starts found kept (Err fault) new before after IsSo
ends_on Stand keep_of flow_of S T texts starts found kept old new before mid after engine place fault IsLater IsSo begun m = record {
  moves = begun.moves ++ m.moves;
  now = m.now;
  last = m.last;
  made = makes_both (system_in texts) texts.items kept kept.point begun.moves begun.now begun.last m.moves m.now m.last begun.made m.made;
  begins = inr (restores_on found begun.moves m.moves begun.begins m.are);
  holds = m.holds;
  text = opening_text found kept ++ moves_text texts.flow (begun.moves ++ m.moves);
  told = inl refl;
  opened = tt;
  wrote = lines_alike T texts found kept (begun.moves ++ m.moves) m.now (opening_text found kept ++ moves_text texts.flow (begun.moves ++ m.moves)) fault before after
      (λ f e none. m.cut f (err_is S fault f e) (none_left begun.moves m.moves none))
      (writes_alike S T (opening_text found kept ++ moves_text texts.flow (begun.moves ++ m.moves)) m.now.lines fault before after
      (subst (λ t. WritesUpTo {T = S} t m.now.lines (Err fault) before after) (text_on texts.flow (opening_text found kept) begun.moves m.moves)
      (writes_behind S (opening_text found kept ++ moves_text texts.flow begun.moves) (moves_text texts.flow m.moves) m.now.lines (Err fault) before mid after begun.wrote m.wrote)));
  so = tt;
}

-- no item is left
pub ends_well : {E : Type 0} (Stand : Standings E) (keep_of : E → KeepState) (flow_of : E → Dataflow) (texts : HeldTexts) (starts : ℕ) (found : Found) (kept : KeptPoint)
    (records : Option Records) (before after : SinkView) (engine : E) (place : SchedulePlace) → length texts.items ≤ place.ended
    → HasBegun Stand keep_of flow_of texts starts found kept records before after engine place
    → EndsStart {T = HeldCounts} texts starts found kept (Ok (record { steps = place.steps; idle = place.idle })) records before after (IsAtEnd texts)
ends_well Stand keep_of flow_of texts starts found kept records before after engine place end begun = let u = begun.under_way in record {
  moves = begun.moves;
  now = begun.now;
  last = begun.last;
  made = begun.made;
  begins = inr begun.begins;
  holds =
      let h = holds_last texts (starts + 1) u.held begun.now place.turn (keep_of engine).next u.turn in
      (h.0, (u.held, u.told, h.1));
  text = opening_text found kept ++ moves_text texts.flow begun.moves;
  told = inl refl;
  opened = (refl, begun.begins);
  wrote = begun.wrote;
  so = record { none_left = omega (arith, end, u.counts.ended, u.of_items.ended); steps = u.counts.steps; idle = u.counts.idle };
}

-- ---- behind a root

-- every node was restored: the run has begun
pub begun_turn : {E : Type 0} (Stand : Standings E) (keep_of : E → KeepState) (flow_of : E → Dataflow) (T : Type 0) (value : T) (texts : HeldTexts) (starts : ℕ) (kept : KeptPoint)
    (choice : Choice) (records : Option Records) (before mid after : SinkView) (engine : E) (place : SchedulePlace) → IsWritten (opening_text a_root kept) before mid
    → MakesMoves {T = T} (IsOneTurn {T = T} (restored choice) (Ok value)) texts (starts + 1) kept kept.point (Ok value) records mid after
    (IsRunAt Stand keep_of flow_of texts (starts + 1) records engine place)
    → HasBegun Stand keep_of flow_of texts starts a_root kept records before after engine place
begun_turn Stand keep_of flow_of T value texts starts kept choice records before mid after engine place opened m = record {
  moves = m.moves;
  now = m.now;
  last = m.last;
  made = m.made;
  begins = subst (λ ms. RestoresAsFound a_root ms) (sym m.are) tt;
  wrote = written_more (opening_text a_root kept) (moves_text texts.flow m.moves) before mid after opened m.wrote;
  under_way = m.so;
}

-- the run ended in that turn
pub ends_turn : (S T : Type 0) (texts : HeldTexts) (starts : ℕ) (kept : KeptPoint) (choice : Choice) (fault : HoldFault) (records : Option Records) (before mid after : SinkView)
    (IsLater : KeptPoint → SchedulePoint → Type 0) (IsSo : T → KeptPoint → SchedulePoint → Type 0) → IsWritten (opening_text a_root kept) before mid
    → MakesMoves {T = S} (IsOneTurn {T = S} (restored choice) (Err fault)) texts (starts + 1) kept kept.point (Err fault) records mid after IsLater
    → EndsStart {T = T} texts starts a_root kept (Err fault) records before after IsSo
ends_turn S T texts starts kept choice fault records before mid after IsLater IsSo opened m = record {
  moves = m.moves;
  now = m.now;
  last = m.last;
  made = m.made;
  begins = elim m.are [
    | inl none ↦ inl none
    | inr one ↦ inr (subst (λ ms. RestoresAsFound a_root ms) (sym one) tt)
  ];
  holds = m.holds;
  text = opening_text a_root kept ++ moves_text texts.flow m.moves;
  told = inl refl;
  opened = tt;
  wrote = lines_alike T texts a_root kept m.moves m.now (opening_text a_root kept ++ moves_text texts.flow m.moves) fault before after (λ f e none. m.cut f (err_is S fault f e) none)
      (writes_alike S T (opening_text a_root kept ++ moves_text texts.flow m.moves) m.now.lines fault before after
      (writes_behind S (opening_text a_root kept) (moves_text texts.flow m.moves) m.now.lines (Err fault) before mid after opened m.wrote));
  so = tt;
}

-- Moves, one after another.
use Rattle.std.proofs.Common.{◌≡◌, ℕ, List, [], ◌∷◌, ◌++◌, Result, Ok, Err, refl, sym, ◌∙◌, ap, subst, append_assoc}
use Rattle.std.specs.List.{AllByRecursion}
use Rattle.std.proofs.lemmas.Grind.{flat_map-append}
use Rattle.fw_lemmas.proofs.Each.{each-append}
use Rattle.fw_outside.specs.declared.fault.OutFault.{OutFault}
use Rattle.fw_outside.specs.Outside.{SinkView, Takes}
use Rattle.fw_flow.specs.Dataflow.{Dataflow, System}
use Rattle.fw_schedule.specs.declared.item.Item.{Item}
use Rattle.fw_command.proofs.WritingLaws.{takes_more, written_more}
use Rattle.fw_command.specs.Writing.{faults_by, IsRefusedBy, IsWritten}
use Rattle.fw_running.specs.declared.fault.EngineFault.TheVariants as engine
use Rattle.fw_hold.specs.declared.fault.HoldFault.{HoldFault}
use Rattle.fw_hold.specs.declared.fault.HoldFault.TheVariants.{Out, Engine, DamagedRoot, ForeignRoot}
use Rattle.fw_hold.specs.Going.{IsCutIn, WritesUpTo, IsForward}
use Rattle.fw_hold.specs.Moves.{Move, SchedulePoint, KeptPoint, Makes, MakesAll, kept_after, move_text, moves_text}

-- ---- moves

-- moves, and others from where they led
pub makes_both : (sys : System) (items : List Item) (kept : KeptPoint) (from : SchedulePoint) (moves : List Move) (now : KeptPoint) (mid : SchedulePoint) (others : List Move)
    (last : KeptPoint) (to : SchedulePoint) → MakesAll sys items kept from moves now mid → MakesAll sys items now mid others last to
    → MakesAll sys items kept from (moves ++ others) last to
makes_both sys items kept from [] now mid others last to (k, m) made =
    subst (λ (p : SchedulePoint). MakesAll sys items kept p others last to) m (subst (λ (q : KeptPoint). MakesAll sys items q mid others last to) k made)
makes_both sys items kept from (move ∷ moves) now mid others last to (next, made, rest) behind =
    (next, made, makes_both sys items (kept_after sys.flow kept move next) next moves now mid others last to rest behind)

-- one move
pub makes_one : (sys : System) (items : List Item) (kept : KeptPoint) (from : SchedulePoint) (move : Move) (to : SchedulePoint) → Makes sys items from move to
    → MakesAll sys items kept from (move ∷ []) (kept_after sys.flow kept move to) to
makes_one sys items kept from move to made = (to, made, (refl, refl))

-- none
pub makes_none : (sys : System) (items : List Item) (kept : KeptPoint) (from : SchedulePoint) → MakesAll sys items kept from [] kept from
makes_none sys items kept from = (refl, refl)

pub text_both : (flow : Dataflow) (moves others : List Move) → moves_text flow (moves ++ others) ≡ moves_text flow moves ++ moves_text flow others
text_both flow moves others = flat_map-append (move_text flow) moves others

pub forward_both : (moves others : List Move) → AllByRecursion IsForward moves → AllByRecursion IsForward others → AllByRecursion IsForward (moves ++ others)
forward_both moves others all more = each-append IsForward moves others all more

-- ---- what is written

cut_behind : (one first second : List ℕ) (fault : OutFault) (before mid after : SinkView) → IsWritten one before mid
    → IsCutIn first second fault mid after → IsCutIn (one ++ first) second fault before after
cut_behind one first second fault before mid after w c = record {
  part = c.part;
  left = c.left;
  parts = c.parts;
  taken = subst (λ t. Takes before.taken t after.taken) (sym (append_assoc one first c.part)) (takes_more before.taken mid.taken after.taken one (first ++ c.part) w.taken c.taken);
  faults = subst (λ n. after.faults ≡ faults_by fault n) w.none_failed c.faults;
  refusals = subst (λ n. IsRefusedBy fault n after.refusals) w.none_refused c.refusals;
}

-- a text was written, and of another behind it what the answer says
pub writes_behind : (T : Type 0) (one other lines : List ℕ) (answer : Result T HoldFault) (before mid after : SinkView) → IsWritten one before mid
    → WritesUpTo other lines answer mid after → WritesUpTo (one ++ other) lines answer before after
writes_behind T one other lines (Ok value) before mid after w v = written_more one other before mid after w v
writes_behind T one other lines (Err (Out fault)) before mid after w (first, e, cut) =
    (one ++ first, ap (λ t. one ++ t) e ∙ sym (append_assoc one first lines), cut_behind one first lines fault before mid after w cut)
writes_behind T one other lines (Err (Engine engine.StoreFault)) before mid after w v = written_more one other before mid after w v
writes_behind T one other lines (Err (Engine (engine.Damaged id))) before mid after w v = v
writes_behind T one other lines (Err (Engine engine.NoMemory)) before mid after w v = written_more one other before mid after w v
writes_behind T one other lines (Err (DamagedRoot id)) before mid after w v = v
writes_behind T one other lines (Err ForeignRoot) before mid after w v = v

use Rattle.std.proofs.Common.{refl, sym, subst, Option}
use Rattle.fw_writing.specs.declared.record_write.RecordWrite.{RecordWrite}
use Rattle.falkirk_c.specs.Calls.{IsCopyOf}
use Rattle.falkirk_c.proofs.Laws.{found-at, none-at, copied-of}
use Rattle.falkirk_c.proofs.copy_write.Goals as goal

pub returns-in-Some : goal.returns-in-Some
returns-in-Some c =
    let found = found-at c.writes.result.now _ c.args.place c.in-Some.write.now c.writes.ensures.noted c.in-Some.ensures.lookup.3.0 c.in-Some.ensures.lookup.1 in
    subst (λ (write : Option RecordWrite). IsCopyOf write c.args.room.now c.copy.result c.copy.new.room) (sym found)
    (copied-of _ _ c.args.room.now c.copy.new.room c.copy.result c.bytes_of.ensures c.copy.ensures.count c.copy.ensures.copied)

pub returns-in-None : goal.returns-in-None
returns-in-None c =
    let none = none-at c.writes.result.now _ c.args.place c.writes.ensures.noted c.in-None.ensures.lookup.3 in
    subst (λ (write : Option RecordWrite). IsCopyOf write c.args.room.now 0 c.args.room.now) (sym none) (refl, refl)

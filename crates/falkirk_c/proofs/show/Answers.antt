use Rattle.std.proofs.Common.{refl, true, false, ap, ◌∙◌, length, sym, subst, Option}
use Rattle.fw_writing.specs.declared.record_write.RecordWrite.{RecordWrite}
use Rattle.falkirk_c.specs.Calls.{IsShown}
use Rattle.falkirk_c.proofs.Laws.{found-at, none-at}
use Rattle.falkirk_c.proofs.show.Goals as goal

pub returns-in-Some : goal.returns-in-Some
returns-in-Some c =
    let found = found-at c.writes.result.now _ c.args.place c.in-Some.write.now c.writes.ensures.noted c.in-Some.ensures.lookup.3.0 c.in-Some.ensures.lookup.1 in
    subst (λ (write : Option RecordWrite). IsShown write c.args.out.now true
    (record { id = c.in-Some.write.now.id; put = c.is_some-out.result; at = c.start_of-out.result; len = length c.bytes_of.result.now })) (sym found)
    (refl, refl, c.is_some-out.ensures, ap length c.bytes_of.ensures)

pub returns-in-None : goal.returns-in-None
returns-in-None c =
    let none = none-at c.writes.result.now _ c.args.place c.writes.ensures.noted c.in-None.ensures.lookup.3 in
    subst (λ (write : Option RecordWrite). IsShown write c.args.out.now false c.args.out.now) (sym none) (refl, refl)

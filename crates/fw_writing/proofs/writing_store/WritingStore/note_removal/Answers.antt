use Rattle.std.proofs.Common.{◌≡◌, [], ◌∷◌, ◌++◌, None, ap, ◌∙◌}
use Rattle.std.specs.FinMap as map
use Rattle.fw_outside.specs.Memory.{record_map}
use Rattle.fw_outside.proofs.Records.{record_map-removed}
use Rattle.fw_writing.specs.Writes.{told_as}
use Rattle.fw_writing.proofs.Laws.{done-write, told-one}
use Rattle.fw_writing.proofs.writing_store.WritingStore.note_removal.Goals as goal

pub invariant_of-self-2 : goal.invariant_of-self-2
invariant_of-self-2 c =
    let turned = c.begin_turn.new.self in
    let noted : told_as c.push.new.self.items ≡ told_as turned.writes.items ++ (c.args.id, None) ∷ [] =
    ap told_as c.in_ok-push.ensures.items ∙ told-one turned.writes.items _ in
    record {
      done = done-write (record_map turned.records.entries) (record_map c.remove.new.self.entries) (told_as turned.writes.items)
          (told_as c.push.new.self.items) c.args.id None
          (record_map-removed turned.records.entries _ c.args.id c.remove.ensures.updates.0) noted turned.done;
    }

pub returns-clause-removed : goal.returns-clause-removed
returns-clause-removed c =
    record_map-removed c.begin_turn.new.self.records.entries _ c.args.id c.remove.ensures.updates.0
    ∙ ap (λ entries. map.remove (record_map entries) c.args.id) c.begin_turn.ensures.stays.0

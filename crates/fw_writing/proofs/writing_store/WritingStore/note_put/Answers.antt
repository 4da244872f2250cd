use Rattle.std.proofs.Common.{◌≡◌, [], ◌∷◌, ◌++◌, Some, ap, ◌∙◌, rules}
use Rattle.std.specs.FinMap as map
use Rattle.fw_outside.specs.Memory.{record_map}
use Rattle.fw_outside.proofs.Records.{record_map-put}
use Rattle.fw_writing.specs.Writes.{told_as}
use Rattle.fw_writing.proofs.Laws.{done-write, told-one}
use Rattle.fw_writing.proofs.writing_store.WritingStore.note_put.Goals as goal

pub invariant_of-self-in-Ok : goal.invariant_of-self-in-Ok
invariant_of-self-in-Ok c =
    let turned = c.begin_turn.new.self in
    let same : c.in_ok-copy.copy.items ≡ c.args.bytes.items = search rules in
    let noted : told_as c.push.new.self.items ≡ told_as turned.writes.items ++ (c.args.id, Some c.args.bytes.items) ∷ [] =
    ap told_as c.in_ok-push.ensures.items ∙ told-one turned.writes.items _
    ∙ ap (λ bytes. told_as turned.writes.items ++ (c.args.id, Some bytes) ∷ []) same in
    record {
      done = done-write (record_map turned.records.entries) (record_map c.insert.new.self.entries) (told_as turned.writes.items)
          (told_as c.push.new.self.items) c.args.id (Some c.args.bytes.items)
          (record_map-put turned.records.entries _ c.args.id c.args.bytes c.in-Ok.ensures.updates.0) noted turned.done;
    }

pub returns-in-Ok-clause-put : goal.returns-in-Ok-clause-put
returns-in-Ok-clause-put c =
    record_map-put c.begin_turn.new.self.records.entries _ c.args.id c.args.bytes c.in-Ok.ensures.updates.0
    ∙ ap (λ entries. map.insert (record_map entries) c.args.id c.args.bytes.items) c.begin_turn.ensures.stays.0

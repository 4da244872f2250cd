use Rattle.std.proofs.Common.{Some, refl}
use Rattle.std.specs.Prelude.{slice_set}
use Rattle.fw_flow.specs.declared.event.Event.TheVariants.{Deliver}
use Rattle.fw_node.specs.NodeOf.{IsNodeOf}
use Rattle.fw_node.specs.Sends.{messages_of}
use Rattle.fw_events.proofs.TableLaws.{is_changed, changed-holds, changed-takes, delivery-taken}
use Rattle.fw_events.proofs.delivery.take_rec.Goals as goal

pub returns-in_err-deliver-clause-of_node : goal.returns-in_err-deliver-clause-of_node
returns-in_err-deliver-clause-of_node c = λ flow some.
    let old = c.args.tables.now in
    let after = c.deliver.new.self in
    let new = slice_set old c.args.node (Some after) in
    changed-holds (IsNodeOf flow c.args.node) c.args.node c.in-Some.table.now after old new
    (is_changed c.args.node c.in-Some.table.now after old new c.in-Some.ensures.value refl) (c.deliver.ensures.node flow c.args.node) some

pub returns-clause-takes : goal.returns-clause-takes
returns-clause-takes c = λ flow m at rec.
    let old = c.args.tables.now in
    let after = c.deliver.new.self in
    let new = slice_set old c.args.node (Some after) in
    let sent = messages_of c.args.at.now c.in_ok-deliver.field-0 in
    changed-takes flow (Deliver c.args.edge m) sent c.args.node c.in-Some.table.now after old new
    (is_changed c.args.node c.in-Some.table.now after old new c.in-Some.ensures.value refl)
    (delivery-taken flow c.args.edge m sent c.in-Some.table.now after c.args.at.now c.args.rec c.in_ok-deliver.ensures.ok c.in_ok-deliver.ensures.sent at rec)

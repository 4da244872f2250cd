use Rattle.std.proofs.Common.{Some, refl}
use Rattle.std.specs.Prelude.{slice_set}
use Rattle.fw_flow.specs.declared.event.Event.TheVariants.{Notify}
use Rattle.fw_node.specs.NodeOf.{IsNodeOf}
use Rattle.fw_node.specs.Sends.{messages_of}
use Rattle.fw_events.proofs.TableLaws.{is_changed, changed-holds, changed-takes, notice-taken}
use Rattle.fw_events.proofs.notification.take_notice.Goals as goal

pub returns-in_err-notify-clause-of_node : goal.returns-in_err-notify-clause-of_node
returns-in_err-notify-clause-of_node c = λ flow some.
    let old = c.args.tables.now in
    let after = c.notify.new.self in
    let new = slice_set old c.args.node (Some after) in
    changed-holds (IsNodeOf flow c.args.node) c.args.node c.in-Some.table.now after old new
    (is_changed c.args.node c.in-Some.table.now after old new c.in-Some.ensures.value refl) (c.notify.ensures.node flow c.args.node) some

pub returns-clause-of_node : goal.returns-clause-of_node
returns-clause-of_node c = λ flow some.
    let old = c.args.tables.now in
    let after = c.notify.new.self in
    let new = slice_set old c.args.node (Some after) in
    changed-holds (IsNodeOf flow c.args.node) c.args.node c.in-Some.table.now after old new
    (is_changed c.args.node c.in-Some.table.now after old new c.in-Some.ensures.value refl) (c.notify.ensures.node flow c.args.node) some

pub returns-clause-takes : goal.returns-clause-takes
returns-clause-takes c = λ flow.
    let old = c.args.tables.now in
    let after = c.notify.new.self in
    let new = slice_set old c.args.node (Some after) in
    let sent = messages_of c.args.at.now c.in_ok-notify.field-0 in
    changed-takes flow (Notify c.args.node c.args.at.now) sent c.args.node c.in-Some.table.now after old new
    (is_changed c.args.node c.in-Some.table.now after old new c.in-Some.ensures.value refl)
    (notice-taken flow c.args.node sent c.in-Some.table.now after c.args.at.now c.in_ok-notify.ensures.ok c.in_ok-notify.ensures.sent)

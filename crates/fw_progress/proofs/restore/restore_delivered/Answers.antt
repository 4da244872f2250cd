use Rattle.std.proofs.lemmas.Result.{IfOk-weaker}
use Rattle.fw_progress.proofs.RestoreLaws.{taken-delivered}
use Rattle.fw_progress.proofs.restore.restore_delivered.Goals as goal

pub returns : goal.returns
returns c =
    IfOk-weaker c.take_up.result _ _
    (λ u t. taken-delivered c.args.flow.now c.args.node c.args.messages.now c.args.lists.now.items c.clear_into.new.lists.items c.take_up.new.lists.items c.clear_into.ensures t)
    c.take_up.ensures

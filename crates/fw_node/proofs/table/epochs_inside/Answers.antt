use Rattle.std.proofs.Common.{sym}
use Rattle.std.proofs.lemmas.Result.{IfOk-weaker}
use Rattle.fw_node.proofs.table.epochs_inside.Goals as goal

pub returns : goal.returns
returns c = IfOk-weaker c.from_front.result _ _ (λ below h n. sym (h (record { 0 = n }))) c.from_front.ensures

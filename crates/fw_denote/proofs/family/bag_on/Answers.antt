use Rattle.std.proofs.Common.{◌∙◌}
use Rattle.std.proofs.lemmas.Result.{IfOk-weaker}
use Rattle.fw_denote.proofs.family.bag_on.Goals as goal

pub returns : goal.returns
returns c = IfOk-weaker c.of.result _ _ (λ bag h. h ∙ c.in_ok-on_edge.ensures.in_order ∙ c.in_ok-on_edge.ensures.recs) c.of.ensures

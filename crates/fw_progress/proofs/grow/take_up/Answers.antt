use Rattle.std.proofs.lemmas.Result.{IfOk-weaker}
use Rattle.fw_progress.proofs.grow.take_up.Goals as goal

pub returns : goal.returns
returns c =
    IfOk-weaker c.widen.result _ _
    (λ u w. record {
      mid = c.leap.new.fronts.items;
      between = c.leap.new.work;
      some = c.leap.new.growths.items;
      leapt = c.in_ok-leap.ensures;
      widened = w;
    })
    c.widen.ensures

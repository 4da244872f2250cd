use Rattle.std.proofs.Common.{refl, ap, ◌∙◌}
use Rattle.fw_running.specs.ReadyState.{ReadyState}
use Rattle.fw_running.proofs.BroughtUpLaws.{noted_more}
use Rattle.fw_running.proofs.refreshing.note_growths.Goals as goal

pub loop-growth-preserved : goal.loop-growth-preserved
loop-growth-preserved c = record {
  others = c.in_ok-put_growing.ensures.others ∙ ap (λ (r : ReadyState). record r { growing = c.put_growing.new.self.growing }) c.loop-growth.invariant.others;
  noted = noted_more c.args.growths.now c.loop-growth.growth-index c.growth-item.result.node c.growth-item.result c.args.ready.now.growing
      c.loop-growth.ready.growing c.put_growing.new.self.growing c.loop-growth-test.true c.growth-item.is refl c.loop-growth.invariant.noted c.in_ok-put_growing.ensures.put;
}

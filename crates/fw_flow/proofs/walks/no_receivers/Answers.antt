use Rattle.std.proofs.Common.{length, ap, ◌∙◌, arith}
use Rattle.std.proofs.lemmas.List.{length_push}
use Rattle.fw_flow.specs.Flow.{edges_at}
use Rattle.fw_flow.proofs.Ends.{edges_at-push_empty}
use Rattle.fw_flow.proofs.walks.no_receivers.Goals as goal

pub loop-preserved : goal.loop-preserved
loop-preserved c =
    let items = c.in_ok-push.ensures.items in
    let lists = c.loop.onward.items in
    let more = ap length items ∙ length_push lists c.new.result in
    record {
      len = omega (arith, more, c.loop.invariant.len);
      empty = λ p. ap (λ l. edges_at l p) items ∙ edges_at-push_empty lists c.new.result c.new.ensures.items c.loop.invariant.empty p;
    }

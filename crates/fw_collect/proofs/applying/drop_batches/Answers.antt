use Rattle.std.proofs.Common.{length, length-set, refl, ◌∙◌, ap}
use Rattle.fw_border.specs.Sources.{source_at, with_source, given_up}
use Rattle.fw_collect.specs.declared.drops.OfNode.{OfNode}
use Rattle.fw_collect.proofs.ApplyLaws.{no_source_changes, sources_more}
use Rattle.fw_collect.proofs.applying.drop_batches.Goals as goal

pub loop-front-init : goal.loop-front-init
loop-front-init c = record { count = refl; each = λ s. no_source_changes s (source_at c.args.sources.now s) }

pub loop-front-preserved : goal.loop-front-preserved
loop-front-preserved c =
    let front : OfNode = c.front-item.result in
    let sources = c.loop-front.sources in
    record {
      count = ap length c.acknowledge.ensures ∙ length-set sources front.node (given_up front.front (source_at sources front.node)) ∙ c.loop-front.invariant.count;
      each = sources_more c.args.fronts.now c.loop-front.front-index front c.args.sources.now sources c.acknowledge.new.self
          c.loop-front-test.true c.loop-front.invariant.each
          (c.acknowledge.ensures ∙ ap (λ (q : OfNode). with_source (given_up q.front) sources q.node) c.front-item.is);
    }

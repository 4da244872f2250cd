use Rattle.std.proofs.Math.Logic.{∥∥₁_map}
use Rattle.fw_bag.specs.Keyed.{sorted_recs}
use Rattle.fw_engine.proofs.FeedLaws.{fed-keeps, fed-told}
use Rattle.fw_engine.proofs.engine.Engine.feed.Goals as goal

pub invariant_of-self : goal.invariant_of-self
invariant_of-self c =
    let fed = c.feed_running.ensures in
    record {
      shaped = ∥∥₁_map c.args.self.now.shaped (λ shaped live. fed-keeps c.args.source (sorted_recs c.args.recs.now) c.args.self.now.running
          c.feed_running.new.running c.feed_running.result fed.fed fed.stays fed.err (shaped live));
    }

pub returns-clause-fed : goal.returns-clause-fed
returns-clause-fed c =
    fed-told c.args.source (sorted_recs c.args.recs.now) c.args.self.now.running c.feed_running.new.running c.feed_running.result c.feed_running.ensures.fed

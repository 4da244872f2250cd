use Rattle.std.proofs.Common.{rules, ◌≡◌, max, sym, ◌∙◌}
use Rattle.fw_engine.proofs.FeedLaws.{put-fed}
use Rattle.fw_engine.proofs.feeding.put_batch.Goals as goal

pub returns-clause-fed : goal.returns-clause-fed
returns-clause-fed c = λ is.
    let old = c.args.running.now in
    let greater : c.max-running.result ≡ max old.epochs c.batches.result = search rules in
    let room = sym c.can_count_batch.ensures ∙ c.if-not-can_count_batch.false in
    let counted = c.count_batch-counted.ensures in
    put-fed c.args.source c.args.batch.recs old c.feed.new.self c.batches.result c.max-running.result c.count_batch-counted.new.self c.args.ready
    (sym c.in_ok-feed.ensures.told ∙ c.if-not-branch.false) room c.in_ok-feed.ensures.fed c.batches.ensures greater
    (counted.counted (counted.told ∙ room)) (counted.progress old.flow) c.requires

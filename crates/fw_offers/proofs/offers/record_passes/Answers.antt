use Rattle.std.proofs.Common.{sym, ap}
use Rattle.std.specs.Option.{option_copied}
use Rattle.fw_frontier.specs.Front.{frontier_of}
use Rattle.fw_offers.proofs.RecordLaws.{is_recorded, not_recorded}
use Rattle.fw_offers.proofs.offers.record_passes.Goals as goal

pub returns-in-Some-recorded : goal.returns-in-Some-recorded
returns-in-Some-recorded c = λ b k.
    is_recorded b c.args.side (option_copied c.args.checkpoint) c.in-Some.entry.now c.in-Some-recorded.held.now (frontier_of b c.args.bound.now) c.subset.result
    (ap option_copied c.in-Some.is) (sym c.in-Some-recorded.ensures) (c.subset.ensures.domain b k)

pub returns-in-None-recorded : goal.returns-in-None-recorded
returns-in-None-recorded c = λ b k.
    not_recorded b c.args.side (option_copied c.args.checkpoint) c.in-Some.entry.now (frontier_of b c.args.bound.now)
    (ap option_copied c.in-Some.is) (sym c.in-None-recorded.ensures)

use Rattle.std.proofs.Common.{refl}
use Rattle.fw_progress.specs.SentTally.{IsCountedInAll}
use Rattle.fw_progress.specs.Trace.{no_tally}
use Rattle.fw_progress.proofs.EventLaws.{changed_at}
use Rattle.fw_progress.proofs.traces.settle_tally.Goals as goal

pub returns : goal.returns
returns c =
    changed_at no_tally (IsCountedInAll c.args.base.now) c.args.tallies.now.items c.args.place c.args.place c.settle.new.self c.index_mut-tally.result.now refl
    c.requires c.index_mut-tally.ensures.value c.in_ok-settle.ensures.value

use Rattle.std.proofs.Common.{refl}
use Rattle.fw_progress.specs.SentTally.{CountsMore}
use Rattle.fw_progress.specs.Trace.{no_tally}
use Rattle.fw_progress.proofs.EventLaws.{changed_at}
use Rattle.fw_progress.proofs.traces.count_at.Goals as goal

pub returns : goal.returns
returns c =
    changed_at no_tally (CountsMore c.args.at.now c.args.count) c.args.tallies.now.items c.args.place c.args.place c.add.new.self c.index_mut-tally.result.now refl
    c.requires c.index_mut-tally.ensures.value c.in_ok-add.ensures.ok

use Rattle.std.proofs.Common.{[], refl}
use Rattle.fw_progress.specs.Traces.{IsThinnedBy}
use Rattle.fw_progress.proofs.EventLaws.{changed_at}
use Rattle.fw_progress.proofs.traces.settle_at.Goals as goal

pub returns : goal.returns
returns c =
    changed_at [] (IsThinnedBy c.args.base.now) c.args.lists.now.items c.args.place c.args.place c.settle.new.self c.index_mut-kept.result.now refl
    c.requires c.index_mut-kept.ensures.value c.in_ok-settle.ensures.value

use Rattle.std.proofs.Common.{[], refl}
use Rattle.fw_progress.specs.Traces.{StandForOneMore, HasAdded}
use Rattle.fw_progress.proofs.EventLaws.{changed_at}
use Rattle.fw_progress.proofs.traces.add_at.Goals as goal

pub returns-clause-thinned : goal.returns-clause-thinned
returns-clause-thinned c =
    changed_at [] (StandForOneMore c.args.at.now) c.args.lists.now.items c.args.place c.args.place c.add.new.self c.index_mut-kept.result.now refl
    c.requires c.index_mut-kept.ensures.value c.in_ok-add.ensures.thinned

pub returns-clause-value : goal.returns-clause-value
returns-clause-value c =
    changed_at [] (HasAdded c.args.at.now) c.args.lists.now.items c.args.place c.args.place c.add.new.self c.index_mut-kept.result.now refl
    c.requires c.index_mut-kept.ensures.value c.in_ok-add.ensures.value

use Rattle.std.proofs.Common.{subst}
use Rattle.fw_progress.specs.StampData.{HaveAdded}
use Rattle.fw_progress.proofs.RestoreLaws.{added-to_none}
use Rattle.fw_progress.proofs.kept_stamps.KeptStamps.of.Goals as goal

pub returns : goal.returns
returns c =
    added-to_none c.args.stamps.now c.add_all.new.self (subst (λ ss. HaveAdded c.args.stamps.now ss c.add_all.new.self) c.new-kept.ensures c.in_ok-add_all.ensures)

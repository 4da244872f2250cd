use Rattle.fw_model.proofs.ShownLaws.{runs-show_one}
use Rattle.fw_model.proofs.laws.two_runs_show_one_bag.Goals as goal

pub returns : goal.returns
returns c = runs-show_one

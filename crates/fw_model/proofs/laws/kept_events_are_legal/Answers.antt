use Rattle.fw_model.proofs.RewritingLaws.{kept-legal}
use Rattle.fw_model.proofs.laws.kept_events_are_legal.Goals as goal

pub returns : goal.returns
returns c = kept-legal

use Rattle.std.proofs.Common.{ap, ◌∙◌}
use Rattle.std.specs.Prelude.{unwrap_or}
use Rattle.fw_settle.specs.Checkpoints.{front_of_entry}
use Rattle.fw_settle.proofs.NewestLaws.{newest-front}
use Rattle.fw_settle.proofs.checkpoints.newest_front.Goals as goal

pub returns : goal.returns
returns c = λ f.
    ap (λ o. unwrap_or o f) (c.front_of_entry.ensures ∙ ap front_of_entry c.newest_checkpoint.ensures.newest) ∙ newest-front c.args.node f c.args.keep.now.entries

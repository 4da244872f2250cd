use Rattle.std.proofs.Common.{[]}
use Rattle.fw_model.specs.Choice.{cut_of}
use Rattle.fw_progress.specs.Cut.{tally_left}
use Rattle.fw_progress.proofs.CutCountLaws.{left_none, left_more}
use Rattle.fw_progress.proofs.cut.cut_owed.Goals as goal

pub loop-place-init : goal.loop-place-init
loop-place-init c = left_none [] (λ p entries. tally_left (cut_of c.args.choice.now p) entries) c.args.owed.now.items

pub loop-place-preserved : goal.loop-place-preserved
loop-place-preserved c =
    left_more [] (λ p entries. tally_left (cut_of c.args.choice.now p) entries) c.loop-place.place c.args.owed.now.items c.loop-place.owed.items c.cut_owed_at.new.owed.items
    c.loop-place.invariant c.cut_owed_at.ensures

use Rattle.std.proofs.Common.{◌≡◌, false, rules}
use Rattle.fw_model.specs.Machine.{front_of}
use Rattle.fw_progress.specs.Settle.{has_more}
use Rattle.fw_settle.proofs.ShapeLaws.{shaped-out}
use Rattle.fw_settle.proofs.settling.settle_node.Goals as goal

pub returns-in-None-clause-shaped : goal.returns-in-None-clause-shaped
returns-in-None-clause-shaped c =
    let old = c.args.running.now in
    let none : has_more (front_of old.progress.kept c.args.node) (front_of old.progress.settled c.args.node) ≡ false = search rules in
    shaped-out old c.take_growing.new.self c.args.node c.requires.shaped c.take_growing.ensures.others c.take_growing.ensures.taken none

use Rattle.std.proofs.Common.{arith}
use Rattle.fw_flow.specs.Dataflow.{sender, receiver, bounds_of}
use Rattle.fw_model.specs.Machine.{family_of}
use Rattle.fw_progress.proofs.TargetLaws.{come-projected}
use Rattle.fw_progress.proofs.target.come.Goals as goal

pub narrow_to_pending-requires : goal.narrow_to_pending-requires
narrow_to_pending-requires c = let each = c.requires.counts.pending_each in omega (arith, each, c.requires.there)

pub returns : goal.returns
returns c =
    let flow = c.args.flow.now in
    let e = c.args.edge in
    let a = c.in_ok-come.ensures in
    come-projected flow c.args.counts.now e (family_of flow c.args.fronts.now (sender flow e)) c.in_ok-come.come c.narrow_to_pending.new.left a
    (c.in_ok-narrow_to_pending.ensures (bounds_of flow (receiver flow e)) a.canonical (c.requires.counts.pending e c.requires.there))

use Rattle.std.proofs.Common.{arith, ap, ◌∙◌, get_or}
use Rattle.std.proofs.Math.ListN.{set}
use Rattle.fw_time.proofs.Padded.{place_more}
use Rattle.fw_time.proofs.stamp.placed.Goals as goal

pub loop-i-preserved : goal.loop-i-preserved
loop-i-preserved c =
    let s = c.args.coords.now in
    ap (λ all. set all c.loop-i.i (get_or s c.loop-i.i 0)) c.loop-i.invariant ∙ place_more s c.loop-i.i (omega arith) c.requires

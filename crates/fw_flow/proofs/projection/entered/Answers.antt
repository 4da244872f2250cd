use Rattle.std.proofs.Common.{◌≡◌, ◌<◌, length, ◌∙◌, ap, arith}
use Rattle.fw_time.proofs.StampSteps.{length-origin}
use Rattle.fw_flow.proofs.projection.entered.Goals as goal

pub nest-requires : goal.nest-requires
nest-requires c =
    let e : length c.origin.result ≡ length c.args.sender.now.greatest = ap length c.origin.ensures ∙ length-origin c.args.sender.now.greatest in
    let l : length c.args.sender.now.greatest < 4 = c.requires.sender.1 in
    omega arith

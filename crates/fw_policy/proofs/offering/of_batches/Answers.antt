use Rattle.std.proofs.Common.{arith}
use Rattle.fw_policy.proofs.CodeLaws.{in_batches}
use Rattle.fw_policy.proofs.offering.of_batches.Goals as goal

pub returns-in_ok-until-in-Source : goal.returns-in_ok-until-in-Source
returns-in_ok-until-in-Source c = λ fits.
    in_batches c.args.low.now c.in_ok-copy-in-Source.field-0 c.in_ok-until-in-Source.field-0 c.args.border.now c.in-Source.injected c.min.result c.in-Source.exhausted
    c.in-Source.is fits (λ few. omega (arith, c.min.ensures, few)) c.in_ok-copy-in-Source.ensures c.in_ok-until-in-Source.ensures

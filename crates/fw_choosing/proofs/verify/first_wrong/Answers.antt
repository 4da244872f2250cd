use Rattle.fw_choosing.proofs.ChoiceLaws.{place-said_yes}
use Rattle.fw_choosing.proofs.verify.first_wrong.Goals as goal

pub returns-in-Yes : goal.returns-in-Yes
returns-in-Yes c =
    place-said_yes c.args.flow.now c.args.offers.now c.args.lowerings.now c.as_slice.result.now _ c.in_ok-verdict.verdict c.in-Yes.is c.in_ok-verdict.ensures.exact c.as_slice.ensures

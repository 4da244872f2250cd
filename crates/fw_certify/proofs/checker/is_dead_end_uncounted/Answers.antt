use Rattle.std.proofs.lemmas.Result.{IfOk-weaker}
use Rattle.fw_certify.proofs.CodeLaws.{no_dead_end, nowhere-no_dead_end, through-dead_end, through-of_flow, wrong-no_dead_end}
use Rattle.fw_certify.proofs.checker.is_dead_end_uncounted.Goals as goal

pub returns-then-not-is_side_of_flow : goal.returns-then-not-is_side_of_flow
returns-then-not-is_side_of_flow g c = no_dead_end c.args.flow.now c.args.offers.now c.args.certificate.now c.args.side.now c.is_side_of_flow.result c.if-not-is_side_of_flow.true c.is_side_of_flow.ensures

pub returns-in-Nowhere : goal.returns-in-Nowhere
returns-in-Nowhere g c = nowhere-no_dead_end c.args.flow.now c.args.offers.now c.args.certificate.now c.as_slice.result.now c.args.side.now c.in_ok-followed.followed c.as_slice.ensures c.in-Nowhere.is c.in_ok-followed.ensures.followed

pub returns-in-Wrong : goal.returns-in-Wrong
returns-in-Wrong g c = wrong-no_dead_end c.args.flow.now c.args.offers.now c.args.certificate.now c.as_slice.result.now c.args.side.now c.in_ok-followed.followed c.in-Wrong.at c.as_slice.ensures c.in-Wrong.is c.in_ok-followed.ensures.followed

pub is_none_left-requires-clause-there : goal.is_none_left-requires-clause-there
is_none_left-requires-clause-there g c = c.is_side_of_flow.ensures.0 c.if-not-is_side_of_flow.false

pub is_none_left-requires-clause-of_flow : goal.is_none_left-requires-clause-of_flow
is_none_left-requires-clause-of_flow g c = through-of_flow c.args.flow.now c.args.offers.now c.as_slice.result.now c.in_ok-followed.followed c.in-Through.values c.in-Through.is c.in_ok-followed.ensures.followed

pub returns : goal.returns
returns g c =
    IfOk-weaker c.is_none_left.result _ _
    (λ b. through-dead_end c.args.flow.now c.args.offers.now c.args.certificate.now c.as_slice.result.now c.args.side.now c.in_ok-followed.followed c.in-Through.values b c.is_side_of_flow.result c.as_slice.ensures c.in-Through.is c.in_ok-followed.ensures.followed c.if-not-is_side_of_flow.false c.is_side_of_flow.ensures)
    c.is_none_left.ensures

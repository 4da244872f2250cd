use Rattle.std.proofs.Common.{arith}
use Rattle.std.proofs.lemmas.Bool.{leb-true, leb-false}
use Rattle.fw_session.proofs.session.has_injected.Goals as goal

pub returns-in-Some-clause-all : goal.returns-in-Some-clause-all
returns-in-Some-clause-all c = λ records sys state stands hit.
    let count = c.in-Some.ensures.count records sys state stands in
    omega (arith, count, leb-true c.args.count c.in-Some.injected hit)

pub returns-in-Some-clause-fewer : goal.returns-in-Some-clause-fewer
returns-in-Some-clause-fewer c = λ records sys state stands there input miss.
    let count = c.in-Some.ensures.count records sys state stands in
    omega (arith, count, leb-false c.args.count c.in-Some.injected miss)

use Rattle.fw_certify.proofs.CodeLaws.{spelled-canonical, unspelled-canonical}
use Rattle.fw_certify.proofs.judge.is_canonical.Goals as goal

pub returns-in-Some : goal.returns-in-Some
returns-in-Some c = spelled-canonical c.args.domain.now c.args.front.now c.in-Some.canonical c.outside.result.now c.in_ok-spelled.spelled c.same.result c.in-Some.is c.outside.ensures c.in_ok-spelled.ensures.names c.same.ensures.one

pub returns-in-None : goal.returns-in-None
returns-in-None c = unspelled-canonical c.args.domain.now c.args.front.now c.outside.result.now c.in_ok-spelled.spelled c.in-None.is c.outside.ensures c.in_ok-spelled.ensures.some

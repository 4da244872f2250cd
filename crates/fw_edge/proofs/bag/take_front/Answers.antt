use Rattle.std.proofs.Common.{Some}
use Rattle.fw_edge.proofs.HeadLaws.{left-apart, taken-front}
use Rattle.fw_edge.proofs.bag.take_front.Goals as goal

pub advance-requires : goal.advance-requires
advance-requires c = left-apart c.args.at.now c.args.head.now c.take_first.new.self c.args.rest.now.entries c.requires c.take_first.ensures.rest

pub returns-clause-taken : goal.returns-clause-taken
returns-clause-taken c =
    taken-front c.args.head.now c.take_first.new.self c.args.rest.now.entries (Some c.in_ok-message.message) _ c.in_ok-message.ensures.value c.take_first.ensures.rest c.advance.ensures.same

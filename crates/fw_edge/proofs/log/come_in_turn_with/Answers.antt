use Rattle.std.proofs.Common.{sym}
use Rattle.fw_edge.proofs.LogLaws.{in_turn-appended, appended-in_turn}
use Rattle.fw_edge.proofs.log.come_in_turn_with.Goals as goal

pub returns-then-in_turn-clause-in_turn : goal.returns-then-in_turn-clause-in_turn
returns-then-in_turn-clause-in_turn c = λ t.
    in_turn-appended c.in-Some.last.now c.args.message.now c.args.messages.now (c.requires c.if-in_turn.true) (sym c.in-Some.ensures.value) (c.comes_no_later.ensures.0 t)

pub returns-then-in_turn-clause-known : goal.returns-then-in_turn-clause-known
returns-then-in_turn-clause-known c = λ known t.
    c.comes_no_later.ensures.1 (appended-in_turn c.in-Some.last.now c.args.message.now c.args.messages.now t (sym c.in-Some.ensures.value))

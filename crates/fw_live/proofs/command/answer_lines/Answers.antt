use Rattle.std.proofs.Common.{refl}
use Rattle.fw_live.proofs.CommandLaws.{flow-quiet, flow-rests, session-none, writes-none}
use Rattle.fw_run.specs.declared.status.Status.TheVariants.{NoMemory}
use Rattle.fw_live.proofs.command.answer_lines.Goals as goal

pub returns-in-Ok-clause-answers : goal.returns-in-Ok-clause-answers
returns-in-Ok-clause-answers g c =
    let view = g.O.Sink.view in
    let input = c.answer_all.new.input in
    let opened = c.in-Ok.ensures in
    flow-rests g.K.Store.view c.in-Ok.live.rests c.args.rests c.args.flow (g.L.LineSource.given c.args.input.now) (g.L.LineSource.given input)
    (g.L.LineSource.ended input) c.answer_all.result (view c.args.out.now) (view c.answer_all.new.out) opened.rests
    (c.answer_all.ensures.answers c.args.flow opened.flow opened.none opened.at)

pub returns-in-Err-clause-answers : goal.returns-in-Err-clause-answers
returns-in-Err-clause-answers g c =
    flow-quiet g.K.Store.view c.args.rests c.args.flow (g.L.LineSource.given c.args.input.now) (g.L.LineSource.ended c.args.input.now) NoMemory
    (g.O.Sink.view c.args.out.now) tt tt

pub returns-in-Err-clause-writes : goal.returns-in-Err-clause-writes
returns-in-Err-clause-writes g c = writes-none NoMemory (g.O.Sink.view c.args.out.now) (λ count. refl)

pub returns-in-Err-clause-reads : goal.returns-in-Err-clause-reads
returns-in-Err-clause-reads g c = session-none (g.L.LineSource.given c.args.input.now) (g.L.LineSource.fault_count c.args.input.now)

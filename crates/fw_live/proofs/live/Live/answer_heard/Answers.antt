use Rattle.std.proofs.Common.{◌≡◌, refl, ap, sym, subst, ◌∙◌}
use Rattle.fw_engine.specs.Engine.{flow_of}
use Rattle.fw_living.specs.Life.{came_in_story}
use Rattle.fw_live.specs.declared.counts.LineCounts.{LineCounts}
use Rattle.fw_live.specs.Faults.{FaultsBy}
use Rattle.fw_live.specs.Reading.{heard_in, read_in}
use Rattle.fw_live.proofs.AnsweredLaws.{allowed-relied, answer-refused, answer-turned, if-if}
use Rattle.fw_live.proofs.FaultsLaws.{none-told, same≤}
use Rattle.fw_live.proofs.live.Live.answer_heard.Goals as goal

pub returns-in_ok-write_refused-in-Err-clause-answered : goal.returns-in_ok-write_refused-in-Err-clause-answered
returns-in_ok-write_refused-in-Err-clause-answered g c = λ story kept at keeps relied.
    let live = c.args.self.now in
    let here = live.session in
    answer-refused live.rests (flow_of (g.S.Living.engine_of here)) story kept (heard_in c.args.heard) c.in-Err.rule live.counts c.count_line.new.self
    c.args.into.now.items c.write_refused.new.into.items (λ s lines. g.S.Living.at here s × g.S.Living.keeps here s lines) (g.S.Living.records here) (at, keeps)
    (ap heard_in (sym c.in-Err.is) ∙ c.allowed.ensures story at) c.count_line.ensures c.in_ok-write_refused-in-Err.ensures

pub returns-in-Ok-clause-answered : goal.returns-in-Ok-clause-answered
returns-in-Ok-clause-answered g c = λ story kept at keeps relied.
    let live = c.args.self.now in
    let here = live.session in
    let new = c.turn.new.session in
    let flow = flow_of (g.S.Living.engine_of here) in
    let heard = ap heard_in (sym c.in-Ok.is) ∙ c.allowed.ensures story at in
    if-if c.turn.result _ _
    (c.turn.ensures.turned story kept at keeps (allowed-relied story.now.opened (came_in_story flow story) (heard_in c.args.heard) (read_in c.in-Ok.asked)
    (g.S.Living.records new) heard relied))
    (λ has. answer-turned live.rests flow story kept (heard_in c.args.heard) (read_in c.in-Ok.asked) live.counts c.count_line.new.self c.turn.new.counts
    c.args.into.now.items c.turn.new.into.items (λ s lines. g.S.Living.at new s × g.S.Living.keeps new s lines) (g.S.Living.records new) heard c.count_line.ensures has)

pub returns-in_ok-write_refused-in-Err-clause-faults : goal.returns-in_ok-write_refused-in-Err-clause-faults
returns-in_ok-write_refused-in-Err-clause-faults g c =
    let live = c.args.self.now in
    let count = g.S.Living.fault_count live.session in
    none-told live.counts.faults c.count_line.new.self.faults count count (ap (λ (k : LineCounts). k.faults) c.count_line.ensures) refl

pub returns-in-Ok-clause-faults : goal.returns-in-Ok-clause-faults
returns-in-Ok-clause-faults g c =
    let live = c.args.self.now in
    let count = g.S.Living.fault_count in
    subst (λ n. FaultsBy c.turn.result n c.turn.new.counts.faults (count live.session) (count c.turn.new.session))
    (ap (λ (k : LineCounts). k.faults) c.count_line.ensures) c.turn.ensures.faults

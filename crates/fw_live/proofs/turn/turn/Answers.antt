use Rattle.std.proofs.Common.{◌≡◌, refl, sym, ap, ◌∙◌}
use Rattle.std.proofs.lemmas.Result.{err_from_is_err_and}
use Rattle.fw_engine.specs.Engine.{flow_of}
use Rattle.fw_live.specs.declared.counts.LineCounts.{LineCounts}
use Rattle.fw_live.specs.Reading.{read_in}
use Rattle.fw_live.proofs.AnsweredLaws.{has-looked}
use Rattle.fw_live.proofs.FaultsLaws.{none-told, same≤}
use Rattle.fw_live.proofs.turn.turn.Goals as goal

pub returns-then-is_look-clause-turned : goal.returns-then-is_look-clause-turned
returns-then-is_look-clause-turned g c = λ story kept at keeps relied.
    let here = c.args.session.now in
    has-looked c.args.rests (flow_of (g.S.Living.engine_of here)) story kept (read_in c.args.asked.now) c.args.counts.now c.count_turn.new.self
    c.new.result c.args.into.now.items c.look.new.into.items (λ s lines. g.S.Living.at here s × g.S.Living.keeps here s lines)
    (g.S.Living.records here) (sym c.is_look.ensures ∙ c.if-is_look.true) c.new.ensures c.count_turn.ensures (at, keeps)
    (c.in_ok-look.ensures story at)

pub returns-clause-turned : goal.returns-clause-turned
returns-clause-turned g c = λ story kept at keeps relied.
    c.act.ensures.turned story kept at (sym c.is_look.ensures ∙ c.if-is_look.false) relied

pub returns-then-is_look-clause-faults : goal.returns-then-is_look-clause-faults
returns-then-is_look-clause-faults g c =
    let count = g.S.Living.fault_count c.args.session.now in
    none-told c.args.counts.now.faults c.count_turn.new.self.faults count count (ap (λ (k : LineCounts). k.faults) c.count_turn.ensures) refl

pub returns-in_err-look-clause-faults : goal.returns-in_err-look-clause-faults
returns-in_err-look-clause-faults g c =
    let p = err_from_is_err_and c.from_residual.result c.from_residual.ensures.1 in
    let count = g.S.Living.fault_count c.args.session.now in
    rw (p.1) (same≤ count count refl)

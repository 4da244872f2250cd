use Rattle.std.proofs.Common.{Err, refl, sym, ap, ◌∙◌}
use Rattle.std.proofs.Math.Logic.{∥∥₁_map}
use Rattle.std.proofs.lemmas.Result.{err_from_is_err_and}
use Rattle.fw_choose.proofs.CollectLaws.{swept-shaped}
use Rattle.fw_running.proofs.DrawnLaws.{supply_same}
use Rattle.fw_engine.proofs.HeldLaws.{answer_of, sweep-answered, sweep-refused}
use Rattle.fw_engine.proofs.engine.Engine.sweep.Goals as goal

pub returns-then-self : goal.returns-then-self
returns-then-self g c = sweep-refused c.if-self.true c.is_catalogue.ensures c.requires.stored

pub invariant_of-self : goal.invariant_of-self
invariant_of-self g c = record {
  shaped = ∥∥₁_map c.args.self.now.shaped (λ shaped live.
      swept-shaped c.args.self.now.running c.sweep-swept.new.self c.sweep-swept.ensures.kept (shaped c.if-self.false));
}

pub returns-in_err-swept : goal.returns-in_err-swept
returns-in_err-swept g c =
    let swept = c.sweep-swept.ensures in
    let p = err_from_is_err_and c.from_residual.result c.from_residual.ensures.1 in
    sweep-answered c.sweep-swept.result (p.1 ∙ ap Err p.2 ∙ sym (ap answer_of c.in_err-swept.was)) c.if-self.false c.is_catalogue.ensures
    c.lacks_memory-self.ensures refl swept.kept (supply_same c.args.self.now.running.parts.keep c.sweep-swept.new.self swept.drawn swept.shared) swept.stored swept.swept swept.bytes swept.clean swept.faults swept.undamaged

pub returns : goal.returns
returns g c =
    let swept = c.sweep-swept.ensures in
    sweep-answered c.sweep-swept.result (sym (ap answer_of c.in_ok-swept.was)) c.if-self.false c.is_catalogue.ensures c.lacks_memory-self.ensures refl
    swept.kept (supply_same c.args.self.now.running.parts.keep c.sweep-swept.new.self swept.drawn swept.shared) swept.stored swept.swept swept.bytes swept.clean swept.faults swept.undamaged

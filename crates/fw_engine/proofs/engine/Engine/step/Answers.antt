use Rattle.std.proofs.Math.Logic.{∥∥₁_map}
use Rattle.fw_running.proofs.AnswerLaws.{sound-after}
use Rattle.fw_engine.proofs.EngineLaws.{step-answered, step-refused}
use Rattle.fw_engine.proofs.StableLaws.{shaped-stable}
use Rattle.fw_engine.proofs.engine.Engine.step.Goals as goal

pub take-stepped-requires-clause-shaped : goal.take-stepped-requires-clause-shaped
take-stepped-requires-clause-shaped g c =
    shaped-stable c.args.self.now.running c.flow_is_well_formed.ensures (∥∥₁_map c.args.self.now.shaped (λ shaped. shaped c.if-self.false))

pub invariant_of-self : goal.invariant_of-self
invariant_of-self g c =
    record { shaped = ∣ (λ live. sound-after c.take-stepped.result c.take-stepped.new.running c.is_refusal-self.result c.take-stepped.ensures.answers.shaped c.is_refusal-self.ensures live) ∣₁ }

pub returns-then-self : goal.returns-then-self
returns-then-self g c = step-refused c.if-self.true c.requires.stored c.ids_ascend.ensures

pub returns : goal.returns
returns g c =
    let stepped = c.take-stepped.ensures in
    step-answered c.if-self.false c.ids_ascend-2.ensures c.is_refusal-self.ensures stepped.answers stepped.draws stepped.undrawn

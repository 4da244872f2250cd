use Rattle.std.proofs.Math.Logic.{∥∥₁_map}
use Rattle.fw_running.proofs.AnswerLaws.{sound-after}
use Rattle.fw_engine.proofs.StableLaws.{shaped-stable}
use Rattle.fw_engine.proofs.WithinLaws.{within-answered, within-refused}
use Rattle.fw_engine.proofs.engine.Engine.auto_step_within.Goals as goal

pub take_first_within-stepped-requires-clause-shaped : goal.take_first_within-stepped-requires-clause-shaped
take_first_within-stepped-requires-clause-shaped g c =
    shaped-stable c.args.self.now.running c.flow_is_well_formed.ensures (∥∥₁_map c.args.self.now.shaped (λ shaped. shaped c.if-self.false))

pub invariant_of-self : goal.invariant_of-self
invariant_of-self g c =
    record { shaped = ∣ (λ live. sound-after c.take_first_within-stepped.result c.take_first_within-stepped.new.running c.is_refusal-self.result c.take_first_within-stepped.ensures.shaped c.is_refusal-self.ensures live) ∣₁ }

pub returns-then-self : goal.returns-then-self
returns-then-self g c = within-refused c.args.came.now c.if-self.true c.requires.stored c.ids_ascend.ensures

pub returns : goal.returns
returns g c =
    let stepped = c.take_first_within-stepped.ensures in
    within-answered c.args.came.now c.if-self.false c.ids_ascend-2.ensures c.is_refusal-self.ensures stepped.takes stepped.part stepped.idle stepped.draws

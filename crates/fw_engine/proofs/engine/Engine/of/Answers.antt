use Rattle.fw_engine.proofs.engine.Engine.of.Goals as goal

pub invariant_of-result : goal.invariant_of-result
invariant_of-result c = record { shaped = ∣ (λ live. c.requires.shaped) ∣₁ }

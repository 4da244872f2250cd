use Rattle.std.proofs.Math.Logic.{∥∥₁_map}
use Rattle.fw_engine.proofs.StableLaws.{shaped-stable}
use Rattle.fw_engine.proofs.engine.Engine.running.Goals as goal

pub returns-clause-shaped : goal.returns-clause-shaped
returns-clause-shaped c = λ live.
    shaped-stable c.args.self.now.running c.flow_is_well_formed.ensures (∥∥₁_map c.args.self.now.shaped (λ shaped. shaped live))

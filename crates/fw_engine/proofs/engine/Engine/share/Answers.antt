use Rattle.std.proofs.Common.{ap}
use Rattle.std.proofs.Math.Logic.{∥∥₁_map}
use Rattle.fw_choose.proofs.CollectLaws.{swept-shaped}
use Rattle.fw_keep.specs.Catalogue.{KeepState}
use Rattle.fw_engine.proofs.HeldLaws.{shared-stands, shared-stored}
use Rattle.fw_engine.proofs.engine.Engine.share.Goals as goal

pub invariant_of-self : goal.invariant_of-self
invariant_of-self c = record {
  shaped = ∥∥₁_map c.args.self.now.shaped (λ shaped live.
      swept-shaped c.args.self.now.running c.share.new.self (ap (λ (k : KeepState). k.entries) c.share.ensures.shared) (shaped live));
}

pub returns-clause-stands : goal.returns-clause-stands
returns-clause-stands c = λ records sys state s.
    shared-stands sys c.args.self.now.running c.share.new.self records state c.share.ensures.shared s

pub returns-clause-stored : goal.returns-clause-stored
returns-clause-stored c = λ records there.
    shared-stored c.args.self.now.running.parts.keep c.share.new.self records c.share.ensures.shared there

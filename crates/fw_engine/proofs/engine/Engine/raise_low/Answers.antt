use Rattle.std.proofs.Common.{◌∙◌, sym}
use Rattle.std.proofs.Math.Logic.{∥∥₁_map}
use Rattle.fw_engine.proofs.HeldLaws.{raise-answered, raise-refused, raise-shaped}
use Rattle.fw_engine.proofs.StableLaws.{shaped-stable}
use Rattle.fw_engine.proofs.engine.Engine.raise_low.Goals as goal

pub raise_low-stepped-requires : goal.raise_low-stepped-requires
raise_low-stepped-requires c = record {
  shaped = shaped-stable c.args.self.now.running c.flow_is_well_formed.ensures (∥∥₁_map c.args.self.now.shaped (λ shaped. shaped c.if-self.false));
}

pub invariant_of-self : goal.invariant_of-self
invariant_of-self c = record {
  shaped = ∣ (λ live. raise-shaped c.raise_low-stepped.new.running c.raise_low-stepped.result c.raise_low-stepped.ensures.shaped (sym c.is_err-self.ensures.value ∙ live)) ∣₁;
}

pub returns-then-self : goal.returns-then-self
returns-then-self c = raise-refused c.if-self.true c.ids_ascend.ensures

pub returns : goal.returns
returns c =
    let stepped = c.raise_low-stepped.ensures in
    raise-answered c.if-self.false c.ids_ascend-2.ensures c.is_err-self.ensures.value stepped.stored stepped.flow stepped.draws stepped.takes

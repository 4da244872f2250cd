use Rattle.std.proofs.Common.{None, refl, ap, ◌∙◌}
use Rattle.std.specs.List.{list_any}
use Rattle.std.proofs.Math.Logic.{∥∥₁_map}
use Rattle.fw_recover.proofs.RecoverStepLaws.{recovery-enabled, some-down}
use Rattle.fw_engine.proofs.OutlookLaws.{none-failed, some-failed}
use Rattle.fw_engine.proofs.StableLaws.{shaped-stable}
use Rattle.fw_engine.proofs.engine.Engine.outlook.Goals as goal

pub outlook_of-requires : goal.outlook_of-requires
outlook_of-requires c =
    shaped-stable c.args.self.now.running c.flow_is_well_formed.ensures (∥∥₁_map c.args.self.now.shaped (λ shaped. shaped c.if-self.false))

pub returns-then-not-any_of-clause-none : goal.returns-then-not-any_of-clause-none
returns-then-not-any_of-clause-none c =
    none-failed c.args.self.now None c.deref.result.now c.any_of.result refl c.deref.ensures.value c.any_of.ensures c.if-not-any_of.true

pub returns-clause-none : goal.returns-clause-none
returns-clause-none c =
    some-failed c.args.self.now _ c.in_ok-outlook.outlook refl c.deref.result.now c.any_of.result c.deref.ensures.value c.any_of.ensures c.if-not-any_of.false

pub returns-clause-some : goal.returns-clause-some
returns-clause-some c = λ records sys state stands. c.in_ok-outlook.ensures.of_state sys records state stands

pub returns-clause-enabled : goal.returns-clause-enabled
returns-clause-enabled c =
    let running = c.args.self.now.running in
    let shaped = shaped-stable running c.flow_is_well_formed.ensures (∥∥₁_map c.args.self.now.shaped (λ shaped. shaped c.if-self.false)) in
    let some = some-down running.failed.items c.any_of.result (c.any_of.ensures ∙ ap (list_any (λ down. down)) c.deref.ensures.value) c.if-not-any_of.false in
    λ records sys state stands. recovery-enabled running records shaped some sys state stands.apart

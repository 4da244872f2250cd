use Rattle.std.proofs.Common.{sym, subst, ◌∙◌}
use Rattle.std.specs.Prelude.{Option, IfSome, string_bytes}
use Rattle.fw_flow.specs.declared.step.Step.TheVariants.{Recover}
use Rattle.fw_keep.specs.Stored.{Records}
use Rattle.fw_model.specs.Offers.{AreOffersOf}
use Rattle.fw_running.specs.Steps.{IsStepEnabled}
use Rattle.fw_choose.specs.declared.viewing.Lost.TheVariants as lost
use Rattle.fw_choose.specs.Outlooks.{IsOutlookOf}
use Rattle.fw_engine.specs.Engine.{ForEachState, flow_of}
use Rattle.fw_command.specs.Command.{with_certificates}
use Rattle.fw_run.specs.Explained.{AreReasonsFor}
use Rattle.fw_run.proofs.ReasonLaws.{lines-told, none-told, others-told}
use Rattle.fw_run.proofs.explain.reasons.Goals as goal

pub returns-then-not-is_recovery : goal.returns-then-not-is_recovery
returns-then-not-is_recovery c = λ records sys state st.
    subst (AreReasonsFor with_certificates sys state c.args.step.now) (sym c.new.ensures.bytes) (others-told with_certificates sys state c.args.step.now (sym c.is_recovery.ensures ∙ c.if-not-is_recovery.true))

pub returns-in-None : goal.returns-in-None
returns-in-None c = λ records sys state st.
    subst (AreReasonsFor with_certificates sys state c.args.step.now) (sym c.new-in-None.ensures.bytes) (none-told sys state c.args.step.now ((c.in_ok-outlook.ensures.none records sys state st).0 c.in-None.is))

pub certificate_lines-requires : goal.certificate_lines-requires
certificate_lines-requires c =
    subst (λ flow. AreOffersOf flow c.in-Some.outlook.candidates.items) (sym c.flow.ensures)
    (subst (λ found. IfSome found (λ outlook. AreOffersOf (flow_of c.args.engine.now) outlook.candidates.items)) c.in-Some.is c.in_ok-outlook.ensures.of_flow)

pub returns-in-Some : goal.returns-in-Some
returns-in-Some c =
    let engine = c.args.engine.now in
    let enabled = subst (λ found. IfSome found (λ outlook. (records : Option Records) → ForEachState engine records (λ sys state. IsStepEnabled sys state Recover))) c.in-Some.is
    c.in_ok-outlook.ensures.enabled in
    let of_state = subst (λ found. IfSome found (λ outlook. (records : Option Records) → ForEachState engine records (λ sys state. IsOutlookOf sys state lost.Failed outlook))) c.in-Some.is
    c.in_ok-outlook.ensures.some in
    lines-told _ _ string_bytes engine c.flow.result.now c.args.step.now c.in-Some.outlook c.certificate_lines.result c.flow.ensures (sym c.is_recovery.ensures ∙ c.if-not-is_recovery.false) enabled of_state
    c.certificate_lines.ensures

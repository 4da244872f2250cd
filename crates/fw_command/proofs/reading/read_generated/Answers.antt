use Rattle.std.proofs.Common.{◌≡◌, ℕ, List, ◌∙◌, ap, subst, Err}
use Rattle.std.proofs.lemmas.Result.{err_from_is_err_and}
use Rattle.fw_flow_text.specs.Grammar as flows
use Rattle.fw_lines.specs.Faults.{IfRefused}
use Rattle.fw_lines.specs.Inputs as inputs
use Rattle.fw_schedule.specs.Grammar as schedules
use Rattle.fw_command.proofs.TextLaws.{generated_read, flow_not_refused, inputs_not_refused, schedule_not_refused}
use Rattle.fw_command.specs.Manner.{seeded_in}
use Rattle.fw_command.proofs.reading.read_generated.Goals as goal

-- what is true of a text and its sources is true of the same ones
of_same_text : {text other : List ℕ} {sources others : List (List ℕ × ℕ)} (P : List ℕ → List (List ℕ × ℕ) → Type 0) → text ≡ other → sources ≡ others → P text sources → P other others
of_same_text {text} {other} {sources} {others} P e f p = subst (λ (s : List (List ℕ × ℕ)). P other s) f (subst (λ (t : List ℕ). P t sources) e p)

pub returns-in_err-flow-clause-accepted : goal.returns-in_err-flow-clause-accepted
returns-in_err-flow-clause-accepted c =
    let p = err_from_is_err_and c.from_residual-in_err-flow.result c.from_residual-in_err-flow.ensures.1 in
    let text = c.as_bytes.ensures.value ∙ c.flow.ensures in
    let refused = subst (λ (t : List ℕ). IfRefused (flows.IsRefusedFlow t) c.in_err-flow.field-0.0) text c.in_err-flow.ensures in
    λ size e. p.1 ∙ ap (λ f. Err f) (p.2 ∙ flow_not_refused (seeded_in c.args.words) c.in_ok-texts.texts c.in_err-flow.field-0.0 size c.in_ok-texts.ensures refused)

pub returns-in_err-batches-clause-accepted : goal.returns-in_err-batches-clause-accepted
returns-in_err-batches-clause-accepted c =
    let p = err_from_is_err_and c.from_residual-in_err-batches.result c.from_residual-in_err-batches.ensures.1 in
    let flow = c.in_ok-flow.flow in
    let declared = subst (λ (t : List ℕ). flows.IsAcceptedFlow t flow) (c.as_bytes.ensures.value ∙ c.flow.ensures) c.in_ok-flow.ensures in
    let refused = of_same_text (λ text sources. IfRefused (inputs.AreRefusedInputs text sources) c.in_err-batches.field-0.0) (c.as_bytes-2.ensures.value ∙ c.inputs.ensures) c.in_ok-sources.ensures c.in_err-batches.ensures.answer in
    λ size e. p.1 ∙ ap (λ f. Err f) (p.2 ∙ inputs_not_refused (seeded_in c.args.words) c.in_ok-texts.texts flow c.in_err-batches.field-0.0 size c.in_ok-texts.ensures declared refused)

pub returns-in_err-items-clause-accepted : goal.returns-in_err-items-clause-accepted
returns-in_err-items-clause-accepted c =
    let p = err_from_is_err_and c.from_residual-in_err-items.result c.from_residual-in_err-items.ensures.1 in
    let flow = c.in_ok-flow.flow in
    let declared = subst (λ (t : List ℕ). flows.IsAcceptedFlow t flow) (c.as_bytes.ensures.value ∙ c.flow.ensures) c.in_ok-flow.ensures in
    let refused = subst (λ (t : List ℕ). IfRefused (schedules.IsRefusedSchedule t flow) c.in_err-items.field-0.0) (c.as_bytes-3.ensures.value ∙ c.schedule.ensures) c.in_err-items.ensures.answer in
    λ size e. p.1 ∙ ap (λ f. Err f) (p.2 ∙ schedule_not_refused (seeded_in c.args.words) c.in_ok-texts.texts flow c.in_err-items.field-0.0 size c.in_ok-texts.ensures declared refused)

pub returns-clause-job : goal.returns-clause-job
returns-clause-job c =
    let flow = c.in_ok-flow.flow in
    let declared = subst (λ (t : List ℕ). flows.IsAcceptedFlow t flow) (c.as_bytes.ensures.value ∙ c.flow.ensures) c.in_ok-flow.ensures in
    let given = of_same_text (λ text sources. inputs.AreAcceptedInputs text sources c.in_ok-batches.batches) (c.as_bytes-2.ensures.value ∙ c.inputs.ensures) c.in_ok-sources.ensures c.in_ok-batches.ensures.answer in
    let asked = subst (λ (t : List ℕ). schedules.IsAcceptedSchedule t flow c.in_ok-items.items) (c.as_bytes-3.ensures.value ∙ c.schedule.ensures) c.in_ok-items.ensures.answer in
    generated_read (seeded_in c.args.words) c.in_ok-texts.texts (record { flow = flow; batches = c.in_ok-batches.batches; items = c.in_ok-items.items }) c.in_ok-texts.ensures declared given asked

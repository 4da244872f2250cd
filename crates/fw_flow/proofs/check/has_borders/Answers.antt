use Rattle.std.proofs.Common.{sym, ◌∙◌}
use Rattle.std.proofs.lemmas.Bool.{false≢true}
use Rattle.fw_flow.specs.Dataflow.{is_input_kind, is_output_kind}
use Rattle.fw_flow.proofs.Tests.{HasNodeOf-from_any, any-from_HasNodeOf}
use Rattle.fw_flow.proofs.check.has_borders.Goals as goal

pub returns-then-has_input : goal.returns-then-has_input
returns-then-has_input c = λ flow made. (
  λ e. (
    HasNodeOf-from_any flow c.args.nodes.now is_input_kind made (sym c.has_input.ensures ∙ c.if-has_input.true),
    HasNodeOf-from_any flow c.args.nodes.now is_output_kind made (sym c.has_output.ensures ∙ e),
  ),
  λ borders. c.has_output.ensures ∙ any-from_HasNodeOf flow c.args.nodes.now is_output_kind made borders.1,
)

pub returns-else-has_input : goal.returns-else-has_input
returns-else-has_input c = λ flow made. (
  λ e. absurd (false≢true (sym c.if-has_input.false ∙ e)),
  λ borders. c.has_input.ensures ∙ any-from_HasNodeOf flow c.args.nodes.now is_input_kind made borders.0,
)

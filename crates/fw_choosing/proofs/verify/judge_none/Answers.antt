use Rattle.std.proofs.Common.{length, ap, ◌∙◌}
use Rattle.std.specs.Prelude.{string_bytes}
use Rattle.fw_choosing.specs.Choices.{none_count_line}
use Rattle.fw_choosing.proofs.ChoiceLaws.{none-shown}
use Rattle.fw_choosing.proofs.verify.judge_none.Goals as goal

pub returns-then-is_right : goal.returns-then-is_right
returns-then-is_right c =
    none-shown c.args.flow.now c.args.offers.now c.args.lowerings.now c.args.node c.args.by (string_bytes c.in_ok-shown.shown)
    c.flow_is_well_formed.ensures (c.in_ok-is_right.ensures.0 c.if-is_right.true) (c.in_ok-shown.ensures ∙ ap (λ ls. none_count_line (length ls)) c.as_slice-count.ensures)

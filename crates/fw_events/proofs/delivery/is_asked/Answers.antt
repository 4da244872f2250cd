use Rattle.std.proofs.Common.{ap, sym, ◌∙◌}
use Rattle.std.specs.Borrow.{Bor}
use Rattle.std.specs.Ordering.{is_eq}
use Rattle.std.specs.Option.{option_copied}
use Rattle.std.specs.Prelude.{Option}
use Rattle.fw_time.specs.Stamp.{Stamp}
use Rattle.fw_model.specs.Steps as steps
use Rattle.fw_model.proofs.DistinctLaws.{stamp_cmp-test}
use Rattle.fw_events.proofs.delivery.is_asked.Goals as goal

pub returns-in-Some : goal.returns-in-Some
returns-in-Some c =
    let asked = ap (λ (a : Option (Bor Stamp)). steps.is_asked (option_copied a) c.args.stamp.now) c.in-Some.is in
    c.is_eq.ensures ∙ ap is_eq c.compare.ensures ∙ stamp_cmp-test c.in-Some.at.now c.args.stamp.now ∙ sym asked

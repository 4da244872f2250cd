use Rattle.std.proofs.Common.{◌∷◌, [], ◌&&◌, not, get_or, sym, ap, ◌∙◌}
use Rattle.std.proofs.Math.Bool.{and_comm}
use Rattle.fw_time.specs.Stamp.{Stamp, leq}
use Rattle.fw_border.specs.Numbers.{is_number_below}
use Rattle.fw_frontier.proofs.GenericLaws.{inside_more}
use Rattle.fw_border.proofs.number.first_outside.Goals as goal

pub loop-o-preserved : goal.loop-o-preserved
loop-o-preserved c x =
    let t = x ∷ [] in
    let o = c.o-item.result in
    sym (inside_more c.outside-o-items.result.now c.loop-o.o-index o t c.loop-o-test.true)
    ∙ ap (λ b. b && not (leq (get_or c.outside-o-items.result.now c.loop-o.o-index o) t)) (c.loop-o.invariant x)
    ∙ ap (λ (s : Stamp). is_number_below c.loop-o.first x && not (leq s t)) (sym c.o-item.is)
    ∙ and_comm (is_number_below c.loop-o.first x) (not (leq o t))
    ∙ sym (c.lowered-first.ensures x)

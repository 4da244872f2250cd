use Rattle.std.proofs.Common.{◌∷◌, [], ◌&&◌, not, nat_lt, get_or, sym, ap, ◌∙◌, arith}
use Rattle.std.proofs.Math.Bool.{and_comm}
use Rattle.fw_time.specs.Stamp.{Stamp, leq}
use Rattle.fw_frontier.proofs.GenericLaws.{inside_more}
use Rattle.fw_settle.proofs.record.limit_of.Goals as goal

pub loop-o-preserved : goal.loop-o-preserved
loop-o-preserved c = (
  λ x small.
      let t = x ∷ [] in
      let o = c.o-item.result in
      sym (inside_more c.outside-o-items.result.now c.loop-o.o-index o t c.loop-o-test.true)
      ∙ ap (λ b. b && not (leq (get_or c.outside-o-items.result.now c.loop-o.o-index o) t)) (c.loop-o.invariant.0 x small)
      ∙ ap (λ (s : Stamp). nat_lt x c.loop-o.limit && not (leq s t)) (sym c.o-item.is)
      ∙ and_comm (nat_lt x c.loop-o.limit) (not (leq o t))
      ∙ sym (c.lowered-limit.ensures.below x),
  (let less = c.lowered-limit.ensures.lesser in let few = c.loop-o.invariant.1 in omega arith),
)

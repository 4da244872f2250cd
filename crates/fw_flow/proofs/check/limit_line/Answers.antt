use Rattle.std.proofs.Common.{refl, sym, ap, ◌∙◌, subst, arith, below_more, take, ◌++◌, ◌∷◌, [], IfSome}
use Rattle.std.proofs.lemmas.List.{take_more}
use Rattle.std.proofs.lemmas.Option.{slice_get_read}
use Rattle.fw_flow.specs.Declaring.{Declared}
use Rattle.fw_flow.specs.Check.{StaysWithinLimits, IsWithinLimitsAfter}
use Rattle.fw_flow.specs.Parts.{AreCountsDeclared}
use Rattle.fw_flow.proofs.check.limit_line.Goals as goal

pub loop-one-preserved : goal.loop-one-preserved
loop-one-preserved c =
    let raw = c.args.declared.now in
    let i = c.loop-one.one-index in
    let one = c.one-item.result in
    let before = take i raw in
    record {
      counted = subst (AreCountsDeclared c.in-Some.more) (sym (take_more raw i one (omega arith) ∙ ap (λ (d : Declared). before ++ d ∷ []) (sym c.one-item.is)))
          (c.in-Some.ensures.counts before one.line c.loop-one.invariant.counted);
      so_far = below_more (StaysWithinLimits raw) i c.loop-one.invariant.so_far
          (subst (λ o. IfSome o (λ (d : Declared). IsWithinLimitsAfter before d.declaration)) (sym (slice_get_read raw _ i one refl (omega arith) c.one-item.is))
          (c.in-Some.ensures.within before c.loop-one.invariant.counted));
    }

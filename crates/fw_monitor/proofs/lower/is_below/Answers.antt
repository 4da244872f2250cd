use Rattle.std.proofs.Common.{◌≡◌, ◌↔◌, true, not, sym, subst}
use Rattle.fw_flow.specs.declared.choice.Cut.{Cut}
use Rattle.fw_flow.specs.Dataflow.{bounds_of}
use Rattle.fw_model.specs.Choice.{IsCanonicalCut}
use Rattle.fw_monitor.specs.Descent.{IsBelow}
use Rattle.fw_monitor.proofs.FitLaws.{below_other, not_below}
use Rattle.fw_monitor.proofs.lower.is_below.Goals as goal

pub returns-then-not-same : goal.returns-then-not-same
returns-then-not-same c = λ flow p.
    subst (λ (x : Cut). IsCanonicalCut (bounds_of flow p) x → (c.subset.result ≡ true) ↔ IsBelow flow p c.args.front.now x) (sym c.in-At.is)
    (λ k. below_other flow p c.args.front.now c.in-At.other c.same.result c.subset.result c.same.ensures.test c.if-not-same.true (c.subset.ensures.domain (bounds_of flow p) k))

pub returns-else-not-same : goal.returns-else-not-same
returns-else-not-same c = λ flow p.
    subst (λ (x : Cut). IsCanonicalCut (bounds_of flow p) x → (not c.same.result ≡ true) ↔ IsBelow flow p c.args.front.now x) (sym c.in-At.is)
    (λ k. not_below flow p c.args.front.now c.in-At.other c.same.result c.same.ensures.test c.if-not-same.false)

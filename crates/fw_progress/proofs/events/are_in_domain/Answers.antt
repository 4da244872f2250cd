use Rattle.std.proofs.Common.{◌≡◌, true, sym, ◌∙◌}
use Rattle.fw_lemmas.proofs.Each.{each-taken}
use Rattle.fw_time.specs.Stamp.{Stamp, in_domain}
use Rattle.fw_progress.proofs.events.are_in_domain.Goals as goal

pub loop-stamp-preserved : goal.loop-stamp-preserved
loop-stamp-preserved c =
    let P : Stamp → Type 0 = λ s. in_domain c.args.bounds.now s ≡ true in
    each-taken P c.args.stamps.now c.loop-stamp.stamp-index c.stamp-item.result c.loop-stamp-test.true c.stamp-item.is c.loop-stamp.invariant (sym c.in_domain.ensures ∙ c.if-not-in_domain.false)

use Rattle.std.proofs.Common.{subst}
use Rattle.fw_resume.specs.Fronts.{AreFrontsAt}
use Rattle.fw_resume.proofs.FrontLaws.{fronts_none, fronts_more}
use Rattle.fw_resume.proofs.fronts.fronts_of.Goals as goal

pub loop-place-init : goal.loop-place-init
loop-place-init c = fronts_none c.args.running.now _ c.in_ok-fronts.ensures.items

pub loop-place-preserved : goal.loop-place-preserved
loop-place-preserved c =
    fronts_more c.args.running.now c.loop-place.place c.loop-place.fronts.items c.push.new.self.items c.in_ok-fronts_at.field-0
    c.loop-place.invariant (subst (λ p. AreFrontsAt c.args.running.now p c.in_ok-fronts_at.field-0) c.at.ensures c.in_ok-fronts_at.ensures) c.in_ok-push.ensures.items

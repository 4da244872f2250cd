use Rattle.std.proofs.Common.{◌≡◌, [], ◌∷◌, ◌++◌, length, ap, ◌∙◌, arith}
use Rattle.fw_model.specs.Inclusions.{inclusions_to}
use Rattle.fw_monitor.proofs.BeginLaws.{begins_none, begins_next}
use Rattle.fw_monitor.proofs.WorklistLaws.{inclusions_next}
use Rattle.fw_monitor.proofs.worklist.inclusions.Goals as goal

pub loop-place-init : goal.loop-place-init
unfolding inclusions_to
loop-place-init c = (c.in_ok-all.ensures.items, begins_none c.args.flow.now c.in_ok-begins.begins.items c.in_ok-begins.ensures.items)

pub loop-place-preserved : goal.loop-place-preserved
loop-place-preserved c =
    let begins = c.loop-place.begins.items in
    let long : c.len.result ≡ length c.loop-place.all.items = omega (arith, c.len.ensures, c.loop-place.all.ok.0) in (
      inclusions_next c.args.flow.now c.loop-place.all.items c.add_of_node.new.all.items c.loop-place.place c.at.result c.loop-place.invariant.0 c.in_ok-add_of_node.ensures c.at.ensures,
      begins_next c.args.flow.now c.loop-place.place begins c.push.new.self.items c.loop-place.all.items c.loop-place.invariant.1 c.loop-place.invariant.0
          (c.in_ok-push.ensures.items ∙ ap (λ k. begins ++ k ∷ []) long),
    )

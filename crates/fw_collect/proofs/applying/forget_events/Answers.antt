use Rattle.std.proofs.Common.{◌+◌, ◌∙◌, sym, ap, subst, take, arith}
use Rattle.fw_keep.specs.Catalogue.{KeepState, without}
use Rattle.fw_keep.specs.Entry.{is_at}
use Rattle.fw_collect.specs.declared.drops.AtNode.{AtNode}
use Rattle.fw_collect.specs.Dropped.{is_at_some, Forgets}
use Rattle.fw_collect.proofs.ApplyLaws.{forgets_nothing, forgets_more, forgets_again}
use Rattle.fw_collect.proofs.applying.forget_events.Goals as goal
use Rattle.fw_collect.proofs.applying.forget_events.Goals.{then-not-is_repeated, else-not-is_repeated}

pub loop-place-init : goal.loop-place-init
loop-place-init c = forgets_nothing c.args.keep.now

pub loop-place-preserved : goal.loop-place-preserved
loop-place-preserved c =
    let events = c.args.events.now in
    let place = c.loop-place.place in
    let keep : KeepState = c.loop-place.keep in
    let event : AtNode = c.index-events-place.result in
    let after = λ (k : KeepState). Forgets (is_at_some (take (place + 1) events)) c.args.keep.now k in
    elim c.if-not-is_repeated.branch [
      | then-not-is_repeated w ↦ subst after (sym w.keep-is)
          (forgets_more (λ (d : AtNode). is_at d.node d.at) events place event c.args.keep.now keep w.forget_at.new.self
          (omega (arith, c.loop-place-test.true, c.loop-place.auto.place-end)) c.loop-place.invariant
          (w.forget_at.ensures.gone ∙ ap (λ (d : AtNode). without (is_at d.node d.at) keep) c.index-events-place.is)
          w.forget_at.ensures.stored)
      | else-not-is_repeated w ↦
          let same = c.is_repeated.ensures.0 w.if-not-is_repeated.false event in
          subst after (sym w.keep-is)
          (forgets_again (λ (d : AtNode). is_at d.node d.at) events place event c.args.keep.now keep
          (omega (arith, c.loop-place-test.true, c.loop-place.auto.place-end)) same.0 same.1 c.loop-place.invariant)
    ]

use Rattle.std.proofs.Common.{refl, ap, ◌∙◌, inl, inr, arith}
use Rattle.fw_lemmas.proofs.Lists.{read_at}
use Rattle.fw_progress.proofs.LeapLaws.{raised-one}
use Rattle.fw_progress.proofs.ProposedLaws.{one_raised, all_raised}
use Rattle.fw_progress.proofs.leap.raised.Goals as goal
use Rattle.fw_progress.proofs.leap.raised.Goals.{then-is_marked+in_ok-push, else-is_marked+in_ok-copy+in_ok-push-2}

pub loop-place-preserved : goal.loop-place-preserved
loop-place-preserved c =
    let flow = c.args.flow.now in
    let fronts = c.args.fronts.now in
    let old = c.loop-place.next.items in
    elim c.if-is_marked.branch [
      | then-is_marked+in_ok-push w ↦
          let more = raised-one flow fronts old c.if-is_marked.next.items c.loop-place.place w.all.result c.requires.canonical c.loop-place.invariant.one_each
          c.loop-place.invariant.canonical (ap (λ v. v.items) w.next-is ∙ w.in_ok-push.ensures.items) (inl w.all.ensures) in
          let raised = one_raised c.args.marks.now c.loop-place.place c.is_marked.result w.all.result fronts old c.if-is_marked.next.items c.is_marked.ensures c.loop-place.invariant.one_each
          (inl (w.if-is_marked.true, w.all.ensures)) (ap (λ v. v.items) w.next-is ∙ w.in_ok-push.ensures.items) c.loop-place.invariant.raised in
          record { one_each = more.0; canonical = more.1; raised = raised }
      | else-is_marked+in_ok-copy+in_ok-push-2 w ↦
          let x = read_at fronts c.loop-place.place c.loop-place.place w.index-fronts-place.result _ refl (omega (arith, c.loop-place-test.true)) w.index-fronts-place.is in
          let more = raised-one flow fronts old c.if-is_marked.next.items c.loop-place.place w.in_ok-copy.field-0 c.requires.canonical c.loop-place.invariant.one_each
          c.loop-place.invariant.canonical (ap (λ v. v.items) w.next-is ∙ w.in_ok-push-2.ensures.items) (inr (w.in_ok-copy.ensures ∙ x)) in
          let raised = one_raised c.args.marks.now c.loop-place.place c.is_marked.result w.in_ok-copy.field-0 fronts old c.if-is_marked.next.items c.is_marked.ensures c.loop-place.invariant.one_each
          (inr (w.if-is_marked.false, w.in_ok-copy.ensures ∙ x)) (ap (λ v. v.items) w.next-is ∙ w.in_ok-push-2.ensures.items) c.loop-place.invariant.raised in
          record { one_each = more.0; canonical = more.1; raised = raised }
    ]

pub returns-clause-raised : goal.returns-clause-raised
returns-clause-raised c =
    all_raised c.args.flow.now c.args.marks.now c.loop-place.place c.args.fronts.now c.loop-place.next.items
    (omega (arith, c.loop-place-test.false, c.loop-place.auto.place-end, c.loop-place.invariant.one_each, c.requires.one_each)) (omega (arith, c.loop-place-test.false, c.loop-place.auto.place-end, c.requires.one_each)) c.loop-place.invariant.raised

use Rattle.std.proofs.Common.{◌≡◌, ◌+◌, length, sym, ap, ◌∙◌, subst, arith}
use Rattle.fw_flow.specs.Depths.{AreKept, stays_deep}
use Rattle.fw_flow.proofs.Kept.{kept-none, kept-skip, kept-more}
use Rattle.fw_flow.proofs.walks.links_at.Goals as goal
use Rattle.fw_flow.proofs.walks.links_at.Goals.{then-stays_deep+in_ok-push, else-stays_deep}

pub loop-link-init : goal.loop-link-init
loop-link-init c =
    subst (AreKept (stays_deep c.args.nodes.now c.args.depths.now c.args.depth) c.args.links.now 0) (sym c.new-kept.ensures.items)
    (kept-none (stays_deep c.args.nodes.now c.args.depths.now c.args.depth) c.args.links.now)

pub loop-link-preserved : goal.loop-link-preserved
loop-link-preserved c =
    let test = stays_deep c.args.nodes.now c.args.depths.now c.args.depth in
    elim c.if-stays_deep.branch [
      | then-stays_deep+in_ok-push w ↦
          kept-more test c.args.links.now c.loop-link.link-index c.loop-link.kept.items c.if-stays_deep.kept.items
          (sym c.stays_deep.ensures ∙ w.if-stays_deep.true) (ap (λ v. v.items) w.kept-is ∙ w.in_ok-push.ensures.items) c.loop-link.invariant
      | else-stays_deep w ↦
          subst (AreKept test c.args.links.now (c.loop-link.link-index + 1)) (ap (λ v. v.items) (sym w.kept-is))
          (kept-skip test c.args.links.now c.loop-link.link-index c.loop-link.kept.items (sym c.stays_deep.ensures ∙ w.if-stays_deep.false) c.loop-link.invariant)
    ]

pub returns : goal.returns
returns c =
    let done : c.loop-link.link-index ≡ length c.args.links.now = omega arith in
    subst (λ m. AreKept (stays_deep c.args.nodes.now c.args.depths.now c.args.depth) c.args.links.now m c.loop-link.kept.items) done c.loop-link.invariant

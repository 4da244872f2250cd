use Rattle.std.proofs.Common.{◌≡◌, ℕ, true, false, refl, sym, ap, subst, ◌∙◌}
use Rattle.std.proofs.lemmas.Bool.{both_ways}
use Rattle.std.proofs.lemmas.List.{take_all}
use Rattle.std.specs.List.{AllByRecursion}
use Rattle.fw_lemmas.proofs.Each.{each-at, each-taken}
use Rattle.fw_time.specs.Stamp.{in_domain}
use Rattle.fw_time.specs.declared.stamp.Bounds.{Bounds}
use Rattle.fw_flow.specs.Dataflow.{receiver, bounds_of}
use Rattle.fw_flow.proofs.OutEdgeLaws.{out_edges-at, out_edges-from}
use Rattle.fw_progress.proofs.events.can_send.Goals as goal

pub loop-edge-preserved : goal.loop-edge-preserved
loop-edge-preserved c =
    let flow = c.args.flow.now in
    let stamps = c.args.stamps.now in
    let P : ℕ → Type 0 = λ e. AllByRecursion (λ s. in_domain (bounds_of flow (receiver flow e)) s ≡ true) stamps in
    let here = subst (λ (b : Bounds). AllByRecursion (λ s. in_domain b s ≡ true) stamps) (c.domain.ensures ∙ ap (bounds_of flow) c.dst.ensures) (c.are_in_domain.ensures.0 c.if-not-are_in_domain.false) in
    each-taken P c.out_edges-edges.result.now c.loop-edge.edge-index c.edge-item.result c.loop-edge-test.true c.edge-item.is c.loop-edge.invariant here

pub returns-then-not-are_in_domain : goal.returns-then-not-are_in_domain
returns-then-not-are_in_domain c =
    let flow = c.args.flow.now in
    let stamps = c.args.stamps.now in
    let edges = c.out_edges-edges.result.now in
    let P : ℕ → Type 0 = λ d. AllByRecursion (λ s. in_domain (bounds_of flow (receiver flow d)) s ≡ true) stamps in
    let bounds = c.domain.ensures ∙ ap (bounds_of flow) c.dst.ensures in (
      λ k. absurd (both_ways false refl k),
      λ can.
          let each = subst (AllByRecursion P) (sym c.out_edges-edges.ensures) (out_edges-from P flow c.args.node (λ d l r. can d l r)) in
          let here = subst P (sym c.edge-item.is) (each-at P edges c.loop-edge.edge-index c.edge-item.result c.loop-edge-test.true each) in
          absurd (both_ways c.are_in_domain.result c.if-not-are_in_domain.true
          (c.are_in_domain.ensures.1 (subst (λ (b : Bounds). AllByRecursion (λ s. in_domain b s ≡ true) stamps) (sym bounds) here))),
    )

pub returns : goal.returns
returns c =
    let flow = c.args.flow.now in
    let edges = c.out_edges-edges.result.now in
    let P : ℕ → Type 0 = λ d. AllByRecursion (λ s. in_domain (bounds_of flow (receiver flow d)) s ≡ true) c.args.stamps.now in (
      λ k e l r.
          out_edges-at P flow c.args.node (subst (AllByRecursion P) c.out_edges-edges.ensures (subst (AllByRecursion P) (take_all c.loop-edge.edge-index edges c.loop-edge-test.false) c.loop-edge.invariant)) e l r,
      λ can. refl,
    )

use Rattle.std.proofs.Common.{◌≡◌, ℕ, ◌<◌, false, List, [], length, get_or, sym, ap, subst, ◌∙◌, arith}
use Rattle.std.proofs.lemmas.Result.{IfOk-weaker}
use Rattle.fw_lemmas.proofs.Lists.{read_at}
use Rattle.fw_frontier.specs.Front.{Front, IsFrontOf}
use Rattle.fw_flow.specs.Dataflow.{Dataflow, kind_of, sender, receiver, bounds_of, node_frontier}
use Rattle.fw_flow.specs.Projection.{phi_by_count, table_count}
use Rattle.fw_model.specs.Machine.{front_of, family_of}
use Rattle.fw_progress.specs.declared.counts.Counts.{Counts}
use Rattle.fw_progress.specs.Counts.{AreCounts, sent_of, moves_stamps, projected_by}
use Rattle.fw_progress.proofs.TargetLaws.{unmoved}
use Rattle.fw_progress.proofs.target.projected.Goals as goal

-- what can come by the front and the table that two indices read can come by those of the sender
projected_at : {flow : Dataflow} {counts : Counts} → AreCounts flow counts → (fronts : List Front) (e i : ℕ) (front : Front) (table : List (ℕ × ℕ)) (g : Front)
    → length fronts ≡ length flow.nodes → sender flow e < length flow.nodes → i ≡ sender flow e → front ≡ get_or fronts i front → table ≡ get_or counts.sent.items i table
    → IsFrontOf (bounds_of flow (receiver flow e)) g (phi_by_count flow (table_count (node_frontier flow (sender flow e) front) table) e (node_frontier flow (sender flow e) front))
    → IsFrontOf (bounds_of flow (receiver flow e)) g (projected_by flow counts e (family_of flow fronts (sender flow e)))
projected_at {flow} {counts} a fronts e i front table g one here at is was n =
    let b = bounds_of flow (receiver flow e) in
    let s = sender flow e in
    let each = a.sent_each in
    let x : front ≡ front_of fronts s = read_at fronts s i front [] at (omega (arith, one, here, at)) is in
    let y : table ≡ sent_of counts s = read_at counts.sent.items s i table [] at (omega (arith, each, here, at)) was in
    subst (λ t. IsFrontOf b g (phi_by_count flow (table_count (family_of flow fronts s) t) e (family_of flow fronts s))) y
    (subst (λ f. IsFrontOf b g (phi_by_count flow (table_count (node_frontier flow s f) table) e (node_frontier flow s f))) x n)

pub returns : goal.returns
returns c =
    IfOk-weaker c.phi.result _ _
    (λ g n. projected_at c.requires.counts c.args.fronts.now c.args.edge c.place-place.result c.index-fronts-place.result c.index.result.now g c.requires.one_each c.requires.sender
    (c.place-place.ensures ∙ c.src-src.ensures) c.index-fronts-place.is c.index.ensures n)
    c.phi.ensures.by_table

pub returns-then-not-moves_stamps : goal.returns-then-not-moves_stamps
returns-then-not-moves_stamps c =
    let flow = c.args.flow.now in
    let counts = c.args.counts.now in
    let fronts = c.args.fronts.now in
    let e = c.args.edge in
    let s = sender flow e in
    let at = c.place-place.ensures ∙ c.src-src.ensures in
    let here : c.index-fronts-place.result ≡ front_of fronts s = read_at fronts s c.place-place.result c.index-fronts-place.result [] at (omega (arith, c.requires.one_each, c.requires.sender, at)) c.index-fronts-place.is in
    let still : moves_stamps (kind_of flow s) ≡ false = ap (λ p. moves_stamps (kind_of flow p)) (sym c.src-src.ensures) ∙ ap moves_stamps (sym c.kind.ensures) ∙ sym c.moves_stamps.ensures ∙ c.if-not-moves_stamps.true in
    IfOk-weaker c.copy.result _ _
    (λ g same. subst (λ f. IsFrontOf (bounds_of flow (receiver flow e)) f (projected_by flow counts e (family_of flow fronts s))) (sym (same ∙ here))
    (unmoved flow e (front_of fronts s) (table_count (family_of flow fronts s) (sent_of counts s)) c.flow_is_well_formed.ensures c.requires.there still (c.requires.canonical s)))
    c.copy.ensures

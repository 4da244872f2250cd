use Rattle.std.proofs.Common.{length, sym, subst}
use Rattle.std.proofs.lemmas.Result.{IfOk-weaker}
use Rattle.fw_flow.specs.Depths.{stays_deep, AreKept}
use Rattle.fw_flow.specs.Walks.{AreWithin}
use Rattle.fw_flow.proofs.Kept.{kept-within, ReturningPath-from_kept, ClosedPath-from_returning, OnTrue-by, OnFalse-by}
use Rattle.fw_flow.proofs.walks.does_one_return.Goals as goal

pub is_one_on_closed_walk-requires : goal.is_one_on_closed_walk-requires
is_one_on_closed_walk-requires c =
    let test = stays_deep c.args.nodes.now c.args.depths.now c.args.depth in
    let kept = subst (AreKept test c.args.links.now (length c.args.links.now)) (sym c.deref.ensures.value) c.in_ok-kept.ensures in
    kept-within test (length c.args.depths.now) c.args.links.now c.deref.result.now kept
    (subst (λ n. AreWithin n c.args.links.now) (sym c.requires.len) c.requires.within)

pub returns-clause-some : goal.returns-clause-some
returns-clause-some c = λ flow made are.
    let test = stays_deep c.args.nodes.now c.args.depths.now c.args.depth in
    let kept = subst (AreKept test c.args.links.now (length c.args.links.now)) (sym c.deref.ensures.value) c.in_ok-kept.ensures in
    IfOk-weaker c.is_one_on_closed_walk.result _ _
    (λ b. OnTrue-by b (ReturningPath-from_kept flow c.args.nodes.now c.args.links.now c.deref.result.now c.args.depths.now c.args.depth made c.requires.within are kept))
    c.is_one_on_closed_walk.ensures.some

pub returns-clause-none : goal.returns-clause-none
returns-clause-none c = λ flow made are.
    let test = stays_deep c.args.nodes.now c.args.depths.now c.args.depth in
    let kept = subst (AreKept test c.args.links.now (length c.args.links.now)) (sym c.deref.ensures.value) c.in_ok-kept.ensures in
    IfOk-weaker c.is_one_on_closed_walk.result _ _
    (λ b. OnFalse-by b (λ none back. none (ClosedPath-from_returning flow c.args.nodes.now c.args.links.now c.deref.result.now c.args.depths.now c.args.depth made c.requires.within are kept back)))
    c.is_one_on_closed_walk.ensures.none

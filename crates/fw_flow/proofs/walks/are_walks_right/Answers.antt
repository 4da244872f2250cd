use Rattle.std.proofs.Common.{refl, ◌∙◌, arith}
use Rattle.std.proofs.lemmas.Bool.{OnTrue_at}
use Rattle.fw_flow.specs.Walks.{IsMadeOf}
use Rattle.fw_flow.proofs.Depths.{no_return-right, return-wrong}
use Rattle.fw_flow.proofs.Kept.{joins-edges}
use Rattle.fw_flow.proofs.walks.are_walks_right.Goals as goal

pub returns-then-branch-clause-wrong : goal.returns-then-branch-clause-wrong
returns-then-branch-clause-wrong c = λ flow made joins.
    let own : IsMadeOf flow flow.loops c.args.nodes.now c.args.links.now = record { of_loops = refl; of_nodes = made.of_nodes; of_links = made.of_links } in
    let depths = c.deref.ensures.value ∙ c.in_ok-depths.ensures.depths flow made.of_loops in
    return-wrong flow (joins-edges flow c.args.nodes.now c.args.links.now own joins) c.loop-depth.depth
    (OnTrue_at c.if-branch.true (c.in_ok-does_one_return.ensures.some flow own depths))

pub returns-clause-right : goal.returns-clause-right
returns-clause-right c = λ flow made. no_return-right flow (λ depth le back. c.loop-depth.invariant flow made depth (omega arith) back)

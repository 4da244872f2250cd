use Rattle.fw_flow.proofs.Drafts.{AreListsOf, walks_right, walk_wrong}
use Rattle.fw_flow.proofs.draft.Draft.are_walks_right.Goals as goal
use Rattle.fw_flow.proofs.draft.Draft.are_walks_right.Goals.{After-are_walks_right}

-- the lists that are passed are the draft's
passed : (c : After-are_walks_right) → AreListsOf c.args.self.now c.deref.result.now c.as_slice.result.now c.deref-2.result.now
passed c = record { of_loops = c.deref.ensures.value; of_nodes = c.as_slice.ensures.value; of_links = c.deref-2.ensures.value }

pub returns-clause-right : goal.returns-clause-right
returns-clause-right c =
    let at = goal.at.returns-clause-right c in
    λ raw d.
    walks_right c.args.self.now raw d c.are_walks_right.result c.deref.result.now c.as_slice.result.now c.deref-2.result.now (passed at.After-are_walks_right)
    c.are_walks_right.ensures.right

pub returns-clause-wrong : goal.returns-clause-wrong
returns-clause-wrong c =
    let at = goal.at.returns-clause-wrong c in
    λ raw d joins.
    walk_wrong c.args.self.now raw d c.are_walks_right.result c.deref.result.now c.as_slice.result.now c.deref-2.result.now (passed at.After-are_walks_right) joins
    c.are_walks_right.ensures.wrong

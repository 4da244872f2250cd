use Rattle.std.proofs.Common.{Bool, List, sym, subst}
use Rattle.std.proofs.lemmas.Bool.{OnTrue_at, OnTrue_from, OnFalse_at, OnFalse_from}
use Rattle.fw_flow.specs.Walks.{Path, graph_of, IsReachOf}
use Rattle.fw_flow.proofs.Marks.{Path-from_back, LeadsBack-from_Path, AreOnwardWithin-from}
use Rattle.fw_flow.proofs.walks.is_on_closed_walk.Goals as goal

pub returns-clause-some : goal.returns-clause-some
returns-clause-some c =
    let reached = subst (λ (marks : List Bool). IsReachOf c.args.links.now c.args.node marks) (sym c.deref.ensures.value) (c.in_ok-reached.ensures.reach c.args.links.now c.requires.onward) in
    OnTrue_from _ _ (λ e. Path-from_back _ _ _ _ c.requires.within c.requires.node_within reached (OnTrue_at e c.leads_back.ensures.some))

pub returns-clause-none : goal.returns-clause-none
returns-clause-none c =
    let reached = subst (λ (marks : List Bool). IsReachOf c.args.links.now c.args.node marks) (sym c.deref.ensures.value) (c.in_ok-reached.ensures.reach c.args.links.now c.requires.onward) in
    OnFalse_from c.leads_back.result (Path (graph_of c.args.links.now) c.args.node c.args.node → ⊥)
    (λ e path. OnFalse_at e c.leads_back.ensures.none (LeadsBack-from_Path _ _ _ reached path))

pub nodes_from-requires-clause-within : goal.nodes_from-requires-clause-within
nodes_from-requires-clause-within c = AreOnwardWithin-from c.args.links.now c.args.onward.now c.requires.within c.requires.onward

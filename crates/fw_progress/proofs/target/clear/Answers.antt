use Rattle.std.proofs.Common.{◌≡◌, sym, subst, arith}
use Rattle.std.specs.Map.{keys_of}
use Rattle.fw_lemmas.proofs.Lists.{read_at}
use Rattle.fw_frontier.specs.Front.{frontier_of, IsFrontOf}
use Rattle.fw_flow.specs.Dataflow.{bounds_of, node_frontier}
use Rattle.fw_progress.specs.Counts.{given_by, owed_of}
use Rattle.fw_progress.specs.Tally.{IsTallyOf}
use Rattle.fw_progress.proofs.TargetLaws.{met}
use Rattle.fw_progress.proofs.target.clear.Goals as goal

pub returns : goal.returns
returns c =
    let flow = c.args.flow.now in
    let counts = c.args.counts.now in
    let p = c.args.node in
    let b = bounds_of flow p in
    let at = c.place.ensures in
    let one = c.requires.counts.owed_each in
    let there = c.requires.there in
    let n : c.index-owed.result.now ≡ owed_of counts p = read_at counts.owed.items p c.place.result c.index-owed.result.now _ at (omega (arith, one, there, at)) c.index-owed.ensures in
    let paid = c.in_ok-paid.paid in
    let q = subst (λ es. IsFrontOf b paid (frontier_of b (keys_of es))) n (c.in_ok-paid.ensures b (subst (IsTallyOf b) (sym n) (c.requires.counts.owed p there))) in
    let g = c.in_ok-left.ensures in
    met b c.in_ok-left.left paid c.narrow.new.left (given_by flow counts p) (node_frontier flow p (keys_of (owed_of counts p))) g q (c.in_ok-narrow.ensures b g.canonical q.canonical)

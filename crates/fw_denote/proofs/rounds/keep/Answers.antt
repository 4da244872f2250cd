use Rattle.std.proofs.Common.{◌≡◌, ◌<◌, ℕ, length, subst, arith, rules}
use Rattle.fw_flow.specs.Dataflow.{kind_of, sender}
use Rattle.fw_denote.specs.Domains.{AreOut}
use Rattle.fw_denote.proofs.PassLaws.{held_with}
use Rattle.fw_denote.proofs.rounds.keep.Goals as goal

pub returns-then-is_for : goal.returns-then-is_for
returns-then-is_for c =
    let flow = c.args.flow.now in
    let at : sender flow c.in-Some.edge.now ≡ c.args.place = search rules in
    let there : c.args.place < length c.args.bags.now.items = let f = c.if-place-len.false in let n = c.len.ensures in omega arith in
    held_with flow c.args.bags.now.items c.args.place c.in_ok-bag.bag c.requires.held there (c.is_for.ensures.in_order c.if-is_for.true)
    (subst (λ (p : ℕ). AreOut flow (kind_of flow p) c.in_ok-bag.bag) at (c.is_for.ensures.out c.if-is_for.true))

use Rattle.std.proofs.Common.{sym, ◌∙◌}
use Rattle.fw_policy.proofs.CodeLaws.{empty_is, empty_kept, empty_left}
use Rattle.fw_policy.proofs.offering.add_empty.Goals as goal

pub returns-in_ok-push : goal.returns-in_ok-push
returns-in_ok-push c = λ o.
    empty_kept c.args.bounds.now c.args.low.now c.args.records.now.items c.push.new.self.items _ o
    (empty_is c.args.bounds.now _ c.in_ok-empty.ensures c.in_ok-empty-2.ensures (c.of.ensures ∙ c.new.ensures.items) (c.of-2.ensures ∙ c.new-2.ensures.items))
    (sym c.subset.ensures.test ∙ c.if-subset.true) c.in_ok-push.ensures.items

pub returns-else-subset : goal.returns-else-subset
returns-else-subset c = λ o.
    empty_left c.args.bounds.now c.args.low.now c.args.records.now.items _ o
    (empty_is c.args.bounds.now _ c.in_ok-empty.ensures c.in_ok-empty-2.ensures (c.of.ensures ∙ c.new.ensures.items) (c.of-2.ensures ∙ c.new-2.ensures.items))
    (sym c.subset.ensures.test ∙ c.if-subset.false)

use Rattle.std.proofs.Common.{◌||◌, List, ◌∙◌, ap, sym}
use Rattle.fw_keep.specs.declared.entry.Entry.{Entry}
use Rattle.fw_collect.specs.declared.drops.AtNode.{AtNode}
use Rattle.fw_collect.specs.declared.drops.OfNode.{OfNode}
use Rattle.fw_collect.specs.Dropped.{is_below_some, is_at_some, is_dropped}
use Rattle.fw_collect.proofs.ApplyLaws.{forgets_then}
use Rattle.fw_collect.proofs.applying.apply.Goals as goal

pub returns-clause-entries : goal.returns-clause-entries
returns-clause-entries c =
    let drops = c.args.drops.now in
    let records = c.deref.result.now in
    let events = c.deref-2.result.now in
    let keep = c.args.keep.now in
    forgets_then (is_below_some records keep) (is_at_some events) (is_dropped drops keep) keep c.forget_records.new.keep c.forget_events.new.keep
    (λ (e : Entry). ap (λ (ds : List OfNode). is_below_some ds keep e || is_at_some drops.events.items e) (sym c.deref.ensures.value)
    ∙ ap (λ (ds : List AtNode). is_below_some records keep e || is_at_some ds e) (sym c.deref-2.ensures.value))
    c.forget_records.ensures c.forget_events.ensures

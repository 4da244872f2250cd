use Rattle.std.proofs.Common.{◌≡◌, cond, Some, rules, unwrap_or, ap, ◌∙◌}
use Rattle.std.specs.Ordering.{nat_cmp, is_eq}
use Rattle.std.specs.BTreeMap.{get}
use Rattle.fw_bag.specs.declared.rec.Rec.{Rec}
use Rattle.fw_bag.specs.Keyed.{plus}
use Rattle.fw_denote.specs.declared.keyed.Slot.{Slot}
use Rattle.fw_denote.specs.Numbers.{slot_cmp}
use Rattle.fw_denote.proofs.TotalLaws.{slots_more}
use Rattle.fw_denote.proofs.keyed.total_up.Goals as goal

pub returns-clause-by_slot : goal.returns-clause-by_slot
returns-clause-by_slot c = λ rs h b k.
    let found : c.unwrap_or-total.result ≡ unwrap_or (get nat_cmp c.args.totals.now c.args.r.now.rec.key) 0 = search rules in
    let raised = plus c.rec-rec.result.value c.unwrap_or-total.result in
    slots_more c.args.totals.now c.args.by_slot.now c.insert-2.new.self c.args.r.now raised rs
    (ap (λ (x : Rec). plus x.value c.unwrap_or-total.result) c.rec-rec.ensures ∙ ap (plus c.args.r.now.rec.value) found)
    (λ s. c.in_ok-insert-2.ensures.updates.0 s ∙ ap (λ (k : Slot). cond (is_eq (slot_cmp k s)) (Some raised) (get slot_cmp c.args.by_slot.now s)) c.of.ensures)
    h b k

use Rattle.std.proofs.Common.{◌≡◌, cond, Some, rules, unwrap_or, ap, ◌∙◌}
use Rattle.std.specs.Ordering.{is_eq}
use Rattle.std.specs.BTreeMap.{get}
use Rattle.fw_bag.specs.declared.rec.Rec.{Rec}
use Rattle.fw_bag.specs.Keyed.{plus}
use Rattle.fw_denote.specs.declared.keyed.Slot.{Slot}
use Rattle.fw_denote.specs.Numbers.{slot_cmp, slot_of}
use Rattle.fw_denote.proofs.NumberLaws.{sums_more}
use Rattle.fw_denote.proofs.keyed.add_to.Goals as goal

pub returns : goal.returns
returns c = λ rs h.
    let found : c.unwrap_or-sum.result ≡ unwrap_or (get slot_cmp c.args.sums.now (slot_of c.args.r.now)) 0 = search rules in
    let raised = plus c.rec.result.value c.unwrap_or-sum.result in
    sums_more c.args.sums.now c.insert.new.self c.args.r.now raised rs
    (ap (λ (x : Rec). plus x.value c.unwrap_or-sum.result) c.rec.ensures ∙ ap (plus c.args.r.now.rec.value) found)
    (λ s. c.in_ok-insert.ensures.updates.0 s
    ∙ ap (λ (k : Slot). cond (is_eq (slot_cmp k s)) (Some raised) (get slot_cmp c.args.sums.now s)) c.of-slot.ensures)
    h

use Rattle.std.proofs.Common.{◌<◌, length, Some, sym, ap, subst, ◌∙◌, arith}
use Rattle.std.specs.List.Sorted.{IsStrictlySortedBy}
use Rattle.std.specs.Ordering.{nat_cmp}
use Rattle.fw_lemmas.proofs.Results.{on_err}
use Rattle.fw_bag.specs.Bag.{BagState, with_rec}
use Rattle.fw_bag.proofs.BagLaws.{length-with_rec}
use Rattle.fw_border.specs.Numbers.{recs_by_number}
use Rattle.fw_border.specs.Outputs.{AreByNumber}
use Rattle.fw_border.proofs.RecsLaws.{EachHasRecs, recs_found, numbered-keys, written_same, written_other, some-insert_entry}
use Rattle.fw_border.proofs.output.put_more.Goals as goal

pub returns-in_err-add-clause-err : goal.returns-in_err-add-clause-err
returns-in_err-add-clause-err c =
    let same = ap (λ (b : BagState). b.recs) c.in_err-add.ensures.err in
    on_err c.from_residual.result _
    (ap recs_by_number (c.get_mut.follows.holds c.add.new.self).0 ∙ written_same c.args.x c.in-Some.bag.now c.add.new.self c.args.recs.now.entries c.in-Some.ensures.value same)

pub returns-in_err-add-clause-by_number : goal.returns-in_err-add-clause-by_number
returns-in_err-add-clause-by_number c =
    let same = ap (λ (b : BagState). b.recs) c.in_err-add.ensures.err in
    let stays = ap recs_by_number (c.get_mut.follows.holds c.add.new.self).0 ∙ written_same c.args.x c.in-Some.bag.now c.add.new.self c.args.recs.now.entries c.in-Some.ensures.value same in
    subst AreByNumber (sym stays) c.requires.by_number

pub returns-clause-ok : goal.returns-clause-ok
returns-clause-ok c =
    let es = c.args.recs.now.entries in
    let more = ap (λ (b : BagState). b.recs) c.in_ok-add.ensures.ok ∙ ap (with_rec c.args.rec) (sym (recs_found c.args.x (Some c.in-Some.bag.now) es c.in-Some.ensures.value)) in
    ap recs_by_number (c.get_mut.follows.holds c.add.new.self).0
    ∙ written_other c.args.x c.in-Some.bag.now c.add.new.self es _ c.requires.by_number.ordered c.in-Some.ensures.value more

pub returns-clause-by_number : goal.returns-clause-by_number
returns-clause-by_number c =
    let es = c.args.recs.now.entries in
    let more = with_rec c.args.rec c.in-Some.bag.now.recs in
    let entries = ap recs_by_number (c.get_mut.follows.holds c.add.new.self).0
    ∙ written_other c.args.x c.in-Some.bag.now c.add.new.self es more c.requires.by_number.ordered c.in-Some.ensures.value (ap (λ (b : BagState). b.recs) c.in_ok-add.ensures.ok) in
    let some : 0 < length more = let l = length-with_rec c.args.rec c.in-Some.bag.now.recs in omega arith in
    record {
      ordered = subst (IsStrictlySortedBy nat_cmp) (sym (numbered-keys (c.get_mut.follows.lender c.add.new.self).entries)) (c.get_mut.follows.holds c.add.new.self).4;
      some = subst EachHasRecs (sym entries) (some-insert_entry c.args.x more (recs_by_number es) some c.requires.by_number.some);
    }

use Rattle.std.proofs.Common.{Some, None, sym, ap, subst, ◌∙◌}
use Rattle.std.specs.BTreeMap.{is_at}
use Rattle.std.specs.List.Sorted.{IsStrictlySortedBy}
use Rattle.std.specs.Ordering.{nat_cmp}
use Rattle.fw_bag.specs.Bag.{BagState}
use Rattle.fw_border.specs.Numbers.{recs_by_number}
use Rattle.fw_border.proofs.RecsLaws.{EachHasRecs, recs_found, numbered-keys, numbered-remove_entry, some-remove_entry}
use Rattle.fw_border.proofs.output.take_at.Goals as goal

pub returns-in-Some-clause-taken : goal.returns-in-Some-clause-taken
returns-in-Some-clause-taken c = sym (recs_found c.args.x (Some c.in-Some.bag) c.args.recs.now.entries c.in-Some.ensures.value)

pub returns-in-Some-clause-by_number : goal.returns-in-Some-clause-by_number
returns-in-Some-clause-by_number c =
    let test = is_at (nat_cmp c.args.x) in
    let es = c.args.recs.now.entries in
    let gone = ap recs_by_number c.remove.ensures.entries ∙ numbered-remove_entry test es in
    record {
      ordered = subst (IsStrictlySortedBy nat_cmp) (sym (numbered-keys c.remove.new.self.entries)) c.remove.ensures.ordered;
      some = subst EachHasRecs (sym gone) (some-remove_entry test (recs_by_number es) c.requires.some);
    }

pub returns-in-Some-clause-left : goal.returns-in-Some-clause-left
returns-in-Some-clause-left c = ap recs_by_number c.remove.ensures.entries ∙ numbered-remove_entry (is_at (nat_cmp c.args.x)) c.args.recs.now.entries

pub returns-in-None-clause-taken : goal.returns-in-None-clause-taken
returns-in-None-clause-taken c =
    ap (λ (s : BagState). s.recs) c.new.ensures ∙ sym (recs_found c.args.x None c.args.recs.now.entries c.in-None.ensures.value)

pub returns-in-None-clause-left : goal.returns-in-None-clause-left
returns-in-None-clause-left c = ap recs_by_number c.remove.ensures.entries ∙ numbered-remove_entry (is_at (nat_cmp c.args.x)) c.args.recs.now.entries

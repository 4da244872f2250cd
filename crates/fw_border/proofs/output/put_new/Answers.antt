use Rattle.std.proofs.Common.{◌≡◌, ◌<◌, List, [], length, None, sym, ap, subst, ◌∙◌, arith}
use Rattle.std.specs.BTreeMap.{insert_entry}
use Rattle.std.specs.List.Sorted.{IsStrictlySortedBy}
use Rattle.std.specs.Ordering.{nat_cmp}
use Rattle.fw_bag.specs.Bag.{BagState, with_rec}
use Rattle.fw_bag.specs.declared.rec.Rec.{Rec}
use Rattle.fw_bag.proofs.BagLaws.{length-with_rec}
use Rattle.fw_border.specs.Numbers.{recs_by_number}
use Rattle.fw_border.proofs.RecsLaws.{EachHasRecs, recs_found, numbered-keys, numbered-insert_entry, some-insert_entry}
use Rattle.fw_border.proofs.output.put_new.Goals as goal

pub returns-clause-ok : goal.returns-clause-ok
returns-clause-ok c =
    let x = c.args.x in
    let es = c.args.recs.now.entries in
    let made : c.add.new.self.recs ≡ with_rec c.args.rec [] =
    ap (λ (s : BagState). s.recs) c.in_ok-add.ensures.ok ∙ ap (λ (s : BagState). with_rec c.args.rec s.recs) c.new-bag.ensures in
    ap recs_by_number c.in_ok-insert.ensures.entries ∙ numbered-insert_entry x c.add.new.self es
    ∙ ap (λ (rs : List Rec). insert_entry nat_cmp (recs_by_number es) x rs) made
    ∙ ap (λ (rs : List Rec). insert_entry nat_cmp (recs_by_number es) x (with_rec c.args.rec rs)) (sym (recs_found x None es (sym c.requires.absent)))

pub returns-clause-by_number : goal.returns-clause-by_number
returns-clause-by_number c =
    let x = c.args.x in
    let es = c.args.recs.now.entries in
    let one = with_rec c.args.rec [] in
    let made : c.add.new.self.recs ≡ one =
    ap (λ (s : BagState). s.recs) c.in_ok-add.ensures.ok ∙ ap (λ (s : BagState). with_rec c.args.rec s.recs) c.new-bag.ensures in
    let entries = ap recs_by_number c.in_ok-insert.ensures.entries ∙ numbered-insert_entry x c.add.new.self es
    ∙ ap (λ (rs : List Rec). insert_entry nat_cmp (recs_by_number es) x rs) made in
    let some : 0 < length one = let l = length-with_rec c.args.rec [] in omega arith in
    record {
      ordered = subst (IsStrictlySortedBy nat_cmp) (sym (numbered-keys c.insert.new.self.entries)) c.in_ok-insert.ensures.ordered;
      some = subst EachHasRecs (sym entries) (some-insert_entry x one (recs_by_number es) some c.requires.by_number.some);
    }

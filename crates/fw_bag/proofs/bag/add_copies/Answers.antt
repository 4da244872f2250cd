use Rattle.std.proofs.Common.{◌≡◌, ◌+◌, ◌<◌, rules, sym, ap, ◌∙◌, subst, unwrap_or}
use Rattle.std.specs.BTreeMap.{insert_entry, is_at}
use Rattle.std.specs.Map.{lookup}
use Rattle.fw_bag.specs.Bag.{IsPositive, expand}
use Rattle.fw_bag.specs.Rec.{rec_cmp}
use Rattle.fw_bag.proofs.CountLaws.{how_often-expand, expand-insert_entry, IsPositive-insert_entry}
use Rattle.fw_bag.proofs.bag.add_copies.Goals as goal

pub returns-clause-tally : goal.returns-clause-tally
returns-clause-tally c =
    let some : 0 < c.in_ok-raised.raised = search rules in
    record {
      ordered = c.in_ok-insert.ensures.ordered;
      positive = subst IsPositive (sym c.in_ok-insert.ensures.entries) (IsPositive-insert_entry c.args.rec _ some _ c.requires.tally.positive);
    }

pub returns-clause-ok : goal.returns-clause-ok
returns-clause-ok c =
    let es = c.args.counts.now.entries in
    let held : c.count_of.result ≡ unwrap_or (lookup (is_at (rec_cmp c.args.rec)) es) 0 =
    c.count_of.ensures ∙ how_often-expand c.args.rec es c.requires.tally.ordered in
    let raised : c.in_ok-raised.raised ≡ c.count_of.result + c.args.copies = search rules in
    ap expand c.in_ok-insert.ensures.entries
    ∙ ap (λ n. expand (insert_entry rec_cmp es c.args.rec n)) (raised ∙ ap (λ n. n + c.args.copies) held)
    ∙ expand-insert_entry c.args.rec c.args.copies es c.requires.tally.ordered c.requires.tally.positive

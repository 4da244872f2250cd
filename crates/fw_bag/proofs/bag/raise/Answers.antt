use Rattle.std.proofs.Common.{◌≡◌, ◌+◌, ◌<◌, sym, ap, ◌∙◌, subst, arith}
use Rattle.fw_bag.specs.Bag.{IsPositive, expand}
use Rattle.fw_bag.proofs.BagLaws.{how_often-few}
use Rattle.fw_bag.proofs.CountLaws.{how_often-expand, expand-insert_entry, IsPositive-insert_entry}
use Rattle.fw_bag.proofs.bag.raise.Goals as goal

pub count_one-requires : goal.count_one-requires
count_one-requires c =
    let es = c.args.counts.now.entries in
    let same = how_often-expand c.args.rec es c.requires.tally.ordered in
    let few = how_often-few c.args.rec (expand es) in
    let room = c.requires.room in
    omega arith

pub returns-clause-tally : goal.returns-clause-tally
returns-clause-tally c = record {
  ordered = c.in_ok-count_one.ensures.ordered;
  positive = subst IsPositive (sym c.in_ok-count_one.ensures.ok) (IsPositive-insert_entry c.args.rec _ (omega arith) _ c.requires.tally.positive);
}

pub returns-clause-ok : goal.returns-clause-ok
returns-clause-ok c =
    ap expand c.in_ok-count_one.ensures.ok ∙ expand-insert_entry c.args.rec 1 c.args.counts.now.entries c.requires.tally.ordered c.requires.tally.positive

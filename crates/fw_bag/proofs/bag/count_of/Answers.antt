use Rattle.std.proofs.Common.{◌≡◌, rules, sym, ◌∙◌, unwrap_or}
use Rattle.std.specs.BTreeMap.{is_at}
use Rattle.std.specs.Map.{lookup}
use Rattle.fw_bag.specs.Rec.{rec_cmp}
use Rattle.fw_bag.proofs.CountLaws.{how_often-expand}
use Rattle.fw_bag.proofs.bag.count_of.Goals as goal

pub returns : goal.returns
returns c =
    let es = c.args.counts.now.entries in
    let count : c.unwrap_or.result ≡ unwrap_or (lookup (is_at (rec_cmp c.args.rec)) es) 0 = search rules in
    count ∙ sym (how_often-expand c.args.rec es c.requires.ordered)

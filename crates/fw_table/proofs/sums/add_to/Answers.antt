use Rattle.std.proofs.Common.{◌≡◌, rules, ap, unwrap_or}
use Rattle.std.specs.Ordering.{nat_cmp}
use Rattle.std.specs.BTreeMap.{get}
use Rattle.fw_bag.specs.Keyed.{plus}
use Rattle.fw_table.proofs.SumLaws.{sums_more}
use Rattle.fw_table.proofs.sums.add_to.Goals as goal

pub returns-clause-ok : goal.returns-clause-ok
returns-clause-ok c = λ rs h.
    let found : c.unwrap_or-sum.result ≡ unwrap_or (get nat_cmp c.args.sums.now c.args.rec.key) 0 = search rules in
    sums_more c.args.sums.now c.insert.new.self c.args.rec (plus c.args.rec.value c.unwrap_or-sum.result) rs h
    (ap (plus c.args.rec.value) found) c.in_ok-insert.ensures.updates.0

use Rattle.std.proofs.Common.{◌≡◌, ◌++◌, [], ◌∷◌, rules, unwrap_or, ◌∙◌}
use Rattle.std.specs.BTreeMap.{get}
use Rattle.fw_denote.specs.Numbers.{slot_cmp, slot_of}
use Rattle.fw_denote.proofs.TotalLaws.{running_more}
use Rattle.fw_denote.proofs.keyed.running_totals.Goals as goal

pub loop-r-preserved : goal.loop-r-preserved
loop-r-preserved c =
    let found : c.unwrap_or-value.result ≡ unwrap_or (get slot_cmp c.in_ok-totals.totals (slot_of c.r-item.result)) 0 = search rules in
    let sent : c.push.new.self.items ≡ c.loop-r.sent.items ++ record { at = c.r-item.result.at; rec = record { key = c.r-item.result.rec.key; value = c.unwrap_or-value.result } } ∷ [] = search rules in
    sent ∙ running_more c.in_ok-totals.totals c.args.rs.now c.loop-r.r-index c.r-item.result c.unwrap_or-value.result c.loop-r.sent.items c.loop-r-test.true c.r-item.is
    c.in_ok-totals.ensures found c.loop-r.invariant

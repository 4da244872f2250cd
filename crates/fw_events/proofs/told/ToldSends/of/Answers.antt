use Rattle.std.proofs.Common.{◌≤◌, Vec, Global, ap, length, ◌∙◌, arith}
use Rattle.fw_time.specs.declared.stamp.Stamp.{Stamp as Held}
use Rattle.fw_bag.specs.declared.rec.Rec.{Rec}
use Rattle.fw_node.specs.Sends.{sends_list}
use Rattle.fw_events.proofs.ToldLaws.{few-recs, rec-next, rec-past}
use Rattle.fw_events.proofs.told.ToldSends.of.Goals.{in-Some+in_ok-push, in_default}
use Rattle.fw_events.proofs.told.ToldSends.of.Goals as goal

pub returns-then-len-le1 : goal.returns-then-len-le1
returns-then-len-le1 c =
    let few : length (sends_list c.args.sends.now) ≤ 1 = omega arith in
    few-recs (sends_list c.args.sends.now) c.get.result c.get.ensures few

pub loop-place-preserved : goal.loop-place-preserved
loop-place-preserved c =
    let xs = sends_list c.args.sends.now in
    let i = c.loop-place.place in
    elim c.match-get.branch [
      | in-Some+in_ok-push w ↦ rec-next xs i w.in-Some.one c.loop-place.recs.items c.match-get.recs.items w.in-Some.ensures c.loop-place.invariant
          (ap (λ (v : Vec (Held × Rec) Global). v.items) w.recs-is ∙ w.in_ok-push.ensures.items)
      | in_default w ↦ rec-past xs i c.loop-place.recs.items c.match-get.recs.items w.in_default.ensures c.loop-place.invariant
          (ap (λ (v : Vec (Held × Rec) Global). v.items) w.recs-is)
    ]

use Rattle.std.proofs.Common.{◌≡◌, ◌+◌, ◌++◌, ◌∷◌, [], length, ap, ◌∙◌, arith, rules, length-append}
use Rattle.std.proofs.lemmas.Map.Iter.{rest_more}
use Rattle.fw_numbered.specs.Numbers.{at_numbers, recs_numbered}
use Rattle.fw_numbered.proofs.NumberLaws.{numbered_step}
use Rattle.fw_numbered.proofs.sequence.recs_to_send.Goals as goal

pub loop-rec-preserved : goal.loop-rec-preserved
loop-rec-preserved c =
    let i = c.loop-rec.invariant in
    let more = rest_more (λ r. r) c.loop-rec.rec-iterator c.next.new.self c.next.result c.in-Some.rec c.in-Some.is c.next.ensures.steps in
    let pushed : c.push.new.self ≡ c.loop-rec.recs ++ c.in-Some.rec ∷ [] = search rules in
    let below = c.if-next-gt-LAST.false in
    let longer = ap length pushed ∙ length-append c.loop-rec.recs (c.in-Some.rec ∷ []) in
    let counted = i.count in
    record {
      few = omega arith;
      count = omega (arith, longer, counted);
      sent = ap (λ rs. at_numbers c.args.first rs ++ recs_numbered (c.loop-rec.next + 1) c.next.new.self) pushed
          ∙ numbered_step c.args.first c.loop-rec.next c.loop-rec.recs c.in-Some.rec c.loop-rec.rec-iterator c.next.new.self counted (omega arith) more
          ∙ i.sent;
    }

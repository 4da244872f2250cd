use Rattle.std.proofs.Common.{◌≡◌, ◌++◌, ◌∷◌, [], sym, ap, ◌∙◌, append_assoc, rules}
use Rattle.std.proofs.lemmas.Map.Iter.{rest_more}
use Rattle.fw_live.proofs.asked.recs_of.Goals as goal

pub loop-rec-preserved : goal.loop-rec-preserved
loop-rec-preserved c =
    let recs = c.loop-rec.recs.items in
    let rec = c.in-Some.rec in
    let left = c.next.new.self in
    let more = rest_more (λ r. r) c.loop-rec.rec-iterator left c.next.result rec c.in-Some.is c.next.ensures.steps in
    let pushed : c.push.new.self.items ≡ recs ++ rec ∷ [] = search rules in
    ap (λ rs. rs ++ left) pushed ∙ append_assoc recs (rec ∷ []) left ∙ sym (ap (λ rest. recs ++ rest) more) ∙ c.loop-rec.invariant

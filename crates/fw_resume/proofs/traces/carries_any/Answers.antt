use Rattle.std.proofs.Common.{◌≡◌, [], sym, ◌∙◌, rules}
use Rattle.std.proofs.lemmas.Map.Iter.{rest_more}
use Rattle.fw_resume.proofs.RecallLaws.{carries-one, carries-next, carries-none}
use Rattle.fw_resume.proofs.traces.carries_any.Goals as goal

pub returns-then-carries : goal.returns-then-carries
returns-then-carries c =
    let left = c.loop-rec.rec-iterator in
    let more = rest_more (λ r. r) left c.next.new.self c.next.result c.in-Some.rec c.in-Some.is c.next.ensures.steps in
    carries-one c.args.flow.now c.args.edge c.args.batch.now.recs left c.next.new.self c.in-Some.rec c.loop-rec.invariant more (sym c.carries.ensures ∙ c.if-carries.true)

pub loop-rec-preserved : goal.loop-rec-preserved
loop-rec-preserved c =
    let left = c.loop-rec.rec-iterator in
    let more = rest_more (λ r. r) left c.next.new.self c.next.result c.in-Some.rec c.in-Some.is c.next.ensures.steps in
    carries-next c.args.flow.now c.args.edge c.args.batch.now.recs left c.next.new.self c.in-Some.rec c.loop-rec.invariant more (sym c.carries.ensures ∙ c.if-carries.false)

pub returns : goal.returns
returns c =
    let none : c.loop-rec.rec-iterator ≡ [] = search rules in
    carries-none c.args.flow.now c.args.edge c.args.batch.now.recs c.loop-rec.rec-iterator c.loop-rec.invariant none

use Rattle.std.proofs.Common.{[], ◌∷◌, ◌++◌, sym, subst, ap, ◌∙◌}
use Rattle.fw_flow.specs.Projection.{first_coordinate}
use Rattle.fw_flow.specs.SentTable.{EpochsAscend}
use Rattle.fw_resume.proofs.ToldLaws.{first-at, table-next}
use Rattle.fw_resume.proofs.told.table_of.Goals as goal

pub push-requires : goal.push-requires
push-requires c =
    let s = c.sent-item.result in
    let n = table-next c.args.sends.now c.loop-sent.sent-index s c.loop-sent-test.true c.sent-item.is c.requires.in_order in
    subst (λ x. EpochsAscend (c.loop-sent.table ++ (x, s.count) ∷ [])) (sym (c.at.ensures ∙ first-at s.cause))
    (subst (λ t. EpochsAscend (t ++ (first_coordinate s.cause, s.count) ∷ [])) (sym c.loop-sent.invariant) n.1)

pub loop-sent-preserved : goal.loop-sent-preserved
loop-sent-preserved c =
    let s = c.sent-item.result in
    let n = table-next c.args.sends.now c.loop-sent.sent-index s c.loop-sent-test.true c.sent-item.is c.requires.in_order in
    let o = c.in_ok-push.ensures in
    o.ok ∙ ap (λ x. c.loop-sent.table ++ (x, s.count) ∷ []) (c.at.ensures ∙ first-at s.cause)
    ∙ ap (λ t. t ++ (first_coordinate s.cause, s.count) ∷ []) c.loop-sent.invariant ∙ sym n.0

use Rattle.std.proofs.Common.{sym, ap, ◌∙◌, subst}
use Rattle.std.proofs.lemmas.Result.{IfOk-weaker}
use Rattle.std.specs.declared.cmp.Ordering.{Ordering}
use Rattle.std.specs.Ordering.{nat_cmp, ordering_then}
use Rattle.fw_time.specs.Stamp.{Stamp, nest}
use Rattle.fw_time.specs.declared.time.Nest.{Nest}
use Rattle.fw_node.specs.declared.in_loop.InLoop.{InLoop}
use Rattle.fw_node.specs.Answers.{sent_list}
use Rattle.fw_node.specs.LoopTable.{IsLoopTable}
use Rattle.fw_node.specs.NodeOf.{is_loop_table_of}
use Rattle.fw_node.proofs.NodeOfLaws.{timed-sent, none-sent}
use Rattle.fw_node.proofs.in_loop.InLoop.notify.Goals as goal

pub returns-in-Here-clause-stands : goal.returns-in-Here-clause-stands
returns-in-Here-clause-stands g c = λ flow k came r.
    let cmp : Nest g.row.T.Denot → Nest g.row.T.Denot → Ordering = λ x y. ordering_then (g.T.Ord.cmp x.outer y.outer) (nat_cmp x.counter y.counter) in
    let coords : Nest g.row.T.Denot → Stamp = λ t. nest (g.T.Time.coords t.outer) t.counter in
    let P : InLoop g.row.T.Denot → Type 0 = λ s. IsLoopTable cmp coords flow s k came in
    c.notify.ensures.stands k came (subst P c.in-Here.is r)

pub returns-in-Here-clause-at : goal.returns-in-Here-clause-at
returns-in-Here-clause-at g c = λ flow k i.
    let timed = sym (ap (λ (s : InLoop g.row.T.Denot). is_loop_table_of flow k s) c.in-Here.is) ∙ i in
    IfOk-weaker c.notify.result _ _ (λ sent e. timed-sent flow k c.args.at.now sent timed e) c.notify.ensures.at

pub returns-in-Feedback-clause-at : goal.returns-in-Feedback-clause-at
returns-in-Feedback-clause-at g c = λ flow k i. none-sent flow k c.args.at.now (sent_list c.of.result) (ap sent_list c.of.ensures)

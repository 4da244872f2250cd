use Rattle.std.proofs.Common.{[], ◌∷◌, sym, ap, ◌∙◌, subst}
use Rattle.std.proofs.lemmas.Result.{IfOk-weaker}
use Rattle.std.specs.declared.cmp.Ordering.{Ordering}
use Rattle.std.specs.Ordering.{nat_cmp, ordering_then}
use Rattle.fw_time.specs.Stamp.{Stamp, nest}
use Rattle.fw_time.specs.Sending.{fed_back_stamp, left_stamp}
use Rattle.fw_time.specs.declared.time.Nest.{Nest}
use Rattle.fw_bag.specs.Arrivals.{Arrival, arrival}
use Rattle.fw_table.specs.Sent.{sent_if_at}
use Rattle.fw_node.specs.Answers.{recs_for, sent_list}
use Rattle.fw_node.specs.declared.in_loop.InLoop.{InLoop}
use Rattle.fw_node.specs.LoopTable.{IsLoopTable}
use Rattle.fw_node.specs.NodeOf.{is_loop_table_of}
use Rattle.fw_node.proofs.NodeOfLaws.{timed-sent, feedback-sent, leave-sent}
use Rattle.fw_node.proofs.KindCases.{timed_plain}
use Rattle.fw_node.proofs.in_loop.InLoop.deliver.Goals as goal

pub returns-in-Here-clause-ok : goal.returns-in-Here-clause-ok
returns-in-Here-clause-ok g c = λ flow k came r side.
    let cmp : Nest g.row.T.Denot → Nest g.row.T.Denot → Ordering = λ x y. ordering_then (g.T.Ord.cmp x.outer y.outer) (nat_cmp x.counter y.counter) in
    let coords : Nest g.row.T.Denot → Stamp = λ t. nest (g.T.Time.coords t.outer) t.counter in
    let P : InLoop g.row.T.Denot → Type 0 = λ s. IsLoopTable cmp coords flow s k came in
    c.deliver.ensures.ok k came (subst P c.in-Here.is r) side

pub returns-in-Here-clause-sent : goal.returns-in-Here-clause-sent
returns-in-Here-clause-sent g c = λ flow k came r side.
    let cmp : Nest g.row.T.Denot → Nest g.row.T.Denot → Ordering = λ x y. ordering_then (g.T.Ord.cmp x.outer y.outer) (nat_cmp x.counter y.counter) in
    let coords : Nest g.row.T.Denot → Stamp = λ t. nest (g.T.Time.coords t.outer) t.counter in
    let P : InLoop g.row.T.Denot → Type 0 = λ s. IsLoopTable cmp coords flow s k came in
    let h = subst P c.in-Here.is r in
    let a : Arrival = arrival c.args.side c.args.at.now c.args.rec in
    IfOk-weaker c.deliver.result _ _
    (λ sent e. ap sent_list e ∙ ap (λ o. sent_if_at o (recs_for k came a)) (sym ((timed_plain cmp coords flow c.in-Here.table k came h).here c.args.at.now)))
    (c.deliver.ensures.sent k came h side)

pub returns-in-Here-clause-err : goal.returns-in-Here-clause-err
returns-in-Here-clause-err g c = λ flow k came r.
    let cmp : Nest g.row.T.Denot → Nest g.row.T.Denot → Ordering = λ x y. ordering_then (g.T.Ord.cmp x.outer y.outer) (nat_cmp x.counter y.counter) in
    let coords : Nest g.row.T.Denot → Stamp = λ t. nest (g.T.Time.coords t.outer) t.counter in
    let P : InLoop g.row.T.Denot → Type 0 = λ s. IsLoopTable cmp coords flow s k came in
    c.deliver.ensures.err k came (subst P c.in-Here.is r)

pub returns-in-Here-clause-at : goal.returns-in-Here-clause-at
returns-in-Here-clause-at g c = λ flow k i.
    let timed = sym (ap (λ (s : InLoop g.row.T.Denot). is_loop_table_of flow k s) c.in-Here.is) ∙ i in
    IfOk-weaker c.deliver.result _ _ (λ sent e. timed-sent flow k c.args.at.now sent timed e) c.deliver.ensures.at

pub returns-in-Feedback-clause-at : goal.returns-in-Feedback-clause-at
returns-in-Feedback-clause-at g c = λ flow k i.
    let is = sym (ap (λ (s : InLoop g.row.T.Denot). is_loop_table_of flow k s) c.in-Feedback.is) ∙ i in
    let max = c.in-Feedback.feedback.max in
    let sent = ap sent_list c.at_stamp.ensures ∙ c.on_message.ensures ∙ ap (λ t. sent_if_at (fed_back_stamp max t) (c.args.rec ∷ [])) c.from_coords.ensures in
    feedback-sent flow k max c.args.at.now (sent_list c.at_stamp.result) (c.args.rec ∷ []) is sent

pub returns-in-Leave-clause-at : goal.returns-in-Leave-clause-at
returns-in-Leave-clause-at g c = λ flow k i.
    let is = sym (ap (λ (s : InLoop g.row.T.Denot). is_loop_table_of flow k s) c.in-Leave.is) ∙ i in
    let sent = ap sent_list c.at_stamp-in-Leave.ensures ∙ c.on_message-in-Leave.ensures ∙ ap (λ t. sent_if_at (left_stamp t) (c.args.rec ∷ [])) c.from_coords-in-Leave.ensures in
    leave-sent flow k c.args.at.now (sent_list c.at_stamp-in-Leave.result) (c.args.rec ∷ []) is sent

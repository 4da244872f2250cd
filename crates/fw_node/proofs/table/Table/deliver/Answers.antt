use Rattle.std.proofs.Common.{◌≡◌, ◌∷◌, [], true, false, not, List, map, refl, sym, ap, ◌∙◌, subst}
use Rattle.std.proofs.lemmas.Result.{IfOk-weaker, on_ok_weaker}
use Rattle.std.proofs.lemmas.Bool.{or_from}
use Rattle.fw_time.specs.Sending.{entered_stamp, regrouped_stamp}
use Rattle.fw_time.specs.Stamp.{Stamp as StampList}
use Rattle.fw_time.specs.declared.stamp.Stamp.{Stamp}
use Rattle.fw_time.specs.declared.time.Epoch.{Epoch}
use Rattle.fw_bag.specs.declared.rec.Rec.{Rec}
use Rattle.fw_bag.specs.Arrivals.{Arrival, arrival}
use Rattle.fw_flow.specs.Dataflow.{is_notified_kind, send_stamp_of_kind}
use Rattle.fw_table.specs.Sent.{sent_if_at}
use Rattle.fw_totals.specs.Total.{IsTotal}
use Rattle.fw_totals.specs.Ledger.{IsLedger}
use Rattle.fw_numbered.specs.Sequence.{IsSequence}
use Rattle.fw_node.specs.declared.table.Table.{Table}
use Rattle.fw_node.specs.declared.table.Table.TheVariants as table
use Rattle.fw_node.specs.Answers.{recs_for, sent_list}
use Rattle.fw_node.specs.LoopTable.{IsLoopTable}
use Rattle.fw_node.specs.NodeOf.{is_table_of}
use Rattle.fw_node.proofs.NodeOfLaws.{none-sent, timed-sent, ledger-sent, enter-sent, regroup-sent}
use Rattle.fw_node.specs.NodeTable.{IsNodeTable, epoch_cmp, epoch_coords, nest_cmp, nest_coords}
use Rattle.fw_node.specs.Past.{unsettled, is_taken, with_arrival}
use Rattle.fw_node.specs.TimedTable.{IsTimedTable}
use Rattle.fw_node.proofs.ForgettingLaws.{deliveries_need_their_time}
use Rattle.fw_node.proofs.KindCases.{timed_plain}
use Rattle.fw_node.proofs.LoopCases.{loop_kind}
use Rattle.fw_node.proofs.PastLaws.{unsettled_more}
use Rattle.fw_node.proofs.TableCases.{of_ledger, of_sequence, of_total, of_variant}
use Rattle.fw_time.specs.declared.time.SeqNo.{SeqNo}
use Rattle.fw_table.specs.declared.sent.Sent.{Sent}
use Rattle.fw_bag.specs.Keyed.{plus, value_sum}
use Rattle.fw_bag.specs.Arrivals.{recs_of}
use Rattle.fw_node.proofs.table.Table.deliver.Goals as goal

pub returns-in-Outside-clause-ok : goal.returns-in-Outside-clause-ok
returns-in-Outside-clause-ok c = λ flow k past r side out untold.
    let a : Arrival = arrival c.args.side c.args.at.now c.args.rec in
    let Q : List Arrival → Type 0 = λ xs. IsTimedTable epoch_cmp epoch_coords c.deliver.new.self k xs in
    on_ok_weaker c.deliver.result (λ t. subst Q (sym (unsettled_more past a out)) t) (c.deliver.ensures.ok k (unsettled past) (of_variant flow k past c.in-Outside.is r) side)

pub returns-in-Outside-clause-sent : goal.returns-in-Outside-clause-sent
returns-in-Outside-clause-sent c = λ flow k past r side out.
    let h = of_variant flow k past c.in-Outside.is r in
    let a : Arrival = arrival c.args.side c.args.at.now c.args.rec in
    let plain = timed_plain epoch_cmp epoch_coords flow c.in-Outside.table k (unsettled past) h in
    let needs = deliveries_need_their_time k plain.per_time (λ s. not (past.settled s)) past.came a (ap not out) in
    IfOk-weaker c.deliver.result _ _
    (λ sent e. ap sent_list e ∙ ap (λ rs. map (λ (r : Rec). (c.args.at.now, r)) rs) needs ∙ ap (λ o. sent_if_at o (recs_for k past.came a)) (sym (plain.here c.args.at.now)))
    (c.deliver.ensures.sent k (unsettled past) h side)

pub returns-in-Outside-clause-err : goal.returns-in-Outside-clause-err
returns-in-Outside-clause-err c = λ flow k past r.
    c.deliver.ensures.err k (unsettled past) (of_variant flow k past c.in-Outside.is r)

pub returns-in-Loop-clause-ok : goal.returns-in-Loop-clause-ok
returns-in-Loop-clause-ok c = λ flow k past r side out untold.
    let a : Arrival = arrival c.args.side c.args.at.now c.args.rec in
    let Q : List Arrival → Type 0 = λ xs. IsLoopTable (nest_cmp epoch_cmp) (nest_coords epoch_coords) flow c.deliver-in-Loop.new.self k xs in
    on_ok_weaker c.deliver-in-Loop.result (λ t. subst Q (sym (unsettled_more past a out)) t) (c.deliver-in-Loop.ensures.ok flow k (unsettled past) (of_variant flow k past c.in-Loop.is r) side)

pub returns-in-Loop-clause-sent : goal.returns-in-Loop-clause-sent
returns-in-Loop-clause-sent c = λ flow k past r side out.
    let h = of_variant flow k past c.in-Loop.is r in
    let a : Arrival = arrival c.args.side c.args.at.now c.args.rec in
    let plain = loop_kind (nest_cmp epoch_cmp) (nest_coords epoch_coords) flow c.in-Loop.table k (unsettled past) h in
    let needs = deliveries_need_their_time k plain.per_time (λ s. not (past.settled s)) past.came a (ap not out) in
    IfOk-weaker c.deliver-in-Loop.result _ _
    (λ sent e. e ∙ ap (sent_if_at (send_stamp_of_kind flow k c.args.at.now)) needs)
    (c.deliver-in-Loop.ensures.sent flow k (unsettled past) h side)

pub returns-in-Loop-clause-err : goal.returns-in-Loop-clause-err
returns-in-Loop-clause-err c = λ flow k past r.
    c.deliver-in-Loop.ensures.err flow k (unsettled past) (of_variant flow k past c.in-Loop.is r)

pub returns-in-Loop2-clause-ok : goal.returns-in-Loop2-clause-ok
returns-in-Loop2-clause-ok c = λ flow k past r side out untold.
    let a : Arrival = arrival c.args.side c.args.at.now c.args.rec in
    let Q : List Arrival → Type 0 = λ xs. IsLoopTable (nest_cmp (nest_cmp epoch_cmp)) (nest_coords (nest_coords epoch_coords)) flow c.deliver-in-Loop2.new.self k xs in
    on_ok_weaker c.deliver-in-Loop2.result (λ t. subst Q (sym (unsettled_more past a out)) t) (c.deliver-in-Loop2.ensures.ok flow k (unsettled past) (of_variant flow k past c.in-Loop2.is r) side)

pub returns-in-Loop2-clause-sent : goal.returns-in-Loop2-clause-sent
returns-in-Loop2-clause-sent c = λ flow k past r side out.
    let h = of_variant flow k past c.in-Loop2.is r in
    let a : Arrival = arrival c.args.side c.args.at.now c.args.rec in
    let plain = loop_kind (nest_cmp (nest_cmp epoch_cmp)) (nest_coords (nest_coords epoch_coords)) flow c.in-Loop2.table k (unsettled past) h in
    let needs = deliveries_need_their_time k plain.per_time (λ s. not (past.settled s)) past.came a (ap not out) in
    IfOk-weaker c.deliver-in-Loop2.result _ _
    (λ sent e. e ∙ ap (sent_if_at (send_stamp_of_kind flow k c.args.at.now)) needs)
    (c.deliver-in-Loop2.ensures.sent flow k (unsettled past) h side)

pub returns-in-Loop2-clause-err : goal.returns-in-Loop2-clause-err
returns-in-Loop2-clause-err c = λ flow k past r.
    c.deliver-in-Loop2.ensures.err flow k (unsettled past) (of_variant flow k past c.in-Loop2.is r)

pub returns-in-Loop3-clause-ok : goal.returns-in-Loop3-clause-ok
returns-in-Loop3-clause-ok c = λ flow k past r side out untold.
    let a : Arrival = arrival c.args.side c.args.at.now c.args.rec in
    let Q : List Arrival → Type 0 = λ xs. IsLoopTable (nest_cmp (nest_cmp (nest_cmp epoch_cmp))) (nest_coords (nest_coords (nest_coords epoch_coords))) flow c.deliver-in-Loop3.new.self k xs in
    on_ok_weaker c.deliver-in-Loop3.result (λ t. subst Q (sym (unsettled_more past a out)) t) (c.deliver-in-Loop3.ensures.ok flow k (unsettled past) (of_variant flow k past c.in-Loop3.is r) side)

pub returns-in-Loop3-clause-sent : goal.returns-in-Loop3-clause-sent
returns-in-Loop3-clause-sent c = λ flow k past r side out.
    let h = of_variant flow k past c.in-Loop3.is r in
    let a : Arrival = arrival c.args.side c.args.at.now c.args.rec in
    let plain = loop_kind (nest_cmp (nest_cmp (nest_cmp epoch_cmp))) (nest_coords (nest_coords (nest_coords epoch_coords))) flow c.in-Loop3.table k (unsettled past) h in
    let needs = deliveries_need_their_time k plain.per_time (λ s. not (past.settled s)) past.came a (ap not out) in
    IfOk-weaker c.deliver-in-Loop3.result _ _
    (λ sent e. e ∙ ap (sent_if_at (send_stamp_of_kind flow k c.args.at.now)) needs)
    (c.deliver-in-Loop3.ensures.sent flow k (unsettled past) h side)

pub returns-in-Loop3-clause-err : goal.returns-in-Loop3-clause-err
returns-in-Loop3-clause-err c = λ flow k past r.
    c.deliver-in-Loop3.ensures.err flow k (unsettled past) (of_variant flow k past c.in-Loop3.is r)

pub returns-in_ok-on_message-in-Total-clause-ok : goal.returns-in_ok-on_message-in-Total-clause-ok
returns-in_ok-on_message-in-Total-clause-ok c = λ flow k past r side out untold.
    let a : Arrival = arrival c.args.side c.args.at.now c.args.rec in
    let co : c.from_coords-in-Total.result.0 ∷ [] ≡ c.args.at.now = c.from_coords-in-Total.ensures in
    let new = c.on_message-in-Total.new.self in
    let Q : StampList → Type 0 = λ s. IsTotal past.settled (is_taken past) new (arrival c.args.side s c.args.rec ∷ past.came) in
    of_total flow past (λ x. (is_notified_kind x ≡ true → past.told c.args.at.now ≡ false) → IsNodeTable flow (table.Total new) x (with_arrival a past))
    c.in-Total.table k (of_variant flow k past c.in-Total.is r)
    (λ h u. subst Q co (c.in_ok-on_message-in-Total.ensures.ok past.settled (is_taken past) past.came (ap past.settled co ∙ out) (ap (is_taken past) co ∙ or_from (past.settled c.args.at.now) (past.told c.args.at.now) out (u refl)) h)) untold

pub returns-in_ok-on_message-in-Sequence-clause-ok : goal.returns-in_ok-on_message-in-Sequence-clause-ok
returns-in_ok-on_message-in-Sequence-clause-ok c = λ flow k past r side out untold.
    let a : Arrival = arrival c.args.side c.args.at.now c.args.rec in
    let co : c.from_coords-in-Sequence.result.0 ∷ [] ≡ c.args.at.now = c.from_coords-in-Sequence.ensures in
    let new = c.on_message-in-Sequence.new.self in
    let Q : StampList → Type 0 = λ s. IsSequence (is_taken past) new (arrival c.args.side s c.args.rec ∷ past.came) past.numbered in
    of_sequence flow past (λ x. (is_notified_kind x ≡ true → past.told c.args.at.now ≡ false) → IsNodeTable flow (table.Sequence new) x (with_arrival a past))
    c.in-Sequence.table k (of_variant flow k past c.in-Sequence.is r)
    (λ h u. subst Q co (c.in_ok-on_message-in-Sequence.ensures.ok (is_taken past) past.came past.numbered (ap (is_taken past) co ∙ or_from (past.settled c.args.at.now) (past.told c.args.at.now) out (u refl)) h)) untold

pub returns-in_ok-sent-in-Ledger-clause-ok : goal.returns-in_ok-sent-in-Ledger-clause-ok
returns-in_ok-sent-in-Ledger-clause-ok c = λ flow k past r side out untold.
    let a : Arrival = arrival c.args.side c.args.at.now c.args.rec in
    let co : c.from_coords-in-Ledger.result.0 ∷ [] ≡ c.args.at.now = c.from_coords-in-Ledger.ensures in
    let new = c.on_message-in-Ledger.new.self in
    let Q : StampList → Type 0 = λ s. IsLedger past.settled new (arrival c.args.side s c.args.rec ∷ past.came) in
    of_ledger flow past (λ x. IsNodeTable flow (table.Ledger new) x (with_arrival a past)) c.in-Ledger.table k (of_variant flow k past c.in-Ledger.is r)
    (λ h. subst Q co (c.in_ok-sent-in-Ledger.ensures.ok past.settled past.came (ap past.settled co ∙ out) h))

pub returns-in_ok-sent-in-Ledger-clause-sent : goal.returns-in_ok-sent-in-Ledger-clause-sent
returns-in_ok-sent-in-Ledger-clause-sent c = λ flow k past r side out.
    let a : Arrival = arrival c.args.side c.args.at.now c.args.rec in
    let co : c.from_coords-in-Ledger.result.0 ∷ [] ≡ c.args.at.now = c.from_coords-in-Ledger.ensures in
    let total : Rec = record { key = c.args.rec.key; value = plus c.args.rec.value (value_sum c.args.rec.key (recs_of past.came)) } in
    let sent : Sent Stamp = record { at = c.copy-in-Ledger.result; recs = c.in_ok-sent-in-Ledger.sent.recs } in
    of_ledger flow past (λ x. sent_list sent ≡ sent_if_at (send_stamp_of_kind flow x c.args.at.now) (recs_for x past.came a))
    c.in-Ledger.table k (of_variant flow k past c.in-Ledger.is r)
    (λ h. ap (λ (s : Sent SeqNo). map (λ (x : Rec). (c.copy-in-Ledger.result, x)) s.recs) (c.in_ok-sent-in-Ledger.ensures.sent past.settled past.came h)
    ∙ ap (λ (u : StampList). (u, total) ∷ []) c.copy-in-Ledger.ensures)

pub returns-in-Outside-clause-at : goal.returns-in-Outside-clause-at
returns-in-Outside-clause-at c = λ flow k i.
    let timed = sym (ap (λ (s : Table). is_table_of flow k s) c.in-Outside.is) ∙ i in
    IfOk-weaker c.deliver.result _ _ (λ sent e. timed-sent flow k c.args.at.now sent timed e) c.deliver.ensures.at

pub returns-in-Loop-clause-at : goal.returns-in-Loop-clause-at
returns-in-Loop-clause-at c = λ flow k i. c.deliver-in-Loop.ensures.at flow k (sym (ap (λ (s : Table). is_table_of flow k s) c.in-Loop.is) ∙ i)

pub returns-in-Loop2-clause-at : goal.returns-in-Loop2-clause-at
returns-in-Loop2-clause-at c = λ flow k i. c.deliver-in-Loop2.ensures.at flow k (sym (ap (λ (s : Table). is_table_of flow k s) c.in-Loop2.is) ∙ i)

pub returns-in-Loop3-clause-at : goal.returns-in-Loop3-clause-at
returns-in-Loop3-clause-at c = λ flow k i. c.deliver-in-Loop3.ensures.at flow k (sym (ap (λ (s : Table). is_table_of flow k s) c.in-Loop3.is) ∙ i)

pub returns-in-Enter-clause-at : goal.returns-in-Enter-clause-at
returns-in-Enter-clause-at c = λ flow k i.
    let is = sym (ap (λ (s : Table). is_table_of flow k s) c.in-Enter.is) ∙ i in
    let sent = ap sent_list c.at_stamp.ensures ∙ c.on_message.ensures ∙ ap (λ t. sent_if_at (entered_stamp t) (c.args.rec ∷ [])) c.from_coords.ensures in
    enter-sent flow k c.args.at.now (sent_list c.at_stamp.result) (c.args.rec ∷ []) is sent

pub returns-in-Enter2-clause-at : goal.returns-in-Enter2-clause-at
returns-in-Enter2-clause-at c = λ flow k i.
    let is = sym (ap (λ (s : Table). is_table_of flow k s) c.in-Enter2.is) ∙ i in
    let sent = ap sent_list c.at_stamp-in-Enter2.ensures ∙ c.on_message-in-Enter2.ensures ∙ ap (λ t. sent_if_at (entered_stamp t) (c.args.rec ∷ [])) c.from_coords-in-Enter2.ensures in
    enter-sent flow k c.args.at.now (sent_list c.at_stamp-in-Enter2.result) (c.args.rec ∷ []) is sent

pub returns-in-Enter3-clause-at : goal.returns-in-Enter3-clause-at
returns-in-Enter3-clause-at c = λ flow k i.
    let is = sym (ap (λ (s : Table). is_table_of flow k s) c.in-Enter3.is) ∙ i in
    let sent = ap sent_list c.at_stamp-in-Enter3.ensures ∙ c.on_message-in-Enter3.ensures ∙ ap (λ t. sent_if_at (entered_stamp t) (c.args.rec ∷ [])) c.from_coords-in-Enter3.ensures in
    enter-sent flow k c.args.at.now (sent_list c.at_stamp-in-Enter3.result) (c.args.rec ∷ []) is sent

pub returns-in-Idle-clause-at : goal.returns-in-Idle-clause-at
returns-in-Idle-clause-at c = λ flow k i. none-sent flow k c.args.at.now (sent_list c.of.result) (ap sent_list c.of.ensures)

pub returns-in_ok-on_message-in-Total-clause-at : goal.returns-in_ok-on_message-in-Total-clause-at
returns-in_ok-on_message-in-Total-clause-at c = λ flow k i.
    none-sent flow k c.args.at.now (sent_list c.at_stamp-in-Total.result)
    (ap sent_list c.at_stamp-in-Total.ensures ∙ ap (λ (s : Sent Epoch). map (λ (x : Rec). (s.at.0 ∷ [], x)) s.recs) c.in_ok-on_message-in-Total.ensures.sent)

pub returns-in_ok-on_message-in-Sequence-clause-at : goal.returns-in_ok-on_message-in-Sequence-clause-at
returns-in_ok-on_message-in-Sequence-clause-at c = λ flow k i. none-sent flow k c.args.at.now (sent_list c.of-in-Sequence.result) (ap sent_list c.of-in-Sequence.ensures)

pub returns-in_ok-sent-in-Ledger-clause-at : goal.returns-in_ok-sent-in-Ledger-clause-at
returns-in_ok-sent-in-Ledger-clause-at c = λ flow k i.
    let is = sym (ap (λ (s : Table). is_table_of flow k s) c.in-Ledger.is) ∙ i in
    let sent : Sent Stamp = record { at = c.copy-in-Ledger.result; recs = c.in_ok-sent-in-Ledger.sent.recs } in
    ledger-sent flow k c.args.at.now sent is c.copy-in-Ledger.ensures

pub returns-in-Regroup-clause-at : goal.returns-in-Regroup-clause-at
returns-in-Regroup-clause-at c = λ flow k i.
    let is = sym (ap (λ (s : Table). is_table_of flow k s) c.in-Regroup.is) ∙ i in
    let size = c.in-Regroup.table.size in
    let sent = ap sent_list c.at_stamp-in-Regroup.ensures ∙ c.on_message-in-Regroup.ensures ∙ ap (λ t. sent_if_at (regrouped_stamp size t) (c.args.rec ∷ [])) c.from_coords-in-Regroup.ensures in
    regroup-sent flow k size c.args.at.now (sent_list c.at_stamp-in-Regroup.result) (c.args.rec ∷ []) is sent

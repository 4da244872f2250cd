use Rattle.std.proofs.Common.{◌≡◌, ◌||◌, ◌∷◌, [], ℕ, ◌+◌, Bool, List, length, map, sym, ap, ◌∙◌, subst, arith}
use Rattle.std.proofs.lemmas.Bool.{or_from}
use Rattle.fw_lemmas.proofs.Bools.{or_swap}
use Rattle.fw_lemmas.proofs.Results.{on_err}
use Rattle.fw_time.specs.Stamp.{Stamp as StampList, same}
use Rattle.fw_bag.specs.declared.rec.Rec.{Rec}
use Rattle.fw_bag.specs.Keyed.{sorted_recs}
use Rattle.fw_bag.specs.Arrivals.{recs_arrived_at, recs_inside}
use Rattle.fw_table.specs.Sums.{sums_at_keys}
use Rattle.fw_totals.specs.Total.{IsTotal}
use Rattle.fw_numbered.specs.Numbers.{at_numbers, recs_numbered}
use Rattle.fw_numbered.specs.Sequence.{IsSequence}
use Rattle.fw_node.specs.declared.table.Table.{Table}
use Rattle.fw_node.specs.declared.table.Table.TheVariants as table
use Rattle.fw_node.specs.Answers.{sent_list}
use Rattle.fw_node.specs.NodeOf.{is_table_of}
use Rattle.fw_node.proofs.NodeOfLaws.{none-sent, timed-sent, total-sent, numbers-sent}
use Rattle.fw_node.specs.NodeTable.{IsNodeTable, epoch_cmp, epoch_coords, nest_cmp, nest_coords}
use Rattle.fw_node.specs.Past.{IsSumOfTaken, notice_list, unsettled, is_taken, with_notice}
use Rattle.fw_node.proofs.KindCases.{timed_plain}
use Rattle.fw_node.proofs.LoopCases.{loop_kind}
use Rattle.fw_node.proofs.PastLaws.{at_numbers-length, notice_unsettled}
use Rattle.fw_node.proofs.TableCases.{of_sequence, of_total, of_variant}
use Rattle.fw_time.specs.declared.stamp.Stamp.{Stamp}
use Rattle.fw_time.specs.declared.time.Epoch.{Epoch}
use Rattle.fw_table.specs.declared.sent.Sent.{Sent}
use Rattle.fw_node.proofs.table.Table.notify.Goals as goal

pub returns-in_ok-notify-in-Outside-clause-ok : goal.returns-in_ok-notify-in-Outside-clause-ok
returns-in_ok-notify-in-Outside-clause-ok c = λ flow k past r out untold.
    c.notify.ensures.stands k (unsettled past) (of_variant flow k past c.in-Outside.is r)

pub returns-in_ok-notify-in-Outside-clause-sent : goal.returns-in_ok-notify-in-Outside-clause-sent
returns-in_ok-notify-in-Outside-clause-sent c = λ flow k past r out untold sum.
    let h = of_variant flow k past c.in-Outside.is r in
    let plain = timed_plain epoch_cmp epoch_coords flow c.in-Outside.table k (unsettled past) h in
    ap sent_list (c.in_ok-notify-in-Outside.ensures.sent k (unsettled past) h) ∙ notice_unsettled k past c.args.at.now plain.per_time plain.unnumbered out

pub returns-in_err-notify-in-Outside-clause-err : goal.returns-in_err-notify-in-Outside-clause-err
returns-in_err-notify-in-Outside-clause-err c = λ flow k past r.
    on_err c.from_residual.result _ (c.notify.ensures.stands k (unsettled past) (of_variant flow k past c.in-Outside.is r))

pub returns-in_ok-notify-in-Loop-clause-ok : goal.returns-in_ok-notify-in-Loop-clause-ok
returns-in_ok-notify-in-Loop-clause-ok c = λ flow k past r out untold.
    c.notify-in-Loop.ensures.stands flow k (unsettled past) (of_variant flow k past c.in-Loop.is r)

pub returns-in_ok-notify-in-Loop-clause-sent : goal.returns-in_ok-notify-in-Loop-clause-sent
returns-in_ok-notify-in-Loop-clause-sent c = λ flow k past r out untold sum.
    let h = of_variant flow k past c.in-Loop.is r in
    let plain = loop_kind (nest_cmp epoch_cmp) (nest_coords epoch_coords) flow c.in-Loop.table k (unsettled past) h in
    ap sent_list (c.in_ok-notify-in-Loop.ensures.sent flow k (unsettled past) h) ∙ notice_unsettled k past c.args.at.now plain.per_time plain.unnumbered out

pub returns-in_err-notify-in-Loop-clause-err : goal.returns-in_err-notify-in-Loop-clause-err
returns-in_err-notify-in-Loop-clause-err c = λ flow k past r.
    on_err c.from_residual-in_err-notify-in-Loop.result _ (c.notify-in-Loop.ensures.stands flow k (unsettled past) (of_variant flow k past c.in-Loop.is r))

pub returns-in_ok-notify-in-Loop2-clause-ok : goal.returns-in_ok-notify-in-Loop2-clause-ok
returns-in_ok-notify-in-Loop2-clause-ok c = λ flow k past r out untold.
    c.notify-in-Loop2.ensures.stands flow k (unsettled past) (of_variant flow k past c.in-Loop2.is r)

pub returns-in_ok-notify-in-Loop2-clause-sent : goal.returns-in_ok-notify-in-Loop2-clause-sent
returns-in_ok-notify-in-Loop2-clause-sent c = λ flow k past r out untold sum.
    let h = of_variant flow k past c.in-Loop2.is r in
    let plain = loop_kind (nest_cmp (nest_cmp epoch_cmp)) (nest_coords (nest_coords epoch_coords)) flow c.in-Loop2.table k (unsettled past) h in
    ap sent_list (c.in_ok-notify-in-Loop2.ensures.sent flow k (unsettled past) h) ∙ notice_unsettled k past c.args.at.now plain.per_time plain.unnumbered out

pub returns-in_err-notify-in-Loop2-clause-err : goal.returns-in_err-notify-in-Loop2-clause-err
returns-in_err-notify-in-Loop2-clause-err c = λ flow k past r.
    on_err c.from_residual-in_err-notify-in-Loop2.result _ (c.notify-in-Loop2.ensures.stands flow k (unsettled past) (of_variant flow k past c.in-Loop2.is r))

pub returns-in_ok-notify-in-Loop3-clause-ok : goal.returns-in_ok-notify-in-Loop3-clause-ok
returns-in_ok-notify-in-Loop3-clause-ok c = λ flow k past r out untold.
    c.notify-in-Loop3.ensures.stands flow k (unsettled past) (of_variant flow k past c.in-Loop3.is r)

pub returns-in_ok-notify-in-Loop3-clause-sent : goal.returns-in_ok-notify-in-Loop3-clause-sent
returns-in_ok-notify-in-Loop3-clause-sent c = λ flow k past r out untold sum.
    let h = of_variant flow k past c.in-Loop3.is r in
    let plain = loop_kind (nest_cmp (nest_cmp (nest_cmp epoch_cmp))) (nest_coords (nest_coords (nest_coords epoch_coords))) flow c.in-Loop3.table k (unsettled past) h in
    ap sent_list (c.in_ok-notify-in-Loop3.ensures.sent flow k (unsettled past) h) ∙ notice_unsettled k past c.args.at.now plain.per_time plain.unnumbered out

pub returns-in_err-notify-in-Loop3-clause-err : goal.returns-in_err-notify-in-Loop3-clause-err
returns-in_err-notify-in-Loop3-clause-err c = λ flow k past r.
    on_err c.from_residual-in_err-notify-in-Loop3.result _ (c.notify-in-Loop3.ensures.stands flow k (unsettled past) (of_variant flow k past c.in-Loop3.is r))

pub returns-in_ok-sent-in-Total-clause-ok : goal.returns-in_ok-sent-in-Total-clause-ok
returns-in_ok-sent-in-Total-clause-ok c = λ flow k past r out untold.
    let co : c.from_coords.result.0 ∷ [] ≡ c.args.at.now = c.from_coords.ensures in
    let new = c.on_notify.new.self in
    let Q : (StampList → Bool) → Type 0 = λ g. IsTotal past.settled g new past.came in
    let e : (λ (s : StampList). same s (c.from_coords.result.0 ∷ []) || is_taken past s) ≡ (λ s. past.settled s || (same s c.args.at.now || past.told s)) =
    λ i s. (ap (λ u. same s u || is_taken past s) co ∙ or_swap (same s c.args.at.now) (past.settled s) (past.told s)) i in
    of_total flow past (λ x. IsNodeTable flow (table.Total new) x (with_notice c.args.at.now past)) c.in-Total.table k (of_variant flow k past c.in-Total.is r)
    (λ h. subst Q e (c.in_ok-sent-in-Total.ensures.ok past.settled (is_taken past) past.came (ap past.settled co ∙ out) (ap (is_taken past) co ∙ or_from (past.settled c.args.at.now) (past.told c.args.at.now) out untold) h))

pub returns-in_ok-sent-in-Total-clause-sent : goal.returns-in_ok-sent-in-Total-clause-sent
returns-in_ok-sent-in-Total-clause-sent c = λ flow k past r out untold sum.
    let co : c.from_coords.result.0 ∷ [] ≡ c.args.at.now = c.from_coords.ensures in
    let sent : Sent Stamp = record { at = c.copy.result; recs = c.in_ok-sent-in-Total.sent.recs } in
    of_total flow past (λ x. IsSumOfTaken x past c.args.at.now → sent_list sent ≡ notice_list x past c.args.at.now) c.in-Total.table k (of_variant flow k past c.in-Total.is r)
    (λ h u. ap (λ (t : StampList). map (λ (x : Rec). (t, x)) c.in_ok-sent-in-Total.sent.recs) (c.copy.ensures ∙ sym co)
    ∙ ap (λ (s : Sent Epoch). map (λ (x : Rec). (c.from_coords.result.0 ∷ [], x)) s.recs)
    (c.in_ok-sent-in-Total.ensures.sent past.settled (is_taken past) past.came (ap past.settled co ∙ out) (ap (is_taken past) co ∙ or_from (past.settled c.args.at.now) (past.told c.args.at.now) out untold) h)
    ∙ ap (λ (t : StampList). map (λ (x : Rec). (t, x)) (sums_at_keys (recs_arrived_at t past.came) (recs_inside (λ s. same s t || is_taken past s) past.came))) co
    ∙ ap (λ rs. map (λ (x : Rec). (c.args.at.now, x)) (sums_at_keys (recs_arrived_at c.args.at.now past.came) rs)) (sym u)) sum

pub returns-in_ok-on_notify-in-Sequence-clause-ok : goal.returns-in_ok-on_notify-in-Sequence-clause-ok
returns-in_ok-on_notify-in-Sequence-clause-ok c = λ flow k past r out untold.
    let co : c.from_coords-in-Sequence.result.0 ∷ [] ≡ c.args.at.now = c.from_coords-in-Sequence.ensures in
    let new = c.on_notify-in-Sequence.new.self in
    let sent = c.in_ok-on_notify-in-Sequence.field-0 in
    let Q : (StampList → Bool) → Type 0 = λ g. IsSequence g new past.came (past.numbered + length sent.recs) in
    let e : (λ (s : StampList). same s (c.from_coords-in-Sequence.result.0 ∷ []) || is_taken past s) ≡ (λ s. past.settled s || (same s c.args.at.now || past.told s)) =
    λ i s. (ap (λ u. same s u || is_taken past s) co ∙ or_swap (same s c.args.at.now) (past.settled s) (past.told s)) i in
    of_sequence flow past (λ x. IsNodeTable flow (table.Sequence new) x (with_notice c.args.at.now past)) c.in-Sequence.table k (of_variant flow k past c.in-Sequence.is r)
    (λ h.
    let gone = (ap (is_taken past) co ∙ or_from (past.settled c.args.at.now) (past.told c.args.at.now) out untold) in
    let rs : List Rec = sorted_recs (recs_arrived_at c.args.at.now past.came) in
    let same_list : at_numbers sent.first sent.recs ≡ recs_numbered past.numbered rs =
    c.in_ok-on_notify-in-Sequence.ensures.sent (is_taken past) past.came past.numbered gone h
    ∙ ap (λ (t : StampList). recs_numbered past.numbered (sorted_recs (recs_arrived_at t past.came))) co in
    let count : length sent.recs ≡ length (recs_numbered past.numbered rs) = sym (at_numbers-length sent.first sent.recs) ∙ ap length same_list in
    let R : ℕ → Type 0 = λ n. IsSequence (λ s. past.settled s || (same s c.args.at.now || past.told s)) new past.came n in
    let sum : past.numbered + length sent.recs ≡ length (recs_numbered past.numbered rs) + past.numbered = omega arith in
    subst R sum (subst Q e (c.in_ok-on_notify-in-Sequence.ensures.ok (is_taken past) past.came past.numbered gone h)))

pub returns-in_ok-on_notify-in-Sequence-clause-sent : goal.returns-in_ok-on_notify-in-Sequence-clause-sent
returns-in_ok-on_notify-in-Sequence-clause-sent c = λ flow k past r out untold sum.
    let co : c.from_coords-in-Sequence.result.0 ∷ [] ≡ c.args.at.now = c.from_coords-in-Sequence.ensures in
    let sent = c.in_ok-on_notify-in-Sequence.field-0 in
    of_sequence flow past (λ x. at_numbers sent.first sent.recs ≡ notice_list x past c.args.at.now) c.in-Sequence.table k (of_variant flow k past c.in-Sequence.is r)
    (λ h. c.in_ok-on_notify-in-Sequence.ensures.sent (is_taken past) past.came past.numbered (ap (is_taken past) co ∙ or_from (past.settled c.args.at.now) (past.told c.args.at.now) out untold) h
    ∙ ap (λ (t : StampList). recs_numbered past.numbered (sorted_recs (recs_arrived_at t past.came))) co)

pub returns-in_ok-notify-in-Outside-clause-at : goal.returns-in_ok-notify-in-Outside-clause-at
returns-in_ok-notify-in-Outside-clause-at c = λ flow k i.
    let timed = sym (ap (λ (s : Table). is_table_of flow k s) c.in-Outside.is) ∙ i in
    timed-sent flow k c.args.at.now c.in_ok-notify-in-Outside.field-0 timed c.in_ok-notify-in-Outside.ensures.at

pub returns-in_ok-notify-in-Loop-clause-at : goal.returns-in_ok-notify-in-Loop-clause-at
returns-in_ok-notify-in-Loop-clause-at c = λ flow k i. c.in_ok-notify-in-Loop.ensures.at flow k (sym (ap (λ (s : Table). is_table_of flow k s) c.in-Loop.is) ∙ i)

pub returns-in_ok-notify-in-Loop2-clause-at : goal.returns-in_ok-notify-in-Loop2-clause-at
returns-in_ok-notify-in-Loop2-clause-at c = λ flow k i. c.in_ok-notify-in-Loop2.ensures.at flow k (sym (ap (λ (s : Table). is_table_of flow k s) c.in-Loop2.is) ∙ i)

pub returns-in_ok-notify-in-Loop3-clause-at : goal.returns-in_ok-notify-in-Loop3-clause-at
returns-in_ok-notify-in-Loop3-clause-at c = λ flow k i. c.in_ok-notify-in-Loop3.ensures.at flow k (sym (ap (λ (s : Table). is_table_of flow k s) c.in-Loop3.is) ∙ i)

pub returns-in_ok-sent-in-Total-clause-at : goal.returns-in_ok-sent-in-Total-clause-at
returns-in_ok-sent-in-Total-clause-at c = λ flow k i.
    let is = sym (ap (λ (s : Table). is_table_of flow k s) c.in-Total.is) ∙ i in
    let sent : Sent Stamp = record { at = c.copy.result; recs = c.in_ok-sent-in-Total.sent.recs } in
    total-sent flow k c.args.at.now sent is c.copy.ensures

pub returns-in_ok-on_notify-in-Sequence-clause-at : goal.returns-in_ok-on_notify-in-Sequence-clause-at
returns-in_ok-on_notify-in-Sequence-clause-at c = λ flow k i.
    let is = sym (ap (λ (s : Table). is_table_of flow k s) c.in-Sequence.is) ∙ i in
    let sent = c.in_ok-on_notify-in-Sequence.field-0 in
    numbers-sent flow k c.args.at.now sent.first sent.recs is sent.few

pub returns-in-Idle-clause-at : goal.returns-in-Idle-clause-at
returns-in-Idle-clause-at c = λ flow k i. none-sent flow k c.args.at.now (sent_list c.of.result) (ap sent_list c.of.ensures)

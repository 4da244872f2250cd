use Rattle.std.proofs.Common.{◌≡◌, ◌||◌, Bool, List, OnOk, refl, subst}
use Rattle.std.proofs.lemmas.Result.{on_ok_weaker}
use Rattle.fw_time.specs.Stamp.{Stamp as StampList}
use Rattle.fw_frontier.specs.Front.{inside}
use Rattle.fw_bag.specs.declared.rec.Rec.{Rec}
use Rattle.fw_bag.specs.Arrivals.{Arrival}
use Rattle.fw_bag.proofs.ArrivalLaws.{outside_twice}
use Rattle.fw_numbered.specs.Sequence.{IsSequence}
use Rattle.fw_node.specs.declared.table.Table.TheVariants as table
use Rattle.fw_node.specs.LoopTable.{IsLoopTable}
use Rattle.fw_node.specs.NodeTable.{IsNodeTable, epoch_cmp, epoch_coords, nest_cmp, nest_coords}
use Rattle.fw_node.specs.Past.{IsToldWhereNotified, unsettled, is_taken, with_settled}
use Rattle.fw_node.specs.TimedTable.{IsTimedTable}
use Rattle.fw_node.proofs.PastLaws.{taken_after, gone_after}
use Rattle.fw_node.proofs.TableCases.{of_ledger, of_sequence, of_total, of_variant}
use Rattle.fw_totals.specs.Totals.{HasTotals}
use Rattle.fw_node.proofs.table.Table.settle.Goals as goal

pub returns-in-Outside-clause-ok : goal.returns-in-Outside-clause-ok
returns-in-Outside-clause-ok c = λ flow k past r sub told.
    let Q : List Arrival → Type 0 = λ xs. IsTimedTable epoch_cmp epoch_coords c.settle.new.self k xs in
    on_ok_weaker c.settle.result (λ t. subst Q (outside_twice past.settled (inside c.args.f.now) sub past.came) t)
    (c.settle.ensures.ok k (unsettled past) (of_variant flow k past c.in-Outside.is r))

pub returns-in-Outside-clause-err : goal.returns-in-Outside-clause-err
returns-in-Outside-clause-err c = λ flow k past r.
    c.settle.ensures.err k (unsettled past) (of_variant flow k past c.in-Outside.is r)

pub returns-in-Loop-clause-ok : goal.returns-in-Loop-clause-ok
returns-in-Loop-clause-ok c = λ flow k past r sub told.
    let Q : List Arrival → Type 0 = λ xs. IsLoopTable (nest_cmp epoch_cmp) (nest_coords epoch_coords) flow c.settle-in-Loop.new.self k xs in
    on_ok_weaker c.settle-in-Loop.result (λ t. subst Q (outside_twice past.settled (inside c.args.f.now) sub past.came) t)
    (c.settle-in-Loop.ensures.ok flow k (unsettled past) (of_variant flow k past c.in-Loop.is r))

pub returns-in-Loop-clause-err : goal.returns-in-Loop-clause-err
returns-in-Loop-clause-err c = λ flow k past r.
    c.settle-in-Loop.ensures.err flow k (unsettled past) (of_variant flow k past c.in-Loop.is r)

pub returns-in-Loop2-clause-ok : goal.returns-in-Loop2-clause-ok
returns-in-Loop2-clause-ok c = λ flow k past r sub told.
    let Q : List Arrival → Type 0 = λ xs. IsLoopTable (nest_cmp (nest_cmp epoch_cmp)) (nest_coords (nest_coords epoch_coords)) flow c.settle-in-Loop2.new.self k xs in
    on_ok_weaker c.settle-in-Loop2.result (λ t. subst Q (outside_twice past.settled (inside c.args.f.now) sub past.came) t)
    (c.settle-in-Loop2.ensures.ok flow k (unsettled past) (of_variant flow k past c.in-Loop2.is r))

pub returns-in-Loop2-clause-err : goal.returns-in-Loop2-clause-err
returns-in-Loop2-clause-err c = λ flow k past r.
    c.settle-in-Loop2.ensures.err flow k (unsettled past) (of_variant flow k past c.in-Loop2.is r)

pub returns-in-Loop3-clause-ok : goal.returns-in-Loop3-clause-ok
returns-in-Loop3-clause-ok c = λ flow k past r sub told.
    let Q : List Arrival → Type 0 = λ xs. IsLoopTable (nest_cmp (nest_cmp (nest_cmp epoch_cmp))) (nest_coords (nest_coords (nest_coords epoch_coords))) flow c.settle-in-Loop3.new.self k xs in
    on_ok_weaker c.settle-in-Loop3.result (λ t. subst Q (outside_twice past.settled (inside c.args.f.now) sub past.came) t)
    (c.settle-in-Loop3.ensures.ok flow k (unsettled past) (of_variant flow k past c.in-Loop3.is r))

pub returns-in-Loop3-clause-err : goal.returns-in-Loop3-clause-err
returns-in-Loop3-clause-err c = λ flow k past r.
    c.settle-in-Loop3.ensures.err flow k (unsettled past) (of_variant flow k past c.in-Loop3.is r)

pub returns-in_ok-epochs_inside-in-Total-clause-ok : goal.returns-in_ok-epochs_inside-in-Total-clause-ok
returns-in_ok-epochs_inside-in-Total-clause-ok c = λ flow k past r sub told.
    let f : StampList → Bool = inside c.args.f.now in
    let new = c.settle-in-Total.new.self in
    let Q : List Rec → Type 0 = λ rs. HasTotals new.running rs in
    of_total flow past (λ x. IsToldWhereNotified x past f → OnOk c.settle-in-Total.result (IsNodeTable flow (table.Total new) x (with_settled f past)))
    c.in-Total.table k (of_variant flow k past c.in-Total.is r)
    (λ h u. on_ok_weaker c.settle-in-Total.result
    (λ n. record { table = n.table; running = subst Q (taken_after past.settled f past.told sub past.came (u refl)) n.running })
    (c.settle-in-Total.ensures.ok past.settled f (is_taken past) past.came c.in_ok-epochs_inside-in-Total.ensures sub h)) told

pub returns-in_ok-epochs_inside-in-Sequence-clause-ok : goal.returns-in_ok-epochs_inside-in-Sequence-clause-ok
returns-in_ok-epochs_inside-in-Sequence-clause-ok c = λ flow k past r sub told.
    let f : StampList → Bool = inside c.args.f.now in
    let new = c.settle-in-Sequence.new.self in
    let Q : (StampList → Bool) → Type 0 = λ g. IsSequence g new past.came past.numbered in
    let e : (λ (s : StampList). f s || is_taken past s) ≡ (λ s. f s || past.told s) = λ i s. gone_after (past.settled s) (f s) (past.told s) (sub s) i in
    of_sequence flow past (λ x. IsNodeTable flow (table.Sequence new) x (with_settled f past)) c.in-Sequence.table k (of_variant flow k past c.in-Sequence.is r)
    (λ h. subst Q e (c.settle-in-Sequence.ensures.table (is_taken past) f past.came past.numbered c.in_ok-epochs_inside-in-Sequence.ensures h))

pub returns-in_ok-epochs_inside-in-Ledger-clause-ok : goal.returns-in_ok-epochs_inside-in-Ledger-clause-ok
returns-in_ok-epochs_inside-in-Ledger-clause-ok c = λ flow k past r sub told.
    let f : StampList → Bool = inside c.args.f.now in
    let new = c.settle-in-Ledger.new.self in
    of_ledger flow past (λ x. OnOk c.settle-in-Ledger.result (IsNodeTable flow (table.Ledger new) x (with_settled f past))) c.in-Ledger.table k (of_variant flow k past c.in-Ledger.is r)
    (λ h. c.settle-in-Ledger.ensures.ok past.settled f past.came c.in_ok-epochs_inside-in-Ledger.ensures sub h)

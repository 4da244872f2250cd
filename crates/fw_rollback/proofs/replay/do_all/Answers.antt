use Rattle.std.proofs.Common.{List, take, sym, subst, ◌∙◌}
use Rattle.std.proofs.lemmas.List.{take_all}
use Rattle.fw_lemmas.proofs.Each.{each-at}
use Rattle.fw_record.specs.declared.record.Event.{Event as LoggedEvent}
use Rattle.fw_record.specs.declared.record.Record.{Record}
use Rattle.fw_rollback.specs.Asked.{events_of, CanServe}
use Rattle.fw_rollback.specs.Restored.{HaveSent, StandsForRedone}
use Rattle.fw_rollback.proofs.ReplayLaws.{events-more}
use Rattle.fw_rollback.proofs.replay.do_all.Goals as goal

pub do_record-requires-clause-serve : goal.do_record-requires-clause-serve
do_record-requires-clause-serve c =
    subst (CanServe c.args.flow.now c.args.node) (sym c.what-item.is)
    (each-at (CanServe c.args.flow.now c.args.node) c.args.records.now c.loop-what.what-index c.what-item.result c.loop-what-test.true c.requires.serve)

pub loop-what-preserved : goal.loop-what-preserved
loop-what-preserved c =
    let flow = c.args.flow.now in
    let p = c.args.node in
    let rs = c.args.records.now in
    let i = c.loop-what.what-index in
    let more = events-more rs i c.what-item.result c.loop-what-test.true c.what-item.is in
    let before = events_of (take i rs) in
    record {
      table = subst (λ (ls : List LoggedEvent). StandsForRedone flow p ls c.do_record.new.table) (sym more) (c.in_ok-do_record.ensures.table before c.loop-what.invariant.table);
      logs = subst (λ (ls : List LoggedEvent). HaveSent flow c.args.low.now p ls c.do_record.new.logs) (sym more)
          (c.in_ok-do_record.ensures.logs before c.loop-what.invariant.table c.loop-what.invariant.logs);
      others = λ e n. c.do_record.ensures.others e n ∙ c.loop-what.invariant.others e n;
      each = c.do_record.ensures.each ∙ c.loop-what.invariant.each;
      own = c.in_ok-do_record.ensures.own;
      node = c.do_record.ensures.node;
    }

pub returns-clause-table : goal.returns-clause-table
returns-clause-table c =
    subst (λ (rs : List Record). StandsForRedone c.args.flow.now c.args.node (events_of rs) c.loop-what.table) (take_all c.loop-what.what-index c.args.records.now c.loop-what-test.false) c.loop-what.invariant.table

pub returns-clause-logs : goal.returns-clause-logs
returns-clause-logs c =
    subst (λ (rs : List Record). HaveSent c.args.flow.now c.args.low.now c.args.node (events_of rs) c.loop-what.logs) (take_all c.loop-what.what-index c.args.records.now c.loop-what-test.false)
    c.loop-what.invariant.logs

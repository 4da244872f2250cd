use Rattle.std.proofs.Common.{false}
use Rattle.fw_rollback.proofs.OwnLaws.{own-none, own-messages}
use Rattle.fw_rollback.proofs.ReplayLaws.{stands-none, have_sent-none}
use Rattle.fw_rollback.proofs.replay.replayed.Goals as goal

pub do_all-requires-clause-new : goal.do_all-requires-clause-new
do_all-requires-clause-new c = stands-none c.args.flow.now c.args.node c.in_ok-table.table (c.in_ok-table.ensures.table (λ s. false))

pub do_all-requires-clause-empty : goal.do_all-requires-clause-empty
do_all-requires-clause-empty c = have_sent-none c.args.flow.now c.args.low.now c.args.node c.args.logs.now c.requires.empty

pub do_all-requires-clause-own : goal.do_all-requires-clause-own
do_all-requires-clause-own c = own-none c.args.flow.now c.args.low.now c.args.node c.args.logs.now c.requires.empty

pub returns-clause-done : goal.returns-clause-done
returns-clause-done c = record {
  of_node = c.settle.ensures.node c.args.flow.now c.args.node c.do_all.ensures.node;
  own = own-messages c.args.flow.now c.args.low.now c.args.node c.do_all.new.logs c.in_ok-do_all.ensures.own;
  table = λ events a told stamps. c.in_ok-settle.ensures.table c.args.flow.now c.args.node events (c.in_ok-do_all.ensures.table events a) told stamps;
  sent = c.in_ok-do_all.ensures.logs;
}

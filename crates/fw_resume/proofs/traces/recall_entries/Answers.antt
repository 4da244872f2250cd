use Rattle.std.proofs.Common.{arith}
use Rattle.fw_resume.specs.Recalled.{recalls_of_entry}
use Rattle.fw_resume.proofs.RecallLaws.{recalled-next, recalled-all}
use Rattle.fw_resume.proofs.traces.recall_entries.Goals as goal

pub loop-entry-preserved : goal.loop-entry-preserved
loop-entry-preserved c =
    let o = c.in_ok-recall_entry.ensures in (
      o.ready,
      recalled-next (recalls_of_entry c.args.flow.now) c.args.entries.now c.loop-entry.entry-index c.entry-item.result c.args.traces.now c.loop-entry.traces
          c.recall_entry.new.traces c.loop-entry-test.true c.entry-item.is c.loop-entry.invariant.1 o.recalled,
    )

pub returns-clause-recalled : goal.returns-clause-recalled
returns-clause-recalled c =
    recalled-all (recalls_of_entry c.args.flow.now) c.args.entries.now c.loop-entry.entry-index c.args.traces.now c.loop-entry.traces
    (grind arith) c.loop-entry.invariant.1

use Rattle.std.proofs.Common.{◌≡◌, map, subst, arith}
use Rattle.fw_resume.specs.Recalled.{HaveRecalled, recalls_of_batch, recalls_of_input}
use Rattle.fw_resume.proofs.RecallLaws.{recalled-number}
use Rattle.fw_resume.proofs.traces.recall_input.Goals as goal

pub loop-epoch-preserved : goal.loop-epoch-preserved
loop-epoch-preserved c =
    let o = c.in_ok-recall_batch.ensures in (
      o.ready,
      recalled-number (recalls_of_batch c.args.flow.now c.args.node c.args.low.now (map (λ b. b.recs) c.args.batches.now)) c.loop-epoch.epoch c.args.traces.now c.loop-epoch.traces
          c.recall_batch.new.traces c.loop-epoch.invariant.1 o.recalled,
    )

pub returns-clause-recalled : goal.returns-clause-recalled
returns-clause-recalled c =
    let end : c.loop-epoch.epoch ≡ c.args.injected = grind arith in
    subst (λ n. HaveRecalled (recalls_of_input c.args.flow.now c.args.node c.args.low.now (map (λ b. b.recs) c.args.batches.now) n) c.args.traces.now c.loop-epoch.traces) end
    c.loop-epoch.invariant.1

use Rattle.std.proofs.Common.{ap, ◌∙◌}
use Rattle.fw_record.specs.declared.record.Record.{Record}
use Rattle.fw_rollback.proofs.BuildLaws.{leads-on, leads-same}
use Rattle.fw_rollback.proofs.restored.last_front.Goals as goal
use Rattle.fw_rollback.proofs.restored.last_front.Goals.{in-Changes, in_default}

pub loop-what-preserved : goal.loop-what-preserved
loop-what-preserved c =
    let first = c.args.checkpoint.now in
    let rs = c.args.records.now in
    let i = c.loop-what.what-index in
    let r : Record = c.what-item.result in
    elim c.match-what.branch [
      | in-Changes w ↦ ap (λ x. x.now) w.last-is ∙ leads-on first rs i r c.loop-what-test.true c.what-item.is w.in-Changes.is
      | in_default w ↦ ap (λ x. x.now) w.last-is ∙ c.loop-what.invariant
          ∙ leads-same first rs i r c.loop-what-test.true c.what-item.is w.in_default.not-Changes
    ]

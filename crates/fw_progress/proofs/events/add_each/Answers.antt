use Rattle.std.proofs.Common.{◌+◌, ◌∙◌, take, sym, subst}
use Rattle.fw_progress.specs.Progress.{stamps_of_part}
use Rattle.fw_progress.specs.Tally.{HasEachMore}
use Rattle.fw_progress.proofs.TallyLaws.{each_none, each_more, each_same}
use Rattle.fw_progress.proofs.events.add_each.Goals as goal
use Rattle.fw_progress.proofs.events.add_each.Goals.{then-is_of_part+in_ok-add, else-is_of_part}

pub loop-one-init : goal.loop-one-init
loop-one-init c = each_none c.args.tally.now

pub loop-one-preserved : goal.loop-one-preserved
loop-one-preserved c =
    let part = c.args.part in
    let sent = c.args.sent.now in
    let i = c.loop-one.one-index in
    let x = c.one-item.result in
    let old = c.args.tally.now in
    elim c.if-is_of_part.branch [
      | then-is_of_part+in_ok-add w ↦ subst (HasEachMore (stamps_of_part part (take (i + 1) sent)) old) (sym w.tally-is)
          (each_more part sent i x old c.loop-one.tally w.add.new.self c.loop-one-test.true c.one-item.is (sym c.is_of_part.ensures ∙ w.if-is_of_part.true) c.loop-one.invariant w.in_ok-add.ensures.ok)
      | else-is_of_part w ↦ subst (HasEachMore (stamps_of_part part (take (i + 1) sent)) old) (sym w.tally-is)
          (each_same part sent i x old c.loop-one.tally c.loop-one-test.true c.one-item.is (sym c.is_of_part.ensures ∙ w.if-is_of_part.false) c.loop-one.invariant)
    ]

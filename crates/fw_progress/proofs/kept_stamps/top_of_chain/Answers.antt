use Rattle.std.proofs.Common.{◌≡◌, ◌+◌, drop, sym, ◌∙◌}
use Rattle.fw_progress.proofs.KeptLaws.{IsTopUpTo, top-inside, top-outside}
use Rattle.fw_progress.proofs.kept_stamps.top_of_chain.Goals.{then-contains+in_ok-next, else-contains}
use Rattle.fw_progress.proofs.kept_stamps.top_of_chain.Goals as goal

pub loop-stamp-preserved : goal.loop-stamp-preserved
loop-stamp-preserved c =
    let base = c.args.base.now in
    let stamps = c.args.stamps.now in
    let top = c.loop-stamp.top in
    let now = c.if-contains.top in
    let i = c.loop-stamp.stamp-index in
    let stamp = c.stamp-item.result in
    let on : IsTopUpTo base now (drop (i + 1) stamps) stamps = elim c.if-contains.branch [
      | then-contains+in_ok-next w ↦
          top-inside base top now w.in_ok-next.next stamps i stamp c.loop-stamp-test.true c.stamp-item.is (sym c.contains.ensures ∙ w.if-contains.true)
          (sym w.in_ok-next.ensures.value) w.in_ok-next.ensures.greater w.top-is c.loop-stamp.invariant
      | else-contains w ↦
          top-outside base top now stamps i stamp c.loop-stamp-test.true c.stamp-item.is (sym c.contains.ensures ∙ w.if-contains.false) w.top-is c.loop-stamp.invariant
    ] in
    on

use Rattle.std.proofs.Common.{sym, ap, ◌∙◌}
use Rattle.fw_disk.specs.RunLines.{if_any, told_then, told_after}
use Rattle.fw_disk.proofs.lines.lines_in.Goals as goal

pub loop-line-preserved : goal.loop-line-preserved
loop-line-preserved c id =
    let m = c.loop-line.invariant id in
    (told_then c.in-Some.line.now id m.0, c.in_ok-add_told.ensures id m.0 m.1, ap (λ ls. told_after ls id m.0) (sym c.in-Some.ensures.first) ∙ m.2)

pub returns : goal.returns
returns c id =
    let m = c.loop-line.invariant id in
    m.1 ∙ ap if_any (ap (λ ls. told_after ls id m.0) (sym c.in_default.ensures.none) ∙ m.2)

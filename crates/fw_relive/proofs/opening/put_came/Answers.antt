use Rattle.std.proofs.Common.{◌∙◌, ◌++◌, ap}
use Rattle.std.specs.Prelude.{string_bytes}
use Rattle.fw_engine.specs.Engine.{flow_of}
use Rattle.fw_live.proofs.ShowLaws.{line-more}
use Rattle.fw_relive.specs.Opening.{from_line}
use Rattle.fw_relive.proofs.opening.put_came.Goals as goal

pub loop-place-preserved : goal.loop-place-preserved
loop-place-preserved g c = λ story at.
    let flow = flow_of (g.S.Living.engine_of c.args.session.now) in
    line-more (from_line flow story) c.loop-place.place c.args.into.now.items c.loop-place.into.items (string_bytes c.in_ok-line.line)
    c.put.new.into.items (c.loop-place.invariant story at) (c.in_ok-line.ensures story at ∙ ap (from_line flow story) c.at.ensures)
    (c.in_ok-put.ensures ∙ ap (λ bytes. c.loop-place.into.items ++ bytes) c.as_bytes.ensures.value)

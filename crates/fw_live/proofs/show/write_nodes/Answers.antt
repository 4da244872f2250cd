use Rattle.std.proofs.Common.{◌∙◌, ◌++◌, ap}
use Rattle.std.specs.Prelude.{string_bytes}
use Rattle.fw_engine.specs.Engine.{flow_of}
use Rattle.fw_live.specs.Aspects.{aspect_line}
use Rattle.fw_live.proofs.ShowLaws.{line-more}
use Rattle.fw_live.proofs.show.write_nodes.Goals as goal

pub loop-place-preserved : goal.loop-place-preserved
loop-place-preserved g c = λ story at.
    let flow = flow_of (g.S.Living.engine_of c.args.session.now) in
    line-more (aspect_line c.args.aspect flow story) c.loop-place.place c.args.into.now.items c.loop-place.into.items (string_bytes c.in_ok-line.line)
    c.push.new.into.items (c.loop-place.invariant story at) (c.in_ok-line.ensures story at ∙ ap (aspect_line c.args.aspect flow story) c.at.ensures)
    (c.in_ok-push.ensures ∙ ap (λ bytes. c.loop-place.into.items ++ bytes) c.as_bytes.ensures.value)

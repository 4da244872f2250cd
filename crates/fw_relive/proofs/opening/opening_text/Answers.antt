use Rattle.std.proofs.Common.{rules, ◌≡◌, ◌∙◌, ◌++◌, [], ap}
use Rattle.std.specs.List.{flat_map}
use Rattle.std.specs.Prelude.{codes}
use Rattle.fw_flow.specs.Dataflow.{node_ids}
use Rattle.fw_engine.specs.Engine.{flow_of}
use Rattle.fw_relive.specs.Opening.{found_text, from_line, restart_in}
use Rattle.fw_relive.proofs.OpeningLaws.{opened-parts}
use Rattle.fw_relive.proofs.opening.opening_text.Goals as goal

pub returns : goal.returns
returns g c = λ story at.
    let flow = flow_of (g.S.Living.engine_of c.args.session.now) in
    let found = restart_in c.args.resumed.now in
    let empty : c.new-text.result.items ≡ [] = search rules in
    opened-parts (flat_map (from_line flow story) (node_ids flow)) (found_text flow found) (codes "done 0\n") c.new-text.result.items
    c.put_came.new.into.items c.put_found.new.into.items c.put.new.into.items empty (c.in_ok-put_came.ensures story at)
    (c.in_ok-put_found.ensures ∙ ap (λ d. c.put_came.new.into.items ++ found_text d found) (c.flow.ensures ∙ ap flow_of c.engine.ensures.engine))
    c.in_ok-put.ensures

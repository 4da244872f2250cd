use Rattle.std.proofs.Common.{List, ap, ◌∙◌}
use Rattle.std.specs.Prelude.{slice_get}
use Rattle.fw_frontier.specs.Front.{Front}
use Rattle.fw_engine.proofs.LookLaws.{is_some-there}
use Rattle.fw_engine.proofs.StableLaws.{each-stable}
use Rattle.fw_engine.proofs.engine.Engine.low_watermark.Goals as goal

pub returns-clause-front : goal.returns-clause-front
returns-clause-front c = λ records sys state s.
    c.front_at.ensures ∙ ap (λ (fs : List Front). slice_get fs c.args.node) (c.as_slice.ensures ∙ s.apart.low)

pub returns-clause-declared : goal.returns-clause-declared
returns-clause-declared c = λ live.
    let running = c.args.self.now.running in
    is_some-there running.parts.low c.args.node _ c.front_at.result
    (c.front_at.ensures ∙ ap (λ (fs : List Front). slice_get fs c.args.node) c.as_slice.ensures)
    (each-stable running c.args.self.now.refused _ _ c.args.self.now.shaped live (λ s. s.one_each.low))

use Rattle.fw_engine.proofs.LookLaws.{is_some-there}
use Rattle.fw_engine.proofs.StableLaws.{each-stable}
use Rattle.fw_engine.proofs.engine.Engine.logged.Goals as goal

pub returns-then-place-edges-clause-declared : goal.returns-then-place-edges-clause-declared
returns-then-place-edges-clause-declared c = λ live.
    let running = c.args.self.now.running in
    is_some-there running.parts.logs c.args.edge _ c.get.result c.get.ensures
    (each-stable running c.args.self.now.refused _ _ c.args.self.now.shaped live (λ s. s.one_each.parts.logs))

use Rattle.std.proofs.Common.{ap, ◌∙◌}
use Rattle.fw_keep.specs.Catalogue.{KeepState}
use Rattle.fw_held.proofs.StoreLaws.{none-there}
use Rattle.fw_held.proofs.restartable.RestartableEngineHeldEngine.fresh.Goals as goal

pub returns-clause-stands : goal.returns-clause-stands
returns-clause-stands c = λ records. c.share.ensures.stands records _ _ (c.in_ok-engine.ensures.stands records)

pub returns-clause-stored : goal.returns-clause-stored
returns-clause-stored c = λ records.
    none-there c.share.new.self.running.parts.keep records
    (ap (λ (k : KeepState). k.entries) c.share.ensures.keep ∙ ap (λ (k : KeepState). k.entries) c.in_ok-engine.ensures.writes)

pub returns-clause-flow : goal.returns-clause-flow
returns-clause-flow c = c.share.ensures.flow ∙ c.in_ok-engine.ensures.flow

pub returns-clause-next : goal.returns-clause-next
returns-clause-next c = ap (λ (k : KeepState). k.next) c.share.ensures.keep ∙ ap (λ (k : KeepState). k.next) c.in_ok-engine.ensures.writes

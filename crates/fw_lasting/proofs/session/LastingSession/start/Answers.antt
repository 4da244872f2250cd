use Rattle.std.proofs.Common.{◌≡◌, Ok, Err}
use Rattle.fw_held.proofs.StoreLaws.{there-stored}
use Rattle.fw_lasting.specs.declared.start.Begun.{Begun}
use Rattle.fw_lasting.proofs.StartingLaws.{foreign-fault, foreign-ok}
use Rattle.fw_lasting.proofs.session.LastingSession.start.Goals as goal

pub invariant_of-session : goal.invariant_of-session
invariant_of-session g c =
    let records = (g.K.Store.view c.begin.new.store).records in
    record {
      stored = there-stored c.in-Ok.begun.engine.engine.running.parts.keep records c.in-Ok.ensures.stored;
      few = c.in-Ok.ensures.few;
    }

pub returns-in-Ok-clause-foreign : goal.returns-in-Ok-clause-foreign
returns-in-Ok-clause-foreign g c = λ f some. foreign-ok c.in-Ok.begun (c.in-Ok.ensures.foreign f some)

pub returns-in-Err-clause-foreign_root : goal.returns-in-Err-clause-foreign_root
returns-in-Err-clause-foreign_root g c = λ f some. foreign-fault Begun c.in-Err.fault (c.in-Err.ensures.foreign f some)

pub returns-in-Err-clause-whole : goal.returns-in-Err-clause-whole
returns-in-Err-clause-whole g c = λ story turn next held told h some. c.in-Err.ensures.whole story turn next held told h some

use Rattle.std.proofs.Common.{ap, subst, sym}
use Rattle.std.proofs.lemmas.Result.{on_ok_weaker}
use Rattle.fw_running.specs.ReadyState.{ReadyState}
use Rattle.fw_running.specs.Shaped.{IsShaped}
use Rattle.fw_events.proofs.ShapedLaws.{shaped-owing}
use Rattle.fw_events.proofs.delivery.note_owing.Goals as goal

pub returns-clause-shaped : goal.returns-clause-shaped
returns-clause-shaped c =
    let old = c.args.running.now in
    on_ok_weaker c.put_owing.result (λ put.
    subst IsShaped (sym (ap (λ (r : ReadyState). record old { ready = r }) c.put_owing.ensures.others))
    (shaped-owing old c.put_owing.new.self.owing c.requires.shaped put.stays)) c.put_owing.ensures.put

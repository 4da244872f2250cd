use Rattle.std.proofs.Common.{Some, ap, refl}
use Rattle.fw_engine.specs.Engine.{flow_of}
use Rattle.fw_outside.specs.Memory.{record_map}
use Rattle.fw_session.specs.Story.{Story}
use Rattle.fw_lasting.specs.UnderWay.{IsUnderWay}
use Rattle.fw_talk.proofs.LastingLaws.{started-over, not-started-over}
use Rattle.fw_talk.proofs.lasting.begun.Goals as goal

pub returns-in-Ok : goal.returns-in-Ok
returns-in-Ok c =
    let held = record_map c.args.records.records.entries in let session = c.in-Ok.session in
    let told = ap (λ view. view.records) c.over.ensures.view in
    started-over c.opened_at.result c.args.flow (flow_of session.engine.engine) c.args.digests session.digests c.args.rests held c.in-Ok.resumed
    (λ first. (kept : Story) × IsUnderWay session.digests session.engine.engine session.arrivals (Some (record_map session.store.records.entries)) session.turn kept first)
    c.in-Ok.ensures.flow c.in-Ok.ensures.digests
    (λ foreign. c.in-Ok.ensures.foreign (held, told, foreign) refl)
    (λ story turn next holds. let h = c.in-Ok.ensures.begun story turn next held told holds refl in (h.now, h.goes_on, (story, h.under_way)))
    (λ story turn next steps lines holds says. c.in-Ok.ensures.tells story turn next held steps lines told holds says refl)
    c.opened_at.ensures

pub returns-in-Err : goal.returns-in-Err
returns-in-Err c =
    let held = record_map c.args.records.records.entries in
    let told = ap (λ view. view.records) c.over.ensures.view in
    not-started-over c.unstarted.result c.in-Err.failed.fault c.args.flow c.args.digests c.args.rests held
    (λ story turn next holds. c.in-Err.ensures.whole story turn next held told holds refl)
    c.unstarted.ensures

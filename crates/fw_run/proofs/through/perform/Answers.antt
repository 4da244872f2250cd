use Rattle.std.proofs.Common.{sym, ap, subst, Ok, Err}
use Rattle.std.proofs.lemmas.Result.{err_from_is_err_and}
use Rattle.std.specs.Prelude.{IsSome}
use Rattle.fw_flow.specs.Dataflow.{system_of}
use Rattle.fw_keep.specs.Catalogue.{KeepState}
use Rattle.fw_run.proofs.EndLaws.{ends-taken, ends-stopped, ends-not_begun, stays_last, stays_seen}
use Rattle.fw_run.specs.Ends.{first_point, seen}
use Rattle.fw_run.specs.Enduring.{RoseBy}
use Rattle.fw_command.specs.Manner.{told_in, last_in}
use Rattle.fw_run.specs.Tallies.{last_line}
use Rattle.fw_run.specs.Through.{TakesItems}
use Rattle.fw_run.proofs.through.perform.Goals as goal

pub returns-in_err-engine-clause-ends : goal.returns-in_err-engine-clause-ends
returns-in_err-engine-clause-ends g c =
    let p = err_from_is_err_and c.from_residual.result c.from_residual.ensures.1 in
    let known = g.K.Store.view c.args.store.now in
    rw (p.1, p.2) (ends-not_begun (IsSome known.records) (told_in c.args.manner) (system_of c.args.job.flow c.args.job.batches) c.args.job.items known.faults known.records known.given
    (g.O.Sink.view c.args.out.now) c.requires.ready.well_formed)

pub returns-in_err-take-clause-ends : goal.returns-in_err-take-clause-ends
returns-in_err-take-clause-ends g c =
    let p = err_from_is_err_and c.from_residual-in_err-take.result c.from_residual-in_err-take.ensures.1 in
    let known = g.K.Store.view in
    let view = g.O.Sink.view in
    let manner = told_in c.args.manner in
    let sys = system_of c.args.job.flow c.args.job.batches in
    let last = known c.take.new.store in
    let tells = IsSome last.records in
    let f = c.in_err-take.field-0.0 in
    let a = (known c.args.store.now).faults in
    let taken = subst (λ items. TakesItems manner.course tells sys (first_point manner sys) items (Err f) c.take.new.tally (RoseBy a last.faults) last.records last.given (seen manner.is_seen (view c.args.out.now)) (seen manner.is_seen (view c.take.new.out)))
    c.as_slice-items.ensures (c.in_err-take.ensures.taken sys (first_point manner sys) (sym c.new-tally.ensures.none) (c.in_ok-engine.ensures.stands (known c.args.store.now).records)) in
    rw (p.1, p.2) (ends-stopped tells manner sys c.args.job.items _ a last.faults last.records last.given (view c.args.out.now) (view c.take.new.out) taken.0 taken.1
    (stays_seen view manner.is_seen c.args.out.now c.take.new.out c.take.ensures.stays) c.in_err-take.ensures.first c.take.ensures.rises)

pub returns-clause-ends : goal.returns-clause-ends
returns-clause-ends g c =
    let known = g.K.Store.view in
    let view = g.O.Sink.view in
    let manner = told_in c.args.manner in
    let sys = system_of c.args.job.flow c.args.job.batches in
    let last = known c.take.new.store in
    let tells = IsSome last.records in
    let a = (known c.args.store.now).faults in
    let taken = subst (λ items. TakesItems manner.course tells sys (first_point manner sys) items (Ok tt) c.take.new.tally (RoseBy a last.faults) last.records last.given (seen manner.is_seen (view c.args.out.now)) (seen manner.is_seen (view c.take.new.out)))
    c.as_slice-items.ensures (c.in_ok-take.ensures.taken sys (first_point manner sys) (sym c.new-tally.ensures.none) (c.in_ok-engine.ensures.stands (known c.args.store.now).records)) in
    ends-taken tells manner sys c.args.job.items c.take.new.tally a last.faults last.records last.given (view c.args.out.now) (view c.take.new.out) (view c.end.new.out) c.end.result
    taken.0 taken.1 c.take.ensures.none (stays_seen view manner.is_seen c.args.out.now c.take.new.out c.take.ensures.stays) c.end.ensures

pub returns-clause-nothing_told : goal.returns-clause-nothing_told
returns-clause-nothing_told g c engine e off =
    stays_last c.args.manner.is_seen (last_line (last_in c.args.manner.last) c.take.new.tally) c.take.new.tally.faults c.end.result (g.O.Sink.view c.take.new.out) (g.O.Sink.view c.end.new.out) c.args.out.now c.end.new.out engine
    (c.take.ensures.none off) c.end.ensures e

pub take-requires-clause-stored : goal.take-requires-clause-stored
take-requires-clause-stored g c = c.in_ok-engine.ensures.stored (g.K.Store.view c.args.store.now).records c.requires.store

pub take-requires-clause-alone : goal.take-requires-clause-alone
take-requires-clause-alone g c = ap (λ (keep : KeepState). keep.shared) c.in_ok-engine.ensures.writes

use Rattle.std.proofs.Common.{false}
use Rattle.fw_progress.proofs.AmongLaws.{none-trace}
use Rattle.fw_progress.proofs.traces.Traces.new.Goals as goal

pub returns-clause-none : goal.returns-clause-none
returns-clause-none c = λ whole sys p base.
    none-trace whole sys p base
    (record { delivered = c.in_ok-no_stamps.field-0; notified = c.in_ok-no_stamps-2.field-0; sent = c.in_ok-no_stamps-3.field-0; counted = c.in_ok-no_tallies.field-0; refused = false })
    c.in_ok-no_stamps.ensures.none c.in_ok-no_stamps-2.ensures.none c.in_ok-no_stamps-3.ensures.none c.in_ok-no_tallies.ensures.none

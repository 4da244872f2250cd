use Rattle.fw_running.proofs.FirstLaws.{first-stands, first-shaped}
use Rattle.fw_engine.proofs.engine.Engine.new.Goals as goal

pub invariant_of-result : goal.invariant_of-result
invariant_of-result c =
    record { shaped = ∣ (λ live. first-shaped c.args.flow c.args.batches.now c.in_ok-running.running c.requires c.in_ok-running.ensures.first) ∣₁ }

pub returns-clause-stands : goal.returns-clause-stands
returns-clause-stands c = λ records.
    first-stands c.args.flow c.args.batches.now records c.in_ok-running.running c.requires c.in_ok-running.ensures.first

pub returns-clause-flow : goal.returns-clause-flow
returns-clause-flow c = c.in_ok-running.ensures.first.runs

pub returns-clause-stored : goal.returns-clause-stored
returns-clause-stored c = c.in_ok-running.ensures.stored

pub returns-clause-writes : goal.returns-clause-writes
returns-clause-writes c = c.in_ok-running.ensures.first.parts.keep

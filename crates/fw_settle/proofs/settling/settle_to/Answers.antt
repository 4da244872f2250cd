use Rattle.std.proofs.Common.{ap, subst, ◌∙◌}
use Rattle.fw_progress.specs.Progress.{Standing}
use Rattle.fw_running.specs.declared.running.Running.{Running}
use Rattle.fw_running.specs.Places.{IsTakenOut}
use Rattle.fw_running.specs.ReadyState.{ReadyState}
use Rattle.fw_settle.proofs.ShapeLaws.{shaped-settling, settles-to}
use Rattle.fw_settle.proofs.settling.settle_to.Goals as goal

pub returns-clause-shaped : goal.returns-clause-shaped
returns-clause-shaped c =
    let old = c.args.running.now in
    let first = c.settle_at_progress.new.running in
    let second = c.settle_traces.new.running in
    let progress = c.settle_at.new.self in
    let live = ap (λ (x : Standing). x.refused) c.settle_at.ensures.settled ∙ c.in_ok-settle_traces.ensures.shaped.live in
    shaped-settling old second progress c.put_output.new.self c.take_growing.new.self c.args.node c.args.front c.in_ok-settle_traces.ensures.shaped
    (ap (λ (r : Running). r.progress) c.settle_traces.ensures.others ∙ ap (λ (r : Running). r.progress) c.settle_at_progress.ensures.others)
    (ap (λ (r : Running). r.flow) c.settle_traces.ensures.others ∙ ap (λ (r : Running). r.flow) c.settle_at_progress.ensures.others)
    c.requires.grown c.requires.there c.settle_at.ensures.settled (c.settle_at.ensures.progress live) c.put_output.ensures.others c.in_ok-put_output.ensures.put
    c.take_growing.ensures.others c.take_growing.ensures.taken

pub returns-clause-settled : goal.returns-clause-settled
returns-clause-settled c =
    settles-to c.args.running.now c.settle_at_progress.new.running c.settle_traces.new.running c.settle_at.new.self c.take_growing.new.self c.args.node c.args.front
    c.settle_at_progress.ensures.others c.in_ok-settle_at_progress.ensures.settled c.settle_traces.ensures.others c.in_ok-settle_traces.ensures.settled c.settle_at.ensures.settled

pub returns-clause-taken : goal.returns-clause-taken
returns-clause-taken c =
    subst (λ places. IsTakenOut c.args.node places c.take_growing.new.self.growing)
    (ap (λ (r : ReadyState). r.growing) c.put_output.ensures.others ∙ ap (λ (r : Running). r.ready.growing) c.settle_traces.ensures.others ∙ ap (λ (r : Running). r.ready.growing) c.settle_at_progress.ensures.others)
    c.take_growing.ensures.taken

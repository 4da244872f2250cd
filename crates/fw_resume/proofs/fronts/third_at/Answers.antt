use Rattle.std.proofs.Common.{subst, sym, ◌∙◌}
use Rattle.fw_time.specs.declared.stamp.Bounds.{Bounds}
use Rattle.fw_frontier.specs.Front.{IsFrontOf}
use Rattle.fw_frontier.specs.Frontier.{nothing}
use Rattle.fw_flow.specs.Dataflow.{bounds_of, policy_of}
use Rattle.fw_progress.proofs.StartLaws.{no_stamps_named}
use Rattle.fw_resume.proofs.FrontLaws.{third_full, third_none}
use Rattle.fw_resume.proofs.fronts.third_at.Goals as goal

pub returns-in-Full : goal.returns-in-Full
returns-in-Full c =
    third_full c.args.running.now c.args.node c.entries.result.now c.lost_by-lost.result.now c.settled_at-settled.result.now c.below_unlogged.result
    c.entries.ensures.all c.lost_by-lost.ensures c.settled_at-settled.ensures (sym c.policy.ensures ∙ c.in-Full.is) c.requires.shaped.progress.settled c.below_unlogged.ensures

pub returns : goal.returns
returns c =
    let running = c.args.running.now in
    let b = bounds_of running.flow c.args.node in
    third_none running c.args.node (policy_of running.flow c.args.node) c.in_ok-front.front (λ k. c.in_default.not-Full (c.policy.ensures ∙ k))
    (no_stamps_named b c.in_ok-front.front (subst (λ (x : Bounds). IsFrontOf x c.in_ok-front.front nothing) c.domain.ensures c.in_ok-front.ensures))

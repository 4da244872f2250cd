use Rattle.std.proofs.Common.{◌∙◌, ℕ, [], length, ap, subst, arith, Option}
use Rattle.std.specs.Prelude.{unwrap_or}
use Rattle.fw_frontier.specs.Front.{Front}
use Rattle.fw_model.specs.Machine.{front_of}
use Rattle.fw_border.specs.Sources.{unused_source, with_source}
use Rattle.fw_resume.specs.Borders.{number_or_none, started}
use Rattle.fw_resume.proofs.BorderLaws.{AreChangedUpTo, changed_none, changed_more, low_at, started_all, starting}
use Rattle.fw_resume.proofs.borders.start_sources.Goals as goal

pub loop-place-init : goal.loop-place-init
loop-place-init c = changed_none (unused_source []) (starting c.args.inputs.now c.args.injected.now c.args.low.now) c.args.sources.now

pub loop-place-preserved : goal.loop-place-preserved
loop-place-preserved c =
    let inputs = c.args.inputs.now in
    let injected = c.args.injected.now in
    let low = c.args.low.now in
    let mid = c.loop-place.sources in
    changed_more (unused_source []) (starting inputs injected low) c.loop-place.place c.args.sources.now mid c.start.new.sources
    (omega (arith, c.loop-place-test.true, c.nodes-place-end.ensures.count, c.requires.one_each)) c.loop-place.invariant
    (c.start.ensures
    ∙ ap (λ b. with_source (started b c.index-low-place.result) mid c.at-node.result) (c.unwrap_or-count.ensures ∙ ap (λ (o : Option ℕ). unwrap_or o 0) c.number_of.ensures)
    ∙ ap (λ (f : Front). with_source (started (number_or_none inputs injected c.at-node.result) f) mid c.at-node.result) (low_at low c.loop-place.place c.index-low-place.result (omega (arith, c.loop-place-test.true, c.nodes-place-end.ensures.count, c.requires.low)) c.index-low-place.is)
    ∙ ap (λ n. with_source (started (number_or_none inputs injected n) (front_of low c.loop-place.place)) mid n) c.at-node.ensures)

pub returns : goal.returns
returns c =
    let inputs = c.args.inputs.now in
    let injected = c.args.injected.now in
    started_all inputs injected c.args.low.now (length c.args.flow.now.nodes) c.args.sources.now c.loop-place.sources
    (subst (λ k. AreChangedUpTo (unused_source []) (starting inputs injected c.args.low.now) k c.args.sources.now c.loop-place.sources)
    (omega (arith, c.loop-place-test.false, c.loop-place.auto.place-end, c.nodes-place-end.ensures.count)) c.loop-place.invariant)

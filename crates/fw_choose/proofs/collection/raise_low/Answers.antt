use Rattle.std.proofs.Common.{◌≢◌, ◌∙◌}
use Rattle.fw_collect.specs.Drops.{watermark}
use Rattle.fw_choose.proofs.CollectLaws.{chosen-canonical, chosen-each, collected-shaped, collect-idle, raise-follows, are-same, not-same}
use Rattle.fw_choose.proofs.collection.raise_low.Goals as goal

pub returns-then-are_same-clause-takes : goal.returns-then-are_same-clause-takes
returns-then-are_same-clause-takes c = λ records.
    let old = c.args.running.now in
    let choice = c.in_ok-choice.choice in
    collect-idle old records choice c.in_ok-choice.ensures.of_state
    (are-same c.are_same.result c.deref.result.now c.as_slice.result.now (watermark choice) old.parts.low c.are_same.ensures c.if-are_same.true
    (c.deref.ensures.value ∙ c.in_ok-low.ensures) c.as_slice.ensures)

pub returns-clause-shaped : goal.returns-clause-shaped
returns-clause-shaped c =
    let old = c.args.running.now in
    let choice = c.in_ok-choice.choice in
    collected-shaped choice old c.give_up.new.running c.in_ok-give_up.ensures.collected
    (chosen-each old.flow choice c.in_ok-choice.ensures.of_flow) (chosen-canonical old.flow choice c.in_ok-choice.ensures.of_flow) c.requires.shaped

pub returns-clause-takes : goal.returns-clause-takes
returns-clause-takes c =
    let old = c.args.running.now in
    let choice = c.in_ok-choice.choice in
    let differ : watermark choice ≢ old.parts.low = not-same c.are_same.result c.deref.result.now c.as_slice.result.now (watermark choice) old.parts.low c.are_same.ensures
    c.if-are_same.false (c.deref.ensures.value ∙ c.in_ok-low.ensures) c.as_slice.ensures in
    raise-follows old c.give_up.new.running choice c.in_ok-choice.ensures.of_state differ c.in_ok-give_up.ensures.collected

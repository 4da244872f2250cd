use Rattle.std.proofs.Common.{◌<◌, ◌≤◌, length, ap, arith}
use Rattle.std.proofs.lemmas.List.{take_all}
use Rattle.fw_flow.specs.declared.choice.Choice.{Choice}
use Rattle.fw_model.specs.Certificates.{IsBeginning}
use Rattle.fw_model.specs.Lowerings.{choice_of}
use Rattle.fw_model.specs.Offers.{IsOffered}
use Rattle.fw_certify.specs.Checked.{tests_of}
use Rattle.fw_certify.proofs.FollowLaws.{all-so_far, beginning-of_flow, more-so_far, none-so_far, wrong-here}
use Rattle.fw_certify.proofs.JudgeLaws.{next-of_flow}
use Rattle.fw_certify.proofs.CodeLaws.{at_place, found-one, tests-more, tests-so_far}
use Rattle.fw_certify.proofs.checker.follow.Goals as goal

pub loop-at-init : goal.loop-at-init
loop-at-init g c =
    let flow = c.args.flow.now in
    let offers = c.args.offers.now in
    let begun = found-one c.in_ok-values.field-0 c.in-Some.values ((start : Choice) → IsBeginning flow (IsOffered flow offers) start → ⊥)
    (λ values. IsBeginning flow (IsOffered flow offers) (choice_of values.cuts.items values.notices.items)) c.in-Some.is c.in_ok-values.ensures in
    record {
      right = none-so_far flow offers c.args.entries.now (choice_of c.in-Some.values.cuts.items c.in-Some.values.notices.items) begun;
      of_flow = beginning-of_flow flow offers (choice_of c.in-Some.values.cuts.items c.in-Some.values.notices.items) begun;
      spent = omega arith;
    }

pub returns-then-not-branch-clause-followed : goal.returns-then-not-branch-clause-followed
returns-then-not-branch-clause-followed g c =
    let flow = c.args.flow.now in
    let offers = c.args.offers.now in
    let there : c.loop-at.at < length c.args.entries.now = omega arith in
    wrong-here flow offers c.args.entries.now c.loop-at.at c.index-entries-at.result (choice_of c.loop-at.values.cuts.items c.loop-at.values.notices.items) (choice_of c.take.new.values.cuts.items c.take.new.values.notices.items) c.in_ok-take.field-0
    (at_place c.args.entries.now c.loop-at.at c.index-entries-at.result there c.index-entries-at.is) there c.if-not-branch.true c.loop-at.invariant.right c.in_ok-take.ensures.judged

pub returns-then-not-branch-clause-bound : goal.returns-then-not-branch-clause-bound
returns-then-not-branch-clause-bound g c =
    let flow = c.args.flow.now in
    let offers = c.args.offers.now in
    let there : c.loop-at.at < length c.args.entries.now = omega arith in
    let more = tests-so_far offers c.args.entries.now c.loop-at.at c.index-entries-at.result there c.index-entries-at.is in
    let before = c.loop-at.invariant.spent in
    let now = c.in_ok-take.ensures.bound in
    omega arith

pub loop-at-preserved : goal.loop-at-preserved
loop-at-preserved g c =
    let flow = c.args.flow.now in
    let offers = c.args.offers.now in
    let there : c.loop-at.at < length c.args.entries.now = omega arith in
    let old = choice_of c.loop-at.values.cuts.items c.loop-at.values.notices.items in
    let new = choice_of c.take.new.values.cuts.items c.take.new.values.notices.items in
    let low = c.in_ok-take.ensures.judged.taken c.if-not-branch.false in
    let more = tests-more offers c.args.entries.now c.loop-at.at c.index-entries-at.result there c.index-entries-at.is in
    let before = c.loop-at.invariant.spent in
    let now = c.in_ok-take.ensures.bound in
    record {
      right = more-so_far flow offers c.args.entries.now c.loop-at.at c.index-entries-at.result old new there c.index-entries-at.is c.loop-at.invariant.right low;
      of_flow = next-of_flow flow offers old new c.index-entries-at.result c.flow_is_well_formed.ensures c.loop-at.invariant.of_flow low;
      spent = omega arith;
    }

pub returns-clause-followed : goal.returns-clause-followed
returns-clause-followed g c =
    let flow = c.args.flow.now in
    let offers = c.args.offers.now in
    let past : length c.args.entries.now ≤ c.loop-at.at = omega arith in
    (all-so_far flow offers c.args.entries.now c.loop-at.at (choice_of c.loop-at.values.cuts.items c.loop-at.values.notices.items) past c.loop-at.invariant.right, c.loop-at.invariant.of_flow)

pub returns-clause-bound : goal.returns-clause-bound
returns-clause-bound g c =
    let flow = c.args.flow.now in
    let offers = c.args.offers.now in
    let past : length c.args.entries.now ≤ c.loop-at.at = omega arith in
    let all = ap (tests_of offers) (take_all c.loop-at.at c.args.entries.now past) in
    let before = c.loop-at.invariant.spent in
    omega arith

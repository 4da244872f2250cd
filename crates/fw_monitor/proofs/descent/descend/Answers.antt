use Rattle.std.proofs.Common.{ℕ, ◌<◌, ◌≤◌, [], length, sym, ap, subst, arith}
use Rattle.fw_frontier.specs.Front.{IsFrontOf}
use Rattle.fw_flow.specs.Dataflow.{bounds_of}
use Rattle.fw_model.specs.Machine.{front_of}
use Rattle.fw_model.specs.Choice.{cut_of, IsLargestBy, IsChoiceOf}
use Rattle.fw_model.specs.Covers.{set_of}
use Rattle.fw_model.specs.Offers.{IsOffered, covers_of}
use Rattle.fw_model.specs.Lowerings.{choice_of}
use Rattle.fw_monitor.specs.Descent.{HasConsistent}
use Rattle.fw_model.specs.Inclusions.{inclusions}
use Rattle.fw_monitor.specs.Trail.{IsTrail}
use Rattle.fw_monitor.proofs.DescentLaws.{largest_of, of_flow}
use Rattle.fw_monitor.proofs.TestLaws.{IsAt, begun, next_at, there_at, node_back, again_at, further_at, again_falls, further_falls, each_holds, trail_ends, each_tested}
use Rattle.fw_monitor.proofs.descent.descend.Goals as goal

pub test-init : goal.test-init
test-init g c =
    let flow = c.args.flow.now in
    let offers = c.args.offers.now in
    let cuts = c.in_ok-cuts.cuts.items in
    let notices = c.in_ok-notices.notices.items in
    let waiting = c.in_ok-waiting.waiting.items in
    let steps = c.args.steps.now in
    let kept = subst (λ xs. (p : ℕ) → p < length flow.nodes → IsFrontOf (bounds_of flow p) (front_of notices p) (set_of flow p (cut_of (choice_of xs []) p))) c.deref.ensures.value c.in_ok-notices.ensures.kept in
    subst (λ ls. IsAt flow offers (choice_of cuts notices) ls waiting steps steps 0) (sym c.new.ensures.items)
    (begun flow offers cuts notices waiting steps c.in_ok-cuts.ensures.one_each c.in_ok-notices.ensures.one_each c.in_ok-cuts.ensures.greatest kept c.in_ok-waiting.ensures.one_each c.in_ok-waiting.ensures.all)

pub test-requires-clause-there : goal.test-requires-clause-there
test-requires-clause-there g c =
    let t = c.test-test.true in
    let l : c.test.place < length c.in_ok-inclusions.inclusions.all.items = omega arith in
    there_at c.args.flow.now c.in_ok-inclusions.inclusions.all.items c.test.place c.index-inclusion.result.now c.in_ok-inclusions.ensures.all l c.index-inclusion.ensures

pub test-requires-clause-next : goal.test-requires-clause-next
test-requires-clause-next g c =
    let t = c.test-test.true in
    let l : c.test.place < length c.in_ok-inclusions.inclusions.all.items = omega arith in
    next_at c.args.flow.now c.test.going.waiting.items c.in_ok-inclusions.inclusions.all.items c.test.place c.index-inclusion.result.now c.in_ok-inclusions.ensures.all l c.index-inclusion.ensures c.test.invariant.done

pub test-smaller-in-None : goal.test-smaller-in-None
test-smaller-in-None g c =
    let t = c.test-test.true in
    let l : c.test.place < length c.in_ok-inclusions.inclusions.all.items = omega arith in
    further_falls c.args.flow.now c.args.offers.now c.in_ok-inclusions.inclusions.all.items c.index-inclusion.result.now (choice_of c.test.going.cuts.items c.test.going.notices.items) (choice_of c.test-in-test.new.going.cuts.items c.test-in-test.new.going.notices.items)
    c.test.going.trail.items c.test-in-test.new.going.trail.items c.test.going.waiting.items c.test-in-test.new.going.waiting.items c.test.steps c.test-in-test.new.steps c.test.place c.in_ok-test.field-0
    c.in-None.is c.in_ok-inclusions.ensures.all l c.in_ok-test.ensures

pub test-preserved-in-None : goal.test-preserved-in-None
test-preserved-in-None g c =
    let t = c.test-test.true in
    let l : c.test.place < length c.in_ok-inclusions.inclusions.all.items = omega arith in
    further_at c.args.flow.now c.args.offers.now c.in_ok-inclusions.inclusions.all.items c.index-inclusion.result.now (choice_of c.test.going.cuts.items c.test.going.notices.items) (choice_of c.test-in-test.new.going.cuts.items c.test-in-test.new.going.notices.items)
    c.test.going.trail.items c.test-in-test.new.going.trail.items c.test.going.waiting.items c.test-in-test.new.going.waiting.items c.args.steps.now c.test.steps c.test-in-test.new.steps c.test.place c.in_ok-test.field-0
    c.in-None.is c.in_ok-inclusions.ensures.all l c.index-inclusion.ensures c.in_ok-test.ensures c.test.invariant

pub index-place-requires : goal.index-place-requires
index-place-requires g c =
    let one = c.in_ok-inclusions.ensures.begins.one_each in
    let at = node_back c.args.flow.now c.args.offers.now c.in_ok-inclusions.inclusions.all.items c.index-inclusion.result.now (choice_of c.test.going.cuts.items c.test.going.notices.items) (choice_of c.test-in-test.new.going.cuts.items c.test-in-test.new.going.notices.items)
    c.test.going.trail.items c.test-in-test.new.going.trail.items c.test.going.waiting.items c.test-in-test.new.going.waiting.items c.test.steps c.test-in-test.new.steps c.test.place c.in-Some.node c.in_ok-test.field-0
    c.in-Some.is c.flow_is_well_formed.ensures c.in_ok-inclusions.ensures.all (let t = c.test-test.true in omega arith) c.index-inclusion.ensures c.in_ok-test.ensures in
    omega (arith, at, one, c.place.ensures)

pub test-smaller : goal.test-smaller
test-smaller g c =
    again_falls c.args.flow.now c.args.offers.now c.index-inclusion.result.now (choice_of c.test.going.cuts.items c.test.going.notices.items) (choice_of c.test-in-test.new.going.cuts.items c.test-in-test.new.going.notices.items)
    c.test.going.trail.items c.test-in-test.new.going.trail.items c.test.going.waiting.items c.test-in-test.new.going.waiting.items c.test.steps c.test-in-test.new.steps c.test.place c.in-Some.node c.index-place.result.now c.in_ok-test.field-0
    c.in-Some.is c.in_ok-test.ensures

pub test-preserved : goal.test-preserved
test-preserved g c =
    let t = c.test-test.true in
    let l : c.test.place < length c.in_ok-inclusions.inclusions.all.items = omega arith in
    again_at c.args.flow.now c.args.offers.now c.in_ok-inclusions.inclusions.all.items c.in_ok-inclusions.inclusions.begins.items c.index-inclusion.result.now (choice_of c.test.going.cuts.items c.test.going.notices.items) (choice_of c.test-in-test.new.going.cuts.items c.test-in-test.new.going.notices.items)
    c.test.going.trail.items c.test-in-test.new.going.trail.items c.test.going.waiting.items c.test-in-test.new.going.waiting.items c.args.steps.now c.test.steps c.test-in-test.new.steps c.test.place c.in-Some.node c.place.result c.index-place.result.now c.in_ok-test.field-0
    c.in-Some.is c.flow_is_well_formed.ensures c.in_ok-inclusions.ensures.all c.in_ok-inclusions.ensures.begins l c.index-inclusion.ensures c.place.ensures c.index-place.ensures c.in_ok-test.ensures c.test.invariant

pub returns-clause-largest : goal.returns-clause-largest
returns-clause-largest g c = λ some a k.
    let flow = c.args.flow.now in
    let offers = c.args.offers.now in
    let cuts = c.test.going.cuts.items in
    let notices = c.test.going.notices.items in
    let same = ap length c.in_ok-inclusions.ensures.all in
    let past : length (inclusions flow) ≤ c.test.place = let f = c.test-test.false in omega arith in
    let has : HasConsistent flow offers = (a, (some, k)) in
    let whole = largest_of flow offers (choice_of cuts notices) c.test.invariant.going.encloses has
    (each_holds flow offers (choice_of cuts notices) c.test.going.trail.items c.test.going.waiting.items c.args.steps.now c.test.steps c.test.place c.flow_is_well_formed.ensures c.test.invariant past has) in
    subst (λ xs. IsLargestBy flow (covers_of flow offers) (IsOffered flow offers) (choice_of xs c.of-2.result)) (sym c.of.ensures)
    (subst (λ ys. IsLargestBy flow (covers_of flow offers) (IsOffered flow offers) (choice_of cuts ys)) (sym c.of-2.ensures) whole)

pub returns-clause-trail : goal.returns-clause-trail
returns-clause-trail g c = λ has.
    let flow = c.args.flow.now in
    let offers = c.args.offers.now in
    let cuts = c.test.going.cuts.items in
    let notices = c.test.going.notices.items in
    let same = ap length c.in_ok-inclusions.ensures.all in
    let past : length (inclusions flow) ≤ c.test.place = let f = c.test-test.false in omega arith in
    let whole = trail_ends flow offers (choice_of cuts notices) c.test.going.trail.items c.test.going.waiting.items c.args.steps.now c.test.steps c.test.place c.flow_is_well_formed.ensures c.test.invariant past has in
    subst (λ ls. IsTrail flow offers ls (choice_of c.of.result c.of-2.result)) (sym c.of-3.ensures)
    (subst (λ xs. IsTrail flow offers c.test.going.trail.items (choice_of xs c.of-2.result)) (sym c.of.ensures)
    (subst (λ ys. IsTrail flow offers c.test.going.trail.items (choice_of cuts ys)) (sym c.of-2.ensures) whole))

pub returns-clause-of_flow : goal.returns-clause-of_flow
returns-clause-of_flow g c =
    let flow = c.args.flow.now in
    let cuts = c.test.going.cuts.items in
    let notices = c.test.going.notices.items in
    subst (λ xs. IsChoiceOf flow (choice_of xs c.of-2.result)) (sym c.of.ensures)
    (subst (λ ys. IsChoiceOf flow (choice_of cuts ys)) (sym c.of-2.ensures) (of_flow flow c.args.offers.now (choice_of cuts notices) c.test.invariant.going.encloses))

pub returns-clause-each_tested : goal.returns-clause-each_tested
returns-clause-each_tested g c =
    let same = ap length c.in_ok-inclusions.ensures.all in
    let past : length (inclusions c.args.flow.now) ≤ c.test.place = let f = c.test-test.false in omega arith in
    let tested = each_tested c.args.flow.now c.args.offers.now (choice_of c.test.going.cuts.items c.test.going.notices.items) c.test.going.trail.items c.test.going.waiting.items
    c.args.steps.now c.test.steps c.test.place c.flow_is_well_formed.ensures c.test.invariant past in
    omega arith

use Rattle.std.proofs.Common.{◌≤◌, true, false, None, set, sym, subst, ◌∙◌, arith}
use Rattle.std.specs.List.{AllByRecursion}
use Rattle.fw_model.specs.Lowerings.{choice_of}
use Rattle.fw_model.specs.Inclusions.{IsInclusionOf, node_of}
use Rattle.fw_monitor.specs.Worklist.{number, AreMadeToWait}
use Rattle.fw_monitor.specs.Tests.{IsTested, IsOneTest}
use Rattle.fw_monitor.proofs.WorklistLaws.{after-there}
use Rattle.fw_model.proofs.InclusionLaws.{node-there}
use Rattle.fw_monitor.proofs.TestLaws.{flag_read, taken_held, taken_lowered}
use Rattle.fw_monitor.proofs.descent.test.Goals as goal

pub put_all-requires-clause-there : goal.put_all-requires-clause-there
put_all-requires-clause-there g c =
    let flow = c.args.flow.now in
    let i = c.args.inclusion.now in
    subst (AllByRecursion (IsInclusionOf flow)) (sym (c.deref.ensures.value ∙ c.in_ok-broken-in-Some.ensures))
    (after-there flow i (node-there flow i c.flow_is_well_formed.ensures c.requires.there))

pub returns-in-None : goal.returns-in-None
returns-in-None g c =
    let flow = c.args.flow.now in
    let offers = c.args.offers.now in
    let i = c.args.inclusion.now in
    let waiting = c.args.going.now.waiting.items in
    let old = choice_of c.args.going.now.cuts.items c.args.going.now.notices.items in
    let new = choice_of c.lower.new.cuts.items c.lower.new.notices.items in
    let trail = c.args.going.now.trail.items in
    let steps = c.args.steps.now in
    let next = c.tick.ensures in
    let w = flag_read flow waiting i c.number-number.result c.index.result.now true c.number-number.ensures c.requires.there c.requires.one_each c.index.ensures (c.if-not-index.false) in
    subst (λ n. IsOneTest flow offers i old new trail trail waiting (set waiting n false) steps c.tick.new.self None) (sym c.number-number.ensures)
    (taken_held flow offers i old new trail waiting steps c.tick.new.self c.requires.there c.requires.one_each w (omega arith) (subst (IsTested flow offers i old new) c.in-None.is c.in_ok-value.ensures))

pub returns-in_ok-push-in-Some : goal.returns-in_ok-push-in-Some
returns-in_ok-push-in-Some g c =
    let flow = c.args.flow.now in
    let offers = c.args.offers.now in
    let i = c.args.inclusion.now in
    let waiting = c.args.going.now.waiting.items in
    let left = c.put_all.new.waiting.items in
    let old = choice_of c.args.going.now.cuts.items c.args.going.now.notices.items in
    let new = choice_of c.lower.new.cuts.items c.lower.new.notices.items in
    let trail = c.args.going.now.trail.items in
    let steps = c.args.steps.now in
    let next = c.tick.ensures in
    let w = flag_read flow waiting i c.number-number.result c.index.result.now true c.number-number.ensures c.requires.there c.requires.one_each c.index.ensures (c.if-not-index.false) in
    let put = subst (λ xs. AreMadeToWait flow xs (set waiting (number flow i) false) left) (c.deref.ensures.value ∙ c.in_ok-broken-in-Some.ensures)
    (subst (λ n. AreMadeToWait flow c.deref.result.now (set waiting n false) left) c.number-number.ensures c.put_all.ensures) in
    let p = c.first_node.result in
    let own = subst (λ n. p ≤ n) c.node_of.ensures c.first_node.ensures.node in
    let each = subst (λ js. AllByRecursion (λ j. p ≤ node_of flow j) js) (c.deref-in-Some.ensures.value ∙ c.in_ok-broken-in-Some.ensures) c.first_node.ensures.each in
    taken_lowered flow offers i old new c.in-Some.to c.lowering_of.result trail c.push.new.self.items waiting left steps c.tick.new.self p c.flow_is_well_formed.ensures
    c.requires.there c.requires.next w (omega arith) (subst (IsTested flow offers i old new) c.in-Some.is c.in_ok-value.ensures) c.lowering_of.ensures c.in_ok-push-in-Some.ensures.items put own each

use Rattle.std.proofs.Common.{Option, subst, arith}
use Rattle.std.specs.Prelude.{IfSome, IfNone}
use Rattle.std.proofs.lemmas.Result.{IfOk-weaker}
use Rattle.fw_frontier.specs.Front.{Front, IsFrontOf}
use Rattle.fw_flow.specs.Dataflow.{bounds_of}
use Rattle.fw_model.specs.Machine.{family_of}
use Rattle.fw_progress.specs.Counts.{target_by}
use Rattle.fw_progress.specs.Growths.{IsMore, IsNoMore}
use Rattle.fw_progress.proofs.GrowLaws.{widened_more, widened_same}
use Rattle.fw_progress.proofs.grow.widen.Goals as goal

pub returns : goal.returns
returns c =
    let flow = c.args.flow.now in
    let counts = c.args.counts.now in
    let p = c.args.node in
    let fronts = c.args.fronts.now.items in
    let read = c.deref.result.now in
    let f = c.in-Some.front in
    let most = subst (λ (found : Option Front). IfSome found (λ g. IsFrontOf (bounds_of flow p) g (target_by flow counts (family_of flow read) p))) c.in-Some.is c.in_ok-front.ensures.most in
    let more = subst (λ (found : Option Front). IfSome found (IsMore flow read p)) c.in-Some.is c.in_ok-front.ensures.more in
    IfOk-weaker c.grow.result _ _
    (λ u g. widened_more flow counts p fronts c.grow.new.fronts.items c.args.work.now c.grow.new.work c.args.growths.now.items c.grow.new.growths.items f
    c.flow_is_well_formed.ensures (omega (arith, c.requires.there, c.requires.one_each))
    (subst (λ xs. IsFrontOf (bounds_of flow p) f (target_by flow counts (family_of flow xs) p)) c.deref.ensures.value most)
    (subst (λ xs. IsMore flow xs p f) c.deref.ensures.value more) g)
    c.grow.ensures

pub returns-in_default : goal.returns-in_default
returns-in_default c =
    let flow = c.args.flow.now in
    let counts = c.args.counts.now in
    let p = c.args.node in
    let none = subst (λ (found : Option Front). IfNone found (IsNoMore flow counts c.deref.result.now p)) c.in_default.is c.in_ok-front.ensures.none in
    widened_same flow counts p c.args.fronts.now.items c.args.work.now c.args.growths.now.items c.requires.there (subst (λ xs. IsNoMore flow counts xs p) c.deref.ensures.value none)

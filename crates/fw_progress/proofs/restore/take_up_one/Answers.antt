use Rattle.std.proofs.Common.{◌≡◌, ◌<◌, [], ◌∷◌, length, sym, ◌∙◌, subst, arith}
use Rattle.fw_flow.specs.Dataflow.{receiver}
use Rattle.fw_progress.specs.StampData.{HaveAdded}
use Rattle.fw_progress.proofs.EventLaws.{changed_at}
use Rattle.fw_progress.proofs.RestoreLaws.{added-one, equal-places, taken-one}
use Rattle.fw_progress.proofs.StampsLaws.{edge-there}
use Rattle.fw_progress.proofs.restore.take_up_one.Goals as goal

pub index_mut-kept-requires : goal.index_mut-kept-requires
index_mut-kept-requires c =
    let m = c.args.message.now in
    let there = edge-there c.args.flow.now c.args.node m.edge c.requires.there (sym c.dst.ensures ∙ equal-places c.dst.result c.args.node c.ne.result c.ne.ensures c.if-ne.false) in
    omega (arith, there, c.place.ensures, c.requires.one_each)

pub returns : goal.returns
returns c =
    let m = c.args.message.now in
    let old = c.args.lists.now.items in
    let kept = c.index_mut-kept.result.now in
    let into : receiver c.args.flow.now m.edge ≡ c.args.node = sym c.dst.ensures ∙ equal-places c.dst.result c.args.node c.ne.result c.ne.ensures c.if-ne.false in
    let there = edge-there c.args.flow.now c.args.node m.edge c.requires.there into in
    let at : c.place.result < length old = omega (arith, there, c.place.ensures, c.requires.one_each) in
    taken-one c.args.flow.now c.args.node m old _ into
    (changed_at [] (HaveAdded (m.at ∷ [])) old m.edge c.place.result c.add.new.self kept c.place.ensures at c.index_mut-kept.ensures.value
    (subst (HaveAdded (m.at ∷ []) kept) (sym c.in_ok-add.ensures.value) (added-one m.at kept)))

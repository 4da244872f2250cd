use Rattle.std.proofs.Common.{◌<◌, ◌++◌, ◌∙◌, List, length, map, ap, sym, subst}
use Rattle.std.specs.List.{AllByRecursion}
use Rattle.fw_time.specs.Stamp.{Stamp}
use Rattle.fw_flow.specs.declared.choice.OfEdge.{OfEdge}
use Rattle.fw_flow.specs.Kind.{Kind}
use Rattle.fw_resume.specs.Stamps.{AreGreatestOn, HasLengthFor, sent_at}
use Rattle.fw_resume.proofs.StampLaws.{more_told, tops-length, tops-short}
use Rattle.fw_resume.proofs.stamps.add_sent.Goals as goal

pub add_told-requires-clause-some : goal.add_told-requires-clause-some
add_told-requires-clause-some c =
    subst (AllByRecursion (λ t. 0 < length t)) (sym c.deref.ensures.value)
    (tops-short c.args.flow.now c.args.edge c.as_slice.result.now c.in_ok-tops.tops.items c.in_ok-tops.ensures)

pub add_told-requires-clause-length : goal.add_told-requires-clause-length
add_told-requires-clause-length c =
    subst (AllByRecursion (HasLengthFor c.kind.result)) (sym c.deref.ensures.value)
    (subst (λ (k : Kind). AllByRecursion (HasLengthFor k) c.in_ok-tops.tops.items) (sym c.kind.ensures)
    (tops-length c.args.flow.now c.args.node c.args.edge c.as_slice.result.now c.in_ok-tops.tops.items c.flow_is_well_formed.ensures c.requires c.in_ok-tops.ensures))

pub returns : goal.returns
returns c =
    let flow = c.args.flow.now in
    let tops = c.in_ok-tops.tops.items in
    more_told flow c.args.node c.args.edge c.args.recorded.now tops c.args.messages.now.items c.add_told.new.messages.items
    (subst (λ (xs : List OfEdge). AreGreatestOn flow c.args.edge xs tops) c.as_slice.ensures c.in_ok-tops.ensures)
    (c.in_ok-add_told.ensures ∙ ap (λ (ts : List Stamp). c.args.messages.now.items ++ map (sent_at c.kind.result c.args.edge) ts) c.deref.ensures.value
    ∙ ap (λ (k : Kind). c.args.messages.now.items ++ map (sent_at k c.args.edge) tops) c.kind.ensures)

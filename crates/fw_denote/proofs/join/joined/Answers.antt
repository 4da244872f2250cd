use Rattle.std.proofs.Common.{◌++◌, ◌+◌, ◌==◌, List, drop, ap, ◌∙◌}
use Rattle.std.specs.Prelude.{filter}
use Rattle.std.specs.List.{flat_map}
use Rattle.fw_flow.specs.WholeBags.{Timed, timed_recs, timed_where, joined_timed}
use Rattle.fw_time.specs.Stamp.{same}
use Rattle.fw_bag.specs.declared.rec.Rec.{Rec}
use Rattle.fw_bag.specs.Keyed.{joined_rec}
use Rattle.fw_denote.specs.declared.keyed.Slot.{Slot}
use Rattle.fw_denote.specs.Pairs.{pair_recs}
use Rattle.fw_denote.proofs.AloneLaws.{gathered_more}
use Rattle.fw_denote.proofs.JoinLaws.{pairs_more}
use Rattle.fw_denote.proofs.join.joined.Goals as goal

pub loop-left-preserved : goal.loop-left-preserved
loop-left-preserved c =
    let rights : List Timed = c.args.rights.now in
    let left : Timed = c.left-item.result in
    let i = c.loop-left.left-index in
    let g : Timed → List Timed = λ r. timed_recs r.at (joined_rec r.rec (timed_where (same r.at) rights)) in
    let found = c.those_at-others.ensures ∙ ap (λ (s : Slot). filter (λ (r : Rec). s.key == r.key) (timed_where (same s.at) rights)) c.of.ensures in
    ap (λ (zs : List Timed). zs ++ flat_map g (drop (i + 1) c.args.lefts.now)) c.in_ok-put_pairs.ensures
    ∙ gathered_more g c.args.lefts.now i left (pair_recs left c.those_at-others.result.now) c.loop-left.sent.items (joined_timed c.args.lefts.now rights) c.loop-left-test.true
    (pairs_more left c.those_at-others.result.now rights found ∙ ap g c.left-item.is)
    c.loop-left.invariant

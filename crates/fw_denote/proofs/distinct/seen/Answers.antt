use Rattle.std.proofs.Common.{◌≡◌, true, cond, List, reverse, take, subst, sym, ap, ◌∙◌}
use Rattle.std.specs.Ordering.{is_eq}
use Rattle.std.proofs.lemmas.List.{take_all}
use Rattle.std.specs.BTreeSet.{contains}
use Rattle.fw_flow.specs.WholeBags.{Timed, timed_cmp, is_among_timed}
use Rattle.fw_denote.proofs.Counts.{past-here}
use Rattle.fw_denote.proofs.SeenLaws.{seen_all, seen_more}
use Rattle.fw_denote.proofs.distinct.seen.Goals as goal

pub loop-r-preserved : goal.loop-r-preserved
loop-r-preserved c = λ r.
    c.in_ok-insert.ensures.updates.0 r
    ∙ ap (λ (x : Timed). cond (is_eq (timed_cmp x r)) true (contains timed_cmp c.loop-r.seen r)) c.copy.ensures
    ∙ seen_more c.r-item.result r (reverse (take c.loop-r.r-index c.args.rs.now)) (contains timed_cmp c.loop-r.seen r) (c.loop-r.invariant r)
    ∙ sym (ap (is_among_timed r) (past-here c.args.rs.now c.loop-r.r-index c.r-item.result c.loop-r-test.true c.r-item.is))

pub returns : goal.returns
returns c =
    seen_all c.loop-r.seen c.args.rs.now
    (subst (λ (rs : List Timed). (r : Timed) → contains timed_cmp c.loop-r.seen r ≡ is_among_timed r (reverse rs)) (take_all c.loop-r.r-index c.args.rs.now c.loop-r-test.false) c.loop-r.invariant)

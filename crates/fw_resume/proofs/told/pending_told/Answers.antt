use Rattle.fw_resume.specs.Told.{IsPendingOf}
use Rattle.fw_lemmas.proofs.Each.{each-at}
use Rattle.std.proofs.Common.{[], sym, subst, arith}
use Rattle.fw_progress.specs.Progress.{ChangesAt}
use Rattle.fw_progress.specs.Tally.{HasManyMore}
use Rattle.fw_resume.proofs.ToldLaws.{pending-none, pending-more}
use Rattle.fw_resume.proofs.told.pending_told.Goals as goal

pub loop-of_edge-init : goal.loop-of_edge-init
loop-of_edge-init c = pending-none c.args.flow.now c.in_ok-tallies.tallies.items (grind arith) (c.in_ok-tallies.ensures.none)

pub loop-of_edge-preserved : goal.loop-of_edge-preserved
loop-of_edge-preserved c =
    let i = c.loop-of_edge.of_edge-index in
    let x = c.of_edge-item.result in
    pending-more c.args.flow.now c.args.pending.now i x c.loop-of_edge.tallies.items c.add_at.new.tallies.items c.loop-of_edge-test.true c.of_edge-item.is
    (subst (IsPendingOf c.args.flow.now) (sym c.of_edge-item.is) (each-at (IsPendingOf c.args.flow.now) c.args.pending.now i x c.loop-of_edge-test.true c.requires))
    c.loop-of_edge.invariant
    (subst (λ e. ChangesAt e [] (HasManyMore x.at x.count) c.loop-of_edge.tallies.items c.add_at.new.tallies.items) c.place-place.ensures c.in_ok-add_at.ensures)

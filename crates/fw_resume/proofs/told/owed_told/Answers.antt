use Rattle.fw_resume.specs.Told.{IsOwedOf}
use Rattle.fw_lemmas.proofs.Each.{each-at}
use Rattle.std.proofs.Common.{[], sym, subst, arith}
use Rattle.fw_progress.specs.Progress.{ChangesAt}
use Rattle.fw_progress.specs.Tally.{HasManyMore}
use Rattle.fw_resume.proofs.ToldLaws.{owed-none, owed-more}
use Rattle.fw_resume.proofs.told.owed_told.Goals as goal

pub loop-of_node-init : goal.loop-of_node-init
loop-of_node-init c = owed-none c.args.flow.now c.in_ok-tallies.tallies.items (grind arith) (c.in_ok-tallies.ensures.none)

pub loop-of_node-preserved : goal.loop-of_node-preserved
loop-of_node-preserved c =
    let i = c.loop-of_node.of_node-index in
    let x = c.of_node-item.result in
    owed-more c.args.flow.now c.args.owed.now i x c.loop-of_node.tallies.items c.add_at.new.tallies.items c.loop-of_node-test.true c.of_node-item.is
    (subst (IsOwedOf c.args.flow.now) (sym c.of_node-item.is) (each-at (IsOwedOf c.args.flow.now) c.args.owed.now i x c.loop-of_node-test.true c.requires))
    c.loop-of_node.invariant
    (subst (λ e. ChangesAt e [] (HasManyMore x.at 1) c.loop-of_node.tallies.items c.add_at.new.tallies.items) c.place-place.ensures c.in_ok-add_at.ensures)

use Rattle.std.proofs.Common.{◌≡◌, ◌++◌}
use Rattle.std.proofs.lemmas.Result.{IfOk-weaker}
use Rattle.fw_frontier.specs.Planes.{all_lubs, plane_lubs}
use Rattle.fw_frontier.proofs.PlaneSteps.{plane_bounds-from}
use Rattle.fw_frontier.proofs.planes.push_plane.Goals as goal

pub returns : goal.returns
returns c =
    let plane = c.args.plane.now in
    let mine = c.args.mine.now in
    let others = c.args.others.now in
    let old = c.args.found.now.items in
    let mid = c.push_all_bounds.new.found.items in
    let new = c.push_all_bounds-2.new.found.items in
    let ns = c.in_ok-points_of.field-0.items in
    let qs = c.in_ok-points_of-2.field-0.items in
    IfOk-weaker c.push_all_bounds-2.result (λ _. new ≡ mid ++ all_lubs plane ns qs others mine) (λ _. new ≡ old ++ plane_lubs plane mine others)
    (λ _ e. plane_bounds-from plane mine others old mid new ns qs c.in_ok-points_of.ensures.same c.in_ok-points_of-2.ensures.same (c.in_ok-push_all_bounds.ensures) e)
    c.push_all_bounds-2.ensures

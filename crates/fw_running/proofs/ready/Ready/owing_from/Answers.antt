use Rattle.std.proofs.Common.{ap, subst}
use Rattle.fw_running.specs.ReadyState.{ReadyState}
use Rattle.fw_running.specs.Places.{HasNoneBetween, place_limit}
use Rattle.fw_running.proofs.PlaceLaws.{first_from}
use Rattle.fw_running.proofs.ready.Ready.owing_from.Goals as goal

pub returns-in_err-place : goal.returns-in_err-place
returns-in_err-place c =
    rw c.from_residual.ensures (subst (HasNoneBetween c.args.place place_limit) (ap (λ (ready : ReadyState). ready.owing) c.self.view_is) c.in_err-place.ensures)

pub returns : goal.returns
returns c =
    first_from c.args.place c.at.result c.in_ok-place.place c.args.self.now.owing c.self.inside.owing c.at.ensures
    (ap (λ (ready : ReadyState). ready.owing) c.self.view_is) c.in_ok-place.ensures

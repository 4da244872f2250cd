use Rattle.std.proofs.Common.{ℕ, List, None, ap, subst}
use Rattle.fw_running.specs.ReadyState.{ReadyState}
use Rattle.fw_running.specs.Places.{IsFirstPlace}
use Rattle.fw_running.proofs.ready.Ready.first_output.Goals as goal

pub returns-in_err-place : goal.returns-in_err-place
returns-in_err-place c =
    rw c.from_residual.ensures (subst (λ (places : List ℕ). IsFirstPlace places None) (ap (λ (ready : ReadyState). ready.outputs) c.self.view_is) c.in_err-place.ensures)

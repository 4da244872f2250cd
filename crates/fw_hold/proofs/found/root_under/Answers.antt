use Rattle.std.proofs.lemmas.Result.{err_from_is_err_and}
use Rattle.fw_hold.proofs.FaultLaws.{damage_passed}
use Rattle.fw_hold.proofs.found.root_under.Goals as goal

pub returns-in_err-read_root-clause-damaged : goal.returns-in_err-read_root-clause-damaged
returns-in_err-read_root-clause-damaged g c =
    let p = err_from_is_err_and c.from_residual-in_err-read_root.result c.from_residual-in_err-read_root.ensures.1 in
    rw (p.1, p.2) (λ at e. c.in_err-read_root.ensures.damaged at (damage_passed _ _ _ at e))

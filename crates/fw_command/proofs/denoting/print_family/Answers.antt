use Rattle.std.proofs.lemmas.Result.{err_from_is_err_and}
use Rattle.fw_command.proofs.WritingLaws.{cut_nothing}
use Rattle.fw_command.proofs.denoting.print_family.Goals as goal

pub returns-in_err-text : goal.returns-in_err-text
returns-in_err-text g c =
    let p = err_from_is_err_and c.from_residual.result c.from_residual.ensures.1 in
    rw (p.1, p.2) (cut_nothing _ (g.O.Sink.view c.args.out.now))

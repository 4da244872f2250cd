use Rattle.std.proofs.Common.{rules}
use Rattle.std.proofs.lemmas.Result.{err_from_is_err_and}
use Rattle.fw_flow.specs.Dataflow.{system_of}
use Rattle.fw_denote.specs.Holding.{family_on}
use Rattle.fw_model.proofs.DenotationLaws.{denotation-in_order}
use Rattle.fw_command.proofs.DenotationTextLaws.{denotation_cut}
use Rattle.fw_command.proofs.denoting.print_denotation.Goals as goal

pub returns-in_err-family : goal.returns-in_err-family
returns-in_err-family g c =
    let p = err_from_is_err_and c.from_residual.result c.from_residual.ensures.1 in
    rw (p.1, p.2) (denotation_cut (system_of c.args.fed.now.flow c.args.fed.now.batches) (g.O.Sink.view c.args.out.now) c.requires)

pub print_family-requires : goal.print_family-requires
print_family-requires g c = denotation-in_order (system_of c.args.fed.now.flow c.args.fed.now.batches) (family_on c.in_ok-family.family) (search rules)

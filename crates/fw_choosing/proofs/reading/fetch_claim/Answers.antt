use Rattle.std.proofs.Common.{ap}
use Rattle.std.proofs.lemmas.Result.{err_from_is_err_and}
use Rattle.fw_choosing.specs.declared.status.ChoosingStatus.TheVariants.{CertificateRefused}
use Rattle.fw_choosing.proofs.ReadingLaws.{claim-not_fetched}
use Rattle.fw_choosing.proofs.reading.fetch_claim.Goals as goal

pub returns-in_err-text-clause-unread : goal.returns-in_err-text-clause-unread
returns-in_err-text-clause-unread g c =
    let p = err_from_is_err_and c.from_residual.result c.from_residual.ensures.1 in
    rw (p.1, p.2) (claim-not_fetched (g.F.Folder.texts c.args.folder.now) c.args.name.now c.args.flow.now _ _ (ap (λ r. CertificateRefused r) c.of_whole.ensures) c.in_err-text.ensures.unread)

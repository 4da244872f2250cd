use Rattle.fw_run.proofs.explain.reasons_for.Goals as goal

pub returns-in-Certificates : goal.returns-in-Certificates
returns-in-Certificates c = rw c.in-Certificates.is c.reasons.ensures

use Rattle.fw_certify.proofs.checker.verify.Given as goal

abbrev pub ghosts-verify_uncounted : goal.ghosts-verify_uncounted
ghosts-verify_uncounted a = record { name = a.blank.name; parts = a.blank.parts }

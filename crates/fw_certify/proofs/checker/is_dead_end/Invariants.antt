use Rattle.fw_certify.proofs.checker.is_dead_end.Given as goal

abbrev pub ghosts-is_dead_end_uncounted : goal.ghosts-is_dead_end_uncounted
ghosts-is_dead_end_uncounted a = record { name = a.blank.name; parts = a.blank.parts }

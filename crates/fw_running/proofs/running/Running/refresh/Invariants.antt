use Rattle.fw_running.proofs.running.Running.refresh.Given as goal

abbrev pub ghosts-refresh_by : goal.ghosts-refresh_by
ghosts-refresh_by a = record { name = a.blank.name; parts = a.blank.parts }

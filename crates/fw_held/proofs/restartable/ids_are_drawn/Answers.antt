use Rattle.fw_held.proofs.restartable.ids_are_drawn.Goals as goal

pub returns : goal.returns
returns c = c.entries-entries.ensures.catalogue

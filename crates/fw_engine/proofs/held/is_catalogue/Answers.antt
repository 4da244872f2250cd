use Rattle.fw_engine.proofs.held.is_catalogue.Goals as goal

pub returns : goal.returns
returns c = c.entries-entries.ensures.catalogue

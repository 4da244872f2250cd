use Rattle.fw_engine.proofs.engine.ids_ascend.Goals as goal

pub returns : goal.returns
returns c = c.entries-entries.ensures.catalogue.ascending

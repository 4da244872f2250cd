use Rattle.falkirk_disk.proofs.run_live.Goals as goal

pub falkirk_lasting-lasted-requires : goal.falkirk_lasting-lasted-requires
falkirk_lasting-lasted-requires g c = record {
  may = c.empty_stores_may_begin.ensures _ _ _ c.requires;
}

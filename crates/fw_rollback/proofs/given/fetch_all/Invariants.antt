use Rattle.std.proofs.Common.{◌≡◌, take}
use Rattle.fw_outside.specs.Outside.{StayIfTold}
use Rattle.fw_keep.specs.Stored.{IsStored}
use Rattle.fw_rollback.proofs.GivenLaws.{HasFetched}
use Rattle.fw_rollback.proofs.given.fetch_all.Given as goal

abbrev pub invariant-loop-entry : goal.invariant-loop-entry
invariant-loop-entry g l = record {
  fetched : HasFetched l.flow l.choice (g.K.Store.view l.store).records l.keep.entries (take l.entry-index l.entries) l.given;
  stays : StayIfTold (g.K.Store.view l.initial.store).records (g.K.Store.view l.store).records;
  stored : IsStored l.keep (g.K.Store.view l.store).records;
  faults : (g.K.Store.view l.store).faults ≡ (g.K.Store.view l.initial.store).faults;
}

use Rattle.std.proofs.Common.{◌≡◌, take}
use Rattle.std.specs.List.{AllZip}
use Rattle.fw_outside.specs.Outside.{StayIfTold}
use Rattle.fw_keep.specs.Joined.{IsFetchedAt}
use Rattle.fw_keep.specs.Stored.{IsStored}
use Rattle.fw_keep.proofs.fetch.fetch_each.Given as goal

abbrev pub invariant-loop-id : goal.invariant-loop-id
invariant-loop-id g l = record {
  fetched : AllZip (IsFetchedAt l.flow (g.K.Store.view l.store).records l.keep.entries) (take l.id-index l.ids) l.records.items;
  stays : StayIfTold (g.K.Store.view l.initial.store).records (g.K.Store.view l.store).records;
  stored : IsStored l.keep (g.K.Store.view l.store).records;
  faults : (g.K.Store.view l.store).faults ≡ (g.K.Store.view l.initial.store).faults;
}

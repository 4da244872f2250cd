use Rattle.std.proofs.Common.{◌≡◌, ◌<◌, length, Some}
use Rattle.std.specs.List.{AllByRecursion}
use Rattle.fw_outside.specs.Outside.{StayIfTold}
use Rattle.fw_flow.specs.Dataflow.{System}
use Rattle.fw_model.specs.Machine.{Machine}
use Rattle.fw_keep.specs.declared.entry.Entry.{Entry}
use Rattle.fw_keep.specs.Stored.{Records, IsStored}
use Rattle.fw_policy.specs.Shaped.{IsWrittenOf}
use Rattle.fw_resume.specs.Catalogue.{IsNamedState}
use Rattle.fw_resume.proofs.CatalogueLaws.{HasReadTo, IsReadTo}
use Rattle.fw_resume.proofs.catalogue.read_all.Given as goal

abbrev pub invariant-loop-name : goal.invariant-loop-name
invariant-loop-name g l = record {
  read : IsReadTo l.root l.name-index l.keep;
  nodes : AllByRecursion (λ (e : Entry). e.node < length l.flow.nodes) l.keep.entries;
  written : AllByRecursion (λ (e : Entry). IsWrittenOf l.flow e.node e.written) l.keep.entries;
  stored : IsStored l.keep (g.K.Store.view l.store).records;
  held : (sys : System) (state : Machine) (held : Records) (h : IsNamedState l.flow l.root (Some held) sys state)
      → (g.K.Store.view l.store).records ≡ Some held → HasReadTo sys state held (h.named).entries l.name-index l.keep.entries;
  stays : StayIfTold (g.K.Store.view l.initial.store).records (g.K.Store.view l.store).records;
  faults : (g.K.Store.view l.store).faults ≡ (g.K.Store.view l.initial.store).faults;
}

use Rattle.std.proofs.Common.{refl, sym, subst, arith}
use Rattle.fw_keep.specs.Catalogue.{KeepState, IsCatalogue, persisted}
use Rattle.fw_keep.specs.Stored.{IsStored}
use Rattle.fw_keep.specs.Inside.{keep_state_of}
use Rattle.fw_keep.proofs.IdLaws.{length-persisted}
use Rattle.fw_keep.proofs.CatalogueLaws.{same-state, catalogue-persisted}
use Rattle.fw_keep.proofs.StoredLaws.{stored-persisted}
use Rattle.fw_keep.proofs.keep.Keep.persist_one.Goals as goal

pub invariant_of-self : goal.invariant_of-self
invariant_of-self c =
    let old = keep_state_of c.self.inside in
    record {
      catalogue = subst IsCatalogue (sym (same-state _ (record old { entries = persisted old.entries }) c.persist_first.ensures.acknowledged refl refl refl refl)) (catalogue-persisted old c.self.invariant.catalogue);
      persisted = c.persist_first.ensures.known;
      room = omega (arith, length-persisted old.entries c.persist_first.new.entries.items c.persist_first.ensures.acknowledged, c.persist_first.new.entries.ok.0, c.self.inside.entries.ok.0, c.self.invariant.room);
    }

pub returns-clause-stored : goal.returns-clause-stored
returns-clause-stored c =
    let old = keep_state_of c.self.inside in
    λ all stored. subst (λ (k : KeepState). IsStored k all) (sym (same-state _ (record old { entries = persisted old.entries }) c.persist_first.ensures.acknowledged refl refl refl refl))
    (stored-persisted old all (subst (λ (k : KeepState). IsStored k all) (sym c.self.view_is) stored))

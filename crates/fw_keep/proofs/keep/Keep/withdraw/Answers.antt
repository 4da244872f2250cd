use Rattle.std.proofs.Common.{◌≡◌, false, List, take, max, refl, sym, subst, arith}
use Rattle.std.specs.List.{AllByRecursion}
use Rattle.fw_keep.specs.declared.entry.Entry.{Entry}
use Rattle.fw_keep.specs.Entry.{is_withdrawn}
use Rattle.fw_keep.specs.Catalogue.{KeepState, IsCatalogue, IsAcknowledgedUpTo, without}
use Rattle.fw_keep.specs.Stored.{IsStored}
use Rattle.fw_keep.specs.Inside.{keep_state_of}
use Rattle.fw_keep.proofs.CatalogueLaws.{same-state, catalogue-without}
use Rattle.fw_keep.proofs.InFlightLaws.{none_withdrawn, left_parted}
use Rattle.fw_keep.proofs.StoredLaws.{stored-without}
use Rattle.fw_keep.proofs.keep.Keep.withdraw.Goals as goal

pub take_out-requires-clause-others : goal.take_out-requires-clause-others
take_out-requires-clause-others c =
    subst (λ n. AllByRecursion (λ (e : Entry). is_withdrawn c.args.id e ≡ false) (take n c.self.inside.entries.items)) (sym c.max-from.ensures)
    (none_withdrawn c.args.id c.self.inside.persisted c.first_from.result c.self.inside.entries.items c.self.invariant.persisted.first (rw c.deref.ensures.value at c.first_from.ensures.below))

pub invariant_of-self : goal.invariant_of-self
invariant_of-self c =
    let goes = is_withdrawn c.args.id in
    let old = keep_state_of c.self.inside in
    let none : AllByRecursion (λ (e : Entry). is_withdrawn c.args.id e ≡ false) (take (max c.self.inside.persisted c.first_from.result) c.self.inside.entries.items) = none_withdrawn c.args.id c.self.inside.persisted c.first_from.result c.self.inside.entries.items c.self.invariant.persisted.first (rw c.deref.ensures.value at c.first_from.ensures.below) in
    record {
      catalogue = subst IsCatalogue (sym (same-state _ (without goes old) c.take_out.ensures.entries refl c.take_out.ensures.waiting refl refl)) (catalogue-without goes old c.self.invariant.catalogue);
      persisted = subst (λ (es : List Entry). IsAcknowledgedUpTo c.self.inside.persisted es) (sym c.take_out.ensures.entries)
          (left_parted goes c.self.inside.persisted (max c.self.inside.persisted c.first_from.result) c.self.inside.entries.items (omega arith) none c.self.invariant.persisted);
      room = c.take_out.ensures.room;
    }

pub returns-clause-stored : goal.returns-clause-stored
returns-clause-stored c =
    let goes = is_withdrawn c.args.id in
    let old = keep_state_of c.self.inside in
    λ all stored. subst (λ (k : KeepState). IsStored k all) (sym (same-state _ (without goes old) c.take_out.ensures.entries refl c.take_out.ensures.waiting refl refl))
    (stored-without goes old all (subst (λ (k : KeepState). IsStored k all) (sym c.self.view_is) stored))

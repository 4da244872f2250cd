use Rattle.std.proofs.Common.{ℕ, not, List, refl, sym, subst, ◌∙◌}
use Rattle.fw_keep.specs.declared.entry.Entry.{Entry}
use Rattle.fw_keep.specs.Catalogue.{KeepState, IsCatalogue, IsAcknowledgedUpTo, without}
use Rattle.fw_keep.specs.Stored.{IsStored}
use Rattle.fw_keep.specs.Inside.{keep_state_of}
use Rattle.fw_keep.proofs.CatalogueLaws.{same-state, catalogue-without}
use Rattle.fw_keep.proofs.InFlightLaws.{kept}
use Rattle.fw_keep.proofs.StoredLaws.{stored-without}
use Rattle.fw_keep.proofs.keep.Keep.forget.Goals as goal

pub acknowledged-self-inside-requires : goal.acknowledged-self-inside-requires
acknowledged-self-inside-requires g c =
    let goes = g.G.Going.goes c.args.going.now in
    let parted = c.self.invariant.persisted in
    subst (λ (es : List Entry). (n : ℕ) × IsAcknowledgedUpTo n es) (sym (c.deref.ensures.value ∙ c.take_out.ensures.entries))
    (kept (λ e. not (goes e)) c.self.inside.persisted c.self.inside.entries.items parted.first parted.others)

pub invariant_of-self : goal.invariant_of-self
invariant_of-self g c =
    let goes = g.G.Going.goes c.args.going.now in
    let old = keep_state_of c.self.inside in
    record {
      catalogue = subst IsCatalogue (sym (same-state _ (without goes old) c.take_out.ensures.entries refl c.take_out.ensures.waiting refl refl)) (catalogue-without goes old c.self.invariant.catalogue);
      persisted = subst (λ (es : List Entry). IsAcknowledgedUpTo c.acknowledged-self-inside.result es) c.deref.ensures.value c.acknowledged-self-inside.ensures;
      room = c.take_out.ensures.room;
    }

pub returns-clause-stored : goal.returns-clause-stored
returns-clause-stored g c =
    let goes = g.G.Going.goes c.args.going.now in
    let old = keep_state_of c.self.inside in
    λ all stored. subst (λ (k : KeepState). IsStored k all) (sym (same-state _ (without goes old) c.take_out.ensures.entries refl c.take_out.ensures.waiting refl refl))
    (stored-without goes old all (subst (λ (k : KeepState). IsStored k all) (sym c.self.view_is) stored))

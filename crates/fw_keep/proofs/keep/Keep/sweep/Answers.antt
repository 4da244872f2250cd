use Rattle.std.proofs.Common.{true, refl, sym, subst}
use Rattle.fw_keep.specs.Catalogue.{KeepState}
use Rattle.fw_keep.specs.Stored.{IsStored, KeepsBytes}
use Rattle.fw_keep.specs.Inside.{keep_state_of}
use Rattle.fw_keep.proofs.BytesLaws.{bytes-swept}
use Rattle.fw_keep.proofs.KeepLaws.{sound-swept}
use Rattle.fw_keep.proofs.StoredLaws.{stored-waiting, stored-swept}
use Rattle.fw_keep.proofs.keep.Keep.sweep.Goals as goal

pub remove_waiting-requires-clause-there : goal.remove_waiting-requires-clause-there
remove_waiting-requires-clause-there g c = λ alone.
    let all = (g.K.Store.view c.args.store.now).records in
    stored-waiting (keep_state_of c.self.inside) all (subst (λ (k : KeepState). IsStored k all) (sym c.self.view_is) c.requires.stored) alone

pub invariant_of-self-in-Err-Failed : goal.invariant_of-self-in-Err-Failed
invariant_of-self-in-Err-Failed g c =
    sound-swept c.self.inside _ _ _ c.self.invariant c.remove_waiting.ensures.swept refl refl refl refl c.remove_waiting.ensures.capacity

pub invariant_of-self-in-Err-NoMemory : goal.invariant_of-self-in-Err-NoMemory
invariant_of-self-in-Err-NoMemory g c =
    sound-swept c.self.inside _ _ _ c.self.invariant c.remove_waiting.ensures.swept refl refl refl refl c.remove_waiting.ensures.capacity

pub returns-in-Ok-clause-stored : goal.returns-in-Ok-clause-stored
returns-in-Ok-clause-stored g c =
    let all = (g.K.Store.view c.args.store.now).records in
    stored-swept (keep_state_of c.self.inside) all c.remove_waiting.new.waiting.items (g.K.Store.view c.remove_waiting.new.store).records c.self.inside.refused c.self.invariant.catalogue
    (subst (λ (k : KeepState). IsStored k all) (sym c.self.view_is) c.requires.stored) c.remove_waiting.ensures.swept

pub returns-in-Err-Failed-clause-stored : goal.returns-in-Err-Failed-clause-stored
returns-in-Err-Failed-clause-stored g c =
    let all = (g.K.Store.view c.args.store.now).records in
    stored-swept (keep_state_of c.self.inside) all c.remove_waiting.new.waiting.items (g.K.Store.view c.remove_waiting.new.store).records c.self.inside.refused c.self.invariant.catalogue
    (subst (λ (k : KeepState). IsStored k all) (sym c.self.view_is) c.requires.stored) c.remove_waiting.ensures.swept

pub returns-in-Err-NoMemory-clause-stored : goal.returns-in-Err-NoMemory-clause-stored
returns-in-Err-NoMemory-clause-stored g c =
    let all = (g.K.Store.view c.args.store.now).records in
    stored-swept (keep_state_of c.self.inside) all c.remove_waiting.new.waiting.items (g.K.Store.view c.remove_waiting.new.store).records true c.self.invariant.catalogue
    (subst (λ (k : KeepState). IsStored k all) (sym c.self.view_is) c.requires.stored) c.remove_waiting.ensures.swept

pub returns-in-Ok-clause-bytes : goal.returns-in-Ok-clause-bytes
returns-in-Ok-clause-bytes g c =
    let all = (g.K.Store.view c.args.store.now).records in
    let after = (g.K.Store.view c.remove_waiting.new.store).records in
    subst (λ (k : KeepState). KeepsBytes k.entries all after) c.self.view_is
    (bytes-swept (keep_state_of c.self.inside) c.remove_waiting.new.waiting.items all after c.self.invariant.catalogue c.remove_waiting.ensures.swept)

pub returns-in-Err-Failed-clause-bytes : goal.returns-in-Err-Failed-clause-bytes
returns-in-Err-Failed-clause-bytes g c =
    let all = (g.K.Store.view c.args.store.now).records in
    let after = (g.K.Store.view c.remove_waiting.new.store).records in
    subst (λ (k : KeepState). KeepsBytes k.entries all after) c.self.view_is
    (bytes-swept (keep_state_of c.self.inside) c.remove_waiting.new.waiting.items all after c.self.invariant.catalogue c.remove_waiting.ensures.swept)

pub returns-in-Err-NoMemory-clause-bytes : goal.returns-in-Err-NoMemory-clause-bytes
returns-in-Err-NoMemory-clause-bytes g c =
    let all = (g.K.Store.view c.args.store.now).records in
    let after = (g.K.Store.view c.remove_waiting.new.store).records in
    subst (λ (k : KeepState). KeepsBytes k.entries all after) c.self.view_is
    (bytes-swept (keep_state_of c.self.inside) c.remove_waiting.new.waiting.items all after c.self.invariant.catalogue c.remove_waiting.ensures.swept)

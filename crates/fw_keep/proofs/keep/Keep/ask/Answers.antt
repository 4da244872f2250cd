use Rattle.std.proofs.Common.{◌≡◌, ◌<◌, ◌^◌, [], ◌∷◌, ◌++◌, refl, sym, ap, subst, ◌∙◌, arith}
use Rattle.std.specs.Prelude.{option_map}
use Rattle.std.specs.FinMap as records
use Rattle.std.proofs.lemmas.Result.{IfErr-at_err}
use Rattle.fw_record.specs.Spelling.{spelling}
use Rattle.fw_keep.specs.Entry.{asked_beside, IsBased}
use Rattle.fw_keep.specs.Catalogue.{KeepState}
use Rattle.fw_keep.specs.Stored.{IsStored, IsFreed, KeepsBytes}
use Rattle.fw_keep.specs.Inside.{keep_state_of}
use Rattle.fw_lemmas.proofs.Each.{each-weaker, each_of-map}
use Rattle.fw_keep.specs.declared.entry.Entry.{Entry}
use Rattle.fw_keep.proofs.DepthLaws.{deep-asked}
use Rattle.fw_keep.proofs.BytesLaws.{bytes-put, bytes-freed}
use Rattle.fw_keep.proofs.KeepLaws.{sound-drawn, sound-added}
use Rattle.fw_keep.proofs.StoredLaws.{stored-fresh, stored-same, stored-added, stored-freed, freed-alone}
use Rattle.fw_keep.proofs.keep.Keep.ask.Goals as goal

pub put_new-put-requires-clause-fresh : goal.put_new-put-requires-clause-fresh
put_new-put-requires-clause-fresh g c = λ alone.
    let all = (g.K.Store.view c.args.store.now).records in
    stored-fresh (keep_state_of c.self.inside) all c.self.invariant.catalogue (subst (λ (k : KeepState). IsStored k all) (sym c.self.view_is) c.requires.stored) alone

pub invariant_of-self-in-Ok : goal.invariant_of-self-in-Ok
invariant_of-self-in-Ok g c =
    sound-added c.self.inside _ (asked_beside c.self.inside.entries.items c.self.inside.next c.args.what.now c.args.stamps) refl
    (deep-asked c.self.inside.entries.items c.self.inside.next c.args.what.now c.args.stamps (subst (λ (k : KeepState). IsBased k.entries c.args.what.now) (sym c.self.view_is) c.requires.based)
    c.self.invariant.catalogue.depths c.self.invariant.catalogue.drawn) refl c.self.invariant c.in-Ok.ensures.added c.put_new-put.ensures.waiting (omega arith) refl refl refl c.put_new-put.ensures.room

pub invariant_of-self-in-Err-Failed : goal.invariant_of-self-in-Err-Failed
invariant_of-self-in-Err-Failed g c =
    let kept : c.put_new-put.new.entries.items ≡ c.self.inside.entries.items = IfErr-at_err (λ _. c.put_new-put.new.entries.items ≡ c.self.inside.entries.items) c.in-Err-Failed.is c.put_new-put.ensures.kept in
    sound-drawn c.self.inside _ c.self.invariant kept c.put_new-put.ensures.waiting (omega arith) refl refl c.put_new-put.ensures.room

pub invariant_of-self-in-Err-NoMemory : goal.invariant_of-self-in-Err-NoMemory
invariant_of-self-in-Err-NoMemory g c =
    let kept : c.put_new-put.new.entries.items ≡ c.self.inside.entries.items = IfErr-at_err (λ _. c.put_new-put.new.entries.items ≡ c.self.inside.entries.items) c.in-Err-NoMemory.is c.put_new-put.ensures.kept in
    sound-drawn c.self.inside _ c.self.invariant kept c.put_new-put.ensures.waiting (omega arith) refl refl c.put_new-put.ensures.room

pub returns-in-Ok-clause-stored : goal.returns-in-Ok-clause-stored
returns-in-Ok-clause-stored g c =
    let all = (g.K.Store.view c.args.store.now).records in
    let old = keep_state_of c.self.inside in
    let entry = asked_beside c.self.inside.entries.items c.self.inside.next c.args.what.now c.args.stamps in
    let stored : IsStored (keep_state_of c.self.inside) (g.K.Store.view c.args.store.now).records = subst (λ (k : KeepState). IsStored k (g.K.Store.view c.args.store.now).records) (sym c.self.view_is) c.requires.stored in
    rw c.in-Ok.ensures.put (stored-same (record old { entries = c.put_new-put.new.entries.items; waiting = c.put_new-put.new.waiting.items }) (record old { entries = old.entries ++ entry ∷ [] }) (option_map (λ held. records.insert held c.self.inside.next (spelling c.args.what.now)) all) c.in-Ok.ensures.added c.put_new-put.ensures.waiting refl
    (stored-added old entry (spelling c.args.what.now) all refl stored))

pub returns-in-Ok-clause-bytes : goal.returns-in-Ok-clause-bytes
returns-in-Ok-clause-bytes g c =
    let all = (g.K.Store.view c.args.store.now).records in
    let after = (g.K.Store.view c.put_new-put.new.store).records in
    subst (λ (k : KeepState). KeepsBytes k.entries all after) c.self.view_is
    (bytes-put (keep_state_of c.self.inside) (spelling c.args.what.now) all after c.self.invariant.catalogue c.in-Ok.ensures.put)

pub put_new-put-requires-clause-ascending : goal.put_new-put-requires-clause-ascending
put_new-put-requires-clause-ascending g c = c.self.invariant.catalogue.ascending

pub put_new-put-requires-clause-depths : goal.put_new-put-requires-clause-depths
put_new-put-requires-clause-depths g c = c.self.invariant.catalogue.depths

pub put_new-put-requires-clause-few : goal.put_new-put-requires-clause-few
put_new-put-requires-clause-few g c =
    let few : c.self.inside.next < 2 ^ 63 = subst (λ (k : KeepState). k.next < 2 ^ 63) (sym c.self.view_is) c.requires.few in
    each_of-map (λ id. id < 2 ^ 63) (λ (e : Entry). e.id) c.self.inside.entries.items (each-weaker _ _ _ (λ id l. omega arith) c.self.invariant.catalogue.drawn)

pub returns-in-Err-Failed-clause-freed : goal.returns-in-Err-Failed-clause-freed
returns-in-Err-Failed-clause-freed g c =
    let all = (g.K.Store.view c.args.store.now).records in
    let after = (g.K.Store.view c.put_new-put.new.store).records in
    let freed : IsFreed c.self.inside.shared c.self.inside.next (g.K.Store.view c.args.store.now).records (g.K.Store.view c.put_new-put.new.store).records =
    IfErr-at_err (λ _. IsFreed c.self.inside.shared c.self.inside.next all after) c.in-Err-Failed.is c.put_new-put.ensures.freed in
    subst (λ (k : KeepState). IsFreed k.shared k.next all after) c.self.view_is freed

pub returns-in-Err-Failed-clause-stays : goal.returns-in-Err-Failed-clause-stays
returns-in-Err-Failed-clause-stays g c = λ alone.
    let all = (g.K.Store.view c.args.store.now).records in
    let after = (g.K.Store.view c.put_new-put.new.store).records in
    let freed : IsFreed c.self.inside.shared c.self.inside.next (g.K.Store.view c.args.store.now).records (g.K.Store.view c.put_new-put.new.store).records =
    IfErr-at_err (λ _. IsFreed c.self.inside.shared c.self.inside.next all after) c.in-Err-Failed.is c.put_new-put.ensures.freed in
    freed-alone c.self.inside.shared c.self.inside.next all after freed (ap (λ (k : KeepState). k.shared) c.self.view_is ∙ alone)

pub returns-in-Err-Failed-clause-bytes : goal.returns-in-Err-Failed-clause-bytes
returns-in-Err-Failed-clause-bytes g c =
    let all = (g.K.Store.view c.args.store.now).records in
    let after = (g.K.Store.view c.put_new-put.new.store).records in
    let freed : IsFreed c.self.inside.shared c.self.inside.next (g.K.Store.view c.args.store.now).records (g.K.Store.view c.put_new-put.new.store).records =
    IfErr-at_err (λ _. IsFreed c.self.inside.shared c.self.inside.next all after) c.in-Err-Failed.is c.put_new-put.ensures.freed in
    subst (λ (k : KeepState). KeepsBytes k.entries all after) c.self.view_is (bytes-freed (keep_state_of c.self.inside) all after c.self.invariant.catalogue freed)

pub returns-in-Err-Failed-clause-stored : goal.returns-in-Err-Failed-clause-stored
returns-in-Err-Failed-clause-stored g c =
    let all = (g.K.Store.view c.args.store.now).records in
    let after = (g.K.Store.view c.put_new-put.new.store).records in
    let freed : IsFreed c.self.inside.shared c.self.inside.next (g.K.Store.view c.args.store.now).records (g.K.Store.view c.put_new-put.new.store).records =
    IfErr-at_err (λ _. IsFreed c.self.inside.shared c.self.inside.next all after) c.in-Err-Failed.is c.put_new-put.ensures.freed in
    let kept : c.put_new-put.new.entries.items ≡ c.self.inside.entries.items = IfErr-at_err (λ _. c.put_new-put.new.entries.items ≡ c.self.inside.entries.items) c.in-Err-Failed.is c.put_new-put.ensures.kept in
    let old = keep_state_of c.self.inside in
    stored-same (record old { entries = c.put_new-put.new.entries.items; waiting = c.put_new-put.new.waiting.items }) old after kept c.put_new-put.ensures.waiting refl
    (stored-freed old all after c.self.invariant.catalogue (subst (λ (k : KeepState). IsStored k all) (sym c.self.view_is) c.requires.stored) freed)

pub returns-in-Err-NoMemory-clause-freed : goal.returns-in-Err-NoMemory-clause-freed
returns-in-Err-NoMemory-clause-freed g c =
    let all = (g.K.Store.view c.args.store.now).records in
    let after = (g.K.Store.view c.put_new-put.new.store).records in
    let freed : IsFreed c.self.inside.shared c.self.inside.next (g.K.Store.view c.args.store.now).records (g.K.Store.view c.put_new-put.new.store).records =
    IfErr-at_err (λ _. IsFreed c.self.inside.shared c.self.inside.next all after) c.in-Err-NoMemory.is c.put_new-put.ensures.freed in
    subst (λ (k : KeepState). IsFreed k.shared k.next all after) c.self.view_is freed

pub returns-in-Err-NoMemory-clause-stays : goal.returns-in-Err-NoMemory-clause-stays
returns-in-Err-NoMemory-clause-stays g c = λ alone.
    let all = (g.K.Store.view c.args.store.now).records in
    let after = (g.K.Store.view c.put_new-put.new.store).records in
    let freed : IsFreed c.self.inside.shared c.self.inside.next (g.K.Store.view c.args.store.now).records (g.K.Store.view c.put_new-put.new.store).records =
    IfErr-at_err (λ _. IsFreed c.self.inside.shared c.self.inside.next all after) c.in-Err-NoMemory.is c.put_new-put.ensures.freed in
    freed-alone c.self.inside.shared c.self.inside.next all after freed (ap (λ (k : KeepState). k.shared) c.self.view_is ∙ alone)

pub returns-in-Err-NoMemory-clause-bytes : goal.returns-in-Err-NoMemory-clause-bytes
returns-in-Err-NoMemory-clause-bytes g c =
    let all = (g.K.Store.view c.args.store.now).records in
    let after = (g.K.Store.view c.put_new-put.new.store).records in
    let freed : IsFreed c.self.inside.shared c.self.inside.next (g.K.Store.view c.args.store.now).records (g.K.Store.view c.put_new-put.new.store).records =
    IfErr-at_err (λ _. IsFreed c.self.inside.shared c.self.inside.next all after) c.in-Err-NoMemory.is c.put_new-put.ensures.freed in
    subst (λ (k : KeepState). KeepsBytes k.entries all after) c.self.view_is (bytes-freed (keep_state_of c.self.inside) all after c.self.invariant.catalogue freed)

pub returns-in-Err-NoMemory-clause-stored : goal.returns-in-Err-NoMemory-clause-stored
returns-in-Err-NoMemory-clause-stored g c =
    let all = (g.K.Store.view c.args.store.now).records in
    let after = (g.K.Store.view c.put_new-put.new.store).records in
    let freed : IsFreed c.self.inside.shared c.self.inside.next (g.K.Store.view c.args.store.now).records (g.K.Store.view c.put_new-put.new.store).records =
    IfErr-at_err (λ _. IsFreed c.self.inside.shared c.self.inside.next all after) c.in-Err-NoMemory.is c.put_new-put.ensures.freed in
    let kept : c.put_new-put.new.entries.items ≡ c.self.inside.entries.items = IfErr-at_err (λ _. c.put_new-put.new.entries.items ≡ c.self.inside.entries.items) c.in-Err-NoMemory.is c.put_new-put.ensures.kept in
    let old = keep_state_of c.self.inside in
    stored-same (record old { entries = c.put_new-put.new.entries.items; waiting = c.put_new-put.new.waiting.items }) old after kept c.put_new-put.ensures.waiting refl
    (stored-freed old all after c.self.invariant.catalogue (subst (λ (k : KeepState). IsStored k all) (sym c.self.view_is) c.requires.stored) freed)

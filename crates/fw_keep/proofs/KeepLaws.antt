-- What a catalogue holds stays sound.
use Rattle.std.proofs.Common.{◌≡◌, ℕ, ◌+◌, ◌<◌, ◌≤◌, List, [], ◌∷◌, ◌++◌, true, false, length, Option, Some, Result, Ok, Err, vec_len, refl, sym, ap, subst, ◌∙◌, arith, length-append}
use Rattle.std.specs.Prelude.{Contains}
use Rattle.std.specs.List.{AllByRecursion}
use Rattle.std.specs.Vec.{vec_capacity}
use Rattle.fw_lemmas.proofs.Each.{each-append}
use Rattle.fw_flow.specs.Dataflow.{Dataflow}
use Rattle.fw_record.specs.declared.record.Record.{Record}
use Rattle.fw_keep.specs.declared.entry.Entry.{Entry}
use Rattle.fw_keep.specs.declared.fault.KeepFault.{KeepFault}
use Rattle.fw_keep.specs.declared.fault.KeepFault.TheVariants as fault
use Rattle.fw_keep.specs.declared.keep.Keep.TheInside.{Inside}
use Rattle.fw_keep.specs.Catalogue.{IsCatalogue, AreAscending, AreDistinct, AreNoDeeperThanIds, has_entry, AreAcknowledged, IsAcknowledgedUpTo, IsOnly, ids_of, is_id_among}
use Rattle.fw_keep.specs.Faults.{keep_faults_after}
use Rattle.fw_keep.specs.Inside.{keep_state_of, IsSoundInside}
use Rattle.fw_keep.specs.Stored.{Records, Sweeps, ReadsAs, Fetches}
use Rattle.fw_keep.proofs.InFlightLaws.{added, all_acknowledged}
use Rattle.fw_keep.proofs.CatalogueLaws.{same-state, catalogue-drawn, catalogue-added, catalogue-read, catalogue-swept}

-- no entry yet, and some ids wait
pub sound-begun : (new : Inside) → new.entries.items ≡ [] → new.persisted ≡ 0 → AreDistinct new.waiting.items → AllByRecursion (λ id. id < new.next) new.waiting.items
    → IsSoundInside new
sound-begun new none persisted distinct drawn = record {
  catalogue = record {
    ascending = subst (λ (es : List Entry). AreAscending (ids_of es)) (sym none) tt;
    distinct = distinct;
    apart = subst (λ (es : List Entry). AllByRecursion (λ id. has_entry id es ≡ false) new.waiting.items) (sym none) (apart new.waiting.items);
    drawn = subst (λ (es : List Entry). AllByRecursion (λ id. id < new.next) (ids_of es)) (sym none) tt;
    waiting_drawn = drawn;
    depths = subst AreNoDeeperThanIds (sym none) tt;
  };
  persisted = all_acknowledged new.persisted new.entries.items (persisted ∙ sym (ap (λ (es : List Entry). length es) none)) (subst AreAcknowledged (sym none) tt);
  room = omega (arith, new.entries.ok.0, ap (λ (es : List Entry). length es) none, new.waiting.ok.1);
}
  where
    apart : (ids : List ℕ) → AllByRecursion (λ id. has_entry id [] ≡ false) ids
    apart [] = tt
    apart (id ∷ ids) = (refl, apart ids)

-- from now on the store may hold what others put
pub sound-shared : (old : Inside) → IsSoundInside old → IsSoundInside (record old { shared = true })
sound-shared old h = record {
  catalogue = record {
    ascending = h.catalogue.ascending;
    distinct = h.catalogue.distinct;
    apart = h.catalogue.apart;
    drawn = h.catalogue.drawn;
    waiting_drawn = h.catalogue.waiting_drawn;
    depths = h.catalogue.depths;
  };
  persisted = h.persisted;
  room = h.room;
}

-- ids are drawn, and there is no entry
pub sound-drawn : (old new : Inside) → IsSoundInside old → new.entries.items ≡ old.entries.items → new.waiting.items ≡ old.waiting.items
    → old.next ≤ new.next → new.persisted ≡ old.persisted → new.shared ≡ old.shared → vec_len new.waiting + vec_len new.entries ≤ vec_capacity new.waiting → IsSoundInside new
sound-drawn old new h entries waiting next persisted shared room = record {
  catalogue = subst IsCatalogue (sym (same-state (keep_state_of new) (record (keep_state_of old) { next = new.next; refused = new.refused }) entries refl waiting refl shared))
      (catalogue-drawn (keep_state_of old) new.next new.refused next h.catalogue);
  persisted = subst (λ (es : List Entry). IsAcknowledgedUpTo new.persisted es) (sym entries) (subst (λ n. IsAcknowledgedUpTo n old.entries.items) (sym persisted) h.persisted);
  room = room;
}

-- an id is drawn, and its entry is added
pub sound-added : (old new : Inside) (e : Entry) → e.id ≡ old.next → e.depth ≤ e.id → e.acknowledged ≡ false → IsSoundInside old → new.entries.items ≡ old.entries.items ++ e ∷ [] → new.waiting.items ≡ old.waiting.items
    → old.next < new.next → new.persisted ≡ old.persisted → new.refused ≡ old.refused → new.shared ≡ old.shared → vec_len new.waiting + vec_len new.entries ≤ vec_capacity new.waiting → IsSoundInside new
sound-added old new e same depths flying h entries waiting next persisted refused shared room = record {
  catalogue = subst IsCatalogue (sym (same-state (keep_state_of new) (record (keep_state_of old) { entries = old.entries.items ++ e ∷ []; next = new.next }) entries refl waiting refused shared))
      (catalogue-added (keep_state_of old) e new.next same depths next h.catalogue);
  persisted = subst (λ (es : List Entry). IsAcknowledgedUpTo new.persisted es) (sym entries) (subst (λ n. IsAcknowledgedUpTo n (old.entries.items ++ e ∷ [])) (sym persisted)
      (added old.persisted old.entries.items e flying h.persisted));
  room = room;
}

-- the entry of a record that was read is added where all are acknowledged
pub sound-read : (old new : Inside) (e : Entry) → AllByRecursion (λ id. id < e.id) (ids_of old.entries.items) → e.id < old.next → is_id_among e.id old.waiting.items ≡ false
    → e.depth ≤ e.id → e.acknowledged ≡ true → AreAcknowledged old.entries.items → IsSoundInside old → new.entries.items ≡ old.entries.items ++ e ∷ []
    → new.waiting.items ≡ old.waiting.items → new.next ≡ old.next → new.refused ≡ old.refused → new.shared ≡ old.shared → new.persisted ≡ length new.entries.items
    → vec_len new.waiting + vec_len new.entries ≤ vec_capacity new.waiting → IsSoundInside new
sound-read old new e above drawn free depths known all h entries waiting next refused shared persisted room = record {
  catalogue = subst IsCatalogue (sym (same-state (keep_state_of new) (record (keep_state_of old) { entries = old.entries.items ++ e ∷ [] }) entries next waiting refused shared))
      (catalogue-read (keep_state_of old) e above drawn free depths h.catalogue);
  persisted = all_acknowledged new.persisted new.entries.items persisted (subst AreAcknowledged (sym entries) (each-append _ old.entries.items (e ∷ []) all (known, tt)));
  room = room;
}

-- some of what waited is removed
pub sound-swept : (old new : Inside) (before after : Option Records) → IsSoundInside old → Sweeps old.waiting.items before new.waiting.items after → new.entries ≡ old.entries
    → new.next ≡ old.next → new.persisted ≡ old.persisted → new.shared ≡ old.shared → vec_capacity new.waiting ≡ vec_capacity old.waiting → IsSoundInside new
sound-swept old new before after h s entries next persisted shared capacity =
    let same : new.entries.items ≡ old.entries.items = ap (λ v. v.items) entries in
    record {
      catalogue = subst IsCatalogue (sym (same-state (keep_state_of new) (record (keep_state_of old) { waiting = new.waiting.items; refused = new.refused }) same next refl refl shared))
          (catalogue-swept (keep_state_of old) new.waiting.items s.removed new.refused s.parts h.catalogue);
      persisted = subst (λ (es : List Entry). IsAcknowledgedUpTo new.persisted es) (sym same) (subst (λ n. IsAcknowledgedUpTo n old.entries.items) (sym persisted) h.persisted);
      room = omega (arith, ap length s.parts, length-append new.waiting.items s.removed, new.waiting.ok.0, old.waiting.ok.0, ap (λ (es : List Entry). length es) same, new.entries.ok.0, old.entries.ok.0, capacity, h.room);
    }

-- ---- what is fetched

from_read : (flow : Dataflow) (e : Entry) (bytes : List ℕ) (given : Option (ℕ × List ℕ)) (result : Result Record KeepFault) → given ≡ Some (e.id, bytes)
    → ReadsAs flow e bytes result → Fetches flow e given result
from_read flow e bytes given (Ok r) g read = (g ∙ ap (λ (bs : List ℕ). Some (e.id, bs)) read.1, read.0, read.2)
from_read flow e bytes given (Err (fault.Damaged at kept)) g read =
    (read.0, g ∙ ap (λ (bs : List ℕ). Some (e.id, bs)) (sym read.1), λ r sound spelled of. read.2 r sound (sym read.1 ∙ spelled) of)
from_read flow e bytes given (Err fault.StoreFault) g read = tt
from_read flow e bytes given (Err fault.NoMemory) g read = tt

pub fetched : (flow : Dataflow) (es : List Entry) (id : ℕ) (e : Entry) (bytes : List ℕ) (given : Option (ℕ × List ℕ)) (result : Result Record KeepFault) → IsOnly es id e
    → given ≡ Some (id, bytes) → ReadsAs flow e bytes result → (other : Entry) → Contains es other → other.id ≡ id → Fetches flow other given result
fetched flow es id e bytes given result only g read other there named =
    subst (λ (x : Entry). Fetches flow x given result) (sym (only.only other there named)) (from_read flow e bytes given result (g ∙ ap (λ (n : ℕ). Some (n, bytes)) (sym only.named)) read)

-- what bytes are read as leaves the count of a store's faults
pub count-read : (flow : Dataflow) (e : Entry) (bytes : List ℕ) (result : Result Record KeepFault) (count : ℕ) → ReadsAs flow e bytes result → keep_faults_after result count ≡ count
count-read flow e bytes (Ok r) count read = refl
count-read flow e bytes (Err (fault.Damaged at kept)) count read = refl
count-read flow e bytes (Err fault.StoreFault) count read = absurd read
count-read flow e bytes (Err fault.NoMemory) count read = refl

-- Reading the record of a write that a root names.
use Rattle.std.proofs.Common.{◌≡◌, ℕ, true, false, ◌&&◌, ◌==◌, List, Option, Some, Result, Ok, Err, refl, sym, ap, subst, ◌∙◌}
use Rattle.std.specs.Prelude.{Contains, IfSome, IfOk}
use Rattle.std.specs.FinMap as records
use Rattle.std.proofs.lemmas.Bool.{and_parts, eq-eqb, eqb-true}
use Rattle.fw_flow.specs.Dataflow.{Dataflow}
use Rattle.fw_flow.specs.declared.choice.Stamps.{Stamps}
use Rattle.fw_record.specs.declared.record.Record.{Record}
use Rattle.fw_record.specs.declared.record.Record.TheVariants as tagged
use Rattle.fw_record.specs.Spelling.{spelling}
use Rattle.fw_record.proofs.RecordLaws.{one_spelling_lem}
use Rattle.fw_keep.specs.declared.entry.Entry.{Entry}
use Rattle.fw_keep.specs.declared.fault.KeepFault.{KeepFault}
use Rattle.fw_keep.specs.declared.fault.KeepFault.TheVariants as fault
use Rattle.fw_keep.specs.Entry.{IsBase, IsRecordOfEntry, read_beside, is_checkpoint}
use Rattle.fw_keep.specs.Catalogue.{IsOnly, has_entry}
use Rattle.fw_keep.specs.Newest.{is_checkpoint_of}
use Rattle.fw_keep.specs.Faults.{keep_faults_after}
use Rattle.fw_keep.specs.Stored.{Records, GivesOnly}
use Rattle.fw_keep.specs.Named.{IsRecordOfFlow, HoldsNamed, FetchesNamed, ReadsNamed}
use Rattle.fw_keep.proofs.BytesLaws.{same-bytes, entry-there}
use Rattle.fw_keep.proofs.FetchLaws.{with-id}

-- ---- the base

-- the only entry of an id is one of them
pub only-there : (es : List Entry) (id : ℕ) (e : Entry) → has_entry id es ≡ true → IsOnly es id e → Contains es e
only-there es id e there only =
    let found : (x : Entry) × Contains es x × (x.id ≡ id) = with-id es id there in
    subst (Contains es) (only.only found.0 found.1 found.2) found.1

-- where no entry has the id, none is the base
pub no_base : (es : List Entry) (id p : ℕ) → has_entry id es ≡ false → IsBase es id p → ⊥
no_base es id p none b =
    let some : has_entry id es ≡ true = subst (λ n. has_entry n es ≡ true) b.named (entry-there es b.entry b.there) in
    absurd cc

-- the entry of an id is the base where it is a checkpoint of the node
pub base-found : (es : List Entry) (id p : ℕ) (e : Entry) → has_entry id es ≡ true → IsOnly es id e → is_checkpoint_of p e ≡ true → IsBase es id p
base-found es id p e there only is =
    let parts = and_parts (e.node == p) (is_checkpoint e.written) is in
    record { entry = e; there = only-there es id e there only; named = only.named; of_node = eqb-true e.node p parts.0; of_checkpoint = parts.1 }

-- and only there
pub base-is : (es : List Entry) (id p : ℕ) (e : Entry) → IsOnly es id e → IsBase es id p → is_checkpoint_of p e ≡ true
base-is es id p e only b =
    let same : b.entry ≡ e = only.only b.entry b.there b.named in
    let of_node : e.node ≡ p = subst (λ (x : Entry). x.node ≡ p) same b.of_node in
    let written : is_checkpoint e.written ≡ true = subst (λ (x : Entry). is_checkpoint x.written ≡ true) same b.of_checkpoint in
    ap (λ k. k && is_checkpoint e.written) (eq-eqb e.node p of_node) ∙ written

-- ---- what is read

-- a record of the flow can be that of the entry that is made of it
pub read-of_entry : (flow : Dataflow) (es : List Entry) (id : ℕ) (r : Record) (stamps : Stamps) → IsRecordOfFlow flow r → IsRecordOfEntry flow (read_beside es id r stamps) r
read-of_entry flow es id (tagged.State c) stamps h = record { of_node = h.0; recorded = refl }
read-of_entry flow es id (tagged.Event node event) stamps h = refl
read-of_entry flow es id (tagged.Changes base c) stamps h = record { of_node = (refl, h.0); recorded = refl }

-- so is what was read
pub named-of_entry : (flow : Dataflow) (es : List Entry) (id p tag : ℕ) (bytes : List ℕ) (result : Result Record KeepFault) → ReadsNamed flow es id p tag bytes result
    → (stamps : Stamps) → IfOk result (λ r. IsRecordOfEntry flow (read_beside es id r stamps) r)
named-of_entry flow es id p tag bytes (Ok r) read stamps = read-of_entry flow es id r stamps read.2.of_flow
named-of_entry flow es id p tag bytes (Err why) read stamps = tt

-- the answer by the bytes that were given
pub named-fetched : (flow : Dataflow) (es : List Entry) (id p tag : ℕ) (bytes : List ℕ) (given : Option (ℕ × List ℕ)) (result : Result Record KeepFault)
    → given ≡ Some (id, bytes) → ReadsNamed flow es id p tag bytes result → FetchesNamed flow es id p tag given result
named-fetched flow es id p tag bytes given (Ok r) g read = (g ∙ ap (λ (bs : List ℕ). Some (id, bs)) read.1, read.0, read.2)
named-fetched flow es id p tag bytes given (Err (fault.Damaged at kept)) g read =
    (read.0, g ∙ ap (λ (bs : List ℕ). Some (id, bs)) (sym read.1), λ r sound spelled of. read.2 r sound (sym read.1 ∙ spelled) of)
named-fetched flow es id p tag bytes given (Err fault.StoreFault) g read = tt
named-fetched flow es id p tag bytes given (Err fault.NoMemory) g read = tt

-- it leaves the count of a store's faults
pub named-count : (flow : Dataflow) (es : List Entry) (id p tag : ℕ) (bytes : List ℕ) (result : Result Record KeepFault) (count : ℕ)
    → ReadsNamed flow es id p tag bytes result → keep_faults_after result count ≡ count
named-count flow es id p tag bytes (Ok r) count read = refl
named-count flow es id p tag bytes (Err (fault.Damaged at kept)) count read = refl
named-count flow es id p tag bytes (Err fault.StoreFault) count read = absurd read
named-count flow es id p tag bytes (Err fault.NoMemory) count read = refl

-- what is held as the write's is given back
pub named-back : (flow : Dataflow) (es : List Entry) (id p tag : ℕ) (bytes : List ℕ) (all : Option Records) (result : Result Record KeepFault)
    → IfSome all (λ held. records.get held id ≡ Some bytes) → ReadsNamed flow es id p tag bytes result
    → (r : Record) → HoldsNamed flow es all id p tag r → GivesOnly r result
named-back flow es id p tag bytes all result got read r held = by result read
  where
    spelled : bytes ≡ spelling r
    spelled = sym (same-bytes all id bytes (spelling r) got held.bytes)

    by : (answer : Result Record KeepFault) → ReadsNamed flow es id p tag bytes answer → GivesOnly r answer
    by (Ok q) read = one_spelling_lem q r read.0 held.sound (sym read.1 ∙ spelled)
    by (Err (fault.Damaged at kept)) read = read.2 r held.sound spelled held.named
    by (Err fault.StoreFault) read = absurd read
    by (Err fault.NoMemory) read = tt

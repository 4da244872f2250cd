-- The bytes of entries: which calls leave them, and which record they give back.
use Rattle.std.proofs.Common.{◌≡◌, inl, inr, ℕ, ◌<◌, Bool, true, false, cond, ◌||◌, ◌==◌, List, [], ◌∷◌, ◌++◌, Option, Some, None, option_map, IsSome, Result, Ok, Err, refl, sym, ap, subst, ◌∙◌, arith}
use Rattle.std.specs.Prelude.{Contains, IfSome}
use Rattle.std.specs.List.{AllByRecursion}
use Rattle.std.specs.FinMap as records
use Rattle.std.specs.FinMap.{get-insert, get-remove}
use Rattle.std.specs.Cmp.{nat_cmp_total}
use Rattle.std.proofs.lemmas.Bool.{eq-eqb, ne_eqb, both_ways}
use Rattle.std.proofs.lemmas.List.Folds.{list_any-append}
use Rattle.std.proofs.lemmas.List.Elements.{All-contains, All-from_recursion}
use Rattle.std.proofs.Math.Bool.{or-true}
use Rattle.fw_lemmas.proofs.Each.{each_of-map}
use Rattle.fw_lemmas.proofs.Orderings.{equal_by_cmp}
use Rattle.fw_flow.specs.Dataflow.{Dataflow}
use Rattle.fw_record.specs.declared.record.Record.{Record}
use Rattle.fw_record.specs.Sound.{IsSound}
use Rattle.fw_record.specs.Spelling.{spelling}
use Rattle.fw_record.proofs.RecordLaws.{one_spelling_lem}
use Rattle.fw_keep.specs.declared.entry.Entry.{Entry}
use Rattle.fw_keep.specs.declared.fault.KeepFault.{KeepFault}
use Rattle.fw_keep.specs.declared.fault.KeepFault.TheVariants as fault
use Rattle.fw_keep.specs.Entry.{IsRecordOfEntry}
use Rattle.fw_keep.specs.Catalogue.{KeepState, IsCatalogue, IsOnly, ids_of, is_id_among, has_entry}
use Rattle.fw_keep.specs.Stored.{Records, bytes_under, without_id, IsFreed, KeepsBytes, HoldsAs, GivesOnly, ReadsAs, without_ids, Sweeps}
use Rattle.fw_keep.proofs.IdLaws.{among-self, each-among}

-- ---- what stays

-- what holds of each of the ids of entries holds of the id of each entry
each-id : (P : ℕ → Type 0) (es : List Entry) (e : Entry) → AllByRecursion P (ids_of es) → Contains es e → P e.id
each-id P es e all there =
    All-contains (λ (x : Entry). P x.id) es e (All-from_recursion _ es (each_of-map P (λ (x : Entry). x.id) es all)) there

-- an entry's id is one of theirs
pub entry-there : (es : List Entry) (e : Entry) → Contains es e → has_entry e.id es ≡ true
entry-there es e there = each-id (λ id. has_entry id es ≡ true) es e (among-self (ids_of es)) there

-- where nothing changes
pub bytes-same : (es : List Entry) (old new : Option Records) → new ≡ old → KeepsBytes es old new
bytes-same es old new is = λ e there. ap (bytes_under e.id) is

kept-insert : (held : Records) (k : ℕ) (bytes : List ℕ) (q : ℕ) → (k == q) ≡ false → records.get (records.insert held k bytes) q ≡ records.get held q
kept-insert held k bytes q apart =
    get-insert nat_cmp_total held k bytes q ∙ ap (λ b. cond b (Some bytes) (records.get held q)) (equal_by_cmp q k ∙ apart)

kept-remove : (held : Records) (k q : ℕ) → (k == q) ≡ false → records.get (records.remove held k) q ≡ records.get held q
kept-remove held k q apart =
    get-remove nat_cmp_total held k q ∙ ap (λ b. cond b None (records.get held q)) (equal_by_cmp q k ∙ apart)

under-inserted : (all : Option Records) (k : ℕ) (bytes : List ℕ) (q : ℕ) → (k == q) ≡ false
    → bytes_under q (option_map (λ held. records.insert held k bytes) all) ≡ bytes_under q all
under-inserted None k bytes q apart = refl
under-inserted (Some held) k bytes q apart = kept-insert held k bytes q apart

-- bytes are put under the next id
pub bytes-put : (keep : KeepState) (bytes : List ℕ) (old new : Option Records) → IsCatalogue keep
    → new ≡ option_map (λ held. records.insert held keep.next bytes) old → KeepsBytes keep.entries old new
bytes-put keep bytes old new well is = λ e there.
    let below : e.id < keep.next = each-id (λ id. id < keep.next) keep.entries e well.drawn there in
    ap (bytes_under e.id) is ∙ under-inserted old keep.next bytes e.id (ne_eqb keep.next e.id (λ same. absurd (omega arith)))

under-removed : (all : Option Records) (k q : ℕ) → (k == q) ≡ false → bytes_under q (without_id k all) ≡ bytes_under q all
under-removed None k q apart = refl
under-removed (Some held) k q apart = kept-remove held k q apart

-- after a refusal those of the entries are there
pub bytes-freed : (keep : KeepState) (old new : Option Records) → IsCatalogue keep → IsFreed keep.shared keep.next old new → KeepsBytes keep.entries old new
bytes-freed keep old new well (inl same) = bytes-same keep.entries old new same
bytes-freed keep old new well (inr less) = λ e there.
    let below : e.id < keep.next = each-id (λ id. id < keep.next) keep.entries e well.drawn there in
    ap (bytes_under e.id) less.1 ∙ under-removed old keep.next e.id (ne_eqb keep.next e.id (λ same. absurd (omega arith)))

kept-one : (held less : Records) (x q : ℕ) (others : Bool) (b : Bool) → (x == q) ≡ b → (others ≡ false → records.get less q ≡ records.get held q) → (b || others) ≡ false
    → records.get (records.remove less x) q ≡ records.get held q
kept-one held less x q others true e rest none = absurd cc
kept-one held less x q others false e rest none = kept-remove less x q e ∙ rest none

kept-without_ids : (held : Records) (removed : List ℕ) (q : ℕ) → is_id_among q removed ≡ false → records.get (without_ids removed held) q ≡ records.get held q
kept-without_ids held [] q apart = refl
kept-without_ids held (x ∷ removed) q apart =
    kept-one held (without_ids removed held) x q (is_id_among q removed) (x == q) refl (λ none. kept-without_ids held removed q none) apart

pub under-without_ids : (all : Option Records) (removed : List ℕ) (q : ℕ) → is_id_among q removed ≡ false → bytes_under q (option_map (without_ids removed) all) ≡ bytes_under q all
under-without_ids None removed q apart = refl
under-without_ids (Some held) removed q apart = kept-without_ids held removed q apart

-- an entry's id does not wait
pub entry-apart : (keep : KeepState) (left removed : List ℕ) (e : Entry) → IsCatalogue keep → keep.waiting ≡ left ++ removed → Contains keep.entries e
    → is_id_among e.id removed ≡ false
entry-apart keep left removed e well parts there = by (is_id_among e.id removed) refl
  where
    by : (b : Bool) → is_id_among e.id removed ≡ b → b ≡ false
    by false is = refl
    by true is =
        let waits : is_id_among e.id keep.waiting ≡ true =
        ap (is_id_among e.id) parts ∙ list_any-append (λ (other : ℕ). other == e.id) left removed ∙ rw is (or-true (is_id_among e.id left)) in
        absurd (both_ways (has_entry e.id keep.entries) (each-among _ keep.waiting e.id well.apart waits) (entry-there keep.entries e there))

-- the bytes of what waits are removed
pub bytes-swept : (keep : KeepState) (left : List ℕ) (old new : Option Records) → IsCatalogue keep → Sweeps keep.waiting old left new → KeepsBytes keep.entries old new
bytes-swept keep left old new well s = λ e there.
    ap (bytes_under e.id) s.records ∙ under-without_ids old s.removed e.id (entry-apart keep left s.removed e well s.parts there)

-- ---- what is held

-- what is held as an entry's stays so where its bytes stay
pub held_stays : (flow : Dataflow) (old new : Option Records) (e : Entry) (r : Record) → bytes_under e.id new ≡ bytes_under e.id old → HoldsAs flow old e r
    → HoldsAs flow new e r
held_stays flow old new e r is h = record { sound = h.sound; of_entry = h.of_entry; bytes = is ∙ h.bytes }

under-put : (all : Option Records) (k : ℕ) (bytes : List ℕ) → IsSome all → bytes_under k (option_map (λ held. records.insert held k bytes) all) ≡ Some bytes
under-put None k bytes told = absurd cc
under-put (Some held) k bytes told =
    get-insert nat_cmp_total held k bytes k ∙ ap (λ b. cond b (Some bytes) (records.get held k)) (equal_by_cmp k k ∙ eq-eqb k k refl)

-- what was put is held as the entry's
pub held_put : (flow : Dataflow) (old new : Option Records) (e : Entry) (r : Record) → IsSome old → IsSound r → IsRecordOfEntry flow e r
    → new ≡ option_map (λ held. records.insert held e.id (spelling r)) old → HoldsAs flow new e r
held_put flow old new e r told sound of is = record {
  sound = sound;
  of_entry = of;
  bytes = ap (bytes_under e.id) is ∙ under-put old e.id (spelling r) told;
}

-- ---- what is given back

-- of two that have their bytes under one id one is the other
pub same-bytes : (all : Option Records) (id : ℕ) (some others : List ℕ) → IfSome all (λ held. records.get held id ≡ Some some) → bytes_under id all ≡ Some others
    → others ≡ some
same-bytes None id some others a b = absurd cc
same-bytes (Some held) id some others a b = some_is (sym b ∙ a)
  where
    some_is : Some others ≡ Some some → others ≡ some
    some_is e = cc

pub gives_back : (flow : Dataflow) (es : List Entry) (id : ℕ) (e : Entry) (bytes : List ℕ) (all : Option Records) (result : Result Record KeepFault) → IsOnly es id e
    → IfSome all (λ held. records.get held id ≡ Some bytes) → ReadsAs flow e bytes result
    → (other : Entry) (r : Record) → Contains es other → other.id ≡ id → HoldsAs flow all other r → GivesOnly r result
gives_back flow es id e bytes all result only got read other r there named held =
    by result read
  where
    is : other ≡ e
    is = only.only other there named

    spelled : bytes ≡ spelling r
    spelled = sym (same-bytes all id bytes (spelling r) got (ap (λ (n : ℕ). bytes_under n all) (sym named) ∙ held.bytes))

    by : (answer : Result Record KeepFault) → ReadsAs flow e bytes answer → GivesOnly r answer
    by (Ok q) read = one_spelling_lem q r read.0 held.sound (sym read.1 ∙ spelled)
    by (Err (fault.Damaged at kept)) read = read.2 r held.sound spelled (subst (λ (x : Entry). IsRecordOfEntry flow x r) is held.of_entry)
    by (Err fault.StoreFault) read = absurd read
    by (Err fault.NoMemory) read = tt

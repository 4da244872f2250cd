-- What a store has of the writes of an engine, and what stays of it.
use Rattle.std.proofs.Common.{◌≡◌, ◌⊎◌, inl, inr, ℕ, ◌<◌, ◌≤◌, true, List, [], ◌∷◌, map, Option, Some, None, IsSome, Result, Ok, Err, length, refl, sym, ap, subst, ◌∙◌, arith}
use Rattle.std.specs.FinMap as map_of
use Rattle.std.specs.List.{AllByRecursion}
use Rattle.std.specs.Option.{ForSome}
use Rattle.std.proofs.lemmas.Bool.{cases_lt}
use Rattle.fw_lemmas.proofs.Each.{each-weaker}
use Rattle.fw_outside.specs.Outside.{StayIfTold}
use Rattle.fw_outside.proofs.ToldLaws.{told-before}
use Rattle.fw_flow.specs.Dataflow.{Dataflow, System}
use Rattle.fw_flow.specs.WellFormed.{IsWellFormed}
use Rattle.fw_model.specs.Machine.{Machine}
use Rattle.fw_keep.specs.Catalogue.{KeepState, IsCatalogue, has_entry, ids_of}
use Rattle.fw_keep.specs.Stored.{Records, AreThere, IsStored, IsThereUnder, KeepsBytes, bytes_under}
use Rattle.fw_keep.specs.Stored as stored
use Rattle.fw_keep.specs.declared.entry.Entry.{Entry}
use Rattle.fw_keep.proofs.BytesLaws.{entry-there}
use Rattle.fw_keep.proofs.IdLaws.{among-self, each-among}
use Rattle.fw_root.specs.declared.root.NamedWrite.{NamedWrite}
use Rattle.fw_stands.specs.Written.{AreStored, uncollected}
use Rattle.fw_stands.proofs.EntrySteps.{kept_bytes_are_stored}
use Rattle.fw_running.specs.declared.fault.EngineFault.{EngineFault}
use Rattle.fw_running.specs.declared.running.Running.{Running}
use Rattle.fw_running.specs.declared.stepped.Stepped.{Stepped}
use Rattle.fw_running.specs.declared.stepped.Stepped.TheVariants.{Did, Idle}
use Rattle.fw_running.specs.Drawn.{DrawsAtMost, may_draw}
use Rattle.fw_running.specs.Stands.{Stands}
use Rattle.fw_running.proofs.SameStateLaws.{keep-stands}
use Rattle.fw_hold.specs.Engine.{EntriesAreThere, KeepsEntryBytes, KeepsOutside}

-- ---- a record under each entry's id

pub stored-there : (keep : KeepState) (records : Option Records) → IsStored keep records → EntriesAreThere keep records
stored-there keep records stored = λ held told.
    each-weaker (λ id. has_entry id keep.entries ≡ true) (λ id. IsSome (map_of.get held id)) (ids_of keep.entries) (λ id there. (stored held told).0 id there)
    (among-self (ids_of keep.entries))

pub there-stored : (keep : KeepState) (records : Option Records) → EntriesAreThere keep records → ForSome records (stored.HasEntries keep)
there-stored keep records there = λ held told id has. each-among (λ id. IsSome (map_of.get held id)) (ids_of keep.entries) id (there held told) has

-- where there is no entry, nothing need be there
pub none-there : (keep : KeepState) (records : Option Records) → keep.entries ≡ [] → EntriesAreThere keep records
none-there keep records none = subst (λ (es : List Entry). AreThere (ids_of es) records) (sym none) (λ held told. tt)

-- there is one under the id of each write
pub each-there : (records : Option Records) (ws : List NamedWrite) → AreThere (map (λ (w : NamedWrite). w.id) ws) records
    → AllByRecursion (λ (w : NamedWrite). IsThereUnder w.id records) ws
each-there records [] there = tt
each-there records (w ∷ ws) there = ((λ held told. (there held told).0), each-there records ws (λ held told. (there held told).1))

-- an entry's id was drawn
pub entry-drawn : (keep : KeepState) (id : ℕ) → IsCatalogue keep → has_entry id keep.entries ≡ true → id < keep.next
entry-drawn keep id well there = each-among (λ id. id < keep.next) (ids_of keep.entries) id well.drawn there

-- ---- what stays

-- records that are not told were not told
pub none-told : (records : Option Records) → records ≡ None → IsSome records → ⊥
none-told None is told = absurd (cc)
none-told (Some held) is told = absurd (cc)

pub stays-outside : (before after : Option Records) → StayIfTold before after → KeepsOutside 0 0 before after
stays-outside before after stay =
    record { told_before = told-before before after stay; others = λ told id apart. ap (bytes_under id) (stay told) }

-- each id is below the next one, or not
pub everywhere : {old new : KeepState} {before after : Option Records} (id : ℕ) → DrawsAtMost 0 old new before after → (id < old.next) ⊎ (new.next ≤ id)
everywhere {old} {new} id d = let few = d.few in elim (cases_lt id old.next) [
  | inl l ↦ inl l
  | inr m ↦ inr (omega (arith, few, m))
]

-- where no id was drawn all stays
pub none-outside : {old new : KeepState} {before mid after : Option Records} → StayIfTold before mid → DrawsAtMost 0 old new mid after
    → KeepsOutside 0 0 before after
none-outside {old} {new} {before} {mid} {after} stay d = record {
  told_before = λ told. told-before before mid stay (d.told_before told);
  others = λ told id apart. d.others told id (everywhere id d) ∙ ap (bytes_under id) (stay (d.told_before told));
}

pub same-next : {old new : KeepState} {before after : Option Records} → DrawsAtMost 0 old new before after → new.next ≡ old.next
same-next d = let few = d.few in let back = d.never_back in omega (arith, few, back)

-- where ids were drawn
pub drawn-outside : {n : ℕ} {old new : KeepState} {before after : Option Records} → DrawsAtMost n old new before after
    → KeepsOutside old.next new.next before after
drawn-outside d = record { told_before = d.told_before; others = d.others }

-- a step draws no more than there may be nodes
pub drawn-few : (flow : Dataflow) (result : Result Stepped EngineFault) → IsWellFormed flow → may_draw (length flow.nodes) result ≤ 256
drawn-few flow (Ok Idle) w = omega arith
drawn-few flow (Ok (Did shown)) w = w.limits.nodes
drawn-few flow (Err e) w = w.limits.nodes

pub idle-next : {old new : KeepState} {before after : Option Records} (n : ℕ) (result : Result Stepped EngineFault)
    → DrawsAtMost (may_draw n result) old new before after → result ≡ Ok Idle → new.next ≡ old.next
idle-next {old} {new} {before} {after} n result d e =
    same-next (subst (λ (r : Result Stepped EngineFault). DrawsAtMost (may_draw n r) old new before after) e d)

-- ---- whatever others put or remove

entry-bytes : (keep : KeepState) (old new : Records) → KeepsEntryBytes keep (Some old) (Some new) → KeepsBytes keep.entries (Some old) (Some new)
entry-bytes keep old new k = λ e there. k.entries refl e.id (entry-there keep.entries e there)

over-stored : (sys : System) (state : Machine) (keep : KeepState) (old new : Option Records) → KeepsEntryBytes keep old new
    → AreStored sys state old keep.entries (uncollected state) → AreStored sys state new keep.entries (uncollected state)
over-stored sys state keep old None k stored = λ held told. absurd (cc)
over-stored sys state keep None (Some new) k stored = let no = k.told_before refl in absurd (cc)
over-stored sys state keep (Some old) (Some new) k stored =
    kept_bytes_are_stored sys state keep.entries (uncollected state) (Some old) (Some new) (λ held. new) refl (entry-bytes keep old new k) stored

-- it stands where it stood
pub over-stands : (sys : System) (state : Machine) (running : Running) (old new : Option Records) → KeepsEntryBytes running.parts.keep old new
    → Stands sys running old state → Stands sys running new state
over-stands sys state running old new k s =
    keep-stands sys running running.parts.keep old new state s refl (over-stored sys state running.parts.keep old new k s.apart.stored)

-- and its entries are there
over-some : (id : ℕ) (old new : Records) → bytes_under id (Some new) ≡ bytes_under id (Some old) → IsSome (map_of.get old id) → IsSome (map_of.get new id)
over-some id old new same there = subst (λ (o : Option (List ℕ)). IsSome o) (sym same) there

pub over-there : (keep : KeepState) (old new : Option Records) → KeepsEntryBytes keep old new → EntriesAreThere keep old → EntriesAreThere keep new
over-there keep old None k there = λ held told. absurd (cc)
over-there keep None (Some new) k there = let no = k.told_before refl in absurd (cc)
over-there keep (Some old) (Some new) k there =
    stored-some keep new (λ id has. over-some id old new (k.entries refl id has) (there-stored keep (Some old) there old refl id has))
  where
    stored-some : (keep : KeepState) (new : Records) → ((id : ℕ) → has_entry id keep.entries ≡ true → IsSome (map_of.get new id)) → EntriesAreThere keep (Some new)
    stored-some keep new each = λ held told.
        let same : new ≡ held = cc in
        each-weaker (λ id. has_entry id keep.entries ≡ true) (λ id. IsSome (map_of.get held id)) (ids_of keep.entries)
        (λ id has. subst (λ (r : Records). IsSome (map_of.get r id)) same (each id has)) (among-self (ids_of keep.entries))

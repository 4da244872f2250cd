-- Writes that are named are there, and stay so.
use Rattle.std.proofs.Common.{ℕ, List, [], ◌∷◌, Option, Some, IsSome, refl, sym, subst}
use Rattle.std.specs.FinMap as map_of
use Rattle.std.specs.List.{AllByRecursion, AllZip, Contains}
use Rattle.std.proofs.lemmas.List.Elements.{All-contains, All-from_recursion}
use Rattle.fw_lemmas.proofs.Each.{each_of-map, each-there}
use Rattle.fw_flow.specs.Dataflow.{System}
use Rattle.fw_model.specs.Machine.{Machine, Write}
use Rattle.fw_keep.specs.declared.entry.Entry.{Entry}
use Rattle.fw_keep.specs.Catalogue.{ids_of}
use Rattle.fw_keep.specs.Stored.{Records}
use Rattle.fw_stands.specs.Written.{IsHeldAs}
use Rattle.fw_stands.proofs.EntrySteps.{kept_bytes_are_stored}
use Rattle.fw_named.specs.Named.{AreThereWhereNamed, StayNamed}

each-under : (sys : System) (state : Machine) (held : Records) (entries : List Entry) (writes : List Write) → AllZip (IsHeldAs sys state held) entries writes
    → AllByRecursion (λ id. IsSome (map_of.get held id)) (ids_of entries)
each-under sys state held [] [] h = tt
each-under sys state held [] (w ∷ ws) h = absurd h
each-under sys state held (e ∷ es) [] h = absurd h
each-under sys state held (e ∷ es) (w ∷ ws) h =
    (subst (λ (o : Option (List ℕ)). IsSome o) (sym h.0.of_entry.bytes) refl, each-under sys state held es ws h.1)

pub named-there : AreThereWhereNamed
named-there sys state root records n =
    λ held told. subst (λ ids. AllByRecursion (λ id. IsSome (map_of.get held id)) ids) n.ids (each-under sys state held n.entries _ (n.stored held told))

-- the id of an entry is one of the ids
id-there : (entries : List Entry) (e : Entry) → Contains entries e → Contains (ids_of entries) e.id
id-there entries e at =
    All-contains (λ (x : Entry). Contains (ids_of entries) x.id) entries e
    (All-from_recursion (λ (x : Entry). Contains (ids_of entries) x.id) entries (each_of-map (Contains (ids_of entries)) (λ (x : Entry). x.id) entries (each-there (ids_of entries)))) at

pub named-stay : StayNamed
named-stay sys state root old new same n = record {
  entries = n.entries;
  ids = n.ids;
  stand = n.stand;
  bases = n.bases;
  stored = kept_bytes_are_stored sys state n.entries _ (Some old) (Some new) (λ held. new) refl
      (λ e there. same e.id (subst (λ ids. Contains ids e.id) n.ids (id-there n.entries e there))) n.stored;
}

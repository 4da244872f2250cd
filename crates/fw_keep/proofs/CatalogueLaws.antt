-- What each call keeps of a catalogue.
use Rattle.std.proofs.Common.{◌≡◌, ℕ, ◌<◌, ◌≤◌, Bool, false, not, ◌==◌, List, [], ◌∷◌, ◌++◌, filter, refl, sym, ap, subst, ◌∙◌, arith}
use Rattle.std.specs.List.{AllByRecursion}
use Rattle.fw_keep.specs.declared.entry.Entry.{Entry}
use Rattle.fw_keep.specs.Catalogue.{KeepState, IsCatalogue, ids_of, is_id_among, has_entry, AreDistinct, persisted, without}
use Rattle.std.proofs.lemmas.Bool.{both_ways, eq-eqb, ne_eqb}
use Rattle.fw_lemmas.proofs.Each.{each-weaker, each-append, each-prefix, each-kept}
use Rattle.fw_keep.proofs.IdLaws.{or_left, or_right, among-append, distinct-prefix, ids-more, ascending-distinct, ascending-more, distinct-append, ascending-kept, ids-kept, none_kept, none_goes, gone-apart, ids-persisted, depths-persisted}

-- states with the same parts are one
pub same-state : (a b : KeepState) → a.entries ≡ b.entries → a.next ≡ b.next → a.waiting ≡ b.waiting → a.refused ≡ b.refused → a.shared ≡ b.shared → a ≡ b
same-state a b entries next waiting refused shared =
    ap (λ (x : List Entry). let k : KeepState = record { entries = x; next = a.next; waiting = a.waiting; refused = a.refused; shared = a.shared } in k) entries
    ∙ ap (λ (x : ℕ). let k : KeepState = record { entries = b.entries; next = x; waiting = a.waiting; refused = a.refused; shared = a.shared } in k) next
    ∙ ap (λ (x : List ℕ). let k : KeepState = record { entries = b.entries; next = b.next; waiting = x; refused = a.refused; shared = a.shared } in k) waiting
    ∙ ap (λ (x : Bool). let k : KeepState = record { entries = b.entries; next = b.next; waiting = b.waiting; refused = x; shared = a.shared } in k) refused
    ∙ ap (λ (x : Bool). let k : KeepState = record { entries = b.entries; next = b.next; waiting = b.waiting; refused = b.refused; shared = x } in k) shared

-- ids are drawn, and memory may be refused
pub catalogue-drawn : (keep : KeepState) (next : ℕ) (refused : Bool) → keep.next ≤ next → IsCatalogue keep → IsCatalogue (record keep { next = next; refused = refused })
catalogue-drawn keep next refused le h = record {
  ascending = h.ascending;
  distinct = h.distinct;
  apart = h.apart;
  drawn = each-weaker _ _ (ids_of keep.entries) (λ id l. omega arith) h.drawn;
  waiting_drawn = each-weaker _ _ keep.waiting (λ id l. omega arith) h.waiting_drawn;
  depths = h.depths;
}

-- an entry is added under the next id
pub catalogue-added : (keep : KeepState) (e : Entry) (next : ℕ) → e.id ≡ keep.next → e.depth ≤ e.id → keep.next < next → IsCatalogue keep
    → IsCatalogue (record keep { entries = keep.entries ++ e ∷ []; next = next })
catalogue-added keep e next same depths le h = record {
  ascending = rw (ids-more keep.entries e, same) (ascending-more (ids_of keep.entries) keep.next h.ascending h.drawn);
  distinct = h.distinct;
  apart = apart_of keep.waiting h.apart h.waiting_drawn;
  drawn = rw (ids-more keep.entries e, same) (each-append _ (ids_of keep.entries) (keep.next ∷ []) (each-weaker _ _ (ids_of keep.entries) (λ id l. omega arith) h.drawn) (omega arith, tt));
  waiting_drawn = each-weaker _ _ keep.waiting (λ id l. omega arith) h.waiting_drawn;
  depths = each-append _ keep.entries (e ∷ []) h.depths (depths, tt);
}
  where
    apart_of : (ids : List ℕ) → AllByRecursion (λ id. has_entry id keep.entries ≡ false) ids → AllByRecursion (λ id. id < keep.next) ids
        → AllByRecursion (λ id. has_entry id (keep.entries ++ e ∷ []) ≡ false) ids
    apart_of [] a b = tt
    apart_of (id ∷ ids) a b =
        (rw (ids-more keep.entries e) (among-append id (ids_of keep.entries) (e.id ∷ []) a.0 (rw (ne_eqb e.id id (λ equal. absurd (omega arith))) refl)), apart_of ids a.1 b.1)

-- the entry of a record that was read is added
pub catalogue-read : (keep : KeepState) (e : Entry) → AllByRecursion (λ id. id < e.id) (ids_of keep.entries) → e.id < keep.next → is_id_among e.id keep.waiting ≡ false
    → e.depth ≤ e.id → IsCatalogue keep → IsCatalogue (record keep { entries = keep.entries ++ e ∷ [] })
catalogue-read keep e above drawn free depths h = record {
  ascending = rw (ids-more keep.entries e) (ascending-more (ids_of keep.entries) e.id h.ascending above);
  distinct = h.distinct;
  apart = apart_of keep.waiting h.apart free;
  drawn = rw (ids-more keep.entries e) (each-append _ (ids_of keep.entries) (e.id ∷ []) h.drawn (drawn, tt));
  waiting_drawn = h.waiting_drawn;
  depths = each-append _ keep.entries (e ∷ []) h.depths (depths, tt);
}
  where
    other : (id : ℕ) → (id == e.id) ≡ false → (e.id == id) ≡ false
    other id apart = ne_eqb e.id id (λ same. absurd (both_ways (id == e.id) apart (eq-eqb id e.id (sym same))))

    apart_of : (ids : List ℕ) → AllByRecursion (λ id. has_entry id keep.entries ≡ false) ids → is_id_among e.id ids ≡ false
        → AllByRecursion (λ id. has_entry id (keep.entries ++ e ∷ []) ≡ false) ids
    apart_of [] a b = tt
    apart_of (id ∷ ids) a b =
        (rw (ids-more keep.entries e) (among-append id (ids_of keep.entries) (e.id ∷ []) a.0 (rw (other id (or_left (id == e.id) (is_id_among e.id ids) b)) refl)), apart_of ids a.1 (or_right (id == e.id) (is_id_among e.id ids) b))

-- entries go
pub catalogue-without : (goes : Entry → Bool) (keep : KeepState) → IsCatalogue keep → IsCatalogue (without goes keep)
catalogue-without goes keep h =
    let gone : List Entry = filter goes keep.entries in
    record {
      ascending = ascending-kept (λ e. not (goes e)) keep.entries h.ascending;
      distinct = distinct-append keep.waiting (ids_of gone) h.distinct (ascending-distinct (ids_of gone) (ascending-kept goes keep.entries h.ascending))
          (each-weaker _ _ keep.waiting (λ id none. none_goes goes keep.entries id none) h.apart);
      apart = each-append _ keep.waiting (ids_of gone) (each-weaker _ _ keep.waiting (λ id none. none_kept goes keep.entries id none) h.apart) (gone-apart goes keep.entries h.ascending);
      drawn = ids-kept _ (λ e. not (goes e)) keep.entries h.drawn;
      waiting_drawn = each-append _ keep.waiting (ids_of gone) h.waiting_drawn (ids-kept _ goes keep.entries h.drawn);
      depths = each-kept _ (λ e. not (goes e)) keep.entries h.depths;
    }

-- a write is acknowledged
pub catalogue-persisted : (keep : KeepState) → IsCatalogue keep → IsCatalogue (record keep { entries = persisted keep.entries })
catalogue-persisted keep h =
    let ids : ids_of (persisted keep.entries) ≡ ids_of keep.entries = ids-persisted keep.entries in
    record {
      ascending = rw ids h.ascending;
      distinct = h.distinct;
      apart = subst (λ (all : List ℕ). AllByRecursion (λ id. is_id_among id all ≡ false) keep.waiting) (sym ids) h.apart;
      drawn = rw ids h.drawn;
      waiting_drawn = h.waiting_drawn;
      depths = depths-persisted keep.entries h.depths;
    }

-- some of what waited is left
pub catalogue-swept : (keep : KeepState) (left removed : List ℕ) (refused : Bool) → keep.waiting ≡ left ++ removed → IsCatalogue keep
    → IsCatalogue (record keep { waiting = left; refused = refused })
catalogue-swept keep left removed refused parts h = record {
  ascending = h.ascending;
  distinct = distinct-prefix left removed (subst AreDistinct parts h.distinct);
  apart = each-prefix _ left removed (subst (AllByRecursion (λ id. has_entry id keep.entries ≡ false)) parts h.apart);
  drawn = h.drawn;
  waiting_drawn = each-prefix _ left removed (subst (AllByRecursion (λ id. id < keep.next)) parts h.waiting_drawn);
  depths = h.depths;
}

-- What is found of roots in a store, and what putting one changes.
use Rattle.std.proofs.Common.{◌≡◌, inl, inr, ℕ, ◌-◌, ◌%◌, ◌^◌, ◌==◌, Bool, true, false, cond, List, Option, Some, None, option_map, is_some, IfSome, IsSome, refl, sym, ◌∙◌, ap, subst}
use Rattle.std.specs.FinMap as map_of
use Rattle.std.specs.FinMap.{get-insert, get-remove}
use Rattle.std.specs.Cmp.{nat_cmp_total}
use Rattle.std.specs.Option.{ForSome}
use Rattle.std.proofs.lemmas.Bool.{eq-eqb, ne_eqb}
use Rattle.std.proofs.lemmas.Option.{same_Some}
use Rattle.fw_lemmas.proofs.Orderings.{equal_by_cmp}
use Rattle.fw_outside.specs.Outside.{StayIfTold}
use Rattle.fw_outside.proofs.ToldLaws.{told-before}
use Rattle.fw_keep.specs.Stored.{Records, bytes_under}
use Rattle.fw_hold.specs.Found.{ChangesOnly}
use Rattle.fw_hold.specs.Kept.{root_id}
use Rattle.fw_hold.proofs.RootIdLaws.{rest}

-- ---- the id of a turn

pub root_id-test : (turn : ℕ) → cond (turn % 2 == 0) (2 ^ 64 - 1) (2 ^ 64 - 1 - 1) ≡ root_id turn
root_id-test turn = elim (rest turn) [
  | inl e ↦ subst (λ r. cond (r == 0) (2 ^ 64 - 1) (2 ^ 64 - 1 - 1) ≡ 2 ^ 64 - 1 - r) (sym e) refl
  | inr e ↦ subst (λ r. cond (r == 0) (2 ^ 64 - 1) (2 ^ 64 - 1 - 1) ≡ 2 ^ 64 - 1 - r) (sym e) refl
]

-- ---- what a call changes

pub changes-none : (id : ℕ) (old new : Option Records) → StayIfTold old new → ChangesOnly id old new
changes-none id old new stay = record {
  told_before = told-before old new stay;
  others = λ told other apart. ap (bytes_under other) (stay told);
}

pub changes-same : (id : ℕ) (old new : Option Records) → new ≡ old → ChangesOnly id old new
changes-same id old new is = changes-none id old new (λ told. is)

pub changes-then : (id : ℕ) (first mid last : Option Records) → ChangesOnly id first mid → ChangesOnly id mid last → ChangesOnly id first last
changes-then id first mid last one other = record {
  told_before = λ told. one.told_before (other.told_before told);
  others = λ told q apart. other.others told q apart ∙ one.others (other.told_before told) q apart;
}

get_inserted : (held : Records) (id : ℕ) (bytes : List ℕ) (q : ℕ) → (q ≡ id → ⊥) → map_of.get (map_of.insert held id bytes) q ≡ map_of.get held q
get_inserted held id bytes q apart =
    get-insert nat_cmp_total held id bytes q ∙ ap (λ b. cond b (Some bytes) (map_of.get held q)) (equal_by_cmp q id ∙ ne_eqb id q (λ e. apart (sym e)))

get_removed : (held : Records) (id q : ℕ) → (q ≡ id → ⊥) → map_of.get (map_of.remove held id) q ≡ map_of.get held q
get_removed held id q apart =
    get-remove nat_cmp_total held id q ∙ ap (λ b. cond b None (map_of.get held q)) (equal_by_cmp q id ∙ ne_eqb id q (λ e. apart (sym e)))

none_told : (new : Option Records) → new ≡ None → IsSome new → ⊥
none_told new is told = let h : IsSome {T = Records} None = subst (λ (o : Option Records). IsSome o) is told in absurd (cc)

pub changes-put : (id : ℕ) (bytes : List ℕ) (old new : Option Records) → new ≡ option_map (λ held. map_of.insert held id bytes) old → ChangesOnly id old new
changes-put id bytes None new is = record {
  told_before = λ told. absurd (none_told new is told);
  others = λ told other apart. absurd (none_told new is told);
}
changes-put id bytes (Some held) new is = record {
  told_before = λ told. refl;
  others = λ told other apart. ap (bytes_under other) is ∙ get_inserted held id bytes other apart;
}

pub changes-removed : (id : ℕ) (old new : Option Records) → new ≡ option_map (λ held. map_of.remove held id) old → ChangesOnly id old new
changes-removed id None new is = record {
  told_before = λ told. absurd (none_told new is told);
  others = λ told other apart. absurd (none_told new is told);
}
changes-removed id (Some held) new is = record {
  told_before = λ told. refl;
  others = λ told other apart. ap (bytes_under other) is ∙ get_removed held id other apart;
}

-- what was put is there
pub put-there : (id : ℕ) (bytes : List ℕ) (old new : Option Records) → new ≡ option_map (λ held. map_of.insert held id bytes) old
    → ForSome new (λ held. map_of.get held id ≡ Some bytes)
put-there id bytes None new is = λ told e. absurd (let h : Some told ≡ None = sym e ∙ is in cc)
put-there id bytes (Some held) new is = λ told e.
    let same : map_of.insert held id bytes ≡ told = same_Some (map_of.insert held id bytes) told (sym is ∙ e) in
    ap (λ m. map_of.get m id) (sym same)
    ∙ get-insert nat_cmp_total held id bytes id ∙ ap (λ b. cond b (Some bytes) (map_of.get held id)) (equal_by_cmp id id ∙ eq-eqb id id refl)

-- what was removed is gone
pub removed-gone : (id : ℕ) (old new : Option Records) → new ≡ option_map (λ held. map_of.remove held id) old → ForSome new (λ held. map_of.get held id ≡ None)
removed-gone id None new is = λ told e. absurd (let h : Some told ≡ None = sym e ∙ is in cc)
removed-gone id (Some held) new is = λ told e.
    let same : map_of.remove held id ≡ told = same_Some (map_of.remove held id) told (sym is ∙ e) in
    ap (λ m. map_of.get m id) (sym same)
    ∙ get-remove nat_cmp_total held id id ∙ ap (λ b. cond b None (map_of.get held id)) (equal_by_cmp id id ∙ eq-eqb id id refl)

-- ---- a place is made for a root

-- under the id is nothing any more, and else nothing changed
pub record IsCleared (id : ℕ) (old mid : Option Records) : Type 0 where
  pub changes : ChangesOnly id old mid
  pub gone : ForSome mid (λ held. map_of.get held id ≡ None)

-- what was there was removed
pub cleared_removed : (id : ℕ) (old has new : Option Records) → has ≡ old → new ≡ option_map (λ held. map_of.remove held id) has → IsCleared id old new
cleared_removed id old has new stay is = record {
  changes = changes-then id old has new (changes-same id old has stay) (changes-removed id has new is);
  gone = removed-gone id has new is;
}

is_none : (o : Option (List ℕ)) (there : Bool) → there ≡ false → there ≡ is_some o → o ≡ None
is_none None there e f = refl
is_none (Some bytes) there e f = absurd (let no : false ≡ true = sym e ∙ f in cc)

-- nothing was there
pub cleared_none : (id : ℕ) (old has : Option Records) (there : Bool) → has ≡ old → there ≡ false → IfSome has (λ held. there ≡ is_some (map_of.get held id)) → IsCleared id old has
cleared_none id old None there stay e f = record {
  changes = changes-same id old None stay;
  gone = λ held told. absurd (let no : None ≡ Some held = told in cc);
}
cleared_none id old (Some held) there stay e f = record {
  changes = changes-same id old (Some held) stay;
  gone = λ other told. ap (λ m. map_of.get m id) (sym (same_Some held other told)) ∙ is_none (map_of.get held id) there e f;
}

-- nothing is under the id
pub gone_under : (id : ℕ) (records : Option Records) → ForSome records (λ held. map_of.get held id ≡ None) → bytes_under id records ≡ None
gone_under id None gone = refl
gone_under id (Some held) gone = gone held refl

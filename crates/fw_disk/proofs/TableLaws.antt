-- The digests under an id, as lines are taken out.
use Rattle.std.proofs.Common.{◌≡◌, ℕ, ◌==◌, Bool, false, cond, not, List, [], ◌∷◌, Option, Some, None, Vec, vec_len, length, option_map, refl, sym, ap, ◌∙◌, arith}
use Rattle.std.proofs.lemmas.Bool.Decides.{nat_tests}
use Rattle.std.proofs.lemmas.Map.Entries.{option_filter, lookup-filter-values}
use Rattle.std.proofs.lemmas.Map.Keys.{IsDistinct-from_sorted}
use Rattle.std.specs.Prelude.{unwrap_or}
use Rattle.std.specs.List.{filter}
use Rattle.std.specs.List.Sorted.{IsStrictlySortedBy}
use Rattle.std.specs.Map.{lookup, keys_of}
use Rattle.std.specs.BTreeMap.{BTreeMap}
use Rattle.std.specs.Ordering.{nat_cmp, eq_by_cmp}
use Rattle.std.specs.Cmp.{nat_cmp_total, eq_by_cmp_equiv}
use Rattle.std.specs.declared.alloc.Global.{Global}
use Rattle.fw_disk.specs.RunLines.{digests_under}

abbrev pub Digests : Type 0
Digests = Vec (List ℕ) Global

abbrev pub Table : Type 0
Table = BTreeMap ℕ Digests

abbrev pub is_some_left : Digests → Bool
is_some_left digests = not (vec_len digests == 0)

abbrev pub listed : Option Digests → List (List ℕ)
listed o = unwrap_or (option_map (λ (digests : Digests). digests.items) o) []

not_empty : (d : List ℕ) (ds : List (List ℕ)) → (length (d ∷ ds) == 0) ≡ false
not_empty d ds = grind (arith, nat_tests)

listed-filter : (o : Option Digests) → listed (option_filter is_some_left o) ≡ listed o
listed-filter None = refl
listed-filter (Some v) = by v.items refl
  where
    of_some : (ds : List (List ℕ)) → v.items ≡ ds → listed (cond (not (length ds == 0)) (Some v) None) ≡ v.items
    of_some [] e = sym e
    of_some (d ∷ ds) e = ap (λ b. listed (cond (not b) (Some v) None)) (not_empty d ds)

    by : (ds : List (List ℕ)) → v.items ≡ ds → listed (option_filter is_some_left (Some v)) ≡ v.items
    by ds e = ap (λ n. listed (cond (not (n == 0)) (Some v) None)) (v.ok.0 ∙ ap length e) ∙ of_some ds e

-- those of no digest may go
pub under-filter : (t u : Table) → IsStrictlySortedBy nat_cmp (keys_of t.entries) → u.entries ≡ filter (λ e. is_some_left e.1) t.entries
    → (id : ℕ) → digests_under u id ≡ digests_under t id
under-filter t u sorted is id =
    ap (λ es. listed (lookup (eq_by_cmp nat_cmp id) es)) is
    ∙ ap listed (lookup-filter-values (eq_by_cmp_equiv nat_cmp_total) is_some_left id t.entries (IsDistinct-from_sorted nat_cmp (keys_of t.entries) sorted))
    ∙ listed-filter (lookup (eq_by_cmp nat_cmp id) t.entries)

-- The finite map of a store's entries answers, changes and grows as the entries do.
use Rattle.std.proofs.Common.{◌≡◌, ℕ, Bool, true, false, cond, List, [], ◌∷◌, map, Option, Some, None, is_some, option_map, refl, sym, ap, ◌∙◌, Vec, nat_cmp}
use Rattle.std.specs.Ordering.{eq_by_cmp}
use Rattle.std.specs.Map.{lookup}
use Rattle.std.specs.BTreeMap.{is_at}
use Rattle.std.specs.Cmp.{nat_cmp_total, eq_by_cmp_equiv}
use Rattle.std.specs.FinMap.{find, get, insert, remove, get-from_entries, get-insert, get-remove, same_map, nat_cmp-IsAntisymmetric}
use Rattle.std.specs.declared.alloc.Global.{Global}
use Rattle.fw_outside.specs.Memory.{record_map}

abbrev Entries : Type 0
Entries = List (ℕ × Vec ℕ Global)

-- what the entries hold under an id, as bytes
abbrev bytes_at : Entries → ℕ → Option (List ℕ)
bytes_at es q = option_map (λ v. v.items) (lookup (is_at (nat_cmp q)) es)

find_bytes : (es : Entries) (q : ℕ) → find nat_cmp q (map (λ e. (e.0, e.1.items)) es) ≡ bytes_at es q
find_bytes [] q = refl
find_bytes (e ∷ es) q =
    elim (is_at (nat_cmp q) e.0) as (λ b. cond b (Some e.1.items) (find nat_cmp q (map (λ e. (e.0, e.1.items)) es)) ≡ option_map (λ (v : Vec ℕ Global). v.items) (cond b (Some e.1) (lookup (is_at (nat_cmp q)) es))) [
      | true ↦ refl
      | false ↦ find_bytes es q
    ]

-- what the map has under an id
pub get-record_map : (es : Entries) (q : ℕ) → get (record_map es) q ≡ bytes_at es q
get-record_map es q = get-from_entries nat_cmp_total _ q ∙ find_bytes es q

-- whether it has something there
pub has-record_map : (es : Entries) (q : ℕ) → is_some (get (record_map es) q) ≡ is_some (lookup (is_at (nat_cmp q)) es)
has-record_map es q = ap (λ (o : Option (List ℕ)). is_some o) (get-record_map es q) ∙ as_there (lookup (is_at (nat_cmp q)) es)
  where
    as_there : (o : Option (Vec ℕ Global)) → is_some (option_map (λ (w : Vec ℕ Global). w.items) o) ≡ is_some o
    as_there None = refl
    as_there (Some v) = refl

-- entries that differ at one id make maps that differ there
pub record_map-put : (es fs : Entries) (id : ℕ) (v : Vec ℕ Global) → ((q : ℕ) → lookup (is_at (nat_cmp q)) fs ≡ cond (is_at (nat_cmp id) q) (Some v) (lookup (is_at (nat_cmp q)) es)) → record_map fs ≡ insert (record_map es) id v.items
record_map-put es fs id v h = same_map nat_cmp_total nat_cmp-IsAntisymmetric _ _ (λ q.
    get-record_map fs q ∙ ap (option_map (λ (w : Vec ℕ Global). w.items)) (h q) ∙ ap (λ b. option_map (λ (w : Vec ℕ Global). w.items) (cond b (Some v) (lookup (is_at (nat_cmp q)) es))) ((eq_by_cmp_equiv nat_cmp_total).symm id q)
    ∙ within (eq_by_cmp nat_cmp q id) v (lookup (is_at (nat_cmp q)) es)
    ∙ sym (get-insert nat_cmp_total (record_map es) id v.items q ∙ ap (cond (eq_by_cmp nat_cmp q id) (Some v.items)) (get-record_map es q)))
  where
    within : (b : Bool) (v : Vec ℕ Global) (o : Option (Vec ℕ Global)) → option_map (λ (w : Vec ℕ Global). w.items) (cond b (Some v) o) ≡ cond b (Some v.items) (option_map (λ (w : Vec ℕ Global). w.items) o)
    within true v o = refl
    within false v o = refl

-- the same where one id is taken out
pub record_map-removed : (es fs : Entries) (id : ℕ) → ((q : ℕ) → lookup (is_at (nat_cmp q)) fs ≡ cond (is_at (nat_cmp id) q) None (lookup (is_at (nat_cmp q)) es)) → record_map fs ≡ remove (record_map es) id
record_map-removed es fs id h = same_map nat_cmp_total nat_cmp-IsAntisymmetric _ _ (λ q.
    get-record_map fs q ∙ ap (option_map (λ (w : Vec ℕ Global). w.items)) (h q) ∙ ap (λ b. option_map (λ (w : Vec ℕ Global). w.items) (cond b None (lookup (is_at (nat_cmp q)) es))) ((eq_by_cmp_equiv nat_cmp_total).symm id q)
    ∙ within (eq_by_cmp nat_cmp q id) (lookup (is_at (nat_cmp q)) es)
    ∙ sym (get-remove nat_cmp_total (record_map es) id q ∙ ap (cond (eq_by_cmp nat_cmp q id) None) (get-record_map es q)))
  where
    within : (b : Bool) (o : Option (Vec ℕ Global)) → option_map (λ (w : Vec ℕ Global). w.items) (cond b None o) ≡ cond b None (option_map (λ (w : Vec ℕ Global). w.items) o)
    within true o = refl
    within false o = refl

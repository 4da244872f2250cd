-- What a claim on a folder has of the lines of `run`.
use Rattle.std.proofs.Common.{◌≡◌, ℕ, Option, Some, None, option_map, refl, sym, subst, ◌∙◌, eqb-true}
use Rattle.std.specs.Prelude.{is_some, IsSome}
use Rattle.std.specs.List.{AllByRecursion, Contains}
use Rattle.std.specs.Map.{lookup, keys_of}
use Rattle.std.specs.Ordering.{nat_cmp, eq_by_cmp}
use Rattle.std.specs.Cmp.{unsigned_tied}
use Rattle.std.proofs.lemmas.Map.Views.{Contains-keys_from_lookup}
use Rattle.fw_disk.specs.RunLines.{digests_of, digests_under, MayStand, StandByLines}
use Rattle.fw_disk.proofs.TableLaws.{Digests, Table}

pub same_stand : (lines old new : Table) → ((id : ℕ) → digests_under new id ≡ digests_under old id) → StandByLines lines old → StandByLines lines new
same_stand lines old new same stand id = subst (AllByRecursion (MayStand lines id)) (sym (same id)) (stand id)

-- ---- an id that has a line is among the keys

is_there : (o : Option Digests) → is_some (option_map (λ (digests : Digests). digests.items) o) ≡ is_some o
is_there None = refl
is_there (Some digests) = refl

pub key_there : (lines : Table) (id : ℕ) → IsSome (digests_of lines id) → Contains (keys_of lines.entries) id
key_there lines id some =
    Contains-keys_from_lookup (λ x y e. eqb-true x y (sym (unsigned_tied x y) ∙ e)) id lines.entries (sym (is_there (lookup (eq_by_cmp nat_cmp id) lines.entries)) ∙ some)

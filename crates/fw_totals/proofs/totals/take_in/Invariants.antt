use Rattle.std.proofs.Common.{◌≡◌, ℕ, true}
use Rattle.std.specs.Option.{is_some}
use Rattle.std.specs.Ordering.{nat_cmp}
use Rattle.std.specs.List.Sorted.{IsStrictlySortedBy}
use Rattle.std.specs.Map.{keys_of, lookup}
use Rattle.std.specs.BTreeMap.{get, is_at}
use Rattle.fw_totals.specs.Totals.{combined}
use Rattle.fw_totals.specs.Totals.{found}
use Rattle.fw_totals.proofs.totals.take_in.Given as goal

abbrev pub invariant-loop-key : goal.invariant-loop-key
invariant-loop-key l = record {
  ordered : IsStrictlySortedBy nat_cmp (keys_of l.key-iterator);
  kept : (q : ℕ) → is_some (get nat_cmp l.initial.totals q) ≡ true → is_some (get nat_cmp l.totals q) ≡ true;
  among : (q : ℕ) → is_some (lookup (is_at (nat_cmp q)) l.key-iterator) ≡ true → is_some (get nat_cmp l.sums q) ≡ true;
  to_come : (q : ℕ) → combined (found l.totals q) (lookup (is_at (nat_cmp q)) l.key-iterator) ≡ combined (found l.initial.totals q) (get nat_cmp l.sums q);
}

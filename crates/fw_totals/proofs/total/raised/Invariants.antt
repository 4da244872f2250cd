use Rattle.std.proofs.Common.{◌≡◌, ◌||◌, ◌++◌, ℕ, true}
use Rattle.std.specs.Option.{is_some}
use Rattle.std.specs.Ordering.{nat_cmp}
use Rattle.std.specs.Map.{lookup}
use Rattle.std.specs.BTreeMap.{get, is_at}
use Rattle.fw_totals.specs.Totals.{found, raised_recs}
use Rattle.fw_totals.proofs.total.raised.Given as goal

abbrev pub invariant-loop-key : goal.invariant-loop-key
invariant-loop-key l = record {
  recs : l.recs ++ raised_recs l.initial.totals l.key-iterator ≡ raised_recs l.initial.totals l.sums.entries;
  same : (q : ℕ) → found l.totals q ≡ found l.initial.totals q;
  room : (q : ℕ) → is_some (get nat_cmp l.sums q) ≡ true → (is_some (lookup (is_at (nat_cmp q)) l.key-iterator) || is_some (get nat_cmp l.totals q)) ≡ true;
}

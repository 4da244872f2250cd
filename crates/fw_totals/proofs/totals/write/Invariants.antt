use Rattle.std.proofs.Common.{◌≡◌, ℕ, true, List, length}
use Rattle.std.specs.Option.{is_some}
use Rattle.std.specs.Ordering.{nat_cmp}
use Rattle.std.specs.BTreeMap.{get}
use Rattle.fw_bag.specs.declared.rec.Rec.{Rec}
use Rattle.fw_bag.specs.Keyed.{has_key}
use Rattle.fw_totals.specs.Totals.{found, written, AreSumsIn}
use Rattle.fw_totals.proofs.totals.write.Given as goal

abbrev pub invariant-loop-first : goal.invariant-loop-first
invariant-loop-first l = record {
  kept : (q : ℕ) → is_some (get nat_cmp l.initial.totals q) ≡ true → is_some (get nat_cmp l.totals q) ≡ true;
  among : (q : ℕ) → has_key q l.rest ≡ true → has_key q l.recs ≡ true;
  sums : (rs : List Rec) → AreSumsIn rs l.recs → AreSumsIn rs l.rest;
  to_come : (rs : List Rec) → AreSumsIn rs l.recs
      → (q : ℕ) → written rs l.rest (found l.totals q) q ≡ written rs l.recs (found l.initial.totals q) q;
}

abbrev pub decreases-loop-first : goal.decreases-loop-first
decreases-loop-first l = length l.rest

use Rattle.std.proofs.Common.{◌≡◌, List, Option, None, not, sym, ap, subst}
use Rattle.std.specs.Map.{lookup}
use Rattle.std.specs.BTreeMap.{get, is_at}
use Rattle.fw_bag.specs.declared.rec.Rec.{Rec}
use Rattle.fw_bag.specs.Arrivals.{arrivals_at, arrivals_inside, recs_of}
use Rattle.fw_table.specs.declared.sums.Sums.{Sums}
use Rattle.fw_table.specs.Content.{IsContentOf}
use Rattle.fw_bag.proofs.ArrivalLaws.{none_outside, all_inside}
use Rattle.fw_totals.specs.Settling.{holds_sums}
use Rattle.fw_totals.specs.Totals.{HasTotals}
use Rattle.fw_totals.proofs.settling.Settling.from_state.Goals as goal

pub returns : goal.returns
returns g c = λ inside came in' times e.
    let Q : List Rec → Type 0 = λ rs. HasTotals c.in_ok-settled.settled rs in
    record {
      outside = λ t.
          let none : get g.T.Ord.cmp c.new.result t ≡ None = ap (lookup (is_at (g.T.Ord.cmp t))) c.new.ensures.empty in
          let P : Option Sums → Type 0 = λ o. IsContentOf holds_sums o (arrivals_at (g.T.Time.coords t) (arrivals_inside (λ s. not (inside s)) came)) in
          subst P (sym none) (ap (arrivals_at (g.T.Time.coords t)) (none_outside inside came in'));
      totals = subst Q (sym (all_inside inside came in')) (c.in_ok-settled.ensures (recs_of came) e);
      times = times;
    }

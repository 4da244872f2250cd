use Rattle.std.proofs.Common.{◌≡◌, [], ◌∷◌, Option, None, not, refl, sym, ap, subst}
use Rattle.std.specs.Ordering.{nat_cmp}
use Rattle.std.specs.Map.{lookup}
use Rattle.std.specs.BTreeMap.{get, is_at}
use Rattle.fw_time.specs.declared.time.Epoch.{Epoch}
use Rattle.fw_bag.specs.Arrivals.{arrivals_at, arrivals_inside}
use Rattle.fw_table.specs.Content.{IsContentOf}
use Rattle.fw_bag.proofs.ArrivalLaws.{none_outside}
use Rattle.fw_numbered.specs.declared.sequence.Held.{Held}
use Rattle.fw_numbered.specs.Sequence.{holds_bag}
use Rattle.fw_numbered.proofs.sequence.Sequence.from_state.Goals as goal

pub returns-clause-table : goal.returns-clause-table
returns-clause-table c = λ gone came in'.
    record {
      waiting = λ t.
          let none : get (λ (x y : Epoch). nat_cmp x.0 y.0) c.new.result t ≡ None = ap (lookup (is_at (λ (y : Epoch). nat_cmp t.0 y.0))) c.new.ensures.empty in
          let P : Option Held → Type 0 = λ o. IsContentOf holds_bag o (arrivals_at (t.0 ∷ []) (arrivals_inside (λ s. not (gone s)) came)) in
          subst P (sym none) (ap (arrivals_at (t.0 ∷ [])) (none_outside gone came in'));
      next = refl;
    }

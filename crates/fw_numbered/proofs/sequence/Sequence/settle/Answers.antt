use Rattle.std.proofs.Common.{not, List, ◌∷◌, [], ap, subst}
use Rattle.std.specs.Ordering.{nat_cmp}
use Rattle.fw_time.specs.declared.time.Epoch.{Epoch}
use Rattle.fw_bag.specs.Arrivals.{Arrival, arrivals_inside}
use Rattle.fw_table.specs.Content.{IsTable}
use Rattle.fw_numbered.specs.Sequence.{holds_bag}
use Rattle.fw_numbered.proofs.WaitingLaws.{outside_both}
use Rattle.fw_numbered.proofs.sequence.Sequence.settle.Goals as goal

pub returns-clause-table : goal.returns-clause-table
returns-clause-table c = λ gone after came n agree r.
    let P : List Arrival → Type 0 = λ xs. IsTable (λ (x y : Epoch). nat_cmp x.0 y.0) (λ (x : Epoch). x.0 ∷ []) holds_bag c.keep_outside.new.contents xs in
    record {
      waiting = subst P (outside_both gone after came)
          (c.keep_outside.ensures (λ s. not (after s)) (arrivals_inside (λ s. not (gone s)) came) (λ t. ap not (agree t.0)) r.waiting);
      next = r.next;
    }

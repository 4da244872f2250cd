use Rattle.std.proofs.Common.{subst}
use Rattle.std.specs.declared.cmp.Ordering.{Ordering}
use Rattle.std.specs.Ordering.{nat_cmp, ordering_then}
use Rattle.fw_time.specs.Stamp.{Stamp, nest}
use Rattle.fw_time.specs.declared.time.Nest.{Nest}
use Rattle.fw_node.specs.declared.in_loop.InLoop.{InLoop}
use Rattle.fw_node.specs.LoopTable.{IsLoopTable}
use Rattle.fw_node.proofs.in_loop.InLoop.settle.Goals as goal

pub returns-in-Here-clause-ok : goal.returns-in-Here-clause-ok
returns-in-Here-clause-ok g c = λ flow k came r.
    let cmp : Nest g.row.T.Denot → Nest g.row.T.Denot → Ordering = λ x y. ordering_then (g.T.Ord.cmp x.outer y.outer) (nat_cmp x.counter y.counter) in
    let coords : Nest g.row.T.Denot → Stamp = λ t. nest (g.T.Time.coords t.outer) t.counter in
    let P : InLoop g.row.T.Denot → Type 0 = λ s. IsLoopTable cmp coords flow s k came in
    c.settle.ensures.ok k came (subst P c.in-Here.is r)

pub returns-in-Here-clause-err : goal.returns-in-Here-clause-err
returns-in-Here-clause-err g c = λ flow k came r.
    let cmp : Nest g.row.T.Denot → Nest g.row.T.Denot → Ordering = λ x y. ordering_then (g.T.Ord.cmp x.outer y.outer) (nat_cmp x.counter y.counter) in
    let coords : Nest g.row.T.Denot → Stamp = λ t. nest (g.T.Time.coords t.outer) t.counter in
    let P : InLoop g.row.T.Denot → Type 0 = λ s. IsLoopTable cmp coords flow s k came in
    c.settle.ensures.err k came (subst P c.in-Here.is r)

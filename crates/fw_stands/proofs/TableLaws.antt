-- When a node that stands for some events stands for others too.
use Rattle.std.proofs.Common.{◌≡◌, ℕ, Bool, true, false, not, List, [], ◌∷◌, refl, sym, ap, subst, ◌∙◌}
use Rattle.fw_lemmas.proofs.Bools.{two_ways}
use Rattle.fw_lemmas.proofs.Filters.{filter-out}
use Rattle.fw_time.specs.Stamp.{Stamp, in_domain}
use Rattle.fw_bag.specs.Arrivals.{Arrival}
use Rattle.fw_flow.specs.declared.event.Event.{Event}
use Rattle.fw_flow.specs.declared.event.Event.TheVariants.{Inject, Deliver, Notify}
use Rattle.fw_flow.specs.Kind.{Kind}
use Rattle.fw_flow.specs.declared.kind.Kind.TheVariants as kind
use Rattle.fw_flow.specs.Dataflow.{Dataflow, kind_of, in_edges, bounds_of}
use Rattle.fw_flow.specs.WellFormed.{may_keep_nothing}
use Rattle.fw_model.specs.Told.{EachDelivery}
use Rattle.fw_node.specs.declared.node.Node.{Node}
use Rattle.fw_node.specs.declared.table.Table.{Table}
use Rattle.fw_node.specs.declared.table.Table.TheVariants as table
use Rattle.fw_node.specs.Arrived.{arrived, place_in, AreOnEdges}
use Rattle.fw_node.specs.LoopTable.{IsLoopTable}
use Rattle.fw_node.specs.NodeTable.{IsNodeTable, epoch_cmp, epoch_coords, nest_cmp, nest_coords}
use Rattle.fw_node.specs.Past.{Past, past_of, unsettled}
use Rattle.fw_node.specs.TableOf.{IsTableOf}
use Rattle.fw_node.specs.TimedTable.{IsTimedTable}

-- a table of a kind that may keep nothing has what came outside what is settled, and asks nothing else of the past
pub keeps-nothing : (flow : Dataflow) (t : Table) (k : Kind) (past other : Past) → may_keep_nothing k ≡ true → unsettled past ≡ unsettled other
    → IsNodeTable flow t k past → IsNodeTable flow t k other
keeps-nothing flow table.Idle k past other m e r = r
keeps-nothing flow (table.Outside s) k past other m e r = let P : List Arrival → Type 0 = λ xs. IsTimedTable epoch_cmp epoch_coords s k xs in subst P e r
keeps-nothing flow (table.Loop s) k past other m e r =
    let P : List Arrival → Type 0 = λ xs. IsLoopTable (nest_cmp epoch_cmp) (nest_coords epoch_coords) flow s k xs in subst P e r
keeps-nothing flow (table.Loop2 s) k past other m e r =
    let P : List Arrival → Type 0 = λ xs. IsLoopTable (nest_cmp (nest_cmp epoch_cmp)) (nest_coords (nest_coords epoch_coords)) flow s k xs in subst P e r
keeps-nothing flow (table.Loop3 s) k past other m e r =
    let P : List Arrival → Type 0 = λ xs. IsLoopTable (nest_cmp (nest_cmp (nest_cmp epoch_cmp))) (nest_coords (nest_coords (nest_coords epoch_coords))) flow s k xs in subst P e r
keeps-nothing flow (table.Enter s) (kind.Enter l) past other m e r = r
keeps-nothing flow (table.Enter s) _ past other m e r = absurd r
keeps-nothing flow (table.Enter2 s) (kind.Enter l) past other m e r = r
keeps-nothing flow (table.Enter2 s) _ past other m e r = absurd r
keeps-nothing flow (table.Enter3 s) (kind.Enter l) past other m e r = r
keeps-nothing flow (table.Enter3 s) _ past other m e r = absurd r
keeps-nothing flow (table.Total s) kind.Total past other m e r = absurd (two_ways false m refl)
keeps-nothing flow (table.Total s) _ past other m e r = absurd r
keeps-nothing flow (table.Sequence s) kind.Sequence past other m e r = absurd (two_ways false m refl)
keeps-nothing flow (table.Sequence s) _ past other m e r = absurd r
keeps-nothing flow (table.Ledger s) kind.Ledger past other m e r = absurd (two_ways false m refl)
keeps-nothing flow (table.Ledger s) _ past other m e r = absurd r
keeps-nothing flow (table.Regroup s) (kind.Regroup n) past other m e r = r
keeps-nothing flow (table.Regroup s) _ past other m e r = absurd r

-- where each delivery lies inside what is settled nothing came outside
pub none-unsettled : (ins : List ℕ) (settled : Stamp → Bool) (vs : List Event) → EachDelivery (λ s. settled s ≡ true) vs → unsettled (past_of ins settled vs) ≡ []
none-unsettled ins settled [] a = refl
none-unsettled ins settled (Inject s x ∷ vs) a = none-unsettled ins settled vs a
none-unsettled ins settled (Deliver e m ∷ vs) a =
    filter-out (λ (x : Arrival). not (settled x.at)) (record { side = place_in ins e; at = m.at; rec = m.rec }) (arrived ins vs) (ap not a.0)
    ∙ none-unsettled ins settled vs a.1
none-unsettled ins settled (Notify p t ∷ vs) a = none-unsettled ins settled vs a

-- a node whose kind may keep nothing, and that stands for events inside what is settled, stands for any others inside
pub stands-also : (flow : Dataflow) (p : ℕ) (settled : Stamp → Bool) (node : Node) (vs us : List Event) → may_keep_nothing (kind_of flow p) ≡ true
    → EachDelivery (λ s. settled s ≡ true) vs → EachDelivery (λ s. settled s ≡ true) us
    → AreOnEdges (in_edges flow p) us → EachDelivery (λ s. in_domain (bounds_of flow p) s ≡ true) us
    → IsTableOf flow p settled node vs → IsTableOf flow p settled node us
stands-also flow p settled node vs us may one other on at t = record {
  table = keeps-nothing flow node.table (kind_of flow p) (past_of (in_edges flow p) settled vs) (past_of (in_edges flow p) settled us) may
      (none-unsettled (in_edges flow p) settled vs one ∙ sym (none-unsettled (in_edges flow p) settled us other)) t.table;
  sides = t.sides;
  bounds = t.bounds;
  places = t.places;
  on_edges = on;
  in_the_domain = at;
}

-- A table tells apart what is settled at the stamps at which something came alone.
use Rattle.std.proofs.Common.{◌≡◌, Bool, cond, not, List, [], ◌∷◌, refl, ap, ◌∙◌, subst}
use Rattle.std.specs.Prelude.{◌||◌}
use Rattle.std.specs.List.{AllByRecursion}
use Rattle.fw_time.specs.Stamp.{Stamp}
use Rattle.fw_bag.specs.declared.rec.Rec.{Rec}
use Rattle.fw_bag.specs.Arrivals.{Arrival, arrivals_inside, recs_inside}
use Rattle.fw_flow.specs.Kind.{Kind}
use Rattle.fw_flow.specs.declared.kind.Kind.TheVariants as kind
use Rattle.fw_flow.specs.Dataflow.{Dataflow}
use Rattle.fw_numbered.specs.Sequence.{holds_bag}
use Rattle.fw_totals.specs.Totals.{HasTotals}
use Rattle.fw_totals.specs.Settling.{IsSettling, holds_sums}
use Rattle.fw_table.specs.Content.{IsTable}
use Rattle.std.specs.declared.cmp.Ordering.{Ordering}
use Rattle.fw_totals.specs.declared.settling.Settling.{Settling}
use Rattle.fw_node.specs.declared.table.Table.{Table}
use Rattle.fw_node.specs.declared.table.Table.TheVariants as table
use Rattle.fw_node.specs.LoopTable.{IsLoopTable}
use Rattle.fw_node.specs.NodeTable.{IsNodeTable, epoch_cmp, epoch_coords, nest_cmp, nest_coords}
use Rattle.fw_node.specs.Past.{Past, unsettled, is_taken, with_settled}
use Rattle.fw_node.specs.TimedTable.{IsTimedTable}

-- two tests find the same of each arrival
abbrev pub AreAlike : (Stamp → Bool) → (Stamp → Bool) → List Arrival → Type 0
AreAlike test other came = AllByRecursion (λ (a : Arrival). test a.at ≡ other a.at) came

pub inside_alike : (test other : Stamp → Bool) (came : List Arrival) → AreAlike test other came → arrivals_inside test came ≡ arrivals_inside other came
inside_alike test other [] e = refl
inside_alike test other (a ∷ came) e =
    ap (λ b. cond b (a ∷ arrivals_inside test came) (arrivals_inside test came)) e.0
    ∙ ap (λ (xs : List Arrival). cond (other a.at) (a ∷ xs) xs) (inside_alike test other came e.1)

pub recs_alike : (test other : Stamp → Bool) (came : List Arrival) → AreAlike test other came → recs_inside test came ≡ recs_inside other came
recs_alike test other [] e = refl
recs_alike test other (a ∷ came) e =
    ap (λ b. cond b (a.rec ∷ recs_inside test came) (recs_inside test came)) e.0
    ∙ ap (λ (rs : List Rec). cond (other a.at) (a.rec ∷ rs) rs) (recs_alike test other came e.1)

through : (f : Bool → Bool) (test other : Stamp → Bool) (came : List Arrival) → AreAlike test other came → AreAlike (λ s. f (test s)) (λ s. f (other s)) came
through f test other [] e = tt
through f test other (a ∷ came) e = (ap f e.0, through f test other came e.1)

pub with_told : (told test other : Stamp → Bool) (came : List Arrival) → AreAlike test other came → AreAlike (λ s. test s || told s) (λ s. other s || told s) came
with_told told test other [] e = tt
with_told told test other (a ∷ came) e = (ap (λ b. b || told a.at) e.0, with_told told test other came e.1)

settling_alike : {T : Type 0} (cmp : T → T → Ordering) (coords : T → Stamp) (test other : Stamp → Bool) (t : Settling T) (came : List Arrival) → AreAlike test other came
    → IsSettling cmp coords test t came → IsSettling cmp coords other t came
settling_alike {T} cmp coords test other t came e h =
    let Q : List Rec → Type 0 = λ rs. HasTotals t.settled rs in
    let O : List Arrival → Type 0 = λ xs. IsTable cmp coords holds_sums t.by_time xs in
    record {
      outside = subst O (inside_alike (λ s. not (test s)) (λ s. not (other s)) came (through not test other came e)) h.outside;
      totals = subst Q (recs_alike test other came e) h.totals;
      times = h.times;
    }

module _ (flow : Dataflow) (past : Past) (other : Stamp → Bool) (e : AreAlike past.settled other past.came) where
  kept : unsettled past ≡ unsettled (with_settled other past)
  kept = inside_alike (λ s. not (past.settled s)) (λ s. not (other s)) past.came (through not past.settled other past.came e)

  pub same_table : (t : Table) (k : Kind) → IsNodeTable flow t k past → IsNodeTable flow t k (with_settled other past)
  same_table table.Idle k r = r
  same_table (table.Outside s) k r = let P : List Arrival → Type 0 = λ xs. IsTimedTable epoch_cmp epoch_coords s k xs in subst P kept r
  same_table (table.Loop s) k r = let P : List Arrival → Type 0 = λ xs. IsLoopTable (nest_cmp epoch_cmp) (nest_coords epoch_coords) flow s k xs in subst P kept r
  same_table (table.Loop2 s) k r =
      let P : List Arrival → Type 0 = λ xs. IsLoopTable (nest_cmp (nest_cmp epoch_cmp)) (nest_coords (nest_coords epoch_coords)) flow s k xs in subst P kept r
  same_table (table.Loop3 s) k r =
      let P : List Arrival → Type 0 = λ xs. IsLoopTable (nest_cmp (nest_cmp (nest_cmp epoch_cmp))) (nest_coords (nest_coords (nest_coords epoch_coords))) flow s k xs in subst P kept r
  same_table (table.Enter s) (kind.Enter l) r = r
  same_table (table.Enter s) _ r = absurd r
  same_table (table.Enter2 s) (kind.Enter l) r = r
  same_table (table.Enter2 s) _ r = absurd r
  same_table (table.Enter3 s) (kind.Enter l) r = r
  same_table (table.Enter3 s) _ r = absurd r
  same_table (table.Total s) kind.Total r =
      let Q : List Rec → Type 0 = λ rs. HasTotals s.running rs in
      record {
        table = settling_alike _ _ past.settled other s.table past.came e r.table;
        running = subst Q (recs_alike (is_taken past) (λ u. other u || past.told u) past.came (with_told past.told past.settled other past.came e)) r.running;
      }
  same_table (table.Total s) _ r = absurd r
  same_table (table.Sequence s) kind.Sequence r =
      let W : List Arrival → Type 0 = λ xs. IsTable epoch_cmp epoch_coords holds_bag s.held xs in
      record {
        waiting = subst W (inside_alike (λ u. not (is_taken past u)) (λ u. not (other u || past.told u)) past.came
            (through not (is_taken past) (λ u. other u || past.told u) past.came (with_told past.told past.settled other past.came e))) r.waiting;
        next = r.next;
      }
  same_table (table.Sequence s) _ r = absurd r
  same_table (table.Ledger s) kind.Ledger r = record { table = settling_alike _ _ past.settled other s.table past.came e r.table; running = r.running }
  same_table (table.Ledger s) _ r = absurd r
  same_table (table.Regroup s) (kind.Regroup n) r = r
  same_table (table.Regroup s) _ r = absurd r

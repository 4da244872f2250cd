-- A table that takes in what changed.
use Rattle.std.proofs.Common.{◌≡◌, ℕ, Bool, true, false, cond, not, List, [], ◌∷◌, refl, sym, ap, ◌∙◌, subst}
use Rattle.std.specs.Prelude.{◌&&◌, ◌||◌}
use Rattle.fw_time.specs.Stamp.{Stamp}
use Rattle.fw_bag.specs.declared.rec.Rec.{Rec}
use Rattle.fw_bag.specs.Arrivals.{Arrival, arrivals_inside, recs_of, recs_inside, AreInside}
use Rattle.fw_bag.proofs.ArrivalLaws.{none_outside, where-filter}
use Rattle.fw_flow.specs.declared.event.Event.{Event}
use Rattle.fw_flow.specs.Kind.{Kind}
use Rattle.fw_flow.specs.declared.kind.Kind.TheVariants as kind
use Rattle.fw_flow.specs.Dataflow.{Dataflow}
use Rattle.fw_flow.specs.NodeFunction.{delivered_recs}
use Rattle.fw_model.specs.Filtering.{events_inside}
use Rattle.fw_model.specs.Told.{EachDelivery}
use Rattle.fw_numbered.specs.declared.sequence.Sequence.{Sequence}
use Rattle.fw_table.specs.Sums.{sums_at_keys}
use Rattle.fw_totals.specs.declared.ledger.Ledger.{Ledger}
use Rattle.fw_totals.specs.declared.total.Total.{Total}
use Rattle.fw_totals.specs.Total.{IsTotal}
use Rattle.fw_totals.specs.Totals.{HasTotals, WritesOver}
use Rattle.fw_totals.proofs.SinceLaws.{changes_over}
use Rattle.fw_node.specs.declared.table.Table.{Table}
use Rattle.fw_node.specs.declared.table.Table.TheVariants as table
use Rattle.fw_node.specs.Arrived.{arrived}
use Rattle.fw_node.specs.LoopTable.{IsLoopTable}
use Rattle.fw_node.specs.NodeTable.{IsNodeTable, epoch_cmp, epoch_coords, nest_cmp, nest_coords}
use Rattle.fw_node.specs.Past.{past_of, unsettled}
use Rattle.fw_node.specs.TimedTable.{IsTimedTable}
use Rattle.fw_node.proofs.EventLaws.{all_recs, by_stamp}
use Rattle.fw_node.proofs.ForgettingLaws.{events_inside_arrive}
use Rattle.fw_node.proofs.NodeLaws.{each_arrived, weaker_arrived}
use Rattle.fw_node.proofs.RestoringLaws.{alike_inside}
use Rattle.fw_node.proofs.SameTable.{AreAlike, recs_alike}

-- ---- what came inside

-- what is kept inside lies inside
pub inside_kept : (test : Stamp → Bool) (came : List Arrival) → AreInside test (arrivals_inside test came)
inside_kept test [] = tt
inside_kept test (a ∷ came) = cases (test a.at) refl (inside_kept test came)
  where
    cases : (b : Bool) → test a.at ≡ b → AreInside test (arrivals_inside test came) → AreInside test (cond b (a ∷ arrivals_inside test came) (arrivals_inside test came))
    cases true e h = (e, h)
    cases false e h = h

-- the events inside delivered what came inside
pub inside_arrived : (ins : List ℕ) (inside : Stamp → Bool) (before : List Event) → AreInside inside (arrived ins (events_inside inside before))
inside_arrived ins inside before =
    subst (AreInside inside) (sym (events_inside_arrive ins inside before)) (inside_kept inside (arrived ins before))

-- within the domain what is found of a stamp and of what is settled is found without the domain
since_cases : (d b f : Bool) → d ≡ true → (f && not (d && b)) ≡ ((d && f) && not b)
since_cases true b f e = refl
since_cases false b f e = cc

pub since_alike : (d settled f : Stamp → Bool) (ins : List ℕ) (vs : List Event) → EachDelivery (λ s. d s ≡ true) vs
    → AreAlike (λ s. f s && not (d s && settled s)) (λ s. (d s && f s) && not (settled s)) (arrived ins vs)
since_alike d settled f ins vs h =
    weaker_arrived (λ s. d s ≡ true) (λ s. (f s && not (d s && settled s)) ≡ ((d s && f s) && not (settled s)))
    (λ s e. since_cases (d s) (settled s) (f s) e) (arrived ins vs) (each_arrived ins (λ s. d s ≡ true) vs h)

-- ---- totals

-- where all that came is settled, what is taken in is what is settled
pub taken_settled : (inside told : Stamp → Bool) (x : Total) (came : List Arrival) → AreInside inside came → IsTotal inside (λ s. inside s || told s) x came → IsTotal inside inside x came
taken_settled inside told x came i h =
    let Q : List Rec → Type 0 = λ rs. HasTotals x.running rs in
    record { table = h.table; running = subst Q (sym (recs_alike inside (λ s. inside s || told s) came (alike_inside inside told came i))) h.running }

-- and so it is with what was told beside
pub settled_taken : (inside told : Stamp → Bool) (x : Total) (came : List Arrival) → AreInside inside came → IsTotal inside inside x came → IsTotal inside (λ s. inside s || told s) x came
settled_taken inside told x came i h =
    let Q : List Rec → Type 0 = λ rs. HasTotals x.running rs in
    record { table = h.table; running = subst Q (recs_alike inside (λ s. inside s || told s) came (alike_inside inside told came i)) h.running }

-- the totals of the keys to which something came since are written over those of what came before
pub written_over : (ins : List ℕ) (inside : Stamp → Bool) (before : List Event) (totals : List Rec)
    → totals ≡ sums_at_keys (delivered_recs (λ d s. not (inside s)) before) (delivered_recs (λ d s. true) before)
    → WritesOver totals (recs_of (arrived ins (events_inside inside before))) (recs_of (arrived ins before))
written_over ins inside before totals is =
    let came : List Arrival = arrived ins before in
    let changes : sums_at_keys (recs_inside (λ s. not (inside s)) came) (recs_inside (λ s. true) came) ≡ totals =
    sym (is ∙ ap (λ rs. sums_at_keys rs (delivered_recs (λ d s. true) before)) (by_stamp ins (λ s. not (inside s)) before)
    ∙ ap (sums_at_keys (recs_inside (λ s. not (inside s)) came)) (by_stamp ins (λ s. true) before)) in
    let old : recs_inside inside came ≡ recs_of (arrived ins (events_inside inside before)) =
    where-filter (λ a. inside a.at) came ∙ ap recs_of (sym (events_inside_arrive ins inside before)) in
    let first : WritesOver (sums_at_keys (recs_inside (λ s. not (inside s)) came) (recs_inside (λ s. true) came)) (recs_inside inside came) (recs_inside (λ s. true) came) =
    changes_over inside (λ s. true) (λ s h. refl) came in
    subst (λ rs. WritesOver totals (recs_of (arrived ins (events_inside inside before))) rs) (all_recs came)
    (subst (λ rs. WritesOver totals rs (recs_inside (λ s. true) came)) old
    (subst (λ rs. WritesOver rs (recs_inside inside came) (recs_inside (λ s. true) came)) changes first))

-- ---- tables that keep nothing of what is settled

module _ (flow : Dataflow) (ins : List ℕ) (inside after : Stamp → Bool) (before : List Event) (i : AreInside after (arrived ins before)) where
  none_left : unsettled (past_of ins inside (events_inside inside before)) ≡ unsettled (past_of ins after before)
  none_left = none_outside inside (arrived ins (events_inside inside before)) (inside_arrived ins inside before) ∙ sym (none_outside after (arrived ins before) i)

  -- a table of another kind stays as it is
  pub stays_empty : (t : Table) (k : Kind) → ((x : Total) → t ≡ table.Total x → ⊥) → ((x : Sequence) → t ≡ table.Sequence x → ⊥) → ((x : Ledger) → t ≡ table.Ledger x → ⊥)
      → IsNodeTable flow t k (past_of ins inside (events_inside inside before)) → IsNodeTable flow t k (past_of ins after before)
  stays_empty table.Idle k a b c r = r
  stays_empty (table.Outside s) k a b c r = let P : List Arrival → Type 0 = λ xs. IsTimedTable epoch_cmp epoch_coords s k xs in subst P none_left r
  stays_empty (table.Loop s) k a b c r =
      let P : List Arrival → Type 0 = λ xs. IsLoopTable (nest_cmp epoch_cmp) (nest_coords epoch_coords) flow s k xs in subst P none_left r
  stays_empty (table.Loop2 s) k a b c r =
      let P : List Arrival → Type 0 = λ xs. IsLoopTable (nest_cmp (nest_cmp epoch_cmp)) (nest_coords (nest_coords epoch_coords)) flow s k xs in subst P none_left r
  stays_empty (table.Loop3 s) k a b c r =
      let P : List Arrival → Type 0 = λ xs. IsLoopTable (nest_cmp (nest_cmp (nest_cmp epoch_cmp))) (nest_coords (nest_coords (nest_coords epoch_coords))) flow s k xs in
      subst P none_left r
  stays_empty (table.Enter s) (kind.Enter l) a b c r = r
  stays_empty (table.Enter s) _ a b c r = absurd r
  stays_empty (table.Enter2 s) (kind.Enter l) a b c r = r
  stays_empty (table.Enter2 s) _ a b c r = absurd r
  stays_empty (table.Enter3 s) (kind.Enter l) a b c r = r
  stays_empty (table.Enter3 s) _ a b c r = absurd r
  stays_empty (table.Total s) k a b c r = absurd (a s refl)
  stays_empty (table.Sequence s) k a b c r = absurd (b s refl)
  stays_empty (table.Ledger s) k a b c r = absurd (c s refl)
  stays_empty (table.Regroup s) (kind.Regroup n) a b c r = r
  stays_empty (table.Regroup s) _ a b c r = absurd r

-- A table that is restored from a state.
use Rattle.std.proofs.Common.{◌≡◌, ℕ, ◌+◌, ◌^◌, ◌≤◌, Bool, true, false, cond, nat_le, List, [], ◌∷◌, length, refl, sym, ap, ◌∙◌, subst, arith}
use Rattle.std.specs.Prelude.{◌||◌}
use Rattle.std.proofs.lemmas.List.{length-append}
use Rattle.std.proofs.lemmas.Bool.Decides.{nat_tests}
use Rattle.fw_time.specs.Stamp.{Stamp, in_domain}
use Rattle.fw_time.specs.declared.time.Epoch.{Epoch}
use Rattle.fw_time.specs.declared.time.SeqNo.{SeqNo}
use Rattle.fw_time.specs.declared.stamp.Bounds.{Bounds}
use Rattle.fw_time.proofs.DomainLaws.{domain-length}
use Rattle.fw_bag.specs.declared.rec.Rec.{Rec}
use Rattle.fw_bag.specs.Arrivals.{Arrival, recs_of, AreInside, AreTimes}
use Rattle.fw_flow.specs.declared.event.Event.{Event}
use Rattle.fw_flow.specs.declared.event.Event.TheVariants.{Inject, Deliver, Notify}
use Rattle.fw_flow.specs.declared.event.Message.{Message}
use Rattle.fw_flow.specs.Kind.{Kind}
use Rattle.fw_flow.specs.declared.kind.Kind.TheVariants as kind
use Rattle.fw_flow.specs.Dataflow.{Dataflow, greatest_number}
use Rattle.fw_flow.specs.NodeFunction.{delivered_recs, numbered_messages, recs_on_notification, sequence_sent}
use Rattle.fw_bag.proofs.ArrivalLaws.{none_outside}
use Rattle.fw_node.specs.declared.table.Table.{Table}
use Rattle.fw_node.specs.declared.table.Table.TheVariants as table
use Rattle.fw_node.specs.Arrived.{arrived}
use Rattle.fw_node.specs.LoopTable.{IsLoopTable}
use Rattle.fw_node.specs.NodeTable.{IsNodeTable, epoch_cmp, epoch_coords, nest_cmp, nest_coords}
use Rattle.fw_node.specs.Past.{past_of, unsettled}
use Rattle.fw_node.specs.TimedTable.{IsTimedTable}
use Rattle.fw_node.proofs.EventLaws.{by_stamp, all_recs}
use Rattle.fw_node.proofs.SameTable.{AreAlike}

-- all recs that came
pub all_came : (ins : List ℕ) (before : List Event) → delivered_recs (λ d s. true) before ≡ recs_of (arrived ins before)
all_came ins before = by_stamp ins (λ s. true) before ∙ all_recs (arrived ins before)

-- what lies inside lies inside more
pub inside_or : (inside told : Stamp → Bool) (came : List Arrival) → AreInside inside came → AreInside (λ s. inside s || told s) came
inside_or inside told [] h = tt
inside_or inside told (a ∷ came) h = (ap (λ b. b || told a.at) h.0, inside_or inside told came h.1)

-- and nothing is told apart there
pub alike_inside : (inside told : Stamp → Bool) (came : List Arrival) → AreInside inside came → AreAlike inside (λ s. inside s || told s) came
alike_inside inside told [] h = tt
alike_inside inside told (a ∷ came) h = (h.0 ∙ sym (ap (λ b. b || told a.at) h.0), alike_inside inside told came h.1)

one_place : (s : Stamp) → length s ≡ 1 → (n : ℕ) × (n ∷ [] ≡ s)
one_place [] h = absurd (omega arith)
one_place (x ∷ []) h = (x, refl)
one_place (x ∷ y ∷ s) h = absurd (omega arith)

-- stamps of a domain of one coordinate are epochs
pub at_epochs : (bounds : Bounds) (came : List Arrival) → length bounds.greatest ≡ 1 → AreInside (in_domain bounds) came → AreTimes (λ (t : Epoch). t.0 ∷ []) came
at_epochs bounds [] e h = tt
at_epochs bounds (a ∷ came) e h =
    let n = one_place a.at (domain-length bounds a.at h.0 ∙ e) in ((record { 0 = n.0 }, n.1), at_epochs bounds came e h.1)

-- or numbers
pub at_numbered : (bounds : Bounds) (came : List Arrival) → length bounds.greatest ≡ 1 → AreInside (in_domain bounds) came → AreTimes (λ (t : SeqNo). t.0 ∷ []) came
at_numbered bounds [] e h = tt
at_numbered bounds (a ∷ came) e h =
    let n = one_place a.at (domain-length bounds a.at h.0 ∙ e) in ((record { 0 = n.0 }, n.1), at_numbered bounds came e h.1)

-- ---- how many numbers are sent

few_cases : (n : ℕ) (rest : List Message) (m : Message) (b : Bool) → nat_le n greatest_number ≡ b → (n + 1 ≤ 2 ^ 32 → length rest + (n + 1) ≤ 2 ^ 32) → n ≤ 2 ^ 32
    → length (cond b (m ∷ rest) []) + n ≤ 2 ^ 32
few_cases n rest m true e h l = let k : n + 1 ≤ 2 ^ 32 = grind (arith, nat_tests) in let i = h k in omega arith
few_cases n rest m false e h l = omega arith

few_messages : (n : ℕ) (cause : Stamp) (rs : List Rec) → n ≤ 2 ^ 32 → length (numbered_messages n cause rs) + n ≤ 2 ^ 32
few_messages n cause [] l = omega arith
few_messages n cause (r ∷ rs) l =
    few_cases n (numbered_messages (n + 1) cause rs) (record { at = n ∷ []; rec = r; causes = cause ∷ [] }) (nat_le n greatest_number) refl
    (few_messages (n + 1) cause rs) l

-- a sequence sends no more messages than there are numbers
pub few_sent : (vs : List Event) → length (sequence_sent vs) ≤ 2 ^ 32
few_sent [] = omega arith
few_sent (Inject s x ∷ vs) = few_sent vs
few_sent (Deliver e m ∷ vs) = few_sent vs
few_sent (Notify p t ∷ vs) =
    let n : ℕ = length (sequence_sent vs) in
    let a = few_messages n t (recs_on_notification kind.Sequence vs t) (few_sent vs) in
    let b = length-append (numbered_messages n t (recs_on_notification kind.Sequence vs t)) (sequence_sent vs) in
    omega arith

-- ---- tables that keep nothing of what is settled

module _ (flow : Dataflow) (ins : List ℕ) (settled : Stamp → Bool) (before : List Event) (i : AreInside settled (arrived ins before)) where
  none : [] ≡ unsettled (past_of ins settled before)
  none = sym (none_outside settled (arrived ins before) i)

  -- where all that came is settled the table is that of nothing
  pub nothing_kept : (t : Table) (k : Kind) → (k ≡ kind.Total → ⊥) → (k ≡ kind.Sequence → ⊥) → (k ≡ kind.Ledger → ⊥) → IsNodeTable flow t k (past_of ins settled [])
      → IsNodeTable flow t k (past_of ins settled before)
  nothing_kept table.Idle k a b c r = r
  nothing_kept (table.Outside s) k a b c r = let P : List Arrival → Type 0 = λ xs. IsTimedTable epoch_cmp epoch_coords s k xs in subst P none r
  nothing_kept (table.Loop s) k a b c r =
      let P : List Arrival → Type 0 = λ xs. IsLoopTable (nest_cmp epoch_cmp) (nest_coords epoch_coords) flow s k xs in subst P none r
  nothing_kept (table.Loop2 s) k a b c r =
      let P : List Arrival → Type 0 = λ xs. IsLoopTable (nest_cmp (nest_cmp epoch_cmp)) (nest_coords (nest_coords epoch_coords)) flow s k xs in subst P none r
  nothing_kept (table.Loop3 s) k a b c r =
      let P : List Arrival → Type 0 = λ xs. IsLoopTable (nest_cmp (nest_cmp (nest_cmp epoch_cmp))) (nest_coords (nest_coords (nest_coords epoch_coords))) flow s k xs in
      subst P none r
  nothing_kept (table.Enter s) (kind.Enter l) a b c r = r
  nothing_kept (table.Enter s) _ a b c r = absurd r
  nothing_kept (table.Enter2 s) (kind.Enter l) a b c r = r
  nothing_kept (table.Enter2 s) _ a b c r = absurd r
  nothing_kept (table.Enter3 s) (kind.Enter l) a b c r = r
  nothing_kept (table.Enter3 s) _ a b c r = absurd r
  nothing_kept (table.Total s) kind.Total a b c r = absurd (a refl)
  nothing_kept (table.Total s) _ a b c r = absurd r
  nothing_kept (table.Sequence s) kind.Sequence a b c r = absurd (b refl)
  nothing_kept (table.Sequence s) _ a b c r = absurd r
  nothing_kept (table.Ledger s) kind.Ledger a b c r = absurd (c refl)
  nothing_kept (table.Ledger s) _ a b c r = absurd r
  nothing_kept (table.Regroup s) (kind.Regroup n) a b c r = r
  nothing_kept (table.Regroup s) _ a b c r = absurd r

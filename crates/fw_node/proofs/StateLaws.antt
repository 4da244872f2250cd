-- What a table's state tells of what changed.
use Rattle.std.proofs.Common.{◌≡◌, ◌∙◌, ℕ, Bool, true, false, cond, not, List, [], ◌∷◌, refl, sym, ap}
use Rattle.std.specs.Prelude.{◌&&◌, ◌||◌}
use Rattle.std.specs.List.{AllByRecursion}
use Rattle.std.proofs.lemmas.Bool.{and_from, and_parts}
use Rattle.fw_time.specs.Stamp.{Stamp, in_domain}
use Rattle.fw_time.specs.declared.stamp.Bounds.{Bounds}
use Rattle.fw_bag.specs.declared.rec.Rec.{Rec}
use Rattle.fw_bag.specs.Arrivals.{Arrival, arrivals_inside, recs_inside, recs_of}
use Rattle.fw_bag.proofs.ArrivalLaws.{kept_recs}
use Rattle.fw_frontier.specs.Front.{Front, inside, is_within}
use Rattle.fw_frontier.specs.Frontier.{Within}
use Rattle.fw_frontier.specs.declared.state.Entries.TheVariants.{Totals}
use Rattle.fw_frontier.specs.declared.state.State.{State}
use Rattle.fw_frontier.proofs.NamesLaws.{all-outside, is_within-inside}
use Rattle.fw_flow.specs.declared.event.Event.{Event}
use Rattle.fw_flow.specs.Kind.{Kind}
use Rattle.fw_flow.specs.declared.kind.Kind.TheVariants as kind
use Rattle.fw_flow.specs.Dataflow.{Dataflow, is_input_kind, is_output_kind, is_sequence_kind}
use Rattle.fw_flow.specs.NodeFunction.{delivered_recs}
use Rattle.fw_model.specs.Filtering.{events_inside}
use Rattle.fw_model.specs.Told.{EachDelivery}
use Rattle.fw_numbered.specs.declared.sequence.Sequence.{Sequence}
use Rattle.fw_totals.specs.declared.ledger.Ledger.{Ledger}
use Rattle.fw_totals.specs.declared.total.Total.{Total}
use Rattle.fw_node.specs.declared.table.Table.{Table}
use Rattle.fw_node.specs.declared.table.Table.TheVariants as table
use Rattle.fw_node.specs.Arrived.{arrived}
use Rattle.fw_node.specs.LawsOfAnswers.{IsPerTime}
use Rattle.fw_node.specs.NodeTable.{IsNodeTable, epoch_cmp, epoch_coords, nest_cmp, nest_coords}
use Rattle.fw_node.specs.Past.{Past, totals_changed, unsettled}
use Rattle.fw_node.specs.StateOf.{IsPastSince, totals_in}
use Rattle.fw_node.proofs.EventLaws.{by_stamp}
use Rattle.fw_node.proofs.ForgettingLaws.{events_inside_arrive}
use Rattle.fw_node.proofs.KindCases.{timed_plain}
use Rattle.fw_node.proofs.LoopCases.{loop_kind}
use Rattle.fw_node.proofs.NodeLaws.{domain_alike, each_arrived, weaker_arrived}
use Rattle.fw_node.proofs.RestoringLaws.{all_came}
use Rattle.fw_node.proofs.SameTable.{AreAlike, recs_alike}

-- ---- fronts

-- a front that lies within another in the domain of their outside stamps lies within it everywhere
pub fronts_within : (b : Bounds) (g f : Front) → AllByRecursion (λ o. in_domain b o ≡ true) f → Within (λ s. in_domain b s && inside g s) (λ s. in_domain b s && inside f s)
    → Within (inside g) (inside f)
fronts_within b g f d w = is_within-inside g f (each f d (all-outside f))
  where
    by : (o : Stamp) → in_domain b o ≡ true → inside f o ≡ false → (c : Bool) → inside g o ≡ c → not c ≡ true
    by o i out true e =
        let there = (and_parts (in_domain b o) (inside f o) (w o (and_from (in_domain b o) (inside g o) i e))).1 in
        sym out ∙ there
    by o i out false e = refl

    each : (os : List Stamp) → AllByRecursion (λ o. in_domain b o ≡ true) os → AllByRecursion (λ o. inside f o ≡ false) os → is_within g os ≡ true
    each [] a n = refl
    each (o ∷ os) a n = and_from (not (inside g o)) (is_within g os) (by o a.0 n.0 (inside g o) refl) (each os a.1 n.1)

-- ---- what came inside one front and outside another

inside_both : (test b : Stamp → Bool) (came : List Arrival) → recs_inside test (arrivals_inside b came) ≡ recs_inside (λ s. b s && test s) came
inside_both test b [] = refl
inside_both test b (a ∷ came) = cases (b a.at) (inside_both test b came)
  where
    cases : (c : Bool) → recs_inside test (arrivals_inside b came) ≡ recs_inside (λ s. b s && test s) came
        → recs_inside test (cond c (a ∷ arrivals_inside b came) (arrivals_inside b came))
        ≡ cond (c && test a.at) (a.rec ∷ recs_inside (λ s. b s && test s) came) (recs_inside (λ s. b s && test s) came)
    cases true h = ap (λ (rs : List Rec). cond (test a.at) (a.rec ∷ rs) rs) h
    cases false h = h

between_cases : (d f g : Bool) → d ≡ true → (f && not g) ≡ ((d && f) && not (d && g))
between_cases true f g e = refl
between_cases false f g e = cc

between_alike : (d f g : Stamp → Bool) (ins : List ℕ) (vs : List Event) → EachDelivery (λ s. d s ≡ true) vs
    → AreAlike (λ s. f s && not (g s)) (λ s. (d s && f s) && not (d s && g s)) (arrived ins vs)
between_alike d f g ins vs h =
    weaker_arrived (λ s. d s ≡ true) (λ s. (f s && not (g s)) ≡ ((d s && f s) && not (d s && g s)))
    (λ s e. between_cases (d s) (f s) (g s) e) (arrived ins vs) (each_arrived ins (λ s. d s ≡ true) vs h)

module _ (d f g : Stamp → Bool) (ins : List ℕ) (vs : List Event) (each : EachDelivery (λ s. d s ≡ true) vs) where
  -- all recs of the events inside came inside
  pub recs_until : recs_inside f (arrived ins vs) ≡ delivered_recs (λ e s. true) (events_inside (λ s. d s && f s) vs)
  recs_until =
      recs_alike f (λ s. d s && f s) (arrived ins vs) (domain_alike d f ins vs each) ∙ kept_recs (λ s. d s && f s) (arrived ins vs)
      ∙ ap recs_of (sym (events_inside_arrive ins (λ s. d s && f s) vs)) ∙ sym (all_came ins (events_inside (λ s. d s && f s) vs))

  -- those of them outside g came inside and outside g
  pub recs_between : recs_inside (λ s. f s && not (g s)) (arrived ins vs) ≡ delivered_recs (λ e s. not (d s && g s)) (events_inside (λ s. d s && f s) vs)
  recs_between =
      let out : Stamp → Bool = λ s. not (d s && g s) in
      recs_alike (λ s. f s && not (g s)) (λ s. (d s && f s) && not (d s && g s)) (arrived ins vs) (between_alike d f g ins vs each)
      ∙ sym (inside_both out (λ s. d s && f s) (arrived ins vs)) ∙ ap (recs_inside out) (sym (events_inside_arrive ins (λ s. d s && f s) vs))
      ∙ sym (by_stamp ins out (events_inside (λ s. d s && f s) vs))

-- ---- tables that keep nothing over time

nothing_changed : (k : Kind) → IsPerTime k → (since all : List Rec) → totals_changed k since all ≡ []
nothing_changed kind.Total p since all = absurd p
nothing_changed kind.Ledger p since all = absurd p
nothing_changed _ p since all = refl

idle_plain : (k : Kind) → (is_input_kind k || is_output_kind k) ≡ true → IsPerTime k × (is_sequence_kind k ≡ false)
idle_plain kind.Total r = absurd (cc r)
idle_plain kind.Ledger r = absurd (cc r)
idle_plain kind.Sequence r = absurd (cc r)
idle_plain _ r = (tt, refl)

table_plain : (flow : Dataflow) (past : Past) (t : Table) (k : Kind) → ((x : Total) → t ≡ table.Total x → ⊥) → ((x : Sequence) → t ≡ table.Sequence x → ⊥)
    → ((x : Ledger) → t ≡ table.Ledger x → ⊥) → IsNodeTable flow t k past → IsPerTime k × (is_sequence_kind k ≡ false)
table_plain flow past table.Idle k a b c r = idle_plain k r
table_plain flow past (table.Outside s) k a b c r = let p = timed_plain epoch_cmp epoch_coords flow s k (unsettled past) r in (p.per_time, p.unnumbered)
table_plain flow past (table.Loop s) k a b c r =
    let p = loop_kind (nest_cmp epoch_cmp) (nest_coords epoch_coords) flow s k (unsettled past) r in (p.per_time, p.unnumbered)
table_plain flow past (table.Loop2 s) k a b c r =
    let p = loop_kind (nest_cmp (nest_cmp epoch_cmp)) (nest_coords (nest_coords epoch_coords)) flow s k (unsettled past) r in (p.per_time, p.unnumbered)
table_plain flow past (table.Loop3 s) k a b c r =
    let p = loop_kind (nest_cmp (nest_cmp (nest_cmp epoch_cmp))) (nest_coords (nest_coords (nest_coords epoch_coords))) flow s k (unsettled past) r in
    (p.per_time, p.unnumbered)
table_plain flow past (table.Enter s) (kind.Enter l) a b c r = (tt, refl)
table_plain flow past (table.Enter s) _ a b c r = absurd r
table_plain flow past (table.Enter2 s) (kind.Enter l) a b c r = (tt, refl)
table_plain flow past (table.Enter2 s) _ a b c r = absurd r
table_plain flow past (table.Enter3 s) (kind.Enter l) a b c r = (tt, refl)
table_plain flow past (table.Enter3 s) _ a b c r = absurd r
table_plain flow past (table.Total s) k a b c r = absurd (a s refl)
table_plain flow past (table.Sequence s) k a b c r = absurd (b s refl)
table_plain flow past (table.Ledger s) k a b c r = absurd (c s refl)
table_plain flow past (table.Regroup s) (kind.Regroup n) a b c r = (tt, refl)
table_plain flow past (table.Regroup s) _ a b c r = absurd r

-- nothing changed of what they keep
pub nothing_since : (flow : Dataflow) (past : Past) (g f : Stamp → Bool) (state : State) → totals_in state.entries ≡ [] → (t : Table) (k : Kind)
    → ((x : Total) → t ≡ table.Total x → ⊥) → ((x : Sequence) → t ≡ table.Sequence x → ⊥) → ((x : Ledger) → t ≡ table.Ledger x → ⊥)
    → IsNodeTable flow t k past → IsPastSince k g f past state
nothing_since flow past g f state e t k a b c r =
    let plain = table_plain flow past t k a b c r in
    record {
      totals = e ∙ sym (nothing_changed k plain.0 (recs_inside (λ s. f s && not (g s)) past.came) (recs_inside f past.came));
      sent = λ is. let no : true ≡ false = sym (ap is_sequence_kind is) ∙ plain.1 in absurd (cc no);
    }

-- a state with these totals, that are those of what changed, and the number of what a sequence sent
pub has_changed : (k : Kind) (past : Past) (g f : Stamp → Bool) (n : ℕ) (rs : List Rec) (state : State) → state ≡ record { sent = n; sends = []; entries = Totals rs }
    → rs ≡ totals_changed k (recs_inside (λ s. f s && not (g s)) past.came) (recs_inside f past.came) → (k ≡ kind.Sequence → n ≡ past.numbered) → IsPastSince k g f past state
has_changed k past g f n rs state e t s = record { totals = ap (λ (x : State). totals_in x.entries) e ∙ t; sent = λ is. ap (λ (x : State). x.sent) e ∙ s is }

-- The step of progress: what it makes of what is kept stands for the next state.
use Rattle.std.proofs.Common.{◌≡◌, ℕ, zero, suc, ◌+◌, ◌<◌, ◌≤◌, Bool, true, false, not, cond, ◌&&◌, List, [], ◌∷◌, ◌++◌, filter, map, length, get_or, refl, sym, ap, subst, ◌∙◌, inl, inr, arith}
use Rattle.std.specs.List.{AllByRecursion, range_with_len}
use Rattle.std.specs.Prelude.{IsErrOf, Option, Some, None, Ok, Err, nat_lt}
use Rattle.std.proofs.lemmas.Bool.{and_from, and_parts, and_right, both_ways, cases_Bool, cases_lt, lt-ltb, not-true, not-false}
use Rattle.std.proofs.lemmas.List.{get_or_past, length-append}
use Rattle.fw_lemmas.proofs.Bools.{first_holds, second_holds, two_ways}
use Rattle.std.proofs.lemmas.List.FromFn.{get_or-map-range_with_len, length-map-range_with_len}
use Rattle.fw_lemmas.proofs.Each.{each-weaker}
use Rattle.fw_time.specs.Stamp.{in_domain, leq}
use Rattle.fw_time.specs.declared.stamp.Bounds.{Bounds}
use Rattle.fw_time.proofs.DomainLaws.{domain-leq}
use Rattle.fw_frontier.specs.Front.{Front, IsCanonical, IsFrontOf, frontier_of}
use Rattle.fw_frontier.specs.Frontier.{join}
use Rattle.fw_frontier.proofs.Pairs.{excluding_pairs}
use Rattle.fw_frontier.proofs.CanonicalLaws.{in_domain-canonical}
use Rattle.fw_frontier.proofs.NamesLaws.{names-join, names-join_sides}
use Rattle.fw_flow.specs.declared.step.Step.TheVariants.{Progress as ProgressStep}
use Rattle.fw_flow.specs.declared.kind.Policy.{Policy}
use Rattle.fw_flow.specs.declared.kind.Policy.TheVariants as policy
use Rattle.fw_flow.specs.Dataflow.{Dataflow, System, kind_of, policy_of, bounds_of, node_ids}
use Rattle.fw_model.specs.History.{IsComplete}
use Rattle.fw_model.specs.Machine.{Machine, Write, events, family_of, front_of, AreCanonical}
use Rattle.fw_model.specs.Steps.{GrowsTo, LeadsTo, checkpoint_of, did, idle, silent, eager_writes, is_asked_for_checkpoints, is_eager}
use Rattle.fw_model.specs.Writes.{takes_checkpoints}
use Rattle.fw_node.specs.declared.node.Node.{Node}
use Rattle.fw_keep.specs.Catalogue.{KeepState}
use Rattle.fw_keep.specs.Stored.{Records}
use Rattle.fw_progress.specs.Settle.{has_more, AreGrownBefore}
use Rattle.fw_progress.proofs.SettleLaws.{in_turn-settled}
use Rattle.fw_stands.specs.Settling.{settled_state, AreSettledAt}
use Rattle.fw_stands.specs.Parts.{settles_with_checkpoints, sums_up, IsTableIn}
use Rattle.fw_stands.specs.Entries.{AreBasesOf}
use Rattle.fw_stands.specs.Written.{AreEntriesOf, AreStored, uncollected}
use Rattle.fw_stands.proofs.BaseSteps.{bases_after_asking}
use Rattle.fw_stands.proofs.AtReached.{reached-next}
use Rattle.fw_stands.proofs.EntrySteps.{entries_after_asking, records_after_asking, progress_asks}
use Rattle.fw_stands.proofs.KeptLaws.{no_more-idle}
use Rattle.fw_stands.proofs.NodeCheckpoints.{asks_at_progress}
use Rattle.fw_stands.proofs.SettlingLaws.{settled_tables-stand, unsettled_tables-stay, no_tables-stay, all_settled_traces-stand, progress-keeps}
use Rattle.fw_running.proofs.KnownTraces.{knows-next}
use Rattle.fw_running.specs.declared.fault.EngineFault.{EngineFault}
use Rattle.fw_running.specs.declared.fault.EngineFault.TheVariants as fault
use Rattle.fw_running.specs.declared.running.Running.{Running}
use Rattle.fw_running.specs.declared.stepped.Effect.TheVariants.{Quiet}
use Rattle.fw_running.specs.declared.stepped.Stepped.TheVariants.{Did, Idle}
use Rattle.fw_running.specs.BroughtUp.{IsBroughtUp}
use Rattle.fw_running.proofs.AnswerLaws.{left-answers}
use Rattle.fw_running.proofs.BroughtUpLaws.{brought_up_stands}
use Rattle.fw_running.specs.Kept.{table_of, source_of}
use Rattle.fw_running.specs.Logging.{with_keep, ChangesKeep}
use Rattle.fw_running.specs.Shaped.{IsShaped}
use Rattle.fw_running.specs.Stands.{Stands}
use Rattle.fw_running.specs.Steps.{AsksAWrite, Follows, TakesStep, IsUndamaged}
use Rattle.fw_settle.proofs.SettleLaws.{past-grows}
use Rattle.fw_settle.proofs.SearchLaws.{grows-there}
use Rattle.fw_settle.proofs.BaseLaws.{bases-left}
use Rattle.fw_settle.proofs.AskLaws.{asks-grows}
use Rattle.fw_settle.proofs.WritesLaws.{kept-stands, when_asked-with}
use Rattle.fw_settle.specs.Settling.{grows, HasEagerToSettle, NoneGrowsIn, IsNextToSettle, KeepsEntries, HaveAsked, settled_into, ChangesSettled, IsTableSettled, settles_table, settles_traces, settles_when_asked, HaveSettled, Progresses}

-- ---- what is settled

-- What is settled of the nodes in the order of their places, as the machine tells it.
record IsSettledTo (sys : System) (state : Machine) (mid : Running) (settled : List Front) : Type 0 where
  grown : GrowsTo sys state (family_of sys.flow mid.progress.kept) settled
  same : (p : ℕ) → grows mid p ≡ false → front_of settled p ≡ front_of state.settled p

settled-to : (sys : System) (state : Machine) (mid : Running) (records : Option Records) (settled : List Front) (p : ℕ) → Stands sys mid records state → IsShaped mid
    → IsComplete sys (events state.history) (family_of sys.flow mid.progress.kept) → p < length mid.flow.nodes → grows mid p ≡ true
    → AreGrownBefore mid.flow mid.failed.items mid.progress.settled mid.progress.kept settled (length mid.flow.nodes) → IsSettledTo sys state mid settled
settled-to sys state mid records settled p s shaped complete l is g =
    let flow = sys.flow in
    let nodes : length mid.flow.nodes ≡ length flow.nodes = ap (λ f. length f.nodes) s.apart.flow in
    let canonical : (fronts : List Front) → AreCanonical mid.flow fronts → AreCanonical flow fronts = λ fronts a. subst (λ f. AreCanonical f fronts) s.apart.flow a in
    let at : AreGrownBefore flow mid.failed.items mid.progress.settled mid.progress.kept settled (length flow.nodes) =
    subst (λ f. AreGrownBefore f mid.failed.items mid.progress.settled mid.progress.kept settled (length f.nodes)) s.apart.flow g in
    record {
      grown = (in_turn-settled sys state mid.failed.items mid.progress.settled mid.progress.kept settled s.apart.failed s.apart.settled (shaped.one_each.failed ∙ nodes)
          (shaped.progress.settled_each ∙ nodes) (canonical mid.progress.settled shaped.progress.settled) (canonical mid.progress.kept shaped.progress.kept) complete at).0
          p (subst (λ n. p < n) nodes l) is;
      same = λ q isnt. at.others q (λ k. isnt) ∙ ap (λ fs. front_of fs q) s.apart.settled;
    }

-- ---- tables

-- a table that is settled, or that is not there, is that of the next state
table-settles : (sys : System) (mid : Running) (records : Option Records) (state : Machine) (settled : List Front) (p : ℕ) (old new : Option Node) → Stands sys mid records state
    → GrowsTo sys state (family_of sys.flow mid.progress.kept) settled → p < length sys.flow.nodes
    → (settles_with_checkpoints sys.flow p ≡ true → asks_at_progress sys state settled p ≡ true) → IsTableSettled sys.flow p (front_of settled p) old new
    → IsTableIn sys state p old → IsTableIn sys (settled_state sys state settled) p new
table-settles sys mid records state settled p None new s g l asks is t =
    subst (IsTableIn sys (settled_state sys state settled) p) (sym is) (no_tables-stay sys state settled p t)
table-settles sys mid records state settled p (Some old) None s g l asks is t = absurd is
table-settles sys mid records state settled p (Some old) (Some new) s g l asks is t =
    settled_tables-stand sys s.apart.well_formed state s.apart.reached (family_of sys.flow mid.progress.kept) settled g p l asks old new is t

-- a policy that takes checkpoints, and not when asked, is eager
eager-else : (asks : Policy) (sums : Bool) → (takes_checkpoints asks && sums) ≡ true → not (is_asked_for_checkpoints asks && sums) ≡ true → is_eager asks ≡ true
eager-else policy.None sums t n = absurd (two_ways false t refl)
eager-else policy.Lazy sums t n = absurd (two_ways sums t (not-true sums n))
eager-else policy.Logged sums t n = absurd (two_ways sums t (not-true sums n))
eager-else policy.Eager sums t n = refl
eager-else policy.Full sums t n = absurd (two_ways false t refl)

-- and one that takes them when asked is not
not_eager : (asks : Policy) (sums : Bool) → not (is_asked_for_checkpoints asks && sums) ≡ false → is_eager asks ≡ false
not_eager policy.Eager sums n = absurd (two_ways true refl n)
not_eager asks sums n = refl

-- a table that settles at progress, and settles with the checkpoints, is that of a node that asks one then
settling-asks : (sys : System) (state : Machine) (settled : List Front) (mid : Running) (before : Option Records) → Stands sys mid before state
    → GrowsTo sys state (family_of sys.flow mid.progress.kept) settled → (p : ℕ) → p < length sys.flow.nodes → settles_table mid p ≡ true
    → settles_with_checkpoints sys.flow p ≡ true → asks_at_progress sys state settled p ≡ true
settling-asks sys state settled mid before s g p l is with_these =
    let grown = first_holds (grows mid p) (not (settles_when_asked mid.flow p)) is in
    let now = second_holds (grows mid p) (not (settles_when_asked mid.flow p)) is in
    asks-grows sys state settled mid before s g p l
    ∙ and_from (is_eager (policy_of sys.flow p)) (grows mid p)
    (eager-else (policy_of sys.flow p) (sums_up (kind_of sys.flow p)) with_these (ap (λ f. not (settles_when_asked f p)) (sym s.apart.flow) ∙ now)) grown

-- and of a node whose table does not settle then none is asked
waiting-asks_none : (sys : System) (state : Machine) (settled : List Front) (mid : Running) (before : Option Records) → Stands sys mid before state
    → GrowsTo sys state (family_of sys.flow mid.progress.kept) settled → (p : ℕ) → p < length sys.flow.nodes → settles_table mid p ≡ false
    → asks_at_progress sys state settled p ≡ false
waiting-asks_none sys state settled mid before s g p l isnt =
    asks-grows sys state settled mid before s g p l ∙ elim (cases_Bool (grows mid p)) [
      | inl is ↦
          let waits : not (settles_when_asked mid.flow p) ≡ false = sym (ap (λ b. b && not (settles_when_asked mid.flow p)) is) ∙ isnt in
          ap (λ b. b && grows mid p)
          (not_eager (policy_of sys.flow p) (sums_up (kind_of sys.flow p)) (ap (λ f. not (settles_when_asked f p)) (sym s.apart.flow) ∙ waits))
      | inr none ↦ and_right (is_eager (policy_of sys.flow p)) (grows mid p) none
    ]

-- where it does not settle with the checkpoints, what is settled of its node is as it was
waiting-same : (sys : System) (state : Machine) (settled : List Front) (mid : Running) (before : Option Records) → Stands sys mid before state
    → ((p : ℕ) → grows mid p ≡ false → front_of settled p ≡ front_of state.settled p) → (p : ℕ) → settles_table mid p ≡ false
    → settles_with_checkpoints sys.flow p ≡ false → front_of settled p ≡ front_of state.settled p
waiting-same sys state settled mid before s same p isnt without = elim (cases_Bool (grows mid p)) [
  | inl is ↦
      let waits : not (settles_when_asked mid.flow p) ≡ false = sym (ap (λ b. b && not (settles_when_asked mid.flow p)) is) ∙ isnt in
      let asked : settles_when_asked sys.flow p ≡ true = ap (λ f. settles_when_asked f p) (sym s.apart.flow) ∙ not-false (settles_when_asked mid.flow p) waits in
      absurd (two_ways (settles_with_checkpoints sys.flow p) (when_asked-with (policy_of sys.flow p) (sums_up (kind_of sys.flow p)) asked) without)
  | inr none ↦ same p none
]

-- ---- the next state

-- the engine that settled more stands for the state in which so much is settled
settled-stands : (sys : System) (state : Machine) (mid new : Running) (keep : KeepState) (before after : Option Records) → Stands sys mid before state → IsShaped mid
    → (settles : IsSettledTo sys state mid new.progress.settled) → HaveSettled (length sys.flow.nodes) mid new
    → LeadsTo sys state ProgressStep (settled_state sys state new.progress.settled) silent
    → AreEntriesOf sys (settled_state sys state new.progress.settled) keep.entries (uncollected (settled_state sys state new.progress.settled))
    → AreBasesOf keep.entries keep.entries (uncollected (settled_state sys state new.progress.settled))
    → AreStored sys (settled_state sys state new.progress.settled) after keep.entries (uncollected (settled_state sys state new.progress.settled))
    → Stands sys (settled_into new (with_keep keep mid)) after (settled_state sys state new.progress.settled)
settled-stands sys state mid new keep before after s shaped to h u entries bases stored =
    let settled = new.progress.settled in
    let next = settled_state sys state settled in
    let n = length sys.flow.nodes in
    let k = progress-keeps sys state settled in
    record {
      apart = record {
        flow = s.apart.flow;
        well_formed = s.apart.well_formed;
        reached = reached-next sys state next ProgressStep (did silent) s.apart.reached u;
        settled = refl;
        failed = s.apart.failed;
        low = s.apart.low;
        epochs = s.apart.epochs;
        tables = λ p l. elim (cases_Bool (settles_table mid p)) [
          | inl is ↦
              table-settles sys mid before state settled p (table_of mid p) (table_of new p) s to.grown l (settling-asks sys state settled mid before s to.grown p l is)
              (subst (λ f. IsTableSettled f p (front_of settled p) (table_of mid p) (table_of new p)) s.apart.flow (h.tables p l is)) (s.apart.tables p l)
          | inr isnt ↦
              subst (IsTableIn sys next p) (sym (h.other_tables p (λ m. isnt)))
              (unsettled_tables-stay sys state settled p (table_of mid p) (λ k. waiting-asks_none sys state settled mid before s to.grown p l isnt)
              (waiting-same sys state settled mid before s to.same p isnt) (s.apart.tables p l))
        ];
        queues = λ e l. s.apart.queues e l ∙ sym (k.queues e);
        logs = λ e l. s.apart.logs e l ∙ sym (k.logs e);
        outputs = λ o l out.
            let i = s.apart.outputs o l out in
            record { bound = i.bound ∙ sym (k.outputs.bound o); recs = λ x. i.recs x ∙ sym (k.outputs.recs o x) };
        sources = λ p l. k.sources p (source_of mid p) (s.apart.sources p l);
        progress = record { counts = s.apart.progress.counts; kept = s.apart.progress.kept };
        entries = entries;
        bases = bases;
        stored = stored;
      };
      traces = knows-next sys state ProgressStep next silent mid.traces new.traces s.apart.well_formed s.apart.reached refl u s.traces (λ p l.
          all_settled_traces-stand sys s.traces.floor s.apart.well_formed state s.apart.reached (family_of sys.flow mid.progress.kept) settled to.grown (settles_traces mid n)
          (λ q i.
          ap (λ f. takes_checkpoints (policy_of f q)) (sym s.apart.flow)
          ∙ (and_parts (grows mid q) (takes_checkpoints (policy_of mid.flow q)) (and_parts (nat_lt q n) (grows mid q && takes_checkpoints (policy_of mid.flow q)) i).1).1)
          (λ q i takes. to.same q (still q i (ap (λ f. takes_checkpoints (policy_of f q)) s.apart.flow ∙ takes)))
          mid.traces new.traces (subst (λ f. AreSettledAt f (settles_traces mid n) settled mid.traces new.traces) s.apart.flow h.traces) p l);
      lost = λ p full t. (
        λ c. (k.lost p t).1 ((s.lost p full t).0 c),
        λ i. (s.lost p full t).1 ((k.lost p t).0 i),
      );
    }
  where
    with-true : (b : Bool) → b ≡ (b && true)
    with-true true = refl
    with-true false = refl

    still : (q : ℕ) → settles_traces mid (length sys.flow.nodes) q ≡ false → takes_checkpoints (policy_of mid.flow q) ≡ true → grows mid q ≡ false
    still q i takes = elim (cases_lt q (length mid.flow.nodes)) [
      | inl l ↦
          with-true (grows mid q) ∙ ap (λ b. grows mid q && b) (sym takes)
          ∙ ap (λ b. b && (grows mid q && takes_checkpoints (policy_of mid.flow q))) (sym (lt-ltb q (length sys.flow.nodes) (subst (λ f. q < length f.nodes) s.apart.flow l))) ∙ i
      | inr past ↦ past-grows mid shaped q past
    ]

-- some node is to settle: the step leads to the state in which so much is settled
pub progress-follows : (sys : System) (state : Machine) (mid new : Running) (before after : Option Records) (p : ℕ) → Stands sys mid before state → IsShaped mid
    → IsComplete sys (events state.history) (family_of sys.flow mid.progress.kept) → IsNextToSettle mid 0 p → Progresses mid new before after
    → Follows sys state ProgressStep (did silent) new after
progress-follows sys state mid new before after p s shaped complete first does =
    let asked = does.asked in
    let n = length mid.flow.nodes in
    let settled = new.progress.settled in
    let h : HaveSettled n mid new = settled-with mid asked new n does.keeps does.settles in
    let to = settled-to sys state mid before settled p s shaped complete first.there first.is h.settled in
    let writes = eager_writes sys state settled (node_ids sys.flow) in
    let next = settled_state sys state settled in
    let u : LeadsTo sys state ProgressStep next silent = (family_of sys.flow mid.progress.kept, settled, to.grown, refl, refl) in
    let fly = (progress_asks sys state next silent u).1 in
    let known = does.asks.writes sys state settled s to.grown in
    let nodes : length mid.flow.nodes ≡ length sys.flow.nodes = ap (λ f. length f.nodes) s.apart.flow in
    let more = does.asks.adds.more in
    let of_writes : AreEntriesOf sys state more writes =
    subst (λ k. AreEntriesOf sys state more (eager_writes sys state settled (range_with_len 0 k))) nodes known.0 in
    let stored : AreStored sys state after (mid.parts.keep.entries ++ more) (uncollected state ++ writes) =
    subst (λ es. AreStored sys state after es (uncollected state ++ writes)) does.asks.adds.entries
    (subst (λ k. AreStored sys state after asked.parts.keep.entries (uncollected state ++ eager_writes sys state settled (range_with_len 0 k))) nodes known.2) in
    let based : AreBasesOf mid.parts.keep.entries more writes =
    subst (λ k. AreBasesOf mid.parts.keep.entries more (eager_writes sys state settled (range_with_len 0 k))) nodes known.1 in
    let entries_then : AreEntriesOf sys next asked.parts.keep.entries (uncollected next) =
    subst (λ es. AreEntriesOf sys next es (uncollected next)) (sym does.asks.adds.entries)
    (entries_after_asking sys s.apart.well_formed state s.apart.reached ProgressStep next silent u writes refl fly mid.parts.keep.entries more s.apart.entries of_writes) in
    let bases_then : AreBasesOf asked.parts.keep.entries asked.parts.keep.entries (uncollected next) =
    subst (λ es. AreBasesOf es es (uncollected next)) (sym does.asks.adds.entries)
    (bases_after_asking sys state next writes refl fly mid.parts.keep.entries more s.apart.entries s.apart.bases
    (bases-left sys state mid.parts.keep.entries more more writes of_writes based)) in
    let stored_then : AreStored sys next after asked.parts.keep.entries (uncollected next) =
    subst (λ es. AreStored sys next after es (uncollected next)) (sym does.asks.adds.entries)
    (records_after_asking sys s.apart.well_formed state s.apart.reached ProgressStep next silent u writes refl fly mid.parts.keep.entries more after stored) in
    record {
      next = next;
      steps = u;
      stands = subst (λ (r : Running). Stands sys r after next) (sym (does.others ∙ ap (settled_into new) does.keeps))
          (settled-stands sys state mid new asked.parts.keep before after s shaped to (subst (λ k. HaveSettled k mid new) nodes h) u entries_then bases_then stored_then);
    }
  where
    settled-with : (mid asked new : Running) (n : ℕ) → ChangesKeep mid asked → HaveSettled n asked new → HaveSettled n mid new
    settled-with mid asked new n c h = by (subst (λ (r : Running). HaveSettled n r new) c h)
      where
        by : HaveSettled n (with_keep asked.parts.keep mid) new → HaveSettled n mid new
        by a = record { settled = a.settled; tables = a.tables; other_tables = a.other_tables; traces = a.traces }

-- no node is to settle: the step is idle
pub progress-idle : (sys : System) (state : Machine) (mid : Running) (records : Option Records) → Stands sys mid records state
    → IsComplete sys (events state.history) (family_of sys.flow mid.progress.kept) → NoneGrowsIn mid 0 (length mid.flow.nodes)
    → Follows sys state ProgressStep idle mid records
progress-idle sys state mid records s complete none = record {
  next = state;
  steps = (
    no_more-idle sys state mid.progress.kept complete (λ p l live.
        ap (λ fs. has_more (front_of mid.progress.kept p) (front_of fs p)) (sym s.apart.settled)
        ∙ sym (ap (λ b. not b && has_more (front_of mid.progress.kept p) (front_of mid.progress.settled p)) (ap (λ fs. get_or fs p false) s.apart.failed ∙ live))
        ∙ none p (omega arith) (subst (λ f. p < length f.nodes) (sym s.apart.flow) l)),
    refl,
  );
  stands = s;
}

-- ---- the answers of the step

-- what is kept is complete once it is brought up
up-complete : (sys : System) (state : Machine) (old mid : Running) (records : Option Records) → Stands sys old records state → IsBroughtUp old mid
    → IsComplete sys (events state.history) (family_of sys.flow mid.progress.kept)
up-complete sys state old mid records s up =
    subst (λ f. IsComplete sys (events state.history) (family_of f mid.progress.kept)) s.apart.flow
    (up.fresh.complete sys (events state.history) (sym s.apart.flow) s.apart.progress).1

pub idle-takes : (old mid : Running) (before : Option Records) → IsBroughtUp old mid → NoneGrowsIn mid 0 (length mid.flow.nodes)
    → TakesStep old before ProgressStep (Ok Idle) mid before
idle-takes old mid before up none = λ sys state s trust.
    progress-idle sys state mid before (brought_up_stands sys state old mid before s up) (up-complete sys state old mid before s up) none

pub did-takes : (old mid new : Running) (before after : Option Records) (p : ℕ) → IsBroughtUp old mid → IsShaped mid → IsNextToSettle mid 0 p
    → Progresses mid new before after → TakesStep old before ProgressStep (Ok (Did Quiet)) new after
did-takes old mid new before after p up shaped first does = λ sys state s trust.
    progress-follows sys state mid new before after p (brought_up_stands sys state old mid before s up) shaped (up-complete sys state old mid before s up) first does

-- asking and settling are the step
pub progresses : (mid asked new : Running) (before after : Option Records) → ChangesKeep mid asked → HaveAsked (length mid.flow.nodes) mid asked before after
    → ChangesSettled asked new → HaveSettled (length asked.flow.nodes) asked new → Progresses mid new before after
progresses mid asked new before after c a d h = record {
  asked = asked;
  keeps = c;
  asks = a;
  others = d;
  settles = subst (λ (r : Running). HaveSettled (length r.flow.nodes) asked new) c h;
}

-- ---- where the step asks for a write

-- the list of what is inside one of two frontiers of a domain
abbrev joined : Bounds → Front → Front → Front
joined b f g = filter (in_domain b) (excluding_pairs f g [])

names-joined : (b : Bounds) (f g : Front) → IsCanonical b f → IsCanonical b g → IsFrontOf b (joined b f g) (join (frontier_of b f) (frontier_of b g))
names-joined b f g h k =
    let i = in_domain-canonical b f h in
    let j = in_domain-canonical b g k in
    names-join_sides b (excluding_pairs f g []) f g i j (names-join b.greatest f g (low f i) (low g j))
  where
    low : (os : Front) → AllByRecursion (λ o. in_domain b o ≡ true) os → AllByRecursion (λ o. leq o b.greatest ≡ true) os
    low os all = each-weaker (λ o. in_domain b o ≡ true) (λ o. leq o b.greatest ≡ true) os (domain-leq b) all

-- what is settled and what is complete of node p
abbrev joined_at : Running → ℕ → Front
joined_at mid p = joined (bounds_of mid.flow p) (front_of mid.progress.settled p) (front_of mid.progress.kept p)

-- what node p settles, where it is to settle, and else what is settled of it
abbrev settles_at : Running → ℕ → Front
settles_at mid p = cond (grows mid p) (joined_at mid p) (front_of mid.progress.settled p)

-- the same of all nodes
abbrev all_settled : Running → List Front
all_settled mid = map (settles_at mid) (range_with_len 0 (length mid.progress.settled))

settles-none : (mid : Running) (p : ℕ) → grows mid p ≡ false → settles_at mid p ≡ front_of mid.progress.settled p
settles-none mid p n = ap (λ b. cond b (joined_at mid p) (front_of mid.progress.settled p)) n

settles-joined : (mid : Running) (p : ℕ) → grows mid p ≡ true → settles_at mid p ≡ joined_at mid p
settles-joined mid p g = ap (λ b. cond b (joined_at mid p) (front_of mid.progress.settled p)) g

settled-there : (mid : Running) → IsShaped mid → (p : ℕ) → front_of (all_settled mid) p ≡ settles_at mid p
settled-there mid shaped p = elim (cases_lt p (length mid.progress.settled)) [
  | inl l ↦ get_or-map-range_with_len (settles_at mid) 0 (length mid.progress.settled) p p [] l (omega arith)
  | inr past ↦
      let each = shaped.progress.settled_each in
      let long = length-map-range_with_len (settles_at mid) 0 (length mid.progress.settled) in
      get_or_past (all_settled mid) p [] (omega (arith, past, long)) ∙ sym (get_or_past mid.progress.settled p [] past)
      ∙ sym (settles-none mid p (past-grows mid shaped p (omega (arith, past, each))))
]

all-grown : (mid : Running) → IsShaped mid
    → AreGrownBefore mid.flow mid.failed.items mid.progress.settled mid.progress.kept (all_settled mid) (length mid.flow.nodes)
all-grown mid shaped = record {
  one_each = length-map-range_with_len (settles_at mid) 0 (length mid.progress.settled);
  grown = λ p l g.
      let b = bounds_of mid.flow p in
      let old = front_of mid.progress.settled p in
      let kept = front_of mid.progress.kept p in (
        (and_parts (not (get_or mid.failed.items p false)) (has_more kept old) g).1,
        subst (λ (f : Front). IsFrontOf b f (join (frontier_of b old) (frontier_of b kept))) (sym (settled-there mid shaped p ∙ settles-joined mid p g))
            (names-joined b old kept (shaped.progress.settled p) (shaped.progress.kept p)),
      );
  others = λ p none. elim (cases_Bool (grows mid p)) [
    | inl g ↦ elim (cases_lt p (length mid.flow.nodes)) [
      | inl l ↦ absurd (both_ways (grows mid p) (none l) g)
      | inr past ↦ absurd (both_ways (grows mid p) (past-grows mid shaped p past) g)
    ]
    | inr n ↦ settled-there mid shaped p ∙ settles-none mid p n
  ];
}

-- the writes of nodes of which one asks
some-writes : (f : ℕ → Write) (test : ℕ → Bool) (from n p : ℕ) → from ≤ p → p < from + n → test p ≡ true
    → 0 < length (map f (filter test (range_with_len from n)))
some-writes f test from zero p l m is = absurd (omega (arith, l, m))
some-writes f test from (suc n) p l m is =
    by (λ less. some-writes f test (from + 1) n p (omega (arith, less)) (omega (arith, m)) is) (test from) refl
  where
    by : (from < p → 0 < length (map f (filter test (range_with_len (from + 1) n)))) → (b : Bool) → test from ≡ b
        → 0 < length (map f (cond b (from ∷ filter test (range_with_len (from + 1) n)) (filter test (range_with_len (from + 1) n))))
    by later true e = omega arith
    by later false e = elim (cases_lt from p) [
      | inl less ↦ later less
      | inr past ↦ let same : from ≡ p = omega (arith, l, past) in absurd (both_ways (test p) (ap test (sym same) ∙ e) is)
    ]

-- where some eager node is to settle, the step asks for a write
eager-asks : (sys : System) (state : Machine) (mid : Running) (records : Option Records) → Stands sys mid records state → IsShaped mid
    → IsComplete sys (events state.history) (family_of sys.flow mid.progress.kept) → HasEagerToSettle mid → AsksAWrite sys state ProgressStep
eager-asks sys state mid records s shaped complete has =
    let p = has.0 in
    let there : p < length mid.flow.nodes = grows-there mid shaped p has.2 in
    let l : p < length sys.flow.nodes = subst (λ (f : Dataflow). p < length f.nodes) s.apart.flow there in
    let settled = all_settled mid in
    let to = settled-to sys state mid records settled p s shaped complete there has.2 (all-grown mid shaped) in
    let eager = ap (λ (f : Dataflow). is_eager (policy_of f p)) (sym s.apart.flow) ∙ has.1 in
    let asks : asks_at_progress sys state settled p ≡ true =
    asks-grows sys state settled mid records s to.grown p l ∙ ap (λ b. b && grows mid p) eager ∙ has.2 in
    let some = some-writes (λ q. checkpoint_of state q (front_of settled q)) (asks_at_progress sys state settled) 0 (length sys.flow.nodes) p
    (omega arith) (omega (arith, l)) asks in
    let long = length-append state.writes (eager_writes sys state settled (node_ids sys.flow)) in
    (settled_state sys state settled, silent, (family_of sys.flow mid.progress.kept, settled, to.grown, refl, refl), omega (arith, some, long))

-- so it does after what is kept is brought up
pub up-asks : (old mid : Running) (before : Option Records) → IsBroughtUp old mid → IsShaped mid → HasEagerToSettle mid
    → (sys : System) (state : Machine) → Stands sys old before state → AsksAWrite sys state ProgressStep
up-asks old mid before up shaped has = λ sys state s.
    eager-asks sys state mid before (brought_up_stands sys state old mid before s up) shaped (up-complete sys state old mid before s up) has

-- where asking fails, what was asked is withdrawn
pub fault-takes : (old mid new : Running) (before after : Option Records) (e : EngineFault) → IsBroughtUp old mid → IsShaped mid
    → ChangesKeep mid new → KeepsEntries mid.parts.keep.entries new.parts.keep.entries before after → IsUndamaged {T = Unit {0}} (Err e)
    → (IsErrOf {T = Unit {0}} (Err e) fault.StoreFault → HasEagerToSettle mid) → TakesStep old before ProgressStep (Err e) new after
fault-takes old mid new before after e up shaped c k u has = λ sys state s.
    left-answers (Unit {0}) sys state ProgressStep e new after u (λ failed. (
      up-asks old mid before up shaped (has failed) sys state s,
      kept-stands sys mid new before after state (brought_up_stands sys state old mid before s up) c k,
    ))

-- Steps that change what is written alone: a checkpoint is asked, and a write is acknowledged.
use Rattle.std.proofs.Common.{◌≡◌, ℕ, ◌<◌, ◌^◌, ◌++◌, ◌&&◌, Bool, true, false, cond, List, [], ◌∷◌, length, Option, Some, None, refl, sym, ap, subst, ◌∙◌, inl, inr}
use Rattle.std.specs.List.{AllByRecursion, Contains}
use Rattle.std.specs.Prelude.{IfSome, option_and_then}
use Rattle.std.proofs.lemmas.Iterator.Adapters.{option_map_id}
use Rattle.fw_frontier.specs.Frontier.{Within}
use Rattle.fw_frontier.specs.Front.{Front, IsCanonical}
use Rattle.fw_flow.specs.declared.kind.Policy.{Policy}
use Rattle.fw_flow.specs.declared.kind.Policy.TheVariants as policy
use Rattle.fw_flow.specs.declared.step.Step.{Step}
use Rattle.fw_flow.specs.declared.step.Step.TheVariants.{Checkpoint as CheckpointStep, Persist}
use Rattle.fw_flow.specs.Dataflow.{System, kind_of, policy_of, bounds_of, node_frontier}
use Rattle.fw_flow.specs.WellFormed.{IsWellFormedSystem}
use Rattle.fw_model.specs.EventStamps.{AreStampsIf}
use Rattle.fw_model.specs.Filtering.{events_inside}
use Rattle.fw_model.specs.Machine.{Machine, Write, checkpoint, events, family_of, front_of, is_failed, no_stamps}
use Rattle.fw_model.specs.Reached.{IsReached}
use Rattle.fw_model.specs.Steps.{LeadsTo, did, idle, silent, checkpoint_of, last_or, is_asked_for_checkpoints}
use Rattle.fw_model.specs.Writes.{takes_checkpoints}
use Rattle.fw_model.proofs.AskedLaws.{takes-declared}
use Rattle.fw_model.proofs.DomainLaws.{has_epochs}
use Rattle.fw_record.specs.declared.record.Checkpoint.{Checkpoint}
use Rattle.fw_record.specs.Sound.{IsCheckpoint, IsSound}
use Rattle.fw_node.specs.declared.node.Node.{Node}
use Rattle.fw_keep.specs.declared.entry.Entry.{Entry}
use Rattle.fw_keep.specs.declared.entry.Written.{Written}
use Rattle.fw_keep.specs.Catalogue.{KeepState, oldest, persisted}
use Rattle.fw_keep.specs.Entry.{asked_beside, base_of_record, depth_on}
use Rattle.fw_keep.specs.Stored.{Records}
use Rattle.fw_stands.specs.Entries.{entry_fronts, id_at_front, AreBasesOf}
use Rattle.fw_stands.specs.Parts.{settles_with_checkpoints, sums_up, IsTableIn}
use Rattle.fw_stands.specs.Settling.{asked_state}
use Rattle.fw_stands.specs.Written.{AreEntriesOf, AreStored, IsEntryOf, IsRecordFor, uncollected}
use Rattle.fw_stands.proofs.AtReached.{reached-next, reached-legal, reached-settled}
use Rattle.fw_stands.proofs.EntrySteps.{kept_bytes_are_stored, asked_entry_is_of_write, put_record_is_stored, entries_after_asking, records_after_asking, entries_after_persist, records_after_persist, persists_where_in_flight}
use Rattle.fw_stands.proofs.BaseSteps.{bases_after_asking, bases_after_persist}
use Rattle.fw_stands.proofs.EntryViews.{takes_checkpoints_by_last_entry}
use Rattle.fw_stands.proofs.FitLaws.{records_can_be_of_entries}
use Rattle.fw_stands.proofs.LossLaws.{losses_stay}
use Rattle.fw_progress.proofs.OutLaws.{sender-there}
use Rattle.fw_stands.proofs.NodeCheckpoints.{checkpoints-acknowledged}
use Rattle.fw_stands.proofs.SettlingLaws.{asked_tables-settle, unasked_tables-stay}
use Rattle.fw_stands.proofs.StayingLaws.{writes-keep_parts, writes-keep_tables}
use Rattle.fw_rollback.specs.Tables.{table_at}
use Rattle.fw_running.proofs.KnownTraces.{knows-next}
use Rattle.fw_running.proofs.SameStateLaws.{down-failed, idle-follows, keep-stands}
use Rattle.std.proofs.lemmas.Bool.{and_right, cases_Bool, cases_eq, cond_both}
use Rattle.fw_lemmas.proofs.Bools.{first_holds, second_holds, two_ways}
use Rattle.fw_running.specs.declared.running.Running.{Running}
use Rattle.fw_settle.specs.Checkpoints.{AsksCheckpoint, CanBeMadeAt, MayTakeCheckpoint, front_of_entry, next_base, record_on}
use Rattle.fw_settle.specs.Settling.{settles_when_asked, IsTableSettled, KeepsEntries, SettlesTableIf}
use Rattle.fw_running.specs.Kept.{table_of, source_of, with_tables}
use Rattle.fw_running.specs.Logging.{with_keep, ChangesKeep}
use Rattle.fw_running.specs.Shaped.{IsShaped, IsWrittenOf}
use Rattle.fw_running.specs.Stands.{Stands}
use Rattle.fw_running.specs.Steps.{Follows, IsStepEnabled}
use Rattle.fw_settle.proofs.BaseLaws.{IsNextBase, base-left, depth-there, next-base}
use Rattle.fw_settle.proofs.CheckpointLaws.{within-front}
use Rattle.fw_settle.proofs.MadeLaws.{made-for, made-sound}
use Rattle.fw_settle.proofs.ShapeLaws.{shaped-keep}

-- ---- other writes

-- where the writes alone are other ones, and tables, entries and records stand for the state with them, the engine stands for it
pub writes-stand : (sys : System) (old : Running) (keep : KeepState) (tables : List (Option Node)) (before after : Option Records) (state : Machine) (writes : List Write) (step : Step)
    → Stands sys old before state → LeadsTo sys state step (record state { writes = writes }) silent
    → ((p : ℕ) → p < length sys.flow.nodes → IsTableIn sys (record state { writes = writes }) p (table_at tables p))
    → AreEntriesOf sys (record state { writes = writes }) keep.entries (uncollected (record state { writes = writes }))
    → AreBasesOf keep.entries keep.entries (uncollected (record state { writes = writes }))
    → AreStored sys (record state { writes = writes }) after keep.entries (uncollected (record state { writes = writes }))
    → Stands sys (with_tables tables (with_keep keep old)) after (record state { writes = writes })
writes-stand sys old keep tables before after state writes step s t stand entries bases stored =
    let next : Machine = record state { writes = writes } in
    let k = writes-keep_parts sys state writes in
    record {
      apart = record {
        flow = s.apart.flow;
        well_formed = s.apart.well_formed;
        reached = reached-next sys state next step (did silent) s.apart.reached t;
        settled = s.apart.settled;
        failed = s.apart.failed;
        low = s.apart.low;
        epochs = s.apart.epochs;
        tables = stand;
        queues = λ e l. s.apart.queues e l ∙ sym (k.queues e);
        logs = λ e l. s.apart.logs e l ∙ sym (k.logs e);
        outputs = λ o l out.
            let i = s.apart.outputs o l out in
            record { bound = i.bound ∙ sym (k.outputs.bound o); recs = λ x. i.recs x ∙ sym (k.outputs.recs o x) };
        sources = λ p l. k.sources p (source_of old p) (s.apart.sources p l);
        progress = s.apart.progress;
        entries = entries;
        bases = bases;
        stored = stored;
      };
      traces = knows-next sys state step next silent old.traces old.traces s.apart.well_formed s.apart.reached refl t s.traces (λ p l. k.traces s.traces.floor p old.traces);
      lost = λ p full u. (
        λ i. let l = (s.lost p full u).0 i in (losses_stay sys s.apart.well_formed state s.apart.reached step next silent t p l.0 l.0 u).1 l,
        λ i. (s.lost p full u).1 ((losses_stay sys s.apart.well_formed state s.apart.reached step next silent t p i.0 i.0 u).0 i),
      );
    }

-- where the entries are the same and their bytes stay, the engine stands for the same state
pub kept-stands : (sys : System) (old new : Running) (before after : Option Records) (state : Machine) → Stands sys old before state → ChangesKeep old new
    → KeepsEntries old.parts.keep.entries new.parts.keep.entries before after → Stands sys new after state
kept-stands sys old new before after state s c k =
    subst (λ (r : Running). Stands sys r after state) (sym c) (keep-stands sys old new.parts.keep before after state s k.entries
    (kept_bytes_are_stored sys state old.parts.keep.entries (uncollected state) before after k.change k.records k.bytes s.apart.stored))

-- ---- a write is acknowledged

persisted-none : (entries : List Entry) → oldest entries ≡ None → persisted entries ≡ entries
persisted-none [] e = refl
persisted-none (x ∷ entries) e = by x.acknowledged e (persisted-none entries)
  where
    by : (b : Bool) → cond b (oldest entries) (Some x.id) ≡ None → (oldest entries ≡ None → persisted entries ≡ entries)
        → cond b (x ∷ persisted entries) (record x { acknowledged = true } ∷ entries) ≡ x ∷ entries
    by true k h = ap (λ es. x ∷ es) (h k)
    by false k h = absurd (cc)

-- where a write is in flight, the oldest one is acknowledged
pub persist-some : (sys : System) (state : Machine) (old : Running) (records : Option Records) → Stands sys old records state
    → (id : ℕ) → oldest old.parts.keep.entries ≡ Some id
    → Follows sys state Persist (did silent) (with_keep (record old.parts.keep { entries = persisted old.parts.keep.entries }) old) records
persist-some sys state old records s id is =
    let entries = old.parts.keep.entries in
    let e = (persists_where_in_flight sys state entries s.apart.entries).1 id is in
    let t = e.1 in
    let next : Machine = record state { writes = t.0 } in
    let u : LeadsTo sys state Persist next silent = (t.0, t.1, refl, refl) in
    record {
      next = next;
      steps = u;
      stands = writes-stand sys old (record old.parts.keep { entries = persisted entries }) old.parts.tables records records state t.0 Persist s u
          (λ p l. writes-keep_tables sys state t.0 (λ q. checkpoints-acknowledged q state.writes t.0 t.1) p (table_of old p) (s.apart.tables p l))
          (entries_after_persist sys s.apart.well_formed state s.apart.reached next silent u entries s.apart.entries)
          (bases_after_persist sys state next silent u entries s.apart.entries s.apart.bases)
          (records_after_persist sys s.apart.well_formed state s.apart.reached next silent u entries s.apart.entries records s.apart.stored);
    }

-- where none is, nothing changes
pub persist-none : (sys : System) (state : Machine) (old : Running) (records : Option Records) → Stands sys old records state
    → oldest old.parts.keep.entries ≡ None
    → Follows sys state Persist idle (with_keep (record old.parts.keep { entries = persisted old.parts.keep.entries }) old) records
persist-none sys state old records s none =
    let entries = old.parts.keep.entries in
    record {
      next = state;
      steps = (λ other effect t. (persists_where_in_flight sys state entries s.apart.entries).0 none other effect t, refl);
      stands = kept-stands sys old (with_keep (record old.parts.keep { entries = persisted entries }) old) records records state s refl
          (record { entries = persisted-none entries none; change = λ held. held; records = sym (option_map_id records); bytes = λ e c. refl });
    }

-- ---- a checkpoint is asked

-- a node that takes checkpoints and is not failed can take one at a front that holds what is settled
pub can-be_made : (sys : System) (old : Running) (records : Option Records) (state : Machine) → Stands sys old records state
    → (p : ℕ) (f : Front) → takes_checkpoints (policy_of sys.flow p) ≡ true → is_failed state p ≡ false → IsCanonical (bounds_of sys.flow p) f
    → Within (family_of sys.flow state.settled p) (node_frontier sys.flow p f) → CanBeMadeAt sys old state p f
can-be_made sys old records state s p f takes live c within =
    let l = takes-declared sys.flow p takes in
    record {
      flow = s.apart.flow;
      well_formed = s.apart.well_formed;
      reached = s.apart.reached;
      live = live;
      takes = takes;
      canonical = c;
      settled = within;
      table = s.apart.tables p l;
      logs = λ e k. s.apart.logs e (sender-there sys.flow p e l k);
      floor = s.traces.floor;
      traces = s.traces.each p l;
      counts = s.apart.progress.counts;
    }

-- the entry on which what is asked stands
abbrev pub base_then : ℕ → Running → Option Entry
base_then p old = next_base p old.parts.keep.entries

-- its record is that of the write
asked-record : (sys : System) (old new : Running) (before after : Option Records) (state : Machine) (p : ℕ) (f : Front) → CanBeMadeAt sys old state p f
    → (entries : List Entry) → IsNextBase sys state p entries (base_then p old) → (a : AsksCheckpoint p f old new before after)
    → IsRecordFor sys state p (checkpoint_of state p f).base (checkpoint f state.low) a.what
asked-record sys old new before after state p f can entries on a =
    let n = a.next in
    let since = front_of_entry (base_then p old) in
    subst (λ base. IsRecordFor sys state p base (checkpoint f state.low) a.what) (sym on.base)
    (subst (IsRecordFor sys state p since (checkpoint f state.low)) (sym n.is)
    (on.record_for f n.checkpoint (made-for sys old state p since f n.checkpoint can on.since n.made)))

-- what is asked is an entry of the write
pub asked-entry : (sys : System) (old new : Running) (before after : Option Records) (state : Machine) (p : ℕ) (f : Front) → CanBeMadeAt sys old state p f
    → (entries : List Entry) → IsNextBase sys state p entries (base_then p old) → ((e : Entry) → Contains entries e → Contains old.parts.keep.entries e)
    → (a : AsksCheckpoint p f old new before after)
    → IsEntryOf sys state (asked_beside old.parts.keep.entries a.asked.id a.what a.stamps) (checkpoint_of state p f)
asked-entry sys old new before after state p f can entries on still a =
    let h = events state.history in
    let n = a.next in
    let all = old.parts.keep.entries in
    asked_entry_is_of_write sys state (checkpoint_of state p f) refl all a.asked.id a.what a.stamps
    (ap (λ r. depth_on (base_of_record r) all) n.is ∙ on.depth all (λ e k. depth-there all e n.ascending (still e (on.there e k))) n.checkpoint)
    (asked-record sys old new before after state p f can entries on a)
    (subst (λ flow. AreStampsIf true sys (events_inside (node_frontier flow p f) h) p (node_frontier flow p f) a.stamps) can.flow
    (a.held sys h (sym can.flow) (has_epochs sys can.well_formed) (reached-legal sys state can.well_formed can.reached)
    (within-front sys can.floor state p f old.traces can.takes can.settled can.traces)))

sound-on : (o : Option Entry) (c : Checkpoint) → IsCheckpoint c → IfSome o (λ (e : Entry). e.id < 2 ^ 64) → IsSound (record_on o c)
sound-on None c sound small = sound
sound-on (Some e) c sound small = (small, sound)

-- and its record is stored with those of the other writes
pub asked-stored : (sys : System) (old new : Running) (before after : Option Records) (state : Machine) (p : ℕ) (f : Front) → CanBeMadeAt sys old state p f
    → (entries : List Entry) → IsNextBase sys state p entries (base_then p old)
    → (a : AsksCheckpoint p f old new before after) (writes : List Write) → AreStored sys state before old.parts.keep.entries writes
    → AreStored sys state after new.parts.keep.entries (writes ++ checkpoint_of state p f ∷ [])
asked-stored sys old new before after state p f can entries on a writes stored =
    let n = a.next in
    let since = front_of_entry (base_then p old) in
    let is = asked-record sys old new before after state p f can entries on a in
    let sound : IsSound a.what =
    subst IsSound (sym n.is) (sound-on (base_then p old) n.checkpoint (made-sound sys old state p since f n.checkpoint can on.since n.made n.few) n.fits) in
    subst (λ es. AreStored sys state after es (writes ++ checkpoint_of state p f ∷ [])) (sym a.asked.entries)
    (put_record_is_stored sys state old.parts.keep.entries writes (checkpoint_of state p f) a.asked.id a.what a.stamps before after stored a.asked.bytes a.asked.records sound is
    (records_can_be_of_entries sys can.well_formed state can.reached p (checkpoint_of state p f).base f state.low a.what can.takes sound is old.parts.keep.entries a.asked.id a.stamps))

-- it stands on one of the entries
pub asked-base : (sys : System) (old new : Running) (before after : Option Records) (state : Machine) (p : ℕ) (f : Front)
    → (entries : List Entry) → IsNextBase sys state p entries (base_then p old) → (a : AsksCheckpoint p f old new before after)
    → base_of_record a.what ≡ option_and_then (λ g. id_at_front p g entries) (checkpoint_of state p f).base
asked-base sys old new before after state p f entries on a =
    ap base_of_record a.next.is ∙ on.named a.next.checkpoint ∙ ap (option_and_then (λ g. id_at_front p g entries)) (sym on.base)

pub asked-takes : (p : Policy) → is_asked_for_checkpoints p ≡ true → takes_checkpoints p ≡ true
asked-takes policy.None e = absurd (two_ways false e refl)
asked-takes policy.Lazy e = refl
asked-takes policy.Logged e = refl
asked-takes policy.Eager e = absurd (two_ways false e refl)
asked-takes policy.Full e = absurd (two_ways false e refl)

-- where the engine says that a node may take a checkpoint, the machine takes it
checkpoint-leads : (sys : System) (state : Machine) (old : Running) (records : Option Records) → Stands sys old records state
    → (p : ℕ) → MayTakeCheckpoint old p → (next : Machine) × LeadsTo sys state (CheckpointStep p) next silent
checkpoint-leads sys state old records s p m =
    (takes_checkpoints_by_last_entry sys s.apart.well_formed state s.apart.reached old.parts.keep.entries s.apart.entries p
    (ap (λ f. is_asked_for_checkpoints (policy_of f p)) (sym s.apart.flow) ∙ m.asks) (sym (down-failed sys old records state s p) ∙ m.live)).0
    (λ e. m.other (ap (λ fs. front_of fs p) s.apart.settled ∙ e ∙ ap (λ f. last_or (no_stamps (bounds_of f p)) (entry_fronts p old.parts.keep.entries)) (sym s.apart.flow)))

-- so the step is enabled there
pub checkpoint-enabled : (sys : System) (state : Machine) (old : Running) (records : Option Records) → Stands sys old records state
    → (p : ℕ) → MayTakeCheckpoint old p → IsStepEnabled sys state (CheckpointStep p)
checkpoint-enabled sys state old records s p m = let e = checkpoint-leads sys state old records s p m in (e.0, silent, e.1)

-- ---- the table of a node that asks a checkpoint

-- a table that settles where a checkpoint is asked settles with the checkpoints
pub when_asked-with : (asks : Policy) (sums : Bool) → (is_asked_for_checkpoints asks && sums) ≡ true → (takes_checkpoints asks && sums) ≡ true
when_asked-with asks true k = ap (λ b. b && true) (asked-takes asks (first_holds (is_asked_for_checkpoints asks) true k))
when_asked-with asks false k = absurd (two_ways false (second_holds (is_asked_for_checkpoints asks) false k) refl)

-- of a node that takes checkpoints when asked no other table does
without-sums : (asks : Policy) (sums : Bool) → is_asked_for_checkpoints asks ≡ true → (is_asked_for_checkpoints asks && sums) ≡ false → (takes_checkpoints asks && sums) ≡ false
without-sums asks sums k n = and_right (takes_checkpoints asks) sums (sym (ap (λ b. b && sums) k) ∙ n)

table-settled : (sys : System) → IsWellFormedSystem sys → (state : Machine) → IsReached sys state → (p : ℕ) → settles_with_checkpoints sys.flow p ≡ true
    → (old new : Option Node) → IsTableSettled sys.flow p (front_of state.settled p) old new → IsTableIn sys state p old → IsTableIn sys (asked_state state p) p new
table-settled sys w state r p is None new t i = subst (IsTableIn sys (asked_state state p) p) (sym t) (record { there = i.there; of_events = tt })
table-settled sys w state r p is (Some old) None t i = absurd t
table-settled sys w state r p is (Some old) (Some new) t i = asked_tables-settle sys w state r p is old new t i

-- where it settles then, if it does, the tables are those of the state in which the checkpoint was asked
asked-tables : (sys : System) (state : Machine) (old mid new : Running) (records : Option Records) → Stands sys old records state → ChangesKeep old mid
    → (p : ℕ) → is_asked_for_checkpoints (policy_of sys.flow p) ≡ true → SettlesTableIf (settles_when_asked sys.flow p) p (front_of state.settled p) mid new
    → (q : ℕ) → q < length sys.flow.nodes → IsTableIn sys (asked_state state p) q (table_of new q)
asked-tables sys state old mid new records s changes p asks t q l =
    let was : (k : ℕ) → table_of mid k ≡ table_of old k = λ k. ap (λ (r : Running). table_of r k) changes in
    let stays : (p ≡ q → settles_with_checkpoints sys.flow q ≡ false) → table_of new q ≡ table_of mid q → IsTableIn sys (asked_state state p) q (table_of new q) =
    λ other same. subst (IsTableIn sys (asked_state state p) q) (sym (same ∙ was q)) (unasked_tables-stay sys state p q (table_of old q) other (s.apart.tables q l)) in
    elim (cases_Bool (settles_when_asked sys.flow p)) [
      | inl is ↦ elim (cases_eq q p) [
        | inl same ↦
            let here = (t.settles is).here in
            subst (λ k. IsTableIn sys (asked_state state p) k (table_of new k)) (sym same)
            (table-settled sys s.apart.well_formed state s.apart.reached p (when_asked-with (policy_of sys.flow p) (sums_up (kind_of sys.flow p)) is) (table_of old p) (table_of new p)
            (subst (λ o. IsTableSettled sys.flow p (front_of state.settled p) o (table_of new p)) (was p)
            (subst (λ f. IsTableSettled f p (front_of state.settled p) (table_of mid p) (table_of new p)) (ap (λ (r : Running). r.flow) changes ∙ s.apart.flow) here))
            (subst (λ k. IsTableIn sys state k (table_of old k)) same (s.apart.tables q l)))
        | inr other ↦ stays (λ e. absurd (other (sym e))) ((t.settles is).others q other)
      ]
      | inr isnt ↦
          stays (λ e. subst (λ k. settles_with_checkpoints sys.flow k ≡ false) e (without-sums (policy_of sys.flow p) (sums_up (kind_of sys.flow p)) asks isnt))
          (ap (λ ts. table_at ts q) (t.stays isnt))
    ]

-- a node that takes a checkpoint, as the machine does, and whose table settles then, if it waited for it, follows it
pub checkpoint-follows : (sys : System) (state : Machine) (old mid new : Running) (before after : Option Records) → Stands sys old before state → ChangesKeep old mid
    → (p : ℕ) → ((next : Machine) × LeadsTo sys state (CheckpointStep p) next silent)
    → AsksCheckpoint p (front_of state.settled p) old mid before after → new ≡ with_tables new.parts.tables mid
    → SettlesTableIf (settles_when_asked sys.flow p) p (front_of state.settled p) mid new → Follows sys state (CheckpointStep p) (did silent) new after
checkpoint-follows sys state old mid new before after s changes p e a tables settles =
    let f = front_of state.settled p in
    let t = e.1 in
    let takes = asked-takes (policy_of sys.flow p) t.0 in
    let l = takes-declared sys.flow p takes in
    let entries = old.parts.keep.entries in
    let writes = state.writes ++ checkpoint_of state p f ∷ [] in
    let next : Machine = record state { writes = writes } in
    let u : LeadsTo sys state (CheckpointStep p) next silent = (t.0, t.1, t.2, refl, refl) in
    let can = can-be_made sys old before state s p f takes t.1 (reached-settled sys state s.apart.well_formed s.apart.reached p l) (λ v i. i) in
    let more = checkpoint_of state p f ∷ [] in
    let on = next-base sys s.apart.well_formed state s.apart.reached entries s.apart.entries p l in
    let entry = asked_beside entries a.asked.id a.what a.stamps in
    let of_write = asked-entry sys old mid before after state p f can entries on (λ e c. c) a in
    let held : AreEntriesOf sys next mid.parts.keep.entries (uncollected next) =
    subst (λ es. AreEntriesOf sys next es (uncollected next)) (sym a.asked.entries)
    (entries_after_asking sys s.apart.well_formed state s.apart.reached (CheckpointStep p) next silent u more refl (refl, tt) entries (entry ∷ []) s.apart.entries
    (of_write, tt)) in
    let bases : AreBasesOf mid.parts.keep.entries mid.parts.keep.entries (uncollected next) =
    subst (λ es. AreBasesOf es es (uncollected next)) (sym a.asked.entries)
    (bases_after_asking sys state next more refl (refl, tt) entries (entry ∷ []) s.apart.entries s.apart.bases
    (base-left p entries (entry ∷ []) entry.base (checkpoint_of state p f).base of_write.base (asked-base sys old mid before after state p f entries on a), tt)) in
    let stored : AreStored sys next after mid.parts.keep.entries (uncollected next) =
    subst (λ es. AreStored sys next after es (uncollected next)) (sym a.asked.entries)
    (records_after_asking sys s.apart.well_formed state s.apart.reached (CheckpointStep p) next silent u more refl (refl, tt) entries (entry ∷ []) after
    (subst (λ es. AreStored sys state after es (uncollected state ++ more)) a.asked.entries (asked-stored sys old mid before after state p f can entries on a (uncollected state) s.apart.stored))) in
    record {
      next = next;
      steps = u;
      stands = subst (λ r. Stands sys r after next) (sym (tables ∙ ap (with_tables new.parts.tables) changes))
          (writes-stand sys old mid.parts.keep new.parts.tables before after state writes (CheckpointStep p) s u
          (asked-tables sys state old mid new before s changes p t.0 settles) held bases stored);
    }

-- so it does where the engine says that it may
pub may-follows : (sys : System) (state : Machine) (old mid new : Running) (before after : Option Records) → Stands sys old before state → ChangesKeep old mid
    → (p : ℕ) → MayTakeCheckpoint old p → AsksCheckpoint p (front_of old.progress.settled p) old mid before after → new ≡ with_tables new.parts.tables mid
    → SettlesTableIf (settles_when_asked mid.flow p) p (front_of old.progress.settled p) mid new → Follows sys state (CheckpointStep p) (did silent) new after
may-follows sys state old mid new before after s c p m a tables settles =
    checkpoint-follows sys state old mid new before after s c p (checkpoint-leads sys state old before s p m)
    (subst (λ fs. AsksCheckpoint p (front_of fs p) old mid before after) s.apart.settled a) tables
    (subst (λ fs. SettlesTableIf (settles_when_asked sys.flow p) p (front_of fs p) mid new) s.apart.settled
    (subst (λ f. SettlesTableIf (settles_when_asked f p) p (front_of old.progress.settled p) mid new) (ap (λ (r : Running). r.flow) c ∙ s.apart.flow) settles))

-- and else nothing happens
pub may_not-idle : (sys : System) (state : Machine) (old : Running) (records : Option Records) → Stands sys old records state
    → (p : ℕ) → (MayTakeCheckpoint old p → ⊥) → Follows sys state (CheckpointStep p) idle old records
may_not-idle sys state old records s p isnt =
    idle-follows sys old records state (CheckpointStep p) s (
      λ next effect t. isnt (record {
        asks = ap (λ f. is_asked_for_checkpoints (policy_of f p)) s.apart.flow ∙ t.0;
        live = down-failed sys old records state s p ∙ t.1;
        other = λ e.
            (takes_checkpoints_by_last_entry sys s.apart.well_formed state s.apart.reached old.parts.keep.entries s.apart.entries p t.0 t.1).1 (next, (t.0, t.1, t.2, t.3, refl))
            (ap (λ fs. front_of fs p) (sym s.apart.settled) ∙ e ∙ ap (λ f. last_or (no_stamps (bounds_of f p)) (entry_fronts p old.parts.keep.entries)) s.apart.flow);
      }),
      refl,
    )

-- what is persisted is written as it was
persisted-each : (P : ℕ → Written → Type 0) (entries : List Entry) → AllByRecursion (λ (e : Entry). P e.node e.written) entries
    → AllByRecursion (λ (e : Entry). P e.node e.written) (persisted entries)
persisted-each P [] a = tt
persisted-each P (x ∷ entries) a =
    cond_both x.acknowledged (x ∷ persisted entries) (record x { acknowledged = true } ∷ entries) (AllByRecursion (λ (e : Entry). P e.node e.written))
    (λ k. (a.0, persisted-each P entries a.1)) (λ k. a)

-- and fits the flow
pub persisted-shaped : (old : Running) (keep : KeepState) → IsShaped old → keep ≡ record old.parts.keep { entries = persisted old.parts.keep.entries }
    → IsShaped (with_keep keep old)
persisted-shaped old keep s e =
    shaped-keep old (with_keep keep old) s refl
    (subst (λ (k : KeepState). AllByRecursion (λ (entry : Entry). IsWrittenOf old.flow entry.node entry.written) k.entries) (sym e)
    (persisted-each (IsWrittenOf old.flow) old.parts.keep.entries s.entries))

-- a node that may take a checkpoint is there
pub may-there : (running : Running) (p : ℕ) → MayTakeCheckpoint running p → p < length running.flow.nodes
may-there running p m = takes-declared running.flow p (asked-takes (policy_of running.flow p) m.asks)

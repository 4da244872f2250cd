-- The engine after a recovery stands for the state to which the machine recovers.
use Rattle.std.proofs.Common.{◌≡◌, ◌↔◌, ℕ, zero, suc, ◌+◌, ◌<◌, true, false, not, List, [], ◌∷◌, length, map, filter, replicate, slice_index_or, Option, refl, sym, ap, subst, ◌∙◌, arith}
use Rattle.std.specs.List.{range_with_len}
use Rattle.std.proofs.lemmas.List.{get_or-map}
use Rattle.fw_lemmas.proofs.Bools.{two_ways}
use Rattle.fw_lemmas.proofs.Lists.{contains-none}
use Rattle.fw_frontier.specs.Front.{Front}
use Rattle.fw_flow.specs.declared.choice.Choice.{Choice}
use Rattle.fw_flow.specs.declared.choice.Cut.{Cut}
use Rattle.fw_flow.specs.declared.choice.Cut.TheVariants.{Present, At}
use Rattle.fw_flow.specs.declared.step.Step.TheVariants.{Recover}
use Rattle.fw_flow.specs.Dataflow.{System, Dataflow, sender, kind_of, is_output_kind}
use Rattle.fw_flow.specs.WellFormed.{IsWellFormedSystem}
use Rattle.fw_model.specs.Floors.{IsFloor}
use Rattle.fw_model.specs.Choice.{cut_of, kept, IsCandidate, IsLargest}
use Rattle.fw_model.specs.Machine.{Machine, events, front_of, is_failed}
use Rattle.fw_model.specs.Reached.{IsReached}
use Rattle.fw_model.specs.Steps.{cuts, did, front_of_cut, offers, recovered_state, HasEpoch, LeadsTo}
use Rattle.fw_model.proofs.DomainLaws.{has_epochs}
use Rattle.fw_model.proofs.FloorLaws.{cut-floor}
use Rattle.fw_keep.specs.declared.entry.Entry.{Entry}
use Rattle.fw_keep.specs.Catalogue.{KeepState}
use Rattle.fw_keep.specs.Stored.{Records}
use Rattle.fw_progress.specs.declared.traces.Traces.{Traces}
use Rattle.fw_progress.specs.History.{count_at, StandsForHistory}
use Rattle.fw_progress.specs.Progress.{Standing}
use Rattle.fw_progress.specs.Trace.{IsTraceAmong}
use Rattle.fw_border.specs.Outputs.{output_at}
use Rattle.fw_border.specs.Sources.{source_at}
use Rattle.fw_edge.specs.Messages.{MessagesState}
use Rattle.fw_rollback.specs.declared.parts.Parts.{Parts}
use Rattle.fw_rollback.specs.Asked.{given_of}
use Rattle.fw_rollback.specs.Edges.{on_edge}
use Rattle.fw_rollback.specs.Restored.{Restores, is_undone}
use Rattle.fw_rollback.specs.Tables.{table_at}
use Rattle.fw_stands.specs.Recovered.{Recovers}
use Rattle.fw_stands.specs.Parts.{IsOutputOf, IsSourceOf, IsTableIn, IsTraceIn, logged, queued}
use Rattle.fw_stands.specs.Entries.{AreBasesOf}
use Rattle.fw_stands.specs.Recovered.{IsSettledBy}
use Rattle.fw_stands.specs.Written.{AreEntriesOf, AreStored, uncollected}
use Rattle.fw_stands.proofs.AtReached.{reached-legal, reached-next}
use Rattle.fw_stands.proofs.BaseSteps.{bases_after_recovery}
use Rattle.fw_stands.proofs.EntrySteps.{entries_after_recovery, records_after_recovery}
use Rattle.fw_stands.proofs.ReadLaws.{recovers-by_step}
use Rattle.fw_stands.proofs.RecoveredBorders.{none-lost, settled-by_cuts}
use Rattle.fw_stands.proofs.RecoveredProgress.{counted-left, queues-count}
use Rattle.fw_running.proofs.KnownTraces.{knows-next}
use Rattle.fw_running.specs.declared.running.Running.{Running}
use Rattle.fw_recover.specs.CutProgress.{IsProgressCut}
use Rattle.fw_recover.specs.CutTraces.{AreTracesCut}
use Rattle.fw_running.specs.Held.{StandsHeld}
use Rattle.fw_running.specs.Stands.{KnowsLost, KnowsTraces, Stands, StandsApart}
use Rattle.fw_running.specs.Steps.{Follows, Trusts}
use Rattle.fw_recover.proofs.PartsLaws.{IsGiven, table-after, log-after, queue-made, output-made, source-made}
use Rattle.fw_recover.proofs.TracesAfterLaws.{trace-after, trace-after_held}

-- ---- the parts

-- The parts stand for a state, over these records of the store.
pub record PartsStandFor (sys : System) (records : Option Records) (state : Machine) (parts : Parts) : Type 0 where
  pub low : parts.low ≡ state.low
  pub tables : (p : ℕ) → p < length sys.flow.nodes → IsTableIn sys state p (table_at parts.tables p)
  pub queues : (e : ℕ) → e < length sys.flow.edges → (on_edge parts.queues e).messages ≡ queued sys state e
  pub logs : (e : ℕ) → e < length sys.flow.edges → (on_edge parts.logs e).messages ≡ logged sys state e
  pub outputs : (o : ℕ) → o < length sys.flow.nodes → is_output_kind (kind_of sys.flow o) ≡ true → IsOutputOf sys state o (output_at parts.outputs.outputs o)
  pub sources : (s : ℕ) → s < length sys.flow.nodes → IsSourceOf sys state s (source_at parts.sources s)
  pub entries : AreEntriesOf sys state parts.keep.entries (uncollected state)
  pub stored : AreStored sys state records parts.keep.entries (uncollected state)

parts-stand : (sys : System) (running : Running) (records : Option Records) (state : Machine) → StandsApart sys running records state
    → PartsStandFor sys records state running.parts
parts-stand sys running records state a = record {
  low = a.low;
  tables = a.tables;
  queues = a.queues;
  logs = a.logs;
  outputs = a.outputs;
  sources = a.sources;
  entries = a.entries;
  stored = a.stored;
}

-- parts that are restored to the largest choice stand for the recovered state
pub parts-recovered : (sys : System) (records : Option Records) (state : Machine) (choice : Choice) (settled : List Front) (old new : Parts)
    → Recovers sys state choice settled → LeadsTo sys state Recover (recovered_state sys state choice settled) (cuts choice) → Trusts sys state Recover records
    → PartsStandFor sys records state old → Restores sys.flow choice records old new
    → PartsStandFor sys records (recovered_state sys state choice settled) new
parts-recovered sys records state choice settled old new r leads trust s made =
    let next = recovered_state sys state choice settled in
    let w = r.well_formed in
    let reached : IsReached sys next = reached-next sys state next Recover (did (cuts choice)) r.reached leads in
    let gone : new.keep.entries ≡ filter (λ e. not (is_undone choice e)) old.keep.entries = ap (λ (keep : KeepState). keep.entries) made.restored.entries in
    let given : (p : ℕ) → p < length sys.flow.nodes → IsGiven sys state choice settled records p (given_of made.given p) =
    λ p l. record {
      recovers = r;
      trusts = trust;
      entries = old.keep.entries;
      of_writes = s.entries;
      stored = s.stored;
      declared = l;
      fetched = made.fetched p l;
    } in
    let logs : (e : ℕ) → e < length sys.flow.edges → (on_edge new.logs e).messages ≡ logged sys next e =
    λ e l.
    let p = sender sys.flow e in
    let there = w.flow.senders_declared e l in
    log-after sys state choice settled records e (given_of made.given p) (given p there) l old new s.low (made.restored.nodes p there) (s.logs e l)
    in
    record {
      low = made.restored.low ∙ s.low;
      tables = λ p l. table-after sys state choice settled records p (given_of made.given p) (given p l) old new s.low (made.restored.nodes p l) (s.tables p l);
      queues = λ e l.
          queue-made sys state choice settled r e l (on_edge old.queues e) (on_edge new.logs e) (on_edge new.queues e) (s.queues e l) (logs e l) (made.restored.queues e l);
      logs = logs;
      outputs = λ o l kind.
          output-made sys state choice settled r o l kind (output_at old.outputs.outputs o) (output_at new.outputs.outputs o) (s.outputs o l kind) (made.restored.outputs o l);
      sources = λ p l. source-made sys state choice settled r reached p l (source_at old.sources p) (source_at new.sources p) (s.sources p l) (made.restored.inputs p l);
      entries = subst (λ es. AreEntriesOf sys next es (uncollected next)) (sym gone)
          (entries_after_recovery sys w state r.reached choice next leads old.keep.entries s.entries);
      stored = subst (λ es. AreStored sys next records es (uncollected next)) (sym gone)
          (records_after_recovery sys w state r.reached choice next leads old.keep.entries s.entries records s.stored);
    }

-- ---- what is beside the parts

recovers : (sys : System) (state : Machine) (choice : Choice) (queues : List MessagesState) (old new : Standing) → IsWellFormedSystem sys → IsReached sys state
    → old.settled ≡ state.settled → IsLargest sys state (offers sys state) choice → IsProgressCut sys.flow choice queues old new → Recovers sys state choice new.settled
recovers sys state choice queues old new w reached same largest c = record {
  well_formed = w;
  reached = reached;
  largest = largest;
  cuts = settled-by_cuts sys state choice w reached largest new.settled c.one_each
      (λ p l. subst (λ fronts. IsSettledBy (front_of fronts p) (cut_of choice p) (front_of new.settled p)) same (c.settled p l));
}

-- progress that is cut stands for the history that is left
progress-recovered : (sys : System) (state : Machine) (choice : Choice) (queues : List MessagesState) (old new : Standing) → Recovers sys state choice new.settled
    → ((e : ℕ) → e < length sys.flow.edges → (on_edge queues e).messages ≡ queued sys (recovered_state sys state choice new.settled) e)
    → IsProgressCut sys.flow choice queues old new → StandsForHistory sys (events state.history) old
    → StandsForHistory sys (events (recovered_state sys state choice new.settled).history) new
progress-recovered sys state choice queues old new r same c s =
    c.stands sys state.history refl (has_epochs sys r.well_formed) (reached-legal sys state r.well_formed r.reached) s.counts
    (queues-count sys state choice new.settled c.pending (λ e l t. c.counted e l t ∙ ap (count_at t) (same e l)))
    (counted-left sys state choice new.settled r old.counts s.counts c.tables (λ p l kind. c.left p l))

traces-recovered : (sys : System) (records : Option Records) (state : Machine) (choice : Choice) (settled : List Front) (old : Parts) (es : List Entry)
    → Recovers sys state choice settled → PartsStandFor sys records state old → es ≡ filter (λ e. not (is_undone choice e)) old.keep.entries
    → (before after : Traces) → AreTracesCut sys.flow es choice (length sys.flow.nodes) before after
    → (floor : List Front) → IsFloor sys state floor → (p : ℕ) → p < length sys.flow.nodes → IsTraceIn sys floor state p before
    → IsTraceIn sys floor (recovered_state sys state choice settled) p after
traces-recovered sys records state choice settled old es r s left before after c floor above p l t =
    let cut = subst (λ xs. AreTracesCut sys.flow xs choice (length sys.flow.nodes) before after) left c in
    trace-after sys floor state choice settled r above old.keep.entries s.entries records s.stored p l before after (cut.cut p l) t

-- where every node is failed each is cut
all-cut : (sys : System) (state : Machine) (choice : Choice) (settled : List Front) → Recovers sys state choice settled → (p : ℕ) → p < length sys.flow.nodes → is_failed state p ≡ true
    → cut_of choice p ≡ At (front_of_cut (cut_of choice p))
all-cut sys state choice settled r p l down = by (cut_of choice p) (r.largest.consistent.offered p l)
  where
    by : (cut : Cut) → IsCandidate sys state (is_failed state) kept p cut → cut ≡ At (front_of_cut cut)
    by Present b = absurd (two_ways (is_failed state p) down b)
    by (At f) b = refl

-- of traces that were some of what happened those inside the cuts are known above these
traces-recovered_held : (sys : System) (records : Option Records) (state : Machine) (choice : Choice) (settled : List Front) (old : Parts) (es : List Entry)
    → Recovers sys state choice settled → PartsStandFor sys records state old → es ≡ filter (λ e. not (is_undone choice e)) old.keep.entries
    → (before after : Traces) → AreTracesCut sys.flow es choice (length sys.flow.nodes) before after
    → ((p : ℕ) → p < length sys.flow.nodes → is_failed state p ≡ true) → ((p : ℕ) → p < length sys.flow.nodes → IsTraceAmong sys (events state.history) p before)
    → LeadsTo sys state Recover (recovered_state sys state choice settled) (cuts choice) → KnowsTraces sys (recovered_state sys state choice settled) after
traces-recovered_held sys records state choice settled old es r s left before after c down among leads =
    let cut = subst (λ xs. AreTracesCut sys.flow xs choice (length sys.flow.nodes) before after) left c in
    let floor = map front_of_cut choice.cuts in
    record {
      floor = floor;
      above = cut-floor sys state (recovered_state sys state choice settled) choice r.well_formed r.reached down leads;
      each = λ p l.
          let f = front_of_cut (cut_of choice p) in
          let there : p < length choice.cuts = omega (arith, l, r.largest.consistent.one_cut_each) in
          let at : front_of floor p ≡ f = get_or-map front_of_cut choice.cuts p Present [] there in
          trace-after_held sys floor state choice settled r old.keep.entries s.entries records s.stored p l f (all-cut sys state choice settled r p l (down p l)) at before after
          (cut.cut p l) (among p l);
    }

-- no node is failed any more
none-down : (a n : ℕ) → map (λ (p : ℕ). false) (range_with_len a n) ≡ replicate n false
none-down a zero = refl
none-down a (suc n) = ap (λ bs. false ∷ bs) (none-down (a + 1) n)

-- ---- the engine

-- What a recovery makes of an engine by a choice: the parts are restored to it, and the rest follows.
pub record IsRecovered (choice : Choice) (records : Option Records) (old new : Running) : Type 0 where
  pub flow : new.flow ≡ old.flow
  pub restores : Restores old.flow choice records old.parts new.parts
  pub traces : AreTracesCut old.flow new.parts.keep.entries choice (length old.flow.nodes) old.traces new.traces
  pub progress : IsProgressCut old.flow choice new.parts.queues old.progress new.progress
  pub epochs : new.epochs ≡ old.epochs
  pub failed : new.failed.items ≡ replicate (length old.flow.nodes) false
  pub lost : (p : ℕ) → slice_index_or new.lost.items p [] ≡ []

-- the machine takes the step there, whatever was read
pub recovered-leads : (sys : System) (records : Option Records) (state : Machine) (choice : Choice) (old new : Running)
    → StandsApart sys old records state → IsLargest sys state (offers sys state) choice
    → (q : ℕ) → q < length sys.flow.nodes → is_failed state q ≡ true → IsRecovered choice records old new
    → LeadsTo sys state Recover (recovered_state sys state choice new.progress.settled) (cuts choice)
recovered-leads sys records state choice old new a largest q there failed made =
    let progress = subst (λ flow. IsProgressCut flow choice new.parts.queues old.progress new.progress) a.flow made.progress in
    recovers-by_step sys state choice new.progress.settled
    (recovers sys state choice new.parts.queues old.progress new.progress a.well_formed a.reached a.settled largest progress) q there failed

-- What is made of an engine but its traces, and the stamps that it lost, stands for the state to which the machine recovers; and how the
-- traces were cut.
record StandsRecovered (sys : System) (records : Option Records) (state : Machine) (choice : Choice) (old new : Running) : Type 0 where
  recovery : Recovers sys state choice new.progress.settled
  leads : LeadsTo sys state Recover (recovered_state sys state choice new.progress.settled) (cuts choice)
  before : PartsStandFor sys records state old.parts
  left : new.parts.keep.entries ≡ filter (λ e. not (is_undone choice e)) old.parts.keep.entries
  traces : AreTracesCut sys.flow new.parts.keep.entries choice (length sys.flow.nodes) old.traces new.traces
  apart : StandsApart sys new records (recovered_state sys state choice new.progress.settled)
  lost : KnowsLost sys (recovered_state sys state choice new.progress.settled) new

recovered-apart : (sys : System) (records : Option Records) (state : Machine) (choice : Choice) (old new : Running)
    → StandsApart sys old records state → IsLargest sys state (offers sys state) choice → Trusts sys state Recover records
    → (q : ℕ) → q < length sys.flow.nodes → is_failed state q ≡ true → IsRecovered choice records old new
    → StandsRecovered sys records state choice old new
recovered-apart sys records state choice old new a largest trust q there failed made =
    let w = a.well_formed in
    let progress = subst (λ flow. IsProgressCut flow choice new.parts.queues old.progress new.progress) a.flow made.progress in
    let restores = subst (λ flow. Restores flow choice records old.parts new.parts) a.flow made.restores in
    let settled = new.progress.settled in
    let next = recovered_state sys state choice settled in
    let r = recovers sys state choice new.parts.queues old.progress new.progress w a.reached a.settled largest progress in
    let leads : LeadsTo sys state Recover next (cuts choice) = recovered-leads sys records state choice old new a largest q there failed made in
    let before = parts-stand sys old records state a in
    let parts = parts-recovered sys records state choice settled old.parts new.parts r leads trust before restores in
    let gone : new.parts.keep.entries ≡ filter (λ e. not (is_undone choice e)) old.parts.keep.entries = ap (λ (keep : KeepState). keep.entries) restores.restored.entries in
    record {
      recovery = r;
      leads = leads;
      before = before;
      left = gone;
      traces = subst (λ flow. AreTracesCut flow new.parts.keep.entries choice (length flow.nodes) old.traces new.traces) a.flow made.traces;
      apart = record {
        flow = made.flow ∙ a.flow;
        well_formed = w;
        reached = reached-next sys state next Recover (did (cuts choice)) a.reached leads;
        settled = refl;
        failed = made.failed ∙ ap (λ (flow : Dataflow). replicate (length flow.nodes) false) a.flow ∙ sym (none-down 0 (length sys.flow.nodes));
        low = parts.low;
        epochs = λ x. subst (λ n. (x < n) ↔ HasEpoch sys.batches x) (sym made.epochs) (a.epochs x);
        tables = parts.tables;
        queues = parts.queues;
        logs = parts.logs;
        outputs = parts.outputs;
        sources = parts.sources;
        progress = progress-recovered sys state choice new.parts.queues old.progress new.progress r parts.queues progress a.progress;
        entries = parts.entries;
        stored = parts.stored;
        bases = subst (λ es. AreBasesOf es es (uncollected next)) (sym gone)
            (bases_after_recovery sys w state a.reached choice next leads old.parts.keep.entries a.entries a.bases);
      };
      lost = λ p full t. (λ c. absurd (contains-none (slice_index_or new.lost.items p []) t (made.lost p) c), λ l. absurd (none-lost sys state choice settled p t l));
    }

pub recovered-stands : (sys : System) (records : Option Records) (state : Machine) (choice : Choice) (old new : Running)
    → Stands sys old records state → IsLargest sys state (offers sys state) choice → Trusts sys state Recover records
    → (q : ℕ) → q < length sys.flow.nodes → is_failed state q ≡ true → IsRecovered choice records old new
    → Follows sys state Recover (did (cuts choice)) new records
recovered-stands sys records state choice old new s largest trust q there failed made =
    let settled = new.progress.settled in
    let next = recovered_state sys state choice settled in
    let k = recovered-apart sys records state choice old new s.apart largest trust q there failed made in
    record {
      next = next;
      steps = k.leads;
      stands = record {
        apart = k.apart;
        traces = knows-next sys state Recover next (cuts choice) old.traces new.traces s.apart.well_formed s.apart.reached refl k.leads s.traces
            (traces-recovered sys records state choice settled old.parts new.parts.keep.entries k.recovery k.before k.left old.traces new.traces k.traces s.traces.floor s.traces.above);
        lost = k.lost;
      };
    }

-- and in full where the engine held what is left of a state in which every node is failed
pub held-stands : (sys : System) (records : Option Records) (state : Machine) (choice : Choice) (old new : Running)
    → StandsHeld sys old records state → IsLargest sys state (offers sys state) choice → Trusts sys state Recover records
    → (q : ℕ) → q < length sys.flow.nodes → is_failed state q ≡ true → IsRecovered choice records old new
    → Follows sys state Recover (did (cuts choice)) new records
held-stands sys records state choice old new s largest trust q there failed made =
    let settled = new.progress.settled in
    let k = recovered-apart sys records state choice old new s.apart largest trust q there failed made in
    record {
      next = recovered_state sys state choice settled;
      steps = k.leads;
      stands = record {
        apart = k.apart;
        traces = traces-recovered_held sys records state choice settled old.parts new.parts.keep.entries k.recovery k.before k.left old.traces new.traces k.traces s.down
            s.traces.among k.leads;
        lost = k.lost;
      };
    }

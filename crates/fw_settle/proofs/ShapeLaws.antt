-- What is kept fits the flow after each change of a step that settles or writes.
use Rattle.std.proofs.Common.{◌≡◌, ◌≢◌, ℕ, ◌<◌, true, false, not, List, [], length, refl, sym, ap, subst, ◌∙◌, inl, inr, arith}
use Rattle.std.specs.Prelude.{Option, Some, None, IfSome, Result, Ok, Err, OnOk, OnErr, slice_set}
use Rattle.std.specs.List.{AllByRecursion, Contains}
use Rattle.std.proofs.lemmas.Bool.{cases_eq, both_ways}
use Rattle.std.proofs.lemmas.List.{get_or-set_other, get_or-set_same}
use Rattle.fw_lemmas.proofs.Each.{each-append}
use Rattle.fw_frontier.specs.Front.{Front}
use Rattle.fw_flow.specs.declared.choice.Stamps.{Stamps}
use Rattle.fw_flow.specs.Dataflow.{bounds_of}
use Rattle.fw_model.specs.Machine.{front_of}
use Rattle.fw_model.specs.Offers.{IsRecordOf}
use Rattle.fw_node.specs.declared.node.Node.{Node}
use Rattle.fw_node.specs.NodeOf.{IsNodeOf}
use Rattle.fw_record.specs.declared.record.Checkpoint.{Checkpoint}
use Rattle.fw_keep.specs.declared.entry.Entry.{Entry}
use Rattle.fw_keep.specs.Stored.{Records}
use Rattle.fw_progress.specs.declared.traces.Traces.{Traces}
use Rattle.fw_progress.specs.Progress.{Standing, IsOfFlow}
use Rattle.fw_progress.specs.Settle.{has_more, IsGrownAt}
use Rattle.fw_progress.specs.Trace.{HaveLists}
use Rattle.fw_rollback.specs.Tables.{table_at}
use Rattle.fw_running.specs.declared.fault.EngineFault.{EngineFault}
use Rattle.fw_running.specs.declared.running.Running.{Running}
use Rattle.fw_running.specs.Kept.{is_down, output_of, with_tables}
use Rattle.fw_running.specs.Logging.{ChangesKeep, IsAsked, IsAskRefused}
use Rattle.fw_running.specs.Places.{IsPut, IsTakenOut}
use Rattle.fw_running.specs.Ready.{CanAcknowledgeBy, HasGrownBy}
use Rattle.fw_running.specs.ReadyState.{ReadyState}
use Rattle.fw_running.specs.Shaped.{IsShaped, IsWrittenOf}
use Rattle.fw_running.proofs.KeptShapes.{logs-fit, progress-fits, queues-fit, shaped-changed, shaped-keep as keep-shaped, shaped-standing, traces-fit}
use Rattle.fw_settle.specs.Checkpoints.{record_on}
use Rattle.fw_settle.specs.Settling.{with_traces, IsTableSettled, settles_when_asked, SettlesTableIf, SettlesTraces, SettlesTo}
use Rattle.fw_settle.proofs.JoinLaws.{none-kept}

-- what is kept with other tables and other traces fits the flow as before, where these do
shaped-with : (old : Running) (tables : List (Option Node)) (traces : Traces) → IsShaped old
    → length tables ≡ length old.parts.tables → ((p : ℕ) → p < length old.flow.nodes → IfSome (table_at tables p) (IsNodeOf old.flow p))
    → HaveLists old.flow traces → traces.refused ≡ false
    → IsShaped (record old { parts = record old.parts { tables = tables }; traces = traces })
shaped-with old tables traces s each nodes lists live =
    shaped-changed old (record old.parts { tables = tables }) old.progress traces old.ready s (each ∙ s.one_each.parts.tables, nodes)
    (queues-fit old s) (logs-fit old s) s.entries s.one_each.sources s.one_each.outputs refl (progress-fits old s) (lists, live)
    (record { edges = s.ready.edges; owing = s.ready.owing; growing = s.ready.growing; outputs = s.ready.outputs; inputs = s.ready.inputs })

pub shaped-keep : (old new : Running) → IsShaped old → ChangesKeep old new
    → AllByRecursion (λ (entry : Entry). IsWrittenOf old.flow entry.node entry.written) new.parts.keep.entries → IsShaped new
shaped-keep old new s c entries =
    subst IsShaped (sym c) (keep-shaped old new.parts.keep s entries)

-- the same entries
pub shaped-same : (old new : Running) → IsShaped old → ChangesKeep old new → new.parts.keep.entries ≡ old.parts.keep.entries → IsShaped new
shaped-same old new s c e =
    shaped-keep old new s c (subst (AllByRecursion (λ (entry : Entry). IsWrittenOf old.flow entry.node entry.written)) (sym e) s.entries)

-- a checkpoint is asked
pub shaped-asked : (old new : Running) (base : Option Entry) (checkpoint : Checkpoint) (stamps : Stamps) (before after : Option Records) → IsShaped old → ChangesKeep old new
    → IsAsked (record_on base checkpoint) stamps old.parts.keep.entries new.parts.keep.entries before after → IsRecordOf old.flow checkpoint.node checkpoint.recorded
    → IsShaped new
shaped-asked old new None checkpoint stamps before after s c a r =
    let P : Entry → Type 0 = λ entry. IsWrittenOf old.flow entry.node entry.written in
    shaped-keep old new s c (subst (AllByRecursion P) (sym a.entries) (each-append P old.parts.keep.entries _ s.entries (r, tt)))
shaped-asked old new (Some e) checkpoint stamps before after s c a r =
    let P : Entry → Type 0 = λ entry. IsWrittenOf old.flow entry.node entry.written in
    shaped-keep old new s c (subst (AllByRecursion P) (sym a.entries) (each-append P old.parts.keep.entries _ s.entries (r, tt)))

-- so it does whether it is asked or not
pub shaped-answer : (result : Result (Unit {0}) EngineFault) (old new : Running) (base : Option Entry) (checkpoint : Checkpoint) (stamps : Stamps) (before after : Option Records)
    → IsShaped old → ChangesKeep old new
    → OnOk result (IsAsked (record_on base checkpoint) stamps old.parts.keep.entries new.parts.keep.entries before after)
    → OnErr result (IsAskRefused old.parts.keep new.parts.keep before after) → IsRecordOf old.flow checkpoint.node checkpoint.recorded → IsShaped new
shaped-answer (Ok x) old new base checkpoint stamps before after s c a n r = shaped-asked old new base checkpoint stamps before after s c a r
shaped-answer (Err e) old new base checkpoint stamps before after s c a n r = shaped-same old new s c n.entries

pub shaped-tables : (old new : Running) → IsShaped old → new ≡ with_tables new.parts.tables old → length new.parts.tables ≡ length old.parts.tables
    → ((p : ℕ) → p < length old.flow.nodes → IfSome (table_at new.parts.tables p) (IsNodeOf old.flow p)) → IsShaped new
shaped-tables old new s c each nodes =
    subst IsShaped (sym c) (shaped-with old new.parts.tables old.traces s each nodes s.traces s.traced)

pub shaped-traces : (old new : Running) → IsShaped old → new ≡ with_traces new.traces old → HaveLists old.flow new.traces → new.traces.refused ≡ false → IsShaped new
shaped-traces old new s c lists live =
    subst IsShaped (sym c) (shaped-with old old.parts.tables new.traces s refl s.tables lists live)

-- ---- what is settled

-- more is settled of node p, which is put among the outputs, where no more is kept of it than is settled then
pub shaped-settled : (old : Running) (settled : List Front) (outputs : List ℕ) (p : ℕ) (f : Front) → IsShaped old
    → settled ≡ slice_set old.progress.settled p f → IsOfFlow old.flow (record old.progress { settled = settled }) → p < length old.progress.settled
    → has_more (front_of old.progress.kept p) f ≡ false → IsPut p old.ready.outputs outputs
    → IsShaped (record old { progress = record old.progress { settled = settled }; ready = record old.ready { outputs = outputs } })
shaped-settled old settled outputs p f s e of_flow there none put =
    let other : (q : ℕ) → q ≢ p → front_of settled q ≡ front_of old.progress.settled q =
    λ q n. ap (λ fs. front_of fs q) e ∙ get_or-set_other old.progress.settled p q f [] n in
    let here : front_of settled p ≡ f = ap (λ fs. front_of fs p) e ∙ get_or-set_same old.progress.settled p f [] there in
    shaped-standing old (record old.progress { settled = settled }) old.traces (record old.ready { outputs = outputs }) s (of_flow, s.live) (traces-fit old s)
    (record {
      edges = s.ready.edges;
      owing = s.ready.owing;
      growing = λ q c. elim (cases_eq q p) [
        | inl same ↦
            absurd (both_ways (has_more (front_of old.progress.kept p) f) none
            (ap (has_more (front_of old.progress.kept p)) (sym here) ∙ subst (λ n. has_more (front_of old.progress.kept n) (front_of settled n) ≡ true) same c.more))
        | inr n ↦ s.ready.growing q (subst (λ g. HasGrownBy old.flow q (front_of old.progress.kept q) g) (other q n) c)
      ];
      outputs = λ o c. elim (cases_eq o p) [
        | inl same ↦ subst (Contains outputs) (sym same) put.there
        | inr n ↦ put.stays o (s.ready.outputs o
            (subst (λ g. CanAcknowledgeBy old.flow o (is_down old o) old.epochs (output_of old o) g) (other o n) c))
      ];
      inputs = s.ready.inputs;
    })

-- a node of which no more is kept than settled is taken out of the growing ones
pub shaped-taken : (old : Running) (growing : List ℕ) (p : ℕ) → IsShaped old → IsTakenOut p old.ready.growing growing
    → has_more (front_of old.progress.kept p) (front_of old.progress.settled p) ≡ false → IsShaped (record old { ready = record old.ready { growing = growing } })
shaped-taken old growing p s taken none =
    shaped-standing old old.progress old.traces (record old.ready { growing = growing }) s (progress-fits old s) (traces-fit old s)
    (record {
      edges = s.ready.edges;
      owing = s.ready.owing;
      growing = λ q c. taken.stays q
          (λ same. both_ways (has_more (front_of old.progress.kept p) (front_of old.progress.settled p)) none
          (subst (λ n. has_more (front_of old.progress.kept n) (front_of old.progress.settled n) ≡ true) same c.more))
          (s.ready.growing q c);
      outputs = s.ready.outputs;
      inputs = s.ready.inputs;
    })

-- a node settles this front of what is kept, and is then no more among the growing ones
pub shaped-settling : (old mid : Running) (progress : Standing) (put taken : ReadyState) (p : ℕ) (f : Front) → IsShaped mid → mid.progress ≡ old.progress → mid.flow ≡ old.flow
    → IsGrownAt old.flow old.progress.settled old.progress.kept p (Some f) → p < length old.flow.nodes
    → progress ≡ record mid.progress { settled = slice_set mid.progress.settled p f } → IsOfFlow mid.flow progress
    → put ≡ record mid.ready { outputs = put.outputs } → IsPut p mid.ready.outputs put.outputs
    → taken ≡ record put { growing = taken.growing } → IsTakenOut p put.growing taken.growing
    → IsShaped (record mid { progress = progress; ready = taken })
shaped-settling old mid progress put taken p f s same flow grown l e of_flow puts is_put takes is_taken =
    let settled = slice_set mid.progress.settled p f in
    let each = s.progress.settled_each in
    let there : p < length mid.progress.settled = subst (λ w. p < length w.nodes → p < length mid.progress.settled) flow (λ k. omega (arith, k, each)) l in
    let none : has_more (front_of mid.progress.kept p) f ≡ false =
    subst (λ (now : Standing). has_more (front_of now.kept p) f ≡ false) (sym same)
    (none-kept (bounds_of old.flow p) (front_of old.progress.settled p) (front_of old.progress.kept p) f grown.1) in
    let first : Running = record mid { progress = record mid.progress { settled = settled }; ready = record mid.ready { outputs = put.outputs } } in
    let shaped : IsShaped first =
    shaped-settled mid settled put.outputs p f s refl (subst (IsOfFlow mid.flow) e of_flow) there none is_put in
    let here : front_of settled p ≡ f = get_or-set_same mid.progress.settled p f [] there in
    let growing : IsTakenOut p mid.ready.growing taken.growing = subst (λ (r : ReadyState). IsTakenOut p r.growing taken.growing) puts is_taken in
    subst (λ (now : Standing). IsShaped (record mid { progress = now; ready = taken })) (sym e)
    (subst (λ (r : ReadyState). IsShaped (record mid { progress = record mid.progress { settled = settled }; ready = r })) (sym (takes ∙ ap (λ (r : ReadyState). record r { growing = taken.growing }) puts))
    (shaped-taken first taken.growing p shaped growing (ap (has_more (front_of mid.progress.kept p)) here ∙ none)))

-- a node of which no more is kept than settled is taken out
pub shaped-out : (old : Running) (ready : ReadyState) (p : ℕ) → IsShaped old → ready ≡ record old.ready { growing = ready.growing }
    → IsTakenOut p old.ready.growing ready.growing → has_more (front_of old.progress.kept p) (front_of old.progress.settled p) ≡ false
    → IsShaped (record old { ready = ready })
shaped-out old ready p s e t none = subst (λ (r : ReadyState). IsShaped (record old { ready = r })) (sym e) (shaped-taken old ready.growing p s t none)

-- its table and its traces are settled to it
pub settles-to : (old first second : Running) (progress : Standing) (ready : ReadyState) (p : ℕ) (f : Front) → first ≡ with_tables first.parts.tables old
    → SettlesTableIf (not (settles_when_asked old.flow p)) p f old first → second ≡ with_traces second.traces first → SettlesTraces p f first.flow first.traces second.traces
    → progress ≡ record second.progress { settled = slice_set second.progress.settled p f }
    → SettlesTo p f old (record second { progress = progress; ready = ready })
settles-to old first second progress ready p f c table d traces e =
    let tables : second.parts.tables ≡ first.parts.tables = ap (λ (r : Running). r.parts.tables) d in
    let now : second.progress.settled ≡ old.progress.settled = ap (λ (r : Running). r.progress.settled) d ∙ ap (λ (r : Running). r.progress.settled) c in
    record {
      settled = ap (λ (x : Standing). x.settled) e ∙ ap (λ fs. slice_set fs p f) now;
      table = record {
        settles = λ is.
            let t = table.settles is in
            record {
              here = subst (λ ts. IsTableSettled old.flow p f (table_at old.parts.tables p) (table_at ts p)) (sym tables) t.here;
              others = λ q n. ap (λ ts. table_at ts q) tables ∙ t.others q n;
            };
        stays = λ isnt. tables ∙ table.stays isnt;
      };
      traces = subst (λ (r : Running). SettlesTraces p f r.flow r.traces second.traces) c traces;
    }

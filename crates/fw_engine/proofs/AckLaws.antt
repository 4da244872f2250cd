-- What an acknowledgement makes of what an engine keeps and stands for.
use Rattle.std.proofs.Common.{◌≡◌, ◌≢◌, inl, inr, ℕ, ◌<◌, true, false, List, [], ◌∷◌, length, slice_index_or, Option, refl, sym, ◌∙◌, ap, subst, arith}
use Rattle.std.specs.List.{Contains}
use Rattle.std.proofs.lemmas.Bool.{cases_eq}
use Rattle.std.proofs.lemmas.List.{get_or-set_same, get_or-set_other, length-set}
use Rattle.fw_border.specs.Outputs.{OutputsState, with_output, acknowledged, next_recs, new_output, AreByNumber}
use Rattle.fw_flow.specs.declared.step.Step.TheVariants.{Ack}
use Rattle.fw_flow.specs.Dataflow.{System, Dataflow, kind_of, is_output_kind}
use Rattle.fw_frontier.specs.Front.{inside}
use Rattle.fw_keep.specs.Stored.{Records}
use Rattle.fw_model.specs.Machine.{Machine, front_of}
use Rattle.fw_model.specs.Steps.{acked, did, LeadsTo}
use Rattle.fw_model.specs.Auto.{IsIdle}
use Rattle.fw_stands.specs.Acknowledging.{acknowledged_state, CanAcknowledgeIn}
use Rattle.fw_stands.proofs.AcknowledgementLaws.{nothing_kept-idle, kept-acknowledged, acknowledged-stands, acknowledgement-keeps}
use Rattle.fw_stands.proofs.BaseSteps.{bases_after_step}
use Rattle.fw_stands.proofs.EntrySteps.{entries_after_step, records_after_step}
use Rattle.fw_stands.proofs.AtReached.{reached-next}
use Rattle.fw_stands.specs.Parts.{IsOutputOf}
use Rattle.fw_running.proofs.KnownTraces.{knows-next}
use Rattle.fw_running.specs.declared.running.Running.{Running}
use Rattle.fw_running.specs.Kept.{is_down, output_of}
use Rattle.fw_running.specs.Places.{IsPut}
use Rattle.fw_running.specs.Ready.{HasSomething, CanAcknowledge, CanAcknowledgeBy}
use Rattle.fw_running.specs.ReadyState.{ReadyState}
use Rattle.fw_running.specs.Shaped.{IsShaped}
use Rattle.fw_running.specs.Stands.{Stands}
use Rattle.fw_running.proofs.KeptShapes.{logs-fit, progress-fits, queues-fit, shaped-changed, tables-fit, traces-fit}

-- ---- when

-- an output of the engine may acknowledge where that of the state may
can-in : (sys : System) (state : Machine) (running : Running) (o : ℕ) → running.flow ≡ sys.flow → running.failed.items ≡ state.failed → running.progress.settled ≡ state.settled
    → CanAcknowledge running o → CanAcknowledgeIn sys state running.epochs o (output_of running o)
can-in sys state running o flow failed settled c =
    let out = output_of running o in
    record {
      there = subst (λ (f : Dataflow). o < length f.nodes) flow c.there;
      live = ap (λ fs. slice_index_or fs o false) (sym failed) ∙ c.live;
      output = ap (λ f. is_output_kind (kind_of f o)) (sym flow) ∙ c.output;
      number = c.number;
      settled = ap (λ fs. inside (front_of fs o) (out.bound ∷ [])) (sym settled) ∙ c.settled;
      some = subst (λ f. HasSomething running.epochs out (kind_of f o) out.bound) flow c.some;
    }

can-out : (sys : System) (state : Machine) (running : Running) (o : ℕ) → running.flow ≡ sys.flow → running.failed.items ≡ state.failed → running.progress.settled ≡ state.settled
    → CanAcknowledgeIn sys state running.epochs o (output_of running o) → CanAcknowledge running o
can-out sys state running o flow failed settled c =
    let out = output_of running o in
    record {
      there = subst (λ (f : Dataflow). o < length f.nodes) (sym flow) c.there;
      live = ap (λ fs. slice_index_or fs o false) failed ∙ c.live;
      output = ap (λ f. is_output_kind (kind_of f o)) flow ∙ c.output;
      number = c.number;
      settled = ap (λ fs. inside (front_of fs o) (out.bound ∷ [])) settled ∙ c.settled;
      some = subst (λ f. HasSomething running.epochs out (kind_of f o) out.bound) (sym flow) c.some;
    }

-- where it may not, the machine acknowledges nothing
pub idle-acknowledges : (sys : System) (state : Machine) (running : Running) (records : Option Records) (o : ℕ) → Stands sys running records state
    → (CanAcknowledge running o → ⊥) → IsIdle sys state (Ack o)
idle-acknowledges sys state running records o s none next effect t =
    nothing_kept-idle sys state running.epochs s.apart.epochs o (output_of running o) (s.apart.outputs o t.1.declared t.1.output)
    (λ c. none (can-out sys state running o s.apart.flow s.apart.failed s.apart.settled c)) next effect t

-- where it may, it acknowledges its bound
pub acknowledges : (sys : System) (state : Machine) (running : Running) (records : Option Records) (o : ℕ) → Stands sys running records state
    → AreByNumber (output_of running o).recs → CanAcknowledge running o
    → LeadsTo sys state (Ack o) (acknowledged_state state o (output_of running o).bound) (acked o ((output_of running o).bound ∷ []) (next_recs (output_of running o)))
acknowledges sys state running records o s n c =
    let k = can-in sys state running o s.apart.flow s.apart.failed s.apart.settled c in
    kept-acknowledged sys state running.epochs s.apart.epochs o (output_of running o) n (s.apart.outputs o k.there k.output) k

-- ---- what is kept then

-- the outputs where one acknowledged its bound
abbrev pub with_ack : OutputsState → ℕ → OutputsState
with_ack all o = record all { outputs = with_output acknowledged all.outputs o }

abbrev pub after_ack : Running → ℕ → List ℕ → Running
after_ack running o places = record running {
  parts = record running.parts { outputs = with_ack running.parts.outputs o };
  ready = record running.ready { outputs = places };
}

output-there : (running : Running) (o : ℕ) (places : List ℕ) → o < length running.parts.outputs.outputs
    → output_of (after_ack running o places) o ≡ acknowledged (output_of running o)
output-there running o places l = get_or-set_same running.parts.outputs.outputs o (acknowledged (output_of running o)) new_output l

output-other : (running : Running) (o q : ℕ) (places : List ℕ) → q ≢ o → output_of (after_ack running o places) q ≡ output_of running q
output-other running o q places n = get_or-set_other running.parts.outputs.outputs o q (acknowledged (output_of running o)) new_output n

may-other : (running : Running) (o q : ℕ) (places : List ℕ) → q ≢ o → CanAcknowledge (after_ack running o places) q → CanAcknowledge running q
may-other running o q places n =
    subst (λ out. CanAcknowledgeBy running.flow q (is_down running q) running.epochs out (front_of running.progress.settled q)) (output-other running o q places n)

after-shaped : (running : Running) (o : ℕ) (places : List ℕ) → IsPut o running.ready.outputs places → IsShaped running → IsShaped (after_ack running o places)
after-shaped running o places put s =
    let all = running.parts.outputs in
    shaped-changed running (record running.parts { outputs = with_ack all o }) running.progress running.traces (record running.ready { outputs = places }) s
    (tables-fit running s) (queues-fit running s) (logs-fit running s) s.entries s.one_each.sources
    (length-set all.outputs o (acknowledged (output_of running o)) ∙ s.one_each.outputs) refl (progress-fits running s) (traces-fit running s)
    (record {
      edges = s.ready.edges;
      owing = s.ready.owing;
      growing = s.ready.growing;
      outputs = λ q c. elim (cases_eq q o) [
        | inl e ↦ subst (Contains places) (sym e) put.there
        | inr n ↦ put.stays q (s.ready.outputs q (may-other running o q places n c))
      ];
      inputs = s.ready.inputs;
    })

after-stands : (sys : System) (state : Machine) (running : Running) (records : Option Records) (o : ℕ) (places : List ℕ)
    → o < length running.parts.outputs.outputs → AreByNumber (output_of running o).recs → CanAcknowledge running o → Stands sys running records state
    → Stands sys (after_ack running o places) records (acknowledged_state state o (output_of running o).bound)
after-stands sys state running records o places there n c s =
    let x = (output_of running o).bound in
    let next = acknowledged_state state o x in
    let k = acknowledgement-keeps sys state o x in
    let leads = acknowledges sys state running records o s n c in
    let recs = next_recs (output_of running o) in
    record {
      apart = record {
        flow = s.apart.flow;
        well_formed = s.apart.well_formed;
        reached = reached-next sys state next (Ack o) (did (acked o (x ∷ []) recs)) s.apart.reached leads;
        settled = s.apart.settled;
        failed = s.apart.failed;
        low = s.apart.low;
        epochs = s.apart.epochs;
        tables = λ p l. k.tables p _ (s.apart.tables p l);
        queues = λ e l. s.apart.queues e l ∙ sym (k.queues e);
        logs = λ e l. s.apart.logs e l ∙ sym (k.logs e);
        outputs = λ q l is. elim (cases_eq q o) [
          | inl e ↦ subst (λ p. IsOutputOf sys next p (output_of (after_ack running o places) p)) (sym e)
              (subst (IsOutputOf sys next o) (sym (output-there running o places there))
              (acknowledged-stands sys state s.apart.reached o (subst (λ p. p < length sys.flow.nodes) e l) (output_of running o) n
              (s.apart.outputs o (subst (λ p. p < length sys.flow.nodes) e l) (subst (λ p. is_output_kind (kind_of sys.flow p) ≡ true) e is))))
          | inr d ↦ subst (IsOutputOf sys next q) (sym (output-other running o q places d)) (k.others q d (output_of running q) (s.apart.outputs q l is))
        ];
        sources = λ i l. k.sources i _ (s.apart.sources i l);
        progress = s.apart.progress;
        entries = entries_after_step sys s.apart.well_formed state s.apart.reached (Ack o) next (acked o (x ∷ []) recs) leads refl running.parts.keep.entries s.apart.entries;
        bases = bases_after_step state next refl running.parts.keep.entries s.apart.bases;
        stored = records_after_step sys s.apart.well_formed state s.apart.reached (Ack o) next (acked o (x ∷ []) recs) leads refl running.parts.keep.entries records s.apart.stored;
      };
      traces = knows-next sys state (Ack o) next (acked o (x ∷ []) recs) running.traces running.traces s.apart.well_formed s.apart.reached refl leads s.traces
          (λ p l. k.traces s.traces.floor p running.traces);
      lost = λ p full t. (λ h. (k.lost p t).1 ((s.lost p full t).0 h), λ h. (s.lost p full t).1 ((k.lost p t).0 h));
    }

-- ---- of the values that the calls leave

pub ack-shaped : (running : Running) (o : ℕ) (ready : ReadyState) (outputs : OutputsState) → ready ≡ record running.ready { outputs = ready.outputs }
    → IsPut o running.ready.outputs ready.outputs → outputs ≡ with_ack running.parts.outputs o → IsShaped running
    → IsShaped (record running { parts = record running.parts { outputs = outputs }; ready = ready })
ack-shaped running o ready outputs r put is s =
    subst (λ (all : OutputsState). IsShaped (record running { parts = record running.parts { outputs = all }; ready = ready })) (sym is)
    (subst (λ (places : ReadyState). IsShaped (record running { parts = record running.parts { outputs = with_ack running.parts.outputs o }; ready = places })) (sym r)
    (after-shaped running o ready.outputs put s))

pub ack-stands : (sys : System) (state : Machine) (running : Running) (records : Option Records) (o : ℕ) (ready : ReadyState) (outputs : OutputsState)
    → outputs ≡ with_ack running.parts.outputs o → IsShaped running → AreByNumber (output_of running o).recs → CanAcknowledge running o → Stands sys running records state
    → Stands sys (record running { parts = record running.parts { outputs = outputs }; ready = ready }) records (acknowledged_state state o (output_of running o).bound)
ack-stands sys state running records o ready outputs is shaped n c s =
    let there : o < length running.parts.outputs.outputs = (let l = c.there in let e = shaped.one_each.outputs in omega (arith, l, e)) in
    let next = acknowledged_state state o (output_of running o).bound in
    let at = after-stands sys state running records o ready.outputs there n c s in
    subst (λ (all : OutputsState). Stands sys (record running { parts = record running.parts { outputs = all }; ready = ready }) records next) (sym is)
    (record {
      apart = record {
        flow = at.apart.flow;
        well_formed = at.apart.well_formed;
        reached = at.apart.reached;
        settled = at.apart.settled;
        failed = at.apart.failed;
        low = at.apart.low;
        epochs = at.apart.epochs;
        tables = at.apart.tables;
        queues = at.apart.queues;
        logs = at.apart.logs;
        outputs = at.apart.outputs;
        sources = at.apart.sources;
        progress = at.apart.progress;
        entries = at.apart.entries;
        bases = at.apart.bases;
        stored = at.apart.stored;
      };
      traces = at.traces;
      lost = at.lost;
    })

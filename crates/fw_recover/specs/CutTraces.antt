-- What a recovery makes of the traces.
use Rattle.std.specs.Prelude.{◌≡◌, ℕ, ◌<◌, ◌≤◌, Bool, true, false, ◌&&◌, ◌==◌, List, find, Option, Some, None}
use Rattle.fw_frontier.specs.Frontier.{Frontier}
use Rattle.fw_frontier.specs.Front.{Front}
use Rattle.fw_flow.specs.declared.choice.Choice.{Choice}
use Rattle.fw_flow.specs.declared.choice.Cut.{Cut}
use Rattle.fw_flow.specs.declared.choice.Cut.TheVariants.{Present, At}
use Rattle.fw_flow.specs.declared.choice.Stamps.{Stamps}
use Rattle.fw_flow.specs.declared.event.Event.{Event}
use Rattle.fw_flow.specs.Dataflow.{System, Dataflow, policy_of}
use Rattle.fw_model.specs.Choice.{cut_of}
use Rattle.fw_model.specs.Writes.{takes_checkpoints}
use Rattle.fw_keep.specs.declared.entry.Entry.{Entry}
use Rattle.fw_keep.specs.declared.entry.Written.{Written}
use Rattle.fw_keep.specs.declared.entry.Written.TheVariants as written
use Rattle.fw_progress.specs.declared.traces.Traces.{Traces}
use Rattle.fw_progress.specs.Trace.{AreCutTo, AreRestoredTo, IsTraceIf}
use Rattle.fw_keep.specs.Entry.{is_written_at}
use Rattle.fw_stands.specs.Recovered.{AreNoStamps}

-- whether the entry is of a checkpoint of node p at f
abbrev pub is_saved_at : ℕ → Front → Entry → Bool
is_saved_at p f e = (e.node == p) && is_written_at f e.written

-- the traces of node p are those of what is written of it, if that is a checkpoint
abbrev pub AreSavedBy : Dataflow → ℕ → Written → Traces → Traces → Type 0
AreSavedBy flow p (written.Checkpoint recorded stamps sent) old new = AreRestoredTo flow p stamps sent old new
AreSavedBy flow p (written.Event event) old new = new ≡ old

-- they are those of an entry; where there is none the node has done nothing
abbrev pub AreSavedAs : Dataflow → ℕ → Option Entry → Traces → Traces → Type 0
AreSavedAs flow p (Some e) old new = AreSavedBy flow p e.written old new
AreSavedAs flow p None old new = (stamps : Stamps) × AreNoStamps stamps × AreRestoredTo flow p stamps 0 old new

-- The traces of node p, which is cut to f, are those of its checkpoint there, where it takes checkpoints, and else those inside.
pub record AreTracesCutTo (flow : Dataflow) (entries : List Entry) (p : ℕ) (f : Front) (old new : Traces) : Type 0 where
  pub saved : takes_checkpoints (policy_of flow p) ≡ true → AreSavedAs flow p (find (is_saved_at p f) entries) old new
  pub inside : takes_checkpoints (policy_of flow p) ≡ false → AreCutTo flow p f old new

-- the same by the cut of the node
abbrev pub AreTracesCutAt : Dataflow → List Entry → ℕ → Cut → Traces → Traces → Type 0
AreTracesCutAt flow entries p Present old new = new ≡ old
AreTracesCutAt flow entries p (At f) old new = AreTracesCutTo flow entries p f old new

-- of node p the traces are what they were
abbrev pub KeepsTrace : Dataflow → ℕ → Traces → Traces → Type 0
KeepsTrace flow p old new =
    (whole : Bool) (sys : System) (h : List Event) → sys.flow ≡ flow → (base : Frontier)
    → IsTraceIf whole sys h p base old → IsTraceIf whole sys h p base new

-- One after the other, the traces of nodes are cut, and at some time those of node p by its cut.
pub record IsTraceCut (flow : Dataflow) (entries : List Entry) (choice : Choice) (p : ℕ) (old new : Traces) : Type 0 where
  pub before : Traces
  pub after : Traces
  pub was : KeepsTrace flow p old before
  pub cut : AreTracesCutAt flow entries p (cut_of choice p) before after
  pub stays : KeepsTrace flow p after new

-- The traces of the first n nodes are cut, and those of the others are as they were.
pub record AreTracesCut (flow : Dataflow) (entries : List Entry) (choice : Choice) (n : ℕ) (old new : Traces) : Type 0 where
  pub cut : (p : ℕ) → p < n → IsTraceCut flow entries choice p old new
  pub others : (p : ℕ) → n ≤ p → KeepsTrace flow p old new

-- What a collection makes of what an engine keeps.
use Rattle.std.specs.Prelude.{◌≡◌, ℕ, Bool, true, false, not, ◌&&◌, nat_lt, List, length}
use Rattle.fw_border.specs.Sources.{source_at}
use Rattle.fw_collect.specs.declared.drops.Drops.{Drops}
use Rattle.fw_keep.specs.Catalogue.{IsCatalogue}
use Rattle.fw_collect.specs.Drops.{IsPlanned}
use Rattle.fw_collect.specs.Dropped.{Forgets, is_dropped, log_left, source_left}
use Rattle.fw_edge.specs.Messages.{MessagesState}
use Rattle.fw_flow.specs.declared.choice.OfEdge.{OfEdge}
use Rattle.fw_flow.specs.Dataflow.{Dataflow, policy_of}
use Rattle.fw_frontier.specs.Front.{Front}
use Rattle.fw_model.specs.Writes.{takes_checkpoints}
use Rattle.fw_progress.specs.declared.traces.Traces.{Traces}
use Rattle.fw_progress.specs.Trace.{HaveLists, AreThinnedAt}
use Rattle.fw_rollback.specs.declared.parts.Parts.{Parts}
use Rattle.fw_rollback.specs.Edges.{on_edge}
use Rattle.fw_stands.specs.Settling.{AreSettledAt}
use Rattle.fw_running.specs.declared.running.Running.{Running}

-- the messages that are given up are gone from the logs
pub record AreLeft (fronts : List OfEdge) (old new : List MessagesState) : Type 0 where
  pub one_each : length new ≡ length old
  pub logs : (e : ℕ) → on_edge new e ≡ log_left fronts e (on_edge old e)

-- What is to be given up is gone from the catalogue, the logs and the inputs, and the rest of the parts is as it was.
pub record AreGivenUp (drops : Drops) (old new : Parts) : Type 0 where
  pub rest : new ≡ record old { keep = new.keep; logs = new.logs; sources = new.sources }
  pub entries : Forgets (is_dropped drops old.keep) old.keep new.keep
  pub logs : AreLeft drops.messages.items old.logs new.logs
  pub sources_each : length new.sources ≡ length old.sources
  pub sources : (s : ℕ) → source_at new.sources s ≡ source_left drops.batches.items s (source_at old.sources s)

-- whether the base of a node is a floor, which a collection raises to the low watermark, among so many nodes
abbrev pub has_low_base : Dataflow → ℕ → ℕ → Bool
has_low_base flow count p = nat_lt p count && not (takes_checkpoints (policy_of flow p))

-- The traces of node p, where its base is a floor, are thinned inside the front, and what it sent there is counted in
-- all; else they are as they were.
pub record IsRaised (flow : Dataflow) (p : ℕ) (low : Front) (old new : Traces) : Type 0 where
  pub lists : HaveLists flow new
  pub live : new.refused ≡ false
  pub settled : takes_checkpoints (policy_of flow p) ≡ false → AreThinnedAt flow p low old new
  pub stays : takes_checkpoints (policy_of flow p) ≡ true → new ≡ old

-- The traces of the nodes whose base is a floor, among so many, are settled to these fronts.
pub record AreRaised (flow : Dataflow) (count : ℕ) (low : List Front) (old new : Traces) : Type 0 where
  pub lists : HaveLists flow new
  pub settled : AreSettledAt flow (has_low_base flow count) low old new
  pub live : new.refused ≡ false

-- The low watermark rises to these fronts, and what is not needed again is given up.
pub record RaisesLow (low : List Front) (old new : Running) : Type 0 where
  pub rest : new ≡ record old { parts = new.parts; traces = new.traces }
  pub drops : Drops
  pub catalogue : IsCatalogue old.parts.keep
  pub planned : IsPlanned old.flow low old.parts.keep.entries drops
  pub between : Parts
  pub given_up : AreGivenUp drops old.parts between
  pub parts : new.parts ≡ record between { low = low }
  pub traces : AreRaised old.flow (length old.flow.nodes) low old.traces new.traces

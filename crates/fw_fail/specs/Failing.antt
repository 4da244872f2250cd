-- What a failure makes of what an engine keeps.
use Rattle.std.specs.Prelude.{◌≡◌, ℕ, ◌<◌, Bool, true, false, List, [], length, slice_set, if◌then◌else◌, Option, None}
use Rattle.fw_time.specs.Stamp.{Stamp}
use Rattle.fw_flow.specs.declared.kind.Policy.{Policy}
use Rattle.fw_flow.specs.declared.kind.Policy.TheVariants as policy
use Rattle.fw_flow.specs.Dataflow.{Dataflow, policy_of, in_edges, out_edges, is_one_of}
use Rattle.fw_border.specs.Outputs.{with_output, cleared}
use Rattle.fw_edge.specs.Messages.{MessagesState}
use Rattle.fw_keep.specs.declared.entry.Entry.{Entry}
use Rattle.fw_keep.specs.Catalogue.{without}
use Rattle.fw_keep.specs.Entry.{is_in_flight_of}
use Rattle.fw_keep.specs.Stored.{Records, IsStored}
use Rattle.fw_rollback.specs.declared.parts.Parts.{Parts}
use Rattle.fw_rollback.specs.Edges.{on_edge}
use Rattle.fw_policy.specs.Offering.{stamps_in_flight}
use Rattle.fw_running.specs.declared.running.Running.{Running}
use Rattle.fw_running.specs.Kept.{is_down}

-- The messages on these edges are gone, and those on others are as they were.
pub record AreGone (edges : List ℕ) (old new : List MessagesState) : Type 0 where
  pub one_each : length new ≡ length old
  pub messages : (e : ℕ) → (on_edge new e).messages ≡ (if is_one_of e edges then [] else (on_edge old e).messages)

-- Of node p the table is gone, what is pending for it, what it may have to send again, its recs as an output and its writes in
-- flight; the rest is as it was.
pub record IsGoneFrom (flow : Dataflow) (p : ℕ) (old new : Parts) : Type 0 where
  pub tables : new.tables ≡ slice_set old.tables p None
  pub queues : AreGone (in_edges flow p) old.queues new.queues
  pub logs : AreGone (out_edges flow p) old.logs new.logs
  pub outputs : new.outputs.outputs ≡ with_output cleared old.outputs.outputs p
  pub keep : new.keep ≡ without (is_in_flight_of p) old.keep
  pub stored : (records : Option Records) → IsStored old.keep records → IsStored new.keep records
  pub sources : new.sources ≡ old.sources
  pub low : new.low ≡ old.low

-- of node p, where it logs each event, the stamps of its events in flight are lost now
abbrev pub lost_after : Policy → ℕ → List Entry → List (List Stamp) → List (List Stamp)
lost_after policy.Full p entries lost = slice_set lost p (stamps_in_flight p entries)
lost_after other p entries lost = lost

-- Node p fails.
pub record Fails (p : ℕ) (old new : Running) : Type 0 where
  pub rest : new ≡ record old { parts = new.parts; failed = new.failed; lost = new.lost }
  pub parts : IsGoneFrom old.flow p old.parts new.parts
  pub failed : new.failed.items ≡ slice_set old.failed.items p true
  pub lost : new.lost.items ≡ lost_after (policy_of old.flow p) p old.parts.keep.entries old.lost.items

-- node p fails, where it is declared and not failed; and else nothing changes
abbrev pub FailsIf : ℕ → Bool → Running → Running → Type 0
FailsIf p true old new = (p < length old.flow.nodes) × (is_down old p ≡ false) × Fails p old new
FailsIf p false old new = (p < length old.flow.nodes → is_down old p ≡ true) × (new ≡ old)

-- The steps of the event-list machine: when each is enabled, to which state it leads, and what it shows.
use Rattle.std.specs.Prelude.{◌≡◌, ◌≢◌, ◌⊎◌, ℕ, ◌+◌, ◌<◌, Bool, true, false, not, ◌&&◌, ◌||◌, ◌==◌, nat_lt, if◌then◌else◌, List, [], ◌∷◌, ◌++◌, map, length, Option, Some, None, slice_set, filter, zero, suc}
use Rattle.std.specs.List.{list_any, list_all, flat_map, AllByRecursion}
use Rattle.std.specs.Ordering.{is_gt}
use Rattle.fw_time.specs.Stamp.{Stamp, leq, same, stamp_cmp}
use Rattle.fw_bag.specs.declared.rec.Rec.{Rec}
use Rattle.fw_bag.specs.Keyed.{sorted_recs}
use Rattle.fw_frontier.specs.Frontier.{Frontier, meet, join}
use Rattle.fw_frontier.specs.Front.{Front, same_front, is_within, IsFrontOf}
use Rattle.fw_flow.specs.declared.choice.Cut.{Cut}
use Rattle.fw_flow.specs.declared.choice.Cut.TheVariants.{Present, At}
use Rattle.fw_flow.specs.declared.event.Event.{Event}
use Rattle.fw_flow.specs.declared.event.Event.TheVariants.{Inject as Injected, Deliver as Delivered, Notify as Notified}
use Rattle.fw_flow.specs.declared.event.Message.{Message}
use Rattle.fw_flow.specs.Kind.{Kind}
use Rattle.fw_flow.specs.declared.kind.Kind.TheVariants.{OutputNumber}
use Rattle.fw_flow.specs.declared.kind.Policy.{Policy}
use Rattle.fw_flow.specs.declared.kind.Policy.TheVariants as policy
use Rattle.fw_flow.specs.declared.step.Step.{Step}
use Rattle.fw_flow.specs.declared.step.Step.TheVariants.{Inject, Deliver, Notify, Progress as ProgressStep, Checkpoint, Persist, Fail, Recover, Collect, Ack}
use Rattle.fw_flow.specs.Dataflow.{System, kind_of, policy_of, receiver, out_edges, bounds_of, send_stamp, is_output_kind, node_ids, node_frontier, is_one_of}
use Rattle.fw_flow.specs.WellFormed.{may_keep_nothing}
use Rattle.fw_flow.specs.NodeFunction.{event_node, event_stamp, delivered_recs}
use Rattle.fw_model.specs.History.{IsEnabled, IsComplete}
use Rattle.fw_model.specs.Machine.{Machine, SerialEvent, Write, Written, checkpoint, logged_event, Stage, in_flight, acknowledged, collected, events, no_stamps, front_of, is_failed, ack_count_of}
use Rattle.fw_flow.specs.Message.{message_cmp}
use Rattle.fw_flow.specs.declared.choice.Choice.{Choice}
use Rattle.fw_model.specs.Choice.{kept, cut_of, filtered_history, IsCandidate, IsLargest, IsWatermark}

-- what a step shows
pub data Effect : Type 0 where
  silent : Effect
  acked : ℕ → Stamp → List Rec → Effect
  cuts : Choice → Effect
  lows : Choice → Effect

-- what comes of a step: an effect, or nothing where it is not enabled
pub data Outcome : Type 0 where
  did : Effect → Outcome
  idle : Outcome

-- the write of an event of node p, if its policy logs each event
abbrev pub write_of_event : Policy → ℕ → ℕ → List Write
write_of_event policy.Full p serial = record { node = p; written = logged_event serial; base = None; depth = 0; stage = in_flight } ∷ []
write_of_event other p serial = []

-- the state with one more event, under the next serial
abbrev pub with_event : System → Machine → Event → Machine
with_event sys state v = record state {
  history = record { serial = state.next; event = v } ∷ state.history;
  next = state.next + 1;
  writes = state.writes ++ write_of_event (policy_of sys.flow (event_node sys.flow v)) (event_node sys.flow v) state.next;
}

-- the stamp is the one asked for, if one is
abbrev pub IsStampNamed : Option Stamp → Stamp → Type 0
IsStampNamed None t = Unit {0}
IsStampNamed (Some s) t = s ≡ t

-- whether it is, as a test
abbrev pub is_asked : Option Stamp → Stamp → Bool
is_asked None t = true
is_asked (Some s) t = same s t

-- The message is the next one on edge e: it may be delivered, at the stamp that is asked for, and none that may comes
-- before it in the order of stamps, recs and causes.
pub record IsNextMessage (sys : System) (h : List Event) (e : ℕ) (at : Option Stamp) (m : Message) : Type 0 where
  pub enabled : IsEnabled sys h (Delivered e m)
  pub asked : IsStampNamed at m.at
  pub least : (other : Message) → IsEnabled sys h (Delivered e other) → IsStampNamed at other.at → is_gt (message_cmp m other) ≡ false

-- the stamp is the next one of which node p may be notified: the one that is asked for, or the least
pub record IsNextNotice (sys : System) (h : List Event) (p : ℕ) (at : Option Stamp) (t : Stamp) : Type 0 where
  pub enabled : IsEnabled sys h (Notified p t)
  pub asked : IsStampNamed at t
  pub least : (other : Stamp) → IsEnabled sys h (Notified p other) → IsStampNamed at other → is_gt (stamp_cmp t other) ≡ false

-- the frontier that a write holds, if it is a checkpoint
abbrev pub checkpoint_front : Written → List Front
checkpoint_front (checkpoint f low) = f ∷ []
checkpoint_front (logged_event serial) = []

-- the frontiers of node p's checkpoints, in order of asking
abbrev pub checkpoints_of : ℕ → List Write → List Front
checkpoints_of p writes = flat_map (λ write. if write.node == p then checkpoint_front write.written else []) writes

-- the last of these, or the given one where there is none
abbrev pub last_or : Front → List Front → Front
last_or f [] = f
last_or f (g ∷ gs) = last_or g gs

-- the frontier of the newest checkpoint of node p, or the given one where it has none
abbrev pub newest_checkpoint : ℕ → Front → List Write → Front
newest_checkpoint p f writes = last_or f (checkpoints_of p writes)

-- the depth of what is written, if it is a checkpoint
abbrev pub checkpoint_depth : ℕ → Written → List ℕ
checkpoint_depth depth (checkpoint f low) = depth ∷ []
checkpoint_depth depth (logged_event serial) = []

-- the depths of node p's checkpoints, in order of asking
abbrev pub depths_of : ℕ → List Write → List ℕ
depths_of p writes = flat_map (λ write. if write.node == p then checkpoint_depth write.depth write.written else []) writes

-- the depth of a checkpoint after those of these depths: one more than the last, and 0 where there is none or the last is 7 or more
abbrev pub depth_after : List ℕ → ℕ
depth_after [] = 0
depth_after (depth ∷ []) = if nat_lt depth 7 then depth + 1 else 0
depth_after (first ∷ depth ∷ depths) = depth_after (depth ∷ depths)

-- the depth of the next checkpoint of node p
abbrev pub next_depth : ℕ → List Write → ℕ
next_depth p writes = depth_after (depths_of p writes)

-- the base of a checkpoint of this depth, where these are the fronts of the earlier ones of its node: the last, unless it is whole
abbrev pub base_of_depth : ℕ → List Front → Option Front
base_of_depth zero earlier = None
base_of_depth (suc depth) [] = None
base_of_depth (suc depth) (f ∷ earlier) = Some (last_or f earlier)

-- the checkpoint that node p asks of f
abbrev pub checkpoint_of : Machine → ℕ → Front → Write
checkpoint_of state p f = record {
  node = p;
  written = checkpoint f state.low;
  base = base_of_depth (next_depth p state.writes) (checkpoints_of p state.writes);
  depth = next_depth p state.writes;
  stage = in_flight;
}

-- whether the policy asks a checkpoint whenever more is settled
abbrev pub is_eager : Policy → Bool
is_eager policy.Eager = true
is_eager other = false

-- the checkpoints that the eager ones of these nodes ask as they grow to what is settled now
abbrev pub eager_writes : System → Machine → List Front → List ℕ → List Write
eager_writes sys state settled ps =
    map (λ p. checkpoint_of state p (front_of settled p))
    (filter (λ p. is_eager (policy_of sys.flow p) && not (same_front (front_of state.settled p) (front_of settled p))) ps)

-- Settled grows to what is complete at each node that is not failed, and grows somewhere.
pub record GrowsTo (sys : System) (state : Machine) (done : ℕ → Frontier) (settled : List Front) : Type 0 where
  pub complete : IsComplete sys (events state.history) done
  pub some : (p : ℕ) × (t : Stamp) × (p < length sys.flow.nodes) × (is_failed state p ≡ false)
      × (done p t ≡ true) × (node_frontier sys.flow p (front_of state.settled p) t ≡ false)
  pub one_each : length settled ≡ length sys.flow.nodes
  pub each : (p : ℕ) → p < length sys.flow.nodes → is_failed state p ≡ false
      → IsFrontOf (bounds_of sys.flow p) (front_of settled p) (join (node_frontier sys.flow p (front_of state.settled p)) (done p))
  pub failed : (p : ℕ) → p < length sys.flow.nodes → is_failed state p ≡ true → front_of settled p ≡ front_of state.settled p

-- whether the policy takes checkpoints when asked
abbrev pub is_asked_for_checkpoints : Policy → Bool
is_asked_for_checkpoints policy.Lazy = true
is_asked_for_checkpoints policy.Logged = true
is_asked_for_checkpoints other = false

-- whether a write is in flight
abbrev pub is_in_flight : Stage → Bool
is_in_flight in_flight = true
is_in_flight other = false

-- The oldest write in flight is acknowledged: those before it are not in flight, and all else stays.
pub record AcknowledgesOldest (writes next : List Write) : Type 0 where
  pub earlier : List Write
  pub oldest : Write
  pub later : List Write
  pub before : writes ≡ earlier ++ oldest ∷ later
  pub in_flight : is_in_flight oldest.stage ≡ true
  pub none_earlier : list_any (λ write. is_in_flight write.stage) earlier ≡ false
  pub after : next ≡ earlier ++ record oldest { stage = acknowledged } ∷ later

-- the writes without those in flight of these nodes
abbrev pub without_lost : List ℕ → List Write → List Write
without_lost ps writes = filter (λ write. not (is_one_of write.node ps && is_in_flight write.stage)) writes

-- for each node whether it is failed once these are
abbrev pub with_failed : System → Machine → List ℕ → List Bool
with_failed sys state ps = map (λ p. is_failed state p || is_one_of p ps) (node_ids sys.flow)

-- whether an event of this serial is in the history
abbrev pub has_serial : ℕ → List SerialEvent → Bool
has_serial serial h = list_any (λ v. v.serial == serial) h

-- whether a write lies within the cut of its node, where this is the filtered history
abbrev pub is_kept_write : Cut → Written → List SerialEvent → Bool
is_kept_write Present written h = true
is_kept_write (At f) (checkpoint g low) h = is_within g f
is_kept_write (At f) (logged_event serial) h = has_serial serial h

-- the writes that lie within the cuts of their nodes
abbrev pub kept_writes : Choice → List SerialEvent → List Write → List Write
kept_writes choice h writes = filter (λ write. is_kept_write (cut_of choice write.node) write.written h) writes

-- Settled is cut at each node to its cut.
abbrev pub IsSettledCut : System → ℕ → Cut → Front → Front → Type 0
IsSettledCut sys p Present before after = after ≡ before
IsSettledCut sys p (At f) before after =
    IsFrontOf (bounds_of sys.flow p) after (meet (node_frontier sys.flow p before) (node_frontier sys.flow p f))

-- the settled frontiers are cut at each node
pub record CutsTo (sys : System) (state : Machine) (choice : Choice) (settled : List Front) : Type 0 where
  pub one_each : length settled ≡ length sys.flow.nodes
  pub each : (p : ℕ) → p < length sys.flow.nodes → IsSettledCut sys p (cut_of choice p) (front_of state.settled p) (front_of settled p)

-- the state after a recovery to the choice
abbrev pub recovered_state : System → Machine → Choice → List Front → Machine
recovered_state sys state choice settled = record state {
  history = filtered_history sys choice state.history;
  settled = settled;
  writes = kept_writes choice (filtered_history sys choice state.history) state.writes;
  failed = map (λ p. false) (node_ids sys.flow);
}

-- the frontier of a cut; all where the node stays as it is
abbrev pub front_of_cut : Cut → Front
front_of_cut Present = []
front_of_cut (At f) = f

-- whether the stamp is inside, if there is one
abbrev pub inside_if_some : Frontier → Option Stamp → Bool
inside_if_some f None = true
inside_if_some f (Some u) = f u

-- whether the stamp at which an event at t sends, if there is one, lies inside the frontier of each edge's receiver
abbrev pub sends_inside : System → List Front → ℕ → Stamp → List ℕ → Bool
sends_inside sys low p t es =
    list_all (λ e. inside_if_some (node_frontier sys.flow (receiver sys.flow e) (front_of low (receiver sys.flow e))) (send_stamp sys.flow p t)) es

-- Whether the logged events of node p at stamp t are given up: its kind may keep nothing, the stamp lies below the node's
-- watermark, and what it sends from there lies below the receivers'.
abbrev pub is_given_up : System → List Front → ℕ → Stamp → Bool
is_given_up sys low p t =
    may_keep_nothing (kind_of sys.flow p) && node_frontier sys.flow p (front_of low p) t
    && sends_inside sys low p t (out_edges sys.flow p)

-- whether an event of this serial in the history is given up
abbrev pub is_serial_given_up : System → List Front → ℕ → List SerialEvent → Bool
is_serial_given_up sys low serial h =
    list_any (λ v. v.serial == serial && is_given_up sys low (event_node sys.flow v.event) (event_stamp v.event)) h

-- whether what a write of node p holds lies below the watermark, so that by itself it is not needed again
abbrev pub lies_below : System → List Front → List SerialEvent → ℕ → Written → Bool
lies_below sys low h p (checkpoint g kept_low) = is_within g (front_of low p) && not (is_within (front_of low p) g)
lies_below sys low h p (logged_event serial) = is_serial_given_up sys low serial h

-- the base of node p's checkpoint at f among these writes, if it has one
abbrev pub base_at : ℕ → Front → List Write → Option Front
base_at p f [] = None
base_at p f (write ∷ writes) = if list_any (same_front f) (checkpoints_of p (write ∷ [])) then write.base else base_at p f writes

-- the fronts of so many checkpoints of node p on which one with this base stands: its base, the base of that one, and so on
abbrev pub bases_down : ℕ → ℕ → Option Front → List Write → List Front
bases_down zero p base writes = []
bases_down (suc depth) p None writes = []
bases_down (suc depth) p (Some f) writes = f ∷ bases_down depth p (base_at p f writes) writes

-- whether a write stands on another one of its node: that is its base, or its base stands on that
abbrev pub stands_on : List Write → Write → Write → Bool
stands_on writes write other =
    list_any (λ f. list_any (same_front f) (checkpoints_of write.node (other ∷ []))) (bases_down write.depth write.node write.base writes)

-- Whether a write is forgotten where it is acknowledged: what it holds lies below the watermark, and so does what each write holds that
-- stands on it.
abbrev pub is_forgotten : System → List Front → List SerialEvent → List Write → Write → Bool
is_forgotten sys low h writes write =
    lies_below sys low h write.node write.written
    && list_all (λ (other : Write). not (stands_on writes other write) || lies_below sys low h other.node other.written) writes

-- how far a write is once what is forgotten is collected
abbrev pub after_collection : Bool → Stage → Stage
after_collection forgotten in_flight = in_flight
after_collection forgotten acknowledged = if forgotten then collected else acknowledged
after_collection forgotten collected = collected

-- the writes with those collected that the watermark forgets
abbrev pub collected_writes : System → List Front → List SerialEvent → List Write → List Write
collected_writes sys low h writes =
    map (λ (write : Write). record write { stage = after_collection (is_forgotten sys low h writes write) write.stage }) writes

-- some node has a batch of epoch x
abbrev pub HasEpoch : List (List (List Rec)) → ℕ → Type 0
HasEpoch [] x = ⊥
HasEpoch (batches ∷ sources) x = (x < length batches) ⊎ HasEpoch sources x

-- some rec was delivered to output o at a stamp that passes the test
abbrev pub HasDelivery : System → List Event → ℕ → (Stamp → Bool) → Type 0
HasDelivery sys h o test =
    0 < length (delivered_recs (λ e s. receiver sys.flow e == o && test s) h)

-- there is something to acknowledge at x: a rec at the number, or a batch of the epoch or a rec at it or a later one
abbrev pub HasSomethingAt : System → List Event → Kind → ℕ → ℕ → Type 0
HasSomethingAt sys h OutputNumber o x = HasDelivery sys h o (same (x ∷ []))
HasSomethingAt sys h kind o x = HasEpoch sys.batches x ⊎ HasDelivery sys h o (leq (x ∷ []))

-- output o may acknowledge x: it is not failed, x is its next stamp and settled, and there is something
pub record MayAcknowledge (sys : System) (state : Machine) (o x : ℕ) : Type 0 where
  pub declared : o < length sys.flow.nodes
  pub output : is_output_kind (kind_of sys.flow o) ≡ true
  pub live : is_failed state o ≡ false
  pub next : x ≡ ack_count_of state o
  pub settled : node_frontier sys.flow o (front_of state.settled o) (x ∷ []) ≡ true
  pub there : HasSomethingAt sys (events state.history) (kind_of sys.flow o) o x

-- the recs of output o at x, ascending
abbrev pub recs_at_output : System → Machine → ℕ → ℕ → List Rec
recs_at_output sys state o x =
    sorted_recs (delivered_recs (λ e s. receiver sys.flow e == o && same s (x ∷ [])) (events state.history))

-- what the machine offers in a recovery
abbrev pub offers : System → Machine → ℕ → Cut → Type 0
offers sys state = IsCandidate sys state (is_failed state) kept

-- From a state the step is enabled and leads to the next state with this effect.
abbrev pub LeadsTo : System → Machine → Step → Machine → Effect → Type 0
LeadsTo sys state (Inject s) next effect =
    (x : ℕ) × IsEnabled sys (events state.history) (Injected s x) × (is_failed state s ≡ false)
    × (next ≡ with_event sys state (Injected s x)) × (effect ≡ silent)
LeadsTo sys state (Deliver e at) next effect =
    (m : Message) × IsNextMessage sys (events state.history) e at m × (is_failed state (receiver sys.flow e) ≡ false)
    × (next ≡ with_event sys state (Delivered e m)) × (effect ≡ silent)
LeadsTo sys state (Notify p at) next effect =
    (t : Stamp) × IsNextNotice sys (events state.history) p at t × (is_failed state p ≡ false)
    × (next ≡ with_event sys state (Notified p t)) × (effect ≡ silent)
LeadsTo sys state ProgressStep next effect =
    (done : ℕ → Frontier) × (settled : List Front) × GrowsTo sys state done settled
    × (next ≡ record state { settled = settled; writes = state.writes ++ eager_writes sys state settled (node_ids sys.flow) }) × (effect ≡ silent)
LeadsTo sys state (Checkpoint p) next effect =
    (is_asked_for_checkpoints (policy_of sys.flow p) ≡ true) × (is_failed state p ≡ false)
    × (front_of state.settled p ≢ newest_checkpoint p (no_stamps (bounds_of sys.flow p)) state.writes)
    × (next ≡ record state { writes = state.writes ++ checkpoint_of state p (front_of state.settled p) ∷ [] }) × (effect ≡ silent)
LeadsTo sys state Persist next effect =
    (writes : List Write) × AcknowledgesOldest state.writes writes
    × (next ≡ record state { writes = writes }) × (effect ≡ silent)
LeadsTo sys state (Fail ps) next effect =
    (p : ℕ) × (p < length sys.flow.nodes) × (is_one_of p ps ≡ true) × (is_failed state p ≡ false)
    × (next ≡ record state { failed = with_failed sys state ps; writes = without_lost ps state.writes }) × (effect ≡ silent)
LeadsTo sys state Recover next effect =
    (p : ℕ) × (choice : Choice) × (settled : List Front) × (p < length sys.flow.nodes) × (is_failed state p ≡ true)
    × IsLargest sys state (offers sys state) choice × CutsTo sys state choice settled
    × (next ≡ recovered_state sys state choice settled) × (effect ≡ cuts choice)
LeadsTo sys state Collect next effect =
    (choice : Choice) × IsWatermark sys state choice
    × (map front_of_cut choice.cuts ≢ state.low)
    × (next ≡ record state {
      low = map front_of_cut choice.cuts;
      writes = collected_writes sys (map front_of_cut choice.cuts) state.history state.writes;
    })
    × (effect ≡ lows choice)
LeadsTo sys state (Ack o) next effect =
    (x : ℕ) × MayAcknowledge sys state o x
    × (next ≡ record state { ack_counts = slice_set state.ack_counts o (x + 1) }) × (effect ≡ acked o (x ∷ []) (recs_at_output sys state o x))

-- One step of the machine: its effect where it is enabled, and else nothing changes.
abbrev pub StepsTo : System → Machine → Step → Machine → Outcome → Type 0
StepsTo sys state step next (did effect) = LeadsTo sys state step next effect
StepsTo sys state step next idle =
    ((other : Machine) (effect : Effect) → LeadsTo sys state step other effect → ⊥) × (next ≡ state)

-- a run: the machine takes the steps in turn, with these outcomes
abbrev pub Run : System → Machine → List Step → List Outcome → Machine → Type 0
Run sys state [] [] last = last ≡ state
Run sys state [] (outcome ∷ outcomes) last = ⊥
Run sys state (step ∷ steps) [] last = ⊥
Run sys state (step ∷ steps) (outcome ∷ outcomes) last =
    (next : Machine) × StepsTo sys state step next outcome × Run sys next steps outcomes last

-- whether the step is a recovery
abbrev pub is_recovery : Step → Bool
is_recovery Recover = true
is_recovery step = false

-- none of the steps is a recovery
abbrev pub HaveNoRecovery : List Step → Type 0
HaveNoRecovery steps = AllByRecursion (λ step. is_recovery step ≡ false) steps

-- the step leads to this next state with this outcome, and to no other
pub record IsTheNext (sys : System) (state : Machine) (step : Step) (next : Machine) (outcome : Outcome) : Type 0 where
  pub steps : StepsTo sys state step next outcome
  pub only : (other : Machine) (another : Outcome) → StepsTo sys state step other another → (next ≡ other) × (outcome ≡ another)

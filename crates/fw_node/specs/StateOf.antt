-- The state as which a node is recorded.
use Rattle.std.specs.Prelude.{◌≡◌, ◌&&◌, Bool, true, not, List, length}
use Rattle.fw_time.specs.Stamp.{Stamp}
use Rattle.fw_bag.specs.declared.rec.Rec.{Rec}
use Rattle.fw_bag.specs.Arrivals.{recs_inside}
use Rattle.fw_frontier.specs.declared.state.Entries.{Entries}
use Rattle.fw_frontier.specs.declared.state.Entries.TheVariants.{Totals}
use Rattle.fw_frontier.specs.declared.state.State.{State}
use Rattle.fw_flow.specs.declared.event.Event.{Event}
use Rattle.fw_flow.specs.Kind.{Kind}
use Rattle.fw_flow.specs.declared.kind.Kind.TheVariants as kind
use Rattle.fw_flow.specs.NodeFunction.{delivered_recs, sequence_sent}
use Rattle.fw_node.specs.Past.{Past, totals_kept, totals_changed}

-- the totals that a state holds
abbrev pub totals_in : Entries → List Rec
totals_in (Totals recs) = recs

-- The state is that of a node of the kind whose events were these: it holds the totals by key of all recs that came, and of a
-- sequence how many messages it sent.
pub record IsStateOf (k : Kind) (before : List Event) (state : State) : Type 0 where
  pub totals : totals_in state.entries ≡ totals_kept k (delivered_recs (λ d s. true) before)
  pub sent : k ≡ kind.Sequence → state.sent ≡ length (sequence_sent before)

-- The state has what changed at a node of the kind since its events inside g, where all its events are these: it holds the totals
-- of the keys to which something came outside g, and of a sequence how many messages it sent in all.
pub record IsStateSince (k : Kind) (g : Stamp → Bool) (before : List Event) (state : State) : Type 0 where
  pub totals : totals_in state.entries ≡ totals_changed k (delivered_recs (λ d s. not (g s)) before) (delivered_recs (λ d s. true) before)
  pub sent : k ≡ kind.Sequence → state.sent ≡ length (sequence_sent before)

-- The state has what changed of a node's past since what came inside g, of what came inside f: the totals of the keys to which something
-- came inside f and outside g, and of a sequence how many messages it sent in all.
pub record IsPastSince (k : Kind) (g f : Stamp → Bool) (past : Past) (state : State) : Type 0 where
  pub totals : totals_in state.entries ≡ totals_changed k (recs_inside (λ s. f s && not (g s)) past.came) (recs_inside f past.came)
  pub sent : k ≡ kind.Sequence → state.sent ≡ past.numbered

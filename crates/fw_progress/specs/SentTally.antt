-- How many messages a node sent, by the stamps of its events outside a base and in all inside.
use Rattle.std.specs.Prelude.{◌≡◌, ℕ, ◌+◌, true, not, List, [], ◌∷◌, ◌++◌, length, filter}
use Rattle.std.specs.List.{AllByRecursion}
use Rattle.fw_time.specs.Stamp.{Stamp, in_domain}
use Rattle.fw_time.specs.declared.stamp.Bounds.{Bounds}
use Rattle.fw_frontier.specs.Frontier.{Frontier, Within}
use Rattle.fw_frontier.specs.Front.{Front, inside, frontier_of}
use Rattle.fw_flow.specs.declared.event.Message.{Message}
use Rattle.fw_flow.specs.Projection.{count_from}
use Rattle.fw_model.specs.Filtering.{messages_from}
use Rattle.fw_progress.specs.declared.sent_tally.SentTally.{SentTally}
use Rattle.fw_progress.specs.Tally.{count_inside}

-- The tally counts these messages, in all inside a base: whatever holds the base, as many come from there as are counted inside
-- the base and at stamps there.
abbrev pub IsSentTally : Frontier → List Message → SentTally → Type 0
IsSentTally base ms tally = (f : Frontier) → Within base f → tally.inside + count_inside f tally.outside ≡ count_from f ms

-- the messages come from events at stamps of the domain
abbrev pub ComeFromDomain : Bounds → List Message → Type 0
ComeFromDomain bounds ms = AllByRecursion (λ (m : Message). AllByRecursion (λ t. in_domain bounds t ≡ true) m.causes) ms

-- what counted some messages counts so many more, which come from an event at a stamp
abbrev pub CountsMore : Stamp → ℕ → SentTally → SentTally → Type 0
CountsMore at count old new =
    (base : Frontier) (ms more : List Message) → AllByRecursion (λ (m : Message). m.causes ≡ at ∷ []) more → length more ≡ count
    → IsSentTally base ms old → IsSentTally base (more ++ ms) new

-- what counted messages, in all inside a base that a frontier holds, counts them in all inside the frontier
abbrev pub IsTallySettledTo : Front → SentTally → SentTally → Type 0
IsTallySettledTo f old new =
    (bounds : Bounds) (base : Frontier) (ms : List Message) → ComeFromDomain bounds ms → Within base (frontier_of bounds f)
    → IsSentTally base ms old → IsSentTally (frontier_of bounds f) ms new

-- what it counts inside the frontier is counted in all, and of the stamps those outside are left
abbrev pub IsCountedInAll : Front → SentTally → SentTally → Type 0
IsCountedInAll f old new = new ≡ record {
  inside = old.inside + count_inside (inside f) old.outside;
  outside = filter (λ (entry : Stamp × ℕ). not (inside f entry.0)) old.outside;
}

-- it counts those of the messages that come from inside the frontier
abbrev pub IsTallyCutTo : Front → SentTally → SentTally → Type 0
IsTallyCutTo f old new =
    (bounds : Bounds) (base : Frontier) (ms : List Message) → ComeFromDomain bounds ms → Within base (frontier_of bounds f)
    → IsSentTally base ms old → IsSentTally base (messages_from (frontier_of bounds f) ms) new

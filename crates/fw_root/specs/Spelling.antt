-- The bytes of a root. All numbers are big-endian.
use Rattle.std.specs.Prelude.{ℕ, List, [], ◌∷◌, ◌++◌, length}
use Rattle.std.specs.List.{flat_map}
use Rattle.fw_bytes.specs.Spelling.{u32_bytes, u64_bytes, stamp_bytes, front_bytes, sent_counts_bytes}
use Rattle.fw_root.specs.declared.root.Digests.{Digests}
use Rattle.fw_root.specs.declared.root.Mark.{Mark}
use Rattle.fw_root.specs.declared.root.NodeFronts.{NodeFronts}
use Rattle.fw_root.specs.declared.root.NamedWrite.{NamedWrite}
use Rattle.fw_root.specs.declared.root.PendingAt.{PendingAt}
use Rattle.fw_root.specs.declared.root.OwedAt.{OwedAt}
use Rattle.fw_root.specs.declared.root.Root.{Root}

-- the letters FR, the version, and the digests of the flow, the inputs and the schedule
unfoldable pub digests_bytes : Digests → List ℕ
digests_bytes d = (70 ∷ 82 ∷ 1 ∷ []) ++ d.flow ++ d.inputs ++ d.schedule

-- how many bytes the lines have, and these
abbrev pub lines_bytes : List ℕ → List ℕ
lines_bytes lines = u64_bytes (length lines) ++ lines

-- where a run stands, with the next id before the lines
unfoldable pub mark_bytes : Mark → ℕ → List ℕ
mark_bytes m next_id =
    digests_bytes m.digests
    ++ u64_bytes m.turn
    ++ u64_bytes m.line
    ++ u64_bytes m.singles
    ++ u64_bytes m.steps
    ++ u64_bytes m.idle
    ++ u64_bytes next_id
    ++ lines_bytes m.lines

-- the three frontiers of a node
unfoldable pub node_fronts_bytes : NodeFronts → List ℕ
node_fronts_bytes f = front_bytes f.settled ++ front_bytes f.low ++ front_bytes f.third

-- an id, a node and a tag
abbrev pub named_write_bytes : NamedWrite → List ℕ
named_write_bytes w = u64_bytes w.id ++ u32_bytes w.node ++ w.tag ∷ []

-- how many writes, and these
abbrev pub writes_bytes : List NamedWrite → List ℕ
writes_bytes ws = u64_bytes (length ws) ++ flat_map named_write_bytes ws

-- how many ids, and these
abbrev pub ids_bytes : List ℕ → List ℕ
ids_bytes ids = u64_bytes (length ids) ++ flat_map u64_bytes ids

-- an edge, a stamp and how many messages are pending there
abbrev pub pending_at_bytes : PendingAt → List ℕ
pending_at_bytes p = u32_bytes p.edge ++ stamp_bytes p.at ++ u64_bytes p.count

-- how many counts of what is pending, and these
abbrev pub pending_bytes : List PendingAt → List ℕ
pending_bytes ps = u64_bytes (length ps) ++ flat_map pending_at_bytes ps

-- a node and a stamp that it is owed
abbrev pub owed_at_bytes : OwedAt → List ℕ
owed_at_bytes o = u32_bytes o.node ++ stamp_bytes o.at

-- how many stamps are owed, and these
abbrev pub owed_bytes : List OwedAt → List ℕ
owed_bytes os = u64_bytes (length os) ++ flat_map owed_at_bytes os

-- The one spelling of a root. What there is one of for each input, output, node and sequence stands without a count.
unfoldable pub root_spelling : Root → List ℕ
root_spelling r =
    mark_bytes r.mark r.next_id
    ++ flat_map u64_bytes r.injected
    ++ flat_map u64_bytes r.bounds
    ++ flat_map node_fronts_bytes r.fronts
    ++ writes_bytes r.writes
    ++ ids_bytes r.others
    ++ pending_bytes r.pending
    ++ owed_bytes r.owed
    ++ flat_map sent_counts_bytes r.sends

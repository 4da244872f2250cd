-- What a root has one of for each input, output or sequence, and which numbers and fronts may stand there.
use Rattle.std.specs.Prelude.{ℕ, suc, slice_get, ◌^◌, Bool, true, ◌||◌, ◌==◌, nat_lt, nat_le, slice_index, List, [], ◌∷◌, length, filter, Option, if◌then◌else◌}
use Rattle.std.specs.Option.{option_map_or}
use Rattle.std.specs.Ordering.{is_eq}
use Rattle.fw_time.specs.Stamp.{Stamp, origin, stamp_cmp}
use Rattle.fw_time.specs.declared.stamp.Bounds.{Bounds}
use Rattle.fw_bag.specs.declared.rec.Rec.{Rec}
use Rattle.fw_lines.specs.Batches.{batches_at}
use Rattle.fw_flow.specs.Kind.{Kind}
use Rattle.fw_flow.specs.declared.kind.Policy.{Policy}
use Rattle.fw_flow.specs.declared.kind.Policy.TheVariants as policy
use Rattle.fw_flow.specs.Dataflow.{Dataflow, node_ids, kind_of, policy_of, is_input_kind, is_output_kind, is_sequence_kind}
use Rattle.fw_root.specs.declared.extent.Extent.{Extent}
use Rattle.fw_root.specs.declared.extent.Extent.TheVariants.{Any, Batches, Nothing}
use Rattle.fw_root.specs.declared.of_flow.Role.{Role}
use Rattle.fw_root.specs.declared.of_flow.Role.TheVariants as role

-- batches by node
abbrev pub Given : Type 0
Given = List (ℕ × List (List Rec))

-- whether a node of the kind plays the role
abbrev pub plays : Role → Kind → Bool
plays role.Input kind = is_input_kind kind
plays role.Output kind = is_output_kind kind
plays role.ByCount kind = is_sequence_kind kind

-- the nodes that play a role, in order
unfoldable pub nodes_as : Dataflow → Role → List ℕ
nodes_as flow role = filter (λ p. plays role (kind_of flow p)) (node_ids flow)

-- the greatest number that may stand for a node: for an input how many batches it has, for an output 2^32
unfoldable pub limit_for : Dataflow → Given → ℕ → ℕ
limit_for flow batches p = if is_input_kind (kind_of flow p) then length (batches_at batches p) else 2 ^ 32

-- the place of a node among these; past them, where it is none of them
abbrev pub place_among_nodes : List ℕ → ℕ → ℕ
place_among_nodes [] p = 0
place_among_nodes (q ∷ qs) p = if q == p then 0 else suc (place_among_nodes qs p)

-- which of these numbers stands for a node, the numbers being those of these nodes
abbrev pub number_standing_for : List ℕ → List ℕ → ℕ → Option ℕ
number_standing_for qs ns p = slice_get ns (place_among_nodes qs p)

-- ---- fronts

-- A front may have so many outside stamps: that of an input's batches at least one, unless it has injected the whole of them; that
-- without stamps one.
abbrev pub allows_size : Extent → ℕ → Bool
allows_size Any n = true
allows_size (Batches injected whole) n = whole || nat_lt 0 n
allows_size Nothing n = n == 1

-- A front of the domain may have this outside stamp: that of an input's batches one up to as many as it injected; that without stamps
-- the least.
abbrev pub allows_stamp : Bounds → Extent → Stamp → Bool
allows_stamp bounds Any s = true
allows_stamp bounds (Batches injected whole) s = nat_le (slice_index s 0) injected
allows_stamp bounds Nothing s = is_eq (stamp_cmp s (origin bounds.greatest))

-- for an input that injected so many batches
abbrev pub injected_extent : Given → ℕ → ℕ → Extent
injected_extent batches p injected = Batches injected (injected == length (batches_at batches p))

-- which fronts a node's low watermark may be
unfoldable pub low_extent : Dataflow → Given → List ℕ → ℕ → Extent
low_extent flow batches injected p = option_map_or (injected_extent batches p) (number_standing_for (nodes_as flow role.Input) injected p) Any

-- a third front has stamps at a node that logs its events alone
abbrev pub extent_of_policy : Policy → Extent
extent_of_policy policy.Full = Any
extent_of_policy policy = Nothing

-- which fronts a node's third one may be
abbrev pub third_extent : Dataflow → ℕ → Extent
third_extent flow p = extent_of_policy (policy_of flow p)

-- Reading a root field by field, up to the first broken one.
use Rattle.std.specs.Prelude.{ℕ, ◌^◌, ◌==◌, nat_lt, nat_le, List, [], ◌∷◌, ◌++◌, length, Result, Ok, Err, if◌then◌else◌}
use Rattle.std.specs.Int.{w16, w32, w64}
use Rattle.fw_time.specs.Stamp.{Stamp}
use Rattle.fw_time.specs.declared.stamp.Bounds.{Bounds}
use Rattle.fw_frontier.specs.Front.{Front}
use Rattle.fw_frontier.specs.declared.state.SentCount.{SentCount}
use Rattle.fw_bytes.specs.Fields.{byte_of, number_field, stamp_field, sent_count_of}
use Rattle.fw_bytes.specs.Reading.{Reading, ◌>>=◌, kept_if, any, many_of}
use Rattle.fw_flow.specs.Dataflow.{Dataflow, node_ids, bounds_of}
use Rattle.fw_root.specs.declared.extent.Extent.{Extent}
use Rattle.fw_root.specs.declared.extent.Extent.TheVariants.{Any}
use Rattle.fw_root.specs.declared.of_flow.Role.TheVariants as role
use Rattle.fw_root.specs.declared.root.Digests.{Digests}
use Rattle.fw_root.specs.declared.root.Head.{Head}
use Rattle.fw_root.specs.declared.root.Mark.{Mark}
use Rattle.fw_root.specs.declared.root.NodeFronts.{NodeFronts}
use Rattle.fw_root.specs.declared.root.NamedWrite.{NamedWrite}
use Rattle.fw_root.specs.declared.root.PendingAt.{PendingAt}
use Rattle.fw_root.specs.declared.root.OwedAt.{OwedAt}
use Rattle.fw_root.specs.declared.root.Root.{Root}
use Rattle.fw_root.specs.Fields.{bytes_field, named_write_field, pending_at_field, owed_at_field}
use Rattle.fw_root.specs.OfFlow.{Given, nodes_as, limit_for, allows_size, low_extent, third_extent}
use Rattle.fw_root.specs.Sound.{may_follow_outside, may_follow_writes, may_follow_others, may_follow_pending, may_follow_owed, may_follow_sends}

-- one part for each of these, after the parts before
unfoldable pub many_for : {K A : Type 0} → (K → List ℕ → Reading A) → List K → List A → List ℕ → Reading (List A)
many_for part [] before bytes = Ok (before, bytes)
many_for part (k ∷ ks) before bytes = do
  x ← part k bytes
  many_for part ks (before ++ x.0 ∷ []) x.1

-- ---- the mark

-- so many bytes, one field
abbrev pub any_bytes : ℕ → List ℕ → Reading (List ℕ)
any_bytes n bytes = any bytes (bytes_field n bytes)

-- the letters FR, the version, and three digests
unfoldable pub read_digests : List ℕ → Reading Digests
read_digests bytes = do
  magic ← kept_if (λ m. m == 18002) bytes (number_field w16 bytes)
  version ← kept_if (λ v. v == 1) magic.1 (byte_of magic.1)
  flow ← any_bytes 32 version.1
  inputs ← any_bytes 32 flow.1
  schedule ← any_bytes 32 inputs.1
  Ok (record { flow = flow.0; inputs = inputs.0; schedule = schedule.0 }, schedule.1)

-- the digests, and a turn of any number
unfoldable pub read_root_head : List ℕ → Reading Head
read_root_head bytes = do
  digests ← read_digests bytes
  turn ← any digests.1 (number_field w64 digests.1)
  Ok (record { digests = digests.0; turn = turn.0 }, turn.1)

-- a number below 2^62
abbrev pub small_number : List ℕ → Reading ℕ
small_number bytes = kept_if (λ n. nat_lt n (2 ^ 62)) bytes (number_field w64 bytes)

-- how many bytes, and these
unfoldable pub read_lines : List ℕ → Reading (List ℕ)
read_lines bytes = do
  size ← any bytes (number_field w64 bytes)
  any_bytes size.0 size.1

-- where a run stands, and the next id
unfoldable pub read_mark : List ℕ → Reading (Mark × ℕ)
read_mark bytes = do
  digests ← read_digests bytes
  turn ← small_number digests.1
  line ← small_number turn.1
  singles ← small_number line.1
  steps ← small_number singles.1
  idle ← small_number steps.1
  next_id ← small_number idle.1
  lines ← read_lines next_id.1
  Ok (
    (
      record {
        digests = digests.0;
        turn = turn.0;
        line = line.0;
        singles = singles.0;
        steps = steps.0;
        idle = idle.0;
        lines = lines.0;
      },
      next_id.0,
    ),
    lines.1,
  )

-- ---- what there is one of for each input, output, node and sequence

-- the number of a node, up to its limit
abbrev pub number_for : Dataflow → Given → ℕ → List ℕ → Reading ℕ
number_for flow batches p bytes = kept_if (λ n. nat_le n (limit_for flow batches p)) bytes (number_field w64 bytes)

-- one for each of these nodes
abbrev pub read_numbers : Dataflow → Given → List ℕ → List ℕ → Reading (List ℕ)
read_numbers flow batches nodes bytes = many_for (number_for flow batches) nodes [] bytes

-- the next outside stamp of a front
abbrev pub next_outside_of : Bounds → Extent → Front → List ℕ → Reading Stamp
next_outside_of bounds extent before bytes = kept_if (may_follow_outside bounds extent before) bytes (stamp_field bytes)

-- a front that is allowed there: a count, and that many stamps
unfoldable pub read_front_in : Bounds → Extent → List ℕ → Reading Front
read_front_in bounds extent bytes = do
  count ← kept_if (allows_size extent) bytes (number_field w32 bytes)
  many_of (next_outside_of bounds extent) count.0 [] count.1

-- the three frontiers of a node
unfoldable pub read_node_fronts : Dataflow → Given → List ℕ → ℕ → List ℕ → Reading NodeFronts
read_node_fronts flow batches injected p bytes = do
  settled ← read_front_in (bounds_of flow p) Any bytes
  low ← read_front_in (bounds_of flow p) (low_extent flow batches injected p) settled.1
  third ← read_front_in (bounds_of flow p) (third_extent flow p) low.1
  Ok (record { settled = settled.0; low = low.0; third = third.0 }, third.1)

-- those of each node
abbrev pub read_fronts : Dataflow → Given → List ℕ → List ℕ → Reading (List NodeFronts)
read_fronts flow batches injected bytes = many_for (read_node_fronts flow batches injected) (node_ids flow) [] bytes

-- the next count of what a sequence sent
abbrev pub next_sent_of : Dataflow → ℕ → List SentCount → List ℕ → Reading SentCount
next_sent_of flow p before bytes = kept_if (may_follow_sends flow p before) bytes (sent_count_of bytes)

-- a count, and that many of them
unfoldable pub read_sends_of : Dataflow → ℕ → List ℕ → Reading (List SentCount)
read_sends_of flow p bytes = do
  count ← any bytes (number_field w32 bytes)
  many_of (next_sent_of flow p) count.0 [] count.1

-- those of each sequence
abbrev pub read_sends : Dataflow → List ℕ → Reading (List (List SentCount))
read_sends flow bytes = many_for (read_sends_of flow) (nodes_as flow role.ByCount) [] bytes

-- ---- lists with a count

-- the next write
abbrev pub next_write_of : Dataflow → ℕ → List NamedWrite → List ℕ → Reading NamedWrite
next_write_of flow next_id before bytes = kept_if (may_follow_writes flow next_id before) bytes (named_write_field bytes)

-- a count, and that many writes
unfoldable pub read_writes : Dataflow → ℕ → List ℕ → Reading (List NamedWrite)
read_writes flow next_id bytes = do
  count ← any bytes (number_field w64 bytes)
  many_of (next_write_of flow next_id) count.0 [] count.1

-- the next other id
abbrev pub next_other_of : ℕ → List NamedWrite → List ℕ → List ℕ → Reading ℕ
next_other_of next_id writes before bytes = kept_if (may_follow_others next_id writes before) bytes (number_field w64 bytes)

-- a count, and that many other ids
unfoldable pub read_others : ℕ → List NamedWrite → List ℕ → Reading (List ℕ)
read_others next_id writes bytes = do
  count ← any bytes (number_field w64 bytes)
  many_of (next_other_of next_id writes) count.0 [] count.1

-- the next count of what is pending
abbrev pub next_pending_of : Dataflow → List PendingAt → List ℕ → Reading PendingAt
next_pending_of flow before bytes = kept_if (may_follow_pending flow before) bytes (pending_at_field bytes)

-- a count, and that many of them
unfoldable pub read_pending : Dataflow → List ℕ → Reading (List PendingAt)
read_pending flow bytes = do
  count ← any bytes (number_field w64 bytes)
  many_of (next_pending_of flow) count.0 [] count.1

-- the next stamp that is owed
abbrev pub next_owed_of : Dataflow → List OwedAt → List ℕ → Reading OwedAt
next_owed_of flow before bytes = kept_if (may_follow_owed flow before) bytes (owed_at_field bytes)

-- a count, and that many of them
unfoldable pub read_owed : Dataflow → List ℕ → Reading (List OwedAt)
read_owed flow bytes = do
  count ← any bytes (number_field w64 bytes)
  many_of (next_owed_of flow) count.0 [] count.1

-- ---- a root

-- all fields of a root, in order
unfoldable pub read_root : Dataflow → Given → List ℕ → Reading Root
read_root flow batches bytes = do
  mark ← read_mark bytes
  injected ← read_numbers flow batches (nodes_as flow role.Input) mark.1
  bounds ← read_numbers flow batches (nodes_as flow role.Output) injected.1
  fronts ← read_fronts flow batches injected.0 bounds.1
  writes ← read_writes flow mark.0.1 fronts.1
  others ← read_others mark.0.1 writes.0 writes.1
  pending ← read_pending flow others.1
  owed ← read_owed flow pending.1
  sends ← read_sends flow owed.1
  Ok (
    record {
      mark = mark.0.0;
      next_id = mark.0.1;
      injected = injected.0;
      bounds = bounds.0;
      fronts = fronts.0;
      writes = writes.0;
      others = others.0;
      pending = pending.0;
      owed = owed.0;
      sends = sends.0;
    },
    sends.1,
  )

-- A root and no byte more, or how many bytes are left from the first broken field on.
unfoldable pub root_reading : Dataflow → Given → List ℕ → Result Root ℕ
root_reading flow batches bytes = do
  r ← read_root flow batches bytes
  if length r.1 == 0 then Ok r.0 else Err (length r.1)

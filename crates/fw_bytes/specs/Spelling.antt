-- Numbers, stamps, fronts and counts as bytes. All numbers are big-endian.
use Rattle.std.specs.Prelude.{ℕ, ◌^◌, ◌<◌, List, ◌∷◌, ◌++◌, length}
use Rattle.std.specs.Int.{w32, w64, to_be_bytes}
use Rattle.std.specs.List.{flat_map}
use Rattle.fw_time.specs.Stamp.{Stamp}
use Rattle.fw_frontier.specs.Front.{Front}
use Rattle.fw_frontier.specs.declared.state.SentCount.{SentCount}

-- four bytes
abbrev pub u32_bytes : ℕ → List ℕ
u32_bytes n = to_be_bytes w32 n

-- eight bytes
abbrev pub u64_bytes : ℕ → List ℕ
u64_bytes n = to_be_bytes w64 n

-- a byte for how many coordinates, and four bytes for each
abbrev pub stamp_bytes : Stamp → List ℕ
stamp_bytes s = length s ∷ flat_map u32_bytes s

-- how many stamps are least outside, and these; none is `all`
abbrev pub front_bytes : Front → List ℕ
front_bytes f = u32_bytes (length f) ++ flat_map stamp_bytes f

-- a stamp and how many messages were sent from there
abbrev pub sent_count_bytes : SentCount → List ℕ
sent_count_bytes s = stamp_bytes s.cause ++ u64_bytes s.count

-- how many counts of what was sent, and these
abbrev pub sent_counts_bytes : List SentCount → List ℕ
sent_counts_bytes ss = u32_bytes (length ss) ++ flat_map sent_count_bytes ss

-- ---- counts

-- The list has no more parts than a count of four bytes can say.
abbrev pub IsCountable : {A : Type 0} → List A → Type 0
IsCountable xs = length xs < 2 ^ 32

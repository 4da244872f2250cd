-- What is written of stamps of one coordinate.
use Rattle.std.proofs.Common.{◌≡◌, ℕ, [], ◌∷◌, ◌++◌, refl}
use Rattle.fw_frontier.specs.declared.state.SentCount.{SentCount}
use Rattle.fw_bytes.specs.Spelling.{u32_bytes, u64_bytes, sent_count_bytes}

-- a count at a stamp of one coordinate
pub plain_count : (s : SentCount) (coord : ℕ) → s.cause ≡ coord ∷ [] → sent_count_bytes s ≡ (1 ∷ u32_bytes coord) ++ u64_bytes s.count
plain_count s coord e = rw e refl

-- What is written of stamps of one coordinate.
use Rattle.std.proofs.Common.{◌≡◌, ℕ, [], ◌∷◌, ◌++◌, refl}
use Rattle.fw_bytes.specs.Spelling.{u32_bytes, stamp_bytes}
use Rattle.fw_record.specs.declared.logged.Logged.{Logged}
use Rattle.fw_record.specs.Spelling.{rec_bytes, logged_bytes}

-- a message of one cause
pub plain_logged : (m : Logged) (at cause : ℕ) → m.message.at ≡ at ∷ [] → m.message.causes ≡ (cause ∷ []) ∷ []
    → logged_bytes m ≡ u32_bytes m.edge ++ stamp_bytes (at ∷ []) ++ stamp_bytes (cause ∷ []) ++ rec_bytes m.message.rec
unfolding logged_bytes
plain_logged m at cause e f = rw (e, f) refl

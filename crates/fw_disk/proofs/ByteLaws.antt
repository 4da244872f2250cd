-- The bytes of a file behind which others are written.
use Rattle.std.proofs.Common.{◌≡◌, ℕ, Bool, true, false, List, ◌∷◌, ◌++◌, Some, refl, sym, ap, subst, ◌∙◌, append_assoc}
use Rattle.fw_disk.specs.declared.cause.DiskPlace.{DiskPlace}
use Rattle.fw_disk.specs.declared.cause.DiskPlace.TheVariants.{Folder, Record, Beside, Run, RunBeside}
use Rattle.fw_disk.specs.FolderCalls.{FolderCall, appended, flushed, is_place, IsLonger}
use Rattle.fw_disk.specs.PowerLoss.{Disk, DiskFile, kept, written, grown, torn, bytes_of, flush_of, longer_by, Either, HasBytes}
use Rattle.fw_disk.proofs.Moments.{at_same}

at_place : (place : DiskPlace) (A B : Type 0) → Either (is_place place place) A B → A
at_place (Record id) A B e = at_same id A B e
at_place (Beside id) A B e = at_same id A B e
at_place Run A B e = e
at_place RunBeside A B e = e
at_place Folder A B e = e

inside : (a b : DiskFile) → Some a ≡ Some b → a ≡ b
inside a b e = cc

bytes_inside : (a b : List ℕ) → Some a ≡ Some b → a ≡ b
bytes_inside a b e = cc

flush_bytes : (file : DiskFile) → bytes_of (flush_of file) ≡ bytes_of file
flush_bytes (kept bytes) = refl
flush_bytes (written bytes) = refl
flush_bytes (grown bytes more) = refl
flush_bytes (torn most) = refl

longer_bytes : (file : DiskFile) (before bytes : List ℕ) → bytes_of file ≡ Some before → bytes_of (longer_by bytes file) ≡ Some (before ++ bytes)
longer_bytes (kept was) before bytes e = ap (λ b. Some (b ++ bytes)) (bytes_inside was before e)
longer_bytes (written was) before bytes e = ap (λ b. Some (b ++ bytes)) (bytes_inside was before e)
longer_bytes (grown was more) before bytes e = ap Some (sym (append_assoc was more bytes)) ∙ ap (λ b. Some (b ++ bytes)) (bytes_inside (was ++ more) before e)
longer_bytes (torn most) before bytes e = absurd (cc)

module _ (start : Disk) (place : DiskPlace) (before bytes : List ℕ) where
  bytes_appended : (old : List FolderCall) → HasBytes start old place before → HasBytes start (appended place bytes true ∷ old) place (before ++ bytes)
  bytes_appended old has file there =
      let t = at_place place _ _ there in
      ap bytes_of (inside file (longer_by bytes t.0) t.2) ∙ longer_bytes t.0 before bytes (has t.0 t.1)

  bytes_flushed : (old : List FolderCall) → HasBytes start old place (before ++ bytes) → HasBytes start (flushed place true ∷ old) place (before ++ bytes)
  bytes_flushed old has file there =
      let t = at_place place _ _ there in
      ap bytes_of (inside file (flush_of t.0) t.2) ∙ flush_bytes t.0 ∙ has t.0 t.1

  pub bytes_longer : (flushes : Bool) (old new : List FolderCall) → IsLonger flushes place bytes old new → HasBytes start old place before → HasBytes start new place (before ++ bytes)
  bytes_longer true old new e has =
      subst (λ h. HasBytes start h place (before ++ bytes)) (sym e) (bytes_flushed (appended place bytes true ∷ old) (bytes_appended old has))
  bytes_longer false old new e has = subst (λ h. HasBytes start h place (before ++ bytes)) (sym e) (bytes_appended old has)

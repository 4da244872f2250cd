-- Laws of the bytes of a batch.
use Rattle.std.specs.Prelude.{◌≡◌, ℕ, ◌^◌, ◌<◌, Bool, List, length, Ok}
use Rattle.std.specs.List.{AllByRecursion}
use Rattle.fw_bag.specs.Bag.{IsRec}
use Rattle.fw_bag.specs.declared.rec.Rec.{Rec}
use Rattle.fw_bytes.specs.Exact.{AreBytes}
use Rattle.fw_came.specs.Came.{batch_bytes, batch_reading}
use Rattle.fw_came.specs.declared.batch.CameBatch.{CameBatch}

-- the bytes of a batch are read as that batch
abbrev pub BatchesAreReadBack : Type 0
BatchesAreReadBack = (last : Bool) (recs : List Rec) → AllByRecursion IsRec recs → length recs < 2 ^ 64
    → batch_reading (batch_bytes last recs) ≡ Ok (record { last = last; recs = recs })

-- what is read of bytes is the batch that they spell
abbrev pub ReadBatchesAreSpelled : Type 0
ReadBatchesAreSpelled = (bytes : List ℕ) (batch : CameBatch) → AreBytes bytes → batch_reading bytes ≡ Ok batch
    → bytes ≡ batch_bytes batch.last batch.recs

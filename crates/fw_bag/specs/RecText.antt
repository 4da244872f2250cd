-- How a rec is printed.
use Rattle.std.specs.Prelude.{ℕ, List, ◌++◌, codes}
use Rattle.std.specs.Fmt.{decimal}
use Rattle.fw_bag.specs.declared.rec.Rec.{Rec}

-- `KEY:VALUE`
abbrev pub rec_text : Rec → List ℕ
rec_text rec = decimal rec.key ++ (codes ":" ++ decimal rec.value)

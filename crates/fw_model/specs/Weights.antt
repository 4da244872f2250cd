-- The weight of a list: the sum of a number of each element.
use Rattle.std.specs.Prelude.{ℕ, ◌+◌, Bool, if◌then◌else◌, ◌&&◌, List, [], ◌∷◌}
use Rattle.std.specs.Ordering.{is_eq}
use Rattle.fw_time.specs.Stamp.{Stamp, same}
use Rattle.fw_bag.specs.declared.rec.Rec.{Rec}
use Rattle.fw_bag.specs.Rec.{rec_cmp}
use Rattle.fw_flow.specs.WholeBags.{Timed}

-- the sum of the weights of the elements
unfoldable pub weigh : {A : Type 0} → (A → ℕ) → List A → ℕ
weigh w [] = 0
weigh w (x ∷ xs) = w x + weigh w xs

-- 1 for this rec at this stamp, and else 0
unfoldable pub one : Stamp → Rec → Timed → ℕ
one t q x = if same t x.at && is_eq (rec_cmp q x.rec) then 1 else 0

-- What a selection does to a rec.
use Rattle.std.specs.Prelude.{ℕ, ◌+◌, ◌%◌, ◌^◌, Bool, not, ◌==◌, nat_lt, nat_le, if◌then◌else◌, Option, Some, None}
use Rattle.fw_bag.specs.declared.rec.Rec.{Rec}
use Rattle.fw_bag.specs.declared.select.Assignment.{Assignment}
use Rattle.fw_bag.specs.declared.select.Comparison.{Comparison}
use Rattle.fw_bag.specs.declared.select.Comparison.TheVariants.{Equal, NotEqual, Less, LessOrEqual, Greater, GreaterOrEqual}
use Rattle.fw_bag.specs.declared.select.Condition.{Condition}
use Rattle.fw_bag.specs.declared.select.Field.{Field}
use Rattle.fw_bag.specs.declared.select.Field.TheVariants.{Key, Value}
use Rattle.fw_bag.specs.declared.select.NewValue.{NewValue}
use Rattle.fw_bag.specs.declared.select.NewValue.TheVariants as new
use Rattle.fw_bag.specs.declared.select.Selection.{Selection}
use Rattle.fw_bag.specs.declared.select.Term.{Term}
use Rattle.fw_bag.specs.declared.select.Term.TheVariants as term

-- the field's number in a rec
abbrev pub field_number : Field → Rec → ℕ
field_number Key r = r.key
field_number Value r = r.value

-- the number that a condition compares with, at a rec
abbrev pub term_number : Term → Rec → ℕ
term_number (term.Number n) r = n
term_number (term.Field f) r = field_number f r

-- whether the comparison holds between the first number and the second
abbrev pub compares : Comparison → ℕ → ℕ → Bool
compares Equal m n = m == n
compares NotEqual m n = not (m == n)
compares Less m n = nat_lt m n
compares LessOrEqual m n = nat_le m n
compares Greater m n = nat_lt n m
compares GreaterOrEqual m n = nat_le n m

-- whether the condition holds of a rec
abbrev pub holds : Condition → Rec → Bool
holds c r = compares c.comparison (field_number c.field r) (term_number c.term r)

-- the number that an assignment gives its field, at the rec as it came
abbrev pub new_value : NewValue → Rec → ℕ
new_value (new.Number n) r = n
new_value (new.Field f) r = field_number f r
new_value (new.FieldPlus f n) r = (field_number f r + n) % 2 ^ 64

-- the rec with this number in the field
abbrev pub with_field : Field → ℕ → Rec → Rec
with_field Key n r = record r { key = n }
with_field Value n r = record r { value = n }

-- the rec after the assignment
abbrev pub assigned_rec : Assignment → Rec → Rec
assigned_rec a r = with_field a.field (new_value a.value r) r

-- the rec after the assignment, if there is one
abbrev pub assigned_by : Option Assignment → Rec → Rec
assigned_by None r = r
assigned_by (Some a) r = assigned_rec a r

-- the rec that is sent on: none where the condition does not hold of the rec as it came, and else the rec after the assignment
abbrev pub selected_rec : Selection → Rec → Option Rec
selected_rec s r = if holds s.condition r then Some (assigned_by s.assignment r) else None

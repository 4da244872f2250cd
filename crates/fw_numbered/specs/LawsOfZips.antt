-- The law of how much a zip sends.
use Rattle.std.specs.Prelude.{◌≡◌, ℕ, zero, suc, ◌+◌, ◌<◌, ◌≤◌, ◌==◌, if◌then◌else◌, Bool, true, min, List, [], ◌∷◌, ◌++◌, map, option_to_list}
use Rattle.fw_time.specs.Stamp.{Stamp}
use Rattle.fw_time.specs.Sending.{side_stamp, side_number}
use Rattle.fw_bag.specs.declared.rec.Rec.{Rec}
use Rattle.fw_bag.specs.Arrivals.{Arrival, arrivals_inside}
use Rattle.fw_numbered.specs.Zip.{partners_at, zipped}

-- how many came on an in-edge
abbrev pub how_many_on : ℕ → List Arrival → ℕ
how_many_on side [] = 0
how_many_on side (a ∷ came) = if a.side == side then how_many_on side came + 1 else how_many_on side came

-- all came on two in-edges, each at the stamp of the number of those before it on its own
abbrev pub AreInTurn : List Arrival → Type 0
AreInTurn [] = Unit {0}
AreInTurn (a ∷ came) = (a.side < 2) × (a.at ≡ side_stamp a.side (how_many_on a.side came)) × AreInTurn came

-- what an arrival makes a zip send after those before it, at its number
abbrev pub zipped_with : Arrival → List Arrival → List (Stamp × Rec)
zipped_with a came =
    map (λ r. (side_number a.at ∷ [], r)) (option_to_list (zipped (partners_at (side_number a.at) (a ∷ came))))

-- what it sends for all that came, the latest first
abbrev pub zipped_for : List Arrival → List (Stamp × Rec)
zipped_for [] = []
zipped_for (a ∷ came) = zipped_with a came ++ zipped_for came

-- the numbers below a limit, the greatest first
abbrev pub numbers_below : ℕ → List Stamp
numbers_below zero = []
numbers_below (suc n) = (n ∷ []) ∷ numbers_below n

-- a zip sends at the numbers 0, 1, 2 and so on in this order, as many as came on that in-edge on which fewer came
abbrev pub ZipsSendTheLesser : Type 0
ZipsSendTheLesser = (came : List Arrival) → AreInTurn came
    → map (λ (x : Stamp × Rec). x.0) (zipped_for came) ≡ numbers_below (min (how_many_on 0 came) (how_many_on 1 came))

-- with the stamp of a number each lesser number's on its side is inside
abbrev pub HasLesserNumbers : (Stamp → Bool) → Type 0
HasLesserNumbers f = (side n m : ℕ) → n ≤ m → f (side_stamp side m) ≡ true → f (side_stamp side n) ≡ true

-- what came inside came in turn, where all did
abbrev pub InsideIsInTurn : Type 0
InsideIsInTurn = (f : Stamp → Bool) → HasLesserNumbers f → (came : List Arrival) → AreInTurn came → AreInTurn (arrivals_inside f came)

-- At which stamp a node sends, from the stamp of its event: a partial map for each kind.
use Rattle.std.specs.Prelude.{ℕ, ◌+◌, ◌-◌, ◌/◌, ◌==◌, nat_lt, if◌then◌else◌, [], ◌∷◌, Option, Some, None}
use Rattle.fw_time.specs.Stamp.{Stamp, nest, outer, counter}

-- where a loop is entered: counter 0
abbrev pub entered_stamp : Stamp → Option Stamp
entered_stamp t = Some (nest t 0)

-- where a loop is fed back: the next counter, nothing past the last one
abbrev pub fed_back_stamp : ℕ → Stamp → Option Stamp
fed_back_stamp max t = if nat_lt (counter t) max then Some (nest (outer t) (counter t + 1)) else None

-- where a loop is left: without the counter
abbrev pub left_stamp : Stamp → Option Stamp
left_stamp t = Some (outer t)

-- where numbers are regrouped into epochs of n
abbrev pub regrouped_stamp : ℕ → Stamp → Option Stamp
regrouped_stamp n [] = None
regrouped_stamp n (s ∷ t) = Some ((s / n) ∷ [])

-- the stamp of a number in a domain with sides: on the first of two in-edges, and on the second
abbrev pub side_stamp : ℕ → ℕ → Stamp
side_stamp side n = if side == 0 then (n + 1) ∷ 0 ∷ [] else 0 ∷ (n + 1) ∷ []

-- the number for which a stamp of a side stands
abbrev pub side_number : Stamp → ℕ
side_number [] = 0
side_number (x ∷ []) = 0
side_number (x ∷ y ∷ s) = x + y - 1

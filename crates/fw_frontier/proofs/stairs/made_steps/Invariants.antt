use Rattle.std.proofs.Common.{◌≡◌, ℕ, ◌<◌, length, get_or, Ok}
use Rattle.fw_frontier.proofs.stairs.made_steps.Given as goal

abbrev pub invariant-loop-c : goal.invariant-loop-c
invariant-loop-c g l =
    (length l.steps.items ≡ l.c) × ((c : ℕ) (d : _) → c < l.c → goal.M-post g l.make c (Ok (get_or l.steps.items c d)))

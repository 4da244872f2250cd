use Rattle.std.proofs.Common.{◌≡◌, ℕ, List, true, get_or}
use Rattle.std.specs.List.{AllByRecursion}
use Rattle.fw_time.specs.Stamp.{leq, nest, outer}
use Rattle.fw_frontier.specs.Front.{inside}
use Rattle.fw_frontier.proofs.StairsLaws.{upto}
use Rattle.fw_frontier.proofs.stairs.Stairs.nested.Given as goal

abbrev pub invariant-loop-c : goal.invariant-loop-c
invariant-loop-c g l =
    AllByRecursion (λ s. leq s l.bounds.greatest ≡ true) l.stamps.items
    × ((s : List ℕ) (d : ℕ) → leq s (outer l.bounds.greatest) ≡ true → inside l.stamps.items (nest s d) ≡ upto (λ c. g.T.Frontier.Frontier.inside (get_or l.self.steps.items c l.self.last) (g.T.Time.of_coords s)) l.c d)

-- Frontiers by their canonical lists.
use Rattle.std.proofs.Common.{◌≡◌, ◌≢◌, ◌<◌, [], sym, ◌∙◌}
use Rattle.std.proofs.Math.Bool.{and-true}
use Rattle.std.proofs.lemmas.Bool.{and_parts, and_from}
use Rattle.fw_time.specs.Stamp.{in_domain}
use Rattle.fw_time.specs.declared.stamp.Bounds.{Bounds}
use Rattle.fw_frontier.specs.Frontier.{Frontier, Within, everything, meet}
use Rattle.fw_frontier.specs.Front.{Front, inside, frontier_of, IsFrontOf}

-- all of a domain is what no stamp is outside of
pub all_is_everything : (b : Bounds) → frontier_of b [] ≡ everything b
all_is_everything b i t = and-true (in_domain b t) i

pub within_everything : (b : Bounds) (f : Front) → Within (frontier_of b f) (everything b)
within_everything b f t k = (and_parts (in_domain b t) (inside f t) k).0

-- what a list that names a meet has inside
pub meet-left : (b : Bounds) (f : Front) (g h : Frontier) → IsFrontOf b f (meet g h) → Within (frontier_of b f) g
meet-left b f g h n t k = (and_parts (g t) (h t) (sym (n.same t) ∙ k)).0

pub meet-right : (b : Bounds) (f : Front) (g h : Frontier) → IsFrontOf b f (meet g h) → Within (frontier_of b f) h
meet-right b f g h n t k = (and_parts (g t) (h t) (sym (n.same t) ∙ k)).1

pub meet-largest : (b : Bounds) (f : Front) (g h x : Frontier) → IsFrontOf b f (meet g h) → Within x g → Within x h → Within x (frontier_of b f)
meet-largest b f g h x n v w t k = n.same t ∙ and_from (g t) (h t) (v t k) (w t k)

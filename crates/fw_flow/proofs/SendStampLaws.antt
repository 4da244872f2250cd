-- How long the stamps of a kind's domain are.
use Rattle.std.proofs.Common.{◌≡◌, ℕ, ◌+◌, ◌/◌, ◌<◌, ◌≤◌, true, List, [], ◌∷◌, length, Some, refl, sym, ap, ◌∙◌, slice_index, arith}
use Rattle.fw_time.specs.Stamp.{Stamp, in_domain}
use Rattle.fw_time.specs.Sending.{regrouped_stamp}
use Rattle.fw_time.proofs.StampLaws.{leq-length}
use Rattle.fw_flow.specs.Kind.{Kind}
use Rattle.fw_flow.specs.declared.kind.Kind.TheVariants.{Enter}
use Rattle.fw_flow.specs.Dataflow.{Dataflow, bounds_of_domain, domain_of_kind, parent_of}
use Rattle.fw_flow.proofs.Chains.{greatest-length, loops-few, parent-few}

pub record IsShort (t : Stamp) : Type 0 where
  pub some : 0 < length t
  pub few : length t ≤ 4

-- a stamp of a kind's domain has the epoch's coordinate, and one for each loop it is in
pub domain_length : (flow : Dataflow) (kind : Kind) (t : Stamp) → in_domain (bounds_of_domain flow (domain_of_kind flow kind)) t ≡ true → IsShort t
domain_length flow kind t e =
    let d = domain_of_kind flow kind in
    let l = leq-length t _ e in
    let g = greatest-length flow d in
    let f = loops-few flow d in
    record { some = omega arith; few = omega arith }

-- what a loop is entered from has room for one more
pub entered_length : (flow : Dataflow) (kind : Kind) (l : ℕ) (t : Stamp) → kind ≡ Enter l
    → in_domain (bounds_of_domain flow (domain_of_kind flow kind)) t ≡ true → length t < 4
entered_length flow kind l t k e =
    let a = leq-length t _ (sym (ap (λ x. in_domain (bounds_of_domain flow (domain_of_kind flow x)) t) k) ∙ e) in
    let g = greatest-length flow (parent_of flow l) in
    let f = parent-few flow l in
    omega arith

pub regrouped_first : (n : ℕ) (t : Stamp) → 0 < length t → regrouped_stamp n t ≡ Some ((slice_index t 0 / n) ∷ [])
regrouped_first n [] l = absurd (omega arith)
regrouped_first n (x ∷ t) l = refl

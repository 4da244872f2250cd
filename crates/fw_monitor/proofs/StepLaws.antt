-- What the calls of a lowering find.
use Rattle.std.proofs.Common.{◌≡◌, ◌↔◌, ℕ, ◌<◌, Bool, true, false, List, [], length, set, get_or, Some, sym, ap, subst, ◌∙◌}
use Rattle.std.proofs.lemmas.Bool.{both_ways}
use Rattle.std.proofs.lemmas.List.{get_or_read}
use Rattle.fw_time.specs.declared.stamp.Bounds.{Bounds}
use Rattle.fw_frontier.specs.Frontier.{Within, meet}
use Rattle.fw_frontier.specs.Front.{Front, frontier_of, IsCanonical, IsFrontOf}
use Rattle.fw_flow.specs.declared.choice.Cut.TheVariants.{At}
use Rattle.fw_model.specs.Machine.{front_of}
use Rattle.fw_monitor.specs.Descent.{IsNoticeLowered}

-- ---- a notification frontier

pub notice_cut : (notices : List Front) (p q : ℕ) (bound f v x y : Front) (r : Bool) → q ≡ p → p < length notices → v ≡ f → x ≡ get_or notices q x → y ≡ get_or notices q y → r ≡ false
    → ((b : Bounds) → IsCanonical b bound → (r ≡ true) ↔ Within (frontier_of b x) (frontier_of b bound))
    → ((b : Bounds) → IsCanonical b y → IsCanonical b bound → IsFrontOf b f (meet (frontier_of b y) (frontier_of b bound)))
    → IsNoticeLowered notices (set notices q f) p bound (Some (At v))
notice_cut notices p q bound f v x y r e l same i j k test cut =
    let xs : x ≡ front_of notices p = sym (sym (ap (λ z. get_or notices z []) e) ∙ sym (get_or_read notices q x (subst (λ z. z < length notices) (sym e) l) i [])) in
    let ys : y ≡ front_of notices p = sym (sym (ap (λ z. get_or notices z []) e) ∙ sym (get_or_read notices q y (subst (λ z. z < length notices) (sym e) l) j [])) in (
      f,
      ap At same,
      ap (λ z. set notices z f) e,
      λ b c d. (
        subst (λ z. IsFrontOf b f (meet (frontier_of b z) (frontier_of b bound))) ys (cut b (subst (IsCanonical b) (sym ys) c) d),
        λ w. both_ways r k ((test b d).1 (subst (λ z. Within (frontier_of b z) (frontier_of b bound)) (sym xs) w)),
      ),
    )

-- What a record holds of a side, against a bound.
use Rattle.std.proofs.Common.{◌≡◌, ◌↔◌, ℕ, Bool, true, false, ◌==◌, cond, List, [], ◌∷◌, Option, Some, None, refl, sym, ap, subst, ◌∙◌}
use Rattle.fw_time.specs.declared.stamp.Bounds.{Bounds}
use Rattle.fw_frontier.specs.Frontier.{Frontier, Within}
use Rattle.fw_frontier.specs.Front.{Front, frontier_of}
use Rattle.fw_flow.specs.declared.choice.OfEdge.{OfEdge}
use Rattle.fw_flow.specs.declared.choice.Recorded.{Recorded}
use Rattle.fw_flow.specs.declared.side.Side.{Side}
use Rattle.fw_flow.specs.declared.side.Side.TheVariants.{Delivered, Discarded, Notified}
use Rattle.fw_model.specs.Offers.{front_of_edge}
use Rattle.fw_offers.specs.Sides.{front_on_edge, recorded_front, front_or_nothing, recorded_left}

found-is : (b : Bounds) (e : ℕ) (xs : List OfEdge) → front_of_edge b e xs ≡ front_or_nothing b (front_on_edge e xs)
found-is b e [] = refl
found-is b e (x ∷ xs) = at (x.edge == e) (found-is b e xs)
  where
    at : (c : Bool) → front_of_edge b e xs ≡ front_or_nothing b (front_on_edge e xs)
        → cond c (frontier_of b x.front) (front_of_edge b e xs) ≡ front_or_nothing b (cond c (Some x.front) (front_on_edge e xs))
    at true r = refl
    at false r = r

recorded-is : (b : Bounds) (side : Side) (r : Recorded) → recorded_left b side (Some r) ≡ front_or_nothing b (recorded_front side r)
recorded-is b (Delivered d) r = found-is b d r.delivered
recorded-is b (Discarded e) r = found-is b e r.discarded
recorded-is b (Notified p) r = refl

recorded-none : (b : Bounds) (side : Side) (g : Frontier) → Within (recorded_left b side None) g
recorded-none b (Delivered d) g t k = absurd (cc)
recorded-none b (Discarded e) g t k = absurd (cc)
recorded-none b (Notified p) g t k = absurd (cc)

-- nor by one that does not list the side
pub not_recorded : (b : Bounds) (side : Side) (r : Option Recorded) (x : Recorded) (g : Frontier) → r ≡ Some x → recorded_front side x ≡ None → (true ≡ true) ↔ Within (recorded_left b side r) g
not_recorded b side r x g e n =
    (λ k. subst (λ y. Within (recorded_left b side y) g) (sym e) (subst (λ h. Within h g) (sym (recorded-is b side x ∙ ap (front_or_nothing b) n)) (λ t j. absurd (cc))), λ w. refl)

pub is_recorded : (b : Bounds) (side : Side) (r : Option Recorded) (x : Recorded) (f : Front) (g : Frontier) (c : Bool) → r ≡ Some x → recorded_front side x ≡ Some f
    → ((c ≡ true) ↔ Within (frontier_of b f) g) → (c ≡ true) ↔ Within (recorded_left b side r) g
is_recorded b side r x f g c e n h =
    let same : recorded_left b side r ≡ frontier_of b f = ap (recorded_left b side) e ∙ recorded-is b side x ∙ ap (front_or_nothing b) n in
    subst (λ l. (c ≡ true) ↔ Within l g) (sym same) h

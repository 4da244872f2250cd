-- How the bounds in planes are found one by one, whatever the order of the points.
use Rattle.std.proofs.Common.{◌≡◌, ℕ, ◌+◌, ◌<◌, ◌≤◌, not, ◌&&◌, nat_eq, cond, List, [], ◌∷◌, ◌++◌, length, get_or, drop, map, refl, sym, ap, ◌∙◌, zero, suc, arith, add-one, append_assoc}
use Rattle.std.proofs.lemmas.Cmp.{nat_list_eq_equiv}
use Rattle.std.proofs.lemmas.List.{append-nil, drop_all}
use Rattle.std.proofs.lemmas.List.Kept.{Contains-dedup, Contains-from_dedup}
use Rattle.std.proofs.lemmas.List.Sorted.{list_any-IsPermutation, Contains-permutation, IsPermutation-sym}
use Rattle.std.specs.Cmp.Lexicographic.{pointwise, same_text}
use Rattle.std.specs.List.{dedup}
use Rattle.std.specs.List.Sorted.{IsPermutation}
use Rattle.fw_time.specs.Stamp.{lub}
use Rattle.fw_frontier.specs.declared.planes.Plane.{Plane}
use Rattle.fw_frontier.specs.declared.planes.Point.{Point}
use Rattle.fw_frontier.specs.Planes.{point_of, is_before, both_reach, is_least, is_least_along, lubs_with, all_lubs, plane_lubs, planes_lubs, HaveSame}

both_reach-moved : (ms ns os qs : List Point) → IsPermutation ms ns → IsPermutation os qs → (x y z w : ℕ) → both_reach ns qs x y z w ≡ both_reach ms os x y z w
both_reach-moved ms ns os qs h k x y z w = λ i. sym (list_any-IsPermutation (is_before x y z w) ms ns h) i && sym (list_any-IsPermutation (is_before x y z w) os qs k) i

is_least_along-moved : (ms ns os qs : List Point) → IsPermutation ms ns → IsPermutation os qs → (z w : ℕ) (t : Point) → is_least_along ns qs z w t ≡ is_least_along ms os z w t
unfolding is_least_along is_least
is_least_along-moved ms ns os qs h k z w t = λ i. nat_eq t.z z && (nat_eq t.w w && (
    not (same t.x (t.y + 1) (t.z + 1) (t.w + 1) i)
    && (not (same (t.x + 1) t.y (t.z + 1) (t.w + 1) i)
    && (not (same (t.x + 1) (t.y + 1) t.z (t.w + 1) i)
    && not (same (t.x + 1) (t.y + 1) (t.z + 1) t.w i)))))
  where
    same : (x y z w : ℕ) → both_reach ns qs x y z w ≡ both_reach ms os x y z w
    same x y z w = both_reach-moved ms ns os qs h k x y z w

bounds_with-moved : (plane : Plane) (ms ns os qs : List Point) → IsPermutation ms ns → IsPermutation os qs → (s : List ℕ) (ps : List (List ℕ)) → lubs_with plane ns qs s ps ≡ lubs_with plane ms os s ps
bounds_with-moved plane ms ns os qs h k s [] = refl
bounds_with-moved plane ms ns os qs h k s (p ∷ ps) =
    λ i. cond (is_least_along-moved ms ns os qs h k (get_or s plane.z 0) (get_or s plane.w 0) (point_of plane (lub s p)) i)
    (lub s p ∷ bounds_with-moved plane ms ns os qs h k s ps i) (bounds_with-moved plane ms ns os qs h k s ps i)

all_bounds-moved : (plane : Plane) (ms ns os qs : List Point) → IsPermutation ms ns → IsPermutation os qs → (ss ps : List (List ℕ)) → all_lubs plane ns qs ss ps ≡ all_lubs plane ms os ss ps
all_bounds-moved plane ms ns os qs h k [] ps = refl
all_bounds-moved plane ms ns os qs h k (s ∷ ss) ps = λ i. bounds_with-moved plane ms ns os qs h k s ps i ++ all_bounds-moved plane ms ns os qs h k ss ps i

-- the bounds from both sides of a plane
pub plane_bounds-from : (plane : Plane) (ss ps old mid new : List (List ℕ)) (ns qs : List Point) → IsPermutation (map (point_of plane) ss) ns → IsPermutation (map (point_of plane) ps) qs
    → mid ≡ old ++ all_lubs plane ns qs ss ps → new ≡ mid ++ all_lubs plane ns qs ps ss → new ≡ old ++ plane_lubs plane ss ps
plane_bounds-from plane ss ps old mid new ns qs h k e f =
    let ms = map (point_of plane) ss in
    let os = map (point_of plane) ps in
    f
    ∙ (λ i. e i ++ all_bounds-moved plane ms ns os qs h k ps ss i)
    ∙ append_assoc old (all_lubs plane ns qs ss ps) (all_lubs plane ms os ps ss)
    ∙ (λ i. old ++ (all_bounds-moved plane ms ns os qs h k ss ps i ++ all_lubs plane ms os ps ss))

planes_bounds-at : (planes : List Plane) (i : ℕ) (d : Plane) (ss ps : List (List ℕ)) → i < length planes → planes_lubs (drop i planes) ss ps ≡ plane_lubs (get_or planes i d) ss ps ++ planes_lubs (drop (suc i) planes) ss ps
planes_bounds-at [] i d ss ps h = absurd (omega arith)
planes_bounds-at (plane ∷ planes) zero d ss ps h = refl
planes_bounds-at (plane ∷ planes) (suc i) d ss ps h = planes_bounds-at planes i d ss ps (omega arith)

-- one plane more
pub planes_bounds-more : (planes : List Plane) (i : ℕ) (d : Plane) (ss ps old new all : List (List ℕ)) → i < length planes → new ≡ old ++ plane_lubs (get_or planes i d) ss ps
    → old ++ planes_lubs (drop i planes) ss ps ≡ all → new ++ planes_lubs (drop (i + 1) planes) ss ps ≡ all
planes_bounds-more planes i d ss ps old new all h e f =
    rw add-one ((λ j. e j ++ planes_lubs (drop (suc i) planes) ss ps)
    ∙ append_assoc old (plane_lubs (get_or planes i d) ss ps) (planes_lubs (drop (suc i) planes) ss ps)
    ∙ sym (ap (λ us. old ++ us) (planes_bounds-at planes i d ss ps h))
    ∙ f)

-- all planes
pub planes_bounds-whole : (planes : List Plane) (i : ℕ) (ss ps old all : List (List ℕ)) → length planes ≤ i → old ++ planes_lubs (drop i planes) ss ps ≡ all → old ≡ all
planes_bounds-whole planes i ss ps old all h e =
    sym (append-nil old) ∙ sym (ap (λ us. old ++ planes_lubs us ss ps) (drop_all i planes h)) ∙ e

-- in order and without repeats the same are left
pub same-in_order : (all found sorted left : List (List ℕ)) → found ≡ all → IsPermutation found sorted → left ≡ dedup (pointwise nat_eq) sorted → HaveSame all left
same-in_order all found sorted left e moved is = record {
  none_lost = λ t h. rw is (Contains-dedup nat_list_eq_equiv (λ x y k. same_text x y (sym k)) sorted t (Contains-permutation found sorted t moved (rw e h)));
  none_new = λ t h. rw e at (Contains-permutation sorted found t (IsPermutation-sym found sorted moved) (Contains-from_dedup (pointwise nat_eq) sorted t (rw is at h)));
}

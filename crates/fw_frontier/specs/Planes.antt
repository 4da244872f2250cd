-- The planes through stamps of four coordinates, and the least upper bounds in them.
use Rattle.std.specs.Prelude.{◌≡◌, ℕ, ◌+◌, Bool, not, ◌&&◌, if◌then◌else◌, nat_lt, nat_eq, slice_index, List, [], ◌∷◌, ◌++◌, map}
use Rattle.std.specs.List.{list_any, Contains}
use Rattle.fw_time.specs.Stamp.{Stamp, lub}
use Rattle.fw_frontier.specs.Front.{Front}
use Rattle.fw_frontier.specs.declared.planes.Plane.{Plane}
use Rattle.fw_frontier.specs.declared.planes.Point.{Point}
use Rattle.fw_frontier.specs.declared.planes.Corner.{Corner}
use Rattle.fw_frontier.specs.declared.planes.Section.{Section}
use Rattle.fw_frontier.specs.declared.planes.Around.{Around}
use Rattle.fw_frontier.specs.declared.planes.TheConstants.{PAST}

-- a stamp's coordinates at the places of a plane
abbrev pub point_of : Plane → Stamp → Point
point_of plane s = record { x = slice_index s plane.x; y = slice_index s plane.y; z = slice_index s plane.z; w = slice_index s plane.w }

-- whether a point comes before the ends at each place
unfoldable pub is_before : ℕ → ℕ → ℕ → ℕ → Point → Bool
is_before x y z w p = nat_lt p.x x && (nat_lt p.y y && (nat_lt p.z z && nat_lt p.w w))

-- whether one of the points comes before the ends at each place
abbrev pub reaches : List Point → ℕ → ℕ → ℕ → ℕ → Bool
reaches ps x y z w = list_any (is_before x y z w) ps

-- the corners from which the outside goes up in a plane: of the points before the ends across it, those lower than each before them
abbrev pub corners_of : List Point → ℕ → ℕ → ℕ → List Corner
corners_of [] z w low = []
corners_of (p ∷ ps) z w low =
    if nat_lt p.z z && (nat_lt p.w w && nat_lt p.y low) then record { x = p.x; y = p.y } ∷ corners_of ps z w p.y else corners_of ps z w low

-- whether a point of each list comes before the ends at each place
abbrev pub both_reach : (ms os : List Point) → ℕ → ℕ → ℕ → ℕ → Bool
both_reach ms os x y z w = reaches ms x y z w && reaches os x y z w

-- whether a bound is least: none has one less at a place and is at most it elsewhere
unfoldable pub is_least : (ms os : List Point) → Point → Bool
is_least ms os t =
    not (both_reach ms os t.x (t.y + 1) (t.z + 1) (t.w + 1))
    && (not (both_reach ms os (t.x + 1) t.y (t.z + 1) (t.w + 1))
    && (not (both_reach ms os (t.x + 1) (t.y + 1) t.z (t.w + 1))
    && not (both_reach ms os (t.x + 1) (t.y + 1) (t.z + 1) t.w)))

-- whether it also has these coordinates across the plane
unfoldable pub is_least_along : (ms os : List Point) → (z w : ℕ) → Point → Bool
is_least_along ms os z w t = nat_eq t.z z && (nat_eq t.w w && is_least ms os t)

-- the least bounds of a stamp with those of a list that lie in the plane through it
abbrev pub lubs_with : Plane → (ms os : List Point) → Stamp → Front → List Stamp
lubs_with plane ms os s [] = []
lubs_with plane ms os s (p ∷ ps) =
    if is_least_along ms os (slice_index s plane.z) (slice_index s plane.w) (point_of plane (lub s p))
    then lub s p ∷ lubs_with plane ms os s ps
    else lubs_with plane ms os s ps

-- those of each stamp of the first list with those of the second
abbrev pub all_lubs : Plane → (ms os : List Point) → Front → Front → List Stamp
all_lubs plane ms os [] ps = []
all_lubs plane ms os (s ∷ ss) ps = lubs_with plane ms os s ps ++ all_lubs plane ms os ss ps

-- those of each stamp of either list with those of the other
abbrev pub plane_lubs : Plane → Front → Front → List Stamp
plane_lubs plane ss ps =
    let ms = map (point_of plane) ss in
    let os = map (point_of plane) ps in
    all_lubs plane ms os ss ps ++ all_lubs plane ms os ps ss

-- in each of the planes
abbrev pub planes_lubs : List Plane → Front → Front → List Stamp
planes_lubs [] ss ps = []
planes_lubs (plane ∷ planes) ss ps = plane_lubs plane ss ps ++ planes_lubs planes ss ps

-- the corners of both lists of points in a plane, before these ends across it
pub record IsSection (ms os : List Point) (z w : ℕ) (section : Section) : Type 0 where
  pub mine : section.mine.items ≡ corners_of ms z w PAST
  pub others : section.others.items ≡ corners_of os z w PAST

-- the plane with these coordinates across it, and with one less at one of the two
pub record IsAround (ms os : List Point) (z w : ℕ) (around : Around) : Type 0 where
  pub at_z : around.z ≡ z
  pub at_w : around.w ≡ w
  pub level : IsSection ms os (z + 1) (w + 1) around.level
  pub before_z : IsSection ms os z (w + 1) around.before_z
  pub before_w : IsSection ms os (z + 1) w around.before_w

-- the two lists have the same stamps
pub record HaveSame (ss ps : List Stamp) : Type 0 where
  pub none_lost : (t : Stamp) → Contains ss t → Contains ps t
  pub none_new : (t : Stamp) → Contains ps t → Contains ss t

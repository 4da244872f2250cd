-- What the rules of a root say of the writes that it names, and of its other ids.
use Rattle.std.proofs.Common.{◌≡◌, ℕ, suc, ◌-◌, ◌<◌, Bool, true, false, not, ◌&&◌, ◌||◌, ◌==◌, nat_lt, List, [], ◌∷◌, ◌++◌, map, length, Some, refl, sym, ap, subst, ◌∙◌, arith, zero, inl, inr}
use Rattle.std.specs.Prelude.{slice_get, Contains}
use Rattle.std.specs.List.{AllByRecursion}
use Rattle.std.specs.Option.{option_map_or}
use Rattle.std.proofs.lemmas.Bool.{and_parts, cases_Bool, eq-eqb, eqb-true, ltb-true, not-true, or_left, or_right}
use Rattle.fw_lemmas.proofs.Bools.{two_ways}
use Rattle.fw_lemmas.proofs.Each.{each-weaker}
use Rattle.fw_bytes.specs.Sound.{after_last, each_may_follow}
use Rattle.fw_flow.specs.Dataflow.{Dataflow}
use Rattle.fw_keep.specs.Catalogue.{AreAscending, AreDistinct, is_id_among}
use Rattle.fw_keep.proofs.IdLaws.{ascending-distinct}
use Rattle.fw_root.specs.declared.root.NamedWrite.{NamedWrite}
use Rattle.fw_root.specs.declared.root.Root.{Root}
use Rattle.fw_root.specs.Sound.{has_id, is_write_tag, may_follow_writes, may_follow_others}
use Rattle.fw_resume.specs.Catalogue.{AreNamesFor}

-- the ids of named writes
abbrev pub ids_named : List NamedWrite → List ℕ
ids_named names = map (λ (w : NamedWrite). w.id) names

-- ---- what is last

last-got : {A : Type 0} (xs : List A) (x : A) → slice_get (xs ++ x ∷ []) (length xs) ≡ Some x
last-got [] x = refl
last-got (y ∷ xs) x = last-got xs x

one-longer : {A : Type 0} (xs : List A) (x : A) → length (xs ++ x ∷ []) ≡ suc (length xs)
one-longer [] x = refl
one-longer (y ∷ xs) x = ap suc (one-longer xs x)

one-less : (m n : ℕ) → m ≡ suc n → m - 1 ≡ n
one-less m n e = omega arith

after-is : {A B : Type 0} (test : A → B → Bool) (xs : List A) (x : A) (y : B) → after_last test (xs ++ x ∷ []) y ≡ test x y
after-is test xs x y =
    ap (λ n. option_map_or (λ last. test last y) (slice_get (xs ++ x ∷ []) n) true) (one-less (length (xs ++ x ∷ [])) (length xs) (one-longer xs x))
    ∙ ap (λ o. option_map_or (λ last. test last y) o true) (last-got xs x)

-- ---- writes

-- What the rule says of one write after others.
record IsNext (flow : Dataflow) (next : ℕ) (before : List NamedWrite) (w : NamedWrite) : Type 0 where
  drawn : w.id < next
  node : w.node < length flow.nodes
  after : after_last (λ (last : NamedWrite) (now : NamedWrite). nat_lt last.id now.id) before w ≡ true

next-is : (flow : Dataflow) (next : ℕ) (before : List NamedWrite) (w : NamedWrite) → may_follow_writes flow next before w ≡ true → IsNext flow next before w
next-is flow next before w k =
    let after = after_last (λ (last : NamedWrite) (now : NamedWrite). nat_lt last.id now.id) before w in
    let one = and_parts (nat_lt w.id next) (nat_lt w.node (length flow.nodes) && (is_write_tag w.tag && after)) k in
    let two = and_parts (nat_lt w.node (length flow.nodes)) (is_write_tag w.tag && after) one.1 in
    let three = and_parts (is_write_tag w.tag) after two.1 in
    record { drawn = ltb-true w.id next one.0; node = ltb-true w.node (length flow.nodes) two.0; after = three.1 }

above-last : (flow : Dataflow) (next : ℕ) (before : List NamedWrite) (w : NamedWrite) (ws : List NamedWrite)
    → each_may_follow (may_follow_writes flow next) (before ++ w ∷ []) ws ≡ true → AllByRecursion (λ id. w.id < id) (ids_named ws)
above-last flow next before w [] k = tt
above-last flow next before w (x ∷ ws) k =
    let parts = and_parts (may_follow_writes flow next (before ++ w ∷ []) x) (each_may_follow (may_follow_writes flow next) ((before ++ w ∷ []) ++ x ∷ []) ws) k in
    let one = next-is flow next (before ++ w ∷ []) x parts.0 in
    let less : w.id < x.id = ltb-true w.id x.id (sym (after-is (λ (last : NamedWrite) (now : NamedWrite). nat_lt last.id now.id) before w x) ∙ one.after) in
    (less, each-weaker (λ id. x.id < id) (λ id. w.id < id) (ids_named ws) (λ id l. omega (arith, less, l)) (above-last flow next (before ++ w ∷ []) x ws parts.1))

-- What the rule says of all of them.
record AreNext (flow : Dataflow) (next : ℕ) (ws : List NamedWrite) : Type 0 where
  ascending : AreAscending (ids_named ws)
  drawn : AllByRecursion (λ (w : NamedWrite). w.id < next) ws
  nodes : AllByRecursion (λ (w : NamedWrite). w.node < length flow.nodes) ws

all-next : (flow : Dataflow) (next : ℕ) (before ws : List NamedWrite) → each_may_follow (may_follow_writes flow next) before ws ≡ true → AreNext flow next ws
all-next flow next before [] k = record { ascending = tt; drawn = tt; nodes = tt }
all-next flow next before (w ∷ ws) k =
    let parts = and_parts (may_follow_writes flow next before w) (each_may_follow (may_follow_writes flow next) (before ++ w ∷ []) ws) k in
    let one = next-is flow next before w parts.0 in
    let rest = all-next flow next (before ++ w ∷ []) ws parts.1 in
    record {
      ascending = (above-last flow next before w ws parts.1, rest.ascending);
      drawn = (one.drawn, rest.drawn);
      nodes = (one.node, rest.nodes);
    }

-- ---- other ids

record IsOther (next : ℕ) (ws : List NamedWrite) (before : List ℕ) (id : ℕ) : Type 0 where
  drawn : id < next
  apart : has_id id ws ≡ false
  after : after_last nat_lt before id ≡ true

other-is : (next : ℕ) (ws : List NamedWrite) (before : List ℕ) (id : ℕ) → may_follow_others next ws before id ≡ true → IsOther next ws before id
other-is next ws before id k =
    let after = after_last nat_lt before id in
    let one = and_parts (nat_lt id next) (not (has_id id ws) && after) k in
    let two = and_parts (not (has_id id ws)) after one.1 in
    record { drawn = ltb-true id next one.0; apart = not-true (has_id id ws) two.0; after = two.1 }

other-above : (next : ℕ) (ws : List NamedWrite) (before : List ℕ) (id : ℕ) (ids : List ℕ)
    → each_may_follow (may_follow_others next ws) (before ++ id ∷ []) ids ≡ true → AllByRecursion (λ later. id < later) ids
other-above next ws before id [] k = tt
other-above next ws before id (x ∷ ids) k =
    let parts = and_parts (may_follow_others next ws (before ++ id ∷ []) x) (each_may_follow (may_follow_others next ws) ((before ++ id ∷ []) ++ x ∷ []) ids) k in
    let one = other-is next ws (before ++ id ∷ []) x parts.0 in
    let less : id < x = ltb-true id x (sym (after-is nat_lt before id x) ∙ one.after) in
    (less, each-weaker (λ later. x < later) (λ later. id < later) ids (λ later l. omega (arith, less, l)) (other-above next ws (before ++ id ∷ []) x ids parts.1))

record AreOtherIds (next : ℕ) (ws : List NamedWrite) (ids : List ℕ) : Type 0 where
  ascending : AreAscending ids
  drawn : AllByRecursion (λ id. id < next) ids
  apart : AllByRecursion (λ id. has_id id ws ≡ false) ids

all-other : (next : ℕ) (ws : List NamedWrite) (before ids : List ℕ) → each_may_follow (may_follow_others next ws) before ids ≡ true → AreOtherIds next ws ids
all-other next ws before [] k = record { ascending = tt; drawn = tt; apart = tt }
all-other next ws before (id ∷ ids) k =
    let parts = and_parts (may_follow_others next ws before id) (each_may_follow (may_follow_others next ws) (before ++ id ∷ []) ids) k in
    let one = other-is next ws before id parts.0 in
    let rest = all-other next ws (before ++ id ∷ []) ids parts.1 in
    record {
      ascending = (other-above next ws before id ids parts.1, rest.ascending);
      drawn = (one.drawn, rest.drawn);
      apart = (one.apart, rest.apart);
    }

-- ---- of a root

pub names-ascend : (flow : Dataflow) (root : Root) → AreNamesFor flow root → AreAscending (ids_named root.writes)
names-ascend flow root n = (all-next flow root.next_id [] root.writes n.writes.follow).ascending

pub names-drawn : (flow : Dataflow) (root : Root) → AreNamesFor flow root → AllByRecursion (λ (w : NamedWrite). w.id < root.next_id) root.writes
names-drawn flow root n = (all-next flow root.next_id [] root.writes n.writes.follow).drawn

pub names-nodes : (flow : Dataflow) (root : Root) → AreNamesFor flow root → AllByRecursion (λ (w : NamedWrite). w.node < length flow.nodes) root.writes
names-nodes flow root n = (all-next flow root.next_id [] root.writes n.writes.follow).nodes

pub others-distinct : (flow : Dataflow) (root : Root) → AreNamesFor flow root → AreDistinct root.others
others-distinct flow root n = ascending-distinct root.others (all-other root.next_id root.writes [] root.others n.others.follow).ascending

pub others-drawn : (flow : Dataflow) (root : Root) → AreNamesFor flow root → AllByRecursion (λ id. id < root.next_id) root.others
others-drawn flow root n = (all-other root.next_id root.writes [] root.others n.others.follow).drawn

id-there : (ws : List NamedWrite) (w : NamedWrite) → Contains ws w → has_id w.id ws ≡ true
id-there [] w c = let l = c.1 in absurd (omega (arith, l))
id-there (x ∷ ws) w (zero, l, is) = or_left (x.id == w.id) (has_id w.id ws) (eq-eqb x.id w.id (ap (λ (y : NamedWrite). y.id) is))
id-there (x ∷ ws) w (suc i, l, is) = or_right (x.id == w.id) (has_id w.id ws) (id-there ws w (i, omega (arith, l), is))

-- the id of a named write does not wait
pub name-apart : (flow : Dataflow) (root : Root) → AreNamesFor flow root → (w : NamedWrite) → Contains root.writes w → is_id_among w.id root.others ≡ false
name-apart flow root n w there = along root.others (all-other root.next_id root.writes [] root.others n.others.follow).apart
  where
    along : (ids : List ℕ) → AllByRecursion (λ id. has_id id root.writes ≡ false) ids → is_id_among w.id ids ≡ false
    along [] a = refl
    along (id ∷ ids) a = elim (cases_Bool (id == w.id)) [
      | inl same ↦ absurd (two_ways (has_id id root.writes) (subst (λ m. has_id m root.writes ≡ true) (sym (eqb-true id w.id same)) (id-there root.writes w there)) a.0)
      | inr other ↦ ap (λ b. b || is_id_among w.id ids) other ∙ along ids a.1
    ]

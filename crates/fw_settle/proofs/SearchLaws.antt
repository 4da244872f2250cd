-- The search for the next node that is to settle.
use Rattle.std.proofs.Common.{◌≡◌, ℕ, ◌+◌, ◌-◌, ◌<◌, ◌≤◌, ◌^◌, true, false, not, ◌&&◌, List, length, get_or, sym, ap, subst, ◌∙◌, inl, inr, arith}
use Rattle.std.specs.Prelude.{Option, Some, None}
use Rattle.std.specs.List.{Contains}
use Rattle.std.proofs.lemmas.Bool.{and_parts, both_ways, cases_Bool, cases_lt}
use Rattle.fw_flow.specs.Dataflow.{policy_of}
use Rattle.fw_model.specs.Machine.{front_of}
use Rattle.fw_model.specs.Steps.{is_eager}
use Rattle.fw_keep.specs.Stored.{Records}
use Rattle.fw_progress.specs.Settle.{has_more}
use Rattle.fw_running.specs.declared.running.Running.{Running}
use Rattle.fw_running.specs.Drawn.{DrawsAtMost}
use Rattle.fw_running.specs.Kept.{is_down}
use Rattle.fw_running.specs.Logging.{with_keep, ChangesKeep}
use Rattle.fw_running.specs.Places.{IsFirstPlaceFrom, place_limit}
use Rattle.fw_running.specs.Shaped.{IsShaped}
use Rattle.fw_settle.specs.Settling.{grows, HasEagerToSettle, NoneGrowsIn, IsNextToSettle, IsFoundToSettle, IsNextLive, IsFoundLive, AsksIfEager, HaveAsked, ChangesSettled, SettlesKept, HaveSettled}
use Rattle.fw_running.proofs.DrawnLaws.{draws_more, draws_on}
use Rattle.fw_settle.proofs.AskLaws.{asked-none, asked-past, asked-next}
use Rattle.fw_settle.proofs.SettleLaws.{none-joined, none-more, past-grows, settled-none, settled-past, settled-next}

-- ---- among the places

-- a node that is to settle is there, and among the growing ones
pub grows-there : (running : Running) → IsShaped running → (p : ℕ) → grows running p ≡ true → p < length running.flow.nodes
grows-there running shaped p is = elim (cases_lt p (length running.flow.nodes)) [
  | inl l ↦ l
  | inr past ↦ absurd (both_ways (grows running p) (past-grows running shaped p past) is)
]

among : (running : Running) → IsShaped running → (p : ℕ) → grows running p ≡ true → Contains running.ready.growing p
among running shaped p is =
    shaped.ready.growing p (record {
      there = grows-there running shaped p is;
      more = (and_parts (not (get_or running.failed.items p false)) (has_more (front_of running.progress.kept p) (front_of running.progress.settled p)) is).1;
    })

-- how far the search is: up to a place none is to settle, and this is the first from there on that is among the growing ones
pub record IsSearched (running : Running) (place : ℕ) (next : Option ℕ) : Type 0 where
  pub from : ℕ
  pub past : place ≤ from
  pub none : NoneGrowsIn running place from
  pub found : IsFirstPlaceFrom from running.ready.growing next

pub searched-first : (running : Running) (place : ℕ) (next : Option ℕ) → IsFirstPlaceFrom place running.ready.growing next → IsSearched running place next
searched-first running place next f = record { from = place; past = omega arith; none = λ p l m. absurd (omega (arith, l, m)); found = f }

-- none before the first that is among them is to settle
pub searched-until : (running : Running) → IsShaped running → (place p : ℕ) → (s : IsSearched running place (Some p)) → NoneGrowsIn running place p
searched-until running shaped place p s = none-joined running place s.from p s.none (λ q l m. elim (cases_Bool (grows running q)) [
  | inr isnt ↦ isnt
  | inl is ↦ let least = s.found.0.least q (among running shaped q is) l in absurd (omega (arith, least, m))
])

-- the search is at the first from the place on
pub searched-from : (running : Running) (place p : ℕ) → (s : IsSearched running place (Some p)) → place ≤ p
searched-from running place p s = let past = s.past in let from = s.found.0.from in omega (arith, past, from)

pub searched-next : (running : Running) → IsShaped running → (place p : ℕ) (next : Option ℕ) → IsSearched running place (Some p) → grows running p ≡ false
    → IsFirstPlaceFrom (p + 1) running.ready.growing next → IsSearched running place next
searched-next running shaped place p next s isnt f = record {
  from = p + 1;
  past = (let l = searched-from running place p s in omega (arith, l));
  none = none-more running place p (searched-until running shaped place p s) isnt;
  found = f;
}

-- where none is left, none is to settle
pub searched-all : (running : Running) → IsShaped running → (place : ℕ) → (s : IsSearched running place None) → NoneGrowsIn running place (length running.flow.nodes)
searched-all running shaped place s =
    let few = shaped.well_formed.limits.nodes in
    none-joined running place s.from (length running.flow.nodes) s.none (λ q l m. elim (cases_Bool (grows running q)) [
      | inr isnt ↦ isnt
      | inl is ↦ absurd (s.found q (among running shaped q is) l (below-limit q (length running.flow.nodes) m few))
    ])
  where
    below-limit : (q n : ℕ) → q < n → n ≤ 256 → q < place_limit
    below-limit q n l few = omega (arith, l, few)

pub searched-some : (running : Running) → IsShaped running → (place p : ℕ) → IsSearched running place (Some p) → grows running p ≡ true → IsNextToSettle running place p
searched-some running shaped place p s is = record {
  from = searched-from running place p s;
  there = grows-there running shaped p is;
  is = is;
  others = searched-until running shaped place p s;
}

pub searched-live : (running : Running) → IsShaped running → (place p : ℕ) → IsSearched running place (Some p) → p < length running.flow.nodes
    → is_down running p ≡ false → IsNextLive running place p
searched-live running shaped place p s there live = record {
  from = searched-from running place p s;
  there = there;
  live = live;
  others = searched-until running shaped place p s;
}

-- how far it is to the end
abbrev pub left : Option ℕ → ℕ
left None = 0
left (Some p) = 2 ^ 32 - p

pub left-less : (p : ℕ) (places : List ℕ) (next : Option ℕ) → p < place_limit → IsFirstPlaceFrom (p + 1) places next → left next < left (Some p)
left-less p places None l f = omega (arith, l)
left-less p places (Some q) l f = let from = f.0.from in omega (arith, l, from)

-- a node that is failed, or not there, is not to settle
pub down-none : (running : Running) → (p : ℕ) → is_down running p ≡ true → grows running p ≡ false
down-none running p e = ap (λ b. not b && has_more (front_of running.progress.kept p) (front_of running.progress.settled p)) e

-- ---- changes after changes

pub keep-both : (old mid new : Running) → ChangesKeep old mid → ChangesKeep mid new → ChangesKeep old new
keep-both old mid new a b = b ∙ ap (with_keep new.parts.keep) a

-- ---- node after node: what is asked

-- the eager ones of the first so many nodes asked, and this is the next that is to settle
pub record HaveAskedUpTo (old now : Running) (before after : Option Records) (next : Option ℕ) : Type 0 where
  pub place : ℕ
  pub there : place ≤ length old.flow.nodes
  pub asked : HaveAsked place old now before after
  pub found : IsFoundToSettle now place next

same-none : (old now : Running) → ChangesKeep old now → (from until : ℕ) → NoneGrowsIn now from until → NoneGrowsIn old from until
same-none old now c from until n = subst (λ (r : Running). NoneGrowsIn r from until) c n

pub asking-first : (old : Running) (before : Option Records) (next : Option ℕ) → IsFoundToSettle old 0 next → HaveAskedUpTo old old before before next
asking-first old before next f = record { place = 0; there = omega arith; asked = asked-none old before; found = f }

pub asking-next : (old mid new : Running) (before between after : Option Records) (p : ℕ) (next : Option ℕ) → ChangesKeep old mid
    → HaveAskedUpTo old mid before between (Some p) → AsksIfEager p mid new between after → IsFoundToSettle new (p + 1) next → HaveAskedUpTo old new before after next
asking-next old mid new before between after p next c h a f =
    let at = h.found in
    let there : p < length old.flow.nodes = subst (λ (r : Running). p < length r.flow.nodes) c at.there in
    record {
      place = p + 1;
      there = omega (arith, there);
      asked = asked-next p old mid new before between after
          (asked-past old mid before between h.place p h.asked at.from (omega (arith, there)) (same-none old mid c h.place p at.others))
          c there (subst (λ (r : Running). grows r p ≡ true) c at.is) a;
      found = f;
    }

pub asking-all : (old new : Running) (before after : Option Records) → ChangesKeep old new → HaveAskedUpTo old new before after None
    → HaveAsked (length old.flow.nodes) old new before after
asking-all old new before after c h =
    asked-past old new before after h.place (length old.flow.nodes) h.asked h.there (omega arith)
    (subst (λ (r : Running). NoneGrowsIn r h.place (length r.flow.nodes)) c h.found)

-- ---- node after node: how many ids are drawn

-- at most so many, of so many nodes in all, where this is the next that is to settle
abbrev pub drawn_up_to : ℕ → Option ℕ → ℕ
drawn_up_to count None = count
drawn_up_to count (Some p) = p

next-there : (old mid : Running) (before between : Option Records) (p : ℕ) → ChangesKeep old mid → HaveAskedUpTo old mid before between (Some p)
    → p < length old.flow.nodes
next-there old mid before between p c h = let at = h.found in subst (λ (r : Running). p < length r.flow.nodes) c at.there

pub drawing-next : (old mid new : Running) (before between after : Option Records) (p : ℕ) (next : Option ℕ) → ChangesKeep old mid
    → HaveAskedUpTo old mid before between (Some p) → IsFoundToSettle new (p + 1) next → DrawsAtMost p old.parts.keep mid.parts.keep before between
    → DrawsAtMost 1 mid.parts.keep new.parts.keep between after
    → DrawsAtMost (drawn_up_to (length old.flow.nodes) next) old.parts.keep new.parts.keep before after
drawing-next old mid new before between after p None c h f a b =
    let there = next-there old mid before between p c h in
    let both = draws_on a b in
    draws_more both (omega (arith, there))
drawing-next old mid new before between after p (Some q) c h f a b =
    let from = f.from in
    let both = draws_on a b in
    draws_more both (omega (arith, from))

-- the last of them is refused
pub drawing-last : (old mid new : Running) (before between after : Option Records) (p : ℕ) → ChangesKeep old mid → HaveAskedUpTo old mid before between (Some p)
    → DrawsAtMost p old.parts.keep mid.parts.keep before between → DrawsAtMost 1 mid.parts.keep new.parts.keep between after
    → DrawsAtMost (length old.flow.nodes) old.parts.keep new.parts.keep before after
drawing-last old mid new before between after p c h a b =
    let there = next-there old mid before between p c h in
    let both = draws_on a b in
    draws_more both (omega (arith, there))

-- ---- node after node: what is settled

-- the first so many nodes settled, and this is the next that may be to settle
pub record HaveSettledUpTo (old now : Running) (next : Option ℕ) : Type 0 where
  pub place : ℕ
  pub there : place ≤ length old.flow.nodes
  pub settled : HaveSettled place old now
  pub found : IsFoundLive now place next

-- of a node that did not settle yet as much is kept and settled as was
unsettled-none : (old now : Running) (place until : ℕ) → ChangesSettled old now → HaveSettled place old now → NoneGrowsIn now place until → NoneGrowsIn old place until
unsettled-none old now place until c h none = λ p l m.
    let same : front_of now.progress.settled p ≡ front_of old.progress.settled p = h.settled.others p (λ k. absurd (omega (arith, k, l))) in
    let kept : now.progress.kept ≡ old.progress.kept = ap (λ (r : Running). r.progress.kept) c in
    let failed : now.failed.items ≡ old.failed.items = ap (λ (r : Running). r.failed.items) c in
    ap (λ f. not (get_or old.failed.items p false) && has_more (front_of old.progress.kept p) f) (sym same)
    ∙ ap (λ fs. not (get_or old.failed.items p false) && has_more (front_of fs p) (front_of now.progress.settled p)) (sym kept)
    ∙ ap (λ fs. not (get_or fs p false) && has_more (front_of now.progress.kept p) (front_of now.progress.settled p)) (sym failed)
    ∙ none p l m

pub settling-first : (old : Running) (next : Option ℕ) → IsFoundLive old 0 next → HaveSettledUpTo old old next
settling-first old next f = record { place = 0; there = omega arith; settled = settled-none old; found = f }

pub settling-next : (old mid new : Running) (p : ℕ) (next : Option ℕ) → IsShaped old → ChangesSettled old mid → HaveSettledUpTo old mid (Some p)
    → SettlesKept p mid new → IsFoundLive new (p + 1) next → HaveSettledUpTo old new next
settling-next old mid new p next shaped c h s f =
    let at = h.found in
    let each = shaped.progress.settled_each in
    let there : p < length old.flow.nodes = subst (λ flow. p < length flow.nodes) (ap (λ (r : Running). r.flow) c) at.there in
    record {
      place = p + 1;
      there = omega (arith, there);
      settled = settled-next old mid new p
          (settled-past old mid h.place p h.settled at.from (unsettled-none old mid h.place p c h.settled at.others)) c (omega (arith, there, each))
          (ap (λ fs. get_or fs p false) (sym (ap (λ (r : Running). r.failed.items) c)) ∙ at.live) s;
      found = f;
    }

pub settling-all : (old new : Running) → ChangesSettled old new → HaveSettledUpTo old new None → HaveSettled (length old.flow.nodes) old new
settling-all old new c h =
    settled-past old new h.place (length old.flow.nodes) h.settled h.there
    (unsettled-none old new h.place (length old.flow.nodes) c h.settled (subst (λ flow. NoneGrowsIn new h.place (length flow.nodes)) (ap (λ (r : Running). r.flow) c) h.found))

-- ---- eager nodes

-- where the catalogue alone was changed, an eager node that is the next to settle was to settle before
pub has_eager : (old mid : Running) (before between : Option Records) (p : ℕ) → ChangesKeep old mid → HaveAskedUpTo old mid before between (Some p)
    → is_eager (policy_of mid.flow p) ≡ true → HasEagerToSettle old
has_eager old mid before between p c h is =
    let at = h.found in
    (p, ap (λ (r : Running). is_eager (policy_of r.flow p)) (sym c) ∙ is, subst (λ (r : Running). grows r p ≡ true) c at.is)

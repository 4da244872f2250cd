-- Values within which each consistent choice lies: those that lowerings start from, and those that they lead to.
use Rattle.std.proofs.Common.{◌≡◌, ℕ, ◌<◌, List, [], ◌∷◌, length, sym, subst, ◌∙◌, arith}
use Rattle.std.specs.List.{AllByRecursion}
use Rattle.std.proofs.lemmas.List.{length-set}
use Rattle.fw_lemmas.proofs.Each.{each-prefix, each-suffix}
use Rattle.fw_frontier.specs.Frontier.{Within}
use Rattle.fw_frontier.specs.Front.{frontier_of, IsCanonical}
use Rattle.fw_flow.specs.declared.choice.Choice.{Choice}
use Rattle.fw_flow.specs.declared.choice.Cut.{Cut}
use Rattle.fw_flow.specs.declared.choice.Cut.TheVariants.{Present, At}
use Rattle.fw_flow.specs.declared.side.Inclusion.{Inclusion}
use Rattle.fw_flow.specs.declared.side.Inclusion.TheVariants.{OfCut, OfNote}
use Rattle.fw_flow.specs.declared.trail.Lowering.{Lowering}
use Rattle.fw_flow.specs.Dataflow.{Dataflow, bounds_of}
use Rattle.fw_flow.specs.WellFormed.{IsWellFormed}
use Rattle.fw_model.specs.Machine.{front_of}
use Rattle.fw_model.specs.Covers.{Covers}
use Rattle.fw_model.specs.Choice.{cut_of, notice_of, IsConsistentBy, IsCutWithin, IsChoiceWithin}
use Rattle.fw_model.specs.Inclusions.{owner, note_node, IsInclusionOf}
use Rattle.fw_model.specs.Lowerings.{with_value, IsValueLeft, IsGreatestLeft, IsRightLowering, LeadRight, IsFirstFailing, IsLoweredBy, Leads}
use Rattle.fw_model.specs.Certificates.{IsBeginning}
use Rattle.fw_model.proofs.InclusionLaws.{ArrivalsAreMonotone, inclusions-there, set-monotone, right-monotone, consistent-holds, owner-there, node-there, set_there, value_of}

-- ---- values that enclose each consistent choice

-- values of which each cut is offered, and within which each consistent choice lies
pub record Encloses (flow : Dataflow) (covers : Covers) (offers : ℕ → Cut → Type 0) (choice : Choice) : Type 0 where
  pub one_cut_each : length choice.cuts ≡ length flow.nodes
  pub one_notice_each : length choice.notices ≡ length flow.nodes
  pub offered : (p : ℕ) → p < length flow.nodes → offers p (cut_of choice p)
  pub notices : (p : ℕ) → p < length flow.nodes → IsCanonical (bounds_of flow p) (front_of choice.notices p)
  pub within : (other : Choice) → IsConsistentBy flow covers offers other → IsChoiceWithin flow other choice

pub beginning-encloses : (flow : Dataflow) (covers : Covers) (offers : ℕ → Cut → Type 0) (choice : Choice) → IsBeginning flow offers choice → Encloses flow covers offers choice
beginning-encloses flow covers offers choice b = record {
  one_cut_each = b.one_cut_each;
  one_notice_each = b.one_notice_each;
  offered = λ p l. (b.cuts p l).offered;
  notices = λ p l. (b.notices p l).canonical;
  within = λ other k. record {
    cuts = λ p l. (b.cuts p l).greatest (cut_of other p) (k.offered p l);
    notices = λ p l t i. (b.notices p l).same t
        ∙ set-monotone flow p (cut_of other p) (cut_of choice p) ((b.cuts p l).greatest (cut_of other p) (k.offered p l)) t (k.own p l t i);
  };
}

-- that of a consistent choice is left
pub left-consistent : (flow : Dataflow) (covers : Covers) (offers : ℕ → Cut → Type 0) (i : Inclusion) (choice other : Choice) → IsWellFormed flow → ArrivalsAreMonotone covers → IsInclusionOf flow i
    → Encloses flow covers offers choice → IsConsistentBy flow covers offers other → IsValueLeft flow covers offers choice i (value_of flow other i)
left-consistent flow covers offers (OfCut side) choice other well m there r k =
    let l = owner-there flow side well there in
    let inner = r.within other k in
    record {
      offered = k.offered (owner flow side) l;
      within = inner.cuts (owner flow side) l;
      meets = λ t j. right-monotone flow covers (OfCut side) other choice well m there inner t (consistent-holds flow covers offers other k (OfCut side) there t j);
    }
left-consistent flow covers offers (OfNote limit) choice other well m there r k =
    let l = node-there flow (OfNote limit) well there in
    let inner = r.within other k in
    record {
      canonical = k.canonical (note_node flow limit) l;
      within = inner.notices (note_node flow limit) l;
      meets = λ t j. right-monotone flow covers (OfNote limit) other choice well m there inner t (consistent-holds flow covers offers other k (OfNote limit) there t j);
    }

-- values with the greatest one that is left enclose each consistent choice
pub greatest-encloses : (flow : Dataflow) (covers : Covers) (offers : ℕ → Cut → Type 0) (i : Inclusion) (choice : Choice) (x : Cut) → IsWellFormed flow → ArrivalsAreMonotone covers → IsInclusionOf flow i
    → Encloses flow covers offers choice → IsGreatestLeft flow covers offers choice i x → Encloses flow covers offers (with_value flow choice i x)
greatest-encloses flow covers offers (OfCut side) choice x well m there r low =
    let p = owner flow side in
    let one = r.one_cut_each in
    let l = owner-there flow side well there in
    let here : p < length choice.cuts = omega arith in
    record {
      one_cut_each = length-set choice.cuts p x ∙ r.one_cut_each;
      one_notice_each = r.one_notice_each;
      offered = set_there offers choice.cuts (length flow.nodes) p x Present here r.offered low.left.offered;
      notices = r.notices;
      within = λ other k. record {
        cuts = set_there (λ q d. IsCutWithin flow q (cut_of other q) d) choice.cuts (length flow.nodes) p x Present here (λ q n. (r.within other k).cuts q n)
            (low.greatest (cut_of other p) (left-consistent flow covers offers (OfCut side) choice other well m there r k));
        notices = λ q n. (r.within other k).notices q n;
      };
    }
greatest-encloses flow covers offers (OfNote limit) choice Present well m there r low = absurd low.left
greatest-encloses flow covers offers (OfNote limit) choice (At f) well m there r low =
    let p = note_node flow limit in
    let one = r.one_notice_each in
    let l = node-there flow (OfNote limit) well there in
    let here : p < length choice.notices = omega arith in
    record {
      one_cut_each = r.one_cut_each;
      one_notice_each = length-set choice.notices p f ∙ r.one_notice_each;
      offered = r.offered;
      notices = set_there (λ q g. IsCanonical (bounds_of flow q) g) choice.notices (length flow.nodes) p f [] here r.notices low.left.canonical;
      within = λ other k. record {
        cuts = λ q n. (r.within other k).cuts q n;
        notices = set_there (λ q g. Within (notice_of flow other q) (frontier_of (bounds_of flow q) g)) choice.notices (length flow.nodes) p f [] here (λ q n. (r.within other k).notices q n)
            (low.greatest (At (front_of other.notices p)) (left-consistent flow covers offers (OfNote limit) choice other well m there r k));
      };
    }

-- and so do values with a right lowering
pub right-encloses : (flow : Dataflow) (covers : Covers) (offers : ℕ → Cut → Type 0) (choice : Choice) (l : Lowering) (next : Choice) → IsWellFormed flow → ArrivalsAreMonotone covers
    → Encloses flow covers offers choice → IsRightLowering flow covers offers choice l next → Encloses flow covers offers next
right-encloses flow covers offers choice l next well m r low =
    subst (Encloses flow covers offers) (sym low.with_it) (greatest-encloses flow covers offers low.inclusion choice l.to well m low.of_flow r low.greatest)

-- right lowerings lead to values that enclose each consistent choice
pub leads-encloses : (flow : Dataflow) (covers : Covers) (offers : ℕ → Cut → Type 0) (choice : Choice) (ls : List Lowering) (end : Choice) → IsWellFormed flow → ArrivalsAreMonotone covers
    → Encloses flow covers offers choice → LeadRight flow covers offers choice ls end → Encloses flow covers offers end
leads-encloses flow covers offers choice [] end well m r same = subst (Encloses flow covers offers) same r
leads-encloses flow covers offers choice (l ∷ ls) end well m r (next, low, rest) =
    leads-encloses flow covers offers next ls end well m (right-encloses flow covers offers choice l next well m r low) rest

-- ---- the lowerings of a trail

-- the first inclusion that fails, and those before it, are of the dataflow
pub first-there : (flow : Dataflow) (covers : Covers) (choice : Choice) (i : Inclusion) → IsFirstFailing flow covers choice i → IsInclusionOf flow i
first-there flow covers choice i f =
    (each-suffix (IsInclusionOf flow) f.earlier (i ∷ f.later) (subst (AllByRecursion (IsInclusionOf flow)) f.place (inclusions-there flow))).0

pub earlier-there : (flow : Dataflow) (covers : Covers) (choice : Choice) (i : Inclusion) (f : IsFirstFailing flow covers choice i) → AllByRecursion (IsInclusionOf flow) f.earlier
earlier-there flow covers choice i f =
    each-prefix (IsInclusionOf flow) f.earlier (i ∷ f.later) (subst (AllByRecursion (IsInclusionOf flow)) f.place (inclusions-there flow))

-- they are right lowerings
pub lowered-right : (flow : Dataflow) (covers : Covers) (offers : ℕ → Cut → Type 0) (choice : Choice) (l : Lowering) (next : Choice)
    → IsLoweredBy flow covers offers choice l next → IsRightLowering flow covers offers choice l next
lowered-right flow covers offers choice l next low = record {
  inclusion = low.inclusion;
  of_flow = first-there flow covers choice low.inclusion low.first;
  told = low.told;
  fails = low.first.fails;
  greatest = low.greatest;
  with_it = low.with_it;
}

pub leads-right : (flow : Dataflow) (covers : Covers) (offers : ℕ → Cut → Type 0) (choice : Choice) (ls : List Lowering) (end : Choice)
    → Leads flow covers offers choice ls end → LeadRight flow covers offers choice ls end
leads-right flow covers offers choice [] end same = same
leads-right flow covers offers choice (l ∷ ls) end (next, low, rest) =
    (next, lowered-right flow covers offers choice l next low, leads-right flow covers offers next ls end rest)

-- By covers that lack nothing outside a floor the largest choice is the same.
use Rattle.std.proofs.Common.{ℕ, ◌<◌, Bool, List, length, sym, ap, ◌∙◌, inl, inr}
use Rattle.std.proofs.lemmas.Bool.{and_parts, or_cases}
use Rattle.fw_time.specs.Stamp.{in_domain}
use Rattle.fw_frontier.specs.Frontier.{Frontier, Within}
use Rattle.fw_frontier.specs.Front.{inside}
use Rattle.fw_flow.specs.declared.choice.Choice.{Choice}
use Rattle.fw_flow.specs.declared.choice.Cut.{Cut}
use Rattle.fw_flow.specs.declared.choice.Cut.TheVariants.{Present, At}
use Rattle.fw_flow.specs.declared.choice.Offer.{Offer}
use Rattle.fw_flow.specs.Dataflow.{System, Dataflow, bounds_of, sender, receiver}
use Rattle.fw_flow.specs.WellFormed.{IsWellFormed}
use Rattle.fw_model.specs.Covers.{Covers, covers_in, set_of}
use Rattle.fw_model.specs.Machine.{Machine, events}
use Rattle.fw_model.proofs.PhiLaws.{phi-monotone}
use Rattle.fw_model.specs.Choice.{kept, IsCandidate, cut_of, notice_of, kept_of, IsConsistentBy, IsCutWithin, IsChoiceWithin}
use Rattle.fw_model.specs.Poorer.{IsPoorer, ArePoorer}
use Rattle.fw_model.specs.LawsOfOffers.{ConsistentIsByOffersAbove, LargestByOffersAboveIsLargest}
use Rattle.fw_model.specs.LawsOfPoorerCovers.{ArePoorerIn, PoorerCoversChooseTheSame, RicherCoversChooseTheSame}
use Rattle.fw_model.specs.Offers.{IsOffered, AreOffersAbove, covers_of}

-- a cut that lies within another keeps no more
pub set-within : (flow : Dataflow) (p : ℕ) (x y : Cut) → IsCutWithin flow p x y → Within (set_of flow p x) (set_of flow p y)
set-within flow p Present Present k t i = i
set-within flow p (At f) Present k t i = (and_parts (in_domain (bounds_of flow p) t) (inside f t) i).0
set-within flow p Present (At g) k t i = absurd k
set-within flow p (At f) (At g) k t i = k t i

-- what the poorer cover and the floor's own lie in, the richer cover lies in
poorer-within : (poor rich floor g : Frontier) → IsPoorer poor rich floor → Within poor g → Within floor g → Within rich g
poorer-within poor rich floor g a b c t i = elim (or_cases (poor t) (floor t) (a.rest t i)) [
  | inl k ↦ b t k
  | inr k ↦ c t k
]

-- what is consistent is so by poorer covers
poorer-consistent : (flow : Dataflow) (poor rich : Covers) (offers : ℕ → Cut → Type 0) (floor choice : Choice) → IsWellFormed flow
    → ArePoorer flow poor rich offers floor → IsConsistentBy flow rich offers choice → IsConsistentBy flow poor offers choice
poorer-consistent flow poor rich offers floor choice w a c = record {
  one_cut_each = c.one_cut_each;
  one_notice_each = c.one_notice_each;
  offered = c.offered;
  canonical = c.canonical;
  delivered = λ d l t i.
      let r = receiver flow d in
      ap (λ g. g t) (a.arrived d l (kept_of flow choice (sender flow d)))
      ∙ c.delivered d l t ((a.delivered d l (cut_of choice r) (c.offered r (w.receivers_declared d l))).within t i);
  discarded = λ e l t i.
      let q = sender flow e in
      c.discarded e l t ((a.discarded e l (cut_of choice q) (c.offered q (w.senders_declared e l))).within t i);
  notified = λ p l t i. c.notified p l t ((a.notified p l (cut_of choice p) (c.offered p l)).within t i);
  own = c.own;
  notices = λ d l t i. ap (λ g. g t) (a.arrived d l (notice_of flow choice (sender flow d))) ∙ c.notices d l t i;
}

-- a choice that is consistent by poorer covers and holds the floor is consistent
richer-consistent : (flow : Dataflow) (poor rich : Covers) (offers : ℕ → Cut → Type 0) (floor choice : Choice) → IsWellFormed flow
    → ((e : ℕ) (f g : Frontier) → Within f g → Within (rich.arrived e f) (rich.arrived e g)) → ArePoorer flow poor rich offers floor → IsConsistentBy flow rich offers floor
    → IsConsistentBy flow poor offers choice → IsChoiceWithin flow floor choice → IsConsistentBy flow rich offers choice
richer-consistent flow poor rich offers floor choice w grows a f c v = record {
  one_cut_each = c.one_cut_each;
  one_notice_each = c.one_notice_each;
  offered = c.offered;
  canonical = c.canonical;
  delivered = λ d l.
      let q = sender flow d in
      let r = receiver flow d in
      let m = w.senders_declared d l in
      let n = w.receivers_declared d l in
      let kept = kept_of flow choice q in
      poorer-within (poor.delivered d (cut_of choice r)) (rich.delivered d (cut_of choice r)) (rich.delivered d (cut_of floor r)) (rich.arrived d kept)
      (a.delivered d l (cut_of choice r) (c.offered r n))
      (λ t i. sym (ap (λ g. g t) (a.arrived d l kept)) ∙ c.delivered d l t i)
      (λ t i. grows d (kept_of flow floor q) kept (set-within flow q (cut_of floor q) (cut_of choice q) (v.cuts q m)) t (f.delivered d l t i));
  discarded = λ e l.
      let q = sender flow e in
      let r = receiver flow e in
      poorer-within (poor.discarded e (cut_of choice q)) (rich.discarded e (cut_of choice q)) (rich.discarded e (cut_of floor q)) (kept_of flow choice r)
      (a.discarded e l (cut_of choice q) (c.offered q (w.senders_declared e l)))
      (c.discarded e l)
      (λ t i. set-within flow r (cut_of floor r) (cut_of choice r) (v.cuts r (w.receivers_declared e l)) t (f.discarded e l t i));
  notified = λ p l.
      poorer-within (poor.notified p (cut_of choice p)) (rich.notified p (cut_of choice p)) (rich.notified p (cut_of floor p)) (notice_of flow choice p)
      (a.notified p l (cut_of choice p) (c.offered p l))
      (c.notified p l)
      (λ t i. v.notices p l t (f.notified p l t i));
  own = c.own;
  notices = λ d l t i. sym (ap (λ g. g t) (a.arrived d l (notice_of flow choice (sender flow d)))) ∙ c.notices d l t i;
}

pub poorer-same : PoorerCoversChooseTheSame
poorer-same sys state lost poor floor choice w h m =
    let offers = IsCandidate sys state lost kept in
    let rich = covers_in sys state in
    let a = h.poorer in
    record {
      consistent = richer-consistent sys.flow poor rich offers floor choice w (λ e g k v. phi-monotone sys (events state.history) e g k v) a h.consistent m.consistent
          (m.largest floor (poorer-consistent sys.flow poor rich offers floor floor w a h.consistent));
      largest = λ other c. m.largest other (poorer-consistent sys.flow poor rich offers floor other w a c);
    }

cut_within-trans : (flow : Dataflow) (p : ℕ) (x y z : Cut) → IsCutWithin flow p x y → IsCutWithin flow p y z → IsCutWithin flow p x z
cut_within-trans flow p x y Present v w = tt
cut_within-trans flow p x Present (At h) v w = absurd w
cut_within-trans flow p Present (At g) (At h) v w = absurd v
cut_within-trans flow p (At f) (At g) (At h) v w = λ t i. w t (v t i)

-- the largest by the poorer covers is consistent by the richer ones, and so within the largest by these
pub richer-same : RicherCoversChooseTheSame
richer-same sys state lost poor floor choice some w h m n = record {
  consistent = poorer-consistent sys.flow poor (covers_in sys state) (IsCandidate sys state lost kept) floor choice w h.poorer n.consistent;
  largest = λ other c.
      let v = m.largest other c in
      let u = n.largest some (poorer-same sys state lost poor floor some w h m).consistent in
      record {
        cuts = λ p l. cut_within-trans sys.flow p (cut_of other p) (cut_of some p) (cut_of choice p) (v.cuts p l) (u.cuts p l);
        notices = λ p l t i. u.notices p l t (v.notices p l t i);
      };
}

-- ---- offers of data above a floor

-- what is consistent by some offers is so by others that have each of them
consistent-offered : (flow : Dataflow) (covers : Covers) (ours theirs : ℕ → Cut → Type 0) (choice : Choice)
    → ((p : ℕ) → p < length flow.nodes → (cut : Cut) → ours p cut → theirs p cut) → IsConsistentBy flow covers ours choice → IsConsistentBy flow covers theirs choice
consistent-offered flow covers ours theirs choice has c = record {
  one_cut_each = c.one_cut_each;
  one_notice_each = c.one_notice_each;
  offered = λ p l. has p l (cut_of choice p) (c.offered p l);
  canonical = c.canonical;
  delivered = c.delivered;
  discarded = c.discarded;
  notified = c.notified;
  own = c.own;
  notices = c.notices;
}

poorer-offered : (flow : Dataflow) (poor rich : Covers) (ours theirs : ℕ → Cut → Type 0) (floor : Choice) → IsWellFormed flow
    → ((p : ℕ) → p < length flow.nodes → (cut : Cut) → theirs p cut → ours p cut) → ArePoorer flow poor rich ours floor → ArePoorer flow poor rich theirs floor
poorer-offered flow poor rich ours theirs floor w has a = record {
  delivered = λ d l cut i. a.delivered d l cut (has (receiver flow d) (w.receivers_declared d l) cut i);
  discarded = λ e l cut i. a.discarded e l cut (has (sender flow e) (w.senders_declared e l) cut i);
  notified = λ p l cut i. a.notified p l cut (has p l cut i);
  arrived = a.arrived;
}

above-poorer : (sys : System) (state : Machine) (lost : ℕ → Bool) (floor : Choice) (offers : List Offer) → IsWellFormed sys.flow → AreOffersAbove sys state lost floor offers
    → ArePoorerIn sys state lost (covers_of sys.flow offers) floor
above-poorer sys state lost floor offers w a = record {
  poorer = poorer-offered sys.flow (covers_of sys.flow offers) (covers_in sys state) (IsOffered sys.flow offers) (IsCandidate sys state lost kept) floor w
      (λ p l cut. (a.offered p l cut).1) a.poorer;
  consistent = a.consistent;
}

-- a choice that is consistent is so by the data
pub consistent-above : ConsistentIsByOffersAbove
consistent-above sys state lost floor offers choice w a c =
    consistent-offered sys.flow (covers_of sys.flow offers) (IsCandidate sys state lost kept) (IsOffered sys.flow offers) choice (λ p l cut. (a.offered p l cut).1)
    (poorer-consistent sys.flow (covers_of sys.flow offers) (covers_in sys state) (IsCandidate sys state lost kept) floor choice w (above-poorer sys state lost floor offers w a).poorer c)

pub largest-above : LargestByOffersAboveIsLargest
largest-above sys state lost floor offers choice w a m =
    let covers = covers_of sys.flow offers in
    let ours = IsOffered sys.flow offers in
    let theirs = IsCandidate sys state lost kept in
    poorer-same sys state lost covers floor choice w (above-poorer sys state lost floor offers w a) (record {
      consistent = consistent-offered sys.flow covers ours theirs choice (λ p l cut. (a.offered p l cut).0) m.consistent;
      largest = λ other c. m.largest other (consistent-offered sys.flow covers theirs ours other (λ p l cut. (a.offered p l cut).1) c);
    })

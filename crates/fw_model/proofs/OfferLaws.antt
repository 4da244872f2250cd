-- What nodes offer as data; and where that is what the machine offers in a state, both give the same choices.
use Rattle.std.proofs.Common.{◌≡◌, ◌≢◌, ◌⊎◌, ℕ, ◌<◌, Bool, List, [], ◌∷◌, ◌++◌, length, Option, Some, None, sym, ap, subst, ◌∙◌, inl, inr, refl}
use Rattle.std.specs.List.{AllByRecursion}
use Rattle.fw_lemmas.proofs.Each.{each-suffix}
use Rattle.fw_time.specs.declared.stamp.Bounds.{Bounds}
use Rattle.fw_frontier.specs.Frontier.{Frontier, Within}
use Rattle.fw_frontier.specs.Front.{Front, frontier_of, IsCanonical}
use Rattle.fw_flow.specs.declared.choice.Choice.{Choice}
use Rattle.fw_flow.specs.declared.choice.Cut.TheVariants.{At}
use Rattle.fw_flow.specs.declared.choice.Recorded.{Recorded}
use Rattle.fw_flow.specs.declared.choice.Offered.{Offered}
use Rattle.fw_flow.specs.declared.choice.Offered.TheVariants as form
use Rattle.fw_flow.specs.declared.choice.Offer.{Offer}
use Rattle.fw_flow.specs.Dataflow.{System, Dataflow, sender, receiver, bounds_of}
use Rattle.fw_flow.specs.declared.restoring.Restoring.TheVariants.{Batches}
use Rattle.fw_flow.specs.Restoring.{way_of}
use Rattle.fw_flow.specs.WellFormed.{IsWellFormed}
use Rattle.fw_model.specs.Machine.{Machine}
use Rattle.fw_model.specs.Choice.{kept, cut_of, notice_of, kept_of, IsCandidate, IsConsistent, IsConsistentBy}
use Rattle.fw_model.specs.Covers.{Covers, covers_in}
use Rattle.fw_model.specs.Offers.{IsListed, IsBetween, IsOfferedFront, IsOffered, IsFormOf, Ascend, offered_by, listed_records, offered_range, records_of, range_of, AreOffersIn, covers_of}
use Rattle.fw_model.specs.LawsOfOffers.{ConsistentByOffersIsConsistent, LargestByOffersIsLargest}

-- ---- what is offered

pub not_listed : (xs : List Recorded) (f : Front) → IsListed f xs → AllByRecursion (λ s. s.front ≡ f → ⊥) xs → ⊥
not_listed [] f l n = l
not_listed (x ∷ xs) f (inl e) n = n.0 e
not_listed (x ∷ xs) f (inr l) n = not_listed xs f l n.1

pub listed-there : (pre : List Recorded) (r : Recorded) (post : List Recorded) → IsListed r.front (pre ++ r ∷ post)
listed-there [] r post = inl refl
listed-there (q ∷ pre) r post = inr (listed-there pre r post)

-- of records that ascend, a listed frontier that is none of the later ones lies within one
pub below_last : (b : Bounds) (pre : List Recorded) (r : Recorded) (post : List Recorded) (f : Front) → Ascend b (pre ++ r ∷ post) → IsListed f (pre ++ r ∷ post)
    → AllByRecursion (λ s. s.front ≡ f → ⊥) post → Within (frontier_of b f) (frontier_of b r.front)
below_last b [] r post f a (inl e) n = λ t k. ap (λ g. frontier_of b g t) e ∙ k
below_last b [] r post f a (inr l) n = absurd (not_listed post f l n)
below_last b (q ∷ pre) r post f a (inl e) n = λ t k.
    ((each-suffix (λ s. Within (frontier_of b q.front) (frontier_of b s.front) × (q.front ≢ s.front)) pre (r ∷ post) a.0).0).0 t (ap (λ g. frontier_of b g t) e ∙ k)
below_last b (q ∷ pre) r post f a (inr l) n = below_last b pre r post f a.1 l n

-- the frontier lies between the two, where all between two are offered
IsInRange : Bounds → Option (Front × Front) → Front → Type 0
IsInRange b None f = ⊥
IsInRange b (Some ends) f = IsBetween b ends.0 ends.1 f

pub offered-between : (flow : Dataflow) (offers : List Offer) (p : ℕ) (least greatest g : Front) → range_of offers p ≡ Some (least, greatest) → IsCanonical (bounds_of flow p) g
    → IsBetween (bounds_of flow p) least greatest g → IsOffered flow offers p (At g)
unfolding IsInRange
offered-between flow offers p least greatest g e c i =
    (c, at (offered_by offers p) (subst (λ r. IsInRange (bounds_of flow p) r g) (sym e) i))
  where
    at : (x : Offered) → IsInRange (bounds_of flow p) (offered_range x) g → IsOfferedFront (bounds_of flow p) x g
    at (form.Listed records) j = absurd j
    at (form.Between least greatest) j = j
    at (form.Batches least greatest exhausted) j = inl j

-- a frontier that is offered lies in the range, if there is one; or else it is all, of a source
pub between-offered : (flow : Dataflow) (offers : List Offer) (p : ℕ) (least greatest g : Front) → range_of offers p ≡ Some (least, greatest)
    → IsFormOf (way_of flow p) (offered_by offers p) → IsOffered flow offers p (At g)
    → IsBetween (bounds_of flow p) least greatest g ⊎ ((way_of flow p ≡ Batches) × (g ≡ []))
unfolding IsInRange
between-offered flow offers p least greatest g e fits offered = elim (at (offered_by offers p) fits offered.1 (λ n. cc)) [
  | inl i ↦ inl (subst (λ r. IsInRange (bounds_of flow p) r g) e i)
  | inr j ↦ inr j
]
  where
    at : (x : Offered) → IsFormOf (way_of flow p) x → IsOfferedFront (bounds_of flow p) x g → offered_range x ≢ None
        → IsInRange (bounds_of flow p) (offered_range x) g ⊎ ((way_of flow p ≡ Batches) × (g ≡ []))
    at (form.Listed records) fits i n = absurd (n refl)
    at (form.Between least greatest) fits i n = inl i
    at (form.Batches least greatest exhausted) fits i n = elim i [ inl j ↦ inl j | inr k ↦ inr (fits, k.1) ]

-- a frontier that is offered is listed, where there is no range
pub listed-offered : (flow : Dataflow) (offers : List Offer) (p : ℕ) (g : Front) → range_of offers p ≡ None → IsOffered flow offers p (At g)
    → IsListed g (records_of offers p)
listed-offered flow offers p g none offered = at (offered_by offers p) none offered.1
  where
    at : (x : Offered) → offered_range x ≡ None → IsOfferedFront (bounds_of flow p) x g → IsListed g (listed_records x)
    at (form.Listed records) e i = i
    at (form.Between least greatest) e i = absurd (cc)
    at (form.Batches least greatest exhausted) e i = absurd (cc)

pub offered-listed : (flow : Dataflow) (offers : List Offer) (p : ℕ) (g : Front) → IsCanonical (bounds_of flow p) g → IsListed g (records_of offers p)
    → IsOffered flow offers p (At g)
offered-listed flow offers p g c i = (c, at (offered_by offers p) i)
  where
    at : (x : Offered) → IsListed g (listed_records x) → IsOfferedFront (bounds_of flow p) x g
    at (form.Listed records) i = i
    at (form.Between least greatest) i = absurd i
    at (form.Batches least greatest exhausted) i = absurd i

-- ---- the choices

along : (f g : Frontier) → f ≡ g → (h k : Frontier) → h ≡ k → Within f h → Within g k
along f g e h k i w = subst (λ x. Within g x) i (subst (λ x. Within x h) e w)

consistent-in : (sys : System) (state : Machine) (lost : ℕ → Bool) (offers : List Offer) (choice : Choice) → IsWellFormed sys.flow
    → AreOffersIn sys state lost offers → IsConsistentBy sys.flow (covers_of sys.flow offers) (IsOffered sys.flow offers) choice
    → IsConsistent sys state (IsCandidate sys state lost kept) choice
consistent-in sys state lost offers choice w o c =
    let ours : Covers = covers_of sys.flow offers in
    let theirs : Covers = covers_in sys state in record {
      one_cut_each = c.one_cut_each;
      one_notice_each = c.one_notice_each;
      offered = λ p l. (o.offered p l (cut_of choice p)).0 (c.offered p l);
      canonical = c.canonical;
      delivered = λ d l.
          let k = kept_of sys.flow choice (sender sys.flow d) in
          let cut = cut_of choice (receiver sys.flow d) in
          along (ours.delivered d cut) (theirs.delivered d cut) (o.delivered d l cut (c.offered (receiver sys.flow d) (w.receivers_declared d l)))
          (ours.arrived d k) (theirs.arrived d k) (o.arrived d l k) (c.delivered d l);
      discarded = λ e l.
          let cut = cut_of choice (sender sys.flow e) in
          subst (λ x. Within x (kept_of sys.flow choice (receiver sys.flow e)))
          (o.discarded e l cut (c.offered (sender sys.flow e) (w.senders_declared e l))) (c.discarded e l);
      notified = λ p l. subst (λ x. Within x (notice_of sys.flow choice p)) (o.notified p l (cut_of choice p) (c.offered p l)) (c.notified p l);
      own = c.own;
      notices = λ d l.
          let n = notice_of sys.flow choice (sender sys.flow d) in
          subst (λ x. Within (notice_of sys.flow choice (receiver sys.flow d)) x) (o.arrived d l n) (c.notices d l);
    }

consistent-by : (sys : System) (state : Machine) (lost : ℕ → Bool) (offers : List Offer) (choice : Choice) → IsWellFormed sys.flow
    → AreOffersIn sys state lost offers → IsConsistent sys state (IsCandidate sys state lost kept) choice
    → IsConsistentBy sys.flow (covers_of sys.flow offers) (IsOffered sys.flow offers) choice
consistent-by sys state lost offers choice w o c =
    let ours : Covers = covers_of sys.flow offers in
    let theirs : Covers = covers_in sys state in
    let offered : (p : ℕ) → p < length sys.flow.nodes → IsOffered sys.flow offers p (cut_of choice p) =
    λ p l. (o.offered p l (cut_of choice p)).1 (c.offered p l) in record {
      one_cut_each = c.one_cut_each;
      one_notice_each = c.one_notice_each;
      offered = offered;
      canonical = c.canonical;
      delivered = λ d l.
          let k = kept_of sys.flow choice (sender sys.flow d) in
          let cut = cut_of choice (receiver sys.flow d) in
          along (theirs.delivered d cut) (ours.delivered d cut) (sym (o.delivered d l cut (offered (receiver sys.flow d) (w.receivers_declared d l))))
          (theirs.arrived d k) (ours.arrived d k) (sym (o.arrived d l k)) (c.delivered d l);
      discarded = λ e l.
          let cut = cut_of choice (sender sys.flow e) in
          subst (λ x. Within x (kept_of sys.flow choice (receiver sys.flow e)))
          (sym (o.discarded e l cut (offered (sender sys.flow e) (w.senders_declared e l)))) (c.discarded e l);
      notified = λ p l. subst (λ x. Within x (notice_of sys.flow choice p)) (sym (o.notified p l (cut_of choice p) (offered p l))) (c.notified p l);
      own = c.own;
      notices = λ d l.
          let n = notice_of sys.flow choice (sender sys.flow d) in
          subst (λ x. Within (notice_of sys.flow choice (receiver sys.flow d)) x) (sym (o.arrived d l n)) (c.notices d l);
    }

pub consistent-same : ConsistentByOffersIsConsistent
consistent-same sys state lost offers choice w o = (consistent-in sys state lost offers choice w o, consistent-by sys state lost offers choice w o)

pub largest-same : LargestByOffersIsLargest
largest-same sys state lost offers choice w o = (
  λ c. record {
    consistent = consistent-in sys state lost offers choice w o c.consistent;
    largest = λ other k. c.largest other (consistent-by sys state lost offers other w o k);
  },
  λ c. record {
    consistent = consistent-by sys state lost offers choice w o c.consistent;
    largest = λ other k. c.largest other (consistent-in sys state lost offers other w o k);
  },
)

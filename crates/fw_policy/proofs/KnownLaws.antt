-- What is known of a state has the shapes that the code asks for.
use Rattle.std.proofs.Common.{◌≡◌, inl, inr, ℕ, zero, suc, ◌+◌, ◌<◌, ◌≤◌, Bool, true, List, [], ◌∷◌, ◌++◌, length, get_or, take, refl, sym, ◌∙◌, ap, subst, arith}
use Rattle.std.specs.List.{AllByRecursion}
use Rattle.std.proofs.lemmas.List.{take_more}
use Rattle.fw_lemmas.proofs.Each.{each-append}
use Rattle.fw_time.specs.Stamp.{Stamp, in_domain}
use Rattle.fw_frontier.specs.Front.{Front}
use Rattle.fw_flow.specs.declared.event.Event.{Event}
use Rattle.fw_flow.specs.declared.choice.Offer.{Offer}
use Rattle.fw_flow.specs.declared.choice.Offered.{Offered}
use Rattle.fw_flow.specs.Kind.{Kind}
use Rattle.fw_flow.specs.declared.kind.Kind.TheVariants.{Input, OutputEpoch, OutputNumber}
use Rattle.fw_flow.specs.Dataflow.{System, Dataflow, kind_of, policy_of, bounds_of, greatest_number}
use Rattle.fw_flow.specs.NodeFunction.{event_node, event_stamp}
use Rattle.fw_flow.specs.declared.kind.Policy.{Policy}
use Rattle.fw_flow.specs.declared.kind.Policy.TheVariants as policy
use Rattle.fw_flow.specs.declared.restoring.Restoring.{Restoring}
use Rattle.fw_flow.specs.Restoring.{restoring_of_policy, restoring, way_of}
use Rattle.fw_model.specs.History.{injected_count}
use Rattle.fw_model.specs.Machine.{Machine, SerialEvent, events}
use Rattle.fw_model.proofs.AskedLaws.{reached-all}
use Rattle.fw_model.proofs.DomainLaws.{has_epochs}
use Rattle.fw_model.proofs.InputLaws.{injected-few}
use Rattle.fw_model.proofs.LegalLaws.{legal-in_domain}
use Rattle.fw_model.proofs.LoggedLaws.{live-logged}
use Rattle.fw_policy.specs.declared.view.Border.{Border}
use Rattle.fw_policy.specs.declared.view.Border.TheVariants.{Inner, Source, Output}
use Rattle.fw_keep.specs.declared.entry.Entry.{Entry}
use Rattle.fw_policy.specs.declared.view.NodeView.{NodeView}
use Rattle.fw_policy.specs.View.{IsBorderOf, IsNodeViewOf, AreNodeViewsFrom, IsViewOf}
use Rattle.fw_policy.specs.Offering.{stamps_in_flight, OffersBy, IsOfferBy, AreOffersBy}
use Rattle.fw_policy.specs.Known.{FitsWay, IsKnown, AreNodesKnown}
use Rattle.fw_model.proofs.SentStandLaws.{IsOne}
use Rattle.fw_policy.proofs.UnloggedLaws.{IsOfEntries, flying-unlogged}
use Rattle.fw_model.proofs.ThinnedLaws.{each-contained}
use Rattle.fw_policy.proofs.WayLaws.{events-full}

border-fits : (sys : System) (state : Machine) (p : ℕ) (kind : Kind) (asks : Policy) (x : Border) → injected_count p (events state.history) ≤ greatest_number
    → IsBorderOf sys state p kind x → FitsWay (restoring kind asks) x
border-fits sys state p Input asks Inner l k = absurd k
border-fits sys state p Input asks (Source n y) l k = omega (arith, l, k.0)
border-fits sys state p Input asks (Output n) l k = absurd k
border-fits sys state p OutputEpoch asks Inner l k = absurd k
border-fits sys state p OutputEpoch asks (Source n y) l k = absurd k
border-fits sys state p OutputEpoch asks (Output n) l k = tt
border-fits sys state p OutputNumber asks Inner l k = absurd k
border-fits sys state p OutputNumber asks (Source n y) l k = absurd k
border-fits sys state p OutputNumber asks (Output n) l k = tt
border-fits sys state p kind asks x l k = by asks
  where
    by : (asks : Policy) → FitsWay (restoring_of_policy asks) x
    by policy.None = tt
    by policy.Lazy = tt
    by policy.Logged = tt
    by policy.Eager = tt
    by policy.Full = tt

each-numbered : (P : Event → Type 0) (h : List SerialEvent) → AllByRecursion P (events h) → AllByRecursion (λ (v : SerialEvent). P v.event) h
each-numbered P [] a = tt
each-numbered P (v ∷ h) a = (a.0, each-numbered P h a.1)

each-of : (P : Stamp → Type 0) (ss : List Stamp) → ((t : Stamp) → IsOne t ss → P t) → AllByRecursion P ss
each-of P [] h = tt
each-of P (s ∷ ss) h = (h s (inl refl), each-of P ss (λ t i. h t (inr i)))

known-from : (sys : System) (state : Machine) (lost : ℕ → Bool) (floor : List Front) (entries : List Entry) (n : ℕ) (view : List NodeView) → AreNodeViewsFrom sys state lost floor n view
    → ((p : ℕ) (node : NodeView) → p < n + length view → IsNodeViewOf sys state lost floor p node → IsKnown sys.flow entries p node) → AreNodesKnown sys.flow entries n view
known-from sys state lost floor entries n [] v k = tt
known-from sys state lost floor entries n (node ∷ view) v k =
    (k n node (omega arith) v.0, known-from sys state lost floor entries (suc n) view v.1 (λ p x l i. k p x (omega (arith, l)) i))

pub are-known : (sys : System) (state : Machine) (lost : ℕ → Bool) (floor : List Front) (view : List NodeView) (entries : List Entry) → IsViewOf sys state lost floor view entries → AreNodesKnown sys.flow entries 0 view
are-known sys state lost floor view entries v =
    let w = v.well_formed in
    let r = v.reached in
    let all = reached-all sys w r.0 r.1 state r.2 in
    let legal = all.recover.holds.legal in
    let inside = each-numbered (λ u. in_domain (bounds_of sys.flow (event_node sys.flow u)) (event_stamp u) ≡ true) state.history
    (legal-in_domain sys (events state.history) w.flow (has_epochs sys w) legal) in
    known-from sys state lost floor entries 0 view v.nodes (λ p node l i. record {
      settled = i.fits.settled;
      border = border-fits sys state p (kind_of sys.flow p) (policy_of sys.flow p) node.border (omega (arith, injected-few sys (events state.history) legal p, w.few p)) i.border;
      unlogged = λ way.
          let full = events-full (kind_of sys.flow p) (policy_of sys.flow p) way in
          let o : IsOfEntries sys state p entries = record {
            written = v.written;
            apart = all.restore.apart;
            serials = all.restore.serials;
            live = live-logged sys w r.0 r.1 state r.2 p full;
          } in
          each-append (λ t. in_domain (bounds_of sys.flow p) t ≡ true) (stamps_in_flight p entries) node.lost
          (each-of (λ t. in_domain (bounds_of sys.flow p) t ≡ true) (stamps_in_flight p entries) (λ t j.
          let u = flying-unlogged sys state p entries o t j in
          subst (λ s. in_domain (bounds_of sys.flow p) s ≡ true) u.is.stamp (subst (λ q. in_domain (bounds_of sys.flow q) (event_stamp u.event.event) ≡ true) u.is.node
          (each-contained (λ (x : SerialEvent). in_domain (bounds_of sys.flow (event_node sys.flow x.event)) (event_stamp x.event) ≡ true) u.event state.history u.there inside))))
          i.fits.lost;
    })

-- ---- one more offer

offers-append : (flow : Dataflow) (entries : List Entry) (n m : ℕ) (view : List NodeView) (offers : List Offer) (node : NodeView) (offer : Offer) → AreOffersBy flow entries n view offers
    → n + length view ≡ m → IsOfferBy flow entries m node offer → AreOffersBy flow entries n (view ++ node ∷ []) (offers ++ offer ∷ [])
offers-append flow entries n m [] [] node offer a e i = let s : m ≡ n = omega (arith, e) in (subst (λ k. IsOfferBy flow entries k node offer) s i, tt)
offers-append flow entries n m [] (o ∷ os) node offer a e i = absurd a
offers-append flow entries n m (x ∷ xs) [] node offer a e i = absurd a
offers-append flow entries n m (x ∷ xs) (o ∷ os) node offer a e i = (a.0, offers-append flow entries (suc n) m xs os node offer a.1 (omega (arith, e)) i)

known-at : (flow : Dataflow) (entries : List Entry) (n i : ℕ) (view : List NodeView) (node : NodeView) → AreNodesKnown flow entries n view → i < length view → node ≡ get_or view i node
    → IsKnown flow entries (n + i) node
known-at flow entries n i [] node k l e = absurd (omega arith)
known-at flow entries n zero (x ∷ xs) node k l e =
    let s : n ≡ n + 0 = omega arith in subst (λ m. IsKnown flow entries m node) s (subst (λ (y : NodeView). IsKnown flow entries n y) (sym e) k.0)
known-at flow entries n (suc i) (x ∷ xs) node k l e =
    let s : suc n + i ≡ n + suc i = omega arith in subst (λ m. IsKnown flow entries m node) s (known-at flow entries (suc n) i xs node k.1 (omega arith) e)

take-length : {A : Type 0} (i : ℕ) (xs : List A) → i ≤ length xs → length (take i xs) ≡ i
take-length zero xs l = refl
take-length (suc i) [] l = absurd (omega arith)
take-length (suc i) (x ∷ xs) l = ap (λ n. suc n) (take-length i xs (omega arith))

pub offer_more : (flow : Dataflow) (entries : List Entry) (view : List NodeView) (offers next : List Offer) (i q : ℕ) (node : NodeView) (offer : Offer) → AreNodesKnown flow entries 0 view
    → i < length view → node ≡ get_or view i node → q ≡ i → AreOffersBy flow entries 0 (take i view) offers → (IsKnown flow entries q node → IsOfferBy flow entries q node offer)
    → next ≡ offers ++ offer ∷ [] → AreOffersBy flow entries 0 (take (i + 1) view) next
offer_more flow entries view offers next i q node offer k l e s a m n =
    let more : take (i + 1) view ≡ take i view ++ node ∷ [] = take_more view i node l ∙ ap (λ u. take i view ++ u ∷ []) (sym e) in
    let z : 0 + i ≡ i = omega arith in
    let is : IsOfferBy flow entries i node offer = subst (λ j. IsKnown flow entries j node → IsOfferBy flow entries j node offer) s m (subst (λ j. IsKnown flow entries j node) z (known-at flow entries 0 i view node k l e)) in
    subst (λ (xs : List NodeView). AreOffersBy flow entries 0 xs next) (sym more)
    (subst (λ (os : List Offer). AreOffersBy flow entries 0 (take i view ++ node ∷ []) os) (sym n)
    (offers-append flow entries 0 i (take i view) offers node offer a (omega (arith, take-length i view (omega (arith, l)))) is))

-- ---- by the way in which a node is restored

-- what is offered in a way is offered by the node that is restored so
pub in_way : (flow : Dataflow) (entries : List Entry) (p : ℕ) (node : NodeView) (o : Offered) (known way : Restoring) → known ≡ way_of flow p → known ≡ way
    → OffersBy (bounds_of flow p) entries p node way o → OffersBy (bounds_of flow p) entries p node (way_of flow p) o
in_way flow entries p node o known way e i a = subst (λ w. OffersBy (bounds_of flow p) entries p node w o) (sym i ∙ e) a

-- the border of a node that is restored in a way fits it
pub fits_way : (flow : Dataflow) (p : ℕ) (x : Border) (known way : Restoring) → known ≡ way_of flow p → known ≡ way → FitsWay (way_of flow p) x → FitsWay way x
fits_way flow p x known way e i f = subst (λ w. FitsWay w x) (sym e ∙ i) f

-- the way in which a node is restored
pub way-is : (flow : Dataflow) (p : ℕ) (known way : Restoring) → known ≡ way_of flow p → known ≡ way → way_of flow p ≡ way
way-is flow p known way e i = sym e ∙ i

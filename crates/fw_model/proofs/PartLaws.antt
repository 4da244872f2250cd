-- What counts inside a frontier hangs on the node's events inside it alone.
use Rattle.std.proofs.Common.{◌≡◌, ℕ, Bool, true, false, ◌==◌, List, [], ◌∷◌, ◌++◌, filter, map, refl, sym, ap, subst, ◌∙◌}
use Rattle.std.specs.List.{flat_map}
use Rattle.std.proofs.lemmas.Bool.{cond_both, eqb-true, eq-eqb}
use Rattle.std.proofs.lemmas.List.{map-append}
use Rattle.std.proofs.lemmas.List.Elements.{filter-append}
use Rattle.fw_lemmas.proofs.Bools.{two_ways}
use Rattle.fw_lemmas.proofs.Each.{each-one}
use Rattle.fw_lemmas.proofs.Filters.{filter-out, filter-inner, flat_map-filter}
use Rattle.fw_time.specs.Stamp.{Stamp}
use Rattle.fw_frontier.specs.Frontier.{Frontier, Within}
use Rattle.fw_frontier.specs.Front.{Front, frontier_of}
use Rattle.fw_flow.specs.declared.event.Event.{Event}
use Rattle.fw_flow.specs.declared.event.Event.TheVariants.{Inject, Deliver, Notify}
use Rattle.fw_flow.specs.declared.event.Message.{Message}
use Rattle.fw_flow.specs.Dataflow.{System, Dataflow, receiver, bounds_of, HasEpochs}
use Rattle.fw_flow.specs.NodeFunction.{event_node, event_stamp}
use Rattle.fw_flow.specs.Projection.{events_at}
use Rattle.fw_flow.specs.WellFormed.{IsWellFormed}
use Rattle.fw_model.specs.History.{sent_messages, message_on, delivered_messages, IsLegal}
use Rattle.fw_model.specs.Machine.{Machine, events}
use Rattle.fw_model.specs.Covers.{stamps_from, stamps_inside, stamp_of_notice, notified_inside}
use Rattle.fw_model.proofs.LocalityLaws.{events_at-kept, sends-same_within}
use Rattle.fw_model.proofs.SameInsideLaws.{sent-outside, delivered-same, notified-same, discarded-same}
use Rattle.fw_model.specs.Filtering.{AreFrontiers, kept_events, events_inside}
use Rattle.fw_model.specs.Writes.{IsSamePart, CountsTheSame}

-- ---- the part of a node

pub part-same : (sys : System) (h : List Event) (p : ℕ) (f : Frontier) → IsSamePart sys h h p f
part-same sys h p f = record { events = refl; sent = λ e s. refl }

-- an event outside changes nothing inside
pub part-event : (sys : System) (h : List Event) (v : Event) (p : ℕ) (f : Frontier) → (event_node sys.flow v ≡ p → f (event_stamp v) ≡ false) → IsSamePart sys h (v ∷ h) p f
part-event sys h v p f out =
    let vs = events_at sys.flow p h in
    record {
      events = cond_both (event_node sys.flow v == p) (v ∷ vs) vs (λ ws. events_inside f ws ≡ events_inside f vs)
          (λ c. filter-out (λ x. f (event_stamp x)) v vs (out (eqb-true (event_node sys.flow v) p c))) (λ c. refl);
      sent = λ e s. sent-outside sys h v e f (λ q. out (q ∙ s));
    }

-- where more is kept nothing changes inside
pub part-kept : (sys : System) (h : List Event) (keep : ℕ → Frontier) → IsWellFormed sys.flow → HasEpochs sys → IsLegal sys h → AreFrontiers sys.flow keep
    → (p : ℕ) (f : Frontier) → Within f (keep p) → IsSamePart sys h (kept_events sys.flow keep h) p f
part-kept sys h keep w b l fr p f within = record {
  events = ap (events_inside f) (events_at-kept sys.flow keep p h)
      ∙ filter-inner (λ v. f (event_stamp v)) (λ v. keep p (event_stamp v)) (events_at sys.flow p h)
      (each-one (λ v. f (event_stamp v) ≡ true → keep p (event_stamp v) ≡ true) (events_at sys.flow p h) (λ v i. within (event_stamp v) i));
  sent = λ e s. sends-same_within sys h keep w b l fr e f (λ t i. ap (λ q. keep q t) s ∙ within t i);
}

-- ---- what hangs on it

filter-flat_map : {X Y : Type 0} (k : Y → Bool) (g : X → List Y) (xs : List X) → filter k (flat_map g xs) ≡ flat_map (λ x. filter k (g x)) xs
filter-flat_map k g [] = refl
filter-flat_map k g (x ∷ xs) = filter-append k (g x) (flat_map g xs) ∙ ap (λ ys. filter k (g x) ++ ys) (filter-flat_map k g xs)

map-flat_map : {X Y Z : Type 0} (f : Y → Z) (g : X → List Y) (xs : List X) → map f (flat_map g xs) ≡ flat_map (λ x. map f (g x)) xs
map-flat_map f g [] = refl
map-flat_map f g (x ∷ xs) = map-append f (g x) (flat_map g xs) ∙ ap (λ ys. map f (g x) ++ ys) (map-flat_map f g xs)

-- what a node's events inside alone give
of_part : (flow : Dataflow) (p : ℕ) (f : Frontier) (g : Event → List Stamp) → ((v : Event) → (event_node flow v == p) ≡ false → g v ≡ [])
    → ((v : Event) → f (event_stamp v) ≡ false → g v ≡ []) → (h : List Event) → flat_map g h ≡ flat_map g (events_inside f (events_at flow p h))
of_part flow p f g elsewhere outside h =
    sym (flat_map-filter g (λ v. f (event_stamp v)) (events_at flow p h) (each-one (λ v. f (event_stamp v) ≡ false → g v ≡ []) (events_at flow p h) outside)
    ∙ flat_map-filter g (λ v. event_node flow v == p) h (each-one (λ v. (event_node flow v == p) ≡ false → g v ≡ []) h elsewhere))

deliveries-of_part : (flow : Dataflow) (d : ℕ) (f : Frontier) (h : List Event)
    → stamps_inside f (delivered_messages h d) ≡ flat_map (λ v. stamps_inside f (message_on d v)) (events_inside f (events_at flow (receiver flow d) h))
deliveries-of_part flow d f h =
    ap (filter f) (map-flat_map (λ (m : Message). m.at) (message_on d) h)
    ∙ filter-flat_map f (λ v. map (λ (m : Message). m.at) (message_on d v)) h
    ∙ of_part flow (receiver flow d) f (λ v. stamps_inside f (message_on d v)) elsewhere outside h
  where
    elsewhere : (v : Event) → (event_node flow v == receiver flow d) ≡ false → stamps_inside f (message_on d v) ≡ []
    elsewhere (Inject s x) n = refl
    elsewhere (Notify q t) n = refl
    elsewhere (Deliver e m) n =
        cond_both (e == d) (m ∷ []) [] (λ ms. stamps_inside f ms ≡ [])
        (λ c. absurd (two_ways (receiver flow e == receiver flow d) (eq-eqb (receiver flow e) (receiver flow d) (ap (receiver flow) (eqb-true e d c))) n))
        (λ c. refl)

    outside : (v : Event) → f (event_stamp v) ≡ false → stamps_inside f (message_on d v) ≡ []
    outside (Inject s x) o = refl
    outside (Notify q t) o = refl
    outside (Deliver e m) o = cond_both (e == d) (m ∷ []) [] (λ ms. stamps_inside f ms ≡ []) (λ c. filter-out f m.at [] o) (λ c. refl)

notices-of_part : (flow : Dataflow) (p : ℕ) (f : Frontier) (h : List Event)
    → notified_inside p f h ≡ flat_map (λ v. filter f (stamp_of_notice p v)) (events_inside f (events_at flow p h))
notices-of_part flow p f h =
    filter-flat_map f (stamp_of_notice p) h ∙ of_part flow p f (λ v. filter f (stamp_of_notice p v)) elsewhere outside h
  where
    elsewhere : (v : Event) → (event_node flow v == p) ≡ false → filter f (stamp_of_notice p v) ≡ []
    elsewhere (Inject s x) n = refl
    elsewhere (Deliver e m) n = refl
    elsewhere (Notify q t) n = cond_both (q == p) (t ∷ []) [] (λ ss. filter f ss ≡ []) (λ c. absurd (two_ways (q == p) c n)) (λ c. refl)

    outside : (v : Event) → f (event_stamp v) ≡ false → filter f (stamp_of_notice p v) ≡ []
    outside (Inject s x) o = refl
    outside (Deliver e m) o = refl
    outside (Notify q t) o = cond_both (q == p) (t ∷ []) [] (λ ss. filter f ss ≡ []) (λ c. filter-out f t [] o) (λ c. refl)

-- what counts inside a front is the same where the part is
pub part-counts : (sys : System) (state next : Machine) (p : ℕ) (f : Front)
    → IsSamePart sys (events state.history) (events next.history) p (frontier_of (bounds_of sys.flow p) f) → CountsTheSame sys state next p f
part-counts sys state next p f same =
    let g = frontier_of (bounds_of sys.flow p) f in
    let h = events state.history in
    let k = events next.history in
    record {
      part = same;
      delivered = λ d r. delivered-same sys state next d f
          (subst (λ q. let x = frontier_of (bounds_of sys.flow q) f in stamps_inside x (delivered_messages k d) ≡ stamps_inside x (delivered_messages h d)) (sym r)
          (deliveries-of_part sys.flow d g k
          ∙ ap (flat_map (λ v. stamps_inside g (message_on d v))) (subst (λ q. events_inside g (events_at sys.flow q k) ≡ events_inside g (events_at sys.flow q h)) (sym r) same.events)
          ∙ sym (deliveries-of_part sys.flow d g h)));
      notified = notified-same sys state next p f
          (notices-of_part sys.flow p g k ∙ ap (flat_map (λ v. filter g (stamp_of_notice p v))) same.events ∙ sym (notices-of_part sys.flow p g h));
      discarded = λ e s. discarded-same sys state next e f
          (subst (λ q. let x = frontier_of (bounds_of sys.flow q) f in stamps_from x (sent_messages sys k e) ≡ stamps_from x (sent_messages sys h e)) (sym s)
          (ap (map (λ (m : Message). m.at)) (same.sent e s)));
    }

-- The logged events that are left send what is to be sent again: what lacks was given up.
use Rattle.std.proofs.Common.{◌≡◌, ℕ, zero, suc, ◌+◌, ◌<◌, Bool, true, false, cond, not, ◌&&◌, ◌==◌, List, [], ◌∷◌, length, filter, get_or, Some, refl, sym, ap, ◌∙◌, inl, inr, arith}
use Rattle.std.specs.List.{AllByRecursion, list_any, list_all}
use Rattle.std.proofs.lemmas.Bool.{not-true, and_parts, and_from, and_left, and_right, or_from, or_left, or_right, cond_both, cases_Bool, eqb-true, eq-eqb, false_from_ne_true}
use Rattle.fw_lemmas.proofs.Bools.{two_ways}
use Rattle.fw_lemmas.proofs.Each.{each-weaker, each-both, each-one, each-kept}
use Rattle.fw_lemmas.proofs.Filters.{filter-in, filter-out, filter-all, filter-inner, any-at}
use Rattle.fw_time.specs.Stamp.{Stamp}
use Rattle.fw_frontier.specs.Frontier.{Frontier}
use Rattle.fw_frontier.specs.Front.{Front, frontier_of}
use Rattle.fw_flow.specs.declared.choice.Cut.TheVariants.{At}
use Rattle.fw_flow.specs.declared.event.Event.{Event}
use Rattle.fw_flow.specs.declared.event.Message.{Message}
use Rattle.fw_flow.specs.declared.node.Edge.{Edge}
use Rattle.fw_flow.specs.Dataflow.{System, Dataflow, kind_of, sender, edges_from, out_edges, bounds_of, send_stamp}
use Rattle.fw_flow.specs.NodeFunction.{event_node, event_stamp, sent_by}
use Rattle.fw_flow.specs.Projection.{events_at, all_inside}
use Rattle.fw_flow.specs.WellFormed.{may_keep_nothing}
use Rattle.fw_model.specs.Carried.{carried}
use Rattle.fw_model.specs.Machine.{SerialEvent, Write, Written, checkpoint, logged_event, Stage, in_flight, acknowledged, collected, events, front_of}
use Rattle.fw_model.specs.Choice.{ever, is_counted}
use Rattle.fw_model.specs.Steps.{inside_if_some, sends_inside, is_given_up, is_serial_given_up}
use Rattle.fw_model.specs.Filtering.{events_inside, messages_from, messages_outside}
use Rattle.fw_model.specs.Resending.{at_receiver}
use Rattle.fw_model.specs.Writes.{IsLoggedOnce}
use Rattle.fw_model.proofs.KindSorts.{kept-single}
use Rattle.fw_model.proofs.CarriedLaws.{carried-from, carried-outside}
use Rattle.fw_model.proofs.DomainLaws.{has_epochs}
use Rattle.fw_model.proofs.FilteredLaws.{set-frontier}
use Rattle.fw_model.proofs.SendsLaws.{IsOfCause, sent_by-of_cause}
use Rattle.fw_model.proofs.AskedLaws.{reached-all}
use Rattle.fw_model.proofs.RestoringLaws.{events-logged}
use Rattle.fw_model.proofs.CollectedLaws.{IsLoggedExact, collected-logged}
use Rattle.fw_model.specs.LawsOfReplay.{is_its_log, has_log, not_given_up, ReplayedEventsAreThoseNotGivenUp, ReplayedEventsSendTheSame, replayed_events}
use Rattle.fw_model.proofs.SendPartLaws.{part-sends, passing-send}

-- ---- which events are replayed

-- each event of a history that is given up is given up by its serial
own-given : (sys : System) (low : List Front) (h : List SerialEvent)
    → AllByRecursion (λ (v : SerialEvent). is_given_up sys low (event_node sys.flow v.event) (event_stamp v.event) ≡ true → is_serial_given_up sys low v.serial h ≡ true) h
own-given sys low [] = tt
own-given sys low (v ∷ h) =
    let given : SerialEvent → Bool = λ u. is_given_up sys low (event_node sys.flow u.event) (event_stamp u.event) in (
      λ g. or_left (v.serial == v.serial && given v) (is_serial_given_up sys low v.serial h)
          (and_from (v.serial == v.serial) (given v) (eq-eqb v.serial v.serial refl) g),
      each-weaker (λ (u : SerialEvent). given u ≡ true → is_serial_given_up sys low u.serial h ≡ true) (λ u. given u ≡ true → is_serial_given_up sys low u.serial (v ∷ h) ≡ true) h
          (λ u k g. or_right (v.serial == u.serial && given v) (is_serial_given_up sys low u.serial h) (k g)) (own-given sys low h),
    )

any-none : {X : Type 0} (test : X → Bool) (xs : List X) → AllByRecursion (λ x. test x ≡ false) xs → list_any test xs ≡ false
any-none test [] a = refl
any-none test (x ∷ xs) a = or_from (test x) (list_any test xs) a.0 (any-none test xs a.1)

-- an event that is given up has no log
given-log : (sys : System) (low : List Front) (h : List SerialEvent) (s : ℕ) → is_serial_given_up sys low s h ≡ true → (w : Written) (far : Stage)
    → IsLoggedExact sys low h w far → is_its_log s w far ≡ false
given-log sys low h s k (logged_event r) acknowledged a = false_from_ne_true (r == s) (λ e.
    let c = a.1 (ap (λ i. is_serial_given_up sys low i h) (eqb-true r s e) ∙ k) in absurd (cc c))
given-log sys low h s k (logged_event r) in_flight a = refl
given-log sys low h s k (logged_event r) collected a = refl
given-log sys low h s k (checkpoint g l) far a = refl

-- one that was acknowledged and not collected has
its-log : (s : ℕ) (w : Written) (far : Stage) → w ≡ logged_event s → is_counted ever far ≡ true → (far ≡ collected → ⊥) → is_its_log s w far ≡ true
its-log s (checkpoint g l) far e c n = absurd (cc)
its-log s (logged_event r) in_flight e c n = absurd (two_ways false c refl)
its-log s (logged_event r) acknowledged e c n = eq-eqb r s (ap serial_in e)
  where
    serial_in : Written → ℕ
    serial_in (checkpoint g l) = 0
    serial_in (logged_event i) = i
its-log s (logged_event r) collected e c n = absurd (n refl)

has-log : (sys : System) (low : List Front) (p : ℕ) (v : SerialEvent) (h : List SerialEvent) (writes : List Write)
    → AllByRecursion (λ (x : Write). IsLoggedExact sys low h x.written x.stage) writes → event_node sys.flow v.event ≡ p
    → (is_given_up sys low (event_node sys.flow v.event) (event_stamp v.event) ≡ true → is_serial_given_up sys low v.serial h ≡ true) → IsLoggedOnce sys low p v writes
    → has_log v.serial writes ≡ not_given_up sys low p (event_stamp v.event)
has-log sys low p v h writes exact e own once =
    let t = event_stamp v.event in
    let log : Write → Bool = λ x. is_its_log v.serial x.written x.stage in
    elim (cases_Bool (is_given_up sys low p t)) [
      | inl g ↦
          any-none log writes
          (each-weaker (λ (x : Write). IsLoggedExact sys low h x.written x.stage) (λ x. log x ≡ false) writes
          (λ x a. given-log sys low h v.serial (own (ap (λ q. is_given_up sys low q t) e ∙ g)) x.written x.stage a) exact)
          ∙ sym (ap not g)
      | inr g ↦
          let o = once.only in
          ap (list_any log) o.there
          ∙ any-at log o.earlier o.one o.later (its-log v.serial o.one.written o.one.stage o.is_such once.acknowledged (λ c. two_ways (is_given_up sys low p t) (once.given_up c) g))
          ∙ sym (ap not g)
    ]

-- the events that are replayed are those inside, without those that are given up
replayed-are : (sys : System) (p : ℕ) (f g : Frontier) (logged : ℕ → Bool) (h : List SerialEvent)
    → AllByRecursion (λ (v : SerialEvent). event_node sys.flow v.event ≡ p → f (event_stamp v.event) ≡ true → logged v.serial ≡ g (event_stamp v.event)) h
    → events (filter (λ (v : SerialEvent). event_node sys.flow v.event == p && f (event_stamp v.event) && logged v.serial) h) ≡ events_inside g (events_inside f (events_at sys.flow p (events h)))
replayed-are sys p f g logged [] a = refl
replayed-are sys p f g logged (v ∷ h) a =
    let test : SerialEvent → Bool = λ v. event_node sys.flow v.event == p && f (event_stamp v.event) && logged v.serial in
    let vs = events_at sys.flow p (events h) in
    let at : Event → Bool = λ u. event_node sys.flow u == p in
    let first : Event → Bool = λ u. f (event_stamp u) in
    let second : Event → Bool = λ u. g (event_stamp u) in
    let rest = replayed-are sys p f g logged h a.1 in
    let is = event_node sys.flow v.event == p in
    let inside = f (event_stamp v.event) in
    elim (cases_Bool is) [
      | inr other ↦
          ap events (filter-out test v h (and_left (is && inside) (logged v.serial) (and_left is inside other))) ∙ rest
          ∙ sym (ap (λ ws. events_inside g (events_inside f ws)) (filter-out at v.event (events h) other))
      | inl here ↦ elim (cases_Bool inside) [
        | inr other ↦
            ap events (filter-out test v h (and_left (is && inside) (logged v.serial) (and_right is inside other))) ∙ rest
            ∙ sym (ap (λ ws. events_inside g (events_inside f ws)) (filter-in at v.event (events h) here) ∙ ap (events_inside g) (filter-out first v.event vs other))
        | inl has ↦
            let same = a.0 (eqb-true (event_node sys.flow v.event) p here) has in
            let after = ap (λ ws. events_inside g (events_inside f ws)) (filter-in at v.event (events h) here) ∙ ap (events_inside g) (filter-in first v.event vs has) in
            elim (cases_Bool (logged v.serial)) [
              | inl k ↦
                  ap events (filter-in test v h (and_from (is && inside) (logged v.serial) (and_from is inside here has) k)) ∙ ap (λ ws. v.event ∷ ws) rest
                  ∙ sym (after ∙ filter-in second v.event (events_inside f vs) (sym same ∙ k))
              | inr k ↦
                  ap events (filter-out test v h (and_right (is && inside) (logged v.serial) k)) ∙ rest
                  ∙ sym (after ∙ filter-out second v.event (events_inside f vs) (sym same ∙ k))
            ]
      ]
    ]

-- ---- what is given up is sent inside the low watermarks of the receivers

-- what passes for all edges of a sender passes for each
edges_from-each : (d : Edge) (test : ℕ → Bool) (es : List Edge) (n i p : ℕ) → i < length es → (get_or es i d).sender ≡ p → list_all test (edges_from n es p) ≡ true → test (n + i) ≡ true
edges_from-each d test [] n i p l s k = absurd (omega arith)
edges_from-each d test (x ∷ es) n zero p l s k =
    let all = sym (ap (λ b. list_all test (cond b (n ∷ edges_from (n + 1) es p) (edges_from (n + 1) es p))) (eq-eqb x.sender p s)) ∙ k in
    let same : n + 0 ≡ n = omega arith in
    ap test same ∙ (and_parts (test n) (list_all test (edges_from (n + 1) es p)) all).0
edges_from-each d test (x ∷ es) n (suc i) p l s k =
    let same : n + suc i ≡ n + 1 + i = omega arith in
    ap test same
    ∙ edges_from-each d test es (n + 1) i p (omega arith) s
    (cond_both (x.sender == p) (n ∷ edges_from (n + 1) es p) (edges_from (n + 1) es p) (λ ds. list_all test ds ≡ true → list_all test (edges_from (n + 1) es p) ≡ true)
    (λ e j. (and_parts (test n) (list_all test (edges_from (n + 1) es p)) j).1) (λ e j. j) k)

out_edges-each : (flow : Dataflow) (test : ℕ → Bool) (p e : ℕ) → e < length flow.edges → sender flow e ≡ p → list_all test (out_edges flow p) ≡ true → test e ≡ true
unfolding out_edges sender
out_edges-each flow test p e l s k =
    let same : e ≡ 0 + e = omega arith in
    ap test same ∙ edges_from-each (record { name = []; sender = length flow.nodes; receiver = length flow.nodes }) test flow.edges 0 e p l s k

-- what a node sends from a stamp that is given up lies inside the low watermark of each edge's receiver
given-inside : (sys : System) (low : List Front) (p : ℕ) (t u : Stamp) (e : ℕ) → e < length sys.flow.edges → sender sys.flow e ≡ p → is_given_up sys low p t ≡ true
    → send_stamp sys.flow p t ≡ Some u → at_receiver sys low e u ≡ true
given-inside sys low p t u e l s g at =
    let within = (and_parts (may_keep_nothing (kind_of sys.flow p) && frontier_of (bounds_of sys.flow p) (front_at p) t) (sends_inside sys low p t (out_edges sys.flow p)) g).1 in
    sym (ap (inside_if_some (at_receiver sys low e)) at)
    ∙ out_edges-each sys.flow (λ d. inside_if_some (at_receiver sys low d) (send_stamp sys.flow p t)) p e l s within
  where
    front_at : ℕ → Front
    front_at q = front_of low q

-- outside the low watermark of a receiver what is not given up is all
given-adds_nothing : (sys : System) (low : List Front) (p e : ℕ) → may_keep_nothing (kind_of sys.flow p) ≡ true → e < length sys.flow.edges → sender sys.flow e ≡ p → (f : Frontier)
    → (vs : List Event) → messages_outside (at_receiver sys low e) (messages_from (not_given_up sys low p) (messages_from f (sent_by sys p vs)))
    ≡ messages_outside (at_receiver sys low e) (messages_from f (sent_by sys p vs))
unfolding IsOfCause
given-adds_nothing sys low p e may l s f vs =
    let g = not_given_up sys low p in
    let outside : Message → Bool = λ m. not (at_receiver sys low e m.at) in
    let from : Message → Bool = λ m. all_inside g m.causes in
    filter-inner outside from (messages_from f (sent_by sys p vs))
    (each-kept (λ m. outside m ≡ true → from m ≡ true) (λ m. all_inside f m.causes) (sent_by sys p vs)
    (each-weaker (IsOfCause sys.flow p) (λ m. outside m ≡ true → from m ≡ true) (sent_by sys p vs)
    (λ m a o.
    ap (all_inside g) a.2
    ∙ and_from (g a.0) true
    (ap not (false_from_ne_true (is_given_up sys low p a.0) (λ k.
    two_ways (at_receiver sys low e m.at) (given-inside sys low p a.0 m.at e l s k a.1) (not-true (at_receiver sys low e m.at) o)))) refl)
    (sent_by-of_cause sys p (kept-single (kind_of sys.flow p) may) vs)))

-- ---- the law

pub replayed-those : ReplayedEventsAreThoseNotGivenUp
replayed-those sys w steps outcomes last r lost choice m p f full cut =
    let h = last.history in
    let low = last.low in
    let b = frontier_of (bounds_of sys.flow p) f in
    let g = not_given_up sys low p in
    let exact = collected-logged sys w steps outcomes last r in
    let Own : SerialEvent → Type 0 = λ v. is_given_up sys low (event_node sys.flow v.event) (event_stamp v.event) ≡ true → is_serial_given_up sys low v.serial h ≡ true in
    let Once : SerialEvent → Type 0 = λ v. event_node sys.flow v.event ≡ p → b (event_stamp v.event) ≡ true → IsLoggedOnce sys low p v last.writes in
    replayed-are sys p b g (λ serial. has_log serial last.writes) h
    (each-weaker (λ v. Own v × Once v) (λ (v : SerialEvent). event_node sys.flow v.event ≡ p → b (event_stamp v.event) ≡ true → has_log v.serial last.writes ≡ g (event_stamp v.event)) h
    (λ v k at i. has-log sys low p v h last.writes exact at k.0 (k.1 at i))
    (each-both Own Once h (own-given sys low h) (events-logged sys w steps outcomes last r lost choice m p f full cut)))

pub replayed-send : ReplayedEventsSendTheSame
replayed-send sys w steps outcomes last r lost choice m p f full cut e l s =
    let h = events last.history in
    let b = frontier_of (bounds_of sys.flow p) f in
    let g = not_given_up sys last.low p in
    let vs = events_at sys.flow p h in
    let out = at_receiver sys last.low e in
    let inside : sent_by sys p (events_inside b vs) ≡ messages_from b (sent_by sys p vs) =
    part-sends sys h w.flow (has_epochs sys w) (reached-all sys w steps outcomes last r).recover.holds.legal p b (set-frontier sys p (At f)) in
    let same : messages_outside out (sent_by sys p (events_inside g (events_inside b vs))) ≡ messages_outside out (messages_from b (sent_by sys p vs)) =
    elim (cases_Bool (may_keep_nothing (kind_of sys.flow p))) [
      | inl may ↦
          ap (messages_outside out) (passing-send sys p may g (events_inside b vs) ∙ ap (messages_from g) inside)
          ∙ given-adds_nothing sys last.low p e may l s b vs
      | inr must ↦
          ap (λ ws. messages_outside out (sent_by sys p ws))
          (filter-all (λ v. g (event_stamp v)) (events_inside b vs)
          (each-one (λ v. g (event_stamp v) ≡ true) (events_inside b vs) (λ v. ap not (and_left _ _ (and_left _ _ must)))))
          ∙ ap (messages_outside out) inside
    ] in
    let those = sent_by sys p (replayed_events sys last p b) in
    let all : ℕ → List Message = λ q. sent_by sys q (events_at sys.flow q h) in
    let sent : messages_outside out those ≡ messages_outside out (messages_from b (all p)) =
    ap (λ ws. messages_outside out (sent_by sys p ws)) (replayed-those sys w steps outcomes last r lost choice m p f full cut) ∙ same in
    carried-outside sys.flow e out those
    ∙ ap (carried sys.flow e) sent
    ∙ sym (carried-outside sys.flow e out (messages_from b (all p)))
    ∙ sym (ap (messages_outside out) (carried-from sys.flow e b (all p)))
    ∙ ap (λ q. messages_outside out (messages_from b (carried sys.flow e (all q)))) (sym s)

-- Whether a choice of restore candidates is consistent is decided.
use Rattle.std.proofs.Common.{◌≡◌, ℕ, suc, ◌≤◌, Bool, true, false, not, ◌&&◌, ◌||◌, if◌then◌else◌, List, [], ◌∷◌, length, refl, ap, inl, inr, arith}
use Rattle.std.specs.List.{AllByRecursion}
use Rattle.std.specs.Ordering.{is_lt}
use Rattle.std.proofs.lemmas.Bool.{and_parts, and_from, cases_Bool}
use Rattle.fw_lemmas.proofs.Bools.{two_ways}
use Rattle.fw_time.specs.Stamp.{Stamp, leq, in_domain, stamp_cmp}
use Rattle.fw_time.specs.declared.stamp.Bounds.{Bounds}
use Rattle.fw_time.proofs.DomainLaws.{domain-leq}
use Rattle.fw_frontier.specs.Frontier.{Frontier, Within, nothing, everything, cover, some_above}
use Rattle.fw_frontier.specs.Front.{Front, inside, frontier_of, IsLeastBefore, IsCanonical}
use Rattle.fw_flow.specs.declared.choice.Cut.{Cut}
use Rattle.fw_flow.specs.declared.choice.Cut.TheVariants.{Present, At}
use Rattle.fw_flow.specs.Dataflow.{greatest_of_kind, System, kind_of, policy_of, sender, receiver, bounds_of, bounds_of_edge}
use Rattle.fw_flow.specs.NodeFunction.{event_node, event_stamp}
use Rattle.fw_flow.specs.Projection.{phi, psi_of_kind, psi}
use Rattle.fw_model.specs.History.{delivered_messages, sent_messages, injected_count, is_exhausted}
use Rattle.fw_model.specs.Machine.{Machine, SerialEvent, Write, Written, checkpoint, logged_event, Stage, events, no_stamps, front_of, ack_count_of}
use Rattle.fw_flow.specs.declared.choice.Choice.{Choice}
use Rattle.fw_model.specs.Choice.{View, kept, ever, is_counted, until, HasCheckpoint, IsLogged, AllLogged, IsRestorable, HoldsLow, IsCandidate, cut_of, notice_of, kept_of, IsConsistent}
use Rattle.fw_flow.specs.declared.restoring.Restoring.{Restoring}
use Rattle.fw_flow.specs.declared.restoring.Restoring.TheVariants.{Batches, Bound, Anything, Checkpoints, Events}
use Rattle.fw_flow.specs.Restoring.{can_resend, way_of}
use Rattle.fw_model.specs.Covers.{takes_its_cut, takes_its_notices, stamps_inside, stamps_from, notified_inside, discarded_at, covers_in, set_of, tallies_in}
use Rattle.fw_model.proofs.CmpLaws.{decided-front}
use Rattle.fw_model.proofs.Decisions.{Decided, decided-test, decided-or, decided-as, decided-and, decided-if, decided-number, decided-places, decided-each, find_place}
use Rattle.fw_model.proofs.StampLists.{find_stamp}

-- ---- within

-- what is inside a frontier of a domain lies within another, or does not
pub decided-within : (b : Bounds) (f g : Frontier) → ((t : Stamp) → f t ≡ true → in_domain b t ≡ true) → Decided (Within f g)
decided-within b f g d = elim (find_stamp (λ t. f t && not (g t)) b.greatest) [
  | inl w ↦
      let a = and_parts (f w.0) (not (g w.0)) w.2 in
      inr (λ k. two_ways (not (g w.0)) a.1 (ap not (k w.0 a.0)))
  | inr none ↦ inl (λ t i. elim (cases_Bool (g t)) [
    | inl e ↦ e
    | inr e ↦ absurd (two_ways (f t && not (g t)) (and_from (f t) (not (g t)) i (ap not e)) (none t (domain-leq b t (d t i))))
  ])
]

pub within-front : (b : Bounds) (os : Front) (g : Frontier) → Decided (Within (frontier_of b os) g)
within-front b os g = decided-within b (frontier_of b os) g (λ t i. (and_parts (in_domain b t) (inside os t) i).0)

pub within-cover : (b : Bounds) (ss : List Stamp) (g : Frontier) → Decided (Within (cover b ss) g)
within-cover b ss g = decided-within b (cover b ss) g (λ t i. (and_parts (in_domain b t) (some_above ss t) i).0)

pub within-flag : (c : Bool) (f g h : Frontier) → Decided (Within f h) → Decided (Within g h) → Decided (Within (if c then f else g) h)
within-flag true f g h p q = p
within-flag false f g h p q = q

-- ---- candidates

pub canonical-decided : (b : Bounds) (os : Front) → Decided (IsCanonical b os)
canonical-decided b [] = inl tt
canonical-decided b (o ∷ os) =
    decided-and
    (decided-as
    (λ (a : (in_domain b o ≡ true) × (AllByRecursion (λ q. is_lt (stamp_cmp o q) ≡ true) os × AllByRecursion (λ q. (leq o q || leq q o) ≡ false) os)).
    record { in_the_domain = a.0; ascending = a.1.0; incomparable = a.1.1 })
    (λ (l : IsLeastBefore b o os). (l.in_the_domain, (l.ascending, l.incomparable)))
    (decided-and (decided-test (in_domain b o) true)
    (decided-and (decided-each (λ q. is_lt (stamp_cmp o q) ≡ true) (λ q. decided-test (is_lt (stamp_cmp o q)) true) os)
    (decided-each (λ q. (leq o q || leq q o) ≡ false) (λ q. decided-test (leq o q || leq q o) false) os))))
    (canonical-decided b os)

has_checkpoint-decided : (view : View) (p : ℕ) (f : Front) (writes : List Write) → Decided (HasCheckpoint view p f writes)
has_checkpoint-decided view p f [] = inr (λ k. k)
has_checkpoint-decided view p f (write ∷ writes) = by write.node write.written write.stage (has_checkpoint-decided view p f writes)
  where
    by : (n : ℕ) (w : Written) (far : Stage) → Decided (HasCheckpoint view p f writes)
        → Decided (HasCheckpoint view p f (record write { node = n; written = w; stage = far } ∷ writes))
    by n (checkpoint g low) far rest =
        decided-or
        (decided-as (λ (a : (n ≡ p) × ((g ≡ f) × (is_counted view far ≡ true))). (a.0, a.1.0, a.1.1))
        (λ (a : (n ≡ p) × (g ≡ f) × (is_counted view far ≡ true)). (a.0, (a.1, a.2)))
        (decided-and (decided-number n p) (decided-and (decided-front g f) (decided-test (is_counted view far) true))))
        rest
    by n (logged_event serial) far rest = decided-or (inr (λ k. k)) rest

logged-decided : (serial : ℕ) (writes : List Write) → Decided (IsLogged serial writes)
logged-decided serial [] = inr (λ k. k)
logged-decided serial (write ∷ writes) = by write.node write.written write.stage (logged-decided serial writes)
  where
    by : (n : ℕ) (w : Written) (far : Stage) → Decided (IsLogged serial writes)
        → Decided (IsLogged serial (record write { node = n; written = w; stage = far } ∷ writes))
    by n (checkpoint g low) far rest = decided-or (inr (λ k. k)) rest
    by n (logged_event s) far rest = decided-or (decided-and (decided-number s serial) (decided-test (is_counted ever far) true)) rest

all_logged-decided : (sys : System) (p : ℕ) (f : Frontier) (writes : List Write) (h : List SerialEvent) → Decided (AllLogged sys p f writes h)
all_logged-decided sys p f writes [] = inl tt
all_logged-decided sys p f writes (v ∷ h) =
    decided-and
    (decided-if (decided-number (event_node sys.flow v.event) p)
    (decided-if (decided-test (f (event_stamp v.event)) true) (logged-decided v.serial writes)))
    (all_logged-decided sys p f writes h)

pub restorable-decided : (sys : System) (state : Machine) (view : View) (p : ℕ) (way : Restoring) (f : Front) → Decided (IsRestorable sys state view p way f)
restorable-decided sys state view p Batches f =
    let n = injected_count p (events state.history) in
    decided-or (until-decided n)
    (decided-and (decided-test (is_exhausted sys (events state.history) p) true) (decided-front f []))
  where
    until-decided : (n : ℕ) → Decided ((k : ℕ) × (k ≤ n) × (f ≡ until k))
    until-decided n = elim (find_place (suc n) (λ k. f ≡ until k) (λ k. decided-front f (until k))) [
      | inl w ↦ let l = w.1 in inl (w.0, omega arith, w.2)
      | inr none ↦ inr (λ w. let l = w.1 in none w.0 (omega arith) w.2)
    ]
restorable-decided sys state view p Bound f =
    let b = bounds_of sys.flow p in
    decided-and (within-front b f (frontier_of b (front_of state.settled p))) (within-front b f (frontier_of b (until (ack_count_of state p))))
restorable-decided sys state view p Anything f = within-front (bounds_of sys.flow p) f (frontier_of (bounds_of sys.flow p) (front_of state.settled p))
restorable-decided sys state view p Checkpoints f =
    decided-or (decided-front f (no_stamps (bounds_of sys.flow p))) (has_checkpoint-decided view p f state.writes)
restorable-decided sys state view p Events f =
    let b = bounds_of sys.flow p in
    decided-and (within-front b f (frontier_of b (front_of state.settled p))) (all_logged-decided sys p (frontier_of b f) state.writes state.history)

holds_low-decided : (b : Bounds) (view : View) (low : Front) (f : Frontier) → Decided (HoldsLow view (frontier_of b low) f)
holds_low-decided b kept low f = within-front b low f
holds_low-decided b ever low f = inl tt

pub candidate-decided : (sys : System) (state : Machine) (lost : ℕ → Bool) (view : View) (p : ℕ) (cut : Cut) → Decided (IsCandidate sys state lost view p cut)
candidate-decided sys state lost view p Present = decided-test (lost p) false
candidate-decided sys state lost view p (At f) =
    let b = bounds_of sys.flow p in
    let way = way_of sys.flow p in
    decided-as
    (λ (a : IsCanonical b f × (IsRestorable sys state view p way f × HoldsLow view (frontier_of b (front_of state.low p)) (frontier_of b f))). (a.0, a.1.0, a.1.1))
    (λ (a : IsCanonical b f × IsRestorable sys state view p way f × HoldsLow view (frontier_of b (front_of state.low p)) (frontier_of b f)). (a.0, (a.1, a.2)))
    (decided-and (canonical-decided b f) (decided-and (restorable-decided sys state view p way f) (holds_low-decided b view (front_of state.low p) (frontier_of b f))))

-- ---- the inclusions of a choice

pub delivered-decided : (sys : System) (state : Machine) (d : ℕ) (cut : Cut) (g : Frontier) → Decided (Within ((covers_in sys state).delivered d cut) g)
delivered-decided sys state d Present g =
    let b = bounds_of sys.flow (receiver sys.flow d) in
    within-cover b (stamps_inside (everything b) (delivered_messages (events state.history) d)) g
delivered-decided sys state d (At f) g =
    let p = receiver sys.flow d in
    let b = bounds_of sys.flow p in
    let ss = stamps_inside (frontier_of b f) (delivered_messages (events state.history) d) in
    within-flag (takes_its_cut (way_of sys.flow p)) (frontier_of b f) (cover b ss) g (within-front b f g) (within-cover b ss g)

pub notified-decided : (sys : System) (state : Machine) (p : ℕ) (cut : Cut) (g : Frontier) → Decided (Within ((covers_in sys state).notified p cut) g)
notified-decided sys state p Present g =
    within-cover (bounds_of sys.flow p) (notified_inside p (everything (bounds_of sys.flow p)) (events state.history)) g
notified-decided sys state p (At f) g =
    let b = bounds_of sys.flow p in
    let ss = notified_inside p (frontier_of b f) (events state.history) in
    within-flag (takes_its_notices (kind_of sys.flow p) (policy_of sys.flow p)) (frontier_of b f) (cover b ss) g (within-front b f g) (within-cover b ss g)

pub sent-decided : (sys : System) (state : Machine) (e : ℕ) (cut : Cut) (g : Frontier) → Decided (Within ((tallies_in sys state).sent e cut) g)
sent-decided sys state e cut g =
    within-cover (bounds_of sys.flow (receiver sys.flow e)) (stamps_from (set_of sys.flow (sender sys.flow e) cut) (sent_messages sys (events state.history) e)) g

pub psi-decided : (sys : System) (e : ℕ) (f g : Frontier) → Decided (Within (psi sys.flow e f) g)
unfolding psi
psi-decided sys e f g =
    decided-within (bounds_of_edge sys.flow e) (psi sys.flow e f) g
    (λ t i. (and_parts (in_domain (bounds_of_edge sys.flow e) t) (psi_of_kind (greatest_of_kind sys.flow (kind_of sys.flow (sender sys.flow e))) (kind_of sys.flow (sender sys.flow e)) f t) i).0)

pub discarded_at-decided : (sys : System) (state : Machine) (e : ℕ) (way : Restoring) (f : Front) (g : Frontier)
    → Decided (Within (discarded_at sys.flow e way ((tallies_in sys state).sent e (At f)) f) g)
discarded_at-decided sys state e Anything f g = psi-decided sys e (frontier_of (bounds_of sys.flow (sender sys.flow e)) f) g
discarded_at-decided sys state e way f g = sent-decided sys state e (At f) g

pub none-within : (g : Frontier) → Decided (Within nothing g)
none-within g = inl (λ t i. absurd (two_ways false i refl))

pub discarded-decided : (sys : System) (state : Machine) (e : ℕ) (cut : Cut) (g : Frontier) → Decided (Within ((covers_in sys state).discarded e cut) g)
discarded-decided sys state e Present g =
    within-flag (can_resend (policy_of sys.flow (sender sys.flow e))) nothing ((tallies_in sys state).sent e Present) g (none-within g) (sent-decided sys state e Present g)
discarded-decided sys state e (At f) g =
    let way = way_of sys.flow (sender sys.flow e) in
    within-flag (can_resend (policy_of sys.flow (sender sys.flow e))) nothing (discarded_at sys.flow e way ((tallies_in sys state).sent e (At f)) f) g
    (none-within g) (discarded_at-decided sys state e way f g)

-- ---- consistency

-- the inclusions of a choice at each node, and on each edge
record IsInclusive (sys : System) (state : Machine) (lost : ℕ → Bool) (view : View) (choice : Choice) (p : ℕ) : Type 0 where
  pub offered : IsCandidate sys state lost view p (cut_of choice p)
  pub canonical : IsCanonical (bounds_of sys.flow p) (front_of choice.notices p)
  pub notified : Within ((covers_in sys state).notified p (cut_of choice p)) (notice_of sys.flow choice p)
  pub own : Within (notice_of sys.flow choice p) (kept_of sys.flow choice p)

record IsCarried (sys : System) (state : Machine) (choice : Choice) (d : ℕ) : Type 0 where
  pub delivered : Within ((covers_in sys state).delivered d (cut_of choice (receiver sys.flow d))) (phi sys (events state.history) d (kept_of sys.flow choice (sender sys.flow d)))
  pub discarded : Within ((covers_in sys state).discarded d (cut_of choice (sender sys.flow d))) (kept_of sys.flow choice (receiver sys.flow d))
  pub notices : Within (notice_of sys.flow choice (receiver sys.flow d)) (phi sys (events state.history) d (notice_of sys.flow choice (sender sys.flow d)))

inclusive-decided : (sys : System) (state : Machine) (lost : ℕ → Bool) (view : View) (choice : Choice) (p : ℕ) → Decided (IsInclusive sys state lost view choice p)
inclusive-decided sys state lost view choice p = elim (candidate-decided sys state lost view p (cut_of choice p)) [
  | inr n ↦ inr (λ k. n k.offered)
  | inl a ↦ elim (canonical-decided (bounds_of sys.flow p) (front_of choice.notices p)) [
    | inr n ↦ inr (λ k. n k.canonical)
    | inl b ↦ elim (notified-decided sys state p (cut_of choice p) (notice_of sys.flow choice p)) [
      | inr n ↦ inr (λ k. n k.notified)
      | inl c ↦ elim (within-front (bounds_of sys.flow p) (front_of choice.notices p) (kept_of sys.flow choice p)) [
        | inr n ↦ inr (λ k. n k.own)
        | inl d ↦ inl (record { offered = a; canonical = b; notified = c; own = d })
      ]
    ]
  ]
]

carried-decided : (sys : System) (state : Machine) (choice : Choice) (d : ℕ) → Decided (IsCarried sys state choice d)
carried-decided sys state choice d =
    let p = receiver sys.flow d in
    let q = sender sys.flow d in
    let h = events state.history in
    elim (delivered-decided sys state d (cut_of choice p) (phi sys h d (kept_of sys.flow choice q))) [
      | inr n ↦ inr (λ k. n k.delivered)
      | inl a ↦ elim (discarded-decided sys state d (cut_of choice q) (kept_of sys.flow choice p)) [
        | inr n ↦ inr (λ k. n k.discarded)
        | inl b ↦ elim (within-front (bounds_of sys.flow p) (front_of choice.notices p) (phi sys h d (notice_of sys.flow choice q))) [
          | inr n ↦ inr (λ k. n k.notices)
          | inl c ↦ inl (record { delivered = a; discarded = b; notices = c })
        ]
      ]
    ]

pub consistent-decided : (sys : System) (state : Machine) (lost : ℕ → Bool) (view : View) (choice : Choice)
    → Decided (IsConsistent sys state (IsCandidate sys state lost view) choice)
consistent-decided sys state lost view choice =
    let n = length sys.flow.nodes in
    elim (decided-number (length choice.cuts) n) [
      | inr no_cuts ↦ inr (λ k. no_cuts k.one_cut_each)
      | inl a ↦ elim (decided-number (length choice.notices) n) [
        | inr no_notices ↦ inr (λ k. no_notices k.one_notice_each)
        | inl b ↦ elim (decided-places n (IsInclusive sys state lost view choice) (inclusive-decided sys state lost view choice)) [
          | inr r ↦ inr (λ k. r (λ p l. record { offered = k.offered p l; canonical = k.canonical p l; notified = k.notified p l; own = k.own p l }))
          | inl c ↦ elim (decided-places (length sys.flow.edges) (IsCarried sys state choice) (carried-decided sys state choice)) [
            | inr r ↦ inr (λ k. r (λ d l. record { delivered = k.delivered d l; discarded = k.discarded d l; notices = k.notices d l }))
            | inl d ↦ inl (record {
              one_cut_each = a;
              one_notice_each = b;
              offered = λ p l. (c p l).offered;
              canonical = λ p l. (c p l).canonical;
              delivered = λ e l. (d e l).delivered;
              discarded = λ e l. (d e l).discarded;
              notified = λ p l. (c p l).notified;
              own = λ p l. (c p l).own;
              notices = λ e l. (d e l).notices;
            })
          ]
        ]
      ]
    ]

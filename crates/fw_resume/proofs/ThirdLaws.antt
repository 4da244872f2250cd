-- The third front that an engine tells is the third frontier of the state for which it stands.
use Rattle.std.proofs.Common.{◌≡◌, ◌↔◌, ◌⊎◌, ℕ, Bool, true, false, not, ◌&&◌, ◌||◌, ◌==◌, cond, List, [], ◌∷◌, map, filter, refl, sym, ap, ◌∙◌, inl, inr}
use Rattle.std.specs.List.{AllByRecursion, Contains, list_any}
use Rattle.std.proofs.lemmas.Bool.{and_parts, and_from, cases_Bool, cond_both, eq-eqb, eqb-true, false_from_ne_true, not-true}
use Rattle.fw_lemmas.proofs.Bools.{two_ways}
use Rattle.fw_time.specs.Stamp.{Stamp, leq}
use Rattle.fw_time.proofs.StampLaws.{leq-trans}
use Rattle.fw_frontier.specs.Frontier.{Frontier}
use Rattle.fw_frontier.specs.Front.{Front, frontier_of, IsFrontOf}
use Rattle.fw_frontier.proofs.NamesLaws.{frontier-closed}
use Rattle.fw_flow.specs.declared.kind.Policy.TheVariants as policy
use Rattle.fw_flow.specs.Dataflow.{System, Dataflow, bounds_of, node_frontier, policy_of}
use Rattle.fw_flow.specs.NodeFunction.{event_node, event_stamp}
use Rattle.fw_flow.specs.WellFormed.{IsWellFormedSystem}
use Rattle.fw_model.specs.Choice.{AllLogged, is_serial_logged}
use Rattle.fw_model.specs.Machine.{Machine, SerialEvent, Write, front_of}
use Rattle.fw_model.specs.Reached.{IsReached}
use Rattle.fw_model.proofs.AskedLaws.{reached-all}
use Rattle.fw_keep.specs.declared.entry.Entry.{Entry}
use Rattle.fw_policy.specs.Offering.{below_all, unlogged_stamps}
use Rattle.fw_policy.specs.View.{KnowsLosses, HasAtOrBelow, IsLostAt}
use Rattle.fw_policy.proofs.ReadLaws.{entries-read}
use Rattle.fw_policy.proofs.UnloggedLaws.{IsOfEntries, logged-outside}
use Rattle.fw_regain.specs.Third.{stamps_not_logged, third_of}
use Rattle.fw_regain.proofs.ThirdLaws.{logged-is}
use Rattle.fw_policy.specs.Entries.{AreEntriesOf, uncollected}
use Rattle.fw_model.proofs.LoggedLaws.{live-logged}

-- ---- events that none logs

logged-none : (sys : System) (p : ℕ) (f : Frontier) (writes : List Write) (h : List SerialEvent) → AllLogged sys p f writes h
    → list_any f (map (λ (v : SerialEvent). event_stamp v.event) (filter (λ (v : SerialEvent). event_node sys.flow v.event == p && not (is_serial_logged v.serial writes)) h)) ≡ false
logged-none sys p f writes [] a = refl
logged-none sys p f writes (v ∷ h) a =
    let rest = logged-none sys p f writes h a.1 in
    let test : SerialEvent → Bool = λ u. event_node sys.flow u.event == p && not (is_serial_logged u.serial writes) in
    cond_both (test v) (v ∷ filter test h) (filter test h)
    (λ vs. list_any f (map (λ (u : SerialEvent). event_stamp u.event) vs) ≡ false)
    (λ k.
    let b = and_parts (event_node sys.flow v.event == p) (not (is_serial_logged v.serial writes)) k in
    let out : f (event_stamp v.event) ≡ false = false_from_ne_true (f (event_stamp v.event))
    (λ l. two_ways (is_serial_logged v.serial writes) ((logged-is v.serial writes).1 (a.0 (eqb-true (event_node sys.flow v.event) p b.0) l))
    (not-true (is_serial_logged v.serial writes) b.1)) in
    ap (λ c. c || list_any f (map (λ (u : SerialEvent). event_stamp u.event) (filter test h))) out ∙ rest)
    (λ k. rest)

or-false : (a b : Bool) → (a || b) ≡ false → (a ≡ false) × (b ≡ false)
or-false true b e = absurd (cc)
or-false false b e = (refl, e)

none-logged : (sys : System) (p : ℕ) (f : Frontier) (writes : List Write) (h : List SerialEvent)
    → list_any f (map (λ (v : SerialEvent). event_stamp v.event) (filter (λ (v : SerialEvent). event_node sys.flow v.event == p && not (is_serial_logged v.serial writes)) h)) ≡ false
    → AllLogged sys p f writes h
none-logged sys p f writes [] k = tt
none-logged sys p f writes (v ∷ h) k =
    let test : SerialEvent → Bool = λ u. event_node sys.flow u.event == p && not (is_serial_logged u.serial writes) in
    let stamps : List SerialEvent → List Stamp = λ vs. map (λ (u : SerialEvent). event_stamp u.event) vs in (
      λ e i. elim (cases_Bool (is_serial_logged v.serial writes)) [
        | inl l ↦ (logged-is v.serial writes).0 l
        | inr l ↦
            let passes : test v ≡ true = and_from (event_node sys.flow v.event == p) (not (is_serial_logged v.serial writes))
            (eq-eqb (event_node sys.flow v.event) p e) (ap not l) in
            let none = sym (ap (λ b. list_any f (stamps (cond b (v ∷ filter test h) (filter test h)))) passes) ∙ k in
            absurd (two_ways (f (event_stamp v.event)) i (or-false (f (event_stamp v.event)) (list_any f (stamps (filter test h))) none).0)
      ],
      none-logged sys p f writes h (cond_both (test v) (v ∷ filter test h) (filter test h)
          (λ vs. list_any f (stamps vs) ≡ false → list_any f (stamps (filter test h)) ≡ false)
          (λ c n. (or-false (f (event_stamp v.event)) (list_any f (stamps (filter test h))) n).1) (λ c n. n) k),
    )

any-none : (f : Frontier) (ss : List Stamp) → AllByRecursion (λ s. f s ≡ false) ss → list_any f ss ≡ false
any-none f [] a = refl
any-none f (s ∷ ss) a = ap (λ b. b || list_any f ss) a.0 ∙ any-none f ss a.1

none-any : (f : Frontier) (ss : List Stamp) → list_any f ss ≡ false → AllByRecursion (λ s. f s ≡ false) ss
none-any f [] e = tt
none-any f (s ∷ ss) e = let b = or-false (f s) (list_any f ss) e in (b.0, none-any f ss b.1)

same-tests : (a b : Bool) → (a ≡ false → b ≡ false) → (b ≡ false → a ≡ false) → a ≡ b
same-tests true true f g = refl
same-tests true false f g = g refl
same-tests false b f g = sym (f refl)

-- ---- the frontier

lesser-settled : (flow : Dataflow) (p : ℕ) (f : Front) (s t : Stamp) → leq s t ≡ true → node_frontier flow p f t ≡ true → node_frontier flow p f s ≡ true
unfolding bounds_of
lesser-settled flow p f s t l i =
    let fr = frontier-closed (bounds_of flow p) f in
    fr.closed s t (leq-trans s t (bounds_of flow p).greatest l (fr.inside_domain t i)) l i

third-same : (sys : System) (state : Machine) (p : ℕ) (entries : List Entry) (lost : List Stamp) → IsOfEntries sys state p entries → KnowsLosses sys state p lost
    → (t : Stamp) → below_all (unlogged_stamps p entries lost) (node_frontier sys.flow p (front_of state.settled p)) t ≡ third_of sys state p t
third-same sys state p entries lost o k t = by (cases_Bool (settled t))
  where
    settled : Frontier
    settled = node_frontier sys.flow p (front_of state.settled p)

    alike : settled t ≡ true → list_any (λ s. leq s t) (unlogged_stamps p entries lost) ≡ list_any (λ s. leq s t) (stamps_not_logged sys state p)
    alike i =
        let f : Frontier = λ s. leq s t in
        let m = logged-outside sys state p entries lost o k f (λ s x l j. leq-trans s x t l j) (λ s j. lesser-settled sys.flow p (front_of state.settled p) s t j i) in
        same-tests (list_any f (unlogged_stamps p entries lost)) (list_any f (stamps_not_logged sys state p))
        (λ e. logged-none sys p f state.writes state.history (m.1 (none-any f (unlogged_stamps p entries lost) e)))
        (λ e. any-none f (unlogged_stamps p entries lost) (m.0 (none-logged sys p f state.writes state.history e)))

    by : (settled t ≡ true) ⊎ (settled t ≡ false)
        → (settled t && not (list_any (λ s. leq s t) (unlogged_stamps p entries lost))) ≡ (settled t && not (list_any (λ s. leq s t) (stamps_not_logged sys state p)))
    by (inl i) = ap (λ b. settled t && not b) (alike i)
    by (inr i) = ap (λ b. b && not (list_any (λ s. leq s t) (unlogged_stamps p entries lost))) i ∙ sym (ap (λ b. b && not (list_any (λ s. leq s t) (stamps_not_logged sys state p))) i)

pub of_entries : (sys : System) (state : Machine) (p : ℕ) (entries : List Entry) → IsWellFormedSystem sys → IsReached sys state → policy_of sys.flow p ≡ policy.Full
    → AreEntriesOf sys state entries (uncollected state) → IsOfEntries sys state p entries
of_entries sys state p entries w r full a =
    let f = reached-all sys w r.0 r.1 state r.2 in record {
      written = entries-read sys state entries (uncollected state) a;
      apart = f.restore.apart;
      serials = f.restore.serials;
      live = λ l. live-logged sys w r.0 r.1 state r.2 p full l;
    }

pub third_told : (sys : System) (state : Machine) (p : ℕ) (entries : List Entry) (lost : List Stamp) (settled third : Front) → IsWellFormedSystem sys → IsReached sys state
    → policy_of sys.flow p ≡ policy.Full → AreEntriesOf sys state entries (uncollected state) → KnowsLosses sys state p lost → settled ≡ front_of state.settled p
    → IsFrontOf (bounds_of sys.flow p) third (below_all (unlogged_stamps p entries lost) (frontier_of (bounds_of sys.flow p) settled))
    → IsFrontOf (bounds_of sys.flow p) third (third_of sys state p)
third_told sys state p entries lost settled third w r full a k e f = record {
  canonical = f.canonical;
  same = λ t. f.same t ∙ ap (λ (g : Front). below_all (unlogged_stamps p entries lost) (frontier_of (bounds_of sys.flow p) g) t) e
      ∙ third-same sys state p entries lost (of_entries sys state p entries w r full a) k t;
}

-- where the stamps that were lost are known exactly, they are known as far as a recovery asks
pub losses_known : (sys : System) (state : Machine) (p : ℕ) (lost : List Stamp) → ((t : Stamp) → Contains lost t ↔ IsLostAt sys state p t) → KnowsLosses sys state p lost
losses_known sys state p lost k t i = (
  λ (h : HasAtOrBelow (Contains lost) t). (h.0, (k h.0).0 h.1, h.2),
  λ (h : HasAtOrBelow (IsLostAt sys state p) t). (h.0, (k h.0).1 h.1, h.2),
)

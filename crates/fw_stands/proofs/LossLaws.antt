-- What a failed node has lost stays: none of its writes is in flight, and nothing happens at it.
use Rattle.std.proofs.Common.{◌≡◌, ◌↔◌, ℕ, zero, suc, ◌<◌, Bool, true, false, not, ◌&&◌, ◌||◌, List, [], ◌∷◌, ◌++◌, length, filter, map, get_or, refl, sym, ap, subst, ◌∙◌, inl, inr, arith}
use Rattle.std.specs.List.{AllByRecursion, Contains}
use Rattle.std.proofs.lemmas.Bool.{and_parts, or_from, cases_lt, false_from_ne_true, not-true}
use Rattle.std.proofs.lemmas.List.{get_or_past}
use Rattle.std.proofs.lemmas.List.FromFn.{get_or-map-range_with_len, length-map-range_with_len}
use Rattle.fw_lemmas.proofs.Bools.{two_ways}
use Rattle.fw_lemmas.proofs.Each.{each-weaker, each-one, each-append, each-suffix, each-map, each-filter, each-passed, each-replaced}
use Rattle.fw_time.specs.Stamp.{Stamp}
use Rattle.fw_frontier.specs.Front.{Front, same_front}
use Rattle.fw_flow.specs.declared.event.Event.{Event as Happened}
use Rattle.fw_flow.specs.declared.event.Event.TheVariants.{Inject as Injected, Deliver as Delivered, Notify as Notified}
use Rattle.fw_flow.specs.declared.kind.Policy.{Policy}
use Rattle.fw_flow.specs.declared.kind.Policy.TheVariants as policy
use Rattle.fw_flow.specs.declared.step.Step.{Step}
use Rattle.fw_flow.specs.declared.step.Step.TheVariants.{Inject, Deliver, Notify, Progress as ProgressStep, Checkpoint as CheckpointStep, Persist, Fail, Recover, Collect, Ack}
use Rattle.fw_flow.specs.Dataflow.{System, policy_of, node_ids, is_one_of}
use Rattle.fw_flow.specs.NodeFunction.{event_node}
use Rattle.fw_flow.specs.WellFormed.{IsWellFormedSystem}
use Rattle.fw_model.specs.Choice.{ever, is_counted, IsLogged}
use Rattle.fw_model.specs.Machine.{Machine, SerialEvent, Write, Stage, in_flight, acknowledged, collected, checkpoint, logged_event, front_of, is_failed, first_state}
use Rattle.fw_model.specs.Machine.{Written as WrittenBy}
use Rattle.fw_model.specs.Reached.{IsReached}
use Rattle.fw_model.specs.Steps.{Effect, Outcome, did, idle, LeadsTo, Run, with_event, write_of_event, eager_writes, is_eager, checkpoint_of, is_in_flight, AcknowledgesOldest, with_failed, after_collection, front_of_cut, is_forgotten}
use Rattle.fw_model.proofs.AskedLaws.{eager-takes, takes-declared, IsAskedWell, IsWriteAskedWell, reached-all}
use Rattle.fw_model.proofs.ThinnedLaws.{each-contained}
use Rattle.fw_model.proofs.WriteLaws.{HoldsOfOne, some-append, some-mapped, some-replaced, NamesEvent, LogsEvent, some-logged, logged-some}
use Rattle.fw_model.proofs.ForgottenLaws.{still-flies}
use Rattle.fw_policy.specs.View.{IsLostAt}
use Rattle.fw_frontier.proofs.SameLaws.{same_front-itself}
use Rattle.fw_stands.proofs.EntryViews.{logged-left, logged-before}
use Rattle.fw_stands.proofs.EntrySteps.{event-flies}

-- ---- no write of a failed node is in flight

-- the node of a write in flight is not failed
abbrev IsLive : (ℕ → Bool) → Write → Type 0
IsLive failed x = is_in_flight x.stage ≡ true → failed x.node ≡ false

abbrev FlyLive : Machine → Type 0
FlyLive state = AllByRecursion (IsLive (is_failed state)) state.writes

event-live : (state : Machine) (asks : Policy) (p serial : ℕ) → is_failed state p ≡ false → AllByRecursion (IsLive (is_failed state)) (write_of_event asks p serial)
event-live state policy.Full p serial live = ((λ k. live), tt)
event-live state asks p serial live = tt

with-live : (sys : System) (state : Machine) (v : Happened) → is_failed state (event_node sys.flow v) ≡ false → FlyLive state → FlyLive (with_event sys state v)
with-live sys state v live a =
    let p = event_node sys.flow v in
    each-append (IsLive (is_failed state)) state.writes (write_of_event (policy_of sys.flow p) p state.next) a (event-live state (policy_of sys.flow p) p state.next live)

eager-live : (sys : System) (state : Machine) (settled : List Front) → ((p : ℕ) → p < length sys.flow.nodes → is_failed state p ≡ true → front_of settled p ≡ front_of state.settled p)
    → AllByRecursion (IsLive (is_failed state)) (eager_writes sys state settled (node_ids sys.flow))
eager-live sys state settled stays =
    let grows : ℕ → Bool = λ p. not (same_front (front_of state.settled p) (front_of settled p)) in
    let test : ℕ → Bool = λ p. is_eager (policy_of sys.flow p) && grows p in
    each-map (IsLive (is_failed state)) (λ p. checkpoint_of state p (front_of settled p)) (filter test (node_ids sys.flow))
    (each-filter (λ p. IsLive (is_failed state) (checkpoint_of state p (front_of settled p))) test (node_ids sys.flow)
    (each-one (λ p. test p ≡ true → IsLive (is_failed state) (checkpoint_of state p (front_of settled p))) (node_ids sys.flow)
    (λ p e k.
    let parts = and_parts (is_eager (policy_of sys.flow p)) (grows p) e in
    let l = takes-declared sys.flow p (eager-takes (policy_of sys.flow p) parts.0) in
    false_from_ne_true (is_failed state p) (λ f.
    two_ways (same_front (front_of state.settled p) (front_of settled p))
    (subst (λ g. same_front (front_of state.settled p) g ≡ true) (sym (stays p l f)) (same_front-itself (front_of state.settled p)))
    (not-true (same_front (front_of state.settled p) (front_of settled p)) parts.1)))))

-- whether a node is failed once these are
failed-then : (sys : System) (state : Machine) (ps : List ℕ) (p : ℕ) → is_failed state p ≡ false → is_one_of p ps ≡ false → get_or (with_failed sys state ps) p false ≡ false
failed-then sys state ps p live others = elim (cases_lt p (length sys.flow.nodes)) [
  | inl l ↦ get_or-map-range_with_len (λ q. is_failed state q || is_one_of q ps) 0 (length sys.flow.nodes) p p false l (omega arith)
      ∙ or_from (is_failed state p) (is_one_of p ps) live others
  | inr l ↦ get_or_past (with_failed sys state ps) p false (omega (arith, l, length-map-range_with_len (λ q. is_failed state q || is_one_of q ps) 0 (length sys.flow.nodes)))
]

none-failed : (ps : List ℕ) (p : ℕ) → get_or (map (λ (q : ℕ). false) ps) p false ≡ false
none-failed [] p = refl
none-failed (q ∷ ps) zero = refl
none-failed (q ∷ ps) (suc p) = none-failed ps p

took-live : (sys : System) (state : Machine) (step : Step) (next : Machine) (effect : Effect) → LeadsTo sys state step next effect → FlyLive state → FlyLive next
took-live sys state (Inject s) next effect t a = subst FlyLive (sym t.3) (with-live sys state (Injected s t.0) t.2 a)
took-live sys state (Deliver e at) next effect t a = subst FlyLive (sym t.3) (with-live sys state (Delivered e t.0) t.2 a)
took-live sys state (Notify p at) next effect t a = subst FlyLive (sym t.3) (with-live sys state (Notified p t.0) t.2 a)
took-live sys state ProgressStep next effect t a =
    subst FlyLive (sym t.3) (each-append (IsLive (is_failed state)) state.writes (eager_writes sys state t.1 (node_ids sys.flow)) a (eager-live sys state t.1 (t.2).failed))
took-live sys state (CheckpointStep p) next effect t a =
    subst FlyLive (sym t.3) (each-append (IsLive (is_failed state)) state.writes (checkpoint_of state p (front_of state.settled p) ∷ []) a ((λ k. t.1), tt))
took-live sys state Persist next effect t a =
    let k = t.1 in
    let P = IsLive (is_failed state) in
    subst FlyLive (sym t.2) (subst (AllByRecursion P) (sym k.after)
    (each-replaced P k.earlier k.oldest (record k.oldest { stage = acknowledged }) k.later (λ b i. absurd cc) (subst (AllByRecursion P) k.before a)))
took-live sys state (Fail ps) next effect t a =
    subst FlyLive (sym t.4)
    (each-passed (IsLive (is_failed state)) (IsLive (λ p. get_or (with_failed sys state ps) p false)) (λ write. not (is_one_of write.node ps && is_in_flight write.stage)) state.writes
    (λ x k b i.
    failed-then sys state ps x.node (b i) (false_from_ne_true (is_one_of x.node ps) (λ o.
    two_ways (is_one_of x.node ps && is_in_flight x.stage) (ap (λ c. c && is_in_flight x.stage) o ∙ i) (not-true (is_one_of x.node ps && is_in_flight x.stage) k)))) a)
took-live sys state Recover next effect t a =
    subst FlyLive (sym t.7)
    (each-one (IsLive (λ p. get_or (map (λ (q : ℕ). false) (node_ids sys.flow)) p false)) _ (λ x k. none-failed (node_ids sys.flow) x.node))
took-live sys state Collect next effect t a =
    let below : Write → Bool = λ x. is_forgotten sys (map front_of_cut t.0.cuts) state.history state.writes x in
    subst FlyLive (sym t.3)
    (each-map (IsLive (is_failed state)) (λ (x : Write). record x { stage = after_collection (below x) x.stage }) state.writes
    (each-weaker (IsLive (is_failed state)) (λ (x : Write). IsLive (is_failed state) (record x { stage = after_collection (below x) x.stage })) state.writes
    (λ x b k. b (sym (still-flies (below x) x.stage) ∙ k)) a))
took-live sys state (Ack o) next effect t a = subst FlyLive (sym t.2) a

run-live : (sys : System) (steps : List Step) (outcomes : List Outcome) (state last : Machine) → FlyLive state → Run sys state steps outcomes last → FlyLive last
run-live sys [] [] state last a r = subst FlyLive (sym r) a
run-live sys [] (o ∷ os) state last a r = absurd r
run-live sys (s ∷ ss) [] state last a r = absurd r
run-live sys (s ∷ ss) (did effect ∷ os) state last a r = run-live sys ss os r.0 last (took-live sys state s r.0 effect r.1 a) r.2
run-live sys (s ∷ ss) (idle ∷ os) state last a r = run-live sys ss os r.0 last (subst FlyLive (sym r.1.1) a) r.2

-- in a reached state no write of a failed node is in flight
pub reached-live : (sys : System) (state : Machine) → IsReached sys state → FlyLive state
reached-live sys state r = run-live sys r.0 r.1 (first_state sys) state tt r.2

-- ---- what is logged

-- the event of the serial is logged in one state exactly where it is in the other
abbrev LoggedAlike : ℕ → List Write → List Write → Type 0
LoggedAlike s xs ys = (IsLogged s xs → IsLogged s ys) × (IsLogged s ys → IsLogged s xs)

names-not-flying : (s : ℕ) (what : WrittenBy) (far : Stage) → far ≡ in_flight → NamesEvent s what far → ⊥
names-not-flying s (checkpoint f low) far e k = k
names-not-flying s (logged_event n) far e k = let c : false ≡ true = sym (ap (is_counted ever) e) ∙ k.1 in absurd cc

some-first : (s : ℕ) (xs ys : List Write) → AllByRecursion (λ (x : Write). x.stage ≡ in_flight) ys → HoldsOfOne (LogsEvent s) (xs ++ ys) → HoldsOfOne (LogsEvent s) xs
some-first s [] [] a k = k
some-first s [] (y ∷ ys) a (inl k) = absurd (names-not-flying s y.written y.stage a.0 k)
some-first s [] (y ∷ ys) a (inr k) = some-first s [] ys a.1 k
some-first s (x ∷ xs) ys a (inl k) = inl k
some-first s (x ∷ xs) ys a (inr k) = inr (some-first s xs ys a k)

-- writes in flight log nothing yet
alike-asked : (s : ℕ) (xs ys : List Write) → AllByRecursion (λ (x : Write). x.stage ≡ in_flight) ys → LoggedAlike s xs (xs ++ ys)
alike-asked s xs ys a = (
  (λ k. logged-some s (xs ++ ys) (some-append (LogsEvent s) xs ys (some-logged s xs k))),
  λ k. logged-some s xs (some-first s xs ys a (some-logged s (xs ++ ys) k)),
)

some-as : (s : ℕ) (xs : List Write) (y z : Write) (ys : List Write) → (LogsEvent s y → LogsEvent s z) → HoldsOfOne (LogsEvent s) (xs ++ y ∷ ys) → HoldsOfOne (LogsEvent s) (xs ++ z ∷ ys)
some-as s xs y z ys k = some-replaced (LogsEvent s) xs y z ys k

names-written : (s : ℕ) (what : WrittenBy) (far : Stage) → NamesEvent s what far → what ≡ logged_event s
names-written s (checkpoint f low) far k = absurd k
names-written s (logged_event n) far k = ap logged_event k.0

-- an acknowledgement logs an event of the node of its write alone
alike-acknowledged : (s : ℕ) (xs next : List Write) (k : AcknowledgesOldest xs next) → ((k.oldest).written ≡ logged_event s → ⊥) → LoggedAlike s xs next
alike-acknowledged s xs next k other =
    let y = k.oldest in
    let z : Write = record y { stage = acknowledged } in (
      (λ a. logged-some s next (subst (HoldsOfOne (LogsEvent s)) (sym k.after)
          (some-as s k.earlier y z k.later (λ n. absurd (other (names-written s y.written y.stage n))) (subst (HoldsOfOne (LogsEvent s)) k.before (some-logged s xs a))))),
      λ a. logged-some s xs (subst (HoldsOfOne (LogsEvent s)) (sym k.before)
          (some-as s k.earlier z y k.later (λ n. absurd (other (names-written s y.written acknowledged n))) (subst (HoldsOfOne (LogsEvent s)) k.after (some-logged s next a)))),
    )

pub counts-collected : (below : Bool) (far : Stage) → is_counted ever (after_collection below far) ≡ is_counted ever far
counts-collected below in_flight = refl
counts-collected true acknowledged = refl
counts-collected false acknowledged = refl
counts-collected below collected = refl

names-far : (s : ℕ) (what : WrittenBy) (far then : Stage) → is_counted ever then ≡ is_counted ever far → NamesEvent s what far → NamesEvent s what then
names-far s (checkpoint f low) far then e k = k
names-far s (logged_event n) far then e k = (k.0, e ∙ k.1)

some-mapped-back : {A B : Type 0} (P : A → Type 0) (Q : B → Type 0) (f : A → B) (xs : List A) → ((x : A) → Q (f x) → P x) → HoldsOfOne Q (map f xs) → HoldsOfOne P xs
some-mapped-back P Q f [] w a = absurd a
some-mapped-back P Q f (x ∷ xs) w (inl a) = inl (w x a)
some-mapped-back P Q f (x ∷ xs) w (inr a) = inr (some-mapped-back P Q f xs w a)

alike-collected : (s : ℕ) (below : Write → Bool) (xs : List Write) → LoggedAlike s xs (map (λ (x : Write). record x { stage = after_collection (below x) x.stage }) xs)
alike-collected s below xs =
    let far : Write → Write = λ (x : Write). record x { stage = after_collection (below x) x.stage } in (
      (λ k. logged-some s (map far xs) (some-mapped (LogsEvent s) (LogsEvent s) far xs
          (λ x n. names-far s x.written x.stage (after_collection (below x) x.stage) (counts-collected (below x) x.stage) n) (some-logged s xs k))),
      λ k. logged-some s xs (some-mapped-back (LogsEvent s) (LogsEvent s) far xs
          (λ x n. names-far s x.written (after_collection (below x) x.stage) x.stage (sym (counts-collected (below x) x.stage)) n) (some-logged s (map far xs) k)),
    )

-- ---- what is lost

-- the events of node p are there and logged alike in two states
record AreAlikeAt (sys : System) (state next : Machine) (p : ℕ) : Type 0 where
  later : (v : SerialEvent) → event_node sys.flow v.event ≡ p → Contains state.history v → Contains next.history v
  before : (v : SerialEvent) → event_node sys.flow v.event ≡ p → Contains next.history v → Contains state.history v
  logged : (v : SerialEvent) → event_node sys.flow v.event ≡ p → Contains state.history v → LoggedAlike v.serial state.writes next.writes

lost-alike : (sys : System) (state next : Machine) (p : ℕ) → is_failed state p ≡ true → is_failed next p ≡ true → AreAlikeAt sys state next p → (t : Stamp)
    → IsLostAt sys next p t ↔ IsLostAt sys state p t
lost-alike sys state next p old new a t = (
  (λ i.
      let u = i.1 in
      let there = a.before u.event u.is.node u.there in (
        old,
        record { event = u.event; there = there; is = u.is; not_logged = λ l. u.not_logged ((a.logged u.event u.is.node there).0 l) },
      )),
  λ i.
      let u = i.1 in (
        new,
        record {
          event = u.event;
          there = a.later u.event u.is.node u.there;
          is = u.is;
          not_logged = λ l. u.not_logged ((a.logged u.event u.is.node u.there).1 l);
        },
      ),
)

same-history : (sys : System) (state next : Machine) (p : ℕ) → next.history ≡ state.history
    → ((v : SerialEvent) → event_node sys.flow v.event ≡ p → Contains state.history v → LoggedAlike v.serial state.writes next.writes) → AreAlikeAt sys state next p
same-history sys state next p e k = record {
  later = λ v n c. subst (λ h. Contains h v) (sym e) c;
  before = λ v n c. subst (λ h. Contains h v) e c;
  logged = k;
}

contains-later : (u v : SerialEvent) (h : List SerialEvent) → Contains h v → Contains (u ∷ h) v
contains-later u v h c = let l = c.1 in (suc c.0, omega arith, c.2)

contains-before : (u v : SerialEvent) (h : List SerialEvent) → (u ≡ v → ⊥) → Contains (u ∷ h) v → Contains h v
contains-before u v h other (zero, l, e) = absurd (other e)
contains-before u v h other (suc k, l, e) = (k, omega arith, e)

event-alike : (sys : System) (state next : Machine) (v : Happened) (p : ℕ) → next ≡ with_event sys state v → is_failed state (event_node sys.flow v) ≡ false → is_failed state p ≡ true
    → AreAlikeAt sys state next p
event-alike sys state next v p e live lost =
    let q = event_node sys.flow v in
    let now : SerialEvent = record { serial = state.next; event = v } in
    let other : q ≡ p → ⊥ = λ i. two_ways (is_failed state p) lost (sym (ap (is_failed state) i) ∙ live) in
    let history : next.history ≡ now ∷ state.history = ap (λ (m : Machine). m.history) e in
    let more = write_of_event (policy_of sys.flow q) q state.next in
    record {
      later = λ u n c. subst (λ h. Contains h u) (sym history) (contains-later now u state.history c);
      before = λ u n c.
          contains-before now u state.history (λ i. other (ap (λ (x : SerialEvent). event_node sys.flow x.event) i ∙ n)) (subst (λ h. Contains h u) history c);
      logged = λ u n c.
          subst (LoggedAlike u.serial state.writes) (sym (ap (λ (m : Machine). m.writes) e))
          (alike-asked u.serial state.writes more (event-flies (policy_of sys.flow q) q state.next));
    }

eager-flies : (sys : System) (state : Machine) (settled : List Front) → AllByRecursion (λ (x : Write). x.stage ≡ in_flight) (eager_writes sys state settled (node_ids sys.flow))
eager-flies sys state settled =
    each-map (λ (x : Write). x.stage ≡ in_flight) (λ p. checkpoint_of state p (front_of settled p))
    (filter (λ p. is_eager (policy_of sys.flow p) && not (same_front (front_of state.settled p) (front_of settled p))) (node_ids sys.flow))
    (each-one (λ p. in_flight ≡ in_flight) _ (λ p. refl))

-- the serial of a node's event is logged by none of another node's writes
logs-own : (sys : System) (low : List Front) (next n s : ℕ) (h : List SerialEvent) (what : WrittenBy) (far : Stage) → IsAskedWell sys low next h n what far → what ≡ logged_event s
    → AllByRecursion (λ (v : SerialEvent). v.serial ≡ s → event_node sys.flow v.event ≡ n) h
logs-own sys low next n s h what far a e = (subst (λ x. IsAskedWell sys low next h n x far) e a).1

-- a node that failed before has lost what it had lost, whatever step but a recovery is taken
pub losses_stay : (sys : System) → IsWellFormedSystem sys → (state : Machine) → IsReached sys state
    → (step : Step) (next : Machine) (effect : Effect) → LeadsTo sys state step next effect
    → (p : ℕ) → is_failed state p ≡ true → is_failed next p ≡ true → (t : Stamp) → IsLostAt sys next p t ↔ IsLostAt sys state p t
losses_stay sys w state r step next effect t p old new at = lost-alike sys state next p old new (by step t) at
  where
    by : (s : Step) → LeadsTo sys state s next effect → AreAlikeAt sys state next p
    by (Inject s) t = event-alike sys state next (Injected s t.0) p t.3 t.2 old
    by (Deliver e a) t = event-alike sys state next (Delivered e t.0) p t.3 t.2 old
    by (Notify q a) t = event-alike sys state next (Notified q t.0) p t.3 t.2 old
    by ProgressStep t =
        let asks : List Write = eager_writes sys state t.1 (node_ids sys.flow) in
        same-history sys state next p (ap (λ (m : Machine). m.history) t.3)
        (λ v n c. subst (LoggedAlike v.serial state.writes) (sym (ap (λ (m : Machine). m.writes) t.3)) (alike-asked v.serial state.writes asks (eager-flies sys state t.1)))
    by (CheckpointStep q) t =
        let asks : List Write = checkpoint_of state q (front_of state.settled q) ∷ [] in
        same-history sys state next p (ap (λ (m : Machine). m.history) t.3)
        (λ v n c. subst (LoggedAlike v.serial state.writes) (sym (ap (λ (m : Machine). m.writes) t.3)) (alike-asked v.serial state.writes asks (refl, tt)))
    by Persist t =
        let k = t.1 in
        let o = k.oldest in
        let W : Write → Type 0 = IsWriteAskedWell sys state.low state.next state.history in
        let L : Write → Type 0 = IsLive (is_failed state) in
        let well : W o = (each-suffix W k.earlier (o ∷ k.later) (subst (AllByRecursion W) k.before (reached-all sys w r.0 r.1 state r.2).restore.asked)).0 in
        let live : is_failed state o.node ≡ false = (each-suffix L k.earlier (o ∷ k.later) (subst (AllByRecursion L) k.before (reached-live sys state r))).0 k.in_flight in
        same-history sys state next p (ap (λ (m : Machine). m.history) t.2)
        (λ v n c. subst (LoggedAlike v.serial state.writes) (sym (ap (λ (m : Machine). m.writes) t.2))
        (alike-acknowledged v.serial state.writes t.0 k (λ e.
        let own : event_node sys.flow v.event ≡ o.node =
        each-contained (λ (x : SerialEvent). x.serial ≡ v.serial → event_node sys.flow x.event ≡ o.node) v state.history c
        (logs-own sys state.low state.next o.node v.serial state.history o.written o.stage well e) refl in
        two_ways (is_failed state p) old (sym (ap (is_failed state) (sym own ∙ n)) ∙ live))))
    by (Fail ps) t =
        same-history sys state next p (ap (λ (m : Machine). m.history) t.4)
        (λ v n c. subst (LoggedAlike v.serial state.writes) (sym (ap (λ (m : Machine). m.writes) t.4))
        ((λ k. logged-left ps v.serial state.writes k), λ k. logged-before ps v.serial state.writes k))
    by Recover t = absurd (two_ways (is_failed next p) new (ap (λ (m : Machine). is_failed m p) t.7 ∙ none-failed (node_ids sys.flow) p))
    by Collect t =
        same-history sys state next p (ap (λ (m : Machine). m.history) t.3)
        (λ v n c. subst (LoggedAlike v.serial state.writes) (sym (ap (λ (m : Machine). m.writes) t.3))
        (alike-collected v.serial (is_forgotten sys (map front_of_cut t.0.cuts) state.history state.writes) state.writes))
    by (Ack o) t =
        same-history sys state next p (ap (λ (m : Machine). m.history) t.2)
        (λ v n c. subst (LoggedAlike v.serial state.writes) (sym (ap (λ (m : Machine). m.writes) t.2)) ((λ k. k), λ k. k))

-- What entries tell: the newest checkpoint, and what is lost with a node.
use Rattle.std.proofs.Common.{◌≡◌, ◌↔◌, ℕ, Bool, true, false, cond, not, ◌&&◌, ◌||◌, ◌==◌, List, [], ◌∷◌, ◌++◌, length, option_to_list, refl, sym, ap, subst, ◌∙◌, inl, inr, ◌⊎◌, arith, ◌≢◌}
use Rattle.std.specs.List.{Contains}
use Rattle.std.proofs.lemmas.Bool.{or_right}
use Rattle.std.proofs.lemmas.List.FromFn.{get_or-map-range_with_len}
use Rattle.fw_lemmas.proofs.Bools.{two_ways}
use Rattle.fw_time.specs.Stamp.{Stamp}
use Rattle.fw_flow.specs.declared.kind.Policy.TheVariants as policy
use Rattle.fw_flow.specs.declared.step.Step.TheVariants.{Fail, Checkpoint as CheckpointStep}
use Rattle.fw_flow.specs.Dataflow.{System, policy_of, bounds_of, is_one_of}
use Rattle.fw_flow.specs.NodeFunction.{event_node, event_stamp}
use Rattle.fw_flow.specs.WellFormed.{IsWellFormedSystem}
use Rattle.fw_model.specs.Choice.{IsLogged}
use Rattle.fw_model.specs.Machine.{Machine, SerialEvent, Write, Stage, in_flight, acknowledged, collected, checkpoint, logged_event, is_failed, front_of, no_stamps}
use Rattle.fw_model.specs.Machine.{Written as WrittenBy}
use Rattle.fw_model.specs.Steps.{Effect, LeadsTo, checkpoint_of, checkpoint_front, checkpoints_of, last_or, is_in_flight, without_lost, is_asked_for_checkpoints, silent, newest_checkpoint}
use Rattle.fw_model.proofs.AskedLaws.{reached-all}
use Rattle.fw_model.proofs.LoggedLaws.{live-logged}
use Rattle.fw_model.proofs.NewestLaws.{newest-kept}
use Rattle.fw_model.proofs.RestoringLaws.{full-declared}
use Rattle.fw_model.proofs.ThinnedLaws.{each-contained}
use Rattle.fw_model.proofs.WriteLaws.{some-passed, NamesEvent, LogsEvent, some-logged, logged-some}
use Rattle.fw_keep.specs.declared.entry.Entry.{Entry}
use Rattle.fw_keep.specs.Entry.{written_front}
use Rattle.fw_keep.specs.declared.entry.Written.{Written}
use Rattle.fw_keep.specs.declared.entry.Written.TheVariants as written
use Rattle.fw_policy.specs.View.{IsLostAt}
use Rattle.fw_policy.specs.Offering.{stamps_in_flight}
use Rattle.fw_model.proofs.SentStandLaws.{IsOne, one-contained, contained-one}
use Rattle.fw_model.specs.Reached.{IsReached}
use Rattle.fw_policy.proofs.ReadLaws.{entries-read}
use Rattle.fw_policy.proofs.UnloggedLaws.{IsOfEntries, flying-unlogged, unlogged-has, some-filtered}
use Rattle.fw_stands.specs.Written.{HoldsWhatIsWritten, AreEntriesOf, uncollected}
use Rattle.fw_stands.specs.Entries.{entry_fronts}
use Rattle.fw_frontier.specs.Front.{Front}

-- ---- the newest checkpoint

front-alike : (sys : System) (state : Machine) (p : ℕ) (entry : Written) (what : WrittenBy) → HoldsWhatIsWritten sys state p entry what → option_to_list (written_front entry) ≡ checkpoint_front what
front-alike sys state p (written.Checkpoint r s n) (checkpoint f low) h = ap (λ g. g ∷ []) (h.recorded).front
front-alike sys state p (written.Checkpoint r t n) (logged_event s) h = absurd h
front-alike sys state p (written.Event event) (checkpoint f low) h = absurd h
front-alike sys state p (written.Event event) (logged_event s) h = refl

-- the checkpoints of a node stand in the entries as among the writes
pub fronts-alike : (sys : System) (state : Machine) (p : ℕ) (es : List Entry) (xs : List Write) → AreEntriesOf sys state es xs → entry_fronts p es ≡ checkpoints_of p xs
fronts-alike sys state p [] [] a = refl
fronts-alike sys state p [] (x ∷ xs) a = absurd a
fronts-alike sys state p (e ∷ es) [] a = absurd a
fronts-alike sys state p (e ∷ es) (x ∷ xs) a =
    ap (λ n. cond (n == p) (option_to_list (written_front e.written)) [] ++ entry_fronts p es) (a.0).node
    ∙ ap (λ fs. cond (x.node == p) fs [] ++ entry_fronts p es) (front-alike sys state x.node e.written x.written (a.0).holds)
    ∙ ap (λ fs. cond (x.node == p) (checkpoint_front x.written) [] ++ fs) (fronts-alike sys state p es xs a.1)

-- the frontier of the last entry of a checkpoint of node p, or the given one where there is none, is that of its newest checkpoint
pub last_entry_is_of_newest_checkpoint : (sys : System) → IsWellFormedSystem sys → (state : Machine) → IsReached sys state
    → (entries : List Entry) → AreEntriesOf sys state entries (uncollected state)
    → (p : ℕ) (f : Front) → last_or f (entry_fronts p entries) ≡ newest_checkpoint p f state.writes
last_entry_is_of_newest_checkpoint sys w state r es a p f =
    ap (last_or f) (fronts-alike sys state p es (uncollected state) a) ∙ sym (newest-kept sys w r.0 r.1 state r.2 p f)

-- a node that takes checkpoints when asked and is not failed takes one exactly where what is settled is not the frontier of the
-- last entry of a checkpoint of the node, or no stamps where there is none
pub takes_checkpoints_by_last_entry : (sys : System) → IsWellFormedSystem sys → (state : Machine) → IsReached sys state
    → (entries : List Entry) → AreEntriesOf sys state entries (uncollected state)
    → (p : ℕ) → is_asked_for_checkpoints (policy_of sys.flow p) ≡ true → is_failed state p ≡ false
    → (front_of state.settled p ≢ last_or (no_stamps (bounds_of sys.flow p)) (entry_fronts p entries))
    ↔ ((next : Machine) × LeadsTo sys state (CheckpointStep p) next silent)
takes_checkpoints_by_last_entry sys w state r es a p asked live =
    let none = no_stamps (bounds_of sys.flow p) in
    let same = last_entry_is_of_newest_checkpoint sys w state r es a p none in (
      λ other. (
        record state { writes = state.writes ++ checkpoint_of state p (front_of state.settled p) ∷ [] },
        (asked, live, (λ e. other (e ∙ sym same)), refl, refl),
      ),
      λ k. let t = k.1 in λ e. t.2 (e ∙ same),
    )

-- it asks a checkpoint at what is settled
pub checkpoint_asks : (sys : System) (state : Machine) (p : ℕ) (next : Machine) (effect : Effect) → LeadsTo sys state (CheckpointStep p) next effect
    → next.writes ≡ state.writes ++ checkpoint_of state p (front_of state.settled p) ∷ []
checkpoint_asks sys state p next effect t = ap (λ (m : Machine). m.writes) t.3

-- ---- what is lost

names-lands : (s : ℕ) (what : WrittenBy) (far : Stage) → NamesEvent s what far → is_in_flight far ≡ false
names-lands s (checkpoint f low) far k = absurd k
names-lands s (logged_event n) in_flight k = absurd cc
names-lands s (logged_event n) acknowledged k = refl
names-lands s (logged_event n) collected k = refl

-- what was logged is so without the writes in flight of some nodes
pub logged-left : (ps : List ℕ) (s : ℕ) (xs : List Write) → IsLogged s xs → IsLogged s (without_lost ps xs)
logged-left ps s xs k =
    logged-some s (without_lost ps xs) (some-passed (LogsEvent s) (λ write. not (is_one_of write.node ps && is_in_flight write.stage)) xs
    (λ x a. ap (λ b. not (is_one_of x.node ps && b)) (names-lands s x.written x.stage a) ∙ none (is_one_of x.node ps)) (some-logged s xs k))
  where
    none : (b : Bool) → not (b && false) ≡ true
    none true = refl
    none false = refl

pub logged-before : (ps : List ℕ) (s : ℕ) (xs : List Write) → IsLogged s (without_lost ps xs) → IsLogged s xs
logged-before ps s xs k =
    logged-some s xs (some-filtered (LogsEvent s) (λ write. not (is_one_of write.node ps && is_in_flight write.stage)) xs (some-logged s (without_lost ps xs) k))

fails-now : (sys : System) (state next : Machine) (effect : Effect) (ps : List ℕ) → LeadsTo sys state (Fail ps) next effect → (p : ℕ) → policy_of sys.flow p ≡ policy.Full → is_one_of p ps ≡ true
    → is_failed next p ≡ true
fails-now sys state next effect ps t p full k =
    ap (λ (m : Machine). is_failed m p) t.4
    ∙ get_or-map-range_with_len (λ q. is_failed state q || is_one_of q ps) 0 (length sys.flow.nodes) p p false (full-declared sys.flow p full) (omega arith)
    ∙ or_right (is_failed state p) (is_one_of p ps) k

-- the stamps at which a node that logs each event loses events as it fails are those of its events in flight
pub loses_what_is_in_flight : (sys : System) → IsWellFormedSystem sys → (state : Machine) → IsReached sys state
    → (ps : List ℕ) (next : Machine) (effect : Effect) → LeadsTo sys state (Fail ps) next effect
    → (entries : List Entry) → AreEntriesOf sys state entries (uncollected state)
    → (p : ℕ) → policy_of sys.flow p ≡ policy.Full → is_failed state p ≡ false → is_one_of p ps ≡ true
    → (t : Stamp) → IsLostAt sys next p t ↔ Contains (stamps_in_flight p entries) t
loses_what_is_in_flight sys w state r ps next effect t es a p full live one at =
    let f = reached-all sys w r.0 r.1 state r.2 in
    let o : IsOfEntries sys state p es = record {
      written = entries-read sys state es (uncollected state) a;
      apart = f.restore.apart;
      serials = f.restore.serials;
      live = λ l. live-logged sys w r.0 r.1 state r.2 p full l;
    } in
    let writes : next.writes ≡ without_lost ps state.writes = ap (λ (m : Machine). m.writes) t.4 in
    let history : next.history ≡ state.history = ap (λ (m : Machine). m.history) t.4 in (
      λ i.
          let u = i.1 in
          let v = u.event in
          let Has : SerialEvent → Type 0 = λ x. event_node sys.flow x.event ≡ p
          → IsLogged x.serial state.writes ⊎ (IsOne (event_stamp x.event) (stamps_in_flight p es) ⊎ IsLostAt sys state p (event_stamp x.event)) in
          let has = each-contained Has v state.history (subst (λ h. Contains h v) history u.there) (unlogged-has sys state p es o) u.is.node in
          elim has [
            | inl l ↦ absurd (u.not_logged (subst (IsLogged v.serial) (sym writes) (logged-left ps v.serial state.writes l)))
            | inr out ↦ elim out [
              | inl k ↦ one-contained at (stamps_in_flight p es) (subst (λ s. IsOne s (stamps_in_flight p es)) u.is.stamp k)
              | inr k ↦ absurd (two_ways (is_failed state p) k.0 live)
            ]
          ],
      λ c.
          let u = flying-unlogged sys state p es o at (contained-one at (stamps_in_flight p es) c) in (
            fails-now sys state next effect ps t p full one,
            record {
              event = u.event;
              there = subst (λ h. Contains h u.event) (sym history) u.there;
              is = u.is;
              not_logged = λ l. u.not_logged (logged-before ps u.event.serial state.writes (subst (IsLogged u.event.serial) writes l));
            },
          ),
    )

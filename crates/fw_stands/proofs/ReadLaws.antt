-- Which checkpoint is read for a node that is cut to it.
use Rattle.std.proofs.Common.{◌≡◌, ◌≢◌, ℕ, true, false, ◌&&◌, ◌==◌, List, [], ◌∷◌, ◌++◌, filter, Option, refl, sym, ap, subst, ◌∙◌, arith, ◌<◌, length}
use Rattle.std.specs.List.{AllByRecursion, AllZip, Contains}
use Rattle.std.specs.Option.{ForSome}
use Rattle.std.proofs.lemmas.Bool.{and_parts, and_from, eqb-true, eq-eqb, false_from_ne_true}
use Rattle.std.proofs.lemmas.List.Elements.{filter-append, Contains-append_right}
use Rattle.fw_lemmas.proofs.Bools.{two_ways}
use Rattle.fw_lemmas.proofs.Each.{each-kept}
use Rattle.fw_lemmas.proofs.Filters.{filter-in, filter-out}
use Rattle.fw_frontier.specs.Front.{Front}
use Rattle.fw_frontier.proofs.SameLaws.{same_front-is, same_front-from}
use Rattle.fw_flow.specs.declared.choice.Recorded.{Recorded}
use Rattle.fw_flow.specs.declared.choice.Stamps.{Stamps}
use Rattle.fw_flow.specs.Dataflow.{System, bounds_of, policy_of}
use Rattle.fw_flow.specs.declared.choice.Choice.{Choice}
use Rattle.fw_flow.specs.declared.step.Step.TheVariants.{Recover}
use Rattle.fw_flow.specs.WellFormed.{IsWellFormedSystem}
use Rattle.fw_flow.specs.declared.choice.Cut.TheVariants.{At}
use Rattle.fw_model.specs.Choice.{kept, is_counted, cut_of}
use Rattle.fw_model.specs.Machine.{Machine, Write, acknowledged, checkpoint, logged_event, is_failed, no_stamps}
use Rattle.fw_model.specs.Machine.{Written as WrittenBy}
use Rattle.fw_model.specs.Steps.{checkpoint_front, LeadsTo, recovered_state, cuts, Effect}
use Rattle.fw_model.specs.Writes.{IsCheckpointOf, not_collected, takes_checkpoints}
use Rattle.fw_model.proofs.RestoringLaws.{cuts-kept}
use Rattle.fw_model.specs.Reached.{IsReached}
use Rattle.fw_keep.specs.declared.entry.Entry.{Entry}
use Rattle.fw_keep.specs.declared.entry.Written.{Written}
use Rattle.fw_keep.specs.declared.entry.Written.TheVariants as written
use Rattle.fw_keep.specs.Entry.{is_written_at}
use Rattle.fw_keep.specs.Stored.{Records}
use Rattle.fw_stands.specs.Read.{is_checkpoint_at, HasOnlyCheckpoint}
use Rattle.fw_stands.specs.Written.{HoldsWhatIsWritten, HoldsWithin, IsEntryOf, IsHeldAs, AreStored}
use Rattle.fw_stands.specs.Recovered.{Recovers}
use Rattle.fw_policy.specs.Entries.{AreEntriesOf}

-- ---- entries of checkpoints and their writes

front-of : (sys : System) (state : Machine) (p : ℕ) (f : Front) (e : Written) (w : WrittenBy) → HoldsWhatIsWritten sys state p e w → is_written_at f e ≡ true
    → checkpoint_front w ≡ f ∷ []
front-of sys state p f (written.Checkpoint recorded stamps sent) (checkpoint g low) h i =
    ap (λ x. x ∷ []) (sym h.recorded.front ∙ same_front-is recorded.front f i)
front-of sys state p f (written.Checkpoint recorded stamps sent) (logged_event s) h i = absurd h
front-of sys state p f (written.Event event) w h i = absurd (two_ways false i refl)

-- an entry of an acknowledged checkpoint at the frontier stands for a write of one
is-such : (sys : System) (state : Machine) (p : ℕ) (f : Front) (e : Entry) (w : Write) → IsEntryOf sys state e w → is_checkpoint_at p f e ≡ true → IsCheckpointOf p f w
is-such sys state p f e w a i =
    let node = and_parts (e.node == p) (e.acknowledged && is_written_at f e.written) i in
    let more = and_parts e.acknowledged (is_written_at f e.written) node.1 in
    (sym a.node ∙ eqb-true e.node p node.0, front-of sys state w.node f e.written w.written a.holds more.1)

-- What is written of a checkpoint: with these watermarks, and what its entry holds.
record IsWritten (sys : System) (state : Machine) (p : ℕ) (f : Front) (e : Written) (w : WrittenBy) : Type 0 where
  pub low : List Front
  pub of_checkpoint : w ≡ checkpoint f low
  pub recorded : Recorded
  pub stamps : Stamps
  pub sent : ℕ
  pub what : e ≡ written.Checkpoint recorded stamps sent
  pub holds : HoldsWithin sys state p f recorded stamps sent
  pub front : is_written_at f e ≡ true

pub first-is : (g f : Front) → g ∷ [] ≡ f ∷ [] → g ≡ f
first-is g f e = ap first e
  where
    first : List Front → Front
    first [] = []
    first (x ∷ xs) = x

is-written : (sys : System) (state : Machine) (p : ℕ) (f : Front) (e : Written) (w : WrittenBy) → HoldsWhatIsWritten sys state p e w → checkpoint_front w ≡ f ∷ []
    → IsWritten sys state p f e w
is-written sys state p f (written.Checkpoint recorded stamps sent) (checkpoint g low) h i =
    let same = first-is g f i in
    record {
      low = low;
      of_checkpoint = ap (λ x. checkpoint x low) same;
      recorded = recorded;
      stamps = stamps;
      sent = sent;
      what = refl;
      holds = subst (λ x. HoldsWithin sys state p x recorded stamps sent) same h;
      front = same_front-from recorded.front f (h.recorded.front ∙ same);
    }
is-written sys state p f (written.Checkpoint recorded stamps sent) (logged_event s) h i = absurd h
is-written sys state p f (written.Event event) (checkpoint g low) h i = absurd h
is-written sys state p f (written.Event event) (logged_event s) h i = absurd (cc i)

-- ---- among all entries

for-some : {A : Type 0} (o : Option A) (P Q : A → Type 0) → ((x : A) → P x → Q x) → ForSome o P → ForSome o Q
for-some o P Q f a x e = f x (a x e)

none-pass : (sys : System) (state : Machine) (p : ℕ) (f : Front) (es : List Entry) (ws : List Write) → AllZip (IsEntryOf sys state) es ws
    → AllByRecursion (λ w. IsCheckpointOf p f w → ⊥) ws → filter (is_checkpoint_at p f) es ≡ []
none-pass sys state p f [] ws a n = refl
none-pass sys state p f (e ∷ es) [] a n = absurd a
none-pass sys state p f (e ∷ es) (w ∷ ws) a n =
    filter-out (is_checkpoint_at p f) e es (false_from_ne_true (is_checkpoint_at p f e) (λ i. n.0 (is-such sys state p f e w a.0 i)))
    ∙ none-pass sys state p f es ws a.1 n.1

-- the entry of the one write that is such a one
record IsAlone (sys : System) (state : Machine) (records : Option Records) (es : List Entry) (p : ℕ) (f : Front) (one : Write) : Type 0 where
  pub entry : Entry
  pub only : filter (is_checkpoint_at p f) es ≡ entry ∷ []
  pub of_write : IsEntryOf sys state entry one
  pub stored : ForSome records (λ held. IsHeldAs sys state held entry one)

alone : (sys : System) (state : Machine) (records : Option Records) (p : ℕ) (f : Front) (one : Write) (later : List Write) → IsCheckpointOf p f one → one.stage ≡ acknowledged
    → AllByRecursion (λ w. IsCheckpointOf p f w → ⊥) later → (earlier : List Write) (es : List Entry) → AllByRecursion (λ w. IsCheckpointOf p f w → ⊥) earlier
    → AllZip (IsEntryOf sys state) es (earlier ++ one ∷ later) → ForSome records (λ held. AllZip (IsHeldAs sys state held) es (earlier ++ one ∷ later))
    → IsAlone sys state records es p f one
alone sys state records p f one later such stage after [] [] before a s = absurd a
alone sys state records p f one later such stage after [] (e ∷ es) before a s =
    let w = is-written sys state one.node f e.written one.written a.0.holds such.1 in
    let passes = and_from (e.node == p) (e.acknowledged && is_written_at f e.written) (eq-eqb e.node p (a.0.node ∙ such.0))
    (and_from e.acknowledged (is_written_at f e.written) (a.0.acknowledged ∙ ap (is_counted kept) stage) w.front) in
    record {
      entry = e;
      only = filter-in (is_checkpoint_at p f) e es passes ∙ ap (λ xs. e ∷ xs) (none-pass sys state p f es later a.1 after);
      of_write = a.0;
      stored = for-some records (λ held. AllZip (IsHeldAs sys state held) (e ∷ es) (one ∷ later)) (λ held. IsHeldAs sys state held e one) (λ held x. x.0) s;
    }
alone sys state records p f one later such stage after (w ∷ ws) [] before a s = absurd a
alone sys state records p f one later such stage after (w ∷ ws) (e ∷ es) before a s =
    let rest = alone sys state records p f one later such stage after ws es before.1 a.1
    (for-some records (λ held. AllZip (IsHeldAs sys state held) (e ∷ es) (w ∷ ws ++ one ∷ later)) (λ held. AllZip (IsHeldAs sys state held) es (ws ++ one ∷ later)) (λ held x. x.1) s) in
    record {
      entry = rest.entry;
      only = filter-out (is_checkpoint_at p f) e es (false_from_ne_true (is_checkpoint_at p f e) (λ i. before.0 (is-such sys state p f e w a.0 i))) ∙ rest.only;
      of_write = rest.of_write;
      stored = rest.stored;
    }

-- where a node that takes checkpoints is cut to a front with a stamp inside, one entry is of an acknowledged checkpoint there
pub one-checkpoint : (sys : System) (state : Machine) (choice : Choice) (settled : List Front) → Recovers sys state choice settled
    → (entries : List Entry) → AreEntriesOf sys state entries (filter not_collected state.writes)
    → (records : Option Records) → AreStored sys state records entries (filter not_collected state.writes)
    → (p : ℕ) → takes_checkpoints (policy_of sys.flow p) ≡ true → (f : Front) → cut_of choice p ≡ At f → f ≢ no_stamps (bounds_of sys.flow p)
    → HasOnlyCheckpoint sys state records entries p f
one-checkpoint sys state choice settled r es a records s p takes f is some =
    let kept_one = cuts-kept sys r.well_formed r.reached.0 r.reached.1 state r.reached.2 (is_failed state) choice r.largest p f takes is some in
    let only = kept_one.0 in
    let one = only.one in
    let None_such : Write → Type 0 = λ w. IsCheckpointOf p f w → ⊥ in
    let split : filter not_collected state.writes ≡ filter not_collected only.earlier ++ one ∷ filter not_collected only.later =
    ap (filter not_collected) only.there ∙ filter-append not_collected only.earlier (one ∷ only.later)
    ∙ ap (λ ws. filter not_collected only.earlier ++ ws) (filter-in not_collected one only.later (ap (λ far. not_collected (record one { stage = far })) kept_one.1)) in
    let b = alone sys state records p f one (filter not_collected only.later) only.is_such kept_one.1 (each-kept None_such not_collected only.later only.none_later)
    (filter not_collected only.earlier) es (each-kept None_such not_collected only.earlier only.none_earlier)
    (subst (AllZip (IsEntryOf sys state) es) split a) (subst (λ ws. ForSome records (λ held. AllZip (IsHeldAs sys state held) es ws)) split s) in
    let w = is-written sys state one.node f b.entry.written one.written b.of_write.holds only.is_such.1 in
    let last : Contains (one ∷ only.later) one = (0, omega arith, refl) in
    record {
      entry = b.entry;
      only = b.only;
      write = one;
      low = w.low;
      there = subst (λ ws. Contains ws one) (sym only.there) (Contains-append_right only.earlier (one ∷ only.later) one last);
      node = only.is_such.0;
      of_checkpoint = w.of_checkpoint;
      of_write = b.of_write;
      stored = b.stored;
      recorded = w.recorded;
      stamps = w.stamps;
      sent = w.sent;
      what = w.what;
      holds = subst (λ q. HoldsWithin sys state q f w.recorded w.stamps w.sent) only.is_such.0 w.holds;
    }

-- ---- the step

-- a recovery of the machine recovers
pub recoveries-recover : (sys : System) (state next : Machine) (effect : Effect) → IsWellFormedSystem sys → IsReached sys state
    → LeadsTo sys state Recover next effect
    → (choice : Choice) × (settled : List Front) × Recovers sys state choice settled
    × (next ≡ recovered_state sys state choice settled) × (effect ≡ cuts choice)
recoveries-recover sys state next effect w reached t = (
  t.1,
  t.2,
  record { well_formed = w; reached = reached; largest = t.5; cuts = t.6 },
  t.7,
  t.8,
)

-- where a node is failed what recovers is a recovery of the machine
pub recovers-by_step : (sys : System) (state : Machine) (choice : Choice) (settled : List Front) → Recovers sys state choice settled
    → (p : ℕ) → p < length sys.flow.nodes → is_failed state p ≡ true
    → LeadsTo sys state Recover (recovered_state sys state choice settled) (cuts choice)
recovers-by_step sys state choice settled r p l failed = (p, choice, settled, l, failed, r.largest, r.cuts, refl, refl)

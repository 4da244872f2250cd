-- What eager nodes ask as they grow.
use Rattle.std.proofs.Common.{◌≡◌, ℕ, zero, suc, ◌+◌, ◌-◌, ◌<◌, ◌≤◌, Bool, true, false, cond, not, ◌&&◌, ◌||◌, ◌==◌, List, [], ◌∷◌, ◌++◌, map, filter, get_or, length, refl, sym, ap, subst, ◌∙◌, inl, inr, arith}
use Rattle.std.specs.Prelude.{Option, Some, None, option_and_then, option_map, Result, Ok, Err, OnOk, is_some}
use Rattle.std.specs.FinMap as map_of
use Rattle.std.specs.List.{AllByRecursion, Contains, range_with_len}
use Rattle.std.proofs.lemmas.Bool.{and_parts, cases_Bool, eqb-true, false_from_ne_true}
use Rattle.std.proofs.lemmas.Iterator.Adapters.{option_map_id}
use Rattle.std.proofs.lemmas.List.{append-nil, append_assoc, map-append}
use Rattle.std.proofs.lemmas.List.Elements.{Contains-append_left, filter-append}
use Rattle.std.proofs.lemmas.List.FromFn.{map-range_with_len_more}
use Rattle.fw_lemmas.proofs.Bools.{two_ways}
use Rattle.fw_lemmas.proofs.Each.{each-append}
use Rattle.fw_lemmas.proofs.SideBySide.{zip-append}
use Rattle.fw_frontier.specs.Frontier.{Within, join}
use Rattle.fw_frontier.specs.Front.{Front, frontier_of, same_front, IsFrontOf}
use Rattle.fw_frontier.proofs.NamesLaws.{names-same}
use Rattle.fw_flow.specs.declared.choice.Stamps.{Stamps}
use Rattle.fw_flow.specs.declared.kind.Policy.{Policy}
use Rattle.fw_flow.specs.declared.kind.Policy.TheVariants as policy
use Rattle.fw_flow.specs.Dataflow.{System, policy_of, bounds_of, node_frontier}
use Rattle.fw_model.specs.EventStamps.{AreStampsIf}
use Rattle.fw_model.specs.Filtering.{events_inside}
use Rattle.fw_model.specs.Machine.{Machine, Write, family_of, front_of, is_failed}
use Rattle.fw_model.specs.Steps.{GrowsTo, checkpoint_of, eager_writes, is_eager}
use Rattle.fw_model.specs.Writes.{takes_checkpoints}
use Rattle.fw_record.specs.declared.record.Record.{Record}
use Rattle.fw_record.specs.Spelling.{spelling}
use Rattle.fw_keep.specs.declared.entry.Entry.{Entry}
use Rattle.fw_keep.specs.Catalogue.{KeepState, AreInFlight}
use Rattle.fw_keep.proofs.StoredLaws.{freed-mapped}
use Rattle.fw_keep.specs.Entry.{asked_beside, base_of_record}
use Rattle.fw_keep.specs.Stored.{Records, IsStored, KeepsBytes}
use Rattle.fw_progress.specs.Settle.{has_more, is_growing, IsGrownAt}
use Rattle.fw_stands.specs.Entries.{id_at_front, AreBasesOf}
use Rattle.fw_stands.specs.Written.{AreEntriesOf, AreStored, IsEntryOf, uncollected}
use Rattle.fw_stands.proofs.GrowthLaws.{settled-holds}
use Rattle.fw_stands.proofs.KeptLaws.{fronts-grow}
use Rattle.fw_stands.proofs.NodeCheckpoints.{asks_at_progress}
use Rattle.fw_running.specs.declared.fault.EngineFault.{EngineFault}
use Rattle.fw_running.specs.declared.running.Running.{Running}
use Rattle.fw_running.specs.Faults.{faults_after_step}
use Rattle.fw_running.specs.Logging.{with_keep, ChangesKeep, IsAsked, IsNotAsked, IsAskRefused}
use Rattle.fw_running.specs.Stands.{Stands}
use Rattle.fw_running.specs.Steps.{HasEager, IsUndamaged, PartAnswers}
use Rattle.fw_running.proofs.StepLaws.{part-may, part-of}
use Rattle.fw_outside.specs.Outside.{StoreView}
use Rattle.fw_settle.specs.Checkpoints.{IsSoInEachHistory, IsNextRecord, AsksCheckpoint, CanBeMadeAt, base_after, next_base}
use Rattle.fw_settle.specs.Settling.{grows, HasEagerToSettle, NoneGrowsIn, AddsEntries, KeepsEntries, AsksIfEager, HaveAsked}
use Rattle.fw_settle.proofs.BaseLaws.{IsNextBase, newest-others, next-base}
use Rattle.fw_settle.proofs.WritesLaws.{asked-base, asked-entry, asked-stored, base_then, can-be_made}

-- ---- entries

map-both : {A : Type 0} (f g : A → A) (o : Option A) → option_map g (option_map f o) ≡ option_map (λ x. g (f x)) o
map-both f g None = refl
map-both f g (Some x) = refl

pub adds-none : (entries : List Entry) (records : Option Records) → AddsEntries entries entries records records
adds-none entries records = record {
  more = [];
  entries = sym (append-nil entries);
  in_flight = tt;
  change = λ held. held;
  records = sym (option_map_id records);
  bytes = λ e c. refl;
}

pub adds-same : (old mid new : List Entry) (before between after : Option Records) → AddsEntries old mid before between → IsNotAsked mid new between after
    → AddsEntries old new before after
adds-same old mid new before between after a n = record {
  more = a.more;
  entries = n.entries ∙ a.entries;
  in_flight = a.in_flight;
  change = a.change;
  records = n.records ∙ a.records;
  bytes = subst (KeepsBytes old before) (sym n.records) a.bytes;
}

-- one write more is asked
pub adds-more : (old mid new : List Entry) (before between after : Option Records) → AddsEntries old mid before between
    → (what : Record) (stamps : Stamps) → IsAsked what stamps mid new between after → AddsEntries old new before after
adds-more old mid new before between after a what stamps is = record {
  more = a.more ++ asked_beside mid is.id what stamps ∷ [];
  entries = is.entries ∙ ap (λ es. es ++ asked_beside mid is.id what stamps ∷ []) a.entries ∙ append_assoc old a.more (asked_beside mid is.id what stamps ∷ []);
  in_flight = each-append (λ (e : Entry). e.acknowledged ≡ false) a.more (asked_beside mid is.id what stamps ∷ []) a.in_flight (refl, tt);
  change = λ held. map_of.insert (a.change held) is.id (spelling what);
  records = is.records ∙ ap (option_map (λ held. map_of.insert held is.id (spelling what))) a.records
      ∙ map-both a.change (λ held. map_of.insert held is.id (spelling what)) before;
  bytes = λ e c. is.bytes e (subst (λ es. Contains es e) (sym a.entries) (Contains-append_left old a.more e c)) ∙ a.bytes e c;
}

-- the asking of one write more is refused
pub adds-refused : (old : List Entry) (mid new : KeepState) (before between after : Option Records) → AddsEntries old mid.entries before between
    → IsAskRefused mid new between after → AddsEntries old new.entries before after
adds-refused old mid new before between after a n =
    let freed = freed-mapped mid.shared mid.next between after n.records in
    record {
      more = a.more;
      entries = n.entries ∙ a.entries;
      in_flight = a.in_flight;
      change = λ held. freed.0 (a.change held);
      records = freed.1 ∙ ap (option_map freed.0) a.records ∙ map-both a.change freed.0 before;
      bytes = λ e c. n.bytes e (subst (λ es. Contains es e) (sym a.entries) (Contains-append_left old a.more e c)) ∙ a.bytes e c;
    }

-- where what was added is withdrawn, the entries are kept
pub kept-withdrawn : (old mid new : List Entry) (before after : Option Records) → AddsEntries old mid before after
    → ((first more : List Entry) → mid ≡ first ++ more → length first ≡ length old → AreInFlight more → new ≡ first) → KeepsEntries old new before after
kept-withdrawn old mid new before after a w = record {
  entries = w old a.more a.entries refl a.in_flight;
  change = a.change;
  records = a.records;
  bytes = a.bytes;
}

-- a checkpoint is asked where the record of the next one is
pub asks-next : (result : Result (Unit {0}) EngineFault) (p : ℕ) (f : Front) (old new : Running) (before after : Option Records) (what : Record) (stamps : Stamps)
    → OnOk result (IsAsked what stamps old.parts.keep.entries new.parts.keep.entries before after) → IsNextRecord old p f what
    → IsSoInEachHistory old.flow old.traces p f (λ sys h. AreStampsIf true sys (events_inside (node_frontier old.flow p f) h) p (node_frontier old.flow p f) stamps)
    → OnOk result (AsksCheckpoint p f old new before after)
asks-next (Ok x) p f old new before after what stamps a next held = record { what = what; next = next; stamps = stamps; held = held; asked = a }
asks-next (Err e) p f old new before after what stamps a next held = tt

-- ---- the writes of eager nodes

range-more : (n : ℕ) → range_with_len 0 (n + 1) ≡ range_with_len 0 n ++ n ∷ []
range-more n = sym (map-self (range_with_len 0 (n + 1))) ∙ map-range_with_len_more (λ x. x) 0 n n (omega arith) ∙ ap (λ xs. xs ++ n ∷ []) (map-self (range_with_len 0 n))
  where
    map-self : (xs : List ℕ) → map (λ x. x) xs ≡ xs
    map-self [] = refl
    map-self (x ∷ xs) = ap (λ ys. x ∷ ys) (map-self xs)

-- what one node more asks
eager-more : (sys : System) (state : Machine) (settled : List Front) (n : ℕ) → eager_writes sys state settled (range_with_len 0 (n + 1))
    ≡ eager_writes sys state settled (range_with_len 0 n) ++ cond (asks_at_progress sys state settled n) (checkpoint_of state n (front_of settled n) ∷ []) []
eager-more sys state settled n =
    let f : ℕ → Write = λ p. checkpoint_of state p (front_of settled p) in
    let test : ℕ → Bool = asks_at_progress sys state settled in
    ap (λ ps. map f (filter test ps)) (range-more n)
    ∙ ap (map f) (filter-append test (range_with_len 0 n) (n ∷ []))
    ∙ map-append f (filter test (range_with_len 0 n)) (filter test (n ∷ []))
    ∙ ap (λ ws. map f (filter test (range_with_len 0 n)) ++ ws) (one (test n))
  where
    one : (b : Bool) → map (λ p. checkpoint_of state p (front_of settled p)) (cond b (n ∷ []) []) ≡ cond b (checkpoint_of state n (front_of settled n) ∷ []) []
    one true = refl
    one false = refl

eager-none : (sys : System) (state : Machine) (settled : List Front) (n : ℕ) → asks_at_progress sys state settled n ≡ false
    → eager_writes sys state settled (range_with_len 0 (n + 1)) ≡ eager_writes sys state settled (range_with_len 0 n)
eager-none sys state settled n e =
    eager-more sys state settled n
    ∙ ap (λ b. eager_writes sys state settled (range_with_len 0 n) ++ cond b (checkpoint_of state n (front_of settled n) ∷ []) []) e
    ∙ append-nil (eager_writes sys state settled (range_with_len 0 n))

eager-some : (sys : System) (state : Machine) (settled : List Front) (n : ℕ) → asks_at_progress sys state settled n ≡ true
    → eager_writes sys state settled (range_with_len 0 (n + 1)) ≡ eager_writes sys state settled (range_with_len 0 n) ++ checkpoint_of state n (front_of settled n) ∷ []
eager-some sys state settled n e =
    eager-more sys state settled n
    ∙ ap (λ b. eager_writes sys state settled (range_with_len 0 n) ++ cond b (checkpoint_of state n (front_of settled n) ∷ []) []) e

-- where none from one place up to a later one asks, the writes are the same
eager-same : (sys : System) (state : Machine) (settled : List Front) (from k : ℕ) → ((p : ℕ) → from ≤ p → p < from + k → asks_at_progress sys state settled p ≡ false)
    → eager_writes sys state settled (range_with_len 0 (from + k)) ≡ eager_writes sys state settled (range_with_len 0 from)
eager-same sys state settled from zero none = ap (λ n. eager_writes sys state settled (range_with_len 0 n)) (let e : from + 0 ≡ from = omega arith in e)
eager-same sys state settled from (suc k) none =
    ap (λ n. eager_writes sys state settled (range_with_len 0 n)) (let e : from + suc k ≡ (from + k) + 1 = omega arith in e)
    ∙ eager-none sys state settled (from + k) (none (from + k) (omega arith) (omega arith))
    ∙ eager-same sys state settled from k (λ p l m. none p l (omega (arith, m)))

-- ---- where nodes grow

-- what is settled of a node is as it was exactly where it is not to settle
same-grows : (sys : System) (state : Machine) (settled : List Front) (old : Running) (before : Option Records) → Stands sys old before state
    → GrowsTo sys state (family_of sys.flow old.progress.kept) settled → (p : ℕ) → p < length sys.flow.nodes
    → not (same_front (front_of state.settled p) (front_of settled p)) ≡ grows old p
same-grows sys state settled old before s g p l =
    ap not (fronts-grow sys s.apart.well_formed state s.apart.reached (family_of sys.flow old.progress.kept) settled g old.progress.kept g.complete p l)
    ∙ turned (is_failed state p) (has_more (front_of old.progress.kept p) (front_of state.settled p))
    ∙ ap (λ fs. not (is_failed state p) && has_more (front_of old.progress.kept p) (front_of fs p)) (sym s.apart.settled)
    ∙ ap (λ fs. not (get_or fs p false) && has_more (front_of old.progress.kept p) (front_of old.progress.settled p)) (sym s.apart.failed)
  where
    turned : (a b : Bool) → not (a || not b) ≡ (not a && b)
    turned true b = refl
    turned false true = refl
    turned false false = refl

pub asks-grows : (sys : System) (state : Machine) (settled : List Front) (old : Running) (before : Option Records) → Stands sys old before state
    → GrowsTo sys state (family_of sys.flow old.progress.kept) settled → (p : ℕ) → p < length sys.flow.nodes
    → asks_at_progress sys state settled p ≡ (is_eager (policy_of sys.flow p) && grows old p)
asks-grows sys state settled old before s g p l = ap (λ b. is_eager (policy_of sys.flow p) && b) (same-grows sys state settled old before s g p l)

eager-takes : (p : Policy) → is_eager p ≡ true → takes_checkpoints p ≡ true
eager-takes policy.Eager e = refl
eager-takes p e = absurd (two_ways (is_eager p) e refl)

-- the front that a node settles is the one that is settled after progress
grown-front : (sys : System) (state : Machine) (settled : List Front) (old : Running) (before : Option Records) → Stands sys old before state
    → GrowsTo sys state (family_of sys.flow old.progress.kept) settled → (p : ℕ) → p < length sys.flow.nodes → is_failed state p ≡ false
    → (f : Front) → IsGrownAt sys.flow old.progress.settled old.progress.kept p (Some f) → f ≡ front_of settled p
grown-front sys state settled old before s g p l live f grown =
    let b = bounds_of sys.flow p in
    names-same b f (front_of settled p) (join (node_frontier sys.flow p (front_of state.settled p)) (family_of sys.flow old.progress.kept p))
    (subst (λ fs. IsFrontOf b f (join (frontier_of b (front_of fs p)) (frontier_of b (front_of old.progress.kept p)))) s.apart.settled grown.1)
    (g.each p l live)

live-grows : (failed : List Bool) (settled kept : List Front) (p : ℕ) → is_growing failed settled kept p ≡ true → get_or failed p false ≡ false
live-grows failed settled kept p e = by (get_or failed p false) (and_parts (not (get_or failed p false)) (has_more (front_of kept p) (front_of settled p)) e).0
  where
    by : (b : Bool) → not b ≡ true → b ≡ false
    by true k = absurd (two_ways false k refl)
    by false k = refl

-- ---- node after node

pub asked-none : (old : Running) (before : Option Records) → HaveAsked 0 old old before before
unfolding adds-none
asked-none old before = record {
  adds = adds-none old.parts.keep.entries before;
  writes = λ sys state settled s g. (tt, tt, subst (AreStored sys state before old.parts.keep.entries) (sym (append-nil (uncollected state))) s.apart.stored);
}

-- where none up to a later place is to settle, those before that have asked
pub asked-past : (old new : Running) (before after : Option Records) (place later : ℕ) → HaveAsked place old new before after → place ≤ later
    → later ≤ length old.flow.nodes → NoneGrowsIn old place later → HaveAsked later old new before after
asked-past old new before after place later a o l none = record {
  adds = a.adds;
  writes = λ sys state settled s g.
      let same : eager_writes sys state settled (range_with_len 0 later) ≡ eager_writes sys state settled (range_with_len 0 place) =
      ap (λ n. eager_writes sys state settled (range_with_len 0 n)) (let e : later ≡ place + (later - place) = omega (arith, o) in e)
      ∙ eager-same sys state settled place (later - place) (λ p from until.
      let there : p < length sys.flow.nodes = subst (λ flow. p < length flow.nodes) s.apart.flow (omega (arith, until, l, o)) in
      asks-grows sys state settled old before s g p there
      ∙ ap (λ b. is_eager (policy_of sys.flow p) && b) (none p from (omega (arith, until, o))) ∙ isnt (is_eager (policy_of sys.flow p))) in
      let known = a.writes sys state settled s g in (
        subst (AreEntriesOf sys state a.adds.more) (sym same) known.0,
        subst (AreBasesOf old.parts.keep.entries a.adds.more) (sym same) known.1,
        subst (λ ws. AreStored sys state after new.parts.keep.entries (uncollected state ++ ws)) (sym same) known.2,
      );
}
  where
    isnt : (b : Bool) → (b && false) ≡ false
    isnt true = refl
    isnt false = refl

-- a node that is not eager asks nothing
skips : (p : ℕ) (old mid new : Running) (before between after : Option Records) → HaveAsked p old mid before between → p < length old.flow.nodes
    → is_eager (policy_of old.flow p) ≡ false → IsNotAsked mid.parts.keep.entries new.parts.keep.entries between after → HaveAsked (p + 1) old new before after
unfolding adds-same
skips p old mid new before between after a l other n = record {
  adds = adds-same old.parts.keep.entries mid.parts.keep.entries new.parts.keep.entries before between after a.adds n;
  writes = λ sys state settled s g.
      let test : asks_at_progress sys state settled p ≡ false =
      ap (λ b. b && not (same_front (front_of state.settled p) (front_of settled p))) (ap (λ flow. is_eager (policy_of flow p)) (sym s.apart.flow) ∙ other) in
      let same = eager-none sys state settled p test in
      let known = a.writes sys state settled s g in (
        subst (AreEntriesOf sys state a.adds.more) (sym same) known.0,
        subst (AreBasesOf old.parts.keep.entries a.adds.more) (sym same) known.1,
        subst (λ ws. AreStored sys state after new.parts.keep.entries (uncollected state ++ ws)) (sym same)
            (subst (λ es. AreStored sys state after es (uncollected state ++ eager_writes sys state settled (range_with_len 0 p))) (sym n.entries)
            (subst (λ r. AreStored sys state r mid.parts.keep.entries (uncollected state ++ eager_writes sys state settled (range_with_len 0 p))) (sym n.records) known.2)),
      );
}

-- what can be taken does not depend on the catalogue
can-keep : (sys : System) (old : Running) (keep : KeepState) (state : Machine) (p : ℕ) (f : Front) → CanBeMadeAt sys old state p f
    → CanBeMadeAt sys (with_keep keep old) state p f
can-keep sys old keep state p f c = record {
  flow = c.flow;
  well_formed = c.well_formed;
  reached = c.reached;
  live = c.live;
  takes = c.takes;
  canonical = c.canonical;
  settled = c.settled;
  table = c.table;
  logs = c.logs;
  floor = c.floor;
  traces = c.traces;
  counts = c.counts;
}

-- the entries of the eager ones of the first so many nodes are of other nodes than the next
of-others : (sys : System) (state : Machine) (settled : List Front) (p : ℕ) (test : ℕ → Bool) (m n : ℕ) → m + n ≤ p → (es : List Entry)
    → AreEntriesOf sys state es (map (λ q. checkpoint_of state q (front_of settled q)) (filter test (range_with_len m n))) → AllByRecursion (λ (e : Entry). (e.node == p) ≡ false) es
of-others sys state settled p test m zero l [] a = tt
of-others sys state settled p test m zero l (e ∷ es) a = absurd a
of-others sys state settled p test m (suc n) l es a = by (λ more k. of-others sys state settled p test (m + 1) n (omega (arith, l)) more k) (test m) es a
  where
    by : ((more : List Entry) → AreEntriesOf sys state more (map (λ q. checkpoint_of state q (front_of settled q)) (filter test (range_with_len (m + 1) n)))
        → AllByRecursion (λ (e : Entry). (e.node == p) ≡ false) more) → (b : Bool) (es : List Entry)
        → AreEntriesOf sys state es (map (λ q. checkpoint_of state q (front_of settled q)) (cond b (m ∷ filter test (range_with_len (m + 1) n)) (filter test (range_with_len (m + 1) n))))
        → AllByRecursion (λ (e : Entry). (e.node == p) ≡ false) es
    by rest false es a = rest es a
    by rest true [] a = tt
    by rest true (e ∷ es) a =
        (ap (λ q. q == p) (a.0).node ∙ false_from_ne_true (m == p) (λ k. let is = eqb-true m p k in absurd (omega (arith, l, is))), rest es a.1)

-- What one eager node asks: an entry of its write, on one of those that were there, and stored with the others.
record IsEagerAsked (sys : System) (old mid new : Running) (between after : Option Records) (state : Machine) (settled : List Front) (p : ℕ) (f : Front)
    (a : AsksCheckpoint p f mid new between after) (writes : List Write) : Type 0 where
  of_write : IsEntryOf sys state (asked_beside mid.parts.keep.entries a.asked.id a.what a.stamps) (checkpoint_of state p (front_of settled p))
  base : base_of_record a.what
      ≡ option_and_then (λ g. id_at_front p g old.parts.keep.entries) (checkpoint_of state p (front_of settled p)).base
  stored : AreStored sys state after new.parts.keep.entries (writes ++ checkpoint_of state p (front_of settled p) ∷ [])

eager-asked : (sys : System) (old mid new : Running) (before between after : Option Records) (state : Machine) (settled : List Front) (p : ℕ) (f : Front)
    → Stands sys old before state → GrowsTo sys state (family_of sys.flow old.progress.kept) settled → ChangesKeep old mid
    → p < length sys.flow.nodes → is_eager (policy_of sys.flow p) ≡ true → grows old p ≡ true
    → (more : List Entry) → mid.parts.keep.entries ≡ old.parts.keep.entries ++ more → AllByRecursion (λ (e : Entry). (e.node == p) ≡ false) more
    → IsGrownAt sys.flow old.progress.settled old.progress.kept p (Some f) → (a : AsksCheckpoint p f mid new between after)
    → (writes : List Write) → AreStored sys state between mid.parts.keep.entries writes
    → IsEagerAsked sys old mid new between after state settled p f a writes
eager-asked sys old mid new before between after state settled p f s g c l eager grow more added others grown a writes stored =
    let entries = old.parts.keep.entries in
    let live : is_failed state p ≡ false = ap (λ fs. get_or fs p false) (sym s.apart.failed) ∙ live-grows old.failed.items old.progress.settled old.progress.kept p grow in
    let is : f ≡ front_of settled p = grown-front sys state settled old before s g p l live f grown in
    let within : Within (family_of sys.flow state.settled p) (node_frontier sys.flow p f) =
    subst (λ x. Within (family_of sys.flow state.settled p) (node_frontier sys.flow p x)) (sym is)
    (settled-holds sys state (family_of sys.flow old.progress.kept) settled g p l) in
    let can : CanBeMadeAt sys mid state p f =
    subst (λ (r : Running). CanBeMadeAt sys r state p f) (sym c) (can-keep sys old mid.parts.keep state p f
    (can-be_made sys old before state s p f (eager-takes (policy_of sys.flow p) eager) live grown.1.canonical within)) in
    let on : IsNextBase sys state p entries (base_then p mid) =
    subst (IsNextBase sys state p entries) (ap base_after (sym (newest-others p entries more others)) ∙ ap (next_base p) (sym added))
    (next-base sys s.apart.well_formed state s.apart.reached entries s.apart.entries p l) in
    let still : (e : Entry) → Contains entries e → Contains mid.parts.keep.entries e = λ e k. subst (λ es. Contains es e) (sym added) (Contains-append_left entries more e k) in
    record {
      of_write = subst (λ x. IsEntryOf sys state (asked_beside mid.parts.keep.entries a.asked.id a.what a.stamps) (checkpoint_of state p x)) is
          (asked-entry sys mid new between after state p f can entries on still a);
      base = asked-base sys mid new between after state p f entries on a;
      stored = subst (λ x. AreStored sys state after new.parts.keep.entries (writes ++ checkpoint_of state p x ∷ [])) is
          (asked-stored sys mid new between after state p f can entries on a writes stored);
    }

-- an eager one asks its checkpoint
asks-one : (p : ℕ) (old mid new : Running) (before between after : Option Records) → HaveAsked p old mid before between → ChangesKeep old mid
    → p < length old.flow.nodes → is_eager (policy_of old.flow p) ≡ true → grows old p ≡ true
    → (f : Front) → IsGrownAt old.flow old.progress.settled old.progress.kept p (Some f) → AsksCheckpoint p f mid new between after
    → HaveAsked (p + 1) old new before after
unfolding adds-more
asks-one p old mid new before between after h c l eager grow f grown a = record {
  adds = adds-more old.parts.keep.entries mid.parts.keep.entries new.parts.keep.entries before between after h.adds a.what a.stamps a.asked;
  writes = λ sys state settled s g.
      let writes = eager_writes sys state settled (range_with_len 0 p) in
      let write = checkpoint_of state p (front_of settled p) in
      let entry = asked_beside mid.parts.keep.entries a.asked.id a.what a.stamps in
      let there : p < length sys.flow.nodes = subst (λ flow. p < length flow.nodes) s.apart.flow l in
      let is_eager_there : is_eager (policy_of sys.flow p) ≡ true = ap (λ flow. is_eager (policy_of flow p)) (sym s.apart.flow) ∙ eager in
      let test : asks_at_progress sys state settled p ≡ true =
      asks-grows sys state settled old before s g p there ∙ ap (λ b. b && grows old p) is_eager_there ∙ grow in
      let more = eager-some sys state settled p test in
      let known = h.writes sys state settled s g in
      let one = eager-asked sys old mid new before between after state settled p f s g c there is_eager_there grow h.adds.more h.adds.entries
      (of-others sys state settled p (asks_at_progress sys state settled) 0 p (omega arith) h.adds.more known.0)
      (subst (λ flow. IsGrownAt flow old.progress.settled old.progress.kept p (Some f)) s.apart.flow grown) a (uncollected state ++ writes) known.2 in (
        subst (AreEntriesOf sys state (h.adds.more ++ entry ∷ [])) (sym more)
            (zip-append (IsEntryOf sys state) h.adds.more writes (entry ∷ []) (write ∷ []) known.0 (one.of_write, tt)),
        subst (AreBasesOf old.parts.keep.entries (h.adds.more ++ entry ∷ [])) (sym more)
            (zip-append (λ (e : Entry) (x : Write). e.base ≡ option_and_then (λ g. id_at_front x.node g old.parts.keep.entries) x.base) h.adds.more writes (entry ∷ []) (write ∷ [])
            known.1 (one.base, tt)),
        subst (λ ws. AreStored sys state after new.parts.keep.entries (uncollected state ++ ws)) (sym more)
            (subst (AreStored sys state after new.parts.keep.entries) (append_assoc (uncollected state) writes (write ∷ [])) one.stored),
      );
}

-- the next node that is to settle asks, if it is eager
pub asked-next : (p : ℕ) (old mid new : Running) (before between after : Option Records) → HaveAsked p old mid before between → ChangesKeep old mid
    → p < length old.flow.nodes → grows old p ≡ true → AsksIfEager p mid new between after → HaveAsked (p + 1) old new before after
asked-next p old mid new before between after h c l grow a = elim (cases_Bool (is_eager (policy_of old.flow p))) [
  | inl eager ↦
      let asks = a.eager (ap (λ (r : Running). is_eager (policy_of r.flow p)) c ∙ eager) in
      asks-one p old mid new before between after h c l eager grow asks.front
      (subst (λ (r : Running). IsGrownAt r.flow r.progress.settled r.progress.kept p (Some asks.front)) c asks.grown) asks.asks
  | inr other ↦ skips p old mid new before between after h l other (a.other (ap (λ (r : Running). is_eager (policy_of r.flow p)) c ∙ other))
]

-- ---- a write that may be asked

pub asking-part : {T K : Type 0} {view : K → StoreView} {MayCall : Type 0} {old new : Running} {before after : K} {result : Result T EngineFault} → MayCall
    → ChangesKeep old new → IsStored new.parts.keep (view after).records → (view after).faults ≡ faults_after_step result (view before).faults
    → IsUndamaged result → is_some (view after).records ≡ is_some (view before).records → PartAnswers view MayCall old before result new after
asking-part may others stored faults undamaged tells = record {
  stored = stored;
  flow = ap (λ (r : Running). r.flow) others;
  faults = faults;
  calls = λ e. may;
  undamaged = undamaged;
  tells = tells;
  quiet = λ none. absurd (none may);
}

-- what was asked of eager nodes that were to settle is asked of a flow that has such
pub part-eager : {T K : Type 0} {view : K → StoreView} {old mid new : Running} {before after : K} {result : Result T EngineFault} → mid.flow ≡ old.flow
    → PartAnswers view (HasEagerToSettle mid) mid before result new after → PartAnswers view (HasEager old.flow) old before result new after
part-eager same p = part-of HasEager same (part-may (λ has. (has.0, has.1)) p)

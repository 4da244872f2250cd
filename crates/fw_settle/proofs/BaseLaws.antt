-- What the next checkpoint of a node stands on, by its entries and by the machine.
use Rattle.std.proofs.Common.{◌≡◌, ℕ, ◌+◌, ◌<◌, Bool, true, false, cond, ◌&&◌, ◌==◌, nat_lt, List, [], ◌∷◌, ◌++◌, length, Option, Some, None, refl, sym, ap, subst, ◌∙◌, zero, suc, add-one, arith}
use Rattle.std.specs.List.{AllByRecursion, Contains, list_any}
use Rattle.std.specs.Option.{option_or}
use Rattle.std.specs.Prelude.{option_and_then}
use Rattle.std.proofs.lemmas.Bool.{and_parts, cond_both, eq-eqb, eqb-true, false_from_ne_true}
use Rattle.std.proofs.lemmas.Grind.{flat_map-append}
use Rattle.std.proofs.lemmas.List.Elements.{Contains-append_right}
use Rattle.fw_frontier.specs.Front.{Front, same_front}
use Rattle.fw_flow.specs.Dataflow.{System, bounds_of}
use Rattle.fw_flow.specs.WellFormed.{IsWellFormedSystem}
use Rattle.fw_model.specs.Machine.{Machine, Write, checkpoint, logged_event, no_stamps}
use Rattle.fw_model.specs.Machine.{Written as WrittenBy}
use Rattle.fw_model.specs.Reached.{IsReached}
use Rattle.fw_model.specs.Steps.{checkpoint_front, checkpoints_of, checkpoint_depth, depths_of, depth_after, last_or, next_depth, base_of_depth}
use Rattle.fw_model.proofs.NewestLaws.{newest-kept}
use Rattle.fw_model.proofs.NewestLinkLaws.{next-stands_on_left}
use Rattle.fw_record.specs.declared.record.Checkpoint.{Checkpoint}
use Rattle.fw_keep.specs.declared.entry.Entry.{Entry}
use Rattle.fw_keep.specs.declared.entry.Written.{Written}
use Rattle.fw_keep.specs.declared.entry.Written.TheVariants as written
use Rattle.fw_keep.specs.Catalogue.{AreAscending, ids_of}
use Rattle.fw_keep.specs.Entry.{base_of_record, depth_at, depth_on, is_checkpoint, written_front, IsBase, IsBased}
use Rattle.fw_keep.specs.Newest.{is_checkpoint_of, newest_by}
use Rattle.fw_policy.specs.Entries.{HoldsWhatIsWritten, HasBaseOf, AreEntriesOf, uncollected}
use Rattle.fw_stands.specs.Entries.{entry_fronts, id_at_front, AreBasesOf}
use Rattle.fw_stands.specs.Written.{IsRecordFor}
use Rattle.fw_stands.proofs.BaseSteps.{newest_entry_is_of_write, none_is_asked}
use Rattle.fw_settle.specs.Checkpoints.{base_after, next_base, front_of_entry, record_on}
use Rattle.fw_settle.proofs.MadeLaws.{IsSinceNewest, IsToldFor}

-- ---- among entries

-- The entry is there, and a checkpoint of node p.
pub record IsThere (p : ℕ) (es : List Entry) (e : Entry) : Type 0 where
  pub among : Contains es e
  pub node : e.node ≡ p
  pub of_checkpoint : is_checkpoint e.written ≡ true

some-same : (a b : Entry) → Some a ≡ Some b → a ≡ b
some-same a b e = cc

pub newest-there : (p : ℕ) (es : List Entry) (e : Entry) → newest_by p es ≡ Some e → IsThere p es e
newest-there p [] e k = absurd (let c : None ≡ Some e = k in cc)
newest-there p (z ∷ es) e k = by (newest-there p es e) (newest_by p es) refl (is_checkpoint_of p z) refl k
  where
    by : (newest_by p es ≡ Some e → IsThere p es e) → (o : Option Entry) → newest_by p es ≡ o → (b : Bool) → is_checkpoint_of p z ≡ b
        → option_or o (cond b (Some z) None) ≡ Some e → IsThere p (z ∷ es) e
    by rest (Some y) h b i k =
        let there = rest (h ∙ k) in
        record { among = Contains-append_right (z ∷ []) es e there.among; node = there.node; of_checkpoint = there.of_checkpoint }
    by rest None h false i k = absurd (let c : None ≡ Some e = k in cc)
    by rest None h true i k =
        let same : z ≡ e = some-same z e k in
        let parts = and_parts (z.node == p) (is_checkpoint z.written) i in
        record {
          among = (0, omega arith, same);
          node = ap (λ (y : Entry). y.node) (sym same) ∙ eqb-true z.node p parts.0;
          of_checkpoint = ap (λ (y : Entry). is_checkpoint y.written) (sym same) ∙ parts.1;
        }

-- a record of the next checkpoint may be asked
pub based-asked : (p : ℕ) (es : List Entry) (c : Checkpoint) → c.node ≡ p → IsBased es (record_on (next_base p es) c)
based-asked p es c node = by (newest_by p es) refl
  where
    by : (o : Option Entry) → newest_by p es ≡ o → IsBased es (record_on (base_after o) c)
    by None k = tt
    by (Some e) k =
        cond_both (nat_lt e.depth 7) (Some e) None (λ b. IsBased es (record_on b c))
        (λ l.
        let there = newest-there p es e k in
        subst (IsBase es e.id) (sym node) (record { entry = e; there = there.among; named = refl; of_node = there.node; of_checkpoint = there.of_checkpoint }))
        (λ l. tt)

-- the depth of an id is that of its entry, where ids ascend
above-other : (id : ℕ) (es : List Entry) (e : Entry) → AllByRecursion (λ later. id < later) (ids_of es) → Contains es e → (id ≡ e.id → ⊥)
above-other id [] e a c = λ same. let l = c.1 in absurd (omega (arith, l))
above-other id (z ∷ es) e a (zero, l, is) = λ same. let low = a.0 in let k = ap (λ (y : Entry). y.id) is in absurd (omega (arith, low, k, same))
above-other id (z ∷ es) e a (suc i, l, is) = above-other id es e a.1 (i, omega (arith, l), is)

pub depth-there : (es : List Entry) (e : Entry) → AreAscending (ids_of es) → Contains es e → depth_at e.id es ≡ e.depth
depth-there [] e a c = let l = c.1 in absurd (omega (arith, l))
depth-there (z ∷ es) e a (zero, l, is) =
    ap (λ b. cond b z.depth (depth_at e.id es)) (eq-eqb z.id e.id (ap (λ (y : Entry). y.id) is)) ∙ ap (λ (y : Entry). y.depth) is
depth-there (z ∷ es) e a (suc i, l, is) =
    let rest : Contains es e = (i, omega (arith, l), is) in
    ap (λ b. cond b z.depth (depth_at e.id es)) (false_from_ne_true (z.id == e.id) (λ k. above-other z.id es e a.0 rest (eqb-true z.id e.id k)))
    ∙ depth-there es e a.1 rest

-- ---- depths of writes

depths-append : (p : ℕ) (xs ys : List Write) → depths_of p (xs ++ ys) ≡ depths_of p xs ++ depths_of p ys
depths-append p xs ys = flat_map-append (λ (x : Write). cond (x.node == p) (checkpoint_depth x.depth x.written) []) xs ys

none-deep : (p : ℕ) (xs : List Write) → checkpoints_of p xs ≡ [] → depths_of p xs ≡ []
none-deep p [] k = refl
none-deep p (x ∷ xs) k = by (x.node == p) x.written k (none-deep p xs)
  where
    by : (own : Bool) (w : WrittenBy) → cond own (checkpoint_front w) [] ++ checkpoints_of p xs ≡ [] → (checkpoints_of p xs ≡ [] → depths_of p xs ≡ [])
        → cond own (checkpoint_depth x.depth w) [] ++ depths_of p xs ≡ []
    by true (checkpoint f low) k h = absurd (let c : f ∷ checkpoints_of p xs ≡ [] = k in cc)
    by true (logged_event s) k h = h k
    by false w k h = h k

after-last : (ds : List ℕ) (d : ℕ) → depth_after (ds ++ d ∷ []) ≡ cond (nat_lt d 7) (d + 1) 0
after-last [] d = refl
after-last (x ∷ []) d = refl
after-last (x ∷ y ∷ ds) d = after-last (y ∷ ds) d

-- the base of a deeper one is the last front
base-is_last : (d : ℕ) (fs : List Front) (g : Front) → ((f : Front) → last_or f fs ≡ g) → base_of_depth (d + 1) fs ≡ Some g
base-is_last d [] g k = absurd (let c : ◌≡◌ {A = Front} [] ([] ∷ []) = k [] ∙ sym (k ([] ∷ [])) in cc)
base-is_last d (f ∷ fs) g k = ap (λ n. base_of_depth n (f ∷ fs)) (add-one d) ∙ ap Some (k f)

-- ---- the next base

-- What the machine's next checkpoint of node p stands on is this entry, or nothing where there is none.
pub record IsNextBase (sys : System) (state : Machine) (p : ℕ) (entries : List Entry) (o : Option Entry) : Type 0 where
  pub since : IsSinceNewest sys state p (front_of_entry o)
  pub base : base_of_depth (next_depth p state.writes) (checkpoints_of p state.writes) ≡ front_of_entry o
  pub depth : (all : List Entry) → ((e : Entry) → o ≡ Some e → depth_at e.id all ≡ e.depth) → (c : Checkpoint)
      → depth_on (base_of_record (record_on o c)) all ≡ next_depth p state.writes
  pub named : (c : Checkpoint) → base_of_record (record_on o c) ≡ option_and_then (λ f. id_at_front p f entries) (front_of_entry o)
  pub there : (e : Entry) → o ≡ Some e → Contains entries e
  pub record_for : (f : Front) (c : Checkpoint) → IsToldFor sys state p (front_of_entry o) f c
      → IsRecordFor sys state p (front_of_entry o) (checkpoint f state.low) (record_on o c)

-- the front of an entry's checkpoint is that of its write
front-is : (sys : System) (state : Machine) (p : ℕ) (e : Written) (w : WrittenBy) (f : Front) (low : List Front) → HoldsWhatIsWritten sys state p e w → w ≡ checkpoint f low
    → written_front e ≡ Some f
front-is sys state p (written.Checkpoint r t n) (checkpoint g l) f low h is = ap Some (h.recorded).front ∙ ap Some (let same : g ≡ f = cc in same)
front-is sys state p (written.Checkpoint r t n) (logged_event s) f low h is = absurd h
front-is sys state p (written.Event event) (checkpoint g l) f low h is = absurd h
front-is sys state p (written.Event event) (logged_event s) f low h is = absurd (cc)

whole-next : (sys : System) (state : Machine) (p : ℕ) (entries : List Entry) → next_depth p state.writes ≡ 0 → IsNextBase sys state p entries None
whole-next sys state p entries whole = record {
  since = tt;
  base = ap (λ d. base_of_depth d (checkpoints_of p state.writes)) whole;
  depth = λ all k c. sym whole;
  named = λ c. refl;
  there = λ e k. absurd (let c : None ≡ Some e = k in cc);
  record_for = λ f c told. told;
}

deeper-next : (sys : System) (state : Machine) (p : ℕ) (entries : List Entry) (e : Entry) (g : Front) → written_front e.written ≡ Some g → next_depth p state.writes ≡ e.depth + 1
    → ((f : Front) → last_or f (checkpoints_of p state.writes) ≡ g) → id_at_front p g entries ≡ Some e.id → Contains entries e
    → IsNextBase sys state p entries (Some e)
deeper-next sys state p entries e g front deep last named there = record {
  since = subst (IsSinceNewest sys state p) (sym front) (last (no_stamps (bounds_of sys.flow p)));
  base = ap (λ d. base_of_depth d (checkpoints_of p state.writes)) deep ∙ base-is_last e.depth (checkpoints_of p state.writes) g last ∙ sym front;
  depth = λ all k c. ap (λ d. d + 1) (k e refl) ∙ sym deep;
  named = λ c. sym named ∙ sym (ap (option_and_then (λ f. id_at_front p f entries)) front);
  there = λ x k. subst (Contains entries) (some-same e x k) there;
  record_for = λ f c.
      subst (λ o. IsToldFor sys state p o f c → IsRecordFor sys state p o (checkpoint f state.low) (record_on (Some e) c)) (sym front) (λ told. told);
}

-- what the entries say is what the machine does
pub next-base : (sys : System) → IsWellFormedSystem sys → (state : Machine) → IsReached sys state → (entries : List Entry) → AreEntriesOf sys state entries (uncollected state)
    → (p : ℕ) → p < length sys.flow.nodes → IsNextBase sys state p entries (next_base p entries)
next-base sys w state r es a p l = by (newest_by p es) refl
  where
    left : next_depth p (uncollected state) ≡ next_depth p state.writes
    left = (next-stands_on_left sys w r.0 r.1 state r.2 p l).0

    by : (o : Option Entry) → newest_by p es ≡ o → IsNextBase sys state p es (base_after o)
    by None k =
        whole-next sys state p es (ap depth_after (none-deep p state.writes (none_is_asked sys w state r es a p k)))
    by (Some e) k =
        let is = newest_entry_is_of_write sys w state r es a p e k in
        let x = is.write in
        let own : cond (x.node == p) (checkpoint_depth x.depth x.written) [] ≡ x.depth ∷ [] =
        ap (λ b. cond b (checkpoint_depth x.depth x.written) []) (eq-eqb x.node p is.node) ∙ ap (checkpoint_depth x.depth) is.of_checkpoint in
        let depths : depths_of p (uncollected state) ≡ depths_of p is.earlier ++ x.depth ∷ [] =
        ap (depths_of p) is.there ∙ depths-append p is.earlier (x ∷ is.later)
        ∙ ap (λ ds. depths_of p is.earlier ++ (ds ++ depths_of p is.later)) own
        ∙ ap (λ ds. depths_of p is.earlier ++ (x.depth ∷ ds)) (none-deep p is.later is.none) in
        let next : next_depth p state.writes ≡ cond (nat_lt e.depth 7) (e.depth + 1) 0 =
        sym left ∙ ap depth_after depths ∙ after-last (depths_of p is.earlier) x.depth ∙ ap (λ d. cond (nat_lt d 7) (d + 1) 0) (sym is.of_write.depth) in
        let last : (f : Front) → last_or f (checkpoints_of p state.writes) ≡ is.front = λ f. newest-kept sys w r.0 r.1 state r.2 p f ∙ is.last f in
        cond_both (nat_lt e.depth 7) (Some e) None (λ b. IsNextBase sys state p es b)
        (λ low.
        deeper-next sys state p es e is.front
        (front-is sys state x.node e.written x.written is.front is.low is.of_write.holds is.of_checkpoint)
        (next ∙ ap (λ b. cond b (e.depth + 1) 0) low) last is.named is.among)
        (λ high. whole-next sys state p es (next ∙ ap (λ b. cond b (e.depth + 1) 0) high))

-- ---- beside others

-- entries of other nodes leave the newest one
newest-none : (p : ℕ) (more : List Entry) → AllByRecursion (λ (e : Entry). (e.node == p) ≡ false) more → newest_by p more ≡ None
newest-none p [] a = refl
newest-none p (e ∷ more) a =
    ap (λ o. option_or o (cond ((e.node == p) && is_checkpoint e.written) (Some e) None)) (newest-none p more a.1)
    ∙ ap (λ b. cond (b && is_checkpoint e.written) (Some e) None) a.0

pub newest-others : (p : ℕ) (es more : List Entry) → AllByRecursion (λ (e : Entry). (e.node == p) ≡ false) more → newest_by p (es ++ more) ≡ newest_by p es
newest-others p [] more a = newest-none p more a
newest-others p (e ∷ es) more a = ap (λ o. option_or o (cond ((e.node == p) && is_checkpoint e.written) (Some e) None)) (newest-others p es more a)

-- an id that is found among the first is found
id-left : (p : ℕ) (f : Front) (es more : List Entry) (id : ℕ) → id_at_front p f es ≡ Some id → id_at_front p f (es ++ more) ≡ Some id
id-left p f [] more id k = absurd (let c : None ≡ Some id = k in cc)
id-left p f (e ∷ es) more id k = by (list_any (same_front f) (entry_fronts p (e ∷ []))) k (id-left p f es more id)
  where
    by : (b : Bool) → cond b (Some e.id) (id_at_front p f es) ≡ Some id → (id_at_front p f es ≡ Some id → id_at_front p f (es ++ more) ≡ Some id)
        → cond b (Some e.id) (id_at_front p f (es ++ more)) ≡ Some id
    by true k h = k
    by false k h = h k

-- an entry that stands on one of the first stands on it among all
pub base-left : (p : ℕ) (es more : List Entry) (base : Option ℕ) (front : Option Front) → HasBaseOf base front
    → base ≡ option_and_then (λ f. id_at_front p f es) front → base ≡ option_and_then (λ f. id_at_front p f (es ++ more)) front
base-left p es more None None h k = refl
base-left p es more None (Some f) h k = absurd h
base-left p es more (Some id) None h k = absurd h
base-left p es more (Some id) (Some f) h k = sym (id-left p f es more id (sym k))

pub bases-left : (sys : System) (state : Machine) (es more news : List Entry) (writes : List Write) → AreEntriesOf sys state news writes → AreBasesOf es news writes
    → AreBasesOf (es ++ more) news writes
bases-left sys state es more [] [] a b = tt
bases-left sys state es more [] (x ∷ xs) a b = absurd a
bases-left sys state es more (e ∷ news) [] a b = absurd a
bases-left sys state es more (e ∷ news) (x ∷ xs) a b =
    (base-left x.node es more e.base x.base (a.0).base b.0, bases-left sys state es more news xs a.1 b.1)

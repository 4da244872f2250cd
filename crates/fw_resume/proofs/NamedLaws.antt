-- The records of an engine's store hold the writes that its root names.
use Rattle.std.proofs.Common.{◌≡◌, ℕ, zero, suc, ◌+◌, ◌<◌, ◌≤◌, Bool, true, false, not, ◌&&◌, ◌||◌, ◌==◌, cond, inl, inr, List, [], ◌∷◌, filter, length, map, Option, refl, sym, ap, subst, ◌∙◌, arith}
use Rattle.std.specs.List.{AllByRecursion, AllZip, range_with_len}
use Rattle.std.proofs.lemmas.Bool.{cases_eq, eq-eqb}
use Rattle.fw_lemmas.proofs.Each.{each-both, each-filter, each-kept, each-one, each-weaker}
use Rattle.fw_flow.specs.declared.step.Step.TheVariants.{Fail}
use Rattle.fw_flow.specs.Dataflow.{System, is_one_of, node_ids}
use Rattle.fw_flow.specs.WellFormed.{IsWellFormedSystem}
use Rattle.fw_model.specs.Choice.{is_counted, kept}
use Rattle.fw_model.specs.Machine.{Machine, Stage, Write, acknowledged, collected, in_flight}
use Rattle.fw_model.specs.Reached.{IsReached}
use Rattle.fw_model.specs.Steps.{Outcome, StepsTo, did, idle, is_in_flight}
use Rattle.fw_model.specs.Writes.{is_collected, not_collected}
use Rattle.fw_keep.specs.declared.entry.Entry.{Entry}
use Rattle.fw_keep.specs.Catalogue.{ids_of}
use Rattle.fw_keep.specs.Stored.{Records}
use Rattle.fw_regain.specs.Down.{down}
use Rattle.fw_regain.proofs.DownLaws.{are-down, go-down}
use Rattle.fw_regain.proofs.FlightLaws.{IsOfLive, flying-live}
use Rattle.fw_root.specs.declared.root.NamedWrite.{NamedWrite}
use Rattle.fw_root.specs.declared.root.Root.{Root}
use Rattle.fw_stands.specs.Entries.{AreBasesOf, is_lost_of}
use Rattle.fw_stands.specs.Written.{AreEntriesOf, AreStored, IsEntryOf, uncollected}
use Rattle.fw_stands.proofs.BaseSteps.{bases_after_failure}
use Rattle.fw_stands.proofs.EntrySteps.{entries_after_failure, records_after_failure}
use Rattle.fw_resume.specs.Named.{AreNamed}
use Rattle.fw_resume.specs.Names.{name_of}

filter-alike : {A : Type 0} (f g : A → Bool) (xs : List A) → AllByRecursion (λ x. f x ≡ g x) xs → filter f xs ≡ filter g xs
filter-alike f g [] a = refl
filter-alike f g (x ∷ xs) a = ap (λ b. cond b (x ∷ filter f xs) (filter f xs)) a.0 ∙ ap (λ ys. cond (g x) (x ∷ ys) ys) (filter-alike f g xs a.1)

filter-all : {A : Type 0} (f : A → Bool) (xs : List A) → AllByRecursion (λ x. f x ≡ true) xs → filter f xs ≡ xs
filter-all f [] a = refl
filter-all f (x ∷ xs) a = ap (λ b. cond b (x ∷ filter f xs) (filter f xs)) a.0 ∙ ap (λ ys. x ∷ ys) (filter-all f xs a.1)

pub zip-each : {A B : Type 0} (R : A → B → Type 0) (P : B → Type 0) (Q : A → Type 0) (xs : List A) (ys : List B) → ((x : A) (y : B) → R x y → P y → Q x) → AllZip R xs ys
    → AllByRecursion P ys → AllByRecursion Q xs
zip-each R P Q [] [] k a b = tt
zip-each R P Q [] (y ∷ ys) k a b = absurd a
zip-each R P Q (x ∷ xs) [] k a b = absurd a
zip-each R P Q (x ∷ xs) (y ∷ ys) k a b = (k x y a.0 b.0, zip-each R P Q xs ys k a.1 b.1)

-- a write that is not kept and was not collected is in flight
is-flying : (far : Stage) → is_counted kept far ≡ false → (not_left : far ≡ collected → ⊥) → is_in_flight far ≡ true
is-flying in_flight k n = refl
is-flying acknowledged k n = absurd (cc)
is-flying collected k n = absurd (n refl)

is-kept : (far : Stage) → is_in_flight far ≡ false → (not_left : far ≡ collected → ⊥) → is_counted kept far ≡ true
is-kept in_flight k n = absurd (cc)
is-kept acknowledged k n = refl
is-kept collected k n = absurd (n refl)

left-not : (w : Write) → not_collected w ≡ true → w.stage ≡ collected → ⊥
left-not w k e = let c : false ≡ true = sym (ap (λ far. not_collected (record w { stage = far })) e) ∙ k in cc

each-left : (ws : List Write) → AllByRecursion (λ (w : Write). not_collected w ≡ true) (filter not_collected ws)
each-left ws = each-filter (λ (w : Write). not_collected w ≡ true) not_collected ws (each-one (λ (w : Write). not_collected w ≡ true → not_collected w ≡ true) ws (λ w k. k))

one-in_range : (p a n : ℕ) → a ≤ p → p < a + n → is_one_of p (range_with_len a n) ≡ true
one-in_range p a zero l m = absurd (omega (arith, l, m))
one-in_range p a (suc n) l m = elim (cases_eq a p) [
  | inl e ↦ ap (λ b. b || is_one_of p (range_with_len (a + 1) n)) (eq-eqb a p e)
  | inr e ↦ ap (λ b. (a == p) || b) (one-in_range p (a + 1) n (omega (arith, l, e)) (omega (arith, m))) ∙ or-true (a == p)
]
  where
    or-true : (b : Bool) → (b || true) ≡ true
    or-true true = refl
    or-true false = refl

-- of a declared node's entry: it is not lost where all fail exactly where it is acknowledged
not-lost : (sys : System) (e : Entry) → (e.acknowledged ≡ false → e.node < length sys.flow.nodes) → not (is_lost_of (node_ids sys.flow) e) ≡ e.acknowledged
not-lost sys e there = by e.acknowledged refl
  where
    by : (b : Bool) → e.acknowledged ≡ b → not (is_one_of e.node (node_ids sys.flow) && not e.acknowledged) ≡ e.acknowledged
    by true k = ap (λ b. not (is_one_of e.node (node_ids sys.flow) && not b)) k ∙ and-none (is_one_of e.node (node_ids sys.flow)) ∙ sym k
      where
        and-none : (b : Bool) → not (b && false) ≡ true
        and-none true = refl
        and-none false = refl
    by false k =
        ap (λ b. not (is_one_of e.node (node_ids sys.flow) && not b)) k
        ∙ ap (λ b. not (b && true)) (one-in_range e.node 0 (length sys.flow.nodes) (omega arith) (let l = there k in omega (arith, l))) ∙ sym k

entries-declared : (sys : System) (state : Machine) (entries : List Entry) → IsReached sys state → AreEntriesOf sys state entries (uncollected state)
    → AllByRecursion (λ (e : Entry). not (is_lost_of (node_ids sys.flow) e) ≡ e.acknowledged) entries
entries-declared sys state entries r a =
    zip-each (IsEntryOf sys state) (λ (w : Write). IsOfLive sys state w × (not_collected w ≡ true)) (λ (e : Entry). not (is_lost_of (node_ids sys.flow) e) ≡ e.acknowledged)
    entries (uncollected state)
    (λ e w i p. not-lost sys e (λ k. subst (λ n. n < length sys.flow.nodes) (sym i.node) (p.0 (is-flying w.stage (sym i.acknowledged ∙ k) (left-not w p.1))).0)) a
    (each-both (IsOfLive sys state) (λ (w : Write). not_collected w ≡ true) (uncollected state)
    (each-kept (IsOfLive sys state) not_collected state.writes (flying-live sys state r)) (each-left state.writes))

-- where nothing is in flight all are acknowledged
all-acknowledged : (sys : System) (state : Machine) (entries : List Entry) → AllByRecursion (λ (w : Write). is_in_flight w.stage ≡ false) state.writes
    → AreEntriesOf sys state entries (uncollected state) → AllByRecursion (λ (e : Entry). e.acknowledged ≡ true) entries
all-acknowledged sys state entries none a =
    zip-each (IsEntryOf sys state) (λ (w : Write). (is_in_flight w.stage ≡ false) × (not_collected w ≡ true)) (λ (e : Entry). e.acknowledged ≡ true) entries (uncollected state)
    (λ e w i p. i.acknowledged ∙ is-kept w.stage p.0 (left-not w p.1)) a
    (each-both (λ (w : Write). is_in_flight w.stage ≡ false) (λ (w : Write). not_collected w ≡ true) (uncollected state)
    (each-kept (λ (w : Write). is_in_flight w.stage ≡ false) not_collected state.writes none) (each-left state.writes))

-- where nothing is in flight what was not collected is kept
kept-is : (ws : List Write) → AllByRecursion (λ (w : Write). is_in_flight w.stage ≡ false) ws → filter not_collected ws ≡ filter (λ (w : Write). is_counted kept w.stage) ws
kept-is ws a =
    filter-alike not_collected (λ (w : Write). is_counted kept w.stage) ws
    (each-weaker (λ (w : Write). is_in_flight w.stage ≡ false) (λ (w : Write). not_collected w ≡ is_counted kept w.stage) ws (λ w k. by w.stage k) a)
  where
    by : (far : Stage) → is_in_flight far ≡ false → not (is_collected far) ≡ is_counted kept far
    by in_flight k = absurd (cc)
    by acknowledged k = refl
    by collected k = refl

ids-named : (es : List Entry) → map (λ (w : NamedWrite). w.id) (map name_of es) ≡ ids_of es
ids-named [] = refl
ids-named (e ∷ es) = ap (λ xs. e.id ∷ xs) (ids-named es)

named-all : (sys : System) (records : Option Records) (state : Machine) (entries : List Entry) (root : Root)
    → AreEntriesOf sys (down sys state) entries (uncollected (down sys state)) → AreBasesOf entries entries (uncollected (down sys state))
    → AreStored sys (down sys state) records entries (uncollected (down sys state)) → root.writes ≡ map name_of entries → AreNamed sys (down sys state) root records
named-all sys records state entries root a b s n =
    let e = kept-is (down sys state).writes (are-down sys state).lost in record {
      entries = entries;
      ids = sym (ids-named entries) ∙ ap (map (λ (w : NamedWrite). w.id)) (sym n);
      stand = subst (AreEntriesOf sys (down sys state) entries) e a;
      bases = subst (AreBasesOf entries entries) e b;
      stored = subst (AreStored sys (down sys state) records entries) e s;
    }

pub named : (sys : System) (records : Option Records) (state : Machine) (entries : List Entry) (root : Root) → IsWellFormedSystem sys → IsReached sys state
    → AreEntriesOf sys state entries (uncollected state) → AreBasesOf entries entries (uncollected state) → AreStored sys state records entries (uncollected state)
    → root.writes ≡ map name_of (filter (λ (e : Entry). e.acknowledged) entries) → AreNamed sys (down sys state) root records
named sys records state entries root w r a b s n = let g = go-down sys state r in by g.0 g.1
  where
    by : (o : Outcome) → StepsTo sys state (Fail (node_ids sys.flow)) (down sys state) o → AreNamed sys (down sys state) root records
    by (did effect) t =
        let ps = node_ids sys.flow in
        let same = filter-alike (λ (e : Entry). not (is_lost_of ps e)) (λ (e : Entry). e.acknowledged) entries (entries-declared sys state entries r a) in
        named-all sys records state (filter (λ (e : Entry). not (is_lost_of ps e)) entries) root
        (entries_after_failure sys w state r ps (down sys state) effect t entries a)
        (bases_after_failure sys w state r ps (down sys state) effect t entries a b)
        (records_after_failure sys w state r ps (down sys state) effect t entries a records s)
        (n ∙ ap (map name_of) (sym same))
    by idle t =
        let e : down sys state ≡ state = t.1 in
        let none = subst (λ (m : Machine). AllByRecursion (λ (x : Write). is_in_flight x.stage ≡ false) m.writes) e (are-down sys state).lost in
        named-all sys records state entries root
        (subst (λ (m : Machine). AreEntriesOf sys m entries (uncollected m)) (sym e) a)
        (subst (λ (m : Machine). AreBasesOf entries entries (uncollected m)) (sym e) b)
        (subst (λ (m : Machine). AreStored sys m records entries (uncollected m)) (sym e) s)
        (n ∙ ap (map name_of) (filter-all (λ (x : Entry). x.acknowledged) entries (all-acknowledged sys state entries none a)))

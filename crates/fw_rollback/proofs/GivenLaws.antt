-- The records that are fetched, and what they give.
use Rattle.std.proofs.Common.{◌≡◌, ◌≢◌, ℕ, ◌+◌, ◌<◌, Bool, true, false, ◌&&◌, ◌==◌, List, [], ◌∷◌, ◌++◌, length, length-set, take, get_or, set, filter, Option, Some, None, Ok, Err, refl, sym, ap, subst, ◌∙◌, inl, inr, arith}
use Rattle.std.proofs.lemmas.Bool.{cases_Bool, eqb-true, eq-eqb, and_parts, and_from, false≢true}
use Rattle.std.proofs.lemmas.List.{append-nil, take_more, get_or-set_same, get_or-set_other}
use Rattle.std.proofs.lemmas.List.Elements.{filter-append}
use Rattle.std.specs.List.{AllZip, Contains}
use Rattle.std.specs.Option.{ForSome}
use Rattle.std.specs.FinMap as map
use Rattle.fw_lemmas.proofs.Each.{each-weaker, each-one, each-at, each_of-map, each-filter}
use Rattle.fw_lemmas.proofs.Filters.{filter-in, filter-out}
use Rattle.fw_lemmas.proofs.SideBySide.{zip-weaker}
use Rattle.fw_outside.specs.Outside.{StayIfTold}
use Rattle.fw_outside.proofs.ToldLaws.{told-kept}
use Rattle.fw_time.specs.Stamp.{in_domain}
use Rattle.fw_frontier.specs.Front.{Front, inside}
use Rattle.fw_flow.specs.declared.choice.Choice.{Choice}
use Rattle.fw_flow.specs.declared.choice.Cut.{Cut}
use Rattle.fw_flow.specs.declared.choice.Cut.TheVariants.{Present, At}
use Rattle.fw_flow.specs.declared.restoring.Restoring.{Restoring}
use Rattle.fw_flow.specs.declared.restoring.Restoring.TheVariants.{Batches, Bound, Anything, Checkpoints, Events}
use Rattle.fw_flow.specs.Dataflow.{Dataflow, out_edges, bounds_of, node_frontier}
use Rattle.fw_flow.specs.Restoring.{way_of}
use Rattle.fw_model.specs.Choice.{cut_of}
use Rattle.fw_record.specs.declared.logged.Logged.{Logged}
use Rattle.fw_record.specs.declared.record.Record.{Record}
use Rattle.fw_record.specs.declared.record.Record.TheVariants as tagged
use Rattle.fw_record.specs.OfNode.{CanBeLogged}
use Rattle.fw_record.specs.Spelling.{spelling}
use Rattle.fw_keep.specs.declared.entry.Entry.{Entry}
use Rattle.fw_keep.specs.declared.entry.Written.{Written}
use Rattle.fw_keep.specs.declared.entry.Written.TheVariants as written
use Rattle.fw_keep.specs.declared.fault.KeepFault.{KeepFault}
use Rattle.fw_keep.specs.declared.fault.KeepFault.TheVariants as fault
use Rattle.fw_keep.specs.Catalogue.{has_entry, ids_of}
use Rattle.fw_keep.proofs.IdLaws.{among-self}
use Rattle.fw_record.specs.Event.{stamp_of_event}
use Rattle.fw_keep.specs.Entry.{IsRecordAs, IsRecordOn}
use Rattle.fw_keep.specs.Stored.{Records, Fetches, IsToldUnder, IsFetched}
use Rattle.fw_rollback.specs.Asked.{read_from, is_needed, is_asked_at, is_asked_for, asked_of, given_of, AreFetched, ComesOfReading, CanServe, CanServeEach}
use Rattle.fw_rollback.proofs.ListLaws.{zip-push, zip-each}

-- ---- one entry more

-- whether an entry is one of node p for which the choice asks, among these
abbrev pub is_of : Dataflow → Choice → List Entry → ℕ → Entry → Bool
is_of flow choice all p e = (e.node == p) && is_asked_for flow choice all e

-- Of some of these entries the records were fetched, for each node.
pub record HasFetched (flow : Dataflow) (choice : Choice) (records : Option Records) (all some : List Entry) (given : List (List Record)) : Type 0 where
  pub each : length given ≡ length flow.nodes
  pub fetched : (p : ℕ) → p < length flow.nodes → AllZip (IsFetched flow records) (filter (is_of flow choice all p) some) (given_of given p)

-- one entry more, at place i of some of those among which it is asked for
module _ (flow : Dataflow) (choice : Choice) (records : Option Records) (all some : List Entry) (i : ℕ) (e : Entry) (l : i < length some) (at : e ≡ get_or some i e) where
  asked-more : (p : ℕ) → filter (is_of flow choice all p) (take (i + 1) some)
      ≡ filter (is_of flow choice all p) (take i some) ++ filter (is_of flow choice all p) (e ∷ [])
  asked-more p =
      let here : Entry → List Entry = λ x. filter (is_of flow choice all p) (take i some) ++ filter (is_of flow choice all p) (x ∷ []) in
      ap (filter (is_of flow choice all p)) (take_more some i e l)
      ∙ filter-append (is_of flow choice all p) (take i some) (get_or some i e ∷ []) ∙ ap here (sym at)

  -- the entry is asked for, and its record was added
  pub fetched-more : (r : Record) (given next : List (List Record)) → is_asked_for flow choice all e ≡ true
      → HasFetched flow choice records all (take i some) given → IsFetched flow records e r → next ≡ set given e.node (given_of given e.node ++ r ∷ [])
      → HasFetched flow choice records all (take (i + 1) some) next
  fetched-more r given next asked h one is = record {
    each = ap length is ∙ length-set given e.node (given_of given e.node ++ r ∷ []) ∙ h.each;
    fetched = λ p n.
        let P : List Entry → List Record → Type 0 = λ es rs. AllZip (IsFetched flow records) es rs in
        let before = filter (is_of flow choice all p) (take i some) in
        let more = asked-more p in
        elim (cases_Bool (e.node == p)) [
          | inl s ↦
              let same : e.node ≡ p = eqb-true e.node p s in
              let in_e : filter (is_of flow choice all p) (e ∷ []) ≡ e ∷ [] =
              filter-in (is_of flow choice all p) e [] (and_from (e.node == p) (is_asked_for flow choice all e) s asked) in
              let there : e.node < length given = omega (arith, h.each, n, same) in
              let records_are : given_of next p ≡ given_of given p ++ r ∷ [] =
              ap (λ (gs : List (List Record)). given_of gs p) is
              ∙ ap (λ q. given_of (set given e.node (given_of given e.node ++ r ∷ [])) q) (sym same)
              ∙ get_or-set_same given e.node (given_of given e.node ++ r ∷ []) [] there
              ∙ ap (λ q. given_of given q ++ r ∷ []) same in
              subst (λ (es : List Entry). P es (given_of next p)) (sym (more ∙ ap (λ (xs : List Entry). before ++ xs) in_e))
              (subst (P (before ++ e ∷ [])) (sym records_are) (zip-push (IsFetched flow records) before (given_of given p) e r (h.fetched p n) one))
          | inr s ↦
              let out_e : filter (is_of flow choice all p) (e ∷ []) ≡ [] =
              filter-out (is_of flow choice all p) e [] (ap (λ b. b && is_asked_for flow choice all e) s) in
              let records_are : given_of next p ≡ given_of given p =
              ap (λ (gs : List (List Record)). given_of gs p) is ∙ get_or-set_other given e.node p (given_of given e.node ++ r ∷ []) [] (apart p e.node s) in
              subst (λ (es : List Entry). P es (given_of next p)) (sym (more ∙ ap (λ (xs : List Entry). before ++ xs) out_e ∙ append-nil before))
              (subst (P before) (sym records_are) (h.fetched p n))
        ];
  }
    where
      apart : (a b : ℕ) → b == a ≡ false → a ≢ b
      apart a b f e = absurd (false≢true (sym f ∙ eq-eqb b a (sym e)))

  -- the entry is not asked for
  pub fetched-same : (given : List (List Record)) → is_asked_for flow choice all e ≡ false → HasFetched flow choice records all (take i some) given
      → HasFetched flow choice records all (take (i + 1) some) given
  fetched-same given asked h = record {
    each = h.each;
    fetched = λ p n.
        let P : List Entry → Type 0 = λ es. AllZip (IsFetched flow records) es (given_of given p) in
        let before = filter (is_of flow choice all p) (take i some) in
        let out_e : filter (is_of flow choice all p) (e ∷ []) ≡ [] =
        filter-out (is_of flow choice all p) e [] (and_no (e.node == p) (is_asked_for flow choice all e) asked) in
        subst P (sym (asked-more p ∙ ap (λ (xs : List Entry). before ++ xs) out_e ∙ append-nil before)) (h.fetched p n);
  }
    where
      and_no : (a b : Bool) → b ≡ false → a && b ≡ false
      and_no true b e = e
      and_no false b e = refl

-- what was fetched of an entry
pub fetched-one : (flow : Dataflow) (records : Option Records) (e : Entry) (r : Record) (given : Option (ℕ × List ℕ)) → Fetches flow e given (Ok r)
    → IsToldUnder e.id records (Ok r) → IsFetched flow records e r
fetched-one flow records e r given f t = record { sound = f.1; fits = f.2; told = t }

-- what was fetched is so by what the store tells after another answer
pub fetched-told : (flow : Dataflow) (choice : Choice) (before after : Option Records) (all some : List Entry) (given : List (List Record)) → StayIfTold before after
    → HasFetched flow choice before all some given → HasFetched flow choice after all some given
fetched-told flow choice before after all some given stay h = record {
  each = h.each;
  fetched = λ p n. zip-weaker (IsFetched flow before) (IsFetched flow after) (filter (is_of flow choice all p) some) (given_of given p)
      (λ e r one. record {
        sound = one.sound;
        fits = one.fits;
        told = told-kept (λ records. ForSome records (λ held. map.get held e.id ≡ Some (spelling r))) before after stay (λ held is. absurd (cc)) one.told;
      }) (h.fetched p n);
}

-- what is true of two things is true of two that are the same
pub of-both : {A B : Type 0} (P : A → B → Type 0) {a x : A} {b y : B} → a ≡ x → b ≡ y → P x y → P a b
of-both P {a} {x} {b} {y} e f p = subst (λ c. P c b) (sym e) (subst (λ d. P x d) (sym f) p)

-- the record of whose reading a fault comes is one that the choice asks for
pub of_reading : (T : Type 0) (flow : Dataflow) (choice : Choice) (records : Option Records) (entries : List Entry) (e : Entry) (given : Option (ℕ × List ℕ)) (why : KeepFault)
    → Contains entries e → is_asked_for flow choice entries e ≡ true → Fetches flow e given (Err why) → IsToldUnder e.id records (Err why)
    → ComesOfReading {T = T} flow choice records entries given (Err why)
of_reading T flow choice records entries e given (fault.Damaged id bytes) there asked f t = record {
  entry = e;
  there = there;
  asked = asked;
  named = sym f.0;
  given = f.1 ∙ ap (λ n. Some (n, bytes.items)) (sym f.0);
  told = let P : ℕ → Type 0 = λ n. ForSome records (λ held. map.get held n ≡ Some bytes.items) in subst P (sym f.0) t;
  none = f.2;
}
of_reading T flow choice records entries e given fault.StoreFault there asked f t = record { entry = e; there = there; asked = asked }
of_reading T flow choice records entries e given fault.NoMemory there asked f t = tt

-- ---- what the records serve

-- what a node needs of its records, by some front of a whole one and some front of a cut
abbrev IsNeeded : Dataflow → Entry → Type 0
IsNeeded flow e = (whole : Option Front) × (g : Front) × (is_needed flow whole e.node g (way_of flow e.node) e.written ≡ true)

needed : (flow : Dataflow) (choice : Choice) (all : List Entry) (p : ℕ) (e : Entry) → is_of flow choice all p e ≡ true → (e.node ≡ p) × IsNeeded flow e
needed flow choice all p e h =
    let parts = and_parts (e.node == p) (is_asked_for flow choice all e) h in
    (eqb-true e.node p parts.0, by (cut_of choice e.node) parts.1)
  where
    by : (cut : Cut) → is_asked_at flow all cut e ≡ true → IsNeeded flow e
    by Present a = absurd (false≢true a)
    by (At g) a =
        let whole = read_from e.node g all in
        (whole, g, (and_parts e.acknowledged (is_needed flow whole e.node g (way_of flow e.node) e.written) a).1)

-- a record of a checkpoint has its messages on edges of its node, whole or of changes
on-edges : (flow : Dataflow) (p : ℕ) (f : Front) (base : Option ℕ) (r : Record) → IsRecordOn flow p f base r → CanServe flow p r
on-edges flow p f None (tagged.State c) h =
    each-weaker (CanBeLogged flow p f) (λ (l : Logged). Contains (out_edges flow p) l.edge) c.log (λ l k. k.edge) h.log.messages
on-edges flow p f None (tagged.Event q event) h = absurd h
on-edges flow p f None (tagged.Changes id c) h = absurd h
on-edges flow p f (Some base) (tagged.State c) h = absurd h
on-edges flow p f (Some base) (tagged.Event q event) h = absurd h
on-edges flow p f (Some base) (tagged.Changes id c) h =
    each-weaker (CanBeLogged flow p f) (λ (l : Logged). Contains (out_edges flow p) l.edge) c.log (λ l k. k.edge) h.1.log.messages

serves : (flow : Dataflow) (whole : Option Front) (p : ℕ) (g : Front) (way : Restoring) (base : Option ℕ) (what : Written) (r : Record)
    → is_needed flow whole p g way what ≡ true → IsRecordAs flow p base what r → CanServe flow p r
serves flow whole p g way base (written.Checkpoint recorded stamps sent) r n f = on-edges flow p recorded.front base r f.of_node
serves flow whole p g Events base (written.Event event) r n f =
    subst (CanServe flow p) (sym f) (and_parts (in_domain (bounds_of flow p) (stamp_of_event event)) (inside g (stamp_of_event event)) (of_event whole n)).0
  where
    of_event : (w : Option Front) → is_needed flow w p g Events (written.Event event) ≡ true → node_frontier flow p g (stamp_of_event event) ≡ true
    of_event None h = h
    of_event (Some x) h = h
serves flow None p g Batches base (written.Event event) r n f = absurd (false≢true n)
serves flow (Some w) p g Batches base (written.Event event) r n f = absurd (false≢true n)
serves flow None p g Bound base (written.Event event) r n f = absurd (false≢true n)
serves flow (Some w) p g Bound base (written.Event event) r n f = absurd (false≢true n)
serves flow None p g Anything base (written.Event event) r n f = absurd (false≢true n)
serves flow (Some w) p g Anything base (written.Event event) r n f = absurd (false≢true n)
serves flow None p g Checkpoints base (written.Event event) r n f = absurd (false≢true n)
serves flow (Some w) p g Checkpoints base (written.Event event) r n f = absurd (false≢true n)

-- records that were fetched serve
pub fetched-serve : (flow : Dataflow) (choice : Choice) (records : Option Records) (entries : List Entry) (given : List (List Record))
    → AreFetched flow choice records entries given → CanServeEach flow given
fetched-serve flow choice records entries given h p l =
    let is_own : Entry → Bool = is_of flow choice entries p in
    zip-each (IsFetched flow records) (λ e. is_own e ≡ true) (CanServe flow p)
    (λ e r a b.
    let n = needed flow choice entries p e a in
    subst (λ q. CanServe flow q r) n.0 (serves flow n.1.0 e.node n.1.1 (way_of flow e.node) e.base e.written r n.1.2 b.fits))
    (asked_of flow choice entries p) (given_of given p)
    (each-filter (λ e. is_own e ≡ true) is_own entries (each-one (λ e. is_own e ≡ true → is_own e ≡ true) entries (λ e t. t)))
    (h p l)

-- ---- the entries of a list

-- an entry of a list has its id there
pub entry-there : (es : List Entry) (i : ℕ) (e : Entry) → i < length es → e ≡ get_or es i e → has_entry e.id es ≡ true
entry-there es i e l at =
    subst (λ (x : Entry). has_entry x.id es ≡ true) (sym at)
    (each-at (λ (x : Entry). has_entry x.id es ≡ true) es i e l (each_of-map (λ id. has_entry id es ≡ true) (λ (x : Entry). x.id) es (among-self (ids_of es))))

-- it is one of the list, also by another name
pub entry-among : (es all : List Entry) (i : ℕ) (e : Entry) → es ≡ all → i < length es → e ≡ get_or es i e → Contains all e
entry-among es all i e same l at = subst (λ (xs : List Entry). Contains xs e) same (i, l, sym at)

-- What is known of the writes that are kept: the checkpoints of a node among them are a chain, and no two hold the same.
use Rattle.std.proofs.Common.{◌≡◌, ℕ, zero, suc, ◌+◌, ◌<◌, Bool, true, false, cond, not, ◌&&◌, ◌||◌, ◌==◌, List, [], ◌∷◌, ◌++◌, length, filter, Option, Some, None, refl, sym, ap, subst, ◌∙◌, inl, inr, arith}
use Rattle.std.specs.Prelude.{option_and_then}
use Rattle.std.specs.List.{AllByRecursion, AllZip, Contains, list_any}
use Rattle.std.proofs.lemmas.Bool.{cases_Bool, eq-eqb, eqb-true, false_from_ne_true}
use Rattle.fw_lemmas.proofs.Bools.{two_ways}
use Rattle.fw_lemmas.proofs.Each.{each-both, each-passed}
use Rattle.fw_lemmas.proofs.Filters.{filter-in, filter-out}
use Rattle.fw_frontier.specs.Front.{Front, same_front}
use Rattle.fw_frontier.proofs.SameLaws.{same_front-is, same_front-from}
use Rattle.fw_flow.specs.Dataflow.{System}
use Rattle.fw_flow.specs.WellFormed.{IsWellFormedSystem}
use Rattle.fw_model.specs.Choice.{kept, is_counted}
use Rattle.fw_model.specs.LawsOfChains.{Link, link_of, links_of, IsChain, StandsOnLast}
use Rattle.fw_model.specs.Machine.{Machine, Stage, in_flight, acknowledged, collected, Write, checkpoint, logged_event}
use Rattle.fw_model.specs.Machine.{Written as WrittenBy}
use Rattle.fw_model.specs.Reached.{IsReached}
use Rattle.fw_model.specs.Steps.{checkpoint_front, checkpoints_of, is_in_flight}
use Rattle.fw_model.specs.Writes.{is_collected, not_collected}
use Rattle.fw_model.proofs.AskedLaws.{IsApart, IsWriteAskedWell, reached-all}
use Rattle.fw_model.proofs.CollectedLaws.{reached-forget}
use Rattle.fw_model.proofs.KeptChainLaws.{kept-are_chain}
use Rattle.fw_model.proofs.StandingLaws.{IsWholeIfLogged}
use Rattle.fw_model.proofs.ThinnedLaws.{each-contained}
use Rattle.fw_model.proofs.WriteLaws.{ArePairs, pairs-passed}
use Rattle.fw_keep.specs.declared.entry.Entry.{Entry}
use Rattle.fw_policy.specs.Entries.{IsEntryOf, AreEntriesOf}
use Rattle.fw_stands.specs.Entries.{entry_fronts, id_at_front, AreBasesOf}
use Rattle.fw_stands.proofs.BaseSteps.{apart-at}
use Rattle.fw_stands.proofs.EntryViews.{fronts-alike}
use Rattle.fw_regain.specs.Down.{down}
use Rattle.fw_regain.proofs.DownLaws.{down-reached}
use Rattle.fw_resume.specs.Names.{kept_writes}
use Rattle.fw_resume.proofs.FlatLaws.{IsFlatIfLogged, reached-flat}

-- ---- what is known of them

-- What is known of one of them.
pub record IsKnownWrite (sys : System) (state : Machine) (x : Write) : Type 0 where
  pub asked : IsWriteAskedWell sys state.low state.next state.history x
  pub whole : IsWholeIfLogged x
  pub flat : IsFlatIfLogged x
  pub counted : is_counted kept x.stage ≡ true

pub record AreKnown (sys : System) (state : Machine) (ws : List Write) : Type 0 where
  pub chains : (p : ℕ) → p < length sys.flow.nodes → IsChain None (links_of p ws)
  pub apart : ArePairs IsApart ws
  pub each : AllByRecursion (IsKnownWrite sys state) ws

kept-alike : (far : Stage) → (not (is_in_flight far) && not (is_collected far)) ≡ is_counted kept far
kept-alike in_flight = refl
kept-alike acknowledged = refl
kept-alike collected = refl

-- the writes that are kept are those that were not collected where every node is failed
pub kept-of_down : (sys : System) (state : Machine) → filter not_collected (down sys state).writes ≡ kept_writes state
kept-of_down sys state = along state.writes
  where
    along : (xs : List Write) → filter not_collected (filter (λ (x : Write). not (is_in_flight x.stage)) xs) ≡ filter (λ (x : Write). is_counted kept x.stage) xs
    along [] = refl
    along (x ∷ xs) = by (not (is_in_flight x.stage)) (not (is_collected x.stage)) (is_counted kept x.stage) refl (kept-alike x.stage) (along xs)
      where
        by : (b c d : Bool) → not (is_collected x.stage) ≡ c → (b && c) ≡ d
            → filter not_collected (filter (λ (y : Write). not (is_in_flight y.stage)) xs) ≡ filter (λ (y : Write). is_counted kept y.stage) xs
            → filter not_collected (cond b (x ∷ filter (λ (y : Write). not (is_in_flight y.stage)) xs) (filter (λ (y : Write). not (is_in_flight y.stage)) xs))
            ≡ cond d (x ∷ filter (λ (y : Write). is_counted kept y.stage) xs) (filter (λ (y : Write). is_counted kept y.stage) xs)
        by true true true i e rest = filter-in not_collected x (filter (λ (y : Write). not (is_in_flight y.stage)) xs) i ∙ ap (λ ys. x ∷ ys) rest
        by true true false i e rest = absurd cc
        by true false true i e rest = absurd cc
        by true false false i e rest = filter-out not_collected x (filter (λ (y : Write). not (is_in_flight y.stage)) xs) i ∙ rest
        by false c true i e rest = absurd cc
        by false c false i e rest = rest

pub kept-known : (sys : System) → IsWellFormedSystem sys → (state : Machine) → IsReached sys state → AreKnown sys state (kept_writes state)
kept-known sys w state r =
    let all = reached-all sys w r.0 r.1 state r.2 in
    let forget = reached-forget sys w r.0 r.1 state r.2 in
    let d = down-reached sys state r in
    let test : Write → Bool = λ x. is_counted kept x.stage in
    let Asked : Write → Type 0 = IsWriteAskedWell sys state.low state.next state.history in
    let Known : Write → Type 0 = λ x. Asked x × (IsWholeIfLogged x × IsFlatIfLogged x) in
    record {
      chains = λ p l. subst (λ xs. IsChain None (links_of p xs)) (kept-of_down sys state) (kept-are_chain sys w d.0 d.1 (down sys state) d.2 p l);
      apart = pairs-passed IsApart test state.writes all.restore.apart;
      each = each-passed Known (IsKnownWrite sys state) test state.writes (λ x k a. record { asked = a.0; whole = a.1.0; flat = a.1.1; counted = k })
          (each-both Asked (λ x. IsWholeIfLogged x × IsFlatIfLogged x) state.writes all.restore.asked
          (each-both IsWholeIfLogged IsFlatIfLogged state.writes forget.logged (reached-flat sys state r)));
    }

-- ---- on what a checkpoint stands

-- One of the writes is a checkpoint of node p at f, this deep.
pub record HasAt (p : ℕ) (f : Front) (deep : ℕ) (ws : List Write) : Type 0 where
  pub write : Write
  pub low : List Front
  pub there : Contains ws write
  pub node : write.node ≡ p
  pub at : write.written ≡ checkpoint f low
  pub depth : write.depth ≡ deep

abbrev IsLastOf : ℕ → List Write → Option Link → Type 0
IsLastOf p all None = Unit {0}
IsLastOf p all (Some l) = HasAt p l.front l.depth all

-- The checkpoint is whole, or stands on one of node p among the writes, and is one deeper.
pub data StandsRight (p : ℕ) (all : List Write) (x : Write) : Type 0 where
  whole : x.base ≡ None → x.depth ≡ 0 → StandsRight p all x
  deeper : (f : Front) (deep : ℕ) → x.base ≡ Some f → x.depth ≡ deep + 1 → HasAt p f deep all → StandsRight p all x

on-last : (p : ℕ) (all : List Write) (last : Option Link) (x : Write) (g : Front) → StandsOnLast last (record { front = g; base = x.base; depth = x.depth }) → IsLastOf p all last
    → StandsRight p all x
on-last p all None x g s a = whole s.0 s.1
on-last p all (Some l) x g (inl s) a = whole s.0 s.1
on-last p all (Some l) x g (inr s) a = deeper l.front l.depth s.0 s.1 a

-- the next checkpoint of node p stands right
pub stands-right : (p : ℕ) (all : List Write) (last : Option Link) (xs : List Write) (x : Write) (ys : List Write) → AllByRecursion (Contains all) xs
    → IsChain last (links_of p (xs ++ x ∷ ys)) → IsLastOf p all last → x.node ≡ p → (g : Front) (low : List Front) → x.written ≡ checkpoint g low → StandsRight p all x
stands-right p all last [] x ys there c a own g low is =
    let link : cond (x.node == p) (link_of x.base x.depth x.written) [] ≡ record { front = g; base = x.base; depth = x.depth } ∷ [] =
    ap (λ b. cond b (link_of x.base x.depth x.written) []) (eq-eqb x.node p own) ∙ ap (link_of x.base x.depth) is in
    let chain : IsChain last (record { front = g; base = x.base; depth = x.depth } ∷ links_of p ys) = subst (λ ls. IsChain last (ls ++ links_of p ys)) link c in
    on-last p all last x g chain.0 a
stands-right p all last (z ∷ xs) x ys there c a own g low is =
    elim (cases_Bool (z.node == p)) [
      | inr other ↦
          stands-right p all last xs x ys there.1
          (subst (λ ls. IsChain last (ls ++ links_of p (xs ++ x ∷ ys))) (ap (λ b. cond b (link_of z.base z.depth z.written) []) other) c) a own g low is
      | inl mine ↦
          by z.written refl (subst (λ ls. IsChain last (ls ++ links_of p (xs ++ x ∷ ys))) (ap (λ b. cond b (link_of z.base z.depth z.written) []) mine) c)
          (eqb-true z.node p mine) (λ l d b. stands-right p all l xs x ys there.1 d b own g low is)
    ]
  where
    by : (v : WrittenBy) → z.written ≡ v → IsChain last (link_of z.base z.depth z.written ++ links_of p (xs ++ x ∷ ys)) → z.node ≡ p
        → ((l : Option Link) → IsChain l (links_of p (xs ++ x ∷ ys)) → IsLastOf p all l → StandsRight p all x) → StandsRight p all x
    by (logged_event s) e d node rest = rest last (subst (λ w. IsChain last (link_of z.base z.depth w ++ links_of p (xs ++ x ∷ ys))) e d) a
    by (checkpoint h l) e d node rest =
        let on = subst (λ w. IsChain last (link_of z.base z.depth w ++ links_of p (xs ++ x ∷ ys))) e d in
        rest (Some (record { front = h; base = z.base; depth = z.depth })) on.1
        (record { write = z; low = l; there = there.0; node = node; at = e; depth = refl })

-- ---- entries at a front

abbrev has_front : ℕ → Front → Entry → Bool
has_front p f e = list_any (same_front f) (entry_fronts p (e ∷ []))

abbrev is_at_front : ℕ → Front → Write → Bool
is_at_front p f x = list_any (same_front f) (checkpoints_of p (x ∷ []))

has-alike : (sys : System) (state : Machine) (p : ℕ) (f : Front) (e : Entry) (x : Write) → IsEntryOf sys state e x → has_front p f e ≡ is_at_front p f x
has-alike sys state p f e x i = ap (list_any (same_front f)) (fronts-alike sys state p (e ∷ []) (x ∷ []) (i, tt))

alone : (b : Bool) → (b || false) ≡ true → b ≡ true
alone true e = refl
alone false e = e

-- a write at a front is a checkpoint there
is-at : (p : ℕ) (f : Front) (x : Write) → is_at_front p f x ≡ true → (x.node ≡ p) × (low : List Front) × (x.written ≡ checkpoint f low)
is-at p f x k = elim (cases_Bool (x.node == p)) [
  | inr other ↦ absurd (two_ways false (sym (ap (λ b. list_any (same_front f) (cond b (checkpoint_front x.written) [] ++ [])) other) ∙ k) refl)
  | inl own ↦ by own x.written refl (sym (ap (λ b. list_any (same_front f) (cond b (checkpoint_front x.written) [] ++ [])) own) ∙ k)
]
  where
    by : (x.node == p) ≡ true → (w : WrittenBy) → x.written ≡ w → list_any (same_front f) (checkpoint_front x.written ++ []) ≡ true
        → (x.node ≡ p) × (low : List Front) × (x.written ≡ checkpoint f low)
    by own (checkpoint g low) e k =
        let same : (same_front f g || false) ≡ true = sym (ap (λ w. list_any (same_front f) (checkpoint_front w ++ [])) e) ∙ k in
        (eqb-true x.node p own, low, e ∙ ap (λ z. checkpoint z low) (sym (same_front-is f g (alone (same_front f g) same))))
    by own (logged_event s) e k = absurd (two_ways false (sym (ap (λ w. list_any (same_front f) (checkpoint_front w ++ [])) e) ∙ k) refl)

at-is : (p : ℕ) (f : Front) (low : List Front) (x : Write) → x.node ≡ p → x.written ≡ checkpoint f low → is_at_front p f x ≡ true
at-is p f low x i e =
    ap (λ b. list_any (same_front f) (cond b (checkpoint_front x.written) [] ++ [])) (eq-eqb x.node p i)
    ∙ ap (λ w. list_any (same_front f) (checkpoint_front w ++ [])) e ∙ ap (λ b. b || false) (same_front-from f f refl)

-- One of the entries stands for the write, and its id is the one at the write's front.
pub record IsFoundFor (sys : System) (state : Machine) (es : List Entry) (p : ℕ) (f : Front) (y : Write) : Type 0 where
  pub entry : Entry
  pub there : Contains es entry
  pub of : IsEntryOf sys state entry y
  pub named : id_at_front p f es ≡ Some entry.id

pub found-for : (sys : System) (state : Machine) (p : ℕ) (f : Front) (low : List Front) (y : Write) → y.node ≡ p → y.written ≡ checkpoint f low
    → (es : List Entry) (xs : List Write) → AreEntriesOf sys state es xs → ArePairs IsApart xs → Contains xs y → IsFoundFor sys state es p f y
found-for sys state p f low y own is es [] a pairs c = let l = c.1 in absurd (omega (arith, l))
found-for sys state p f low y own is [] (x ∷ xs) a pairs c = absurd a
found-for sys state p f low y own is (e ∷ es) (x ∷ xs) a pairs (zero, l, same) = record {
  entry = e;
  there = (0, omega arith, refl);
  of = subst (IsEntryOf sys state e) same a.0;
  named = ap (λ b. cond b (Some e.id) (id_at_front p f es))
      (has-alike sys state p f e x a.0 ∙ at-is p f low x (ap (λ (z : Write). z.node) same ∙ own) (ap (λ (z : Write). z.written) same ∙ is));
}
found-for sys state p f low y own is (e ∷ es) (x ∷ xs) a pairs (suc i, l, same) =
    let later : Contains xs y = (i, omega (arith, l), same) in
    let rest = found-for sys state p f low y own is es xs a.1 pairs.1 later in
    let place = rest.there in
    let inside = place.1 in
    let hasnt : has_front p f e ≡ false = false_from_ne_true (has_front p f e) (λ has.
    let here = is-at p f x (sym (has-alike sys state p f e x a.0) ∙ has) in
    apart-at x.node x.written y.node y.written
    (each-contained (λ (z : Write). IsApart x.node x.written z.node z.written) y xs later pairs.0) (here.0 ∙ sym own) f here.1 low here.2 is) in
    record {
      entry = rest.entry;
      there = (suc place.0, omega (arith, inside), place.2);
      of = rest.of;
      named = ap (λ b. cond b (Some e.id) (id_at_front p f es)) hasnt ∙ rest.named;
    }

-- ---- entries with the same ids

-- The entries have one id and one base.
abbrev pub IsSameEntry : Entry → Entry → Type 0
IsSameEntry k e = (k.id ≡ e.id) × (k.base ≡ e.base)

-- where both stand for the same writes, the ids at a front are the same
pub ids-alike : (sys : System) (state : Machine) (p : ℕ) (f : Front) (ks es : List Entry) (xs : List Write) → AllZip IsSameEntry ks es → AreEntriesOf sys state ks xs
    → AreEntriesOf sys state es xs → id_at_front p f ks ≡ id_at_front p f es
ids-alike sys state p f [] [] xs s a b = refl
ids-alike sys state p f [] (e ∷ es) xs s a b = absurd s
ids-alike sys state p f (k ∷ ks) [] xs s a b = absurd s
ids-alike sys state p f (k ∷ ks) (e ∷ es) [] s a b = absurd a
ids-alike sys state p f (k ∷ ks) (e ∷ es) (x ∷ xs) s a b =
    let has : has_front p f k ≡ has_front p f e = has-alike sys state p f k x a.0 ∙ sym (has-alike sys state p f e x b.0) in
    ap (λ c. cond c (Some k.id) (id_at_front p f ks)) has
    ∙ ap (λ id. cond (has_front p f e) (Some id) (id_at_front p f ks)) s.0.0
    ∙ ap (λ o. cond (has_front p f e) (Some e.id) o) (ids-alike sys state p f ks es xs s.1 a.1 b.1)

-- so their bases are
pub bases-alike : (sys : System) (state : Machine) (ks es : List Entry) (xs : List Write) → AllZip IsSameEntry ks es → AreEntriesOf sys state ks xs
    → AreEntriesOf sys state es xs → AreBasesOf es es xs → AreBasesOf ks ks xs
bases-alike sys state ks es xs s a b bases = along ks es xs s bases
  where
    among : (x : Write) (base : Option Front) → option_and_then (λ f. id_at_front x.node f es) base ≡ option_and_then (λ f. id_at_front x.node f ks) base
    among x None = refl
    among x (Some f) = sym (ids-alike sys state x.node f ks es xs s a b)

    along : (ms ns : List Entry) (ys : List Write) → AllZip IsSameEntry ms ns → AreBasesOf es ns ys → AreBasesOf ks ms ys
    along [] [] [] t c = tt
    along [] [] (y ∷ ys) t c = absurd c
    along [] (n ∷ ns) ys t c = absurd t
    along (m ∷ ms) [] ys t c = absurd t
    along (m ∷ ms) (n ∷ ns) [] t c = absurd c
    along (m ∷ ms) (n ∷ ns) (y ∷ ys) t c = (t.0.1 ∙ c.0 ∙ among y y.base, along ms ns ys t.1 c.1)

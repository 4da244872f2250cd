-- The entry that is made of the record of a write stands for that write.
use Rattle.std.proofs.Common.{◌≡◌, ℕ, ◌+◌, true, List, [], ◌∷◌, ◌++◌, Option, Some, None, refl, sym, ap, subst, ◌∙◌, inl, inr}
use Rattle.std.specs.Prelude.{option_and_then}
use Rattle.std.specs.List.{AllByRecursion, AllZip, Contains}
use Rattle.fw_lemmas.proofs.Each.{each-prefix, each-there}
use Rattle.fw_time.specs.Stamp.{in_domain}
use Rattle.fw_frontier.specs.Front.{Front}
use Rattle.fw_frontier.proofs.CanonicalLaws.{in_domain-canonical}
use Rattle.fw_flow.specs.declared.choice.Stamps.{Stamps}
use Rattle.fw_flow.specs.Dataflow.{System, Dataflow, bounds_of}
use Rattle.fw_flow.specs.NodeFunction.{event_node, event_stamp}
use Rattle.fw_flow.specs.WellFormed.{IsWellFormedSystem}
use Rattle.fw_model.specs.LawsOfChains.{links_of, IsChain}
use Rattle.fw_model.specs.Machine.{Machine, SerialEvent, Stage, Write, checkpoint, logged_event}
use Rattle.fw_model.specs.Machine.{Written as WrittenBy}
use Rattle.fw_model.specs.Reached.{IsReached}
use Rattle.fw_model.proofs.AskedLaws.{IsApart, IsAskedWell, takes-declared}
use Rattle.fw_model.proofs.WriteLaws.{ArePairs}
use Rattle.fw_record.specs.declared.record.Checkpoint.{Checkpoint}
use Rattle.fw_record.specs.declared.record.Event.{Event}
use Rattle.fw_record.specs.declared.record.Record.{Record}
use Rattle.fw_record.specs.declared.record.Record.TheVariants as tagged
use Rattle.fw_record.specs.Event.{stamp_of_event}
use Rattle.fw_record.specs.OfNode.{AreChangesOf, IsCheckpointRecordOf}
use Rattle.fw_keep.specs.declared.entry.Entry.{Entry}
use Rattle.fw_keep.specs.declared.entry.Written.{Written}
use Rattle.fw_keep.specs.declared.entry.Written.TheVariants as written
use Rattle.fw_keep.specs.Catalogue.{AreAscending, ids_of}
use Rattle.fw_keep.specs.Entry.{base_of_record, depth_at, depth_on, is_checkpoint, node_of_record, written_of, IsBased, IsRecordAs, IsRecordOn}
use Rattle.fw_keep.specs.Named.{tag_of_record, IsRecordOfFlow}
use Rattle.fw_policy.specs.Entries.{AreEntriesOf, HasBaseOf, HasEventTold, HoldsWhatIsWritten}
use Rattle.fw_policy.proofs.ReadLaws.{told-stamp}
use Rattle.fw_stands.specs.Entries.{id_at_front}
use Rattle.fw_stands.specs.Written.{IsRecordFor}
use Rattle.fw_stands.proofs.BaseSteps.{id-before}
use Rattle.fw_stands.proofs.EntrySteps.{domains}
use Rattle.fw_regain.specs.GotBack.{AreGotBack}
use Rattle.fw_regain.specs.RootOf.{tag_written}
use Rattle.fw_regain.proofs.GotBackLaws.{got-back}
use Rattle.fw_settle.proofs.BaseLaws.{depth-there}
use Rattle.fw_resume.specs.Catalogue.{AreStampsBack}
use Rattle.fw_resume.proofs.KeptWriteLaws.{AreKnown, HasAt, IsKnownWrite, IsSameEntry, StandsRight, whole, deeper, found-for, ids-alike, stands-right}

-- ---- the base of the next write

-- What the next write of node p stands on, this deep, under this id: an entry that was read before.
pub record IsNextBase (es : List Entry) (p deep : ℕ) (on : Option ℕ) : Type 0 where
  pub entry : Entry
  pub there : Contains es entry
  pub node : entry.node ≡ p
  pub of_checkpoint : is_checkpoint entry.written ≡ true
  pub named : on ≡ Some entry.id
  pub deeper : deep ≡ entry.depth + 1

-- where the write has a base; where it has none, it stands on none
abbrev pub StandsNext : List Entry → ℕ → ℕ → Option ℕ → Option Front → Type 0
StandsNext es p deep on None = (on ≡ None) × (deep ≡ 0)
StandsNext es p deep on (Some f) = IsNextBase es p deep on

pairs-first : (xs ys : List Write) → ArePairs IsApart (xs ++ ys) → ArePairs IsApart xs
pairs-first [] ys a = tt
pairs-first (x ∷ xs) ys a = (each-prefix (λ (y : Write). IsApart x.node x.written y.node y.written) xs ys a.0, pairs-first xs ys a.1)

checkpoint-is : (sys : System) (state : Machine) (p : ℕ) (e : Written) (v : WrittenBy) (f : Front) (low : List Front) → HoldsWhatIsWritten sys state p e v → v ≡ checkpoint f low
    → is_checkpoint e ≡ true
checkpoint-is sys state p (written.Checkpoint r s n) v f low h is = refl
checkpoint-is sys state p (written.Event event) (checkpoint g l) f low h is = absurd h
checkpoint-is sys state p (written.Event event) (logged_event s) f low h is = absurd cc

-- What is around the next write: the entries that stand for the writes, of which those before it were read.
pub record IsAround (sys : System) (state : Machine) (all : List Entry) (ws : List Write) (es firsts : List Entry) (e : Entry) (xs : List Write) (x : Write) : Type 0 where
  pub rest : List Entry
  pub after : List Write
  pub all_parts : all ≡ firsts ++ e ∷ rest
  pub parts : ws ≡ xs ++ x ∷ after
  pub firsts_stand : AreEntriesOf sys state firsts xs
  pub stand : AreEntriesOf sys state es xs
  pub same : AllZip IsSameEntry es firsts
  pub base : e.base ≡ option_and_then (λ f. id_at_front x.node f all) x.base
  pub known : IsKnownWrite sys state x

pub stands-next : (sys : System) (state : Machine) (all : List Entry) (ws : List Write) → AreKnown sys state ws → (es firsts : List Entry) (e : Entry) (xs : List Write) (x : Write)
    → IsAround sys state all ws es firsts e xs x → StandsNext es x.node x.depth e.base x.base
stands-next sys state all ws known es firsts e xs x a = by x.written refl
  where
    p : ℕ
    p = x.node

    none : x.base ≡ None → x.depth ≡ 0 → StandsNext es x.node x.depth e.base x.base
    none b d =
        subst (StandsNext es x.node x.depth e.base) (sym b) (a.base ∙ ap (option_and_then (λ f. id_at_front x.node f all)) b, d)

    some : (f : Front) (deep : ℕ) → x.base ≡ Some f → x.depth ≡ deep + 1 → HasAt x.node f deep xs → StandsNext es x.node x.depth e.base x.base
    some f deep b d at =
        let pairs = pairs-first xs (x ∷ a.after) (subst (ArePairs IsApart) a.parts known.apart) in
        let one = found-for sys state x.node f at.low at.write at.node at.at es xs a.stand pairs at.there in
        let two = found-for sys state x.node f at.low at.write at.node at.at firsts xs a.firsts_stand pairs at.there in
        let among : id_at_front x.node f all ≡ Some two.entry.id =
        ap (id_at_front x.node f) a.all_parts ∙ id-before x.node f two.entry.id firsts (e ∷ a.rest) two.named in
        let is : e.base ≡ Some one.entry.id =
        a.base ∙ ap (option_and_then (λ g. id_at_front x.node g all)) b ∙ among ∙ sym two.named ∙ sym (ids-alike sys state x.node f es firsts xs a.same a.stand a.firsts_stand) ∙ one.named in
        subst (StandsNext es x.node x.depth e.base) (sym b) (record {
          entry = one.entry;
          there = one.there;
          node = (one.of).node ∙ at.node;
          of_checkpoint = checkpoint-is sys state at.write.node one.entry.written at.write.written f at.low (one.of).holds at.at;
          named = is;
          deeper = d ∙ ap (λ n. n + 1) (sym ((one.of).depth ∙ at.depth));
        })

    right : StandsRight x.node xs x → StandsNext es x.node x.depth e.base x.base
    right (whole b d) = none b d
    right (deeper f deep b d at) = some f deep b d at

    by : (v : WrittenBy) → x.written ≡ v → StandsNext es x.node x.depth e.base x.base
    by (logged_event s) is = none ((a.known).whole s is) ((a.known).flat s is)
    by (checkpoint g low) is =
        let asked = subst (λ v. IsAskedWell sys state.low state.next state.history x.node v x.stage) is (a.known).asked in
        let declared = takes-declared sys.flow x.node asked.0 in
        let chain = subst (λ ys. IsChain None (links_of x.node ys)) a.parts (known.chains x.node declared) in
        right (stands-right x.node xs None xs x a.after (each-there xs) chain tt refl g low is)

-- ---- the record of the next write

-- an event that is told of is at a stamp of its node's domain
told-in : (sys : System) (p s : ℕ) (event : Event) (h : List SerialEvent)
    → AllByRecursion (λ (v : SerialEvent). in_domain (bounds_of sys.flow (event_node sys.flow v.event)) (event_stamp v.event) ≡ true) h → HasEventTold sys.flow p s event h
    → in_domain (bounds_of sys.flow p) (stamp_of_event event) ≡ true
told-in sys p s event [] d a = absurd a
told-in sys p s event (v ∷ h) d (inl a) =
    ap (λ q. in_domain (bounds_of sys.flow q) (stamp_of_event event)) (sym a.node)
    ∙ ap (in_domain (bounds_of sys.flow (event_node sys.flow v.event))) (told-stamp v.event event a.told) ∙ d.0
told-in sys p s event (v ∷ h) d (inr a) = told-in sys p s event h d.1 a

whole-of : (flow : Dataflow) (n : ℕ) (on : Option ℕ) (e : Written) (c : Checkpoint) → IsRecordAs flow n on e (tagged.State c) → on ≡ None
    → IsCheckpointRecordOf flow n c.recorded.front c
whole-of flow n on (written.Checkpoint r s k) c a none =
    subst (λ q. IsCheckpointRecordOf flow n q.front c) (sym a.recorded) (subst (λ o. IsRecordOn flow n r.front o (tagged.State c)) none a.of_node)
whole-of flow n on (written.Event event) c a none = absurd (let e : tagged.State c ≡ tagged.Event n event = a in cc)

changes-of : (flow : Dataflow) (n : ℕ) (on : Option ℕ) (e : Written) (id at : ℕ) (c : Checkpoint) → IsRecordAs flow n on e (tagged.Changes id c) → on ≡ Some at
    → (id ≡ at) × AreChangesOf flow n c.recorded.front c
changes-of flow n on (written.Checkpoint r s k) id at c a some =
    let b = subst (λ o. IsRecordOn flow n r.front o (tagged.Changes id c)) some a.of_node in
    (b.0, subst (λ q. AreChangesOf flow n q.front c) (sym a.recorded) b.1)
changes-of flow n on (written.Event event) id at c a some = absurd (let e : tagged.Changes id c ≡ tagged.Event n event = a in cc)

-- The record of a write of node p can be that of the write, and the entry that is made of it stands for the write.
pub record IsReadFor (sys : System) (state : Machine) (es : List Entry) (p : ℕ) (base : Option Front) (v : WrittenBy) (deep : ℕ) (on : Option ℕ) (r : Record) : Type 0 where
  pub node : node_of_record r ≡ p
  pub tag : tag_of_record r ≡ tag_written v base
  pub of_flow : IsRecordOfFlow sys.flow r
  pub stands_on : base_of_record r ≡ on
  pub has_base : HasBaseOf (base_of_record r) base
  pub based : IsBased es r
  pub depth : depth_on (base_of_record r) es ≡ deep
  pub holds : (stamps : Stamps) → AreStampsBack sys.flow r stamps → HoldsWhatIsWritten sys state p (written_of r stamps) v

pub read-for : (sys : System) → IsWellFormedSystem sys → (state : Machine) → IsReached sys state → (es : List Entry) → AreAscending (ids_of es) → (p n : ℕ) → n ≡ p
    → (far : Stage) (deep : ℕ) (on : Option ℕ) (e : Written) (base : Option Front) (v : WrittenBy) (r : Record) → IsRecordAs sys.flow n on e r → StandsNext es p deep on base
    → IsAskedWell sys state.low state.next state.history p v far → IsRecordFor sys state p base v r → IsReadFor sys state es p base v deep on r
read-for sys w state reached es up p n same far deep on e None (checkpoint f low) (tagged.State c) like next asked for =
    let is = whole-of sys.flow n on e c like next.0 in
    let stamps_in = in_domain-canonical (bounds_of sys.flow p) c.recorded.front ((for.recorded).of_flow).front in
    record {
      node = for.node;
      tag = refl;
      of_flow = (
        subst (λ q. IsCheckpointRecordOf sys.flow q c.recorded.front c) (same ∙ sym for.node) is,
        subst (λ q. AllByRecursion (λ t. in_domain (bounds_of sys.flow q) t ≡ true) c.recorded.front) (sym for.node) stamps_in,
      );
      stands_on = sym next.0;
      has_base = tt;
      based = tt;
      depth = sym next.1;
      holds = λ stamps back. record {
        recorded = for.recorded;
        stamps = got-back sys state p f c.recorded stamps w reached (takes-declared sys.flow p asked.0) asked.0 (for.recorded).delivered (for.recorded).notified
            (for.recorded).discarded (subst (λ q. AreGotBack sys.flow q c.recorded stamps) for.node back);
        sent = for.sent;
      };
    }
read-for sys w state reached es up p n same far deep on e (Some g) (checkpoint f low) (tagged.Changes id c) like next asked for =
    let is = changes-of sys.flow n on e id (next.entry).id c like next.named in
    let stamps_in = in_domain-canonical (bounds_of sys.flow p) c.recorded.front ((for.recorded).of_flow).front in
    record {
      node = for.node;
      tag = refl;
      of_flow = (
        subst (λ q. AreChangesOf sys.flow q c.recorded.front c) (same ∙ sym for.node) is.1,
        subst (λ q. AllByRecursion (λ t. in_domain (bounds_of sys.flow q) t ≡ true) c.recorded.front) (sym for.node) stamps_in,
      );
      stands_on = ap Some is.0 ∙ sym next.named;
      has_base = tt;
      based = record {
        entry = next.entry;
        there = next.there;
        named = sym is.0;
        of_node = next.node ∙ sym for.node;
        of_checkpoint = next.of_checkpoint;
      };
      depth = ap (λ m. depth_at m es + 1) is.0 ∙ ap (λ d. d + 1) (depth-there es next.entry up next.there) ∙ sym next.deeper;
      holds = λ stamps back. record {
        recorded = for.recorded;
        stamps = got-back sys state p f c.recorded stamps w reached (takes-declared sys.flow p asked.0) asked.0 (for.recorded).delivered (for.recorded).notified
            (for.recorded).discarded (subst (λ q. AreGotBack sys.flow q c.recorded stamps) for.node back);
        sent = for.sent;
      };
    }
read-for sys w state reached es up p n same far deep on e None (logged_event s) (tagged.Event node event) like next asked for = record {
  node = for.0;
  tag = refl;
  of_flow = ap (λ q. in_domain (bounds_of sys.flow q) (stamp_of_event event)) for.0 ∙ told-in sys p s event state.history (domains sys w state reached) for.1;
  stands_on = sym next.0;
  has_base = tt;
  based = tt;
  depth = sym next.1;
  holds = λ stamps back. for.1;
}
read-for sys w state reached es up p n same far deep on e None (checkpoint f low) (tagged.Event node event) like next asked for = absurd for
read-for sys w state reached es up p n same far deep on e None (checkpoint f low) (tagged.Changes id c) like next asked for = absurd for
read-for sys w state reached es up p n same far deep on e None (logged_event s) (tagged.State c) like next asked for = absurd for
read-for sys w state reached es up p n same far deep on e None (logged_event s) (tagged.Changes id c) like next asked for = absurd for
read-for sys w state reached es up p n same far deep on e (Some g) (checkpoint f low) (tagged.State c) like next asked for = absurd for
read-for sys w state reached es up p n same far deep on e (Some g) (checkpoint f low) (tagged.Event node event) like next asked for = absurd for
read-for sys w state reached es up p n same far deep on e (Some g) (logged_event s) (tagged.State c) like next asked for = absurd for
read-for sys w state reached es up p n same far deep on e (Some g) (logged_event s) (tagged.Event node event) like next asked for = absurd for
read-for sys w state reached es up p n same far deep on e (Some g) (logged_event s) (tagged.Changes id c) like next asked for = absurd for

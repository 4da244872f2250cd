-- The step of a recovery, by what its calls answer.
use Rattle.std.proofs.Common.{◌≡◌, ℕ, zero, suc, ◌<◌, Bool, true, false, List, [], ◌∷◌, length, slice_index_or, Option, Some, None, Result, Ok, Err, refl, sym, ap, subst, ◌∙◌, arith}
use Rattle.std.specs.Prelude.{IsErrAnd}
use Rattle.std.specs.List.{AllByRecursion, AllZip, list_any}
use Rattle.fw_lemmas.proofs.Bools.{two_ways}
use Rattle.fw_lemmas.proofs.Options.{some-is}
use Rattle.fw_flow.specs.declared.choice.Choice.{Choice}
use Rattle.fw_flow.specs.declared.step.Step.TheVariants.{Recover}
use Rattle.fw_flow.specs.Dataflow.{System, Dataflow}
use Rattle.fw_model.specs.Machine.{Machine, Write, is_failed}
use Rattle.fw_model.specs.Steps.{cuts, idle, StepsTo, recovered_state}
use Rattle.fw_model.proofs.ChoosingLaws.{failed-recovered}
use Rattle.fw_record.specs.declared.record.Record.{Record}
use Rattle.fw_record.specs.Spelling.{spelling}
use Rattle.fw_keep.specs.declared.entry.Entry.{Entry}
use Rattle.fw_keep.specs.declared.fault.KeepFault.{KeepFault}
use Rattle.fw_keep.specs.declared.fault.KeepFault.TheVariants as keep
use Rattle.fw_keep.specs.Stored.{Records, HoldsAs, bytes_under}
use Rattle.fw_rollback.specs.declared.parts.Parts.{Parts}
use Rattle.fw_rollback.specs.Asked.{is_asked_for, IsEntryDamaged, ComesOfReading}
use Rattle.fw_stands.specs.Written.{AreStored, IsHeldAs, uncollected}
use Rattle.fw_stands.proofs.RecoveredFacts.{each-contained}
use Rattle.fw_running.specs.declared.fault.EngineFault.{EngineFault}
use Rattle.fw_running.specs.declared.fault.EngineFault.TheVariants as fault
use Rattle.fw_running.specs.declared.running.Running.{Running}
use Rattle.fw_running.specs.declared.stepped.Effect.TheVariants.{Cuts}
use Rattle.fw_running.specs.declared.stepped.Stepped.{Stepped}
use Rattle.fw_running.specs.declared.stepped.Stepped.TheVariants.{Did, Idle}
use Rattle.fw_choose.specs.declared.viewing.Lost.TheVariants.{Failed}
use Rattle.fw_choose.specs.Chosen.{IsChosenBy, IsChosenByHeld}
use Rattle.fw_running.specs.Faults.{fault_of}
use Rattle.fw_running.specs.Held.{RecoversHeld}
use Rattle.fw_running.specs.Shaped.{IsShaped}
use Rattle.fw_running.specs.Stands.{Stands, StandsApart}
use Rattle.fw_running.specs.Steps.{IsAskedIn, IsDamage, IsStepEnabled, ShowsOutcome, StaysShaped, TakesStep}
use Rattle.fw_recover.proofs.RecoverLaws.{IsRecovered, held-stands, recovered-leads, recovered-stands}

-- ---- whether a node is failed

some-any : (bs : List Bool) → list_any (λ b. b) bs ≡ true → (q : ℕ) × (q < length bs) × (slice_index_or bs q false ≡ true)
some-any [] e = absurd (two_ways false e refl)
some-any (true ∷ bs) e = (0, omega arith, refl)
some-any (false ∷ bs) e = let rest = some-any bs e in (suc rest.0, omega (arith, rest.1), rest.2)

none-any : (bs : List Bool) → list_any (λ b. b) bs ≡ false → (q : ℕ) → slice_index_or bs q false ≡ false
none-any [] e q = refl
none-any (true ∷ bs) e q = absurd (two_ways true refl e)
none-any (false ∷ bs) e zero = refl
none-any (false ∷ bs) e (suc q) = none-any bs e q

-- where no node is failed the machine is idle at a recovery
none-down : (old : Running) (records : Option Records) → list_any (λ down. down) old.failed.items ≡ false
    → (sys : System) (state : Machine) → StandsApart sys old records state → StepsTo sys state Recover state idle
none-down old records none sys state a = (
  λ other effect t. two_ways (is_failed state t.0) t.4 (ap (λ down. slice_index_or down t.0 false) (sym a.failed) ∙ none-any old.failed.items none t.0),
  refl,
)

-- and so is the engine
pub recovery-idle : (old : Running) (records : Option Records) → list_any (λ down. down) old.failed.items ≡ false
    → TakesStep old records Recover (Ok Idle) old records
recovery-idle old records none sys state s = λ trust. record { next = state; steps = none-down old records none sys state s.apart; stands = s }

-- which it shows
pub idle-shows : (old : Running) (records : Option Records) → list_any (λ down. down) old.failed.items ≡ false
    → ShowsOutcome old records Recover (Ok Idle)
idle-shows old records none sys state s = (state, none-down old records none sys state s.apart)

-- an engine that holds what is left of a state has a node that is failed
pub held-idle : (old : Running) (records : Option Records) → list_any (λ down. down) old.failed.items ≡ false → RecoversHeld old records (Ok Idle) old records
held-idle old records none sys state s =
    let some = s.apart.well_formed.flow.input in
    absurd (two_ways (is_failed state some.0) (s.down some.0 some.1) (ap (λ down. slice_index_or down some.0 false) (sym s.apart.failed) ∙ none-any old.failed.items none some.0))

-- where one is, it is so in each state for which the engine stands
down-there : (old : Running) (records : Option Records) → IsShaped old → list_any (λ down. down) old.failed.items ≡ true
    → (sys : System) (state : Machine) → StandsApart sys old records state → (q : ℕ) × (q < length sys.flow.nodes) × (is_failed state q ≡ true)
down-there old records shaped some sys state a =
    let q = some-any old.failed.items some in (
      q.0,
      subst (λ (flow : Dataflow). q.0 < length flow.nodes) a.flow (subst (λ n. q.0 < n) shaped.one_each.failed q.1),
      ap (λ down. slice_index_or down q.0 false) (sym a.failed) ∙ q.2,
    )

-- a recovery is enabled there
pub recovery-enabled : (old : Running) (records : Option Records) → IsShaped old → list_any (λ down. down) old.failed.items ≡ true
    → (sys : System) (state : Machine) → StandsApart sys old records state → IsStepEnabled sys state Recover
recovery-enabled old records shaped some sys state a =
    let q = down-there old records shaped some sys state a in
    let reached = a.reached in
    let r = failed-recovered sys a.well_formed reached.0 reached.1 state reached.2 q.0 q.1 q.2 in
    (r.0, cuts r.1, r.2)

-- and the engine recovers to its choice
pub recovery-done : (old new : Running) (records : Option Records) (choice : Choice) → IsShaped old → list_any (λ down. down) old.failed.items ≡ true
    → IsChosenBy old Failed choice → IsRecovered choice records old new → TakesStep old records Recover (Ok (Did (Cuts choice))) new records
recovery-done old new records choice shaped some chosen made sys state s = λ trust.
    let q = down-there old records shaped some sys state s.apart in
    recovered-stands sys records state choice old new s (chosen sys records state s) trust q.0 q.1 q.2 made

-- also where it held what is left of a state, and then it stands in full
pub held-done : (old new : Running) (records : Option Records) (choice : Choice) → IsShaped old → list_any (λ down. down) old.failed.items ≡ true
    → IsChosenByHeld old Failed choice → IsRecovered choice records old new → RecoversHeld old records (Ok (Did (Cuts choice))) new records
held-done old new records choice shaped some chosen made sys state s = λ trust.
    let q = down-there old records shaped some sys state s.apart in
    held-stands sys records state choice old new s (chosen sys records state s) trust q.0 q.1 q.2 made

-- and shows that choice, whatever it read
pub recovery-shows : (old new : Running) (records : Option Records) (choice : Choice) → IsShaped old → list_any (λ down. down) old.failed.items ≡ true
    → IsChosenBy old Failed choice → IsRecovered choice records old new → ShowsOutcome old records Recover (Ok (Did (Cuts choice)))
recovery-shows old new records choice shaped some chosen made sys state s =
    let q = down-there old records shaped some sys state s.apart in (
      recovered_state sys state choice new.progress.settled,
      recovered-leads sys records state choice old new s.apart (chosen sys records state s) q.0 q.1 q.2 made,
    )

-- ---- damage

-- the store holds a record as that of each entry
record HasRecord (flow : Dataflow) (held : Records) (e : Entry) : Type 0 where
  pub what : Record
  pub of_entry : HoldsAs flow (Some held) e what

each-held : (sys : System) (state : Machine) (held : Records) (es : List Entry) (ws : List Write) → AllZip (IsHeldAs sys state held) es ws
    → AllByRecursion (HasRecord sys.flow held) es
each-held sys state held [] ws a = tt
each-held sys state held (e ∷ es) [] a = absurd a
each-held sys state held (e ∷ es) (w ∷ ws) a = (record { what = a.0.what; of_entry = a.0.of_entry }, each-held sys state held es ws a.1)

untold : (sys : System) (state : Machine) (choice : Choice) (records : Option Records) (es : List Entry) (got : Option (ℕ × List ℕ)) (id : ℕ) (bytes : List ℕ)
    → AreStored sys state records es (uncollected state) → IsEntryDamaged sys.flow choice records es got id bytes → records ≡ None
untold sys state choice None es got id bytes st d = refl
untold sys state choice (Some held) es got id bytes st d =
    let has = each-contained (HasRecord sys.flow held) es d.entry (each-held sys state held es (uncollected state) (st held refl)) d.there in
    let under = ap (λ n. bytes_under n (Some held)) d.named in
    let same : bytes ≡ spelling has.what = some-is bytes (spelling has.what) (sym (d.told held refl) ∙ sym under ∙ has.of_entry.bytes) in
    absurd (d.none has.what has.of_entry.sound same has.of_entry.of_entry)

-- where a record is damaged the store tells nothing
damaged-untold : (old : Running) (choice : Choice) (records : Option Records) (got : Option (ℕ × List ℕ)) (id : ℕ) (bytes : List ℕ) (sys : System) (state : Machine)
    → StandsApart sys old records state → IsEntryDamaged old.flow choice records old.parts.keep.entries got id bytes → records ≡ None
damaged-untold old choice records got id bytes sys state a d =
    untold sys state choice records old.parts.keep.entries got id bytes a.stored
    (subst (λ flow. IsEntryDamaged flow choice records old.parts.keep.entries got id bytes) a.flow d)

-- the largest choice asks for the entry
asked-in : (old : Running) (choice : Choice) (entries : List Entry) (entry : Entry) → IsChosenBy old Failed choice
    → is_asked_for old.flow choice entries entry ≡ true
    → (sys : System) (records : Option Records) (state : Machine) → Stands sys old records state → IsAskedIn sys entries entry state
asked-in old choice entries entry chosen asked sys records state s =
    (choice, chosen sys records state s, subst (λ flow. is_asked_for flow choice entries entry ≡ true) s.apart.flow asked)

-- what a refusal of the catalogue leaves, where a node is failed
pub refusal-stands : (old : Running) (choice : Choice) (records : Option Records) (got : Option (ℕ × List ℕ)) (why : KeepFault)
    → IsShaped old → list_any (λ down. down) old.failed.items ≡ true → IsChosenBy old Failed choice → ComesOfReading {T = Unit {0}} old.flow choice records old.parts.keep.entries got (Err why)
    → TakesStep old records Recover (Err (fault_of why)) old records
refusal-stands old choice records got keep.StoreFault shaped some chosen d sys state s = (
  record {
    enabled = recovery-enabled old records shaped some sys state s.apart;
    entries = old.parts.keep.entries;
    of_writes = s.apart.entries;
    entry = d.entry;
    there = d.there;
    asked = asked-in old choice old.parts.keep.entries d.entry chosen d.asked sys records state s;
  },
  s,
)
refusal-stands old choice records got (keep.Damaged id bytes) shaped some chosen d sys state s =
    (damaged-untold old choice records got id bytes.items sys state s.apart d, recovery-enabled old records shaped some sys state s.apart, s)
refusal-stands old choice records got keep.NoMemory shaped some chosen d sys state s = tt

-- and where the engine holds what is left of a state
refusal-held : (old : Running) (choice : Choice) (records : Option Records) (got : Option (ℕ × List ℕ)) (why : KeepFault)
    → IsShaped old → list_any (λ down. down) old.failed.items ≡ true → ComesOfReading {T = Unit {0}} old.flow choice records old.parts.keep.entries got (Err why)
    → RecoversHeld old records (Err (fault_of why)) old records
refusal-held old choice records got keep.StoreFault shaped some d sys state s = (recovery-enabled old records shaped some sys state s.apart, s)
refusal-held old choice records got (keep.Damaged id bytes) shaped some d sys state s =
    (damaged-untold old choice records got id bytes.items sys state s.apart d, recovery-enabled old records shaped some sys state s.apart, s)
refusal-held old choice records got keep.NoMemory shaped some d sys state s = tt

pub refusal-shaped : (T : Type 0) (old : Running) (why : KeepFault) → IsShaped old → StaysShaped {T = T} (Err (fault_of why)) old
refusal-shaped T old keep.StoreFault s = s
refusal-shaped T old (keep.Damaged id bytes) s = s
refusal-shaped T old keep.NoMemory s = tt

-- the damage that a recovery tells
pub refusal-damage : (old : Running) (choice : Choice) (records : Option Records) (got : Option (ℕ × List ℕ)) (why : KeepFault) → IsChosenBy old Failed choice
    → ComesOfReading {T = Unit {0}} old.flow choice records old.parts.keep.entries got (Err why) → (id : ℕ) → fault_of why ≡ fault.Damaged id → IsDamage old id got
refusal-damage old choice records got keep.StoreFault chosen d id e = absurd (cc e)
refusal-damage old choice records got (keep.Damaged at bytes) chosen d id e =
    let same : at ≡ id = cc in
    subst (λ n. IsDamage old n got) same
    (record {
      entry = d.entry;
      there = d.there;
      named = d.named;
      bytes = bytes.items;
      gave = d.given;
      spells_none = d.none;
      asked = asked-in old choice old.parts.keep.entries d.entry chosen d.asked;
    })
refusal-damage old choice records got keep.NoMemory chosen d id e = absurd (cc e)

-- ---- by what the call to the catalogue answered

-- what is kept where the parts were not restored
pub refused-stands : (old : Running) (parts : Parts) (choice : Choice) (records : Option Records) (got : Option (ℕ × List ℕ)) (why : KeepFault)
    (r : Result Stepped EngineFault) → IsShaped old → list_any (λ down. down) old.failed.items ≡ true → IsChosenBy old Failed choice → parts ≡ old.parts → IsErrAnd r (λ e. e ≡ fault_of why)
    → ComesOfReading {T = Unit {0}} old.flow choice records old.parts.keep.entries got (Err why)
    → TakesStep old records Recover r (record old { parts = parts }) records
refused-stands old parts choice records got why (Ok x) shaped some chosen same is d = absurd is
refused-stands old parts choice records got why (Err e) shaped some chosen same is d =
    subst (λ x. TakesStep old records Recover (Err e) (record old { parts = x }) records) (sym same)
    (subst (λ x. TakesStep old records Recover (Err x) old records) (sym is) (refusal-stands old choice records got why shaped some chosen d))

pub refused-held : (old : Running) (parts : Parts) (choice : Choice) (records : Option Records) (got : Option (ℕ × List ℕ)) (why : KeepFault)
    (r : Result Stepped EngineFault) → IsShaped old → list_any (λ down. down) old.failed.items ≡ true → parts ≡ old.parts → IsErrAnd r (λ e. e ≡ fault_of why)
    → ComesOfReading {T = Unit {0}} old.flow choice records old.parts.keep.entries got (Err why)
    → RecoversHeld old records r (record old { parts = parts }) records
refused-held old parts choice records got why (Ok x) shaped some same is d = absurd is
refused-held old parts choice records got why (Err e) shaped some same is d =
    subst (λ x. RecoversHeld old records (Err e) (record old { parts = x }) records) (sym same)
    (subst (λ x. RecoversHeld old records (Err x) old records) (sym is) (refusal-held old choice records got why shaped some d))

-- where memory is refused nothing is told
pub unanswered-held : (old new : Running) (before after : Option Records) (r : Result Stepped EngineFault) → IsErrAnd r (λ e. e ≡ fault.NoMemory) → RecoversHeld old before r new after
unanswered-held old new before after (Ok x) is = absurd is
unanswered-held old new before after (Err e) is = subst (λ x. RecoversHeld old before (Err x) new after) (sym is) (λ sys state s. tt)

-- the damage that is told then
pub refused-damage : (old : Running) (choice : Choice) (records : Option Records) (got : Option (ℕ × List ℕ)) (why : KeepFault) (r : Result Stepped EngineFault)
    → IsChosenBy old Failed choice → IsErrAnd r (λ e. e ≡ fault_of why) → ComesOfReading {T = Unit {0}} old.flow choice records old.parts.keep.entries got (Err why)
    → (id : ℕ) → r ≡ Err (fault.Damaged id) → IsDamage old id got
refused-damage old choice records got why (Ok x) chosen is d id e = absurd is
refused-damage old choice records got why (Err y) chosen is d id e =
    let same : y ≡ fault.Damaged id = cc in
    refusal-damage old choice records got why chosen d id (sym is ∙ same)

-- some node is failed, where it is not so that none is
pub some-down : (bs : List Bool) (any : Bool) → any ≡ list_any (λ down. down) bs → any ≡ true → list_any (λ down. down) bs ≡ true
some-down bs any e n = sym e ∙ n

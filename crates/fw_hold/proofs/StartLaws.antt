-- What a start finds is what is kept.
use Rattle.std.proofs.Common.{◌≡◌, inl, inr, ℕ, List, [], Option, Some, None, IsSome, Result, Ok, Err, refl, sym, ◌∙◌, ap, subst, arith}
use Rattle.std.specs.FinMap as map_of
use Rattle.std.proofs.lemmas.Option.{same_Some}
use Rattle.fw_outside.specs.Outside.{SinkView, StayIfTold}
use Rattle.fw_command.specs.Writing.{IsCutOff}
use Rattle.fw_command.proofs.WritingLaws.{written_nothing}
use Rattle.fw_flow.specs.Dataflow.{Dataflow}
use Rattle.fw_keep.specs.Catalogue.{KeepState}
use Rattle.fw_keep.specs.Stored.{AreThere, Records}
use Rattle.fw_model.specs.Machine.{first_state}
use Rattle.fw_named.specs.Named.{named_ids}
use Rattle.fw_named.proofs.NamedLaws.{named-there}
use Rattle.fw_root.specs.declared.root.Digests.{Digests}
use Rattle.fw_root.specs.declared.root.Head.{Head}
use Rattle.fw_root.specs.declared.root.Root.{Root}
use Rattle.fw_root.specs.Sound.{IsRootFor}
use Rattle.fw_root.specs.Spelling.{root_spelling}
use Rattle.fw_root.proofs.HeadLaws.{head_of_root}
use Rattle.fw_running.specs.declared.fault.EngineFault.TheVariants as engine
use Rattle.fw_hold.specs.declared.fault.HoldFault.{HoldFault}
use Rattle.fw_hold.specs.declared.fault.HoldFault.TheVariants.{Out, Engine, DamagedRoot, ForeignRoot}
use Rattle.fw_hold.specs.declared.found.FoundRoot.{FoundRoot}
use Rattle.fw_hold.specs.Engine.{Standings}
use Rattle.fw_hold.specs.Faults.{IsOfRoot, faults_after_hold}
use Rattle.fw_hold.specs.Found.{BeginAs, GaveForeign, GaveNoHead, GaveNoRoot, HasNamed, IsFoundRoot, IsRootId, HasGreatestTurn, HasNoneFound}
use Rattle.fw_hold.specs.Going.{CountsOut, HoldsFound, TellsLines}
use Rattle.fw_hold.specs.Kept.{HeldTexts, Found, no_root, a_root, HaveNoRoot, HoldsKeptPoint, IsKeptBy, kept_at_first, root_id, system_in}
use Rattle.fw_hold.specs.Moves.{KeptPoint, SchedulePoint, point_at_first}
use Rattle.fw_hold.specs.Place.{place_at_first}
use Rattle.fw_hold.specs.Starting.{EndsStart, HasBegun, IsCountedHead, IsForeignIn, IsKeptIn, MayStart, TellsOpening, lines_of_root, opening_text, resumed_text}
use Rattle.fw_hold.proofs.BegunLaws.{ends_opened, ends_unopened, found_later}
use Rattle.fw_hold.proofs.GoingLaws.{none_done}
use Rattle.fw_hold.proofs.GreatestLaws.{one_head}
use Rattle.fw_hold.proofs.MakingLaws.{cut_lines}
use Rattle.fw_hold.proofs.RootIdLaws.{root_id-either, root_id-one}

-- nothing is found where there is no root
pub none_found : (held : Records) (found : FoundRoot) → HaveNoRoot held → IsFoundRoot (Some held) found → ⊥
none_found held found none is = elim is.id [
  | inl e ↦ (let no : Some found.bytes.items ≡ None = sym (is.there held refl) ∙ ap (map_of.get held) e ∙ none.even in absurd (cc))
  | inr e ↦ (let no : Some found.bytes.items ≡ None = sym (is.there held refl) ∙ ap (map_of.get held) e ∙ none.odd in absurd (cc))
]

-- a root that counts is found
pub some_found : (held : Records) (turn : ℕ) (bytes : List ℕ) → map_of.get held (root_id turn) ≡ Some bytes → HasNoneFound (Some held) → ⊥
some_found held turn bytes there none = let no : Some bytes ≡ None = sym there ∙ none held refl (root_id turn) (root_id-one turn) in absurd (cc)

-- What is found is the head that counts, with its bytes.
pub counted_is_found : (held : Records) (head : Head) (found : FoundRoot) (counted : IsCountedHead held head) → IsFoundRoot (Some held) found → HasGreatestTurn (Some held) found.head
    → (found.bytes.items ≡ counted.bytes) × (found.head ≡ head)
counted_is_found held head found counted is greatest = elim (root_id-either head.turn found.id is.id) [
  | inl here ↦ (
      let same : found.bytes.items ≡ counted.bytes = same_Some found.bytes.items counted.bytes (sym (is.there held refl) ∙ ap (map_of.get held) here ∙ counted.there) in
      (same, one_head counted.bytes found.head head (subst (λ b. BeginAs b found.head) same is.begins) counted.begins)
      )
  | inr there ↦ (
      let earlier = counted.other found.bytes.items (ap (map_of.get held) (sym there) ∙ is.there held refl) in
      let same : earlier.0 ≡ found.head = one_head found.bytes.items earlier.0 found.head earlier.1 is.begins in
      let most = greatest held refl (root_id head.turn) counted.bytes (root_id-one head.turn) counted.there in
      let this : most.0 ≡ head = one_head counted.bytes most.0 head most.1 counted.begins in
      absurd (omega (arith, earlier.2, most.2, ap (λ (h : Head). h.turn) same, ap (λ (h : Head). h.turn) this))
      )
]

-- a root that is kept counts by its head
pub kept_counts : (texts : HeldTexts) (starts : ℕ) (held : Records) (kept : KeptPoint) (root : Root) → IsKeptBy texts starts held kept root
    → (counted : IsCountedHead held (record { digests = root.mark.digests; turn = root.mark.turn })) × (counted.bytes ≡ root_spelling root)
kept_counts texts starts held kept root by = (
  record {
    bytes = root_spelling root;
    there = by.counted.there;
    begins = head_of_root texts.flow texts.batches root by.of_texts;
    other = λ others there. let e = by.counted.other others there in (e.0, (e.1, e.2), e.4);
  },
  refl,
)

-- so it is what is found
pub kept_is_found : (texts : HeldTexts) (starts : ℕ) (held : Records) (kept : KeptPoint) (root : Root) (found : FoundRoot) → IsKeptBy texts starts held kept root
    → IsFoundRoot (Some held) found → HasGreatestTurn (Some held) found.head
    → (found.bytes.items ≡ root_spelling root) × (found.head ≡ record { digests = root.mark.digests; turn = root.mark.turn })
kept_is_found texts starts held kept root found by is greatest =
    let c = kept_counts texts starts held kept root by in
    let f = counted_is_found held (record { digests = root.mark.digests; turn = root.mark.turn }) found c.0 is greatest in
    (f.0 ∙ c.1, f.1)

-- ---- what is told

-- what an answer says of lines that are written it says of them as an opening
pub opening_told : (T : Type 0) (text : List ℕ) (answer : Result T HoldFault) (before after : SinkView) → TellsLines text answer before after → TellsOpening text answer before after
opening_told T text (Ok value) before after t = t
opening_told T text (Err (Out fault)) before after t = t
opening_told T text (Err (Engine engine.StoreFault)) before after t = absurd t
opening_told T text (Err (Engine (engine.Damaged id))) before after t = absurd t
opening_told T text (Err (Engine engine.NoMemory)) before after t = absurd t
opening_told T text (Err (DamagedRoot id)) before after t = absurd t
opening_told T text (Err ForeignRoot) before after t = absurd t

-- what a root opens with is the opening of what it keeps
pub opening_is : (texts : HeldTexts) (starts : ℕ) (held : Records) (kept : KeptPoint) (root : Root) → IsKeptBy texts starts held kept root → lines_of_root root ≡ opening_text a_root kept
opening_is texts starts held kept root by = ap (λ n. resumed_text n root.mark.lines) by.steps ∙ ap (resumed_text kept.point.steps) by.lines

-- an opening that was not written whole is no turn
pub opening_failed : (S T : Type 0) (texts : HeldTexts) (starts : ℕ) (kept : KeptPoint) (root : Root) (fault : HoldFault) (records : Option Records) (before after : SinkView)
    (IsSo : T → KeptPoint → SchedulePoint → Type 0) → IsKeptIn texts starts records kept root → TellsOpening {T = S} (lines_of_root root) (Err fault) before after
    → EndsStart {T = T} texts starts a_root kept (Err fault) records before after IsSo
opening_failed S T texts starts kept root (Out fault) records before after IsSo (held, told, by) t =
    ends_opened T texts starts a_root kept (Out fault) records before after IsSo
    ([], refl, cut_lines (opening_text a_root kept) fault before after (subst (λ text. IsCutOff text fault before after) (opening_is texts starts held kept root by) t))
    (found_later texts starts records a_root kept (held, told, (root, by)))
opening_failed S T texts starts kept root (Engine engine.StoreFault) records before after IsSo k t = absurd t
opening_failed S T texts starts kept root (Engine (engine.Damaged id)) records before after IsSo k t = absurd t
opening_failed S T texts starts kept root (Engine engine.NoMemory) records before after IsSo (held, told, by) t =
    subst (λ view. EndsStart {T = T} texts starts a_root kept (Err (Engine engine.NoMemory)) records before view IsSo) (sym t)
    (ends_unopened T texts starts a_root kept (Engine engine.NoMemory) records before IsSo tt (found_later texts starts records a_root kept (held, told, (root, by))))
opening_failed S T texts starts kept root (DamagedRoot id) records before after IsSo k t = absurd t
opening_failed S T texts starts kept root ForeignRoot records before after IsSo k t = absurd t

pub opening_counts : (S T : Type 0) (text : List ℕ) (fault : HoldFault) (before after : SinkView) → TellsOpening {T = S} text (Err fault) before after → CountsOut {T = T} (Err fault) before after
opening_counts S T text (Out fault) before after t = (t.faults, t.refusals)
opening_counts S T text (Engine engine.StoreFault) before after t = absurd t
opening_counts S T text (Engine (engine.Damaged id)) before after t = absurd t
opening_counts S T text (Engine engine.NoMemory) before after t = record { faults = ap (λ (v : SinkView). v.faults) t; refusals = ap (λ (v : SinkView). v.refusals) t }
opening_counts S T text (DamagedRoot id) before after t = absurd t
opening_counts S T text ForeignRoot before after t = absurd t

pub opening_no_root : (S T : Type 0) (text : List ℕ) (fault : HoldFault) (before after : SinkView) → TellsOpening {T = S} text (Err fault) before after → IsOfRoot {T = T} (Err fault) → ⊥
opening_no_root S T text (Out fault) before after t r = r
opening_no_root S T text (Engine fault) before after t r = r
opening_no_root S T text (DamagedRoot id) before after t r = t
opening_no_root S T text ForeignRoot before after t r = t

pub opening_faults : (S T : Type 0) (text : List ℕ) (fault : HoldFault) (before after : SinkView) (count : ℕ) → TellsOpening {T = S} text (Err fault) before after
    → count ≡ faults_after_hold {T = T} (Err fault) count
opening_faults S T text (Out fault) before after count t = refl
opening_faults S T text (Engine engine.StoreFault) before after count t = absurd t
opening_faults S T text (Engine (engine.Damaged id)) before after count t = absurd t
opening_faults S T text (Engine engine.NoMemory) before after count t = refl
opening_faults S T text (DamagedRoot id) before after count t = refl
opening_faults S T text ForeignRoot before after count t = refl

-- ---- what a start finds

-- records that are told are what they were
told_still : (old new : Option Records) (held : Records) → StayIfTold old new → IsSome new → old ≡ Some held → new ≡ Some held
told_still old new held stay now told = stay now ∙ told

pub found_now : (texts : HeldTexts) (starts : ℕ) (old new : Option Records) (found : Found) (kept : KeptPoint) → HoldsFound texts starts old found kept → StayIfTold old new → IsSome new
    → HoldsFound texts starts new found kept
found_now texts starts old new found kept h stay now = (h.0, told_still old new h.0 stay now h.1, h.2)

-- each root there begins with a head
abbrev HaveHeads : Records → Type 0
HaveHeads held = (id : ℕ) (bytes : List ℕ) → IsRootId id → map_of.get held id ≡ Some bytes → (head : Head) × BeginAs bytes head

heads_counted : (held : Records) (head : Head) → IsCountedHead held head → HaveHeads held
heads_counted held head counted = λ id bytes is there. elim (root_id-either head.turn id is) [
  | inl here ↦ (head, subst (λ b. BeginAs b head) (same_Some counted.bytes bytes (sym counted.there ∙ ap (map_of.get held) (sym here) ∙ there)) counted.begins)
  | inr other ↦ (let e = counted.other bytes (ap (map_of.get held) (sym other) ∙ there) in (e.0, e.1))
]

heads_kept : (texts : HeldTexts) (starts : ℕ) (held : Records) (found : Found) (kept : KeptPoint) → HoldsKeptPoint texts starts held found kept → HaveHeads held
heads_kept texts starts held no_root kept h = λ id bytes is there. elim is [
  | inl e ↦ absurd (let no : Some bytes ≡ None = sym there ∙ ap (map_of.get held) e ∙ h.0.even in cc)
  | inr e ↦ absurd (let no : Some bytes ≡ None = sym there ∙ ap (map_of.get held) e ∙ h.0.odd in cc)
]
heads_kept texts starts held a_root kept (root, by) =
    heads_counted held (record { digests = root.mark.digests; turn = root.mark.turn }) (kept_counts texts starts held kept root by).0

no_damage : (held : Records) (id : ℕ) (given : Option (ℕ × List ℕ)) → HaveHeads held → GaveNoHead (Some held) id given → ⊥
no_damage held id given heads g =
    let h = heads id g.bytes g.of_root (g.there held refl) in
    let no : Ok (h.0, h.1.0) ≡ Err g.broken.0 = sym h.1.1 ∙ g.broken.1 in
    absurd (cc)

-- bytes that begin with no head are no root
pub none_given : (texts : HeldTexts) (records : Option Records) (id : ℕ) (given : Option (ℕ × List ℕ)) → GaveNoHead records id given → GaveNoRoot texts id given
none_given texts records id given g = record { of_root = g.of_root; bytes = g.bytes; gave = g.gave; broken = inl g.broken }

-- nor are bytes that were found, begin as a root of the texts, and are the spelling of none
pub broken_given : (texts : HeldTexts) (records : Option Records) (found : FoundRoot) (id : ℕ) (given : Option (ℕ × List ℕ)) → IsFoundRoot records found
    → given ≡ Some (found.id, found.bytes.items) → id ≡ found.id → found.head.digests ≡ texts.digests
    → ((root : Root) → IsRootFor texts.flow texts.batches root → found.bytes.items ≡ root_spelling root → ⊥) → GaveNoRoot texts id given
broken_given texts records found id given is gave same digests none = record {
  of_root = subst (λ n. IsRootId n) (sym same) is.id;
  bytes = found.bytes.items;
  gave = gave ∙ ap (λ n. Some (n, found.bytes.items)) (sym same);
  broken = inr (record { head = found.head; begins = is.begins; of_texts = digests; none = none });
}

-- bytes that were found, and begin as a root of other texts
pub foreign_given : (digests : Digests) (records : Option Records) (found : FoundRoot) (given : Option (ℕ × List ℕ)) → IsFoundRoot records found
    → given ≡ Some (found.id, found.bytes.items) → (found.head.digests ≡ digests → ⊥) → GaveForeign digests given
foreign_given digests records found given is gave other =
    record { id = found.id; of_root = is.id; bytes = found.bytes.items; gave = gave; head = found.head; begins = is.begins; other = other }

-- no damaged root is told where the records hold what was kept
pub kept_undamaged : (texts : HeldTexts) (starts : ℕ) (old new : Option Records) (found : Found) (kept : KeptPoint) (id : ℕ) (given : Option (ℕ × List ℕ)) → HoldsFound texts starts old found kept
    → StayIfTold old new → IsSome new → GaveNoHead new id given → ⊥
kept_undamaged texts starts old new found kept id given h stay now g =
    no_damage h.0 id given (heads_kept texts starts h.0 found kept h.2) (subst (λ r. GaveNoHead r id given) (told_still old new h.0 stay now h.1) g)

-- nor where the root that counts is one of other texts
pub foreign_undamaged : (digests : Digests) (old new : Option Records) (id : ℕ) (given : Option (ℕ × List ℕ)) → IsForeignIn digests old → StayIfTold old new → IsSome new
    → GaveNoHead new id given → ⊥
foreign_undamaged digests old new id given (held, told, (head, counted, other)) stay now g =
    no_damage held id given (heads_counted held head counted) (subst (λ r. GaveNoHead r id given) (told_still old new held stay now told) g)

-- what is found is what was kept
pub found_is_kept : (texts : HeldTexts) (starts : ℕ) (old new : Option Records) (f : Found) (kept : KeptPoint) (found : FoundRoot) → HoldsFound texts starts old f kept → StayIfTold old new
    → IsSome new → IsFoundRoot new found → HasGreatestTurn new found.head
    → (f ≡ a_root) × (root : Root) × IsKeptIn texts starts new kept root × (found.bytes.items ≡ root_spelling root) × (found.head.digests ≡ texts.digests)
found_is_kept texts starts old new no_root kept found (held, told, none) stay now is greatest =
    absurd (none_found held found none.0 (subst (λ r. IsFoundRoot r found) (told_still old new held stay now told) is))
found_is_kept texts starts old new a_root kept found (held, told, (root, by)) stay now is greatest =
    let same = told_still old new held stay now told in
    let k = kept_is_found texts starts held kept root found by (subst (λ r. IsFoundRoot r found) same is) (subst (λ r. HasGreatestTurn r found.head) same greatest) in
    (refl, root, (held, same, by), k.0, ap (λ (h : Head). h.digests) k.1 ∙ by.digests)

-- what is found where the root that counts is one of other texts
pub foreign_found : (digests : Digests) (old new : Option Records) (found : FoundRoot) → IsForeignIn digests old → StayIfTold old new → IsSome new → IsFoundRoot new found
    → HasGreatestTurn new found.head → found.head.digests ≡ digests → ⊥
foreign_found digests old new found (held, told, (head, counted, other)) stay now is greatest same =
    let here = told_still old new held stay now told in
    let k = counted_is_found held head found counted (subst (λ r. IsFoundRoot r found) here is) (subst (λ r. HasGreatestTurn r found.head) here greatest) in
    other (ap (λ (h : Head). h.digests) (sym k.1) ∙ same)

-- something is found then
pub foreign_there : (digests : Digests) (old new : Option Records) → IsForeignIn digests old → StayIfTold old new → IsSome new → HasNoneFound new → ⊥
foreign_there digests old new (held, told, (head, counted, other)) stay now none =
    some_found held head.turn counted.bytes counted.there (subst HasNoneFound (told_still old new held stay now told) none)

pub kept_there : (texts : HeldTexts) (starts : ℕ) (old new : Option Records) (kept : KeptPoint) → HoldsFound texts starts old a_root kept → StayIfTold old new → IsSome new → HasNoneFound new → ⊥
kept_there texts starts old new kept (held, told, (root, by)) stay now none =
    some_found held root.mark.turn (root_spelling root) by.counted.there (subst HasNoneFound (told_still old new held stay now told) none)

-- the writes that the found root names are there
pub found_named : (texts : HeldTexts) (old new : Option Records) (found : FoundRoot) (root : Root) → MayStart texts old → StayIfTold old new → IsFoundRoot new found
    → HasGreatestTurn new found.head → found.head.digests ≡ texts.digests
    → ((r : Root) → IsRootFor texts.flow texts.batches r → found.bytes.items ≡ root_spelling r → root ≡ r) → HasNamed root new
found_named texts old new found root may stay is greatest digests only = λ held told.
    let now : IsSome new = subst (λ (r : Option Records). IsSome r) (sym told) refl in
    let before : old ≡ Some held = sym (stay now) ∙ told in
    elim (may held before) [
      | inl kept ↦ (
          let k = found_is_kept texts kept.starts old new kept.found kept.kept found (held, before, kept.holds) stay now is greatest in
          let same : root ≡ k.1 = only k.1 k.2.2.of_texts k.3 in
          subst (λ r. AreThere (named_ids r) new) (sym same)
          (subst (λ r. AreThere (named_ids k.1) r) (sym k.2.1) (named-there (system_in texts) kept.kept.point.state k.1 (Some k.2.0) k.2.2.named)) held told
          )
      | inr foreign ↦ absurd (foreign_found texts.digests old new found (held, before, foreign) stay now is greatest digests)
    ]

-- ---- where nothing was kept

-- no root is found: the run has begun, and nothing was told
pub begun_first : {E : Type 0} (Stand : Standings E) (keep_of : E → KeepState) (flow_of : E → Dataflow) (texts : HeldTexts) (starts : ℕ) (found : Found) (kept : KeptPoint)
    (old new : Option Records) (view : SinkView) (engine : E) → HoldsFound texts starts old found kept → StayIfTold old new → IsSome new → HasNoneFound new
    → Stand (system_in texts) engine new (first_state (system_in texts)) → flow_of engine ≡ texts.flow → (keep_of engine).next ≡ 0
    → HasBegun Stand keep_of flow_of texts starts found kept new view view engine place_at_first
begun_first Stand keep_of flow_of texts starts a_root kept old new view engine h stay now none stands flow next = absurd (kept_there texts starts old new kept h stay now none)
begun_first Stand keep_of flow_of texts starts no_root kept old new view engine (held, told, (empty, is)) stay now none stands flow next =
    let here = told_still old new held stay now told in
    subst (λ (k : KeptPoint). HasBegun Stand keep_of flow_of texts starts no_root k new view view engine place_at_first) (sym is) (record {
      moves = [];
      now = kept_at_first (system_in texts);
      last = point_at_first (system_in texts);
      made = (refl, refl);
      begins = tt;
      wrote = written_nothing view;
      under_way = record {
        held = held;
        told = here;
        flow = flow;
        stands = stands;
        reached = ([], [], refl);
        of_items = record { ended = omega arith; singles = none_done texts.items; steps = omega arith; idle = omega arith };
        counts = record { ended = refl; singles = refl; steps = refl; idle = refl };
        turn = inl ((empty, refl), refl);
        turns = omega arith;
        ids = omega (arith, next);
      };
    })

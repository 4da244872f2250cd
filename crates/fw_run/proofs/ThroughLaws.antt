-- A run from a point, item by item, through faults of the store or up to the first.
use Rattle.std.proofs.Common.{◌≡◌, inl, inr, ℕ, zero, suc, get_or, ◌+◌, ◌^◌, ◌<◌, ◌≤◌, Bool, false, List, [], ◌∷◌, ◌++◌, length, map, take, drop, Option, Ok, Err, refl, sym, ◌∙◌, ap, subst, arith, append_assoc}
use Rattle.std.proofs.lemmas.Bool.{cases_lt}
use Rattle.std.proofs.lemmas.List.{append-nil, length-append, length-take-le, take-append-drop, take_all}
use Rattle.std.specs.Prelude.{IsSome}
use Rattle.std.specs.Result.{IsErrOf}
use Rattle.fw_outside.specs.declared.fault.OutFault.{OutFault}
use Rattle.fw_outside.specs.declared.fault.OutFault.TheVariants as output
use Rattle.fw_outside.specs.Outside.{SinkView, Takes}
use Rattle.fw_flow.specs.declared.step.Step.{Step}
use Rattle.fw_flow.specs.declared.step.Step.TheVariants.{Inject, Deliver, Notify, Progress, Checkpoint, Persist, Fail, Recover, Collect, Ack}
use Rattle.fw_flow.specs.Dataflow.{Dataflow, System}
use Rattle.fw_flow.specs.WellFormed.{IsWellFormedSystem}
use Rattle.fw_schedule.specs.declared.item.Item.{Item}
use Rattle.fw_schedule.specs.declared.item.Item.TheVariants.{One, Auto}
use Rattle.fw_model.specs.Machine.{Machine}
use Rattle.fw_model.specs.Reached.{IsReached}
use Rattle.fw_keep.specs.Catalogue.{AreAscending, ids_of}
use Rattle.fw_keep.specs.Stored.{Records, IsStored, SpellsNone}
use Rattle.fw_running.specs.declared.fault.EngineFault.TheVariants as fault
use Rattle.fw_running.specs.Steps.{IsLeftBy, IsStepEnabled}
use Rattle.fw_engine.specs.declared.engine.Engine.{Engine}
use Rattle.fw_engine.specs.Engine.{flow_of, StandsFor, IsDamaged, keep_of}
use Rattle.fw_run.proofs.EnduringLaws.{endured-none, endured-next, goes-on, run_known-less, run_known-take, run_trusts}
use Rattle.fw_run.proofs.FaultCounts.{rose_more}
use Rattle.fw_run.proofs.PlaceLaws.{parts_at, one_more-item, take_take}
use Rattle.fw_run.proofs.ReportLaws.{faults-append, reached-on, reports_text-append, no_reports}
use Rattle.fw_run.proofs.StandingLaws.{StandsBehind, holds-behind, holds-writes}
use Rattle.fw_run.proofs.StoppedLaws.{stopped_begun, none_told}
use Rattle.fw_run.proofs.SweptLaws.{last-swept, none-swept, part_swept}
use Rattle.fw_run.proofs.TallyLaws.{counted-none, counted-more}
use Rattle.fw_run.proofs.TakenLaws.{taken_more, taken_on}
use Rattle.fw_command.proofs.WritingLaws.{written_nothing, written_more}
use Rattle.fw_run.specs.declared.fault.RunFault.{RunFault}
use Rattle.fw_run.specs.declared.fault.RunFault.TheVariants as stop
use Rattle.fw_run.specs.declared.tally.StepCounts.{StepCounts}
use Rattle.fw_run.specs.Enduring.{Point, EnduredRun, IsRunKnown, RoseBy}
use Rattle.fw_run.specs.Performing.{IsCutAfter, IsTaken, TrustsItem, IsLeftAfter, IsItemTaken, IsItemBegun, IsCountAt, DoesItem, PrintsItem}
use Rattle.fw_run.specs.Reports.{Report, faults_in, outcomes_in, reports_text, AreCutInLast}
use Rattle.fw_run.specs.Stopping.{HoldsBehind, HoldsWrites, MayCallIn, IsLeftIn}
use Rattle.fw_run.specs.Tallies.{tally_shown, with_tally}
use Rattle.fw_run.specs.Through.{IsSoFar, BeginsWith, AgreesWith, IsPartOfLines, AreTaken, AreCutOff, CutsIn, IsStoppedByOutput, StopsIn, IsStoppedByStore, IsStoppedByDamage, EndsItems}
use Rattle.fw_command.specs.Command.{Course}
use Rattle.fw_command.specs.Writing.{IsWritten}
use Rattle.fw_hold.specs.Going.{IsCutIn}

-- ---- first items

known_before : (course : Course) (Tells : Type 0) (sys : System) (state : Machine) (n m : ℕ) (items : List Item) → n ≤ m → IsRunKnown course Tells sys state (take m items)
    → IsRunKnown course Tells sys state (take n items)
known_before course Tells sys state n m items h k =
    subst (IsRunKnown course Tells sys state) (take_take n m items h) (run_known-take course Tells sys state n (take m items) k)

begins-none : (course : Course) (sys : System) (from : Point) (items : List Item) (n : ℕ) → n ≤ 0 → BeginsWith course sys from (take n items) []
begins-none course sys from items zero h = record { run = endured-none course sys from.state; others = []; text = refl }
begins-none course sys from items (suc n) h = absurd (omega (arith, h))

begins-more : (course : Course) (sys : System) (from : Point) (items : List Item) (bytes more : List ℕ) → BeginsWith course sys from items bytes → BeginsWith course sys from items (bytes ++ more)
begins-more course sys from items bytes more b = record {
  run = b.run;
  others = b.others ++ more;
  text = ap (λ (t : List ℕ). t ++ more) b.text ∙ append_assoc (reports_text from.counts.steps b.run.reports) b.others more;
}

begins-all : (course : Course) (sys : System) (from : Point) (items : List Item) (tally : StepCounts) (bytes : List ℕ) (IsSo : List Item → List Report → Machine → Type 0) → IsSoFar course sys from items tally bytes IsSo
    → BeginsWith course sys from items bytes
begins-all course sys from items tally bytes IsSo s =
    record { run = s.run; others = []; text = s.text ∙ sym (append-nil (reports_text from.counts.steps s.run.reports)) }

-- ---- one item more

pub taken-none : (course : Course) (Tells : Type 0) (sys : System) (from : Point) (items : List Item) (engine : Engine) (records : Option Records) (tally : StepCounts) (view : SinkView)
    → from.counts ≡ tally → tally.sum < 2 ^ 64 → StandsFor sys engine records from.state → AreTaken course Tells sys from items 0 tally (StandsBehind sys engine records) view view
taken-none course Tells sys from items engine records tally view e fits st = record {
  bytes = [];
  written = written_nothing view;
  so_far = λ k. record {
    run = endured-none course sys from.state;
    text = refl;
    counted = counted-none tally fits ∙ ap (λ (c : StepCounts). with_tally c (tally_shown [])) (sym e);
    so = (st, λ swept. absurd (none-swept [] swept));
  };
  begins = λ n h k. begins-none course sys from items n h;
}

-- the number of steps so far
number_of : (from : Point) (tally : StepCounts) (reports : List Report) → tally ≡ with_tally from.counts (tally_shown reports) → tally.steps ≡ from.counts.steps + length reports
number_of from tally reports e = ap (λ (c : StepCounts). c.steps) e

-- an item was taken after others
so_far-next : (course : Course) (sys : System) (from : Point) (items : List Item) (item : Item) (old new : Engine) (before after : Option Records) (tally counts : StepCounts) (bytes others : List ℕ)
    → (s : IsSoFar course sys from items tally bytes (StandsBehind sys old before)) → IsItemTaken course sys s.run.last item tally counts others new after
    → IsSoFar course sys from (items ++ item ∷ []) counts (bytes ++ others) (StandsBehind sys new after)
so_far-next course sys from items item old new before after tally counts bytes others s t =
    let earlier = s.run.reports in
    let later = t.of_item.reports in
    record {
      run = endured-next course sys from.state items item s.run t.of_item;
      text = ap (λ (b : List ℕ). b ++ others) s.text
          ∙ ap (λ (b : List ℕ). reports_text from.counts.steps earlier ++ b) (t.text ∙ ap (λ (n : ℕ). reports_text n later) (number_of from tally earlier s.counted))
          ∙ sym (reports_text-append from.counts.steps earlier later);
      counted = t.counted ∙ ap (λ (c : StepCounts). with_tally c (tally_shown later)) s.counted ∙ counted-more from.counts earlier later;
      so = (
        t.stands,
        λ swept.
            let last = last-swept course sys s.run.last items item earlier t.of_item swept in
            t.swept last.0 last.1,
      );
    }

pub taken-more : (course : Course) (Tells : Type 0) (sys : System) (from : Point) (items : List Item) (i : ℕ) (old new : Engine) (before after : Option Records) (item : Item) (tally counts : StepCounts)
    (IsCount : ℕ → Type 0) (value : Unit {0}) (first middle last : SinkView) → (Tells → IsSome after) → AreTaken course Tells sys from items i tally (StandsBehind sys old before) first middle
    → i < length items → item ≡ get_or items i item → PrintsItem course old before item tally IsCount (Ok value) new after counts middle last
    → AreTaken course Tells sys from items (i + 1) counts (StandsBehind sys new after) first last
taken-more course Tells sys from items i old new before after item tally counts IsCount value first middle last told u below e p = record {
  bytes = u.bytes ++ p.bytes;
  written = written_more u.bytes p.bytes first middle last u.written p.taken;
  so_far = so_far;
  begins = begins;
}
  where
    so_far : IsRunKnown course Tells sys from.state (take (i + 1) items) → IsSoFar course sys from (take (i + 1) items) counts (u.bytes ++ p.bytes) (StandsBehind sys new after)
    so_far k =
        let at = one_more-item items i item below e in
        let s = u.so_far (known_before course Tells sys from.state i (i + 1) items (omega arith) k) in
        let trusts = run_trusts course Tells sys from.state (take i items) item after told (subst (IsRunKnown course Tells sys from.state) at k) s.run in
        subst (λ (xs : List Item). IsSoFar course sys from xs counts (u.bytes ++ p.bytes) (StandsBehind sys new after)) (sym at)
        (so_far-next course sys from (take i items) item old new before after tally counts u.bytes p.bytes s (p.does sys s.run.last s.so.0 trusts))

    begins : (n : ℕ) → n ≤ i + 1 → IsRunKnown course Tells sys from.state (take n items) → BeginsWith course sys from (take n items) (u.bytes ++ p.bytes)
    begins n h k = elim (cases_lt i n) [
      | inl later ↦
          let same : n ≡ i + 1 = omega (arith, h, later) in
          let s = so_far (subst (λ (m : ℕ). IsRunKnown course Tells sys from.state (take m items)) same k) in
          subst (λ (m : ℕ). BeginsWith course sys from (take m items) (u.bytes ++ p.bytes)) (sym same)
          (begins-all course sys from (take (i + 1) items) counts (u.bytes ++ p.bytes) (StandsBehind sys new after) s)
      | inr among ↦ begins-more course sys from (take n items) u.bytes p.bytes (u.begins n among k)
    ]

-- all items were taken, and the store holds the writes of the last state, and behind a collection no others
pub taken-all : (course : Course) (Tells : Type 0) (sys : System) (from : Point) (items : List Item) (i : ℕ) (engine : Engine) (records : Option Records) (tally : StepCounts) (first last : SinkView)
    → AreAscending (ids_of (keep_of engine).entries) → IsStored (keep_of engine) records → (keep_of engine).shared ≡ false
    → AreTaken course Tells sys from items i tally (StandsBehind sys engine records) first last → length items ≤ i
    → AreTaken course Tells sys from items (length items) tally (HoldsBehind sys records) first last
taken-all course Tells sys from items i engine records tally first last ordered stored alone u h = record {
  bytes = u.bytes;
  written = u.written;
  so_far = λ k.
      let s = u.so_far (subst (IsRunKnown course Tells sys from.state) same k) in
      subst (λ (xs : List Item). IsSoFar course sys from xs tally u.bytes (HoldsBehind sys records)) (sym same) (record {
        run = s.run;
        text = s.text;
        counted = s.counted;
        so = holds-behind sys engine ordered records stored alone (take i items) s.run.reports s.run.last s.so;
      });
  begins = λ n among k. u.begins n (omega (arith, among, h)) k;
}
  where
    same : take (length items) items ≡ take i items
    same = take_all (length items) items (omega arith) ∙ sym (take_all i items h)

-- what is known where the store tells its records is known where it still tells them
taken-known : (course : Course) (Tells Still : Type 0) (sys : System) (state : Machine) (items : List Item) → (Still → Tells) → IsRunKnown course Still sys state items → IsRunKnown course Tells sys state items
taken-known course Tells Still sys state items so (inl still) = inl (so still)
taken-known course Tells Still sys state items so (inr none) = inr none

pub taken-told : {course : Course} {Tells Still : Type 0} {sys : System} {from : Point} {items : List Item} {i : ℕ} {tally : StepCounts} {IsSo : List Item → List Report → Machine → Type 0} {first last : SinkView}
    → (Still → Tells) → AreTaken course Tells sys from items i tally IsSo first last → AreTaken course Still sys from items i tally IsSo first last
taken-told {course} {Tells} {Still} {sys} {from} {items} {i} so u = record {
  bytes = u.bytes;
  written = u.written;
  so_far = λ k. u.so_far (taken-known course Tells Still sys from.state (take i items) so k);
  begins = λ n h k. u.begins n h (taken-known course Tells Still sys from.state (take n items) so k);
}

-- ---- a run that stops

-- a run of first items goes on through the others
part_of-first : (course : Course) (sys : System) → IsWellFormedSystem sys → (from : Point) → IsReached sys from.state → (items others : List Item) (run : EnduredRun course sys from.state items)
    (bytes more : List ℕ) (IsCount : ℕ → Type 0) → reports_text from.counts.steps run.reports ≡ bytes ++ more → IsCount (faults_in run.reports)
    → IsPartOfLines course sys from (items ++ others) bytes IsCount
part_of-first course sys w from reached items others r bytes more IsCount e is =
    let g = goes-on course sys w from.state reached items others r in
    let steps = from.counts.steps in
    let behind = reports_text (steps + length r.reports) g.more in
    let parts : faults_in g.run.reports ≡ faults_in r.reports + faults_in g.more = ap (λ (rs : List Report). faults_in rs) g.parts ∙ faults-append r.reports g.more in
    let same : faults_in r.reports ≡ faults_in g.run.reports = omega (arith, parts, g.none) in
    record {
      run = g.run;
      left = more ++ behind;
      text = ap (reports_text steps) g.parts ∙ reports_text-append steps r.reports g.more ∙ ap (λ (t : List ℕ). t ++ behind) e ∙ append_assoc bytes more behind;
      faults = subst IsCount same is;
    }

-- what is part of lines goes with them
agrees_of-part : (course : Course) (sys : System) (from : Point) (items : List Item) (bytes : List ℕ) (IsCount : ℕ → Type 0) → IsPartOfLines course sys from items bytes IsCount
    → AgreesWith course sys from items bytes
agrees_of-part course sys from items bytes IsCount p = record {
  left = p.left;
  begins = record { run = p.run; others = []; text = sym p.text ∙ sym (append-nil (reports_text from.counts.steps p.run.reports)) };
}

-- what a fault in an item says of its lines
fault_broken : (course : Course) (sys : System) (item : Item) (state : Machine) (old counts : StepCounts) (bytes : List ℕ) (IsCount : ℕ → Type 0) (f : RunFault)
    (new : Engine) (after : Option Records) → IsWellFormedSystem sys → IsReached sys state
    → TrustsItem sys state item after → DoesItem course sys state item old counts bytes IsCount (Err f) new after
    → IsItemBegun course sys state item old bytes (IsCountAt f IsCount)
fault_broken course sys item state old counts bytes IsCount (stop.Out f) new after w reached trusts d = (d trusts).0
fault_broken course sys item state old counts bytes IsCount (stop.Engine f) new after w reached trusts d =
    stopped_begun course sys item state old counts bytes (IsLeftAfter sys item f new after) (IsCountAt (stop.Engine f) IsCount) d.1 w reached d.0

-- so often the store failed, and then so often more
rose_at : (f : RunFault) (a b c n k : ℕ) → RoseBy a b n → IsCountAt f (RoseBy b c) k → IsCountAt f (RoseBy a c) (n + k)
rose_at (stop.Out f) a b c n k e h = rose_more a b c n k e h
rose_at (stop.Engine fault.StoreFault) a b c n k e h = tt
rose_at (stop.Engine (fault.Damaged id)) a b c n k e h = rose_more a b c n k e h
rose_at (stop.Engine fault.NoMemory) a b c n k e h = rose_more a b c n k e h

-- how often it failed is counted
pub counted_faults : (from : Point) (tally : StepCounts) (reports : List Report) → from.counts.faults ≡ 0 → tally ≡ with_tally from.counts (tally_shown reports) → tally.faults ≡ faults_in reports
counted_faults from tally reports none e =
    let counted : tally.faults ≡ from.counts.faults + faults_in reports = ap (λ (c : StepCounts). c.faults) e in
    omega (arith, counted, none)

-- the run stops in the item of this place
pub cut_off-at : (course : Course) (Tells : Type 0) (sys : System) (from : Point) (items : List Item) (i : ℕ) (old new : Engine) (before after : Option Records) (item : Item) (tally counts : StepCounts)
    (a b c : ℕ) (f : RunFault) (first middle last : SinkView) → IsWellFormedSystem sys → IsReached sys from.state → from.counts.faults ≡ 0 → (Tells → IsSome after)
    → AreTaken course Tells sys from items i tally (StandsBehind sys old before) first middle → i < length items → item ≡ get_or items i item
    → PrintsItem course old before item tally (RoseBy b c) (Err f) new after counts middle last → RoseBy a b tally.faults
    → AreCutOff course Tells sys from items f (RoseBy a c) first last
cut_off-at course Tells sys from items i old new before after item tally counts a b c f first middle last w reached unfailed told u below e p rose = record {
  bytes = u.bytes ++ p.bytes;
  taken = taken_on (Unit {0}) (Unit {0}) u.bytes p.bytes f first middle last u.written p.taken;
  begins = begins;
  part = λ k. part_in items (one_more-item items i item below e) k;
}
  where
    part_in : (xs : List Item) → take (i + 1) xs ≡ take i items ++ item ∷ [] → IsRunKnown course Tells sys from.state xs → IsPartOfLines course sys from xs (u.bytes ++ p.bytes) (IsCountAt f (RoseBy a c))
    part_in xs at k =
        let known = subst (IsRunKnown course Tells sys from.state) at (run_known-take course Tells sys from.state (i + 1) xs k) in
        let s = u.so_far (run_known-less course Tells sys from.state (take i items) (item ∷ []) known) in
        let r = s.run in
        let steps = from.counts.steps in
        let trusts = run_trusts course Tells sys from.state (take i items) item after told known r in
        let there = reached-on sys from.state r.last r.steps (outcomes_in r.reports) reached r.run in
        let broken = fault_broken course sys item r.last tally counts p.bytes (RoseBy b c) f new after w there trusts (p.does sys r.last s.so.0) in
        let next = endured-next course sys from.state (take i items) item r broken.of_item in
        let later = broken.of_item.reports in
        let lines : reports_text steps next.reports ≡ (u.bytes ++ p.bytes) ++ broken.others =
        reports_text-append steps r.reports later
        ∙ ap (λ (t : List ℕ). t ++ reports_text (steps + length r.reports) later) (sym s.text)
        ∙ ap (λ (t : List ℕ). u.bytes ++ t) (ap (λ (n : ℕ). reports_text n later) (sym (number_of from tally r.reports s.counted)) ∙ broken.text)
        ∙ sym (append_assoc u.bytes p.bytes broken.others) in
        let faults : tally.faults + faults_in later ≡ faults_in next.reports = omega (arith, counted_faults from tally r.reports unfailed s.counted, faults-append r.reports later) in
        let counted = subst (IsCountAt f (RoseBy a c)) faults (rose_at f a b c tally.faults (faults_in later) rose broken.faults) in
        let whole = part_of-first course sys w from reached (take i items ++ item ∷ []) (drop (i + 1) xs) next (u.bytes ++ p.bytes) broken.others (IsCountAt f (RoseBy a c)) lines counted in
        let same : (take i items ++ item ∷ []) ++ drop (i + 1) xs ≡ xs = ap (λ (ys : List Item). ys ++ drop (i + 1) xs) (sym at) ∙ take-append-drop (i + 1) xs in
        subst (λ (ys : List Item). IsPartOfLines course sys from ys (u.bytes ++ p.bytes) (IsCountAt f (RoseBy a c))) same whole

    begins : (n : ℕ) → IsRunKnown course Tells sys from.state (take n items) → AgreesWith course sys from (take n items) (u.bytes ++ p.bytes)
    begins n k = elim (cases_lt i n) [
      | inl later ↦
          let at = take_take (i + 1) n items (omega (arith, later)) ∙ one_more-item items i item below e in
          agrees_of-part course sys from (take n items) (u.bytes ++ p.bytes) (IsCountAt f (RoseBy a c)) (part_in (take n items) at k)
      | inr among ↦
          let b = begins-more course sys from (take n items) u.bytes p.bytes (u.begins n among k) in
          record { left = []; begins = begins-more course sys from (take n items) (u.bytes ++ p.bytes) [] b }
    ]

-- the run is not begun
pub not_begun : (course : Course) (Tells : Type 0) (sys : System) (from : Point) (items : List Item) (f : RunFault) (IsCount : ℕ → Type 0) (first last : SinkView) → IsWellFormedSystem sys
    → IsReached sys from.state → IsCountAt f IsCount 0 → IsTaken {T = Unit {0}} [] (Err f) first last → AreCutOff course Tells sys from items f IsCount first last
not_begun course Tells sys from items f IsCount first last w reached none taken = record {
  bytes = [];
  taken = taken;
  begins = λ n k. agrees_of-part course sys from (take n items) [] (IsCountAt f IsCount) (of_none (take n items));
  part = λ k. of_none items;
}
  where
    of_none : (xs : List Item) → IsPartOfLines course sys from xs [] (IsCountAt f IsCount)
    of_none xs = part_of-first course sys w from reached [] xs (endured-none course sys from.state) [] [] (IsCountAt f IsCount) refl none

-- ---- a fault of the output

-- lines that were cut off behind others are cut off in the last of all
cut_behind : (before : ℕ) (reports more : List Report) (bytes others : List ℕ) (fault : OutFault) (first last : SinkView) → bytes ≡ reports_text before reports
    → (c : AreCutInLast (before + length reports) more others) → IsCutAfter (bytes ++ others) fault first last
    → (reports ++ more ≡ (reports ++ c.shown) ++ c.last ∷ [])
    × IsCutIn (reports_text before (reports ++ c.shown)) (reports_text (before + length (reports ++ c.shown)) (c.last ∷ [])) fault first last
cut_behind before reports more bytes others fault first last e c t =
    let place : (before + length reports) + length c.shown ≡ before + length (reports ++ c.shown) = omega (arith, length-append reports c.shown) in
    let all : bytes ++ others ≡ reports_text before (reports ++ c.shown) ++ c.some =
    ap (λ (b : List ℕ). b ++ others) e ∙ ap (λ (b : List ℕ). reports_text before reports ++ b) c.text
    ∙ sym (append_assoc (reports_text before reports) (reports_text (before + length reports) c.shown) c.some)
    ∙ ap (λ (b : List ℕ). b ++ c.some) (sym (reports_text-append before reports c.shown)) in (
      ap (λ (rs : List Report). reports ++ rs) c.parts ∙ sym (append_assoc reports c.shown (c.last ∷ [])),
      record {
        part = c.some;
        left = c.left;
        parts = ap (λ (n : ℕ). reports_text n (c.last ∷ [])) (sym place) ∙ c.lines;
        taken = subst (λ (b : List ℕ). Takes first.taken b last.taken) all t.taken;
        faults = t.faults;
        refusals = t.refusals;
      },
    )

-- the output stops the run in the item of this place
output_stops : (course : Course) (Tells : Type 0) (sys : System) (from : Point) (items : List Item) (i : ℕ) (old new : Engine) (before after : Option Records) (item : Item) (tally counts : StepCounts)
    (a b c : ℕ) (first middle last : SinkView) → from.counts.faults ≡ 0 → (Tells → IsSome after) → AreTaken course Tells sys from items i tally (StandsBehind sys old before) first middle
    → i < length items → item ≡ get_or items i item → AreAscending (ids_of (keep_of new).entries) → IsStored (keep_of new) after → (keep_of new).shared ≡ false
    → PrintsItem course old before item tally (RoseBy b c) (Err (stop.Out output.Failed)) new after counts middle last → RoseBy a b tally.faults
    → IsStoppedByOutput course Tells sys from items after (RoseBy a c) first last
output_stops course Tells sys from items i old new before after item tally counts a b c first middle last unfailed told u below e ordered stored alone p rose = record {
  printed = u.bytes ++ p.bytes;
  written = taken_more u.bytes p.bytes output.Failed first middle last u.written p.taken;
  earlier = take i items;
  item = item;
  later = drop (i + 1) items;
  parts = parts_at items i item below e;
  first = λ n h k. begins-more course sys from (take n items) u.bytes p.bytes (u.begins n (omega (arith, h, length-take-le i items (omega (arith, below)))) k);
  stops = λ k.
      let s = u.so_far (run_known-less course Tells sys from.state (take i items) (item ∷ []) k) in
      let r = s.run in
      let d = (p.does sys r.last s.so.0 (run_trusts course Tells sys from.state (take i items) item after told k r)).1 refl in
      let cut = subst (λ (n : ℕ). AreCutInLast n d.of_item.reports p.bytes) (number_of from tally r.reports s.counted) d.cut in
      let behind = cut_behind from.counts.steps r.reports d.of_item.reports u.bytes p.bytes output.Failed first last s.text cut (taken_more u.bytes p.bytes output.Failed first middle last u.written p.taken) in
      let faults : tally.faults + faults_in d.of_item.reports ≡ faults_in (r.reports ++ d.of_item.reports) =
      omega (arith, counted_faults from tally r.reports unfailed s.counted, faults-append r.reports d.of_item.reports) in
      record {
        part = d.part;
        begun = d.begun;
        run = endured-next course sys from.state (take i items) d.part r d.of_item;
        told = r.reports ++ cut.shown;
        cut = cut.last;
        reports = behind.0;
        written = behind.1;
        faults = subst (RoseBy a c) faults (rose_more a b c tally.faults (faults_in d.of_item.reports) rose d.faults);
        so = holds-behind sys new ordered after stored alone (take i items ++ d.part ∷ []) (r.reports ++ d.of_item.reports) d.of_item.last (
          d.stands,
          λ swept.
              let last = last-swept course sys r.last (take i items) d.part r.reports d.of_item swept in
              d.swept (part_swept item d.part d.begun last.0) last.1,
        );
      };
}

-- ---- a fault of the store

-- what is left, of states of which something is true, as states of which more is
left_by : (sys : System) (state : Machine) (step : Step) (P Q : Machine → Type 0) → ((m : Machine) → P m → Q m) → IsLeftBy sys state step P → IsLeftBy sys state step Q
left_by sys state (Inject s) P Q f l = (l.0, f state l.1)
left_by sys state (Deliver e at) P Q f l = (l.0, f state l.1)
left_by sys state (Notify p at) P Q f l = (l.0, f state l.1)
left_by sys state Progress P Q f l = (l.0, f state l.1)
left_by sys state (Checkpoint p) P Q f l = (l.0, f state l.1)
left_by sys state Persist P Q f l = (l.0, f state l.1)
left_by sys state (Fail ps) P Q f l = (l.0, f state l.1)
left_by sys state Recover P Q f l = (l.0, f state l.1)
left_by sys state Collect P Q f l = (l.0, l.1, l.2, f l.0 l.3)
left_by sys state (Ack o) P Q f l = (l.0, f state l.1)

left_in : (sys : System) (state : Machine) (item : Item) (P Q : Machine → Type 0) → ((m : Machine) → P m → Q m) → IsLeftIn sys state item P → IsLeftIn sys state item Q
left_in sys state (One step) P Q f l = left_by sys state step P Q f l
left_in sys state (Auto most) P Q f l = (l.0, f state l.1)

-- the store stops the run in the item of this place
store_stops : (course : Course) (Tells : Type 0) (sys : System) (from : Point) (items : List Item) (i : ℕ) (old new : Engine) (before after : Option Records) (item : Item) (tally counts : StepCounts)
    (IsCount : ℕ → Type 0) (first middle last : SinkView) → AreTaken course Tells sys from items i tally (StandsBehind sys old before) first middle → i < length items
    → item ≡ get_or items i item → MayCallIn sys.flow item → AreAscending (ids_of (keep_of new).entries)
    → PrintsItem course old before item tally IsCount (Err (stop.Engine fault.StoreFault)) new after counts middle last
    → IsStoppedByStore course Tells sys from items after (λ printed. IsWritten printed first last)
store_stops course Tells sys from items i old new before after item tally counts IsCount first middle last u below e calls ordered p = record {
  printed = u.bytes ++ p.bytes;
  written = written_more u.bytes p.bytes first middle last u.written p.taken;
  earlier = take i items;
  item = item;
  later = drop (i + 1) items;
  parts = parts_at items i item below e;
  may_call = calls;
  first = λ n h k. begins-more course sys from (take n items) u.bytes p.bytes (u.begins n (omega (arith, h, length-take-le i items (omega (arith, below)))) k);
  stops = λ k.
      let s = u.so_far k in
      let r = s.run in
      let t = (p.does sys r.last s.so.0).0 in
      record {
        before = r;
        begun = t.begun;
        state = t.now;
        begins = t.begins;
        reports = t.reports;
        run = t.run;
        text = ap (λ (b : List ℕ). b ++ p.bytes) s.text
            ∙ ap (λ (b : List ℕ). reports_text from.counts.steps r.reports ++ b) (t.text ∙ ap (λ (n : ℕ). reports_text n t.reports) (number_of from tally r.reports s.counted))
            ∙ sym (reports_text-append from.counts.steps r.reports t.reports);
        so = left_in sys t.now item (StandsFor sys new after) (HoldsWrites sys after) (holds-writes sys new ordered after) t.so;
      };
}

-- ---- a damaged record

damage_stops : (course : Course) (Tells : Type 0) (sys : System) (from : Point) (items : List Item) (i id : ℕ) (old new : Engine) (before after : Option Records) (given : Option (ℕ × List ℕ))
    (tally counts : StepCounts) (a b c : ℕ) (first middle last : SinkView) → from.counts.faults ≡ 0 → (Tells → IsSome after)
    → AreTaken course Tells sys from items i tally (StandsBehind sys old before) first middle → i < length items
    → items ≡ take i items ++ One Recover ∷ drop (i + 1) items → flow_of old ≡ sys.flow
    → PrintsItem course old before (One Recover) tally (RoseBy b c) (Err (stop.Engine (fault.Damaged id))) new after counts middle last → IsDamaged old id given → RoseBy a b tally.faults
    → IsStoppedByDamage course Tells sys from items id given (RoseBy a c) (λ printed. IsWritten printed first last)
damage_stops course Tells sys from items i id old new before after given tally counts a b c first middle last unfailed told u below parts same p d rose = record {
  printed = u.bytes ++ p.bytes;
  written = written_more u.bytes p.bytes first middle last u.written p.taken;
  earlier = take i items;
  later = drop (i + 1) items;
  parts = parts;
  untold = λ tells.
      let s = u.so_far (inl tells) in
      let t = (p.does sys s.run.last s.so.0).0 in
      none_told after t.so.0 (told tells);
  entry = d.entry;
  named = d.named;
  bytes = d.bytes;
  gave = d.gave;
  spells_none = subst (λ (flow : Dataflow). SpellsNone flow d.entry d.bytes) same d.spells_none;
  first = λ n h k. begins-more course sys from (take n items) u.bytes p.bytes (u.begins n (omega (arith, h, length-take-le i items (omega (arith, below)))) k);
  stops = λ k.
      let s = u.so_far k in
      let state = s.run.last in
      let found = p.does sys state s.so.0 in
      let t = found.0 in
      let none : t.reports ≡ [] = no_reports course.showing sys state t.now t.begun t.reports t.begins.0 t.run in
      let nothing : p.bytes ≡ [] = t.text ∙ ap (λ (rs : List Report). reports_text tally.steps rs) none in
      let text : u.bytes ++ p.bytes ≡ reports_text from.counts.steps s.run.reports = ap (λ (b : List ℕ). u.bytes ++ b) nothing ∙ append-nil u.bytes ∙ s.text in
      let enabled : IsStepEnabled sys state Recover = subst (λ (m : Machine). IsStepEnabled sys m Recover) t.begins.1 t.so.1 in
      let count_now : RoseBy a c tally.faults = found.1 ∙ rose in
      (s.run, text, subst (RoseBy a c) (counted_faults from tally s.run.reports unfailed s.counted) count_now, (enabled, (keep_of old).entries, s.so.0.apart.entries, d.there, d.asked sys before state s.so.0));
}

-- what ends the run in the item of this place
pub ends-at : (course : Course) (Tells : Type 0) (sys : System) (from : Point) (items : List Item) (i : ℕ) (start old new : Engine) (begun before after : Option Records) (given : Option (ℕ × List ℕ))
    (item : Item) (tally counts : StepCounts) (a b c : ℕ) (f : RunFault) (first middle last : SinkView) → StandsFor sys start begun from.state → flow_of old ≡ flow_of start → from.counts.faults ≡ 0
    → (Tells → IsSome after) → AreTaken course Tells sys from items i tally (StandsBehind sys old before) first middle → i < length items → item ≡ get_or items i item
    → AreAscending (ids_of (keep_of new).entries) → IsStored (keep_of new) after → (keep_of new).shared ≡ false
    → PrintsItem course old before item tally (RoseBy b c) (Err f) new after counts middle last → RoseBy a b tally.faults
    → (IsErrOf {T = Unit {0}} (Err f) (stop.Engine fault.StoreFault) → (course.goes_on ≡ false) × MayCallIn (flow_of old) item)
    → ((id : ℕ) → IsErrOf {T = Unit {0}} (Err f) (stop.Engine (fault.Damaged id)) → item ≡ One Recover)
    → ((id : ℕ) → IsErrOf {T = Unit {0}} (Err f) (stop.Engine (fault.Damaged id)) → IsDamaged old id given)
    → EndsItems course Tells sys from items f (RoseBy a c) after given first last
ends-at course Tells sys from items i start old new begun before after given item tally counts a b c (stop.Out output.Failed) first middle last st same unfailed told u below e ordered stored alone p rose stops recovers damaged =
    output_stops course Tells sys from items i old new before after item tally counts a b c first middle last unfailed told u below e ordered stored alone p rose
ends-at course Tells sys from items i start old new begun before after given item tally counts a b c (stop.Out output.NoMemory) first middle last st same unfailed told u below e ordered stored alone p rose stops recovers damaged = tt
ends-at course Tells sys from items i start old new begun before after given item tally counts a b c (stop.Engine fault.StoreFault) first middle last st same unfailed told u below e ordered stored alone p rose stops recovers damaged =
    let h = stops refl in (
      h.0,
      store_stops course Tells sys from items i old new before after item tally counts (RoseBy b c) first middle last u below e
          (subst (λ (flow : Dataflow). MayCallIn flow item) (same ∙ st.apart.flow) h.1) ordered p,
    )
ends-at course Tells sys from items i start old new begun before after given item tally counts a b c (stop.Engine (fault.Damaged id)) first middle last st same unfailed told u below e ordered stored alone p rose stops recovers damaged =
    let recover = recovers id refl in
    damage_stops course Tells sys from items i id old new before after given tally counts a b c first middle last unfailed told u below
    (subst (λ (x : Item). items ≡ take i items ++ x ∷ drop (i + 1) items) recover (parts_at items i item below e)) (same ∙ st.apart.flow)
    (subst (λ (x : Item). PrintsItem course old before x tally (RoseBy b c) (Err (stop.Engine (fault.Damaged id))) new after counts middle last) recover p) (damaged id refl) rose
ends-at course Tells sys from items i start old new begun before after given item tally counts a b c (stop.Engine fault.NoMemory) first middle last st same unfailed told u below e ordered stored alone p rose stops recovers damaged = tt

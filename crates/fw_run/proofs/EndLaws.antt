-- From what was taken of items to what is answered of a run, by its manner.
use Rattle.std.proofs.Common.{◌≡◌, inl, inr, ℕ, ◌+◌, ◌≤◌, Bool, true, false, List, [], ◌∷◌, ◌++◌, length, take, Option, Result, Ok, Err, refl, sym, ◌∙◌, ap, subst, arith, append_assoc}
use Rattle.std.proofs.lemmas.Bool.{cases_lt, false≢true}
use Rattle.std.proofs.lemmas.List.{append-nil, take_all}
use Rattle.std.specs.Result.{IsErrOf}
use Rattle.fw_outside.specs.declared.fault.OutFault.{OutFault}
use Rattle.fw_outside.specs.declared.fault.OutFault.TheVariants.{Failed, NoMemory}
use Rattle.fw_outside.specs.Outside.{SinkView}
use Rattle.fw_flow.specs.Dataflow.{System}
use Rattle.fw_flow.specs.WellFormed.{IsWellFormedSystem}
use Rattle.fw_schedule.specs.declared.item.Item.{Item}
use Rattle.fw_model.specs.Machine.{Machine}
use Rattle.fw_model.specs.Reached.{IsReached}
use Rattle.fw_keep.specs.Stored.{Records}
use Rattle.fw_running.specs.declared.fault.EngineFault.{EngineFault}
use Rattle.fw_running.specs.declared.fault.EngineFault.TheVariants as fault
use Rattle.fw_run.proofs.FaultCounts.{some_after}
use Rattle.fw_run.proofs.TakenLaws.{line_cut, taken_nothing, taken_part, taken_more, until_all}
use Rattle.fw_run.proofs.ThroughLaws.{counted_faults, not_begun}
use Rattle.fw_command.proofs.WritingLaws.{written_nothing, written_more, cut_nothing, part_nothing}
use Rattle.fw_run.specs.declared.fault.RunFault.{RunFault}
use Rattle.fw_run.specs.declared.fault.RunFault.TheVariants as stop
use Rattle.fw_run.specs.declared.tally.StepCounts.{StepCounts}
use Rattle.fw_run.specs.Ends.{nowhere, seen, seen_lines, StaysUnseen, IsSeen, text_of_run, WritesLast, first_point, PrintsOfRun, NoFaults, NoneLeft, SomeLeft, AreKnown, BeginsText, IsDone, IsLastLineCut, IsStoreFault, IsDamageIn, EndsRun}
use Rattle.fw_run.specs.Enduring.{Point, start_of, IsRunKnown, with_faults, RoseBy, RoseIfOn, StaysOrRose}
use Rattle.fw_run.specs.Fault.{faults_after_run}
use Rattle.fw_run.specs.Performing.{IsTaken, IsCountAt, WritesUntil}
use Rattle.fw_run.specs.Reports.{Report, faults_in, reports_text}
use Rattle.fw_run.specs.Stopping.{HoldsBehind}
use Rattle.fw_run.specs.Tallies.{last_line, tally_shown, with_tally}
use Rattle.fw_run.specs.Through.{IsSoFar, BeginsWith, AreTaken, AreCutOff, IsStoppedByOutput, IsStoppedByStore, IsStoppedByDamage, EndsItems}
use Rattle.fw_command.specs.Command.{Start, at_first, Course, Manner}
use Rattle.fw_command.specs.Writing.{IsWritten, IsCutOff, WritesText}
use Rattle.fw_hold.specs.Going.{IsCutIn}

-- ---- where a run begins

-- steps lead to where it begins
start-reached : (start : Start) (sys : System) → IsReached sys (start_of start sys).state
start-reached at_first sys = ([], [], refl)

start-none : (start : Start) (sys : System) → (start_of start sys).counts.faults ≡ 0
start-none at_first sys = refl

-- ---- what is seen

-- lines that are not seen were not written
seen_written : (is_seen : Bool) (bytes : List ℕ) (first middle : SinkView) → IsWritten bytes (seen is_seen first) (seen is_seen middle) → StaysUnseen is_seen first middle
    → IsWritten (seen_lines is_seen bytes) first middle
seen_written true bytes first middle w stays = w
seen_written false bytes first middle w stays = subst (λ (v : SinkView). IsWritten [] first v) (sym stays) (written_nothing first)

seen_put : (is_seen : Bool) (first last : SinkView) → StaysUnseen is_seen first last → (printed : List ℕ) → IsWritten printed (seen is_seen first) (seen is_seen last)
    → IsSeen is_seen first last printed
seen_put true first last stays printed w = w
seen_put false first last stays printed w = stays

-- nothing was written, before a fault that is not the output's
nothing_until : (bytes : List ℕ) (f : RunFault) (view : SinkView) → IsTaken {T = Unit {0}} bytes (Err f) nowhere nowhere → (line : List ℕ) → WritesUntil {T = Unit {0}} line (Err f) view view
nothing_until bytes (stop.Out Failed) view t line = absurd (omega (arith, t.faults))
nothing_until bytes (stop.Out NoMemory) view t line = cut_nothing line view
nothing_until bytes (stop.Engine f) view t line = part_nothing line view

seen_until : (is_seen : Bool) (bytes : List ℕ) (f : RunFault) (first last : SinkView) → IsTaken {T = Unit {0}} bytes (Err f) (seen is_seen first) (seen is_seen last) → StaysUnseen is_seen first last
    → WritesUntil {T = Unit {0}} (seen_lines is_seen bytes) (Err f) first last
seen_until true bytes f first last t stays = until_all (Unit {0}) (Unit {0}) bytes f first last t
seen_until false bytes f first last t stays =
    subst (λ (v : SinkView). WritesUntil {T = Unit {0}} [] (Err f) first v) (sym stays) (nothing_until bytes f first t [])

-- lines that begin with others are seen to
seen_append : (is_seen : Bool) (one other : List ℕ) → seen_lines is_seen (one ++ other) ≡ seen_lines is_seen one ++ seen_lines is_seen other
seen_append true one other = refl
seen_append false one other = refl

seen_begins : (is_seen : Bool) (bytes more lines others : List ℕ) → bytes ≡ lines ++ others
    → (behind : List ℕ) × (seen_lines is_seen bytes ++ more ≡ seen_lines is_seen lines ++ behind)
seen_begins true bytes more lines others e = (others ++ more, ap (λ (t : List ℕ). t ++ more) e ∙ append_assoc lines others more)
seen_begins false bytes more lines others e = (more, refl)

-- ---- items that were all taken

taken_so_far : (course : Course) (Tells : Type 0) (sys : System) (from : Point) (items : List Item) (tally : StepCounts) (IsSo : List Item → List Report → Machine → Type 0) (first last : SinkView)
    → (u : AreTaken course Tells sys from items (length items) tally IsSo first last) → IsRunKnown course Tells sys from.state items → IsSoFar course sys from items tally u.bytes IsSo
taken_so_far course Tells sys from items tally IsSo first last u k =
    let all : take (length items) items ≡ items = take_all (length items) items (omega arith) in
    subst (λ (xs : List Item). IsSoFar course sys from xs tally u.bytes IsSo) all (u.so_far (subst (IsRunKnown course Tells sys from.state) (sym all) k))

-- what was written begins with the lines of first ones
taken_begins : (course : Course) (Tells : Type 0) (sys : System) (from : Point) (items : List Item) (tally : StepCounts) (IsSo : List Item → List Report → Machine → Type 0) (first last : SinkView)
    → (u : AreTaken course Tells sys from items (length items) tally IsSo first last) → (n : ℕ) → IsRunKnown course Tells sys from.state (take n items) → BeginsWith course sys from (take n items) u.bytes
taken_begins course Tells sys from items tally IsSo first last u n k = elim (cases_lt (length items) n) [
  | inl later ↦
      let same : take n items ≡ take (length items) items = take_all n items (omega (arith, later)) ∙ sym (take_all (length items) items (omega arith)) in
      subst (λ (xs : List Item). BeginsWith course sys from xs u.bytes) (sym same) (u.begins (length items) (omega arith) (subst (IsRunKnown course Tells sys from.state) same k))
  | inr among ↦ u.begins n among k
]

-- the text of a run that was taken so far
text_so_far : (manner : Manner) (sys : System) (items : List Item) (tally : StepCounts) (bytes : List ℕ) (IsSo : List Item → List Report → Machine → Type 0)
    → (s : IsSoFar manner.course sys (first_point manner sys) items tally bytes IsSo)
    → text_of_run manner (first_point manner sys) s.run.reports ≡ seen_lines manner.is_seen bytes ++ last_line manner.last tally
text_so_far manner sys items tally bytes IsSo s =
    ap (λ (t : List ℕ). seen_lines manner.is_seen t ++ last_line manner.last (with_tally (first_point manner sys).counts (tally_shown s.run.reports))) (sym s.text)
    ∙ ap (λ (c : StepCounts). seen_lines manner.is_seen bytes ++ last_line manner.last c) (sym s.counted)

-- what was taken, as it is known
abbrev pub IsAllTaken : Manner → Type 0 → System → List Item → StepCounts → Option Records → SinkView → SinkView → Type 0
IsAllTaken manner Tells sys items tally records first last =
    AreTaken manner.course Tells sys (first_point manner sys) items (length items) tally (HoldsBehind sys records) (seen manner.is_seen first) (seen manner.is_seen last)

-- what was printed of it, and what comes behind, begins with the lines of first items
begins_of-taken : (manner : Manner) (Tells : Type 0) (sys : System) (items : List Item) (tally : StepCounts) (records : Option Records) (first middle : SinkView) (one : List ℕ)
    → (u : IsAllTaken manner Tells sys items tally records first middle) → (n : ℕ) → AreKnown manner Tells sys (take n items)
    → BeginsText manner sys (take n items) (seen_lines manner.is_seen u.bytes ++ one) []
begins_of-taken manner Tells sys items tally records first middle one u n k =
    let from = first_point manner sys in
    let b = taken_begins manner.course Tells sys from items tally (HoldsBehind sys records) (seen manner.is_seen first) (seen manner.is_seen middle) u n k in
    let e = seen_begins manner.is_seen u.bytes one (reports_text from.counts.steps b.run.reports) b.others b.text in
    record { run = b.run; others = e.0; text = append-nil (seen_lines manner.is_seen u.bytes ++ one) ∙ e.1 }

-- what was printed of it, with first bytes of the last line, is what the run prints
text_of_taken : (IsCount : Bool → ℕ → Type 0) (IsLeft : List ℕ → Type 0) (manner : Manner) (Tells : Type 0) (sys : System) (items : List Item) (tally : StepCounts) (records : Option Records)
    (first middle : SinkView) (one other : List ℕ) → (u : IsAllTaken manner Tells sys items tally records first middle) → last_line manner.last tally ≡ one ++ other → IsLeft other → IsLeft []
    → IsCount manner.course.goes_on tally.faults → PrintsOfRun Tells IsCount IsLeft manner sys items (seen_lines manner.is_seen u.bytes ++ one)
text_of_taken IsCount IsLeft manner Tells sys items tally records first middle one other u parts left none is = record {
  whole = λ k.
      let s = taken_so_far manner.course Tells sys from items tally (HoldsBehind sys records) (seen manner.is_seen first) (seen manner.is_seen middle) u k in (
        other,
        left,
        record {
          run = s.run;
          text = text_so_far manner sys items tally u.bytes (HoldsBehind sys records) s ∙ ap (λ (t : List ℕ). lines ++ t) parts ∙ sym (append_assoc lines one other);
          faults = subst (IsCount manner.course.goes_on) (counted_faults from tally s.run.reports (start-none manner.start sys) s.counted) is;
        },
      );
  first = λ n k.
      ([], none, begins_of-taken manner Tells sys items tally records first middle one u n k);
}
  where
    from : Point
    from = first_point manner sys

    lines : List ℕ
    lines = seen_lines manner.is_seen u.bytes

-- the run came to its end
done_of : (manner : Manner) (Tells : Type 0) (sys : System) (items : List Item) (tally : StepCounts) (IsCount : ℕ → Type 0) (records : Option Records) (first middle last : SinkView)
    → IsAllTaken manner Tells sys items tally records first middle → StaysUnseen manner.is_seen first middle → IsWritten (last_line manner.last tally) middle last → IsCount tally.faults
    → IsDone Tells IsCount records first last manner sys items
done_of manner Tells sys items tally IsCount records first middle last u stays w is =
    let from = first_point manner sys in
    let line = last_line manner.last tally in
    record {
      printed = seen_lines manner.is_seen u.bytes ++ line;
      written = written_more (seen_lines manner.is_seen u.bytes) line first middle last (seen_written manner.is_seen u.bytes first middle u.written stays) w;
      done = λ k.
          let s = taken_so_far manner.course Tells sys from items tally (HoldsBehind sys records) (seen manner.is_seen first) (seen manner.is_seen middle) u k in (
            s.run,
            sym (text_so_far manner sys items tally u.bytes (HoldsBehind sys records) s),
            subst IsCount (counted_faults from tally s.run.reports (start-none manner.start sys) s.counted) is,
            s.so,
          );
    }

-- the output failed in the last line
last_line_cut : (manner : Manner) (Tells : Type 0) (sys : System) (items : List Item) (tally : StepCounts) (IsCount : ℕ → Type 0) (records : Option Records) (first middle last : SinkView) (f : OutFault)
    → IsErrOf {T = Unit {0}} (Err (stop.Out f)) (stop.Out Failed) → IsAllTaken manner Tells sys items tally records first middle → StaysUnseen manner.is_seen first middle
    → IsCutOff (last_line manner.last tally) f middle last → IsCount tally.faults → IsLastLineCut Tells IsCount records first last manner sys items
last_line_cut manner Tells sys items tally IsCount records first middle last NoMemory e u stays c is = absurd (cc)
last_line_cut manner Tells sys items tally IsCount records first middle last Failed e u stays c is =
    let from = first_point manner sys in
    let lines = seen_lines manner.is_seen u.bytes in
    let written = seen_written manner.is_seen u.bytes first middle u.written stays in
    let part = taken_part (last_line manner.last tally) Failed middle last c in
    let cut = line_cut lines (last_line manner.last tally) Failed first middle last written c in
    record {
      printed = lines ++ part.one;
      written = taken_more lines part.one Failed first middle last written part.taken;
      first = λ n k. begins_of-taken manner Tells sys items tally records first middle part.one u n k;
      cut = λ k.
          let s = taken_so_far manner.course Tells sys from items tally (HoldsBehind sys records) (seen manner.is_seen first) (seen manner.is_seen middle) u k in (
            s.run,
            subst (λ (t : StepCounts). IsCutIn (seen_lines manner.is_seen (reports_text from.counts.steps s.run.reports)) (last_line manner.last t) Failed first last) s.counted
                (subst (λ (t : List ℕ). IsCutIn (seen_lines manner.is_seen t) (last_line manner.last tally) Failed first last) s.text cut),
            subst IsCount (counted_faults from tally s.run.reports (start-none manner.start sys) s.counted) is,
            s.so,
          );
    }

-- ---- answers

-- no fault leaves a count
never : (a c count : ℕ) → RoseBy a c count → count ≡ 0 → c ≡ a
never a c count rose none = rose ∙ ap (λ (n : ℕ). with_faults n a) none

-- the items were taken, and the last line was written or cut off
pub ends-taken : (Tells : Type 0) (manner : Manner) (sys : System) (items : List Item) (tally : StepCounts) (a c : ℕ) (records : Option Records) (given : Option (ℕ × List ℕ)) (first middle last : SinkView)
    (answer : Result (Unit {0}) RunFault) → IsAllTaken manner Tells sys items tally records first middle → RoseBy a c tally.faults → (manner.course.goes_on ≡ false → tally.faults ≡ 0)
    → StaysUnseen manner.is_seen first middle → WritesLast (last_line manner.last tally) tally.faults answer middle last → EndsRun Tells manner sys items answer a c records given first last
ends-taken Tells manner sys items tally a c records given first middle last (Ok value) u rose none stays line =
    let text = last_line manner.last tally in
    let lines = seen_lines manner.is_seen u.bytes in
    let same = never a c tally.faults rose line.1 in
    record {
      printed = record {
        printed = lines ++ text;
        text = text_of_taken NoFaults NoneLeft manner Tells sys items tally records first middle text [] u (sym (append-nil text)) refl refl line.1;
        written = written_more lines text first middle last (seen_written manner.is_seen u.bytes first middle u.written stays) line.0;
      };
      cut_off = tt;
      left = done_of manner Tells sys items tally (λ (faults : ℕ). faults ≡ 0) records first middle last u stays line.0 line.1;
      last_taken = λ e. absurd (cc);
      store_fault = λ e. absurd (cc);
      damaged = λ id e. absurd (cc);
      none = same;
      first = λ ends. same;
      some = λ e. absurd (cc);
      rises = (0, same);
    }
ends-taken Tells manner sys items tally a c records given first middle last (Err (stop.Out f)) u rose none stays line =
    let at = taken_part (last_line manner.last tally) f middle last line in
    let lines = seen_lines manner.is_seen u.bytes in
    record {
      printed = tt;
      cut_off = record {
        printed = lines ++ at.one;
        text = text_of_taken (RoseIfOn a c) SomeLeft manner Tells sys items tally records first middle at.one at.other u at.parts tt tt (λ on. rose);
        written = until_all (Unit {0}) (Unit {0}) (lines ++ at.one) (stop.Out f) first last
            (taken_more lines at.one f first middle last (seen_written manner.is_seen u.bytes first middle u.written stays) at.taken);
      };
      left = tt;
      last_taken = λ e. inr (last_line_cut manner Tells sys items tally (RoseBy a c) records first middle last f e u stays line rose);
      store_fault = λ e. absurd (cc);
      damaged = λ id e. absurd (cc);
      none = tt;
      first = λ ends. never a c tally.faults rose (none ends);
      some = λ e. absurd (cc);
      rises = (tally.faults, rose);
    }
ends-taken Tells manner sys items tally a c records given first middle last (Err (stop.Engine fault.StoreFault)) u rose none stays line =
    let text = last_line manner.last tally in
    let lines = seen_lines manner.is_seen u.bytes in
    let written = written_more lines text first middle last (seen_written manner.is_seen u.bytes first middle u.written stays) line.0 in
    record {
      printed = tt;
      cut_off = record {
        printed = lines ++ text;
        text = text_of_taken (RoseIfOn a c) SomeLeft manner Tells sys items tally records first middle text [] u (sym (append-nil text)) tt tt (λ on. rose);
        written = until_all (Unit {0}) (Unit {0}) (lines ++ text) (stop.Engine fault.StoreFault) first last written;
      };
      left = tt;
      last_taken = λ e. absurd (cc);
      store_fault = λ e. record {
        ends = λ off. absurd (omega (arith, none off, line.1));
        goes_on = λ on. done_of manner Tells sys items tally (λ (faults : ℕ). (1 ≤ faults) × RoseBy a c faults) records first middle last u stays line.0 (line.1, rose);
      };
      damaged = λ id e. absurd (cc);
      none = tt;
      first = λ off. absurd (omega (arith, none off, line.1));
      some = λ e. (tally.faults, line.1, rose);
      rises = (tally.faults, rose);
    }
ends-taken Tells manner sys items tally a c records given first middle last (Err (stop.Engine (fault.Damaged id))) u rose none stays line = absurd line
ends-taken Tells manner sys items tally a c records given first middle last (Err (stop.Engine fault.NoMemory)) u rose none stays line = absurd line

-- ---- items that were not all taken

-- what was written of them is what the run prints
text_of_stopped : (manner : Manner) (Tells : Type 0) (sys : System) (items : List Item) (f : RunFault) (a c : ℕ) (first last : SinkView) → (f ≡ stop.Engine fault.StoreFault → manner.course.goes_on ≡ false)
    → (u : AreCutOff manner.course Tells sys (first_point manner sys) items f (RoseBy a c) first last)
    → PrintsOfRun Tells (RoseIfOn a c) SomeLeft manner sys items (seen_lines manner.is_seen u.bytes)
text_of_stopped manner Tells sys items f a c first last ends u = record {
  whole = λ k.
      let p = u.part k in
      let line = last_line manner.last (with_tally from.counts (tally_shown p.run.reports)) in (
        seen_lines is_seen p.left ++ line,
        tt,
        record {
          run = p.run;
          text = ap (λ (t : List ℕ). seen_lines is_seen t ++ line) p.text ∙ ap (λ (t : List ℕ). t ++ line) (seen_append is_seen u.bytes p.left)
              ∙ append_assoc (seen_lines is_seen u.bytes) (seen_lines is_seen p.left) line;
          faults = counted f ends (faults_in p.run.reports) p.faults;
        },
      );
  first = λ n k.
      let g = u.begins n k in
      let lines = reports_text from.counts.steps g.begins.run.reports in (
        seen_lines is_seen g.left,
        tt,
        record {
          run = g.begins.run;
          others = seen_lines is_seen g.begins.others;
          text = sym (seen_append is_seen u.bytes g.left) ∙ ap (seen_lines is_seen) g.begins.text ∙ seen_append is_seen lines g.begins.others;
        },
      );
}
  where
    from : Point
    from = first_point manner sys

    is_seen : Bool
    is_seen = manner.is_seen

    counted : (g : RunFault) → (g ≡ stop.Engine fault.StoreFault → manner.course.goes_on ≡ false) → (n : ℕ) → IsCountAt g (RoseBy a c) n → RoseIfOn a c manner.course.goes_on n
    counted (stop.Out g) o n h on = h
    counted (stop.Engine fault.StoreFault) o n h on = absurd (false≢true (sym (o refl) ∙ on))
    counted (stop.Engine (fault.Damaged id)) o n h on = h
    counted (stop.Engine fault.NoMemory) o n h on = h

-- what was put may be told otherwise
stopped_put : (course : Course) (Tells : Type 0) (sys : System) (from : Point) (items : List Item) (records : Option Records) (P Q : List ℕ → Type 0) → ((printed : List ℕ) → P printed → Q printed)
    → IsStoppedByStore course Tells sys from items records P → IsStoppedByStore course Tells sys from items records Q
stopped_put course Tells sys from items records P Q put s = record {
  printed = s.printed;
  written = put s.printed s.written;
  earlier = s.earlier;
  item = s.item;
  later = s.later;
  parts = s.parts;
  may_call = s.may_call;
  first = s.first;
  stops = s.stops;
}

damage_put : (course : Course) (Tells : Type 0) (sys : System) (from : Point) (items : List Item) (id : ℕ) (given : Option (ℕ × List ℕ)) (IsCount : ℕ → Type 0) (P Q : List ℕ → Type 0)
    → ((printed : List ℕ) → P printed → Q printed) → IsStoppedByDamage course Tells sys from items id given IsCount P → IsStoppedByDamage course Tells sys from items id given IsCount Q
damage_put course Tells sys from items id given IsCount P Q put d = record {
  printed = d.printed;
  written = put d.printed d.written;
  earlier = d.earlier;
  later = d.later;
  parts = d.parts;
  untold = d.untold;
  entry = d.entry;
  named = d.named;
  bytes = d.bytes;
  gave = d.gave;
  spells_none = d.spells_none;
  first = d.first;
  stops = d.stops;
}

-- the output fails in the lines of steps only where they are seen
stopped_seen : (is_seen : Bool) (course : Course) (Tells : Type 0) (sys : System) (from : Point) (items : List Item) (records : Option Records) (IsCount : ℕ → Type 0) (bytes : List ℕ) (first last : SinkView)
    → IsTaken {T = Unit {0}} bytes (Err (stop.Out Failed)) (seen is_seen first) (seen is_seen last) → IsStoppedByOutput course Tells sys from items records IsCount (seen is_seen first) (seen is_seen last)
    → (is_seen ≡ true) × IsStoppedByOutput course Tells sys from items records IsCount first last
stopped_seen true course Tells sys from items records IsCount bytes first last t s = (refl, s)
stopped_seen false course Tells sys from items records IsCount bytes first last t s = absurd (omega (arith, t.faults))

-- of a fault that is this one, what ended the items
ended_by : (course : Course) (Tells : Type 0) (sys : System) (from : Point) (items : List Item) (f g : RunFault) (IsCount : ℕ → Type 0) (records : Option Records) (given : Option (ℕ × List ℕ)) (first last : SinkView)
    → f ≡ g → EndsItems course Tells sys from items f IsCount records given first last → EndsItems course Tells sys from items g IsCount records given first last
ended_by course Tells sys from items f g IsCount records given first last e d = subst (λ (h : RunFault). EndsItems course Tells sys from items h IsCount records given first last) e d

-- the fault of an answer
fault_in : (f g : RunFault) → IsErrOf {T = Unit {0}} (Err f) g → f ≡ g
fault_in f g e = ap fault_of e
  where
    fault_of : Result (Unit {0}) RunFault → RunFault
    fault_of (Ok value) = f
    fault_of (Err h) = h

pub ends-stopped : (Tells : Type 0) (manner : Manner) (sys : System) (items : List Item) (f : RunFault) (a c : ℕ) (records : Option Records) (given : Option (ℕ × List ℕ)) (first last : SinkView)
    → AreCutOff manner.course Tells sys (first_point manner sys) items f (RoseBy a c) (seen manner.is_seen first) (seen manner.is_seen last)
    → EndsItems manner.course Tells sys (first_point manner sys) items f (RoseBy a c) records given (seen manner.is_seen first) (seen manner.is_seen last) → StaysUnseen manner.is_seen first last
    → (manner.course.goes_on ≡ false → c ≡ faults_after_run {T = Unit {0}} (Err f) a) → StaysOrRose a c → EndsRun Tells manner sys items (Err f) a c records given first last
ends-stopped Tells manner sys items f a c records given first last u ends stays once rises = record {
  printed = tt;
  cut_off = record {
    printed = seen_lines manner.is_seen u.bytes;
    text = text_of_stopped manner Tells sys items f a c (seen manner.is_seen first) (seen manner.is_seen last) (λ e. (of_store e).0) u;
    written = seen_until manner.is_seen u.bytes f first last u.taken stays;
  };
  left = tt;
  last_taken = λ e.
      let failed = fault_in f (stop.Out Failed) e in
      inl (stopped_seen manner.is_seen manner.course Tells sys from items records (RoseBy a c) u.bytes first last (subst (λ (g : RunFault). IsTaken {T = Unit {0}} u.bytes (Err g) before after) failed u.taken)
      (ended_by manner.course Tells sys from items f (stop.Out Failed) (RoseBy a c) records given before after failed ends));
  store_fault = λ e.
      let h = of_store (fault_in f (stop.Engine fault.StoreFault) e) in
      record {
        ends = λ off. stopped_put manner.course Tells sys from items records (λ printed. IsWritten printed before after) (IsSeen manner.is_seen first last) (seen_put manner.is_seen first last stays) h.1;
        goes_on = λ on. absurd (false≢true (sym h.0 ∙ on));
      };
  damaged = λ id e.
      damage_put manner.course Tells sys from items id given (RoseBy a c) (λ printed. IsWritten printed before after) (IsSeen manner.is_seen first last) (seen_put manner.is_seen first last stays)
      (ended_by manner.course Tells sys from items f (stop.Engine (fault.Damaged id)) (RoseBy a c) records given before after (fault_in f (stop.Engine (fault.Damaged id)) e) ends);
  none = tt;
  first = once;
  some = λ e. some_after {T = Unit {0}} (Err f) a c (once (of_store (fault_in f (stop.Engine fault.StoreFault) e)).0) e;
  rises = rises;
}
  where
    from : Point
    from = first_point manner sys

    before : SinkView
    before = seen manner.is_seen first

    after : SinkView
    after = seen manner.is_seen last

    of_store : f ≡ stop.Engine fault.StoreFault → EndsItems manner.course Tells sys from items (stop.Engine fault.StoreFault) (RoseBy a c) records given before after
    of_store e = ended_by manner.course Tells sys from items f (stop.Engine fault.StoreFault) (RoseBy a c) records given before after e ends

-- the run is not begun
pub ends-not_begun : (Tells : Type 0) (manner : Manner) (sys : System) (items : List Item) (count : ℕ) (records : Option Records) (given : Option (ℕ × List ℕ)) (view : SinkView) → IsWellFormedSystem sys
    → EndsRun Tells manner sys items (Err (stop.Out NoMemory)) count count records given view view
ends-not_begun Tells manner sys items count records given view w =
    ends-stopped Tells manner sys items (stop.Out NoMemory) count count records given view view
    (not_begun manner.course Tells sys (first_point manner sys) items (stop.Out NoMemory) (RoseBy count count) (seen manner.is_seen view) (seen manner.is_seen view) w (start-reached manner.start sys) refl
    (taken_nothing (seen manner.is_seen view))) tt (stays manner.is_seen) (λ ends. refl) (0, refl)
  where
    stays : (is_seen : Bool) → StaysUnseen is_seen view view
    stays true = tt
    stays false = refl

-- what stays where lines are not seen is seen to stay
pub stays_seen : {O : Type 0} (view : O → SinkView) (is_seen : Bool) (before after : O) → StaysUnseen is_seen before after → StaysUnseen is_seen (view before) (view after)
stays_seen view true before after s = tt
stays_seen view false before after s = ap view s

-- no fault of an engine is told once the last line is written, where none is counted
pub stays_last : {O : Type 0} (is_seen : Bool) (line : List ℕ) (faults : ℕ) (answer : Result (Unit {0}) RunFault) (first last : SinkView) (before after : O) (f : EngineFault)
    → faults ≡ 0 → WritesLast line faults answer first last → IsErrOf answer (stop.Engine f) → StaysUnseen is_seen before after
stays_last is_seen line faults (Ok value) first last before after f none l e = absurd (cc)
stays_last is_seen line faults (Err (stop.Out g)) first last before after f none l e = absurd (cc)
stays_last is_seen line faults (Err (stop.Engine fault.StoreFault)) first last before after f none l e = absurd (omega (arith, none, l.1))
stays_last is_seen line faults (Err (stop.Engine (fault.Damaged id))) first last before after f none l e = absurd l
stays_last is_seen line faults (Err (stop.Engine fault.NoMemory)) first last before after f none l e = absurd l

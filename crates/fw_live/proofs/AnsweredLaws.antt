-- What a line came to, and its answer.
use Rattle.std.proofs.Common.{◌≡◌, inr, ℕ, ◌+◌, ◌-◌, ◌^◌, ◌≤◌, Bool, true, false, List, [], ◌∷◌, ◌++◌, length, Option, Some, None, Result, Ok, Err, refl, sym, ap, subst, ◌∙◌, arith}
use Rattle.std.proofs.lemmas.Bool.{false≢true}
use Rattle.std.proofs.lemmas.List.{append_assoc}
use Rattle.std.specs.Prelude.{◌≢◌, IfOk, IsErrOf, IsSome}
use Rattle.fw_flow.specs.Dataflow.{Dataflow}
use Rattle.fw_keep.specs.Stored.{Records}
use Rattle.fw_model.specs.Steps.{Outcome, did, idle}
use Rattle.fw_running.specs.declared.fault.EngineFault.{EngineFault}
use Rattle.fw_running.specs.declared.fault.EngineFault.TheVariants as fault
use Rattle.fw_run.specs.Printed.{outcomes_text, idle_count}
use Rattle.fw_session.specs.Story.{Story}
use Rattle.fw_live.specs.declared.rule.LineRule.{LineRule}
use Rattle.fw_live.specs.declared.counts.LineCounts.{LineCounts}
use Rattle.fw_live.specs.declared.counts.TurnCounts.{TurnCounts}
use Rattle.fw_live.specs.Answered.{HasAnswered, HasTurned, look_text}
use Rattle.fw_live.specs.Answers.{
  refused,
  turned,
  change_text,
  ending_text,
  refused_line,
  saturated,
  done_count,
  counts_ended,
  counts_stepped,
  counts_turned,
  with_line,
  after_change,
  is_look,
  is_quiet,
  rest_item,
  rests_behind,
  IsAnswerTo,
}
use Rattle.fw_live.specs.Asked.{Asked, Change, none, feeds, closes, shows, allowed, change_fault, unless_fault}
use Rattle.fw_live.specs.Relies.{GoesOnPrinting, EndsSo, turn_counts, step_counted, IsAskedReliedOn, IsMaybeReliedOn}
use Rattle.fw_live.specs.Taken.{Ending, all, failed, spoiled, EndsBoth, EndsMaybe}
use Rattle.fw_schedule.specs.declared.item.Item.{Item}
use Rattle.fw_living.specs.Life.{came_in_story}

-- ---- counts

abbrev pub no-turn : TurnCounts
no-turn = record { done = 0; idle = 0 }

count-turn : (xs : List Outcome) (a b : ℕ) (counts : TurnCounts) → counts.done ≡ saturated a → counts.idle ≡ saturated b
    → ((turn_counts xs counts).done ≡ saturated (a + done_count xs)) × ((turn_counts xs counts).idle ≡ saturated (b + idle_count xs))
count-turn [] a b counts d i = (omega (arith, d), omega (arith, i))
count-turn (did e ∷ xs) a b counts d i =
    let more = count-turn xs (a + 1) b (step_counted (did e) counts) (omega (arith, d)) i in
    (omega (arith, more.0), omega (arith, more.1))
count-turn (idle ∷ xs) a b counts d i =
    let more = count-turn xs a (b + 1) (step_counted idle counts) d (omega (arith, i)) in
    (omega (arith, more.0), omega (arith, more.1))

length-counts : (xs : List Outcome) → length xs ≡ done_count xs + idle_count xs
length-counts [] = refl
length-counts (did e ∷ xs) = omega (arith, length-counts xs)
length-counts (idle ∷ xs) = omega (arith, length-counts xs)

-- the steps of a turn are counted
abbrev with-turn : TurnCounts → LineCounts → LineCounts
with-turn turn counts = record counts { steps = saturated (counts.steps + saturated (turn.done + turn.idle)); idle = saturated (counts.idle + turn.idle) }

stepped-counts : (xs : List Outcome) (turn : TurnCounts) (counts : LineCounts) → turn ≡ turn_counts xs no-turn
    → (turn.done ≡ saturated (done_count xs)) × (with-turn turn counts ≡ counts_stepped xs counts)
stepped-counts xs turn counts e =
    let c = count-turn xs 0 0 no-turn (omega arith) (omega arith) in
    let d : turn.done ≡ saturated (done_count xs) = omega (arith, ap (λ (t : TurnCounts). t.done) e, c.0) in
    let i : turn.idle ≡ saturated (idle_count xs) = omega (arith, ap (λ (t : TurnCounts). t.idle) e, c.1) in
    let l = length-counts xs in
    let steps : saturated (counts.steps + saturated (turn.done + turn.idle)) ≡ saturated (counts.steps + length xs) = omega (arith, d, i, l) in
    let idles : saturated (counts.idle + turn.idle) ≡ saturated (counts.idle + idle_count xs) = omega (arith, i) in (
      d,
      ap (λ n. record counts { steps = n; idle = saturated (counts.idle + turn.idle) }) steps
          ∙ ap (λ n. record counts { steps = saturated (counts.steps + length xs); idle = n }) idles,
    )

-- ---- a turn

joined : (old told lines last between after new : List ℕ) → between ≡ old ++ told → after ≡ between ++ lines → new ≡ after ++ last
    → new ≡ old ++ (told ++ (lines ++ last))
joined old told lines last between after new t l e =
    e ∙ ap (λ bytes. bytes ++ last) (l ∙ ap (λ bytes. bytes ++ lines) t) ∙ append_assoc (old ++ told) lines last ∙ append_assoc old told (lines ++ last)

-- steps that ended so were written and counted
turned-so : (rests : Bool) (flow : Dataflow) (story : Story) (kept : List ℕ) (asked : Asked) (ending : Ending) (counts between after : LineCounts)
    (start turn : TurnCounts) (old told printed new : List ℕ) (At : Story → Type 0) (After : Story → List ℕ → Type 0) (records : Option Records)
    → ((s : Story) (shown : List ℕ) → printed ≡ told ++ shown → At s → After s shown)
    → (IsSome records → (id : ℕ) → ending ≢ spoiled id) → start ≡ no-turn
    → told ≡ old ++ change_text flow story asked.change
    → GoesOnPrinting flow (EndsBoth flow (after_change asked.change story) asked.item (rest_item (rests_behind rests asked.change)) ending)
    (record { bytes = told; counts = start }) (record { bytes = printed; counts = turn }) At
    → between ≡ with-turn turn counts → new ≡ printed ++ ending_text ending turn.done → after ≡ counts_ended ending between
    → is_look rests asked ≡ false → HasTurned rests flow story kept asked counts after old new After records
turned-so rests flow story kept asked ending counts between after start turn old told printed new At After records keeps whole s t goes b n a l =
    let c = stepped-counts goes.outcomes turn counts (goes.counted ∙ ap (turn_counts goes.outcomes) s) in
    record {
      turn = record { told = change_text flow story asked.change; outcomes = goes.outcomes; ending = ending; looks = false };
      next = goes.next;
      turns = record { told = refl; looks = sym l; ends = goes.goes_on };
      written = joined old (change_text flow story asked.change) (outcomes_text flow goes.outcomes)
          (ending_text ending (saturated (done_count goes.outcomes))) told printed new t goes.printed (n ∙ ap (λ k. printed ++ ending_text ending k) c.0);
      counted = a ∙ ap (counts_ended ending) (b ∙ c.1);
      at = keeps goes.next (outcomes_text flow goes.outcomes) goes.printed goes.at;
      unharmed = whole;
    }

all≢spoiled : (id : ℕ) → all ≡ spoiled id → ⊥
all≢spoiled id e = cc

failed≢spoiled : (id : ℕ) → failed ≡ spoiled id → ⊥
failed≢spoiled id e = cc

pub has-turned : (rests : Bool) (flow : Dataflow) (story : Story) (kept : List ℕ) (asked : Asked) (taken : Result (Unit {0}) EngineFault)
    (counts between after : LineCounts) (start turn : TurnCounts) (old told printed new : List ℕ) (At : Story → Type 0)
    (After : Story → List ℕ → Type 0) (records : Option Records) → ((s : Story) (shown : List ℕ) → printed ≡ told ++ shown → At s → After s shown)
    → (IsSome records → (id : ℕ) → IsErrOf taken (fault.Damaged id) → ⊥) → start ≡ no-turn → told ≡ old ++ change_text flow story asked.change
    → EndsSo (λ ending. GoesOnPrinting flow (EndsBoth flow (after_change asked.change story) asked.item (rest_item (rests_behind rests asked.change)) ending)
    (record { bytes = told; counts = start }) (record { bytes = printed; counts = turn }) At) taken
    → between ≡ with-turn turn counts → EndsSo (λ ending. new ≡ printed ++ ending_text ending turn.done) taken
    → EndsSo (λ ending. after ≡ counts_ended ending between) taken → (IsErrOf taken fault.NoMemory → false ≡ true)
    → is_look rests asked ≡ false → HasTurned rests flow story kept asked counts after old new After records
has-turned rests flow story kept asked (Ok x) counts between after start turn old told printed new At After records keeps whole s t goes b n a m l =
    turned-so rests flow story kept asked all counts between after start turn old told printed new At After records keeps (λ told id e. all≢spoiled id e) s t goes b n a l
has-turned rests flow story kept asked (Err fault.StoreFault) counts between after start turn old told printed new At After records keeps whole s t goes b n a m l =
    turned-so rests flow story kept asked failed counts between after start turn old told printed new At After records keeps (λ told id e. failed≢spoiled id e) s t goes b n a l
has-turned rests flow story kept asked (Err (fault.Damaged id)) counts between after start turn old told printed new At After records keeps whole s t goes b n a m l =
    turned-so rests flow story kept asked (spoiled id) counts between after start turn old told printed new At After records keeps
    (λ told other e. whole told id refl) s t goes b n a l
has-turned rests flow story kept asked (Err fault.NoMemory) counts between after start turn old told printed new At After records keeps whole s t goes b n a m l =
    absurd (false≢true (m refl))

-- ---- a look

quiet-none : (rests : Bool) (change : Change) → is_quiet rests change ≡ true
    → (rests_behind rests change ≡ false) × ((story : Story) → after_change change story ≡ story)
quiet-none true none e = absurd (false≢true e)
quiet-none false none e = (refl, λ story. refl)
quiet-none rests (feeds s recs) e = absurd (false≢true e)
quiet-none rests (closes s) e = absurd (false≢true e)
quiet-none rests shows e = (refl, λ story. refl)

-- a look asks for no step
look-none : (rests : Bool) (change : Change) (item : Option Item) → is_look rests (record { change = change; item = item }) ≡ true
    → (item ≡ None) × (is_quiet rests change ≡ true)
look-none rests change None e = (refl, e)
look-none rests change (Some item) e = absurd (false≢true e)

-- what a look tells was written
pub has-looked : (rests : Bool) (flow : Dataflow) (story : Story) (kept : List ℕ) (asked : Asked) (counts after : LineCounts) (turn : TurnCounts)
    (old new : List ℕ) (After : Story → List ℕ → Type 0) (records : Option Records) → is_look rests asked ≡ true → turn ≡ no-turn
    → after ≡ with-turn turn counts → After story kept → new ≡ old ++ (look_text flow story asked.change ++ ending_text all 0)
    → HasTurned rests flow story kept asked counts after old new After records
has-looked rests flow story kept asked counts after turn old new After records l t c a w =
    let none = look-none rests asked.change asked.item l in
    let quiet = quiet-none rests asked.change none.1 in
    record {
      turn = record { told = change_text flow story asked.change; outcomes = []; ending = all; looks = true };
      next = story;
      turns = record {
        told = refl;
        looks = sym l;
        ends = inr (record {
          before = [];
          between = story;
          takes = subst (λ item. EndsMaybe flow (after_change asked.change story) item all [] story) (sym none.0) (refl, refl, sym (quiet.1 story));
          behind = [];
          ends = subst (λ b. EndsMaybe flow story (rest_item b) all [] story) (sym quiet.0) (refl, refl, refl);
          are = refl;
        });
      };
      written = w ∙ ap (λ text. old ++ (text ++ ending_text all 0)) (look-told flow story rests asked.change none.1)
          ∙ ap (λ n. old ++ (change_text flow story asked.change ++ ending_text all n)) (zero-saturated);
      counted = c ∙ (stepped-counts [] turn counts t).1;
      at = a;
      unharmed = λ told id e. all≢spoiled id e;
    }
  where
    look-told : (flow : Dataflow) (story : Story) (rests : Bool) (change : Change) → is_quiet rests change ≡ true
        → look_text flow story change ≡ change_text flow story change
    look-told flow story rests none e = refl
    look-told flow story rests (feeds s recs) e = absurd (false≢true e)
    look-told flow story rests (closes s) e = absurd (false≢true e)
    look-told flow story rests shows e = refl

    zero-saturated : 0 ≡ saturated (done_count [])
    zero-saturated = omega arith

-- ---- an answer

pub answer-refused : (rests : Bool) (flow : Dataflow) (story : Story) (kept : List ℕ) (h : Result Asked LineRule) (rule : LineRule) (before after : LineCounts)
    (old new : List ℕ) (At : Story → List ℕ → Type 0) (records : Option Records) → At story kept → Err rule ≡ allowed story.now.opened (came_in_story flow story) h
    → after ≡ with_line before → new ≡ old ++ refused_line rule after.lines → HasAnswered rests flow story kept h before after old new At records
answer-refused rests flow story kept h rule before after old new At records at e counted written = record {
  answer = refused rule;
  next = story;
  answers = subst (λ a. IsAnswerTo rests flow story a (refused rule) story) e (refl, refl);
  written = written ∙ ap (λ (c : LineCounts). old ++ refused_line rule c.lines) counted;
  counted = counted;
  at = at;
  unharmed = λ told. tt;
}

pub answer-turned : (rests : Bool) (flow : Dataflow) (story : Story) (kept : List ℕ) (h : Result Asked LineRule) (asked : Asked) (before between after : LineCounts)
    (old new : List ℕ) (After : Story → List ℕ → Type 0) (records : Option Records) → Ok asked ≡ allowed story.now.opened (came_in_story flow story) h → between ≡ with_line before
    → HasTurned rests flow story kept asked between after old new After records
    → HasAnswered rests flow story kept h before after old new After records
answer-turned rests flow story kept h asked before between after old new After records e counted has = record {
  answer = turned has.turn;
  next = has.next;
  answers = subst (λ a. IsAnswerTo rests flow story a (turned has.turn) has.next) e (has.turn, refl, has.turns);
  written = has.written;
  counted = has.counted ∙ ap (counts_turned has.turn) counted;
  at = has.at;
  unharmed = has.unharmed;
}

-- what is allowed is what was heard
same-heard : (fault : Option LineRule) (a asked : Asked) → Ok asked ≡ unless_fault fault a → asked ≡ a
same-heard None a asked e = cc
same-heard (Some rule) a asked e = absurd cc

pub allowed-relied : (opened : ℕ → Bool) (came : ℕ → ℕ) (h : Result Asked LineRule) (asked : Asked) (records : Option Records)
    → Ok asked ≡ allowed opened came h → IsAskedReliedOn records h → IsMaybeReliedOn records asked.item
allowed-relied opened came (Ok a) asked records e r =
    subst (λ (x : Asked). IsMaybeReliedOn records x.item) (sym (same-heard (change_fault opened came a.change) a asked e)) r
allowed-relied opened came (Err rule) asked records e r = absurd cc

-- ---- where memory was not refused

pub if-if : {E : Type 0} (r : Result (Unit {0}) E) (P Q : Type 0) → IfOk r (λ _. P) → (P → Q) → IfOk r (λ _. Q)
if-if (Ok x) P Q p f = f p
if-if (Err e) P Q p f = tt

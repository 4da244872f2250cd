-- The generated schedules are accepted.
use Rattle.std.proofs.Common.{◌≡◌, ℕ, ◌+◌, ◌*◌, ◌<◌, ◌≤◌, ◌^◌, ◌==◌, nat_le, Bool, true, false, ◌&&◌, cond, List, [], ◌∷◌, ◌++◌, length, refl, sym, ◌∙◌, ap, subst, arith, lit<, lit≤, None, Result, Ok, Err, codes}
use Rattle.std.specs.Prelude.{slice_index_or}
use Rattle.std.proofs.lemmas.Bool.{and_from}
use Rattle.std.proofs.lemmas.Bool.Decides.{nat_tests}
use Rattle.std.proofs.lemmas.Fmt.{length-decimal-le}
use Rattle.std.proofs.lemmas.List.{length-append, append-nil}
use Rattle.std.proofs.lemmas.List.Elements.{filter_map-append}
use Rattle.std.specs.Fmt.{decimal}
use Rattle.std.specs.List.{AllByRecursion, cons_option, flat_map}
use Rattle.std.specs.Result.{result_err, result_ok}
use Rattle.std.specs.Str.Parse.{digits_value}
use Rattle.fw_lemmas.proofs.Each.{each-weaker, each-append, all-of_each}
use Rattle.fw_lines.specs.declared.refusal.Code.{Code}
use Rattle.fw_lines.specs.declared.refusal.Code.TheVariants.{S1, S4}
use Rattle.fw_lines.specs.Faults.{BreakNoRule}
use Rattle.fw_lines.specs.Lines.{Said}
use Rattle.fw_lines.proofs.FaultLaws.{Told, none_told, none_judged, IsSoundSoFar, none_left, sound_more}
use Rattle.fw_flow.specs.declared.step.Step.TheVariants.{Checkpoint, Collect, Fail, Recover}
use Rattle.fw_schedule.specs.declared.item.Item.{Item}
use Rattle.fw_schedule.specs.declared.item.Item.TheVariants.{Auto, One}
use Rattle.fw_schedule.specs.Grammar.{schedule_words_fault, item_of, items_of, schedule_fault, within_limit}
use Rattle.fw_schedule.specs.Grammar.{schedule_size_limit as schedule_limit}
use Rattle.fw_schedule.specs.Schedule.{step_count, step_limit, steps_in}
use Rattle.fw_generate.specs.Draws.{Drawing, Words, draw, drawn, drawn_times}
use Rattle.fw_schedule.specs.Texts.{IsScheduleOf}
use Rattle.fw_generate.specs.Laws.{accepted_size_limit}
use Rattle.fw_lines.specs.Written.{line_text, text_of, WordLine, is_plain, is_plain_line, numbered}
use Rattle.fw_generate.specs.Texts.{auto_line, checkpoint_lines, collect_line, failure_lines, last_lines, lines_for, generated_node_names, round_lines, schedule_lines}
use Rattle.fw_generate.proofs.Below.{each_below-at}
use Rattle.fw_generate.proofs.DrawnLaws.{drawn-each, joined_length, length-drawn}
use Rattle.fw_generate.proofs.FlowLaws.{the_flow}
use Rattle.fw_generate.proofs.InputLaws.{draw-below, plain-decimal}
use Rattle.fw_lines.proofs.WrittenLaws.{said_lines-text_of}
use Rattle.fw_lines.proofs.DecimalLaws.{decimal_numeral, decimal_value}
use Rattle.fw_generate.proofs.Writing.{line_of_two, text_of-schedule}

-- ---- lines that ask for something

-- a line of the schedule: it can be a line, and asks for an item
record IsAskingLine (line : WordLine) : Type 0 where
  plain : is_plain_line line ≡ true
  item : Item
  asks : item_of the_flow line ≡ Ok item

-- how many steps are asked for at most
abbrev steps_asked : Result Item Code → ℕ
steps_asked (Ok item) = steps_in item
steps_asked (Err code) = 0

-- how many steps lines ask for at most
abbrev steps_of : List WordLine → ℕ
steps_of [] = 0
steps_of (line ∷ lines) = steps_asked (item_of the_flow line) + steps_of lines

-- lines of a schedule, with at most so many steps and bytes
record AreAskingLines (steps bytes : ℕ) (lines : List WordLine) : Type 0 where
  each : AllByRecursion IsAskingLine lines
  few : steps_of lines ≤ steps
  short : length (text_of lines) ≤ bytes

-- what the lines of a drawing are
abbrev Draws : (List WordLine → Type 0) → Drawing (List WordLine) → Type 0
Draws P drawing = (words : Words) → P (drawing words).0

-- ---- a round

auto_item : (n : ℕ) → n < 2 ^ 64 → item_of the_flow (codes "auto" ∷ decimal n ∷ []) ≡ Ok (Auto n)
auto_item n h = ap (λ b. cond b (Ok (Auto (digits_value 10 (decimal n)))) (Err S1)) (decimal_numeral n h) ∙ ap (λ v. Ok (Auto v)) (decimal_value n h)

auto_line-is : (n : ℕ) → n < 40 → AreAskingLines 39 8 ((codes "auto" ∷ decimal n ∷ []) ∷ [])
auto_line-is n h =
    let small : n < 2 ^ 64 = omega arith in
    let two_digits : n < 10 ^ 2 = omega arith in
    record {
      each = (record { plain = and_from (is_plain (decimal n) && true) true (and_from (is_plain (decimal n)) true (plain-decimal n small) refl) refl; item = Auto n; asks = auto_item n small }, tt);
      few = omega (arith, ap steps_asked (auto_item n small));
      short = subst (λ t. length (t ++ []) ≤ 8) (sym (line_of_two (codes "auto") (decimal n)))
          (subst (λ t. length t ≤ 8) (sym (append-nil (codes "auto " ++ (decimal n ++ codes "\n"))))
          (omega (arith, length-append (decimal n) (codes "\n"), length-decimal-le 2 n (lit< tt) two_digits small)));
    }

-- what the failure of the node at a place asks for
abbrev FailsAt : ℕ → Type 0
FailsAt p =
    (is_plain_line (codes "fail" ∷ slice_index_or generated_node_names p [] ∷ []) ≡ true)
    × (item_of the_flow (codes "fail" ∷ slice_index_or generated_node_names p [] ∷ []) ≡ Ok (One (Fail (p ∷ []))))
    × (length (text_of ((codes "fail" ∷ slice_index_or generated_node_names p [] ∷ []) ∷ (codes "recover" ∷ []) ∷ [])) ≤ 17)

fails_at : (p : ℕ) → p < 12 → FailsAt p
fails_at =
    each_below-at FailsAt 12 (
      (
        (
          (
            (
              (
                ((((((tt, (refl, refl, lit≤ tt)), (refl, refl, lit≤ tt)), (refl, refl, lit≤ tt)), (refl, refl, lit≤ tt)), (refl, refl, lit≤ tt)), (refl, refl, lit≤ tt)),
                (refl, refl, lit≤ tt),
              ),
              (refl, refl, lit≤ tt),
            ),
            (refl, refl, lit≤ tt),
          ),
          (refl, refl, lit≤ tt),
        ),
        (refl, refl, lit≤ tt),
      ),
      (refl, refl, lit≤ tt),
    )

failure_drawn : Draws (AreAskingLines 4 60) failure_lines
unfolding failure_lines
failure_drawn words =
    let p = (draw 12 words).0 in
    let fails = fails_at p (draw-below 12 words (lit< tt)) in
    record {
      each = (record { plain = fails.0; item = One (Fail (p ∷ [])); asks = fails.1 }, (record { plain = refl; item = One Recover; asks = refl }, tt));
      few = omega (arith, ap steps_asked fails.1);
      short = omega (arith, fails.2);
    }

checkpoints_ask : AreAskingLines 4 60 checkpoint_lines
checkpoints_ask = record {
  each = (
    record { plain = refl; item = One (Checkpoint 6); asks = refl },
    (
      record { plain = refl; item = One (Checkpoint 10); asks = refl },
      (record { plain = refl; item = One (Checkpoint 2); asks = refl }, (record { plain = refl; item = One (Checkpoint 8); asks = refl }, tt)),
    ),
  );
  few = lit≤ tt;
  short = lit≤ tt;
}

collection_asks : AreAskingLines 4 60 (collect_line ∷ [])
collection_asks = record { each = (record { plain = refl; item = One Collect; asks = refl }, tt); few = lit≤ tt; short = lit≤ tt }

either_drawn : (P : List WordLine → Type 0) (b : Bool) (x y : Drawing (List WordLine)) → Draws P x → Draws P y → Draws P (cond b x y)
either_drawn P true x y first second = first
either_drawn P false x y first second = second

number_drawn : (number : ℕ) → Draws (AreAskingLines 4 60) (lines_for number)
unfolding lines_for
number_drawn number =
    let one_of = either_drawn (AreAskingLines 4 60) in
    one_of (number == 0) failure_lines _ failure_drawn
    (one_of (number == 1) (drawn checkpoint_lines) _ (λ words. checkpoints_ask)
    (one_of (number == 2) (drawn (collect_line ∷ [])) (drawn []) (λ words. collection_asks)
    (λ words. record { each = tt; few = lit≤ tt; short = lit≤ tt })))

-- lines behind a line
behind : (s t b c : ℕ) (line : WordLine) (lines : List WordLine) → AreAskingLines s b (line ∷ []) → AreAskingLines t c lines → AreAskingLines (s + t) (b + c) (line ∷ lines)
behind s t b c line lines first others = record {
  each = (first.each.0, others.each);
  few = omega (arith, first.few, others.few);
  short =
      let alone = subst (λ (text : List ℕ). length text ≤ b) (append-nil (line_text line)) first.short in
      omega (arith, alone, others.short, length-append (line_text line) (text_of lines));
}

round_drawn : Draws (AreAskingLines 43 68) round_lines
unfolding round_lines auto_line
round_drawn words =
    let more = draw 32 words in
    let number = draw 16 more.1 in
    behind 39 4 8 60 (codes "auto" ∷ decimal (8 + more.0) ∷ []) (lines_for number.0 number.1).0
    (auto_line-is (8 + more.0) (omega (arith, draw-below 32 words (lit< tt)))) (number_drawn number.0 number.1)

-- ---- the text

last_asks : AreAskingLines 1000000001 24 last_lines
last_asks = record {
  each = (record { plain = refl; item = Auto 1000000000; asks = refl }, (record { plain = refl; item = One Collect; asks = refl }, tt));
  few = lit≤ tt;
  short = lit≤ tt;
}

steps_of-append : (xs ys : List WordLine) → steps_of (xs ++ ys) ≡ steps_of xs + steps_of ys
steps_of-append [] ys = omega arith
steps_of-append (x ∷ xs) ys = omega (arith, steps_of-append xs ys)

each_round : (s b : ℕ) (rounds : List (List WordLine)) → AllByRecursion (AreAskingLines s b) rounds → AllByRecursion IsAskingLine (flat_map (λ lines. lines) rounds)
each_round s b [] each = tt
each_round s b (lines ∷ rounds) each = each-append IsAskingLine lines (flat_map (λ lines. lines) rounds) each.0.each (each_round s b rounds each.1)

rounds_few : (s b : ℕ) (rounds : List (List WordLine)) → AllByRecursion (AreAskingLines s b) rounds → steps_of (flat_map (λ lines. lines) rounds) ≤ s * length rounds
rounds_few s b [] each = omega arith
rounds_few s b (lines ∷ rounds) each =
    omega (arith, steps_of-append lines (flat_map (λ lines. lines) rounds), each.0.few, rounds_few s b rounds each.1)

step_count-append : (xs ys : List Item) → step_count (xs ++ ys) ≡ step_count xs + step_count ys
step_count-append [] ys = omega arith
step_count-append (x ∷ xs) ys = omega (arith, step_count-append xs ys)

-- a line that asks for something breaks no rule, if its steps fit behind those before
asking_sound : (count : ℕ) (line : WordLine) (a : IsAskingLine line) → count + steps_in a.item ≤ step_limit → schedule_words_fault the_flow count line ≡ None
asking_sound count [] a h = refl
asking_sound count (word ∷ words) a h =
    let room : nat_le (count + steps_in a.item) step_limit ≡ true = grind (arith, nat_tests, h) in
    ap (λ r. result_err (within_limit count r)) a.asks ∙ ap (λ b. result_err (cond b (Ok a.item) (Err S4))) room

-- the steps with those of a line more
steps_more : (done : List Said) (number : ℕ) (line : WordLine) (a : IsAskingLine line)
    → step_count (items_of the_flow (done ++ record { number = number; words = line } ∷ [])) ≡ step_count (items_of the_flow done) + steps_in a.item
steps_more done number line a =
    let said : Said = record { number = number; words = line } in
    ap step_count (filter_map-append (λ (l : Said). result_ok (item_of the_flow l.words)) done (said ∷ []))
    ∙ step_count-append (items_of the_flow done) (items_of the_flow (said ∷ []))
    ∙ ap (λ r. step_count (items_of the_flow done) + step_count (cons_option (result_ok r) [])) a.asks
    ∙ (omega arith)

-- lines of the schedule break no rule, one after another
sound_on : (lines : List WordLine) (number : ℕ) (all done : List Said) → AllByRecursion IsAskingLine lines → step_count (items_of the_flow done) + steps_of lines ≤ step_limit
    → IsSoundSoFar (Told (schedule_fault the_flow)) all (numbered number lines) done → BreakNoRule (Told (schedule_fault the_flow)) all
sound_on [] number all done each few so_far =
    let last : Said = record { number = number; words = [] } in
    (none_left (Told (schedule_fault the_flow)) all (done ++ last ∷ []) (sound_more (Told (schedule_fault the_flow)) all done last [] so_far (none_told (schedule_fault the_flow done last) refl))).0
sound_on (line ∷ lines) number all done each few so_far =
    let said : Said = record { number = number; words = line } in
    let steps : steps_asked (item_of the_flow line) ≡ steps_in each.0.item = ap steps_asked each.0.asks in
    sound_on lines (number + 1) all (done ++ said ∷ []) each.1 (omega (arith, steps, few, steps_more done number line each.0))
    (sound_more (Told (schedule_fault the_flow)) all done said (numbered (number + 1) lines) so_far
    (none_told (schedule_fault the_flow done said) (asking_sound (step_count (items_of the_flow done)) line each.0 (omega (arith, steps, few)))))

-- lines that ask for few steps in few bytes are a schedule
asked_accepted : (lines : List WordLine) → AllByRecursion IsAskingLine lines → steps_of lines ≤ step_limit → length (text_of lines) ≤ schedule_limit
    → IsScheduleOf the_flow (text_of lines)
asked_accepted lines each few short =
    let plain = all-of_each is_plain_line lines (each-weaker IsAskingLine (λ line. is_plain_line line ≡ true) lines (λ line a. a.plain) each) in
    record {
      sound = record {
        size = short;
        lines = subst (BreakNoRule (Told (schedule_fault the_flow))) (sym (said_lines-text_of lines plain))
            (sound_on lines 1 (numbered 1 lines) [] each (omega (arith, few)) (none_judged (Told (schedule_fault the_flow)) (numbered 1 lines)));
      };
      value = refl;
    }

-- the schedule of each size is accepted
pub schedule_accepted : (size : ℕ) (words : Words) → size ≤ accepted_size_limit → IsScheduleOf the_flow (text_of (schedule_lines size words).0)
schedule_accepted size words h =
    asked_accepted (joined ++ last_lines) (each-append IsAskingLine joined last_lines (each_round 43 68 rounds each) last_asks.each)
    (omega (arith, steps_of-append joined last_lines, rounds_few 43 68 rounds each, last_asks.few, count))
    (subst (λ (text : List ℕ). length text ≤ schedule_limit) (sym (text_of-schedule rounds))
    (omega (
      arith,
      length-append (flat_map text_of rounds) (text_of last_lines),
      last_asks.short,
      count,
      joined_length text_of 68 rounds (each-weaker (AreAskingLines 43 68) (λ lines. length (text_of lines) ≤ 68) rounds (λ lines a. a.short) each),
    )))
  where
    rounds : List (List WordLine)
    rounds = (drawn_times size round_lines words).0

    joined : List WordLine
    joined = flat_map (λ lines. lines) rounds

    each : AllByRecursion (AreAskingLines 43 68) rounds
    each = drawn-each (AreAskingLines 43 68) round_lines round_drawn size words

    count : length rounds ≡ size
    count = length-drawn round_lines size words

-- `clap` takes the words of a command, and its matches name the command.
use Rattle.std.proofs.Common.{◌≡◌, ◌⊎◌, inl, inr, ℕ, ◌==◌, ◌^◌, nat_lt, ◌&&◌, ◌||◌, not, Bool, true, false, cond, List, [], ◌∷◌, Option, Some, None, Result, Ok, Err, IfOk, IsErr, refl, sym, ◌∙◌, ap, subst, codes}
use Rattle.std.specs.Char.{is_ascii_digit}
use Rattle.std.specs.Str.Parse.{digits_value}
use Rattle.std.specs.Prelude.{option_and_then, option_map, is_some}
use Rattle.std.specs.Option.{option_or, option_map_or}
use Rattle.std.specs.List.{fold, list_all}
use Rattle.std.specs.Str.{bytes_eq}
use Rattle.std.proofs.lemmas.Bool.{cases_Bool, eqb-true, false≢true, not-true, and_parts}
use Rattle.std.proofs.lemmas.Option.{same_Some}
use Rattle.std.proofs.lemmas.Slice.Eq.{bytes_eq-Decides}
use Rattle.clap.proofs.WalkLemmas.{first_value-rows}
use Rattle.clap.specs.Built.{AddsSubcommand}
use Rattle.clap.specs.Lexer.{long_of, long_of_rest, short_of, short_of_rest, strip_byte}
use Rattle.clap.specs.Matches.{first_value}
use Rattle.clap.specs.Simple.{App, Shape, app_of, shape_of, with_subcommand, built, built_leaf, entered, inherited, is_simple, marked_built, names_of, subcommand_of, with_leaf_noted}
use Rattle.clap.specs.Takes.{bundle_passes, default_passes, entered_passes, flag_word_passes, is_valid, level_passes, other_passes, settle_passes, step_passes, takes, turn_passes, walk_passes}
use Rattle.clap.specs.Walk.{Held, Row, Rule, Step, Walk, after_step, arg_by_index, finished, first_of, idle, long_or_other, nothing_held, rows_of, short_or_plain, stop_after, to_positional, trailing, value, walk, walked, word_met}
use Rattle.clap.specs.declared.builder.command.Command.{Command as Builder}
use Rattle.clap.specs.declared.builder.command.Command.TheViews.{out-Command as fields_of}
use Rattle.clap.specs.declared.parser.matches.Found.{Found}
use Rattle.fw_lines.specs.declared.numeral.Number.{Number}
use Rattle.fw_lines.specs.declared.numeral.Number.TheVariants.{Value, TooLarge, NotANumber}
use Rattle.fw_lines.specs.Spelling.{is_numeral, number_of}
use Rattle.fw_command.specs.Forms.{form, forms, three_names, matched_command}
use Rattle.fw_command.specs.Command.{Command, RunVerb, TextNames, SystemNames, Manner, by_lines, by_reasons, through_faults, run_verbs, manner_by, run, denote, check}
use Rattle.fw_command.specs.Words.{is_operand, check_of, denote_of, gen_of, run_of, generate_by, command_of}

-- ---- a word that is an operand

no_dash : (byte : ℕ) (bytes : List ℕ) → is_operand (byte ∷ bytes) ≡ true → (byte == 45) ≡ false
no_dash byte bytes o = not-true (byte == 45) o

no_long : (word : List ℕ) → is_operand word ≡ true → long_of word ≡ None
no_long [] o = absurd (cc)
no_long (byte ∷ bytes) o = ap (λ b. option_and_then long_of_rest (option_and_then (strip_byte 45) (cond b (Some bytes) None))) (no_dash byte bytes o)

no_short : (word : List ℕ) → is_operand word ≡ true → short_of word ≡ None
no_short [] o = absurd (cc)
no_short (byte ∷ bytes) o = ap (λ b. option_and_then short_of_rest (cond b (Some bytes) None)) (no_dash byte bytes o)

no_dashes : (word : List ℕ) → is_operand word ≡ true → bytes_eq word (45 ∷ 45 ∷ []) ≡ false
no_dashes [] o = refl
no_dashes (byte ∷ bytes) o = ap (λ b. b && bytes_eq bytes (45 ∷ [])) (no_dash byte bytes o)

-- it is a value, where there are no subcommands
value_met : (c : List Rule) (word : List ℕ) (position : ℕ) (h : Held) → is_operand word ≡ true → word_met c [] false idle position word h ≡ (h, value)
value_met c word position h o =
    ap (λ b. cond b (h, trailing position) (long_or_other c idle word (long_of word) h)) (no_dashes word o)
    ∙ ap (λ l. long_or_other c idle word l h) (no_long word o)
    ∙ ap (λ s. short_or_plain c idle word s h) (no_short word o)

-- where a walk stands before a value
abbrev walk_at : Held → ℕ → Walk
walk_at h position = record { held = h; waiting = idle; position = position; is_trailing = false; stopped = None }

value_walked : (c : List Rule) (word : List ℕ) (position : ℕ) (h : Held) → is_operand word ≡ true
    → walked c [] (walk_at h position) word ≡ to_positional c (arg_by_index c position) word (walk_at h position) h
unfolding walked
value_walked c word position h o = ap (λ (m : Held × Step). after_step c word (walk_at h position) m.0 m.1) (value_met c word position h o)

not_refused : (s : Shape) (word : List ℕ) (h : Held) → is_operand word ≡ true → other_passes s None word h ≡ true
not_refused s word h o =
    ap (λ b. b || flag_word_passes s.rules s.args_override_self (long_of word) word h) (no_dashes word o)
    ∙ ap (λ l. flag_word_passes s.rules s.args_override_self l word h) (no_long word o)
    ∙ ap (λ f. flag_passes f) (no_short word o)
  where
    flag_passes : Option (List ℕ) → Bool
    flag_passes f = option_map_or (λ flags. bundle_passes s.rules s.args_override_self flags h) f true

value_passes : (s : Shape) (word : List ℕ) (position : ℕ) (h : Held) → is_operand word ≡ true → step_passes s position h value ≡ true
    → turn_passes s [] (walk_at h position) word ≡ true
value_passes s word position h o k =
    ap (λ (m : Held × Step). other_passes s None word h && step_passes s position m.0 m.1) (value_met s.rules word position h o)
    ∙ ap (λ b. other_passes s None word h && b) k
    ∙ ap (λ b. b && true) (not_refused s word h o)

-- ---- words that are operands, one after another

walk_more : (c : List Rule) (word : List ℕ) (rest : List (List ℕ)) (position later : ℕ) (h next : Held) → is_operand word ≡ true
    → to_positional c (arg_by_index c position) word (walk_at h position) h ≡ walk_at next later
    → fold (walked c []) (walk_at h position) (word ∷ rest) ≡ fold (walked c []) (walk_at next later) rest
walk_more c word rest position later h next o e = ap (λ w. fold (walked c []) w rest) (value_walked c word position h o ∙ e)

passes_more : (s : Shape) (word : List ℕ) (rest : List (List ℕ)) (position later : ℕ) (h next : Held) → is_operand word ≡ true
    → to_positional s.rules (arg_by_index s.rules position) word (walk_at h position) h ≡ walk_at next later → step_passes s position h value ≡ true
    → walk_passes s [] (walk_at next later) rest ≡ true → walk_passes s [] (walk_at h position) (word ∷ rest) ≡ true
unfolding walk_passes
passes_more s word rest position later h next o e k r =
    ap (λ b. b && walk_passes s [] (walked s.rules [] (walk_at h position) word) rest) (value_passes s word position h o k)
    ∙ ap (λ w. walk_passes s [] w rest) (value_walked s.rules word position h o ∙ e)
    ∙ r

no_more : (s : Shape) (w : Walk) → walk_passes s [] w [] ≡ true
unfolding walk_passes
no_more s w = refl

-- ---- the forms

abbrev built_form : Shape → Shape
built_form s = built_leaf (inherited (with_leaf_noted (marked_built forms.top)) s)

-- the form of a run, under its word
abbrev run_form : List ℕ → Shape
run_form word = built_form (form word three_names)

abbrev gen_form : Shape
gen_form = built_form (form (codes "gen") (codes "seed" ∷ codes "size" ∷ []))

abbrev denote_form : Shape
denote_form = built_form (form (codes "denote") (codes "flow" ∷ codes "inputs" ∷ []))

abbrev check_form : Shape
check_form = built_form (form (codes "check") (codes "flow" ∷ []))

-- what is held after a value
abbrev held_after : List Rule → ℕ → List ℕ → Held → Held
held_after c position word h = (to_positional c (arg_by_index c position) word (walk_at h position) h).held

-- what is held after the operands of a command
abbrev run_held : List ℕ → List ℕ → List ℕ → List ℕ → Held
run_held word flow inputs schedule =
    held_after (run_form word).rules 3 schedule (held_after (run_form word).rules 2 inputs (held_after (run_form word).rules 1 flow nothing_held))

abbrev two_held : Shape → List ℕ → List ℕ → Held
two_held s one other = held_after s.rules 2 other (held_after s.rules 1 one nothing_held)

abbrev check_held : List ℕ → Held
check_held flow = held_after check_form.rules 1 flow nothing_held

run_walked : (word flow inputs schedule : List ℕ) → is_operand flow ≡ true → is_operand inputs ≡ true → is_operand schedule ≡ true
    → walk (run_form word).rules [] nothing_held (flow ∷ inputs ∷ schedule ∷ []) ≡ walk_at (run_held word flow inputs schedule) 4
run_walked word flow inputs schedule f i s =
    let c = (run_form word).rules in
    let one = held_after c 1 flow nothing_held in
    let two = held_after c 2 inputs one in
    walk_more c flow (inputs ∷ schedule ∷ []) 1 2 nothing_held one f refl
    ∙ walk_more c inputs (schedule ∷ []) 2 3 one two i refl
    ∙ walk_more c schedule [] 3 4 two (held_after c 3 schedule two) s refl

gen_walked : (seed size : List ℕ) → is_operand seed ≡ true → is_operand size ≡ true
    → walk gen_form.rules [] nothing_held (seed ∷ size ∷ []) ≡ walk_at (two_held gen_form seed size) 3
gen_walked seed size f i =
    let c = gen_form.rules in
    let one = held_after c 1 seed nothing_held in
    walk_more c seed (size ∷ []) 1 2 nothing_held one f refl ∙ walk_more c size [] 2 3 one (two_held gen_form seed size) i refl

denote_walked : (flow inputs : List ℕ) → is_operand flow ≡ true → is_operand inputs ≡ true
    → walk denote_form.rules [] nothing_held (flow ∷ inputs ∷ []) ≡ walk_at (two_held denote_form flow inputs) 3
denote_walked flow inputs f i =
    let c = denote_form.rules in
    let one = held_after c 1 flow nothing_held in
    walk_more c flow (inputs ∷ []) 1 2 nothing_held one f refl ∙ walk_more c inputs [] 2 3 one (two_held denote_form flow inputs) i refl

check_walked : (flow : List ℕ) → is_operand flow ≡ true → walk check_form.rules [] nothing_held (flow ∷ []) ≡ walk_at (check_held flow) 2
check_walked flow f = walk_more check_form.rules flow [] 1 2 nothing_held (check_held flow) f refl

-- the first word names the form, and the others are its operands
abbrev Stops : List ℕ → List (List ℕ) → Type 0
Stops word operands = stop_after (built forms).top.rules (names_of (built forms)) (word ∷ operands) ≡ Some (word, operands)

run_stops : (flow inputs schedule : List ℕ) → Stops (codes "run") (flow ∷ inputs ∷ schedule ∷ [])
unfolding walked
run_stops flow inputs schedule = refl

endure_stops : (flow inputs schedule : List ℕ) → Stops (codes "endure") (flow ∷ inputs ∷ schedule ∷ [])
unfolding walked
endure_stops flow inputs schedule = refl

explain_stops : (flow inputs schedule : List ℕ) → Stops (codes "explain") (flow ∷ inputs ∷ schedule ∷ [])
unfolding walked
explain_stops flow inputs schedule = refl

gen_stops : (seed size : List ℕ) → Stops (codes "gen") (seed ∷ size ∷ [])
unfolding walked
gen_stops seed size = refl

denote_stops : (flow inputs : List ℕ) → Stops (codes "denote") (flow ∷ inputs ∷ [])
unfolding walked
denote_stops flow inputs = refl

check_stops : (flow : List ℕ) → Stops (codes "check") (flow ∷ [])
unfolding walked
check_stops flow = refl

-- what is matched is the command
run_matched : (flow inputs schedule : List ℕ) → is_operand flow ≡ true → is_operand inputs ≡ true → is_operand schedule ≡ true
    → matched_command (subcommand_of forms (codes "run" ∷ flow ∷ inputs ∷ schedule ∷ [])) ≡ Some (run by_lines (record { flow = flow; inputs = inputs; schedule = schedule }))
run_matched flow inputs schedule f i s =
    ap (λ stop. matched_command (entered (built forms) stop)) (run_stops flow inputs schedule)
    ∙ ap (λ (w : Walk). matched_command (Some (codes "run", finished (run_form (codes "run")).rules w.held))) (run_walked (codes "run") flow inputs schedule f i s)

endure_matched : (flow inputs schedule : List ℕ) → is_operand flow ≡ true → is_operand inputs ≡ true → is_operand schedule ≡ true
    → matched_command (subcommand_of forms (codes "endure" ∷ flow ∷ inputs ∷ schedule ∷ [])) ≡ Some (run through_faults (record { flow = flow; inputs = inputs; schedule = schedule }))
endure_matched flow inputs schedule f i s =
    ap (λ stop. matched_command (entered (built forms) stop)) (endure_stops flow inputs schedule)
    ∙ ap (λ (w : Walk). matched_command (Some (codes "endure", finished (run_form (codes "endure")).rules w.held))) (run_walked (codes "endure") flow inputs schedule f i s)

explain_matched : (flow inputs schedule : List ℕ) → is_operand flow ≡ true → is_operand inputs ≡ true → is_operand schedule ≡ true
    → matched_command (subcommand_of forms (codes "explain" ∷ flow ∷ inputs ∷ schedule ∷ [])) ≡ Some (run by_reasons (record { flow = flow; inputs = inputs; schedule = schedule }))
explain_matched flow inputs schedule f i s =
    ap (λ stop. matched_command (entered (built forms) stop)) (explain_stops flow inputs schedule)
    ∙ ap (λ (w : Walk). matched_command (Some (codes "explain", finished (run_form (codes "explain")).rules w.held))) (run_walked (codes "explain") flow inputs schedule f i s)

gen_matched : (seed size : List ℕ) → is_operand seed ≡ true → is_operand size ≡ true
    → matched_command (subcommand_of forms (codes "gen" ∷ seed ∷ size ∷ [])) ≡ generate_by (number_of seed) (number_of size)
gen_matched seed size f i =
    ap (λ stop. matched_command (entered (built forms) stop)) (gen_stops seed size)
    ∙ ap (λ (w : Walk). matched_command (Some (codes "gen", finished gen_form.rules w.held))) (gen_walked seed size f i)

denote_matched : (flow inputs : List ℕ) → is_operand flow ≡ true → is_operand inputs ≡ true
    → matched_command (subcommand_of forms (codes "denote" ∷ flow ∷ inputs ∷ [])) ≡ Some (denote (record { flow = flow; inputs = inputs }))
denote_matched flow inputs f i =
    ap (λ stop. matched_command (entered (built forms) stop)) (denote_stops flow inputs)
    ∙ ap (λ (w : Walk). matched_command (Some (codes "denote", finished denote_form.rules w.held))) (denote_walked flow inputs f i)

check_matched : (flow : List ℕ) → is_operand flow ≡ true → matched_command (subcommand_of forms (codes "check" ∷ flow ∷ [])) ≡ Some (check flow)
check_matched flow f =
    ap (λ stop. matched_command (entered (built forms) stop)) (check_stops flow)
    ∙ ap (λ (w : Walk). matched_command (Some (codes "check", finished check_form.rules w.held))) (check_walked flow f)

-- ---- the parse fails only for want of memory

abbrev ends_well : Shape → Held → Bool
ends_well s end = settle_passes s.rules s.args_override_self end && (list_all default_passes s.rules && is_valid s (finished s.rules end) false)

level_passed : (s : Shape) (words : List (List ℕ)) (end : Held) (position : ℕ) → walk_passes s [] (walk_at nothing_held 1) words ≡ true
    → walk s.rules [] nothing_held words ≡ walk_at end position → ends_well s end ≡ true → level_passes s [] nothing_held words false ≡ true
level_passed s words end position p w e =
    ap (λ b. b && ends_well s (walk s.rules [] nothing_held words).held) p
    ∙ ap (λ (m : Walk). ends_well s m.held) w
    ∙ e

run_passes : (word flow inputs schedule : List ℕ) → is_operand flow ≡ true → is_operand inputs ≡ true → is_operand schedule ≡ true
    → level_passes (run_form word) [] nothing_held (flow ∷ inputs ∷ schedule ∷ []) false ≡ true
run_passes word flow inputs schedule f i s =
    let form = run_form word in
    let c = form.rules in
    let one = held_after c 1 flow nothing_held in
    let two = held_after c 2 inputs one in
    let end = run_held word flow inputs schedule in
    let last : walk_passes form [] (walk_at end 4) [] ≡ true = no_more form (walk_at end 4) in
    level_passed form (flow ∷ inputs ∷ schedule ∷ []) end 4
    (passes_more form flow (inputs ∷ schedule ∷ []) 1 2 nothing_held one f refl refl
    (passes_more form inputs (schedule ∷ []) 2 3 one two i refl refl
    (passes_more form schedule [] 3 4 two end s refl refl last)))
    (run_walked word flow inputs schedule f i s) refl

gen_passes : (seed size : List ℕ) → is_operand seed ≡ true → is_operand size ≡ true → level_passes gen_form [] nothing_held (seed ∷ size ∷ []) false ≡ true
gen_passes seed size f i =
    let one = held_after gen_form.rules 1 seed nothing_held in
    let end = two_held gen_form seed size in
    level_passed gen_form (seed ∷ size ∷ []) end 3
    (passes_more gen_form seed (size ∷ []) 1 2 nothing_held one f refl refl
    (passes_more gen_form size [] 2 3 one end i refl refl (no_more gen_form (walk_at end 3))))
    (gen_walked seed size f i) refl

denote_passes : (flow inputs : List ℕ) → is_operand flow ≡ true → is_operand inputs ≡ true → level_passes denote_form [] nothing_held (flow ∷ inputs ∷ []) false ≡ true
denote_passes flow inputs f i =
    let one = held_after denote_form.rules 1 flow nothing_held in
    let end = two_held denote_form flow inputs in
    level_passed denote_form (flow ∷ inputs ∷ []) end 3
    (passes_more denote_form flow (inputs ∷ []) 1 2 nothing_held one f refl refl
    (passes_more denote_form inputs [] 2 3 one end i refl refl (no_more denote_form (walk_at end 3))))
    (denote_walked flow inputs f i) refl

check_passes : (flow : List ℕ) → is_operand flow ≡ true → level_passes check_form [] nothing_held (flow ∷ []) false ≡ true
check_passes flow f =
    let end = check_held flow in
    level_passed check_form (flow ∷ []) end 2 (passes_more check_form flow [] 1 2 nothing_held end f refl refl (no_more check_form (walk_at end 2))) (check_walked flow f) refl

-- the top level passes where the form's does
top_passes : (word : List ℕ) (operands : List (List ℕ)) → Stops word operands
    → level_passes (built forms).top (names_of (built forms)) nothing_held (word ∷ operands) (is_some (entered (built forms) (Some (word, operands)))) ≡ true
    → entered_passes (built forms) (Some (word, operands)) ≡ true → takes forms (word ∷ operands) ≡ true
top_passes word operands e l k =
    ap (λ s. entered_passes (built forms) s && level_passes (built forms).top (names_of (built forms)) nothing_held (word ∷ operands) (is_some (entered (built forms) s))) e
    ∙ ap (λ b. b && level_passes (built forms).top (names_of (built forms)) nothing_held (word ∷ operands) (is_some (entered (built forms) (Some (word, operands))))) k
    ∙ l

-- the top level, where a form was entered
abbrev top_level : List ℕ → List (List ℕ) → Bool
top_level word operands = level_passes (built forms).top (names_of (built forms)) nothing_held (word ∷ operands) true

run_level : (flow inputs schedule : List ℕ) → top_level (codes "run") (flow ∷ inputs ∷ schedule ∷ []) ≡ true
unfolding walked walk_passes
run_level flow inputs schedule = refl

endure_level : (flow inputs schedule : List ℕ) → top_level (codes "endure") (flow ∷ inputs ∷ schedule ∷ []) ≡ true
unfolding walked walk_passes
endure_level flow inputs schedule = refl

explain_level : (flow inputs schedule : List ℕ) → top_level (codes "explain") (flow ∷ inputs ∷ schedule ∷ []) ≡ true
unfolding walked walk_passes
explain_level flow inputs schedule = refl

gen_level : (seed size : List ℕ) → top_level (codes "gen") (seed ∷ size ∷ []) ≡ true
unfolding walked walk_passes
gen_level seed size = refl

denote_level : (flow inputs : List ℕ) → top_level (codes "denote") (flow ∷ inputs ∷ []) ≡ true
unfolding walked walk_passes
denote_level flow inputs = refl

check_level : (flow : List ℕ) → top_level (codes "check") (flow ∷ []) ≡ true
unfolding walked walk_passes
check_level flow = refl

run_taken : (flow inputs schedule : List ℕ) → is_operand flow ≡ true → is_operand inputs ≡ true → is_operand schedule ≡ true
    → takes forms (codes "run" ∷ flow ∷ inputs ∷ schedule ∷ []) ≡ true
run_taken flow inputs schedule f i s =
    let operands = flow ∷ inputs ∷ schedule ∷ [] in
    top_passes (codes "run") operands (run_stops flow inputs schedule) (run_level flow inputs schedule) (run_passes (codes "run") flow inputs schedule f i s)

endure_taken : (flow inputs schedule : List ℕ) → is_operand flow ≡ true → is_operand inputs ≡ true → is_operand schedule ≡ true
    → takes forms (codes "endure" ∷ flow ∷ inputs ∷ schedule ∷ []) ≡ true
endure_taken flow inputs schedule f i s =
    let operands = flow ∷ inputs ∷ schedule ∷ [] in
    top_passes (codes "endure") operands (endure_stops flow inputs schedule) (endure_level flow inputs schedule) (run_passes (codes "endure") flow inputs schedule f i s)

explain_taken : (flow inputs schedule : List ℕ) → is_operand flow ≡ true → is_operand inputs ≡ true → is_operand schedule ≡ true
    → takes forms (codes "explain" ∷ flow ∷ inputs ∷ schedule ∷ []) ≡ true
explain_taken flow inputs schedule f i s =
    let operands = flow ∷ inputs ∷ schedule ∷ [] in
    top_passes (codes "explain") operands (explain_stops flow inputs schedule) (explain_level flow inputs schedule) (run_passes (codes "explain") flow inputs schedule f i s)

gen_taken : (seed size : List ℕ) → is_operand seed ≡ true → is_operand size ≡ true → takes forms (codes "gen" ∷ seed ∷ size ∷ []) ≡ true
gen_taken seed size f i =
    let operands = seed ∷ size ∷ [] in
    top_passes (codes "gen") operands (gen_stops seed size) (gen_level seed size) (gen_passes seed size f i)

denote_taken : (flow inputs : List ℕ) → is_operand flow ≡ true → is_operand inputs ≡ true → takes forms (codes "denote" ∷ flow ∷ inputs ∷ []) ≡ true
denote_taken flow inputs f i =
    let operands = flow ∷ inputs ∷ [] in
    top_passes (codes "denote") operands (denote_stops flow inputs) (denote_level flow inputs) (denote_passes flow inputs f i)

check_taken : (flow : List ℕ) → is_operand flow ≡ true → takes forms (codes "check" ∷ flow ∷ []) ≡ true
check_taken flow f = top_passes (codes "check") (flow ∷ []) (check_stops flow) (check_level flow) (check_passes flow f)

-- ---- words that are a command

-- `clap` takes the words, and what it matches is this command
record IsMatched (words : List (List ℕ)) (command : Command) : Type 0 where
  pub taken : takes forms words ≡ true
  pub matched : matched_command (subcommand_of forms words) ≡ Some command

by_test : (b : Bool) (x command : Command) → cond b (Some x) None ≡ Some command → (b ≡ true) × (x ≡ command)
by_test true x command e = (refl, same_Some x command e)
by_test false x command e = absurd (cc)

or_none : (o : Option Command) → option_or o None ≡ o
or_none None = refl
or_none (Some command) = refl

-- of two that may be there, the one that is
first_or_other : (one other : Option Command) (command : Command) → option_or one other ≡ Some command → (one ≡ Some command) ⊎ (other ≡ Some command)
first_or_other None other command e = inr e
first_or_other (Some found) other command e = inl e

is_word : (word text : List ℕ) → bytes_eq word text ≡ true → text ≡ word
is_word word text e = sym ((bytes_eq-Decides word text).0 e)

-- a number begins with a digit, and so is an operand
digit_not_dash : (byte : ℕ) → is_ascii_digit byte ≡ true → not (byte == 45) ≡ true
digit_not_dash byte d = elim (cases_Bool (byte == 45)) [
  | inl dash ↦ absurd (false≢true (subst (λ b. is_ascii_digit b ≡ true) (eqb-true byte 45 dash) d))
  | inr other ↦ ap not other
]

numeral_operand : (word : List ℕ) → is_numeral word ≡ true → is_operand word ≡ true
numeral_operand [] e = absurd (cc)
numeral_operand (byte ∷ []) e = digit_not_dash byte e
numeral_operand (byte ∷ other ∷ bytes) e =
    let digits = (and_parts (not (byte == 48)) (list_all is_ascii_digit (byte ∷ other ∷ bytes)) e).1 in
    digit_not_dash byte (and_parts (is_ascii_digit byte) (list_all is_ascii_digit (other ∷ bytes)) digits).0

number_operand : (word : List ℕ) (n : ℕ) → number_of word ≡ Value n → is_operand word ≡ true
unfolding number_of
number_operand word n e = elim (cases_Bool (is_numeral word)) [
  | inl numeral ↦ numeral_operand word numeral
  | inr other ↦ absurd (none (ap (λ b. cond b (cond (nat_lt (digits_value 10 word) (2 ^ 64)) (Value (digits_value 10 word)) TooLarge) NotANumber) (sym other) ∙ e))
]
  where
    none : NotANumber ≡ Value n → ⊥
    none h = absurd (cc)

-- so the operands of generated texts are operands
numbers_by : (one other : Number) (command : Command) → generate_by one other ≡ Some command → ((n : ℕ) × (one ≡ Value n)) × ((n : ℕ) × (other ≡ Value n))
numbers_by (Value seed) (Value size) command e = ((seed, refl), (size, refl))
numbers_by (Value seed) TooLarge command e = absurd (cc)
numbers_by (Value seed) NotANumber command e = absurd (cc)
numbers_by TooLarge other command e = absurd (cc)
numbers_by NotANumber other command e = absurd (cc)

by_word : (b : Bool) (x : Option Command) (command : Command) → cond b x None ≡ Some command → (b ≡ true) × (x ≡ Some command)
by_word true x command e = (refl, e)
by_word false x command e = absurd (cc)

-- ---- each command

check_is : (word flow : List ℕ) (command : Command) → check_of (word ∷ flow ∷ []) ≡ Some command → IsMatched (word ∷ flow ∷ []) command
check_is word flow command e =
    let t = by_test (bytes_eq word (codes "check") && is_operand flow) (check flow) command e in
    let p = and_parts (bytes_eq word (codes "check")) (is_operand flow) t.0 in
    subst (λ w. IsMatched (w ∷ flow ∷ []) command) (is_word word (codes "check") p.0)
    (record { taken = check_taken flow p.1; matched = check_matched flow p.1 ∙ ap Some t.1 })

denote_is : (word flow inputs : List ℕ) (command : Command) → denote_of (word ∷ flow ∷ inputs ∷ []) ≡ Some command → IsMatched (word ∷ flow ∷ inputs ∷ []) command
denote_is word flow inputs command e =
    let names : SystemNames = record { flow = flow; inputs = inputs } in
    let t = by_test (bytes_eq word (codes "denote") && is_operand flow && is_operand inputs) (denote names) command e in
    let p = and_parts (bytes_eq word (codes "denote") && is_operand flow) (is_operand inputs) t.0 in
    let q = and_parts (bytes_eq word (codes "denote")) (is_operand flow) p.0 in
    subst (λ w. IsMatched (w ∷ flow ∷ inputs ∷ []) command) (is_word word (codes "denote") q.0)
    (record { taken = denote_taken flow inputs q.1 p.1; matched = denote_matched flow inputs q.1 p.1 ∙ ap Some t.1 })

gen_is : (word seed size : List ℕ) (command : Command) → gen_of (word ∷ seed ∷ size ∷ []) ≡ Some command → IsMatched (word ∷ seed ∷ size ∷ []) command
gen_is word seed size command e =
    let t = by_word (bytes_eq word (codes "gen")) (generate_by (number_of seed) (number_of size)) command e in
    let n = numbers_by (number_of seed) (number_of size) command t.1 in
    let f = number_operand seed n.0.0 n.0.1 in
    let i = number_operand size n.1.0 n.1.1 in
    subst (λ w. IsMatched (w ∷ seed ∷ size ∷ []) command) (is_word word (codes "gen") t.0)
    (record { taken = gen_taken seed size f i; matched = gen_matched seed size f i ∙ t.1 })

-- three operands
record AreOperands (flow inputs schedule : List ℕ) : Type 0 where
  pub flow_is : is_operand flow ≡ true
  pub inputs_are : is_operand inputs ≡ true
  pub schedule_is : is_operand schedule ≡ true

operands_are : (flow inputs schedule : List ℕ) → (is_operand flow && is_operand inputs && is_operand schedule) ≡ true → AreOperands flow inputs schedule
operands_are flow inputs schedule e =
    let p = and_parts (is_operand flow && is_operand inputs) (is_operand schedule) e in
    let q = and_parts (is_operand flow) (is_operand inputs) p.0 in
    record { flow_is = q.0; inputs_are = q.1; schedule_is = p.1 }

run_is : (word flow inputs schedule : List ℕ) (command : Command) → run_of (word ∷ flow ∷ inputs ∷ schedule ∷ []) ≡ Some command
    → IsMatched (word ∷ flow ∷ inputs ∷ schedule ∷ []) command
run_is word flow inputs schedule command e = elim (cases_Bool (bytes_eq word (codes "run"))) [
  | inl is ↦
      let same = same_Some (run by_lines names) command (sym (ap (λ b. option_map in_manner (cond b (Some by_lines) (manner_by others word))) is) ∙ t.1) in
      subst (λ w. IsMatched (w ∷ flow ∷ inputs ∷ schedule ∷ []) command) (is_word word (codes "run") is)
      (record { taken = run_taken flow inputs schedule o.flow_is o.inputs_are o.schedule_is; matched = run_matched flow inputs schedule o.flow_is o.inputs_are o.schedule_is ∙ ap Some same })
  | inr not_run ↦ endure_is (sym (ap (λ b. option_map in_manner (cond b (Some by_lines) (manner_by others word))) not_run) ∙ t.1)
]
  where
    names : TextNames
    names = record { flow = flow; inputs = inputs; schedule = schedule }

    in_manner : Manner → Command
    in_manner manner = run manner names

    last_of_all : List RunVerb
    last_of_all = record { word = codes "explain"; manner = by_reasons } ∷ []

    others : List RunVerb
    others = record { word = codes "endure"; manner = through_faults } ∷ last_of_all

    t : ((is_operand flow && is_operand inputs && is_operand schedule) ≡ true) × (option_map in_manner (manner_by run_verbs word) ≡ Some command)
    t = by_word (is_operand flow && is_operand inputs && is_operand schedule) (option_map in_manner (manner_by run_verbs word)) command e

    o : AreOperands flow inputs schedule
    o = operands_are flow inputs schedule t.0

    no_run : None ≡ Some command → ⊥
    no_run h = absurd (cc)

    explain_is : option_map in_manner (manner_by last_of_all word) ≡ Some command → IsMatched (word ∷ flow ∷ inputs ∷ schedule ∷ []) command
    explain_is h = elim (cases_Bool (bytes_eq word (codes "explain"))) [
      | inl is ↦
          let same = same_Some (run by_reasons names) command (sym (ap (λ b. option_map in_manner (cond b (Some by_reasons) None)) is) ∙ h) in
          subst (λ w. IsMatched (w ∷ flow ∷ inputs ∷ schedule ∷ []) command) (is_word word (codes "explain") is)
          (record { taken = explain_taken flow inputs schedule o.flow_is o.inputs_are o.schedule_is; matched = explain_matched flow inputs schedule o.flow_is o.inputs_are o.schedule_is ∙ ap Some same })
      | inr none ↦ absurd (no_run (sym (ap (λ b. option_map in_manner (cond b (Some by_reasons) None)) none) ∙ h))
    ]

    endure_is : option_map in_manner (manner_by others word) ≡ Some command → IsMatched (word ∷ flow ∷ inputs ∷ schedule ∷ []) command
    endure_is h = elim (cases_Bool (bytes_eq word (codes "endure"))) [
      | inl is ↦
          let same = same_Some (run through_faults names) command (sym (ap (λ b. option_map in_manner (cond b (Some through_faults) (manner_by last_of_all word))) is) ∙ h) in
          subst (λ w. IsMatched (w ∷ flow ∷ inputs ∷ schedule ∷ []) command) (is_word word (codes "endure") is)
          (record { taken = endure_taken flow inputs schedule o.flow_is o.inputs_are o.schedule_is; matched = endure_matched flow inputs schedule o.flow_is o.inputs_are o.schedule_is ∙ ap Some same })
      | inr not_endure ↦ explain_is (sym (ap (λ b. option_map in_manner (cond b (Some through_faults) (manner_by last_of_all word))) not_endure) ∙ h)
    ]

command_matched : (words : List (List ℕ)) (command : Command) → command_of words ≡ Some command → IsMatched words command
command_matched [] command e = absurd (cc)
command_matched (word ∷ []) command e = absurd (cc)
command_matched (word ∷ flow ∷ []) command e = check_is word flow command (sym (or_none (check_of (word ∷ flow ∷ []))) ∙ e)
command_matched (word ∷ one ∷ other ∷ []) command e =
    let words = word ∷ one ∷ other ∷ [] in
    elim (first_or_other (denote_of words) (option_or (gen_of words) None) command e) [
      | inl d ↦ denote_is word one other command d
      | inr g ↦ gen_is word one other command (sym (or_none (gen_of words)) ∙ g)
    ]
command_matched (word ∷ flow ∷ inputs ∷ schedule ∷ []) command e = run_is word flow inputs schedule command e
command_matched (word ∷ flow ∷ inputs ∷ schedule ∷ more ∷ rest) command e = absurd (cc)

some_command : (words : List (List ℕ)) → is_some (command_of words) ≡ true → (command : Command) × (command_of words ≡ Some command)
some_command words h = by (command_of words) refl h
  where
    by : (o : Option Command) → command_of words ≡ o → is_some o ≡ true → (command : Command) × (command_of words ≡ Some command)
    by None e k = absurd (cc)
    by (Some command) e k = (command, e)

-- what a parse of the words of a command matches is the command
pub parsed : (app : App) (words : List (List ℕ)) (rows : Option (List ℕ × List Row)) → app ≡ forms → is_some (command_of words) ≡ true
    → (is_simple app ≡ true → rows ≡ subcommand_of app words) → matched_command rows ≡ command_of words
parsed app words rows e h m =
    let c = some_command words h in
    ap matched_command (m (ap is_simple e) ∙ ap (λ a. subcommand_of a words) e) ∙ (command_matched words c.0 c.1).matched ∙ sym c.1

-- and it is not refused
pub never_refused : (app : App) (words : List (List ℕ)) → app ≡ forms → is_some (command_of words) ≡ true → takes app words ≡ true
never_refused app words e h =
    let c = some_command words h in
    ap (λ a. takes a words) e ∙ (command_matched words c.0 c.1).taken

-- what an operand was given, by the rows of the matches
pub given_by_rows : (f : Found) (name : List ℕ) (text : Option (List ℕ)) → text ≡ first_value f name → text ≡ first_of name (rows_of f)
given_by_rows f name text e = e ∙ first_value-rows f name

-- an error says nothing of a value
pub none_of_err : {T E : Type 0} (P : T → Type 0) (r : Result T E) → IsErr r → IfOk r P
none_of_err P (Ok x) e = absurd (false≢true e)
none_of_err P (Err error) e = tt

-- what the app is that a form was added to
pub with_form : (old sub new : Builder) (before : App) (s : Shape) → AddsSubcommand old sub new → (fields_of sub).has_globals ≡ false → app_of old ≡ before → shape_of sub ≡ s
    → app_of new ≡ with_subcommand before s
with_form old sub new before s a g e f = a.shape g ∙ ap (λ b. with_subcommand b (shape_of sub)) e ∙ ap (λ t. with_subcommand before t) f

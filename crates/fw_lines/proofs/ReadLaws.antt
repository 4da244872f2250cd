-- The lines of inputs, read one after another.
use Rattle.std.proofs.Common.{◌≡◌, ℕ, ◌≤◌, ◌==◌, Bool, true, false, cond, List, [], ◌∷◌, ◌++◌, map, length, Option, Some, None, unwrap_or, refl, sym, ◌∙◌, ap, subst, ◌⊎◌, inl, inr}
use Rattle.std.proofs.lemmas.Bool.{eq-eqb, eqb-true, true≢false}
use Rattle.std.specs.Map.{lookup}
use Rattle.std.proofs.lemmas.List.{map-append}
use Rattle.std.proofs.lemmas.List.Elements.{filter-append}
use Rattle.std.specs.List.{filter}
use Rattle.std.specs.Option.{option_map_or}
use Rattle.fw_bag.specs.declared.rec.Rec.{Rec}
use Rattle.fw_lines.specs.declared.line.Line.{Line}
use Rattle.fw_lines.specs.declared.refusal.Refusal.{Refusal}
use Rattle.fw_lines.specs.declared.span.Span.{Span}
use Rattle.fw_lines.specs.Batches.{batches_at}
use Rattle.fw_lines.specs.Faults.{BreakNoRule, IsFirstFault}
use Rattle.fw_lines.specs.Inputs.{inputs_fault, batches_said_of, fault_in, source_said, inputs_line_fault, batch_of, is_batch_of, inputs_size_limit, inputs_rules, AreAcceptedInputs, AreRefusedInputs}
use Rattle.fw_lines.specs.Lines.{Said, bytes_at, said_in, said_lines}
use Rattle.fw_lines.proofs.FaultLaws.{Told, told_exact, none_told, IsSoundSoFar, sound_more, first_fault, none_left, sound_or_refused, sound_or_some_refusal, one_first_refusal}

-- what the code's loop knows: some lines are done, none of them breaks a rule, and the batches are theirs
pub record IsRead (sources : List (List ℕ × ℕ)) (lines left : List Said) (batches : List (ℕ × List (List Rec))) : Type 0 where
  pub done : List Said
  pub so_far : IsSoundSoFar (Told (inputs_fault sources)) lines left done
  pub value : (node : ℕ) → batches_at batches node ≡ batches_said_of sources done node

-- the batches that are read count as those of the lines that are done
pub fault_done : (sources : List (List ℕ × ℕ)) (text : List ℕ) (batches : List (ℕ × List (List Rec))) (done : List Said) (words : List Span) (number : ℕ) → ((node : ℕ) → batches_at batches node ≡ batches_said_of sources done node) → inputs_fault sources done (record { number = number; words = map (bytes_at text) words }) ≡ fault_in text sources words batches
fault_done sources text batches done words number h = ap (λ count. inputs_line_fault sources count (map (bytes_at text) words)) (counts (source_said sources (map (bytes_at text) words)))
  where
    counts : (source : Option ℕ) → option_map_or (λ node. length (batches_said_of sources done node)) source 0 ≡ option_map_or (λ node. length (batches_at batches node)) source 0
    counts None = refl
    counts (Some node) = ap length (sym (h node))

pub batches_of-push : (sources : List (List ℕ × ℕ)) (done : List Said) (line : Said) (node : ℕ) → batches_said_of sources (done ++ line ∷ []) node ≡ batches_said_of sources done node ++ batches_said_of sources (line ∷ []) node
batches_of-push sources done line node =
    ap (map (λ (l : Said). batch_of l.words)) (filter-append (is_batch_of sources node) done (line ∷ []))
    ∙ map-append (λ (l : Said). batch_of l.words) (filter (is_batch_of sources node) done) (filter (is_batch_of sources node) (line ∷ []))

-- one line more is read
pub read_more : (sources : List (List ℕ × ℕ)) (text : List ℕ) (lines left next : List Said) (line : Line) (batches new : List (ℕ × List (List Rec))) → IsRead sources lines left batches → left ≡ said_in text line ∷ next
    → fault_in text sources line.words batches ≡ None
    → ((node : ℕ) → batches_at new node ≡ batches_at batches node ++ batches_said_of sources (said_in text line ∷ []) node)
    → IsRead sources lines next new
read_more sources text lines left next line batches new read e sound value =
    let so_far = subst (λ ls. IsSoundSoFar (Told (inputs_fault sources)) lines ls read.done) e read.so_far in
    record {
      done = read.done ++ said_in text line ∷ [];
      so_far = sound_more (Told (inputs_fault sources)) lines read.done (said_in text line) next so_far (none_told _ (fault_done sources text batches read.done line.words line.number read.value ∙ sound));
      value = λ node. value node ∙ ap (λ bs. bs ++ batches_said_of sources (said_in text line ∷ []) node) (read.value node) ∙ sym (batches_of-push sources read.done (said_in text line) node);
    }

-- the next line is the first that breaks a rule
pub read_broken : (sources : List (List ℕ × ℕ)) (text : List ℕ) (lines left next : List Said) (line : Line) (batches : List (ℕ × List (List Rec))) (refusal : Refusal) → IsRead sources lines left batches → left ≡ said_in text line ∷ next
    → fault_in text sources line.words batches ≡ Some refusal.code → refusal.line ≡ line.number
    → IsFirstFault (Told (inputs_fault sources)) lines refusal
read_broken sources text lines left next line batches refusal read e broken number =
    first_fault (Told (inputs_fault sources)) lines read.done (said_in text line) next refusal (subst (λ ls. IsSoundSoFar (Told (inputs_fault sources)) lines ls read.done) e read.so_far) (fault_done sources text batches read.done line.words line.number read.value ∙ broken) number

-- all lines are read
pub read_all : (sources : List (List ℕ × ℕ)) (lines : List Said) (batches : List (ℕ × List (List Rec))) → IsRead sources lines [] batches → BreakNoRule (Told (inputs_fault sources)) lines × ((node : ℕ) → batches_at batches node ≡ batches_said_of sources lines node)
read_all sources lines batches read =
    let all = none_left (Told (inputs_fault sources)) lines read.done read.so_far in
    (all.0, λ node. read.value node ∙ ap (λ ls. batches_said_of sources ls node) all.1)

-- a short text of which all lines are read is accepted
pub read_accepted : (sources : List (List ℕ × ℕ)) (text : List ℕ) (left : List Said) (batches : List (ℕ × List (List Rec))) → length text ≤ inputs_size_limit → IsRead sources (said_lines text) left batches → left ≡ []
    → AreAcceptedInputs text sources batches
read_accepted sources text left batches size read e =
    let all = read_all sources (said_lines text) batches (subst (λ ls. IsRead sources (said_lines text) ls batches) e read) in
    record { sound = record { size = size; lines = all.0 }; value = all.1 }

-- an accepted text is not refused
pub accepted_or_refused : (text : List ℕ) (sources : List (List ℕ × ℕ)) (batches : List (ℕ × List (List Rec))) (refusal : Refusal) → AreAcceptedInputs text sources batches → AreRefusedInputs text sources refusal → ⊥
accepted_or_refused text sources batches refusal accepted = sound_or_refused (inputs_rules sources) text refusal accepted.sound

-- a text is refused by one rule at one line
pub one_refusal : (text : List ℕ) (sources : List (List ℕ × ℕ)) (first second : Refusal) → AreRefusedInputs text sources first → AreRefusedInputs text sources second → first ≡ second
one_refusal text sources first second = one_first_refusal (inputs_rules sources) text first second (told_exact (inputs_fault sources))

-- ---- each text has an answer

-- a batch is the first of its node, and the other nodes keep theirs
added_first : (n other : ℕ) (batch : List Rec) (batches : List (ℕ × List (List Rec)))
    → batches_at ((n, batch ∷ batches_at batches n) ∷ batches) other ≡ cond (n == other) (batch ∷ batches_at batches other) (batches_at batches other)
added_first n other batch batches = by (n == other) refl (other == n) refl
  where
    by : (c : Bool) → (n == other) ≡ c → (d : Bool) → (other == n) ≡ d
        → unwrap_or (cond d (Some (batch ∷ batches_at batches n)) (lookup (λ k. other == k) batches)) [] ≡ cond c (batch ∷ batches_at batches other) (batches_at batches other)
    by true e true f = ap (λ k. batch ∷ batches_at batches k) (eqb-true n other e)
    by false e false f = refl
    by true e false f = absurd (true≢false (sym (eq-eqb other n (sym (eqb-true n other e))) ∙ f))
    by false e true f = absurd (true≢false (sym (eq-eqb n other (sym (eqb-true other n f))) ∙ e))

-- some batches are those that lines give
value_exists : (sources : List (List ℕ × ℕ)) (lines : List Said) → (batches : List (ℕ × List (List Rec))) × ((node : ℕ) → batches_at batches node ≡ batches_said_of sources lines node)
value_exists sources [] = ([], λ node. refl)
value_exists sources (line ∷ lines) = by (source_said sources line.words) refl (value_exists sources lines)
  where
    with_line : Option ℕ → ℕ → List (List Rec)
    with_line source node = map (λ (l : Said). batch_of l.words) (cond (option_map_or (λ s. s == node) source false) (line ∷ filter (is_batch_of sources node) lines) (filter (is_batch_of sources node) lines))

    one_more : (c : Bool) (node : ℕ) (batches : List (List Rec)) → batches ≡ batches_said_of sources lines node → cond c (batch_of line.words ∷ batches) batches
        ≡ map (λ (l : Said). batch_of l.words) (cond c (line ∷ filter (is_batch_of sources node) lines) (filter (is_batch_of sources node) lines))
    one_more true node batches h = ap (λ bs. batch_of line.words ∷ bs) h
    one_more false node batches h = h

    by : (source : Option ℕ) → source_said sources line.words ≡ source
        → ((batches : List (ℕ × List (List Rec))) × ((node : ℕ) → batches_at batches node ≡ batches_said_of sources lines node))
        → (batches : List (ℕ × List (List Rec))) × ((node : ℕ) → batches_at batches node ≡ batches_said_of sources (line ∷ lines) node)
    by None e rest = (rest.0, λ node. rest.1 node ∙ ap (λ s. with_line s node) (sym e))
    by (Some n) e rest = (
      (n, batch_of line.words ∷ batches_at rest.0 n) ∷ rest.0,
      λ node.
          added_first n node (batch_of line.words) rest.0 ∙ one_more (n == node) node (batches_at rest.0 node) (rest.1 node) ∙ ap (λ s. with_line s node) (sym e),
    )

-- each text is accepted or refused
pub some_answer : (text : List ℕ) (sources : List (List ℕ × ℕ)) → ((batches : List (ℕ × List (List Rec))) × AreAcceptedInputs text sources batches) ⊎ ((refusal : Refusal) × AreRefusedInputs text sources refusal)
some_answer text sources = elim (sound_or_some_refusal (inputs_rules sources) text (told_exact (inputs_fault sources))) [
  | inl sound ↦ let value = value_exists sources (said_lines text) in
      inl (value.0, record { sound = sound; value = value.1 })
  | inr refused ↦ inr refused
]

-- The lines of a flow, read one after another.
use Rattle.std.proofs.Common.{◌≡◌, ℕ, ◌≤◌, List, [], ◌∷◌, ◌++◌, length, Result, Ok, Err, MatchResult, sym, ◌∙◌, ap, subst, ◌⊎◌, inl, inr}
use Rattle.fw_lines.specs.declared.fault.ReadFault.{ReadFault}
use Rattle.fw_lines.specs.declared.fault.ReadFault.TheVariants.{Refused, NoMemory}
use Rattle.fw_lines.specs.declared.line.Line.{Line}
use Rattle.fw_lines.specs.declared.refusal.Code.{Code}
use Rattle.fw_lines.specs.declared.refusal.Refusal.{Refusal}
use Rattle.fw_lines.specs.Faults.{IfRefused}
use Rattle.fw_lines.specs.Faults.{BreakNoRule, IsFirstFault}
use Rattle.fw_lines.specs.Lines.{Said, said_lines, said_in, words_at}
use Rattle.fw_lines.proofs.FaultLaws.{IsSoundSoFar, sound_more, first_fault, none_left, sound_or_refused, sound_or_some_refusal, one_first_refusal}
use Rattle.fw_flow.proofs.AnswerLaws.{some_answer as some_checked}
use Rattle.fw_flow.proofs.Checks.{checked_or_refused, one_refusal as one_broken}
use Rattle.fw_flow.specs.Declaring.{Declared}
use Rattle.fw_flow.specs.Check.{IsChecked, IsFirstBroken}
use Rattle.fw_flow.specs.Dataflow.{Dataflow}
use Rattle.fw_flow.specs.Expand.{expand}
use Rattle.fw_flow.specs.Raw.{flow_of_declarations}
use Rattle.fw_flow_text.specs.Grammar.{Declare, BreakAfter, Breaks, flow_rules, IsAcceptedFlow, IsRefusedFlow}
use Rattle.fw_flow_text.proofs.DeclaredLaws.{one_declared, breaks_exact, declared_sound}

-- what the code's loop knows: some lines are done, none of them breaks a rule, and the declarations are theirs
pub record IsRead (lines left : List Said) (raw : List Declared) : Type 0 where
  pub done : List Said
  pub so_far : IsSoundSoFar Breaks lines left done
  pub value : Declare done raw

-- one line more is read
pub read_more : (text : List ℕ) (lines left next : List Said) (line : Line) (raw new : List Declared) → IsRead lines left raw → left ≡ said_in text line ∷ next
    → ((code : Code) → BreakAfter raw (words_at text line.words) code → ⊥)
    → ((before : List Said) → Declare before raw → Declare (before ++ said_in text line ∷ []) new)
    → IsRead lines next new
read_more text lines left next line raw new read e sound value =
    let so_far = subst (λ ls. IsSoundSoFar Breaks lines ls read.done) e read.so_far in
    record {
      done = read.done ++ said_in text line ∷ [];
      so_far = sound_more Breaks lines read.done (said_in text line) next so_far (λ code b. sound code (subst (λ ds. BreakAfter ds (words_at text line.words) code) (one_declared read.done b.0 raw b.1 read.value) b.2));
      value = value read.done read.value;
    }

-- the next line is the first that breaks a rule
pub read_broken : (text : List ℕ) (lines left next : List Said) (line : Line) (raw : List Declared) (refusal : Refusal) → IsRead lines left raw → left ≡ said_in text line ∷ next
    → BreakAfter raw (words_at text line.words) refusal.code → refusal.line ≡ line.number
    → IsFirstFault Breaks lines refusal
read_broken text lines left next line raw refusal read e broken number =
    first_fault Breaks lines read.done (said_in text line) next refusal (subst (λ ls. IsSoundSoFar Breaks lines ls read.done) e read.so_far) (raw, read.value, broken) number

-- all lines are read
read_all : (lines : List Said) (raw : List Declared) → IsRead lines [] raw → BreakNoRule Breaks lines × Declare lines raw
read_all lines raw read =
    let all = none_left Breaks lines read.done read.so_far in
    (all.0, subst (λ ls. Declare ls raw) all.1 read.value)

-- what the declarations of all lines give, the text gives
pub checked_all : (text : List ℕ) (left : List Said) (raw : List Declared) (result : Result Dataflow ReadFault) → length text ≤ 1048576 → IsRead (said_lines text) left raw → left ≡ []
    → MatchResult result (IsChecked (expand raw)) (IfRefused (IsFirstBroken (expand raw))) → MatchResult result (IsAcceptedFlow text) (IfRefused (IsRefusedFlow text))
checked_all text left raw (Ok flow) size read e checked =
    let all = read_all (said_lines text) raw (subst (λ ls. IsRead (said_lines text) ls raw) e read) in
    record { sound = record { size = size; lines = all.0 }; declared = raw; written = all.1; checked = checked }
checked_all text left raw (Err (Refused refusal)) size read e broken =
    let all = read_all (said_lines text) raw (subst (λ ls. IsRead (said_lines text) ls raw) e read) in
    inr (record { sound = record { size = size; lines = all.0 }; declared = raw; written = all.1; broken = broken })
checked_all text left raw (Err NoMemory) size read e broken = tt

-- ---- one answer

-- an accepted text is not refused
pub accepted_or_refused : (text : List ℕ) (flow : Dataflow) (refusal : Refusal) → IsAcceptedFlow text flow → IsRefusedFlow text refusal → ⊥
accepted_or_refused text flow refusal accepted (inl first) = sound_or_refused flow_rules text refusal accepted.sound first
accepted_or_refused text flow refusal accepted (inr other) =
    let same = one_declared (said_lines text) other.declared accepted.declared other.written accepted.written in
    checked_or_refused (expand accepted.declared) flow refusal accepted.checked (subst (λ ds. IsFirstBroken (expand ds) refusal) same other.broken)

-- an accepted text has one dataflow
pub one_flow : (text : List ℕ) (first second : Dataflow) → IsAcceptedFlow text first → IsAcceptedFlow text second → first ≡ second
one_flow text first second a b = a.checked.value ∙ ap (λ ds. flow_of_declarations (expand ds)) (one_declared (said_lines text) a.declared b.declared a.written b.written) ∙ sym b.checked.value

-- a text is refused by one rule at one line
pub one_refusal : (text : List ℕ) (first second : Refusal) → IsRefusedFlow text first → IsRefusedFlow text second → first ≡ second
one_refusal text first second (inl a) (inl b) = one_first_refusal flow_rules text first second breaks_exact a b
one_refusal text first second (inl a) (inr b) = absurd (sound_or_refused flow_rules text first b.sound a)
one_refusal text first second (inr a) (inl b) = absurd (sound_or_refused flow_rules text second a.sound b)
one_refusal text first second (inr a) (inr b) =
    let same = one_declared (said_lines text) b.declared a.declared b.written a.written in
    one_broken (expand a.declared) first second a.broken (subst (λ ds. IsFirstBroken (expand ds) second) same b.broken)

-- each text is accepted or refused
pub some_answer : (text : List ℕ) → ((flow : Dataflow) × IsAcceptedFlow text flow) ⊎ ((refusal : Refusal) × IsRefusedFlow text refusal)
some_answer text = elim (sound_or_some_refusal flow_rules text breaks_exact) [
  | inl sound ↦ let all = declared_sound (said_lines text) sound.lines in
      elim (some_checked (expand all.0)) [
        | inl checked ↦ inl (checked.0, record { sound = sound; declared = all.0; written = all.1; checked = checked.1 })
        | inr broken ↦ inr (broken.0, inr (record { sound = sound; declared = all.0; written = all.1; broken = broken.1 }))
      ]
  | inr first ↦ inr (first.0, inl first.1)
]

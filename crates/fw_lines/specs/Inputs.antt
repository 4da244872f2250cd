-- The grammar of the inputs.
use Rattle.std.specs.Prelude.{◌≡◌, ℕ, ◌^◌, ◌==◌, nat_le, Bool, true, false, ◌&&◌, List, [], ◌∷◌, map, length, filter, if◌then◌else◌, Option, Some, None, codes}
use Rattle.std.specs.List.{list_any, list_all, before_first, after_first, filter_map}
use Rattle.std.specs.Option.{option_map_or, option_or}
use Rattle.std.specs.Str.{bytes_eq}
use Rattle.fw_bag.specs.Bag.{bag_sum}
use Rattle.fw_bag.specs.declared.rec.Rec.{Rec}
use Rattle.fw_lines.specs.declared.numeral.Number.{Number}
use Rattle.fw_lines.specs.declared.numeral.Number.TheVariants.{Value, TooLarge, NotANumber}
use Rattle.fw_lines.specs.declared.record.RecordWord.{RecordWord}
use Rattle.fw_lines.specs.declared.record.RecordWord.TheVariants.{Sound, Large, Broken}
use Rattle.fw_lines.specs.declared.refusal.Code.{Code}
use Rattle.fw_lines.specs.declared.refusal.Code.TheVariants.{I1, I2, I3, I4, I5}
use Rattle.fw_lines.specs.declared.refusal.Refusal.{Refusal}
use Rattle.fw_lines.specs.declared.span.Span.{Span}
use Rattle.fw_lines.specs.Batches.{batches_at, batch_count_at}
use Rattle.fw_lines.specs.Faults.{Rules, BreaksNone, IsFirstRefusal}
use Rattle.fw_lines.specs.Lines.{Said, said_lines, is_allowed, words_at}
use Rattle.fw_lines.specs.Sources.{node_named}
use Rattle.fw_lines.specs.Spelling.{is_name, number_of}

-- the byte between a key and its value
abbrev pub is_colon : ℕ → Bool
is_colon b = b == 58

-- what a key and a value, as they are spelled, say together
abbrev pub record_from : Number → Number → RecordWord
record_from NotANumber value = Broken I1
record_from (Value k) NotANumber = Broken I1
record_from TooLarge NotANumber = Broken I1
record_from (Value k) (Value v) = Sound (record { key = k; value = v })
record_from (Value k) TooLarge = Large
record_from TooLarge (Value v) = Large
record_from TooLarge TooLarge = Large

-- what a record word says: its key stands before the first colon and its value behind it
unfoldable pub record_said : List ℕ → RecordWord
record_said word =
    if list_any is_colon word then record_from (number_of (before_first is_colon word)) (number_of (after_first is_colon word))
    else Broken (if list_all is_allowed word then I4 else I1)

-- the rule of form that a record word breaks, with numbers of any size
abbrev pub broken_rule : RecordWord → Option Code
broken_rule (Sound rec) = None
broken_rule Large = None
broken_rule (Broken code) = Some code

-- whether a record word has a number that is too large
abbrev pub has_large_number : RecordWord → Bool
has_large_number (Sound rec) = false
has_large_number Large = true
has_large_number (Broken code) = false

-- the rec that a record word spells
abbrev pub spelled_rec : RecordWord → Option Rec
spelled_rec (Sound rec) = Some rec
spelled_rec Large = None
spelled_rec (Broken code) = None

-- the rule of form that the first broken record word, from left to right, breaks
abbrev pub words_fault : List (List ℕ) → Option Code
words_fault [] = None
words_fault (word ∷ words) = option_or (broken_rule (record_said word)) (words_fault words)

-- the rule of form that a line breaks, by its first word, its name and its record words
abbrev pub form_fault : List ℕ → List ℕ → List (List ℕ) → Option Code
form_fault first name records = if bytes_eq first (codes "batch") && is_name name then words_fault records else Some I1

-- I2, unless the name is that of a source
abbrev pub source_fault : Option ℕ → Option Code
source_fault None = Some I2
source_fault (Some node) = None

-- I3, unless each number is below 2^64
abbrev pub number_fault : List (List ℕ) → Option Code
number_fault records = if list_any (λ word. has_large_number (record_said word)) records then Some I3 else None

-- I5, where the source has 2^20 batches already
abbrev pub count_fault : ℕ → Option Code
count_fault count = if nat_le (2 ^ 20) count then Some I5 else None

-- the rule that a line of a good form breaks: by the node that it names, if there is one, its record words and how many
-- batches the node has
abbrev pub value_fault : Option ℕ → List (List ℕ) → ℕ → Option Code
value_fault source records count = option_or (source_fault source) (option_or (number_fault records) (count_fault count))

-- the rule that a line of these words breaks, whose source has this many batches so far
abbrev pub inputs_line_fault : List (List ℕ × ℕ) → ℕ → List (List ℕ) → Option Code
inputs_line_fault sources count [] = None
inputs_line_fault sources count (word ∷ []) = Some I1
inputs_line_fault sources count (first ∷ name ∷ records) =
    option_or (form_fault first name records) (value_fault (node_named sources name) records count)

-- the source that a line names
abbrev pub source_said : List (List ℕ × ℕ) → List (List ℕ) → Option ℕ
source_said sources [] = None
source_said sources (word ∷ []) = None
source_said sources (first ∷ name ∷ records) = node_named sources name

-- the batch that a line gives: a bag of the recs that its record words spell
abbrev pub batch_of : List (List ℕ) → List Rec
batch_of [] = []
batch_of (word ∷ []) = []
batch_of (first ∷ name ∷ records) = bag_sum (filter_map (λ word. spelled_rec (record_said word)) records) []

-- whether a line of these words gives a batch of the node
abbrev pub is_batch_of_words : List (List ℕ × ℕ) → ℕ → List (List ℕ) → Bool
is_batch_of_words sources node words = option_map_or (λ source. source == node) (source_said sources words) false

-- whether a line gives a batch of the node
abbrev pub is_batch_of : List (List ℕ × ℕ) → ℕ → Said → Bool
is_batch_of sources node line = is_batch_of_words sources node line.words

-- the batches of a node: the x-th of its lines, counted from 0, gives its batch of epoch x
abbrev pub batches_said_of : List (List ℕ × ℕ) → List Said → ℕ → List (List Rec)
batches_said_of sources lines node = map (λ line. batch_of line.words) (filter (is_batch_of sources node) lines)

-- how many batches a line's source has after these lines
abbrev pub count_of : List (List ℕ × ℕ) → List Said → List (List ℕ) → ℕ
count_of sources lines words = option_map_or (λ node. length (batches_said_of sources lines node)) (source_said sources words) 0

-- the rule that a line breaks, judged by the lines before it
abbrev pub inputs_fault : List (List ℕ × ℕ) → List Said → Said → Option Code
inputs_fault sources before line = inputs_line_fault sources (count_of sources before line.words) line.words

-- the rule that a line breaks whose words are these parts of a text, after these batches
abbrev pub fault_in : List ℕ → List (List ℕ × ℕ) → List Span → List (ℕ × List (List Rec)) → Option Code
fault_in text sources words batches =
    inputs_line_fault sources (batch_count_at batches (source_said sources (words_at text words))) (words_at text words)

-- the longest text, in bytes
abbrev pub inputs_size_limit : ℕ
inputs_size_limit = 16777216

-- what is asked of inputs of these sources
abbrev pub inputs_rules : List (List ℕ × ℕ) → Rules
inputs_rules sources = record { most = inputs_size_limit; too_long = I5; breaks = λ before line code. inputs_fault sources before line ≡ Some code }

-- the text has the form of inputs of these sources, and the batches are those that its lines give
pub record AreAcceptedInputs (text : List ℕ) (sources : List (List ℕ × ℕ)) (batches : List (ℕ × List (List Rec))) : Type 0 where
  pub sound : BreaksNone (inputs_rules sources) text
  pub value : (node : ℕ) → batches_at batches node ≡ batches_said_of sources (said_lines text) node

-- the refusal is the first rule of inputs of these sources that the text breaks
abbrev pub AreRefusedInputs : List ℕ → List (List ℕ × ℕ) → Refusal → Type 0
AreRefusedInputs text sources refusal = IsFirstRefusal (inputs_rules sources) text refusal

-- What the reader finds of a node that is split.
use Rattle.std.proofs.Common.{◌≡◌, ℕ, zero, suc, ◌+◌, ◌-◌, ◌<◌, ◌^◌, Bool, true, false, not, List, [], ◌∷◌, ◌++◌, length, take, drop, get_or, Option, Some, None, refl, sym, ◌∙◌, ap, subst, arith, codes}
use Rattle.std.proofs.Math.Seq.{get_or-append_seam}
use Rattle.std.proofs.lemmas.List.{length-append, length-drop, drop_more, take-append-drop, take_all}
use Rattle.std.proofs.lemmas.Slice.Eq.{bytes_eq-Decides}
use Rattle.std.specs.Str.{bytes_eq}
use Rattle.std.proofs.lemmas.Option.{same_Some}
use Rattle.std.specs.Fmt.{decimal}
use Rattle.fw_lines.specs.declared.span.Span.{Span}
use Rattle.fw_lines.specs.Lines.{bytes_at}
use Rattle.fw_flow.specs.KeyParts.{may_split}
use Rattle.fw_flow_text.specs.declared.node.NodeForm.{NodeForm}
use Rattle.fw_flow_text.specs.Grammar.{capped, capped_words}
use Rattle.fw_flow_text.specs.Spelled.{AreNodeWords, AreSplitWords, IsAroundSplit, policy_words, split_words}
use Rattle.fw_flow_text.proofs.Reading.{form_in, has_split, without_split}
use Rattle.fw_flow_text.proofs.SpelledLaws.{form_read}
use Rattle.fw_flow_text.proofs.SplitLaws.{behind, has_split-there, no_split-node, number-there, policy_last, split_words-there, without-there}

-- what a node with `split` in front of its policy says
pub record IsSplitBy (kind : List ℕ) (before policy : List (List ℕ)) (number : List ℕ) (form : NodeForm) (split : Option ℕ) : Type 0 where
  pub n : ℕ
  pub is : split ≡ Some n
  pub spelled : number ≡ decimal n
  pub small : n < 2 ^ 64
  pub may : may_split form.kind ≡ true
  pub plain : AreNodeWords kind (before ++ policy) form

pub split_told : (kind number : List ℕ) (before policy : List (List ℕ)) (form : NodeForm) (split : Option ℕ) → length policy ≡ 2
    → AreSplitWords kind (before ++ codes "split" ∷ number ∷ policy) form split → IsSplitBy kind before policy number form split
split_told kind number before policy form None two h =
    let there : true ≡ false =
    sym (has_split-there before number policy two) ∙ ap (λ ws. has_split (behind ws)) h.same ∙ no_split-node form.kind form.policy in
    absurd (cc)
split_told kind number before policy form (Some n) two h =
    let last = policy_last form.kind form.policy h.splits.0 in
    let words = codes "split" ∷ number ∷ policy in
    let same : kind ∷ before ++ words ≡ (last.word ∷ last.between) ++ codes "split" ∷ decimal n ∷ policy_words form.policy =
    h.same ∙ ap (split_words (Some n)) last.same ∙ split_words-there n (last.word ∷ last.between) (policy_words form.policy) refl in
    let tails : before ++ words ≡ last.between ++ codes "split" ∷ decimal n ∷ policy_words form.policy = ap behind same in
    let head : kind ≡ last.word = ap (λ ws. get_or ws 0 []) same in
    let rest : before ++ policy ≡ last.between ++ policy_words form.policy =
    sym (without-there before number policy two) ∙ ap without_split tails ∙ without-there last.between (decimal n) (policy_words form.policy) refl in
    record {
      n = n;
      is = refl;
      spelled = sym (number-there before number policy two) ∙ ap (λ ws. get_or ws (length ws - 3) []) tails ∙ number-there last.between (decimal n) (policy_words form.policy) refl;
      small = h.splits.1;
      may = h.splits.0;
      plain = record {
        same = ap (λ w. w ∷ before ++ policy) head ∙ ap (λ ws. last.word ∷ ws) rest ∙ sym last.same;
        writable = h.writable;
      };
    }

-- a node with a number there is split by it
pub split_made : (kind number : List ℕ) (before policy : List (List ℕ)) (form : NodeForm) (n : ℕ) → length policy ≡ 2 → number ≡ decimal n → n < 2 ^ 64 → may_split form.kind ≡ true
    → AreNodeWords kind (before ++ policy) form → AreSplitWords kind (before ++ codes "split" ∷ number ∷ policy) form (Some n)
split_made kind number before policy form n two spelled small may h = record {
  same =
      ap (λ w. kind ∷ before ++ codes "split" ∷ w ∷ policy) spelled ∙ sym (split_words-there n (kind ∷ before) policy two) ∙ ap (split_words (Some n)) h.same;
  writable = h.writable;
  splits = (may, small);
}

-- words are those of one node
pub one_form : (kind : List ℕ) (rest : List (List ℕ)) (first second : NodeForm) → AreNodeWords kind rest first → AreNodeWords kind rest second → first ≡ second
one_form kind rest first second a b =
    same_Some first second (sym (ap form_in a.same ∙ form_read first.kind first.policy a.writable) ∙ ap form_in b.same ∙ form_read second.kind second.policy b.writable)

-- no number, no form, or a form that may not be split
pub no_number : (kind number : List ℕ) (before policy : List (List ℕ)) → length policy ≡ 2 → ((n : ℕ) → (number ≡ decimal n) × (n < 2 ^ 64) → ⊥)
    → (found : NodeForm × Option ℕ) → AreSplitWords kind (before ++ codes "split" ∷ number ∷ policy) found.0 found.1 → ⊥
no_number kind number before policy two none found h =
    let told = split_told kind number before policy found.0 found.1 two h in none told.n (told.spelled, told.small)

pub no_plain : (kind number : List ℕ) (before policy : List (List ℕ)) → length policy ≡ 2 → ((form : NodeForm) → AreNodeWords kind (before ++ policy) form → ⊥)
    → (found : NodeForm × Option ℕ) → AreSplitWords kind (before ++ codes "split" ∷ number ∷ policy) found.0 found.1 → ⊥
no_plain kind number before policy two none found h = none found.0 (split_told kind number before policy found.0 found.1 two h).plain

pub no_leave : (kind number : List ℕ) (before policy : List (List ℕ)) (form : NodeForm) → length policy ≡ 2 → AreNodeWords kind (before ++ policy) form → may_split form.kind ≡ false
    → (found : NodeForm × Option ℕ) → AreSplitWords kind (before ++ codes "split" ∷ number ∷ policy) found.0 found.1 → ⊥
no_leave kind number before policy form two plain may found h =
    let told = split_told kind number before policy found.0 found.1 two h in
    let same = one_form kind (before ++ policy) form found.0 plain told.plain in
    let both : true ≡ false = sym told.may ∙ ap (λ (f : NodeForm). may_split f.kind) (sym same) ∙ may in
    absurd (cc)

-- where no `split` stands there, a node is not split
pub no_split : (kind : List ℕ) (rest : List (List ℕ)) → ((before policy : List (List ℕ)) (number : List ℕ) → IsAroundSplit rest before number policy → ⊥)
    → (form : NodeForm) (split : Option ℕ) → AreSplitWords kind rest form split → AreNodeWords kind rest form
no_split kind rest none form None h = record { same = h.same; writable = h.writable }
no_split kind rest none form (Some n) h =
    let last = policy_last form.kind form.policy h.splits.0 in
    let same = h.same ∙ ap (split_words (Some n)) last.same ∙ split_words-there n (last.word ∷ last.between) (policy_words form.policy) refl in
    absurd (none last.between (policy_words form.policy) (decimal n) (ap behind same, refl))

-- ---- spans

pub words_append : (text : List ℕ) (xs ys : List Span) → capped_words text (xs ++ ys) ≡ capped_words text xs ++ capped_words text ys
words_append text [] ys = refl
words_append text (x ∷ xs) ys = ap (λ ws. capped (bytes_at text x) ∷ ws) (words_append text xs ys)

pub words_length : (text : List ℕ) (xs : List Span) → length (capped_words text xs) ≡ length xs
words_length text [] = refl
words_length text (x ∷ xs) = ap suc (words_length text xs)

word_read : (text : List ℕ) (xs : List Span) (i : ℕ) (d : Span) → i < length xs → get_or (capped_words text xs) i [] ≡ capped (bytes_at text (get_or xs i d))
word_read text [] i d lt = absurd (omega arith)
word_read text (x ∷ xs) zero d lt = refl
word_read text (x ∷ xs) (suc i) d lt = word_read text xs i d (omega arith)

-- words with `split` as the fourth from the end
pub around_here : (text : List ℕ) (words : List Span) (place : ℕ) (d : Span) → length words ≡ place + 4 → capped (bytes_at text (get_or words place d)) ≡ codes "split"
    → IsAroundSplit (capped_words text words) (capped_words text (take place words)) (capped (bytes_at text (get_or words (place + 1) d)))
    (capped_words text (take (length words - (place + 2)) (drop (place + 2) words)))
around_here text words place d long spelled =
    let split = get_or words place d in
    let number = get_or words (place + 1) d in
    let behind = drop (place + 2) words in
    let second : place + 1 + 1 ≡ place + 2 = omega arith in
    let all : take (length words - (place + 2)) behind ≡ behind = take_all (length words - (place + 2)) behind (omega (arith, length-drop (place + 2) words)) in
    let whole : words ≡ take place words ++ split ∷ number ∷ behind =
    sym (take-append-drop place words)
    ∙ ap (λ ws. take place words ++ ws) (drop_more words place d (omega (arith, long))
    ∙ ap (λ ws. split ∷ ws) (drop_more words (place + 1) d (omega (arith, long)) ∙ ap (λ m. number ∷ drop m words) second)) in
    subst (λ ws. IsAroundSplit (capped_words text words) (capped_words text (take place words)) (capped (bytes_at text number)) (capped_words text ws)) (sym all) (
      ap (capped_words text) whole ∙ words_append text (take place words) (split ∷ number ∷ behind)
          ∙ ap (λ w. capped_words text (take place words) ++ w ∷ capped (bytes_at text number) ∷ capped_words text behind) spelled,
      words_length text behind ∙ omega (arith, long, length-drop (place + 2) words),
    )

-- words with another word there
pub other_around : (text : List ℕ) (words : List Span) (place : ℕ) (d : Span) (before policy : List (List ℕ)) (number : List ℕ) → length words ≡ place + 4
    → (capped (bytes_at text (get_or words place d)) ≡ codes "split" → ⊥) → IsAroundSplit (capped_words text words) before number policy → ⊥
other_around text words place d before policy number long other h =
    let same : length before ≡ place =
    omega (arith, long, words_length text words, ap length h.0, length-append before (codes "split" ∷ number ∷ policy), h.1) in
    other
    (sym (word_read text words place d (omega (arith, long))) ∙ ap (λ ws. get_or ws place []) h.0
    ∙ ap (λ m. get_or (before ++ codes "split" ∷ number ∷ policy) m []) (sym same) ∙ get_or-append_seam before (codes "split") (number ∷ policy) [])

pub other_word : (word text : List ℕ) (b : Bool) → b ≡ not (bytes_eq word text) → b ≡ true → word ≡ text → ⊥
other_word word text b e t same = let both : true ≡ false = sym t ∙ e ∙ ap not ((bytes_eq-Decides word text).1 same) in absurd (cc)

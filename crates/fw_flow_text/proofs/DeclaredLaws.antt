-- What lines declare, and the rules that they break.
use Rattle.std.proofs.Common.{◌≡◌, ℕ, Bool, true, false, ◌||◌, cond, List, [], ◌∷◌, ◌++◌, map, Option, Some, None, refl, sym, ◌∙◌, ap, subst, append_assoc, ◌⊎◌, inl, inr}
use Rattle.std.proofs.lemmas.List.{append-nil, map-append}
use Rattle.std.proofs.lemmas.List.Elements.{filter-append}
use Rattle.std.proofs.lemmas.Option.{same_Some}
use Rattle.std.specs.Prelude.{codes}
use Rattle.std.specs.List.{AllByRecursion, filter, list_any}
use Rattle.std.specs.Option.{option_and_then}
use Rattle.fw_lines.specs.declared.refusal.Code.{Code}
use Rattle.fw_lines.specs.declared.refusal.Code.TheVariants.{F1, F2, F10}
use Rattle.fw_lines.specs.Faults.{BreakNoRule}
use Rattle.fw_lines.specs.Lines.{Said}
use Rattle.fw_lines.proofs.FaultLaws.{AreExact, told_none, IsSoundSoFar, none_judged, sound_more, none_left}
use Rattle.fw_flow.specs.Declaring.{Declaration}
use Rattle.fw_flow.specs.declared.raw.Declaration.TheVariants.{Loop, Node, Edge}
use Rattle.fw_flow.specs.Declaring.{Declared}
use Rattle.fw_flow.specs.Raw.{is_new}
use Rattle.fw_flow_text.specs.Grammar.{AreWordsOf, are_there, line_of, Declare, is_large_number, capped, HaveFormOf, BreakAfter, Breaks}
use Rattle.fw_flow_text.specs.Spelled.{declaration_words, IsWritable}
use Rattle.fw_flow_text.proofs.Reading.{declaration_of, name_fault, form_fault, words_fault, declared_in}
use Rattle.fw_flow_text.proofs.ReadingLaws.{read_declared, declared_read, one_declaration}

-- ---- what lines declare, from the front

-- the lines with words
abbrev speaking : List Said → List Said
speaking lines = filter (λ line. are_there line.words) lines

abbrev AreWritable : List Declared → Type 0
AreWritable declared = AllByRecursion (λ d. IsWritable d.declaration) declared

-- a declaration, on the line of this number
abbrev pub on_line : ℕ → Declaration → Declared
on_line number declaration = record { line = number; declaration = declaration }

no_words : (words : List (List ℕ)) → are_there words ≡ false → words ≡ []
no_words [] e = refl
no_words (word ∷ words) e = absurd (cc)

-- a declaration has words
spoken : (declaration : Declaration) → are_there (declaration_words declaration) ≡ true
spoken (Loop name max parent) = refl
spoken (Node name kind policy split part) = refl
spoken (Edge name sender receiver) = refl

not_silent : (words : List (List ℕ)) (declaration : Declaration) → words ≡ declaration_words declaration → words ≡ [] → ⊥
not_silent words declaration e f = let h : true ≡ false = sym (spoken declaration) ∙ ap are_there (sym e ∙ f) in absurd (cc)

-- what the first line declares, if anything, and the others declare the rest
pub record DeclaresFirst (line : Said) (lines : List Said) (declared : List Declared) : Type 0 where
  pub declaration : Declaration
  pub others : List Declared
  pub all : declared ≡ on_line line.number declaration ∷ others
  pub words : AreWordsOf line.words declaration
  pub rest : Declare lines others

pub front : (line : Said) (lines : List Said) (declared : List Declared) → Declare (line ∷ lines) declared
    → ((line.words ≡ []) × Declare lines declared) ⊎ DeclaresFirst line lines declared
front line lines declared h = by (are_there line.words) refl declared h.written h.writable
  where
    by : (b : Bool) → are_there line.words ≡ b → (ds : List Declared) → cond b (line ∷ speaking lines) (speaking lines) ≡ map line_of ds → AreWritable ds
        → ((line.words ≡ []) × Declare lines ds) ⊎ DeclaresFirst line lines ds
    by false e ds w a = inl (no_words line.words e, record { written = w; writable = a })
    by true e [] w a = absurd (cc)
    by true e (d ∷ ds) w a =
        let same : line ≡ line_of d = cc in
        let rest : speaking lines ≡ map line_of ds = cc in
        inr (record {
          declaration = d.declaration;
          others = ds;
          all = ap (λ (l : Said). on_line l.number d.declaration ∷ ds) (sym same);
          words = record { same = ap (λ (l : Said). l.words) same; writable = a.0 };
          rest = record { written = rest; writable = a.1 };
        })

pub declare_none : Declare [] []
declare_none = record { written = refl; writable = tt }

declare_silent : (line : Said) (lines : List Said) (declared : List Declared) → line.words ≡ [] → Declare lines declared → Declare (line ∷ lines) declared
declare_silent line lines declared e h = record {
  written = ap (λ ws. cond (are_there ws) (line ∷ speaking lines) (speaking lines)) e ∙ h.written;
  writable = h.writable;
}

declare_first : (line : Said) (lines : List Said) (declaration : Declaration) (others : List Declared) → AreWordsOf line.words declaration → Declare lines others → Declare (line ∷ lines) (on_line line.number declaration ∷ others)
declare_first line lines declaration others w h = record {
  written =
      ap (λ b. cond b (line ∷ speaking lines) (speaking lines)) (ap are_there w.same ∙ spoken declaration)
      ∙ ap (λ ws. record { number = line.number; words = ws } ∷ speaking lines) w.same
      ∙ ap (λ ls. line_of (on_line line.number declaration) ∷ ls) h.written;
  writable = (w.writable, h.writable);
}

nothing : (declared : List Declared) → [] ≡ map line_of declared → declared ≡ []
nothing [] e = refl
nothing (d ∷ ds) e = absurd (cc)

-- lines declare one thing
pub one_declared : (lines : List Said) (a b : List Declared) → Declare lines a → Declare lines b → a ≡ b
one_declared [] a b h k = nothing a h.written ∙ sym (nothing b k.written)
one_declared (line ∷ lines) a b h k = by (front line lines a h) (front line lines b k) (one_declared lines)
  where
    by : ((line.words ≡ []) × Declare lines a) ⊎ DeclaresFirst line lines a → ((line.words ≡ []) × Declare lines b) ⊎ DeclaresFirst line lines b
        → ((x y : List Declared) → Declare lines x → Declare lines y → x ≡ y) → a ≡ b
    by (inl x) (inl y) rest = rest a b x.1 y.1
    by (inl x) (inr y) rest = absurd (not_silent line.words y.declaration y.words.same x.0)
    by (inr x) (inl y) rest = absurd (not_silent line.words x.declaration x.words.same y.0)
    by (inr x) (inr y) rest =
        x.all
        ∙ ap (λ d. on_line line.number d ∷ x.others) (one_declaration line.words x.declaration y.declaration x.words y.words)
        ∙ ap (λ ds. on_line line.number y.declaration ∷ ds) (rest x.others y.others x.rest y.rest)
        ∙ sym y.all

-- lines declare something, or nothing that they could declare
declared_or_not : (lines : List Said) → ((declared : List Declared) × Declare lines declared) ⊎ ((declared : List Declared) → Declare lines declared → ⊥)
declared_or_not [] = inl ([], declare_none)
declared_or_not (line ∷ lines) = by (are_there line.words) refl (declaration_of line.words) refl (declared_or_not lines)
  where
    by : (b : Bool) → are_there line.words ≡ b → (o : Option Declaration) → declaration_of line.words ≡ o
        → ((declared : List Declared) × Declare lines declared) ⊎ ((declared : List Declared) → Declare lines declared → ⊥)
        → ((declared : List Declared) × Declare (line ∷ lines) declared) ⊎ ((declared : List Declared) → Declare (line ∷ lines) declared → ⊥)
    by false e o f (inl rest) = inl (rest.0, declare_silent line lines rest.0 (no_words line.words e) rest.1)
    by false e o f (inr none) = inr (λ ds h. elim (front line lines ds h) [
      | inl x ↦ none ds x.1
      | inr y ↦ not_silent line.words y.declaration y.words.same (no_words line.words e)
    ])
    by true e None f rest = inr (λ ds h. elim (front line lines ds h) [
      | inl x ↦ let k : true ≡ false = sym e ∙ ap are_there x.0 in absurd (cc)
      | inr y ↦ let k : None ≡ Some y.declaration = sym f ∙ declared_read line.words y.declaration y.words in absurd (cc)
    ])
    by true e (Some d) f (inl rest) = inl (on_line line.number d ∷ rest.0, declare_first line lines d rest.0 (read_declared line.words d f) rest.1)
    by true e (Some d) f (inr none) = inr (λ ds h. elim (front line lines ds h) [
      | inl x ↦ none ds x.1
      | inr y ↦ none y.others y.rest
    ])

-- ---- a line more

all_push : (ds : List Declared) (d : Declared) → AreWritable ds → IsWritable d.declaration → AreWritable (ds ++ d ∷ [])
all_push [] d a w = (w, tt)
all_push (x ∷ ds) d a w = (a.0, all_push ds d a.1 w)

pub declare_push : (done : List Said) (raw : List Declared) (line : Said) (declaration : Declaration) → Declare done raw → AreWordsOf line.words declaration → Declare (done ++ line ∷ []) (raw ++ on_line line.number declaration ∷ [])
declare_push done raw line declaration h w =
    let last = declare_first line [] declaration [] w declare_none in
    record {
      written =
          filter-append (λ (l : Said). are_there l.words) done (line ∷ [])
          ∙ ap (λ ls. ls ++ speaking (line ∷ [])) h.written
          ∙ ap (λ ls. map line_of raw ++ ls) last.written
          ∙ sym (map-append line_of raw (on_line line.number declaration ∷ []));
      writable = all_push raw (on_line line.number declaration) h.writable w.writable;
    }

pub silent_push : (done : List Said) (raw : List Declared) (line : Said) → Declare done raw → line.words ≡ [] → Declare (done ++ line ∷ []) raw
silent_push done raw line h e = record {
  written =
      filter-append (λ (l : Said). are_there l.words) done (line ∷ [])
      ∙ ap (λ ws. speaking done ++ cond (are_there ws) (line ∷ []) []) e
      ∙ append-nil (speaking done)
      ∙ h.written;
  writable = h.writable;
}

small_word : (word : List ℕ) → is_large_number word ≡ false → capped word ≡ word
unfolding capped
small_word word e = ap (λ b. cond b (codes "0") word) e

-- words without a number that is too large stay as they are
pub small_words : (words : List (List ℕ)) → list_any (λ word. is_large_number word) words ≡ false → map capped words ≡ words
small_words [] e = refl
small_words (word ∷ words) e = by (is_large_number word) refl (list_any (λ w. is_large_number w) words) refl e (small_words words)
  where
    by : (b : Bool) → is_large_number word ≡ b → (c : Bool) → list_any (λ w. is_large_number w) words ≡ c → (b || c) ≡ false → (list_any (λ w. is_large_number w) words ≡ false → map capped words ≡ words)
        → capped word ∷ map capped words ≡ word ∷ words
    by true t c u r rest = absurd (cc)
    by false t true u r rest = absurd (cc)
    by false t false u r rest = ap (λ w. w ∷ map capped words) (small_word word t) ∙ ap (λ ws. word ∷ ws) (rest u)

-- the rule that words break after declarations
abbrev pub fault_after : List Declared → List (List ℕ) → Option Code
fault_after raw words = words_fault raw (map capped words) (list_any (λ word. is_large_number word) words)

-- what a line that breaks no rule declares comes last
pub declare_next : (done : List Said) (raw : List Declared) (number : ℕ) (words : List (List ℕ)) → Declare done raw → fault_after raw words ≡ None
    → Declare (done ++ record { number = number; words = words } ∷ []) (raw ++ declared_in number (declaration_of (map capped words)))
unfolding declaration_of
declare_next done raw number [] h none =
    let line : Said = record { number = number; words = [] } in
    subst (Declare (done ++ line ∷ [])) (sym (append-nil raw)) (silent_push done raw line h refl)
declare_next done raw number (word ∷ rest) h none = by (declaration_of (map capped (word ∷ rest))) refl (list_any (λ w. is_large_number w) (word ∷ rest)) refl none
  where
    words : List (List ℕ)
    words = word ∷ rest

    by : (o : Option Declaration) → declaration_of (map capped words) ≡ o → (b : Bool) → list_any (λ w. is_large_number w) words ≡ b → form_fault raw o b ≡ None
        → Declare (done ++ record { number = number; words = words } ∷ []) (raw ++ declared_in number o)
    by None e b t r = absurd (cc)
    by (Some d) e true t r = absurd (cc)
    by (Some d) e false t r = declare_push done raw (record { number = number; words = words }) d h (subst (λ ws. AreWordsOf ws d) (small_words words t) (read_declared (map capped words) d e))

-- ---- rules

-- the rule that is told is broken
pub rule_from_fault : (raw : List Declared) (words : List (List ℕ)) (code : Code) → fault_after raw words ≡ Some code → BreakAfter raw words code
rule_from_fault raw [] code e = absurd (cc)
rule_from_fault raw (word ∷ rest) code e = by (declaration_of (map capped (word ∷ rest))) refl (list_any (λ w. is_large_number w) (word ∷ rest)) refl e
  where
    words : List (List ℕ)
    words = word ∷ rest

    named : (d : Declaration) → HaveFormOf words d → list_any (λ w. is_large_number w) words ≡ false → (n : Bool) → is_new raw d ≡ n → name_fault n ≡ Some code → BreakAfter raw words code
    named d h t true n r = absurd (cc)
    named d h t false n r = let same : F2 ≡ code = cc in subst (BreakAfter raw words) same (d, h, t, n)

    by : (o : Option Declaration) → declaration_of (map capped words) ≡ o → (b : Bool) → list_any (λ w. is_large_number w) words ≡ b → form_fault raw o b ≡ Some code → BreakAfter raw words code
    by None e b t r =
        let same : F1 ≡ code = cc in
        subst (BreakAfter raw words) same (λ f. absurd (cc), λ d h. let k : None ≡ Some d = sym e ∙ declared_read (map capped words) d h in absurd (cc))
    by (Some d) e true t r = let same : F10 ≡ code = cc in subst (BreakAfter raw words) same (d, read_declared (map capped words) d e, t)
    by (Some d) e false t r = named d (read_declared (map capped words) d e) t (is_new raw d) refl r

pub formed : (raw : List Declared) (words : List (List ℕ)) (d : Declaration) (large : Bool) → HaveFormOf words d → list_any (λ w. is_large_number w) words ≡ large → fault_after raw words ≡ form_fault raw (Some d) large
unfolding declaration_of
formed raw [] d large h t = let k : None ≡ Some d = declared_read [] d h in absurd (cc)
formed raw (word ∷ rest) d large h t =
    ap (λ o. form_fault raw o (list_any (λ w. is_large_number w) (word ∷ rest))) (declared_read (map capped (word ∷ rest)) d h) ∙ ap (form_fault raw (Some d)) t

unformed : (raw : List Declared) (words : List (List ℕ)) → (words ≡ [] → ⊥) → ((d : Declaration) → HaveFormOf words d → ⊥) → fault_after raw words ≡ Some F1
unformed raw [] some none = absurd (some refl)
unformed raw (word ∷ rest) some none = by (declaration_of (map capped (word ∷ rest))) refl
  where
    by : (o : Option Declaration) → declaration_of (map capped (word ∷ rest)) ≡ o → fault_after raw (word ∷ rest) ≡ Some F1
    by None e = ap (λ o. form_fault raw o (list_any (λ w. is_large_number w) (word ∷ rest))) e
    by (Some d) e = absurd (none d (read_declared (map capped (word ∷ rest)) d e))

-- and a rule that is broken is told
pub fault_from_rule : (raw : List Declared) (words : List (List ℕ)) (code : Code) → BreakAfter raw words code → fault_after raw words ≡ Some code
fault_from_rule raw words F1 h = unformed raw words h.0 h.1
fault_from_rule raw words F10 h = formed raw words h.0 true h.1 h.2
fault_from_rule raw words F2 h = formed raw words h.0 false h.1 h.2 ∙ ap name_fault h.3
fault_from_rule raw words code h = absurd h

-- a line that is told no rule breaks none
pub no_rule : (before : List Said) (line : Said) (raw : List Declared) → Declare before raw → fault_after raw line.words ≡ None → (code : Code) → Breaks before line code → ⊥
no_rule before line raw h none code b =
    let same = one_declared before b.0 raw b.1 h in
    let told : None ≡ Some code = sym none ∙ ap (λ ds. fault_after ds line.words) (sym same) ∙ fault_from_rule b.0 line.words code b.2 in
    absurd (cc)

-- a line breaks one rule or none, and no two
pub breaks_exact : AreExact Breaks
breaks_exact = record { decided = λ before line. decide before line (declared_or_not before); no_two = one_rule }
  where
    one_rule : (before : List Said) (line : Said) (r s : Code) → Breaks before line r → Breaks before line s → r ≡ s
    one_rule before line r s a b =
        let same = one_declared before a.0 b.0 a.1 b.1 in
        let first = fault_from_rule a.0 line.words r a.2 in
        let second = fault_from_rule b.0 line.words s b.2 in
        let both : Some r ≡ Some s = sym first ∙ ap (λ raw. fault_after raw line.words) same ∙ second in
        cc

    by_fault : (before : List Said) (line : Said) (raw : List Declared) → Declare before raw → (o : Option Code) → fault_after raw line.words ≡ o
        → ((code : Code) × Breaks before line code) ⊎ ((code : Code) → Breaks before line code → ⊥)
    by_fault before line raw h (Some code) e = inl (code, (raw, h, rule_from_fault raw line.words code e))
    by_fault before line raw h None e = inr (no_rule before line raw h e)

    decide : (before : List Said) (line : Said) → ((declared : List Declared) × Declare before declared) ⊎ ((declared : List Declared) → Declare before declared → ⊥)
        → ((code : Code) × Breaks before line code) ⊎ ((code : Code) → Breaks before line code → ⊥)
    decide before line (inr none) = inr (λ code b. none b.0 b.1)
    decide before line (inl raw) = by_fault before line raw.0 raw.1 (fault_after raw.0 line.words) refl

-- ---- lines that are known

-- the declarations behind which the next line stands, unless it breaks a rule
abbrev pub after_line : List Declared → Said → Option Code → Option (List Declared)
after_line raw line None = Some (raw ++ declared_in line.number (declaration_of (map capped line.words)))
after_line raw line (Some code) = None

-- what lines declare behind these declarations, unless one breaks a rule
abbrev pub read_lines : List Declared → List Said → Option (List Declared)
read_lines raw [] = Some raw
read_lines raw (line ∷ lines) = option_and_then (λ next. read_lines next lines) (after_line raw line (fault_after raw line.words))

lines_read : (all done left : List Said) (raw declared : List Declared) → Declare done raw → IsSoundSoFar Breaks all left done → read_lines raw left ≡ Some declared → BreakNoRule Breaks all × Declare all declared
lines_read all done [] raw declared h so_far e =
    let none = none_left Breaks all done so_far in
    (none.0, subst (λ ls. Declare ls declared) none.1 (subst (Declare done) (same_Some raw declared e) h))
lines_read all done (line ∷ left) raw declared h so_far e =
    by (fault_after raw line.words) refl e (λ next d s r. lines_read all (done ++ line ∷ []) left next declared d s r)
  where
    by : (o : Option Code) → fault_after raw line.words ≡ o → option_and_then (λ next. read_lines next left) (after_line raw line o) ≡ Some declared
        → ((next : List Declared) → Declare (done ++ line ∷ []) next → IsSoundSoFar Breaks all left (done ++ line ∷ []) → read_lines next left ≡ Some declared → BreakNoRule Breaks all × Declare all declared)
        → BreakNoRule Breaks all × Declare all declared
    by (Some code) t r rest = absurd (cc)
    by None t r rest =
        rest (raw ++ declared_in line.number (declaration_of (map capped line.words))) (declare_next done raw line.number line.words h t) (sound_more Breaks all done line left so_far (no_rule done line raw h t)) r

-- lines of which the declarations are computed so break no rule, and declare these
pub known_lines : (lines : List Said) (declared : List Declared) → read_lines [] lines ≡ Some declared → BreakNoRule Breaks lines × Declare lines declared
known_lines lines declared e = lines_read lines [] lines [] declared declare_none (none_judged Breaks lines) e

-- lines that break no rule declare something
pub declared_sound : (lines : List Said) → BreakNoRule Breaks lines → (declared : List Declared) × Declare lines declared
declared_sound lines sound = from [] lines [] refl declare_none
  where
    from : (done left : List Said) (raw : List Declared) → done ++ left ≡ lines → Declare done raw → (declared : List Declared) × Declare lines declared
    from done [] raw parts h = (raw, subst (λ ls. Declare ls raw) (sym (append-nil done) ∙ parts) h)
    from done (line ∷ left) raw parts h =
        let none : fault_after raw line.words ≡ None =
        told_none (fault_after raw line.words) (λ code e. sound done line left code parts (raw, h, rule_from_fault raw line.words code e)) in
        from (done ++ line ∷ []) left (raw ++ declared_in line.number (declaration_of (map capped line.words))) (append_assoc done (line ∷ []) left ∙ parts) (declare_next done raw line.number line.words h none)

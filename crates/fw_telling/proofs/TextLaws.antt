-- The texts of names, one more read.
use Rattle.std.proofs.Common.{◌≡◌, ◌||◌, ℕ, Bool, true, false, cond, List, [], ◌∷◌, ◌++◌, Option, Some, None, IfSome, is_some, string_bytes, option_map, find, refl, sym, ap, subst, ◌∙◌}
use Rattle.std.specs.List.{list_any}
use Rattle.std.specs.Str.{bytes_eq}
use Rattle.std.specs.Borrow.{Bor}
use Rattle.std.specs.Option.{option_copied, option_or}
use Rattle.std.proofs.lemmas.List.Folds.{list_any-append}
use Rattle.std.proofs.lemmas.Slice.Eq.{bytes_eq-Decides}
use Rattle.fw_telling.specs.declared.reading.Reading.{Reading}
use Rattle.fw_telling.specs.declared.read_folder.ReadText.{ReadText}
use Rattle.fw_telling.specs.Read.{AreTextsOf, MayComeOf, reading_under}

-- no texts are those of no names
pub no_texts : (known : List ℕ → Option (List ℕ)) (limit : ℕ) → AreTextsOf known limit [] []
no_texts known limit = record { named = λ name. refl; read = λ name. of (known name) }
  where
    of : (o : Option (List ℕ)) → IfSome o (λ bytes. IfSome None (MayComeOf limit bytes))
    of None = tt
    of (Some bytes) = tt

-- what came of reading the file of a name, with one more text behind the others
under-more : (texts : List ReadText) (t : ReadText) (n : List ℕ)
    → reading_under (texts ++ t ∷ []) n ≡ option_or (reading_under texts n) (cond (bytes_eq (string_bytes t.name) n) (Some t.reading) None)
under-more [] t n = by (bytes_eq (string_bytes t.name) n)
  where
    by : (b : Bool) → option_map (λ (text : ReadText). text.reading) (cond b (Some t) None) ≡ option_or None (cond b (Some t.reading) None)
    by true = refl
    by false = refl
under-more (x ∷ texts) t n = by (bytes_eq (string_bytes x.name) n) (under-more texts t n)
  where
    by : (b : Bool)
        → option_map (λ (text : ReadText). text.reading) (find (λ (text : ReadText). bytes_eq (string_bytes text.name) n) (texts ++ t ∷ []))
        ≡ option_or
        (option_map (λ (text : ReadText). text.reading) (find (λ (text : ReadText). bytes_eq (string_bytes text.name) n) texts))
        (cond (bytes_eq (string_bytes t.name) n) (Some t.reading) None)
        → option_map (λ (text : ReadText). text.reading) (cond b (Some x) (find (λ (text : ReadText). bytes_eq (string_bytes text.name) n) (texts ++ t ∷ [])))
        ≡ option_or
        (option_map (λ (text : ReadText). text.reading) (cond b (Some x) (find (λ (text : ReadText). bytes_eq (string_bytes text.name) n) texts)))
        (cond (bytes_eq (string_bytes t.name) n) (Some t.reading) None)
    by true h = refl
    by false h = h

same_name : (asked name : List ℕ) → bytes_eq asked name ≡ true → name ≡ asked
same_name asked name e = sym ((bytes_eq-Decides asked name).0 e)

-- there is one more, of this name
one_name_more : (o : Option Reading) (b : Bool) (r : Reading) → is_some (option_or o (cond b (Some r) None)) ≡ (is_some o || (b || false))
one_name_more (Some x) b r = refl
one_name_more None true r = refl
one_name_more None false r = refl

-- a name that was asked for already is one of them
asked_again : (x y b : Bool) → x ≡ y → (b ≡ true → x ≡ true) → x ≡ (y || (b || false))
asked_again x true b e h = e
asked_again x false true e h = h refl
asked_again x false false e h = e

read_more : (limit : ℕ) (o : Option (List ℕ)) (under : Option Reading) (b : Bool) (r : Reading) → IfSome o (λ bytes. IfSome under (MayComeOf limit bytes))
    → (b ≡ true → IfSome o (λ bytes. MayComeOf limit bytes r)) → IfSome o (λ bytes. IfSome (option_or under (cond b (Some r) None)) (MayComeOf limit bytes))
read_more limit None under b r h k = tt
read_more limit (Some bytes) (Some x) b r h k = h
read_more limit (Some bytes) None true r h k = k refl
read_more limit (Some bytes) None false r h k = tt

more : (known : List ℕ → Option (List ℕ)) (limit : ℕ) (names : List (List ℕ)) (texts : List ReadText) (t : ReadText) → AreTextsOf known limit names texts
    → IfSome (known (string_bytes t.name)) (λ bytes. MayComeOf limit bytes t.reading) → AreTextsOf known limit (names ++ string_bytes t.name ∷ []) (texts ++ t ∷ [])
more known limit names texts t are came = record {
  named = λ n.
      ap is_some (under-more texts t n)
      ∙ one_name_more (reading_under texts n) (bytes_eq (string_bytes t.name) n) t.reading
      ∙ ap (λ b. b || (bytes_eq (string_bytes t.name) n || false)) (are.named n)
      ∙ sym (list_any-append (λ asked. bytes_eq asked n) names (string_bytes t.name ∷ []));
  read = λ n.
      subst (λ under. IfSome (known n) (λ bytes. IfSome under (MayComeOf limit bytes))) (sym (under-more texts t n))
      (read_more limit (known n) (reading_under texts n) (bytes_eq (string_bytes t.name) n) t.reading (are.read n)
      (λ e. subst (λ m. IfSome (known m) (λ bytes. MayComeOf limit bytes t.reading)) (sym (same_name (string_bytes t.name) n e)) came));
}

-- a text behind the others is that of one name more
pub with_text : (known : List ℕ → Option (List ℕ)) (limit : ℕ) (names : List (List ℕ)) (texts : List ReadText) (t : ReadText) (name : List ℕ)
    → AreTextsOf known limit names texts → string_bytes t.name ≡ name → IfSome (known name) (λ bytes. MayComeOf limit bytes t.reading)
    → AreTextsOf known limit (names ++ name ∷ []) (texts ++ t ∷ [])
with_text known limit names texts t name are is came =
    subst (λ n. AreTextsOf known limit (names ++ n ∷ []) (texts ++ t ∷ [])) is
    (more known limit names texts t are (subst (λ n. IfSome (known n) (λ bytes. MayComeOf limit bytes t.reading)) (sym is) came))

-- a name of which there is a text may be asked for again
pub with_name : (known : List ℕ → Option (List ℕ)) (limit : ℕ) (names : List (List ℕ)) (texts : List ReadText) (name : List ℕ)
    → AreTextsOf known limit names texts → is_some (reading_under texts name) ≡ true → AreTextsOf known limit (names ++ name ∷ []) texts
with_name known limit names texts name are there = record {
  named = λ n.
      asked_again (is_some (reading_under texts n)) (list_any (λ asked. bytes_eq asked n) names) (bytes_eq name n) (are.named n)
      (λ e. subst (λ m. is_some (reading_under texts m) ≡ true) (sym (same_name name n e)) there)
      ∙ sym (list_any-append (λ asked. bytes_eq asked n) names (name ∷ []));
  read = are.read;
}

copied : (r : Option (Bor Reading)) → is_some (option_copied r) ≡ is_some r
copied None = refl
copied (Some x) = refl

-- whether there is a text of a name, as it was looked for
pub there_is : (texts : List ReadText) (name : List ℕ) (r : Option (Bor Reading)) (b : Bool) → option_copied r ≡ reading_under texts name → is_some r ≡ b
    → is_some (reading_under texts name) ≡ b
there_is texts name r b e k = ap is_some (sym e) ∙ copied r ∙ k

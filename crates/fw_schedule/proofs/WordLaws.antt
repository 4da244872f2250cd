-- Names, numbers and stamps as the words of a line, and that they are read as what they are.
use Rattle.std.proofs.Common.{◌≡◌, ℕ, suc, ◌<◌, ◌^◌, nat_le, nat_lt, Bool, true, false, cond, List, [], ◌∷◌, ◌++◌, length, map, get_or, Some, None, refl, sym, ◌∙◌, ap, inl, inr, arith}
use Rattle.std.proofs.lemmas.Bool.{and_from, and_parts, cases_lt}
use Rattle.std.proofs.lemmas.Bool.Decides.{nat_tests}
use Rattle.std.proofs.lemmas.Fmt.{decimal_nonempty}
use Rattle.std.proofs.lemmas.List.{append-nil, get_or-map, get_or_past, length-append, length-map}
use Rattle.std.proofs.lemmas.List.Elements.{All-from_recursion}
use Rattle.std.proofs.lemmas.List.Folds.{list_all-append}
use Rattle.std.proofs.lemmas.List.Splits.{slice_split_at, slice_split_none}
use Rattle.std.proofs.lemmas.List.Sums.{position_or_len_is}
use Rattle.std.proofs.lemmas.Map.Keys.{apart_from_distinct}
use Rattle.std.proofs.lemmas.Slice.Eq.{bytes_eq-Decides}
use Rattle.std.specs.Char.{is_ascii_digit}
use Rattle.std.specs.Fmt.{decimal}
use Rattle.std.specs.List.{AllByRecursion, All, IsDistinct, list_all, slice_split}
use Rattle.std.specs.Str.{bytes_eq}
use Rattle.std.specs.Str.Parse.{digits_value}
use Rattle.fw_lemmas.proofs.Each.{each-append}
use Rattle.fw_time.specs.Stamp.{Stamp, leq, in_domain}
use Rattle.fw_time.specs.StampText.{dots_text, stamp_text}
use Rattle.fw_time.proofs.DomainLaws.{domain-leq}
use Rattle.fw_lines.specs.Lines.{is_word}
use Rattle.fw_lines.specs.Spelling.{is_numeral}
use Rattle.fw_flow.specs.FullNames.{is_full_name}
use Rattle.fw_lines.specs.Written.{is_in_words, is_plain}
use Rattle.fw_flow.specs.declared.kind.Domain.{Domain}
use Rattle.fw_flow.specs.declared.kind.Domain.TheVariants.{Epoch, Number, Loop as InLoop}
use Rattle.fw_flow.specs.declared.node.Edge.{Edge}
use Rattle.fw_flow.specs.declared.node.Loop.{Loop}
use Rattle.fw_flow.specs.declared.node.Node.{Node}
use Rattle.fw_flow.specs.Dataflow.{Dataflow, node_at, bounds_of, domain_of, loops_of, parent_of, max_of, greatest_in, greatest_of, idle_node}
use Rattle.fw_flow.specs.DomainText.{name_of_edge}
use Rattle.fw_flow.specs.Names.{place_of}
use Rattle.fw_flow.specs.WellFormed.{IsWellFormed}
use Rattle.fw_flow.proofs.FullNameLaws.{full_name_bytes, is_in_full_names}
use Rattle.fw_schedule.specs.Names.{node_with_name, edge_named}
use Rattle.fw_schedule.specs.Stamps.{coordinates, is_dot, is_stamp, stamp_spelled}
use Rattle.fw_lines.proofs.DecimalLaws.{decimal_digits, decimal_numeral, decimal_value}

-- ---- words

digit_in_words : (b : ℕ) → is_ascii_digit b ≡ true → is_in_words b ≡ true
digit_in_words b h = grind (arith, nat_tests, h)

each_in_words : (test : ℕ → Bool) → ((b : ℕ) → test b ≡ true → is_in_words b ≡ true) → (bs : List ℕ) → list_all test bs ≡ true → list_all is_in_words bs ≡ true
each_in_words test f [] h = refl
each_in_words test f (b ∷ bs) h =
    let parts = and_parts (test b) (list_all test bs) h in
    and_from (is_in_words b) (list_all is_in_words bs) (f b parts.0) (each_in_words test f bs parts.1)

full_in_words : (b : ℕ) → is_in_full_names b ≡ true → is_in_words b ≡ true
full_in_words b h = grind (arith, nat_tests, h)

full-some : (bs : List ℕ) → is_full_name bs ≡ true → is_word bs ≡ true
full-some [] h = absurd (cc)
full-some (b ∷ bs) h = refl

-- a full name can be a word
pub plain-name : (name : List ℕ) → is_full_name name ≡ true → is_plain name ≡ true
plain-name name h =
    and_from (is_word name) (list_all is_in_words name) (full-some name h) (each_in_words is_in_full_names full_in_words name (full_name_bytes name h))

some_word : (bs : List ℕ) → 0 < length bs → is_word bs ≡ true
some_word [] h = absurd (omega arith)
some_word (b ∷ bs) h = refl

-- so can a number
pub plain-number : (n : ℕ) → n < 2 ^ 64 → is_plain (decimal n) ≡ true
plain-number n h =
    and_from (is_word (decimal n)) (list_all is_in_words (decimal n)) (some_word (decimal n) (decimal_nonempty n h))
    (each_in_words is_ascii_digit digit_in_words (decimal n) (decimal_digits n h))

-- ---- names

other_way : (a b : List ℕ) → bytes_eq a b ≡ false → bytes_eq b a ≡ false
other_way a b h = by (bytes_eq b a) refl
  where
    by : (c : Bool) → bytes_eq b a ≡ c → c ≡ false
    by false e = refl
    by true e = let same = (bytes_eq-Decides b a).0 e in sym ((bytes_eq-Decides a b).1 (sym same)) ∙ h

-- the place of a name among distinct ones is its own
own_place : (names : List (List ℕ)) (name : List ℕ) (i : ℕ) → IsDistinct bytes_eq names → i < length names → get_or names i [] ≡ name → place_of name names ≡ Some i
own_place names name i once lt is =
    let first =
    position_or_len_is (bytes_eq name) names i [] (omega (arith, lt))
    (λ k below. other_way (get_or names k []) name (ap (bytes_eq (get_or names k [])) (sym is) ∙ apart_from_distinct bytes_eq names k i [] once below lt))
    (λ h. (bytes_eq-Decides name (get_or names i [])).1 (sym is)) in
    let there : nat_lt i (length names) ≡ true = grind (arith, nat_tests, lt) in
    ap (λ n. cond (nat_lt n (length names)) (Some n) None) first ∙ ap (λ b. cond b (Some i) None) there

-- a node is found by its name
pub node_found : (flow : Dataflow) (p : ℕ) → IsDistinct bytes_eq (map (λ (n : Node). n.name) flow.nodes) → p < length flow.nodes → node_with_name flow (node_at flow p).name ≡ Some p
unfolding node_at
node_found flow p once lt =
    let name = λ (n : Node). n.name in
    own_place (map name flow.nodes) (node_at flow p).name p once (omega (arith, lt, length-map flow.nodes name)) (get_or-map name flow.nodes p idle_node [] lt)

-- so is an edge
pub edge_found : (flow : Dataflow) (e : ℕ) → IsDistinct bytes_eq (map (λ (e : Edge). e.name) flow.edges) → e < length flow.edges → edge_named flow (name_of_edge flow e) ≡ Some e
edge_found flow e once lt =
    let name = λ (e : Edge). e.name in
    own_place (map name flow.edges) (name_of_edge flow e) e once (omega (arith, lt, length-map flow.edges name))
    (get_or-map name flow.edges e (record { name = []; sender = length flow.nodes; receiver = length flow.nodes }) [] lt)

-- ---- stamps

-- some coordinates, each below 2^64
pub record IsSpelled (t : Stamp) : Type 0 where
  pub some : 0 < length t
  pub fit : AllByRecursion (λ c. c < 2 ^ 64) t

digit_no_dot : (b : ℕ) → is_ascii_digit b ≡ true → is_dot b ≡ false
digit_no_dot b h = grind (arith, nat_tests, h)

digits_no_dot : (ds : List ℕ) → list_all is_ascii_digit ds ≡ true → AllByRecursion (λ b. is_dot b ≡ false) ds
digits_no_dot [] h = tt
digits_no_dot (d ∷ ds) h = let parts = and_parts (is_ascii_digit d) (list_all is_ascii_digit ds) h in (digit_no_dot d parts.0, digits_no_dot ds parts.1)

no_dots : (n : ℕ) → n < 2 ^ 64 → All (λ b. is_dot b ≡ false) (decimal n)
no_dots n h = All-from_recursion (λ b. is_dot b ≡ false) (decimal n) (digits_no_dot (decimal n) (decimal_digits n h))

coordinates_written : (x : ℕ) (s : Stamp) → AllByRecursion (λ c. c < 2 ^ 64) (x ∷ s) → coordinates (stamp_text (x ∷ s)) ≡ map decimal (x ∷ s)
coordinates_written x [] fit = ap (slice_split is_dot) (append-nil (decimal x)) ∙ slice_split_none is_dot (decimal x) (no_dots x fit.0)
coordinates_written x (y ∷ s) fit =
    slice_split_at is_dot (decimal x) 46 (stamp_text (y ∷ s)) (no_dots x fit.0) refl ∙ ap (λ cs. decimal x ∷ cs) (coordinates_written y s fit.1)

numerals : (s : Stamp) → AllByRecursion (λ c. c < 2 ^ 64) s → list_all is_numeral (map decimal s) ≡ true
numerals [] fit = refl
numerals (x ∷ s) fit = and_from (is_numeral (decimal x)) (list_all is_numeral (map decimal s)) (decimal_numeral x fit.0) (numerals s fit.1)

values : (s : Stamp) → AllByRecursion (λ c. c < 2 ^ 64) s → map (digits_value 10) (map decimal s) ≡ s
values [] fit = refl
values (x ∷ s) fit = ap (λ n. n ∷ map (digits_value 10) (map decimal s)) (decimal_value x fit.0) ∙ ap (λ ns. x ∷ ns) (values s fit.1)

-- a stamp is read as what it is
pub stamp_read : (t : Stamp) → IsSpelled t → (is_stamp (stamp_text t) ≡ true) × (stamp_spelled (stamp_text t) ≡ t)
stamp_read [] h = let no : ⊥ = omega (arith, h.some) in absurd no
stamp_read (x ∷ s) h = (
  ap (list_all is_numeral) (coordinates_written x s h.fit) ∙ numerals (x ∷ s) h.fit,
  ap (map (digits_value 10)) (coordinates_written x s h.fit) ∙ values (x ∷ s) h.fit,
)

dots_in_words : (s : Stamp) → AllByRecursion (λ c. c < 2 ^ 64) s → list_all is_in_words (dots_text s) ≡ true
dots_in_words [] fit = refl
dots_in_words (x ∷ s) fit =
    list_all-append is_in_words (decimal x) (dots_text s)
    ∙ and_from (list_all is_in_words (decimal x)) (list_all is_in_words (dots_text s)) (each_in_words is_ascii_digit digit_in_words (decimal x) (decimal_digits x fit.0)) (dots_in_words s fit.1)

word_before : (bs cs : List ℕ) → 0 < length bs → is_word (bs ++ cs) ≡ true
word_before [] cs h = absurd (omega arith)
word_before (b ∷ bs) cs h = refl

-- it can be a word
pub plain-stamp : (t : Stamp) → IsSpelled t → is_plain (stamp_text t) ≡ true
plain-stamp [] h = let no : ⊥ = omega (arith, h.some) in absurd no
plain-stamp (x ∷ s) h =
    and_from (is_word (stamp_text (x ∷ s))) (list_all is_in_words (stamp_text (x ∷ s))) (word_before (decimal x) (dots_text s) (decimal_nonempty x h.fit.0)) (dots_in_words (x ∷ s) h.fit)

-- ---- the stamps of a domain

leq-length : (s g : Stamp) → leq s g ≡ true → length s ≡ length g
leq-length [] [] e = refl
leq-length [] (d ∷ g) e = absurd cc
leq-length (c ∷ s) [] e = absurd cc
leq-length (c ∷ s) (d ∷ g) e = ap suc (leq-length s g (and_parts (nat_le c d) (leq s g) e).1)

fit-below : (s g : Stamp) → leq s g ≡ true → AllByRecursion (λ c. c < 2 ^ 64) g → AllByRecursion (λ c. c < 2 ^ 64) s
fit-below [] g e fit = tt
fit-below (c ∷ s) [] e fit = absurd cc
fit-below (c ∷ s) (d ∷ g) e fit =
    let two = and_parts (nat_le c d) (leq s g) e in
    (below c d two.0 fit.0, fit-below s g two.1 fit.1)
  where
    below : (c d : ℕ) → nat_le c d ≡ true → d < 2 ^ 64 → c < 2 ^ 64
    below c d le lt = grind (arith, nat_tests)

max-small : (flow : Dataflow) → IsWellFormed flow → (l : ℕ) → max_of flow l < 2 ^ 64
unfolding max_of
max-small flow w l = elim (cases_lt l (length flow.loops)) [
  | inl k ↦ let few = (w.limits.counters l k).1 in omega arith
  | inr past ↦
      let none = ap (λ (x : Loop). x.max) (get_or_past flow.loops l (record { name = []; max = 0; parent = None }) past) in omega arith
]

greatest-fits : (flow : Dataflow) → IsWellFormed flow → (ls : List ℕ) → IsSpelled (greatest_in flow ls)
greatest-fits flow w [] = record { some = omega arith; fit = (omega arith, tt) }
greatest-fits flow w (l ∷ ls) = nested (greatest_in flow ls) (max_of flow l) (greatest-fits flow w ls) (max-small flow w l)
  where
    nested : (s : Stamp) (c : ℕ) → IsSpelled s → c < 2 ^ 64 → IsSpelled (s ++ c ∷ [])
    nested s c h lt = record { some = omega (arith, length-append s (c ∷ [])); fit = each-append (λ c. c < 2 ^ 64) s (c ∷ []) h.fit (lt, tt) }

greatest-spelled : (flow : Dataflow) → IsWellFormed flow → (d : Domain) → IsSpelled (greatest_of flow d)
greatest-spelled flow w Epoch = greatest-fits flow w []
greatest-spelled flow w Number = greatest-fits flow w []
greatest-spelled flow w (InLoop l) = greatest-fits flow w (l ∷ loops_of flow (parent_of flow l))

-- a stamp of a node's domain has some coordinates, each below 2^64
pub stamp-spelled : (flow : Dataflow) → IsWellFormed flow → (p : ℕ) (t : Stamp) → in_domain (bounds_of flow p) t ≡ true → IsSpelled t
unfolding bounds_of
stamp-spelled flow w p t h =
    let greatest = greatest-spelled flow w (domain_of flow p) in
    let below = domain-leq (bounds_of flow p) t h in
    record { some = omega (arith, greatest.some, leq-length t (bounds_of flow p).greatest below); fit = fit-below t (bounds_of flow p).greatest below greatest.fit }

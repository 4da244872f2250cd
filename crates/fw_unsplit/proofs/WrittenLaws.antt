-- What accepted texts declare is as texts write it, and without the word it is accepted as it stands.
use Rattle.std.proofs.Common.{◌≡◌, inl, inr, ℕ, Bool, true, false, cond, ◌&&◌, List, [], ◌∷◌, ◌++◌, map, Option, Some, None, refl, sym, ap, ◌∙◌, subst}
use Rattle.std.proofs.lemmas.Bool.{cases_Bool, and_from}
use Rattle.std.specs.Prelude.{IfSome, filter}
use Rattle.std.specs.List.{AllByRecursion, flat_map}
use Rattle.std.specs.Option.{option_map_or, option_or}
use Rattle.std.specs.Str.{bytes_eq}
use Rattle.fw_lemmas.proofs.Each.{each-weaker}
use Rattle.fw_lines.specs.declared.refusal.Code.TheVariants.{F2}
use Rattle.fw_lines.specs.Lines.{Said, said_lines}
use Rattle.fw_lines.specs.Spelling.{is_name}
use Rattle.fw_flow.specs.Builder.{has_names}
use Rattle.fw_flow.specs.Check.{HasSplitNumber, IsChecked}
use Rattle.fw_flow.specs.Dataflow.{Dataflow}
use Rattle.fw_flow.specs.Declaring.{Declaration, Declared}
use Rattle.fw_flow.specs.declared.raw.Declaration.TheVariants.{Loop as ALoop, Node as ANode, Edge as AnEdge}
use Rattle.fw_flow.specs.Expand.{at_line, expand, expanded_one, replicas_declared, replicas_of_kind, split_edge, split_of}
use Rattle.fw_flow.specs.Kind.{loop_of_kind}
use Rattle.fw_flow.specs.PlainNames.{HasNoPart}
use Rattle.fw_flow.specs.Raw.{flow_of_declarations, is_new}
use Rattle.fw_flow.specs.WellFormed.{IsWellFormed}
use Rattle.fw_flow_text.specs.Grammar.{AreWordsOf, BreakAfter, IsAcceptedFlow, are_there, capped, line_of}
use Rattle.fw_flow_text.specs.Spelled.{IsName, IsWritable, declaration_words}
use Rattle.fw_flow_text.proofs.DeclaredLaws.{small_words}
use Rattle.fw_flow_text.proofs.PlainLaws.{small_declaration}
use Rattle.fw_split.specs.Unsplit.{AreNewInTurn, AreAsWritten, unsplit, without_word}
use Rattle.fw_split.proofs.InTurnLaws.{written-in_turn}

-- ---- what can be written has names that are names, and is no replica

if-named : (o : Option (List ℕ)) → IfSome o IsName → option_map_or is_name o true ≡ true
if-named None h = refl
if-named (Some name) h = h

writable-names : (d : Declaration) → IsWritable d → has_names d ≡ true
writable-names (ALoop name max parent) w = and_from (is_name name) (option_map_or is_name parent true) w.0 (if-named parent w.2)
writable-names (ANode name kind policy split part) w = and_from (is_name name) (option_map_or is_name (loop_of_kind kind) true) w.0 (if-named (loop_of_kind kind) w.1.loop_name)
writable-names (AnEdge name sender receiver) w =
    and_from (is_name name && is_name sender) (is_name receiver) (and_from (is_name name) (is_name sender) w.0 w.1) w.2

writable-part : (d : Declaration) → IsWritable d → HasNoPart d
writable-part (ALoop name max parent) w = tt
writable-part (ANode name kind policy split part) w = w.3
writable-part (AnEdge name sender receiver) w = tt

-- ---- the line of a declaration

-- the line on which a declaration stands, behind those of the declarations before it
record HasLine (lines : List Said) (front : List Declared) (d : Declared) : Type 0 where
  before : List Said
  line : Said
  after : List Said
  parts : before ++ line ∷ after ≡ lines
  earlier : filter (λ line. are_there line.words) before ≡ map line_of front
  is : line ≡ line_of d

heads : {A : Type 0} (x y : A) (xs ys : List A) → x ∷ xs ≡ y ∷ ys → (x ≡ y) × (xs ≡ ys)
heads x y xs ys h = (cc, cc)

has-line : (lines : List Said) (front : List Declared) (d : Declared) (back : List Declared)
    → filter (λ line. are_there line.words) lines ≡ map line_of (front ++ d ∷ back) → HasLine lines front d
has-line [] [] d back h = absurd (cc)
has-line [] (first ∷ front) d back h = absurd (cc)
has-line (line ∷ lines) [] d back h = by (are_there line.words) refl h (has-line lines [] d back)
  where
    rest : List Said
    rest = filter (λ line. are_there line.words) lines

    by : (b : Bool) → are_there line.words ≡ b → cond b (line ∷ rest) rest ≡ line_of d ∷ map line_of back
        → (rest ≡ line_of d ∷ map line_of back → HasLine lines [] d) → HasLine (line ∷ lines) [] d
    by true e h later = record { before = []; line = line; after = lines; parts = refl; earlier = refl; is = (heads line (line_of d) rest (map line_of back) h).0 }
    by false e h later =
        let l = later h in
        record {
          before = line ∷ l.before;
          line = l.line;
          after = l.after;
          parts = ap (λ ls. line ∷ ls) l.parts;
          earlier = ap (λ b. cond b (line ∷ filter (λ line. are_there line.words) l.before) (filter (λ line. are_there line.words) l.before)) e ∙ l.earlier;
          is = l.is;
        }
has-line (line ∷ lines) (first ∷ front) d back h =
    by (are_there line.words) refl h (has-line lines front d back) (has-line lines (first ∷ front) d back)
  where
    rest : List Said
    rest = filter (λ line. are_there line.words) lines

    by : (b : Bool) → are_there line.words ≡ b → cond b (line ∷ rest) rest ≡ line_of first ∷ map line_of (front ++ d ∷ back)
        → (rest ≡ map line_of (front ++ d ∷ back) → HasLine lines front d)
        → (rest ≡ line_of first ∷ map line_of (front ++ d ∷ back) → HasLine lines (first ∷ front) d) → HasLine (line ∷ lines) (first ∷ front) d
    by true e h next later =
        let both = heads line (line_of first) rest (map line_of (front ++ d ∷ back)) h in
        let l = next both.1 in
        record {
          before = line ∷ l.before;
          line = l.line;
          after = l.after;
          parts = ap (λ ls. line ∷ ls) l.parts;
          earlier =
              ap (λ b. cond b (line ∷ filter (λ line. are_there line.words) l.before) (filter (λ line. are_there line.words) l.before)) e
              ∙ ap (λ ls. line ∷ ls) l.earlier ∙ ap (λ x. x ∷ map line_of front) both.0;
          is = l.is;
        }
    by false e h next later =
        let l = later h in
        record {
          before = line ∷ l.before;
          line = l.line;
          after = l.after;
          parts = ap (λ ls. line ∷ ls) l.parts;
          earlier = ap (λ b. cond b (line ∷ filter (λ line. are_there line.words) l.before) (filter (λ line. are_there line.words) l.before)) e ∙ l.earlier;
          is = l.is;
        }

each-front : (P : Declared → Type 0) (front : List Declared) (d : Declared) (back : List Declared) → AllByRecursion P (front ++ d ∷ back) → AllByRecursion P front × P d
each-front P [] d back a = (tt, a.0)
each-front P (first ∷ front) d back a = let r = each-front P front d back a.1 in ((a.0, r.0), r.1)

-- each name is new where its line stands
pub new-in-turn : (text : List ℕ) (flow : Dataflow) → (accepted : IsAcceptedFlow text flow) → AreNewInTurn accepted.declared
new-in-turn text flow accepted front d back parts = elim (cases_Bool (is_new front d.declaration)) [
  | inl new ↦ new
  | inr taken ↦
      let l = has-line (said_lines text) front d back (accepted.written.written ∙ ap (map line_of) parts) in
      let w = each-front (λ d. IsWritable d.declaration) front d back (subst (AllByRecursion (λ d. IsWritable d.declaration)) parts accepted.written.writable) in
      let small = small_declaration d.declaration w.1 in
      let words = small_words (declaration_words d.declaration) small in
      let form : AreWordsOf (map capped (declaration_words d.declaration)) d.declaration = record { same = words; writable = w.1 } in
      let broken : BreakAfter front (declaration_words d.declaration) F2 = (d.declaration, form, small, taken) in
      absurd (accepted.sound.lines l.before l.line l.after F2 l.parts
      (front, record { written = l.earlier; writable = w.0 }, subst (λ line. BreakAfter front line.words F2) (sym l.is) broken))
]

pub are-written : (text : List ℕ) (flow : Dataflow) → (accepted : IsAcceptedFlow text flow) → AreAsWritten accepted.declared
are-written text flow accepted =
    let w = accepted.written.writable in
    written-in_turn accepted.declared
    (each-weaker (λ d. IsWritable d.declaration) (λ d. has_names d.declaration ≡ true) accepted.declared (λ d h. writable-names d.declaration h) w)
    (each-weaker (λ d. IsWritable d.declaration) (λ d. HasNoPart d.declaration) accepted.declared (λ d h. writable-part d.declaration h) w)
    (new-in-turn text flow accepted)

-- ---- without the word nothing is expanded

no-kind : (name : List ℕ) (d : Declaration) → replicas_declared name (without_word d) ≡ None
no-kind name (ALoop own max parent) = refl
no-kind name (ANode own kind policy split part) = by (bytes_eq name own)
  where
    by : (b : Bool) → cond b (replicas_of_kind kind None part) None ≡ None
    by true = refl
    by false = refl
no-kind name (AnEdge own sender receiver) = refl

no-split : (raw : List Declared) (name : List ℕ) → split_of (unsplit raw) name ≡ None
no-split [] name = refl
no-split (d ∷ raw) name = ap (λ o. option_or o (split_of (unsplit raw) name)) (no-kind name d.declaration) ∙ no-split raw name

-- a declaration without the word
abbrev plain : Declared → Declared
plain d = record { line = d.line; declaration = without_word d.declaration }

stays : (all : List Declared) (line : ℕ) (d : Declaration) → expanded_one (unsplit all) (plain (record { line = line; declaration = d })) ≡ plain (record { line = line; declaration = d }) ∷ []
stays all line (ALoop name max parent) = refl
stays all line (ANode name kind policy split part) = refl
stays all line (AnEdge name sender receiver) =
    ap (λ o. at_line line (option_map_or (split_edge name sender receiver) o (AnEdge name sender receiver ∷ []))) (no-split all receiver)

pub expand-plain : (raw : List Declared) → expand (unsplit raw) ≡ unsplit raw
expand-plain raw = each raw
  where
    each : (ds : List Declared) → flat_map (expanded_one (unsplit raw)) (unsplit ds) ≡ unsplit ds
    each [] = refl
    each (d ∷ ds) = ap (λ xs. xs ++ flat_map (expanded_one (unsplit raw)) (unsplit ds)) (stays raw d.line d.declaration) ∙ ap (λ xs. plain d ∷ xs) (each ds)

plain-number : (d : Declaration) → HasSplitNumber (without_word d)
plain-number (ALoop name max parent) = tt
plain-number (ANode name kind policy split part) = tt
plain-number (AnEdge name sender receiver) = tt

plain-numbers : (raw : List Declared) → AllByRecursion (λ d. HasSplitNumber d.declaration) (unsplit raw)
plain-numbers [] = tt
plain-numbers (d ∷ raw) = (plain-number d.declaration, plain-numbers raw)

pub checked-plain : (raw : List Declared) → IsWellFormed (flow_of_declarations (unsplit raw)) → IsChecked (expand (unsplit raw)) (flow_of_declarations (unsplit raw))
checked-plain raw w = record {
  well_formed = subst (λ ds. IsWellFormed (flow_of_declarations ds)) (sym (expand-plain raw)) w;
  split_numbers = subst (AllByRecursion (λ d. HasSplitNumber d.declaration)) (sym (expand-plain raw)) (plain-numbers raw);
  value = ap flow_of_declarations (sym (expand-plain raw));
}

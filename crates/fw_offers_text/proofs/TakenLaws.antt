-- What words say is taken, or the rule is the first that they break.
use Rattle.std.proofs.Common.{◌≡◌, ℕ, ◌<◌, Bool, true, false, cond, List, [], ◌∷◌, ◌++◌, map, length, Option, Some, None, Result, Ok, Err, refl, sym, ◌∙◌, ap, subst, arith}
use Rattle.std.specs.Prelude.{◌≢◌, MatchResult}
use Rattle.std.proofs.lemmas.List.{append-nil, length-map}
use Rattle.std.proofs.lemmas.List.Quantifiers.{position-Some}
use Rattle.std.specs.List.{cons_option}
use Rattle.std.specs.Option.{option_map, option_map_or, option_and_then, ok_or}
use Rattle.std.specs.Result.{result_ok}
use Rattle.std.specs.Str.{bytes_eq}
use Rattle.fw_flow.specs.declared.node.Edge.{Edge}
use Rattle.fw_flow.specs.declared.node.Node.{Node as FlowNode}
use Rattle.fw_flow.specs.Dataflow.{Dataflow}
use Rattle.fw_flow.specs.WellFormed.{IsWellFormed}
use Rattle.fw_schedule.specs.Names.{node_with_name, edge_named}
use Rattle.fw_offers_text.specs.declared.code.ChoiceCode.{ChoiceCode}
use Rattle.fw_offers_text.specs.declared.code.ChoiceCode.TheVariants.{O1, O2, O3, O4, O5, O6, O7}
use Rattle.fw_offers_text.specs.declared.form.OfferForm.{OfferForm}
use Rattle.fw_offers_text.specs.declared.form.OfferForm.TheVariants as form
use Rattle.fw_offers_text.specs.declared.statement.Statement.{Statement}
use Rattle.fw_offers_text.specs.declared.statement.Statement.TheVariants.{Node, Record, Range, Delivered, Sent, Notified, Counts}
use Rattle.fw_offers_text.specs.Draft.{Told, told_by, with_statement, fault_after, statements_said, StatementFits, IsOf, IsStatementTaken}
use Rattle.fw_offers_text.specs.Faults.{first_broken}
use Rattle.fw_offers_text.specs.Forms.{offer_form}
use Rattle.fw_offers_text.specs.Statements.{statement_said, stamps_spelled, record_statement, covers_said, counts_spelled, words_say, is_in_domains, in_its_domains, in_domains, is_of_its_kind, is_new_statement, is_in_order, is_record_told, statement_fault, stated, said_fault, offer_words_fault, IsStatementOf}
use Rattle.fw_offers_text.specs.Words.{Word}
use Rattle.fw_offers_text.proofs.DraftLaws.{place_of, statement_more, fault_told, new_from_no_fault}

-- ---- options

pub mapped-some : {A B : Type 0} (f : A → B) (o : Option A) (b : B) → option_map f o ≡ Some b → (a : A) × (o ≡ Some a) × (f a ≡ b)
mapped-some f None b e = absurd (cc)
mapped-some f (Some a) b e = (a, refl, cc)

pub bound-some : {A B : Type 0} (f : A → Option B) (o : Option A) (b : B) → option_and_then f o ≡ Some b → (a : A) × (o ≡ Some a) × (f a ≡ Some b)
bound-some f None b e = absurd (cc)
bound-some f (Some a) b e = (a, refl, e)

-- ---- names

pub named_node : (flow : Dataflow) (name : Word) (p : ℕ) → node_with_name flow name ≡ Some p → p < length flow.nodes
named_node flow name p e =
    let there = position-Some (bytes_eq name) (map (λ (n : FlowNode). n.name) flow.nodes) p name e in
    omega (arith, there.0, length-map flow.nodes (λ (n : FlowNode). n.name))

pub named_edge : (flow : Dataflow) (name : Word) (e : ℕ) → edge_named flow name ≡ Some e → e < length flow.edges
named_edge flow name p e =
    let there = position-Some (bytes_eq name) (map (λ (n : Edge). n.name) flow.edges) p name e in
    omega (arith, there.0, length-map flow.edges (λ (n : Edge). n.name))

-- what a line says is of nodes and edges of the dataflow
statement-of : (flow : Dataflow) (line : OfferForm) (s : Statement) → statement_said flow line ≡ Some s → IsStatementOf flow s
statement-of flow (form.Node name present) s e =
    let m = mapped-some (λ p. Node p present) (node_with_name flow name) s e in
    subst (IsStatementOf flow) m.2 (named_node flow name m.0 m.1)
statement-of flow (form.Record name front covers) s e =
    let m = bound-some (record_statement flow front covers) (node_with_name flow name) s e in
    let n = mapped-some (λ said. Record m.0 (stamps_spelled front) said) (covers_said flow m.0 covers) s m.2 in
    subst (IsStatementOf flow) n.2 (named_node flow name m.0 m.1)
statement-of flow (form.Range name least greatest and_all) s e =
    let m = mapped-some (λ p. Range p (stamps_spelled least) (stamps_spelled greatest) and_all) (node_with_name flow name) s e in
    subst (IsStatementOf flow) m.2 (named_node flow name m.0 m.1)
statement-of flow (form.Delivered name stamps) s e =
    let m = mapped-some (λ d. Delivered d (stamps_spelled stamps)) (edge_named flow name) s e in
    subst (IsStatementOf flow) m.2 (named_edge flow name m.0 m.1)
statement-of flow (form.Sent name stamps) s e =
    let m = mapped-some (λ d. Sent d (stamps_spelled stamps)) (edge_named flow name) s e in
    subst (IsStatementOf flow) m.2 (named_edge flow name m.0 m.1)
statement-of flow (form.Notified name stamps) s e =
    let m = mapped-some (λ p. Notified p (stamps_spelled stamps)) (node_with_name flow name) s e in
    subst (IsStatementOf flow) m.2 (named_node flow name m.0 m.1)
statement-of flow (form.Counts name counts) s e =
    let m = mapped-some (λ p. Counts p (counts_spelled counts)) (node_with_name flow name) s e in
    subst (IsStatementOf flow) m.2 (named_node flow name m.0 m.1)

place-of : (flow : Dataflow) (s : Statement) → IsWellFormed flow → IsStatementOf flow s → place_of flow s < length flow.nodes
place-of flow (Node p b) well h = h
place-of flow (Record p f covers) well h = h
place-of flow (Range p least greatest and_all) well h = h
place-of flow (Delivered d stamps) well h = well.receivers_declared d h
place-of flow (Sent e stamps) well h = well.senders_declared e h
place-of flow (Notified p stamps) well h = h
place-of flow (Counts p counts) well h = h

-- ---- the rules before kinds

said-ok : {E : Type 0} (o : Option Statement) (e : E) (s : Statement) → ok_or o e ≡ Ok s → o ≡ Some s
said-ok None e s h = absurd (cc)
said-ok (Some t) e s h = let k : t ≡ s = cc in ap Some k

kept-domains : (flow : Dataflow) (t s : Statement) (b : Bool) → is_in_domains flow t ≡ b → cond b (Ok t) (Err O3) ≡ Ok s → (t ≡ s) × (is_in_domains flow s ≡ true)
kept-domains flow t s true e h = let k : t ≡ s = cc in (k, subst (λ x. is_in_domains flow x ≡ true) k e)
kept-domains flow t s false e h = absurd (cc)

pub stated-ok : (flow : Dataflow) (line : OfferForm) (s : Statement) → stated flow line ≡ Ok s → (statement_said flow line ≡ Some s) × (is_in_domains flow s ≡ true)
stated-ok flow line s h = by (statement_said flow line) h
  where
    by : (o : Option Statement) → in_domains flow (ok_or o O2) ≡ Ok s → (o ≡ Some s) × (is_in_domains flow s ≡ true)
    by None k = absurd (cc)
    by (Some t) k = let d = kept-domains flow t s (is_in_domains flow t) refl k in (ap Some d.0, d.1)

out-of-domains : (flow : Dataflow) (said : List Statement) (t : Statement) (code : ChoiceCode) (b : Bool) → is_in_domains flow t ≡ b → cond b (Ok t) (Err O3) ≡ Err code → statement_fault flow said t ≡ Some code
out-of-domains flow said t code true e h = absurd (cc)
out-of-domains flow said t code false e h =
    let k : O3 ≡ code = cc in
    ap (λ b. first_broken ((O3, b) ∷ (O4, is_of_its_kind flow t) ∷ (O5, is_new_statement said t) ∷ (O6, is_in_order said t) ∷ (O7, is_record_told flow t) ∷ [])) e ∙ ap Some k

pub stated-err : (flow : Dataflow) (line : OfferForm) (code : ChoiceCode) (said : List Statement) → stated flow line ≡ Err code → said_fault flow said (ok_or (statement_said flow line) O2) ≡ Some code
stated-err flow line code said h = by (statement_said flow line) h
  where
    by : (o : Option Statement) → in_domains flow (ok_or o O2) ≡ Err code → said_fault flow said (ok_or o O2) ≡ Some code
    by None k = let e : O2 ≡ code = cc in ap Some e
    by (Some t) k = out-of-domains flow said t code (is_in_domains flow t) refl k

-- ---- words

with_form : (flow : Dataflow) (words : List Word) (o : Option OfferForm) → o ≡ offer_form words → words_say flow words ≡ option_map_or (λ line. ok_or (statement_said flow line) O2) o (Err O1)
with_form flow words o e = ap (λ x. option_map_or (λ line. ok_or (statement_said flow line) O2) x (Err O1)) (sym e)

-- words of no form
pub no_form : (flow : Dataflow) (words : List Word) (old new : Told) → None ≡ offer_form words → IsStatementTaken flow words old new (Err O1)
no_form flow words old new e = λ said h. ap (said_fault flow said) (with_form flow words None e)

-- words that break a rule before kinds
pub not_stated : (flow : Dataflow) (words : List Word) (line : OfferForm) (code : ChoiceCode) (old new : Told) → Some line ≡ offer_form words → Err code ≡ stated flow line → IsStatementTaken flow words old new (Err code)
not_stated flow words line code old new e f = λ said h. ap (said_fault flow said) (with_form flow words (Some line) e) ∙ stated-err flow line code said (sym f)

-- what a statement breaks or tells, as what words break or tell
pub taken_or_fault : (flow : Dataflow) (words : List Word) (line : OfferForm) (s : Statement) (old new : Told) (r : Result (Unit {0}) ChoiceCode) → IsWellFormed flow
    → Some line ≡ offer_form words → Ok s ≡ stated flow line
    → MatchResult r (λ done. (fault_after flow old s ≡ None) × (new ≡ with_statement flow old s)) (λ code. fault_after flow old s ≡ Some code)
    → IsStatementTaken flow words old new r
taken_or_fault flow words line s old new (Ok done) well e f h = λ said told.
    let stated_s = stated-ok flow line s (sym f) in
    let there = statement-of flow line s stated_s.0 in
    let place = place-of flow s well there in
    let say : words_say flow words ≡ Ok s = with_form flow words (Some line) e ∙ ap (λ o. ok_or o O2) stated_s.0 in
    let no_fault : fault_after flow (told_by flow said) s ≡ None = subst (λ t. fault_after flow t s ≡ None) told h.0 in (
      ap (said_fault flow said) say ∙ fault_told flow said s place there stated_s.1 ∙ no_fault,
      h.1 ∙ ap (λ t. with_statement flow t s) told ∙ statement_more flow said s place there (new_from_no_fault flow (told_by flow said) s no_fault)
          ∙ ap (λ r. told_by flow (said ++ cons_option (result_ok r) [])) (sym say),
    )
taken_or_fault flow words line s old new (Err code) well e f h = λ said told.
    let stated_s = stated-ok flow line s (sym f) in
    let there = statement-of flow line s stated_s.0 in
    let place = place-of flow s well there in
    let say : words_say flow words ≡ Ok s = with_form flow words (Some line) e ∙ ap (λ o. ok_or o O2) stated_s.0 in
    ap (said_fault flow said) say ∙ fault_told flow said s place there stated_s.1 ∙ subst (λ t. fault_after flow t s ≡ Some code) told h

-- what the code asks of a statement
pub statement_there : (flow : Dataflow) (line : OfferForm) (s : Statement) → Ok s ≡ stated flow line → IsStatementOf flow s
statement_there flow line s f = statement-of flow line s (stated-ok flow line s (sym f)).0

pub statement_small : (flow : Dataflow) (line : OfferForm) (s : Statement) → Ok s ≡ stated flow line → is_in_domains flow s ≡ true
statement_small flow line s f = (stated-ok flow line s (sym f)).1

pub statement_fits : (flow : Dataflow) (told : Told) (s : Statement) → IsOf flow told → IsStatementOf flow s → StatementFits told s
statement_fits flow told (Node p b) of h = omega (arith, h, of.nodes)
statement_fits flow told (Record p f covers) of h = omega (arith, h, of.nodes)
statement_fits flow told (Range p least greatest and_all) of h = omega (arith, h, of.nodes)
statement_fits flow told (Delivered d stamps) of h = omega (arith, h, of.edges)
statement_fits flow told (Sent e stamps) of h = omega (arith, h, of.edges)
statement_fits flow told (Notified p stamps) of h = omega (arith, h, of.nodes)
statement_fits flow told (Counts p counts) of h = omega (arith, h, of.nodes)

-- ---- lines

-- a line without words tells nothing
pub no_words : (flow : Dataflow) (words : List Word) (said : List Statement) (old : Told) → words ≡ [] → old ≡ told_by flow said
    → (offer_words_fault flow said words ≡ None) × (old ≡ told_by flow (said ++ statements_said flow words))
no_words flow [] said old e told = (refl, told ∙ ap (told_by flow) (sym (append-nil said)))
no_words flow (word ∷ words) said old e told = absurd (cc)

-- the rule of a line with words is that of its words
words_fault : (flow : Dataflow) (words : List Word) (said : List Statement) → words ≢ [] → offer_words_fault flow said words ≡ said_fault flow said (words_say flow words)
words_fault flow [] said some = absurd (some refl)
words_fault flow (word ∷ words) said some = refl

pub line_taken : (flow : Dataflow) (words : List Word) (old new : Told) (done : Unit {0}) (said : List Statement) → words ≢ [] → IsStatementTaken flow words old new (Ok done) → old ≡ told_by flow said
    → (offer_words_fault flow said words ≡ None) × (new ≡ told_by flow (said ++ statements_said flow words))
line_taken flow words old new done said some taken told = let h = taken said told in (words_fault flow words said some ∙ h.0, h.1)

pub line_broken : (flow : Dataflow) (words : List Word) (old new : Told) (code : ChoiceCode) (said : List Statement) → words ≢ [] → IsStatementTaken flow words old new (Err code) → old ≡ told_by flow said
    → offer_words_fault flow said words ≡ Some code
line_broken flow words old new code said some taken told = words_fault flow words said some ∙ taken said told

-- ---- a line of counts

pub stated_counts : (flow : Dataflow) (line : OfferForm) (name word : Word) (counts : List Word) (p : ℕ) (said : Result Statement ChoiceCode) → line ≡ form.Counts name counts → word ≡ name → Some p ≡ node_with_name flow word
    → said ≡ in_its_domains flow (Counts p (counts_spelled counts)) → said ≡ stated flow line
stated_counts flow line name word counts p said is bytes there e =
    e ∙ ap (λ o. in_domains flow (ok_or (option_map (λ q. Counts q (counts_spelled counts)) o) O2)) (there ∙ ap (node_with_name flow) bytes) ∙ ap (stated flow) (sym is)

-- Lines that break no rule say statements that break none.
use Rattle.std.proofs.Common.{◌≡◌, List, [], ◌∷◌, ◌++◌, Result, Ok, Err, refl, sym, ◌∙◌, ap, subst}
use Rattle.std.specs.List.{cons_option}
use Rattle.std.specs.Result.{result_ok}
use Rattle.fw_lines.specs.Lines.{Said}
use Rattle.fw_flow.specs.Dataflow.{Dataflow}
use Rattle.fw_offers_text.specs.declared.code.ChoiceCode.{ChoiceCode}
use Rattle.fw_offers_text.specs.declared.statement.Statement.{Statement}
use Rattle.fw_offers_text.specs.Faults.{BreakNoChoiceRule}
use Rattle.fw_offers_text.specs.Laws.{BreakNoneSaid}
use Rattle.fw_offers_text.specs.OffersGrammar.{offers_fault}
use Rattle.fw_offers_text.specs.Statements.{words_say, statements_of, offer_words_fault, said_fault, statement_fault}
use Rattle.fw_offers_text.specs.Words.{Word}
use Rattle.fw_offers_text.proofs.FaultLaws.{Told as Tells, told_none}

-- one of the lines says the statement, and those before it say these
record IsSpoken (flow : Dataflow) (lines : List Said) (said : List Statement) (s : Statement) : Type 0 where
  before : List Said
  line : Said
  after : List Said
  parts : before ++ line ∷ after ≡ lines
  earlier : statements_of flow before ≡ said
  here : words_say flow line.words ≡ Ok s

said-then : (flow : Dataflow) (l : Said) (ls : List Said) (r : Result Statement ChoiceCode) → words_say flow l.words ≡ r → statements_of flow (l ∷ ls) ≡ cons_option (result_ok r) (statements_of flow ls)
said-then flow l ls r e = ap (λ x. cons_option (result_ok x) (statements_of flow ls)) e

spoken-later : (flow : Dataflow) (l : Said) (ls : List Said) (r : Result Statement ChoiceCode) (said : List Statement) (s : Statement) → words_say flow l.words ≡ r → IsSpoken flow ls said s → IsSpoken flow (l ∷ ls) (cons_option (result_ok r) said) s
spoken-later flow l ls r said s e h = record {
  before = l ∷ h.before;
  line = h.line;
  after = h.after;
  parts = ap (λ xs. l ∷ xs) h.parts;
  earlier = said-then flow l h.before r e ∙ ap (cons_option (result_ok r)) h.earlier;
  here = h.here;
}

spoken : (flow : Dataflow) (lines : List Said) (said : List Statement) (s : Statement) (rest : List Statement) → said ++ s ∷ rest ≡ statements_of flow lines → IsSpoken flow lines said s
spoken flow [] [] s rest e = absurd (cc)
spoken flow [] (x ∷ said) s rest e = absurd (cc)
spoken flow (l ∷ ls) said s rest e = by (words_say flow l.words) refl said e (λ before k. spoken flow ls before s rest k)
  where
    by : (r : Result Statement ChoiceCode) → words_say flow l.words ≡ r → (before : List Statement) → before ++ s ∷ rest ≡ cons_option (result_ok r) (statements_of flow ls)
        → ((b : List Statement) → b ++ s ∷ rest ≡ statements_of flow ls → IsSpoken flow ls b s) → IsSpoken flow (l ∷ ls) before s
    by (Err code) h before k more = spoken-later flow l ls (Err code) before s h (more before k)
    by (Ok t) h [] k more =
        let same : s ≡ t = cc in
        record { before = []; line = l; after = ls; parts = refl; earlier = refl; here = h ∙ ap (λ x. Ok x) (sym same) }
    by (Ok t) h (x ∷ before) k more =
        let same : x ≡ t = cc in
        let rest_said : before ++ s ∷ rest ≡ statements_of flow ls = cc in
        subst (λ y. IsSpoken flow (l ∷ ls) (y ∷ before) s) (sym same) (spoken-later flow l ls (Ok t) before s h (more before rest_said))

words-fault : (flow : Dataflow) (said : List Statement) (words : List Word) (s : Statement) → words_say flow words ≡ Ok s → offer_words_fault flow said words ≡ statement_fault flow said s
words-fault flow said [] s e = absurd (cc)
words-fault flow said (word ∷ words) s e = ap (said_fault flow said) e

-- lines that break no rule say statements that break none
pub sound_said : (flow : Dataflow) (lines : List Said) → BreakNoChoiceRule (Tells (offers_fault flow)) lines → BreakNoneSaid flow (statements_of flow lines)
sound_said flow lines sound before s after e =
    let h = spoken flow lines before s after e in
    told_none (statement_fault flow before s) (λ code f. sound h.before h.line h.after code h.parts (words-fault flow (statements_of flow h.before) h.line.words s h.here ∙ ap (λ said. statement_fault flow said s) h.earlier ∙ f))

use Rattle.std.proofs.Common.{◌≡◌, ◌<◌, length, refl, sym, ap, subst, ◌∙◌, arith}
use Rattle.std.proofs.lemmas.Bool.Decides.{nat_tests}
use Rattle.std.specs.List.{list_any}
use Rattle.std.proofs.lemmas.Result.{IfOk-weaker}
use Rattle.fw_lines.specs.Lines.{said_in, bytes_at, words_at}
use Rattle.fw_flow_text.specs.Grammar.{AreWordsOf, Finds, BreakAfter, capped_words, is_large_number}
use Rattle.fw_flow_text.proofs.DeclaredLaws.{silent_push}
use Rattle.fw_flow_text.proofs.FoundLaws.{no_parts, formless, too_large, not_new, new_breaks_none, declares_found, refusal_weaker}
use Rattle.fw_flow_text.proofs.reader.read_line.Goals as goal

pub returns-then-is_empty-clause-value : goal.returns-then-is_empty-clause-value
returns-then-is_empty-clause-value c before declared =
    let none : length c.as_slice-words.result.now ≡ 0 = grind (arith, nat_tests) in
    silent_push before c.args.raw (said_in c.args.text.now c.args.line.now) declared (no_parts c.args.text.now c.args.line.now.words (ap length (sym c.as_slice-words.ensures) ∙ none))

pub returns-in_default-clause-broken : goal.returns-in_default-clause-broken
returns-in_default-clause-broken c =
    let some : 0 < length c.as_slice-words.result.now = grind (arith, nat_tests) in
    rw (c.refused.ensures, ← c.as_slice-words.ensures) (formless c.args.text.now c.args.raw c.as_slice-words.result.now c.in_ok-declaration.field-0 c.in_ok-declaration.ensures c.in_default.is some, refl)

pub returns-then-has_large-clause-broken : goal.returns-then-has_large-clause-broken
returns-then-has_large-clause-broken c =
    rw (c.refused-then-has_large.ensures, ← c.as_slice-words.ensures) (too_large c.args.text.now c.args.raw c.as_slice-words.result.now c.in_ok-declaration.field-0 c.in-Some.declaration c.has_large.result c.in_ok-declaration.ensures c.in-Some.is c.has_large.ensures c.if-has_large.true, refl)

pub returns-clause-sound : goal.returns-clause-sound
returns-clause-sound c =
    let text = c.args.text.now in
    let found = subst (λ ws. Finds (AreWordsOf (capped_words text ws)) c.in_ok-declaration.field-0) c.as_slice-words.ensures c.in_ok-declaration.ensures in
    let large = c.has_large.ensures ∙ ap (list_any (λ word. is_large_number (bytes_at text word))) c.as_slice-words.ensures in
    IfOk-weaker c.declare_new.result _ _ (λ more new. new_breaks_none text c.args.raw c.args.line.now.words c.in_ok-declaration.field-0 c.in-Some.declaration c.has_large.result found c.in-Some.is large c.if-has_large.false new) c.declare_new.ensures.sound

pub returns-clause-value : goal.returns-clause-value
returns-clause-value c =
    let text = c.args.text.now in
    let found = subst (λ ws. Finds (AreWordsOf (capped_words text ws)) c.in_ok-declaration.field-0) c.as_slice-words.ensures c.in_ok-declaration.ensures in
    let large = c.has_large.ensures ∙ ap (list_any (λ word. is_large_number (bytes_at text word))) c.as_slice-words.ensures in
    IfOk-weaker c.declare_new.result _ _ (λ more value. declares_found text c.args.raw more c.args.line.now.number c.args.line.now.words c.in_ok-declaration.field-0 c.in-Some.declaration c.has_large.result found c.in-Some.is large c.if-has_large.false value) c.declare_new.ensures.value

pub returns-clause-broken : goal.returns-clause-broken
returns-clause-broken c =
    let text = c.args.text.now in
    let found = subst (λ ws. Finds (AreWordsOf (capped_words text ws)) c.in_ok-declaration.field-0) c.as_slice-words.ensures c.in_ok-declaration.ensures in
    let large = c.has_large.ensures ∙ ap (list_any (λ word. is_large_number (bytes_at text word))) c.as_slice-words.ensures in
    refusal_weaker _ _ c.declare_new.result c.declare_new.ensures.broken
    (λ refusal h. (subst (BreakAfter c.args.raw (words_at text c.args.line.now.words)) (sym h.1) (not_new text c.args.raw c.args.line.now.words c.in_ok-declaration.field-0 c.in-Some.declaration c.has_large.result found c.in-Some.is large c.if-has_large.false h.0), h.2))

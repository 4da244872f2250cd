use Rattle.std.proofs.Common.{◌≡◌, ℕ, ◌<◌, ◌^◌, ◌++◌, sym, ap, ◌∙◌, subst}
use Rattle.std.specs.Fmt.{decimal}
use Rattle.fw_flow_text.specs.Grammar.{Finds, capped_words}
use Rattle.fw_flow_text.specs.Spelled.{AreNodeWords}
use Rattle.fw_flow_text.proofs.SplitFoundLaws.{no_leave, no_number, no_plain, split_made, words_append}
use Rattle.fw_flow_text.proofs.split.split_by.Goals as goal
use Rattle.fw_flow_text.proofs.split.split_by.Goals.{In_ok-form}

-- the words without `split` and the number
plain : (c : In_ok-form)
    → Finds (AreNodeWords c.args.kind.now (capped_words c.args.text.now c.args.before.now ++ capped_words c.args.text.now c.args.policy.now)) c.in_ok-form.field-0
plain c =
    let text = c.args.text.now in
    let joined : capped_words text c.deref.result.now ≡ capped_words text c.args.before.now ++ capped_words text c.args.policy.now =
    ap (capped_words text) (c.deref.ensures.value ∙ c.in_ok-extend_from_slice.ensures.items ∙ ap (λ ws. ws ++ c.args.policy.now) c.in_ok-words.ensures.items)
    ∙ words_append text c.args.before.now c.args.policy.now in
    subst (λ ws. Finds (AreNodeWords c.args.kind.now ws) c.in_ok-form.field-0) joined c.in_ok-form.ensures

pub returns-in_default : goal.returns-in_default
returns-in_default c =
    no_number c.args.kind.now c.args.number.now (capped_words c.args.text.now c.args.before.now) (capped_words c.args.text.now c.args.policy.now) c.requires
    (subst (Finds (λ n. (c.args.number.now ≡ decimal n) × (n < 2 ^ 64))) c.in_default.is c.numeral.ensures)

pub returns-in_default-2 : goal.returns-in_default-2
returns-in_default-2 c =
    let before = capped_words c.args.text.now c.args.before.now in
    let policy = capped_words c.args.text.now c.args.policy.now in
    no_plain c.args.kind.now c.args.number.now before policy c.requires
    (subst (Finds (AreNodeWords c.args.kind.now (before ++ policy))) c.in_default-2.is (plain (goal.at.returns-in_default-2 c).In_ok-form))

pub returns-then-not-may_split : goal.returns-then-not-may_split
returns-then-not-may_split c =
    let before = capped_words c.args.text.now c.args.before.now in
    let policy = capped_words c.args.text.now c.args.policy.now in
    no_leave c.args.kind.now c.args.number.now before policy c.in-Some-2.form c.requires
    (subst (Finds (AreNodeWords c.args.kind.now (before ++ policy))) c.in-Some-2.is (plain (goal.at.returns-then-not-may_split c).In_ok-form))
    (sym c.may_split.ensures ∙ c.if-not-may_split.true)

pub returns : goal.returns
returns c =
    let before = capped_words c.args.text.now c.args.before.now in
    let policy = capped_words c.args.text.now c.args.policy.now in
    split_made c.args.kind.now c.args.number.now before policy c.in-Some-2.form c.in-Some.number c.requires c.in-Some.ensures.0 c.in-Some.ensures.1
    (sym c.may_split.ensures ∙ c.if-not-may_split.false)
    (subst (Finds (AreNodeWords c.args.kind.now (before ++ policy))) c.in-Some-2.is (plain (goal.at.returns c).In_ok-form))

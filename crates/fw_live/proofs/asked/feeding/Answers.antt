use Rattle.std.proofs.Common.{◌≡◌, Some, None, ap, subst, sym, ◌∙◌, arith}
use Rattle.std.proofs.lemmas.List.{length-map}
use Rattle.fw_bag.specs.Bag.{BagState}
use Rattle.fw_bag.specs.Keyed.{sorted_recs}
use Rattle.fw_lines.specs.Inputs.{batch_of, inputs_line_fault, source_said}
use Rattle.fw_lines.specs.Lines.{bytes_at, said_by, words_at}
use Rattle.fw_lines.specs.Sources.{node_named}
use Rattle.fw_live.specs.Asked.{feeds, of_change}
use Rattle.fw_live.proofs.ReadingLaws.{accepted-alone, batch-sorted, batch-there, fed-as, fed-short, first-bag, source-second}
use Rattle.fw_live.proofs.asked.feeding.Goals as goal

pub returns-in_default : goal.returns-in_default
returns-in_default c =
    let ws = words_at c.args.line.now c.args.words.now in
    let none = subst (λ w. inputs_line_fault c.args.sources.now 0 w ≡ None) (sym c.requires.said)
    (accepted-alone c.args.line.now c.args.sources.now c.args.batches.now c.requires.one c.requires.accepted) in
    fed-short c.args.sources.now ws (omega (arith, length-map c.args.words.now (bytes_at c.args.line.now), c.in_default.len_below)) none

pub returns-in_default-node_spelled : goal.returns-in_default-node_spelled
returns-in_default-node_spelled c =
    let sources = c.args.sources.now in
    let none = subst (λ w. inputs_line_fault sources 0 w ≡ None) (sym c.requires.said)
    (accepted-alone c.args.line.now sources c.args.batches.now c.requires.one c.requires.accepted) in
    let said = source-second c.args.line.now c.args.words.now sources (record { from = 0; to = 0 }) c.in-len2-up.len_at_least
    ∙ sym (ap (node_named sources) c.of.ensures) ∙ sym c.node_spelled.ensures ∙ c.in_default-node_spelled.is in
    fed-as sources (words_at c.args.line.now c.args.words.now) None none said

pub returns-in_ok-recs_of-in-len1-up : goal.returns-in_ok-recs_of-in-len1-up
returns-in_ok-recs_of-in-len1-up c =
    let line = c.args.line.now in
    let sources = c.args.sources.now in
    let node = c.in-Some.node in
    let ws = words_at line c.args.words.now in
    let none = subst (λ w. inputs_line_fault sources 0 w ≡ None) (sym c.requires.said)
    (accepted-alone line sources c.args.batches.now c.requires.one c.requires.accepted) in
    let said = source-second line c.args.words.now sources (record { from = 0; to = 0 }) c.in-len2-up.len_at_least
    ∙ sym (ap (node_named sources) c.of.ensures) ∙ sym c.node_spelled.ensures ∙ c.in-Some.is in
    let there = batch-there line sources c.args.batches.now node c.requires.one c.requires.accepted
    (subst (λ w. source_said sources w ≡ Some node) c.requires.said said) in
    let first = first-bag c.of-2.result.now (batch_of (said_by line)) c.batch-item.result (c.of-2.ensures ∙ there) in
    let recs = ap sorted_recs (c.in_ok-recs_of-in-len1-up.ensures ∙ ap (λ (b : BagState). b.recs) c.batch-item.is ∙ first) ∙ batch-sorted (said_by line) ∙ ap batch_of (sym c.requires.said) in
    ap (λ n. of_change (feeds n (sorted_recs c.in_ok-recs_of-in-len1-up.field-0.items))) c.at.ensures
    ∙ ap (λ rs. of_change (feeds node rs)) recs ∙ fed-as sources ws (Some node) none said

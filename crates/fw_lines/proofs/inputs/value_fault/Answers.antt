use Rattle.std.proofs.Common.{◌≡◌, Some, ℕ, length, map, sym, ◌∙◌, ap, arith}
use Rattle.std.specs.Option.{option_map_or}
use Rattle.fw_lines.specs.Batches.{batches_at}
use Rattle.fw_lines.specs.Lines.{bytes_at}
use Rattle.fw_lines.specs.Sources.{node_named}
use Rattle.fw_lines.proofs.InputLaws.{list_any-map, number_broken, only_count, count_broken, count_sound}
use Rattle.fw_lines.proofs.inputs.value_fault.Goals as goal

pub returns-then-has_large : goal.returns-then-has_large
returns-then-has_large c =
    let text = c.args.text.now in
    let source = node_named c.args.sources.now (bytes_at text c.args.name) in
    let count = option_map_or (λ (node : ℕ). length (batches_at c.args.batches.now node)) source 0 in
    let there : source ≡ Some c.in-Some.node = sym (c.node_spelled.ensures ∙ ap (node_named c.args.sources.now) c.of.ensures) ∙ c.in-Some.is in
    sym (number_broken source c.in-Some.node count (map (bytes_at text) c.args.records.now) there (sym (list_any-map text c.args.records.now) ∙ sym c.has_large.ensures ∙ c.if-has_large.true))

pub returns-then-count-ge-BATCH_LIMIT : goal.returns-then-count-ge-BATCH_LIMIT
returns-then-count-ge-BATCH_LIMIT c =
    let text = c.args.text.now in
    let source = node_named c.args.sources.now (bytes_at text c.args.name) in
    let count = option_map_or (λ (node : ℕ). length (batches_at c.args.batches.now node)) source 0 in
    let there : source ≡ Some c.in-Some.node = sym (c.node_spelled.ensures ∙ ap (node_named c.args.sources.now) c.of.ensures) ∙ c.in-Some.is in
    let same : count ≡ c.count.result = ap (λ s. option_map_or (λ (node : ℕ). length (batches_at c.args.batches.now node)) s 0) there ∙ sym c.count.ensures in
    sym (only_count source c.in-Some.node count (map (bytes_at text) c.args.records.now) there (sym (list_any-map text c.args.records.now) ∙ sym c.has_large.ensures ∙ c.if-has_large.false) ∙ count_broken count (omega (arith, same)))

pub returns : goal.returns
returns c =
    let text = c.args.text.now in
    let source = node_named c.args.sources.now (bytes_at text c.args.name) in
    let count = option_map_or (λ (node : ℕ). length (batches_at c.args.batches.now node)) source 0 in
    let there : source ≡ Some c.in-Some.node = sym (c.node_spelled.ensures ∙ ap (node_named c.args.sources.now) c.of.ensures) ∙ c.in-Some.is in
    let same : count ≡ c.count.result = ap (λ s. option_map_or (λ (node : ℕ). length (batches_at c.args.batches.now node)) s 0) there ∙ sym c.count.ensures in
    sym (only_count source c.in-Some.node count (map (bytes_at text) c.args.records.now) there (sym (list_any-map text c.args.records.now) ∙ sym c.has_large.ensures ∙ c.if-has_large.false) ∙ count_sound count (omega (arith, same)))

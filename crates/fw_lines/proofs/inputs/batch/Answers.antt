use Rattle.std.proofs.Common.{sym, ◌∙◌, ap, subst, map, ◌≡◌, []}
use Rattle.std.proofs.lemmas.List.{drop_all}
use Rattle.std.specs.Option.{option_map_or}
use Rattle.std.specs.List.{filter_map}
use Rattle.fw_bag.specs.Bag.{with_rec, bag_sum}
use Rattle.fw_lines.specs.Inputs.{record_said, spelled_rec}
use Rattle.fw_lines.specs.Batches.{IsBatch}
use Rattle.fw_lines.specs.Lines.{bytes_at}
use Rattle.fw_lines.proofs.GivenLaws.{is_batch_of_recs}
use Rattle.fw_lines.proofs.InputLaws.{recs_more, recs_in}
use Rattle.fw_lines.proofs.inputs.batch.Goals as goal

pub loop-word-preserved : goal.loop-word-preserved
loop-word-preserved c =
    let old = c.loop-word.batch.recs in
    let put = c.in_ok-add_record.ensures ∙ ap (λ w. option_map_or (λ r. with_rec r old) (spelled_rec w) old) (c.read_record.ensures ∙ ap record_said c.of.ensures) in
    sym (recs_more c.args.text.now c.args.words.now c.loop-word.word-index old c.add_record.new.batch.recs c.loop-word-test.true put) ∙ c.loop-word.invariant

pub returns-clause-batch : goal.returns-clause-batch
returns-clause-batch c =
    let words = map (bytes_at c.args.text.now) c.args.words.now in
    let all : c.loop-word.batch.recs ≡ bag_sum (filter_map (λ word. spelled_rec (record_said word)) words) [] =
    sym (ap (λ ws. bag_sum (recs_in c.args.text.now ws) c.loop-word.batch.recs) (drop_all c.loop-word.word-index c.args.words.now c.loop-word-test.false)) ∙ c.loop-word.invariant in
    subst IsBatch (sym all) (is_batch_of_recs words)

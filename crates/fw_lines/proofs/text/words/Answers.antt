use Rattle.fw_lines.specs.Lines.{words_of, bytes_at}
use Rattle.fw_lines.proofs.WordLaws.{words_step, next_within}
use Rattle.fw_lines.proofs.text.words.Goals as goal

pub loop-from-preserved : goal.loop-from-preserved
loop-from-preserved c =
    let text = c.args.text.now in
    let end = c.args.line.to in
    record {
      within = next_within c.part_end-to.result end c.after-from.result c.part_end-to.ensures.to c.after-from.ensures;
      words = words_step text c.loop-from.words.items c.push_word.new.words.items c.in-Some.at c.part_end-to.result end c.after-from.result (words_of (bytes_at text c.args.line)) c.part_end-to.ensures.to c.requires.within c.part_end-to.ensures.from c.in_ok-push_word.ensures c.part_end-to.ensures.last c.part_end-to.ensures.more c.after-from.ensures (rw c.in-Some.is at c.loop-from.invariant.words);
    }

use Rattle.std.proofs.Common.{refl}
use Rattle.fw_rollback.specs.declared.parts.Parts.{Parts}
use Rattle.fw_rollback.proofs.SwapLaws.{cut_to, queue_is}
use Rattle.fw_rollback.proofs.swap.swap.Goals as goal

pub returns-clause-restored : goal.returns-clause-restored
returns-clause-restored c = λ given b.
    let new : Parts = record {
      tables = c.put_tables.new.tables;
      queues = c.put_queues.new.queues;
      logs = c.put_logs.new.logs;
      keep = c.forget.new.keep;
      sources = c.roll_sources.new.sources;
      outputs = c.clear_outputs.new.outputs;
      low = c.args.parts.now.low;
    } in
    record {
      nodes = cut_to c.args.flow.now c.args.choice.now c.args.parts.now new c.args.built given b c.put_tables.ensures.put c.put_logs.ensures.put;
      queues = queue_is c.args.flow.now c.args.choice.now c.args.parts.now new c.args.built given b c.put_logs.ensures.put c.put_queues.ensures.put;
      entries = c.forget.ensures.gone;
      inputs_each = c.roll_sources.ensures.each;
      inputs = c.roll_sources.ensures.rolled;
      outputs_each = c.clear_outputs.ensures.each;
      outputs = c.clear_outputs.ensures.cleared;
      refused = c.clear_outputs.ensures.refused;
      low = refl;
    }

use Rattle.fw_offers_text.proofs.TableLaws.{IsTabled}
use Rattle.fw_offers_text.proofs.recording.table_of.Given as goal

abbrev pub invariant-loop-count : goal.invariant-loop-count
invariant-loop-count l = IsTabled l.counts l.count-iterator l.table

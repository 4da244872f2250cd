-- What an event sends, as progress and traces are told it.
use Rattle.std.specs.Prelude.{List, option_to_list}
use Rattle.fw_time.specs.Stamp.{Stamp}
use Rattle.fw_bag.specs.declared.rec.Rec.{Rec}
use Rattle.fw_events.specs.declared.told.ToldSends.{ToldSends}
use Rattle.fw_events.specs.declared.told.ToldSends.TheVariants.{AtMostOne, Many}

-- the recs, in order
abbrev pub told_list : ToldSends → List (Stamp × Rec)
told_list (AtMostOne one) = option_to_list one
told_list (Many recs) = recs.items

-- Recs of which one alone stands in place.
use Rattle.std.specs.Prelude.{List, option_to_list}
use Rattle.fw_bag.specs.declared.rec.Rec.{Rec}
use Rattle.fw_table.specs.declared.sent.SmallRecs.{SmallRecs}
use Rattle.fw_table.specs.declared.sent.SmallRecs.TheVariants.{AtMostOne, Many}

-- the recs, in order
abbrev pub recs_of_few : SmallRecs → List Rec
recs_of_few (AtMostOne rec) = option_to_list rec
recs_of_few (Many recs) = recs.items

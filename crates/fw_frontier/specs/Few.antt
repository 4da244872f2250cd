-- Outside stamps of which one alone stands in place.
use Rattle.std.specs.Prelude.{[], ◌∷◌}
use Rattle.fw_frontier.specs.Front.{Front}
use Rattle.fw_frontier.specs.declared.few.Few.{Few}
use Rattle.fw_frontier.specs.declared.few.Few.TheVariants.{One, Many}

-- the stamps, in order
abbrev pub stamps_of_few : Few → Front
stamps_of_few (One alloc s) = s ∷ []
stamps_of_few (Many ss) = ss.items

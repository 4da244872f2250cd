use Rattle.std.proofs.Common.{ap, ◌∙◌, [], sym, Option}
use Rattle.std.specs.Prelude.{unwrap_or, option_map}
use Rattle.falkirk_c.proofs.bytes_of.Goals as goal

pub returns-in-Some : goal.returns-in-Some
returns-in-Some c = c.as_slice.ensures.value ∙ sym (ap (λ o. unwrap_or (option_map (λ b. b.items) o) []) c.in-Some.is)

pub returns-in-None : goal.returns-in-None
returns-in-None c = sym (ap (λ o. unwrap_or (option_map (λ b. b.items) o) []) c.in-None.is)

-- The words of the commands over texts of choices.
use Rattle.std.specs.Prelude.{ℕ, Bool, false, ◌&&◌, ◌||◌, if◌then◌else◌, List, [], ◌∷◌, Option, Some, None, codes}
use Rattle.std.specs.Str.{bytes_eq}
use Rattle.fw_command.specs.Words.{is_operand}
use Rattle.fw_choosing.specs.declared.words.ChoosingWords.{ChoosingWords}
use Rattle.fw_choosing.specs.declared.words.ChoosingWords.TheVariants as given

-- a command, with the names of its texts: the largest choice of what the nodes of a flow offer is asked for; or a certificate over these
-- offers is to be verified
pub data Choosing : Type 0 where
  choose : List ℕ → List ℕ → Choosing
  verify : List ℕ → List ℕ → List ℕ → Choosing

-- a choice, if the words are `choose` and two operands
abbrev pub choose_by : List ℕ → List ℕ → List ℕ → Option Choosing
choose_by word flow offers =
    if bytes_eq word (codes "choose") && is_operand flow && is_operand offers then Some (choose flow offers) else None

-- a verification, if the words are `verify` and three operands
abbrev pub verify_by : List ℕ → List ℕ → List ℕ → List ℕ → Option Choosing
verify_by word flow offers certificate =
    if bytes_eq word (codes "verify") && is_operand flow && is_operand offers && is_operand certificate then Some (verify flow offers certificate)
    else None

-- the command that words are, if they are one
abbrev pub choosing_of : List (List ℕ) → Option Choosing
choosing_of (word ∷ flow ∷ offers ∷ []) = choose_by word flow offers
choosing_of (word ∷ flow ∷ offers ∷ certificate ∷ []) = verify_by word flow offers certificate
choosing_of words = None

-- the names of the texts of a command, in the order in which they are read
abbrev pub names_in : Choosing → List (List ℕ)
names_in (choose flow offers) = flow ∷ offers ∷ []
names_in (verify flow offers certificate) = flow ∷ offers ∷ certificate ∷ []

-- whether words are for these commands: the first is `choose` or `verify`
abbrev pub is_choosing : List (List ℕ) → Bool
is_choosing [] = false
is_choosing (word ∷ words) = bytes_eq word (codes "choose") || bytes_eq word (codes "verify")

-- the command that parsed words give
abbrev pub choosing_in : ChoosingWords → Choosing
choosing_in (given.Choose flow offers) = choose flow.now offers.now
choosing_in (given.Verify flow offers certificate) = verify flow.now offers.now certificate.now

-- Declarations, with names as their bytes: as they are written, and once they are expanded.
use Rattle.std.specs.Prelude.{ℕ, List}
use Rattle.fw_flow.specs.declared.raw.Declaration.{Declaration as DeclarationBy}
use Rattle.fw_flow.specs.declared.raw.Declared.{Declared as DeclaredBy}

-- what one line of a flow declares
abbrev pub Declaration : Type 0
Declaration = DeclarationBy (List ℕ)

-- a declaration, with its line
abbrev pub Declared : Type 0
Declared = DeclaredBy (List ℕ)

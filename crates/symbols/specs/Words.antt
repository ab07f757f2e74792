-- The words that a listing prints.
use Rattle.std.specs.Prelude.{ℕ, List, codes}
use Rattle.symbols.specs.declared.scope.SymbolScope.{SymbolScope}
use Rattle.symbols.specs.declared.scope.SymbolScope.TheVariants as scope
use Rattle.symbols.specs.declared.table.SymbolTableType.{SymbolTableType}
use Rattle.symbols.specs.declared.table.SymbolTableType.TheVariants as kind

-- the word of a scope
abbrev pub scope_word : SymbolScope → List ℕ
scope_word scope.Unknown = codes "Unknown"
scope_word scope.Local = codes "Local"
scope_word scope.GlobalExplicit = codes "GlobalExplicit"
scope_word scope.GlobalImplicit = codes "GlobalImplicit"
scope_word scope.Free = codes "Free"
scope_word scope.Cell = codes "Cell"

-- the word of a kind of table
abbrev pub kind_word : SymbolTableType → List ℕ
kind_word kind.Module = codes "Module"
kind_word kind.Class = codes "Class"
kind_word kind.Function = codes "Function"
kind_word kind.Comprehension = codes "Comprehension"

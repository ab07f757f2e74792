-- What opening a table leaves.
use Rattle.std.specs.Prelude.{◌≡◌, ℕ, ◌<◌, List, [], ◌∷◌, ◌++◌, length, Some, Option}
use Rattle.symbols.specs.Faults.{Spot}
use Rattle.symbols.specs.declared.table.SymbolTableType.{SymbolTableType}
use Rattle.store.specs.Grown.{TextsKept}
use Rattle.store.specs.Held.{Held}
use Rattle.store.specs.Tables.{nests_in}
use Rattle.store.specs.Texts.{number_of}

-- a table is opened in none, or in one that there is
abbrev pub OpensIn : Held → Option ℕ → Type 0
OpensIn h around = (p : ℕ) → around ≡ Some p → p < length h.tables

-- k is h with one table more, of this kind, in the table around it, and with its name among the texts
pub record Opened (h k : Held) (around : Option ℕ) (kind : SymbolTableType) (name : List ℕ) (spot : Spot) : Type 0 where
  pub number : ℕ
  pub named : number_of k name ≡ Some number
  pub tables : k.tables ≡ h.tables ++ record { parent = around; typ = kind; name = number; line_number = spot.row; is_nested = nests_in h around } ∷ []
  pub symbols : k.symbols ≡ h.symbols
  pub texts : TextsKept h k

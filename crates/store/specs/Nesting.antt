-- What it means that a table is nested.
use Rattle.std.specs.Prelude.{◌≡◌, ℕ, ◌<◌, Bool, true, false, List, length, Some, None, Decides, Option}
use Rattle.std.specs.List.{slice_get}
use Rattle.symbols.specs.declared.table.SymbolTable.{SymbolTable}
use Rattle.store.specs.Enterings.{kind_by}
use Rattle.store.specs.Sound.{parent_by}
use Rattle.store.specs.Tables.{is_function}

-- table u stands around table t: right around it, or around the table that is
pub data Around (ts : List SymbolTable) : ℕ → ℕ → Type 0 where
  next : {t p : ℕ} → parent_by (slice_get ts t) ≡ Some p → Around ts t p
  further : {t p u : ℕ} → parent_by (slice_get ts t) ≡ Some p → Around ts p u → Around ts t u

abbrev pub nested_by : Option SymbolTable → Bool
nested_by (Some x) = x.is_nested
nested_by None = false

-- the tables that say that they are nested are those that a function stands around
abbrev pub NestedRight : List SymbolTable → Type 0
NestedRight ts = (t : ℕ) → t < length ts → Decides (nested_by (slice_get ts t)) ((u : ℕ) × Around ts t u × (is_function (kind_by (slice_get ts u)) ≡ true))

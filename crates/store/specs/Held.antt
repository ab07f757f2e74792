-- What a session holds, as values, and what can come of an entering.
use Rattle.std.specs.Prelude.{ℕ, List}
use Rattle.symbols.specs.declared.table.SymbolTable.{SymbolTable}
use Rattle.symbols.specs.declared.symbol.Symbol.{Symbol}
use Rattle.store.specs.declared.text.Text.{Text}
use Rattle.symbols.specs.declared.fault.Fault.{Fault}

-- tables, symbols and texts, each in the order in which they came, and the bytes of the texts
pub record Held : Type 0 where
  pub tables : List SymbolTable
  pub symbols : List Symbol
  pub texts : List Text
  pub bytes : List ℕ

-- how many of each there can be
pub record Room : Type 0 where
  pub tables : ℕ
  pub symbols : ℕ
  pub texts : ℕ
  pub bytes : ℕ

-- what is held after an entering, and whether it was refused
pub data Outcome : Type 0 where
  done : Held → Outcome
  refused : Held → Fault → Outcome

-- one thing, and then another unless the first was refused
abbrev pub and_then : Outcome → (Held → Outcome) → Outcome
and_then (done h) next = next h
and_then (refused h f) next = refused h f

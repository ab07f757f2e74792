-- When an entering or a table is refused for want of memory: exactly where something does not fit.
use Rattle.std.specs.Prelude.{◌≡◌, ℕ, ◌+◌, ◌<◌, ◌≤◌, ◌⊎◌, List, length, None, Option}
use Rattle.symbols.specs.declared.fault.Fault.{Fault}
use Rattle.symbols.specs.declared.fault.MemoryReason.TheVariants as lack
use Rattle.symbols.specs.declared.table.SymbolTableType.{SymbolTableType}
use Rattle.symbols.specs.declared.usage.SymbolUsage.{SymbolUsage}
use Rattle.store.specs.Enterings.{enter, first_objection, kind_of, stands_at}
use Rattle.symbols.specs.Faults.{Spot, fault_number, memory_fault}
use Rattle.store.specs.Held.{Held, Room, refused}
use Rattle.store.specs.Tables.{open_table}
use Rattle.store.specs.Texts.{number_of}

-- a text is not held, and its record or its bytes do not fit
pub record TextLacks (room : Room) (h : Held) (text : List ℕ) : Type 0 where
  pub new : number_of h text ≡ None
  pub full : (room.texts ≤ length h.texts) ⊎ (room.bytes < length h.bytes + length text)

-- a text is held, or its record and its bytes fit
abbrev pub TextFits : Room → Held → List ℕ → Type 0
TextFits room h text = number_of h text ≡ None → (length h.texts < room.texts) × (length h.bytes + length text ≤ room.bytes)

-- 24: the text does not fit, of a name against which nothing is said
pub record RefusedForText (room : Room) (h : Held) (t : ℕ) (role : SymbolUsage) (text : List ℕ) (spot : Spot) : Type 0 where
  pub only : (k : Held) (f : Fault) → enter room h t role text spot ≡ refused k f → fault_number f ≡ 24 → (first_objection role (kind_of h t) ≡ None) × TextLacks room h text
  pub always : first_objection role (kind_of h t) ≡ None → TextLacks room h text → enter room h t role text spot ≡ refused h (memory_fault lack.Texts spot)

-- the symbol of the name is new in table t, nothing is said against it, its text fits and it does not
pub record SymbolLacks (room : Room) (h : Held) (t : ℕ) (role : SymbolUsage) (text : List ℕ) : Type 0 where
  pub new : stands_at h t text ≡ None
  pub allowed : first_objection role (kind_of h t) ≡ None
  pub fits : TextFits room h text
  pub full : room.symbols ≤ length h.symbols

-- 23: the symbol does not fit
pub record RefusedForSymbol (room : Room) (h : Held) (t : ℕ) (role : SymbolUsage) (text : List ℕ) (spot : Spot) : Type 0 where
  pub only : (k : Held) (f : Fault) → enter room h t role text spot ≡ refused k f → fault_number f ≡ 23 → SymbolLacks room h t role text
  pub always : SymbolLacks room h t role text → enter room h t role text spot ≡ refused h (memory_fault lack.Symbols spot)

-- a table is refused with 24 where its name does not fit, with 22 where its name fits and it does not, and for nothing else
pub record RefusedTable (room : Room) (h : Held) (around : Option ℕ) (kind : SymbolTableType) (name : List ℕ) (spot : Spot) : Type 0 where
  pub only : (k : Held) (f : Fault) → open_table room h around kind name spot ≡ refused k f →
      ((fault_number f ≡ 24) × TextLacks room h name) ⊎ ((fault_number f ≡ 22) × TextFits room h name × (room.tables ≤ length h.tables))
  pub for_name : TextLacks room h name → open_table room h around kind name spot ≡ refused h (memory_fault lack.Texts spot)
  pub for_table : TextFits room h name → room.tables ≤ length h.tables → open_table room h around kind name spot ≡ refused h (memory_fault lack.Tables spot)

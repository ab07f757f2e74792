-- When what is held is sound: texts lie inside the bytes and are told apart, and each number points at something.
use Rattle.std.specs.Prelude.{◌≡◌, ℕ, ◌+◌, ◌<◌, ◌≤◌, [], map, length, Some, None, Option}
use Rattle.std.specs.List.{slice_get, All}
use Rattle.ordered.specs.Keys.{Distinct}
use Rattle.symbols.specs.declared.table.SymbolTable.{SymbolTable}
use Rattle.store.specs.Enterings.{key_of}
use Rattle.store.specs.Held.{Held}
use Rattle.store.specs.Texts.{spellings}

-- every text lies inside the bytes
abbrev pub Inside : Held → Type 0
Inside h = All (λ x. x.start + x.len ≤ length h.bytes) h.texts

abbrev pub parent_by : Option SymbolTable → Option ℕ
parent_by (Some x) = x.parent
parent_by None = None

-- the number of the table around table t
abbrev pub parent_of : Held → ℕ → Option ℕ
parent_of h t = parent_by (slice_get h.tables t)

-- nothing: no table, no symbol and no text
abbrev pub nothing : Held
nothing = record { tables = []; symbols = []; texts = []; bytes = [] }

pub record Sound (h : Held) : Type 0 where
  pub inside : Inside h
  -- no two texts are spelled alike
  pub apart : Distinct (spellings h)
  -- every symbol has a table and a text
  pub placed : All (λ s. (s.table < length h.tables) × (s.name < length h.texts)) h.symbols
  -- no two symbols have one table and one text
  pub once : Distinct (map key_of h.symbols)
  -- the name of every table is a text
  pub named : All (λ x. x.name < length h.texts) h.tables
  -- the table around a table comes before it
  pub outwards : (t p : ℕ) → parent_of h t ≡ Some p → p < t

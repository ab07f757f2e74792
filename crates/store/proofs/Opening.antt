-- A table whose name fits, where there is no place for the table, over what is held.
use Rattle.std.proofs.Common.{◌≡◌, ℕ, false, ltb, List, length, Ok, Err, Option, sym, ap, ◌∙◌, subst, arith}
use Rattle.std.proofs.lemmas.Bool.{le-ltb}
use Rattle.ordered.specs.declared.table.Ordered.{Ordered}
use Rattle.ordered.specs.Records.{listed, room, Pushed}
use Rattle.symbols.specs.declared.fault.Fault.{Fault}
use Rattle.symbols.specs.declared.fault.MemoryReason.TheVariants as lack
use Rattle.symbols.specs.Faults.{Spot}
use Rattle.symbols.specs.declared.table.SymbolTable.{SymbolTable}
use Rattle.symbols.specs.declared.table.SymbolTableType.{SymbolTableType}
use Rattle.store.specs.declared.memory.Counts.{Counts}
use Rattle.store.specs.declared.memory.Memory.{Memory}
use Rattle.symbols.specs.Faults.{memory_fault}
use Rattle.store.specs.Memory.{Keeps, Leaves, Gives, Numbers, counts_of, held, room_of}
use Rattle.store.specs.Tables.{open_by, open_table}
use Rattle.store.specs.Texts.{interned, with_first}
use Rattle.store.proofs.Frames.{keeps_trans, same_room}
use Rattle.store.proofs.Interned.{MoreTexts, interned_more, numbers_some, taken_back}

module _ (m m₁ m₃ : Memory) (around : Option ℕ) (k : SymbolTableType) (name : List ℕ) (spot : Spot) (keeps : Keeps m m₁)
    (x : ℕ) (numbers : Numbers (held m) (interned (room_of m) (held m) name) (Ok x) (held m₁)) (tables : Ordered SymbolTable) (new y : SymbolTable)
    (p : Pushed m₁.tables tables new (Err y)) where
  -- the memory that has no place for the table, with its name in it
  abbrev m₂ : Memory
  m₂ = record { tables = tables; symbols = m₁.symbols; texts = m₁.texts; bytes = m₁.bytes }

  unpushed : m₂ ≡ m₁
  unpushed = ap (λ (ts : Ordered SymbolTable). record { tables = ts; symbols = m₁.symbols; texts = m₁.texts; bytes = m₁.bytes }) p.2

  pub table_lacks : (f : Fault) (n : Counts) → f ≡ memory_fault lack.Tables spot → n ≡ counts_of m → held m₃ ≡ with_first (held m₂) n.texts n.bytes → Keeps m₂ m₃ →
      Gives (length (listed m.tables)) m (open_table (room_of m) (held m) around k name spot) (Err f) m₃
  unfolding open_table
  table_lacks f n e counts back kept =
      let a = numbers_some (held m) (interned (room_of m) (held m) name) x (held m₁) numbers in
      let more = subst (MoreTexts (held m)) (sym a.held) (interned_more (room_of m) (held m) name a.one a.is) in
      let counted : length (listed m₁.tables) ≡ length (listed m.tables) = ap length more.tables in
      let full : ltb (length (listed m.tables)) (room_of m).tables ≡ false =
      le-ltb (length (listed m.tables)) (room m.tables) (omega (arith, counted, p.1, same_room keeps.tables)) in
      let is = taken_back m m₁ m₃ name x n numbers counts (back ∙ ap (λ u. with_first (held u) n.texts n.bytes) unpushed) in
      record {
        leaves = subst (λ v. Leaves (length (listed m.tables)) (open_by (room_of m) (held m) around k spot v) (Err f) (held m₃)) (sym a.is) (rw full (ap Err e, is));
        keeps = keeps_trans keeps (subst (λ u. Keeps u m₃) unpushed kept);
      }

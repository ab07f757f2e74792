-- A name that is new in its table, where there is no place for its symbol, over what is held.
use Rattle.std.proofs.Common.{◌≡◌, ℕ, false, ltb, List, length, Ok, Err, Option, sym, ap, ◌∙◌, subst, arith}
use Rattle.std.proofs.lemmas.List.{length-map}
use Rattle.std.proofs.lemmas.Bool.{le-ltb}
use Rattle.ordered.specs.declared.table.Ordered.{Ordered}
use Rattle.ordered.specs.Records.{listed, room, Pushed}
use Rattle.symbols.specs.declared.fault.Fault.{Fault}
use Rattle.symbols.specs.declared.fault.MemoryReason.TheVariants as lack
use Rattle.symbols.specs.declared.fault.ScanReason.{ScanReason}
use Rattle.symbols.specs.Faults.{Spot}
use Rattle.store.specs.declared.memory.Counts.{Counts}
use Rattle.store.specs.declared.memory.Memory.{Memory}
use Rattle.store.specs.declared.record.SymbolRecord.{SymbolRecord}
use Rattle.symbols.specs.declared.usage.SymbolUsage.{SymbolUsage}
use Rattle.store.specs.Enterings.{enter_first, enter_new}
use Rattle.symbols.specs.Faults.{judged, memory_fault}
use Rattle.store.specs.Memory.{Keeps, Leaves, Does, Numbers, counts_of, held, room_of, symbol_in}
use Rattle.store.specs.Texts.{interned, with_first}
use Rattle.store.proofs.Again.{passed_by}
use Rattle.store.proofs.Frames.{keeps_trans, same_room}
use Rattle.store.proofs.Interned.{MoreTexts, interned_more, numbers_some, taken_back}

module _ (m m₁ m₃ : Memory) (t : ℕ) (role : SymbolUsage) (text : List ℕ) (spot : Spot) (o : Option ScanReason) (passed : Ok tt ≡ judged o spot) (keeps : Keeps m m₁)
    (x : ℕ) (numbers : Numbers (held m) (interned (room_of m) (held m) text) (Ok x) (held m₁)) (symbols : Ordered SymbolRecord) (new y : SymbolRecord)
    (p : Pushed m₁.symbols symbols new (Err y)) where
  -- the memory that has no place for the symbol, with the text in it
  abbrev m₂ : Memory
  m₂ = record { tables = m₁.tables; symbols = symbols; texts = m₁.texts; bytes = m₁.bytes }

  unpushed : m₂ ≡ m₁
  unpushed = ap (λ (ss : Ordered SymbolRecord). record { tables = m₁.tables; symbols = ss; texts = m₁.texts; bytes = m₁.bytes }) p.2

  pub symbol_lacks : (f : Fault) (n : Counts) → f ≡ memory_fault lack.Symbols spot → n ≡ counts_of m → held m₃ ≡ with_first (held m₂) n.texts n.bytes → Keeps m₂ m₃ →
      Does m (enter_first (room_of m) (held m) t role text spot o) (Err f) m₃
  symbol_lacks f n e counts back kept =
      let a = numbers_some (held m) (interned (room_of m) (held m) text) x (held m₁) numbers in
      let more = subst (MoreTexts (held m)) (sym a.held) (interned_more (room_of m) (held m) text a.one a.is) in
      let counted : length (listed m₁.symbols) ≡ length (held m).symbols = sym (length-map (listed m₁.symbols) symbol_in) ∙ ap length more.symbols in
      let full : ltb (length (held m).symbols) (room_of m).symbols ≡ false =
      le-ltb (length (held m).symbols) (room m.symbols) (omega (arith, counted, p.1, same_room keeps.symbols)) in
      let is = taken_back m m₁ m₃ text x n numbers counts (back ∙ ap (λ u. with_first (held u) n.texts n.bytes) unpushed) in
      record {
        leaves =
            subst (λ v. Leaves {A = Unit {0}} tt (enter_first (room_of m) (held m) t role text spot v) (Err f) (held m₃)) (sym (passed_by o spot passed))
            (subst (λ v. Leaves {A = Unit {0}} tt (enter_new (room_of m) (held m) t role spot v) (Err f) (held m₃)) (sym a.is) (rw full (ap Err e, is)));
        keeps = keeps_trans keeps (subst (λ u. Keeps u m₃) unpushed kept);
      }

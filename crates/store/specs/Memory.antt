-- Lent memory as what it holds, and what a call may do to it.
use Rattle.std.specs.Prelude.{◌≡◌, ℕ, ◌+◌, ◌<◌, ◌≤◌, List, ◌++◌, map, length, Some, None, Ok, Err, Option, Result}
use Rattle.ordered.specs.declared.table.Ordered.{Ordered}
use Rattle.ordered.specs.declared.table.NoRoom.{NoRoom}
use Rattle.ordered.specs.Records.{listed, no_room, room}
use Rattle.symbols.specs.declared.fault.Fault.{Fault}
use Rattle.store.specs.declared.memory.Memory.{Memory}
use Rattle.store.specs.declared.memory.Counts.{Counts}
use Rattle.store.specs.declared.record.Mark.{Mark}
use Rattle.store.specs.declared.record.SymbolRecord.{SymbolRecord}
use Rattle.symbols.specs.declared.symbol.Symbol.{Symbol}
use Rattle.store.specs.Grown.{Longer}
use Rattle.store.specs.Held.{Held, Room, Outcome, done, refused}
use Rattle.store.specs.Texts.{Interned}

-- the symbol in a record
abbrev pub symbol_in : SymbolRecord → Symbol
symbol_in r = r.symbol

-- what memory holds: of each area the counted part
abbrev pub held : Memory → Held
held m = record {
  tables = listed m.tables;
  symbols = map symbol_in (listed m.symbols);
  texts = listed m.texts;
  bytes = listed m.bytes;
}

-- how much it can hold
abbrev pub room_of : Memory → Room
room_of m = record { tables = room m.tables; symbols = room m.symbols; texts = room m.texts; bytes = room m.bytes }

-- how much is counted
abbrev pub counts_of : Memory → Counts
counts_of m = record {
  tables = length (listed m.tables);
  symbols = length (listed m.symbols);
  texts = length (listed m.texts);
  bytes = length (listed m.bytes);
}

abbrev pub mark_in : SymbolRecord → Mark
mark_in r = r.mark

-- what is kept beside the symbols
abbrev pub marks : Memory → List Mark
marks m = map mark_in (listed m.symbols)

-- the same places, as many of them, under the same limit
pub record SamePlaces {R : Type 0} (t t' : Ordered R) : Type 0 where
  pub named : t'.places.ghost_name ≡ t.places.ghost_name
  pub limit : t'.limit ≡ t.limit
  pub size : length t'.places.now ≡ length t.places.now

-- the memory is the same that was lent, and what is kept beside its symbols stands
pub record Keeps (m m' : Memory) : Type 0 where
  pub tables : SamePlaces m.tables m'.tables
  pub symbols : SamePlaces m.symbols m'.symbols
  pub texts : SamePlaces m.texts m'.texts
  pub bytes : SamePlaces m.bytes m'.bytes
  pub marked : Longer (marks m) (marks m')

-- an answer r, with k held then, is what an outcome says; v is the answer where nothing is refused
abbrev pub Leaves : {A : Type 0} → A → Outcome → Result A Fault → Held → Type 0
Leaves v (done h) r k = (r ≡ Ok v) × (k ≡ h)
Leaves v (refused h f) r k = (r ≡ Err f) × (k ≡ h)

-- a call that began with memory m answered r and left m', as an outcome says
pub record Gives {A : Type 0} (v : A) (m : Memory) (o : Outcome) (r : Result A Fault) (m' : Memory) : Type 0 where
  pub leaves : Leaves v o r (held m')
  pub keeps : Keeps m m'

-- the same of a call that has nothing to answer
abbrev pub Does : Memory → Outcome → Result (Unit {0}) Fault → Memory → Type 0
Does m o r m' = Gives {A = Unit {0}} tt m o r m'

-- the number of an interned text, or nothing where it does not fit
abbrev pub Numbers : Held → Option Interned → Result ℕ NoRoom → Held → Type 0
Numbers h (Some i) r k = (r ≡ Ok i.number) × (k ≡ i.held)
Numbers h None r k = (r ≡ Err no_room) × (k ≡ h)

-- bs' is bs after a text was to be appended
abbrev pub Appends : Ordered ℕ → Ordered ℕ → List ℕ → Result (Unit {0}) NoRoom → Type 0
Appends t t' text (Ok _) = (length (listed t) + length text ≤ room t) × (listed t' ≡ listed t ++ text) × SamePlaces t t'
Appends t t' text (Err _) = (room t < length (listed t) + length text) × (listed t' ≡ listed t) × SamePlaces t t'

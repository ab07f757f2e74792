-- The laws of entering names, of whatever is held: the main statements of this crate.
use Rattle.std.specs.Prelude.{◌≡◌, ℕ, ◌<◌, List, length, Some, Option}
use Rattle.std.specs.List.{All}
use Rattle.ordered.specs.Keys.{Distinct}
use Rattle.symbols.specs.declared.fault.Fault.{Fault}
use Rattle.symbols.specs.Faults.{Spot}
use Rattle.symbols.specs.declared.table.SymbolTableType.{SymbolTableType}
use Rattle.symbols.specs.declared.usage.SymbolUsage.{SymbolUsage}
use Rattle.store.specs.Enterings.{enter}
use Rattle.store.specs.Grown.{AllGrown, Consistent, Taken, TextsKept}
use Rattle.store.specs.Held.{Held, Room, done, refused}
use Rattle.store.specs.Names.{Entering, KeysAfter, append_new, enter_all, names_in, symbols_in, texts_for}
use Rattle.store.specs.Nesting.{NestedRight}
use Rattle.store.specs.Opened.{Opened, OpensIn}
use Rattle.store.specs.Outward.{enter_import, enter_target}
use Rattle.store.specs.Rooms.{RefusedForSymbol, RefusedForText, RefusedTable}
use Rattle.store.specs.Sound.{Inside, Sound, nothing}
use Rattle.store.specs.Tables.{open_table}
use Rattle.store.specs.Texts.{number_of}
use Rattle.store.specs.Throughout.{Anywhere, InTable, NotIn, Throughout, held_in}

-- a name that is refused changes nothing
abbrev pub RefusedChangesNothing : Type 0
RefusedChangesNothing =
    (room : Room) (h : Held) (t : ℕ) (role : SymbolUsage) (text : List ℕ) (spot : Spot) (k : Held) (f : Fault) →
    enter room h t role text spot ≡ refused k f → k ≡ h

-- nor does an import that is refused
abbrev pub RefusedImportChangesNothing : Type 0
RefusedImportChangesNothing =
    (room : Room) (h : Held) (t : ℕ) (class name : List ℕ) (spot : Spot) (k : Held) (f : Fault) →
    enter_import room h t class name spot ≡ refused k f → k ≡ h

-- nor a table
abbrev pub RefusedTableChangesNothing : Type 0
RefusedTableChangesNothing =
    (room : Room) (h : Held) (around : Option ℕ) (kind : SymbolTableType) (name : List ℕ) (spot : Spot) (k : Held) (f : Fault) →
    open_table room h around kind name spot ≡ refused k f → k ≡ h

-- however names are entered, each symbol stays at its place, in its table, under its text, at its node and row, and keeps
-- its masks and its declaration
abbrev pub MasksOnlyGrow : Type 0
MasksOnlyGrow = Throughout Anywhere AllGrown

-- however names are entered, the tables stay
abbrev pub TablesStay : Type 0
TablesStay = Throughout Anywhere (λ h k. k.tables ≡ h.tables)

-- however names are entered, the symbols of a table that is not entered in stay as they are
abbrev pub OthersStay : Type 0
OthersStay = (u : ℕ) → Throughout (NotIn u) (λ h k. symbols_in k u ≡ symbols_in h u)

-- however names are entered, the texts keep their spelling and their numbers
abbrev pub TextsStay : Type 0
TextsStay = Throughout Anywhere (λ h k. Inside h → TextsKept h k)

-- however names are entered in tables that there are, what is sound stays sound
abbrev pub SoundStays : Type 0
SoundStays = Throughout InTable (λ h k. Sound h → Sound k)

-- what holds no table, no symbol and no text is sound
abbrev pub NothingIsSound : Type 0
NothingIsSound = Sound nothing

-- the way of a named expression's target leads through tables that there are
abbrev pub SoundStaysAtTarget : Type 0
SoundStaysAtTarget =
    (room : Room) (h : Held) (t : ℕ) (text : List ℕ) (spot : Spot) →
    t < length h.tables → Sound h → Sound (held_in (enter_target room h t text spot))

-- however names are entered, no name comes to be declared both global and nonlocal in one table, nor to be both the target
-- of a comprehension's `for` and assigned
abbrev pub ConsistentStays : Type 0
ConsistentStays = Throughout Anywhere (λ h k. All Consistent h.symbols → All Consistent k.symbols)

-- a text that was entered is held
abbrev pub TextIsHeld : Type 0
TextIsHeld =
    (room : Room) (h : Held) (t : ℕ) (role : SymbolUsage) (text : List ℕ) (spot : Spot) →
    Inside h → (k : Held) → enter room h t role text spot ≡ done k → (x : ℕ) × (number_of k text ≡ Some x)

-- a name that was entered is in its table, with what its role sets
abbrev pub NameIsTaken : Type 0
NameIsTaken =
    (room : Room) (h : Held) (t : ℕ) (role : SymbolUsage) (text : List ℕ) (spot : Spot) →
    Sound h → (k : Held) → enter room h t role text spot ≡ done k → Taken k t role text

-- the symbols are in the order of their first entering
abbrev pub OrderOfFirstEntering : Type 0
OrderOfFirstEntering =
    (room : Room) (h : Held) (t : ℕ) (role : SymbolUsage) (text : List ℕ) (spot : Spot) →
    Inside h → (k : Held) → enter room h t role text spot ≡ done k → KeysAfter h k t text

-- after a list of enterings the names of each table are those before, then each that was entered there and was not there,
-- in the order of its first entering
abbrev pub NamesInOrder : Type 0
NamesInOrder =
    (room : Room) (h : Held) (es : List Entering) →
    Sound h → All (λ e. e.table < length h.tables) es →
    (k : Held) → enter_all room h es ≡ done k → (u : ℕ) → names_in k u ≡ append_new (names_in h u) (texts_for u es)

-- no table has a name twice
abbrev pub NamesOnce : Type 0
NamesOnce = (h : Held) (u : ℕ) → Sound h → Distinct (names_in h u)

-- a name is refused for want of memory exactly where its text does not fit
abbrev pub TextsRefused : Type 0
TextsRefused =
    (room : Room) (h : Held) (t : ℕ) (role : SymbolUsage) (text : List ℕ) (spot : Spot) →
    RefusedForText room h t role text spot

-- or where its symbol does not fit
abbrev pub SymbolsRefused : Type 0
SymbolsRefused =
    (room : Room) (h : Held) (t : ℕ) (role : SymbolUsage) (text : List ℕ) (spot : Spot) →
    RefusedForSymbol room h t role text spot

-- a table is refused exactly where its name or its record does not fit
abbrev pub TablesRefused : Type 0
TablesRefused =
    (room : Room) (h : Held) (around : Option ℕ) (kind : SymbolTableType) (name : List ℕ) (spot : Spot) →
    RefusedTable room h around kind name spot

-- a table that is opened comes after those before, and the symbols stay as they are
abbrev pub TableComesLast : Type 0
TableComesLast =
    (room : Room) (h : Held) (around : Option ℕ) (kind : SymbolTableType) (name : List ℕ) (spot : Spot) →
    Inside h → (k : Held) → open_table room h around kind name spot ≡ done k → Opened h k around kind name spot

-- and so do the names of every table
abbrev pub NamesStayOpening : Type 0
NamesStayOpening =
    (room : Room) (h : Held) (around : Option ℕ) (kind : SymbolTableType) (name : List ℕ) (spot : Spot) →
    Sound h → (k : Held) → open_table room h around kind name spot ≡ done k → (u : ℕ) → names_in k u ≡ names_in h u

-- what is sound stays sound when a table is opened in none, or in one that there is
abbrev pub SoundStaysOpening : Type 0
SoundStaysOpening =
    (room : Room) (h : Held) (around : Option ℕ) (kind : SymbolTableType) (name : List ℕ) (spot : Spot) →
    OpensIn h around → Sound h → (k : Held) → open_table room h around kind name spot ≡ done k → Sound k

-- a table says that it is nested exactly where a function stands around it
abbrev pub NestedStaysRight : Type 0
NestedStaysRight =
    (room : Room) (h : Held) (around : Option ℕ) (kind : SymbolTableType) (name : List ℕ) (spot : Spot) →
    OpensIn h around → Sound h → NestedRight h.tables → (k : Held) → open_table room h around kind name spot ≡ done k → NestedRight k.tables

pub record EnteringLaws : Type 0 where
  pub refused_changes_nothing : RefusedChangesNothing
  pub refused_import_changes_nothing : RefusedImportChangesNothing
  pub refused_table_changes_nothing : RefusedTableChangesNothing
  pub masks_only_grow : MasksOnlyGrow
  pub tables_stay : TablesStay
  pub others_stay : OthersStay
  pub texts_stay : TextsStay
  pub sound_stays : SoundStays
  pub nothing_is_sound : NothingIsSound
  pub sound_stays_at_target : SoundStaysAtTarget
  pub consistent_stays : ConsistentStays
  pub text_is_held : TextIsHeld
  pub name_is_taken : NameIsTaken
  pub order_of_first_entering : OrderOfFirstEntering
  pub names_in_order : NamesInOrder
  pub names_once : NamesOnce
  pub texts_refused : TextsRefused
  pub symbols_refused : SymbolsRefused
  pub tables_refused : TablesRefused
  pub table_comes_last : TableComesLast
  pub names_stay_opening : NamesStayOpening
  pub sound_stays_opening : SoundStaysOpening
  pub nested_stays_right : NestedStaysRight

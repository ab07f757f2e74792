-- A table as its list of records, and what its methods do to that list.
use Rattle.std.specs.Prelude.{◌≡◌, ℕ, ◌+◌, ◌<◌, ◌≤◌, min, ◌⊎◌, List, [], ◌∷◌, ◌++◌, length, take, drop, Some, None, Option, Ok, Err, Result, slice_get, slice_set}
use denote.Ref.{at_last}
use Rattle.ordered.specs.declared.table.NoRoom.{NoRoom}
use Rattle.ordered.specs.declared.table.Ordered.{Ordered}
use Rattle.ordered.specs.Keys.{First, Absent}

-- the only refusal for want of room
abbrev pub no_room : NoRoom
no_room = record {}

-- the list of records of a table, in the order in which they came
abbrev pub listed : {R : Type 0} → Ordered R → List R
listed t = take t.count t.places.now

-- how many records there can be: the limit, or the places where they are fewer
abbrev pub room : {R : Type 0} → Ordered R → ℕ
room t = min t.limit (length t.places.now)

-- the table t with xs in its places, of which n are counted; the places themselves and the limit are t's
abbrev pub over : {R : Type 0} → Ordered R → List R → ℕ → Ordered R
over t xs n = record { places = at_last t.places xs; count = n; limit = t.limit }

-- t' is the table t after the record at i was to become x; y was there
abbrev pub Replaced : {R : Type 0} → Ordered R → Ordered R → ℕ → R → Option R → Type 0
Replaced t t' i x (Some y) =
    (i < length (listed t)) × (slice_get (listed t) i ≡ Some y) × (listed t' ≡ slice_set (listed t) i x) × (t' ≡ over t (slice_set t.places.now i x) t.count)
Replaced t t' i x None = (length (listed t) ≤ i) × (t' ≡ t)

-- t' is the table t after the record x was to be appended
abbrev pub Pushed : {R : Type 0} → Ordered R → Ordered R → R → Result ℕ R → Type 0
Pushed t t' x (Ok i) = (i ≡ length (listed t)) × (i < room t) × (listed t' ≡ listed t ++ x ∷ []) × (t' ≡ over t (slice_set t.places.now i x) (i + 1))
Pushed t t' x (Err y) = (y ≡ x) × (room t ≤ length (listed t)) × (t' ≡ t)

-- t' is the table t after all of the list xs was to be appended
abbrev pub Extended : {R : Type 0} → Ordered R → Ordered R → List R → Result (Unit {0}) NoRoom → Type 0
Extended t t' xs (Ok _) =
    (length (listed t) + length xs ≤ room t) × (listed t' ≡ listed t ++ xs) ×
    (t' ≡ over t (listed t ++ (xs ++ drop (length (listed t) + length xs) t.places.now)) (length (listed t) + length xs))
Extended t t' xs (Err _) = (room t < length (listed t) + length xs) × (t' ≡ t)

-- t' is the table t, whose keys are ks, after the record x was to be entered at the key k
abbrev pub Entered : {R : Type 0} → List (List ℕ) → List ℕ → Ordered R → Ordered R → R → Result ℕ R → Type 0
Entered ks k t t' x (Ok i) = (First ks k i × (t' ≡ t)) ⊎ (Absent ks k × Pushed t t' x (Ok i))
Entered ks k t t' x (Err y) = Absent ks k × Pushed t t' x (Err y)

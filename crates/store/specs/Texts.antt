-- Texts: each is held once, and known by its number.
use Rattle.std.specs.Prelude.{ℕ, ◌+◌, Bool, cond, ◌&&◌, List, [], ◌∷◌, ◌++◌, map, length, take, drop, Some, None, Option, nat_le, nat_lt}
use Rattle.std.specs.Option.{option_map}
use Rattle.std.specs.Str.{bytes_eq}
use Rattle.store.specs.declared.text.Text.{Text}
use Rattle.store.specs.Held.{Held, Room}

-- the first place at which a key stands in a list of keys
abbrev pub place_of : List ℕ → List (List ℕ) → Option ℕ
place_of k [] = None
place_of k (x ∷ xs) = cond (bytes_eq x k) (Some 0) (option_map (λ i. i + 1) (place_of k xs))

-- the bytes of a text
abbrev pub spelled : List ℕ → Text → List ℕ
spelled bytes t = take t.len (drop t.start bytes)

-- the texts held, each as its bytes
abbrev pub spellings : Held → List (List ℕ)
spellings h = map (spelled h.bytes) h.texts

-- the number of a text that is held
abbrev pub number_of : Held → List ℕ → Option ℕ
number_of h text = place_of text (spellings h)

-- there is room for one more text
abbrev pub fits_in : Room → Held → List ℕ → Bool
fits_in room h text = nat_lt (length h.texts) room.texts && nat_le (length h.bytes + length text) room.bytes

-- a text more: its record, and its bytes
abbrev pub with_text : Held → List ℕ → Held
with_text h text = record {
  tables = h.tables;
  symbols = h.symbols;
  texts = h.texts ++ record { start = length h.bytes; len = length text } ∷ [];
  bytes = h.bytes ++ text;
}

-- the first n texts and the first b bytes
abbrev pub with_first : Held → ℕ → ℕ → Held
with_first h n b = record { tables = h.tables; symbols = h.symbols; texts = take n h.texts; bytes = take b h.bytes }

-- what is held once a text is, and its number
pub record Interned : Type 0 where
  pub held : Held
  pub number : ℕ

-- a text that is new comes last, if there is room
abbrev pub added : Room → Held → List ℕ → Option Interned
added room h text = cond (fits_in room h text) (Some (record { held = with_text h text; number = length h.texts })) None

abbrev pub interned_by : Room → Held → List ℕ → Option ℕ → Option Interned
interned_by room h text (Some i) = Some (record { held = h; number = i })
interned_by room h text None = added room h text

-- a text that is held keeps its number; another is added
abbrev pub interned : Room → Held → List ℕ → Option Interned
interned room h text = interned_by room h text (number_of h text)

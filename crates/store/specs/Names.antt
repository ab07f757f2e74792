-- The names of a table, in the order of their first entering.
use Rattle.std.specs.Prelude.{◌≡◌, ℕ, List, [], ◌∷◌, ◌++◌, map, Some, None, filter, Option, nat_eq, slice_index_or}
use Rattle.symbols.specs.Faults.{Spot}
use Rattle.symbols.specs.declared.symbol.Symbol.{Symbol}
use Rattle.symbols.specs.declared.usage.SymbolUsage.{SymbolUsage}
use Rattle.store.specs.Enterings.{enter, key_of, stands_at}
use Rattle.store.specs.Held.{Held, Room, Outcome, done, and_then}
use Rattle.store.specs.Texts.{number_of, place_of, spellings}

-- the symbols of table u, in order
abbrev pub symbols_in : Held → ℕ → List Symbol
symbols_in h u = filter (λ s. nat_eq s.table u) h.symbols

-- the names of table u, each as its bytes, in order
abbrev pub names_in : Held → ℕ → List (List ℕ)
names_in h u = map (λ s. slice_index_or (spellings h) s.name []) (symbols_in h u)

abbrev pub after_by : List (List ℕ) → List ℕ → Option ℕ → List (List ℕ)
after_by names x (Some i) = names
after_by names x None = names ++ x ∷ []

-- each name that is not there yet comes last, one after another
abbrev pub append_new : List (List ℕ) → List (List ℕ) → List (List ℕ)
append_new names [] = names
append_new names (x ∷ xs) = append_new (after_by names x (place_of x names)) xs

-- the keys once a name was entered in table t: as they were if the table had it, else with its key after them
pub record KeysAfter (h k : Held) (t : ℕ) (text : List ℕ) : Type 0 where
  pub held : (i : ℕ) → stands_at h t text ≡ Some i → map key_of k.symbols ≡ map key_of h.symbols
  pub new : stands_at h t text ≡ None → (x : ℕ) × (number_of k text ≡ Some x) × (map key_of k.symbols ≡ map key_of h.symbols ++ (t ∷ x ∷ []) ∷ [])

-- one entering: a name in a role in a table, at a spot
pub record Entering : Type 0 where
  pub table : ℕ
  pub role : SymbolUsage
  pub text : List ℕ
  pub spot : Spot

-- enterings one after another, up to the first that is refused
abbrev pub enter_all : Room → Held → List Entering → Outcome
enter_all room h [] = done h
enter_all room h (e ∷ es) = and_then (enter room h e.table e.role e.text e.spot) (λ k. enter_all room k es)

-- the texts that are entered in table u, in order
abbrev pub texts_for : ℕ → List Entering → List (List ℕ)
texts_for u es = map (λ e. e.text) (filter (λ e. nat_eq e.table u) es)

-- What an entering may do to what was there: symbols grow where they stand, and texts come after those before.
use Rattle.std.specs.Prelude.{◌≡◌, ℕ, ◌<◌, true, false, ◌&&◌, List, ◌++◌, length, get_or, Some, slice_index_or}
use Rattle.symbols.specs.declared.symbol.Symbol.{Symbol}
use Rattle.symbols.specs.declared.usage.SymbolUsage.{SymbolUsage}
use Rattle.store.specs.Enterings.{no_symbol, stands_at}
use Rattle.symbols.specs.Flags.{assigned, has, iter, nonlocal}
use Rattle.store.specs.Held.{Held}
use Rattle.store.specs.Sound.{Inside}
use Rattle.store.specs.Texts.{number_of, spellings}
use Rattle.symbols.specs.Usage.{declares_global, masks_of}

-- s' is the symbol s with, at most, more masks, a declaration and the scope that goes with it
pub record Grown (s s' : Symbol) : Type 0 where
  pub table : s'.table ≡ s.table
  pub name : s'.name ≡ s.name
  pub spot : s'.spot ≡ s.spot
  pub masks : has s'.flags.bits s.flags.bits ≡ true
  pub global : s.global ≡ true → s'.global ≡ true

-- each symbol of h stands in k at the same place, grown
abbrev pub AllGrown : Held → Held → Type 0
AllGrown h k = (i : ℕ) → i < length h.symbols → (i < length k.symbols) × Grown (slice_index_or h.symbols i no_symbol) (slice_index_or k.symbols i no_symbol)

-- table t has the name in k, with what the role sets
pub record Taken (k : Held) (t : ℕ) (role : SymbolUsage) (text : List ℕ) : Type 0 where
  pub place : ℕ
  pub stands : stands_at k t text ≡ Some place
  pub masks : has (get_or k.symbols place no_symbol).flags.bits (masks_of role) ≡ true
  pub global : declares_global role ≡ true → (get_or k.symbols place no_symbol).global ≡ true

-- a symbol is declared one way at most, and is not both the target of a comprehension's `for` and assigned
pub record Consistent (s : Symbol) : Type 0 where
  pub one_way : s.global ≡ true → has s.flags.bits nonlocal ≡ false
  pub one_target : (has s.flags.bits iter && has s.flags.bits assigned) ≡ false

-- ys is xs with more after it
pub record Longer {X : Type 0} (xs ys : List X) : Type 0 where
  pub rest : List X
  pub is : ys ≡ xs ++ rest

-- the texts of h are the first of k, spelled as they were, and each keeps its number
pub record TextsKept (h k : Held) : Type 0 where
  pub inside : Inside k
  pub longer : Longer (spellings h) (spellings k)
  pub numbers : (text : List ℕ) (x : ℕ) → number_of h text ≡ Some x → number_of k text ≡ Some x

-- A checked file spells exactly one tree.
use Rattle.std.specs.Prelude.{◌≡◌, ℕ, zero, suc, ◌+◌, ◌<◌, ◌≤◌, true, cond, List, [], ◌∷◌, length, Some, None, Ok, Option, ◌==◌}
use Rattle.treefile.specs.declared.trailer.Trailer.{Trailer}
use Rattle.treefile.specs.Names.{name_bytes}
use Rattle.treefile.specs.Records.{kind_at, form_at, size_at, name_number, row_at}
use Rattle.treefile.specs.Slots.{X, B}
use Rattle.treefile.specs.Fits.{tree_check}
use Rattle.treefile.specs.Trees.{Label, Tree, Trees, Entry, tree_records, trees_records, height, kind_of, takes_tree, well_formed}

-- the bytes of a node's name, if it has one
abbrev pub name_at : List ℕ → Trailer → ℕ → Option (List ℕ)
name_at bs t i = cond (name_number bs t i == 0xffff_ffff) None (Some (name_bytes bs t (name_number bs t i)))

-- what record i says
abbrev pub label_at : List ℕ → Trailer → ℕ → Label
label_at bs t i = record { kind = kind_at bs t i; form = form_at bs t i; name = name_at bs t i; row = row_at bs t i }

-- n records of a file, from record i on
abbrev pub records_from : List ℕ → Trailer → ℕ → ℕ → List Entry
records_from bs t i zero = []
records_from bs t i (suc n) = record { label = label_at bs t i; size = size_at bs t i } ∷ records_from bs t (i + 1) n

-- the records from record i on are those of a tree
pub record StandsAt (bs : List ℕ) (t : Trailer) (i : ℕ) (x : Tree) : Type 0 where
  pub records : records_from bs t i (length (tree_records x)) ≡ tree_records x

-- the records from record pos on are those of trees one after the other
pub record RowAt (bs : List ℕ) (t : Trailer) (pos : ℕ) (xs : Trees) : Type 0 where
  pub records : records_from bs t pos (length (trees_records xs)) ≡ trees_records xs

-- a file's records, all of them, are those of a tree
abbrev pub Spells : List ℕ → Trailer → Tree → Type 0
Spells bs t x = records_from bs t 0 t.record_count ≡ tree_records x

-- a tree that a file may hold: a List of statements or an expression, its nodes with the children that they ask for, at most 200 levels
pub record Admitted (x : Tree) : Type 0 where
  pub root : takes_tree (cond (kind_of x == 1) B X) x ≡ true
  pub formed : well_formed x ≡ true
  pub shallow : height x ≤ 200

-- there is a tree that the file spells, it is the only one, and a file may hold it
pub record SpellsOne (bs : List ℕ) (t : Trailer) : Type 0 where
  pub tree : Tree
  pub spelled : Spells bs t tree
  pub only : (x : Tree) → Spells bs t x → x ≡ tree
  pub admitted : Admitted tree

-- the tree check of a file with records passes exactly where they spell one tree that a file may hold
pub record SpellingRule (bs : List ℕ) (t : Trailer) : Type 0 where
  pub passes : 0 < t.record_count → tree_check bs t ≡ Ok tt → SpellsOne bs t
  pub accepts : (x : Tree) → Spells bs t x → Admitted x → tree_check bs t ≡ Ok tt

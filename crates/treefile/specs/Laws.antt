-- The laws of the check, for every file: the main statement about tree files.
use Rattle.std.specs.Prelude.{◌≡◌, ℕ, ◌<◌, List, Ok}
use Rattle.treefile.specs.declared.trailer.Trailer.{Trailer}
use Rattle.treefile.specs.Checked.{file_check}
use Rattle.treefile.specs.Names.{Whole}
use Rattle.treefile.specs.Preorder.{FirstInPreorder}
use Rattle.treefile.specs.Slots.{TableRule}
use Rattle.treefile.specs.Spelling.{SpellsOne, SpellingRule}
use Rattle.treefile.specs.Trailer.{trailer_of}

pub record CheckLaws (bs : List ℕ) : Type 0 where
  -- a file that passes spells exactly one tree, and it is one that a file may hold
  pub spells_one : (t : Trailer) → file_check bs ≡ Ok t → SpellsOne bs t
  -- and each name of its index is whole
  pub names : (t : Trailer) → file_check bs ≡ Ok t → (n : ℕ) → n < t.name_count → Whole bs t n
  -- the test of the tree passes exactly where the records spell such a tree
  pub spelling : SpellingRule bs (trailer_of bs)
  -- its fault is that of the first node in preorder, each tested alone
  pub fault_is_first : FirstInPreorder bs (trailer_of bs)
  -- nothing stands after an empty column of the slot table, and nothing in the row of no kind
  pub slot_table : TableRule

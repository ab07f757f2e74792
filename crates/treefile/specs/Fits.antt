-- Which nodes have the children that their slots ask for, and how deep they stand.
use Rattle.std.specs.Prelude.{◌≡◌, ℕ, zero, suc, ◌+◌, ◌≤◌, Bool, true, false, cond, not, ◌&&◌, ◌||◌, List, [], ◌∷◌, Err, ◌==◌, nat_le, nat_lt, map}
use Rattle.treefile.specs.declared.fault.Refusal.{Refusal}
use Rattle.treefile.specs.declared.fault.TreeReason.{TreeReason}
use Rattle.treefile.specs.declared.fault.TreeReason.TheVariants.{Slots, Depth}
use Rattle.treefile.specs.declared.trailer.Trailer.{Trailer}
use Rattle.treefile.specs.Faults.{Verdict, fault_of}
use Rattle.treefile.specs.First.{first_fault}
use Rattle.treefile.specs.Records.{kind_at, size_at, row_at}
use Rattle.treefile.specs.Slots.{X, B, V, G, asks_list, element, single, columns}
use Rattle.treefile.specs.Trailer.{Framed}

-- where the subtree of a node ends
abbrev pub end_of : List ℕ → Trailer → ℕ → ℕ
end_of bs t i = i + size_at bs t i

-- node p has a size, and its subtree ends at or before an end
abbrev pub within : List ℕ → Trailer → ℕ → ℕ → Bool
within bs t end p = nat_le 1 (size_at bs t p) && nat_le (end_of bs t p) end

-- the nodes that stand one after the other from pos up to an end, at most n of them
abbrev pub kids : List ℕ → Trailer → ℕ → ℕ → ℕ → List ℕ
kids bs t zero pos end = []
kids bs t (suc n) pos end = cond (nat_lt pos end) (pos ∷ kids bs t n (end_of bs t pos) end) []

-- the children of a node
abbrev pub children : List ℕ → Trailer → ℕ → List ℕ
children bs t i = kids bs t (size_at bs t i) (i + 1) (end_of bs t i)

-- a node of a file, by its number
pub record Place : Type 0 where
  pub file : List ℕ
  pub trailer : Trailer
  pub node : ℕ

abbrev pub place : List ℕ → Trailer → ℕ → Place
place bs t i = record { file = bs; trailer = t; node = i }

-- the same, as nodes of their file
abbrev pub places : List ℕ → Trailer → ℕ → ℕ → ℕ → List Place
places bs t n pos end = map (place bs t) (kids bs t n pos end)

abbrev pub child_places : List ℕ → Trailer → ℕ → List Place
child_places bs t i = map (place bs t) (children bs t i)

-- each node of a list lies within an end and is an element that the letter asks for
abbrev pub elements_fit : List ℕ → Trailer → ℕ → ℕ → List ℕ → Bool
elements_fit bs t letter end [] = true
elements_fit bs t letter end (p ∷ ps) =
    (within bs t end p && element letter (kind_at bs t p)) && elements_fit bs t letter end ps

-- a List whose elements lie within it and are of the letter's sort; under G at least one
abbrev pub list_fits : List ℕ → Trailer → ℕ → ℕ → Bool
list_fits bs t letter p =
    (kind_at bs t p == 1)
    && ((not (letter == G) || nat_lt 1 (size_at bs t p)) && elements_fit bs t letter (end_of bs t p) (children bs t p))

-- the second child of a node is Absent
abbrev pub second_absent : List ℕ → Trailer → ℕ → Bool
second_absent bs t p =
    nat_lt (p + 1) (end_of bs t p)
    && (within bs t (end_of bs t p) (p + 1)
    && (nat_lt (end_of bs t (p + 1)) (end_of bs t p) && kind_at bs t (end_of bs t (p + 1)) == 0))

-- Absent, or an Arg whose second child, the default, is Absent
abbrev pub bare_arg : List ℕ → Trailer → ℕ → Bool
bare_arg bs t p = kind_at bs t p == 0 || (kind_at bs t p == 45 && second_absent bs t p)

-- node p may stand in a slot of that letter, as far as the letter speaks
abbrev pub takes : List ℕ → Trailer → ℕ → ℕ → Bool
takes bs t letter p =
    cond (asks_list letter) (list_fits bs t letter p) (cond (letter == V) (bare_arg bs t p) (single letter (kind_at bs t p)))

-- the same for a child of a node that ends at an end
abbrev pub slot_fits : List ℕ → Trailer → ℕ → ℕ → ℕ → Bool
slot_fits bs t letter end p = within bs t end p && takes bs t letter p

-- one child for each slot, and no more
abbrev pub slots_fit : List ℕ → Trailer → List ℕ → ℕ → List ℕ → Bool
slots_fit bs t [] end [] = true
slots_fit bs t [] end (p ∷ ps) = false
slots_fit bs t (a ∷ letters) end [] = false
slots_fit bs t (a ∷ letters) end (p ∷ ps) = slot_fits bs t a end p && slots_fit bs t letters end ps

-- the children of a node fit its slots; the elements of a List are the business of the node whose slot it stands in
abbrev pub fits : List ℕ → Trailer → ℕ → Bool
fits bs t i = cond (kind_at bs t i == 1) true (slots_fit bs t (columns (kind_at bs t i)) (end_of bs t i) (children bs t i))

abbrev pub slots_fault : List ℕ → Trailer → ℕ → Refusal TreeReason
slots_fault bs t i = fault_of Slots i (row_at bs t i)

abbrev pub depth_fault : List ℕ → Trailer → ℕ → Refusal TreeReason
depth_fault bs t i = fault_of Depth i (row_at bs t i)

-- the first fault in the subtree of a node, with so many levels left for it and what is below it
unfoldable pub node_check : List ℕ → Trailer → ℕ → ℕ → Verdict
node_check bs t zero i = cond (fits bs t i) (Err (depth_fault bs t i)) (Err (slots_fault bs t i))
node_check bs t (suc levels) i =
    cond (fits bs t i) (first_fault (node_check bs t levels) (children bs t i)) (Err (slots_fault bs t i))

-- the root spans all records, and is a List of statements or an expression
abbrev pub root_fits : List ℕ → Trailer → Bool
root_fits bs t =
    (size_at bs t 0 == t.record_count) && takes bs t (cond (kind_at bs t 0 == 1) B X) 0

-- the first fault of the tree: no node stands deeper than 200, the root at 1
abbrev pub tree_check : List ℕ → Trailer → Verdict
tree_check bs t = cond (root_fits bs t) (node_check bs t 200 0) (Err (slots_fault bs t 0))

-- node i is one of the records, and its subtree lies among them
pub record Stands (bs : List ℕ) (t : Trailer) (i : ℕ) : Type 0 where
  pub framed : Framed bs t
  pub some : 1 ≤ size_at bs t i
  pub within : end_of bs t i ≤ t.record_count

-- the elements of a List lie within it, and are of one letter's sort
pub record Tiled (bs : List ℕ) (t : Trailer) (i : ℕ) : Type 0 where
  pub letter : ℕ
  pub elements : elements_fit bs t letter (end_of bs t i) (children bs t i) ≡ true

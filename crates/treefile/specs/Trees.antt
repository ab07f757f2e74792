-- Trees of nodes, without places: what a tree file spells.
use Rattle.std.specs.Prelude.{ℕ, suc, ◌+◌, max, Bool, true, false, cond, not, ◌&&◌, ◌||◌, List, [], ◌∷◌, ◌++◌, length, Option, ◌==◌}
use Rattle.treefile.specs.Slots.{V, G, asks_list, element, single, columns}

-- what a node says: its kind and form, the bytes of its name, and its row
pub record Label : Type 0 where
  pub kind : ℕ
  pub form : ℕ
  pub name : Option (List ℕ)
  pub row : ℕ

mutual
  -- a node and its children
  pub data Tree : Type 0 where
    node : Label → Trees → Tree

  pub data Trees : Type 0 where
    none : Trees
    more : Tree → Trees → Trees

-- a record: what its node says, and how many nodes its subtree has
pub record Entry : Type 0 where
  pub label : Label
  pub size : ℕ

-- the records of a tree, in preorder
abbrev mutual
  pub tree_records : Tree → List Entry
  tree_records (node l ts) = record { label = l; size = length (trees_records ts) + 1 } ∷ trees_records ts

  pub trees_records : Trees → List Entry
  trees_records none = []
  trees_records (more x xs) = tree_records x ++ trees_records xs

-- the levels of a tree, its root's among them
abbrev mutual
  pub height : Tree → ℕ
  height (node l ts) = suc (heights ts)

  pub heights : Trees → ℕ
  heights none = 0
  heights (more x xs) = max (height x) (heights xs)

abbrev pub kind_of : Tree → ℕ
kind_of (node l ts) = l.kind

abbrev pub some : Trees → Bool
some none = false
some (more x xs) = true

-- each tree is of the sort that a list letter asks for
abbrev pub all_elements : ℕ → Trees → Bool
all_elements letter none = true
all_elements letter (more x xs) = element letter (kind_of x) && all_elements letter xs

-- the second tree is Absent
abbrev pub second_is_absent : Trees → Bool
second_is_absent none = false
second_is_absent (more x none) = false
second_is_absent (more x (more y ys)) = kind_of y == 0

-- a tree may stand in a slot of that letter
abbrev pub takes_tree : ℕ → Tree → Bool
takes_tree letter (node l ts) =
    cond (asks_list letter) (l.kind == 1 && ((not (letter == G) || some ts) && all_elements letter ts))
    (cond (letter == V) (l.kind == 0 || (l.kind == 45 && second_is_absent ts)) (single letter l.kind))

-- one tree for each slot, and no more
abbrev pub slotted : List ℕ → Trees → Bool
slotted [] none = true
slotted [] (more x xs) = false
slotted (a ∷ letters) none = false
slotted (a ∷ letters) (more x xs) = takes_tree a x && slotted letters xs

-- each node but a List has one child for each of its slots; a List is tested where it stands in a slot
abbrev mutual
  pub well_formed : Tree → Bool
  well_formed (node l ts) = cond (l.kind == 1) true (slotted (columns l.kind) ts) && all_well_formed ts

  pub all_well_formed : Trees → Bool
  all_well_formed none = true
  all_well_formed (more x xs) = well_formed x && all_well_formed xs

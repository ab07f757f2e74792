-- Where the nodes of a checked tree stand: a node, its children, and what the scan reads of them.
use Rattle.std.specs.Prelude.{◌≡◌, ℕ, ◌+◌, ◌<◌, ◌≤◌, true, List, length, ◌≢◌}
use Rattle.treefile.specs.declared.trailer.Trailer.{Trailer}
use Rattle.treefile.specs.Records.{size_at}
use Rattle.treefile.specs.Spelling.{StandsAt, RowAt, label_at}
use Rattle.treefile.specs.Slots.{columns}
use Rattle.treefile.specs.Trees.{Tree, Trees, none, more, tree_records, trees_records, slotted, well_formed, all_well_formed}
use Rattle.symbols.specs.Faults.{Spot}
use Rattle.scan.specs.Enterings.{part_of, parts_of, made_of}
use Rattle.scan.specs.Parts.{Parts, end, ◌▸◌}

-- a tree that a file may hold stands at place i
pub record Here (bs : List ℕ) (t : Trailer) (i : ℕ) (x : Tree) : Type 0 where
  pub stands : StandsAt bs t i x
  pub formed : well_formed x ≡ true
  pub within : i + length (tree_records x) ≤ t.record_count

-- trees stand one after the other from place i to place e
pub record Row (bs : List ℕ) (t : Trailer) (i e : ℕ) (xs : Trees) : Type 0 where
  pub stands : RowAt bs t i xs
  pub formed : all_well_formed xs ≡ true
  pub ends : e ≡ i + length (trees_records xs)
  pub within : e ≤ t.record_count

-- the spot of node i
abbrev pub spot_at : List ℕ → Trailer → ℕ → Spot
spot_at bs t i = record { node = i; row = (label_at bs t i).row }

-- what the scan reads of node i is what its record says and these children
abbrev pub ReadsAs : List ℕ → Trailer → ℕ → Tree → Parts → Type 0
ReadsAs bs t i x ps = part_of x i ≡ made_of (spot_at bs t i) (label_at bs t i) ps

-- these trees stand in the slots of node i, if it is no List
abbrev pub Slotted : List ℕ → Trailer → ℕ → Trees → Type 0
Slotted bs t i xs = ((label_at bs t i).kind ≢ 1) → slotted (columns (label_at bs t i).kind) xs ≡ true

-- a node without children, and nodes with as many as their kinds have slots; the children are smaller together
pub record NoChild (bs : List ℕ) (t : Trailer) (i : ℕ) (x : Tree) : Type 0 where
  pub reads : ReadsAs bs t i x end

pub record OneChild (bs : List ℕ) (t : Trailer) (i a : ℕ) (x : Tree) : Type 0 where
  pub first : Tree
  pub reads : ReadsAs bs t i x (part_of first a ▸ end)
  pub slots : Slotted bs t i (more first none)
  pub here_first : Here bs t a first
  pub less : size_at bs t a < size_at bs t i

pub record TwoChildren (bs : List ℕ) (t : Trailer) (i a b : ℕ) (x : Tree) : Type 0 where
  pub first : Tree
  pub second : Tree
  pub reads : ReadsAs bs t i x (part_of first a ▸ part_of second b ▸ end)
  pub slots : Slotted bs t i (more first (more second none))
  pub here_first : Here bs t a first
  pub here_second : Here bs t b second
  pub less : size_at bs t a + size_at bs t b < size_at bs t i

pub record ThreeChildren (bs : List ℕ) (t : Trailer) (i a b c : ℕ) (x : Tree) : Type 0 where
  pub first : Tree
  pub second : Tree
  pub third : Tree
  pub reads : ReadsAs bs t i x (part_of first a ▸ part_of second b ▸ part_of third c ▸ end)
  pub slots : Slotted bs t i (more first (more second (more third none)))
  pub here_first : Here bs t a first
  pub here_second : Here bs t b second
  pub here_third : Here bs t c third
  pub less : size_at bs t a + size_at bs t b + size_at bs t c < size_at bs t i

pub record FourChildren (bs : List ℕ) (t : Trailer) (i a b c d : ℕ) (x : Tree) : Type 0 where
  pub first : Tree
  pub second : Tree
  pub third : Tree
  pub fourth : Tree
  pub reads : ReadsAs bs t i x (part_of first a ▸ part_of second b ▸ part_of third c ▸ part_of fourth d ▸ end)
  pub slots : Slotted bs t i (more first (more second (more third (more fourth none))))
  pub here_first : Here bs t a first
  pub here_second : Here bs t b second
  pub here_third : Here bs t c third
  pub here_fourth : Here bs t d fourth
  pub less : size_at bs t a + size_at bs t b + size_at bs t c + size_at bs t d < size_at bs t i

-- a List, whose elements stand from place a to place e
pub record Elements (bs : List ℕ) (t : Trailer) (i a e : ℕ) (x : Tree) : Type 0 where
  pub trees : Trees
  pub reads : ReadsAs bs t i x (parts_of trees a)
  pub row : Row bs t a e trees
  pub less : length (trees_records trees) < size_at bs t i

-- The check of the tree, told node by node: the first fault in preorder, each node tested alone.
use Rattle.std.specs.Prelude.{◌≡◌, ℕ, zero, suc, ◌+◌, cond, List, [], ◌∷◌, ◌++◌, map, Ok, Err, nat_le}
use Rattle.std.specs.List.{range_with_len}
use Rattle.treefile.specs.declared.stand.Stand.{Stand}
use Rattle.treefile.specs.declared.trailer.Trailer.{Trailer}
use Rattle.treefile.specs.Faults.{Verdict}
use Rattle.treefile.specs.First.{and_then}
use Rattle.treefile.specs.Fits.{children, fits, slots_fault, depth_fault, root_fits, tree_check}

-- a `Stand` is a node, and how deep it stands
abbrev pub joined : (ℕ → List Stand) → List ℕ → List Stand
joined f [] = []
joined f (p ∷ ps) = f p ++ joined f ps

-- the nodes of a subtree in preorder, so many levels below its first
unfoldable pub preorder : List ℕ → Trailer → ℕ → ℕ → ℕ → List Stand
preorder bs t zero depth i = record { node = i; depth = depth } ∷ []
preorder bs t (suc levels) depth i =
    record { node = i; depth = depth } ∷ joined (preorder bs t levels (depth + 1)) (children bs t i)

-- one node alone: its slots, then its depth
abbrev pub alone : List ℕ → Trailer → Stand → Verdict
alone bs t s =
    cond (fits bs t s.node) (cond (nat_le s.depth 200) (Ok tt) (Err (depth_fault bs t s.node))) (Err (slots_fault bs t s.node))

-- the first fault of a list of nodes, each tested alone
abbrev pub first_alone : List ℕ → Trailer → List Stand → Verdict
first_alone bs t [] = Ok tt
first_alone bs t (s ∷ ss) = and_then (alone bs t s) (first_alone bs t ss)

-- the root is tested as what a file may hold, and then each node in preorder, alone
abbrev pub FirstInPreorder : List ℕ → Trailer → Type 0
FirstInPreorder bs t =
    tree_check bs t ≡ cond (root_fits bs t) (first_alone bs t (preorder bs t 200 1 0)) (Err (slots_fault bs t 0))

-- of a file that passes, these nodes are its records, each once and in their order
abbrev pub AllInOrder : List ℕ → Trailer → Type 0
AllInOrder bs t = map (λ s. s.node) (preorder bs t 200 1 0) ≡ range_with_len 0 t.record_count

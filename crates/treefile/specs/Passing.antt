-- A node of a tree that passes, for a recursion over a checked tree.
use Rattle.std.specs.Prelude.{◌≡◌, ℕ, List, Ok}
use Rattle.treefile.specs.declared.trailer.Trailer.{Trailer}
use Rattle.treefile.specs.Fits.{Stands, Tiled, node_check}
use Rattle.treefile.specs.Records.{kind_at}

-- node i stands among the records, and its subtree has no fault with so many levels left
pub record Passes (bs : List ℕ) (t : Trailer) (levels i : ℕ) : Type 0 where
  pub stands : Stands bs t i
  pub tiled : kind_at bs t i ≡ 1 → Tiled bs t i
  pub clean : node_check bs t levels i ≡ Ok tt

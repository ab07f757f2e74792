-- Why a tree file is refused.
use Rattle.std.specs.Prelude.{ℕ, Result}
use Rattle.treefile.specs.declared.fault.Layer.{Layer}
use Rattle.treefile.specs.declared.fault.Layer.TheVariants as layer
use Rattle.treefile.specs.declared.fault.TreeReason.{TreeReason}
use Rattle.treefile.specs.declared.fault.TreeReason.TheVariants.{Frame, Counts, Name, Record, Slots, Depth}
use Rattle.treefile.specs.declared.fault.Refusal.{Refusal}

-- the number that a listing prints for a reason
abbrev pub number_of : TreeReason → ℕ
number_of Frame = 1
number_of Counts = 2
number_of Name = 3
number_of Record = 4
number_of Slots = 5
number_of Depth = 6

-- each of them lies with who wrote the file
abbrev pub layer_of : TreeReason → Layer
layer_of Frame = layer.Tree
layer_of Counts = layer.Tree
layer_of Name = layer.Tree
layer_of Record = layer.Tree
layer_of Slots = layer.Tree
layer_of Depth = layer.Tree

-- a reason with the node and the row that it belongs to
abbrev pub fault_of : TreeReason → ℕ → ℕ → Refusal TreeReason
fault_of reason node row = record { reason = reason; spot = record { node = node; row = row } }

-- passed, or refused
abbrev pub Verdict : Type 0
Verdict = Result (Unit {0}) (Refusal TreeReason)

-- A tree as the scan reads it: each node with where it stands, what it says, how it is scanned, and its children.
use Rattle.std.specs.Prelude.{ℕ, Bool, false, List, [], Some, None, Option}
use Rattle.symbols.specs.Faults.{Spot}
use Rattle.treefile.specs.Trees.{Label}
use Rattle.scan.specs.Kinds.{Kind, kind_from}
use Rattle.scan.specs.Scans.{Scan, nothing, ◌⨾◌, deferring}

infixr 6 ◌▸◌
mutual
  -- a node; the Bool says that an import somewhere in it defers annotations
  pub data Part : Type 0 where
    part : Spot → Label → Bool → Scan → Parts → Part

  pub data Parts : Type 0 where
    end : Parts
    ◌▸◌ : Part → Parts → Parts

abbrev pub spot_of : Part → Spot
spot_of (part s l d f ps) = s

abbrev pub label_of : Part → Label
label_of (part s l d f ps) = l

abbrev pub defers : Part → Bool
defers (part s l d f ps) = d

abbrev pub scanned : Part → Scan
scanned (part s l d f ps) = f

abbrev pub children : Part → Parts
children (part s l d f ps) = ps

abbrev pub kind_of : Part → Kind
kind_of p = kind_from (label_of p).kind

-- a name; a node without one has no bytes
abbrev pub bytes_of : Option (List ℕ) → List ℕ
bytes_of (Some bytes) = bytes
bytes_of None = []

abbrev pub name_of : Part → List ℕ
name_of p = bytes_of (label_of p).name

-- what stands in a slot that a node does not have
abbrev pub no_part : Part
no_part = part (record { node = 0; row = 0 }) (record { kind = 0; form = 0; name = None; row = 0 }) false nothing end

abbrev pub first : Parts → Part
first end = no_part
first (p ▸ ps) = p

abbrev pub rest : Parts → Parts
rest end = end
rest (p ▸ ps) = ps

-- the children in a node's slots
abbrev pub one : (Part → Scan) → Parts → Scan
one f ps = f (first ps)

abbrev pub two : (Part → Part → Scan) → Parts → Scan
two f ps = one (f (first ps)) (rest ps)

abbrev pub three : (Part → Part → Part → Scan) → Parts → Scan
three f ps = two (f (first ps)) (rest ps)

abbrev pub four : (Part → Part → Part → Part → Scan) → Parts → Scan
four f ps = three (f (first ps)) (rest ps)

abbrev pub five : (Part → Part → Part → Part → Part → Scan) → Parts → Scan
five f ps = four (f (first ps)) (rest ps)

-- each of several nodes in a way
abbrev pub each : (Part → Scan) → Parts → Scan
each f end = nothing
each f (p ▸ ps) = f p ⨾ each f ps

-- the elements of a List, each as it is scanned
abbrev pub elements : Part → Scan
elements list = each scanned (children list)

infixr 5 ◌⟫◌
-- a node, and then what comes after it: an import in it that defers annotations does so from there on
abbrev pub ◌⟫◌ : Part → Scan → Scan
p ⟫ f = scanned p ⨾ deferring (defers p) f

-- several nodes, each after those before it
abbrev pub in_turn : Parts → Scan
in_turn end = nothing
in_turn (p ▸ ps) = p ⟫ in_turn ps

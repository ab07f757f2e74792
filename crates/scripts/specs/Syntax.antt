-- How a tree is written: one word a kind, with the row, the name if it has one, and the children by their slots.
use Rattle.std.specs.Prelude.{ℕ, List, Some, None}
use Rattle.treefile.specs.Trees.{Tree, node, Trees, none, more}

infixr 6 ◌▹◌
abbrev pub ◌▹◌ : Tree → Trees → Trees
x ▹ xs = more x xs

-- a node without a name, and one with a name
abbrev plain : ℕ → ℕ → Trees → Tree
plain kind row ts = node (record { kind = kind; form = 0; name = None; row = row }) ts

abbrev named : ℕ → ℕ → List ℕ → Trees → Tree
named kind row bytes ts = node (record { kind = kind; form = 0; name = Some bytes; row = row }) ts

abbrev pub absent : ℕ → Tree
absent row = plain 0 row none

abbrev pub list : ℕ → Trees → Tree
list row ts = plain 1 row ts

-- statements
abbrev pub nonlocals : ℕ → Tree → Tree
nonlocals row names = plain 17 row (names ▹ none)

abbrev pub function_def : ℕ → List ℕ → Tree → Tree → Tree → Tree → Tree
function_def row bytes decorators returns params body = named 18 row bytes (decorators ▹ returns ▹ params ▹ body ▹ none)

abbrev pub class_def : ℕ → List ℕ → Tree → Tree → Tree → Tree → Tree
class_def row bytes body bases keywords decorators = named 19 row bytes (body ▹ bases ▹ keywords ▹ decorators ▹ none)

abbrev pub expr : ℕ → Tree → Tree
expr row value = plain 20 row (value ▹ none)

abbrev pub returns : ℕ → Tree → Tree
returns row value = plain 27 row (value ▹ none)

abbrev pub assign : ℕ → Tree → Tree → Tree
assign row targets value = plain 30 row (targets ▹ value ▹ none)

-- parts of them
abbrev pub id : ℕ → List ℕ → Tree
id row bytes = named 41 row bytes none

abbrev pub params : ℕ → Tree → Tree → Tree → Tree → Tree → Tree
params row positional args keyword vararg kwarg = plain 44 row (positional ▹ args ▹ keyword ▹ vararg ▹ kwarg ▹ none)

abbrev pub arg : ℕ → List ℕ → Tree → Tree → Tree
arg row bytes annotation default = named 45 row bytes (annotation ▹ default ▹ none)

abbrev pub generator : ℕ → Tree → Tree → Tree → Tree
generator row target iter ifs = plain 46 row (target ▹ iter ▹ ifs ▹ none)

-- expressions
abbrev pub same : ℕ → Tree → Tree
same row values = plain 64 row (values ▹ none)

abbrev pub load : ℕ → Tree → Tree
load row values = plain 65 row (values ▹ none)

abbrev pub call : ℕ → Tree → Tree → Tree
call row func args = plain 66 row (func ▹ args ▹ none)

abbrev pub name : ℕ → List ℕ → Tree
name row bytes = named 67 row bytes none

abbrev pub lambda : ℕ → Tree → Tree → Tree
lambda row params body = plain 68 row (params ▹ body ▹ none)

abbrev pub named_expr : ℕ → Tree → Tree → Tree
named_expr row target value = plain 69 row (target ▹ value ▹ none)

abbrev pub comprehension : ℕ → Tree → Tree → Tree → Tree
comprehension row element second generators = plain 70 row (element ▹ second ▹ generators ▹ none)

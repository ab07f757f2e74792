-- The words of the table: how the children of a node are scanned.
use Rattle.std.specs.Prelude.{ℕ, Bool, cond, ◌&&◌, List, [], ◌∷◌, Some, None, codes, Option, ◌==◌}
use Rattle.symbols.specs.Faults.{Spot}
use Rattle.symbols.specs.declared.usage.SymbolUsage.{SymbolUsage}
use Rattle.symbols.specs.declared.usage.SymbolUsage.TheVariants as role
use Rattle.scan.specs.declared.context.ExpressionContext.{ExpressionContext}
use Rattle.scan.specs.declared.context.ExpressionContext.TheVariants.{Load, Store, Delete, Iter, IterDefinitionExp}
use Rattle.scan.specs.Parts.{Part, spot_of, label_of, name_of, scanned, children, each, elements}
use Rattle.scan.specs.Scans.{Scan, nothing, ◌⨾◌, to, unless_deferred, by_context, entering, reading, importing}

-- an expression in a context, and each of a List of them
abbrev pub in_context : ExpressionContext → Part → Scan
in_context x p = to x (scanned p)

abbrev pub all_in : ExpressionContext → Part → Scan
all_in x list = to x (elements list)

abbrev pub load : Part → Scan
load = in_context Load

abbrev pub store : Part → Scan
store = in_context Store

-- an annotation is read, unless annotations are deferred
abbrev pub annotation : Part → Scan
annotation p = unless_deferred (load p)

-- reading goes on as an iterable's, if it is one
abbrev pub keep_iterable : ExpressionContext → ExpressionContext
keep_iterable Load = Load
keep_iterable Store = Load
keep_iterable Delete = Load
keep_iterable Iter = Load
keep_iterable IterDefinitionExp = IterDefinitionExp

abbrev pub load_or_iterate : Part → Scan
load_or_iterate p = by_context (λ x. in_context (keep_iterable x) p)

-- a name that a node may bear
abbrev pub entering_if_named : SymbolUsage → Option (List ℕ) → Spot → Scan
entering_if_named r (Some name) s = entering r name s
entering_if_named r None s = nothing

-- `global` and `nonlocal`: each name at its own node
abbrev pub declaring : SymbolUsage → Part → Scan
declaring r names = each (λ id. entering r (name_of id) (spot_of id)) (children names)

-- the names that every class has
abbrev pub class_names : Spot → Scan
class_names s =
    entering role.Assigned (codes "__module__") s
    ⨾ entering role.Assigned (codes "__qualname__") s
    ⨾ entering role.Assigned (codes "__doc__") s
    ⨾ entering role.Assigned (codes "__class__") s

-- a module's name up to its first dot
abbrev pub up_to_dot : List ℕ → List ℕ
up_to_dot [] = []
up_to_dot (b ∷ bs) = cond (b == 46) [] (b ∷ up_to_dot bs)

-- what is imported has the name after `as`, at that name's node, or its own
abbrev pub imported_as : Part → List ℕ → Spot → Option (List ℕ) → Scan
imported_as asname name s (Some other) = importing other (spot_of asname)
imported_as asname name s None = importing (up_to_dot name) s

-- the target of an annotated assignment: a simple one is a Name that does not stand in parentheses
abbrev pub is_name : Part → Bool
is_name p = (label_of p).kind == 67

abbrev pub annotated_target : Bool → Part → Scan
annotated_target simple target =
    cond (simple && is_name target) (entering role.AnnotationAssigned (name_of target) (spot_of target)) (store target)

-- a name by its context
abbrev pub name_in : List ℕ → Spot → ExpressionContext → Scan
name_in name s Load = reading name s
name_in name s IterDefinitionExp = reading name s
name_in name s Store = entering role.Assigned name s
name_in name s Delete = entering role.Assigned name s ⨾ entering role.Used name s
name_in name s Iter = entering role.Iter name s

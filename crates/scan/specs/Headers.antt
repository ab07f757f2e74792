-- The words of the table for functions and comprehensions.
use Rattle.std.specs.Prelude.{ℕ, Bool, cond, List, ◌==◌}
use Rattle.symbols.specs.Faults.{Spot}
use Rattle.symbols.specs.declared.table.SymbolTableType.TheVariants as table
use Rattle.symbols.specs.declared.usage.SymbolUsage.{SymbolUsage}
use Rattle.symbols.specs.declared.usage.SymbolUsage.TheVariants as role
use Rattle.scan.specs.declared.context.ExpressionContext.TheVariants.{Load, Iter}
use Rattle.scan.specs.Parts.{Part, Parts, end, ◌▸◌, spot_of, label_of, scanned, children, two, three, five, each}
use Rattle.scan.specs.Readings.{in_context, all_in, load, annotation, entering_if_named}
use Rattle.scan.specs.Scans.{Scan, nothing, ◌⨾◌, iterated, opening}

-- an Arg: its annotation and its default
abbrev pub annotation_of : Part → Scan
annotation_of arg = two (λ annotated default. annotation annotated) (children arg)

abbrev pub default_of : Part → Scan
default_of arg = two (λ annotated default. load default) (children arg)

abbrev pub is_absent : Part → Bool
is_absent p = (label_of p).kind == 0

abbrev pub role_by : Part → SymbolUsage
role_by annotated = cond (is_absent annotated) role.Parameter role.AnnotationParameter

-- its name; in a slot where no Arg stands there is none
abbrev pub parameter_of : Part → Scan
parameter_of arg =
    two (λ annotated default. entering_if_named (role_by annotated) (label_of arg).name (spot_of arg)) (children arg)

-- in the three lists of Params, and then in its two single slots
abbrev pub in_lists : (Part → Scan) → Part → Scan
in_lists f params =
    three (λ positional args keyword. each f (children positional) ⨾ each f (children args) ⨾ each f (children keyword))
    (children params)

abbrev pub in_singles : (Part → Scan) → Part → Scan
in_singles f params = five (λ positional args keyword vararg kwarg. f vararg ⨾ f kwarg) (children params)

abbrev pub defaults : Part → Scan
defaults params = in_lists default_of params

abbrev pub annotations : Part → Scan
annotations params = in_lists annotation_of params ⨾ in_singles annotation_of params

abbrev pub parameters : Part → Scan
parameters params = in_lists parameter_of params ⨾ in_singles parameter_of params

-- the header of a function or lambda: defaults and annotations belong to the table around it, parameters to its own
abbrev pub header : List ℕ → Spot → Part → Scan
header name s params = defaults params ⨾ annotations params ⨾ opening table.Function name s ⨾ parameters params

-- the first generator of a comprehension, whose iterable belongs to the table around it, and any other
abbrev pub first_generator : Part → Scan
first_generator g = three (λ target iterable ifs. in_context Iter target ⨾ all_in Load ifs) (children g)

abbrev pub later_generator : Part → Scan
later_generator g =
    three (λ target iterable ifs. in_context Iter target ⨾ iterated (scanned iterable) ⨾ all_in Load ifs) (children g)

abbrev pub generated : Parts → Scan
generated end = nothing
generated (g ▸ gs) = first_generator g ⨾ each later_generator gs

abbrev pub first_iterable : Parts → Scan
first_iterable end = nothing
first_iterable (g ▸ gs) = three (λ target iterable ifs. iterated (scanned iterable)) (children g)

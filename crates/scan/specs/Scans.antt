-- How a piece of a script is scanned: what it enters, by what goes down to it from around it.
use Rattle.std.specs.Prelude.{ℕ, Bool, true, cond, ◌||◌, List, [], ◌∷◌, ◌++◌}
use Rattle.symbols.specs.Faults.{Spot}
use Rattle.symbols.specs.declared.fault.ScanReason.{ScanReason}
use Rattle.symbols.specs.declared.table.SymbolTableType.{SymbolTableType}
use Rattle.symbols.specs.declared.usage.SymbolUsage.{SymbolUsage}
use Rattle.scan.specs.declared.context.ExpressionContext.{ExpressionContext}
use Rattle.scan.specs.declared.context.ExpressionContext.TheVariants.{IterDefinitionExp}
use Rattle.scan.specs.declared.context.Setting.{Setting}
use Rattle.scan.specs.Entering.{Entering, opens, enters, uses, imports, targets, closes, refuses}

-- what is entered in a setting and under the name of a class
abbrev pub Scan : Type 0
Scan = Setting → List ℕ → List Entering

abbrev pub nothing : Scan
nothing w c = []

infixr 5 ◌⨾◌
-- one thing and then another, in the same setting
abbrev pub ◌⨾◌ : Scan → Scan → Scan
(f ⨾ g) w c = f w c ++ g w c

-- in another context
abbrev pub to : ExpressionContext → Scan → Scan
to x f w c = f (record { context = x; inside = w.inside; deferred = w.deferred }) c

-- as the iterable of a comprehension
abbrev pub iterated : Scan → Scan
iterated f w c = f (record { context = IterDefinitionExp; inside = true; deferred = w.deferred }) c

-- with annotations deferred from here on, if so
abbrev pub deferring : Bool → Scan → Scan
deferring d f w c = f (record { context = w.context; inside = w.inside; deferred = w.deferred || d }) c

-- under the name of another class
abbrev pub in_class : List ℕ → Scan → Scan
in_class name f w c = f w name

-- not while annotations are deferred
abbrev pub unless_deferred : Scan → Scan
unless_deferred f w c = cond w.deferred [] (f w c)

-- refused in an iterable
abbrev pub unless_inside : ScanReason → Spot → Scan → Scan
unless_inside r s f w c = cond w.inside (refuses r s ∷ []) (f w c)

-- by the context
abbrev pub by_context : (ExpressionContext → Scan) → Scan
by_context f w c = f w.context w c

-- single steps
abbrev pub opening : SymbolTableType → List ℕ → Spot → Scan
opening k name s w c = opens k name s ∷ []

abbrev pub entering : SymbolUsage → List ℕ → Spot → Scan
entering role name s w c = enters role c name s ∷ []

abbrev pub reading : List ℕ → Spot → Scan
reading name s w c = uses c name s ∷ []

abbrev pub importing : List ℕ → Spot → Scan
importing name s w c = imports c name s ∷ []

abbrev pub targeting : List ℕ → Spot → Scan
targeting name s w c = targets c name s ∷ []

abbrev pub closing : Scan
closing w c = closes ∷ []

abbrev pub refusing : ScanReason → Spot → Scan
refusing r s w c = refuses r s ∷ []

-- Roles: what each sets.
use Rattle.std.specs.Prelude.{ℕ, Bool, true, false, bit_or}
use Rattle.symbols.specs.declared.scope.SymbolScope.{SymbolScope}
use Rattle.symbols.specs.declared.scope.SymbolScope.TheVariants.{Unknown, Local, GlobalExplicit, GlobalImplicit, Free, Cell}
use Rattle.symbols.specs.declared.usage.SymbolUsage.{SymbolUsage}
use Rattle.symbols.specs.declared.usage.SymbolUsage.TheVariants.{Global, Nonlocal, Used, Assigned, Imported, AnnotationAssigned, Parameter, AnnotationParameter, AssignedNamedExprInComprehension, Iter}
use Rattle.symbols.specs.Flags.{referenced, assigned, parameter, annotated, imported, nonlocal, in_comprehension, iter}

-- the masks that a role sets; a global declaration sets none, and is kept apart
abbrev pub masks_of : SymbolUsage → ℕ
masks_of Global = 0
masks_of Nonlocal = nonlocal
masks_of Used = referenced
masks_of Assigned = assigned
masks_of Imported = bit_or assigned imported
masks_of AnnotationAssigned = bit_or assigned annotated
masks_of Parameter = parameter
masks_of AnnotationParameter = bit_or parameter annotated
masks_of AssignedNamedExprInComprehension = bit_or assigned in_comprehension
masks_of Iter = iter

-- `global x`
abbrev pub declares_global : SymbolUsage → Bool
declares_global Global = true
declares_global Nonlocal = false
declares_global Used = false
declares_global Assigned = false
declares_global Imported = false
declares_global AnnotationAssigned = false
declares_global Parameter = false
declares_global AnnotationParameter = false
declares_global AssignedNamedExprInComprehension = false
declares_global Iter = false

-- a declaration settles the scope; any other role leaves it as it was
abbrev pub scope_by : SymbolUsage → SymbolScope → SymbolScope
scope_by Global old = GlobalExplicit
scope_by Nonlocal old = Free
scope_by Used old = old
scope_by Assigned old = old
scope_by Imported old = old
scope_by AnnotationAssigned old = old
scope_by Parameter old = old
scope_by AnnotationParameter old = old
scope_by AssignedNamedExprInComprehension old = old
scope_by Iter old = old

-- scopes of names that belong to the module
abbrev pub global_scope : SymbolScope → Bool
global_scope Unknown = false
global_scope Local = false
global_scope GlobalExplicit = true
global_scope GlobalImplicit = true
global_scope Free = false
global_scope Cell = false

-- scopes of names that belong to their table
abbrev pub local_scope : SymbolScope → Bool
local_scope Unknown = false
local_scope Local = true
local_scope GlobalExplicit = false
local_scope GlobalImplicit = false
local_scope Free = false
local_scope Cell = true

-- The kinds of nodes, by their numbers in the file.
use Rattle.std.specs.Prelude.{◌≡◌, ℕ, Bool, false, cond, ◌&&◌, ◌||◌, Some, None, Option, Result, MatchResult, ◌==◌, nat_le}
use Rattle.treefile.specs.declared.kind.Kind.{Kind}
use Rattle.treefile.specs.declared.kind.Kind.TheVariants as kinds
use Rattle.treefile.specs.declared.kind.UnknownKind.{UnknownKind}
use Rattle.treefile.specs.declared.kind.Naming.{Naming}
use Rattle.treefile.specs.declared.kind.Naming.TheVariants.{Never, Always, Sometimes}

-- Global 16 to TypeAlias 37
abbrev pub statement : ℕ → Bool
statement kind = nat_le 16 kind && nat_le kind 37

-- Same 64 to Comprehension 70
abbrev pub expression : ℕ → Bool
expression kind = nat_le 64 kind && nat_le kind 70

-- Absent 0 and List 1, the statements, Alias 40 to Generator 46, the expressions
abbrev pub known : ℕ → Bool
known kind = nat_le kind 1 || (statement kind || ((nat_le 40 kind && nat_le kind 46) || expression kind))

-- FunctionDef, ClassDef, Alias, Id, Arg and Name
abbrev pub needs_name : ℕ → Bool
needs_name kind = kind == 18 || (kind == 19 || (kind == 40 || (kind == 41 || (kind == 45 || kind == 67))))

-- ImportFrom and Handler
abbrev pub may_have_name : ℕ → Bool
may_have_name kind = kind == 26 || kind == 43

-- whether nodes of a kind have a name; nothing for an unknown kind
abbrev pub naming_of : ℕ → Option Naming
naming_of kind =
    cond (needs_name kind) (Some Always) (cond (may_have_name kind) (Some Sometimes) (cond (known kind) (Some Never) None))

-- the number of a kind in the file
abbrev pub number : Kind → ℕ
number kinds.Absent = 0
number kinds.List = 1
number kinds.Global = 16
number kinds.Nonlocal = 17
number kinds.FunctionDef = 18
number kinds.ClassDef = 19
number kinds.Expr = 20
number kinds.If = 21
number kinds.For = 22
number kinds.While = 23
number kinds.Plain = 24
number kinds.Import = 25
number kinds.ImportFrom = 26
number kinds.Return = 27
number kinds.Assert = 28
number kinds.Delete = 29
number kinds.Assign = 30
number kinds.AugAssign = 31
number kinds.AnnAssign = 32
number kinds.With = 33
number kinds.Try = 34
number kinds.Raise = 35
number kinds.Match = 36
number kinds.TypeAlias = 37
number kinds.Alias = 40
number kinds.Id = 41
number kinds.WithItem = 42
number kinds.Handler = 43
number kinds.Params = 44
number kinds.Arg = 45
number kinds.Generator = 46
number kinds.Same = 64
number kinds.Load = 65
number kinds.Call = 66
number kinds.Name = 67
number kinds.Lambda = 68
number kinds.NamedExpr = 69
number kinds.Comprehension = 70

-- a number with the kind that has it, or an error with a number that no kind has
abbrev pub Numbered : ℕ → Result Kind UnknownKind → Type 0
Numbered n r = MatchResult r (λ kind. number kind ≡ n) (λ e. (e.0 ≡ n) × (known n ≡ false))

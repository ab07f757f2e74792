-- Nine scripts, each with its tree and what its scan leaves: no name is resolved yet.
use Rattle.std.specs.Prelude.{◌≡◌, true, false, List, [], ◌∷◌, Some, None, codes}
use Rattle.symbols.specs.declared.scope.SymbolScope.TheVariants as scope
use Rattle.symbols.specs.declared.table.SymbolTableType.TheVariants as table
use Rattle.treefile.specs.Trees.{Tree, none}
use Rattle.scripts.specs.Listing.{Line, T, E, R, scan_of}
use Rattle.scripts.specs.Syntax.{◌▹◌, absent, list, nonlocals, function_def, class_def, expr, returns, assign, id, params, arg, generator, same, load, call, name, lambda, named_expr, comprehension}

-- the tree of a script, and what its scan leaves
pub record Script : Type 0 where
  pub tree : Tree
  pub scan : List Line

-- def f(t):
--  return lambda: t
unfoldable pub parameter_of_the_run_around : Script
parameter_of_the_run_around =
    record {
      tree =
          list 1
          (function_def 1 (codes "f")
          (list 1 none)
          (absent 1)
          (params 1
          (list 1 none)
          (list 1 (arg 1 (codes "t") (absent 1) (absent 1) ▹ none))
          (list 1 none)
          (absent 1)
          (absent 1))
          (list 1
          (returns 2
          (lambda 2
          (params 2 (list 2 none) (list 2 none) (list 2 none) (absent 2) (absent 2))
          (name 2 (codes "t"))) ▹ none)) ▹ none);
      scan =
          T 0 None table.Module 0 false (codes "top") ∷
          E (codes "f") scope.Unknown 0x002 ∷
          T 1 (Some 0) table.Function 1 false (codes "f") ∷
          E (codes "t") scope.Unknown 0x004 ∷
          T 2 (Some 1) table.Function 2 true (codes "lambda") ∷
          E (codes "t") scope.Unknown 0x001 ∷
          [];
    }

-- no statement
unfoldable pub no_statement : Script
no_statement =
    record {
      tree =
          list 1 none;
      scan =
          T 0 None table.Module 0 false (codes "top") ∷
          [];
    }

-- class G:
--  r = 3
--  def m(self):
--   return r
unfoldable pub class_name_not_seen_by_its_method : Script
class_name_not_seen_by_its_method =
    record {
      tree =
          list 1
          (class_def 1 (codes "G")
          (list 1
          (assign 2 (list 2 (name 2 (codes "r") ▹ none)) (same 2 (list 2 none)) ▹
          function_def 3 (codes "m")
          (list 3 none)
          (absent 3)
          (params 3
          (list 3 none)
          (list 3 (arg 3 (codes "self") (absent 3) (absent 3) ▹ none))
          (list 3 none)
          (absent 3)
          (absent 3))
          (list 3 (returns 4 (name 4 (codes "r")) ▹ none)) ▹ none))
          (list 1 none)
          (list 1 none)
          (list 1 none) ▹ none);
      scan =
          T 0 None table.Module 0 false (codes "top") ∷
          E (codes "G") scope.Unknown 0x002 ∷
          T 1 (Some 0) table.Class 1 false (codes "G") ∷
          E (codes "__module__") scope.Unknown 0x002 ∷
          E (codes "__qualname__") scope.Unknown 0x002 ∷
          E (codes "__doc__") scope.Unknown 0x002 ∷
          E (codes "__class__") scope.Unknown 0x002 ∷
          E (codes "r") scope.Unknown 0x002 ∷
          E (codes "m") scope.Unknown 0x002 ∷
          T 2 (Some 1) table.Function 3 false (codes "m") ∷
          E (codes "self") scope.Unknown 0x004 ∷
          E (codes "r") scope.Unknown 0x001 ∷
          [];
    }

-- def f():
--  r = 1
--  class G:
--   r = 3
--   def m(self):
--    return r
unfoldable pub class_between_function_and_method : Script
class_between_function_and_method =
    record {
      tree =
          list 1
          (function_def 1 (codes "f")
          (list 1 none)
          (absent 1)
          (params 1 (list 1 none) (list 1 none) (list 1 none) (absent 1) (absent 1))
          (list 1
          (assign 2 (list 2 (name 2 (codes "r") ▹ none)) (same 2 (list 2 none)) ▹
          class_def 3 (codes "G")
          (list 3
          (assign 4 (list 4 (name 4 (codes "r") ▹ none)) (same 4 (list 4 none)) ▹
          function_def 5 (codes "m")
          (list 5 none)
          (absent 5)
          (params 5
          (list 5 none)
          (list 5 (arg 5 (codes "self") (absent 5) (absent 5) ▹ none))
          (list 5 none)
          (absent 5)
          (absent 5))
          (list 5 (returns 6 (name 6 (codes "r")) ▹ none)) ▹ none))
          (list 3 none)
          (list 3 none)
          (list 3 none) ▹ none)) ▹ none);
      scan =
          T 0 None table.Module 0 false (codes "top") ∷
          E (codes "f") scope.Unknown 0x002 ∷
          T 1 (Some 0) table.Function 1 false (codes "f") ∷
          E (codes "r") scope.Unknown 0x002 ∷
          E (codes "G") scope.Unknown 0x002 ∷
          T 2 (Some 1) table.Class 3 true (codes "G") ∷
          E (codes "__module__") scope.Unknown 0x002 ∷
          E (codes "__qualname__") scope.Unknown 0x002 ∷
          E (codes "__doc__") scope.Unknown 0x002 ∷
          E (codes "__class__") scope.Unknown 0x002 ∷
          E (codes "r") scope.Unknown 0x002 ∷
          E (codes "m") scope.Unknown 0x002 ∷
          T 3 (Some 2) table.Function 5 true (codes "m") ∷
          E (codes "self") scope.Unknown 0x004 ∷
          E (codes "r") scope.Unknown 0x001 ∷
          [];
    }

-- class C:
--  def m(self):
--   return super().m()
unfoldable pub super_in_a_method : Script
super_in_a_method =
    record {
      tree =
          list 1
          (class_def 1 (codes "C")
          (list 1
          (function_def 2 (codes "m")
          (list 2 none)
          (absent 2)
          (params 2
          (list 2 none)
          (list 2 (arg 2 (codes "self") (absent 2) (absent 2) ▹ none))
          (list 2 none)
          (absent 2)
          (absent 2))
          (list 2
          (returns 3
          (call 3
          (load 3 (list 3 (call 3 (name 3 (codes "super")) (list 3 none) ▹ none)))
          (list 3 none)) ▹ none)) ▹ none))
          (list 1 none)
          (list 1 none)
          (list 1 none) ▹ none);
      scan =
          T 0 None table.Module 0 false (codes "top") ∷
          E (codes "C") scope.Unknown 0x002 ∷
          T 1 (Some 0) table.Class 1 false (codes "C") ∷
          E (codes "__module__") scope.Unknown 0x002 ∷
          E (codes "__qualname__") scope.Unknown 0x002 ∷
          E (codes "__doc__") scope.Unknown 0x002 ∷
          E (codes "__class__") scope.Unknown 0x002 ∷
          E (codes "m") scope.Unknown 0x002 ∷
          T 2 (Some 1) table.Function 2 false (codes "m") ∷
          E (codes "self") scope.Unknown 0x004 ∷
          E (codes "super") scope.Unknown 0x001 ∷
          E (codes "__class__") scope.Unknown 0x001 ∷
          [];
    }

-- class __A:
--  __t = 1
unfoldable pub private_name : Script
private_name =
    record {
      tree =
          list 1
          (class_def 1 (codes "__A")
          (list 1 (assign 2 (list 2 (name 2 (codes "__t") ▹ none)) (same 2 (list 2 none)) ▹ none))
          (list 1 none)
          (list 1 none)
          (list 1 none) ▹ none);
      scan =
          T 0 None table.Module 0 false (codes "top") ∷
          E (codes "__A") scope.Unknown 0x002 ∷
          T 1 (Some 0) table.Class 1 false (codes "__A") ∷
          E (codes "__module__") scope.Unknown 0x002 ∷
          E (codes "__qualname__") scope.Unknown 0x002 ∷
          E (codes "__doc__") scope.Unknown 0x002 ∷
          E (codes "__class__") scope.Unknown 0x002 ∷
          E (codes "_A__t") scope.Unknown 0x002 ∷
          [];
    }

-- def g():
--  nonlocal x
unfoldable pub nonlocal_bound_nowhere : Script
nonlocal_bound_nowhere =
    record {
      tree =
          list 1
          (function_def 1 (codes "g")
          (list 1 none)
          (absent 1)
          (params 1 (list 1 none) (list 1 none) (list 1 none) (absent 1) (absent 1))
          (list 1 (nonlocals 2 (list 2 (id 2 (codes "x") ▹ none)) ▹ none)) ▹ none);
      scan =
          T 0 None table.Module 0 false (codes "top") ∷
          E (codes "g") scope.Unknown 0x002 ∷
          T 1 (Some 0) table.Function 1 false (codes "g") ∷
          E (codes "x") scope.Free 0x020 ∷
          [];
    }

-- def f(a): return [(s := s + i) for i in a]
unfoldable pub named_expression_in_a_comprehension : Script
named_expression_in_a_comprehension =
    record {
      tree =
          list 1
          (function_def 1 (codes "f")
          (list 1 none)
          (absent 1)
          (params 1
          (list 1 none)
          (list 1 (arg 1 (codes "a") (absent 1) (absent 1) ▹ none))
          (list 1 none)
          (absent 1)
          (absent 1))
          (list 1
          (returns 1
          (comprehension 1
          (named_expr 1
          (name 1 (codes "s"))
          (same 1 (list 1 (name 1 (codes "s") ▹ name 1 (codes "i") ▹ none))))
          (absent 1)
          (list 1 (generator 1 (name 1 (codes "i")) (name 1 (codes "a")) (list 1 none) ▹ none))) ▹ none)) ▹ none);
      scan =
          T 0 None table.Module 0 false (codes "top") ∷
          E (codes "f") scope.Unknown 0x002 ∷
          T 1 (Some 0) table.Function 1 false (codes "f") ∷
          E (codes "a") scope.Unknown 0x005 ∷
          E (codes "s") scope.Unknown 0x002 ∷
          T 2 (Some 1) table.Comprehension 1 true (codes "genexpr") ∷
          E (codes ".0") scope.Unknown 0x004 ∷
          E (codes "s") scope.Unknown 0x043 ∷
          E (codes "i") scope.Unknown 0x081 ∷
          [];
    }

-- [(i := 0) for i in a]
unfoldable pub named_expression_rebinds_the_iteration_variable : Script
named_expression_rebinds_the_iteration_variable =
    record {
      tree =
          list 1
          (expr 1
          (comprehension 1
          (named_expr 1 (name 1 (codes "i")) (same 1 (list 1 none)))
          (absent 1)
          (list 1 (generator 1 (name 1 (codes "i")) (name 1 (codes "a")) (list 1 none) ▹ none))) ▹ none);
      scan =
          R 17 10 1 ∷
          [];
    }

-- the nine
unfoldable pub scripts : List Script
scripts =
    parameter_of_the_run_around ∷
    no_statement ∷
    class_name_not_seen_by_its_method ∷
    class_between_function_and_method ∷
    super_in_a_method ∷
    private_name ∷
    nonlocal_bound_nowhere ∷
    named_expression_in_a_comprehension ∷
    named_expression_rebinds_the_iteration_variable ∷
    []

-- the scan of a script leaves what stands beside it
abbrev pub Stands : Script → Type 0
Stands x = scan_of x.tree ≡ x.scan

abbrev pub AllStand : List Script → Type 0
AllStand [] = Unit {0}
AllStand (x ∷ xs) = Stands x × AllStand xs

-- so for each of the nine
abbrev pub WorkedScripts : Type 0
WorkedScripts = AllStand scripts

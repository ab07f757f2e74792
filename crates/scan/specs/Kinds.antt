-- The kinds of nodes by their names.
use Rattle.std.specs.Prelude.{ℕ, cond, ◌==◌}

pub data Kind : Type 0 where
  Absent : Kind
  List : Kind
  -- statements
  Global : Kind
  Nonlocal : Kind
  FunctionDef : Kind
  ClassDef : Kind
  Expr : Kind
  If : Kind
  For : Kind
  While : Kind
  Plain : Kind
  Import : Kind
  ImportFrom : Kind
  Return : Kind
  Assert : Kind
  Delete : Kind
  Assign : Kind
  AugAssign : Kind
  AnnAssign : Kind
  With : Kind
  Try : Kind
  Raise : Kind
  Match : Kind
  TypeAlias : Kind
  -- parts of statements and expressions
  Alias : Kind
  Id : Kind
  WithItem : Kind
  Handler : Kind
  Params : Kind
  Arg : Kind
  Generator : Kind
  -- expressions
  Same : Kind
  Load : Kind
  Call : Kind
  Name : Kind
  Lambda : Kind
  NamedExpr : Kind
  Comprehension : Kind

-- the kind of a number; a number that is no kind's counts as Absent
abbrev pub kind_from : ℕ → Kind
kind_from n =
    cond (n == 1) List
    (cond (n == 16) Global
    (cond (n == 17) Nonlocal
    (cond (n == 18) FunctionDef
    (cond (n == 19) ClassDef
    (cond (n == 20) Expr
    (cond (n == 21) If
    (cond (n == 22) For
    (cond (n == 23) While
    (cond (n == 24) Plain
    (cond (n == 25) Import
    (cond (n == 26) ImportFrom
    (cond (n == 27) Return
    (cond (n == 28) Assert
    (cond (n == 29) Delete
    (cond (n == 30) Assign
    (cond (n == 31) AugAssign
    (cond (n == 32) AnnAssign
    (cond (n == 33) With
    (cond (n == 34) Try
    (cond (n == 35) Raise
    (cond (n == 36) Match
    (cond (n == 37) TypeAlias
    (cond (n == 40) Alias
    (cond (n == 41) Id
    (cond (n == 42) WithItem
    (cond (n == 43) Handler
    (cond (n == 44) Params
    (cond (n == 45) Arg
    (cond (n == 46) Generator
    (cond (n == 64) Same
    (cond (n == 65) Load
    (cond (n == 66) Call
    (cond (n == 67) Name
    (cond (n == 68) Lambda
    (cond (n == 69) NamedExpr
    (cond (n == 70) Comprehension Absent))))))))))))))))))))))))))))))))))))

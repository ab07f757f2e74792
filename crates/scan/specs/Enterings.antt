-- What a tree enters, by syntax alone: the table, with one clause a kind, and the tree that it is read from.
use Rattle.std.specs.Prelude.{ℕ, ◌+◌, Bool, false, ◌&&◌, ◌||◌, List, [], length, codes, ◌==◌}
use Rattle.std.specs.Str.{bytes_eq}
use Rattle.symbols.specs.Faults.{Spot}
use Rattle.symbols.specs.declared.fault.ScanReason.TheVariants as reason
use Rattle.symbols.specs.declared.table.SymbolTableType.TheVariants as table
use Rattle.symbols.specs.declared.usage.SymbolUsage.TheVariants as role
use Rattle.treefile.specs.Trees.{Label, Tree, node, Trees, none, more, tree_records}
use Rattle.scan.specs.declared.context.ExpressionContext.TheVariants.{Load, Store, Delete}
use Rattle.scan.specs.declared.context.Setting.{Setting}
use Rattle.scan.specs.Entering.{Entering}
use Rattle.scan.specs.Headers.{header, generated, first_iterable}
use Rattle.scan.specs.Kinds as kind
use Rattle.scan.specs.Kinds.{Kind, kind_from}
use Rattle.scan.specs.Parts.{Part, part, Parts, end, ◌▸◌, label_of, name_of, bytes_of, defers, scanned, children, first, one, two, three, four, elements, ◌⟫◌, in_turn}
use Rattle.scan.specs.Readings.{all_in, load, store, annotation, load_or_iterate, entering_if_named, declaring, class_names, imported_as, annotated_target, name_in}
use Rattle.scan.specs.Scans.{Scan, nothing, ◌⨾◌, deferring, in_class, unless_inside, by_context, opening, entering, targeting, closing, refusing}

-- the name that a node bears
abbrev pub own : Label → List ℕ
own l = bytes_of l.name

-- what a node enters: by its kind, where it stands, what it says, and its children
abbrev pub by_kind : Kind → Spot → Label → Parts → Scan
by_kind kind.Absent s l = λ ps. nothing
by_kind kind.List s l = in_turn
-- statements
by_kind kind.Global s l = one (declaring role.Global)
by_kind kind.Nonlocal s l = one (declaring role.Nonlocal)
by_kind kind.FunctionDef s l =
    four (λ decorators returns params body.
    all_in Load decorators
    ⨾ entering role.Assigned (own l) s
    ⨾ annotation returns
    ⨾ header (own l) s params
    ⨾ scanned body
    ⨾ closing)
by_kind kind.ClassDef s l =
    four (λ body bases keywords decorators.
    opening table.Class (own l) s
    ⨾ in_class (own l) (class_names s ⨾ scanned body)
    ⨾ closing
    ⨾ deferring (defers body)
    (all_in Load bases ⨾ all_in Load keywords ⨾ all_in Load decorators ⨾ entering role.Assigned (own l) s))
by_kind kind.Expr s l = one load
by_kind kind.If s l = three (λ test body orelse. load test ⨾ body ⟫ scanned orelse)
by_kind kind.For s l = four (λ target iter body orelse. store target ⨾ load iter ⨾ body ⟫ scanned orelse)
by_kind kind.While s l = three (λ test body orelse. load test ⨾ body ⟫ scanned orelse)
by_kind kind.Plain s l = λ ps. nothing
by_kind kind.Import s l = one elements
by_kind kind.ImportFrom s l = one elements
by_kind kind.Return s l = one load
by_kind kind.Assert s l = two (λ test msg. load test ⨾ load msg)
by_kind kind.Delete s l = one (all_in Delete)
by_kind kind.Assign s l = two (λ targets value. all_in Store targets ⨾ load value)
by_kind kind.AugAssign s l = two (λ target value. store target ⨾ load value)
by_kind kind.AnnAssign s l =
    three (λ target annotated value. annotated_target (l.form == 1) target ⨾ annotation annotated ⨾ load value)
by_kind kind.With s l = two (λ items body. elements items ⨾ scanned body)
by_kind kind.Try s l = four (λ body handlers orelse finalbody. body ⟫ handlers ⟫ orelse ⟫ scanned finalbody)
by_kind kind.Raise s l = two (λ exc cause. load exc ⨾ load cause)
by_kind kind.Match s l = λ ps. refusing reason.Unsupported s
by_kind kind.TypeAlias s l = λ ps. refusing reason.Unsupported s
-- parts of them; Id, Params, Arg and Generator are read by the nodes that they stand in
by_kind kind.Alias s l = one (λ asname. imported_as asname (own l) s (label_of asname).name)
by_kind kind.Id s l = λ ps. nothing
by_kind kind.WithItem s l = two (λ expr vars. load expr ⨾ store vars)
by_kind kind.Handler s l = two (λ typ body. load typ ⨾ entering_if_named role.Assigned l.name s ⨾ scanned body)
by_kind kind.Params s l = λ ps. nothing
by_kind kind.Arg s l = λ ps. nothing
by_kind kind.Generator s l = λ ps. nothing
-- expressions
by_kind kind.Same s l = one elements
by_kind kind.Load s l = one (all_in Load)
by_kind kind.Call s l = two (λ func args. load_or_iterate func ⨾ all_in Load args)
by_kind kind.Name s l = λ ps. by_context (name_in (own l) s)
by_kind kind.Lambda s l = two (λ params body. header (codes "lambda") s params ⨾ load_or_iterate body ⨾ closing)
by_kind kind.NamedExpr s l =
    two (λ target value. unless_inside reason.NamedInIterable s (load value ⨾ targeting (name_of target) s))
by_kind kind.Comprehension s l =
    three (λ element second generators.
    opening table.Comprehension (codes "genexpr") s
    ⨾ entering role.Parameter (codes ".0") s
    ⨾ load element
    ⨾ load second
    ⨾ generated (children generators)
    ⨾ closing
    ⨾ first_iterable (children generators))

-- a node of that name is among them
abbrev pub any_named : List ℕ → Parts → Bool
any_named name end = false
any_named name (p ▸ ps) = bytes_eq (name_of p) name || any_named name ps

-- `from __future__ import annotations`
abbrev pub is_future : Label → Parts → Bool
is_future l ps =
    (l.kind == 26)
    && (bytes_eq (own l) (codes "__future__") && any_named (codes "annotations") (children (first ps)))

abbrev pub any_defers : Parts → Bool
any_defers end = false
any_defers (p ▸ ps) = defers p || any_defers ps

-- a node with its children
abbrev pub made_of : Spot → Label → Parts → Part
made_of s l ps = part s l (is_future l ps || any_defers ps) (by_kind (kind_from l.kind) s l ps) ps

-- the parts of a tree whose root has that number: its first child has the next, and each other child the first after the
-- child before it
abbrev mutual
  pub part_of : Tree → ℕ → Part
  part_of (node l ts) at = made_of (record { node = at; row = l.row }) l (parts_of ts (at + 1))

  pub parts_of : Trees → ℕ → Parts
  parts_of none at = end
  parts_of (more x xs) at = part_of x at ▸ parts_of xs (at + length (tree_records x))

-- what a tree enters whose root has that number
abbrev pub enterings : Tree → ℕ → Setting → List ℕ → List Entering
enterings x at = scanned (part_of x at)

-- what a script enters, a module or an expression, if annotations are deferred as it begins or not
abbrev pub script_enterings : Tree → Bool → List Entering
script_enterings x deferred = enterings x 0 (record { context = Load; inside = false; deferred = deferred }) []

-- annotations are deferred after it
abbrev pub script_defers : Tree → Bool → Bool
script_defers x deferred = deferred || defers (part_of x 0)

-- What a node of a checked tree shows: the label of its record, and the places of its children.
use Rattle.std.specs.Prelude.{ℕ, ◌+◌, cond, ◌||◌, List, [], ◌∷◌, take, Some, None, Option, ◌==◌, nat_lt}
use Rattle.std.specs.Borrow.{Bor}
use Rattle.std.specs.Option.{option_map}
use Rattle.treefile.specs.declared.node.Case.{Case}
use Rattle.treefile.specs.declared.node.Case.TheVariants as case
use Rattle.treefile.specs.declared.node.Node.{Node}
use Rattle.treefile.specs.declared.node.Places.{Places}
use Rattle.treefile.specs.declared.trailer.Trailer.{Trailer}
use Rattle.treefile.specs.Fits.{end_of, children}
use Rattle.treefile.specs.Kinds.{needs_name, may_have_name}
use Rattle.treefile.specs.Names.{name_bytes}
use Rattle.treefile.specs.Records.{kind_at}
use Rattle.treefile.specs.Spelling.{label_at}
use Rattle.treefile.specs.Trees.{Label}

-- what a case says: its kind's number, its form, its name and the places of its children, in the order of the slots
pub record Said : Type 0 where
  pub kind : ℕ
  pub form : ℕ
  pub name : Option (List ℕ)
  pub places : List ℕ

abbrev says : ℕ → ℕ → Option (List ℕ) → List ℕ → Said
says kind form name places = record { kind = kind; form = form; name = name; places = places }

-- the bytes that a name borrows
abbrev pub held : Option (Bor (List ℕ)) → Option (List ℕ)
held o = option_map (λ x. x.now) o

abbrev pub said_by : Case → Said
said_by case.Absent = says 0 0 None []
said_by (case.List a b) = says 1 0 None (a ∷ b ∷ [])
said_by (case.Global a) = says 16 0 None (a ∷ [])
said_by (case.Nonlocal a) = says 17 0 None (a ∷ [])
said_by (case.FunctionDef n a b c d) = says 18 0 (Some n.now) (a ∷ b ∷ c ∷ d ∷ [])
said_by (case.ClassDef n a b c d) = says 19 0 (Some n.now) (a ∷ b ∷ c ∷ d ∷ [])
said_by (case.Expr a) = says 20 0 None (a ∷ [])
said_by (case.If a b c) = says 21 0 None (a ∷ b ∷ c ∷ [])
said_by (case.For a b c d) = says 22 0 None (a ∷ b ∷ c ∷ d ∷ [])
said_by (case.While a b c) = says 23 0 None (a ∷ b ∷ c ∷ [])
said_by case.Plain = says 24 0 None []
said_by (case.Import a) = says 25 0 None (a ∷ [])
said_by (case.ImportFrom o a) = says 26 0 (held o) (a ∷ [])
said_by (case.Return a) = says 27 0 None (a ∷ [])
said_by (case.Assert a b) = says 28 0 None (a ∷ b ∷ [])
said_by (case.Delete a) = says 29 0 None (a ∷ [])
said_by (case.Assign a b) = says 30 0 None (a ∷ b ∷ [])
said_by (case.AugAssign a b) = says 31 0 None (a ∷ b ∷ [])
said_by (case.AnnAssign s a b c) = says 32 (cond s 1 0) None (a ∷ b ∷ c ∷ [])
said_by (case.With a b) = says 33 0 None (a ∷ b ∷ [])
said_by (case.Try a b c d) = says 34 0 None (a ∷ b ∷ c ∷ d ∷ [])
said_by (case.Raise a b) = says 35 0 None (a ∷ b ∷ [])
said_by case.Match = says 36 0 None []
said_by case.TypeAlias = says 37 0 None []
said_by (case.Alias n a) = says 40 0 (Some n.now) (a ∷ [])
said_by (case.Id n) = says 41 0 (Some n.now) []
said_by (case.WithItem a b) = says 42 0 None (a ∷ b ∷ [])
said_by (case.Handler o a b) = says 43 0 (held o) (a ∷ b ∷ [])
said_by (case.Params a b c d e) = says 44 0 None (a ∷ b ∷ c ∷ d ∷ e ∷ [])
said_by (case.Arg n a b) = says 45 0 (Some n.now) (a ∷ b ∷ [])
said_by (case.Generator a b c) = says 46 0 None (a ∷ b ∷ c ∷ [])
said_by (case.Same a) = says 64 0 None (a ∷ [])
said_by (case.Load a) = says 65 0 None (a ∷ [])
said_by (case.Call a b) = says 66 0 None (a ∷ b ∷ [])
said_by (case.Name n) = says 67 0 (Some n.now) []
said_by (case.Lambda a b) = says 68 0 None (a ∷ b ∷ [])
said_by (case.NamedExpr a b) = says 69 0 None (a ∷ b ∷ [])
said_by (case.Comprehension a b c) = says 70 0 None (a ∷ b ∷ c ∷ [])

-- a label, and places
pub record Shown : Type 0 where
  pub label : Label
  pub places : List ℕ

-- what a case says, with a row
abbrev pub in_row : Said → ℕ → Shown
in_row s row =
    record { label = record { kind = s.kind; form = s.form; name = s.name; row = row }; places = s.places }

abbrev pub shown : Node → Shown
shown n = in_row (said_by n.case) n.row

-- the children of a node, or where those of a List begin and end
abbrev pub places_at : List ℕ → Trailer → ℕ → List ℕ
places_at bs t i = cond (kind_at bs t i == 1) ((i + 1) ∷ (end_of bs t i ∷ [])) (children bs t i)

-- what node i shows: all that its record says, and where its children stand
abbrev pub node_at : List ℕ → Trailer → ℕ → Shown
node_at bs t i = record { label = label_at bs t i; places = places_at bs t i }

-- how it is read, from here on: how many slots a kind has
abbrev pub arity : ℕ → ℕ
arity kind =
    cond (kind == 16 || (kind == 17 || (kind == 20 || (kind == 25 || (kind == 26 || (kind == 27 || (kind == 29 || (kind == 40 || (kind == 64 || kind == 65))))))))) 1
    (cond (kind == 28 || (kind == 30 || (kind == 31 || (kind == 33 || (kind == 35 || (kind == 42 || (kind == 43 || (kind == 45 || (kind == 66 || (kind == 68 || kind == 69)))))))))) 2
    (cond (kind == 21 || (kind == 23 || (kind == 32 || (kind == 46 || kind == 70)))) 3
    (cond (kind == 18 || (kind == 19 || (kind == 22 || kind == 34))) 4
    (cond (kind == 44) 5 0))))

-- the place after the node at a place
abbrev pub after_place : List ℕ → Trailer → ℕ → ℕ
after_place bs t pos = cond (nat_lt pos t.record_count) (end_of bs t pos) pos

-- the places after a node, as many as a kind may have slots, and its end
abbrev pub places_after : List ℕ → Trailer → ℕ → Places
places_after bs t i =
    record {
      first = i + 1;
      second = after_place bs t (i + 1);
      third = after_place bs t (after_place bs t (i + 1));
      fourth = after_place bs t (after_place bs t (after_place bs t (i + 1)));
      fifth = after_place bs t (after_place bs t (after_place bs t (after_place bs t (i + 1))));
      end = end_of bs t i;
    }

-- those that a kind has
abbrev pub slot_places : ℕ → Places → List ℕ
slot_places kind p =
    cond (kind == 1) (p.first ∷ p.end ∷ [])
    (take (arity kind) (p.first ∷ p.second ∷ p.third ∷ p.fourth ∷ p.fifth ∷ []))

-- a name by its number, nothing where the number is no name's
abbrev pub name_or : List ℕ → Trailer → ℕ → List ℕ
name_or bs t n = cond (nat_lt n t.name_count) (name_bytes bs t n) []

abbrev pub maybe_name : List ℕ → Trailer → ℕ → Option (List ℕ)
maybe_name bs t n = cond (n == 0xffff_ffff) None (Some (name_or bs t n))

-- the name that a kind has
abbrev pub kind_name : List ℕ → Trailer → ℕ → ℕ → Option (List ℕ)
kind_name bs t kind n = cond (needs_name kind) (Some (name_or bs t n)) (cond (may_have_name kind) (maybe_name bs t n) None)

-- what is said of a kind, a form, a name number and places
abbrev pub said_of : List ℕ → Trailer → ℕ → ℕ → ℕ → Places → Said
said_of bs t kind form n p =
    says kind (cond (kind == 32) (cond (form == 1) 1 0) 0) (kind_name bs t kind n) (slot_places kind p)

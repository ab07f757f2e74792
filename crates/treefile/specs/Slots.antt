-- The slots of each kind, by letters.
use Rattle.std.specs.Prelude.{◌≡◌, ℕ, ◌+◌, ◌<◌, Bool, false, cond, ◌&&◌, ◌||◌, List, [], ◌∷◌, filter, ◌==◌, nat_le, nat_lt, slice_index_or}
use Rattle.treefile.specs.declared.slot.Slot.{Slot}
use Rattle.treefile.specs.declared.slot.Slot.TheVariants as asked
use Rattle.treefile.specs.Kinds.{statement, expression, known}

-- nothing
abbrev pub N : ℕ
N = 0

-- an expression
abbrev pub X : ℕ
X = 1

-- an expression or Absent
abbrev pub O : ℕ
O = 2

-- a List of expressions
abbrev pub L : ℕ
L = 3

-- a List of statements
abbrev pub B : ℕ
B = 4

-- a List of Id
abbrev pub I : ℕ
I = 5

-- a List of Alias
abbrev pub A : ℕ
A = 6

-- a List of WithItem
abbrev pub W : ℕ
W = 7

-- a List of Handler
abbrev pub H : ℕ
H = 8

-- a List of Arg
abbrev pub R : ℕ
R = 9

-- Absent, or an Arg whose default is Absent
abbrev pub V : ℕ
V = 10

-- Params
abbrev pub Y : ℕ
Y = 11

-- a List of Generator that is not empty
abbrev pub G : ℕ
G = 12

-- an Id or Absent
abbrev pub D : ℕ
D = 13

-- a Name: the target of a NamedExpr
abbrev pub T : ℕ
T = 14

-- the letter of a slot
abbrev pub letter : Slot → ℕ
letter asked.Expression = X
letter asked.MaybeExpression = O
letter asked.Expressions = L
letter asked.Statements = B
letter asked.Ids = I
letter asked.Aliases = A
letter asked.WithItems = W
letter asked.Handlers = H
letter asked.Args = R
letter asked.MaybeBareArg = V
letter asked.Params = Y
letter asked.Generators = G
letter asked.MaybeId = D
letter asked.Name = T

-- the letters that ask for a List
abbrev pub asks_list : ℕ → Bool
asks_list letter = (nat_le L letter && nat_le letter R) || letter == G

-- the kinds that may be elements of a List in a slot of that letter
abbrev pub element : ℕ → ℕ → Bool
element letter kind =
    cond (letter == L) (expression kind)
    (cond (letter == B) (statement kind)
    (cond (letter == I) (kind == 41)
    (cond (letter == A) (kind == 40)
    (cond (letter == W) (kind == 42)
    (cond (letter == H) (kind == 43)
    (cond (letter == R) (kind == 45)
    (cond (letter == G) (kind == 46) false)))))))

-- the kinds that may stand in a slot of a letter that asks for no List; V, which asks more of an Arg, is not among them
abbrev pub single : ℕ → ℕ → Bool
single letter kind =
    cond (letter == X) (expression kind)
    (cond (letter == O) (kind == 0 || expression kind)
    (cond (letter == Y) (kind == 44)
    (cond (letter == D) (kind == 0 || kind == 41)
    (cond (letter == T) (kind == 67) false))))

-- six columns of a kind
abbrev row : ℕ → ℕ → ℕ → ℕ → ℕ → ℕ → List ℕ
row a b c d e f = a ∷ b ∷ c ∷ d ∷ e ∷ f ∷ []

-- the table: a row for each number below 96
unfoldable pub table : List (List ℕ)
table =
    row N N N N N N ∷
    row N N N N N N ∷
    row N N N N N N ∷
    row N N N N N N ∷
    row N N N N N N ∷
    row N N N N N N ∷
    row N N N N N N ∷
    row N N N N N N ∷
    row N N N N N N ∷
    row N N N N N N ∷
    row N N N N N N ∷
    row N N N N N N ∷
    row N N N N N N ∷
    row N N N N N N ∷
    row N N N N N N ∷
    row N N N N N N ∷
    row I N N N N N ∷
    row I N N N N N ∷
    row L O Y B N N ∷
    row B L L L N N ∷
    row X N N N N N ∷
    row X B B N N N ∷
    row X X B B N N ∷
    row X B B N N N ∷
    row N N N N N N ∷
    row A N N N N N ∷
    row A N N N N N ∷
    row O N N N N N ∷
    row X O N N N N ∷
    row L N N N N N ∷
    row L X N N N N ∷
    row X X N N N N ∷
    row X X O N N N ∷
    row W B N N N N ∷
    row B H B B N N ∷
    row O O N N N N ∷
    row N N N N N N ∷
    row N N N N N N ∷
    row N N N N N N ∷
    row N N N N N N ∷
    row D N N N N N ∷
    row N N N N N N ∷
    row X O N N N N ∷
    row O B N N N N ∷
    row R R R V V N ∷
    row O O N N N N ∷
    row X X L N N N ∷
    row N N N N N N ∷
    row N N N N N N ∷
    row N N N N N N ∷
    row N N N N N N ∷
    row N N N N N N ∷
    row N N N N N N ∷
    row N N N N N N ∷
    row N N N N N N ∷
    row N N N N N N ∷
    row N N N N N N ∷
    row N N N N N N ∷
    row N N N N N N ∷
    row N N N N N N ∷
    row N N N N N N ∷
    row N N N N N N ∷
    row N N N N N N ∷
    row N N N N N N ∷
    row L N N N N N ∷
    row L N N N N N ∷
    row X L N N N N ∷
    row N N N N N N ∷
    row Y X N N N N ∷
    row T X N N N N ∷
    row X O G N N N ∷
    row N N N N N N ∷
    row N N N N N N ∷
    row N N N N N N ∷
    row N N N N N N ∷
    row N N N N N N ∷
    row N N N N N N ∷
    row N N N N N N ∷
    row N N N N N N ∷
    row N N N N N N ∷
    row N N N N N N ∷
    row N N N N N N ∷
    row N N N N N N ∷
    row N N N N N N ∷
    row N N N N N N ∷
    row N N N N N N ∷
    row N N N N N N ∷
    row N N N N N N ∷
    row N N N N N N ∷
    row N N N N N N ∷
    row N N N N N N ∷
    row N N N N N N ∷
    row N N N N N N ∷
    row N N N N N N ∷
    row N N N N N N ∷
    row N N N N N N ∷
    []

-- what stands in a column of a kind's row
unfoldable pub slot : ℕ → ℕ → ℕ
slot kind column = slice_index_or (slice_index_or table kind []) column N

-- the slots of a kind: the columns in which something stands
unfoldable pub columns : ℕ → List ℕ
columns kind = filter (λ a. nat_lt N a) (slice_index_or table kind [])

-- the rule of the table: nothing stands after an empty column, and the row of a number that is no kind is empty
pub record TableRule : Type 0 where
  pub packed : (kind column : ℕ) → kind < 96 → column < 5 → slot kind column ≡ N → slot kind (column + 1) ≡ N
  pub unused : (kind column : ℕ) → kind < 96 → column < 6 → known kind ≡ false → slot kind column ≡ N

-- How a tree file is put together from its parts.
use Rattle.std.specs.Prelude.{ℕ, ◌+◌, ◌*◌, ◌/◌, ◌%◌, List, [], ◌∷◌, ◌++◌, length}

-- the kinds of nodes that the worked files have
abbrev pub absent : ℕ
absent = 0

abbrev pub list : ℕ
list = 1

abbrev pub function_def : ℕ
function_def = 18

abbrev pub expr : ℕ
expr = 20

abbrev pub returns : ℕ
returns = 27

abbrev pub params : ℕ
params = 44

abbrev pub arg : ℕ
arg = 45

abbrev pub load : ℕ
load = 65

abbrev pub name : ℕ
name = 67

abbrev pub lambda : ℕ
lambda = 68

-- the name number that stands for none
abbrev pub none : ℕ
none = 0xffff_ffff

-- a word of 32 bits, the low byte first
abbrev pub word : ℕ → List ℕ
word n = n % 256 ∷ n / 256 % 256 ∷ n / 65536 % 256 ∷ n / 16777216 % 256 ∷ []

-- a record: kind, form and filler, then the words size, name number and row
abbrev pub node : ℕ → ℕ → ℕ → ℕ → List ℕ
node kind size number row = kind ∷ 0 ∷ 0 ∷ 0 ∷ (word size ++ (word number ++ word row))

-- an entry of the name index: where a name begins, and how many bytes it has
abbrev pub entry : ℕ → ℕ → List ℕ
entry place bytes = word place ++ word bytes

-- the trailer: where the records begin and how many they are, the same of the entries, and the length of the file
abbrev pub trailer : ℕ → ℕ → ℕ → ℕ → ℕ → List ℕ
trailer records record_count index name_count bytes =
    word records ++ (word record_count ++ (word index ++ (word name_count ++ word bytes)))

-- lists one after the other
abbrev pub joined : List (List ℕ) → List ℕ
joined [] = []
joined (bs ∷ more) = bs ++ joined more

-- a file: the bytes of the names, the entries, the records, and the trailer that says so
abbrev pub file : List ℕ → List (List ℕ) → List (List ℕ) → List ℕ
file names entries nodes =
    names ++ (joined entries ++ (joined nodes ++
    trailer
    (length names + 8 * length entries)
    (length nodes)
    (length names)
    (length entries)
    (length names + 8 * length entries + 16 * length nodes + 20)))

-- Masks: what a table does with a name, one bit each.
use Rattle.std.specs.Prelude.{ℕ, Bool, not, ◌==◌, bit_and, bit_or}

-- read
abbrev pub referenced : ℕ
referenced = 0x001

-- given a value by an assignment, an import, a definition or a handler
abbrev pub assigned : ℕ
assigned = 0x002

-- a parameter
abbrev pub parameter : ℕ
parameter = 0x004

-- annotated
abbrev pub annotated : ℕ
annotated = 0x008

-- imported
abbrev pub imported : ℕ
imported = 0x010

-- declared nonlocal
abbrev pub nonlocal : ℕ
nonlocal = 0x020

-- assigned by a named expression in a comprehension, for the table around it
abbrev pub in_comprehension : ℕ
in_comprehension = 0x040

-- the target of a `for` in a comprehension
abbrev pub iter : ℕ
iter = 0x080

-- on its way through a class to a function in it
abbrev pub free_class : ℕ
free_class = 0x100

-- what binds a name
abbrev pub bound : ℕ
bound = bit_or assigned (bit_or parameter (bit_or imported iter))

-- the set m has all masks of n
abbrev pub has : ℕ → ℕ → Bool
has m n = bit_and m n == n

-- the set m has some mask of n
abbrev pub shares : ℕ → ℕ → Bool
shares m n = not (bit_and m n == 0)

-- Bytes in hexadecimal: two digits for each, the high one first.
use Rattle.std.specs.Prelude.{ℕ, ◌+◌, ◌-◌, ◌*◌, cond, ◌&&◌, List, [], ◌∷◌, Some, None, Option, nat_le}

-- '0' to '9', 48 to 57, and 'a' to 'f', 97 to 102
abbrev pub hex_digit : ℕ → Option ℕ
hex_digit b =
    cond (nat_le 48 b && nat_le b 57) (Some (b - 48)) (cond (nat_le 97 b && nat_le b 102) (Some (b - 87)) None)

-- the byte of two digits
abbrev pub pair_of : Option ℕ → Option ℕ → Option ℕ
pair_of None low = None
pair_of (Some h) None = None
pair_of (Some h) (Some l) = Some (16 * h + l)

abbrev pub hex_byte : ℕ → ℕ → Option ℕ
hex_byte high low = pair_of (hex_digit high) (hex_digit low)

-- a byte before bytes, if both are there
abbrev pub before : Option ℕ → Option (List ℕ) → Option (List ℕ)
before None bs = None
before (Some b) None = None
before (Some b) (Some bs) = Some (b ∷ bs)

-- the bytes that a text spells; nothing for an odd digit or what is none
abbrev pub bytes_of : List ℕ → Option (List ℕ)
bytes_of [] = Some []
bytes_of (a ∷ []) = None
bytes_of (a ∷ b ∷ rest) = before (hex_byte a b) (bytes_of rest)

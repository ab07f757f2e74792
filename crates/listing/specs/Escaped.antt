-- How a name is written in a line: as ASCII with no space in it.
use Rattle.std.specs.Prelude.{ℕ, ◌/◌, ◌%◌, Bool, cond, not, ◌&&◌, List, [], ◌∷◌, ◌++◌, Some, None, Option, ◌==◌, nat_le}
use Rattle.std.specs.Char.{digit_char}

-- a byte from 0x21 to 0x7e stands for itself, but for the backslash
abbrev pub stands_for_itself : ℕ → Bool
stands_for_itself b = (nat_le 0x21 b && nat_le b 0x7e) && not (b == 0x5c)

-- any other is a backslash and two small hexadecimal digits
abbrev pub escaped_byte : ℕ → List ℕ
escaped_byte b = cond (stands_for_itself b) (b ∷ []) (0x5c ∷ (digit_char (b / 16) ∷ (digit_char (b % 16) ∷ [])))

-- the bytes one after another
abbrev pub escaped : List ℕ → List ℕ
escaped [] = []
escaped (b ∷ bs) = escaped_byte b ++ escaped bs

-- a name, or a dash where there is none
abbrev pub shown_name : Option (List ℕ) → List ℕ
shown_name None = 0x2d ∷ []
shown_name (Some bs) = escaped bs

-- The bytes of a text in hexadecimal, by its pairs of digits.
use Rattle.std.proofs.Common.{◌≡◌, ◌≢◌, ℕ, zero, suc, ◌+◌, ◌*◌, ◌/◌, ◌%◌, ◌<◌, List, [], ◌∷◌, ◌++◌, length, get_or, drop, Some, None, Option, sym, refl, ap, ◌∙◌, append_assoc, arith}
use Rattle.std.proofs.lemmas.List.{drop_more}
use Rattle.std.specs.Option.{option_map}
use Rattle.std.specs.Simd.{first_chunks}
use Rattle.vectors.specs.Hex.{hex_byte, before, bytes_of}

-- the bytes that pairs of digits spell
abbrev pub spelled : List (List ℕ) → Option (List ℕ)
spelled [] = Some []
spelled (p ∷ ps) = before (hex_byte (get_or p 0 0) (get_or p 1 0)) (spelled ps)

-- bytes before bytes, if those are there
abbrev pub onto : List ℕ → Option (List ℕ) → Option (List ℕ)
onto bs rest = option_map (λ more. bs ++ more) rest

-- the bytes so far, and what the other pairs spell, are what the text spells
abbrev pub Sofar : List ℕ → List ℕ → List (List ℕ) → Type 0
Sofar text bytes pairs = bytes_of text ≡ onto bytes (spelled pairs)

-- a text of pairs spells what its pairs spell, and no other text spells bytes
even : (k : ℕ) (text : List ℕ) → length text ≡ 2 * k → bytes_of text ≡ spelled (first_chunks 2 k text)
even zero [] e = refl
even zero (a ∷ rest) e = absurd (omega (arith, e))
even (suc k) [] e = absurd (omega (arith, e))
even (suc k) (a ∷ []) e = absurd (omega (arith, e))
even (suc k) (a ∷ b ∷ rest) e = ap (before (hex_byte a b)) (even k rest (omega (arith, e)))

before_none : (b : Option ℕ) → before b None ≡ None
before_none (Some b) = refl
before_none None = refl

pub odd : (text : List ℕ) → length text % 2 ≢ 0 → None ≡ bytes_of text
odd [] h = absurd (h refl)
odd (a ∷ []) h = refl
odd (a ∷ b ∷ rest) h = sym (before_none (hex_byte a b)) ∙ ap (before (hex_byte a b)) (odd rest (λ e. h (omega (arith, e))))

onto_none : (o : Option (List ℕ)) → o ≡ onto [] o
onto_none (Some bs) = refl
onto_none None = refl

onto_one : (bs : List ℕ) (b : ℕ) (o : Option (List ℕ)) → onto bs (before (Some b) o) ≡ onto (bs ++ b ∷ []) o
onto_one bs b None = refl
onto_one bs b (Some more) = ap Some (sym (append_assoc bs (b ∷ []) more))

pub begun :
    (text bytes : List ℕ) (pairs : List (List ℕ)) → pairs ≡ first_chunks 2 (length text / 2) text → length text % 2 ≡ 0 → bytes ≡ []
    → Sofar text bytes pairs
begun text bytes pairs p e b =
    even (length text / 2) text (omega (arith, e))
    ∙ onto_none (spelled (first_chunks 2 (length text / 2) text))
    ∙ ap (λ bs. onto bs (spelled (first_chunks 2 (length text / 2) text))) (sym b)
    ∙ ap (λ ps. onto bytes (spelled ps)) (sym p)

-- a pair more
pub again :
    (text bytes : List ℕ) (pairs : List (List ℕ)) (i : ℕ) (d : List ℕ) (b : ℕ) (more : List ℕ) → Sofar text bytes (drop i pairs)
    → i < length pairs → Some b ≡ hex_byte (get_or (get_or pairs i d) 0 0) (get_or (get_or pairs i d) 1 0) → more ≡ bytes ++ b ∷ []
    → Sofar text more (drop (i + 1) pairs)
again text bytes pairs i d b more s l e m =
    s
    ∙ ap (λ ps. onto bytes (spelled ps)) (drop_more pairs i d l)
    ∙ ap (λ o. onto bytes (before o (spelled (drop (i + 1) pairs)))) (sym e)
    ∙ onto_one bytes b (spelled (drop (i + 1) pairs))
    ∙ ap (λ bs. onto bs (spelled (drop (i + 1) pairs))) (sym m)

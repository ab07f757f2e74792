-- What is written of one more byte.
use Rattle.std.proofs.Common.{◌≡◌, ℕ, ◌+◌, ◌<◌, List, [], ◌∷◌, ◌++◌, length, get_or, take, refl, sym, arith}
use Rattle.std.proofs.lemmas.Grind.{common_steps}
use Rattle.std.proofs.lemmas.List.{take_more}
use Rattle.std.proofs.Output.{has_written_append, has_written_of_eq}
use Rattle.std.specs.Fmt.{HasWritten}
use Rattle.std.specs.declared.fmt.Formatter.{Formatter}
use Rattle.listing.specs.Escaped.{escaped_byte, escaped}

escaped_append : (xs ys : List ℕ) → escaped (xs ++ ys) ≡ escaped xs ++ escaped ys
escaped_append [] ys = refl
escaped_append (x ∷ xs) ys = grind (arith, common_steps, escaped_append xs ys)

escaped_more : (bs : List ℕ) (i : ℕ) → i < length bs → escaped (take (i + 1) bs) ≡ escaped (take i bs) ++ escaped_byte (get_or bs i 0)
escaped_more bs i l = grind (arith, common_steps, take_more, escaped_append (take i bs) (get_or bs i 0 ∷ []))

pub written_more :
    {W : Type 0} (took : W → List ℕ → W → Type 0) (f g h : Formatter W) (bs : List ℕ) (i : ℕ) → HasWritten took f (escaped (take i bs)) g
    → HasWritten took g (escaped_byte (get_or bs i 0)) h → i < length bs → HasWritten took f (escaped (take (i + 1) bs)) h
written_more took f g h bs i before next l =
    has_written_of_eq _ _ _ _ _ (sym (escaped_more bs i l)) (has_written_append _ _ _ _ _ _ before next)

-- A name under a prefix: its bytes, how many they are, and how a text is told to be them.
use Rattle.std.proofs.Common.{◌≡◌, ℕ, ◌+◌, ◌-◌, ◌<◌, Bool, false, List, [], ◌∷◌, ◌++◌, length, get_or, take, drop, Decides, sym, refl, ap, ◌∙◌, arith}
use Rattle.std.proofs.lemmas.List.{append_cancel_left, length-append}
use Rattle.std.proofs.lemmas.Slice.{first_rest}
use Rattle.std.proofs.lemmas.Bool.{false≢true}
use Rattle.store.specs.Mangling.{underscore, under}

-- under something it stands behind that and an underscore
pub under_something : (prefix name : List ℕ) → 0 < length prefix → under prefix name ≡ underscore ∷ (prefix ++ name)
under_something [] name lt = absurd (omega arith)
under_something (b ∷ bs) name lt = refl

-- the bytes of a name under something
pub length_under : (prefix name : List ℕ) → 0 < length prefix → length (under prefix name) ≡ length prefix + length name + 1
length_under prefix name lt =
    let e = length-append prefix name in
    ap length (under_something prefix name lt) ∙ omega arith

-- what follows the first byte of a text
abbrev pub following : List ℕ → List ℕ
following text = take (length text - 1) (drop 1 text)

whole : (text : List ℕ) → get_or text 0 0 ≡ underscore → text ≡ underscore ∷ following text
whole [] e = absurd (omega arith)
whole (x ∷ xs) e = first_rest (x ∷ xs) 0 (omega arith) ∙ ap (λ b. b ∷ following (x ∷ xs)) e

-- a text that begins with an underscore, against a name under a prefix that is not empty
module _ (text prefix name : List ℕ) (some : 0 < length prefix) (begins : get_or text 0 0 ≡ underscore) where
  behind : text ≡ under prefix name → following text ≡ prefix ++ name
  behind e = ap (drop 1) (sym (whole text begins) ∙ e ∙ under_something prefix name some)

  -- where the prefix is next, what is left tells
  pub under_tells : (last : List ℕ) (r : Bool) → following text ≡ prefix ++ last → Decides r (last ≡ name) → Decides r (text ≡ under prefix name)
  under_tells last r next same = (
    λ t. whole text begins ∙ ap (λ l. underscore ∷ l) (next ∙ ap (λ l. prefix ++ l) (same.0 t)) ∙ sym (under_something prefix name some),
    λ e. same.1 (append_cancel_left prefix last name (sym next ∙ behind e)),
  )

  -- where it is not, the text is another
  pub under_fails : ((last : List ℕ) → following text ≡ prefix ++ last → ⊥) → Decides false (text ≡ under prefix name)
  under_fails other = ((λ e. absurd (false≢true e)), (λ e. absurd (other name (behind e))))

-- What tells a private name, and the class's part of it.
use Rattle.std.proofs.Common.{◌≡◌, ℕ, true, false, cond, eqb, List, [], ◌∷◌, ◌++◌, reverse, drop, codes, Decides, sym, refl, ap, ◌∙◌}
use Rattle.std.proofs.lemmas.List.{reverse-append, reverse-reverse}
use Rattle.std.proofs.lemmas.Bool.{and_parts, eqb-true, false≢true}
use Rattle.std.proofs.lemmas.Bool.Decides.{Decides-like}
use Rattle.store.specs.Mangling.{underscore, begins_with_two, ends_in_two, is_private, stripped, under, class_part, mangled}

-- two underscores
abbrev pub two : List ℕ
two = underscore ∷ underscore ∷ []

begins_rest : (xs : List ℕ) → begins_with_two xs ≡ true → xs ≡ two ++ drop 2 xs
begins_rest [] e = absurd (false≢true e)
begins_rest (a ∷ []) e = absurd (false≢true e)
begins_rest (a ∷ b ∷ bs) e =
    let p = and_parts (eqb a underscore) (eqb b underscore) e in
    λ i. eqb-true a underscore p.0 i ∷ eqb-true b underscore p.1 i ∷ bs

-- to begin with two underscores is to have them before a rest
pub begins_decides : (xs : List ℕ) → Decides (begins_with_two xs) ((rest : List ℕ) × (xs ≡ two ++ rest))
begins_decides xs = ((λ e. (drop 2 xs, begins_rest xs e)), (λ p. ap begins_with_two p.1))

-- to end in two underscores is to have them behind a front
pub ends_decides : (xs : List ℕ) → Decides (ends_in_two xs) ((front : List ℕ) × (xs ≡ front ++ two))
ends_decides xs =
    Decides-like (ends_in_two xs)
    (λ p. (reverse p.0, sym (reverse-reverse xs) ∙ ap reverse p.1 ∙ reverse-append two p.0))
    (λ p. (reverse p.0, ap reverse p.1 ∙ reverse-append p.0 two))
    (begins_decides (reverse xs))

-- a name under the class's part is the name that is entered
pub under_class : (class name : List ℕ) → under (class_part class name) name ≡ mangled class name
under_class class name =
    elim (is_private name) as (λ v. under (cond v (stripped class) []) name ≡ cond v (under (stripped class) name) name)
    [ true ↦ refl | false ↦ refl ]

-- `__class__` is not private
pub mangled_class : (class : List ℕ) → mangled class (codes "__class__") ≡ codes "__class__"
mangled_class class = refl

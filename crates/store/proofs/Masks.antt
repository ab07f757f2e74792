-- Sets of masks: a set that two were joined to has all masks of both, and what it has of a set it has of that set's parts.
use Rattle.std.proofs.Common.{◌≡◌, ℕ, zero, suc, ◌+◌, ◌*◌, ◌/◌, ◌%◌, ◌<◌, true, eqb, sym, refl, ap, ◌∙◌, ap₂, mod-lt, arith}
use lib.Arith.{bin_ind}
use lib.Bits.{bit_and, bit_or, and_zero_r, and_self, and_shr, or_shr, and_mod, or_mod, or_comm, or_self, or_zero_r}
use Rattle.std.proofs.lemmas.Nat.{div-add-mod'}
use Rattle.std.proofs.lemmas.Bool.{eq-eqb, eqb-true}
use Rattle.symbols.specs.Flags.{has}

-- two numbers are one where their halves and their last digits are
by_digits : (a b : ℕ) → a / 2 ≡ b / 2 → a % 2 ≡ b % 2 → a ≡ b
by_digits a b high low = sym (div-add-mod' a 2) ∙ ap₂ (λ (x y : ℕ). x * 2 + y) high low ∙ div-add-mod' b 2

digit : (n : ℕ) → n % 2 < 2
digit n = mod-lt n (omega arith)

digits_absorb : (x y : ℕ) → x < 2 → y < 2 → bit_and (bit_or x y) x ≡ x
digits_absorb zero y p q = and_zero_r y
digits_absorb (suc zero) zero p q = refl
digits_absorb (suc zero) (suc zero) p q = refl
digits_absorb (suc zero) (suc (suc y)) p q = absurd (omega arith)
digits_absorb (suc (suc x)) y p q = absurd (omega arith)

-- what two sets were joined to has the first
pub and_absorbs : (a b : ℕ) → bit_and (bit_or a b) a ≡ a
and_absorbs =
    bin_ind (λ (n : ℕ). (b : ℕ) → bit_and (bit_or n b) n ≡ n) (λ b. and_zero_r b)
    (λ n ih b.
    by_digits (bit_and (bit_or n b) n) n
    (and_shr (bit_or n b) n 1 ∙ ap (λ (x : ℕ). bit_and x (n / 2)) (or_shr n b 1) ∙ ih (b / 2))
    (and_mod (bit_or n b) n 1 ∙ ap (λ (x : ℕ). bit_and x (n % 2)) (or_mod n b 1) ∙ digits_absorb (n % 2) (b % 2) (digit n) (digit b)))

digits_assoc : (x y z : ℕ) → x < 2 → y < 2 → z < 2 → bit_and (bit_and x y) z ≡ bit_and x (bit_and y z)
digits_assoc zero y z p q r = refl
digits_assoc (suc zero) zero z p q r = refl
digits_assoc (suc zero) (suc zero) zero p q r = refl
digits_assoc (suc zero) (suc zero) (suc zero) p q r = refl
digits_assoc (suc zero) (suc zero) (suc (suc z)) p q r = absurd (omega arith)
digits_assoc (suc zero) (suc (suc y)) z p q r = absurd (omega arith)
digits_assoc (suc (suc x)) y z p q r = absurd (omega arith)

pub and_assoc : (a b c : ℕ) → bit_and (bit_and a b) c ≡ bit_and a (bit_and b c)
and_assoc =
    bin_ind (λ (n : ℕ). (b c : ℕ) → bit_and (bit_and n b) c ≡ bit_and n (bit_and b c)) (λ b c. refl)
    (λ n ih b c.
    by_digits (bit_and (bit_and n b) c) (bit_and n (bit_and b c))
    (and_shr (bit_and n b) c 1 ∙ ap (λ (x : ℕ). bit_and x (c / 2)) (and_shr n b 1) ∙ ih (b / 2) (c / 2) ∙ sym (and_shr n (bit_and b c) 1 ∙ ap (bit_and (n / 2)) (and_shr b c 1)))
    (and_mod (bit_and n b) c 1 ∙ ap (λ (x : ℕ). bit_and x (c % 2)) (and_mod n b 1) ∙ digits_assoc (n % 2) (b % 2) (c % 2) (digit n) (digit b) (digit c)
    ∙ sym (and_mod n (bit_and b c) 1 ∙ ap (bit_and (n % 2)) (and_mod b c 1))))

digits_spread : (x y z : ℕ) → x < 2 → y < 2 → z < 2 → bit_and (bit_or x y) z ≡ bit_or (bit_and x z) (bit_and y z)
digits_spread zero y z p q r = refl
digits_spread (suc zero) zero z p q r = sym (or_zero_r (bit_and 1 z))
digits_spread (suc zero) (suc zero) z p q r = sym (or_self (bit_and 1 z))
digits_spread (suc zero) (suc (suc y)) z p q r = absurd (omega arith)
digits_spread (suc (suc x)) y z p q r = absurd (omega arith)

-- what a joined set has of c is what the two have of it, joined
pub and_spreads : (a b c : ℕ) → bit_and (bit_or a b) c ≡ bit_or (bit_and a c) (bit_and b c)
and_spreads =
    bin_ind (λ (n : ℕ). (b c : ℕ) → bit_and (bit_or n b) c ≡ bit_or (bit_and n c) (bit_and b c)) (λ b c. refl)
    (λ n ih b c.
    by_digits (bit_and (bit_or n b) c) (bit_or (bit_and n c) (bit_and b c))
    (and_shr (bit_or n b) c 1 ∙ ap (λ (x : ℕ). bit_and x (c / 2)) (or_shr n b 1) ∙ ih (b / 2) (c / 2) ∙ sym (or_shr (bit_and n c) (bit_and b c) 1 ∙ ap₂ bit_or (and_shr n c 1) (and_shr b c 1)))
    (and_mod (bit_or n b) c 1 ∙ ap (λ (x : ℕ). bit_and x (c % 2)) (or_mod n b 1) ∙ digits_spread (n % 2) (b % 2) (c % 2) (digit n) (digit b) (digit c)
    ∙ sym (or_mod (bit_and n c) (bit_and b c) 1 ∙ ap₂ bit_or (and_mod n c 1) (and_mod b c 1))))

-- to join a set that shares nothing with c does not change whether c is there
pub has_joined : (a b c : ℕ) → bit_and b c ≡ 0 → has (bit_or a b) c ≡ has a c
has_joined a b c e = ap (λ (x : ℕ). eqb x c) (and_spreads a b c ∙ ap (bit_or (bit_and a c)) e ∙ or_zero_r (bit_and a c))

pub has_self : (a : ℕ) → has a a ≡ true
has_self a = eq-eqb (bit_and a a) a (and_self a)

pub joined_has_left : (a b : ℕ) → has (bit_or a b) a ≡ true
joined_has_left a b = eq-eqb (bit_and (bit_or a b) a) a (and_absorbs a b)

pub joined_has_right : (a b : ℕ) → has (bit_or a b) b ≡ true
joined_has_right a b = eq-eqb (bit_and (bit_or a b) b) b (ap (λ (x : ℕ). bit_and x b) (or_comm a b) ∙ and_absorbs b a)

pub has_trans : (a b c : ℕ) → has a b ≡ true → has b c ≡ true → has a c ≡ true
has_trans a b c p q =
    let e = eqb-true (bit_and a b) b p in
    let f = eqb-true (bit_and b c) c q in
    eq-eqb (bit_and a c) c (ap (bit_and a) (sym f) ∙ sym (and_assoc a b c) ∙ ap (λ (x : ℕ). bit_and x c) e ∙ f)

-- Bytes appended one part after another.
use Rattle.std.proofs.Common.{◌≡◌, ℕ, ◌+◌, ◌≤◌, true, false, eqb, List, [], ◌∷◌, ◌++◌, length, take, Ok, Err, Result, sym, ap, ◌∙◌, append_assoc, arith}
use Rattle.std.specs.Result.{is_ok}
use Rattle.std.proofs.lemmas.List.{length-append, take_at, take_all}
use Rattle.std.proofs.lemmas.Bool.{eqb-false}
use Rattle.ordered.specs.declared.table.NoRoom.{NoRoom}
use Rattle.ordered.specs.declared.table.Ordered.{Ordered}
use Rattle.ordered.specs.Records.{listed, no_room, Extended}
use Rattle.store.specs.Mangling.{under}
use Rattle.store.specs.Memory.{SamePlaces, Appends}
use Rattle.store.proofs.Under.{under_something}
use Rattle.store.proofs.Never.{apart}
use Rattle.store.proofs.Frames.{same_trans, same_room, same_extended}

-- what `extend` did, where it answered that there was room
pub appends : (t t' : Ordered ℕ) (xs : List ℕ) (r : Result (Unit {0}) NoRoom) → Extended t t' xs r → true ≡ is_ok r → Appends t t' xs (Ok tt)
appends t t' xs (Ok u) p e = (p.0, p.1, same_extended t t' xs (Ok u) p)
appends t t' xs (Err x) p e = absurd (apart (cc))

-- and where it answered that there was none
pub appends_not : (t t' : Ordered ℕ) (xs : List ℕ) (r : Result (Unit {0}) NoRoom) → Extended t t' xs r → false ≡ is_ok r → Appends t t' xs (Err no_room)
appends_not t t' xs (Ok u) p e = absurd (apart (cc))
appends_not t t' xs (Err x) p e = (p.0, ap listed p.1, same_extended t t' xs (Err x) p)

-- one part, and then another
pub appends_more : (t t₁ t₂ : Ordered ℕ) (xs ys : List ℕ) → Appends t t₁ xs (Ok tt) → Appends t₁ t₂ ys (Ok tt) → Appends t t₂ (xs ++ ys) (Ok tt)
appends_more t t₁ t₂ xs ys a b =
    let l : length (listed t₁) ≡ length (listed t) + length xs = ap length a.1 ∙ length-append (listed t) xs in
    let n = length-append xs ys in
    let s = same_room a.2 in
    (omega (arith, l, n, s, b.0), b.1 ∙ ap (λ z. z ++ ys) a.1 ∙ append_assoc (listed t) xs ys, same_trans a.2 b.2)

-- a part that does not fit: what was appended before it is cut off again
pub appends_less : (t t₁ t₂ t₃ : Ordered ℕ) (xs ys zs : List ℕ) (n : ℕ) → n ≡ length (listed t) → Appends t t₁ xs (Ok tt) → Appends t₁ t₂ ys (Err no_room) →
    listed t₃ ≡ take n (listed t₂) → SamePlaces t₂ t₃ → length xs + length ys ≤ length zs → Appends t t₃ zs (Err no_room)
appends_less t t₁ t₂ t₃ xs ys zs n e a b cut same fits =
    let l : length (listed t₁) ≡ length (listed t) + length xs = ap length a.1 ∙ length-append (listed t) xs in
    let s = same_room a.2 in
    (omega (arith, l, s, b.0, fits), cut ∙ ap (take n) (b.1 ∙ a.1) ∙ take_at (listed t) xs n (sym e), same_trans (same_trans a.2 b.2) same)

-- the first part does not fit
pub appends_none : (t t₂ t₃ : Ordered ℕ) (ys zs : List ℕ) (n : ℕ) → n ≡ length (listed t) → Appends t t₂ ys (Err no_room) → listed t₃ ≡ take n (listed t₂) → SamePlaces t₂ t₃ → length ys ≤ length zs → Appends t t₃ zs (Err no_room)
appends_none t t₂ t₃ ys zs n e b cut same fits =
    (omega (arith, b.0, fits), cut ∙ ap (take n) b.1 ∙ take_all n (listed t) (omega (arith, e)), same_trans b.2 same)

-- with one, an underscore, the class part and the name
pub under_some : (prefix name : List ℕ) → false ≡ eqb (length prefix) 0 → under prefix name ≡ (95 ∷ []) ++ (prefix ++ name)
under_some prefix name e = let n = eqb-false (length prefix) 0 (sym e) in under_something prefix name (omega arith)

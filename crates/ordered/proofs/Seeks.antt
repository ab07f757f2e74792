-- The search for a key, record by record.
use Rattle.std.proofs.Common.{◌≡◌, ℕ, ◌<◌, ◌≤◌, List, [], ◌∷◌, length, get_or, Some, None, Option, sym, ◌∙◌, arith}
use Rattle.std.specs.List.{AllWithin, HoldsAt}
use Rattle.std.specs.Option.{MatchOption}
use Rattle.std.proofs.lemmas.List.{get_or-map, length-map}
use Rattle.ordered.specs.Keys.{keys, Found}

module _ {R : Type 0} (key : R → List ℕ → List ℕ) (texts k : List ℕ) where
  -- a record has the key k
  abbrev pub Has : R → Type 0
  Has x = key x texts ≡ k

  -- a record has another key
  abbrev pub Lacks : R → Type 0
  Lacks x = key x texts ≡ k → ⊥

  -- the keys before n are others, if the records are
  lacking : (d : R) (xs : List R) (n : ℕ) → AllWithin Lacks (d ∷ xs) 0 n → n ≤ length (d ∷ xs) → (j : ℕ) → j < n → get_or (keys key texts (d ∷ xs)) j [] ≡ k → ⊥
  lacking d xs n a l j m e = a j d (omega arith) m (sym (get_or-map (λ y. key y texts) (d ∷ xs) j d [] (omega arith)) ∙ e)

  -- the first record that has the key stands where the key does
  pub found : (xs : List R) (r : Option ℕ) → MatchOption r (AllWithin Lacks xs 0 (length xs)) (λ i. (i < length xs) × HoldsAt Has xs i × AllWithin Lacks xs 0 i) → Found (keys key texts xs) k r
  found [] (Some i) m = absurd (omega (arith, m.0))
  found [] None m = λ j l. absurd (omega (arith, l))
  found (d ∷ xs) (Some i) m =
      let n = length-map (d ∷ xs) (λ y. key y texts) in
      let l = m.0 in
      (omega arith, get_or-map (λ y. key y texts) (d ∷ xs) i d [] l ∙ m.1 d, lacking d xs i m.2 (omega arith))
  found (d ∷ xs) None m = λ j l. let n = length-map (d ∷ xs) (λ y. key y texts) in lacking d xs (length (d ∷ xs)) m (omega arith) j (omega arith)

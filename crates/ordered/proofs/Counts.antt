-- The first n of the places xs: how many they are.
use Rattle.std.proofs.Common.{ℕ, ◌≤◌, List, length, take, arith}
use native.Mathlib.Nat.{min-le_left, min-le_right}
use Rattle.std.proofs.lemmas.List.{length-take}

module _ {R : Type 0} (n : ℕ) (xs : List R) where
  pub within_places : length (take n xs) ≤ length xs
  within_places = let e = length-take n xs in let m = min-le_right n (length xs) in omega arith

  pub within_count : length (take n xs) ≤ n
  within_count = let e = length-take n xs in let m = min-le_left n (length xs) in omega arith

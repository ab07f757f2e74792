-- What is never so.
use Rattle.std.proofs.Common.{◌≡◌, ℕ, arith}

pub apart : ◌≡◌ {A = ℕ} 0 1 → ⊥
apart z = omega arith

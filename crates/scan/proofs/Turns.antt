-- Enterings in turn.
use Rattle.std.proofs.Common.{◌≡◌, ℕ, List, [], ◌∷◌, ◌++◌, refl}
use Rattle.store.specs.Held.{Held, Room, Outcome, done, refused}
use Rattle.scan.specs.Entering.{Entering, Standing, standing, step, onward, go_on, run}

-- three things in turn, however they are taken together
pub go_on-go_on :
    (t : ℕ) (o : Outcome) (f g : Held → ℕ → Standing) (fg : Held → ℕ → Standing) →
    ((h : Held) (u : ℕ) → fg h u ≡ go_on (f h u) g) → onward t o fg ≡ go_on (onward t o f) g
go_on-go_on t (done h) f g fg same = same h t
go_on-go_on t (refused h r) f g fg same = refl

-- one entering is one step
pub run_one : (room : Room) (h : Held) (t : ℕ) (e : Entering) → run room h t (e ∷ []) ≡ step room h t e
unfolding run
run_one room h t e = stays (step room h t e).table (step room h t e).outcome
  where
    stays : (u : ℕ) (o : Outcome) → onward u o (λ k v. standing v (done k)) ≡ standing u o
    stays u (done k) = refl
    stays u (refused k f) = refl

pub run_++ :
    (room : Room) (h : Held) (t : ℕ) (xs ys : List Entering) →
    run room h t (xs ++ ys) ≡ go_on (run room h t xs) (λ k u. run room k u ys)
unfolding run
run_++ room h t [] ys = refl
run_++ room h t (e ∷ es) ys =
    go_on-go_on (step room h t e).table (step room h t e).outcome (λ k u. run room k u es) (λ k u. run room k u ys)
    (λ k u. run room k u (es ++ ys)) (λ k u. run_++ room k u es ys)

-- What each entering keeps of what is held and of the open table, runs keep.
use Rattle.std.proofs.Common.{ℕ, List, [], ◌∷◌}
use Rattle.store.specs.Held.{Held, Room, Outcome, done, refused}
use Rattle.store.specs.Throughout.{held_in}
use Rattle.scan.specs.Entering.{Entering, Standing, step, onward, run}

module _ (room : Room) (I : Held → ℕ → Type 0) where
  abbrev Holds : Standing → Type 0
  Holds s = I (held_in s.outcome) s.table

  after_onward : (t : ℕ) (o : Outcome) (next : Held → ℕ → Standing) → I (held_in o) t → ((k : Held) (u : ℕ) → I k u → Holds (next k u)) → Holds (onward t o next)
  after_onward t (done k) next i goes = goes k t i
  after_onward t (refused k f) next i goes = i

  pub after_run : ((h : Held) (t : ℕ) (e : Entering) → I h t → Holds (step room h t e)) → (h : Held) (t : ℕ) (es : List Entering) → I h t → Holds (run room h t es)
  unfolding run
  after_run each h t [] i = i
  after_run each h t (e ∷ es) i =
      after_onward (step room h t e).table (step room h t e).outcome (λ k u. run room k u es) (each h t e i) (λ k u j. after_run each k u es j)

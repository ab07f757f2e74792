-- Runs one after the other: what a recursive scan is put together from.
use Rattle.std.proofs.Common.{◌≡◌, ℕ, Bool, true, false, cond, List, [], ◌∷◌, ◌++◌, IsErrAnd, Ok, Err, Result, sym, refl, ap, ◌∙◌, subst, arith}
use Rattle.symbols.specs.declared.fault.Fault.{Fault}
use Rattle.symbols.specs.declared.fault.ScanReason.{ScanReason}
use Rattle.symbols.specs.Faults.{Spot, scan_fault}
use Rattle.store.specs.Held.{Held, Room, Outcome, done, refused}
use Rattle.scan.specs.Entering.{Entering, standing, refuses, step, onward, go_on, run}
use Rattle.scan.specs.Runs.{AgreesBy, Agrees, Runs}
use Rattle.scan.proofs.Turns.{run_++, run_one}

-- where the answer is Ok, all was done
ok_done : (t : ℕ) (o : Outcome) (k : Held) (u : ℕ) → AgreesBy t o (Ok tt) k u → standing t o ≡ standing u (done k)
ok_done t (done h) k u a = λ i. standing (sym a.2 i) (done (sym a.1 i))
ok_done t (refused h f) k u a = (let e = a.0 in absurd (grind arith))

-- where it is Err, something was refused
err_refused : (t : ℕ) (o : Outcome) (f : Fault) (k : Held) (u : ℕ) → AgreesBy t o (Err f) k u → o ≡ refused k f
err_refused t (done h) f k u a = (let e = a.0 in absurd (grind arith))
err_refused t (refused h g) f k u a = let e : f ≡ g = (let d = a.0 in cc) in λ i. refused (sym a.1 i) (sym e i)

module _ {room : Room} {h : Held} {t : ℕ} {es : List Entering} where
  pub went : {k : Held} {u : ℕ} → Runs room h t es (Ok tt) k u → run room h t es ≡ standing u (done k)
  went {k} {u} p = ok_done (run room h t es).table (run room h t es).outcome k u p.ran

  pub stopped : {f : Fault} {k : Held} {u : ℕ} → Runs room h t es (Err f) k u → (run room h t es).outcome ≡ refused k f
  stopped {f} {k} {u} p = err_refused (run room h t es).table (run room h t es).outcome f k u p.ran

  -- and back
  pub from_went : {k : Held} {u : ℕ} → run room h t es ≡ standing u (done k) → Runs room h t es (Ok tt) k u
  from_went {k} {u} e = record { ran = subst (λ s. Agrees s (Ok tt) k u) (sym e) (refl, refl, refl) }

  pub from_stopped : {f : Fault} {k : Held} {u : ℕ} → (run room h t es).outcome ≡ refused k f → Runs room h t es (Err f) k u
  from_stopped {f} {k} {u} e = record { ran = subst (λ o. AgreesBy (run room h t es).table o (Err f) k u) (sym e) (refl, refl) }

-- nothing
pub idle : {room : Room} {h : Held} {t : ℕ} → Runs room h t [] (Ok tt) h t
unfolding run
idle = record { ran = (refl, refl, refl) }

-- one entering
pub stepped :
    {room : Room} {h : Held} {t : ℕ} {e : Entering} {r : Result (Unit {0}) Fault} {k : Held} {u : ℕ} →
    Agrees (step room h t e) r k u → Runs room h t (e ∷ []) r k u
stepped {room} {h} {t} {e} {r} {k} {u} a = record { ran = subst (λ s. Agrees s r k u) (sym (run_one room h t e)) a }

-- a refusal by the tree alone
pub turned_down : {room : Room} {h : Held} {t u : ℕ} (r : ScanReason) (s : Spot) → Runs room h t (refuses r s ∷ []) (Err (scan_fault r s)) h u
unfolding run step
turned_down r s = record { ran = (refl, refl) }

-- some enterings, and then others
pub and_then :
    {room : Room} {h h₁ h₂ : Held} {t t₁ t₂ : ℕ} {xs ys : List Entering} {r : Result (Unit {0}) Fault} →
    Runs room h t xs (Ok tt) h₁ t₁ → Runs room h₁ t₁ ys r h₂ t₂ → Runs room h t (xs ++ ys) r h₂ t₂
and_then {room} {h} {h₁} {h₂} {t} {t₁} {t₂} {xs} {ys} {r} p q =
    let e : run room h t (xs ++ ys) ≡ run room h₁ t₁ ys = run_++ room h t xs ys ∙ ap (λ s. go_on s (λ k u. run room k u ys)) (went p) in
    record { ran = subst (λ s. Agrees s r h₂ t₂) (sym e) q.ran }

-- a refusal ends them
pub broken :
    {room : Room} {h h₁ : Held} {t t₁ : ℕ} {xs : List Entering} {f : Fault} (ys : List Entering) →
    Runs room h t xs (Err f) h₁ t₁ → Runs room h t (xs ++ ys) (Err f) h₁ t₁
broken {room} {h} {h₁} {t} {t₁} {xs} {f} ys p =
    from_stopped (ap (λ s. s.outcome) (run_++ room h t xs ys) ∙
    ap (λ o. (onward (run room h t xs).table o (λ k u. run room k u ys)).outcome) (stopped p))

-- the exit of a `?`: after a refusal it does not matter which table is open
pub failed :
    {room : Room} {h h₁ : Held} {t t₁ t₂ : ℕ} {es : List Entering} {f : Fault} (r : Result (Unit {0}) Fault) →
    IsErrAnd r (λ g. g ≡ f) → Runs room h t es (Err f) h₁ t₁ → Runs room h t es r h₁ t₂
failed (Ok x) e p = absurd e
failed {h₁ = h₁} (Err g) e p = from_stopped (stopped p ∙ ap (λ f. refused h₁ f) (sym e))

-- by a test
pub if_taken :
    {room : Room} {h k : Held} {t u : ℕ} {r : Result (Unit {0}) Fault} (b : Bool) (xs ys : List Entering) →
    b ≡ true → Runs room h t xs r k u → Runs room h t (cond b xs ys) r k u
if_taken true xs ys e p = p
if_taken false xs ys e p = absurd (grind arith)

pub if_left :
    {room : Room} {h k : Held} {t u : ℕ} {r : Result (Unit {0}) Fault} (b : Bool) (xs ys : List Entering) →
    b ≡ false → Runs room h t ys r k u → Runs room h t (cond b xs ys) r k u
if_left true xs ys e p = absurd (grind arith)
if_left false xs ys e p = p

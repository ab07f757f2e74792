-- One call after another, and calls that a test decides.
use Rattle.std.proofs.Common.{◌≡◌, Bool, true, false, cond, Ok, Err, Result, sym, refl, ap, ◌∙◌, subst}
use Rattle.symbols.specs.declared.fault.Fault.{Fault}
use Rattle.store.specs.declared.memory.Memory.{Memory}
use Rattle.store.specs.Held.{Held, Room, Outcome, done, refused, and_then}
use Rattle.store.specs.Memory.{Keeps, Leaves, Does, held, room_of}
use Rattle.store.proofs.Frames.{keeps_refl, keeps_trans, keeps_room}
use Rattle.store.proofs.Never.{apart}

-- what an answer says of the outcome
pub leaves_done : (o : Outcome) (k : Held) → Leaves {A = Unit {0}} tt o (Ok tt) k → o ≡ done k
leaves_done (done h) k l = ap done (sym l.1)
leaves_done (refused h f) k l = absurd (apart (let e = l.0 in cc))

pub leaves_refused : (o : Outcome) (k : Held) (f : Fault) → Leaves {A = Unit {0}} tt o (Err f) k → o ≡ refused k f
leaves_refused (done h) k f l = absurd (apart (let e = l.0 in cc))
leaves_refused (refused h g) k f l = let e : g ≡ f = (let q = l.0 in cc) in ap (refused h) e ∙ ap (λ x. refused x f) (sym l.1)

-- nothing is done but to refuse
pub does_refuse : (m : Memory) (f g : Fault) → g ≡ f → Does m (refused (held m) f) (Err g) m
does_refuse m f g e = record { leaves = (ap Err e, refl); keeps = keeps_refl m }

-- the outcome may be said in another way
pub does_like : {m m' : Memory} {o p : Outcome} {r : Result (Unit {0}) Fault} → p ≡ o → Does m o r m' → Does m p r m'
does_like {m} {m'} {r = r} e d = subst (λ x. Does m x r m') (sym e) d

pub does_then : {m m₁ m₂ : Memory} {o : Outcome} {r : Result (Unit {0}) Fault} (next : Held → Outcome) → Does m o (Ok tt) m₁ → Does m₁ (next (held m₁)) r m₂ → Does m (and_then o next) r m₂
does_then {m} {m₁} {m₂} {o} {r} next a b = record {
  leaves = subst (λ x. Leaves tt (and_then x next) r (held m₂)) (sym (leaves_done o (held m₁) a.leaves)) b.leaves;
  keeps = keeps_trans a.keeps b.keeps;
}

pub does_stop : {m m₁ : Memory} {o : Outcome} {f : Fault} (next : Held → Outcome) → Does m o (Err f) m₁ → Does m (and_then o next) (Err f) m₁
does_stop {m} {m₁} {o} {f} next a = record {
  leaves = subst (λ x. Leaves tt (and_then x next) (Err f) (held m₁)) (sym (leaves_refused o (held m₁) f a.leaves)) (refl, refl);
  keeps = a.keeps;
}

-- a memory that was kept has the room that it had
pub does_in : {m m₁ m₂ : Memory} (f : Room → Outcome) {r : Result (Unit {0}) Fault} → Keeps m m₁ → Does m₁ (f (room_of m₁)) r m₂ → Does m₁ (f (room_of m)) r m₂
does_in {m} {m₁} {m₂} f {r} k d = subst (λ x. Does m₁ (f x) r m₂) (keeps_room k) d

pub does_if : {m m' : Memory} {r : Result (Unit {0}) Fault} (b : Bool) (x y : Outcome) → true ≡ b → Does m x r m' → Does m (cond b x y) r m'
does_if {m} {m'} {r} b x y e d = subst (λ v. Does m (cond v x y) r m') e d

pub does_else : {m m' : Memory} {r : Result (Unit {0}) Fault} (b : Bool) (x y : Outcome) → false ≡ b → Does m y r m' → Does m (cond b x y) r m'
does_else {m} {m'} {r} b x y e d = subst (λ v. Does m (cond v x y) r m') e d

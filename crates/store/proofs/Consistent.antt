-- What the refusals keep out: a name declared both ways, and a comprehension's target that is assigned.
use Rattle.std.proofs.Common.{◌≡◌, ℕ, Bool, true, false, ◌&&◌, ◌||◌, get_or, Some, None, Option, refl, ap, ◌∙◌, inl, inr}
use lib.Bits.{bit_and, bit_or, or_zero_r}
use Rattle.std.specs.Option.{option_or}
use Rattle.std.specs.Bool.{then_some}
use Rattle.std.specs.List.{All}
use Rattle.std.proofs.lemmas.List.Elements.{All-get_or, All-push, All-set}
use Rattle.std.proofs.lemmas.Bool.{both_ways, or_cases}
use Rattle.symbols.specs.declared.fault.ScanReason.TheVariants as reason
use Rattle.symbols.specs.Faults.{Spot}
use Rattle.symbols.specs.declared.symbol.Symbol.{Symbol}
use Rattle.symbols.specs.declared.usage.SymbolUsage.{SymbolUsage}
use Rattle.symbols.specs.declared.usage.SymbolUsage.TheVariants as role
use Rattle.store.specs.Enterings.{again, entered, misdeclared, no_symbol, objection, rebound, too_late}
use Rattle.symbols.specs.Flags.{assigned, has, iter, nonlocal}
use Rattle.store.specs.Grown.{Consistent}
use Rattle.store.specs.Laws.{ConsistentStays}
use Rattle.store.specs.Throughout.{Anywhere, held_in}
use Rattle.symbols.specs.Usage.{declares_global, masks_of}
use Rattle.store.proofs.Inversion.{enter_cases, not_some}
use Rattle.store.proofs.Masks.{has_joined}
use Rattle.store.proofs.Others.{symbol_there}
use Rattle.store.proofs.Runs.{throughout}

or_none : {X : Type 0} (a b : Option X) → option_or a b ≡ None → (a ≡ None) × (b ≡ None)
or_none None b e = (refl, e)
or_none (Some x) b e = not_some x e

when_none : {X : Type 0} (b : Bool) (x : X) → then_some b x ≡ None → b ≡ false
when_none false x e = refl
when_none true x e = not_some x e

-- no role sets both masks of a comprehension's target and an assignment, and none declares both ways
roles_apart : (r : SymbolUsage) → (has (masks_of r) iter && has (masks_of r) assigned) ≡ false
roles_apart role.Global = refl
roles_apart role.Nonlocal = refl
roles_apart role.Used = refl
roles_apart role.Assigned = refl
roles_apart role.Imported = refl
roles_apart role.AnnotationAssigned = refl
roles_apart role.Parameter = refl
roles_apart role.AnnotationParameter = refl
roles_apart role.AssignedNamedExprInComprehension = refl
roles_apart role.Iter = refl

-- what is known of a role: it declares global, declares nonlocal, or declares nothing
data Declares : SymbolUsage → Type 0 where
  global_one : Declares role.Global
  nonlocal_one : Declares role.Nonlocal
  neither : {r : SymbolUsage} → declares_global r ≡ false → bit_and (masks_of r) nonlocal ≡ 0 → Declares r

declares : (r : SymbolUsage) → Declares r
declares role.Global = global_one
declares role.Nonlocal = nonlocal_one
declares role.Used = neither refl refl
declares role.Assigned = neither refl refl
declares role.Imported = neither refl refl
declares role.AnnotationAssigned = neither refl refl
declares role.Parameter = neither refl refl
declares role.AnnotationParameter = neither refl refl
declares role.AssignedNamedExprInComprehension = neither refl refl
declares role.Iter = neither refl refl

one_way_again : (r : SymbolUsage) (s : Symbol) → Declares r → Consistent s → misdeclared r s ≡ None →
    (s.global || declares_global r) ≡ true → has (bit_or s.flags.bits (masks_of r)) nonlocal ≡ false
one_way_again _ s global_one c e g =
    ap (λ (x : ℕ). has x nonlocal) (or_zero_r s.flags.bits) ∙ when_none (has s.flags.bits nonlocal) reason.GlobalNonlocal (or_none (too_late s.flags.bits) (then_some (has s.flags.bits nonlocal) reason.GlobalNonlocal) e).1
one_way_again _ s nonlocal_one c e g =
    let never = when_none s.global reason.GlobalNonlocal (or_none (too_late s.flags.bits) (then_some s.global reason.GlobalNonlocal) e).1 in
    elim (or_cases s.global false g) [ inl a ↦ absurd (both_ways s.global never a) | inr a ↦ absurd (both_ways false refl a) ]
one_way_again r s (neither a b) c e g =
    elim (or_cases s.global (declares_global r) g) [
      | inl d ↦ has_joined s.flags.bits (masks_of r) nonlocal b ∙ c.one_way d
      | inr d ↦ absurd (both_ways (declares_global r) a d)
    ]

consistent_again : (r : SymbolUsage) (s : Symbol) → Consistent s → objection r s ≡ None → Consistent (again r s)
consistent_again r s c e =
    let m = bit_or s.flags.bits (masks_of r) in
    let p = or_none (misdeclared r s) (rebound m) e in
    record { one_way = one_way_again r s (declares r) c p.0; one_target = when_none (has m iter && has m assigned) reason.IterAssigned p.1 }

one_way_first : (r : SymbolUsage) → Declares r → declares_global r ≡ true → has (masks_of r) nonlocal ≡ false
one_way_first _ global_one g = refl
one_way_first _ nonlocal_one g = absurd (both_ways false refl g)
one_way_first r (neither a b) g = absurd (both_ways (declares_global r) a g)

consistent_first : (r : SymbolUsage) (t x : ℕ) (spot : Spot) → Consistent (entered r t x spot)
consistent_first r t x spot = record { one_way = one_way_first r (declares r); one_target = roles_apart r }

pub consistent_stays : ConsistentStays
consistent_stays =
    throughout Anywhere (λ h k. All Consistent h.symbols → All Consistent k.symbols) (λ h a. a) (λ h k l p q a. q (p a)) (λ h k t r a. tt)
    (λ room h t role text spot _.
    enter_cases room h t role text spot (λ o. All Consistent h.symbols → All Consistent (held_in o).symbols)
    (λ x i w a.
    let s = get_or h.symbols i no_symbol in
    let c = All-get_or Consistent h.symbols i no_symbol (symbol_there h t x i w.stands).0 a in
    All-set Consistent h.symbols i (again role s) (consistent_again role s c w.allowed) a)
    (λ m w a. All-push Consistent h.symbols (entered role t m.number spot) a (consistent_first role t m.number spot)) (λ f w a. a))

-- The names of a table after a list of enterings.
use Rattle.std.proofs.Common.{◌≡◌, ℕ, ◌<◌, Bool, true, false, cond, eqb, List, [], ◌∷◌, map, length, filter, sym, refl, ap, ◌∙◌, subst}
use Rattle.std.specs.List.{All}
use Rattle.std.proofs.lemmas.List.Elements.{All-head, All-tail}
use Rattle.store.specs.Enterings.{enter}
use Rattle.store.specs.Held.{Held, Outcome, done, refused, and_then}
use Rattle.store.specs.Laws.{NamesInOrder}
use Rattle.store.specs.Names.{Entering, append_new, enter_all, names_in, texts_for}
use Rattle.store.specs.Sound.{Sound}
use Rattle.store.specs.Throughout.{Anywhere, InTable}
use Rattle.store.proofs.Inversion.{not_both, one_done}
use Rattle.store.proofs.TableNames.{names_after_lem}
use Rattle.store.proofs.Others.{tables_stay}
use Rattle.store.proofs.Runs.{from_accepted}
use Rattle.store.proofs.SoundStays.{sound_stays}

-- two steps that are accepted are accepted one by one
pub both_done : (o : Outcome) (next : Held → Outcome) (k : Held) → and_then o next ≡ done k → (l : Held) × (o ≡ done l) × (next l ≡ done k)
both_done (done l) next k e = (l, refl, e)
both_done (refused l f) next k e = not_both k l f e

append_next : (b : Bool) (names : List (List ℕ)) (e : Entering) (es : List Entering) →
    append_new (cond b (append_new names (e.text ∷ [])) names) (map (λ x. x.text) es) ≡ append_new names (map (λ x. x.text) (cond b (e ∷ es) es))
append_next true names e es = refl
append_next false names e es = refl

-- the names of each table are those before, then those that were entered in it and not there, in the order of their first entering
pub names_in_order : NamesInOrder
names_in_order room h [] s a k q u = ap (λ x. names_in x u) (sym (one_done h k q))
names_in_order room h (e ∷ es) s a k q u =
    let w = both_done (enter room h e.table e.role e.text e.spot) (λ l. enter_all room l es) k q in
    let l = w.0 in
    let sound = from_accepted InTable (λ x y. Sound x → Sound y) sound_stays room h e.table e.role e.text e.spot (All-head (λ x. x.table < length h.tables) e es a) l w.1 s in
    let tables = from_accepted Anywhere (λ x y. y.tables ≡ x.tables) tables_stay room h e.table e.role e.text e.spot tt l w.1 in
    let rest : All (λ x. x.table < length l.tables) es = subst (λ ts. All (λ x. x.table < length ts) es) (sym tables) (All-tail (λ x. x.table < length h.tables) e es a) in
    names_in_order room l es sound rest k w.2 u
    ∙ ap (λ ns. append_new ns (texts_for u es)) (names_after_lem room h u e.table e.role e.text e.spot s l w.1)
    ∙ append_next (eqb e.table u) (names_in h u) e (filter (λ x. eqb x.table u) es)

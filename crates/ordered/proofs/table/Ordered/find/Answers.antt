-- The first record that matches has the key, and none before it has.
use Rattle.std.proofs.Common.{Some, None, sym, subst, rules, tests}
use Rattle.std.proofs.lemmas.Iterator.{IsFirst-from_position, YieldsList-from_slice}
use Rattle.ordered.specs.Keys.{keys, Found}
use Rattle.ordered.specs.Records.{listed}
use Rattle.ordered.proofs.Seeks.{Has, Lacks, found}
use Rattle.ordered.proofs.table.Ordered.find.Goals as goal

pub returns : goal.returns
returns g c =
    let key = g.R.Keyed.key in
    let texts = c.args.texts.now in
    let k = g.R.Keyed.asked c.args.probe.now in
    let xs = listed c.args.self.now in
    found key texts k xs (Some c.in_ok-first.first)
    (IsFirst-from_position _ _ (Some c.in_ok-first.first) (Has key texts k) (Lacks key texts k) c.in_ok-first.ensures.ran
    (YieldsList-from_slice xs (cc)) (λ x q e. search (rules, tests)) (λ x q e. search (rules, tests)))

pub returns-in_err-first : goal.returns-in_err-first
returns-in_err-first g c =
    let key = g.R.Keyed.key in
    let texts = c.args.texts.now in
    let k = g.R.Keyed.asked c.args.probe.now in
    let xs = listed c.args.self.now in
    subst (λ r. Found (keys key texts xs) k r) (sym c.from_residual.ensures)
    (found key texts k xs None
    (IsFirst-from_position _ _ None (Has key texts k) (Lacks key texts k) c.in_err-first.ensures.ran
    (YieldsList-from_slice xs (cc)) (λ x q e. search (rules, tests)) (λ x q e. search (rules, tests))))

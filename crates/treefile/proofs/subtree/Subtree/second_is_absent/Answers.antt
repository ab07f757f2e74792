use Rattle.std.proofs.Common.{ℕ, sym, ap, ◌∙◌}
use Rattle.std.proofs.lemmas.Bool.{and_left}
use Rattle.treefile.specs.Fits.{within}
use Rattle.treefile.proofs.Children.{second_test, second_test_lacks}
use Rattle.treefile.proofs.Kept.{stands_subtree}
use Rattle.treefile.proofs.Verdicts.{and_true}
use Rattle.treefile.proofs.subtree.Subtree.second_is_absent.Goals as goal

pub returns-in_default : goal.returns-in_default
returns-in_default c =
    let root = c.args.self.now.root in
    sym
    (second_test_lacks root.of.now.file.now root.of.now.trailer root.at (stands_subtree c.args.self.now) _ _
    (sym c.in_default.ensures.steps ∙ c.children-children.ensures) c.in_default.ensures'.steps.0)

pub returns-then-is_some : goal.returns-then-is_some
returns-then-is_some c =
    let root = c.args.self.now.root in
    let first = c.in-Some-Some.first in
    let inside =
    ap (λ (e : ℕ). within first.of.now.file.now first.of.now.trailer e first.at) (sym c.end.ensures) ∙ sym c.subtree.ensures.within
    ∙ sym c.is_some.ensures ∙ c.if-is_some.true in
    c.is.ensures ∙ sym (and_true _ _ inside)
    ∙ sym
    (second_test root.of.now.file.now root.of.now.trailer root.at (stands_subtree c.args.self.now) _ _ _ _
    (sym c.in-Some-Some.ensures.steps ∙ c.children-children.ensures) (sym c.in-Some-Some.ensures'.steps))

pub returns-else-is_some : goal.returns-else-is_some
returns-else-is_some c =
    let root = c.args.self.now.root in
    let first = c.in-Some-Some.first in
    let inside =
    ap (λ (e : ℕ). within first.of.now.file.now first.of.now.trailer e first.at) (sym c.end.ensures) ∙ sym c.subtree.ensures.within
    ∙ sym c.is_some.ensures ∙ c.if-is_some.false in
    c.if-is_some.false ∙ sym (and_left _ _ inside)
    ∙ sym
    (second_test root.of.now.file.now root.of.now.trailer root.at (stands_subtree c.args.self.now) _ _ _ _
    (sym c.in-Some-Some.ensures.steps ∙ c.children-children.ensures) (sym c.in-Some-Some.ensures'.steps))

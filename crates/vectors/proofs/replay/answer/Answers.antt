-- A line with a space, and one without.
use Rattle.std.proofs.Common.{Some, None, lit<}
use Rattle.std.proofs.lemmas.Result.{IfOk-weaker}
use Rattle.std.proofs.lemmas.Str.Pattern.{split_parts}
use Rattle.vectors.specs.Replay.{spaced, bare}
use Rattle.vectors.proofs.replay.answer.Goals as goal

pub returns-in-Some : goal.returns-in-Some
returns-in-Some c =
    let parts = split_parts 32 c.args.line.now (Some (c.in-Some.title, c.in-Some.text)) c.in-Some.ensures.cases (lit< tt) in
    IfOk-weaker c.replay.result _ _ (λ s e. spaced c.in-Some.title.now c.in-Some.text.now parts.0 parts.1 e) c.replay.ensures

pub returns-in-None : goal.returns-in-None
returns-in-None c =
    IfOk-weaker c.from_str.result _ _ (λ s e. bare (split_parts 32 c.args.line.now None c.in-None.ensures.cases (lit< tt)) e) c.from_str.ensures.ok

-- A record whose key is absent is appended.
use Rattle.ordered.proofs.Enters.{entered_distinct}
use Rattle.ordered.proofs.table.Ordered.enter.Goals as goal

pub returns-in-None-clause-distinct : goal.returns-in-None-clause-distinct
returns-in-None-clause-distinct g c =
    entered_distinct g.R.Keyed.key c.args.texts.now c.args.self.now c.push.new.self (g.R.Keyed.asked c.args.probe.now) c.args.item
    c.in-None.ensures c.push.result c.push.ensures

use Rattle.std.proofs.Common.{ap, subst, sym, ◌∙◌}
use Rattle.std.specs.Option.{option_copied}
use Rattle.ns_live_index.specs.Moving.{MovesInPool}
use Rattle.ns_live_index.proofs.PutLoads.{added_load}
use Rattle.ns_live_index.proofs.Puts.{added_row}
use Rattle.ns_live_index.proofs.live.Live.add.Goals as goal

pub returns-then-is_live-clause-added : goal.returns-then-is_live-clause-added
returns-then-is_live-clause-added c = added_row c.in-Some.row.now _ _ _ (sym c.is_live.ensures ∙ c.if-is_live.true) _ (ap option_copied
    c.in-Some.is) c.insert.ensures.added

pub returns-then-is_live-clause-loads : goal.returns-then-is_live-clause-loads
returns-then-is_live-clause-loads c = added_load c.in-Some.row.now (option_copied c.args.before) c.args.self.now
    c.insert.new.self (sym c.is_live.ensures ∙ c.if-is_live.true) _
    (ap option_copied c.in-Some.is)
    (subst (λ went. MovesInPool c.in-Some.row.now.pool c.in-Some.row.now.node went c.in-Some.row.now.size c.args.self.now c.insert.new.self)
    c.size_on-went.ensures c.insert.ensures.loads)

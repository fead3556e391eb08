use Rattle.std.proofs.Common.{ap, sym, ◌∙◌, Some, None}
use Rattle.std.specs.Option.{option_copied}
use Rattle.ns_counters.proofs.Passing.{quota_bound}
use Rattle.ns_counters.proofs.full.CountersQuestion.is_quota.Goals as goal

pub returns-in-Some : goal.returns-in-Some
returns-in-Some c = c.is_at_bound.ensures ∙ sym (quota_bound c.args.self.now.tables.now c.args.quota.now (Some c.in-Some.rows.now)
    (sym c.get.ensures ∙ ap option_copied c.in-Some.is))

pub returns-in-None : goal.returns-in-None
returns-in-None c = sym (quota_bound c.args.self.now.tables.now c.args.quota.now None (sym c.get.ensures ∙ ap option_copied c.in-None.is))

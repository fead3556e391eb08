use Rattle.std.proofs.Common.{sym, ◌∙◌}
use Rattle.ns_types.specs.declared.reply.Content.TheVariants as Content
use Rattle.ns_change.specs.Changed.{with_record}
use Rattle.ns_change.proofs.Bounded.{done_still, refused_full}
use Rattle.ns_change.proofs.Prepares.{prepares_as}
use Rattle.ns_counters.proofs.GivenLimits.{limits_past}
use Rattle.ns_tables.specs.World.{world_of}
use Rattle.ns_admin.proofs.Limits.{puts_record}
use Rattle.ns_admin.proofs.quotas.change_limits.Goals as goal

pub returns-then-given_limits_pass : goal.returns-then-given_limits_pass
returns-then-given_limits_pass c =
    let t = c.args.tables.now in
    let w = world_of t in
    refused_full w _ Content.Written (with_record c.args.name.now c.args.quota.now w) (puts_record w c.args.name.now c.args.quota.now c.requires.other)
    (limits_past t c.args.name.now c.args.quota.now c.requires.other c.requires.bounds ∙ sym c.given_limits_pass.ensures ∙ c.if-given_limits_pass.true)

pub returns : goal.returns
returns c =
    let t = c.args.tables.now in
    let w = world_of t in
    prepares_as _ _ t c.put_alone.result
    (done_still w _ Content.Written (with_record c.args.name.now c.args.quota.now w) (puts_record w c.args.name.now c.args.quota.now c.requires.other)
    (limits_past t c.args.name.now c.args.quota.now c.requires.other c.requires.bounds ∙ sym c.given_limits_pass.ensures ∙ c.if-given_limits_pass.false))
    c.put_alone.ensures

use Rattle.std.proofs.Common.{ap, ◌∙◌}
use Rattle.std.specs.List.{list_any}
use Rattle.ns_change.proofs.Any.{or_else, or_then}
use Rattle.ns_release.specs.Released.{quota_relimited, quotas_ended_in}
use Rattle.ns_tables.specs.World.{world_of}
use Rattle.ns_release.proofs.Asked.{quotas_asked}
use Rattle.ns_release.proofs.asking.releases_quota.Goals as goal

pub returns-then-any_relimited : goal.returns-then-any_relimited
returns-then-any_relimited g c =
    let p = g.Q.Question.of_quota c.args.question.now in
    let w = world_of c.args.tables.now in
    or_then _ _ _ c.if-any_relimited.true (c.any_relimited.ensures ∙ ap (list_any (λ slot. list_any p (quota_relimited w slot))) c.as_slice.ensures)
    ∙ quotas_asked w c.args.change.now p

pub returns-else-any_relimited : goal.returns-else-any_relimited
returns-else-any_relimited g c =
    let p = g.Q.Question.of_quota c.args.question.now in
    let w = world_of c.args.tables.now in
    or_else _ _ _ _ c.if-any_relimited.false (c.any_relimited.ensures ∙ ap (list_any (λ slot. list_any p (quota_relimited w slot))) c.as_slice.ensures)
    (c.any_tenant_frees.ensures ∙ ap (list_any (λ slot. list_any p (quotas_ended_in w slot))) c.as_slice-else-any_relimited.ensures)
    ∙ quotas_asked w c.args.change.now p

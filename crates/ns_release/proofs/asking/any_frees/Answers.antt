use Rattle.std.proofs.Common.{sym, ◌∙◌}
use Rattle.ns_tables.specs.World.{tenant_of}
use Rattle.ns_release.proofs.Asked.{none_frees}
use Rattle.ns_release.proofs.asking.any_frees.Goals as goal

pub returns-else-is_own : goal.returns-else-is_own
returns-else-is_own g c = c.if-is_own.false ∙ sym (none_frees (g.Q.Question.of_quota c.args.question.now) (tenant_of c.args.tenant.now)
    (sym c.is_own.ensures ∙ c.if-is_own.false) c.args.slots.now)

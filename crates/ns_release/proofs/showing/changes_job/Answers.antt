use Rattle.std.proofs.Common.{ap, sym, ◌∙◌, not, true}
use Rattle.std.specs.Option.{option_copied, option_map_or}
use Rattle.keyed.proofs.Tables.{get-rows}
use Rattle.ns_types.specs.Settling.Same.{same_job}
use Rattle.ns_types.proofs.Named.{names}
use Rattle.ns_release.proofs.showing.changes_job.Goals as goal

pub returns-in-Some : goal.returns-in-Some
returns-in-Some c = ap not c.same_job.ensures ∙ sym
    (ap (λ o. option_map_or (λ y. not (same_job y c.args.row.now)) o true) (get-rows names c.args.tenant.now.jobs c.args.id.now ∙ sym c.get.ensures ∙
    ap option_copied c.in-Some.is))

pub returns-in-None : goal.returns-in-None
returns-in-None c = sym (ap (λ o. option_map_or (λ y. not (same_job y c.args.row.now)) o true) (get-rows names c.args.tenant.now.jobs c.args.id.now ∙
    sym c.get.ensures ∙ ap option_copied c.in-None.is))

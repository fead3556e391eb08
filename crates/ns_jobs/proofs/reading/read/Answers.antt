use Rattle.std.proofs.Common.{refl, ap, sym, subst, ◌∙◌}
use Rattle.std.specs.Option.{option_copied}
use Rattle.ns_types.specs.Settling.Outcome.{Changes}
use Rattle.ns_tables.specs.World.{tenant_of, world_of}
use Rattle.ns_jobs.proofs.Asked.{ask_nowhere, asks}
use Rattle.ns_jobs.proofs.Prepared.{absent, there}
use Rattle.ns_jobs.proofs.reading.read.Goals as goal

pub returns-in_default : goal.returns-in_default
returns-in_default c = (
  ask_nowhere (world_of c.args.tables.now) c.args.namespace.now c.args.command.now
      (absent c.args.tables.now c.args.namespace.now (sym c.get.ensures ∙ ap option_copied c.in_default.is)),
  refl,
)

pub returns : goal.returns
returns c =
    let w = world_of c.args.tables.now in
    subst (λ o. Changes o w c.read_in.result w) (sym (asks w c.args.namespace.now c.args.command.now (tenant_of c.in-Some.tenant.now)
    (there c.args.tables.now c.args.namespace.now c.in-Some.tenant.now (sym c.get.ensures ∙ ap option_copied c.in-Some.is)))) c.read_in.ensures

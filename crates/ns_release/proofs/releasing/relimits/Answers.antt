use Rattle.std.proofs.Common.{ap, sym, ◌∙◌, Some, None}
use Rattle.std.specs.Option.{option_copied}
use Rattle.ns_release.proofs.Released.{relimits_by}
use Rattle.ns_release.proofs.releasing.relimits.Goals as goal

pub returns-in-Some-get : goal.returns-in-Some-get
returns-in-Some-get c = c.changes_limits.ensures
    ∙ sym (relimits_by c.args.tables.now c.args.slot.now.0 (Some c.in-Some-get.old.now) (sym c.get.ensures ∙ ap option_copied c.in-Some-get.is)
    c.args.slot.now.1 c.in-Some.quota c.in-Some.is)

pub returns-in-None : goal.returns-in-None
returns-in-None c = sym (relimits_by c.args.tables.now c.args.slot.now.0 None (sym c.get.ensures ∙ ap option_copied c.in-None.is)
    c.args.slot.now.1 c.in-Some.quota c.in-Some.is)

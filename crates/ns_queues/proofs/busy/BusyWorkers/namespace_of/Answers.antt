use Rattle.std.proofs.Common.{ap, sym, ◌∙◌}
use Rattle.std.specs.Option.{option_copied}
use Rattle.std.specs.Prelude.{find, is_some, option_map}
use Rattle.ns_queues.proofs.Holding.{named, not_named}
use Rattle.ns_queues.proofs.busy.BusyWorkers.namespace_of.Goals as goal

pub returns-in-Some : goal.returns-in-Some
returns-in-Some c w right = c.first_name.ensures ∙ ap (λ es. option_map (λ e. e.0) (find (λ e. is_some e.1) es)) c.as_slice.ensures
    ∙ named w c.args.number c.args.self.now right c.in-Some.names.now (sym c.get.ensures ∙ ap option_copied c.in-Some.is)

pub returns-in-None : goal.returns-in-None
returns-in-None c w right = not_named w c.args.number c.args.self.now right (sym c.get.ensures ∙ ap option_copied c.in-None.is)

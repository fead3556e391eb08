use Rattle.std.proofs.Common.{ap, refl, sym, ◌∙◌}
use Rattle.std.specs.Option.{option_copied_mut}
use Rattle.ns_queues.proofs.BusyNames.{name_put}
use Rattle.ns_queues.proofs.busy.BusyWorkers.insert.Goals as goal

pub returns-in-Some : goal.returns-in-Some
returns-in-Some c = name_put c.args.self.now _ c.args.number c.in-Some.names.now c.set.new.self
    (sym c.get_mut.ensures.value ∙ ap option_copied_mut c.in-Some.is) refl c.args.namespace.now c.set.ensures

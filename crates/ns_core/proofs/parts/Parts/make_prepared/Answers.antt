use Rattle.std.specs.Prelude.{Ok, Err}
use Rattle.ns_change.specs.Changed.{view}
use Rattle.ns_settlement.proofs.Concluding.{makes}
use Rattle.ns_core.specs.Viewed.{state_of, world_of}
use Rattle.ns_core.proofs.Keeping.{within}
use Rattle.ns_core.proofs.parts.Parts.make_prepared.Goals as goal

pub conclude-concluded-requires-clause-within : goal.conclude-concluded-requires-clause-within
conclude-concluded-requires-clause-within c = within (state_of c.args.self.now) c.requires.valid

pub returns-in-Err-clause-made : goal.returns-in-Err-clause-made
returns-in-Err-clause-made c = λ step allowed prepares.
    let x = c.args.prepared in
    makes step (state_of c.args.self.now) allowed x.content (view c.args.self.now.tables x.change) prepares {A = Unit {0}} (Err c.in-Err.refusal)
    (world_of (record c.args.self.now { tables = c.conclude-concluded.new.tables })) c.in-Err.ensures.world

pub returns-clause-made : goal.returns-clause-made
returns-clause-made c = λ step allowed prepares.
    let x = c.args.prepared in
    makes step (state_of c.args.self.now) allowed x.content (view c.args.self.now.tables x.change) prepares {A = Unit {0}} (Ok c.in_default.field-0)
    (world_of (record c.args.self.now { tables = c.conclude-concluded.new.tables })) c.in_default.ensures.world

use Rattle.std.specs.Prelude.{Ok, Err}
use Rattle.std.proofs.Common.{sym, ap, ◌∙◌}
use Rattle.ns_types.specs.Steps.{said}
use Rattle.ns_core.specs.Viewed.{state_of}
use Rattle.ns_core.proofs.Reading.{ask_reads, uses_fit}
use Rattle.ns_core.proofs.parts.Parts.read.Goals as goal

pub read-requires-clause-fits : goal.read-requires-clause-fits
read-requires-clause-fits c = uses_fit (state_of c.args.self.now) c.requires.kept.valid c.args.command.now

pub read-requires-clause-right : goal.read-requires-clause-right
read-requires-clause-right c = c.requires.kept.index.live

pub returns-in-Ok : goal.returns-in-Ok
returns-in-Ok c = λ secret allowed. ask_reads (state_of c.args.self.now) c.args.namespace.now secret c.args.command.now c.requires.kept.valid
    c.requires.reads allowed (Ok c.in-Ok.content) c.in-Ok.ensures
    ∙ ap (λ index. said (Ok (record { index = index; content = c.in-Ok.content })) (state_of c.args.self.now)) (sym c.index-index.ensures)

pub returns-in-Err : goal.returns-in-Err
returns-in-Err c = λ secret allowed. ask_reads (state_of c.args.self.now) c.args.namespace.now secret c.args.command.now c.requires.kept.valid
    c.requires.reads allowed (Err c.in-Err.refusal) c.in-Err.ensures

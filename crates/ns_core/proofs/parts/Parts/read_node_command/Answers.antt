use Rattle.std.specs.Prelude.{Ok, Err}
use Rattle.std.proofs.Common.{sym, ap, ◌∙◌}
use Rattle.std.proofs.lemmas.Result.{err_from_is_err_and}
use Rattle.ns_types.specs.Steps.{said}
use Rattle.ns_core.specs.Viewed.{state_of}
use Rattle.ns_core.proofs.Reading.{pool_reads}
use Rattle.ns_core.proofs.parts.Parts.read_node_command.Goals as goal

pub returns-in_err-content : goal.returns-in_err-content
returns-in_err-content c = λ secret allowed.
    let p = err_from_is_err_and c.from_residual.result c.from_residual.ensures.1 in
    rw (p.1, p.2) (pool_reads (state_of c.args.self.now) c.args.pool.now secret c.args.command.now c.requires.valid c.requires.reads
    allowed (Err c.in_err-content.field-0.0) c.in_err-content.ensures)

pub returns : goal.returns
returns c = λ secret allowed.
    pool_reads (state_of c.args.self.now) c.args.pool.now secret c.args.command.now c.requires.valid c.requires.reads
    allowed (Ok c.in_ok-content.content) c.in_ok-content.ensures
    ∙ ap (λ reply. said (Ok reply) (state_of c.args.self.now)) (sym c.plain.ensures)

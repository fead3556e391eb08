use Rattle.ns_pipe.proofs.Entries.{entry_typed}
use Rattle.ns_pipe.proofs.written.typed.is_typed.Goals as goal

pub returns : goal.returns
returns c =
    entry_typed c.args.entry.now _ _ c.step.ensures c.rendered.ensures c.step_is_typed.ensures.good
    c.step_is_typed.ensures.fits c.answer_is_typed.ensures

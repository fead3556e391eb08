use Rattle.std.proofs.Common.{sym, subst}
use Rattle.ns_log.specs.Lines.{IsLineLen}
use Rattle.ns_log.proofs.Lines.{line_len_is}
use Rattle.ns_log.proofs.line.begun_len.Goals as goal

pub returns : goal.returns
returns c = λ alone is.
    subst (IsLineLen c.args.text.now alone) (sym c.then_some.ensures)
    (line_len_is c.args.text.now c.args.line.now alone c.starts_with.result is c.starts_with.ensures.value)

use Rattle.std.proofs.Common.{sym, subst}
use Rattle.std.proofs.lemmas.Result.{err_from_is_err_and}
use Rattle.ns_log_reader.specs.Reading.{ReadsBack}
use Rattle.ns_log_reader.proofs.Calls.{err_back}
use Rattle.ns_log_reader.proofs.Lines.{value_back}
use Rattle.ns_log_reader.proofs.line.candidate.Goals as goal

pub returns-in_err-value-clause-back : goal.returns-in_err-value-clause-back
returns-in_err-value-clause-back c =
    let p = err_from_is_err_and c.from_residual.result c.from_residual.ensures.1 in
    subst (ReadsBack c.args.line.now) (sym p.1) (err_back c.args.line.now p.0 c.value_of.result (cc (p.1, p.2)) c.value_of.ensures.bad)

pub returns-clause-back : goal.returns-clause-back
returns-clause-back c = value_back c.args.line.now _ c.entry.result c.in_ok-value.ensures.value c.entry.ensures.value

use Rattle.std.proofs.lemmas.Result.{err_from_is_err_and}
use Rattle.ns_log_reader.proofs.Lines.{no_head, bad_head, good_head}
use Rattle.ns_log_reader.proofs.head.read_head.Goals as goal

pub returns-in_default-clause-bad : goal.returns-in_default-clause-bad
returns-in_default-clause-bad c = λ e. no_head c.args.text.now (cc)

pub returns-in_err-secret-clause-bad : goal.returns-in_err-secret-clause-bad
returns-in_err-secret-clause-bad c =
    let p = err_from_is_err_and c.from_residual.result c.from_residual.ensures.1 in
    λ e. bad_head c.args.text.now c.in-Some.end (cc) (c.secret_of.ensures.bad (cc (p.1, p.2, e)))

pub returns-clause-text : goal.returns-clause-text
returns-clause-text c = good_head c.args.text.now c.in_ok-secret.secret c.in-Some.end (cc) c.in_ok-secret.ensures.text

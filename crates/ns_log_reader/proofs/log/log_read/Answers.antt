use Rattle.std.proofs.Common.{◌≡◌, Err, drop, inr, subst}
use Rattle.std.proofs.lemmas.Result.{err_from_is_err_and}
use Rattle.ns_log_reader.specs.declared.fault.LogFault.TheVariants.{Line}
use Rattle.ns_log_reader.specs.Reading.{HasEntries, StopsAfter}
use Rattle.ns_log_reader.proofs.Lasts.{rest_is}
use Rattle.ns_log_reader.proofs.Lines.{log_is, fault_is}
use Rattle.ns_log_reader.proofs.log.log_read.Goals as goal

pub returns-in_err-entries-clause-bad : goal.returns-in_err-entries-clause-bad
returns-in_err-entries-clause-bad c =
    let p = err_from_is_err_and c.from_residual.result c.from_residual.ensures.1 in
    λ n e.
    let stopped : c.read_entries.result ≡ Err (Line n) = cc (p.1, p.2, e) in
    inr (fault_is c.args.text.now c.in-Ok.head.secret (drop c.in-Ok.head.len c.args.text.now) n c.in-Ok.ensures.is_secret c.in-Ok.ensures.text
    (subst (λ rest. StopsAfter rest c.in-Ok.head.secret n) (rest_is c.args.text.now c.in-Ok.head.len) (c.read_entries.ensures.bad n stopped)))

pub returns-clause-ok : goal.returns-clause-ok
returns-clause-ok c =
    log_is c.args.text.now c.in-Ok.head.secret (drop c.in-Ok.head.len c.args.text.now) c.in_ok-entries.entries c.in-Ok.ensures.is_secret
    c.in-Ok.ensures.text
    (subst (λ rest. HasEntries rest c.in-Ok.head.secret c.in_ok-entries.entries) (rest_is c.args.text.now c.in-Ok.head.len) c.in_ok-entries.ensures.ok)

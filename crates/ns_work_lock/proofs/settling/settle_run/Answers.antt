use Rattle.std.proofs.Common.{sym, subst}
use Rattle.ns_json.specs.Replies.{IsKept}
use Rattle.ns_work_lock.proofs.SettledAlike.{kept_is_run}
use Rattle.ns_work_lock.proofs.settling.settle_run.Goals as goal

pub returns-in-Err-NotARun-clause-settled : goal.returns-in-Err-NotARun-clause-settled
returns-in-Err-NotARun-clause-settled c last settles kept =
    kept_is_run _ c.in-Err-NotARun.field-0-is (c.in-Err-NotARun.ensures.a_run last
    (subst (λ log. IsKept c.args.first.now log last) (sym c.as_slice-3.ensures.value) kept))

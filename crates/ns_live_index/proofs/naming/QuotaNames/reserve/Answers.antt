use Rattle.ns_live_index.proofs.naming.QuotaNames.reserve.Goals as goal

pub returns-in-Some-clause-same : goal.returns-in-Some-clause-same
returns-in-Some-clause-same c = record {
  names = λ quota ns. c.reserve_at.ensures.same.held (quota, ns);
  totals = c.reserve_at.ensures.totals;
}

use Rattle.ns_log.proofs.LawLemmas.{one_fault}
use Rattle.ns_log.proofs.receipts.laws.one_fault.Goals as goal

pub returns : goal.returns
returns c = one_fault

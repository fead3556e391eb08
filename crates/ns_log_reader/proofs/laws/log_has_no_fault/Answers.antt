use Rattle.ns_log_reader.proofs.LawLemmas as law
use Rattle.ns_log_reader.proofs.laws.log_has_no_fault.Goals as goal

pub returns : goal.returns
returns c = law.log_has_no_fault

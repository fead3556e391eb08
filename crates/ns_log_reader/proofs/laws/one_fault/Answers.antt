use Rattle.ns_log_reader.proofs.LawLemmas as law
use Rattle.ns_log_reader.proofs.laws.one_fault.Goals as goal

pub returns : goal.returns
returns c = law.one_fault

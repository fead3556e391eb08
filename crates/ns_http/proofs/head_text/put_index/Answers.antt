use Rattle.std.proofs.Common.{append_assoc}
use Rattle.httparse.proofs.GrammarLemmas.{cons-append}
use Rattle.ns_http.proofs.head_text.put_index.Goals as goal

pub returns-in-Some-clause-value : goal.returns-in-Some-clause-value
returns-in-Some-clause-value c = simp (c.in-Some.is, c.put_number.ensures.value, c.put.ensures.value, append_assoc, cons-append)

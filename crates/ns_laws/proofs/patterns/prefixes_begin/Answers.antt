use Rattle.ns_laws.proofs.Matching.{prefixes_begin}
use Rattle.ns_laws.proofs.patterns.prefixes_begin.Goals as goal

pub returns : goal.returns
returns c = prefixes_begin

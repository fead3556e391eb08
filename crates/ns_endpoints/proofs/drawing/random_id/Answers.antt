use Rattle.ns_endpoints.proofs.DrawnTexts.{secret_from}
use Rattle.ns_endpoints.proofs.drawing.random_id.Goals as goal

pub returns-clause-good : goal.returns-clause-good
returns-clause-good c = secret_from c.from_str.result _ _ c.from_str.ensures c.encode_lower.ensures.text

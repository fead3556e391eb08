use Rattle.std.proofs.Common.{[]}
use Rattle.ns_endpoints.proofs.documents.create_token.Goals as goal

pub new-requires : goal.new-requires
new-requires c = c.in_ok-document.ensures.good []

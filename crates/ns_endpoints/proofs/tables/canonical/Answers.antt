use Rattle.uuid.specs.Text.{parsed}
use Rattle.ns_endpoints.proofs.Steps.{unparsed}
use Rattle.ns_endpoints.proofs.tables.canonical.Goals as goal

pub unreachable-requires : goal.unreachable-requires
unreachable-requires c = unparsed (parsed c.args.text.now) c.requires c.in_default.ensures.ok.1

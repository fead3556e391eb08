use Rattle.ns_json.specs.Logs.{administered}
use Rattle.ns_log.proofs.call.write_administered.Goals as goal

pub returns-in-ListNamespaces : goal.returns-in-ListNamespaces
unfolding administered
returns-in-ListNamespaces c = rw c.in-ListNamespaces.is c.write_bare.ensures

pub returns-in-ReadPolicy : goal.returns-in-ReadPolicy
unfolding administered
returns-in-ReadPolicy c = rw c.in-ReadPolicy.is c.write_text-in-ReadPolicy.ensures

pub returns-in-DeletePolicy : goal.returns-in-DeletePolicy
unfolding administered
returns-in-DeletePolicy c = rw c.in-DeletePolicy.is c.write_text-in-DeletePolicy.ensures

use Rattle.ns_json.specs.Logs.{node_call}
use Rattle.ns_log.proofs.call.write_node_call.Goals as goal

pub returns-in-Report : goal.returns-in-Report
unfolding node_call
returns-in-Report c = rw c.in-Report.is c.write_report.ensures

use Rattle.serde_json.specs.View.{view}
use Rattle.ns_log_reader.proofs.Calls.{member_within}
use Rattle.ns_log_reader.proofs.member.member.Goals as goal

pub returns-in-Some-clause-within : goal.returns-in-Some-clause-within
returns-in-Some-clause-within c = member_within c.args.name.now (view c.args.object.now) (view c.in-Some.value.now) c.in-Some.ensures

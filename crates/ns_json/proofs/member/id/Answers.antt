use Rattle.std.proofs.Common.{None, rules}
use Rattle.ns_json.proofs.Ids.{id_of-read, no_id}
use Rattle.ns_json.proofs.member.id.Goals as goal

pub returns-in-None : goal.returns-in-None
returns-in-None c = no_id c.args.member c.args.kind _ c.in_ok-text.text.now (search (rules, c.as_str.ensures, c.in_ok-text.ensures.value))
    (id_of-read c.args.kind c.in_ok-text.text.now None tt tt c.in-None.ensures.none)

use Rattle.ns_json.proofs.Texts.{json_ok, json_bad, not_true}
use Rattle.ns_json.proofs.member.read_json.Goals as goal

pub returns-in-Ok : goal.returns-in-Ok
returns-in-Ok c = json_ok _ _ c.in-Ok.ensures.ok

pub returns-else-is_memory : goal.returns-else-is_memory
returns-else-is_memory c = json_bad _ (c.in-Err.ensures.err (λ m. not_true c.is_memory.result c.if-is_memory.false (c.is_memory.ensures.1 m)))

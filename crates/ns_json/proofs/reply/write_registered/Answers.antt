use Rattle.std.proofs.Common.{subst}
use Rattle.ns_json.specs.Part.{Adds}
use Rattle.ns_json.proofs.Replies.{registered_tokens}
use Rattle.ns_json.proofs.reply.write_registered.Goals as goal

pub returns : goal.returns
returns c = subst (λ ts. Adds c.write_parts.result c.args.out.now c.write_parts.new.out ts)
    (registered_tokens c.args.evaluation c.args.index c.args.job_index c.id_str-id.result.now c.id_str-id.ensures) c.write_parts.ensures

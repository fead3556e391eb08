use Rattle.std.proofs.Common.{ap, ◌∙◌}
use Rattle.ns_change.specs.Changed.{changed_list}
use Rattle.ns_change.proofs.Listed.{added_one}
use Rattle.ns_change.proofs.lists.add_key.Goals as goal

pub returns : goal.returns
returns c = λ base. ap (λ l. changed_list base (record c.args.list.now { added = l })) c.in_ok-push.ensures.ok ∙ added_one c.args.key c.args.list.now base

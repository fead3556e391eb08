use Rattle.std.proofs.Common.{◌∙◌, ◌++◌}
use Rattle.std.proofs.lemmas.Result.{on_ok_weaker}
use Rattle.ns_change.specs.Changed.{without_keys}
use Rattle.ns_change.proofs.Listed.{taken_out}
use Rattle.ns_change.proofs.lists.take_out.Goals as goal

pub returns : goal.returns
returns c = on_ok_weaker c.push_all.result (λ taken. taken_out c.args.keys.now c.args.list.now _ taken
    (c.in_ok-push_others.ensures ∙ (λ i. c.new-added.ensures i ++ without_keys c.args.keys.now (c.as_slice.ensures i)))) c.push_all.ensures

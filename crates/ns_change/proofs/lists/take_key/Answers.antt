use Rattle.std.proofs.Common.{ap, ◌∙◌}
use Rattle.std.proofs.lemmas.Result.{on_ok_weaker}
use Rattle.ns_change.specs.Changed.{changed_list, without_keys}
use Rattle.ns_change.proofs.Listed.{taken_alone}
use Rattle.ns_change.proofs.lists.take_key.Goals as goal

pub returns : goal.returns
returns c = on_ok_weaker c.take_out.result (λ takes. λ base. let keys = changed_list base c.args.list.now in
    takes base ∙ ap (λ out. without_keys out keys) c.from_ref.ensures.value ∙ taken_alone c.args.key.now keys) c.take_out.ensures

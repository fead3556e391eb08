use Rattle.std.proofs.Common.{◌∙◌}
use Rattle.keyed.proofs.Tables.{get-rows}
use Rattle.ns_types.proofs.Named.{numbers}
use Rattle.ns_copies.proofs.Owned.{all_numbers}
use Rattle.ns_copies.proofs.owners.copied_work.Goals as goal

pub copied_numbers-requires : goal.copied_numbers-requires
copied_numbers-requires c = λ n worker at. c.requires.worker n worker (get-rows numbers c.args.tenant.now.workers n ∙ at)

pub returns-clause-workers : goal.returns-clause-workers
returns-clause-workers c = all_numbers _ c.args.tenant.now.workers c.in_ok-copied_numbers.ensures

use Rattle.std.specs.FinMap.{entries}
use Rattle.std.proofs.Common.{ap, ◌∙◌}
use Rattle.keyed.specs.Levels.{holds_numbered}
use Rattle.keyed.specs.Queue.{at, rows_in}
use Rattle.keyed.specs.declared.place_set.PlaceSet.{PlaceSet}
use Rattle.keyed.proofs.Levels.{says_nothing}
use Rattle.keyed.proofs.Queued.{nothing_placed}
use Rattle.ns_types.proofs.Named.{numbers, one_number}
use Rattle.ns_types.proofs.TableRows.{entries_empty}
use Rattle.keyed.proofs.queue.Queue.new.Goals as goal

pub invariant_of-result : goal.invariant_of-result
invariant_of-result g c = nothing_placed g.R.Keyed.key_of c.new.result c.new.ensures.rows
    (λ q n. says_nothing (λ (s : PlaceSet). s.names) holds_numbered c.new.result.places c.new.ensures.places (at q n))

pub returns : goal.returns
returns g c = ap (λ m. rows_in (entries m)) c.new.ensures.rows ∙ ap rows_in (entries_empty numbers one_number)

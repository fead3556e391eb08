use Rattle.std.proofs.Common.{ap, sym, ◌++◌, ◌∙◌}
use Rattle.std.proofs.lemmas.List.{append-nil}
use Rattle.ns_blocked.proofs.Passing.{nothing_left, passing_keys}
use Rattle.ns_blocked.proofs.Places.{keys_at}
use Rattle.ns_blocked.proofs.list.BlockedList.keys_at.Goals as goal

pub returns : goal.returns
returns c passes are = c.from_vec.ensures ∙ sym (append-nil c.loop-place.keys.items)
    ∙ sym (ap (λ places. c.loop-place.keys.items ++ keys_at c.args.self.now places)
    (nothing_left c.loop-place.places.keys c.in_default.ensures.variant.1))
    ∙ c.loop-place.invariant ∙ passing_keys c.args.self.now passes c.args.places.keys are c.len.ensures.ordered

use Rattle.std.proofs.Common.{◌≡◌}
use Rattle.form_urlencoded.specs.Parse.{pairs_left}
use Rattle.ns_request.specs.Values.{values_of}
use Rattle.ns_request.proofs.FirstValues.{joined}
use Rattle.ns_request.proofs.parameters.QueryValues.keep_all.Given as goal

abbrev pub invariant-loop-pair : goal.invariant-loop-pair
invariant-loop-pair l =
    (goal.iterator-loop-pair).can_next l.pair-iterator ×
    (goal.iterator-loop-pair).is_finite l.pair-iterator ×
    (joined l.self (pairs_left l.pair-iterator) ≡ values_of l.text)

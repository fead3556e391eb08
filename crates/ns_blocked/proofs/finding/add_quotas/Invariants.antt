use Rattle.std.proofs.Common.{take}
use Rattle.std.specs.List.{list_any}
use Rattle.ns_blocked.specs.Waking.{AddsPlaces, is_of_quota}
use Rattle.ns_blocked.proofs.finding.add_quotas.Given as goal

abbrev pub invariant-loop-quota : goal.invariant-loop-quota
invariant-loop-quota l = AddsPlaces (λ n. list_any (is_of_quota l.groups n) (take l.quota-index l.quotas)) l.initial.places.keys l.places.keys

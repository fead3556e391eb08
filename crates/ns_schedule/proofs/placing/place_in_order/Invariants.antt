-- The placements so far and what the rest would place make up the whole, the sums stay in range, and the order and the ranking stand.
use Rattle.std.proofs.Common.{◌≡◌, drop}
use Rattle.ns_types.specs.Placing.Planning.{place}
use Rattle.ns_types.specs.State.Resources.{IsCounted, plus, total}
use Rattle.ns_place.specs.Order.{IsOrder}
use Rattle.ns_preempt.specs.Ranking.{IsRanking}
use Rattle.ns_schedule.specs.Chosen.{site, IsRefused}
use Rattle.ns_schedule.proofs.Placings.{so_far}
use Rattle.ns_schedule.proofs.placing.place_in_order.Given as goal

abbrev pub invariant-loop-d : goal.invariant-loop-d
invariant-loop-d l = record {
  rest : so_far l.placements l.class_limited (place l.quota (drop l.d-index l.demands) (site l.candidates.items l.used))
      ≡ place l.quota l.demands (site l.initial.candidates.items l.initial.used);
  counted : IsCounted (plus l.used (total (λ d. d.size) (drop l.d-index l.demands)));
  order : IsOrder l.order l.candidates.items;
  ranking : IsRanking l.ranking l.candidates.items;
  refused : IsRefused l.refused l.candidates.items;
}

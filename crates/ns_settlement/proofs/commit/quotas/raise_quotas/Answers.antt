use Rattle.std.proofs.Common.{refl, sym, ap, subst, ◌∙◌, ◌≡◌, ◌+◌, drop, true}
use Rattle.std.proofs.Math.ListN.{drop_of_length-le}
use Rattle.ns_types.specs.State.Names.{has_name}
use Rattle.ns_settlement.specs.Committed.{raised_quota}
use Rattle.ns_settlement.specs.Owners.{ChangesRow}
use Rattle.keyed.proofs.Queues.{from_here}
use Rattle.ns_settlement.proofs.Raised.{all_risen, can_rise, passed, rest_is, risen}
use Rattle.ns_settlement.proofs.Whole.{quotas_are}
use Rattle.ns_settlement.proofs.commit.quotas.raise_quotas.Goals as goal
use Rattle.ns_settlement.proofs.commit.quotas.raise_quotas.Goals.{then-not-has_name, else-not-has_name}

pub loop-i-init : goal.loop-i-init
loop-i-init c = record { whole = λ q. refl; can = c.requires }

pub raise_quota-requires : goal.raise_quota-requires
raise_quota-requires c = can_rise (λ name. name) raised_quota (λ quota. quota.release) (λ quota. refl) c.loop-i.table c.loop-i.table c.index-released-i.result
    _ _ _ (from_here c.args.released.now c.loop-i.i c.index-released-i.result c.loop-i-test.true c.index-released-i.is) c.loop-i.invariant

pub loop-i-preserved : goal.loop-i-preserved
loop-i-preserved c =
    let name = c.index-released-i.result in
    let rest = drop (c.loop-i.i + 1) c.args.released.now in
    let is = from_here c.args.released.now c.loop-i.i name c.loop-i-test.true c.index-released-i.is in
    let more : has_name rest name ≡ c.has_name.result =
    ap (λ names. has_name names name) (sym (rest_is c.args.released.now (c.loop-i.i + 1))) ∙ sym c.has_name.ensures in
    elim c.if-not-has_name.branch [
      | then-not-has_name w ↦ risen (λ name. name) raised_quota (λ quota. quota.release) (λ quota. refl) c.loop-i.table c.if-not-has_name.table name _ _ _ is
          c.loop-i.invariant (more ∙ w.if-not-has_name.true)
          (subst (λ m. ChangesRow (λ a b. b ≡ raised_quota true a) name c.loop-i.table m) (sym w.table-is) w.raise_quota.ensures)
      | else-not-has_name w ↦ passed (λ name. name) raised_quota (λ quota. quota.release) (λ quota. refl) c.loop-i.table c.if-not-has_name.table name _ _ _ is
          c.loop-i.invariant (more ∙ w.if-not-has_name.false) w.table-is
    ]

pub returns : goal.returns
returns c = quotas_are c.args.released.now c.args.table.now c.loop-i.table
    (all_risen (λ name. name) raised_quota (λ quota. quota.release) (λ quota. refl) c.loop-i.table _ _
    (drop_of_length-le c.args.released.now c.loop-i-test.false) c.loop-i.invariant)

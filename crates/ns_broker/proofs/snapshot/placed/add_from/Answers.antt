use Rattle.std.proofs.Common.{◌≡◌, ◌∙◌, ◌-◌, ℕ, List, OnOk, Option, ap, ap₂, arith, drop, fold, length, length-drop, rules, sym, take}
use Rattle.std.proofs.Math.ListN.{drop_of_length-le}
use Rattle.std.proofs.Math.Seq.{take-length}
use Rattle.keyed.specs.Table.{rows}
use Rattle.ns_types.proofs.Results.{on_ok}
use Rattle.ns_types.specs.State.Names.{Name}
use Rattle.ns_broker.specs.Seen.{add_number}
use Rattle.ns_broker.proofs.Seen.{from_start}
use Rattle.ns_broker.proofs.snapshot.placed.add_from.Goals as goal

pub returns-then-start-slots-clause-added : goal.returns-then-start-slots-clause-added
returns-then-start-slots-clause-added c =
    let at_end = c.if-start-slots.true in
    let add = add_number c.args.last c.args.namespace.now c.args.allocations.now in
    sym (ap (fold add (rows c.args.seen.now)) (drop_of_length-le c.args.slots.now (omega (arith, at_end))))
    ∙ from_start c.args.last c.args.allocations.now c.args.namespace.now c.args.slots.now c.start_of-start.result (rows c.args.seen.now)
    c.start_of-start.ensures.none

pub returns-clause-added : goal.returns-clause-added
returns-clause-added c =
    let named : c.in_ok-namespace.namespace ≡ c.args.namespace.now = search rules in
    let start = c.start_of-start.result in
    let slots = c.args.slots.now in
    let whole = ap (λ n. take n (drop start slots)) (sym (length-drop start slots)) ∙ take-length (drop start slots) in
    let add = λ (namespace : Name) (rest : List (ℕ × Option Unit)).
    fold (add_number c.args.last namespace c.args.allocations.now) (rows c.args.seen.now) rest in
    let from = from_start c.args.last c.args.allocations.now c.args.namespace.now slots start (rows c.args.seen.now) c.start_of-start.ensures.none in
    let added : OnOk c.add_numbers.result (rows c.add_numbers.new.seen ≡ add c.in_ok-namespace.namespace (take (length slots - start) (drop start slots))) =
    c.add_numbers.ensures in
    on_ok c.add_numbers.result (λ is. is ∙ ap₂ add named whole ∙ from) added

use Rattle.std.proofs.Common.{◌≡◌, ap, sym, ◌∙◌, subst, Option, Some}
use Rattle.std.proofs.lemmas.Result.{on_ok_weaker}
use Rattle.std.specs.List.{cons_option}
use Rattle.std.specs.Option.{option_copied, option_map}
use Rattle.std.specs.Prelude.{[]}
use Rattle.ns_types.specs.Working.Commit.{Victim, victim_at}
use Rattle.ns_renewal.specs.Losses.{Lowers}
use Rattle.ns_renewal.proofs.Least.{lower_one}
use Rattle.ns_renewal.proofs.losing.lower.Goals as goal
use Rattle.ns_tables.specs.World.{world_of}

pub returns : goal.returns
returns c =
    let e = c.args.eviction.now in
    let v : Victim = (e.namespace, (e.number, c.in-Some.row.now)) in
    let is : victim_at (world_of c.args.tables.now) e ≡ Some v = sym c.allocation.ensures ∙ ap (λ o. option_map (λ a. (e.namespace, (e.number, a)))
    (option_copied o)) c.in-Some.is in
    on_ok_weaker c.lower.result (λ put. subst (λ (o : Option Victim). Lowers (cons_option o []) c.args.losses.now c.lower.new.self) (sym is)
    (lower_one c.args.losses.now c.lower.new.self v put)) c.lower.ensures

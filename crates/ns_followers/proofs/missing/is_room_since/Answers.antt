use Rattle.std.proofs.Common.{◌∙◌, ap, sym, nat_lt, false}
use Rattle.std.specs.Prelude.{◌&&◌, option_map}
use Rattle.std.specs.Option.{option_copied, option_map_or}
use Rattle.std.specs.List.{list_any}
use Rattle.ns_types.proofs.Classes.{by_class, one_class}
use Rattle.ns_types.specs.Settling.Releases.{can_use}
use Rattle.ns_types.specs.State.Names.{class_cmp}
use Rattle.ns_types.specs.State.Tables.{any_row}
use Rattle.ns_followers.proofs.Newer.{any_late}
use Rattle.ns_followers.specs.Missing.{is_new}
use Rattle.ns_tables.proofs.World.{pool_at}
use Rattle.ns_tables.specs.World.{pool_of}
use Rattle.ns_followers.proofs.missing.is_room_since.Goals as goal

pub returns-in-Some : goal.returns-in-Some
returns-in-Some c =
    let seen = c.args.seen in
    let e = c.args.evaluation.now in
    c.any_new.ensures
    ∙ (λ i. list_any (is_new (c.as_slice.ensures i) seen e) (c.as_slice.ensures i))
    ∙ any_late class_cmp by_class one_class (nat_lt seen) (can_use e) c.in-Some.pool.now.classes.items
    ∙ sym (ap (λ o. option_map_or (λ pool. any_row (λ class number. nat_lt seen number && can_use e class) pool.classes) o false)
    (pool_at c.args.tables.now e.pool ∙ ap (option_map pool_of) (sym c.get.ensures ∙ ap option_copied c.in-Some.is)))

pub returns-in-None : goal.returns-in-None
returns-in-None c =
    let seen = c.args.seen in
    let e = c.args.evaluation.now in
    sym (ap (λ o. option_map_or (λ pool. any_row (λ class number. nat_lt seen number && can_use e class) pool.classes) o false)
    (pool_at c.args.tables.now e.pool ∙ ap (option_map pool_of) (sym c.get.ensures ∙ ap option_copied c.in-None.is)))

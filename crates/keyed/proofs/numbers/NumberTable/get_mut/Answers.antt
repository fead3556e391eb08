use borrow.Follows.Closed.{read_of}
use Rattle.std.proofs.Common.{◌∙◌, Some, sym, ap}
use Rattle.std.specs.Option.{ghost_name_of}
use Rattle.std.specs.FinMap.{get-from_sorted, insert}
use Rattle.std.specs.FinMap.Entries.{is_sorted-put}
use Rattle.std.specs.Ordering.{nat_cmp}
use Rattle.ns_types.proofs.Named.{numbers}
use Rattle.keyed.specs.Table.{flat, row_at}
use Rattle.keyed.proofs.Tables.{from_sorted-put}
use Rattle.keyed.proofs.numbers.NumberTable.get_mut.Goals as goal

pub invariant_of-self-lent : goal.invariant_of-self-lent
invariant_of-self-lent g c r = ((λ w. is_sorted-put nat_cmp numbers c.args.key (Some w) c.self.inside.slots c.self.invariant), c.self.invariant)

pub returns : goal.returns
returns g c =
    let written = λ (w : g.row.V.Denot). from_sorted-put numbers c.args.key (Some w) c.self.inside.slots c.self.invariant ∙
    ap (λ m. insert m c.args.key (Some w)) c.self.view_is in (
      λ t. read_of (ghost_name_of c.get_mut.result) (λ (w : g.row.V.Denot). written w t) (c.self.view_is t),
      record {
        writes_back = tt;
        value = c.get_mut.ensures.value ∙ ap flat (sym (get-from_sorted nat_cmp c.self.inside.slots c.args.key c.self.invariant)) ∙
            ap (λ m. row_at m c.args.key) c.self.view_is;
      },
    )

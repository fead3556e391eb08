use Rattle.std.proofs.Common.{refl, ap, ◌∙◌, ◌≡◌, ◌++◌, ◌∷◌, [], not, arith, rules}
use Rattle.std.proofs.lemmas.Fn.{filter_same}
use Rattle.std.specs.FinMap.{from_entries, insert}
use Rattle.ns_types.specs.State.Names.{class_cmp, same_class}
use Rattle.ns_settlement.proofs.Classes.{class_put, others}
use Rattle.ns_tables.specs.World.{pool_of}
use Rattle.ns_settlement.proofs.commit.pools.put_class.Goals as goal

pub returns : goal.returns
returns c =
    let class = c.args.class in
    let pool = c.args.pool.now in
    let left : c.retain.new.self.items ≡ others class pool.classes.items =
    filter_same _ (λ entry. not (same_class class entry.0)) _ (λ x b f h. search rules) _ _ c.retain.ensures.items in
    let put : from_entries {R = class_cmp} c.push.new.self.items ≡ insert (from_entries pool.classes.items) class pool.release =
    ap (from_entries {R = class_cmp}) (c.push.ensures.items ∙ ap (λ es. es ++ (class, pool.release) ∷ []) left) ∙
    class_put class pool.release pool.classes.items in
    let kept = c.retain.ensures.room in
    let used = c.push.ensures.room in
    record { pool = λ i. record (pool_of pool) { classes = put i }; nodes = refl; room = omega arith }

use Rattle.std.specs.Prelude.{◌≡◌, Bool, Option, Some, None, option_map}
use Rattle.std.proofs.Common.{refl, sym, ◌∙◌}
use Rattle.std.specs.FinMap.{get}
use Rattle.std.specs.Option.{option_map_or}
use Rattle.ns_types.specs.Access.Sharing.{permits}
use Rattle.ns_tables.specs.World.{world_of}
use Rattle.ns_admin.proofs.confinement.permits.Goals as goal

mapped : {A B : Type 0} (f : B → Bool) (g : A → B) (o : Option A) (b : Bool) → option_map_or f (option_map g o) b ≡ option_map_or (λ x. f (g x)) o b
mapped f g None b = refl
mapped f g (Some x) b = refl

pub returns : goal.returns
returns c = c.permits_in.ensures
    ∙ sym (mapped (λ namespace. permits namespace c.args.pool.now) (λ t. t.namespace) (get (world_of c.args.tables.now).tenants c.args.namespace.now) _)

use Rattle.std.specs.Prelude.{◌≡◌, ℕ, ◌+◌, ◌-◌, ◌^◌, ◌<◌, ◌≤◌, nat_le, nat_lt, false, option_map}
use Rattle.std.proofs.Common.{arith, inl, inr, sym, ap, ◌∙◌}
use Rattle.std.proofs.lemmas.Bool.Decides.{leb_tells}
use Rattle.std.specs.Option.{option_copied, option_map_or}
use Rattle.ns_types.specs.Steps.{greatest}
use Rattle.ns_broker.proofs.nacking.is_last_index.Goals as goal
use Rattle.ns_tables.proofs.World.{tenant_at}
use Rattle.ns_tables.specs.World.{tenant_of}

-- the last number is the greatest
last_index : (n : ℕ) → nat_le (2 ^ 64 - 1) n ≡ nat_lt greatest (n + 1)
last_index n = elim (leb_tells greatest n) [
  | inl is ↦ elim (leb_tells (2 ^ 64) (n + 1)) [
    | inl more ↦ is.0 ∙ sym more.0
    | inr less ↦ let a : greatest ≤ n = is.1 in let b : n + 1 < 2 ^ 64 = less.1 in
        absurd (omega arith)
  ]
  | inr not ↦ elim (leb_tells (2 ^ 64) (n + 1)) [
    | inl more ↦ let a : n < greatest = not.1 in let b : 2 ^ 64 ≤ n + 1 = more.1 in absurd (omega arith)
    | inr less ↦ not.0 ∙ sym less.0
  ]
]

pub returns-in-Some : goal.returns-in-Some
returns-in-Some c = last_index c.in-Some.tenant.now.index
    ∙ sym (ap (λ o. option_map_or (λ t. nat_lt greatest (t.index + 1)) o false)
    (tenant_at c.args.tables.now c.args.namespace.now ∙ ap (option_map tenant_of) (sym c.get.ensures ∙ ap option_copied c.in-Some.is)))

pub returns-in-None : goal.returns-in-None
returns-in-None c = sym (ap (λ o. option_map_or (λ t. nat_lt greatest (t.index + 1)) o false)
    (tenant_at c.args.tables.now c.args.namespace.now ∙ ap (option_map tenant_of) (sym c.get.ensures ∙ ap option_copied c.in-None.is)))

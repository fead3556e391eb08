-- Reading an id gives the number that the text stands for.
use Rattle.std.proofs.Common.{◌≡◌, ℕ, ◌+◌, ◌*◌, ◌/◌, ◌%◌, ◌^◌, ◌<◌, List, Option, Some, None, true, false, cond, eqb, refl, sym, ap, subst, ◌∙◌, arith}
use Rattle.std.specs.Prelude.{IfSome, IfNone, option_and_then, Err}
use Rattle.std.proofs.lemmas.Bool.{eqb-true}
use Rattle.std.proofs.lemmas.Bool.Decides.{nat_tests}
use Rattle.ns_types.specs.declared.id.IdKind.{IdKind}
use Rattle.ns_types.specs.State.Id.{kind_number, id_number, uuid_number}
use Rattle.serde_json.specs.Data.{Data}
use Rattle.serde_json.specs.Find.{as_str}
use Rattle.ns_types.specs.declared.refusal.Member.{Member}
use Rattle.ns_types.specs.declared.refusal.Refusal.TheVariants.{BadField}
use Rattle.ns_json.specs.Ids.{id_of, number_in}
use Rattle.ns_json.specs.Reading.{an_id}

-- a number of that kind is read again
number_in-id : (kind : IdKind) (n : ℕ) → n < 2 ^ 64 → number_in kind (id_number kind n) ≡ Some n
number_in-id kind n h =
    let q : (kind_number kind * 2 ^ 64 + n) / 2 ^ 64 ≡ kind_number kind = omega arith in
    let r : (kind_number kind * 2 ^ 64 + n) % 2 ^ 64 ≡ n = omega arith in
    let e : eqb ((kind_number kind * 2 ^ 64 + n) / 2 ^ 64) (kind_number kind) ≡ true = grind (arith, nat_tests) in
    subst (λ v. cond v (Some ((kind_number kind * 2 ^ 64 + n) % 2 ^ 64)) None ≡ Some n) (sym e) (ap (λ x. let o : Option ℕ = Some x in o) r)

-- a number that is read is of that kind
id-number_in : (kind : IdKind) (u n : ℕ) → number_in kind u ≡ Some n → (n < 2 ^ 64) × (u ≡ id_number kind n)
id-number_in kind u n h =
    elim (eqb (u / 2 ^ 64) (kind_number kind)) as (λ v. eqb (u / 2 ^ 64) (kind_number kind) ≡ v → cond v (Some (u % 2 ^ 64)) None ≡ Some n
    → (n < 2 ^ 64) × (u ≡ id_number kind n)) [
      | true ↦ λ e g.
          let d : u / 2 ^ 64 ≡ kind_number kind = eqb-true (u / 2 ^ 64) (kind_number kind) e in
          let r : u % 2 ^ 64 ≡ n = cc in
          (omega arith, omega arith)
      | false ↦ λ e g. let bad : ⊥ = cc in absurd bad
    ] refl h

none_read : (kind : IdKind) (u : ℕ) (o : Option ℕ) → number_in kind u ≡ o → ((n : ℕ) → n < 2 ^ 64 → Some u ≡ Some (id_number kind n) → ⊥) → None ≡ o
none_read kind u None e none = refl
none_read kind u (Some n) e none =
    let p = id-number_in kind u n e in
    absurd (none n p.0 (ap (λ x. let o : Option ℕ = Some x in o) p.1))

by : (kind : IdKind) (read : Option ℕ) (uuid : Option ℕ)
    → IfSome read (λ n. uuid ≡ Some (id_number kind n)) → IfSome read (λ n. n < 2 ^ 64)
    → IfNone read ((n : ℕ) → n < 2 ^ 64 → uuid ≡ Some (id_number kind n) → ⊥)
    → read ≡ option_and_then (number_in kind) uuid
by kind (Some n) uuid found small none = sym (ap (option_and_then (number_in kind)) found ∙ number_in-id kind n small)
by kind None None found small none = refl
by kind None (Some u) found small none = none_read kind u (number_in kind u) refl none

pub id_of-read : (kind : IdKind) (text : List ℕ) (read : Option ℕ)
    → IfSome read (λ n. uuid_number text ≡ Some (id_number kind n)) → IfSome read (λ n. n < 2 ^ 64)
    → IfNone read ((n : ℕ) → n < 2 ^ 64 → uuid_number text ≡ Some (id_number kind n) → ⊥)
    → read ≡ id_of kind text
id_of-read kind text read found small none = by kind read (uuid_number text) found small none

pub no_id : (m : Member) (kind : IdKind) (d : Data) (text : List ℕ) → as_str d ≡ Some text → None ≡ id_of kind text → an_id m kind d ≡ Err (BadField m)
unfolding an_id
no_id m kind d text is none = rw (is, ← none) refl

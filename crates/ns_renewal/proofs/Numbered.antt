-- Numbers of allocations by namespace and job: what a write leaves.
use Rattle.std.specs.Prelude.{◌≡◌, ℕ, Bool, true, false, cond, ◌&&◌, Option, Some, None}
use Rattle.std.proofs.Common.{refl, sym, ap, ◌∙◌}
use Rattle.std.specs.FinMap.{empty, get, get-empty, get-insert, insert}
use Rattle.keyed.specs.Table.{emptied, flat, row_at, rows, with_slot}
use Rattle.keyed.proofs.Tables.{get-rows, row_put, rows-put_back, rows-with_slot}
use Rattle.ns_change.proofs.Opening.{row_emptied, row_with_slot}
use Rattle.ns_types.specs.State.Names.{ByName, Name, name_cmp, same_name}
use Rattle.ns_types.proofs.Lists.{cond_same}
use Rattle.ns_types.proofs.Named.{names, one_name}
use Rattle.ns_types.proofs.Tables.{tied}
use Rattle.ns_change.specs.Waiting.{lesser}
use Rattle.ns_renewal.specs.Losing.{job_number}
use Rattle.ns_renewal.specs.Losses.{Puts, number_at}
use Rattle.ns_renewal.specs.declared.losses.Losses.{Losses}

abbrev Numbers : Type 0
Numbers = ByName (Option ℕ)

module _ {X : Type 0} where
  pub row_nowhere : (k : Name) → row_at (empty {X = Option X} {R = name_cmp}) k ≡ None
  row_nowhere k = ap flat (get-empty name_cmp k)

-- ---- one namespace

pub job_put : (old made new : Numbers) (job : Name) (n : ℕ) → made ≡ with_slot old job → new ≡ insert made job (Some n) → (id : Name) →
    row_at new id ≡ cond (same_name id job) (Some n) (row_at old id)
job_put old made new job n e f id = sym (get-rows names new id) ∙ ap (λ m. get m id) (row_put names one_name old made new job n e f)
    ∙ get-insert names (rows old) job n id ∙ ap (cond (same_name id job) (Some n)) (get-rows names old id)

pub job_taken : (old new : Numbers) (job : Name) → new ≡ emptied old job → (id : Name) →
    row_at new id ≡ cond (same_name id job) None (row_at old id)
job_taken old new job e id = ap (λ m. row_at m id) e ∙ row_emptied names one_name old job id

-- ---- all of them

module _ (old new : Losses) (ns job : Name) where
  -- a table is put for the namespace
  pub puts : (jobs : Numbers) (o : Option ℕ) → rows new.jobs ≡ insert (rows old.jobs) ns jobs →
      ((id : Name) → row_at jobs id ≡ cond (same_name id job) o (number_at old ns id)) → Puts ns job o old new
  puts jobs o put its q id = ap (λ t. job_number t id) (sym (get-rows names new.jobs q) ∙ ap (λ m. get m q) put
      ∙ get-insert names (rows old.jobs) ns jobs q) ∙ by (same_name q ns) refl
    where
      by : (b : Bool) → same_name q ns ≡ b → job_number (cond b (Some jobs) (get (rows old.jobs) q)) id
          ≡ cond (same_name q ns && same_name id job) o (number_at old q id)
      by true e = its id ∙ ap (λ n. cond (same_name id job) o (number_at old n id)) (sym (tied one_name q ns e))
          ∙ ap (λ b. cond (b && same_name id job) o (number_at old q id)) (sym e)
      by false e = ap (λ t. job_number t id) (get-rows names old.jobs q)
          ∙ ap (λ b. cond (b && same_name id job) o (number_at old q id)) (sym e)

  module _ (made taken : ByName (Option Numbers)) (made_is : made ≡ with_slot old.jobs ns) (taken_is : taken ≡ emptied made ns) where
    pub lowered : (jobs : Numbers) (n : ℕ) → new.jobs ≡ insert taken ns (Some jobs) → ((id : Name) → row_at jobs id
        ≡ cond (same_name id job) (lesser (job_number (row_at made ns) job) (Some n)) (job_number (row_at made ns) id)) →
        Puts ns job (lesser (number_at old ns job) (Some n)) old new
    lowered jobs n put its = puts jobs (lesser (number_at old ns job) (Some n))
        (ap rows put ∙ ap (λ m. rows (insert m ns (Some jobs))) taken_is ∙ rows-put_back names one_name made ns jobs
        ∙ ap (λ m. insert (rows m) ns jobs) made_is ∙ ap (λ m. insert m ns jobs) (rows-with_slot names one_name old.jobs ns))
        (λ id. its id ∙ ap (λ t. cond (same_name id job) (lesser (job_number t job) (Some n)) (job_number t id))
        (ap (λ m. row_at m ns) made_is ∙ row_with_slot names one_name old.jobs ns ns))

  module _ (taken : ByName (Option Numbers)) (taken_is : taken ≡ emptied old.jobs ns) where
    -- the namespace has a table
    pub number_gone : (jobs left : Numbers) → row_at old.jobs ns ≡ Some jobs → left ≡ emptied jobs job → new.jobs ≡ insert taken ns (Some left) →
        Puts ns job None old new
    number_gone jobs left is left_is put = puts left None
        (ap rows put ∙ ap (λ m. rows (insert m ns (Some left))) taken_is ∙ rows-put_back names one_name old.jobs ns left)
        (λ id. job_taken jobs left job left_is id ∙ ap (λ t. cond (same_name id job) None (job_number t id)) (sym is))

    -- it has none
    pub no_number : row_at old.jobs ns ≡ None → new.jobs ≡ taken → Puts ns job None old new
    no_number none same q id = ap (λ t. job_number t id) (ap (λ m. row_at m q) (same ∙ taken_is) ∙ row_emptied names one_name old.jobs ns q)
        ∙ by (same_name q ns) refl
      where
        by : (b : Bool) → same_name q ns ≡ b → job_number (cond b None (row_at old.jobs q)) id
            ≡ cond (same_name q ns && same_name id job) None (number_at old q id)
        by true e = sym (ap (cond (same_name q ns && same_name id job) None) (ap (λ n. number_at old n id) (tied one_name q ns e)
            ∙ ap (λ t. job_number t id) none) ∙ cond_same (same_name q ns && same_name id job) None)
        by false e = ap (λ b. cond (b && same_name id job) None (number_at old q id)) (sym e)

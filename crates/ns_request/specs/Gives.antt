-- How the result of a call that reads a request follows its definition.
use Rattle.std.specs.Prelude.{◌≡◌, Result, Ok, Err}
use Rattle.ns_types.specs.declared.refusal.Refusal.{Refusal}
use Rattle.ns_types.specs.declared.refusal.Refusal.TheVariants.{Memory}

-- the definition gives this refusal, unless the refusal is `Memory`
abbrev pub Refuses : {Y : Type 0} → Refusal → Result Y Refusal → Type 0
Refuses Memory read = Unit {0}
Refuses refusal read = read ≡ Err refusal

-- the value that was returned, through `view`, is the one that the definition gives, and so is the refusal
abbrev pub Gives : {X Y : Type 0} → (X → Y) → Result X Refusal → Result Y Refusal → Type 0
Gives view (Ok x) read = read ≡ Ok (view x)
Gives view (Err refusal) read = Refuses refusal read

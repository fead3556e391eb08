-- What holds of an answer, where it is one or is refused.
use Rattle.std.specs.Prelude.{Result, Ok, Err, IfOk, OnErr, OnOk}

pub if_ok : {A E : Type 0} (r : Result A E) (P Q : A → Type 0) → ((x : A) → P x → Q x) → IfOk r P → IfOk r Q
if_ok (Ok x) P Q f h = f x h
if_ok (Err e) P Q f h = h

pub on_ok : {A E P Q : Type 0} (r : Result A E) → (P → Q) → OnOk r P → OnOk r Q
on_ok (Ok x) f h = f h
on_ok (Err e) f h = h

-- what holds holds of each refusal
pub on_error : {A E P : Type 0} (r : Result A E) → P → OnErr r P
on_error (Ok x) h = tt
on_error (Err e) h = h

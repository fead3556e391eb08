-- The head of a response, part by part.
use Rattle.std.proofs.Common.{◌≡◌, ℕ, List, ◌++◌, refl, ap, ◌∙◌, append_assoc, codes}
use Rattle.std.specs.Fmt.{digits}
use Rattle.ns_http.specs.Output.{response_front}

pub step : (o : List ℕ) {a b x : List ℕ} (c y : List ℕ) → a ≡ b ++ x → b ≡ o ++ c → x ≡ y → a ≡ o ++ (c ++ y)
step o {b} {x} c y e f h = e ∙ ap (λ l. l ++ x) f ∙ append_assoc o c x ∙ ap (λ l. o ++ (c ++ l)) h

-- the front of what succeeded
pub front_of_success : (status : ℕ) → status ≡ 200 → codes "HTTP/1.1 200 OK\r\nContent-Type: application/json" ≡ response_front status
unfolding digits
front_of_success status e = rw e refl

-- What segments that follow each other are together.
use Rattle.std.proofs.Common.{◌≡◌, ℕ, ◌+◌, ◌≤◌, List, [], ◌∷◌, ◌++◌, drop, flat_map, length, length-append, arith, sym, ap, ◌∙◌, inl, inr}
use Rattle.std.proofs.Math.Seq.{drop-append_seam}
use Rattle.ns_json.specs.Replies.{Entry}
use Rattle.ns_log.specs.Segments.{Follows, Given, IsGap, joined}

abbrev given_log : List Given → List Entry
given_log segments = flat_map (λ s. s.log) segments

follows_to : (from : ℕ) (segments : List Given) (to : ℕ) → Follows from segments to → to ≡ from + length (given_log segments)
follows_to from [] to f = let e : from ≡ to = f in omega arith
follows_to from (s ∷ segments) to f =
    let rest = follows_to (from + length s.log) segments to f.1 in
    let all = length-append s.log (given_log segments) in
    omega arith

-- the log after them begins behind their entries
pub rest_after : (segments : List Given) (start : ℕ) (log : List Entry) → Follows 0 segments start → drop start (joined segments log) ≡ log
rest_after segments start log f =
    let on : start ≡ length (given_log segments) = let e = follows_to 0 segments start f in omega arith in
    ap (λ n. drop n (joined segments log)) on ∙ drop-append_seam (given_log segments) log

pub given_within : (segments : List Given) (start : ℕ) (log : List Entry) → Follows 0 segments start → start ≤ length (joined segments log)
given_within segments start log f =
    let e = follows_to 0 segments start f in
    let all = length-append (given_log segments) log in
    omega arith

-- where they follow each other there is no gap
pub no_gap : (from : ℕ) (segments : List Given) (to place : ℕ) → Follows from segments to → IsGap from segments to place → ⊥
no_gap from [] to place f gap = gap.0 f
no_gap from (s ∷ segments) to place f (inl gap) = gap.0 f.0
no_gap from (s ∷ segments) to place f (inr gap) = no_gap (from + length s.log) segments to place f.1 gap.1

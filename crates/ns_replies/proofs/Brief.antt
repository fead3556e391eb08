-- Bodies that show no rows.
use Rattle.std.proofs.Common.{◌≡◌, ℕ, ◌<◌, ◌≤◌, List, [], ◌++◌, length, Option, Some, None, Ok, Err, false, refl, sym, ap, ◌∙◌, arith}
use Rattle.std.specs.Prelude.{IsSomeAnd}
use Rattle.std.specs.declared.alloc.AllocError.{AllocError}
use Rattle.json.specs.Print.{print}
use Rattle.json.specs.Written.{Written}
use Rattle.serde_json.specs.Written.{compact_text}
use Rattle.ns_types.specs.declared.reply.Content.{Content}
use Rattle.ns_types.proofs.Lists.{not_both}
use Rattle.ns_json.specs.Part.{Follows, tokens_of}
use Rattle.ns_json.specs.Replies.{body_of}
use Rattle.ns_replies.proofs.Written.{text_written}
use Rattle.ns_replies.specs.Bodies.{IsBrief, WritesBody, body_bytes, body_json}
use Rattle.ns_replies.proofs.Writing.{length-print_from-le}

pub some_then : {A B : Type 0} {P : A → Type 0} (o : Option A) → IsSomeAnd o P → ((x : A) → P x → B) → B
some_then None h f = absurd h
some_then (Some x) h f = f x h

pub some_map : {A : Type 0} {P Q : A → Type 0} (o : Option A) → IsSomeAnd o P → ((x : A) → P x → Q x) → IsSomeAnd o Q
some_map None h f = h
some_map (Some x) h f = f x h

pub body_is : (content : Content) → IsBrief content → body_of content ≡ compact_text (body_json content)
unfolding body_of
body_is (Content.Registered evaluation index job_index) h = refl
body_is (Content.Stopped evaluation index) h = refl
body_is Content.Written h = refl
body_is (Content.Took n) h = refl
body_is (Content.Snapped n) h = refl
body_is (Content.Queued n) h = refl
body_is (Content.Applied made dropped) h = refl
body_is (Content.Finished status follower) h = refl
body_is (Content.Nacked status) h = refl
body_is _ h = not_both h refl

-- the text of a body that was written first
pub text_of_body : (content : Content) (u : Unit {0}) (old new : Written) (items : List ℕ) → IsBrief content →
    WritesBody {E = AllocError} content (Ok u) old new → old.tokens ≡ [] → items ≡ print new.tokens → items ≡ body_of content
text_of_body content u old new items brief h none is =
    let written : Follows old new (tokens_of (body_json content)) = some_then (body_bytes content) h (λ n w. w.follows) in
    text_written old new (body_json content) items written none is ∙ sym (body_is content brief)

-- and has no more bytes than that
pub body_fits : (content : Content) (u : Unit {0}) (old new : Written) (items : List ℕ) → WritesBody {E = AllocError} content (Ok u) old new →
    old.tokens ≡ [] → items ≡ print new.tokens → IsSomeAnd (body_bytes content) (λ n. length items ≤ n)
body_fits content u old new items h none is =
    some_map (body_bytes content) h (λ n w.
    let all : new.tokens ≡ tokens_of (body_json content) = w.follows.tokens ∙ ap (λ ts. ts ++ tokens_of (body_json content)) none in
    omega (arith, ap length (is ∙ ap print all), length-print_from-le false (tokens_of (body_json content)), w.fits))

-- where it was not written, the room was less
pub no_room : (content : Content) (e : AllocError) (old new : Written) (capacity : ℕ) → old.spare ≡ capacity → WritesBody content (Err e) old new →
    IsSomeAnd (body_bytes content) (λ n. capacity < n)
no_room content e old new capacity is h = some_map (body_bytes content) h (λ n w. omega (arith, is, w.room))

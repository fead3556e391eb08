-- Texts that are written one behind the other.
use Rattle.std.specs.Prelude.{◌≡◌, ◌+◌, ◌<◌, ℕ, true, List, [], ◌∷◌, ◌++◌, Option, Some, None, Result, Ok, Err, IsErrAnd, drop, flat_map, get_or, length, take}
use Rattle.std.specs.Result.{result_err}
use Rattle.std.proofs.Common.{refl, sym, ap, subst, ◌∙◌, arith, inl, inr}
use Rattle.std.proofs.lemmas.List.Concat.{flat_map-append, flat_map-cons}
use Rattle.std.proofs.lemmas.List.{append-nil, append_assoc, drop_more, take-append-drop, take_more}
use Rattle.ns_types.specs.State.Names.{Name}
use Rattle.ns_log.specs.Segments.{Given, text_of, texts_of}
use Rattle.ns_http.specs.Counts.{HasGrown, IsWriteFault}
use Rattle.ns_http.specs.Output.{WritesAll, WritesPart}
use Rattle.ns_http.specs.declared.counting.Counted.{Counted}
use Rattle.ns_http.specs.declared.counting.Counts.{Counts}
use Rattle.ns_http.specs.declared.engine.ConnFault.{ConnFault}
use Rattle.ns_http.proofs.StreamLemmas.{Appends-none, Appends-then, WritesSome-front, WritesSome-then}
use Rattle.ns_workers.specs.Keeping.{TakesAll}
use Rattle.ns_listener.specs.Keeping.{IsTaken, WritesBy, WritesText}
use Rattle.ns_listener.specs.declared.keeper.Keeper.{Keeper}

pub grown_same : (a : Counts) → HasGrown a a
grown_same a = record { faults = omega arith; interruptions = omega arith }

pub grown_then : (a b c : Counts) → HasGrown a b → HasGrown b c → HasGrown a c
grown_then a b c x y = record {
  faults = omega (arith, x.faults, y.faults);
  interruptions = omega (arith, x.interruptions, y.interruptions);
}

fails_later : (a b c : Counts) → HasGrown a b → IsWriteFault b c → IsWriteFault a c
fails_later a b c g (inl (inl more)) = inl (inl (omega (arith, g.faults, more)))
fails_later a b c g (inl (inr most)) = inl (inr most)
fails_later a b c g (inr (inl more)) = inr (inl (omega (arith, g.interruptions, more)))
fails_later a b c g (inr (inr most)) = inr (inr most)

module _ {W : Type 0} (contents : W → Option (List ℕ)) where
  -- all of the first text, and then of the second what the fault says
  pub text_then : (fault : Option ConnFault) (u v w : Counted W) (a b : List ℕ) → HasGrown u.counts v.counts →
      WritesAll contents u v a → WritesText contents fault v w b → WritesText contents fault u w (a ++ b)
  text_then None u v w a b g x y = Appends-then (contents u.inner) (contents v.inner) (contents w.inner) a b x y
  text_then (Some ConnFault.Write) u v w a b g x y =
      (WritesSome-then (contents u.inner) (contents v.inner) (contents w.inner) a b x y.0, fails_later u.counts v.counts w.counts g y.1)
  text_then (Some ConnFault.Memory) u v w a b g x y =
      WritesSome-then (contents u.inner) (contents v.inner) (contents w.inner) a b x y
  text_then (Some ConnFault.Read) u v w a b g x y = absurd y

  -- of more than the first text, which the fault ended
  pub text_front : (fault : ConnFault) (u v : Counted W) (a b : List ℕ) → WritesText contents (Some fault) u v a →
      WritesText contents (Some fault) u v (a ++ b)
  text_front ConnFault.Write u v a b x = (WritesSome-front (contents u.inner) (contents v.inner) a b x.0, x.1)
  text_front ConnFault.Memory u v a b x = WritesSome-front (contents u.inner) (contents v.inner) a b x
  text_front ConnFault.Read u v a b x = absurd x

  pub no_text : (u : Counted W) (a : List ℕ) → WritesPart contents u u a
  no_text u a = ([], a, refl, Appends-none (contents u.inner))

  pub with_fault : {T : Type 0} (r : Result T ConnFault) (fault : ConnFault) → IsErrAnd r (λ f. f ≡ fault) → (u v : Counted W) (a : List ℕ) →
      WritesText contents (Some fault) u v a → WritesText contents (result_err r) u v a
  with_fault (Ok x) fault is u v a t = absurd is
  with_fault (Err f) fault is u v a t = subst (λ k. WritesText contents (Some k) u v a) (sym is) t

  pub not_read : (fault : Option ConnFault) (u v : Counted W) (a : List ℕ) → WritesText contents fault u v a → fault ≡ Some ConnFault.Read → ⊥
  not_read None u v a t e = cc
  not_read (Some ConnFault.Write) u v a t e = cc
  not_read (Some ConnFault.Memory) u v a t e = cc
  not_read (Some ConnFault.Read) u v a t e = t

  -- ---- text after text

  module _ {X : Type 0} (f : X → List ℕ) (xs : List X) (i : ℕ) (x : X) (within : i < length xs) (is : x ≡ get_or xs i x) where
    all_split : flat_map f xs ≡ flat_map f (take i xs) ++ (f x ++ flat_map f (drop (i + 1) xs))
    all_split = ap (flat_map f) (sym (take-append-drop i xs)) ∙ flat_map-append f (take i xs) (drop i xs)
        ∙ ap (λ rest. flat_map f (take i xs) ++ flat_map f rest) (drop_more xs i x within)
        ∙ ap (λ y. flat_map f (take i xs) ++ (f y ++ flat_map f (drop (i + 1) xs))) (sym is)

    more_split : flat_map f (take (i + 1) xs) ≡ flat_map f (take i xs) ++ f x
    more_split = ap (flat_map f) (take_more xs i x within) ∙ flat_map-append f (take i xs) (get_or xs i x ∷ [])
        ∙ ap (λ y. flat_map f (take i xs) ++ (f y ++ [])) (sym is) ∙ ap (λ t. flat_map f (take i xs) ++ t) (append-nil (f x))

    pub texts_more : (u v w : Counted W) → HasGrown u.counts v.counts → WritesAll contents u v (flat_map f (take i xs)) →
        WritesAll contents v w (f x) → WritesAll contents u w (flat_map f (take (i + 1) xs))
    texts_more u v w g front next = subst (λ t. WritesAll contents u w t) (sym more_split)
        (text_then None u v w (flat_map f (take i xs)) (f x) g front next)

    pub texts_end : (fault : ConnFault) (u v w : Counted W) → HasGrown u.counts v.counts →
        WritesAll contents u v (flat_map f (take i xs)) → WritesText contents (Some fault) v w (f x) →
        WritesText contents (Some fault) u w (flat_map f xs)
    texts_end fault u v w g front next = subst (λ t. WritesText contents (Some fault) u w t) (sym all_split)
        (text_then (Some fault) u v w (flat_map f (take i xs)) (f x ++ flat_map f (drop (i + 1) xs)) g front
        (text_front fault v w (f x) (flat_map f (drop (i + 1) xs)) next))

  -- ---- segment after segment

  pub by_then : (before mid after : Option ConnFault) (u v w : Counted W) (a b : List ℕ) → HasGrown u.counts v.counts →
      WritesBy contents before mid u v a → WritesBy contents mid after v w b → WritesBy contents before after u w (a ++ b)
  by_then None None after u v w a b g x y = text_then after u v w a b g x y
  by_then None (Some fault) after u v w a b g x y =
      subst (λ k. WritesText contents k u w (a ++ b)) (sym y.0)
      (subst (λ k. WritesText contents (Some fault) u k (a ++ b)) (sym y.1) (text_front fault u v a b x))
  by_then (Some fault) mid after u v w a b g x y = by mid x.0 y
    where
      by : (m : Option ConnFault) → m ≡ Some fault → WritesBy contents m after v w b → (after ≡ Some fault) × (w ≡ u)
      by None e z = let never : ⊥ = cc in absurd never
      by (Some f) e z = (z.0 ∙ e, z.1 ∙ x.1)

-- what became of a keeper by these segments, one after the other
pub record Took {W : Type 0} (contents : W → Option (List ℕ)) (segments : List Given) (k k' : Keeper W) : Type 0 where
  pub secret : k'.secret ≡ k.secret
  pub writes : WritesBy contents k.fault k'.fault k.writer k'.writer (texts_of k.secret segments)
  pub grows : HasGrown k.writer.counts k'.writer.counts
  pub kept : k'.is_whole ≡ true → (k.is_whole ≡ true) × (k'.segments.items ≡ k.segments.items ++ segments)

module _ {W : Type 0} (contents : W → Option (List ℕ)) where
  by_none : (fault : Option ConnFault) (u : Counted W) → WritesBy contents fault fault u u []
  by_none None u = Appends-none (contents u.inner)
  by_none (Some fault) u = (refl, refl)

  pub took : (segments : List Given) (k k' : Keeper W) → TakesAll (IsTaken contents) segments k k' → Took contents segments k k'
  took [] k k' same = subst (Took contents [] k) (sym same) (record {
    secret = refl;
    writes = by_none k.fault k.writer;
    grows = grown_same k.writer.counts;
    kept = λ whole. (whole, sym (append-nil k.segments.items));
  })
  took (segment ∷ segments) k k' all =
      let mid = all.0 in
      let first = all.1 in
      let rest = took segments mid k' all.2 in record {
        secret = rest.secret ∙ first.secret;
        writes = subst (λ t. WritesBy contents k.fault k'.fault k.writer k'.writer t)
            (ap (λ secret. text_of k.secret segment ++ texts_of secret segments) first.secret
            ∙ sym (flat_map-cons (text_of k.secret) segment segments))
            (by_then contents k.fault mid.fault k'.fault k.writer mid.writer k'.writer (text_of k.secret segment) (texts_of mid.secret segments)
            first.grows first.writes rest.writes);
        grows = grown_then k.writer.counts mid.writer.counts k'.writer.counts first.grows rest.grows;
        kept = λ whole.
            let then = rest.kept whole in
            let before = first.kept then.0 in
            (before.0, then.1 ∙ ap (λ s. s ++ segments) before.1 ∙ append_assoc k.segments.items (segment ∷ []) segments);
      }

  -- from a keeper that has written nothing yet
  pub closes : (secret : Name) (segments : List Given) (k k' : Keeper W) (writer : Counted W) → k.secret ≡ secret → k.writer ≡ writer →
      k.fault ≡ None → Took contents segments k k' → WritesText contents k'.fault writer k'.writer (texts_of secret segments)
  closes secret segments k k' writer same_secret same_writer sound t =
      let from : WritesText contents k'.fault k.writer k'.writer (texts_of k.secret segments) =
      subst (λ f. WritesBy contents f k'.fault k.writer k'.writer (texts_of k.secret segments)) sound t.writes in
      subst (λ s. WritesText contents k'.fault writer k'.writer (texts_of s segments)) same_secret
      (subst (λ w. WritesText contents k'.fault w k'.writer (texts_of k.secret segments)) same_writer from)

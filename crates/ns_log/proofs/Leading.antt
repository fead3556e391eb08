-- Segments that follow each other, one after the other.
use Rattle.std.proofs.Common.{◌≡◌, ◌≢◌, ℕ, suc, ◌+◌, ◌<◌, List, [], ◌∷◌, drop, get_or, length, refl, sym, subst, ap, ◌∙◌, inl, inr}
use Rattle.std.proofs.lemmas.List.{drop_more, drop_all}
use Rattle.ns_log.specs.Segments.{Follows, Given, IsGap}

-- the first i follow each other up to the place: so what is said of the others from there holds of all
pub record Leads (segments : List Given) (i place : ℕ) : Type 0 where
  pub follows : (to : ℕ) → Follows place (drop i segments) to → Follows 0 segments to
  pub gap : (to p : ℕ) → IsGap place (drop i segments) to p → IsGap 0 segments to p

pub leads_none : (segments : List Given) → Leads segments 0 0
leads_none segments = record { follows = λ to f. f; gap = λ to p g. g }

-- the next one
pub leads_more : (segments : List Given) (i place place' : ℕ) (s : Given) → drop i segments ≡ s ∷ drop (i + 1) segments → s.start ≡ place →
    place' ≡ s.start + length s.log → Leads segments i place → Leads segments (i + 1) place'
leads_more segments i place place' s rest starts ends l =
    let at : place' ≡ place + length s.log = ends ∙ ap (λ n. n + length s.log) starts in
    record {
      follows = λ to f. l.follows to (subst (λ (xs : List Given). Follows place xs to) (sym rest)
          (starts, subst (λ n. Follows n (drop (i + 1) segments) to) at f));
      gap = λ to p g. l.gap to p (subst (λ (xs : List Given). IsGap place xs to p) (sym rest)
          (inr (starts, subst (λ n. IsGap n (drop (i + 1) segments) to p) at g)));
    }

pub gap_here : (segments : List Given) (i place to : ℕ) (s : Given) → drop i segments ≡ s ∷ drop (i + 1) segments → s.start ≢ place →
    Leads segments i place → IsGap 0 segments to place
gap_here segments i place to s rest other l =
    l.gap to place (subst (λ (xs : List Given). IsGap place xs to place) (sym rest) (inl (other, refl)))

pub follow_to : (segments : List Given) (i place to : ℕ) → drop i segments ≡ [] → place ≡ to → Leads segments i place → Follows 0 segments to
follow_to segments i place to rest is l = l.follows to (subst (λ (xs : List Given). Follows place xs to) (sym rest) is)

pub gap_at_end : (segments : List Given) (i place to : ℕ) → drop i segments ≡ [] → place ≢ to → Leads segments i place → IsGap 0 segments to place
gap_at_end segments i place to rest other l =
    l.gap to place (subst (λ (xs : List Given). IsGap place xs to place) (sym rest) (other, refl))

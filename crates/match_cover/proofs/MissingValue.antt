-- Some value of the missing pattern is matched by no clause.
use Rattle.std.proofs.Common.{ℕ, List, [], ◌∷◌, refl}
use Rattle.fip_language.specs.Values.{Value}
use Rattle.fip_language.specs.Table.{Table, HasType}
use Rattle.match_knowledge.specs.ValueHeads.{IsTidy}
use Rattle.match_knowledge.specs.Patterns.{Pattern, Any, Test, Patterns, NoPatterns, MorePatterns, IsPattern, ArePatterns}
use Rattle.match_knowledge.specs.Known.{Known, Open, Is, Knowns, MoreKnowns}
use Rattle.match_knowledge.specs.Left.{Left, Missed, Reached, known_of, all_known}
use Rattle.match_knowledge.proofs.VerdictFacts.{fit}
use Rattle.match_knowledge.proofs.Matches.{known_alive, self}
use Rattle.match_cover.specs.Missing.{fields_at, heads, tails, open_fields, IsMissing, AreMissing, IsMissingOf}

mutual
  pub is_left : (tb : Table) (root : ℕ) (rows : List Pattern) (at : Known → Known) (t : ℕ) (here : List Pattern) (m : Pattern) → IsMissing tb root rows at t here m → Left tb root rows (at (Open [])) → Left tb root rows (at (known_of m))
  is_left tb root rows at t here Any h u = u
  is_left tb root rows at t here (Test v g ms) h u = are_left tb root rows (λ ks. at (Is g ks)) h.4 (fields_at g here) ms h.7 h.6

  pub are_left : (tb : Table) (root : ℕ) (rows : List Pattern) (at : Knowns → Known) (fs : List ℕ) (here : List Patterns) (ms : Patterns) → AreMissing tb root rows at fs here ms → Left tb root rows (at (open_fields fs)) → Left tb root rows (at (all_known ms))
  are_left tb root rows at [] here NoPatterns h u = u
  are_left tb root rows at [] here (MorePatterns m ms) h u = absurd h
  are_left tb root rows at (f ∷ fs) here NoPatterns h u = absurd h
  are_left tb root rows at (f ∷ fs) here (MorePatterns m ms) h u =
      are_left tb root rows (λ ks. at (MoreKnowns (known_of m) ks)) fs (tails here) ms h.1 (is_left tb root rows (λ k. at (MoreKnowns k (open_fields fs))) f (heads here) m h.0 u)

mutual
  pub is_pattern : (tb : Table) (root : ℕ) (rows : List Pattern) (at : Known → Known) (t : ℕ) (here : List Pattern) (m : Pattern) → IsMissing tb root rows at t here m → IsPattern tb t m
  is_pattern tb root rows at t here Any h = tt
  is_pattern tb root rows at t here (Test v g ms) h = (h.1, h.4, h.5, are_patterns tb root rows (λ ks. at (Is g ks)) h.4 (fields_at g here) ms h.7)

  pub are_patterns : (tb : Table) (root : ℕ) (rows : List Pattern) (at : Knowns → Known) (fs : List ℕ) (here : List Patterns) (ms : Patterns) → AreMissing tb root rows at fs here ms → ArePatterns tb fs ms
  are_patterns tb root rows at [] here NoPatterns h = tt
  are_patterns tb root rows at [] here (MorePatterns m ms) h = absurd h
  are_patterns tb root rows at (f ∷ fs) here NoPatterns h = absurd h
  are_patterns tb root rows at (f ∷ fs) here (MorePatterns m ms) h = (is_pattern tb root rows (λ k. at (MoreKnowns k (open_fields fs))) f (heads here) m h.0, are_patterns tb root rows (λ ks. at (MoreKnowns (known_of m) ks)) fs (tails here) ms h.1)

-- a value of the missing pattern that no clause matches
pub missing_value : (tb : Table) (t : ℕ) (rows : List Pattern) (m : Pattern) → IsTidy tb → ((v : Value) × HasType tb t v) → Missed tb t rows → IsMissingOf tb t rows m → Reached tb t rows m
missing_value tb t rows m y v d h =
    let q = is_pattern tb t rows (λ k. k) t rows m h in
    let u = is_left tb t rows (λ k. k) t rows m h (d.0, d.1, refl, d.2) in
    (u.0, u.1, fit tb 0 t m (known_of m) u.0 q (known_alive tb 0 t m y v q) u.1 (self m) u.2, u.3)

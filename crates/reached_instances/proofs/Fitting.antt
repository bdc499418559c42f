-- Functions that are passed, against the signatures that are asked of them.
use Rattle.std.proofs.Common.{◌≡◌, ℕ, suc, ◌+◌, ◌<◌, ◌⊎◌, inl, inr, Bool, true, false, ◌&&◌, List, [], ◌∷◌, length, map, get_or, Option, refl, ap, sym, subst, ◌∙◌, nat_eq}
use Rattle.std.specs.Prelude.{bytes_eq}
use Rattle.fip_base.specs.fip_language.Core.{Written, Result, Static, SignatureParameter, Parameter}
use Rattle.closed_types.specs.declared.closed.Head.TheVariants as H
use Rattle.closed_types.specs.declared.closed.Passing.{Passing}
use Rattle.reached_instances.specs.declared.source.Here.{Here}
use Rattle.reached_instances.specs.declared.source.Source as D
use Rattle.closed_types.specs.Closed.{Closed, Closeds, Int, Applied, same_closed}
use Rattle.closed_types.specs.Source.{Source, Instance}
use Rattle.reached_instances.specs.SourceView.{source, instance, IsAsked, IsReady}
use Rattle.closed_types.specs.SharedTrees.{AreShared, Branch, Kept, IsNoted, Grows, AreWithin, all_at, tree_at, trees}
use Rattle.reached_instances.specs.KnownFits.{AreKnown, IsKnown, IsRight, fits_there, fits_parameter}
use Rattle.closed_types.specs.Uses.{declared_type, fits, same_parameters, same_results}
use Rattle.closed_types.specs.UsesView.{AsksFor, is_same_parameter}
use Rattle.std.proofs.lemmas.Bool.{eqb-true, eqb-false}
use Rattle.closed_types.specs.Numbering.{Differ}
use Rattle.closed_types.proofs.ClosedTrees.{closed_exact}
use Rattle.closed_types.proofs.SharedTrees.{same_place}
use Rattle.closed_types.proofs.Growing.{more_within, within_more, trees_kept, as_trees}
use Rattle.closed_types.proofs.Using.{tree_kept}
use Rattle.std.proofs.lemmas.Bool.{ne_eqb}

-- ---- what is known stays known

pub known_kept : (s : Source) (k l : Kept) → Grows k.branches l.branches → l.fits ≡ k.fits → AreKnown s k → AreKnown s l
known_kept s k l g e h p b n =
    let old = h p b (subst (IsNoted p b) e n) in
    record {
      there = more_within k.branches l.branches p.there g old.there;
      passed = more_within k.branches l.branches p.passed g old.passed;
      fits =
          ap (λ (c : Closed). fits_there s c p.parameter (tree_at (trees l.branches) p.passed)) (tree_kept k.branches l.branches p.there g old.there)
          ∙ ap (fits_there s (tree_at (trees k.branches) p.there) p.parameter) (tree_kept k.branches l.branches p.passed g old.passed)
          ∙ old.fits;
    }

pub right_kept : (s : D.Source) (k l : Kept) → Grows k.branches l.branches → l.fits ≡ k.fits → IsRight s k → IsRight s l
right_kept s k l g e r = record { looked_up = r.looked_up; known = known_kept (source s) k l g e r.known }

pub ready_if_right : (s : D.Source) (k : Kept) (here : Here) → IsRight s k → AreWithin k.branches here.given.items → IsReady s k.branches here
ready_if_right s k here r w = record { looked_up = r.looked_up; within = w }

-- what fits a parameter of a function that stands there
pub asked_fits : (s : Source) (bs : List Branch) (p : Passing) (there : Here) (ps : List SignatureParameter) (r : Result) → IsAsked bs p.there there → AsksFor s there.function p.parameter ps r → fits_there s (tree_at (trees bs) p.there) p.parameter (tree_at (trees bs) p.passed) ≡ fits s (instance (trees bs) there) ps r (tree_at (trees bs) p.passed)
asked_fits s bs p there ps r a k =
    ap (λ (c : Closed). fits_there s c p.parameter (tree_at (trees bs) p.passed)) a.tree
    ∙ ap (λ (x : Option Static). fits_parameter s (instance (trees bs) there) x (tree_at (trees bs) p.passed)) k.2

pub known_right : (s : Source) (k : Kept) (p : Passing) (b : Bool) (there : Here) (ps : List SignatureParameter) (r : Result) → AreKnown s k → IsNoted p b k.fits → IsAsked k.branches p.there there → AsksFor s there.function p.parameter ps r → b ≡ fits s (instance (trees k.branches) there) ps r (tree_at (trees k.branches) p.passed)
known_right s k p b there ps r known n a asks = sym (known p b n).fits ∙ asked_fits s k.branches p there ps r a asks

pub asked_kept : (bs cs : List Branch) (place : ℕ) (there : Here) → Grows bs cs → IsAsked bs place there → IsAsked cs place there
asked_kept bs cs place there g a = record {
  stands = more_within bs cs place g a.stands;
  tree = tree_kept bs cs place g a.stands ∙ a.tree ∙ ap (Applied (H.Function there.function)) (sym (trees_kept bs cs there.given.items g a.within));
  within = within_more bs cs there.given.items g a.within;
}

pub same_instance : (bs cs : List Branch) (there : Here) → Grows bs cs → AreWithin bs there.given.items → instance (trees cs) there ≡ instance (trees bs) there
same_instance bs cs there g w = ap (λ (x : Closeds). record { function = there.function; given = x }) (trees_kept bs cs there.given.items g w)

-- one is known more
pub known_more : (s : Source) (k l m : Kept) (p : Passing) (b : Bool) (there : Here) (ps : List SignatureParameter) (r : Result) → Grows k.branches l.branches → l.fits ≡ k.fits → m.branches ≡ l.branches → ((q : Passing) (c : Bool) → IsNoted q c m.fits → ((q ≡ p) × (c ≡ b)) ⊎ IsNoted q c l.fits) → AreKnown s k → IsAsked k.branches p.there there → p.passed < length k.branches + 1 → AsksFor s there.function p.parameter ps r → b ≡ fits s (instance (trees k.branches) there) ps r (tree_at (trees k.branches) p.passed) → AreKnown s m
known_more s k l m p b there ps r g e f noted known a w asks fit q c n =
    subst (λ (bs : List Branch). IsKnown s bs q c) (sym f)
    (elim (noted q c n) as (λ _. IsKnown s l.branches q c) [
      | inl h ↦ subst (λ (y : Passing). IsKnown s l.branches y c) (sym h.0) (subst (IsKnown s l.branches p) (sym h.1) here)
      | inr h ↦ known_kept s k l g e known q c h
    ])
  where
    here : IsKnown s l.branches p b
    here =
        let asked = asked_kept k.branches l.branches p.there there g a in
        record {
          there = asked.stands;
          passed = more_within k.branches l.branches p.passed g w;
          fits =
              asked_fits s l.branches p there ps r asked asks
              ∙ ap (λ (j : Instance). fits s j ps r (tree_at (trees l.branches) p.passed)) (same_instance k.branches l.branches there g a.within)
              ∙ ap (fits s (instance (trees k.branches) there) ps r) (tree_kept k.branches l.branches p.passed g w)
              ∙ sym fit;
        }

-- ---- the same types

self_same : (c : Closed) → same_closed c c ≡ true
self_same c = by (same_closed c c) refl
  where
    by : (b : Bool) → same_closed c c ≡ b → same_closed c c ≡ true
    by true e = e
    by false e = absurd (closed_exact.no c c e refl)

pub same_place_by : (b : Bool) (ts : List Closed) (i j : ℕ) → Differ ts → i < length ts → j < length ts → nat_eq i j ≡ b → same_closed (get_or ts i Int) (get_or ts j Int) ≡ b
same_place_by true ts i j d h g e = subst (λ k. same_closed (get_or ts i Int) (get_or ts k Int) ≡ true) (eqb-true i j e) (self_same (get_or ts i Int))
same_place_by false ts i j d h g e = by (same_closed (get_or ts i Int) (get_or ts j Int)) refl
  where
    by : (b : Bool) → same_closed (get_or ts i Int) (get_or ts j Int) ≡ b → same_closed (get_or ts i Int) (get_or ts j Int) ≡ false
    by true f = absurd (eqb-false i j e (same_place ts i j d h g (closed_exact.yes _ _ f)))
    by false f = f

-- places are compared as the trees at them are
pub same_at : (bs : List Branch) (i j : ℕ) → AreShared bs → i < length bs + 1 → j < length bs + 1 → nat_eq i j ≡ same_closed (tree_at (trees bs) i) (tree_at (trees bs) j)
same_at bs i j s h g =
    let w = as_trees bs (i ∷ j ∷ []) (h, (g, tt)) in
    sym (same_place_by (nat_eq i j) (trees bs) i j s.differ w.0 w.1.0 refl)

abbrev pub all_same : List Closed → List Closed → Bool
all_same [] [] = true
all_same [] (d ∷ ds) = false
all_same (c ∷ cs) [] = false
all_same (c ∷ cs) (d ∷ ds) = same_closed c d && all_same cs ds

pub all_same_at : (bs : List Branch) (is js : List ℕ) → AreShared bs → AreWithin bs is → AreWithin bs js → bytes_eq is js ≡ all_same (all_at (trees bs) is) (all_at (trees bs) js)
all_same_at bs [] [] s w v = refl
all_same_at bs [] (j ∷ js) s w v = refl
all_same_at bs (i ∷ is) [] s w v = refl
all_same_at bs (i ∷ is) (j ∷ js) s w v =
    ap (λ b. b && bytes_eq is js) (same_at bs i j s w.0 v.0) ∙ ap (λ b. same_closed (tree_at (trees bs) i) (tree_at (trees bs) j) && b) (all_same_at bs is js s w.1 v.1)

pub same_results_all : (s : Source) (there here : Instance) (ps qs : List Written) → all_same (map (declared_type s there) ps) (map (declared_type s here) qs) ≡ same_results s there here ps qs
same_results_all s there here [] [] = refl
same_results_all s there here [] (q ∷ qs) = refl
same_results_all s there here (p ∷ ps) [] = refl
same_results_all s there here (p ∷ ps) (q ∷ qs) = ap (λ b. same_closed (declared_type s there p) (declared_type s here q) && b) (same_results_all s there here ps qs)

-- ---- parameters, one after another

pub unlike_parameters : (s : Source) (there here : Instance) (ps : List SignatureParameter) (qs : List Parameter) → (length ps ≡ length qs → ⊥) → same_parameters s there here ps qs ≡ false
unlike_parameters s there here [] [] h = absurd (h refl)
unlike_parameters s there here [] (q ∷ qs) h = refl
unlike_parameters s there here (p ∷ ps) [] h = refl
unlike_parameters s there here (p ∷ ps) (q ∷ qs) h =
    by (is_same_parameter s there here p q) (unlike_parameters s there here ps qs (λ e. h (ap suc e)))
  where
    by : (b : Bool) → same_parameters s there here ps qs ≡ false → (b && same_parameters s there here ps qs) ≡ false
    by true e = e
    by false e = refl

-- two types at their places
pub same_types : (bs : List Branch) (i j : ℕ) (t u : Closed) → AreShared bs → i < length bs + 1 → j < length bs + 1 → tree_at (trees bs) i ≡ t → tree_at (trees bs) j ≡ u → nat_eq i j ≡ same_closed t u
same_types bs i j t u s h g e f = same_at bs i j s h g ∙ ap (λ (c : Closed). same_closed c (tree_at (trees bs) j)) e ∙ ap (same_closed t) f

pub same_there : (bs : List Branch) (i j : ℕ) (t u : Closed) → AreShared bs → i < length bs + 1 → j < length bs + 1 → tree_at (trees bs) i ≡ t → tree_at (trees bs) j ≡ u → i ≡ j → same_closed t u ≡ true
same_there bs i j t u s h g e f q = ap (λ (c : Closed). same_closed c u) (sym e ∙ ap (tree_at (trees bs)) q ∙ f) ∙ self_same u

pub other_there : (bs : List Branch) (i j : ℕ) (t u : Closed) → AreShared bs → i < length bs + 1 → j < length bs + 1 → tree_at (trees bs) i ≡ t → tree_at (trees bs) j ≡ u → (i ≡ j → ⊥) → same_closed t u ≡ false
other_there bs i j t u s h g e f q = sym (same_types bs i j t u s h g e f) ∙ ne_eqb i j q

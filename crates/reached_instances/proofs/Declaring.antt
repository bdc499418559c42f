-- Types of headers, one after another.
use Rattle.std.proofs.Common.{◌≡◌, ℕ, suc, ◌+◌, ◌<◌, ◌≤◌, Bool, true, false, ◌&&◌, ◌||◌, List, [], ◌∷◌, ◌++◌, length, map, drop, get_or, refl, ap, sym, subst, ◌∙◌, append_assoc, append-nil, drop_of_length-le}
use Rattle.fip_base.proofs.fip_language.Plain.{every_append}
use Rattle.fip_base.specs.CoreView as V
use Rattle.fip_base.specs.declared.core_form.Written.{Written}
use Rattle.fip_base.specs.declared.core_form.SignatureParameter as DS
use Rattle.fip_base.specs.declared.core_form.Parameter as DP
use Rattle.closed_types.specs.Closed.{Closed, same_closed}
use Rattle.closed_types.specs.Source.{Source, Instance, is_scalar}
use Rattle.closed_types.specs.SharedTrees.{Branch, Grows, AreWithin, all_at, tree_at, trees}
use Rattle.closed_types.specs.Uses.{declared_type, same_mark, same_parameters}
use Rattle.closed_types.specs.UsesView.{is_same_parameter}
use Rattle.reached_instances.proofs.Closing.{at_append, kept_all}
use Rattle.closed_types.proofs.Growing.{within_more}
use Rattle.closed_types.proofs.Lists.{drop_item}
pub use Rattle.fip_base.proofs.fip_language.Facts.{map_length}

pub record AreDeclared (s : Source) (h : Instance) (list : List Written) (bs : List Branch) (is : List ℕ) (k : ℕ) : Type 0 where
  pub within : AreWithin bs is
  pub row : all_at (trees bs) is ++ map (declared_type s h) (map V.written (drop k list)) ≡ map (declared_type s h) (map V.written list)

pub declared_starts : (s : Source) (h : Instance) (list : List Written) (bs : List Branch) → AreDeclared s h list bs [] 0
declared_starts s h list bs = record { within = tt; row = refl }

pub declared_goes : (s : Source) (h : Instance) (list : List Written) (bs cs : List Branch) (is js : List ℕ) (k i : ℕ) (x : Written) → k < length list → x ≡ get_or list k x → Grows bs cs → i < length cs + 1 → tree_at (trees cs) i ≡ declared_type s h (V.written x) → js ≡ is ++ i ∷ [] → AreDeclared s h list bs is k → AreDeclared s h list cs js (k + 1)
declared_goes s h list bs cs is js k i x l e g w t f a =
    let rest = map (declared_type s h) (map V.written (drop (k + 1) list)) in
    record {
      within = subst (AreWithin cs) (sym f) (every_append (λ j. j < length cs + 1) is (i ∷ []) (within_more bs cs is g a.within) (w, tt));
      row =
          ap (λ ys. all_at (trees cs) ys ++ rest) f
          ∙ ap (λ l. l ++ rest) (at_append (trees cs) is (i ∷ []))
          ∙ append_assoc (all_at (trees cs) is) (tree_at (trees cs) i ∷ []) rest
          ∙ ap (λ (c : Closed). all_at (trees cs) is ++ c ∷ rest) t
          ∙ ap (λ l. l ++ declared_type s h (V.written x) ∷ rest) (kept_all bs cs is g a.within)
          ∙ ap (λ (ys : List Written). all_at (trees bs) is ++ map (declared_type s h) (map V.written ys)) (sym (drop_item list k x l e))
          ∙ a.row;
    }

pub declared_ends : (s : Source) (h : Instance) (list : List Written) (bs : List Branch) (is : List ℕ) (k : ℕ) → length list ≤ k → AreDeclared s h list bs is k → all_at (trees bs) is ≡ map (declared_type s h) (map V.written list)
declared_ends s h list bs is k l a =
    sym (append-nil (all_at (trees bs) is))
    ∙ ap (λ (ys : List Written). all_at (trees bs) is ++ map (declared_type s h) (map V.written ys)) (sym (drop_of_length-le list l))
    ∙ a.row

-- ---- parameters

abbrev pub sames : Source → Instance → Instance → List DS.SignatureParameter → List DP.Parameter → Bool
sames s there here ps qs = same_parameters s there here (map V.signature_parameter ps) (map V.parameter qs)

pub sames_step : (s : Source) (there here : Instance) (ps : List DS.SignatureParameter) (qs : List DP.Parameter) (k : ℕ) (p : DS.SignatureParameter) (q : DP.Parameter) (whole : Bool) → drop k ps ≡ p ∷ drop (k + 1) ps → drop k qs ≡ q ∷ drop (k + 1) qs → is_same_parameter s there here (V.signature_parameter p) (V.parameter q) ≡ true → sames s there here (drop k ps) (drop k qs) ≡ whole → sames s there here (drop (k + 1) ps) (drop (k + 1) qs) ≡ whole
sames_step s there here ps qs k p q whole d e t before =
    sym (ap (λ b. b && sames s there here (drop (k + 1) ps) (drop (k + 1) qs)) t)
    ∙ sym (ap (λ (xs : List DS.SignatureParameter). sames s there here xs (q ∷ drop (k + 1) qs)) d)
    ∙ sym (ap (λ (ys : List DP.Parameter). sames s there here (drop k ps) ys) e)
    ∙ before

pub sames_fail : (s : Source) (there here : Instance) (ps : List DS.SignatureParameter) (qs : List DP.Parameter) (k : ℕ) (p : DS.SignatureParameter) (q : DP.Parameter) (whole : Bool) → drop k ps ≡ p ∷ drop (k + 1) ps → drop k qs ≡ q ∷ drop (k + 1) qs → is_same_parameter s there here (V.signature_parameter p) (V.parameter q) ≡ false → sames s there here (drop k ps) (drop k qs) ≡ whole → false ≡ whole
sames_fail s there here ps qs k p q whole d e t before =
    sym (ap (λ b. b && sames s there here (drop (k + 1) ps) (drop (k + 1) qs)) t)
    ∙ sym (ap (λ (xs : List DS.SignatureParameter). sames s there here xs (q ∷ drop (k + 1) qs)) d)
    ∙ sym (ap (λ (ys : List DP.Parameter). sames s there here (drop k ps) ys) e)
    ∙ before

pub sames_end : (s : Source) (there here : Instance) (ps : List DS.SignatureParameter) (qs : List DP.Parameter) (k : ℕ) (whole : Bool) → length ps ≤ k → length qs ≤ k → sames s there here (drop k ps) (drop k qs) ≡ whole → true ≡ whole
sames_end s there here ps qs k whole l m before =
    sym (ap (λ (xs : List DS.SignatureParameter). sames s there here xs (drop k qs)) (drop_of_length-le ps l) ∙ ap (λ (ys : List DP.Parameter). sames s there here [] ys) (drop_of_length-le qs m))
    ∙ before

-- ---- one parameter

pub other_types : (s : Source) (t u : Closed) (m n : Bool) → same_closed t u ≡ false → false ≡ (same_closed t u && (same_mark m n || is_scalar s t))
other_types s t u m n e = sym (ap (λ b. b && (same_mark m n || is_scalar s t)) e)

pub same_marks : (s : Source) (t u : Closed) (m n : Bool) → same_closed t u ≡ true → same_mark m n ≡ true → true ≡ (same_closed t u && (same_mark m n || is_scalar s t))
same_marks s t u m n e f = sym (ap (λ b. b && (same_mark m n || is_scalar s t)) e ∙ ap (λ b. b || is_scalar s t) f)

pub other_marks : (s : Source) (t u : Closed) (m n : Bool) → same_closed t u ≡ true → same_mark m n ≡ false → is_scalar s t ≡ (same_closed t u && (same_mark m n || is_scalar s t))
other_marks s t u m n e f = sym (ap (λ b. b && (same_mark m n || is_scalar s t)) e ∙ ap (λ b. b || is_scalar s t) f)

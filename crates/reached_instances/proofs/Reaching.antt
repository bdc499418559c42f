-- What instances call, one after another.
use Rattle.std.proofs.Common.{◌≡◌, ℕ, suc, ◌+◌, ◌<◌, ◌≤◌, List, [], ◌∷◌, ◌++◌, length, map, drop, get_or, Option, Some, None, option_map, refl, ap, sym, subst, ◌∙◌, arith, append_assoc, append-nil, drop_of_length-le}
use Rattle.fip_base.specs.fip_language.Core.{Function}
use Rattle.closed_types.specs.declared.mentions.CallSite.{CallSite}
use Rattle.closed_types.specs.declared.closed.Head.TheVariants as H
use Rattle.closed_types.specs.Closed.{Closed, Closeds, Int, Applied}
use Rattle.closed_types.specs.Source.{Source, Instance}
use Rattle.closed_types.specs.Instances.{all_reached, calls_from, faults_of, if_there, root_if, roots_from}
use Rattle.closed_types.specs.MentionsView.{use_of}
use Rattle.closed_types.specs.PutView.{Put}
use Rattle.closed_types.specs.SharedTrees.{Branch, Grows, AreWithin, Kept, all_at, tree_at, trees}
use Rattle.closed_types.specs.Uses.{closed_function}
use Rattle.closed_types.specs.UsesView.{IsPlaceOf, with_place}
use Rattle.reached_instances.proofs.Closing.{at_append, kept_all, with_within}
use Rattle.closed_types.proofs.Growing.{within_more}
use Rattle.closed_types.proofs.Lists.{drop_item}

-- ---- the uses of a body

placed_trees : (bs : List Branch) (is : List ℕ) (o : Option ℕ) (c : Option Closed) → IsPlaceOf bs o c → all_at (trees bs) (with_place is o) ≡ all_at (trees bs) is ++ if_there c
placed_trees bs is o c h = by o c h.tree
  where
    by : (o : Option ℕ) (c : Option Closed) → option_map (tree_at (trees bs)) o ≡ c → all_at (trees bs) (with_place is o) ≡ all_at (trees bs) is ++ if_there c
    by None c e = sym (append-nil (all_at (trees bs) is)) ∙ ap (λ (x : Option Closed). all_at (trees bs) is ++ if_there x) e
    by (Some i) c e = at_append (trees bs) is (i ∷ []) ∙ ap (λ (x : Option Closed). all_at (trees bs) is ++ if_there x) e

pub record AreReached (s : Source) (h : Instance) (sites : List CallSite) (bs : List Branch) (is : List ℕ) (k : ℕ) : Type 0 where
  pub within : AreWithin bs is
  pub row : all_at (trees bs) is ++ all_reached s h (map use_of (drop k sites)) ≡ all_reached s h (map use_of sites)

pub reached_starts : (s : Source) (h : Instance) (sites : List CallSite) (bs : List Branch) → AreReached s h sites bs [] 0
reached_starts s h sites bs = record { within = tt; row = refl }

pub reached_goes : (s : Source) (h : Instance) (sites : List CallSite) (bs cs : List Branch) (is js : List ℕ) (k : ℕ) (x : CallSite) (o : Option ℕ) → k < length sites → x ≡ get_or sites k x → Grows bs cs → IsPlaceOf cs o (closed_function s h (use_of x)) → js ≡ with_place is o → AreReached s h sites bs is k → AreReached s h sites cs js (k + 1)
reached_goes s h sites bs cs is js k x o l e g p f a =
    let rest = all_reached s h (map use_of (drop (k + 1) sites)) in
    record {
      within = subst (AreWithin cs) (sym f) (with_within cs is o (within_more bs cs is g a.within) p.within);
      row =
          ap (λ ys. all_at (trees cs) ys ++ rest) f
          ∙ ap (λ l. l ++ rest) (placed_trees cs is o (closed_function s h (use_of x)) p)
          ∙ append_assoc (all_at (trees cs) is) (if_there (closed_function s h (use_of x))) rest
          ∙ ap (λ l. l ++ (if_there (closed_function s h (use_of x)) ++ rest)) (kept_all bs cs is g a.within)
          ∙ ap (λ (ys : List CallSite). all_at (trees bs) is ++ all_reached s h (map use_of ys)) (sym (drop_item sites k x l e))
          ∙ a.row;
    }

pub reached_ends : (s : Source) (h : Instance) (sites : List CallSite) (bs : List Branch) (is : List ℕ) (k : ℕ) → length sites ≤ k → AreReached s h sites bs is k → all_at (trees bs) is ≡ all_reached s h (map use_of sites)
reached_ends s h sites bs is k l a =
    sym (append-nil (all_at (trees bs) is))
    ∙ ap (λ (ys : List CallSite). all_at (trees bs) is ++ all_reached s h (map use_of ys)) (sym (drop_of_length-le sites l))
    ∙ a.row

-- ---- the functions without static parameters

pub record AreRooted (fs : List Function) (bs : List Branch) (is : List ℕ) (k : ℕ) : Type 0 where
  pub within : AreWithin bs is
  pub row : all_at (trees bs) is ++ roots_from k (drop k fs) ≡ roots_from 0 fs

pub rooted_starts : (fs : List Function) (bs : List Branch) → AreRooted fs bs [] 0
rooted_starts fs bs = record { within = tt; row = refl }

pub rooted_ends : (fs : List Function) (bs : List Branch) (is : List ℕ) (k : ℕ) → length fs ≤ k → AreRooted fs bs is k → all_at (trees bs) is ≡ roots_from 0 fs
rooted_ends fs bs is k l a =
    sym (append-nil (all_at (trees bs) is))
    ∙ ap (λ (ys : List Function). all_at (trees bs) is ++ roots_from k ys) (sym (drop_of_length-le fs l))
    ∙ a.row

-- one function, with or without static parameters
pub rooted_put : (fs : List Function) (k l : Kept) (is js : List ℕ) (n : ℕ) (f : Function) → drop n fs ≡ f ∷ drop (n + 1) fs → Put k l is js (root_if f.statics n) → AreRooted fs k.branches is n → AreRooted fs l.branches js (n + 1)
rooted_put fs k l is js n f d p a =
    let rest = roots_from (n + 1) (drop (n + 1) fs) in
    record {
      within = p.within;
      row =
          ap (λ (cs : List Closed). cs ++ rest) p.trees
          ∙ append_assoc (all_at (trees k.branches) is) (root_if f.statics n) rest
          ∙ ap (λ m. all_at (trees k.branches) is ++ (root_if f.statics n ++ roots_from m (drop (n + 1) fs))) (let e : n + 1 ≡ suc n = omega arith in e)
          ∙ ap (λ (ys : List Function). all_at (trees k.branches) is ++ roots_from n ys) (sym d)
          ∙ a.row;
    }

-- ---- no function

pub no_calls : (s : Source) (c : Closed) → ((f : ℕ) (cs : Closeds) → c ≡ Applied (H.Function f) cs → ⊥) → calls_from s c ≡ []
no_calls s Int h = refl
no_calls s (Applied (H.«Type» n) cs) h = refl
no_calls s (Applied (H.Function f) cs) h = absurd (h f cs refl)

pub no_faults : (s : Source) (i : ℕ) (c : Closed) → ((f : ℕ) (cs : Closeds) → c ≡ Applied (H.Function f) cs → ⊥) → faults_of s i c ≡ []
no_faults s i Int h = refl
no_faults s i (Applied (H.«Type» n) cs) h = refl
no_faults s i (Applied (H.Function f) cs) h = absurd (h f cs refl)

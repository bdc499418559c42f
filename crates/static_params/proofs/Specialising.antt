-- What is numbered, and what is said of it.
use Rattle.std.proofs.Common.{◌≡◌, ◌≤◌, inl, inr, ℕ, suc, Bool, List, [], ◌∷◌, length, Option, Some, None, IfSome, true, false, refl, ap, sym, subst, ◌∙◌}
use Rattle.std.specs.Prelude.{codes, is_none}
use Rattle.fip_language.specs.declared.rule.Rule.TheVariants.{E21}
use Rattle.fip_language.specs.declared.limits.TheConstants.{MOST_INSTANCES}
use Rattle.fip_trees.specs.Least.{after}
use Rattle.fip_trees.specs.declared.least.Violation.{Violation}
use Rattle.fip_trees.proofs.Leasts.{least_of, none_of}
use Rattle.reached_instances.specs.closed_types.declared.closed.Passing.{Passing}
use Rattle.reached_instances.specs.declared.source.Source as D
use Rattle.static_params.specs.declared.table.Numbers as N
use Rattle.static_params.specs.Answers.{AreManyFunctions, AreManyTypes, Names, start}
use Rattle.reached_instances.specs.closed_types.Closed.{Closed}
use Rattle.static_params.specs.FlatView.{IsNamed, IsNumbered, IsTypes, numbers_at}
use Rattle.reached_instances.specs.closed_types.Instances.{all_faults, AreInstances, ArePassed}
use Rattle.reached_instances.specs.KnownFits.{IsRight}
use Rattle.reached_instances.specs.closed_types.SharedTrees.{AreWithin, Grows, IsNoted, Kept, all_at, trees}
use Rattle.reached_instances.specs.closed_types.Source.{Source}
use Rattle.reached_instances.specs.SourceView.{IsLookedUp, source}
use Rattle.reached_instances.specs.closed_types.Numbering.{AreMore}
use Rattle.reached_instances.specs.closed_types.TypeInstances.{AreTypes, parts_of, type_roots}
use Rattle.reached_instances.specs.closed_types.Uses.{broken}
use Rattle.reached_instances.proofs.Closing.{kept_all}
use Rattle.reached_instances.proofs.closed_types.Growing.{within_more}

-- int alone
pub right_first : (s : D.Source) (k : Kept) → k.fits ≡ [] → IsLookedUp s → IsRight s k
right_first s k e l = record {
  looked_up = l;
  known = λ p b n. absurd (subst (λ (es : List (Passing × Bool)). IsNoted p b es) e n);
}

so_many : (xs : List ℕ) (cs : List Closed) → length (all_at cs xs) ≡ length xs
so_many [] cs = refl
so_many (x ∷ xs) cs = ap suc (so_many xs cs)

pub few_at : (k : Kept) (xs : List ℕ) → length xs ≤ MOST_INSTANCES → length (all_at (trees k.branches) xs) ≤ MOST_INSTANCES
few_at k xs h = subst (λ n. n ≤ MOST_INSTANCES) (sym (so_many xs (trees k.branches))) h

-- instances and types are numbered
pub numbered : (s : D.Source) (is ts : List ℕ) (k l : Kept) (o : Option Violation) → AreWithin k.branches is → length is ≤ MOST_INSTANCES → AreInstances (source s) (all_at (trees k.branches) is) → Grows k.branches l.branches → IsRight s l → IsTypes s (all_at (trees k.branches) is) l ts → o ≡ after None (all_faults (source s) (all_at (trees k.branches) is)) → IsNumbered s (record { instances = is; types = ts }) l o
numbered s is ts k l o w few instances g r t least =
    let kept = sym (kept_all k.branches l.branches is g w) in
    record {
      right = r;
      numbers = record {
        instances = within_more k.branches l.branches is g w;
        types = t.within;
        few = few;
        few_types = t.few;
      };
      few = record {
        instances = record {
          instances = subst (AreInstances (source s)) kept instances;
          few = few_at l is few;
        };
        passed = t.passed;
        given = subst (λ (cs : List Closed). ArePassed cs t.passed) kept t.given;
        types = subst (λ (cs : List Closed). AreTypes (source s) cs t.passed (all_at (trees l.branches) ts)) kept t.types;
        few_types = few_at l ts t.few;
      };
      least = least ∙ ap (λ (cs : List Closed). after None (all_faults (source s) cs)) kept;
    }

pub many_functions : (s : Source) (o : Option Violation) → AreManyFunctions s → o ≡ Some (broken E21 start 0 (codes "functions")) → (v : Violation) × (o ≡ Some v) × Names s v
many_functions s o m e = (broken E21 start 0 (codes "functions"), e, inl (m, refl))

pub many_types : (s : Source) (is : List Closed) (o : Option Violation) → AreInstances s is → length is ≤ MOST_INSTANCES → AreManyTypes s is → o ≡ Some (broken E21 start 0 (codes "types")) → (v : Violation) × (o ≡ Some v) × Names s v
many_types s is o a few m e =
    (broken E21 start 0 (codes "types"), e, inr (inl (record { instances = is; few = record { instances = a; few = few }; many = m; is = refl })))

-- the least of what is broken is named
pub least_named : (s : D.Source) (ns : N.Numbers) (k : Kept) (o : Option Violation) (v : Violation) → IsNumbered s ns k o → o ≡ Some v → Names (source s) v
least_named s ns k o v n e =
    inr (inr (record { numbers = numbers_at (trees k.branches) ns; few = n.few; least = least_of (all_faults (source s) (numbers_at (trees k.branches) ns).instances) v (sym n.least ∙ e) }))

pub none_broken : (s : D.Source) (ns : N.Numbers) (k : Kept) (o : Option Violation) → IsNumbered s ns k o → o ≡ None → all_faults (source s) (numbers_at (trees k.branches) ns).instances ≡ []
none_broken s ns k o n e = none_of (all_faults (source s) (numbers_at (trees k.branches) ns).instances) (sym n.least ∙ e)

-- ---- where there is something, and where there is nothing

pub is_some_of : (o : Option Violation) → is_none o ≡ false → (v : Violation) × (o ≡ Some v)
is_some_of None e = cc
is_some_of (Some v) e = (v, refl)

pub is_none_of : (o : Option Violation) → is_none o ≡ true → o ≡ None
is_none_of None e = refl
is_none_of (Some v) e = cc

pub noted_named : (s : D.Source) (ns : N.Numbers) (k : Kept) (o : Option Violation) → IsNumbered s ns k o → is_none o ≡ false → IsNamed (source s) o
noted_named s ns k o n e = let r = is_some_of o e in (r.0, r.1, least_named s ns k o r.0 n r.1)

-- ---- types

pub types_found : (s : D.Source) (is ps : List ℕ) (k l m : Kept) (o : Option (List ℕ)) → AreWithin k.branches is → Grows k.branches l.branches → ArePassed (all_at (trees k.branches) is) (all_at (trees l.branches) ps) → IfSome o (λ (v : List ℕ). length v ≤ MOST_INSTANCES) → IfSome o (λ (v : List ℕ). AreWithin m.branches v) → IfSome o (λ (v : List ℕ). AreTypes (source s) (all_at (trees l.branches) is) (all_at (trees l.branches) ps) (all_at (trees m.branches) v)) → IfSome o (λ (v : List ℕ). IsTypes s (all_at (trees k.branches) is) m v)
types_found s is ps k l m None w g p few within types = tt
types_found s is ps k l m (Some v) w g p few within types = record {
  within = within;
  few = few;
  passed = all_at (trees l.branches) ps;
  given = p;
  types = subst (λ (cs : List Closed). AreTypes (source s) cs (all_at (trees l.branches) ps) (all_at (trees m.branches) v)) (kept_all k.branches l.branches is g w) types;
}

pub many_found : (s : D.Source) (is ps : List ℕ) (k l : Kept) → AreWithin k.branches is → Grows k.branches l.branches → ArePassed (all_at (trees k.branches) is) (all_at (trees l.branches) ps) → AreMore MOST_INSTANCES (type_roots (source s) (all_at (trees l.branches) is) (all_at (trees l.branches) ps)) (parts_of (source s)) → AreManyTypes (source s) (all_at (trees k.branches) is)
many_found s is ps k l w g p m = record {
  passed = all_at (trees l.branches) ps;
  given = p;
  many = subst (λ (cs : List Closed). AreMore MOST_INSTANCES (type_roots (source s) cs (all_at (trees l.branches) ps)) (parts_of (source s))) (kept_all k.branches l.branches is g w) m;
}

-- Registers that are known at a place of a function are those of the function: these of variables and of credits, and
-- those that hold something.
use Rattle.std.proofs.Common.{◌≡◌, inl, inr, ℕ, zero, suc, ◌+◌, ◌<◌, ◌≤◌, Bool, true, false, ◌||◌, List, [], ◌∷◌, ◌++◌, map, slice_get, slice_set, length, Option, Some, None, refl, sym, ap, ◌∙◌, subst, arith, if◌then◌else◌, ◌==◌, get_or, nat_lt}
use Rattle.std.proofs.lemmas.Option.{none-some, same_Some}
use Rattle.separation.specs.fip_base.declared.plain.Param.{Param}
use Rattle.separation.specs.fip_language.Every.{Among}
use Rattle.lowering_relation.specs.fip_trees.declared.program.Binder.{Binder}
use Rattle.lowering_relation.specs.fip_trees.Tree.{Pattern, BinderPattern, LiteralPattern, ConstructorPattern, Patterns, NoPatterns, MorePatterns, count_patterns}
use Rattle.separation.specs.code_rules.Ranges.{are_below}
use Rattle.separation.proofs.separation_kinds.Basics.{below_is}
use Rattle.lowering_relation.specs.Spots.{Spot, At, Spots, NoSpots, MoreSpots, register, below, all_in}
use Rattle.lowering_relation.specs.Opening.{is_named}
use Rattle.lowering_relation.specs.Entering.{with_variable, variable_held, with_cell, entering, entering_all, entering_root, root_of, spent_if}
use Rattle.lowering_relation.specs.declared.held.Held.{Held}
use Rattle.lowering_relation.specs.declared.held.Held.TheVariants as H
use Rattle.lowering_relation.specs.declared.held.Credit.{Credit}
use Rattle.lowering_relation.specs.Known.{Known, joined, register_of, named, used, IsTaken}
use Rattle.lowering_relation.specs.Values.{Setting, is_scalar}
use Rattle.lowering_relation.specs.LoweredBodies.{AreTaken, handed, received, given, all_named, registers_for}
use Rattle.lowering_relation.specs.LoweredFunctions.{with_param, with_params, with_credit, with_credits, unless_in, param_held}
use Rattle.lowering_relation.specs.Describing.{held_at}
use Rattle.lowering_relation.specs.Joins.{holds_credit, still_held}
use Rattle.lowering_relation.specs.Matches.{wide, widened}
use Rattle.lowering_soundness.proofs.Helds.{length_set, length_used}
use Rattle.lowering_soundness.proofs.Giving.{and_to}

-- registers of a function with so many
abbrev pub Under : ℕ → List ℕ → Type 0
Under n [] = Unit {0}
Under n (r ∷ rs) = (r < n) × Under n rs

abbrev pub NamesUnder : ℕ → List (Option ℕ) → Type 0
NamesUnder n [] = Unit {0}
NamesUnder n (None ∷ os) = NamesUnder n os
NamesUnder n (Some r ∷ os) = (r < n) × NamesUnder n os

abbrev pub CreditsUnder : ℕ → List Credit → Type 0
CreditsUnder n [] = Unit {0}
CreditsUnder n (q ∷ cs) = (q.register < n) × CreditsUnder n cs

pub record Fits (n : ℕ) (k : Known) : Type 0 where
  pub names : NamesUnder n k.names
  pub held : length k.held ≡ n
  pub credits : CreditsUnder n k.credits

module _ (n : ℕ) where
  pub are_under : (rs : List ℕ) → Under n rs → are_below n rs ≡ true
  are_under [] h = refl
  are_under (r ∷ rs) h = and_to (nat_lt r n) (are_below n rs) (below_is r n h.0) (are_under rs h.1)

  pub both_under : (rs qs : List ℕ) → Under n rs → Under n qs → Under n (rs ++ qs)
  both_under [] qs h i = i
  both_under (r ∷ rs) qs h i = (h.0, both_under rs qs h.1 i)

  pub left_under : (rs qs : List ℕ) → Under n (rs ++ qs) → Under n rs
  left_under [] qs h = tt
  left_under (r ∷ rs) qs h = (h.0, left_under rs qs h.1)

  pub right_under : (rs qs : List ℕ) → Under n (rs ++ qs) → Under n qs
  right_under [] qs h = h
  right_under (r ∷ rs) qs h = right_under rs qs h.1

  pub all_under : (zs : List ℕ) → ((z : ℕ) → Among z zs → z < n) → Under n zs
  all_under [] h = tt
  all_under (x ∷ xs) h = (h x (inl refl), all_under xs (λ z a. h z (inr a)))

  pub for_under : (r : ℕ) (bs : List Binder) → r + length bs ≤ n → Under n (registers_for r bs)
  for_under r [] h = tt
  for_under r (b ∷ bs) h = (omega (arith, h), for_under (suc r) bs (omega (arith, h)))

  -- ---- names

  name_under : (os : List (Option ℕ)) (x r : ℕ) → NamesUnder n os → joined (slice_get os x) ≡ Some r → r < n
  name_under [] x r h e = absurd (none-some r e)
  name_under (None ∷ os) zero r h e = absurd (none-some r e)
  name_under (Some q ∷ os) zero r h e = subst (λ r. r < n) (same_Some q r e) h.0
  name_under (None ∷ os) (suc x) r h e = name_under os x r h e
  name_under (Some q ∷ os) (suc x) r h e = name_under os x r h.1 e

  pub register_under : (os : List (Option ℕ)) (x : Option ℕ) (r : ℕ) → NamesUnder n os → register_of os x ≡ Some r → r < n
  register_under os None r h e = absurd (none-some r e)
  register_under os (Some x) r h e = name_under os x r h e

  pub names_by : (os : List (Option ℕ)) → ((x r : ℕ) → register_of os (Some x) ≡ Some r → r < n) → NamesUnder n os
  names_by [] h = tt
  names_by (None ∷ os) h = names_by os (λ x r e. h (suc x) r e)
  names_by (Some r ∷ os) h = (h 0 r refl, names_by os (λ x q e. h (suc x) q e))

  set_name : (os : List (Option ℕ)) (x r : ℕ) → r < n → NamesUnder n os → NamesUnder n (slice_set os x (Some r))
  set_name [] x r low h = h
  set_name (None ∷ os) zero r low h = (low, h)
  set_name (Some q ∷ os) zero r low h = (low, h.1)
  set_name (None ∷ os) (suc x) r low h = set_name os x r low h
  set_name (Some q ∷ os) (suc x) r low h = (h.0, set_name os x r low h.1)

  unset_name : (os : List (Option ℕ)) (x : ℕ) → NamesUnder n os → NamesUnder n (slice_set os x None)
  unset_name [] x h = h
  unset_name (None ∷ os) zero h = h
  unset_name (Some q ∷ os) zero h = h.1
  unset_name (None ∷ os) (suc x) h = unset_name os x h
  unset_name (Some q ∷ os) (suc x) h = (h.0, unset_name os x h.1)

  unless_under : (r : ℕ) (os : List (Option ℕ)) → NamesUnder n os → NamesUnder n (map (unless_in r) os)
  unless_under r [] h = h
  unless_under r (None ∷ os) h = unless_under r os h
  unless_under r (Some q ∷ os) h = by (q == r) h.0 (unless_under r os h.1)
    where
      by : (b : Bool) → q < n → NamesUnder n (map (unless_in r) os) → NamesUnder n ((if b then None else Some q) ∷ map (unless_in r) os)
      by true low h = h
      by false low h = (low, h)

  pub named_under : (os : List (Option ℕ)) (bs : List Binder) (rs : List ℕ) → Under n rs → NamesUnder n os → NamesUnder n (all_named os bs rs)
  named_under os [] rs u h = h
  named_under os (b ∷ bs) [] u h = h
  named_under os (b ∷ bs) (r ∷ rs) u h = named_under (named os b.number r) bs rs u.1 (set_name os b.number r u.0 h)

  -- ---- credits

  split_under : (xs ys : List Credit) (q : Credit) → CreditsUnder n (xs ++ q ∷ ys) → (q.register < n) × CreditsUnder n (xs ++ ys)
  split_under [] ys q h = h
  split_under (x ∷ xs) ys q h = let z = split_under xs ys q h.1 in (z.0, (h.0, z.1))

  pub taken_under : (cs : List Credit) (m r : ℕ) (rest : List Credit) → IsTaken cs m r rest → CreditsUnder n cs → (r < n) × CreditsUnder n rest
  taken_under cs m r rest t h =
      let z = split_under t.before t.following (record { size = m; register = r }) (subst (CreditsUnder n) t.was h) in
      (z.0, subst (CreditsUnder n) (sym t.left) z.1)

  pub still_under : (hs : List Held) (cs : List Credit) → CreditsUnder n cs → CreditsUnder n (still_held hs cs)
  still_under hs [] h = tt
  still_under hs (q ∷ cs) h = by (holds_credit (held_at hs q.register)) (still_under hs cs h.1)
    where
      by : (b : Bool) → CreditsUnder n (still_held hs cs) → CreditsUnder n (if b then q ∷ still_held hs cs else still_held hs cs)
      by true rest = (h.0, rest)
      by false rest = rest

  push_under : (cs : List Credit) (q : Credit) → q.register < n → CreditsUnder n cs → CreditsUnder n (cs ++ q ∷ [])
  push_under [] q low h = (low, tt)
  push_under (x ∷ cs) q low h = (h.0, push_under cs q low h.1)

  -- ---- what is known

  pub fits_held : (k : Known) (hs : List Held) → length hs ≡ length k.held → Fits n k → Fits n (record k { held = hs })
  fits_held k hs e h = record { names = h.names; held = e ∙ h.held; credits = h.credits }

  pub fits_next : (k : Known) (m : ℕ) → Fits n k → Fits n (record k { next = m })
  fits_next k m h = record { names = h.names; held = h.held; credits = h.credits }

  pub fits_set : (k : Known) (r : ℕ) (h : Held) → Fits n k → Fits n (record k { held = slice_set k.held r h })
  fits_set k r h f = fits_held k (slice_set k.held r h) (length_set k.held r h) f

  pub fits_paid : (k : Known) (r m : ℕ) (rest : List Credit) → IsTaken k.credits m r rest → Fits n k → (r < n) × Fits n (record k { held = slice_set k.held r H.Nothing; credits = rest })
  fits_paid k r m rest t f =
      let z = taken_under k.credits m r rest t f.credits in
      (z.0, record { names = f.names; held = length_set k.held r H.Nothing ∙ f.held; credits = z.1 })

  pub fits_taken : (k : Known) (ns rs : List ℕ) (l : Known) → AreTaken k ns rs l → Fits n k → Under n rs × Fits n l
  fits_taken k [] [] l h f = (tt, subst (Fits n) (sym h) f)
  fits_taken k [] (r ∷ rs) l h f = absurd h
  fits_taken k (m ∷ ns) [] l h f = absurd h
  fits_taken k (m ∷ ns) (r ∷ rs) l h f =
      let a = fits_paid k r m h.0 h.1 f in
      let b = fits_taken (record k { held = slice_set k.held r H.Nothing; credits = h.0 }) ns rs l h.2 a.1 in
      ((a.0, b.0), b.1)

  pub length_handed : (hs : List Held) (ps : List Param) (rs : List ℕ) → length (handed hs ps rs) ≡ length hs
  length_handed hs [] rs = refl
  length_handed hs (p ∷ ps) [] = refl
  length_handed hs (p ∷ ps) (r ∷ rs) = length_handed (if p.lent then hs else used hs r) ps rs ∙ by p.lent
    where
      by : (b : Bool) → length (if b then hs else used hs r) ≡ length hs
      by true = refl
      by false = length_used hs r

  pub length_received : (st : Setting) (hs : List Held) (ts ds : List ℕ) → length (received st hs ts ds) ≡ length hs
  length_received st hs [] ds = refl
  length_received st hs (t ∷ ts) [] = refl
  length_received st hs (t ∷ ts) (d ∷ ds) = length_received st (slice_set hs d (given st t)) ts ds ∙ length_set hs d (given st t)

  length_mapped : (g : Held → Held) (hs : List Held) → length (map g hs) ≡ length hs
  length_mapped g [] = refl
  length_mapped g (h ∷ hs) = ap suc (length_mapped g hs)

  pub fits_wide : (k : Known) → Fits n k → Fits n (wide k)
  fits_wide k f = fits_held k (map widened k.held) (length_mapped widened k.held) f

  -- ---- at the start of a function

  fits_credit : (k : Known) (m r : ℕ) → r < n → Fits n k → Fits n (with_credit k m r)
  fits_credit k m r low f = record {
    names = unless_under r k.names f.names;
    held = length_set k.held r (H.Credit m) ∙ f.held;
    credits = push_under k.credits (record { size = m; register = r }) low f.credits;
  }

  pub fits_params : (st : Setting) (k : Known) (ps : List Param) (bs : List Binder) → k.next + length ps ≤ n → Fits n k → Fits n (with_params st k ps bs) × ((with_params st k ps bs).next ≤ k.next + length ps)
  fits_params st k [] bs room f = (f, omega arith)
  fits_params st k (p ∷ ps) [] room f = (f, omega arith)
  fits_params st k (p ∷ ps) (b ∷ bs) room f =
      let one : Fits n (with_param st k p b) = record {
        names = set_name k.names b.number k.next (omega (arith, room)) f.names;
        held = length_set k.held k.next (param_held st p) ∙ f.held;
        credits = f.credits;
      } in
      let z = fits_params st (with_param st k p b) ps bs (omega (arith, room)) one in
      let more = z.1 in
      (z.0, omega (arith, more))

  pub fits_credits : (k : Known) (ns : List ℕ) → k.next + length ns ≤ n → Fits n k → Fits n (with_credits k ns)
  fits_credits k [] room f = f
  fits_credits k (m ∷ ns) room f = fits_credits (with_credit (record k { next = suc k.next }) m k.next) ns (omega (arith, room)) (fits_credit (record k { next = suc k.next }) m k.next (omega (arith, room)) (fits_next k (suc k.next) f))

  -- ---- at the entry of a clause

  module _ (st : Setting) (takes : Bool) (root : Option ℕ) where
    fits_variable : (b : Binder) (r : ℕ) (k : Known) → r < n → Fits n k → Fits n (with_variable st takes root b r k)
    fits_variable b r k low f = by (takes || is_named b)
      where
        by : (y : Bool) → Fits n (if y then record k { held = slice_set k.held r (variable_held st takes root b.ty); names = named k.names b.number r } else record k { names = slice_set k.names b.number None })
        by true = record { names = set_name k.names b.number r low f.names; held = length_set k.held r (variable_held st takes root b.ty) ∙ f.held; credits = f.credits }
        by false = record { names = unset_name k.names b.number f.names; held = f.held; credits = f.credits }

  fits_cell : (st : Setting) (takes : Bool) (t c : ℕ) (ps : Patterns) (r : ℕ) (k : Known) → r < n → Fits n k → Fits n (with_cell st takes t c ps r k)
  fits_cell st false t c ps r k low f = f
  fits_cell st true t c NoPatterns r k low f = by (is_scalar st t)
    where
      by : (y : Bool) → Fits n (if y then k else record k { held = slice_set k.held r (H.Bare t c) })
      by true = f
      by false = fits_set k r (H.Bare t c) f
  fits_cell st true t c (MorePatterns p ps) r k low f = fits_credit k (suc (count_patterns ps)) r low f

  mutual
    fits_entering : (st : Setting) (takes : Bool) (root : Option ℕ) (q : Pattern) (s : Spot) (k : Known) → register s < n → Under n (below s) → Fits n k → Fits n (entering st takes root q s k)
    fits_entering st takes root (BinderPattern b) (At r fs) k low u f = fits_variable st takes root b r k low f
    fits_entering st takes root (LiteralPattern i p) (At r fs) k low u f = f
    fits_entering st takes root (ConstructorPattern t d c m p ps) (At r fs) k low u f = fits_all st takes root ps fs (with_cell st takes t c ps r k) u (fits_cell st takes t c ps r k low f)

    fits_all : (st : Setting) (takes : Bool) (root : Option ℕ) (ps : Patterns) (ss : Spots) (k : Known) → Under n (all_in ss) → Fits n k → Fits n (entering_all st takes root ps ss k)
    fits_all st takes root NoPatterns ss k u f = f
    fits_all st takes root (MorePatterns p ps) NoSpots k u f = f
    fits_all st takes root (MorePatterns p ps) (MoreSpots s ss) k u f =
        fits_all st takes root ps ss (entering st takes root p s k) (right_under (below s) (all_in ss) u.1) (fits_entering st takes root p s k u.0 (left_under (below s) (all_in ss) u.1) f)

  fits_spent : (takes : Bool) (r : ℕ) (k : Known) → Fits n k → Fits n (spent_if takes r k)
  fits_spent true r k f = fits_held k (used k.held r) (length_used k.held r) f
  fits_spent false r k f = f

  pub fits_root : (st : Setting) (takes : Bool) (q : Pattern) (s : Spot) (k : Known) → register s < n → Under n (below s) → Fits n k → Fits n (entering_root st takes q s k)
  fits_root st takes (BinderPattern b) (At r fs) k low u f = record { names = set_name k.names b.number r low f.names; held = f.held; credits = f.credits }
  fits_root st takes (LiteralPattern i p) (At r fs) k low u f = f
  fits_root st takes (ConstructorPattern t d c m p ps) (At r fs) k low u f =
      fits_entering st takes (root_of r (get_or k.held r H.Nothing)) (ConstructorPattern t d c m p ps) (At r fs) (spent_if takes r k) low u (fits_spent takes r k f)

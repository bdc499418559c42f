-- Binders: their numbers, and those that a node owns.
use Rattle.std.proofs.Common.{◌≡◌, ℕ, zero, suc, ◌<◌, ◌≤◌, ◌+◌, ◌-◌, refl, sym, ap, ◌∙◌, subst, List, [], ◌∷◌, ◌++◌, length, get_or, take, drop, Bool, true, false, Vec, Global, arith, nat_lt}
use Rattle.std.proofs.lemmas.Bool.Decides.{nat_tests}
use Rattle.fip_trees.specs.fip_language.declared.Place.{Place}
use Rattle.fip_trees.specs.declared.program.Binder.{Binder}
use Rattle.fip_trees.specs.declared.program.Pattern as P
use Rattle.fip_trees.specs.declared.program.Pattern.TheVariants as PV
use Rattle.fip_trees.specs.declared.program.Pattern.TheOpen as PO
use Rattle.fip_trees.specs.declared.program.Pattern.TheFolds.{fold-roll-Pattern}
use Rattle.fip_trees.specs.Tree as T
use Rattle.fip_trees.specs.Tree.{Name}
use Rattle.fip_trees.specs.TreeView as V
use Rattle.fip_trees.proofs.TreeViews.{pattern_constructor}
use Rattle.fip_rules.specs.World.{World}
use Rattle.fip_rules.specs.Shapes.{binders, binders_all}
use Rattle.ownership_calculus.specs.Terms.{given}
use Rattle.derivation_check.specs.Scopes.{AreNumbered}
use Rattle.derivation_check.specs.Calculus.{numbers}
use Rattle.derivation_check.specs.Owned.{Rising}
use Rattle.derivation_check.proofs.Numbers.{drop_item, drop_end, drop_one, drop_nothing, drop_rising, given_before, given_past, rising_take, same_rising}
use Rattle.fip_base.proofs.fip_language.Facts.{append_associates as append_assoc, append_nil, length_append as length_more}
use Rattle.derivation_check.proofs.Lines.{drop_rest}
pub use Rattle.derivation_check.proofs.Lines.{parameters_over as owns_over}

pub constructor_binders : (a : P.Pattern) (t d c : ℕ) (n : Name) (q : Place) (v : Vec P.Pattern Global) → a ≡ PV.Constructor t d c n q v → binders (V.pattern a) ≡ binders_all (V.patterns v.items)
constructor_binders a t d c n q v e = ap (λ b. binders (V.pattern b)) e ∙ ap binders (pattern_constructor t d c n q v)

pub binder_binders : (a : P.Pattern) (b : Binder) → a ≡ PV.Binder b → binders (V.pattern a) ≡ b ∷ []
binder_binders a b e = ap (λ x. binders (V.pattern x)) e ∙ ap binders (ap V.pattern (sym (PV.rolls-Binder b)) ∙ fold-roll-Pattern T.Pattern V.pattern_step (PO.Binder b))

numbered_more : (c d e f : ℕ) (us vs : List Binder) → AreNumbered c d us → e ≡ c + length us → f ≡ d + length us → AreNumbered e f vs → AreNumbered c d (us ++ vs)
numbered_more c d e f [] vs h p q g =
    let a : e ≡ c = omega arith in
    let b : f ≡ d = omega arith in
    subst (λ x. AreNumbered x d vs) a (subst (λ y. AreNumbered e y vs) b g)
numbered_more c d e f (u ∷ us) vs h p q g = (h.0, h.1, numbered_more (c + 1) (d + 1) e f us vs h.2 (omega arith) (omega arith) g)

-- the other way round
numbered_apart : (c d e f : ℕ) (us vs : List Binder) → e ≡ c + length us → f ≡ d + length us → AreNumbered c d (us ++ vs) → AreNumbered c d us × AreNumbered e f vs
numbered_apart c d e f [] vs p q h =
    let a : c ≡ e = omega arith in
    let b : d ≡ f = omega arith in
    (_, subst (λ x. AreNumbered x f vs) a (subst (λ y. AreNumbered c y vs) b h))
numbered_apart c d e f (u ∷ us) vs p q h = let g = numbered_apart (c + 1) (d + 1) e f us vs (omega arith) (omega arith) h.2 in ((h.0, h.1, g.0), g.1)

pub patterns_binders : (ps : List P.Pattern) (i : ℕ) (p : P.Pattern) → i < length ps → p ≡ get_or ps i p → binders_all (V.patterns (drop i ps)) ≡ binders (V.pattern p) ++ binders_all (V.patterns (drop (i + 1) ps))
patterns_binders ps i p l e = ap (λ qs. binders_all (V.patterns qs)) (drop_item ps i p p l e)

pub patterns_none : (ps : List P.Pattern) (i : ℕ) → length ps ≤ i → binders_all (V.patterns (drop i ps)) ≡ []
patterns_none ps i l = ap (λ qs. binders_all (V.patterns qs)) (drop_end ps i l)

-- where a walk through the patterns of a constructor is
pub record NumberedAt (c d k : ℕ) (ps : List P.Pattern) (i : ℕ) : Type 0 where
  pub count : k + length (binders_all (V.patterns (drop i ps))) ≡ length (binders_all (V.patterns ps))
  pub up : AreNumbered (c + k) (d + k) (binders_all (V.patterns (drop i ps))) → AreNumbered c d (binders_all (V.patterns ps))
  pub down : AreNumbered c d (binders_all (V.patterns ps)) → AreNumbered (c + k) (d + k) (binders_all (V.patterns (drop i ps)))

pub numbered_start : (c d : ℕ) (ps : List P.Pattern) → NumberedAt c d 0 ps 0
numbered_start c d ps = record { count = refl_zero (length (binders_all (V.patterns ps))); up = λ h. same h; down = λ h. back h }
  where
    refl_zero : (n : ℕ) → 0 + n ≡ n
    refl_zero n = omega arith

    same : AreNumbered (c + 0) (d + 0) (binders_all (V.patterns ps)) → AreNumbered c d (binders_all (V.patterns ps))
    same h = let a : c + 0 ≡ c = omega arith in let b : d + 0 ≡ d = omega arith in subst (λ x. AreNumbered x d (binders_all (V.patterns ps))) a (subst (λ y. AreNumbered (c + 0) y (binders_all (V.patterns ps))) b h)

    back : AreNumbered c d (binders_all (V.patterns ps)) → AreNumbered (c + 0) (d + 0) (binders_all (V.patterns ps))
    back h = let a : c ≡ c + 0 = omega arith in let b : d ≡ d + 0 = omega arith in subst (λ x. AreNumbered x (d + 0) (binders_all (V.patterns ps))) a (subst (λ y. AreNumbered c y (binders_all (V.patterns ps))) b h)

pub numbered_here : (c d k : ℕ) (ps : List P.Pattern) (i : ℕ) (p : P.Pattern) → NumberedAt c d k ps i → i < length ps → p ≡ get_or ps i p → AreNumbered c d (binders_all (V.patterns ps)) → AreNumbered (c + k) (d + k) (binders (V.pattern p))
numbered_here c d k ps i p h l e n = (numbered_apart (c + k) (d + k) (c + k + length (binders (V.pattern p))) (d + k + length (binders (V.pattern p))) (binders (V.pattern p)) (binders_all (V.patterns (drop (i + 1) ps))) refl refl (subst (λ bs. AreNumbered (c + k) (d + k) bs) (patterns_binders ps i p l e) (h.down n))).0

pub numbered_step : (c d k n : ℕ) (ps : List P.Pattern) (i : ℕ) (p : P.Pattern) → NumberedAt c d k ps i → i < length ps → p ≡ get_or ps i p → n ≡ length (binders (V.pattern p)) → AreNumbered (c + k) (d + k) (binders (V.pattern p)) → NumberedAt c d (k + n) ps (i + 1)
numbered_step c d k n ps i p h l e m g = record {
  count =
      let a = ap length (patterns_binders ps i p l e) in
      let b = length_more (binders (V.pattern p)) (binders_all (V.patterns (drop (i + 1) ps))) in
      let f = h.count in omega arith;
  up = λ r. h.up (subst (λ bs. AreNumbered (c + k) (d + k) bs) (sym (patterns_binders ps i p l e)) (numbered_more (c + k) (d + k) (c + (k + n)) (d + (k + n)) (binders (V.pattern p)) (binders_all (V.patterns (drop (i + 1) ps))) g (omega arith) (omega arith) r));
  down = λ r. (numbered_apart (c + k) (d + k) (c + (k + n)) (d + (k + n)) (binders (V.pattern p)) (binders_all (V.patterns (drop (i + 1) ps))) (omega arith) (omega arith) (subst (λ bs. AreNumbered (c + k) (d + k) bs) (patterns_binders ps i p l e) (h.down r))).1;
}

pub numbered_end : (c d k : ℕ) (ps : List P.Pattern) (i : ℕ) → NumberedAt c d k ps i → length ps ≤ i → (k ≡ length (binders_all (V.patterns ps))) × AreNumbered c d (binders_all (V.patterns ps))
numbered_end c d k ps i h l =
    let e = patterns_none ps i l in
    let a = ap length e in
    let f = h.count in
    (omega arith, h.up (subst (λ bs. AreNumbered (c + k) (d + k) bs) (sym e) _))

-- ---- owned binders

pub owns_scalar : (w : World) (d : ℕ) (b : Binder) (bs : List Binder) (ys : List ℕ) → w.scalar b.ty ≡ true → ys ≡ numbers w (d + 1) bs → ys ≡ numbers w d (b ∷ bs)
owns_scalar w d b bs ys e h = cc

pub owns_next : (w : World) (d i : ℕ) (b : Binder) (bs : List Binder) (ys : List ℕ) → w.scalar b.ty ≡ false → drop i ys ≡ d ∷ drop (i + 1) ys → drop (i + 1) ys ≡ numbers w (d + 1) bs → drop i ys ≡ numbers w d (b ∷ bs)
owns_next w d i b bs ys e f h = f ∙ ap (λ (xs : List ℕ). d ∷ xs) h ∙ more
  where
    more : d ∷ numbers w (d + 1) bs ≡ numbers w d (b ∷ bs)
    more = cc

pub scalar_owns : (w : World) (d : ℕ) (b : Binder) (bs : List Binder) (ys : List ℕ) → w.scalar b.ty ≡ true → ys ≡ numbers w d (b ∷ bs) → ys ≡ numbers w (d + 1) bs
scalar_owns w d b bs ys e h = cc

numbers_next : (w : World) (d : ℕ) (b : Binder) (bs : List Binder) → w.scalar b.ty ≡ false → numbers w d (b ∷ bs) ≡ d ∷ numbers w (d + 1) bs
numbers_next w d b bs e = cc

pub next_owns : (w : World) (d i : ℕ) (b : Binder) (bs : List Binder) (ys : List ℕ) → w.scalar b.ty ≡ false → drop i ys ≡ numbers w d (b ∷ bs) → drop (i + 1) ys ≡ numbers w (d + 1) bs
next_owns w d i b bs ys e h = drop_rest i d ys (numbers w (d + 1) bs) (h ∙ numbers_next w d b bs e)

pub none_owns : (w : World) (d i : ℕ) (b : Binder) (bs : List Binder) (ys : List ℕ) → w.scalar b.ty ≡ false → (drop i ys ≡ d ∷ drop (i + 1) ys → ⊥) → drop i ys ≡ numbers w d (b ∷ bs) → ⊥
none_owns w d i b bs ys e n h = n (h ∙ numbers_next w d b bs e ∙ ap (λ (xs : List ℕ). d ∷ xs) (sym (next_owns w d i b bs ys e h)))

pub record OwnsAt (w : World) (owned : List ℕ) (ps : List P.Pattern) (d q e p i : ℕ) : Type 0 where
  pub next : e + length (binders_all (V.patterns (drop i ps))) ≡ d + length (binders_all (V.patterns ps))
  pub up : (bs : List Binder) → drop p owned ≡ numbers w e (binders_all (V.patterns (drop i ps)) ++ bs) → drop q owned ≡ numbers w d (binders_all (V.patterns ps) ++ bs)
  pub down : (bs : List Binder) → drop q owned ≡ numbers w d (binders_all (V.patterns ps) ++ bs) → drop p owned ≡ numbers w e (binders_all (V.patterns (drop i ps)) ++ bs)
  pub inside : q ≤ length owned → p ≤ length owned

pub owns_start : (w : World) (owned : List ℕ) (ps : List P.Pattern) (d q : ℕ) → OwnsAt w owned ps d q d q 0
owns_start w owned ps d q = record { next = refl; up = λ bs h. h; down = λ bs h. h; inside = λ h. h }

pub owns_room : (w : World) (owned : List ℕ) (ps : List P.Pattern) (d q e p i : ℕ) (a : P.Pattern) → OwnsAt w owned ps d q e p i → i < length ps → a ≡ get_or ps i a → d + length (binders_all (V.patterns ps)) ≤ 4294967296 → e + length (binders (V.pattern a)) ≤ 4294967296
owns_room w owned ps d q e p i a h l s r =
    let x = ap length (patterns_binders ps i a l s) in
    let y = length_more (binders (V.pattern a)) (binders_all (V.patterns (drop (i + 1) ps))) in
    let z = h.next in omega arith

-- the binders of the pattern at a place, and those after it
owns_split : (w : World) (e : ℕ) (ps : List P.Pattern) (i : ℕ) (a : P.Pattern) (bs : List Binder) → i < length ps → a ≡ get_or ps i a → numbers w e (binders (V.pattern a) ++ (binders_all (V.patterns (drop (i + 1) ps)) ++ bs)) ≡ numbers w e (binders_all (V.patterns (drop i ps)) ++ bs)
owns_split w e ps i a bs l s = ap (numbers w e) (append_assoc (binders (V.pattern a)) (binders_all (V.patterns (drop (i + 1) ps))) bs ∙ ap (λ (us : List Binder). us ++ bs) (sym (patterns_binders ps i a l s)))

pub owns_step : (w : World) (owned : List ℕ) (ps : List P.Pattern) (d q e p f r i : ℕ) (a : P.Pattern) → OwnsAt w owned ps d q e p i → i < length ps → a ≡ get_or ps i a → f ≡ e + length (binders (V.pattern a)) → ((bs : List Binder) → drop r owned ≡ numbers w f bs → drop p owned ≡ numbers w e (binders (V.pattern a) ++ bs)) → ((bs : List Binder) → drop p owned ≡ numbers w e (binders (V.pattern a) ++ bs) → drop r owned ≡ numbers w f bs) → (p ≤ length owned → r ≤ length owned) → OwnsAt w owned ps d q f r (i + 1)
owns_step w owned ps d q e p f r i a h l s n g k m = record {
  next =
      let x = ap length (patterns_binders ps i a l s) in
      let y = length_more (binders (V.pattern a)) (binders_all (V.patterns (drop (i + 1) ps))) in
      let z = h.next in omega arith;
  up = λ bs j. h.up bs (g (binders_all (V.patterns (drop (i + 1) ps)) ++ bs) j ∙ owns_split w e ps i a bs l s);
  down = λ bs j. k (binders_all (V.patterns (drop (i + 1) ps)) ++ bs) (h.down bs j ∙ sym (owns_split w e ps i a bs l s));
  inside = λ j. m (h.inside j);
}

pub owns_refused : (w : World) (owned : List ℕ) (ps : List P.Pattern) (d q e p i : ℕ) (a : P.Pattern) → OwnsAt w owned ps d q e p i → i < length ps → a ≡ get_or ps i a → ((bs : List Binder) → drop p owned ≡ numbers w e (binders (V.pattern a) ++ bs) → ⊥) → (bs : List Binder) → drop q owned ≡ numbers w d (binders_all (V.patterns ps) ++ bs) → ⊥
owns_refused w owned ps d q e p i a h l s n bs j = n (binders_all (V.patterns (drop (i + 1) ps)) ++ bs) (h.down bs j ∙ sym (owns_split w e ps i a bs l s))

pub owns_end : (w : World) (owned : List ℕ) (ps : List P.Pattern) (d q e p i : ℕ) → OwnsAt w owned ps d q e p i → length ps ≤ i → (e ≡ d + length (binders_all (V.patterns ps))) × ((bs : List Binder) → drop p owned ≡ numbers w e bs → drop q owned ≡ numbers w d (binders_all (V.patterns ps) ++ bs)) × ((bs : List Binder) → drop q owned ≡ numbers w d (binders_all (V.patterns ps) ++ bs) → drop p owned ≡ numbers w e bs) × (q ≤ length owned → p ≤ length owned)
owns_end w owned ps d q e p i h l =
    let n = patterns_none ps i l in
    let x = ap length n in
    let z = h.next in
    (omega arith, λ bs k. h.up bs (k ∙ ap (λ (us : List Binder). numbers w e (us ++ bs)) (sym n)), λ bs k. h.down bs k ∙ ap (λ (us : List Binder). numbers w e (us ++ bs)) n, h.inside)

-- ---- sums

pub given_parts : (x k : ℕ) (xs : List ℕ) → given x (take k xs) + given x (drop k xs) ≡ given x xs
given_parts x zero [] = refl
given_parts x (suc k) [] = refl
given_parts x zero (y ∷ ys) = omega arith
given_parts x (suc k) (y ∷ ys) = let h = given_parts x k ys in omega arith

pub lets_used : (whole used left : List ℕ) (k : ℕ) → ((x : ℕ) → given x whole ≡ given x used + given x (take k left)) → (x : ℕ) → given x used ≤ given x whole
lets_used whole used left k h x = let e = h x in omega arith

take_nil : {A : Type 0} (n : ℕ) (xs : List A) → length xs ≡ 0 → take n xs ≡ xs
take_nil zero [] e = refl
take_nil (suc n) [] e = refl
take_nil n (x ∷ xs) e = absurd (omega arith)

pub take_rest : {A : Type 0} (k : ℕ) (xs : List A) → take (length xs - k) (drop k xs) ≡ drop k xs
take_rest zero [] = refl
take_rest (suc k) [] = take_nil (0 - suc k) [] refl
take_rest {A} zero (x ∷ xs) = take_whole (length (x ∷ xs) - 0) (x ∷ xs) (omega arith)
  where
    take_whole : (n : ℕ) (ys : List A) → n ≡ length ys → take n ys ≡ ys
    take_whole zero [] e = refl
    take_whole (suc n) [] e = refl
    take_whole zero (y ∷ ys) e = absurd (omega arith)
    take_whole (suc n) (y ∷ ys) e = ap (λ (zs : List A). y ∷ zs) (take_whole n ys (omega arith))
take_rest (suc k) (x ∷ xs) = let e : length (x ∷ xs) - suc k ≡ length xs - k = omega arith in ap (λ n. take n (drop k xs)) e ∙ take_rest k xs

pub takes_end : (w : World) (high : List ℕ) (p d e : ℕ) (qs : List Binder) → p ≡ length high → ((bs : List Binder) → drop p high ≡ numbers w e bs → drop 0 high ≡ numbers w d (qs ++ bs)) → high ≡ numbers w d qs
takes_end w high p d e qs l f = drop_zero high ∙ f [] (drop_end high p (omega arith)) ∙ ap (numbers w d) (append_nil qs)
  where
    drop_zero : (xs : List ℕ) → xs ≡ drop 0 xs
    drop_zero [] = refl
    drop_zero (x ∷ xs) = refl

pub lets_left : (whole used left bs : List ℕ) (k : ℕ) → ((x : ℕ) → given x whole ≡ given x used + given x (take k left)) → drop k left ≡ bs → (x : ℕ) → given x whole + given x bs ≡ given x used + given x left
lets_left whole used left bs k h e x = let a = h x in let b = given_parts x k left in let c = ap (given x) e in omega arith

pub takes_left : (whole one left bs : List ℕ) (k : ℕ) → ((x : ℕ) → given x whole ≡ given x one + given x (take k left)) → drop k left ≡ bs → (x : ℕ) → given x left + given x one ≡ given x whole + given x bs
takes_left whole one left bs k h e x = let a = h x in let b = given_parts x k left in let c = ap (given x) e in omega arith

-- ---- the other way round

pub numbers_rise : (w : World) (n d : ℕ) (bs : List Binder) → n ≤ d → Rising n (d + length bs) (numbers w d bs)
numbers_rise w n d [] l = _
numbers_rise w n d (b ∷ bs) l = by (w.scalar b.ty) refl (numbers_rise w n (d + 1) bs (omega arith)) (numbers_rise w (d + 1) (d + 1) bs (omega arith))
  where
    top : d + 1 + length bs ≡ d + length (b ∷ bs)
    top = omega arith

    by : (t : Bool) → w.scalar b.ty ≡ t → Rising n (d + 1 + length bs) (numbers w (d + 1) bs) → Rising (d + 1) (d + 1 + length bs) (numbers w (d + 1) bs) → Rising n (d + length (b ∷ bs)) (numbers w d (b ∷ bs))
    by true e f g = subst (Rising n (d + length (b ∷ bs))) (let q : numbers w (d + 1) bs ≡ numbers w d (b ∷ bs) = cc in q) (subst (λ k. Rising n k (numbers w (d + 1) bs)) top f)
    by false e f g = subst (Rising n (d + length (b ∷ bs))) (sym (numbers_next w d b bs e)) (l, omega arith, subst (λ k. Rising (d + 1) k (numbers w (d + 1) bs)) top g)

-- Below a bound are the variables of a whole, of a part and of the rest; from it on those of the rest that are new.
pub record Apart (next m k : ℕ) (whole used left new : List ℕ) : Type 0 where
  pub whole_below : Rising 0 next whole
  pub used_below : Rising 0 next used
  pub left_rises : Rising 0 m left
  pub new_above : Rising next m new
  pub sum : (x : ℕ) → given x whole + given x new ≡ given x used + given x left
  pub low : (x : ℕ) → next ≤ x → given x (take k left) ≡ 0
  pub high : (x : ℕ) → x < next → given x (drop k left) ≡ 0

pub apart_low : (next m k : ℕ) (whole used left new : List ℕ) → Apart next m k whole used left new → (x : ℕ) → given x whole ≡ given x used + given x (take k left)
apart_low next m k whole used left new h x = by (nat_lt x next) refl
  where
    by : (b : Bool) → nat_lt x next ≡ b → given x whole ≡ given x used + given x (take k left)
    by true e =
        let l : x < next = grind (arith, nat_tests) in
        let a = given_before next m x new h.new_above l in
        let s = h.sum x in let g = h.high x l in let p = given_parts x k left in omega arith
    by false e =
        let l : next ≤ x = grind (arith, nat_tests) in
        let a = given_past 0 next x whole h.whole_below l in
        let b = given_past 0 next x used h.used_below l in
        let g = h.low x l in omega arith

pub apart_high : (next m k : ℕ) (whole used left new : List ℕ) → Apart next m k whole used left new → drop k left ≡ new
apart_high next m k whole used left new h =
    let r = drop_rising 0 m k left h.left_rises in
    same_rising r.0 m next m (drop k left) new r.2 h.new_above (λ x. same x)
  where
    same : (x : ℕ) → given x (drop k left) ≡ given x new
    same x = by (nat_lt x next) refl
      where
        by : (b : Bool) → nat_lt x next ≡ b → given x (drop k left) ≡ given x new
        by true e =
            let l : x < next = grind (arith, nat_tests) in
            let a = given_before next m x new h.new_above l in
            let g = h.high x l in omega arith
        by false e =
            let l : next ≤ x = grind (arith, nat_tests) in
            let a = given_past 0 next x whole h.whole_below l in
            let b = given_past 0 next x used h.used_below l in
            let s = h.sum x in let g = h.low x l in let p = given_parts x k left in omega arith

pub lets_apart : (w : World) (next k : ℕ) (whole used left : List ℕ) (bs : List Binder) → Rising 0 next whole → Rising 0 next used → Rising 0 (next + length bs) left → ((x : ℕ) → given x whole + given x (numbers w next bs) ≡ given x used + given x left) → ((x : ℕ) → next ≤ x → given x (take k left) ≡ 0) → ((x : ℕ) → x < next → given x (drop k left) ≡ 0) → Apart next (next + length bs) k whole used left (numbers w next bs)
lets_apart w next k whole used left bs a b c s f g = record { whole_below = a; used_below = b; left_rises = c; new_above = numbers_rise w next next bs (omega arith); sum = s; low = f; high = g }

pub takes_apart : (w : World) (next k taken : ℕ) (whole left : List ℕ) (bs : List Binder) → Rising 0 next whole → taken < next → Rising 0 (next + length bs) left → ((x : ℕ) → given x left + given x (taken ∷ []) ≡ given x whole + given x (numbers w next bs)) → ((x : ℕ) → next ≤ x → given x (take k left) ≡ 0) → ((x : ℕ) → x < next → given x (drop k left) ≡ 0) → Apart next (next + length bs) k whole (taken ∷ []) left (numbers w next bs)
takes_apart w next k taken whole left bs a b c s f g = record { whole_below = a; used_below = (omega arith, b, _); left_rises = c; new_above = numbers_rise w next next bs (omega arith); sum = λ x. (let e = s x in omega arith); low = f; high = g }

pub takes_start : (w : World) (high : List ℕ) (d : ℕ) (qs : List Binder) → high ≡ numbers w d qs → drop 0 high ≡ numbers w d (qs ++ [])
takes_start w high d qs e = none high ∙ e ∙ ap (numbers w d) (sym (append_nil qs))
  where
    none : (xs : List ℕ) → drop 0 xs ≡ xs
    none [] = refl
    none (x ∷ xs) = refl

pub ruleset numbering = (numbered_start, numbered_here, numbered_step, numbered_end)

pub ruleset owning_one = (owns_scalar, owns_next, scalar_owns, next_owns, none_owns)

pub ruleset owning = (owns_start, owns_room, owns_step, owns_refused, owns_end)

pub ruleset lets = (lets_used, lets_left)

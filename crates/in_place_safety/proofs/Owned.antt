-- The owned parameters of an instance together hold the cells of the arguments that aren't borrowed.
use Rattle.std.proofs.Common.{◌≡◌, ◌<◌, ℕ, suc, ◌+◌, Bool, true, false, List, [], ◌∷◌, map, length, if◌then◌else◌, ◌==◌, refl, sym, ap, ◌∙◌, subst, arith}
use Rattle.tail_groups.specs.fip_language.Values.{Value, Values, End, More, cells}
use Rattle.tail_groups.specs.fip_language.Table.{Table, is_scalar, HasType, HaveTypes}
use Rattle.tail_groups.specs.fip_base.declared.plain.Param.{Param}
use Rattle.tail_groups.specs.fip_trees.declared.program.Binder.{Binder}
use Rattle.type_safety.specs.type_check.World.{type_of}
use Rattle.type_safety.specs.type_check.Typing.{Parameters}
use Rattle.ownership_agreement.specs.fip_rules.World.{World}
use Rattle.ownership_agreement.specs.ownership_calculus.Terms.{has}
use Rattle.ownership_agreement.specs.Bodies.{owned_parameters}
use Rattle.ownership_agreement.proofs.Basics.{apart}
use Rattle.in_place_safety.specs.Conservation.{owned_cells}
use Rattle.in_place_safety.specs.Counts.{Held, total, Once}
use Rattle.in_place_safety.proofs.Tracking.{held_with, held_new, held_old, scalar_cells}
use Rattle.in_place_safety.proofs.Binding.{held_all}

module _ (tb : Table) where
  unchanged_below : (n : ℕ) (bs : List Binder) (vs : Values) (held : Held) (x k : ℕ) → x < n → held_all (is_scalar tb) n bs vs held x k ≡ held x k
  unchanged_below n [] vs held x k l = refl
  unchanged_below n (b ∷ bs) End held x k l = refl
  unchanged_below n (b ∷ bs) (More v vs) held x k l =
      unchanged_below (suc n) bs vs (held_with (is_scalar tb b.ty) n v held) x k (omega arith) ∙ held_old (is_scalar tb b.ty) n v held x k (apart x n l)

module _ (tb : Table) (w : World) (is : w.scalar ≡ is_scalar tb) where
  -- one parameter before others
  abbrev owned_one : Bool → Bool → ℕ → List ℕ → List ℕ
  owned_one true lent n ys = ys
  owned_one false true n ys = ys
  owned_one false false n ys = n ∷ ys

  abbrev owned_of : ℕ → List Param → List Binder → List ℕ
  owned_of n ps [] = []
  owned_of n [] (b ∷ bs) = []
  owned_of n (p ∷ ps) (b ∷ bs) = owned_one (is_scalar tb p.ty) p.lent n (owned_of (suc n) ps bs)

  one_if : (s l : Bool) (n : ℕ) (ys : List ℕ) → owned_one s l n ys ≡ (if s then ys else (if l then ys else n ∷ ys))
  one_if true l n ys = refl
  one_if false true n ys = refl
  one_if false false n ys = refl

  pub owned_are : (n : ℕ) (ps : List Param) (bs : List Binder) → owned_of n ps bs ≡ owned_parameters w n ps bs
  owned_are n ps [] = refl
  owned_are n [] (b ∷ bs) = refl
  owned_are n (p ∷ ps) (b ∷ bs) =
      one_if (is_scalar tb p.ty) p.lent n (owned_of (suc n) ps bs)
      ∙ ap (λ ys. if is_scalar tb p.ty then ys else (if p.lent then ys else n ∷ ys)) (owned_are (suc n) ps bs)
      ∙ ap (λ (f : ℕ → Bool). if f p.ty then owned_parameters w (suc n) ps bs else (if p.lent then owned_parameters w (suc n) ps bs else n ∷ owned_parameters w (suc n) ps bs)) (sym is)

  one_below : (s l : Bool) (n x : ℕ) (ys : List ℕ) → (n == x) ≡ false → has ys x ≡ false → has (owned_one s l n ys) x ≡ false
  one_below true l n x ys e h = h
  one_below false true n x ys e h = h
  one_below false false n x ys e h = rw (e) h

  none_below : (n x : ℕ) (ps : List Param) (bs : List Binder) → x < n → has (owned_of n ps bs) x ≡ false
  none_below n x ps [] l = refl
  none_below n x [] (b ∷ bs) l = refl
  none_below n x (p ∷ ps) (b ∷ bs) l = one_below (is_scalar tb p.ty) p.lent n x (owned_of (suc n) ps bs) (apart x n l) (none_below (suc n) x ps bs (omega arith))

  once_one : (s l : Bool) (n : ℕ) (ys : List ℕ) → has ys n ≡ false → Once ys → Once (owned_one s l n ys)
  once_one true l n ys h o = o
  once_one false true n ys h o = o
  once_one false false n ys h o = (h, o)

  once_owned : (n : ℕ) (ps : List Param) (bs : List Binder) → Once (owned_of n ps bs)
  once_owned n ps [] = tt
  once_owned n [] (b ∷ bs) = tt
  once_owned n (p ∷ ps) (b ∷ bs) = once_one (is_scalar tb p.ty) p.lent n (owned_of (suc n) ps bs) (none_below (suc n) n ps bs (omega arith)) (once_owned (suc n) ps bs)

  total_one : (s l : Bool) (n : ℕ) (v : Value) (t : ℕ) (ys : List ℕ) (new : Held) (k m : ℕ) → s ≡ is_scalar tb t → HasType tb t v → (s ≡ false → new n k ≡ cells k v) → total new ys k ≡ m → total new (owned_one s l n ys) k ≡ (if l then 0 else cells k v) + m
  total_one true true n v t ys new k m e g h r = omega arith
  total_one true false n v t ys new k m e g h r = let none = scalar_cells tb t v k (sym e) g in omega arith
  total_one false true n v t ys new k m e g h r = omega arith
  total_one false false n v t ys new k m e g h r = let one = h refl in omega arith

  owned_totals : (n : ℕ) (ps : List Param) (bs : List Binder) (vs : Values) (held : Held) (k : ℕ) → length bs ≡ length ps → Parameters true ps bs → HaveTypes tb (map type_of ps) vs → total (held_all (is_scalar tb) n bs vs held) (owned_of n ps bs) k ≡ owned_cells k ps vs
  owned_totals n [] [] vs held k e h g = refl
  owned_totals n [] (b ∷ bs) vs held k e h g = absurd (omega arith)
  owned_totals n (p ∷ ps) [] vs held k e h g = absurd (omega arith)
  owned_totals n (p ∷ ps) (b ∷ bs) End held k e h g = absurd g
  owned_totals n (p ∷ ps) (b ∷ bs) (More v vs) held k e h g =
      let one : Held = held_with (is_scalar tb b.ty) n v held in
      total_one (is_scalar tb p.ty) p.lent n v p.ty (owned_of (suc n) ps bs) (held_all (is_scalar tb) (suc n) bs vs one) k (owned_cells k ps vs) refl g.0
      (λ z. unchanged_below tb (suc n) bs vs one n k (omega arith) ∙ held_new (is_scalar tb b.ty) n v held k (ap (is_scalar tb) h.0 ∙ z))
      (owned_totals (suc n) ps bs vs one k (omega arith) h.1 g.1)

  pub owned_once : (n : ℕ) (ps : List Param) (bs : List Binder) → Once (owned_parameters w n ps bs)
  owned_once n ps bs = subst Once (owned_are n ps bs) (once_owned n ps bs)

  pub owned_total : (n : ℕ) (ps : List Param) (bs : List Binder) (vs : Values) (held : Held) (k : ℕ) → length bs ≡ length ps → Parameters true ps bs → HaveTypes tb (map type_of ps) vs → total (held_all (is_scalar tb) n bs vs held) (owned_parameters w n ps bs) k ≡ owned_cells k ps vs
  owned_total n ps bs vs held k e h g = ap (λ ys. total (held_all (is_scalar tb) n bs vs held) ys k) (sym (owned_are n ps bs)) ∙ owned_totals n ps bs vs held k e h g

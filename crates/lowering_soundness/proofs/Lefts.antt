-- The constructors that a value may still have, and positions of which nothing was found out.
use Rattle.std.proofs.Common.{◌≡◌, inl, inr, ℕ, zero, suc, ◌+◌, ◌<◌, ◌≤◌, Bool, true, false, not, ◌||◌, List, [], ◌∷◌, length, refl, sym, ap, ◌∙◌, subst, true≢false, arith, if◌then◌else◌, ◌==◌}
use Rattle.separation.specs.fip_language.Table.{Table, constructors, shapes}
use Rattle.separation.specs.fip_language.Every.{Among}
use Rattle.separation.specs.code_rules.Types.{numbers, count, all, fields, fields_of}
use Rattle.separation.specs.code_rules.Kinds.{has}
use Rattle.separation.specs.code_rules.Changes.{without}
use Rattle.separation.proofs.separation_kinds.Basics.{chosen, refused, or_not, equal, equal_is, unequal, unequal_is, get_within}
use Rattle.lowering_relation.specs.match_knowledge.declared.heads.Head.{Head}
use Rattle.lowering_relation.specs.match_knowledge.declared.heads.Head.TheVariants.{Tag}
use Rattle.lowering_relation.specs.match_knowledge.ValueHeads.{IsHead}
use Rattle.lowering_relation.specs.match_knowledge.Patterns as M
use Rattle.lowering_relation.specs.match_knowledge.Patterns.{ArePatterns}
use Rattle.lowering_relation.specs.match_knowledge.Known.{Open, Is, Knowns, is_in, opens, none_left}
use Rattle.lowering_relation.proofs.match_knowledge.Living.{is_all_out}
use Rattle.lowering_relation.specs.Sights.{kept, not_in, is_tag, left, AllFresh}

-- ---- lists that are sifted

kept_one : (p q : ℕ → Bool) (x : ℕ) (xs ys : List ℕ) → p x ≡ q x → xs ≡ ys → (if p x then x ∷ xs else xs) ≡ (if q x then x ∷ ys else ys)
kept_one p q x xs ys e same = ap (λ b. if b then x ∷ xs else xs) e ∙ ap (λ zs. if q x then x ∷ zs else zs) same

pub kept_same : (p q : ℕ → Bool) (xs : List ℕ) → ((x : ℕ) → Among x xs → p x ≡ q x) → kept p xs ≡ kept q xs
kept_same p q [] h = refl
kept_same p q (x ∷ xs) h = kept_one p q x (kept p xs) (kept q xs) (h x (inl refl)) (kept_same p q xs (λ y a. h y (inr a)))

pub kept_all : (p : ℕ → Bool) (xs : List ℕ) → ((x : ℕ) → p x ≡ true) → kept p xs ≡ xs
kept_all p [] h = refl
kept_all p (x ∷ xs) h = chosen (p x) (x ∷ kept p xs) (kept p xs) (h x) ∙ ap (λ ys. x ∷ ys) (kept_all p xs h)

kept_none : (i n c : ℕ) → c < i → kept (is_tag (Tag c)) (numbers i n) ≡ []
kept_none i zero c low = refl
kept_none i (suc n) c low = refused (c == i) (i ∷ kept (is_tag (Tag c)) (numbers (suc i) n)) (kept (is_tag (Tag c)) (numbers (suc i) n)) (unequal_is c i (λ e. absurd (let z : ⊥ = omega (arith, low, e) in z))) ∙ kept_none (suc i) n c (omega (arith, low))

kept_tag : (i n c : ℕ) → i ≤ c → c < i + n → kept (is_tag (Tag c)) (numbers i n) ≡ c ∷ []
kept_tag i zero c low high = absurd (omega (arith, low, high))
kept_tag i (suc n) c low high = elim (or_not (c == i)) as (λ v. kept (is_tag (Tag c)) (numbers i (suc n)) ≡ c ∷ []) [
  | inl e ↦ chosen (c == i) (i ∷ kept (is_tag (Tag c)) (numbers (suc i) n)) (kept (is_tag (Tag c)) (numbers (suc i) n)) e
      ∙ (ap (λ ys. i ∷ ys) (kept_none (suc i) n c (let z = equal c i e in omega (arith, z))) ∙ ap (λ x. x ∷ []) (sym (equal c i e)))
  | inr e ↦ refused (c == i) (i ∷ kept (is_tag (Tag c)) (numbers (suc i) n)) (kept (is_tag (Tag c)) (numbers (suc i) n)) e
      ∙ kept_tag (suc i) n c (let z = unequal c i e in omega (arith, z, low)) (omega (arith, high))
]

pub numbers_below : (i n x : ℕ) → Among x (numbers i n) → x < i + n
numbers_below i zero x m = absurd m
numbers_below i (suc n) x (inl e) = omega (arith, e)
numbers_below i (suc n) x (inr m) = let z = numbers_below (suc i) n x m in omega (arith, z)

numbers_there : (i n x : ℕ) → i ≤ x → x < i + n → Among x (numbers i n)
numbers_there i zero x low high = absurd (omega (arith, low, high))
numbers_there i (suc n) x low high = elim (or_not (x == i)) as (λ v. Among x (numbers i (suc n))) [
  | inl e ↦ inl (equal x i e)
  | inr e ↦ inr (numbers_there (suc i) n x (let z = unequal x i e in omega (arith, z, low)) (omega (arith, high)))
]

more_has : (b : Bool) (y : ℕ) (xs : List ℕ) (x : ℕ) → has xs x ≡ true → has (if b then y ∷ xs else xs) x ≡ true
more_has true y xs x h = or_true (y == x) (has xs x) h
  where
    or_true : (a b : Bool) → b ≡ true → (a || b) ≡ true
    or_true true b e = refl
    or_true false b e = e
more_has false y xs x h = h

pub kept_has : (p : ℕ → Bool) (xs : List ℕ) (x : ℕ) → Among x xs → p x ≡ true → has (kept p xs) x ≡ true
kept_has p [] x m h = absurd m
kept_has p (y ∷ xs) x (inl e) h =
    ap (λ ys. has ys x) (chosen (p y) (y ∷ kept p xs) (kept p xs) (ap p (sym e) ∙ h)) ∙ ap (λ b. b || has (kept p xs) x) (equal_is y x (sym e))
kept_has p (y ∷ xs) x (inr m) h = more_has (p y) y (kept p xs) x (kept_has p xs x m h)

-- ---- what is left

pub left_open : (w : Table) (t : ℕ) → left w t (Open []) ≡ all w t
left_open w t = kept_all (not_in []) (all w t) (λ x. refl)

pub left_tag : (w : Table) (t c : ℕ) (ks : Knowns) → c < count w t → left w t (Is (Tag c) ks) ≡ c ∷ []
left_tag w t c ks low = kept_tag 0 (count w t) c (omega arith) (omega (arith, low))

pub left_has : (w : Table) (t c : ℕ) (out : List Head) → c < count w t → is_in (Tag c) out ≡ false → has (left w t (Open out)) c ≡ true
left_has w t c out low none = kept_has (not_in out) (all w t) c (numbers_there 0 (count w t) c (omega arith) (omega (arith, low))) (ap not none)

in_one : (c n : ℕ) (out : List Head) → (c == n) ≡ false → is_in (Tag n) (Tag c ∷ out) ≡ is_in (Tag n) out
in_one c n out e = refused (c == n) true (is_in (Tag n) out) e

in_here : (c n : ℕ) (out : List Head) → (c == n) ≡ true → is_in (Tag n) (Tag c ∷ out) ≡ true
in_here c n out e = chosen (c == n) true (is_in (Tag n) out) e

-- one constructor is out
kept_without : (c : ℕ) (out : List Head) (xs : List ℕ) → kept (not_in (Tag c ∷ out)) xs ≡ without c (kept (not_in out) xs)
kept_without c out [] = refl
kept_without c out (x ∷ xs) = elim (or_not (c == x)) as (λ v. kept (not_in (Tag c ∷ out)) (x ∷ xs) ≡ without c (kept (not_in out) (x ∷ xs))) [
  | inl e ↦ refused (not_in (Tag c ∷ out) x) (x ∷ kept (not_in (Tag c ∷ out)) xs) (kept (not_in (Tag c ∷ out)) xs) (ap not (in_here c x out e))
      ∙ (kept_without c out xs ∙ sym (dropped (not_in out x) x (kept (not_in out) xs) (equal_is x c (sym (equal c x e)))))
  | inr e ↦ ap (λ b. if b then x ∷ kept (not_in (Tag c ∷ out)) xs else kept (not_in (Tag c ∷ out)) xs) (ap not (in_one c x out e))
      ∙ (ap (λ ys. if not_in out x then x ∷ ys else ys) (kept_without c out xs) ∙ sym (stays (not_in out x) x (kept (not_in out) xs) (unequal_is x c (λ z. unequal c x e (sym z)))))
]
  where
    dropped : (b : Bool) (x : ℕ) (ys : List ℕ) → (x == c) ≡ true → without c (if b then x ∷ ys else ys) ≡ without c ys
    dropped true x ys e = chosen (x == c) (without c ys) (x ∷ without c ys) e
    dropped false x ys e = refl

    stays : (b : Bool) (x : ℕ) (ys : List ℕ) → (x == c) ≡ false → without c (if b then x ∷ ys else ys) ≡ (if b then x ∷ without c ys else without c ys)
    stays true x ys e = refused (x == c) (without c ys) (x ∷ without c ys) e
    stays false x ys e = refl

pub left_without : (w : Table) (t c : ℕ) (out : List Head) → left w t (Open (Tag c ∷ out)) ≡ without c (left w t (Open out))
left_without w t c out = kept_without c out (all w t)

-- where no other constructor is left
pub left_last : (w : Table) (t c : ℕ) (out : List Head) (ks : Knowns) → none_left w t (Tag c ∷ out) ≡ true → is_in (Tag c) out ≡ false → left w t (Is (Tag c) ks) ≡ left w t (Open out)
left_last w zero c out ks last none = absurd (true≢false (sym last))
left_last w (suc t) c out ks last none = kept_same (is_tag (Tag c)) (not_in out) (all w (suc t)) each
  where
    each : (x : ℕ) → Among x (all w (suc t)) → (c == x) ≡ not (is_in (Tag x) out)
    each x m = elim (or_not (c == x)) as (λ v. (c == x) ≡ not (is_in (Tag x) out)) [
      | inl e ↦ e ∙ sym (ap not (ap (λ y. is_in (Tag y) out) (sym (equal c x e)) ∙ none))
      | inr e ↦ e ∙ sym (ap not (sym (in_one c x out e) ∙ is_all_out (length (constructors w (suc t))) x (Tag c ∷ out) last (let z = numbers_below 0 (count w (suc t)) x m in omega (arith, z))))
    ]

-- ---- heads

pub head_fields : (w : Table) (t c : ℕ) (fs : List ℕ) → IsHead w t (Tag c) fs → (c < count w t) × (fields w t c ≡ fs)
head_fields w zero c fs h = absurd h
head_fields w (suc t) c fs h = (get_within (shapes w t) c h.0 h.1, ap fields_of h.1 ∙ h.2)

-- ---- nothing is found out at first

pub opens_fresh : (w : Table) (ts : List ℕ) (ps : M.Patterns) → ArePatterns w ts ps → AllFresh w ts (opens ps)
opens_fresh w [] ps are = tt
opens_fresh w (t ∷ ts) M.NoPatterns are = absurd are
opens_fresh w (t ∷ ts) (M.MorePatterns p ps) are = (left_open w t, opens_fresh w ts ps are.1)

-- of a constructor that a pattern has
pub head_fresh : (w : Table) (t n : ℕ) (fs : List ℕ) (ps : M.Patterns) → IsHead w t (Tag n) fs → ArePatterns w fs ps → AllFresh w (fields w t n) (opens ps)
head_fresh w t n fs ps h are = opens_fresh w (fields w t n) ps (subst (λ ts. ArePatterns w ts ps) (sym (head_fields w t n fs h).1) are)

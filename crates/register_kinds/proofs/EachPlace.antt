-- What a change of each kind in a list of registers makes of all.
use Rattle.std.proofs.Common.{◌≡◌, ℕ, ◌≤◌, inl, inr, List, [], ◌∷◌, length, drop, map, set, refl, sym, ap, ◌∙◌}
use Rattle.std.specs.Prelude.{Bool, true, false, ◌||◌, ◌==◌}
use Rattle.std.proofs.lemmas.Bool.Decides.{eqb_tells}
use Rattle.kind_domain.specs.cell_code.declared.kind.Kind.{Kind}
use Rattle.kind_domain.specs.cell_code.declared.kind.Kind.TheVariants.{Gone}
use Rattle.kind_domain.specs.code_rules.Kinds.{at, has}
use Rattle.register_kinds.specs.Steps.{each}
use Rattle.kind_domain.proofs.fip_language.Facts.{drop_past as past_end}
use Rattle.kind_domain.proofs.Places.{set_long, at_set_own, at_set_other, same_at, map_long, at_map}

pub each_long : (f : Kind → Kind) (ks : List Kind) (qs : List ℕ) → length (each f ks qs) ≡ length ks
each_long f ks [] = refl
each_long f ks (q ∷ qs) = each_long f (set ks q (f (at ks q))) qs ∙ set_long ks q (f (at ks q))

-- the first where the test is passed
abbrev pub pick : Bool → Kind → Kind → Kind
pick true a b = a
pick false a b = b

pub set_pick : (f : Kind → Kind) → f Gone ≡ Gone → (ks : List Kind) (x q : ℕ) →
    at (set ks x (f (at ks x))) q ≡ pick (x == q) (f (at ks q)) (at ks q)
set_pick f e ks x q =
    elim (eqb_tells x q) [
      | inl h ↦ rw (h.0, h.1) (rw (← h.1) (at_set_own f e ks x))
      | inr h ↦ rw h.0 (at_set_other ks x q (f (at ks x)) h.1)
    ]

pick_twice : (f : Kind → Kind) → ((k : Kind) → f (f k) ≡ f k) → (a b : Bool) (k : Kind) →
    pick b (f (pick a (f k) k)) (pick a (f k) k) ≡ pick (a || b) (f k) k
pick_twice f e true true k = e k
pick_twice f e true false k = refl
pick_twice f e false true k = refl
pick_twice f e false false k = refl

pub each_at : (f : Kind → Kind) → f Gone ≡ Gone → ((k : Kind) → f (f k) ≡ f k) → (qs : List ℕ) (ks : List Kind)
    (q : ℕ) → at (each f ks qs) q ≡ pick (has qs q) (f (at ks q)) (at ks q)
each_at f e i [] ks q = refl
each_at f e i (x ∷ qs) ks q =
    each_at f e i qs (set ks x (f (at ks x))) q
    ∙ ap (λ k. pick (has qs q) (f k) k) (set_pick f e ks x q)
    ∙ pick_twice f i (x == q) (has qs q) (at ks q)

pick_same : (b : Bool) (x y z : Kind) → (b ≡ false → x ≡ y) → pick b x y ≡ x
pick_same true x y z h = refl
pick_same false x y z h = sym (h refl)

-- A change of those in a list is one of all, where it changes no other.
pub each_all : (f : Kind → Kind) → f Gone ≡ Gone → ((k : Kind) → f (f k) ≡ f k) → (qs : List ℕ) (ks : List Kind) →
    ((q : ℕ) → has qs q ≡ false → f (at ks q) ≡ at ks q) → each f ks qs ≡ map f ks
each_all f e i qs ks h =
    same_at (each f ks qs) (map f ks) (each_long f ks qs ∙ sym (map_long f ks))
    (λ q. each_at f e i qs ks q ∙ pick_same (has qs q) (f (at ks q)) (at ks q) Gone (h q) ∙ sym (at_map f e ks q))

pub each_done : (f : Kind → Kind) (ks : List Kind) (qs : List ℕ) (i : ℕ) → length qs ≤ i → ks ≡ each f ks (drop i qs)
each_done f ks qs i h = sym (ap (each f ks) (past_end qs i h))

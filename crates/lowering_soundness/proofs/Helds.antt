-- What is known of registers as a list, and as a function of their numbers.
use Rattle.std.proofs.Common.{◌≡◌, ℕ, zero, suc, ◌<◌, ◌≤◌, Bool, true, false, List, [], ◌∷◌, length, map, Some, slice_get, slice_set, get_or, refl, sym, ap, ◌∙◌, true≢false, arith, if◌then◌else◌, ◌==◌}
use Rattle.separation.proofs.separation_kinds.Basics.{pick, chosen, refused, equal, equal_is, unequal, unequal_is, length_map}
use Rattle.lowering_relation.specs.declared.held.Held.{Held}
use Rattle.lowering_relation.specs.declared.held.Held.TheVariants as H
use Rattle.lowering_relation.specs.Known.{is_owned, without, used_if, used, used_all}
use Rattle.lowering_relation.specs.Describing.{held_at, setting, is_tree}
use Rattle.lowering_soundness.specs.Covering.{using, using_all}

pub held_or : (hs : List Held) (r : ℕ) → get_or hs r H.Nothing ≡ held_at hs r
held_or [] r = refl
held_or (h ∷ hs) zero = refl
held_or (h ∷ hs) (suc r) = held_or hs r

pub held_past : (hs : List Held) (r : ℕ) → length hs ≤ r → held_at hs r ≡ H.Nothing
held_past [] r h = refl
held_past (x ∷ hs) zero h = absurd (omega (arith, h))
held_past (x ∷ hs) (suc r) h = held_past hs r (omega (arith, h))

pub held_within : (hs : List Held) (r : ℕ) → (held_at hs r ≡ H.Nothing → ⊥) → r < length hs
held_within [] r h = absurd (h refl)
held_within (x ∷ hs) zero h = omega arith
held_within (x ∷ hs) (suc r) h = let i = held_within hs r h in omega (arith, i)

pub held_get : (hs : List Held) (r : ℕ) (h : Held) → slice_get hs r ≡ Some h → held_at hs r ≡ h
held_get [] r h e = absurd (cc)
held_get (x ∷ hs) zero h e = cc
held_get (x ∷ hs) (suc r) h e = held_get hs r h e

-- ---- one register is written

set_here : (h i : Held) (d q : ℕ) → q ≡ d → h ≡ (if q == d then h else i)
set_here h i d q e = sym (chosen (q == d) h i (equal_is q d e))

set_there : (h i : Held) (d q : ℕ) → (q ≡ d → ⊥) → i ≡ (if q == d then h else i)
set_there h i d q ne = sym (refused (q == d) h i (unequal_is q d ne))

suc_both : (h i : Held) (d q : ℕ) → (if q == d then h else i) ≡ (if suc q == suc d then h else i)
suc_both h i d q =
    pick (λ x. x ≡ (if suc q == suc d then h else i)) (q == d) h i
    (λ e. let z = equal q d e in set_here h i (suc d) (suc q) (omega (arith, z)))
    (λ e. set_there h i (suc d) (suc q) (λ z. unequal q d e (omega (arith, z))))

pub held_set : (hs : List Held) (d : ℕ) (h : Held) → d < length hs → (q : ℕ) → held_at (slice_set hs d h) q ≡ setting (held_at hs) d h q
held_set [] d h within q = absurd (omega (arith, within))
held_set (x ∷ hs) zero h within zero = set_here h x zero zero refl
held_set (x ∷ hs) zero h within (suc q) = set_there h (held_at hs q) zero (suc q) (λ e. absurd (omega (arith, e)))
held_set (x ∷ hs) (suc d) h within zero = set_there h x (suc d) zero (λ e. absurd (omega (arith, e)))
held_set (x ∷ hs) (suc d) h within (suc q) = held_set hs d h (omega (arith, within)) q ∙ suc_both h (held_at hs q) d q

pub held_set_fn : (hs : List Held) (d : ℕ) (h : Held) → d < length hs → held_at (slice_set hs d h) ≡ setting (held_at hs) d h
held_set_fn hs d h within = λ i q. held_set hs d h within q i

pub length_set : (hs : List Held) (d : ℕ) (h : Held) → length (slice_set hs d h) ≡ length hs
length_set [] d h = refl
length_set (x ∷ hs) zero h = refl
length_set (x ∷ hs) (suc d) h = ap suc (length_set hs d h)

-- ---- one tree is used up

pub owned_tree : (hs : List Held) (r : ℕ) → is_owned (slice_get hs r) ≡ is_tree (held_at hs r)
owned_tree [] r = refl
owned_tree (H.Nothing ∷ hs) zero = refl
owned_tree (H.Scalar t ∷ hs) zero = refl
owned_tree (H.Owned t b ∷ hs) zero = refl
owned_tree (H.Lent t root ∷ hs) zero = refl
owned_tree (H.Credit n ∷ hs) zero = refl
owned_tree (H.Bare t c ∷ hs) zero = refl
owned_tree (h ∷ hs) (suc r) = owned_tree hs r

held_map : (r : ℕ) (hs : List Held) (q : ℕ) → held_at (map (without r) hs) q ≡ without r (held_at hs q)
held_map r [] q = refl
held_map r (h ∷ hs) zero = refl
held_map r (h ∷ hs) (suc q) = held_map r hs q

tree_within : (hs : List Held) (r : ℕ) → is_tree (held_at hs r) ≡ true → r < length hs
tree_within hs r e = held_within hs r (λ none. true≢false (sym e ∙ ap is_tree none))

used_by : (b : Bool) (hs : List Held) (r q : ℕ) → is_tree (held_at hs r) ≡ b → held_at (used_if b hs r) q ≡ (if b then (if q == r then H.Nothing else without r (held_at hs q)) else held_at hs q)
used_by true hs r q e =
    held_map r (slice_set hs r H.Nothing) q ∙ (ap (without r) (held_set hs r H.Nothing (tree_within hs r e) q)
    ∙ pick (λ h. without r h ≡ (if q == r then H.Nothing else without r (held_at hs q))) (q == r) H.Nothing (held_at hs q)
    (λ y. sym (chosen (q == r) H.Nothing (without r (held_at hs q)) y)) (λ n. sym (refused (q == r) H.Nothing (without r (held_at hs q)) n)))
used_by false hs r q e = refl

pub held_used : (hs : List Held) (r q : ℕ) → held_at (used hs r) q ≡ using (held_at hs) r q
held_used hs r q =
    ap (λ b. held_at (used_if b hs r) q) (owned_tree hs r) ∙ used_by (is_tree (held_at hs r)) hs r q refl

pub held_used_fn : (hs : List Held) (r : ℕ) → held_at (used hs r) ≡ using (held_at hs) r
held_used_fn hs r = λ i q. held_used hs r q i

length_used_if : (b : Bool) (hs : List Held) (r : ℕ) → length (used_if b hs r) ≡ length hs
length_used_if true hs r = length_map (without r) (slice_set hs r H.Nothing) ∙ length_set hs r H.Nothing
length_used_if false hs r = refl

pub length_used : (hs : List Held) (r : ℕ) → length (used hs r) ≡ length hs
length_used hs r = length_used_if (is_owned (slice_get hs r)) hs r

pub held_used_all : (hs : List Held) (rs : List ℕ) → held_at (used_all hs rs) ≡ using_all (held_at hs) rs
held_used_all hs [] = refl
held_used_all hs (r ∷ rs) = held_used_all (used hs r) rs ∙ ap (λ g. using_all g rs) (held_used_fn hs r)

pub length_used_all : (hs : List Held) (rs : List ℕ) → length (used_all hs rs) ≡ length hs
length_used_all hs [] = refl
length_used_all hs (r ∷ rs) = length_used_all (used hs r) rs ∙ length_used hs r

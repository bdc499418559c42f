-- What holds at the start of a function: its parameters and credits are accounted for, and nothing was built or matched.
use Rattle.std.proofs.Common.{◌≡◌, ◌⊎◌, inl, inr, refl, sym, ap, ◌∙◌, subst, arith, true≢false, ℕ, zero, suc, ◌+◌, ◌≤◌, ◌<◌, max, Bool, true, false, not, List, [], ◌∷◌, ◌++◌, length, map, Option, Some, None, slice_get, slice_set}
use Rattle.std.specs.Prelude.{replicate, ◌==◌, ◌&&◌, if◌then◌else◌}
use Rattle.std.proofs.lemmas.Bool.{cases_eq}
use Rattle.std.proofs.lemmas.Bool.Decides.{nat_tests}
use Rattle.fip_language.specs.declared.limits.TheConstants.{MOST_FIELDS}
use Rattle.fip_base.specs.declared.plain.Param.{Param}
use Rattle.fip_trees.specs.declared.program.Binder.{Binder}
use Rattle.fip_trees.specs.Tree.{Instance}
use Rattle.lower_frame.specs.lowering_relation.declared.held.Held.{Held}
use Rattle.lower_frame.specs.lowering_relation.declared.held.Held.TheVariants as H
use Rattle.lower_frame.specs.lowering_relation.declared.held.Credit.{Credit}
use Rattle.lower_frame.specs.lowering_relation.Known.{Known, joined, named, register_of, with_used}
use Rattle.lower_frame.specs.lowering_relation.Values.{Setting, is_scalar}
use Rattle.lower_frame.specs.lowering_relation.LoweredBodies.{given, given_if}
use Rattle.lower_frame.specs.lowering_relation.LoweredFunctions.{param_held, with_param, with_params, unless_in, with_next_credit, with_credits, nothing_known, known_at_start}
use Rattle.lower_frame.specs.lowering_relation.Describing.{held_at}
use Rattle.lower_frame.specs.Credits.{Accounted, AllSolid, one_if, counted, is_credit, is_credit_of, is_bare}
use Rattle.lower_frame.specs.Registers.{registers, HasRoom}
use Rattle.lower_frame.proofs.Accounts.{put_accounted, set_solid, set_itself}
use Rattle.lower_parts.specs.Bodies.{IsPlain}
use Rattle.lower_parts.specs.Laying.{is_built}
use Rattle.lower_parts.specs.Writing.{Named}
use Rattle.lower_parts.proofs.Shedding.{set_length}
use Rattle.fip_language.proofs.Facts.{and_false, and_true, equal_true as equal_is, get_replicate as all_alike, get_set_here as get_there, get_set_other as get_other, same_some, unequal_false as unequal_is}
use Rattle.lower_parts.proofs.Shedding.{credits_length, params_length}
use Rattle.lower_frame.proofs.Accounts.{counted_both as counted_on, get_same, not_of as no_size, nothing_or as nothing_sized}

-- what stands where after a change

alike_or : {A : Type 0} (P : Option A → Type 0) (n : ℕ) (x : A) (i : ℕ) → P None → P (Some x) → P (slice_get (replicate n x) i)
alike_or P zero x i p q = p
alike_or P (suc n) x zero p q = q
alike_or P (suc n) x (suc i) p q = alike_or P n x i p q

held_of : (P : Held → Type 0) (hs : List Held) (r : ℕ) → P H.Nothing → ((h : Held) → slice_get hs r ≡ Some h → P h) → P (held_at hs r)
held_of P [] r p q = p
held_of P (h ∷ hs) zero p q = q h refl
held_of P (h ∷ hs) (suc r) p q = held_of P hs r p q

held_there : (hs : List Held) (r : ℕ) (h : Held) → slice_get hs r ≡ Some h → held_at hs r ≡ h
held_there [] r h e = absurd (cc)
held_there (g ∷ hs) zero h e = same_some g h e
held_there (g ∷ hs) (suc r) h e = held_there hs r h e

-- numbers that are equal, or not

-- ---- what is so at the start

-- parameters and credits are accounted for, and nothing was built or matched
pub record Starts (k : Known) : Type 0 where
  pub accounts : Accounted k
  pub named : Named k
  pub plain : (r : ℕ) → IsPlain (held_at k.held r)

nothing_plain : IsPlain H.Nothing
nothing_plain = (refl, refl)

plain_if : (P : Held → Type 0) (hs : List Held) (r : ℕ) (h : Held) (q : ℕ) → P H.Nothing → P h → ((p : ℕ) → P (held_at hs p)) → P (held_at (slice_set hs r h) q)
plain_if P [] r h q none new old = none
plain_if P (g ∷ hs) zero h zero none new old = new
plain_if P (g ∷ hs) zero h (suc q) none new old = old (suc q)
plain_if P (g ∷ hs) (suc r) h zero none new old = old zero
plain_if P (g ∷ hs) (suc r) h (suc q) none new old = plain_if P hs r h q none new (λ p. old (suc p))

no_register : (n x r : ℕ) → register_of (replicate n None) (Some x) ≡ Some r → ⊥
no_register n x r e = alike_or (λ o. joined o ≡ Some r → ⊥) n None x (λ f. absurd (cc)) (λ f. absurd (cc)) e

starts_none : (n m : ℕ) → Starts (nothing_known n m)
starts_none n m = record {
  accounts = record {
    fresh = λ r h low e. all_alike n H.Nothing r h e;
    credits = λ s r. ap one_if (sym (alike_or (λ o. is_credit_of s o ≡ false) n H.Nothing r refl refl));
    sizes = λ s r e. absurd (let z = all_alike n H.Nothing r (H.Credit s) e in cc);
  };
  named = λ x r e. absurd (no_register m x r e);
  plain = λ r. held_of IsPlain (replicate n H.Nothing) r nothing_plain (λ h e. subst IsPlain (sym (all_alike n H.Nothing r h e)) nothing_plain);
}

-- ---- a parameter

-- neither built, nor matched, nor a credit
abbrev IsOwn : Held → Type 0
IsOwn h = (is_built h ≡ false) × (is_bare (Some h) ≡ false) × (is_credit (Some h) ≡ false)

given_plain : (b : Bool) (t : ℕ) → IsOwn (given_if b t)
given_plain true t = (refl, refl, refl)
given_plain false t = (refl, refl, refl)

lent_plain : (b : Bool) (t : ℕ) (h : Held) → IsOwn h → IsOwn (if b then H.Lent t None else h)
lent_plain true t h x = (refl, refl, refl)
lent_plain false t h x = x

param_plain : (s : Setting) (p : Param) → IsOwn (param_held s p)
param_plain s p = lent_plain (p.lent && not (is_scalar s p.ty)) p.ty (given s p.ty) (given_plain (is_scalar s p.ty) p.ty)

renamed : (k : Known) (names : List (Option ℕ)) → Accounted k → Accounted (record k { names = names })
renamed k names a = record { fresh = a.fresh; credits = a.credits; sizes = a.sizes }

named_there : (names : List (Option ℕ)) (y r x q : ℕ) → register_of (named names y r) (Some x) ≡ Some q → (q ≡ r) ⊎ (register_of names (Some x) ≡ Some q)
named_there names y r x q e = elim (cases_eq x y) [
  | inl same ↦ inl (get_same (λ o. joined o ≡ Some q → q ≡ r) names y (Some r) (λ f. absurd (cc)) (λ f. sym (same_some r q f)) (subst (λ z. joined (slice_get (slice_set names y (Some r)) z) ≡ Some q) same e))
  | inr ne ↦ inr (sym (ap joined (get_other names y (Some r) x ne)) ∙ e)
]

with_param_named : (s : Setting) (k : Known) (p : Param) (b : Binder) (r : ℕ) → (r ≡ k.next) ⊎ AllSolid k (r ∷ []) → AllSolid (with_param s k p b) (r ∷ [])
with_param_named s k p b r (inl e) = ((omega (arith, e)), subst (λ z. is_credit (slice_get (slice_set k.held k.next (param_held s p)) z) ≡ false) (sym e) (set_itself k.held k.next (param_held s p) (param_plain s p).2), tt)
with_param_named s k p b r (inr x) = ((let z = x.0 in omega (arith, z)), set_solid k.held k.next (param_held s p) r (param_plain s p).2 x.1, tt)

starts_param : (s : Setting) (k : Known) (p : Param) (b : Binder) → Starts k → Starts (with_param s k p b)
starts_param s k p b h = record {
  accounts = put_accounted (record k { names = named k.names b.number k.next }) k.next (suc k.next) (param_held s p) (omega arith) (omega arith)
      (λ m. nothing_sized m (slice_get k.held k.next) (λ g e. h.accounts.fresh k.next g (omega arith) e)) (λ m. no_size m (Some (param_held s p)) (param_plain s p).2)
      (renamed k (named k.names b.number k.next) h.accounts);
  named = λ x r e. with_param_named s k p b r (elim (named_there k.names b.number k.next x r e) [ inl z ↦ inl z | inr z ↦ inr (h.named x r z) ]);
  plain = λ r. plain_if IsPlain k.held k.next (param_held s p) r nothing_plain ((param_plain s p).0, (param_plain s p).1) h.plain;
}

starts_params : (s : Setting) (k : Known) (ps : List Param) (bs : List Binder) → Starts k → Starts (with_params s k ps bs)
starts_params s k [] bs h = h
starts_params s k (p ∷ ps) [] h = h
starts_params s k (p ∷ ps) (b ∷ bs) h = starts_params s (with_param s k p b) ps bs (starts_param s k p b h)

-- ---- a credit

unless_there : (names : List (Option ℕ)) (r x q : ℕ) → joined (slice_get (map (unless_in r) names) x) ≡ Some q → (joined (slice_get names x) ≡ Some q) × (q ≡ r → ⊥)
unless_there [] r x q e = absurd (cc)
unless_there (None ∷ names) r zero q e = absurd (cc)
unless_there (Some p ∷ names) r zero q e = elim (cases_eq p r) [
  | inl same ↦ absurd (let z : unless_in r (Some p) ≡ None = ap (λ b. if b then None else Some p) (equal_is p r same) in let y = sym z ∙ e in cc)
  | inr ne ↦ (let z : unless_in r (Some p) ≡ Some p = ap (λ b. if b then None else Some p) (unequal_is p r ne) in let y : Some p ≡ Some q = sym z ∙ e in (y, λ f. ne (same_some p q y ∙ f)))
]
unless_there (o ∷ names) r (suc x) q e = unless_there names r x q e

credit_counted : (k : Known) (n m q : ℕ) → k.next < registers k → Accounted k → counted m q (k.credits ++ (record { size = n; register = k.next } ∷ [])) ≡ one_if (is_credit_of m (slice_get (slice_set k.held k.next (H.Credit n)) q))
credit_counted k n m q room a = elim (cases_eq q k.next) [
  | inl same ↦ here same
  | inr ne ↦ (let z = counted_on m q k.credits (record { size = n; register = k.next } ∷ []) in
      let y : one_if ((n == m) && (k.next == q)) ≡ 0 = ap (λ b. one_if ((n == m) && b)) (unequal_is k.next q (λ e. ne (sym e))) ∙ ap one_if (and_false (n == m)) in
      let x = a.credits m q in
      let o : one_if (is_credit_of m (slice_get (slice_set k.held k.next (H.Credit n)) q)) ≡ one_if (is_credit_of m (slice_get k.held q)) = ap (λ o. one_if (is_credit_of m o)) (get_other k.held k.next (H.Credit n) q ne) in
      omega (arith, z, y, x, o))
]
  where
    here : q ≡ k.next → counted m q (k.credits ++ (record { size = n; register = k.next } ∷ [])) ≡ one_if (is_credit_of m (slice_get (slice_set k.held k.next (H.Credit n)) q))
    here same =
        let z = counted_on m q k.credits (record { size = n; register = k.next } ∷ []) in
        let y : one_if ((n == m) && (k.next == q)) ≡ one_if (n == m) = ap (λ b. one_if ((n == m) && b)) (equal_is k.next q (sym same)) ∙ ap one_if (and_true (n == m)) in
        let x : counted m q k.credits ≡ 0 = a.credits m q ∙ ap one_if (nothing_sized m (slice_get k.held q) (λ g e. a.fresh q g (omega (arith, same)) e)) in
        let o : one_if (is_credit_of m (slice_get (slice_set k.held k.next (H.Credit n)) q)) ≡ one_if (n == m) = ap (λ z. one_if (is_credit_of m (slice_get (slice_set k.held k.next (H.Credit n)) z))) same ∙ ap (λ o. one_if (is_credit_of m o)) (get_there k.held k.next (H.Credit n) room) in
        omega (arith, z, y, x, o)

credit_sizes : (k : Known) (n m q : ℕ) → k.next < registers k → 1 ≤ n → n ≤ MOST_FIELDS → Accounted k → slice_get (slice_set k.held k.next (H.Credit n)) q ≡ Some (H.Credit m) → (1 ≤ m) × (m ≤ MOST_FIELDS)
credit_sizes k n m q room low high a e = elim (cases_eq q k.next) [
  | inl same ↦ here (same_credit (H.Credit n) m (same_some (H.Credit n) (H.Credit m) (sym (get_there k.held k.next (H.Credit n) room) ∙ ap (slice_get (slice_set k.held k.next (H.Credit n))) (sym same) ∙ e)) refl)
  | inr ne ↦ a.sizes m q (sym (get_other k.held k.next (H.Credit n) q ne) ∙ e)
]
  where
    same_credit : (h : Held) (m : ℕ) → h ≡ H.Credit m → h ≡ H.Credit n → n ≡ m
    same_credit h m f g = cc

    here : n ≡ m → (1 ≤ m) × (m ≤ MOST_FIELDS)
    here f = ((omega (arith, f, low)), (omega (arith, f, high)))

starts_credit : (k : Known) (n : ℕ) → k.next < registers k → 1 ≤ n → n ≤ MOST_FIELDS → Starts k → Starts (with_next_credit k n)
starts_credit k n room low high h = record {
  accounts = record {
    fresh = λ r g below e. h.accounts.fresh r g (omega (arith, below)) (sym (get_other k.held k.next (H.Credit n) r (λ same. absurd (omega (arith, same, below)))) ∙ e);
    credits = λ m q. credit_counted k n m q room h.accounts;
    sizes = λ m q e. credit_sizes k n m q room low high h.accounts e;
  };
  named = λ x r e. solid x r (unless_there k.names k.next x r e);
  plain = λ r. plain_if IsPlain k.held k.next (H.Credit n) r nothing_plain (refl, refl) h.plain;
}
  where
    solid : (x r : ℕ) → (joined (slice_get k.names x) ≡ Some r) × (r ≡ k.next → ⊥) → AllSolid (with_next_credit k n) (r ∷ [])
    solid x r e = let old = h.named x r e.0 in ((let z = old.0 in omega (arith, z)), ap is_credit (get_other k.held k.next (H.Credit n) r e.1) ∙ old.1, tt)

abbrev pub AreSized : List ℕ → Type 0
AreSized ns = (i n : ℕ) → slice_get ns i ≡ Some n → (1 ≤ n) × (n ≤ MOST_FIELDS)

credits_next : (k : Known) (ns : List ℕ) → (with_credits k ns).next ≡ k.next + length ns
credits_next k [] = omega arith
credits_next k (n ∷ ns) = let z = credits_next (with_next_credit k n) ns in omega (arith, z)

credit_length : (k : Known) (n : ℕ) → registers (with_next_credit k n) ≡ registers k
credit_length k n = set_length k.held k.next (H.Credit n)

starts_credits : (k : Known) (ns : List ℕ) → k.next + length ns ≤ registers k → AreSized ns → Starts k → Starts (with_credits k ns)
starts_credits k [] room sizes h = h
starts_credits k (n ∷ ns) room sizes h =
    let in_range = sizes 0 n refl in
    let e = credit_length k n in
    starts_credits (with_next_credit k n) ns (omega (arith, room, e)) (λ i m x. sizes (suc i) m x) (starts_credit k n (omega (arith, room)) in_range.0 in_range.1 h)

params_next : (s : Setting) (k : Known) (ps : List Param) (bs : List Binder) → length bs ≡ length ps → (with_params s k ps bs).next ≡ k.next + length ps
params_next s k [] bs e = omega arith
params_next s k (p ∷ ps) [] e = absurd (let z : ⊥ = omega (arith, e) in z)
params_next s k (p ∷ ps) (b ∷ bs) e = let z = params_next s (with_param s k p b) ps bs (omega (arith, e)) in omega (arith, z)

-- ---- a function

pub start_next : (s : Setting) (n : ℕ) (d : Instance) → length d.binders ≡ length d.params → (known_at_start s n d).next ≡ length d.params + length d.credits
start_next s n d e =
    let z = credits_next (with_params s (nothing_known n d.variables) d.params d.binders) d.credits in
    let y = params_next s (nothing_known n d.variables) d.params d.binders e in
    omega (arith, z, y)

pub starts : (s : Setting) (n : ℕ) (d : Instance) → (known_at_start s n d).next ≤ registers (known_at_start s n d) → AreSized d.credits → Starts (known_at_start s n d)
starts s n d room sizes =
    let k = with_params s (nothing_known n d.variables) d.params d.binders in
    let z = credits_next k d.credits in
    let y = credits_length k d.credits in
    starts_credits k d.credits (omega (arith, room, z, y)) sizes (starts_params s (nothing_known n d.variables) d.params d.binders (starts_none n d.variables))

-- ---- registers that are taken into use are there

pub used_room : (k l : Known) → l ≡ with_used k → HasRoom k l → l.next ≤ registers l
used_room k l e h = let x = ap (λ (k : Known). k.next) e in let y = ap registers e in omega (arith, h, x, y)

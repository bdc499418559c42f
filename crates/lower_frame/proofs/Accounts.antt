-- Credits that are taken, and registers that are emptied: what is accounted for stays so.
use Rattle.std.proofs.Common.{◌≡◌, ◌⊎◌, inl, inr, refl, sym, ap, ◌∙◌, subst, arith, true≢false, ℕ, zero, suc, ◌+◌, ◌-◌, ◌≤◌, ◌<◌, Bool, true, false, List, [], ◌∷◌, ◌++◌, length, take, drop, get_or, Option, Some, None, slice_get, slice_set}
use Rattle.std.specs.Prelude.{option_map, ◌==◌, ◌&&◌, if◌then◌else◌}
use Rattle.std.proofs.lemmas.Bool.{cases_eq, eqb-true}
use Rattle.std.proofs.lemmas.Bool.Decides.{nat_tests}
use Rattle.std.proofs.lemmas.Option.{slice_get-map, get_or_from_slice_get}
use Rattle.cell_code.specs.fip_language.declared.limits.TheConstants.{MOST_FIELDS}
use Rattle.lowering_relation.specs.declared.held.Held.{Held}
use Rattle.lowering_relation.specs.declared.held.Held.TheVariants as H
use Rattle.lowering_relation.specs.declared.held.Credit.{Credit}
use Rattle.fip_base.specs.declared.plain.Param.{Param}
use Rattle.lowering_relation.specs.LoweredBodies.{handed, as_value, moved, given, given_if, received}
use Rattle.lowering_relation.specs.Values.{Setting, is_scalar}
use Rattle.lowering_relation.specs.Known.{Known, IsTaken, holding, with_next, using, used, used_if, used_all, is_owned, without, lent_by}
use Rattle.lowering_relation.specs.Credits.{of_size, LastGone}
use Rattle.lower_frame.specs.Frames.{HasSize, Takes, TakesBare}
use Rattle.lower_frame.specs.Registers.{IsFull, IsHeld}
use Rattle.lower_frame.specs.Credits.{AllSolid, one_if, sized, counted, is_credit, is_credit_of, is_bare, is_held_of, NoneBetween, Accounted, FewerTrees, NoTrees}
use Rattle.fip_base.proofs.fip_language.Facts.{and_false, and_true, append_none_back as none_gone, equal_true as equal_is, same_some, unequal_false as unequal_is}
pub use Rattle.fip_base.proofs.fip_language.Facts.{get_set_other as get_other}

pub get_same : {A : Type 0} (P : Option A → Type 0) (xs : List A) (i : ℕ) (x : A) → P None → P (Some x) → P (slice_get (slice_set xs i x) i)
get_same P [] i x p q = p
get_same P (z ∷ zs) zero x p q = q
get_same P (z ∷ zs) (suc i) x p q = get_same P zs i x p q

-- how many credits there are

sized_both : (n : ℕ) (a b : List Credit) → sized n (a ++ b) ≡ sized n a + sized n b
sized_both n [] b = omega arith
sized_both n (c ∷ a) b = omega (arith, sized_both n a b)

pub counted_both : (n r : ℕ) (a b : List Credit) → counted n r (a ++ b) ≡ counted n r a + counted n r b
counted_both n r [] b = omega arith
counted_both n r (c ∷ a) b = omega (arith, counted_both n r a b)

sized_taken : (cs : List Credit) (n r : ℕ) (rest : List Credit) (m : ℕ) → IsTaken cs n r rest → sized m cs ≡ one_if (n == m) + sized m rest
sized_taken cs n r rest m t =
    let c : Credit = record { size = n; register = r } in
    let a = ap (sized m) t.was in
    let d = ap (sized m) t.left in
    omega (arith, a, sized_both m t.before (c ∷ t.following), d, sized_both m t.before t.following)

counted_taken : (cs : List Credit) (n r : ℕ) (rest : List Credit) (m q : ℕ) → IsTaken cs n r rest → counted m q cs ≡ one_if ((n == m) && (r == q)) + counted m q rest
counted_taken cs n r rest m q t =
    let c : Credit = record { size = n; register = r } in
    let a = ap (counted m q) t.was in
    let d = ap (counted m q) t.left in
    omega (arith, a, counted_both m q t.before (c ∷ t.following), d, counted_both m q t.before t.following)

cond_le : (a b : Bool) → one_if (a && b) ≤ one_if a
cond_le true true = omega arith
cond_le true false = omega arith
cond_le false b = omega arith

counted_sized : (n r : ℕ) (cs : List Credit) → counted n r cs ≤ sized n cs
counted_sized n r [] = omega arith
counted_sized n r (c ∷ cs) = omega (arith, cond_le (c.size == n) (c.register == r), counted_sized n r cs)

-- one of a size is in a register, where there is one
some_sized : (n : ℕ) (cs : List Credit) → (sized n cs ≡ 0) ⊎ ((i : ℕ) × (c : Credit) × (i < length cs) × (slice_get cs i ≡ Some c) × (c.size ≡ n) × (1 ≤ counted n c.register cs))
some_sized n [] = inl refl
some_sized n (c ∷ cs) = elim (cases_eq c.size n) [
  | inl e ↦ inr (0, c, omega arith, refl, e, (let a : one_if ((c.size == n) && (c.register == c.register)) ≡ 1 = ap one_if (ap (λ b. b && (c.register == c.register)) (equal_is c.size n e) ∙ equal_is c.register c.register refl) in omega (arith, a)))
  | inr ne ↦ later (some_sized n cs) (ap one_if (unequal_is c.size n ne))
]
  where
    later : (sized n cs ≡ 0) ⊎ ((i : ℕ) × (d : Credit) × (i < length cs) × (slice_get cs i ≡ Some d) × (d.size ≡ n) × (1 ≤ counted n d.register cs)) → one_if (c.size == n) ≡ 0 → (sized n (c ∷ cs) ≡ 0) ⊎ ((i : ℕ) × (d : Credit) × (i < length (c ∷ cs)) × (slice_get (c ∷ cs) i ≡ Some d) × (d.size ≡ n) × (1 ≤ counted n d.register (c ∷ cs)))
    later (inl e) z = inl (omega (arith, e, z))
    later (inr x) z = inr (suc x.0, x.1, (let l = x.2 in omega (arith, l)), x.3, x.4, (let m = x.5 in omega (arith, m)))

-- credits and what registers hold

credit_is : (n : ℕ) (o : Option Held) → is_credit_of n o ≡ true → o ≡ Some (H.Credit n)
credit_is n None e = absurd (true≢false (sym e))
credit_is n (Some H.Nothing) e = absurd (true≢false (sym e))
credit_is n (Some (H.Scalar t)) e = absurd (true≢false (sym e))
credit_is n (Some (H.Owned t b)) e = absurd (true≢false (sym e))
credit_is n (Some (H.Lent t root)) e = absurd (true≢false (sym e))
credit_is n (Some (H.Credit m)) e = ap (λ x. Some (H.Credit x)) (eqb-true m n e)
credit_is n (Some (H.Bare t c)) e = absurd (true≢false (sym e))

one_true : (b : Bool) → 1 ≤ one_if b → b ≡ true
one_true true h = refl
one_true false h = absurd (omega (arith, h))

-- a credit of the list is held
pub credit_held : (k : Known) (n r : ℕ) → Accounted k → 1 ≤ counted n r k.credits → slice_get k.held r ≡ Some (H.Credit n)
credit_held k n r a h = credit_is n (slice_get k.held r) (one_true (is_credit_of n (slice_get k.held r)) (let e = a.credits n r in omega (arith, e, h)))

held_of : (hs : List Held) (cs : List Credit) (i n m : ℕ) (c : Credit) → slice_get cs i ≡ Some c → c.size ≡ n → slice_get hs c.register ≡ Some (H.Credit m) → is_held_of hs n (slice_get cs i) ≡ true
held_of hs cs i n m c e f g = ap (is_held_of hs n) e ∙ ap (λ b. b && is_credit (slice_get hs c.register)) (equal_is c.size n f) ∙ ap is_credit g

pub none_sized : (k : Known) (n : ℕ) → Accounted k → NoneBetween 0 (length k.credits) k.held k.credits n → sized n k.credits ≡ 0
none_sized k n a none = elim (some_sized n k.credits) [
  | inl e ↦ e
  | inr x ↦ absurd (true≢false (sym (held_of k.held k.credits x.0 n n x.1 x.3 x.4 (credit_held k n x.1.register a x.5)) ∙ none x.0 (omega arith) x.2))
]

-- what is looked for

size_of : (hs : List Held) (n : ℕ) (o : Option Credit) → is_held_of hs n o ≡ true → HasSize n o
size_of hs n None e = absurd (true≢false (sym e))
size_of hs n (Some c) e = eqb-true c.size n (first (c.size == n) (is_credit (slice_get hs c.register)) e)
  where
    first : (a b : Bool) → (a && b) ≡ true → a ≡ true
    first true b e = refl
    first false b e = absurd (true≢false (sym e))

credit_full : (o : Option Held) → is_credit o ≡ true → IsFull o
credit_full None e = absurd (true≢false (sym e))
credit_full (Some H.Nothing) e = absurd (true≢false (sym e))
credit_full (Some (H.Scalar t)) e = absurd (true≢false (sym e))
credit_full (Some (H.Owned t b)) e = absurd (true≢false (sym e))
credit_full (Some (H.Lent t root)) e = absurd (true≢false (sym e))
credit_full (Some (H.Credit n)) e = refl
credit_full (Some (H.Bare t c)) e = absurd (true≢false (sym e))

full_of : (hs : List Held) (n : ℕ) (o : Option Credit) → is_held_of hs n o ≡ true → IsHeld hs o
full_of hs n None e = absurd (true≢false (sym e))
full_of hs n (Some c) e = credit_full (slice_get hs c.register) (second (c.size == n) (is_credit (slice_get hs c.register)) e)
  where
    second : (a b : Bool) → (a && b) ≡ true → b ≡ true
    second true b e = e
    second false b e = absurd (true≢false (sym e))

within_of : (hs : List Held) (n : ℕ) (cs : List Credit) (i : ℕ) → is_held_of hs n (slice_get cs i) ≡ true → i < length cs
within_of hs n [] i e = absurd (true≢false (sym e))
within_of hs n (c ∷ cs) zero e = omega arith
within_of hs n (c ∷ cs) (suc i) e = omega (arith, within_of hs n cs i e)

pub found : (hs : List Held) (n : ℕ) (cs : List Credit) (i : ℕ) (b : Bool) → b ≡ is_held_of hs n (slice_get cs i) → b ≡ true → HasSize n (slice_get cs i) × IsHeld hs (slice_get cs i) × (i < length cs)
found hs n cs i b e f = let g = sym e ∙ f in (size_of hs n (slice_get cs i) g, full_of hs n (slice_get cs i) g, within_of hs n cs i g)

pub none_more : (hs : List Held) (cs : List Credit) (n b i : ℕ) (x : Bool) → b < length cs → i ≡ length cs - 1 - b → x ≡ is_held_of hs n (slice_get cs i) → x ≡ false → NoneBetween (length cs - b) (length cs) hs cs n → NoneBetween (length cs - (b + 1)) (length cs) hs cs n
none_more hs cs n b i x lt e f g none = λ j low high. elim (cases_eq j i) [
  | inl same ↦ subst (λ z. is_held_of hs n (slice_get cs z) ≡ false) (sym same) (sym f ∙ g)
  | inr ne ↦ none j (omega (arith, e, lt, low, high, ne)) high
]

pub none_yet : (hs : List Held) (cs : List Credit) (n : ℕ) → NoneBetween (length cs - 0) (length cs) hs cs n
none_yet hs cs n = λ i low high. absurd (omega (arith, low, high))

pub none_at_all : (hs : List Held) (cs : List Credit) (n b : ℕ) → length cs ≤ b → NoneBetween (length cs - b) (length cs) hs cs n → NoneBetween 0 (length cs) hs cs n
none_at_all hs cs n b le none = λ i low high. none i (omega (arith, le)) high

pub none_past : (hs : List Held) (cs : List Credit) (n b i : ℕ) → b < length cs → i ≡ length cs - 1 - b → NoneBetween (length cs - b) (length cs) hs cs n → NoneBetween (suc i) (length cs) hs cs n
none_past hs cs n b i lt e none = λ j low high. none j (omega (arith, lt, e, low)) high

pub ruleset looking = (found, none_more, none_yet, none_at_all, none_past)

-- a credit is taken, the last of its size

size_both : (n : ℕ) (a b : List Credit) → of_size n (a ++ b) ≡ of_size n a ++ of_size n b
size_both n [] b = refl
size_both n (c ∷ a) b = one_more (c.size == n) c.register (of_size n (a ++ b)) (of_size n a) (of_size n b) (size_both n a b)
  where
    one_more : (x : Bool) (r : ℕ) (all front back : List ℕ) → all ≡ front ++ back → (if x then r ∷ all else all) ≡ (if x then r ∷ front else front) ++ back
    one_more true r all front back e = ap (λ xs. r ∷ xs) e
    one_more false r all front back e = e

pub none_of : (n : ℕ) (cs : List Credit) → ((i : ℕ) (c : Credit) → slice_get cs i ≡ Some c → c.size ≡ n → ⊥) → of_size n cs ≡ []
none_of n [] h = refl
none_of n (c ∷ cs) h = ap (λ b. if b then c.register ∷ of_size n cs else of_size n cs) (unequal_is c.size n (h 0 c refl)) ∙ none_of n cs (λ i d e. h (suc i) d e)

pub counted_there : (cs : List Credit) (i : ℕ) (c : Credit) → slice_get cs i ≡ Some c → 1 ≤ counted c.size c.register cs
counted_there [] i c e = absurd (cc)
counted_there (d ∷ cs) zero c e =
    let same : d ≡ c = same_some d c e in
    let one : one_if ((d.size == c.size) && (d.register == c.register)) ≡ 1 = ap one_if (ap (λ b. b && (d.register == c.register)) (equal_is d.size c.size (ap (λ (x : Credit). x.size) same)) ∙ equal_is d.register c.register (ap (λ (x : Credit). x.register) same)) in
    omega (arith, one)
counted_there (d ∷ cs) (suc i) c e = omega (arith, counted_there cs i c e)

drop_get : (cs : List Credit) (p i : ℕ) (c : Credit) → slice_get (drop p cs) i ≡ Some c → (j : ℕ) × (p ≤ j) × (slice_get cs j ≡ Some c)
drop_get cs zero i c e = (i, omega arith, e)
drop_get [] (suc p) i c e = absurd (cc)
drop_get (d ∷ cs) (suc p) i c e = let x = drop_get cs p i c e in (suc x.0, (let l = x.1 in omega (arith, l)), x.2)

there_within : (cs : List Credit) (i : ℕ) (c : Credit) → slice_get cs i ≡ Some c → i < length cs
there_within [] i c e = absurd (cc)
there_within (d ∷ cs) zero c e = omega arith
there_within (d ∷ cs) (suc i) c e = omega (arith, there_within cs i c e)

none_after : (k : Known) (n p : ℕ) → Accounted k → NoneBetween p (length k.credits) k.held k.credits n → of_size n (drop p k.credits) ≡ []
none_after k n p a none = none_of n (drop p k.credits) (λ i c e f.
    let x = drop_get k.credits p i c e in
    let held = credit_held k c.size c.register a (counted_there k.credits x.0 c x.2) in
    absurd (true≢false (sym (held_of k.held k.credits x.0 n c.size c x.2 f held) ∙ none x.0 x.1 (there_within k.credits x.0 c x.2))))

at_place : (cs : List Credit) (p : ℕ) (c : Credit) → slice_get cs p ≡ Some c → cs ≡ take p cs ++ (c ∷ drop (suc p) cs)
at_place [] p c e = absurd (cc)
at_place (d ∷ ds) zero c e = ap (λ x. x ∷ ds) (same_some d c e)
at_place (d ∷ ds) (suc p) c e = ap (λ xs. d ∷ xs) (at_place ds p c e)

taken_at : (cs : List Credit) (n p : ℕ) (o : Option Credit) (c : Credit) → slice_get cs p ≡ o → HasSize n o → c ≡ get_or cs p c → IsTaken cs n c.register (take p cs ++ drop (suc p) cs)
taken_at cs n p None c e h g = absurd h
taken_at cs n p (Some d) c e h g = record {
  before = take p cs;
  following = drop (suc p) cs;
  was = at_place cs p d e ∙ ap (λ x. take p cs ++ (x ∷ drop (suc p) cs)) is;
  left = refl;
}
  where
    same : c ≡ d
    same = g ∙ get_or_from_slice_get cs p d c e

    is : d ≡ record { size = n; register = c.register }
    is = sym same ∙ ap (λ m. record { size = m; register = c.register }) (ap (λ x. x.size) same ∙ h)

last_at : (k : Known) (n p : ℕ) (o : Option Credit) (c : Credit) → Accounted k → NoneBetween (suc p) (length k.credits) k.held k.credits n → slice_get k.credits p ≡ o → HasSize n o → c ≡ get_or k.credits p c → of_size n k.credits ≡ of_size n (take p k.credits ++ drop (suc p) k.credits) ++ c.register ∷ []
last_at k n p None c a none e h g = absurd h
last_at k n p (Some d) c a none e h g =
    let same : c ≡ d = g ∙ get_or_from_slice_get k.credits p d c e in
    let following : of_size n (drop (suc p) k.credits) ≡ [] = none_after k n (suc p) a none in
    let one : of_size n (d ∷ drop (suc p) k.credits) ≡ c.register ∷ [] = ap (λ b. if b then d.register ∷ of_size n (drop (suc p) k.credits) else of_size n (drop (suc p) k.credits)) (equal_is d.size n h) ∙ ap (λ xs. d.register ∷ xs) following ∙ ap (λ (x : Credit). x.register ∷ []) (sym same) in
    let rest : of_size n (take p k.credits ++ drop (suc p) k.credits) ≡ of_size n (take p k.credits) = size_both n (take p k.credits) (drop (suc p) k.credits) ∙ ap (λ xs. of_size n (take p k.credits) ++ xs) following ∙ append_none (of_size n (take p k.credits)) in
    ap (of_size n) (at_place k.credits p d e) ∙ size_both n (take p k.credits) (d ∷ drop (suc p) k.credits) ∙ ap (λ xs. of_size n (take p k.credits) ++ xs) one ∙ ap (λ xs. xs ++ c.register ∷ []) (sym rest)
  where
    append_none : (xs : List ℕ) → xs ++ [] ≡ xs
    append_none [] = refl
    append_none (x ∷ xs) = ap (λ ys. x ∷ ys) (append_none xs)

pub taken_from : (hs : List Held) (cs ds : List Credit) (ns : List (Option ℕ)) (next n p : ℕ) (c : Credit) → HasSize n (slice_get cs p) → NoneBetween (suc p) (length cs) hs cs n → c ≡ get_or cs p c → ds ≡ take p cs ++ drop (suc p) cs → Takes (record { held = hs; credits = cs; names = ns; next = next }) n c.register (holding (record { held = hs; credits = ds; names = ns; next = next }) c.register H.Nothing)
taken_from hs cs ds ns next n p c h none g e = record {
  rest = ds;
  taken = subst (IsTaken cs n c.register) (sym e) (taken_at cs n p (slice_get cs p) c refl h g);
  last = λ a. subst (λ x. of_size n cs ≡ of_size n x ++ c.register ∷ []) (sym e) (last_at (record { held = hs; credits = cs; names = ns; next = next }) n p (slice_get cs p) c a none refl h g);
  known = refl;
}

-- a credit's register
pub held_at : (hs : List Held) (cs : List Credit) (p : ℕ) (c : Credit) → IsHeld hs (slice_get cs p) → c ≡ get_or cs p c → IsFull (slice_get hs c.register)
held_at hs cs p c h e = at (slice_get cs p) refl h
  where
    at : (o : Option Credit) → slice_get cs p ≡ o → IsHeld hs o → IsFull (slice_get hs c.register)
    at None f x = absurd x
    at (Some d) f x = subst (λ z. IsFull (slice_get hs z.register)) (sym (e ∙ get_or_from_slice_get cs p d c f)) x

pub ruleset taking = (taken_from, held_at)

-- of each size the last ones are gone

pub other_size : (cs : List Credit) (n r m : ℕ) (rest : List Credit) → IsTaken cs n r rest → (n ≡ m → ⊥) → of_size m cs ≡ of_size m rest
other_size cs n r m rest t ne =
    let c : Credit = record { size = n; register = r } in
    let past : of_size m (c ∷ t.following) ≡ of_size m t.following = ap (λ b. if b then r ∷ of_size m t.following else of_size m t.following) (unequal_is n m ne) in
    ap (of_size m) t.was ∙ size_both m t.before (c ∷ t.following) ∙ ap (λ xs. of_size m t.before ++ xs) past ∙ sym (ap (of_size m) t.left ∙ size_both m t.before t.following)

pub last_same : (cs : List Credit) → LastGone cs cs
last_same cs = λ n. ([], none_gone (of_size n cs))

pub last_on : (cs ds es : List Credit) → LastGone cs ds → LastGone ds es → LastGone cs es
last_on cs ds es a b = λ n. let x = a n in let y = b n in (y.0 ++ x.0, x.1 ∙ ap (λ xs. xs ++ x.0) y.1 ∙ together (of_size n es) y.0 x.0)
  where
    together : (xs ys zs : List ℕ) → (xs ++ ys) ++ zs ≡ xs ++ (ys ++ zs)
    together [] ys zs = refl
    together (x ∷ xs) ys zs = ap (λ us. x ∷ us) (together xs ys zs)

pub taken_last : (k l : Known) (n r : ℕ) → Takes k n r l → Accounted k → LastGone k.credits l.credits
taken_last k l n r t a = subst (λ (x : Known). LastGone k.credits x.credits) (sym t.known) (λ m. elim (cases_eq n m) [
  | inl same ↦ (r ∷ [], subst (λ z. of_size z k.credits ≡ of_size z t.rest ++ r ∷ []) same (t.last a))
  | inr ne ↦ ([], other_size k.credits n r m t.rest t.taken ne ∙ none_gone (of_size m t.rest))
])

pub taken_held : (k : Known) (n r : ℕ) (rest : List Credit) → Accounted k → IsTaken k.credits n r rest → slice_get k.held r ≡ Some (H.Credit n)
taken_held k n r rest a t = credit_held k n r a
    (let same : one_if ((n == n) && (r == r)) ≡ 1 = ap one_if (ap (λ b. b && (r == r)) (equal_is n n refl) ∙ equal_is r r refl) in omega (arith, counted_taken k.credits n r rest n r t, same))

pub taken_accounted : (k l : Known) (n r : ℕ) → Takes k n r l → Accounted k → Accounted l
taken_accounted k l n r t a = subst Accounted (sym t.known) (record {
  fresh = λ q h le e. elim (cases_eq q r) [
    | inl same ↦ get_same (λ o. o ≡ Some h → h ≡ H.Nothing) k.held r H.Nothing (λ x. absurd (cc)) (λ x. sym (same_some H.Nothing h x)) (subst (λ z. slice_get (slice_set k.held r H.Nothing) z ≡ Some h) same e)
    | inr ne ↦ a.fresh q h le (sym (get_other k.held r H.Nothing q ne) ∙ e)
  ];
  credits = λ m q. elim (cases_eq q r) [
    | inl same ↦ subst (λ z. counted m z t.rest ≡ one_if (is_credit_of m (slice_get (slice_set k.held r H.Nothing) z))) (sym same) (here m)
    | inr ne ↦ there m q ne
  ];
  sizes = λ m q e. elim (cases_eq q r) [
    | inl same ↦ absurd (get_same (λ o. o ≡ Some (H.Credit m) → ⊥) k.held r H.Nothing (λ x. absurd (cc)) (λ x. absurd (cc)) (subst (λ z. slice_get (slice_set k.held r H.Nothing) z ≡ Some (H.Credit m)) same e))
    | inr ne ↦ a.sizes m q (sym (get_other k.held r H.Nothing q ne) ∙ e)
  ];
})
  where
    held : slice_get k.held r ≡ Some (H.Credit n)
    held = taken_held k n r t.rest a t.taken

    gone : (m : ℕ) → is_credit_of m (slice_get (slice_set k.held r H.Nothing) r) ≡ false
    gone m = get_same (λ o. is_credit_of m o ≡ false) k.held r H.Nothing refl refl

    here : (m : ℕ) → counted m r t.rest ≡ one_if (is_credit_of m (slice_get (slice_set k.held r H.Nothing) r))
    here m =
        let was : counted m r k.credits ≡ one_if (n == m) = a.credits m r ∙ ap (λ o. one_if (is_credit_of m o)) held in
        let itself : one_if ((n == m) && (r == r)) ≡ one_if (n == m) = ap (λ b. one_if ((n == m) && b)) (equal_is r r refl) ∙ ap one_if (and_true (n == m)) in
        let none : counted m r t.rest ≡ 0 = omega (arith, was, itself, counted_taken k.credits n r t.rest m r t.taken) in
        none ∙ sym (ap one_if (gone m))

    there : (m q : ℕ) → (q ≡ r → ⊥) → counted m q t.rest ≡ one_if (is_credit_of m (slice_get (slice_set k.held r H.Nothing) q))
    there m q ne =
        let other : one_if ((n == m) && (r == q)) ≡ 0 = ap (λ b. one_if ((n == m) && b)) (unequal_is r q (λ e. ne (sym e))) ∙ ap one_if (and_false (n == m)) in
        let left : counted m q t.rest ≡ counted m q k.credits = omega (arith, other, counted_taken k.credits n r t.rest m q t.taken) in
        left ∙ a.credits m q ∙ ap (λ o. one_if (is_credit_of m o)) (sym (get_other k.held r H.Nothing q ne))

-- one less of its size, and as many of any other
pub taken_less : (k l : Known) (n r : ℕ) → Takes k n r l → suc (sized n l.credits) ≡ sized n k.credits
taken_less k l n r t =
    let same : sized n l.credits ≡ sized n t.rest = ap (λ (x : Known). sized n x.credits) t.known in
    let one : one_if (n == n) ≡ 1 = ap one_if (equal_is n n refl) in
    omega (arith, same, one, sized_taken k.credits n r t.rest n t.taken)

pub taken_others : (k l : Known) (n r m : ℕ) → Takes k n r l → sized m l.credits ≤ sized m k.credits
taken_others k l n r m t =
    let same : sized m l.credits ≡ sized m t.rest = ap (λ (x : Known). sized m x.credits) t.known in
    omega (arith, same, sized_taken k.credits n r t.rest m t.taken)

-- where no credit of a size that there may be is left, no register holds one
pub no_credits : (k : Known) → Accounted k → ((n : ℕ) → 1 ≤ n → n ≤ MOST_FIELDS → sized n k.credits ≡ 0) → (r n : ℕ) → slice_get k.held r ≡ Some (H.Credit n) → ⊥
no_credits k a none r n e =
    let in_range = a.sizes n r e in
    let there : one_if (is_credit_of n (slice_get k.held r)) ≡ 1 = ap (λ o. one_if (is_credit_of n o)) e ∙ ap one_if (equal_is n n refl) in
    let counts = a.credits n r in
    let zeros = none n in_range.0 in_range.1 in
    absurd (omega (arith, there, counts, zeros, counted_sized n r k.credits))

-- registers that are emptied, and hold no credit

lent_credit : (r m : ℕ) (root : Option ℕ) (h : Held) → is_credit_of m (Some h) ≡ false → is_credit_of m (Some (lent_by r root h)) ≡ false
lent_credit r m None h e = e
lent_credit r m (Some q) h e = by (q == r)
  where
    by : (b : Bool) → is_credit_of m (Some (if b then H.Nothing else h)) ≡ false
    by true = refl
    by false = e

without_credit : (r m : ℕ) (o : Option Held) → is_credit_of m (option_map (without r) o) ≡ is_credit_of m o
without_credit r m None = refl
without_credit r m (Some H.Nothing) = refl
without_credit r m (Some (H.Scalar t)) = refl
without_credit r m (Some (H.Owned t b)) = refl
without_credit r m (Some (H.Lent t root)) = lent_credit r m root (H.Lent t root) refl
without_credit r m (Some (H.Credit n)) = refl
without_credit r m (Some (H.Bare t c)) = refl

set_credit : (hs : List Held) (r m q : ℕ) → ((n : ℕ) → is_credit_of n (slice_get hs r) ≡ false) → is_credit_of m (slice_get (slice_set hs r H.Nothing) q) ≡ is_credit_of m (slice_get hs q)
set_credit hs r m q none = elim (cases_eq q r) [
  | inl same ↦ subst (λ z. is_credit_of m (slice_get (slice_set hs r H.Nothing) z) ≡ is_credit_of m (slice_get hs z)) (sym same) (get_same (λ o. is_credit_of m o ≡ false) hs r H.Nothing refl refl ∙ sym (none m))
  | inr ne ↦ ap (is_credit_of m) (get_other hs r H.Nothing q ne)
]

owned_credit : (o : Option Held) (n : ℕ) → is_owned o ≡ true → is_credit_of n o ≡ false
owned_credit None n e = refl
owned_credit (Some H.Nothing) n e = refl
owned_credit (Some (H.Scalar t)) n e = refl
owned_credit (Some (H.Owned t b)) n e = refl
owned_credit (Some (H.Lent t root)) n e = refl
owned_credit (Some (H.Credit m)) n e = absurd (true≢false (sym e))
owned_credit (Some (H.Bare t c)) n e = refl

bare_credit : (o : Option Held) (n : ℕ) → is_bare o ≡ true → is_credit_of n o ≡ false
bare_credit None n e = refl
bare_credit (Some H.Nothing) n e = refl
bare_credit (Some (H.Scalar t)) n e = refl
bare_credit (Some (H.Owned t b)) n e = refl
bare_credit (Some (H.Lent t root)) n e = refl
bare_credit (Some (H.Credit m)) n e = absurd (true≢false (sym e))
bare_credit (Some (H.Bare t c)) n e = refl

used_credit : (b : Bool) (hs : List Held) (r m q : ℕ) → is_owned (slice_get hs r) ≡ b → is_credit_of m (slice_get (used_if b hs r) q) ≡ is_credit_of m (slice_get hs q)
used_credit false hs r m q e = refl
used_credit true hs r m q e =
    ap (is_credit_of m) (slice_get-map (without r) (slice_set hs r H.Nothing) q) ∙ without_credit r m (slice_get (slice_set hs r H.Nothing) q) ∙ set_credit hs r m q (λ n. owned_credit (slice_get hs r) n e)

-- what holds nothing
nothing_set : (hs : List Held) (r q : ℕ) (h : Held) → ((g : Held) → slice_get hs q ≡ Some g → g ≡ H.Nothing) → slice_get (slice_set hs r H.Nothing) q ≡ Some h → h ≡ H.Nothing
nothing_set hs r q h none e = elim (cases_eq q r) [
  | inl same ↦ get_same (λ o. o ≡ Some h → h ≡ H.Nothing) hs r H.Nothing (λ x. absurd (cc)) (λ x. sym (same_some H.Nothing h x)) (subst (λ z. slice_get (slice_set hs r H.Nothing) z ≡ Some h) same e)
  | inr ne ↦ none h (sym (get_other hs r H.Nothing q ne) ∙ e)
]

nothing_without : (r : ℕ) (o : Option Held) (h : Held) → ((g : Held) → o ≡ Some g → g ≡ H.Nothing) → option_map (without r) o ≡ Some h → h ≡ H.Nothing
nothing_without r None h none e = absurd (cc)
nothing_without r (Some g) h none e = sym (same_some (without r g) h e) ∙ ap (without r) (none g refl)

nothing_used : (b : Bool) (hs : List Held) (r q : ℕ) (h : Held) → ((g : Held) → slice_get hs q ≡ Some g → g ≡ H.Nothing) → slice_get (used_if b hs r) q ≡ Some h → h ≡ H.Nothing
nothing_used false hs r q h none e = none h e
nothing_used true hs r q h none e = nothing_without r (slice_get (slice_set hs r H.Nothing) q) h (λ g. nothing_set hs r q g none) (sym (slice_get-map (without r) (slice_set hs r H.Nothing) q) ∙ e)

-- a credit that is held was held before
sizes_same : (hs ks : List Held) → ((m q : ℕ) → is_credit_of m (slice_get ks q) ≡ is_credit_of m (slice_get hs q)) → (n r : ℕ) → slice_get ks r ≡ Some (H.Credit n) → slice_get hs r ≡ Some (H.Credit n)
sizes_same hs ks same n r e = credit_is n (slice_get hs r) (sym (same n r) ∙ ap (is_credit_of n) e ∙ equal_is n n refl)

pub bare_accounted : (k l : Known) (r : ℕ) → is_bare (slice_get k.held r) ≡ true → l ≡ holding k r H.Nothing → Accounted k → Accounted l
bare_accounted k l r b e a = subst Accounted (sym e) (record {
  fresh = λ q h le f. nothing_set k.held r q h (λ g. a.fresh q g le) f;
  credits = λ m q. a.credits m q ∙ ap one_if (sym (set_credit k.held r m q (λ n. bare_credit (slice_get k.held r) n b)));
  sizes = λ n q f. a.sizes n q (sizes_same k.held (slice_set k.held r H.Nothing) (λ m p. set_credit k.held r m p (λ x. bare_credit (slice_get k.held r) x b)) n q f);
})

pub used_accounted : (k l : Known) (r : ℕ) → l ≡ using k (used k.held r) → Accounted k → Accounted l
used_accounted k l r e a = subst Accounted (sym e) (record {
  fresh = λ q h le f. nothing_used (is_owned (slice_get k.held r)) k.held r q h (λ g. a.fresh q g le) f;
  credits = λ m q. a.credits m q ∙ ap one_if (sym (used_credit (is_owned (slice_get k.held r)) k.held r m q refl));
  sizes = λ n q f. a.sizes n q (sizes_same k.held (used k.held r) (λ m p. used_credit (is_owned (slice_get k.held r)) k.held r m p refl) n q f);
})

pub used_all_accounted : (k : Known) (rs : List ℕ) → Accounted k → Accounted (using k (used_all k.held rs))
used_all_accounted k [] a = a
used_all_accounted k (r ∷ rs) a = used_all_accounted (using k (used k.held r)) rs (used_accounted k (using k (used k.held r)) r refl a)

-- trees

pub trees_same : (hs : List Held) → FewerTrees hs hs
trees_same hs = λ r e. e

pub trees_on : (hs ks ls : List Held) → FewerTrees hs ks → FewerTrees ks ls → FewerTrees hs ls
trees_on hs ks ls a b = λ r e. b r (a r e)

pub trees_set : (hs ks : List Held) (r : ℕ) → ks ≡ slice_set hs r H.Nothing → FewerTrees hs ks
trees_set hs ks r e = subst (FewerTrees hs) (sym e) (λ q f. elim (cases_eq q r) [
  | inl same ↦ subst (λ z. is_owned (slice_get (slice_set hs r H.Nothing) z) ≡ false) (sym same) (get_same (λ o. is_owned o ≡ false) hs r H.Nothing refl refl)
  | inr ne ↦ ap is_owned (get_other hs r H.Nothing q ne) ∙ f
])

lent_tree : (r : ℕ) (root : Option ℕ) (h : Held) → is_owned (Some h) ≡ false → is_owned (Some (lent_by r root h)) ≡ false
lent_tree r None h e = e
lent_tree r (Some q) h e = by (q == r)
  where
    by : (b : Bool) → is_owned (Some (if b then H.Nothing else h)) ≡ false
    by true = refl
    by false = e

without_tree : (r : ℕ) (o : Option Held) → is_owned o ≡ false → is_owned (option_map (without r) o) ≡ false
without_tree r None e = refl
without_tree r (Some H.Nothing) e = refl
without_tree r (Some (H.Scalar t)) e = refl
without_tree r (Some (H.Owned t b)) e = absurd (true≢false e)
without_tree r (Some (H.Lent t root)) e = lent_tree r root (H.Lent t root) refl
without_tree r (Some (H.Credit n)) e = refl
without_tree r (Some (H.Bare t c)) e = refl

trees_if : (b : Bool) (hs : List Held) (r : ℕ) → FewerTrees hs (used_if b hs r)
trees_if false hs r = λ q e. e
trees_if true hs r = λ q e. ap is_owned (slice_get-map (without r) (slice_set hs r H.Nothing) q) ∙ without_tree r (slice_get (slice_set hs r H.Nothing) q) (trees_set hs (slice_set hs r H.Nothing) r refl q e)

pub trees_used : (hs ks : List Held) (r : ℕ) → ks ≡ used hs r → FewerTrees hs ks
trees_used hs ks r e = subst (FewerTrees hs) (sym e) (trees_if (is_owned (slice_get hs r)) hs r)

gone_if : (b : Bool) (hs : List Held) (r : ℕ) → is_owned (slice_get hs r) ≡ b → is_owned (slice_get (used_if b hs r) r) ≡ false
gone_if false hs r e = e
gone_if true hs r e = ap is_owned (slice_get-map (without r) (slice_set hs r H.Nothing) r) ∙ without_tree r (slice_get (slice_set hs r H.Nothing) r) (get_same (λ o. is_owned o ≡ false) hs r H.Nothing refl refl)

pub tree_gone : (hs ks : List Held) (r : ℕ) → ks ≡ used hs r → is_owned (slice_get ks r) ≡ false
tree_gone hs ks r e = subst (λ x. is_owned (slice_get x r) ≡ false) (sym e) (gone_if (is_owned (slice_get hs r)) hs r refl)

pub bare_gone : (hs ks : List Held) (r : ℕ) → ks ≡ slice_set hs r H.Nothing → is_bare (slice_get ks r) ≡ false
bare_gone hs ks r e = subst (λ x. is_bare (slice_get x r) ≡ false) (sym e) (get_same (λ o. is_bare o ≡ false) hs r H.Nothing refl refl)

pub no_trees_next : (hs ks : List Held) (n m : ℕ) → m ≡ suc n → FewerTrees hs ks → is_owned (slice_get ks n) ≡ false → NoTrees n hs → NoTrees m ks
no_trees_next hs ks n m e f g h = λ r lt. elim (cases_eq r n) [
  | inl same ↦ subst (λ z. is_owned (slice_get ks z) ≡ false) (sym same) g
  | inr ne ↦ f r (h r (omega (arith, e, lt, ne)))
]

-- what is put into a register that holds no credit

pub put_accounted : (k : Known) (r n : ℕ) (h : Held) → k.next ≤ n → r < n → ((m : ℕ) → is_credit_of m (slice_get k.held r) ≡ false) → ((m : ℕ) → is_credit_of m (Some h) ≡ false) → Accounted k → Accounted (record { held = slice_set k.held r h; credits = k.credits; names = k.names; next = n })
put_accounted k r n h le lt old new a = record {
  fresh = λ q g low e. a.fresh q g (omega (arith, le, low)) (sym (get_other k.held r h q (λ same. absurd (omega (arith, same, lt, low)))) ∙ e);
  credits = λ m q. elim (cases_eq q r) [
    | inl same ↦ a.credits m q ∙ ap one_if (subst (λ z. is_credit_of m (slice_get k.held z) ≡ is_credit_of m (slice_get (slice_set k.held r h) z)) (sym same) (old m ∙ sym (get_same (λ o. is_credit_of m o ≡ false) k.held r h refl (new m))))
    | inr ne ↦ a.credits m q ∙ ap (λ o. one_if (is_credit_of m o)) (sym (get_other k.held r h q ne))
  ];
  sizes = λ m q e. elim (cases_eq q r) [
    | inl same ↦ absurd (true≢false (sym (ap (is_credit_of m) (subst (λ z. slice_get (slice_set k.held r h) z ≡ Some (H.Credit m)) same e) ∙ equal_is m m refl) ∙ get_same (λ o. is_credit_of m o ≡ false) k.held r h refl (new m)))
    | inr ne ↦ a.sizes m q (sym (get_other k.held r h q ne) ∙ e)
  ];
}

pub nothing_or : (m : ℕ) (o : Option Held) → ((h : Held) → o ≡ Some h → h ≡ H.Nothing) → is_credit_of m o ≡ false
nothing_or m None f = refl
nothing_or m (Some h) f = ap (λ x. is_credit_of m (Some x)) (f h refl)

pub next_accounted : (k : Known) (h : Held) → ((m : ℕ) → is_credit_of m (Some h) ≡ false) → Accounted k → Accounted (with_next k h)
next_accounted k h new a = put_accounted k k.next (suc k.next) h (omega arith) (omega arith) (λ m. nothing_or m (slice_get k.held k.next) (λ g e. a.fresh k.next g (omega arith) e)) new a

-- a register that holds something is used already
used_already : (k : Known) (r : ℕ) (h : Held) → Accounted k → slice_get k.held r ≡ Some h → (h ≡ H.Nothing → ⊥) → r < k.next
used_already k r h a e ne = by (split r k.next)
  where
    split : (r n : ℕ) → (r < n) ⊎ (n ≤ r)
    split r zero = inr (omega arith)
    split zero (suc n) = inl (omega arith)
    split (suc r) (suc n) = elim (split r n) [ inl x ↦ inl (omega (arith, x)) | inr x ↦ inr (omega (arith, x)) ]

    by : (r < k.next) ⊎ (k.next ≤ r) → r < k.next
    by (inl lt) = lt
    by (inr le) = absurd (ne (a.fresh r h le e))

pub reused_accounted : (k m l : Known) (t c r : ℕ) → TakesBare k t c r m → l ≡ holding m r (H.Owned t (Some c)) → Accounted k → Accounted l
reused_accounted k m l t c r b e a =
    let bare : is_bare (slice_get k.held r) ≡ true = ap is_bare b.there in
    let am : Accounted m = bare_accounted k m r bare b.known a in
    let lt : r < k.next = used_already k r (H.Bare t c) a b.there (λ x. absurd (cc)) in
    let same : m.next ≡ k.next = ap (λ (x : Known). x.next) b.known in
    subst Accounted (sym e) (put_accounted m r m.next (H.Owned t (Some c)) (omega arith) (omega (arith, lt, same))
    (λ n. subst (λ (x : Known). is_credit_of n (slice_get x.held r) ≡ false) (sym b.known) (get_same (λ o. is_credit_of n o ≡ false) k.held r H.Nothing refl refl)) (λ n. refl) am)

used_all_credit : (hs : List Held) (rs : List ℕ) (m q : ℕ) → is_credit_of m (slice_get (used_all hs rs) q) ≡ is_credit_of m (slice_get hs q)
used_all_credit hs [] m q = refl
used_all_credit hs (r ∷ rs) m q = used_all_credit (used hs r) rs m q ∙ used_credit (is_owned (slice_get hs r)) hs r m q refl

pub filled_accounted : (k m l : Known) (n r t c : ℕ) (rs : List ℕ) → Takes k n r m → l ≡ holding (using m (used_all m.held rs)) r (H.Owned t (Some c)) → Accounted k → Accounted l
filled_accounted k m l n r t c rs x e a =
    let am : Accounted m = taken_accounted k m n r x a in
    let lt : r < k.next = used_already k r (H.Credit n) a (taken_held k n r x.rest a x.taken) (λ i. absurd (cc)) in
    let same : m.next ≡ k.next = ap (λ (y : Known). y.next) x.known in
    subst Accounted (sym e) (put_accounted (using m (used_all m.held rs)) r m.next (H.Owned t (Some c)) (omega arith) (omega (arith, lt, same))
    (λ z. used_all_credit m.held rs z r ∙ subst (λ (y : Known). is_credit_of z (slice_get y.held r) ≡ false) (sym x.known) (get_same (λ o. is_credit_of z o ≡ false) k.held r H.Nothing refl refl)) (λ z. refl) (used_all_accounted m rs am))

-- what is handed over

handed_one : (b : Bool) (k : Known) (r : ℕ) → Accounted k → Accounted (using k (if b then k.held else used k.held r))
handed_one true k r a = a
handed_one false k r a = used_accounted k (using k (used k.held r)) r refl a

pub handed_accounted : (k : Known) (ps : List Param) (rs : List ℕ) → Accounted k → Accounted (using k (handed k.held ps rs))
handed_accounted k [] rs a = a
handed_accounted k (p ∷ ps) [] a = a
handed_accounted k (p ∷ ps) (r ∷ rs) a = handed_accounted (using k (if p.lent then k.held else used k.held r)) ps rs (handed_one p.lent k r a)

-- no credit is new

-- how often a register is in a list
abbrev pub among : ℕ → List ℕ → ℕ
among r [] = 0
among r (x ∷ xs) = one_if (x == r) + among r xs

among_both : (r : ℕ) (xs ys : List ℕ) → among r (xs ++ ys) ≡ among r xs + among r ys
among_both r [] ys = omega arith
among_both r (x ∷ xs) ys = omega (arith, among_both r xs ys)

counted_among : (n r : ℕ) (cs : List Credit) → counted n r cs ≡ among r (of_size n cs)
counted_among n r [] = refl
counted_among n r (c ∷ cs) = by_size (c.size == n) (counted_among n r cs)
  where
    by_size : (b : Bool) → counted n r cs ≡ among r (of_size n cs) → one_if (b && (c.register == r)) + counted n r cs ≡ among r (if b then c.register ∷ of_size n cs else of_size n cs)
    by_size true e = ap (λ x. one_if (c.register == r) + x) e
    by_size false e = omega (arith, e)

pub fewer_counted : (cs ds : List Credit) (n r : ℕ) → LastGone cs ds → counted n r ds ≤ counted n r cs
fewer_counted cs ds n r l =
    let x = l n in
    let e : among r (of_size n cs) ≡ among r (of_size n ds ++ x.0) = ap (among r) x.1 in
    omega (arith, e, counted_among n r cs, counted_among n r ds, among_both r (of_size n ds) x.0)

pub not_of : (m : ℕ) (o : Option Held) → is_credit o ≡ false → is_credit_of m o ≡ false
not_of m None e = refl
not_of m (Some H.Nothing) e = refl
not_of m (Some (H.Scalar t)) e = refl
not_of m (Some (H.Owned t b)) e = refl
not_of m (Some (H.Lent t root)) e = refl
not_of m (Some (H.Credit n)) e = absurd (true≢false e)
not_of m (Some (H.Bare t c)) e = refl

pub of_none : (o : Option Held) → ((m : ℕ) → is_credit_of m o ≡ false) → is_credit o ≡ false
of_none None h = refl
of_none (Some H.Nothing) h = refl
of_none (Some (H.Scalar t)) h = refl
of_none (Some (H.Owned t b)) h = refl
of_none (Some (H.Lent t root)) h = refl
of_none (Some (H.Credit n)) h = absurd (true≢false (sym (equal_is n n refl) ∙ h n))
of_none (Some (H.Bare t c)) h = refl

none_if : (b : Bool) → one_if b ≤ 0 → b ≡ false
none_if true h = absurd (omega (arith, h))
none_if false h = refl

pub no_new_credit : (k l : Known) (r : ℕ) → Accounted k → Accounted l → LastGone k.credits l.credits → is_credit (slice_get k.held r) ≡ false → is_credit (slice_get l.held r) ≡ false
no_new_credit k l r a b last e = of_none (slice_get l.held r) (λ m. none_if (is_credit_of m (slice_get l.held r))
    (let before = a.credits m r in let after = b.credits m r in let none : one_if (is_credit_of m (slice_get k.held r)) ≡ 0 = ap one_if (not_of m (slice_get k.held r) e) in
    omega (arith, before, after, none, fewer_counted k.credits l.credits m r last)))

-- a register that gets what holds no credit

pub set_solid : (hs : List Held) (d : ℕ) (h : Held) (r : ℕ) → is_credit (Some h) ≡ false → is_credit (slice_get hs r) ≡ false → is_credit (slice_get (slice_set hs d h) r) ≡ false
set_solid hs d h r new e = elim (cases_eq r d) [
  | inl same ↦ subst (λ z. is_credit (slice_get (slice_set hs d h) z) ≡ false) (sym same) (get_same (λ o. is_credit o ≡ false) hs d h refl new)
  | inr ne ↦ ap is_credit (get_other hs d h r ne) ∙ e
]

pub set_itself : (hs : List Held) (d : ℕ) (h : Held) → is_credit (Some h) ≡ false → is_credit (slice_get (slice_set hs d h) d) ≡ false
set_itself hs d h new = get_same (λ o. is_credit o ≡ false) hs d h refl new

value_of : (h : Held) (m : ℕ) → is_credit (Some h) ≡ false → is_credit_of m (Some (as_value h)) ≡ false
value_of H.Nothing m e = refl
value_of (H.Scalar t) m e = refl
value_of (H.Owned t b) m e = refl
value_of (H.Lent t root) m e = refl
value_of (H.Credit n) m e = absurd (true≢false e)
value_of (H.Bare t c) m e = refl

value_credit : (hs : List Held) (r m : ℕ) → is_credit (slice_get hs r) ≡ false → is_credit_of m (Some (as_value (get_or hs r H.Nothing))) ≡ false
value_credit [] r m e = refl
value_credit (h ∷ hs) zero m e = value_of h m e
value_credit (h ∷ hs) (suc r) m e = value_credit hs r m e

pub moved_accounted : (k : Known) (r d : ℕ) → Accounted k → is_credit (slice_get k.held r) ≡ false → d < k.next → is_credit (slice_get k.held d) ≡ false → Accounted (moved k d r)
moved_accounted k r d a source lt target = put_accounted (using k (used k.held r)) d k.next (as_value (get_or k.held r H.Nothing)) (omega arith) lt
    (λ m. used_credit (is_owned (slice_get k.held r)) k.held r m d refl ∙ not_of m (slice_get k.held d) target) (λ m. value_credit k.held r m source)
    (used_accounted k (using k (used k.held r)) r refl a)

pub already_used : (k : Known) (r : ℕ) (t c : ℕ) → Accounted k → slice_get k.held r ≡ Some (H.Bare t c) → r < k.next
already_used k r t c a e = used_already k r (H.Bare t c) a e (λ x. absurd (cc))

pub credit_used : (k l : Known) (n r : ℕ) → Accounted k → Takes k n r l → r < k.next
credit_used k l n r a x = used_already k r (H.Credit n) a (taken_held k n r x.rest a x.taken) (λ i. absurd (cc))

given_credit : (b : Bool) (t m : ℕ) → is_credit_of m (Some (given_if b t)) ≡ false
given_credit true t m = refl
given_credit false t m = refl

given_solid : (b : Bool) (t : ℕ) → is_credit (Some (given_if b t)) ≡ false
given_solid true t = refl
given_solid false t = refl

pub all_solid_on : (k l : Known) (rs : List ℕ) → k.next ≤ l.next → ((r : ℕ) → is_credit (slice_get k.held r) ≡ false → is_credit (slice_get l.held r) ≡ false) → AllSolid k rs → AllSolid l rs
all_solid_on k l [] le f s = tt
all_solid_on k l (r ∷ rs) le f s = (let x = s.0 in omega (arith, le, x), f r s.1, all_solid_on k l rs le f s.2)

pub received_accounted : (s : Setting) (k : Known) (ts ds : List ℕ) → Accounted k → AllSolid k ds → Accounted (using k (received s k.held ts ds))
received_accounted s k [] ds a x = a
received_accounted s k (t ∷ ts) [] a x = a
received_accounted s k (t ∷ ts) (d ∷ ds) a x =
    let one : Known = using k (slice_set k.held d (given s t)) in
    received_accounted s one ts ds (put_accounted k d k.next (given s t) (omega arith) x.0 (λ m. not_of m (slice_get k.held d) x.1) (λ m. given_credit (is_scalar s t) t m) a)
    (all_solid_on k one ds (omega arith) (λ r e. set_solid k.held d (given s t) r (given_solid (is_scalar s t) t) e) x.2)

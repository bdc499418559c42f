-- What the end of a clause leaves: constructors that were matched are used up, and in fbip trees are dropped and
-- credits freed, but those that stay.
use Rattle.std.proofs.Common.{◌≡◌, ◌⊎◌, inl, inr, refl, sym, ap, ◌∙◌, subst, arith, true≢false, ℕ, zero, suc, ◌+◌, ◌-◌, ◌≤◌, ◌<◌, Bool, true, false, not, List, [], ◌∷◌, length, take, map, Option, Some, None, slice_get, slice_set}
use Rattle.std.specs.Prelude.{option_map, ◌==◌, ◌&&◌, ◌||◌, if◌then◌else◌}
use Rattle.std.proofs.lemmas.Bool.{cases_eq, eq-eqb}
use Rattle.std.proofs.lemmas.List.{take_all, take_at, length-take-le}
use Rattle.std.proofs.lemmas.Option.{slice_get-map}
use Rattle.fip_language.specs.Every.{Among}
use Rattle.cell_code.specs.declared.code.CodeKind.TheVariants as F
use Rattle.fip_language.specs.declared.limits.TheConstants.{MOST_FIELDS}
use Rattle.fip_language.proofs.Search.{le_or_less}
use Rattle.fip_trees.specs.Tree.{Expression}
use Rattle.cell_code.specs.Plain.{PlainFunction, PlainCode}
use Rattle.lower_frame.specs.lowering_relation.declared.held.Held.{Held}
use Rattle.lower_frame.specs.lowering_relation.declared.held.Held.TheVariants as H
use Rattle.lower_frame.specs.lowering_relation.declared.held.Credit.{Credit}
use Rattle.lower_frame.specs.lowering_relation.Known.{Known, using, used, used_if, is_owned, without, lent_by, register_of}
use Rattle.lower_frame.specs.lowering_relation.Values.{Setting}
use Rattle.lower_frame.specs.lowering_relation.Losing.{Loses}
use Rattle.lower_frame.specs.lowering_relation.Reading.{contains}
use Rattle.lower_frame.specs.lowering_relation.Written.{Written, size, settled, place_of, HasFrom}
use Rattle.lower_frame.proofs.lowering_relation.MatchLists.{contains_among}
use Rattle.lower_frame.proofs.lowering_relation.Placing.{front, back, has_all}
use Rattle.lower_frame.specs.lowering_relation.Credits.{of_size}
use Rattle.lower_frame.specs.lowering_relation.Describing.{held_at as holding_at, is_tree}
use Rattle.lower_frame.specs.lowering_relation.GivenUp.{GivesUp, GivesOne}
use Rattle.lower_frame.specs.lowering_relation.Joins.{BaresEnd}
use Rattle.lower_frame.specs.lowering_relation.Leftover.{IsUnused}
use Rattle.lower_frame.specs.lowering_relation.Matches.{wide, widened}
use Rattle.lower_frame.specs.lowering_relation.Uses.{need, used_in}
use Rattle.lower_frame.specs.Credits.{is_credit_of, Accounted, FewerTrees, NoBares, NoneBetween, one_if, sized}
use Rattle.lower_frame.specs.Frames.{Takes}
use Rattle.lower_frame.proofs.Accounts.{counted_there, credit_held, get_other, get_same, none_of, none_sized, other_size, taken_held, taken_less, tree_gone}
use Rattle.lower_parts.specs.Laying.{GivesUpLaid}
use Rattle.lower_parts.specs.Leaving.{CanLeave, ClauseLeavesLaid, DropsBut, DropsUnless, EndsBaresLaid, FreesBut, FreesPast, LeavesLaid, kept_of, stays_at}
use Rattle.lower_parts.specs.Marks.{is_marked}
use Rattle.lower_parts.proofs.Laying.{laid_on, nothing_bare, owned_tree, spending}
use Rattle.fip_language.proofs.Facts.{same_some}
use Rattle.lower_parts.proofs.Arriving.{wide_credit, wide_is_credit as wide_sized, wide_nothing}
use Rattle.lower_parts.proofs.Building.{without_lent as lent_less, without_lower as without_less}
pub use Rattle.lower_parts.proofs.Arriving.{wide_accounted}

-- trees that stay where another is dropped

lent_owned : (r t : ℕ) (root o : Option ℕ) → is_owned (Some (lent_by r o (H.Lent t root))) ≡ false
lent_owned r t root None = refl
lent_owned r t root (Some q) = by (q == r)
  where
    by : (b : Bool) → is_owned (Some (if b then H.Nothing else H.Lent t root)) ≡ false
    by true = refl
    by false = refl

owned_without : (r : ℕ) (o : Option Held) → is_owned (option_map (without r) o) ≡ is_owned o
owned_without r None = refl
owned_without r (Some H.Nothing) = refl
owned_without r (Some (H.Scalar t)) = refl
owned_without r (Some (H.Owned t b)) = refl
owned_without r (Some (H.Lent t root)) = lent_owned r t root root
owned_without r (Some (H.Credit n)) = refl
owned_without r (Some (H.Bare t c)) = refl

others_used : (b : Bool) (hs : List Held) (r q : ℕ) → (q ≡ r → ⊥) → is_owned (slice_get (used_if b hs r) q) ≡ is_owned (slice_get hs q)
others_used false hs r q ne = refl
others_used true hs r q ne = ap is_owned (slice_get-map (without r) (slice_set hs r H.Nothing) q) ∙ owned_without r (slice_get (slice_set hs r H.Nothing) q) ∙ ap is_owned (get_other hs r H.Nothing q ne)

pub drops_used : (k l : Known) (r : ℕ) → l ≡ using k (used k.held r) → DropsUnless false r k l
drops_used k l r e = subst (DropsUnless false r k) (sym e) (record {
  gone = λ x. tree_gone k.held (used k.held r) r refl;
  kept = λ x. absurd (true≢false (sym x));
  others = λ q ne. others_used (is_owned (slice_get k.held r)) k.held r q ne;
  credits = refl;
})

pub drops_none : (k : Known) (r : ℕ) → is_owned (slice_get k.held r) ≡ false → DropsUnless false r k k
drops_none k r e = record { gone = λ x. e; kept = λ x. refl; others = λ q ne. refl; credits = refl }

pub drops_kept : (k : Known) (r : ℕ) (b : Bool) → b ≡ true → DropsUnless b r k k
drops_kept k r b e = record { gone = λ x. absurd (true≢false (sym e ∙ x)); kept = λ x. refl; others = λ q ne. refl; credits = refl }

pub drops_as : (k l : Known) (r : ℕ) (b : Bool) → b ≡ false → DropsUnless false r k l → DropsUnless b r k l
drops_as k l r b e d = subst (λ x. DropsUnless x r k l) (sym e) d

-- one register after another

pub drops_start : (o : Known) (ms : List Bool) (given : List ℕ) (k : Known) → DropsBut o ms given 0 k k
drops_start o ms given k = record { kept = λ r e. refl; gone = λ r lt e. absurd (omega (arith, lt)); credits = refl }

pub drops_next : (o : Known) (ms : List Bool) (given : List ℕ) (n m : ℕ) (b : Bool) (k l h : Known) → m ≡ suc n → b ≡ stays_at o ms given n → DropsBut o ms given n k l → DropsUnless b n l h → DropsBut o ms given m k h
drops_next o ms given n m b k l h e f x y = record {
  kept = λ r s. elim (cases_eq r n) [
    | inl same ↦ ap (λ (z : Known). is_owned (slice_get z.held r)) (y.kept (f ∙ sym (ap (stays_at o ms given) same) ∙ s)) ∙ x.kept r s
    | inr ne ↦ y.others r ne ∙ x.kept r s
  ];
  gone = λ r lt s. elim (cases_eq r n) [
    | inl same ↦ ap (λ z. is_owned (slice_get h.held z)) same ∙ y.gone (f ∙ sym (ap (stays_at o ms given) same) ∙ s)
    | inr ne ↦ y.others r ne ∙ x.gone r (omega (arith, e, lt, ne)) s
  ];
  credits = y.credits ∙ x.credits;
}

pub drops_done : (o : Known) (ms : List Bool) (given : List ℕ) (n all : ℕ) (k l : Known) → n ≡ all → DropsBut o ms given n k l → DropsBut o ms given all k l
drops_done o ms given n all k l e x = subst (λ z. DropsBut o ms given z k l) e x

-- credits of a size

length_of : (n : ℕ) (cs : List Credit) → length (of_size n cs) ≡ sized n cs
length_of n [] = refl
length_of n (c ∷ cs) = by (c.size == n) (length_of n cs)
  where
    by : (b : Bool) → length (of_size n cs) ≡ sized n cs → length (if b then c.register ∷ of_size n cs else of_size n cs) ≡ one_if b + sized n cs
    by true e = omega (arith, e)
    by false e = omega (arith, e)

take_take : {A : Type 0} (i j : ℕ) (xs : List A) → i ≤ j → take i (take j xs) ≡ take i xs
take_take zero j xs h = refl
take_take (suc i) zero xs h = absurd (omega (arith, h))
take_take (suc i) (suc j) [] h = refl
take_take (suc i) (suc j) (x ∷ xs) h = ap (λ ys. x ∷ ys) (take_take i j xs (omega (arith, h)))

owned_emptied : (hs : List Held) (r n q : ℕ) → slice_get hs r ≡ Some (H.Credit n) → is_owned (slice_get (slice_set hs r H.Nothing) q) ≡ is_owned (slice_get hs q)
owned_emptied hs r n q e = elim (cases_eq q r) [
  | inl same ↦ subst (λ z. is_owned (slice_get (slice_set hs r H.Nothing) z) ≡ is_owned (slice_get hs z)) (sym same) (get_same (λ o. is_owned o ≡ false) hs r H.Nothing refl refl ∙ sym (ap is_owned e))
  | inr ne ↦ ap is_owned (get_other hs r H.Nothing q ne)
]

pub frees_one : (k l : Known) (n r : ℕ) → Takes k n r l → FreesPast n (sized n k.credits - 1) k l
frees_one k l n r t = record {
  past = λ a.
      let left : of_size n l.credits ≡ of_size n t.rest = ap (λ (x : Known). of_size n x.credits) t.known in
      let many : sized n l.credits ≡ sized n t.rest = ap (λ (x : Known). sized n x.credits) t.known in
      let long : length (of_size n t.rest) ≡ sized n k.credits - 1 = omega (arith, length_of n t.rest, taken_less k l n r t, many) in
      left ∙ sym (ap (take (sized n k.credits - 1)) (t.last a) ∙ take_at (of_size n t.rest) (r ∷ []) (sized n k.credits - 1) long);
  others = λ m ne. ap (λ (x : Known). of_size m x.credits) t.known ∙ sym (other_size k.credits n r m t.rest t.taken (λ e. ne (sym e)));
  trees = λ a q. ap (λ (x : Known). is_owned (slice_get x.held q)) t.known ∙ owned_emptied k.held r n q (taken_held k n r t.rest a t.taken);
}

pub frees_none : (k l : Known) (n : ℕ) → NoneBetween 0 (length k.credits) k.held k.credits n → l ≡ k → FreesPast n (sized n k.credits - 1) k l
frees_none k l n none e = record {
  past = λ a. ap (λ (x : Known). of_size n x.credits) e ∙ sym (take_all (sized n k.credits - 1) (of_size n k.credits) (omega (arith, length_of n k.credits, none_sized k n a none)));
  others = λ m ne. ap (λ (x : Known). of_size m x.credits) e;
  trees = λ a q. ap (λ (x : Known). is_owned (slice_get x.held q)) e;
}

pub frees_start : (k : Known) (n kept i : ℕ) → i ≡ kept → FreesPast n (sized n k.credits - (i - kept)) k k
frees_start k n kept i e = record {
  past = λ a. sym (take_all (sized n k.credits - (i - kept)) (of_size n k.credits) (omega (arith, length_of n k.credits, e)));
  others = λ m ne. refl;
  trees = λ a q. refl;
}

frees_on : (k l m : Known) (n a b : ℕ) → a ≤ sized n k.credits → b ≡ a - 1 → (Accounted k → Accounted l) → FreesPast n a k l → FreesPast n (sized n l.credits - 1) l m → FreesPast n b k m
frees_on k l m n a b le e accounts x y = record {
  past = λ ac.
      let first : of_size n l.credits ≡ take a (of_size n k.credits) = x.past ac in
      let many : sized n l.credits ≡ a = sym (length_of n l.credits) ∙ ap length first ∙ length-take-le a (of_size n k.credits) (omega (arith, length_of n k.credits, le)) in
      let fewer : sized n l.credits - 1 ≡ b = omega (arith, many, e) in
      y.past (accounts ac) ∙ ap (λ z. take z (of_size n l.credits)) fewer ∙ ap (take b) first ∙ take_take b a (of_size n k.credits) (omega (arith, e));
  others = λ z ne. y.others z ne ∙ x.others z ne;
  trees = λ ac q. y.trees (accounts ac) q ∙ x.trees ac q;
}

pub frees_next : (k l m : Known) (n kept i j : ℕ) → j ≡ suc i → kept ≤ i → (Accounted k → Accounted l) → FreesPast n (sized n k.credits - (i - kept)) k l → FreesPast n (sized n l.credits - 1) l m → FreesPast n (sized n k.credits - (j - kept)) k m
frees_next k l m n kept i j e le accounts x y = frees_on k l m n (sized n k.credits - (i - kept)) (sized n k.credits - (j - kept)) (omega arith) (omega (arith, e, le)) accounts x y

pub within_start : (i kept count : ℕ) → i ≡ kept → (i ≡ kept) ⊎ (i ≤ count)
within_start i kept count e = inl e

pub within_next : (kept count all i j : ℕ) → j ≡ suc i → all ≡ count → i < all → (j ≡ kept) ⊎ (j ≤ count)
within_next kept count all i j e f lt = inr (omega (arith, e, f, lt))

pub frees_done : (k l : Known) (n kept i all : ℕ) → all ≡ sized n k.credits → all ≤ i → kept ≤ i → (i ≡ kept) ⊎ (i ≤ sized n k.credits) → FreesPast n (sized n k.credits - (i - kept)) k l → FreesPast n kept k l
frees_done k l n kept i all e le more within x = record { past = λ a. x.past a ∙ by within; others = x.others; trees = x.trees }
  where
    by : (i ≡ kept) ⊎ (i ≤ sized n k.credits) → take (sized n k.credits - (i - kept)) (of_size n k.credits) ≡ take kept (of_size n k.credits)
    by (inl same) = take_all (sized n k.credits - (i - kept)) (of_size n k.credits) (omega (arith, length_of n k.credits, same)) ∙ sym (take_all kept (of_size n k.credits) (omega (arith, length_of n k.credits, same, e, le)))
    by (inr high) = ap (λ z. take z (of_size n k.credits)) (omega (arith, high, e, le, more))

-- one size after another

pub but_start : (o : Known) (need : List ℕ) (k : Known) → FreesBut o need 0 k k
but_start o need k = record { past = λ a m low high. absurd (omega (arith, low, high)); others = λ m h. refl; trees = λ a r. refl }

pub but_next : (o : Known) (need : List ℕ) (n p q kept : ℕ) (k l m : Known) → p ≡ suc n → q ≡ suc n → kept ≡ kept_of o need p → (Accounted k → Accounted l) → FreesBut o need n k l → FreesPast p kept l m → FreesBut o need q k m
but_next o need n p q kept k l m e f g accounts x y = record {
  past = λ a z low high. elim (cases_eq z p) [
    | inl same ↦ subst (λ u. of_size u m.credits ≡ take (kept_of o need u) (of_size u k.credits)) (sym same) (y.past (accounts a) ∙ ap (λ c. take c (of_size p l.credits)) g ∙ ap (take (kept_of o need p)) (x.others p (inr (omega (arith, e)))))
    | inr ne ↦ y.others z ne ∙ x.past a z low (omega (arith, high, e, f, ne))
  ];
  others = λ z h. y.others z (past z h) ∙ x.others z (before z h);
  trees = λ a r. y.trees (accounts a) r ∙ x.trees a r;
}
  where
    past : (z : ℕ) → (z ≡ 0) ⊎ (q < z) → z ≡ p → ⊥
    past z (inl none) same = absurd (omega (arith, none, same, e))
    past z (inr more) same = absurd (omega (arith, more, same, e, f))

    before : (z : ℕ) → (z ≡ 0) ⊎ (q < z) → (z ≡ 0) ⊎ (n < z)
    before z (inl none) = inl none
    before z (inr more) = inr (omega (arith, more, f))

pub but_done : (o : Known) (need : List ℕ) (n all : ℕ) (k l : Known) → n ≡ all → FreesBut o need n k l → FreesBut o need all k l
but_done o need n all k l e x = subst (λ z. FreesBut o need z k l) e x

-- there are no credits of other sizes
no_size : (k : Known) (n : ℕ) → Accounted k → (1 ≤ n → n ≤ MOST_FIELDS → ⊥) → of_size n k.credits ≡ []
no_size k n a bad = none_of n k.credits (λ i c e f.
    let sizes = a.sizes c.size c.register (credit_held k c.size c.register a (counted_there k.credits i c e)) in
    bad (subst (λ z. 1 ≤ z) f sizes.0) (subst (λ z. z ≤ MOST_FIELDS) f sizes.1))

-- registers that aren't used yet own nothing
fresh_tree : (k : Known) (r : ℕ) → Accounted k → k.next ≤ r → is_owned (slice_get k.held r) ≡ false
fresh_tree k r a le = by (slice_get k.held r) (λ h e. a.fresh r h le e)
  where
    by : (o : Option Held) → ((h : Held) → o ≡ Some h → h ≡ H.Nothing) → is_owned o ≡ false
    by None f = refl
    by (Some h) f = ap (λ x. is_owned (Some x)) (f h refl)

tree_used : (k : Known) (r : ℕ) → Accounted k → is_owned (slice_get k.held r) ≡ true → r < k.next
tree_used k r a e = by (le_or_less k.next r)
  where
    by : (k.next ≤ r) ⊎ (r < k.next) → r < k.next
    by (inl le) = absurd (true≢false (sym e ∙ fresh_tree k r a le))
    by (inr lt) = lt

-- each tree that is owned where a match begins has a mark
pub has_marks : (o k : Known) (ms : List Bool) → Accounted k → length ms ≡ k.next → o.held ≡ k.held → (r : ℕ) → is_owned (slice_get o.held r) ≡ true → r < length ms
has_marks o k ms a e f r owned = let lt = tree_used k r a (sym (ap (λ hs. is_owned (slice_get hs r)) f) ∙ owned) in omega (arith, lt, e)

-- which trees stay

given_stays : (a b c : Bool) → c ≡ true → ((a && not b) || c) ≡ true
given_stays true true c e = e
given_stays true false c e = refl
given_stays false b c e = e

unmarked_stays : (a b c : Bool) → a ≡ true → b ≡ false → ((a && not b) || c) ≡ true
unmarked_stays true true c e f = absurd (true≢false f)
unmarked_stays true false c e f = refl
unmarked_stays false b c e f = absurd (true≢false (sym e))

stays_by : (a b c : Bool) → ((a && not b) || c) ≡ true → (c ≡ true) ⊎ ((a ≡ true) × (b ≡ false))
stays_by true true c e = inl e
stays_by true false c e = inr (refl, refl)
stays_by false b c e = inl e

pub among_contains : (d : ℕ) (rs : List ℕ) → Among d rs → contains d rs ≡ true
among_contains d [] a = absurd a
among_contains d (r ∷ rs) (inl e) = ap (λ b. if b then true else contains d rs) (eq-eqb d r e)
among_contains d (r ∷ rs) (inr a) = either (d == r) (contains d rs) (among_contains d rs a)
  where
    either : (b c : Bool) → c ≡ true → (if b then true else c) ≡ true
    either true c e = refl
    either false c e = e

module _ (s : Setting) (o k m l : Known) (e : Expression) (ms : List Bool) (needed given : List ℕ) (can : CanLeave s false o e ms needed) (ak : Accounted k) (am : Accounted m) (drops : DropsBut o ms given k.next k m) (fewer : FewerTrees k.held m.held) (frees : FreesBut o needed MOST_FIELDS m l) where
  -- a tree stays that is to
  tree_stays : (r : ℕ) → stays_at o ms given r ≡ true → is_tree (holding_at k.held r) ≡ true → is_tree (holding_at l.held r) ≡ true
  tree_stays r stays tree = owned_tree l.held r ∙ frees.trees am r ∙ drops.kept r stays ∙ sym (owned_tree k.held r) ∙ tree

  -- its variables aren't used up
  unmarked : (r : ℕ) → IsUnused s o e r → is_marked ms r ≡ false
  unmarked r unused = by (is_marked ms r) refl
    where
      by : (b : Bool) → is_marked ms r ≡ b → b ≡ false
      by false f = refl
      by true f = let x = (can.marked refl).only r f in absurd (true≢false (sym x.2 ∙ unused x.0 x.1))

  unused_of : (r : ℕ) → is_owned (slice_get o.held r) ≡ true → is_marked ms r ≡ false → IsUnused s o e r
  unused_of r owned f = λ x named. by x named (used_in s.instances x e) refl
    where
      by : (x : ℕ) → register_of o.names (Some x) ≡ Some r → (b : Bool) → used_in s.instances x e ≡ b → b ≡ false
      by x named false g = refl
      by x named true g = absurd (true≢false (sym ((can.marked refl).set x r named g (can.many refl r owned)) ∙ f))

  -- one that isn't to stay is gone
  tree_gone_by : (r : ℕ) → stays_at o ms given r ≡ false → is_owned (slice_get l.held r) ≡ false
  tree_gone_by r stays = frees.trees am r ∙ by (le_or_less k.next r)
    where
      by : (k.next ≤ r) ⊎ (r < k.next) → is_owned (slice_get m.held r) ≡ false
      by (inl le) = fewer r (fresh_tree k r ak le)
      by (inr lt) = drops.gone r lt stays

  tree_kept : (r : ℕ) → is_tree (holding_at l.held r) ≡ true → Among r given ⊎ ((is_tree (holding_at o.held r) ≡ true) × IsUnused s o e r)
  tree_kept r tree = by (stays_at o ms given r) refl
    where
      stays : (contains r given ≡ true) ⊎ ((is_owned (slice_get o.held r) ≡ true) × (is_marked ms r ≡ false)) → Among r given ⊎ ((is_tree (holding_at o.held r) ≡ true) × IsUnused s o e r)
      stays (inl f) = inl (contains_among r given f)
      stays (inr f) = inr (owned_tree o.held r ∙ f.0, unused_of r f.0 f.1)

      by : (b : Bool) → stays_at o ms given r ≡ b → Among r given ⊎ ((is_tree (holding_at o.held r) ≡ true) × IsUnused s o e r)
      by true f = stays (stays_by (is_owned (slice_get o.held r)) (is_marked ms r) (contains r given) f)
      by false f = absurd (true≢false (sym tree ∙ owned_tree l.held r ∙ tree_gone_by r f))

  credits_left : (n : ℕ) → 0 < n → of_size n l.credits ≡ take (length (of_size n o.credits) - need s n e) (of_size n k.credits)
  credits_left n pos = by (le_or_less n MOST_FIELDS)
    where
      none : (n ≤ MOST_FIELDS → ⊥) → of_size n k.credits ≡ []
      none bad = no_size k n ak (λ low high. bad high)

      by : (n ≤ MOST_FIELDS) ⊎ (MOST_FIELDS < n) → of_size n l.credits ≡ take (length (of_size n o.credits) - need s n e) (of_size n k.credits)
      by (inl le) =
          let same : kept_of o needed n ≡ length (of_size n o.credits) - need s n e = omega (arith, length_of n o.credits, can.needed refl n (omega (arith, pos)) le) in
          frees.past am n (omega (arith, pos)) le ∙ ap (λ z. take z (of_size n m.credits)) same ∙ ap (λ cs. take (length (of_size n o.credits) - need s n e) (of_size n cs)) drops.credits
      by (inr more) =
          let empty = none (λ le. absurd (omega (arith, le, more))) in
          frees.others n (inr more) ∙ ap (of_size n) drops.credits ∙ empty ∙ sym (ap (take (length (of_size n o.credits) - need s n e)) empty ∙ take_all (length (of_size n o.credits) - need s n e) [] (omega arith))

pub leaves_fip : (s : Setting) (b : Bool) (k o : Known) (v : Written) (ms : List Bool) (needed given : List ℕ) → not b ≡ true → LeavesLaid s (not b) k v o ms needed given k v
leaves_fip s true k o v ms needed given e = absurd (true≢false (sym e))
leaves_fip s false k o v ms needed given e = record { by = λ a x can to f h. (refl, refl) }

pub leaves_fbip : (s : Setting) (b : Bool) (o k m l : Known) (v u w : Written) (ms : List Bool) (needed given : List ℕ) → b ≡ true → GivesUpLaid false k v m u → DropsBut o ms given k.next k m → GivesUpLaid false m u l w → FreesBut o needed MOST_FIELDS m l → LeavesLaid s (not b) k v o ms needed given l w
leaves_fbip s false o k m l v u w ms needed given q x drops y frees = absurd (true≢false (sym q))
leaves_fbip s true o k m l v u w ms needed given q x drops y frees = record {
  by = λ ak e can to f h.
      let am : Accounted m = x.accounts ak in
      let up = (laid_on false k v m u l w x y).by to f h in
      record {
        steps = up.0;
        gives = up.1;
        given = λ r among tree. tree_stays s o k m l e ms needed given can ak am drops x.trees frees r (given_stays (is_owned (slice_get o.held r)) (is_marked ms r) (contains r given) (among_contains r given among)) tree;
        unused = λ r owned unused tree. tree_stays s o k m l e ms needed given can ak am drops x.trees frees r (unmarked_stays (is_owned (slice_get o.held r)) (is_marked ms r) (contains r given) (sym (owned_tree o.held r) ∙ owned) (unmarked s o k m l e ms needed given can ak am drops x.trees frees r unused)) tree;
        kept = λ r tree. tree_kept s o k m l e ms needed given can ak am drops x.trees frees r tree;
        credits = λ n pos. credits_left s o k m l e ms needed given can ak am drops x.trees frees n pos;
        none = no_size k 0 ak (λ low high. absurd (omega (arith, low)));
      };
}

pub ruleset leaving_over = (spending, drops_used, drops_none, drops_kept, drops_as, drops_start, frees_one, frees_none, frees_start, within_start, but_start, leaves_fip)

-- a register holds what it held, or nothing

abbrev pub Less : Known → Known → Type 0
Less k l = (r : ℕ) → (holding_at l.held r ≡ holding_at k.held r) ⊎ (holding_at l.held r ≡ H.Nothing)

pub less_on : (k l m : Known) → Less k l → Less l m → Less k m
less_on k l m x y r = by (y r) (x r)
  where
    by : (holding_at m.held r ≡ holding_at l.held r) ⊎ (holding_at m.held r ≡ H.Nothing) → (holding_at l.held r ≡ holding_at k.held r) ⊎ (holding_at l.held r ≡ H.Nothing) → (holding_at m.held r ≡ holding_at k.held r) ⊎ (holding_at m.held r ≡ H.Nothing)
    by (inl e) (inl f) = inl (e ∙ f)
    by (inl e) (inr f) = inr (e ∙ f)
    by (inr e) z = inr e

less_set : (hs : List Held) (q r : ℕ) → (holding_at (slice_set hs q H.Nothing) r ≡ holding_at hs r) ⊎ (holding_at (slice_set hs q H.Nothing) r ≡ H.Nothing)
less_set [] q r = inl refl
less_set (h ∷ hs) zero zero = inr refl
less_set (h ∷ hs) zero (suc r) = inl refl
less_set (h ∷ hs) (suc q) zero = inl refl
less_set (h ∷ hs) (suc q) (suc r) = less_set hs q r

less_lent : (hs : List Held) (q r : ℕ) → (holding_at (map (without q) hs) r ≡ holding_at hs r) ⊎ (holding_at (map (without q) hs) r ≡ H.Nothing)
less_lent [] q r = inl refl
less_lent (h ∷ hs) q zero = without_less q h
less_lent (h ∷ hs) q (suc r) = less_lent hs q r

less_used : (b : Bool) (k : Known) (q : ℕ) → Less k (using k (used_if b k.held q))
less_used false k q r = inl refl
less_used true k q r = less_on k (using k (slice_set k.held q H.Nothing)) (using k (map (without q) (slice_set k.held q H.Nothing))) (λ z. less_set k.held q z) (λ z. less_lent (slice_set k.held q H.Nothing) q z) r

less_one : (fip : Bool) (f : PlainFunction) (at : ℕ) (k l : Known) → GivesOne fip f at k l → Less k l
less_one fip f at k l (inl x) = subst (Less k) (sym x.known) (λ r. less_set k.held x.register r)
less_one fip f at k l (inr (e, inl x)) = subst (Less k) (sym x.known) (less_used (is_owned (slice_get k.held x.register)) k x.register)
less_one fip f at k l (inr (e, inr x)) = subst (Less k) (sym x.known) (λ r. less_set k.held x.register r)

pub up_less : (fip : Bool) (f : PlainFunction) (n at : ℕ) (k : Known) (end : ℕ) (l : Known) → GivesUp fip f n at k end l → Less k l
up_less fip f zero at k end l g = λ r. inl (ap (λ (x : Known). holding_at x.held r) g.1)
up_less fip f (suc n) at k end l g = less_on k g.0 l (less_one fip f at k g.0 g.1) (up_less fip f n (suc at) g.0 end l g.2)

up_long : (fip : Bool) (f : PlainFunction) (n at : ℕ) (k : Known) (end : ℕ) (l : Known) → GivesUp fip f n at k end l → end ≡ at + n
up_long fip f zero at k end l g = let e = g.0 in omega (arith, e)
up_long fip f (suc n) at k end l g = let e = up_long fip f n (suc at) g.0 end l g.2 in omega (arith, e)

up_still : (fip : Bool) (f : PlainFunction) (n at : ℕ) (k : Known) (end : ℕ) (l : Known) → end ≡ at → GivesUp fip f n at k end l → l ≡ k
up_still fip f zero at k end l e g = g.1
up_still fip f (suc n) at k end l e g = let long = up_long fip f (suc n) at k end l g in absurd (omega (arith, long, e))

-- a function that has just what was written
abbrev having : Written → PlainFunction
having w = record {
  kind = F.Fip;
  name = [];
  params = [];
  credits = [];
  results = [];
  registers = 0;
  instrs = map (settled (place_of w.places)) w.instrs;
  labels = [];
}

has_from : (n : ℕ) (w : Written) → HasFrom n w (place_of w.places) (having w).instrs
has_from n w = back 0 n w (place_of w.places) (having w).instrs (omega arith) (has_all w (having w).instrs refl)

pub less_laid : (fip : Bool) (k : Known) (v : Written) (l : Known) (w : Written) → GivesUpLaid fip k v l w → Less k l
less_laid fip k v l w x = let up = x.by (place_of w.places) (having w) (has_from (size v) w) in up_less fip (having w) up.0 (size v) k (size w) l up.1

pub still_laid : (fip : Bool) (k : Known) (v : Written) (l : Known) (w : Written) → GivesUpLaid fip k v l w → size w ≡ size v → l ≡ k
still_laid fip k v l w x e = let up = x.by (place_of w.places) (having w) (has_from (size v) w) in up_still fip (having w) up.0 (size v) k (size w) l e up.1

-- constructors that were matched are used up

bares_end : (c : PlainCode) (to : ℕ → ℕ) (f : PlainFunction) (k : Known) (v : Written) (l : Known) (w : Written) → GivesUpLaid true k v l w → NoBares k.next l.held → Accounted k → HasFrom (size v) w to f.instrs → BaresEnd c f (size v) k (size w) l
bares_end c to f k v l w x none a h =
    let up = x.by to f h in
    record {
      steps = up.0;
      gives = up.1;
      none = nothing_bare l (x.accounts a) (λ r lt. none r (let n = x.next in omega (arith, lt, n)));
    }

pub ends_bares : (k l : Known) (v w : Written) → GivesUpLaid true k v l w → NoBares k.next l.held → Loses k l → EndsBaresLaid k v l w
ends_bares k l v w x none loses = record {
  maps = x.maps;
  names = loses.names;
  next = x.next;
  accounts = x.accounts;
  still = still_laid true k v l w x;
  held = less_laid true k v l w x;
  by = λ a c to f h. bares_end c to f k v l w x none a h;
}

pub ruleset ending_bares = (ends_bares)

-- what is known is accounted for, whatever was built

pub clause_leaves : (s : Setting) (fip : Bool) (k k1 k2 l o : Known) (v v1 v2 : Written) (ms : List Bool) (needed given : List ℕ) → GivesUpLaid true k v k1 v1 → NoBares k.next k1.held → Loses k k1 → GivesUpLaid fip k1 v1 k2 v2 → LeavesLaid s fip k1 v1 o ms needed given k2 v2 → Loses k1 k2 → l ≡ wide k2 → ClauseLeavesLaid s fip k v o ms needed given l v2
clause_leaves s fip k k1 k2 l o v v1 v2 ms needed given x none lost y over lost_then e = record {
  maps = y.maps ∙ x.maps;
  names = ap (λ (z : Known). z.names) e ∙ lost_then.names ∙ lost.names;
  next = ap (λ (z : Known). z.next) e ∙ y.next ∙ x.next;
  accounts = λ a. subst Accounted (sym e) (wide_accounted k2 (y.accounts (x.accounts a)));
  by = λ a whole can c to f h. record {
    mid = size v1;
    bare = k1;
    bares = bares_end c to f k v k1 v1 x none a (front (size v) v1 v2 to f.instrs y.extends h);
    left = k2;
    over = over.by (x.accounts a) whole can to f (back (size v) (size v1) v2 to f.instrs x.extends.grows h);
    held = less_on k k1 k2 (less_laid true k v k1 v1 x) (less_laid fip k1 v1 k2 v2 y);
    known = e;
  };
}

-- Where less is known than before: a register holds what it held, but for which constructor was built, or nothing; no
-- variable and no credit is new.
use Rattle.std.proofs.Common.{◌≡◌, ◌⊎◌, inl, inr, refl, sym, ap, ◌∙◌, subst, arith, true≢false, ℕ, zero, suc, ◌<◌, ◌≤◌, Bool, true, false, List, [], ◌∷◌, map, Option, Some, None, slice_get}
use Rattle.std.specs.Prelude.{option_map, ◌==◌, ◌&&◌}
use Rattle.std.proofs.lemmas.Bool.{eq-eqb}
use Rattle.std.proofs.lemmas.List.{length-map}
use Rattle.fip_language.specs.Table.{Table}
use Rattle.fip_trees.specs.Tree.{Expression}
use Rattle.cell_code.specs.Plain.{PlainFunction, PlainCode}
use Rattle.lower_frame.specs.lowering_relation.declared.held.Held.{Held}
use Rattle.lower_frame.specs.lowering_relation.declared.held.Held.TheVariants as H
use Rattle.lower_frame.specs.lowering_relation.declared.held.Credit.{Credit}
use Rattle.lower_frame.specs.lowering_relation.Known.{Known, register_of}
use Rattle.lower_frame.specs.lowering_relation.Tidy.{NotIn}
use Rattle.lower_frame.specs.lowering_relation.Values.{Setting}
use Rattle.lower_frame.specs.lowering_relation.Written.{Written}
use Rattle.lower_frame.specs.lowering_relation.Describing.{held_at}
use Rattle.lower_frame.specs.lowering_relation.Joins.{Met}
use Rattle.lower_frame.specs.lowering_relation.Matches.{widened, wide}
use Rattle.lower_frame.specs.Credits.{Accounted, AllSolid, is_credit, is_credit_of, is_bare, counted, one_if}
use Rattle.lower_frame.specs.Positions.{reaching}
use Rattle.lower_frame.specs.Registers.{registers}
use Rattle.lower_parts.specs.Writing.{Named}
use Rattle.lower_parts.specs.Laying.{is_built}
use Rattle.lower_parts.specs.Bodies.{RightAt, BuiltWell, Waits}
use Rattle.lower_parts.specs.Leaving.{EndsBaresLaid, ClauseLeavesLaid, LeftAfter}
use Rattle.lower_parts.proofs.Arriving.{wide_accounted}
use Rattle.lower_parts.proofs.Building.{right_nothing}
use Rattle.lower_parts.proofs.Sided.{widened_again, never_built}
use Rattle.lower_parts.proofs.Arriving.{wide_credit as wide_credit_of}
use Rattle.lower_parts.proofs.Going.{none_of_one as one_true}
use Rattle.lower_frame.proofs.Meeting.{there_or as some_or_nothing}

-- of a register

abbrev pub IsLess : Held → Held → Type 0
IsLess h g = (g ≡ h) ⊎ (g ≡ widened h) ⊎ (g ≡ H.Nothing)

less_then : (h g j : Held) → IsLess h g → IsLess g j → IsLess h j
less_then h g j (inl a) b = subst (λ x. IsLess x j) a b
less_then h g j (inr (inl a)) (inl b) = inr (inl (b ∙ a))
less_then h g j (inr (inl a)) (inr (inl b)) = inr (inl (b ∙ ap widened a ∙ widened_again h))
less_then h g j (inr (inl a)) (inr (inr b)) = inr (inr b)
less_then h g j (inr (inr a)) (inl b) = inr (inr (b ∙ a))
less_then h g j (inr (inr a)) (inr (inl b)) = inr (inr (b ∙ ap widened a))
less_then h g j (inr (inr a)) (inr (inr b)) = inr (inr b)

-- none of these is new
wide_credit : (h : Held) → is_credit (Some (widened h)) ≡ is_credit (Some h)
wide_credit H.Nothing = refl
wide_credit (H.Scalar t) = refl
wide_credit (H.Owned t b) = refl
wide_credit (H.Lent t root) = refl
wide_credit (H.Credit n) = refl
wide_credit (H.Bare t c) = refl

wide_nothing : (h : Held) → h ≡ H.Nothing → widened h ≡ H.Nothing
wide_nothing h e = ap widened e

no_credit : (h g : Held) → IsLess h g → is_credit (Some h) ≡ false → is_credit (Some g) ≡ false
no_credit h g (inl a) e = ap (λ x. is_credit (Some x)) a ∙ e
no_credit h g (inr (inl a)) e = ap (λ x. is_credit (Some x)) a ∙ wide_credit h ∙ e
no_credit h g (inr (inr a)) e = ap (λ x. is_credit (Some x)) a

still_nothing : (h g : Held) → IsLess h g → h ≡ H.Nothing → g ≡ H.Nothing
still_nothing h g (inl a) e = a ∙ e
still_nothing h g (inr (inl a)) e = a ∙ ap widened e
still_nothing h g (inr (inr a)) e = a

none_built : (h : Held) → is_built (widened h) ≡ false
none_built H.Nothing = refl
none_built (H.Scalar t) = refl
none_built (H.Owned t b) = refl
none_built (H.Lent t root) = refl
none_built (H.Credit n) = refl
none_built (H.Bare t c) = refl

wide_bare : (h : Held) → is_bare (Some (widened h)) ≡ is_bare (Some h)
wide_bare H.Nothing = refl
wide_bare (H.Scalar t) = refl
wide_bare (H.Owned t b) = refl
wide_bare (H.Lent t root) = refl
wide_bare (H.Credit n) = refl
wide_bare (H.Bare t c) = refl

-- where no constructor was built nothing is forgotten
pub plain_wide : (h : Held) → is_built h ≡ false → widened h ≡ h
plain_wide H.Nothing e = refl
plain_wide (H.Scalar t) e = refl
plain_wide (H.Owned t None) e = refl
plain_wide (H.Owned t (Some d)) e = absurd (true≢false e)
plain_wide (H.Lent t root) e = refl
plain_wide (H.Credit n) e = refl
plain_wide (H.Bare t c) e = refl

bare_before : (h : Held) (t d : ℕ) → widened h ≡ H.Bare t d → h ≡ H.Bare t d
bare_before H.Nothing t d e = e
bare_before (H.Scalar u) t d e = e
bare_before (H.Owned u b) t d e = absurd (cc)
bare_before (H.Lent u root) t d e = e
bare_before (H.Credit n) t d e = e
bare_before (H.Bare u c) t d e = e

right_wide : (w : Table) (at : ℕ) (h : Held) → RightAt w at h → RightAt w at (widened h)
right_wide w at h r = record {
  built = record { there = λ t d e. absurd (never_built h t d e) };
  bare = λ t d e. r.bare t d (bare_before h t d e);
  later = λ z. (none_built h, wide_bare h ∙ (r.later z).1);
}

right_less : (w : Table) (at : ℕ) (h g : Held) → IsLess h g → RightAt w at h → RightAt w at g
right_less w at h g (inl a) r = subst (RightAt w at) (sym a) r
right_less w at h g (inr (inl a)) r = subst (RightAt w at) (sym a) (right_wide w at h r)
right_less w at h g (inr (inr a)) r = subst (RightAt w at) (sym a) (right_nothing w at)

wide_less : (h g : Held) → IsLess h g → widened h ≡ h → widened g ≡ g
wide_less h g (inl a) e = ap widened a ∙ e ∙ sym a
wide_less h g (inr (inl a)) e = ap widened a ∙ widened_again h ∙ sym a
wide_less h g (inr (inr a)) e = ap widened a ∙ sym a

-- lists

pub wide_held : (hs : List Held) (r : ℕ) → held_at (map widened hs) r ≡ widened (held_at hs r)
wide_held [] r = refl
wide_held (h ∷ hs) zero = refl
wide_held (h ∷ hs) (suc r) = wide_held hs r

-- nothing is forgotten where no register holds what was built
pub wide_itself : (hs : List Held) → ((r : ℕ) → widened (held_at hs r) ≡ held_at hs r) → map widened hs ≡ hs
wide_itself [] e = refl
wide_itself (h ∷ hs) e = ap (λ x. x ∷ map widened hs) (e 0) ∙ ap (λ xs. h ∷ xs) (wide_itself hs (λ r. e (suc r)))

credit_held : (hs : List Held) (r : ℕ) → is_credit (slice_get hs r) ≡ is_credit (Some (held_at hs r))
credit_held [] r = refl
credit_held (h ∷ hs) zero = refl
credit_held (h ∷ hs) (suc r) = credit_held hs r

none_credit : (n : ℕ) (hs : List Held) (r : ℕ) → held_at hs r ≡ H.Nothing → is_credit_of n (slice_get hs r) ≡ false
none_credit n [] r e = refl
none_credit n (h ∷ hs) zero e = ap (λ x. is_credit_of n (Some x)) e
none_credit n (h ∷ hs) (suc r) e = none_credit n hs r e

-- a register that isn't used yet holds nothing
pub not_yet : (k : Known) (r : ℕ) → Accounted k → k.next ≤ r → held_at k.held r ≡ H.Nothing
not_yet k r a le = elim (some_or_nothing k.held r) [ inl e ↦ a.fresh r (held_at k.held r) le e | inr e ↦ e ]

-- credits of registers that hold nothing

none_counted : (cs : List Credit) (d : ℕ) → ((n : ℕ) → counted n d cs ≡ 0) → NotIn d cs
none_counted [] d h = tt
none_counted (c ∷ cs) d h = (apart, none_counted cs d (λ n. let z = h n in omega (arith, z)))
  where
    apart : d ≡ c.register → ⊥
    apart e = true≢false (sym (both (c.size == c.size) (c.register == d) (eq-eqb c.size c.size refl) (eq-eqb c.register d (sym e))) ∙ one_true ((c.size == c.size) && (c.register == d)) (let z = h c.size in omega (arith, z)))
      where
        both : (a b : Bool) → a ≡ true → b ≡ true → (a && b) ≡ true
        both true b x y = y
        both false b x y = absurd (true≢false (sym x))

pub free_of : (k : Known) (d : ℕ) → Accounted k → held_at k.held d ≡ H.Nothing → NotIn d k.credits
free_of k d a e = none_counted k.credits d (λ n. a.credits n d ∙ ap one_if (none_credit n k.held d e))

-- what is known

pub record Less (k l : Known) : Type 0 where
  pub held : (r : ℕ) → IsLess (held_at k.held r) (held_at l.held r)
  pub names : (x r : ℕ) → register_of l.names (Some x) ≡ Some r → register_of k.names (Some x) ≡ Some r
  pub grows : k.next ≤ l.next
  pub many : registers l ≡ registers k
  pub accounts : Accounted k → Accounted l

pub less_same : (k : Known) → Less k k
less_same k = record { held = λ r. inl refl; names = λ x r e. e; grows = omega arith; many = refl; accounts = λ a. a }

pub less_on : (k l m : Known) → Less k l → Less l m → Less k m
less_on k l m a b = record {
  held = λ r. less_then (held_at k.held r) (held_at l.held r) (held_at m.held r) (a.held r) (b.held r);
  names = λ x r e. a.names x r (b.names x r e);
  grows = let x = a.grows in let y = b.grows in omega (arith, x, y);
  many = b.many ∙ a.many;
  accounts = λ x. b.accounts (a.accounts x);
}

pub reaching_accounted : (k : Known) (n : ℕ) → k.next ≤ n → Accounted k → Accounted (reaching k n)
reaching_accounted k n le a = record { fresh = λ r h more e. a.fresh r h (omega (arith, le, more)) e; credits = a.credits; sizes = a.sizes }

pub less_wide : (k : Known) → Less k (wide k)
less_wide k = record {
  held = λ r. inr (inl (wide_held k.held r));
  names = λ x r e. e;
  grows = omega arith;
  many = length-map k.held widened;
  accounts = wide_accounted k;
}

pub less_reaching : (k : Known) (n : ℕ) → k.next ≤ n → Less k (reaching k n)
less_reaching k n le = record { held = λ r. inl refl; names = λ x r e. e; grows = le; many = refl; accounts = reaching_accounted k n le }

-- with the same variables
less_by : (k l : Known) → l.names ≡ k.names → l.next ≡ k.next → registers l ≡ registers k → (Accounted k → Accounted l) → ((r : ℕ) → IsLess (held_at k.held r) (held_at l.held r)) → Less k l
less_by k l names next many accounts held = record {
  held = held;
  names = λ x r e. ap (λ ns. register_of ns (Some x)) (sym names) ∙ e;
  grows = omega (arith, next);
  many = many;
  accounts = accounts;
}

pub less_bares : (k : Known) (v : Written) (l : Known) (w : Written) → registers l ≡ registers k → EndsBaresLaid k v l w → Less k l
less_bares k v l w many e = less_by k l e.names e.next many e.accounts (λ r. elim (e.held r) [ inl x ↦ inl x | inr x ↦ inr (inr x) ])

pub less_left : (s : Setting) (fip : Bool) (c : PlainCode) (f : PlainFunction) (k : Known) (v : Written) (o : Known) (ms : List Bool) (need given : List ℕ) (l : Known) (w : Written) (e : Expression) (at stop : ℕ) → registers l ≡ registers k → ClauseLeavesLaid s fip k v o ms need given l w → LeftAfter c s fip f o e given at k stop l → Less k l
less_left s fip c f k v o ms need given l w e at stop many a b = less_by k l a.names a.next many a.accounts (λ r. by r (b.held r))
  where
    by : (r : ℕ) → (held_at b.left.held r ≡ held_at k.held r) ⊎ (held_at b.left.held r ≡ H.Nothing) → IsLess (held_at k.held r) (held_at l.held r)
    by r (inl x) = inr (inl (ap (λ (y : Known). held_at y.held r) b.known ∙ wide_held b.left.held r ∙ ap widened x))
    by r (inr x) = inr (inr (ap (λ (y : Known). held_at y.held r) b.known ∙ wide_held b.left.held r ∙ ap widened x))

none_some : (r : ℕ) → None ≡ Some r → ⊥
none_some r e = absurd (cc)

pub less_met : (j k m : Known) → Met j k m → (Accounted j → Accounted m) → Less j m
less_met j k m h a = record {
  held = λ r. elim (h.held r) [ inl x ↦ inl x.1 | inr (inl x) ↦ inr (inr x.1) | inr (inr x) ↦ inl x.2 ];
  names = λ x r e. elim (h.names x) [ inl y ↦ sym y.1 ∙ e | inr y ↦ absurd (none_some r (sym y.1 ∙ e)) ];
  grows = let e = h.next in omega (arith, e);
  many = h.width;
  accounts = a;
}

-- what stays so

pub solid_less : (k l : Known) (rs : List ℕ) → Less k l → AllSolid k rs → AllSolid l rs
solid_less k l [] h a = tt
solid_less k l (r ∷ rs) h a = (
  let x = a.0 in let y = h.grows in omega (arith, x, y),
  credit_held l.held r ∙ no_credit (held_at k.held r) (held_at l.held r) (h.held r) (sym (credit_held k.held r) ∙ a.1),
  solid_less k l rs h a.2,
)

pub named_less : (k l : Known) → Less k l → Named k → Named l
named_less k l h n x r e = solid_less k l (r ∷ []) h (n x r (h.names x r e))

pub waits_less : (k l : Known) (d : ℕ) → Less k l → Accounted l → Waits k d → Waits l d
waits_less k l d h a w = record {
  used = let x = w.used in let y = h.grows in omega (arith, x, y);
  empty = empty;
  unnamed = λ x e. w.unnamed x (h.names x d e);
  free = free_of l d a empty;
}
  where
    empty : held_at l.held d ≡ H.Nothing
    empty = still_nothing (held_at k.held d) (held_at l.held d) (h.held d) w.empty

pub built_less : (tb : Table) (at : ℕ) (k l : Known) → Less k l → BuiltWell tb at k → BuiltWell tb at l
built_less tb at k l h b r = right_less tb at (held_at k.held r) (held_at l.held r) (h.held r) (b r)

-- after the first instruction
pub built_later : (tb : Table) (at stop : ℕ) (k : Known) → 0 < stop → BuiltWell tb at k → BuiltWell tb stop k
built_later tb at stop k lt b r = let x = b r in record { built = x.built; bare = x.bare; later = λ z. absurd (omega (arith, lt, z)) }

-- which constructors were built isn't known
abbrev pub IsWide : Known → Type 0
IsWide k = (r : ℕ) → widened (held_at k.held r) ≡ held_at k.held r

pub wide_on : (k l : Known) → Less k l → IsWide k → IsWide l
wide_on k l h w r = wide_less (held_at k.held r) (held_at l.held r) (h.held r) (w r)

pub wide_wide : (k l : Known) → l ≡ wide k → IsWide l
wide_wide k l e r = ap (λ (x : Known). widened (held_at x.held r)) e ∙ ap widened (wide_held k.held r) ∙ widened_again (held_at k.held r) ∙ sym (wide_held k.held r) ∙ sym (ap (λ (x : Known). held_at x.held r) e)

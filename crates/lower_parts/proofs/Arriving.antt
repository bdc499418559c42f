-- What is known at the entry of a clause's body: credits are accounted for, variables have registers that are used
-- already, constructors that were matched are of their types, and registers that wait do so still.
use Rattle.std.proofs.Common.{◌≡◌, ◌⊎◌, inl, inr, refl, sym, ap, ◌∙◌, subst, arith, ℕ, zero, suc, ◌+◌, ◌<◌, ◌≤◌, Bool, true, false, List, [], ◌∷◌, ◌++◌, length, map, Option, Some, None, slice_get, slice_set, get_or}
use Rattle.std.specs.Prelude.{option_map, ◌==◌, ◌&&◌, ◌||◌, if◌then◌else◌}
use Rattle.std.proofs.lemmas.Bool.{cases_eq, eq-eqb}
use Rattle.std.proofs.lemmas.Option.{slice_get-map, slice_get_within}
use Rattle.fip_language.specs.declared.limits.TheConstants.{MOST_FIELDS}
use Rattle.fip_language.specs.Every.{Among}
use Rattle.fip_language.specs.Table.{Table}
use Rattle.fip_trees.specs.Tree.{Pattern, BinderPattern, LiteralPattern, ConstructorPattern, Patterns, NoPatterns, MorePatterns, count_patterns}
use Rattle.lower_frame.specs.code_rules.Types.{count, fields, fields_of}
use Rattle.match_knowledge.specs.declared.heads.Head.TheVariants.{Tag}
use Rattle.match_knowledge.specs.ValueHeads.{IsHead}
use Rattle.match_knowledge.specs.Patterns.{IsPattern, ArePatterns}
use Rattle.lower_frame.specs.lowering_relation.declared.held.Held.{Held}
use Rattle.lower_frame.specs.lowering_relation.declared.held.Held.TheVariants as H
use Rattle.lower_frame.specs.lowering_relation.declared.held.Credit.{Credit}
use Rattle.lower_frame.specs.lowering_relation.Known.{Known, holding, naming, using, used, used_if, is_owned, without}
use Rattle.lower_frame.specs.lowering_relation.Values.{Setting, is_scalar}
use Rattle.lower_frame.specs.lowering_relation.LoweredBodies.{given_if}
use Rattle.lower_frame.specs.lowering_relation.LoweredFunctions.{with_credit}
use Rattle.lower_frame.specs.lowering_relation.Tidy.{Unknown}
use Rattle.lower_frame.proofs.lowering_relation.LoweredLists.{set_get, barer_set, barer_used, NotBare}
use Rattle.lower_frame.specs.lowering_relation.Spots.{Spot, At, Spots, NoSpots, MoreSpots, register, below, all_in, Differ, AllDiffer}
use Rattle.lower_frame.specs.lowering_relation.Rows.{row_of, rows_of}
use Rattle.lower_frame.specs.lowering_relation.Opening.{is_named}
use Rattle.lower_frame.specs.lowering_relation.Entering.{unnaming, variable_held, with_variable, with_cell, entering, entering_all, root_of, spent_if, entering_root}
use Rattle.lower_frame.proofs.lowering_relation.MatchLists.{among_left, among_right}
use Rattle.lower_frame.proofs.lowering_relation.Entries.{name_set, name_lost, variable_not}
use Rattle.lower_frame.proofs.lowering_relation.Opens.{Enters, enters_root}
use Rattle.lower_frame.specs.lowering_relation.Describing.{held_at}
use Rattle.lower_frame.specs.lowering_relation.Matches.{widened, wide}
use Rattle.lower_frame.specs.Credits.{Accounted, AllSolid, one_if, counted, is_credit, is_credit_of}
use Rattle.lower_frame.specs.Positions.{reaching}
use Rattle.lower_frame.specs.Registers.{registers}
use Rattle.lower_frame.proofs.Accounts.{last_same, not_of, no_new_credit, put_accounted, set_itself, set_solid, used_accounted}
use Rattle.lower_parts.specs.Writing.{Named}
use Rattle.lower_parts.specs.Bodies.{ScalarsRight, BuiltWell, Waits}
use Rattle.lower_parts.proofs.Shedding.{set_length, used_length, root_length, widened_length}
use Rattle.fip_language.proofs.Facts.{and_false, and_true, get_set_here as set_here, get_set_other as set_other, none_some_implicit as none_is, same_some, some_is, unequal_false as unequal_is}

-- ---- lists

-- what a register holds, by what stands in the list

abbrev held_of : Option Held → Held
held_of None = H.Nothing
held_of (Some h) = h

held_by : (hs : List Held) (r : ℕ) → held_at hs r ≡ held_of (slice_get hs r)
held_by [] r = refl
held_by (h ∷ hs) zero = refl
held_by (h ∷ hs) (suc r) = held_by hs r

held_same : (hs ks : List Held) (r : ℕ) → slice_get ks r ≡ slice_get hs r → held_at ks r ≡ held_at hs r
held_same hs ks r e = held_by ks r ∙ ap held_of e ∙ sym (held_by hs r)

pub get_held : (hs : List Held) (r : ℕ) (h : Held) → held_at hs r ≡ h → (h ≡ H.Nothing → ⊥) → slice_get hs r ≡ Some h
get_held [] r h e ne = absurd (ne (sym e))
get_held (g ∷ hs) zero h e ne = ap Some e
get_held (g ∷ hs) (suc r) h e ne = get_held hs r h e ne

nothing_solid : (o : Option Held) → held_of o ≡ H.Nothing → is_credit o ≡ false
nothing_solid None e = refl
nothing_solid (Some h) e = ap (λ x. is_credit (Some x)) e

held_set_nothing : (hs : List Held) (r q : ℕ) → held_at hs q ≡ H.Nothing → held_at (slice_set hs r H.Nothing) q ≡ H.Nothing
held_set_nothing [] r q e = e
held_set_nothing (h ∷ hs) zero zero e = refl
held_set_nothing (h ∷ hs) zero (suc q) e = e
held_set_nothing (h ∷ hs) (suc r) zero e = e
held_set_nothing (h ∷ hs) (suc r) (suc q) e = held_set_nothing hs r q e

held_map_nothing : (f : Held → Held) (hs : List Held) (q : ℕ) → f H.Nothing ≡ H.Nothing → held_at hs q ≡ H.Nothing → held_at (map f hs) q ≡ H.Nothing
held_map_nothing f [] q s e = e
held_map_nothing f (h ∷ hs) zero s e = ap f e ∙ s
held_map_nothing f (h ∷ hs) (suc q) s e = held_map_nothing f hs q s e

-- a register that holds nothing doesn't where a tree is used up
used_nothing : (b : Bool) (hs : List Held) (r q : ℕ) → held_at hs q ≡ H.Nothing → held_at (used_if b hs r) q ≡ H.Nothing
used_nothing false hs r q e = e
used_nothing true hs r q e = held_map_nothing (without r) (slice_set hs r H.Nothing) q refl (held_set_nothing hs r q e)

-- ---- one credit more

counted_more : (m q : ℕ) (cs : List Credit) (c : Credit) → counted m q (cs ++ c ∷ []) ≡ counted m q cs + one_if ((c.size == m) && (c.register == q))
counted_more m q [] c = omega arith
counted_more m q (d ∷ cs) c = omega (arith, counted_more m q cs c)

credit_counts : (k : Known) (n r : ℕ) → r < registers k → is_credit (slice_get k.held r) ≡ false → Accounted k → (m q : ℕ) → counted m q (k.credits ++ record { size = n; register = r } ∷ []) ≡ one_if (is_credit_of m (slice_get (slice_set k.held r (H.Credit n)) q))
credit_counts k n r within solid a m q = elim (cases_eq q r) [
  | inl same ↦ subst (λ z. counted m z (k.credits ++ record { size = n; register = r } ∷ []) ≡ one_if (is_credit_of m (slice_get (slice_set k.held r (H.Credit n)) z))) (sym same) here
  | inr ne ↦ there ne
]
  where
    here : counted m r (k.credits ++ record { size = n; register = r } ∷ []) ≡ one_if (is_credit_of m (slice_get (slice_set k.held r (H.Credit n)) r))
    here =
        let before : counted m r k.credits ≡ 0 = a.credits m r ∙ ap one_if (not_of m (slice_get k.held r) solid) in
        let one : one_if ((n == m) && (r == r)) ≡ one_if (n == m) = ap (λ b. one_if ((n == m) && b)) (eq-eqb r r refl) ∙ ap one_if (and_true (n == m)) in
        let now : one_if (is_credit_of m (slice_get (slice_set k.held r (H.Credit n)) r)) ≡ one_if (n == m) = ap (λ o. one_if (is_credit_of m o)) (set_here k.held r (H.Credit n) within) in
        omega (arith, counted_more m r k.credits (record { size = n; register = r }), before, one, now)

    there : (q ≡ r → ⊥) → counted m q (k.credits ++ record { size = n; register = r } ∷ []) ≡ one_if (is_credit_of m (slice_get (slice_set k.held r (H.Credit n)) q))
    there ne =
        let before = a.credits m q in
        let none : one_if ((n == m) && (r == q)) ≡ 0 = ap (λ b. one_if ((n == m) && b)) (unequal_is r q (λ e. ne (sym e))) ∙ ap one_if (and_false (n == m)) in
        let now : one_if (is_credit_of m (slice_get (slice_set k.held r (H.Credit n)) q)) ≡ one_if (is_credit_of m (slice_get k.held q)) = ap (λ o. one_if (is_credit_of m o)) (set_other k.held r (H.Credit n) q ne) in
        omega (arith, counted_more m q k.credits (record { size = n; register = r }), before, none, now)

pub credit_accounted : (k : Known) (n r : ℕ) → r < k.next → r < registers k → is_credit (slice_get k.held r) ≡ false → 1 ≤ n → n ≤ MOST_FIELDS → Accounted k → Accounted (with_credit k n r)
credit_accounted k n r lt within solid low high a = record {
  fresh = λ q h le e. elim (set_get k.held r (H.Credit n) q h e) [
    | inl x ↦ a.fresh q h le x.1
    | inr x ↦ absurd (let same = x.0 in let z : ⊥ = omega (arith, same, lt, le) in z)
  ];
  credits = λ m q. credit_counts k n r within solid a m q;
  sizes = λ m q e. elim (set_get k.held r (H.Credit n) q (H.Credit m) e) [
    | inl x ↦ a.sizes m q x.1
    | inr x ↦ let same = size_same n m x.1 in (omega (arith, same, low), subst (λ z. z ≤ MOST_FIELDS) same high)
  ];
}
  where
    size_same : (n m : ℕ) → H.Credit n ≡ H.Credit m → n ≡ m
    size_same n m e = cc

-- ---- which constructor was built is forgotten

pub wide_credit : (m : ℕ) (o : Option Held) → is_credit_of m (option_map widened o) ≡ is_credit_of m o
wide_credit m None = refl
wide_credit m (Some H.Nothing) = refl
wide_credit m (Some (H.Scalar t)) = refl
wide_credit m (Some (H.Owned t b)) = refl
wide_credit m (Some (H.Lent t root)) = refl
wide_credit m (Some (H.Credit n)) = refl
wide_credit m (Some (H.Bare t c)) = refl

wide_solid : (o : Option Held) → is_credit (option_map widened o) ≡ is_credit o
wide_solid None = refl
wide_solid (Some H.Nothing) = refl
wide_solid (Some (H.Scalar t)) = refl
wide_solid (Some (H.Owned t b)) = refl
wide_solid (Some (H.Lent t root)) = refl
wide_solid (Some (H.Credit n)) = refl
wide_solid (Some (H.Bare t c)) = refl

pub wide_nothing : (o : Option Held) (h : Held) → ((g : Held) → o ≡ Some g → g ≡ H.Nothing) → option_map widened o ≡ Some h → h ≡ H.Nothing
wide_nothing None h none e = absurd (cc)
wide_nothing (Some g) h none e = sym (same_some (widened g) h e) ∙ ap widened (none g refl)

pub wide_is_credit : (o : Option Held) (n : ℕ) → option_map widened o ≡ Some (H.Credit n) → o ≡ Some (H.Credit n)
wide_is_credit None n e = absurd (cc)
wide_is_credit (Some H.Nothing) n e = absurd (cc)
wide_is_credit (Some (H.Scalar t)) n e = absurd (cc)
wide_is_credit (Some (H.Owned t b)) n e = absurd (cc)
wide_is_credit (Some (H.Lent t root)) n e = absurd (cc)
wide_is_credit (Some (H.Credit m)) n e = e
wide_is_credit (Some (H.Bare t c)) n e = absurd (cc)

pub wide_accounted : (k : Known) → Accounted k → Accounted (wide k)
wide_accounted k a = record {
  fresh = λ r h le e. wide_nothing (slice_get k.held r) h (λ g f. a.fresh r g le f) (sym (slice_get-map widened k.held r) ∙ e);
  credits = λ n r. a.credits n r ∙ ap one_if (sym (ap (is_credit_of n) (slice_get-map widened k.held r) ∙ wide_credit n (slice_get k.held r)));
  sizes = λ n r e. a.sizes n r (wide_is_credit (slice_get k.held r) n (sym (slice_get-map widened k.held r) ∙ e));
}

pub wide_named : (k : Known) → Named k → Named (wide k)
wide_named k named x r e =
    let h = named x r e in
    (h.0, ap is_credit (slice_get-map widened k.held r) ∙ wide_solid (slice_get k.held r) ∙ h.1, tt)

held_wide : (hs : List Held) (r : ℕ) → held_at (map widened hs) r ≡ widened (held_at hs r)
held_wide [] r = refl
held_wide (h ∷ hs) zero = refl
held_wide (h ∷ hs) (suc r) = held_wide hs r

never_built : (h : Held) (t d : ℕ) → widened h ≡ H.Owned t (Some d) → ⊥
never_built H.Nothing t d e = absurd (cc)
never_built (H.Scalar u) t d e = absurd (cc)
never_built (H.Owned u b) t d e = absurd (cc)
never_built (H.Lent u root) t d e = absurd (cc)
never_built (H.Credit n) t d e = absurd (cc)
never_built (H.Bare u c) t d e = absurd (cc)

still_bare : (h : Held) (t d : ℕ) → widened h ≡ H.Bare t d → h ≡ H.Bare t d
still_bare H.Nothing t d e = absurd (cc)
still_bare (H.Scalar u) t d e = absurd (cc)
still_bare (H.Owned u b) t d e = absurd (cc)
still_bare (H.Lent u root) t d e = absurd (cc)
still_bare (H.Credit n) t d e = absurd (cc)
still_bare (H.Bare u c) t d e = e

-- constructors that were matched are of their types, and which were built isn't known
wide_right : (tb : Table) (k : Known) (at : ℕ) → 0 < at → ((r t d : ℕ) → slice_get k.held r ≡ Some (H.Bare t d) → d < count tb t) → BuiltWell tb at (wide k)
wide_right tb k at lt bares r = record {
  built = record { there = λ t d e. absurd (never_built (held_at k.held r) t d (sym (held_wide k.held r) ∙ e)) };
  bare = λ t d e. bares r t d (get_held k.held r (H.Bare t d) (still_bare (held_at k.held r) t d (sym (held_wide k.held r) ∙ e)) (λ f. absurd (cc)));
  later = λ z. absurd (omega (arith, lt, z));
}

-- ---- patterns of their types

head_count : (tb : Table) (t c : ℕ) (fs : List ℕ) → IsHead tb t (Tag c) fs → c < count tb t
head_count tb zero c fs h = absurd h
head_count tb (suc t) c fs h = slice_get_within (Rattle.fip_language.specs.Table.shapes tb t) c h.0 h.1

pub head_fields : (tb : Table) (t c : ℕ) (fs : List ℕ) → IsHead tb t (Tag c) fs → fields tb t c ≡ fs
head_fields tb zero c fs h = absurd h
head_fields tb (suc t) c fs h = ap fields_of h.1 ∙ h.2

patterns_many : (tb : Table) (fs : List ℕ) (ps : Patterns) → ArePatterns tb fs (rows_of ps) → count_patterns ps ≡ length fs
patterns_many tb [] NoPatterns h = refl
patterns_many tb [] (MorePatterns p ps) h = absurd h
patterns_many tb (t ∷ fs) NoPatterns h = absurd h
patterns_many tb (t ∷ fs) (MorePatterns p ps) h = ap suc (patterns_many tb fs ps h.1)

-- ---- registers that get something

-- a register that may get something: it is used already and holds no credit
record IsReady (k : Known) (z : ℕ) : Type 0 where
  used : z < k.next
  solid : is_credit (slice_get k.held z) ≡ false
  within : z < registers k

abbrev Ready : Known → List ℕ → Type 0
Ready k zs = (z : ℕ) → Among z zs → IsReady k z

-- what is known grows by registers of zs
record Arrives (tb : Table) (k l : Known) (zs : List ℕ) : Type 0 where
  next : l.next ≡ k.next
  many : registers l ≡ registers k
  others : (z : ℕ) → (Among z zs → ⊥) → slice_get l.held z ≡ slice_get k.held z
  accounts : Ready k zs → Accounted k → Accounted l
  named : Ready k zs → Named k → Named l
  bares : (r t d : ℕ) → slice_get l.held r ≡ Some (H.Bare t d) → (slice_get k.held r ≡ Some (H.Bare t d)) ⊎ (d < count tb t)

arrives_same : (tb : Table) (k : Known) (zs : List ℕ) → Arrives tb k k zs
arrives_same tb k zs = record { next = refl; many = refl; others = λ z n. refl; accounts = λ ready a. a; named = λ ready n. n; bares = λ r t d e. inl e }

arrives_more : (tb : Table) (k l : Known) (xs ys : List ℕ) → ((z : ℕ) → Among z xs → Among z ys) → Arrives tb k l xs → Arrives tb k l ys
arrives_more tb k l xs ys f h = record {
  next = h.next;
  many = h.many;
  others = λ z n. h.others z (λ a. n (f z a));
  accounts = λ ready a. h.accounts (λ z m. ready z (f z m)) a;
  named = λ ready a. h.named (λ z m. ready z (f z m)) a;
  bares = h.bares;
}

ready_on : (tb : Table) (k l : Known) (xs ys : List ℕ) → ((z : ℕ) → Among z xs → Among z ys → ⊥) → Arrives tb k l xs → Ready k ys → Ready l ys
ready_on tb k l xs ys apart h ready z m =
    let old = ready z m in
    record {
      used = subst (λ n. z < n) (sym h.next) old.used;
      solid = ap is_credit (h.others z (λ a. apart z a m)) ∙ old.solid;
      within = subst (λ n. z < n) (sym h.many) old.within;
    }

arrives_on : (tb : Table) (k l m : Known) (xs ys : List ℕ) → ((z : ℕ) → Among z xs → Among z ys → ⊥) → Arrives tb k l xs → Arrives tb l m ys → Arrives tb k m (xs ++ ys)
arrives_on tb k l m xs ys apart p q = record {
  next = q.next ∙ p.next;
  many = q.many ∙ p.many;
  others = λ z n. q.others z (λ a. n (among_right z xs ys a)) ∙ p.others z (λ a. n (among_left z xs ys a));
  accounts = λ ready a. q.accounts (following ready) (p.accounts (λ z b. ready z (among_left z xs ys b)) a);
  named = λ ready a. q.named (following ready) (p.named (λ z b. ready z (among_left z xs ys b)) a);
  bares = λ r t d e. elim (q.bares r t d e) as (λ v. (slice_get k.held r ≡ Some (H.Bare t d)) ⊎ (d < count tb t)) [
    | inl x ↦ p.bares r t d x
    | inr x ↦ inr x
  ];
}
  where
    following : Ready k (xs ++ ys) → Ready l ys
    following ready = ready_on tb k l xs ys apart p (λ z b. ready z (among_right z xs ys b))

-- a variable

named_accounted : (k : Known) (x r : ℕ) → Accounted k → Accounted (naming k x r)
named_accounted k x r a = record { fresh = a.fresh; credits = a.credits; sizes = a.sizes }

arrives_named : (tb : Table) (k : Known) (x r : ℕ) (h : Held) → NotBare h → is_credit (Some h) ≡ false → Arrives tb k (holding (naming k x r) r h) (r ∷ [])
arrives_named tb k x r h bare solid = record {
  next = refl;
  many = set_length k.held r h;
  others = λ z n. set_other k.held r h z (λ e. n (inl e));
  accounts = λ ready a.
      let here = ready r (inl refl) in
      put_accounted (naming k x r) r k.next h (omega arith) here.used (λ m. not_of m (slice_get k.held r) here.solid) (λ m. not_of m (Some h) solid) (named_accounted k x r a);
  named = λ ready n y q e.
      let here = ready r (inl refl) in
      elim (name_set k.names x (Some r) y q e) as (λ v. AllSolid (holding (naming k x r) r h) (q ∷ [])) [
        | inl a ↦ subst (λ z. AllSolid (holding (naming k x r) r h) (z ∷ [])) (some_is r q a.1) (here.used, set_itself k.held r h solid, tt)
        | inr b ↦ let old = n y q b.1 in (old.0, set_solid k.held r h q solid old.1, tt)
      ];
  bares = λ q t d e. inl (barer_set k.held r h bare q t d e);
}

arrives_unnamed : (tb : Table) (k : Known) (x : ℕ) (zs : List ℕ) → Arrives tb k (unnaming k x) zs
arrives_unnamed tb k x zs = record {
  next = refl;
  many = refl;
  others = λ z n. refl;
  accounts = λ ready a. record { fresh = a.fresh; credits = a.credits; sizes = a.sizes };
  named = λ ready n y q e. elim (name_set k.names x None y q e) as (λ v. AllSolid (unnaming k x) (q ∷ [])) [
    | inl a ↦ absurd (none_is a.1)
    | inr b ↦ n y q b.1
  ];
  bares = λ r t d e. inl e;
}

variable_if : (tb : Table) (b : Bool) (k : Known) (x r : ℕ) (h : Held) → NotBare h → is_credit (Some h) ≡ false → Arrives tb k (if b then holding (naming k x r) r h else unnaming k x) (r ∷ [])
variable_if tb true k x r h bare solid = arrives_named tb k x r h bare solid
variable_if tb false k x r h bare solid = arrives_unnamed tb k x (r ∷ [])

variable_solid : (b c : Bool) (t : ℕ) (root : Option ℕ) → is_credit (Some (if b then given_if c t else H.Lent t root)) ≡ false
variable_solid true true t root = refl
variable_solid true false t root = refl
variable_solid false c t root = refl

-- a variable that names the scrutinee
arrives_naming : (tb : Table) (k : Known) (x r : ℕ) (zs : List ℕ) → Arrives tb k (naming k x r) (r ∷ zs)
arrives_naming tb k x r zs = record {
  next = refl;
  many = refl;
  others = λ z n. refl;
  accounts = λ ready a. named_accounted k x r a;
  named = λ ready n y q e.
      let here = ready r (inl refl) in
      elim (name_set k.names x (Some r) y q e) as (λ v. AllSolid (naming k x r) (q ∷ [])) [
        | inl a ↦ subst (λ z. AllSolid (naming k x r) (z ∷ [])) (some_is r q a.1) (here.used, here.solid, tt)
        | inr b ↦ n y q b.1
      ];
  bares = λ q t d e. inl e;
}

-- a cell

arrives_credit : (tb : Table) (k : Known) (n r : ℕ) → 1 ≤ n → n ≤ MOST_FIELDS → Arrives tb k (with_credit k n r) (r ∷ [])
arrives_credit tb k n r low high = record {
  next = refl;
  many = set_length k.held r (H.Credit n);
  others = λ z ne. set_other k.held r (H.Credit n) z (λ e. ne (inl e));
  accounts = λ ready a. let here = ready r (inl refl) in credit_accounted k n r here.used here.within here.solid low high a;
  named = λ ready named y q e.
      let two = name_lost k.names r y q e in
      let old = named y q two.0 in
      (old.0, ap is_credit (set_other k.held r (H.Credit n) q two.1) ∙ old.1, tt);
  bares = λ q t d e. inl (barer_set k.held r (H.Credit n) (λ u c f. absurd (cc)) q t d e);
}

arrives_bare : (tb : Table) (k : Known) (r t c : ℕ) → c < count tb t → Arrives tb k (holding k r (H.Bare t c)) (r ∷ [])
arrives_bare tb k r t c lt = record {
  next = refl;
  many = set_length k.held r (H.Bare t c);
  others = λ z ne. set_other k.held r (H.Bare t c) z (λ e. ne (inl e));
  accounts = λ ready a.
      let here = ready r (inl refl) in
      put_accounted k r k.next (H.Bare t c) (omega arith) here.used (λ m. not_of m (slice_get k.held r) here.solid) (λ m. refl) a;
  named = λ ready named y q e. let old = named y q e in (old.0, set_solid k.held r (H.Bare t c) q refl old.1, tt);
  bares = λ q u d e. elim (set_get k.held r (H.Bare t c) q (H.Bare u d) e) as (λ v. (slice_get k.held q ≡ Some (H.Bare u d)) ⊎ (d < count tb u)) [
    | inl a ↦ inl a.1
    | inr b ↦ inr (subst (λ z. d < count tb z) (type_same t c u d b.1) (subst (λ z. z < count tb t) (constructor_same t c u d b.1) lt))
  ];
}
  where
    type_same : (t c u d : ℕ) → H.Bare t c ≡ H.Bare u d → t ≡ u
    type_same t c u d e = cc

    constructor_same : (t c u d : ℕ) → H.Bare t c ≡ H.Bare u d → c ≡ d
    constructor_same t c u d e = cc

bare_if : (tb : Table) (b : Bool) (k : Known) (r t c : ℕ) → c < count tb t → Arrives tb k (if b then k else holding k r (H.Bare t c)) (r ∷ [])
bare_if tb true k r t c lt = arrives_same tb k (r ∷ [])
bare_if tb false k r t c lt = arrives_bare tb k r t c lt

arrives_cell : (s : Setting) (takes : Bool) (t c : ℕ) (ps : Patterns) (r : ℕ) (k : Known) → c < count s.types t → count_patterns ps ≤ MOST_FIELDS → Arrives s.types k (with_cell s takes t c ps r k) (r ∷ [])
arrives_cell s false t c ps r k lt few = arrives_same s.types k (r ∷ [])
arrives_cell s true t c NoPatterns r k lt few = bare_if s.types (is_scalar s t) k r t c lt
arrives_cell s true t c (MorePatterns p ps) r k lt few = arrives_credit s.types k (suc (count_patterns ps)) r (omega arith) few

-- ---- whole patterns

among_first : (z r : ℕ) (zs : List ℕ) → Among z (r ∷ []) → Among z (r ∷ zs)
among_first z r zs (inl e) = inl e
among_first z r zs (inr n) = absurd n

only : (z r : ℕ) (zs : List ℕ) → (Among r zs → ⊥) → Among z (r ∷ []) → Among z zs → ⊥
only z r zs n (inl e) m = n (subst (λ x. Among x zs) e m)
only z r zs n (inr b) m = b

spot_apart : (s : Spot) (ss : Spots) → AllDiffer (MoreSpots s ss) → (z : ℕ) → Among z (register s ∷ below s) → Among z (all_in ss) → ⊥
spot_apart s ss d z (inl e) m = d.1 (subst (λ x. Among x (all_in ss)) e m)
spot_apart s ss d z (inr b) m = d.2 z b m

few_patterns : (s : Setting) (t c : ℕ) (fs : List ℕ) (ps : Patterns) → ScalarsRight s → IsHead s.types t (Tag c) fs → ArePatterns s.types fs (rows_of ps) → count_patterns ps ≤ MOST_FIELDS
few_patterns s t c fs ps scalars head typed =
    subst (λ n. n ≤ MOST_FIELDS) (ap length (head_fields s.types t c fs head) ∙ sym (patterns_many s.types fs ps typed)) (scalars.few t c)

module _ (s : Setting) (scalars : ScalarsRight s) (takes : Bool) (root : Option ℕ) where
  mutual
    arrives_part : (q : Pattern) (p : Spot) (k : Known) (t : ℕ) → Differ p → (Among (register p) (below p) → ⊥) → IsPattern s.types t (row_of q) → Arrives s.types k (entering s takes root q p k) (register p ∷ below p)
    arrives_part (BinderPattern b) (At r fs) k t d n typed =
        arrives_more s.types k (with_variable s takes root b r k) (r ∷ []) (r ∷ all_in fs) (λ z m. among_first z r (all_in fs) m)
        (variable_if s.types (takes || is_named b) k b.number r (variable_held s takes root b.ty) (variable_not (takes || is_scalar s b.ty) (is_scalar s b.ty) b.ty root) (variable_solid (takes || is_scalar s b.ty) (is_scalar s b.ty) b.ty root))
    arrives_part (LiteralPattern i pl) (At r fs) k t d n typed = arrives_same s.types k (r ∷ all_in fs)
    arrives_part (ConstructorPattern u e c m pl ps) (At r fs) k t d n typed =
        arrives_on s.types k (with_cell s takes u c ps r k) (entering_all s takes root ps fs (with_cell s takes u c ps r k)) (r ∷ []) (all_in fs) (λ z a b. only z r (all_in fs) n a b)
        (arrives_cell s takes u c ps r k (subst (λ z. c < count s.types z) (sym typed.0) (head_count s.types t c typed.1 typed.2)) (few_patterns s t c typed.1 ps scalars typed.2 typed.3))
        (arrives_all ps fs (with_cell s takes u c ps r k) typed.1 d typed.3)

    arrives_all : (ps : Patterns) (ss : Spots) (k : Known) (ts : List ℕ) → AllDiffer ss → ArePatterns s.types ts (rows_of ps) → Arrives s.types k (entering_all s takes root ps ss k) (all_in ss)
    arrives_all NoPatterns ss k ts d typed = arrives_same s.types k (all_in ss)
    arrives_all (MorePatterns p ps) NoSpots k ts d typed = arrives_same s.types k []
    arrives_all (MorePatterns p ps) (MoreSpots q ss) k [] d typed = absurd typed
    arrives_all (MorePatterns p ps) (MoreSpots q ss) k (t ∷ ts) d typed =
        arrives_on s.types k (entering s takes root p q k) (entering_all s takes root ps ss (entering s takes root p q k)) (register q ∷ below q) (all_in ss) (spot_apart q ss d)
        (arrives_part p q k t d.3 d.0 typed.0) (arrives_all ps ss (entering s takes root p q k) ts d.4 typed.1)

-- ---- from the scrutinee on

-- what is so at the entry
record IsEntered (tb : Table) (k l : Known) (zs : List ℕ) : Type 0 where
  accounts : Ready k zs → Accounted k → Accounted l
  named : Ready k zs → Accounted k → Named k → Named l
  bares : (r t d : ℕ) → slice_get l.held r ≡ Some (H.Bare t d) → (slice_get k.held r ≡ Some (H.Bare t d)) ⊎ (d < count tb t)
  empty : (d : ℕ) → held_at k.held d ≡ H.Nothing → (Among d zs → ⊥) → held_at l.held d ≡ H.Nothing

entered_from : (tb : Table) (k l : Known) (zs : List ℕ) → Arrives tb k l zs → IsEntered tb k l zs
entered_from tb k l zs h = record {
  accounts = h.accounts;
  named = λ ready a n. h.named ready n;
  bares = h.bares;
  empty = λ d e n. held_same k.held l.held d (h.others d n) ∙ e;
}

spent_solid : (k : Known) (r z : ℕ) → Accounted k → is_credit (slice_get k.held z) ≡ false → is_credit (slice_get (used k.held r) z) ≡ false
spent_solid k r z a e = no_new_credit k (using k (used k.held r)) z a (used_accounted k (using k (used k.held r)) r refl a) (last_same k.credits) e

-- where its cell is taken apart, the scrutinee's tree is used up
entered_spent : (tb : Table) (takes : Bool) (k l : Known) (r : ℕ) (zs : List ℕ) → Arrives tb (spent_if takes r k) l zs → IsEntered tb k l zs
entered_spent tb false k l r zs h = entered_from tb k l zs h
entered_spent tb true k l r zs h = record {
  accounts = λ ready a. h.accounts (spent ready a) (used_accounted k m r refl a);
  named = λ ready a n. h.named (spent ready a) (λ x q e. let old = n x q e in (old.0, spent_solid k r q a old.1, tt));
  bares = λ q t d e. elim (h.bares q t d e) as (λ v. (slice_get k.held q ≡ Some (H.Bare t d)) ⊎ (d < count tb t)) [
    | inl x ↦ inl (barer_used k.held r q t d x)
    | inr x ↦ inr x
  ];
  empty = λ d e n. held_same (used k.held r) l.held d (h.others d n) ∙ used_nothing (is_owned (slice_get k.held r)) k.held r d e;
}
  where
    m : Known
    m = using k (used k.held r)

    spent : Ready k zs → Accounted k → Ready m zs
    spent ready a z b =
        let old = ready z b in
        record { used = old.used; solid = spent_solid k r z a old.solid; within = subst (λ n. z < n) (sym (used_length k.held r)) old.within }

entered_root : (s : Setting) (takes : Bool) (q : Pattern) (p : Spot) (k : Known) (t : ℕ) → ScalarsRight s → Differ p → (Among (register p) (below p) → ⊥) → IsPattern s.types t (row_of q) → IsEntered s.types k (entering_root s takes q p k) (register p ∷ below p)
entered_root s takes (BinderPattern b) (At r fs) k t scalars d n typed = entered_from s.types k (naming k b.number r) (r ∷ all_in fs) (arrives_naming s.types k b.number r (all_in fs))
entered_root s takes (LiteralPattern i pl) (At r fs) k t scalars d n typed = entered_from s.types k k (r ∷ all_in fs) (arrives_same s.types k (r ∷ all_in fs))
entered_root s takes (ConstructorPattern u e c m pl ps) (At r fs) k t scalars d n typed =
    let root = root_of r (get_or k.held r H.Nothing) in
    entered_spent s.types takes k (entering s takes root (ConstructorPattern u e c m pl ps) (At r fs) (spent_if takes r k)) r (r ∷ all_in fs)
    (arrives_part s scalars takes root (ConstructorPattern u e c m pl ps) (At r fs) (spent_if takes r k) t d n typed)

-- ---- at the entry of a clause's body

-- What is so at an entry where e is known; m was known before the tests, of a scrutinee in register r, and n registers
-- are used. Registers below `low` that waited wait still.
pub record EntersWell (s : Setting) (m : Known) (r low : ℕ) (e : Known) (n : ℕ) : Type 0 where
  pub accounts : Accounted e
  pub named : Named e
  pub next : e.next ≡ n
  pub many : registers e ≡ registers m
  pub right : (at : ℕ) → 0 < at → BuiltWell s.types at m → BuiltWell s.types at e
  pub waits : (d : ℕ) → Waits m d → d < low → (d ≡ r → ⊥) → Waits e d

pub enters_well : (s : Setting) (takes : Bool) (q : Pattern) (root : Spot) (m : Known) (n low t : ℕ) → ScalarsRight s → Accounted m → Named m → AllSolid m (register root ∷ []) → register root < low → ((z : ℕ) → Among z (below root) → (low ≤ z) × (z < m.next) × (held_at m.held z ≡ H.Nothing)) → Differ root → IsPattern s.types t (row_of q) → m.next ≤ n → n ≤ registers m → EntersWell s m (register root) low (wide (entering_root s takes q root (reaching m n))) n
enters_well s takes q root m n low t scalars a named solid before fresh differ typed more few = record {
  accounts = wide_accounted e (entry.accounts ready reached);
  named = wide_named e (entry.named ready reached reached_named);
  next = enters.next;
  many = widened_length e.held (map widened e.held) refl ∙ root_length s takes q root k;
  right = λ at lt right. wide_right s.types e at lt (bares at right);
  waits = λ d w under ne.
      let unknown = enters.unknown d (unknown_of d w) (λ b. other d under ne b) in
      record {
        used = unknown.fixed.used;
        empty = held_map_nothing widened e.held d refl (entry.empty d w.empty (λ b. other d under ne b));
        unnamed = λ x f. unknown.unnamed x d f refl;
        free = unknown.fixed.kept;
      };
}
  where
    k : Known
    k = reaching m n

    e : Known
    e = entering_root s takes q root k

    apart : Among (register root) (below root) → ⊥
    apart b = let f = (fresh (register root) b).0 in absurd (let z : ⊥ = omega (arith, f, before) in z)

    entry : IsEntered s.types k e (register root ∷ below root)
    entry = entered_root s takes q root k t scalars differ apart typed

    enters : Enters k e (register root ∷ below root)
    enters = enters_root s takes q root k differ apart

    reached : Accounted k
    reached = record { fresh = λ r h le f. a.fresh r h (omega (arith, le, more)) f; credits = a.credits; sizes = a.sizes }

    reached_named : Named k
    reached_named x r f = let old = named x r f in (let lt = old.0 in omega (arith, lt, more), old.1, tt)

    ready : Ready k (register root ∷ below root)
    ready z (inl f) = subst (IsReady k) (sym f) (record { used = (let lt = solid.0 in omega (arith, lt, more)); solid = solid.1; within = (let lt = solid.0 in omega (arith, lt, more, few)) })
    ready z (inr b) =
        let h = fresh z b in
        let lt = h.1 in
        record {
          used = omega (arith, lt, more);
          solid = nothing_solid (slice_get m.held z) (sym (held_by m.held z) ∙ h.2);
          within = omega (arith, lt, more, few);
        }

    bares : (at : ℕ) → BuiltWell s.types at m → (r t d : ℕ) → slice_get e.held r ≡ Some (H.Bare t d) → d < count s.types t
    bares at right r t d f = elim (entry.bares r t d f) as (λ v. d < count s.types t) [
      | inl x ↦ (right r).bare t d (held_by m.held r ∙ ap held_of x)
      | inr x ↦ x
    ]

    other : (d : ℕ) → d < low → (d ≡ register root → ⊥) → Among d (register root ∷ below root) → ⊥
    other d under ne (inl f) = ne f
    other d under ne (inr b) = let f = (fresh d b).0 in absurd (let z : ⊥ = omega (arith, f, under) in z)

    unknown_of : (d : ℕ) → Waits m d → Unknown k d
    unknown_of d w = record {
      fixed = record { used = (let lt = w.used in omega (arith, lt, more)); kept = w.free };
      unnamed = λ x r f g. w.unnamed x (f ∙ ap Some g);
      no_bare = λ r u c f g. absurd (bare_not (sym (held_by m.held r ∙ ap held_of f) ∙ (ap (held_at m.held) g ∙ w.empty)));
    }
      where
        bare_not : {u c : ℕ} → H.Bare u c ≡ H.Nothing → ⊥
        bare_not f = absurd (cc)

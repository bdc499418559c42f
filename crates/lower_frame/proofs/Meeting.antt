-- What is known at both of two places: the same of each register and variable, and the credits whose registers hold one
-- still. All credits are accounted for there, where they are at the first place.
use Rattle.std.proofs.Common.{◌≡◌, ◌⊎◌, inl, inr, refl, sym, ap, ◌∙◌, subst, ⊎_elim, arith, true≢false, ℕ, zero, suc, ◌+◌, ◌≤◌, ◌<◌, Bool, true, false, List, [], ◌∷◌, ◌++◌, length, Option, Some, None, slice_get}
use Rattle.std.specs.Prelude.{◌==◌, ◌&&◌, if◌then◌else◌}
use Rattle.std.proofs.lemmas.Bool.{cases_eq}
use Rattle.std.proofs.lemmas.Bool.Decides.{nat_tests}
use Rattle.std.proofs.lemmas.Option.{none-some}
use Rattle.cell_code.proofs.fip_language.Search.{le_or_less}
use Rattle.lowering_relation.specs.declared.held.Held.{Held}
use Rattle.lowering_relation.specs.declared.held.Held.TheVariants as H
use Rattle.lowering_relation.specs.declared.held.Credit.{Credit}
use Rattle.lowering_relation.specs.Known.{Known, joined}
use Rattle.lowering_relation.specs.Tidy.{NotIn, Once, Below}
use Rattle.lowering_relation.specs.Choosing.{Meets, FewerCredits}
use Rattle.lowering_relation.specs.Describing.{held_at}
use Rattle.lowering_relation.specs.Joins.{Met, holds_credit, still_held}
use Rattle.lower_frame.specs.Credits.{Accounted, one_if, counted, is_credit_of}
use Rattle.lower_frame.specs.Frames.{IsBoth, HeldByBoth, NamedByBoth}
use Rattle.fip_base.proofs.fip_language.Facts.{same_some}

-- what a register holds

pub held_there : (hs : List Held) (r : ℕ) (h : Held) → slice_get hs r ≡ Some h → held_at hs r ≡ h
held_there [] r h e = absurd (cc)
held_there (g ∷ hs) zero h e = same_some g h e
held_there (g ∷ hs) (suc r) h e = held_there hs r h e

pub held_past : (hs : List Held) (r : ℕ) → length hs ≤ r → held_at hs r ≡ H.Nothing
held_past [] r h = refl
held_past (g ∷ hs) zero h = absurd (omega (arith, h))
held_past (g ∷ hs) (suc r) h = held_past hs r (omega (arith, h))

pub there_or : (hs : List Held) (r : ℕ) → (slice_get hs r ≡ Some (held_at hs r)) ⊎ (held_at hs r ≡ H.Nothing)
there_or [] r = inr refl
there_or (g ∷ hs) zero = inl refl
there_or (g ∷ hs) (suc r) = there_or hs r

credit_at : (n : ℕ) (hs : List Held) (r : ℕ) → is_credit_of n (slice_get hs r) ≡ is_credit_of n (Some (held_at hs r))
credit_at n [] r = refl
credit_at n (g ∷ hs) zero = refl
credit_at n (g ∷ hs) (suc r) = credit_at n hs r

-- the same, or nothing

pub both_same : {A : Type 0} (nothing x y : A) → y ≡ x → IsBoth nothing x y x
both_same nothing x y e = inl (sym e, refl)

pub both_other : {A : Type 0} (nothing x y : A) → (y ≡ x → ⊥) → IsBoth nothing x y nothing
both_other nothing x y ne = inr (λ e. ne (sym e), refl)

pub nothing_there : (h : Held) → IsBoth H.Nothing h H.Nothing H.Nothing
nothing_there H.Nothing = inl (refl, refl)
nothing_there (H.Scalar t) = inr (λ e. absurd (cc), refl)
nothing_there (H.Owned t b) = inr (λ e. absurd (cc), refl)
nothing_there (H.Lent t root) = inr (λ e. absurd (cc), refl)
nothing_there (H.Credit n) = inr (λ e. absurd (cc), refl)
nothing_there (H.Bare t c) = inr (λ e. absurd (cc), refl)

nothing_here : (h : Held) → IsBoth H.Nothing H.Nothing h H.Nothing
nothing_here H.Nothing = inl (refl, refl)
nothing_here (H.Scalar t) = inr (λ e. absurd (cc), refl)
nothing_here (H.Owned t b) = inr (λ e. absurd (cc), refl)
nothing_here (H.Lent t root) = inr (λ e. absurd (cc), refl)
nothing_here (H.Credit n) = inr (λ e. absurd (cc), refl)
nothing_here (H.Bare t c) = inr (λ e. absurd (cc), refl)

pub none_there : (o : Option ℕ) → IsBoth None o None None
none_there None = inl (refl, refl)
none_there (Some r) = inr (λ e. absurd (cc), refl)

none_here : (o : Option ℕ) → IsBoth None None o None
none_here None = inl (refl, refl)
none_here (Some r) = inr (λ e. absurd (cc), refl)

pub held_missing : (h : Held) (hs : List Held) (r : ℕ) → length hs ≤ r → IsBoth H.Nothing h (held_at hs r) H.Nothing
held_missing h hs r e = subst (λ g. IsBoth H.Nothing h g H.Nothing) (sym (held_past hs r e)) (nothing_there h)

pub held_equal : (h g : Held) (hs : List Held) (r : ℕ) → slice_get hs r ≡ Some g → g ≡ h → IsBoth H.Nothing h (held_at hs r) h
held_equal h g hs r e f = both_same H.Nothing h (held_at hs r) (held_there hs r g e ∙ f)

pub held_other : (h g : Held) (hs : List Held) (r : ℕ) → slice_get hs r ≡ Some g → (g ≡ h → ⊥) → IsBoth H.Nothing h (held_at hs r) H.Nothing
held_other h g hs r e ne = both_other H.Nothing h (held_at hs r) (λ f. ne (sym (held_there hs r g e) ∙ f))

pub name_missing : (o : Option ℕ) (ns : List (Option ℕ)) (x : ℕ) → slice_get ns x ≡ None → IsBoth None o (joined (slice_get ns x)) None
name_missing o ns x e = subst (λ p. IsBoth None o (joined p) None) (sym e) (none_there o)

pub name_equal : (o p : Option ℕ) (ns : List (Option ℕ)) (x : ℕ) → slice_get ns x ≡ Some p → p ≡ o → IsBoth None o (joined (slice_get ns x)) o
name_equal o p ns x e f = both_same None o (joined (slice_get ns x)) (ap joined e ∙ f)

pub name_other : (o p : Option ℕ) (ns : List (Option ℕ)) (x : ℕ) → slice_get ns x ≡ Some p → (p ≡ o → ⊥) → IsBoth None o (joined (slice_get ns x)) None
name_other o p ns x e ne = both_other None o (joined (slice_get ns x)) (λ f. ne (sym (ap joined e) ∙ f))

pub credit_none : (hs : List Held) (r : ℕ) → length hs ≤ r → holds_credit (held_at hs r) ≡ false
credit_none hs r e = ap holds_credit (held_past hs r e)

pub credit_some : (hs : List Held) (r : ℕ) (h : Held) → slice_get hs r ≡ Some h → holds_credit (held_at hs r) ≡ holds_credit h
credit_some hs r h e = ap holds_credit (held_there hs r h e)

pub ruleset agreeing = (name_missing, name_equal, name_other)

-- lists that grow at their end

held_before : (hs : List Held) (h : Held) (r : ℕ) → r < length hs → held_at (hs ++ h ∷ []) r ≡ held_at hs r
held_before [] h r lt = absurd (omega (arith, lt))
held_before (g ∷ hs) h zero lt = refl
held_before (g ∷ hs) h (suc r) lt = held_before hs h r (omega (arith, lt))

held_last : (hs : List Held) (h : Held) → held_at (hs ++ h ∷ []) (length hs) ≡ h
held_last [] h = refl
held_last (g ∷ hs) h = held_last hs h

name_before : (ns : List (Option ℕ)) (o : Option ℕ) (x : ℕ) → x < length ns → joined (slice_get (ns ++ o ∷ []) x) ≡ joined (slice_get ns x)
name_before [] o x lt = absurd (omega (arith, lt))
name_before (p ∷ ns) o zero lt = refl
name_before (p ∷ ns) o (suc x) lt = name_before ns o x (omega (arith, lt))

name_last : (ns : List (Option ℕ)) (o : Option ℕ) → joined (slice_get (ns ++ o ∷ []) (length ns)) ≡ o
name_last [] o = refl
name_last (p ∷ ns) o = name_last ns o

-- so it is of the first i
abbrev pub FirstHeld : ℕ → List Held → List Held → List Held → Type 0
FirstHeld i hs gs both = (r : ℕ) → r < i → IsBoth H.Nothing (held_at hs r) (held_at gs r) (held_at both r)

abbrev pub FirstNamed : ℕ → List (Option ℕ) → List (Option ℕ) → List (Option ℕ) → Type 0
FirstNamed i ns ms both = (x : ℕ) → x < i → IsBoth None (joined (slice_get ns x)) (joined (slice_get ms x)) (joined (slice_get both x))

pub held_more : (hs gs both more : List Held) (h m : Held) (i place : ℕ) → length both ≡ i → slice_get hs i ≡ Some h → place ≡ length both → IsBoth H.Nothing h (held_at gs place) m → more ≡ both ++ m ∷ [] → FirstHeld i hs gs both → FirstHeld (i + 1) hs gs more
held_more hs gs both more h m i place e f at given pushed before r lt = elim (cases_eq r i) [
  | inl same ↦
      (let g = subst (λ q. IsBoth H.Nothing h (held_at gs q) m) (at ∙ e) given in
      let new : held_at more i ≡ m = ap (λ ks. held_at ks i) pushed ∙ ap (held_at (both ++ m ∷ [])) (sym e) ∙ held_last both m in
      subst (λ q. IsBoth H.Nothing (held_at hs q) (held_at gs q) (held_at more q)) (sym same)
      (subst (λ z. IsBoth H.Nothing z (held_at gs i) (held_at more i)) (sym (held_there hs i h f)) (subst (IsBoth H.Nothing h (held_at gs i)) (sym new) g)))
  | inr ne ↦
      (let old : held_at more r ≡ held_at both r = ap (λ ks. held_at ks r) pushed ∙ held_before both m r (omega (arith, lt, ne, e)) in
      subst (IsBoth H.Nothing (held_at hs r) (held_at gs r)) (sym old) (before r (omega (arith, lt, ne))))
]

pub held_all : (hs gs both : List Held) (i : ℕ) → length both ≡ i → length hs ≤ i → FirstHeld i hs gs both → HeldByBoth hs gs both
held_all hs gs both i e past first = record { by = λ r. by r (le_or_less i r) }
  where
    by : (r : ℕ) → (i ≤ r) ⊎ (r < i) → IsBoth H.Nothing (held_at hs r) (held_at gs r) (held_at both r)
    by r (inl more) =
        subst (λ z. IsBoth H.Nothing z (held_at gs r) (held_at both r)) (sym (held_past hs r (omega (arith, past, more))))
        (subst (IsBoth H.Nothing H.Nothing (held_at gs r)) (sym (held_past both r (omega (arith, e, more)))) (nothing_here (held_at gs r)))
    by r (inr less) = first r less

pub named_more : (ns ms both more : List (Option ℕ)) (o p : Option ℕ) (i place : ℕ) → length both ≡ i → slice_get ns i ≡ Some o → place ≡ length both → IsBoth None o (joined (slice_get ms place)) p → more ≡ both ++ p ∷ [] → FirstNamed i ns ms both → FirstNamed (i + 1) ns ms more
named_more ns ms both more o p i place e f at given pushed before x lt = elim (cases_eq x i) [
  | inl same ↦
      (let g = subst (λ q. IsBoth None o (joined (slice_get ms q)) p) (at ∙ e) given in
      let new : joined (slice_get more i) ≡ p = ap (λ ks. joined (slice_get ks i)) pushed ∙ ap (λ q. joined (slice_get (both ++ p ∷ []) q)) (sym e) ∙ name_last both p in
      subst (λ q. IsBoth None (joined (slice_get ns q)) (joined (slice_get ms q)) (joined (slice_get more q))) (sym same)
      (subst (λ z. IsBoth None (joined z) (joined (slice_get ms i)) (joined (slice_get more i))) (sym f) (subst (IsBoth None o (joined (slice_get ms i))) (sym new) g)))
  | inr ne ↦
      (let old : joined (slice_get more x) ≡ joined (slice_get both x) = ap (λ ks. joined (slice_get ks x)) pushed ∙ name_before both p x (omega (arith, lt, ne, e)) in
      subst (IsBoth None (joined (slice_get ns x)) (joined (slice_get ms x))) (sym old) (before x (omega (arith, lt, ne))))
]

name_past : (ns : List (Option ℕ)) (x : ℕ) → length ns ≤ x → joined (slice_get ns x) ≡ None
name_past [] x h = refl
name_past (o ∷ ns) zero h = absurd (omega (arith, h))
name_past (o ∷ ns) (suc x) h = name_past ns x (omega (arith, h))

pub named_all : (ns ms both : List (Option ℕ)) (i : ℕ) → length both ≡ i → length ns ≤ i → FirstNamed i ns ms both → NamedByBoth ns ms both
named_all ns ms both i e past first = record { by = λ x. by x (le_or_less i x) }
  where
    by : (x : ℕ) → (i ≤ x) ⊎ (x < i) → IsBoth None (joined (slice_get ns x)) (joined (slice_get ms x)) (joined (slice_get both x))
    by x (inl more) =
        subst (λ z. IsBoth None z (joined (slice_get ms x)) (joined (slice_get both x))) (sym (name_past ns x (omega (arith, past, more))))
        (subst (IsBoth None None (joined (slice_get ms x))) (sym (name_past both x (omega (arith, e, more)))) (none_here (joined (slice_get ms x))))
    by x (inr less) = first x less

-- the credits that are left

pub still_more : (hs : List Held) (cs all left more : List Credit) (c : Credit) (b : Bool) → b ≡ holds_credit (held_at hs c.register) → b ≡ true → left ++ still_held hs (c ∷ cs) ≡ all → more ≡ left ++ c ∷ [] → more ++ still_held hs cs ≡ all
still_more hs cs all left more c b e f before pushed =
    ap (λ ds. ds ++ still_held hs cs) pushed ∙ again left ∙ sym (ap (λ ds. left ++ ds) (ap (λ x. if x then c ∷ still_held hs cs else still_held hs cs) (sym e ∙ f))) ∙ before
  where
    again : (ds : List Credit) → (ds ++ c ∷ []) ++ still_held hs cs ≡ ds ++ (c ∷ still_held hs cs)
    again [] = refl
    again (d ∷ ds) = ap (λ es. d ∷ es) (again ds)

pub still_same : (hs : List Held) (cs all left : List Credit) (c : Credit) (b : Bool) → b ≡ holds_credit (held_at hs c.register) → b ≡ false → left ++ still_held hs (c ∷ cs) ≡ all → left ++ still_held hs cs ≡ all
still_same hs cs all left c b e f before = sym (ap (λ ds. left ++ ds) (ap (λ x. if x then c ∷ still_held hs cs else still_held hs cs) (sym e ∙ f))) ∙ before

still_not : (hs : List Held) (cs : List Credit) (r : ℕ) → NotIn r cs → NotIn r (still_held hs cs)
still_not hs [] r h = tt
still_not hs (c ∷ cs) r h = by (holds_credit (held_at hs c.register)) (still_not hs cs r h.1)
  where
    by : (b : Bool) → NotIn r (still_held hs cs) → NotIn r (if b then c ∷ still_held hs cs else still_held hs cs)
    by true rest = (h.0, rest)
    by false rest = rest

still_once : (hs : List Held) (cs : List Credit) → Once cs → Once (still_held hs cs)
still_once hs [] h = tt
still_once hs (c ∷ cs) h = by (holds_credit (held_at hs c.register)) (still_once hs cs h.1)
  where
    by : (b : Bool) → Once (still_held hs cs) → Once (if b then c ∷ still_held hs cs else still_held hs cs)
    by true rest = (still_not hs cs c.register h.0, rest)
    by false rest = rest

still_below : (hs : List Held) (n : ℕ) (cs : List Credit) → Below n cs → Below n (still_held hs cs)
still_below hs n [] h = tt
still_below hs n (c ∷ cs) h = by (holds_credit (held_at hs c.register)) (still_below hs n cs h.1)
  where
    by : (b : Bool) → Below n (still_held hs cs) → Below n (if b then c ∷ still_held hs cs else still_held hs cs)
    by true rest = (h.0, rest)
    by false rest = rest

pub still_fewer : (hs : List Held) (cs : List Credit) → FewerCredits cs (still_held hs cs)
still_fewer hs cs = record { keeps = still_not hs cs; once = still_once hs cs; below = λ n. still_below hs n cs }

-- what is known at both

pub both_met : (k l m : Known) → HeldByBoth k.held l.held m.held → NamedByBoth k.names l.names m.names → length m.held ≡ length k.held → length m.names ≡ length k.names → m.credits ≡ still_held m.held k.credits → m.next ≡ k.next → Met k l m
both_met k l m held names width many credits next = record {
  held = λ r. ⊎_elim (λ p. inl p) (λ p. inr (inl p)) (held.by r);
  names = λ x. names.by x;
  width = width;
  many = many;
  credits = credits;
  next = next;
}

-- a register holds what it holds at the first place, or nothing
pub met_first : (k l m : Known) → Met k l m → (r : ℕ) → (held_at m.held r ≡ held_at k.held r) ⊎ (held_at m.held r ≡ H.Nothing)
met_first k l m met r = ⊎_elim (λ p. inl p.1) (λ p. ⊎_elim (λ q. inr q.1) (λ q. inl q.2) p) (met.held r)

nothing_bare : (t c : ℕ) → H.Nothing ≡ H.Bare t c → ⊥
nothing_bare t c e = absurd (cc)

credit_bare : (n t c : ℕ) → H.Credit n ≡ H.Bare t c → ⊥
credit_bare n t c e = absurd (cc)

nothing_credit : (n : ℕ) → H.Nothing ≡ H.Credit n → ⊥
nothing_credit n e = absurd (cc)

bare_there : (hs : List Held) (r t c : ℕ) → held_at hs r ≡ H.Bare t c → slice_get hs r ≡ Some (H.Bare t c)
bare_there hs r t c e = ⊎_elim (λ p. p ∙ ap Some e) (λ p. absurd (nothing_bare t c (sym p ∙ e))) (there_or hs r)

pub met_here : (k l m : Known) → Met k l m → Meets k m
met_here k l m met = record {
  names = λ x r e. ⊎_elim (λ p. sym p.1 ∙ e) (λ p. absurd (none-some r (sym p.1 ∙ e))) (met.names x);
  barer = λ r t c e. bare_there k.held r t c (bare r t c (held_there m.held r (H.Bare t c) e));
}
  where
    bare : (r t c : ℕ) → held_at m.held r ≡ H.Bare t c → held_at k.held r ≡ H.Bare t c
    bare r t c e = ⊎_elim (λ p. sym p ∙ e) (λ p. absurd (nothing_bare t c (sym p ∙ e))) (met_first k l m met r)

pub met_there : (k l m : Known) → Met k l m → Meets l m
met_there k l m met = record {
  names = λ x r e. ⊎_elim (λ p. sym (p.1 ∙ p.0) ∙ e) (λ p. absurd (none-some r (sym p.1 ∙ e))) (met.names x);
  barer = λ r t c e. bare_there l.held r t c (bare r t c (held_there m.held r (H.Bare t c) e));
}
  where
    bare : (r t c : ℕ) → held_at m.held r ≡ H.Bare t c → held_at l.held r ≡ H.Bare t c
    bare r t c e = ⊎_elim (λ p. sym (p.1 ∙ p.0) ∙ e) (λ p. ⊎_elim (λ q. absurd (nothing_bare t c (sym q.1 ∙ e))) (λ q. absurd (credit_bare q.0 t c (sym (q.2 ∙ q.1) ∙ e))) p) (met.held r)

pub met_fewer : (k l m : Known) → Met k l m → FewerCredits k.credits m.credits
met_fewer k l m met = subst (FewerCredits k.credits) (sym met.credits) (still_fewer m.held k.credits)

-- credits are accounted for

apart : (c : Credit) (n r : ℕ) → (c.register ≡ r → ⊥) → one_if ((c.size == n) && (c.register == r)) ≡ 0
apart c n r ne = ap (λ b. one_if ((c.size == n) && b)) (unequal c.register r ne) ∙ never (c.size == n)
  where
    unequal : (i j : ℕ) → (i ≡ j → ⊥) → (i == j) ≡ false
    unequal i j other = grind (arith, nat_tests)

    never : (b : Bool) → one_if (b && false) ≡ 0
    never true = refl
    never false = refl

counted_held : (hs : List Held) (n r : ℕ) (cs : List Credit) → holds_credit (held_at hs r) ≡ true → counted n r (still_held hs cs) ≡ counted n r cs
counted_held hs n r [] e = refl
counted_held hs n r (c ∷ cs) e = by (holds_credit (held_at hs c.register)) refl (counted_held hs n r cs e)
  where
    by : (b : Bool) → holds_credit (held_at hs c.register) ≡ b → counted n r (still_held hs cs) ≡ counted n r cs → counted n r (if b then c ∷ still_held hs cs else still_held hs cs) ≡ counted n r (c ∷ cs)
    by true f rest = ap (λ z. one_if ((c.size == n) && (c.register == r)) + z) rest
    by false f rest =
        let none = apart c n r (λ same. true≢false (sym e ∙ (ap (λ q. holds_credit (held_at hs q)) (sym same) ∙ f))) in
        omega (arith, none, rest)

counted_lost : (hs : List Held) (n r : ℕ) (cs : List Credit) → holds_credit (held_at hs r) ≡ false → counted n r (still_held hs cs) ≡ 0
counted_lost hs n r [] e = refl
counted_lost hs n r (c ∷ cs) e = by (holds_credit (held_at hs c.register)) refl (counted_lost hs n r cs e)
  where
    by : (b : Bool) → holds_credit (held_at hs c.register) ≡ b → counted n r (still_held hs cs) ≡ 0 → counted n r (if b then c ∷ still_held hs cs else still_held hs cs) ≡ 0
    by true f rest =
        let none = apart c n r (λ same. true≢false (sym f ∙ (ap (λ q. holds_credit (held_at hs q)) same ∙ e))) in
        omega (arith, none, rest)
    by false f rest = rest

no_credit : (n : ℕ) (h : Held) → holds_credit h ≡ false → is_credit_of n (Some h) ≡ false
no_credit n H.Nothing e = refl
no_credit n (H.Scalar t) e = refl
no_credit n (H.Owned t b) e = refl
no_credit n (H.Lent t root) e = refl
no_credit n (H.Credit m) e = absurd (true≢false e)
no_credit n (H.Bare t c) e = refl

pub met_accounted : (k l m : Known) → Accounted k → Met k l m → Accounted m
met_accounted k l m a met = record { fresh = fresh; credits = λ n r. by n r (holds_credit (held_at m.held r)) refl; sizes = sizes }
  where
    was_fresh : (r : ℕ) → k.next ≤ r → held_at k.held r ≡ H.Nothing
    was_fresh r low = ⊎_elim (λ p. a.fresh r (held_at k.held r) low p) (λ p. p) (there_or k.held r)

    fresh : (r : ℕ) (h : Held) → m.next ≤ r → slice_get m.held r ≡ Some h → h ≡ H.Nothing
    fresh r h low e =
        let z = met.next in
        sym (held_there m.held r h e) ∙ ⊎_elim (λ p. p ∙ was_fresh r (omega (arith, low, z))) (λ p. p) (met_first k l m met r)

    still : (r : ℕ) → holds_credit (held_at m.held r) ≡ true → held_at m.held r ≡ held_at k.held r
    still r e = ⊎_elim (λ p. p) (λ p. absurd (true≢false (sym e ∙ ap holds_credit p))) (met_first k l m met r)

    by : (n r : ℕ) (b : Bool) → holds_credit (held_at m.held r) ≡ b → counted n r m.credits ≡ one_if (is_credit_of n (slice_get m.held r))
    by n r true e =
        ap (counted n r) met.credits ∙ counted_held m.held n r k.credits e ∙ a.credits n r
        ∙ ap one_if (credit_at n k.held r ∙ ap (λ h. is_credit_of n (Some h)) (sym (still r e)) ∙ sym (credit_at n m.held r))
    by n r false e =
        ap (counted n r) met.credits ∙ counted_lost m.held n r k.credits e
        ∙ sym (ap one_if (credit_at n m.held r ∙ no_credit n (held_at m.held r) e))

    sizes : (n r : ℕ) → slice_get m.held r ≡ Some (H.Credit n) → (1 ≤ n) × (n ≤ Rattle.cell_code.specs.fip_language.declared.limits.TheConstants.MOST_FIELDS)
    sizes n r e =
        let here = held_there m.held r (H.Credit n) e in
        let was = sym (still r (ap holds_credit here)) ∙ here in
        a.sizes n r (⊎_elim (λ p. p ∙ ap Some was) (λ p. absurd (nothing_credit n (sym p ∙ was))) (there_or k.held r))

pub ruleset meeting = (both_met, met_here, met_there, met_fewer)

-- What is built where values are computed, moved, handed over and received, and which registers wait still.
use Rattle.std.proofs.Common.{◌≡◌, ◌⊎◌, inl, inr, refl, sym, ap, ◌∙◌, subst, arith, true≢false, ℕ, zero, suc, ◌<◌, ◌≤◌, Bool, true, false, List, [], ◌∷◌, length, map, get_or, Option, Some, None, slice_get, slice_set}
use Rattle.std.specs.Prelude.{◌==◌, if◌then◌else◌}
use Rattle.fip_language.specs.Every.{Among}
use Rattle.fip_language.specs.Table.{Table}
use Rattle.fip_base.specs.declared.plain.Param.{Param}
use Rattle.fip_trees.specs.Tree.{Argument, Variable, Literal, Constructor, Arguments, NoArguments, MoreArguments}
use Rattle.cell_code.specs.declared.code.Instr.{Instr}
use Rattle.lower_frame.specs.code_rules.Types as Y
use Rattle.lower_frame.specs.lowering_relation.declared.held.Held.{Held}
use Rattle.lower_frame.specs.lowering_relation.declared.held.Held.TheVariants as H
use Rattle.lower_frame.specs.lowering_relation.Choosing.{FewerCredits}
use Rattle.lower_frame.specs.lowering_relation.Tidy.{Fixed}
use Rattle.lower_frame.specs.lowering_relation.Known.{Known, register_of, holding, with_next, is_owned, without, lent_by, used, used_if, used_all}
use Rattle.lower_frame.specs.lowering_relation.Values.{Setting, is_scalar, built, built_if, with_put, IsReused, IsNewAtom, IsPut, BuiltAt, ArgumentAt, ArgumentsAt}
use Rattle.lower_frame.specs.lowering_relation.LoweredBodies.{as_value, moved, handed, received, given, given_if, IsMove, IsThere, MovedAt, AreTaken}
use Rattle.lower_frame.proofs.lowering_relation.LoweredLists.{fewer_same, fewer_on, taken_fewer, taken_other}
use Rattle.lower_frame.specs.lowering_relation.Describing.{held_at}
use Rattle.lower_frame.specs.Credits.{is_bare}
use Rattle.lower_parts.specs.Bodies.{Founded, FoundedAll, RightAt, Waits}
use Rattle.lower_parts.proofs.Laying.{held_get}

-- what registers hold

pub get_or_held : (hs : List Held) (r : ℕ) → get_or hs r H.Nothing ≡ held_at hs r
get_or_held [] r = refl
get_or_held (h ∷ hs) zero = refl
get_or_held (h ∷ hs) (suc r) = get_or_held hs r

pub set_at : (P : Held → Type 0) (hs : List Held) (d : ℕ) (h : Held) (q : ℕ) → P (held_at hs q) → P h → P (held_at (slice_set hs d h) q)
set_at P [] d h q old new = old
set_at P (x ∷ hs) zero h zero old new = new
set_at P (x ∷ hs) zero h (suc q) old new = old
set_at P (x ∷ hs) (suc d) h zero old new = old
set_at P (x ∷ hs) (suc d) h (suc q) old new = set_at P hs d h q old new

pub set_other : (hs : List Held) (d : ℕ) (h : Held) (q : ℕ) → (q ≡ d → ⊥) → held_at (slice_set hs d h) q ≡ held_at hs q
set_other [] d h q ne = refl
set_other (x ∷ hs) zero h zero ne = absurd (ne refl)
set_other (x ∷ hs) zero h (suc q) ne = refl
set_other (x ∷ hs) (suc d) h zero ne = refl
set_other (x ∷ hs) (suc d) h (suc q) ne = set_other hs d h q (λ e. ne (ap suc e))

-- what they held, or nothing
abbrev pub Lower : List Held → List Held → Type 0
Lower hs ks = (q : ℕ) → (held_at ks q ≡ held_at hs q) ⊎ (held_at ks q ≡ H.Nothing)

pub lower_same : (hs : List Held) → Lower hs hs
lower_same hs = λ q. inl refl

pub lower_on : (hs ks ls : List Held) → Lower hs ks → Lower ks ls → Lower hs ls
lower_on hs ks ls a b = λ q. later q (b q) (a q)
  where
    later : (q : ℕ) → (held_at ls q ≡ held_at ks q) ⊎ (held_at ls q ≡ H.Nothing) → (held_at ks q ≡ held_at hs q) ⊎ (held_at ks q ≡ H.Nothing) → (held_at ls q ≡ held_at hs q) ⊎ (held_at ls q ≡ H.Nothing)
    later q (inl e) (inl f) = inl (e ∙ f)
    later q (inl e) (inr f) = inr (e ∙ f)
    later q (inr e) f = inr e

pub lower_set : (hs : List Held) (r : ℕ) → Lower hs (slice_set hs r H.Nothing)
lower_set hs r = λ q. set_at (λ h. (h ≡ held_at hs q) ⊎ (h ≡ H.Nothing)) hs r H.Nothing q (inl refl) (inr refl)

held_map : (r : ℕ) (hs : List Held) (q : ℕ) → held_at (map (without r) hs) q ≡ without r (held_at hs q)
held_map r [] q = refl
held_map r (h ∷ hs) zero = refl
held_map r (h ∷ hs) (suc q) = held_map r hs q

pub without_lent : (r t : ℕ) (root p : Option ℕ) → (lent_by r p (H.Lent t root) ≡ H.Lent t root) ⊎ (lent_by r p (H.Lent t root) ≡ H.Nothing)
without_lent r t root None = inl refl
without_lent r t root (Some q) = by (q == r)
  where
    by : (b : Bool) → ((if b then H.Nothing else H.Lent t root) ≡ H.Lent t root) ⊎ ((if b then H.Nothing else H.Lent t root) ≡ H.Nothing)
    by true = inr refl
    by false = inl refl

pub without_lower : (r : ℕ) (h : Held) → (without r h ≡ h) ⊎ (without r h ≡ H.Nothing)
without_lower r H.Nothing = inl refl
without_lower r (H.Scalar t) = inl refl
without_lower r (H.Owned t b) = inl refl
without_lower r (H.Lent t root) = without_lent r t root root
without_lower r (H.Credit n) = inl refl
without_lower r (H.Bare t c) = inl refl

lower_map : (r : ℕ) (hs : List Held) → Lower hs (map (without r) hs)
lower_map r hs = λ q. subst (λ h. (h ≡ held_at hs q) ⊎ (h ≡ H.Nothing)) (sym (held_map r hs q)) (without_lower r (held_at hs q))

lower_used_if : (b : Bool) (hs : List Held) (r : ℕ) → Lower hs (used_if b hs r)
lower_used_if false hs r = lower_same hs
lower_used_if true hs r = lower_on hs (slice_set hs r H.Nothing) (map (without r) (slice_set hs r H.Nothing)) (lower_set hs r) (lower_map r (slice_set hs r H.Nothing))

pub lower_used : (hs : List Held) (r : ℕ) → Lower hs (used hs r)
lower_used hs r = lower_used_if (is_owned (slice_get hs r)) hs r

pub lower_used_all : (hs : List Held) (rs : List ℕ) → Lower hs (used_all hs rs)
lower_used_all hs [] = lower_same hs
lower_used_all hs (r ∷ rs) = lower_on hs (used hs r) (used_all (used hs r) rs) (lower_used hs r) (lower_used_all (used hs r) rs)

handed_one : (b : Bool) (hs : List Held) (r : ℕ) → Lower hs (if b then hs else used hs r)
handed_one true hs r = lower_same hs
handed_one false hs r = lower_used hs r

pub handed_lower : (hs : List Held) (ps : List Param) (rs : List ℕ) → Lower hs (handed hs ps rs)
handed_lower hs [] rs = lower_same hs
handed_lower hs (p ∷ ps) [] = lower_same hs
handed_lower hs (p ∷ ps) (r ∷ rs) =
    let one : List Held = if p.lent then hs else used hs r in
    lower_on hs one (handed one ps rs) (handed_one p.lent hs r) (handed_lower one ps rs)

pub lower_empty : (hs ks : List Held) (d : ℕ) → Lower hs ks → held_at hs d ≡ H.Nothing → held_at ks d ≡ H.Nothing
lower_empty hs ks d low e = by (low d)
  where
    by : (held_at ks d ≡ held_at hs d) ⊎ (held_at ks d ≡ H.Nothing) → held_at ks d ≡ H.Nothing
    by (inl f) = f ∙ e
    by (inr f) = f

-- what was built

-- of each register
abbrev pub AllRight : Table → ℕ → List Held → Type 0
AllRight w at hs = (r : ℕ) → RightAt w at (held_at hs r)

pub right_nothing : (w : Table) (at : ℕ) → RightAt w at H.Nothing
right_nothing w at = record { built = record { there = λ t d e. absurd (cc) }; bare = λ t d e. absurd (cc); later = λ z. (refl, refl) }

pub right_scalar : (w : Table) (at t : ℕ) → RightAt w at (H.Scalar t)
right_scalar w at t = record { built = record { there = λ u d e. absurd (cc) }; bare = λ u d e. absurd (cc); later = λ z. (refl, refl) }

pub right_tree : (w : Table) (at t : ℕ) → RightAt w at (H.Owned t None)
right_tree w at t = record { built = record { there = λ u d e. absurd (cc) }; bare = λ u d e. absurd (cc); later = λ z. (refl, refl) }

pub right_lent : (w : Table) (at t : ℕ) (root : Option ℕ) → RightAt w at (H.Lent t root)
right_lent w at t root = record { built = record { there = λ u d e. absurd (cc) }; bare = λ u d e. absurd (cc); later = λ z. (refl, refl) }

pub right_credit : (w : Table) (at n : ℕ) → RightAt w at (H.Credit n)
right_credit w at n = record { built = record { there = λ u d e. absurd (cc) }; bare = λ u d e. absurd (cc); later = λ z. (refl, refl) }

pub right_built : (w : Table) (at t c : ℕ) → c < Y.count w t → (at ≡ 0 → ⊥) → RightAt w at (H.Owned t (Some c))
right_built w at t c lt ne = record {
  built = record {
    there = λ u d e. let one : t ≡ u = cc in let two : c ≡ d = cc in subst (λ z. z < Y.count w u) two (subst (λ z. c < Y.count w z) one lt);
  };
  bare = λ u d e. absurd (cc);
  later = λ z. absurd (ne z);
}

pub right_bare : (w : Table) (at t c : ℕ) → c < Y.count w t → (at ≡ 0 → ⊥) → RightAt w at (H.Bare t c)
right_bare w at t c lt ne = record {
  built = record { there = λ u d e. absurd (cc) };
  bare = λ u d e. let one : t ≡ u = cc in let two : c ≡ d = cc in subst (λ z. z < Y.count w u) two (subst (λ z. c < Y.count w z) one lt);
  later = λ z. absurd (ne z);
}

pub right_lower : (w : Table) (at : ℕ) (hs ks : List Held) → Lower hs ks → AllRight w at hs → AllRight w at ks
right_lower w at hs ks low a = λ q. by q (low q)
  where
    by : (q : ℕ) → (held_at ks q ≡ held_at hs q) ⊎ (held_at ks q ≡ H.Nothing) → RightAt w at (held_at ks q)
    by q (inl e) = subst (RightAt w at) (sym e) (a q)
    by q (inr e) = subst (RightAt w at) (sym e) (right_nothing w at)

pub right_set : (w : Table) (at : ℕ) (hs : List Held) (d : ℕ) (h : Held) → AllRight w at hs → RightAt w at h → AllRight w at (slice_set hs d h)
right_set w at hs d h a new = λ q. set_at (RightAt w at) hs d h q (a q) new

pub right_up : (w : Table) (at end : ℕ) (hs : List Held) → 0 < end → AllRight w at hs → AllRight w end hs
right_up w at end hs lt a = λ r. record { built = (a r).built; bare = (a r).bare; later = λ e. absurd (omega (arith, e, lt)) }

-- a constructor

built_right : (w : Table) (at t c : ℕ) (b : Bool) → c < Y.count w t → (at ≡ 0 → ⊥) → RightAt w at (built_if b t c)
built_right w at t c true lt ne = right_scalar w at t
built_right w at t c false lt ne = right_built w at t c lt ne

reused_right : (w : Table) (at : ℕ) (k : Known) (t c r end : ℕ) (l : Known) → c < Y.count w t → AllRight w at k.held → IsReused at k t c r end l → AllRight w end l.held
reused_right w at k t c r end l lt a h =
    subst (λ (x : Known). AllRight w end x.held) (sym h.known)
    (subst (λ n. AllRight w n (slice_set (slice_set k.held r H.Nothing) r (H.Owned t (Some c)))) (sym h.nothing)
    (right_set w at (slice_set k.held r H.Nothing) r (H.Owned t (Some c)) (right_lower w at k.held (slice_set k.held r H.Nothing) (lower_set k.held r) a) (right_built w at t c lt not_first)))
  where
    not_first : at ≡ 0 → ⊥
    not_first z = true≢false (sym (ap (λ x. is_bare (Some x)) (held_get k.held r (H.Bare t c) h.held)) ∙ ((a r).later z).1)

new_atom_right : (s : Setting) (code : List Instr) (at : ℕ) (k : Known) (t c r end : ℕ) (l : Known) → c < Y.count s.types t → AllRight s.types at k.held → IsNewAtom s code at k t c r end l → AllRight s.types end l.held
new_atom_right s code at k t c r end l lt a h =
    subst (λ (x : Known). AllRight s.types end x.held) (sym h.known)
    (right_set s.types end k.held k.next (built s t c) (right_up s.types at end k.held (let e = h.one in omega (arith, e)) a)
    (built_right s.types end t c (is_scalar s t) lt (λ z. absurd (let e = h.one in omega (arith, e, z)))))

put_right : (w : Table) (code : List Instr) (at : ℕ) (k : Known) (t c : ℕ) (rs : List ℕ) (r end : ℕ) (l : Known) → c < Y.count w t → AllRight w at k.held → IsPut code at k t c rs r end l → AllRight w end l.held
put_right w code at k t c rs r end l lt a h =
    let emptied : List Held = slice_set k.held r H.Nothing in
    let spent : List Held = used_all emptied rs in
    subst (λ (x : Known). AllRight w end x.held) (sym h.known)
    (right_set w end spent r (H.Owned t (Some c))
    (right_up w at end spent (let e = h.one in omega (arith, e)) (right_lower w at k.held spent (lower_on k.held emptied spent (lower_set k.held r) (lower_used_all emptied rs)) a))
    (right_built w end t c lt (λ z. absurd (let e = h.one in omega (arith, e, z)))))

constructor_right : (s : Setting) (code : List Instr) (at : ℕ) (k : Known) (t c : ℕ) (rs : List ℕ) (r end : ℕ) (l : Known) → c < Y.count s.types t → AllRight s.types at k.held → BuiltAt s code at k t c rs r end l → AllRight s.types end l.held
constructor_right s code at k t c [] r end l lt a (inl h) = reused_right s.types at k t c r end l lt a h
constructor_right s code at k t c [] r end l lt a (inr h) = new_atom_right s code at k t c r end l lt a h
constructor_right s code at k t c (f ∷ fs) r end l lt a h = put_right s.types code at k t c (f ∷ fs) r end l lt a h

constructor_on : (s : Setting) (code : List Instr) (at : ℕ) (k : Known) (t c : ℕ) (rs : List ℕ) (r end : ℕ) (l : Known) → BuiltAt s code at k t c rs r end l → at ≤ end
constructor_on s code at k t c [] r end l (inl h) = let e = h.nothing in omega (arith, e)
constructor_on s code at k t c [] r end l (inr h) = let e = h.one in omega (arith, e)
constructor_on s code at k t c (f ∷ fs) r end l h = let e = h.one in omega (arith, e)

-- registers that wait

pub waits_on : (k l : Known) (d : ℕ) → l.names ≡ k.names → k.next ≤ l.next → FewerCredits k.credits l.credits → held_at l.held d ≡ H.Nothing → Waits k d → Waits l d
waits_on k l d names le fewer e h = record {
  used = let a = h.used in omega (arith, a, le);
  empty = e;
  unnamed = λ x f. h.unnamed x (ap (λ ns. register_of ns (Some x)) (sym names) ∙ f);
  free = fewer.keeps d h.free;
}

next_waits : (k : Known) (h : Held) (d : ℕ) → Waits k d → Waits (with_next k h) d
next_waits k h d x = waits_on k (with_next k h) d refl (omega arith) (fewer_same k.credits) (set_other k.held k.next h d (λ e. absurd (let a = x.used in omega (arith, a, e))) ∙ x.empty) x

reused_waits : (at : ℕ) (k : Known) (t c r end : ℕ) (l : Known) (d : ℕ) → IsReused at k t c r end l → Waits k d → Waits l d × (r ≡ d → ⊥)
reused_waits at k t c r end l d h x = (
  subst (λ m. Waits m d) (sym h.known)
      (waits_on k (holding (holding k r H.Nothing) r (H.Owned t (Some c))) d refl (omega arith) (fewer_same k.credits)
      (set_other (slice_set k.held r H.Nothing) r (H.Owned t (Some c)) d (λ e. other (sym e)) ∙ lower_empty k.held (slice_set k.held r H.Nothing) d (lower_set k.held r) x.empty) x),
  other,
)
  where
    not_bare : H.Bare t c ≡ H.Nothing → ⊥
    not_bare e = absurd (cc)

    other : r ≡ d → ⊥
    other e = not_bare (sym (held_get k.held r (H.Bare t c) h.held) ∙ ap (held_at k.held) e ∙ x.empty)

put_waits : (code : List Instr) (at : ℕ) (k : Known) (t c : ℕ) (rs : List ℕ) (r end : ℕ) (l : Known) (d : ℕ) → IsPut code at k t c rs r end l → Waits k d → Waits l d × (r ≡ d → ⊥)
put_waits code at k t c rs r end l d h x = (
  subst (λ m. Waits m d) (sym h.known)
      (waits_on k (with_put k h.credits t c r rs) d refl (omega arith) (taken_fewer k.credits (length rs) r h.credits h.taken)
      (set_other spent r (H.Owned t (Some c)) d (λ e. other (sym e)) ∙ lower_empty k.held spent d (lower_on k.held emptied spent (lower_set k.held r) (lower_used_all emptied rs)) x.empty) x),
  other,
)
  where
    emptied : List Held
    emptied = slice_set k.held r H.Nothing

    spent : List Held
    spent = used_all emptied rs

    other : r ≡ d → ⊥
    other e = taken_other k.credits (length rs) r h.credits d h.taken x.free (sym e)

next_apart : (k : Known) (d r : ℕ) → Waits k d → r ≡ k.next → r ≡ d → ⊥
next_apart k d r x e f = absurd (let a = x.used in omega (arith, a, e, f))

constructor_waits : (s : Setting) (code : List Instr) (at : ℕ) (k : Known) (t c : ℕ) (rs : List ℕ) (r end : ℕ) (l : Known) (d : ℕ) → BuiltAt s code at k t c rs r end l → Waits k d → Waits l d × (r ≡ d → ⊥)
constructor_waits s code at k t c [] r end l d (inl h) x = reused_waits at k t c r end l d h x
constructor_waits s code at k t c [] r end l d (inr h) x = (subst (λ m. Waits m d) (sym h.known) (next_waits k (built s t c) d x), next_apart k d r x h.fresh)
constructor_waits s code at k t c (f ∷ fs) r end l d h x = put_waits code at k t c (f ∷ fs) r end l d h x

-- arguments

mutual
  pub argument_right : (s : Setting) (code : List Instr) (at : ℕ) (k : Known) (a : Argument) (r end : ℕ) (l : Known) → Founded s.types a → AllRight s.types at k.held → ArgumentAt s code at k a r end l → AllRight s.types end l.held
  argument_right s code at k (Variable x n p) r end l founded a h =
      subst (λ (m : Known). AllRight s.types end m.held) (sym h.known) (subst (λ n. AllRight s.types n k.held) (sym h.nothing) a)
  argument_right s code at k (Literal i p) r end l founded a h =
      subst (λ (m : Known). AllRight s.types end m.held) (sym h.known) (right_set s.types end k.held k.next (H.Scalar 0) (right_up s.types at end k.held (let e = h.one in omega (arith, e)) a) (right_scalar s.types end 0))
  argument_right s code at k (Constructor t d c n p as') r end l founded a h =
      constructor_right s code h.1 h.2 t c h.0 r end l founded.0 (arguments_right s code at k as' h.0 h.1 h.2 founded.1 a h.3) h.4

  pub arguments_right : (s : Setting) (code : List Instr) (at : ℕ) (k : Known) (as' : Arguments) (rs : List ℕ) (end : ℕ) (l : Known) → FoundedAll s.types as' → AllRight s.types at k.held → ArgumentsAt s code at k as' rs end l → AllRight s.types end l.held
  arguments_right s code at k NoArguments [] end l founded a h = subst (λ (m : Known). AllRight s.types end m.held) (sym h.1) (subst (λ n. AllRight s.types n k.held) (sym h.0) a)
  arguments_right s code at k NoArguments (r ∷ rs) end l founded a h = absurd h
  arguments_right s code at k (MoreArguments b as') [] end l founded a h = absurd h
  arguments_right s code at k (MoreArguments b as') (r ∷ rs) end l founded a h =
      arguments_right s code h.0 h.1 as' rs end l founded.1 (argument_right s code at k b r h.0 h.1 founded.0 a h.2) h.3

mutual
  pub argument_on : (s : Setting) (code : List Instr) (at : ℕ) (k : Known) (a : Argument) (r end : ℕ) (l : Known) → ArgumentAt s code at k a r end l → at ≤ end
  argument_on s code at k (Variable x n p) r end l h = let e = h.nothing in omega (arith, e)
  argument_on s code at k (Literal i p) r end l h = let e = h.one in omega (arith, e)
  argument_on s code at k (Constructor t d c n p as') r end l h = omega (arith, arguments_on s code at k as' h.0 h.1 h.2 h.3, constructor_on s code h.1 h.2 t c h.0 r end l h.4)

  pub arguments_on : (s : Setting) (code : List Instr) (at : ℕ) (k : Known) (as' : Arguments) (rs : List ℕ) (end : ℕ) (l : Known) → ArgumentsAt s code at k as' rs end l → at ≤ end
  arguments_on s code at k NoArguments [] end l h = let e = h.0 in omega (arith, e)
  arguments_on s code at k NoArguments (r ∷ rs) end l h = absurd h
  arguments_on s code at k (MoreArguments b as') [] end l h = absurd h
  arguments_on s code at k (MoreArguments b as') (r ∷ rs) end l h = omega (arith, argument_on s code at k b r h.0 h.1 h.2, arguments_on s code h.0 h.1 as' rs end l h.3)

variable_apart : (k : Known) (d r : ℕ) (o : Option ℕ) → Waits k d → register_of k.names o ≡ Some r → r ≡ d → ⊥
variable_apart k d r None x e f = absurd (cc)
variable_apart k d r (Some y) x e f = x.unnamed y (e ∙ ap Some f)

mutual
  pub argument_waits : (s : Setting) (code : List Instr) (at : ℕ) (k : Known) (a : Argument) (r end : ℕ) (l : Known) (d : ℕ) → ArgumentAt s code at k a r end l → Waits k d → Waits l d × (r ≡ d → ⊥)
  argument_waits s code at k (Variable y n p) r end l d h x = (subst (λ m. Waits m d) (sym h.known) x, variable_apart k d r y x h.named)
  argument_waits s code at k (Literal i p) r end l d h x = (subst (λ m. Waits m d) (sym h.known) (next_waits k (H.Scalar 0) d x), next_apart k d r x h.fresh)
  argument_waits s code at k (Constructor t e c n p as') r end l d h x =
      constructor_waits s code h.1 h.2 t c h.0 r end l d h.4 (arguments_waits s code at k as' h.0 h.1 h.2 d h.3 x).0

  pub arguments_waits : (s : Setting) (code : List Instr) (at : ℕ) (k : Known) (as' : Arguments) (rs : List ℕ) (end : ℕ) (l : Known) (d : ℕ) → ArgumentsAt s code at k as' rs end l → Waits k d → Waits l d × (Among d rs → ⊥)
  arguments_waits s code at k NoArguments [] end l d h x = (subst (λ m. Waits m d) (sym h.1) x, λ m. m)
  arguments_waits s code at k NoArguments (r ∷ rs) end l d h x = absurd h
  arguments_waits s code at k (MoreArguments b as') [] end l d h x = absurd h
  arguments_waits s code at k (MoreArguments b as') (r ∷ rs) end l d h x =
      let one = argument_waits s code at k b r h.0 h.1 d h.2 x in
      let more = arguments_waits s code h.0 h.1 as' rs end l d h.3 one.0 in
      (more.0, none one.1 more.1)
    where
      none : (r ≡ d → ⊥) → (Among d rs → ⊥) → Among d (r ∷ rs) → ⊥
      none p q (inl e) = p (sym e)
      none p q (inr m) = q m

-- moves

value_right : (w : Table) (at end : ℕ) (h : Held) → 0 < end → RightAt w at h → RightAt w end (as_value h)
value_right w at end H.Nothing lt a = right_nothing w end
value_right w at end (H.Scalar t) lt a = right_scalar w end t
value_right w at end (H.Owned t b) lt a = record { built = a.built; bare = λ u d e. absurd (cc); later = λ e. absurd (omega (arith, e, lt)) }
value_right w at end (H.Lent t root) lt a = right_lent w end t root
value_right w at end (H.Credit n) lt a = right_credit w end n
value_right w at end (H.Bare t c) lt a = right_built w end t c (a.bare t c refl) (λ e. absurd (omega (arith, e, lt)))

move_right : (w : Table) (code : List Instr) (at : ℕ) (k : Known) (r d end : ℕ) (l : Known) → AllRight w at k.held → IsMove code at k r d end l → AllRight w end l.held
move_right w code at k r d end l a h =
    subst (λ (m : Known). AllRight w end m.held) (sym h.known)
    (right_set w end (used k.held r) d (as_value (get_or k.held r H.Nothing))
    (right_up w at end (used k.held r) later (right_lower w at k.held (used k.held r) (lower_used k.held r) a))
    (subst (λ x. RightAt w end (as_value x)) (sym (get_or_held k.held r)) (value_right w at end (held_at k.held r) later (a r))))
  where
    later : 0 < end
    later = let e = h.one in omega (arith, e)

there_right : (w : Table) (at : ℕ) (k : Known) (r d end : ℕ) (l : Known) → AllRight w at k.held → IsThere at k r d end l → AllRight w end l.held
there_right w at k r d end l a h = subst (λ (m : Known). AllRight w end m.held) (sym h.known) (subst (λ n. AllRight w n k.held) (sym h.nothing) a)

pub moves_right : (w : Table) (code : List Instr) (at : ℕ) (k : Known) (rs ds : List ℕ) (end : ℕ) (l : Known) → AllRight w at k.held → MovedAt code at k rs ds end l → AllRight w end l.held
moves_right w code at k [] ds end l a h = subst (λ (m : Known). AllRight w end m.held) (sym h.1) (subst (λ n. AllRight w n k.held) (sym h.0) a)
moves_right w code at k (r ∷ rs) [] end l a h = subst (λ (m : Known). AllRight w end m.held) (sym h.1) (subst (λ n. AllRight w n k.held) (sym h.0) a)
moves_right w code at k (r ∷ rs) (d ∷ ds) end l a h = moves_right w code h.0 h.1 rs ds end l (one h.2) h.3
  where
    one : IsMove code at k r d h.0 h.1 ⊎ IsThere at k r d h.0 h.1 → AllRight w h.0 h.1.held
    one (inl m) = move_right w code at k r d h.0 h.1 a m
    one (inr m) = there_right w at k r d h.0 h.1 a m

moved_waits : (code : List Instr) (at : ℕ) (k : Known) (r d end : ℕ) (l : Known) (q : ℕ) → (q ≡ d → ⊥) → Waits k q → IsMove code at k r d end l → Waits l q
moved_waits code at k r d end l q ne x h = subst (λ m. Waits m q) (sym h.known)
    (waits_on k (moved k d r) q refl (omega arith) (fewer_same k.credits) (set_other (used k.held r) d (as_value (get_or k.held r H.Nothing)) q ne ∙ lower_empty k.held (used k.held r) q (lower_used k.held r) x.empty) x)

pub moves_wait : (code : List Instr) (at : ℕ) (k : Known) (rs ds : List ℕ) (end : ℕ) (l : Known) (q : ℕ) → MovedAt code at k rs ds end l → Waits k q → (Among q ds → ⊥) → Waits l q
moves_wait code at k [] ds end l q h x ne = subst (λ m. Waits m q) (sym h.1) x
moves_wait code at k (r ∷ rs) [] end l q h x ne = subst (λ m. Waits m q) (sym h.1) x
moves_wait code at k (r ∷ rs) (d ∷ ds) end l q h x ne = moves_wait code h.0 h.1 rs ds end l q h.3 (one h.2) (λ m. ne (inr m))
  where
    one : IsMove code at k r d h.0 h.1 ⊎ IsThere at k r d h.0 h.1 → Waits h.1 q
    one (inl m) = moved_waits code at k r d h.0 h.1 q (λ e. ne (inl e)) x m
    one (inr m) = subst (λ z. Waits z q) (sym m.known) x

pub moves_fixed : (code : List Instr) (at : ℕ) (k : Known) (rs ds : List ℕ) (end : ℕ) (l : Known) (q : ℕ) → MovedAt code at k rs ds end l → Fixed k q → Fixed l q
moves_fixed code at k [] ds end l q h x = subst (λ m. Fixed m q) (sym h.1) x
moves_fixed code at k (r ∷ rs) [] end l q h x = subst (λ m. Fixed m q) (sym h.1) x
moves_fixed code at k (r ∷ rs) (d ∷ ds) end l q h x = moves_fixed code h.0 h.1 rs ds end l q h.3 (one h.2)
  where
    one : IsMove code at k r d h.0 h.1 ⊎ IsThere at k r d h.0 h.1 → Fixed h.1 q
    one (inl m) = subst (λ z. Fixed z q) (sym m.known) (record { used = x.used; kept = x.kept })
    one (inr m) = subst (λ z. Fixed z q) (sym m.known) x

pub moves_on : (code : List Instr) (at : ℕ) (k : Known) (rs ds : List ℕ) (end : ℕ) (l : Known) → MovedAt code at k rs ds end l → at ≤ end
moves_on code at k [] ds end l h = let e = h.0 in omega (arith, e)
moves_on code at k (r ∷ rs) [] end l h = let e = h.0 in omega (arith, e)
moves_on code at k (r ∷ rs) (d ∷ ds) end l h = let more = moves_on code h.0 h.1 rs ds end l h.3 in let z = one h.2 in omega (arith, z, more)
  where
    one : IsMove code at k r d h.0 h.1 ⊎ IsThere at k r d h.0 h.1 → at ≤ h.0
    one (inl m) = let e = m.one in omega (arith, e)
    one (inr m) = let e = m.nothing in omega (arith, e)

-- the first register isn't where it goes to
pub moves_longer : (code : List Instr) (at : ℕ) (k : Known) (r : ℕ) (rs : List ℕ) (d : ℕ) (ds : List ℕ) (end : ℕ) (l : Known) → (r ≡ d → ⊥) → MovedAt code at k (r ∷ rs) (d ∷ ds) end l → at < end
moves_longer code at k r rs d ds end l ne h = let more = moves_on code h.0 h.1 rs ds end l h.3 in let z = one h.2 in omega (arith, z, more)
  where
    one : IsMove code at k r d h.0 h.1 ⊎ IsThere at k r d h.0 h.1 → at < h.0
    one (inl m) = let e = m.one in omega (arith, e)
    one (inr m) = absurd (ne m.same)

-- what is received

given_right : (w : Table) (at : ℕ) (b : Bool) (t : ℕ) → RightAt w at (given_if b t)
given_right w at true t = right_scalar w at t
given_right w at false t = right_tree w at t

pub all_received : (s : Setting) (w : Table) (at : ℕ) (hs : List Held) (ts ds : List ℕ) → AllRight w at hs → AllRight w at (received s hs ts ds)
all_received s w at hs [] ds a = a
all_received s w at hs (t ∷ ts) [] a = a
all_received s w at hs (t ∷ ts) (d ∷ ds) a = all_received s w at (slice_set hs d (given s t)) ts ds (right_set w at hs d (given s t) a (given_right w at (is_scalar s t) t))

pub received_empty : (s : Setting) (hs : List Held) (ts ds : List ℕ) (q : ℕ) → (Among q ds → ⊥) → held_at hs q ≡ H.Nothing → held_at (received s hs ts ds) q ≡ H.Nothing
received_empty s hs [] ds q ne e = e
received_empty s hs (t ∷ ts) [] q ne e = e
received_empty s hs (t ∷ ts) (d ∷ ds) q ne e = received_empty s (slice_set hs d (given s t)) ts ds q (λ m. ne (inr m)) (set_other hs d (given s t) q (λ x. ne (inl x)) ∙ e)

-- credits that are handed over

-- nothing but credits changed, and registers that are empty now
pub record Spends (k l : Known) : Type 0 where
  pub names : l.names ≡ k.names
  pub next : l.next ≡ k.next
  pub credits : FewerCredits k.credits l.credits
  pub lower : Lower k.held l.held

pub taken_spends : (k : Known) (ns rs : List ℕ) (l : Known) → AreTaken k ns rs l → Spends k l
taken_spends k [] [] l h = subst (Spends k) (sym h) (record { names = refl; next = refl; credits = fewer_same k.credits; lower = lower_same k.held })
taken_spends k [] (r ∷ rs) l h = absurd h
taken_spends k (n ∷ ns) [] l h = absurd h
taken_spends k (n ∷ ns) (r ∷ rs) l h =
    let one : Known = record k { held = slice_set k.held r H.Nothing; credits = h.0 } in
    let more = taken_spends one ns rs l h.2 in
    record {
      names = more.names;
      next = more.next;
      credits = fewer_on k.credits h.0 l.credits (taken_fewer k.credits n r h.0 h.1) more.credits;
      lower = lower_on k.held one.held l.held (lower_set k.held r) more.lower;
    }

pub spends_wait : (k l : Known) (d : ℕ) → Spends k l → Waits k d → Waits l d
spends_wait k l d h x = waits_on k l d h.names (let e = h.next in omega (arith, e)) h.credits (lower_empty k.held l.held d h.lower x.empty) x

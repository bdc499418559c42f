-- What a step of lowering keeps of what is known: registers that are fixed stay so, since only new ones and those of
-- credits are written.
use Rattle.std.proofs.Common.{◌≡◌, inl, inr, ℕ, ◌≤◌, List, [], ◌∷◌, Option, Some, None, Bool, true, false, refl, sym, ap, ◌∙◌, subst, arith, slice_set, length}
use Rattle.tree_refinement.specs.fip_language.Every.{Every, Among}
use Rattle.lowering_relation.specs.fip_trees.Tree.{Argument, Variable, Literal, Constructor, Arguments, NoArguments, MoreArguments}
use Rattle.tree_refinement.specs.cell_code.declared.code.Instr.{Instr}
use Rattle.lowering_relation.specs.Choosing.{FewerCredits}
use Rattle.lowering_relation.specs.Tidy.{Fixed, Tidy, Unknown}
use Rattle.lowering_relation.specs.declared.held.Held.{Held}
use Rattle.lowering_relation.specs.declared.held.Held.TheVariants as H
use Rattle.lowering_relation.specs.Known.{Known, register_of, with_next, used_all}
use Rattle.lowering_relation.specs.Values.{Setting, is_scalar, built, built_if, IsReused, IsPut, BuiltAt, ArgumentAt, ArgumentsAt}
use Rattle.lowering_relation.proofs.LoweredLists.{below_not, below_more, fewer_same, fewer_on, taken_fewer, taken_once, taken_below, Barer, barer_on, barer_set, barer_used_all, NotBare}

abbrev pub AllFixed : Known → List ℕ → Type 0
AllFixed k rs = Every (Fixed k) rs

-- from what is known to what is known later
pub record Step (k l : Known) : Type 0 where
  pub names : l.names ≡ k.names
  pub grows : k.next ≤ l.next
  pub fewer : FewerCredits k.credits l.credits
  pub barer : Barer k.held l.held

pub fixed_on : (k l : Known) (r : ℕ) → Step k l → Fixed k r → Fixed l r
fixed_on k l r s h = record { used = let a = h.used in let b = s.grows in omega (arith, a, b); kept = s.fewer.keeps r h.kept }

pub all_fixed_on : (k l : Known) (rs : List ℕ) → Step k l → AllFixed k rs → AllFixed l rs
all_fixed_on k l [] s h = tt
all_fixed_on k l (r ∷ rs) s h = (fixed_on k l r s h.0, all_fixed_on k l rs s h.1)

pub step_same : (k l : Known) → l ≡ k → Step k l
step_same k l e = subst (Step k) (sym e) (record { names = refl; grows = omega arith; fewer = fewer_same k.credits; barer = λ r t c h. h })

pub step_on : (k l m : Known) → Step k l → Step l m → Step k m
step_on k l m p q = record {
  names = q.names ∙ p.names;
  grows = let a = p.grows in let b = q.grows in omega (arith, a, b);
  fewer = fewer_on k.credits l.credits m.credits p.fewer q.fewer;
  barer = barer_on k.held l.held m.held p.barer q.barer;
}

pub tidy_on : (k l : Known) → Step k l → Tidy k → Tidy l
tidy_on k l s t = record {
  named = λ x r h. fixed_on k l r s (t.named x r (ap (λ ns. register_of ns (Some x)) (sym s.names) ∙ h));
  bare = λ r u c h. fixed_on k l r s (t.bare r u c (s.barer r u c h));
  once = s.fewer.once t.once;
  below = below_more k.next l.next l.credits s.grows (s.fewer.below k.next t.below);
}

-- the next register

next_step : (k : Known) (h : Held) → NotBare h → Step k (with_next k h)
next_step k h n = record { names = refl; grows = omega arith; fewer = fewer_same k.credits; barer = barer_set k.held k.next h n }

next_fixed : (k : Known) (h : Held) → Tidy k → Fixed (with_next k h) k.next
next_fixed k h t = record { used = omega arith; kept = below_not k.next k.next k.credits t.below (omega arith) }

pub next_to : (k l : Known) (h : Held) → NotBare h → l ≡ with_next k h → Step k l
next_to k l h n e = subst (Step k) (sym e) (next_step k h n)

pub next_to_fixed : (k l : Known) (h : Held) (r : ℕ) → Tidy k → l ≡ with_next k h → r ≡ k.next → Fixed l r
next_to_fixed k l h r t e f = subst (λ m. Fixed m r) (sym e) (subst (Fixed (with_next k h)) (sym f) (next_fixed k h t))

built_not : (b : Bool) (t c : ℕ) → NotBare (built_if b t c)
built_not true t c u d e = absurd (cc)
built_not false t c u d e = absurd (cc)

-- constructors

reused_step : (k : Known) (at t c r end : ℕ) (l : Known) → IsReused at k t c r end l → Step k l
reused_step k at t c r end l h = subst (Step k) (sym h.known) (record {
  names = refl;
  grows = omega arith;
  fewer = fewer_same k.credits;
  barer = barer_on k.held (slice_set k.held r H.Nothing) (slice_set (slice_set k.held r H.Nothing) r (H.Owned t (Some c)))
      (barer_set k.held r H.Nothing (λ u d e. absurd (cc)))
      (barer_set (slice_set k.held r H.Nothing) r (H.Owned t (Some c)) (λ u d e. absurd (cc)));
})

put_step : (code : List Instr) (at : ℕ) (k : Known) (t c : ℕ) (rs : List ℕ) (r end : ℕ) (l : Known) → IsPut code at k t c rs r end l → Step k l
put_step code at k t c rs r end l h = subst (Step k) (sym h.known) (record {
  names = refl;
  grows = omega arith;
  fewer = taken_fewer k.credits (length rs) r h.credits h.taken;
  barer = barer_on k.held (used_all (slice_set k.held r H.Nothing) rs) (slice_set (used_all (slice_set k.held r H.Nothing) rs) r (H.Owned t (Some c)))
      (barer_on k.held (slice_set k.held r H.Nothing) (used_all (slice_set k.held r H.Nothing) rs) (barer_set k.held r H.Nothing (λ u d e. absurd (cc))) (barer_used_all (slice_set k.held r H.Nothing) rs))
      (barer_set (used_all (slice_set k.held r H.Nothing) rs) r (H.Owned t (Some c)) (λ u d e. absurd (cc)));
})

pub built_step : (setting : Setting) (code : List Instr) (at : ℕ) (k : Known) (t c : ℕ) (rs : List ℕ) (r end : ℕ) (l : Known) → BuiltAt setting code at k t c rs r end l → Step k l
built_step setting code at k t c [] r end l (inl h) = reused_step k at t c r end l h
built_step setting code at k t c [] r end l (inr h) = next_to k l (built setting t c) (built_not (is_scalar setting t) t c) h.known
built_step setting code at k t c (f ∷ fs) r end l h = put_step code at k t c (f ∷ fs) r end l h

put_fixed : (code : List Instr) (at : ℕ) (k : Known) (t c : ℕ) (rs : List ℕ) (r end : ℕ) (l : Known) → Tidy k → IsPut code at k t c rs r end l → Fixed l r
put_fixed code at k t c rs r end l tidy h = subst (λ m. Fixed m r) (sym h.known) (record {
  used = taken_below k.credits (length rs) r h.credits k.next h.taken tidy.below;
  kept = taken_once k.credits (length rs) r h.credits h.taken tidy.once;
})

pub built_fixed : (setting : Setting) (code : List Instr) (at : ℕ) (k : Known) (t c : ℕ) (rs : List ℕ) (r end : ℕ) (l : Known) → Tidy k → BuiltAt setting code at k t c rs r end l → Fixed l r
built_fixed setting code at k t c [] r end l tidy (inl h) = fixed_on k l r (reused_step k at t c r end l h) (tidy.bare r t c h.held)
built_fixed setting code at k t c [] r end l tidy (inr h) = next_to_fixed k l (built setting t c) r tidy h.known h.fresh
built_fixed setting code at k t c (f ∷ fs) r end l tidy h = put_fixed code at k t c (f ∷ fs) r end l tidy h

-- arguments

mutual
  pub argument_step : (setting : Setting) (code : List Instr) (at : ℕ) (k : Known) (a : Argument) (r end : ℕ) (l : Known) → ArgumentAt setting code at k a r end l → Step k l
  argument_step setting code at k (Variable x n p) r end l h = step_same k l h.known
  argument_step setting code at k (Literal i p) r end l h = next_to k l (H.Scalar 0) (λ u d e. absurd (cc)) h.known
  argument_step setting code at k (Constructor t d c n p as') r end l h =
      step_on k h.2 l (arguments_step setting code at k as' h.0 h.1 h.2 h.3) (built_step setting code h.1 h.2 t c h.0 r end l h.4)

  pub arguments_step : (setting : Setting) (code : List Instr) (at : ℕ) (k : Known) (as' : Arguments) (rs : List ℕ) (end : ℕ) (l : Known) → ArgumentsAt setting code at k as' rs end l → Step k l
  arguments_step setting code at k NoArguments [] end l h = step_same k l h.1
  arguments_step setting code at k NoArguments (r ∷ rs) end l h = absurd h
  arguments_step setting code at k (MoreArguments a as') [] end l h = absurd h
  arguments_step setting code at k (MoreArguments a as') (r ∷ rs) end l h =
      step_on k h.1 l (argument_step setting code at k a r h.0 h.1 h.2) (arguments_step setting code h.0 h.1 as' rs end l h.3)

pub argument_fixed : (setting : Setting) (code : List Instr) (at : ℕ) (k : Known) (a : Argument) (r end : ℕ) (l : Known) → Tidy k → ArgumentAt setting code at k a r end l → Fixed l r
argument_fixed setting code at k (Variable x n p) r end l tidy h = fixed_on k l r (step_same k l h.known) (var_fixed x h.named)
  where
    var_fixed : (o : Option ℕ) → register_of k.names o ≡ Some r → Fixed k r
    var_fixed None e = absurd (cc)
    var_fixed (Some y) e = tidy.named y r e
argument_fixed setting code at k (Literal i p) r end l tidy h = next_to_fixed k l (H.Scalar 0) r tidy h.known h.fresh
argument_fixed setting code at k (Constructor t d c n p as') r end l tidy h =
    built_fixed setting code h.1 h.2 t c h.0 r end l (tidy_on k h.2 (arguments_step setting code at k as' h.0 h.1 h.2 h.3) tidy) h.4

pub arguments_fixed : (setting : Setting) (code : List Instr) (at : ℕ) (k : Known) (as' : Arguments) (rs : List ℕ) (end : ℕ) (l : Known) → Tidy k → ArgumentsAt setting code at k as' rs end l → AllFixed l rs
arguments_fixed setting code at k NoArguments [] end l tidy h = tt
arguments_fixed setting code at k NoArguments (r ∷ rs) end l tidy h = absurd h
arguments_fixed setting code at k (MoreArguments a as') [] end l tidy h = absurd h
arguments_fixed setting code at k (MoreArguments a as') (r ∷ rs) end l tidy h =
    let s = argument_step setting code at k a r h.0 h.1 h.2 in (
      fixed_on h.1 l r (arguments_step setting code h.0 h.1 as' rs end l h.3) (argument_fixed setting code at k a r h.0 h.1 tidy h.2),
      arguments_fixed setting code h.0 h.1 as' rs end l (tidy_on k h.1 s tidy) h.3,
    )

pub unknown_on : (k l : Known) (d : ℕ) → Step k l → Unknown k d → Unknown l d
unknown_on k l d s u = record {
  fixed = fixed_on k l d s u.fixed;
  unnamed = λ x r h. u.unnamed x r (ap (λ ns. register_of ns (Some x)) (sym s.names) ∙ h);
  no_bare = λ r t c h. u.no_bare r t c (s.barer r t c h);
}

-- no argument is computed into it
built_elsewhere : (setting : Setting) (code : List Instr) (at : ℕ) (k : Known) (t c : ℕ) (rs : List ℕ) (r end : ℕ) (l : Known) (d : ℕ) → Unknown k d → BuiltAt setting code at k t c rs r end l → r ≡ d → ⊥
built_elsewhere setting code at k t c [] r end l d u (inl h) e = u.no_bare r t c h.held e
built_elsewhere setting code at k t c [] r end l d u (inr h) e = let a = u.fixed.used in let b = h.fresh in absurd (omega (arith, a, b, e))
built_elsewhere setting code at k t c (f ∷ fs) r end l d u h e = Rattle.lowering_relation.proofs.LoweredLists.taken_other k.credits (length (f ∷ fs)) r h.credits d h.taken u.fixed.kept (sym e)

pub argument_elsewhere : (setting : Setting) (code : List Instr) (at : ℕ) (k : Known) (a : Argument) (r end : ℕ) (l : Known) (d : ℕ) → Unknown k d → ArgumentAt setting code at k a r end l → r ≡ d → ⊥
argument_elsewhere setting code at k (Variable x n p) r end l d u h e = var_elsewhere x h.named
  where
    var_elsewhere : (o : Option ℕ) → register_of k.names o ≡ Some r → ⊥
    var_elsewhere None f = absurd (cc)
    var_elsewhere (Some y) f = u.unnamed y r f e
argument_elsewhere setting code at k (Literal i p) r end l d u h e = let a = u.fixed.used in let b = h.fresh in absurd (omega (arith, a, b, e))
argument_elsewhere setting code at k (Constructor t d c n p as') r end l q u h e =
    built_elsewhere setting code h.1 h.2 t c h.0 r end l q (unknown_on k h.2 q (arguments_step setting code at k as' h.0 h.1 h.2 h.3) u) h.4 e

pub arguments_elsewhere : (setting : Setting) (code : List Instr) (at : ℕ) (k : Known) (as' : Arguments) (rs : List ℕ) (end : ℕ) (l : Known) (d : ℕ) → Unknown k d → ArgumentsAt setting code at k as' rs end l → Among d rs → ⊥
arguments_elsewhere setting code at k NoArguments [] end l d u h m = m
arguments_elsewhere setting code at k NoArguments (r ∷ rs) end l d u h m = absurd h
arguments_elsewhere setting code at k (MoreArguments a as') [] end l d u h m = absurd h
arguments_elsewhere setting code at k (MoreArguments a as') (r ∷ rs) end l d u h (inl e) = argument_elsewhere setting code at k a r h.0 h.1 d u h.2 (sym e)
arguments_elsewhere setting code at k (MoreArguments a as') (r ∷ rs) end l d u h (inr m) =
    arguments_elsewhere setting code h.0 h.1 as' rs end l d (unknown_on k h.1 d (argument_step setting code at k a r h.0 h.1 h.2) u) h.3 m

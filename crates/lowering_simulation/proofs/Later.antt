-- What the lowering of an expression, or of a block, keeps of what is known.
use Rattle.std.proofs.Common.{◌⊎◌, inl, inr, ℕ, suc, ◌<◌, ◌≤◌, ◌+◌, List, [], ◌∷◌, Bool, true, false, refl, sym, subst, ⊎_elim, arith, slice_set, length, get_or}
use Rattle.std.specs.Prelude.{if◌then◌else◌}
use Rattle.tree_refinement.specs.fip_language.Every.{Every, Among}
use Rattle.tree_refinement.specs.fip_base.declared.plain.Param.{Param}
use Rattle.lowering_relation.specs.fip_trees.declared.program.Binder.{Binder}
use Rattle.lowering_relation.specs.fip_trees.Tree.{Expression, Give, Tuple, Operation, Call, Match, Nested, Block, Last, Let}
use Rattle.tree_refinement.specs.cell_code.declared.code.Instr.{Instr}
use Rattle.lowering_relation.specs.Tidy.{Fixed, Tidy, Unknown}
use Rattle.lowering_relation.specs.declared.held.Held.{Held}
use Rattle.lowering_relation.specs.declared.held.Held.TheVariants as H
use Rattle.lowering_relation.specs.Known.{Known, used}
use Rattle.lowering_relation.specs.Choosing.{Meets, MeetsFirst}
use Rattle.lowering_relation.specs.Values.{Setting, is_scalar}
use Rattle.lowering_relation.specs.LoweredBodies.{Into, as_value, IsMove, IsThere, MovedAt, GoesTo, result_type, handed, AreTaken, given_if, given, received, IsCall, registers_for, reserved, with_names, ValuesAt, ExpressionAt, BlockAt}
use Rattle.lowering_relation.proofs.LoweredLists.{below_not, below_more, fewer_same, taken_fewer, Barer, barer_on, barer_set, barer_used, NotBare}
use Rattle.lowering_simulation.proofs.Statics.{AllFixed, Step, step_same, step_on, next_to, argument_step, arguments_step, argument_fixed, arguments_fixed, argument_elsewhere, arguments_elsewhere, unknown_on, tidy_on}
use Rattle.lowering_simulation.proofs.Naming.{all_named_from}
use Rattle.lowering_relation.proofs.Entries.{given_not}
use Rattle.lowering_simulation.proofs.Naming.{among_fixed as among_is_fixed}

-- registers only hold something else
pub held_step : (k : Known) (hs : List Held) → Barer k.held hs → Step k (record k { held = hs })
held_step k hs b = record { names = refl; grows = omega arith; fewer = fewer_same k.credits; barer = b }

value_not : (h : Held) → NotBare (as_value h)
value_not H.Nothing t c e = absurd (cc)
value_not (H.Scalar u) t c e = absurd (cc)
value_not (H.Owned u b) t c e = absurd (cc)
value_not (H.Lent u root) t c e = absurd (cc)
value_not (H.Credit n) t c e = absurd (cc)
value_not (H.Bare u d) t c e = absurd (cc)

move_step : (code : List Instr) (at : ℕ) (k : Known) (r d end : ℕ) (l : Known) → IsMove code at k r d end l ⊎ IsThere at k r d end l → Step k l
move_step code at k r d end l (inl h) =
    subst (Step k) (sym h.known) (held_step k (slice_set (used k.held r) d (as_value (get_or k.held r H.Nothing)))
    (barer_on k.held (used k.held r) (slice_set (used k.held r) d (as_value (get_or k.held r H.Nothing))) (barer_used k.held r) (barer_set (used k.held r) d (as_value (get_or k.held r H.Nothing)) (value_not (get_or k.held r H.Nothing)))))
move_step code at k r d end l (inr h) = step_same k l h.known

pub moved_step : (code : List Instr) (at : ℕ) (k : Known) (rs ds : List ℕ) (end : ℕ) (l : Known) → MovedAt code at k rs ds end l → Step k l
moved_step code at k [] ds end l h = step_same k l h.1
moved_step code at k (r ∷ rs) [] end l h = step_same k l h.1
moved_step code at k (r ∷ rs) (d ∷ ds) end l h = step_on k h.1 l (move_step code at k r d h.0 h.1 h.2) (moved_step code h.0 h.1 rs ds end l h.3)

pub goes_step : (ds : List ℕ) (k : Known) (t d : ℕ) (l : Known) → GoesTo (Into ds) k (H.Scalar t) d l → Step k l
goes_step [] k t d l h = next_to k l (H.Scalar t) (λ u c e. absurd (cc)) h.1
goes_step (e ∷ ds) k t d l h = subst (Step k) (sym h.1) (held_step k (slice_set k.held e (H.Scalar t)) (barer_set k.held e (H.Scalar t) (λ u c x. absurd (cc))))

barer_if : (b : Bool) (hs : List Held) (r : ℕ) → Barer hs (if b then hs else used hs r)
barer_if true hs r q t c e = e
barer_if false hs r q t c e = barer_used hs r q t c e

barer_handed : (hs : List Held) (ps : List Param) (rs : List ℕ) → Barer hs (handed hs ps rs)
barer_handed hs [] rs q t c e = e
barer_handed hs (p ∷ ps) [] q t c e = e
barer_handed hs (p ∷ ps) (r ∷ rs) q t c e =
    barer_if p.lent hs r q t c (barer_handed (if p.lent then hs else used hs r) ps rs q t c e)

taken_step : (k : Known) (ns rs : List ℕ) (l : Known) → AreTaken k ns rs l → Step k l
taken_step k [] [] l h = step_same k l h
taken_step k [] (r ∷ rs) l h = absurd h
taken_step k (n ∷ ns) [] l h = absurd h
taken_step k (n ∷ ns) (r ∷ rs) l h =
    let m : Known = record k { held = slice_set k.held r H.Nothing; credits = h.0 } in
    step_on k m l
    (record { names = refl; grows = omega arith; fewer = taken_fewer k.credits n r h.0 h.1; barer = barer_set k.held r H.Nothing (λ u c x. absurd (cc)) })
    (taken_step m ns rs l h.2)

barer_received : (setting : Setting) (hs : List Held) (ts ds : List ℕ) → Barer hs (received setting hs ts ds)
barer_received setting hs [] ds q t c e = e
barer_received setting hs (u ∷ ts) [] q t c e = e
barer_received setting hs (u ∷ ts) (d ∷ ds) q t c e =
    barer_set hs d (given setting u) (given_not (is_scalar setting u) u) q t c (barer_received setting (slice_set hs d (given setting u)) ts ds q t c e)

pub call_step : (setting : Setting) (code : List Instr) (at : ℕ) (k : Known) (g : ℕ) (rs ds : List ℕ) (end : ℕ) (l : Known) → IsCall setting code at k g rs (Into ds) end l → Step k l
call_step setting code at k g rs ds end l h =
    let k1 : Known = record k { held = handed k.held h.instance.params rs } in
    step_on k k1 l (held_step k (handed k.held h.instance.params rs) (barer_handed k.held h.instance.params rs))
    (step_on k1 h.m l (taken_step k1 h.instance.credits h.credits h.m h.taken)
    (subst (Step h.m) (sym h.ends.known) (held_step h.m (received setting h.m.held h.instance.results ds) (barer_received setting h.m.held h.instance.results ds))))

-- values that are only named

pub values_step : (setting : Setting) (code : List Instr) (at : ℕ) (k : Known) (e : Expression) (rs : List ℕ) (end : ℕ) (l : Known) → ValuesAt setting code at k e rs end l → Step k l
values_step setting code at k (Give a) [] end l h = absurd h
values_step setting code at k (Give a) (r ∷ []) end l h = argument_step setting code at k a r end l h
values_step setting code at k (Give a) (r ∷ q ∷ rs) end l h = absurd h
values_step setting code at k (Tuple p as') rs end l h = arguments_step setting code at k as' rs end l h
values_step setting code at k (Operation o p a b) rs end l h = absurd h
values_step setting code at k (Call g n p as') rs end l h = absurd h
values_step setting code at k (Match ds t p a q b cs) rs end l h = absurd h
values_step setting code at k (Nested b) rs end l h = absurd h

pub values_fixed : (setting : Setting) (code : List Instr) (at : ℕ) (k : Known) (e : Expression) (rs : List ℕ) (end : ℕ) (l : Known) → Tidy k → ValuesAt setting code at k e rs end l → AllFixed l rs
values_fixed setting code at k (Give a) [] end l t h = absurd h
values_fixed setting code at k (Give a) (r ∷ []) end l t h = (argument_fixed setting code at k a r end l t h, tt)
values_fixed setting code at k (Give a) (r ∷ q ∷ rs) end l t h = absurd h
values_fixed setting code at k (Tuple p as') rs end l t h = arguments_fixed setting code at k as' rs end l t h
values_fixed setting code at k (Operation o p a b) rs end l t h = absurd h
values_fixed setting code at k (Call g n p as') rs end l t h = absurd h
values_fixed setting code at k (Match ds u p a q b cs) rs end l t h = absurd h
values_fixed setting code at k (Nested b) rs end l t h = absurd h

pub values_elsewhere : (setting : Setting) (code : List Instr) (at : ℕ) (k : Known) (e : Expression) (rs : List ℕ) (end : ℕ) (l : Known) (d : ℕ) → Unknown k d → ValuesAt setting code at k e rs end l → Among d rs → ⊥
values_elsewhere setting code at k (Give a) [] end l d u h m = absurd h
values_elsewhere setting code at k (Give a) (r ∷ []) end l d u h (inl e) = argument_elsewhere setting code at k a r end l d u h (sym e)
values_elsewhere setting code at k (Give a) (r ∷ []) end l d u h (inr m) = m
values_elsewhere setting code at k (Give a) (r ∷ q ∷ rs) end l d u h m = absurd h
values_elsewhere setting code at k (Tuple p as') rs end l d u h m = arguments_elsewhere setting code at k as' rs end l d u h m
values_elsewhere setting code at k (Operation o p a b) rs end l d u h m = absurd h
values_elsewhere setting code at k (Call g n p as') rs end l d u h m = absurd h
values_elsewhere setting code at k (Match ds t p a q b cs) rs end l d u h m = absurd h
values_elsewhere setting code at k (Nested b) rs end l d u h m = absurd h

-- registers of which nothing was known, where variables got others
pub unknown_named : (k : Known) (bs : List Binder) (rs : List ℕ) (d : ℕ) → Unknown k d → (Among d rs → ⊥) → Unknown (with_names k bs rs) d
unknown_named k bs rs d u ne = record {
  fixed = record { used = u.fixed.used; kept = u.fixed.kept };
  unnamed = λ x r h e. ⊎_elim (λ a. ne (subst (λ q. Among q rs) e a.1)) (λ a. u.unnamed x r a e) (all_named_from k.names bs rs x r h);
  no_bare = u.no_bare;
}

-- registers that are reserved

pub reserved_step : (k : Known) (bs : List Binder) → Step k (reserved k bs)
reserved_step k bs = record { names = refl; grows = omega arith; fewer = fewer_same k.credits; barer = λ r t c h. h }

pub reserved_from : (n : ℕ) (bs : List Binder) (r : ℕ) → Among r (registers_for n bs) → (n ≤ r) × (r < n + length bs)
reserved_from n [] r m = absurd m
reserved_from n (b ∷ bs) r (inl e) = (omega (arith, e), omega (arith, e))
reserved_from n (b ∷ bs) r (inr m) = let two = reserved_from (suc n) bs r m in (omega (arith, two.0), omega (arith, two.1))

reserved_one : (k : Known) (bs : List Binder) (r : ℕ) → Tidy k → (k.next ≤ r) × (r < k.next + length bs) → Unknown (reserved k bs) r
reserved_one k bs r t h = record {
  fixed = record { used = h.1; kept = below_not k.next r k.credits t.below h.0 };
  unnamed = λ x q n e. let lt = (t.named x q n).used in absurd (omega (arith, lt, h.0, e));
  no_bare = λ q u c n e. let lt = (t.bare q u c n).used in absurd (omega (arith, lt, h.0, e));
}

every_of : (P : ℕ → Type 0) (rs : List ℕ) → ((r : ℕ) → Among r rs → P r) → Every P rs
every_of P [] h = tt
every_of P (r ∷ rs) h = (h r (inl refl), every_of P rs (λ q m. h q (inr m)))

pub reserved_unknown : (k : Known) (bs : List Binder) → Tidy k → Every (Unknown (reserved k bs)) (registers_for k.next bs)
reserved_unknown k bs t = every_of (Unknown (reserved k bs)) (registers_for k.next bs) (λ r m. reserved_one k bs r t (reserved_from k.next bs r m))

pub reserved_fixed : (k : Known) (bs : List Binder) → Tidy k → AllFixed (reserved k bs) (registers_for k.next bs)
reserved_fixed k bs t = every_of (Fixed (reserved k bs)) (registers_for k.next bs) (λ r m. (reserved_one k bs r t (reserved_from k.next bs r m)).fixed)

pub reserved_elsewhere : (k : Known) (bs : List Binder) (d : ℕ) → Fixed k d → Among d (registers_for k.next bs) → ⊥
reserved_elsewhere k bs d f m = let two = reserved_from k.next bs d m in let lt = f.used in absurd (omega (arith, two.0, lt))

-- Expressions and blocks whose results go to registers: what is known stays tidy, and of registers of which nothing was
-- known nothing is known then.

pub record Keeps (k l : Known) : Type 0 where
  pub tidy : Tidy k → Tidy l
  pub unknown : (d : ℕ) → Unknown k d → Unknown l d

keeps_step : (k l : Known) → Step k l → Keeps k l
keeps_step k l s = record { tidy = tidy_on k l s; unknown = λ d. unknown_on k l d s }

keeps_on : (k l m : Known) → Keeps k l → Keeps l m → Keeps k m
keeps_on k l m p q = record { tidy = λ t. q.tidy (p.tidy t); unknown = λ d u. q.unknown d (p.unknown d u) }

tidy_named : (k : Known) (bs : List Binder) (rs : List ℕ) → AllFixed k rs → Tidy k → Tidy (with_names k bs rs)
tidy_named k bs rs fixed t = record {
  named = λ x r h. same (⊎_elim (λ a. among_is_fixed k rs r fixed a.1) (λ a. t.named x r a) (all_named_from k.names bs rs x r h));
  bare = λ r u c h. same (t.bare r u c h);
  once = t.once;
  below = t.below;
}
  where
    same : {q : ℕ} → Fixed k q → Fixed (with_names k bs rs) q
    same f = record { used = f.used; kept = f.kept }

-- where clauses meet
met_fixed : (k l : Known) (r : ℕ) → MeetsFirst k l → Fixed k r → Fixed l r
met_fixed k l r f h = record { used = let a = h.used in let b = f.grows in omega (arith, a, b); kept = f.credits.keeps r h.kept }

met_keeps : (k l : Known) → Meets k l → MeetsFirst k l → Keeps k l
met_keeps k l m f = record {
  tidy = λ t. record {
    named = λ x r h. met_fixed k l r f (t.named x r (m.names x r h));
    bare = λ r u c h. met_fixed k l r f (t.bare r u c (m.barer r u c h));
    once = f.credits.once t.once;
    below = f.credits.below l.next (below_more k.next l.next k.credits f.grows t.below);
  };
  unknown = λ d u. record {
    fixed = met_fixed k l d f u.fixed;
    unnamed = λ x r h. u.unnamed x r (m.names x r h);
    no_bare = λ r t c h. u.no_bare r t c (m.barer r t c h);
  };
}

pub all_fixed : (k l : Known) (rs : List ℕ) → ((d : ℕ) → Unknown k d → Unknown l d) → Every (Unknown k) rs → AllFixed l rs
all_fixed k l [] f h = tt
all_fixed k l (r ∷ rs) f h = ((f r h.0).fixed, all_fixed k l rs f h.1)

mutual
  pub expression_keeps : (setting : Setting) (code : List Instr) (at : ℕ) (k : Known) (e : Expression) (ds : List ℕ) (end : ℕ) (l : Known) → ExpressionAt setting code at k e (Into ds) end l → Keeps k l
  expression_keeps setting code at k (Give a) ds end l h =
      keeps_step k l (step_on k h.2 l (argument_step setting code at k a h.0 h.1 h.2 h.3) (moved_step code h.1 h.2 (h.0 ∷ []) ds end l h.4))
  expression_keeps setting code at k (Tuple p as') ds end l h =
      keeps_step k l (step_on k h.2 l (arguments_step setting code at k as' h.0 h.1 h.2 h.3) (moved_step code h.1 h.2 h.0 ds end l h.4))
  expression_keeps setting code at k (Operation o p a b) ds end l h =
      let o' = h.8 in
      keeps_step k l
      (step_on k h.2 l (argument_step setting code at k a h.0 h.1 h.2 h.6)
      (step_on h.2 h.5 l (argument_step setting code h.1 h.2 b h.3 h.4 h.5 h.7)
      (step_on h.5 o'.holds l (goes_step ds h.5 (result_type o) o'.destination o'.holds o'.goes) (moved_step code (suc h.4) o'.holds (o'.destination ∷ []) ds end l o'.given))))
  expression_keeps setting code at k (Call g n p as') ds end l h =
      keeps_step k l (step_on k h.2 l (arguments_step setting code at k as' h.0 h.1 h.2 h.3) (call_step setting code h.1 h.2 g h.0 ds end l h.4))
  expression_keeps setting code at k (Match x t p a q b cs) ds end l h =
      let c = h.9 in
      let s = argument_step setting code at k a h.0 h.1 h.2 h.6 in
      let inner = block_keeps setting code h.4.at h.4.known b ds c.0 c.1 c.3 in
      let met = met_keeps c.1 l c.4.meets (c.4.of_first refl) in
      record {
        tidy = λ t'. met.tidy (inner.tidy (c.2.tidy (argument_fixed setting code at k a h.0 h.1 h.2 t' h.6) (tidy_on k h.2 s t')));
        unknown = λ d u. met.unknown d (inner.unknown d (c.2.unknown d (unknown_on k h.2 d s u) (argument_elsewhere setting code at k a h.0 h.1 h.2 d u h.6)));
      }
  expression_keeps setting code at k (Nested b) ds end l h = block_keeps setting code at k b ds end l h

  pub block_keeps : (setting : Setting) (code : List Instr) (at : ℕ) (k : Known) (b : Block) (ds : List ℕ) (end : ℕ) (l : Known) → BlockAt setting code at k b (Into ds) end l → Keeps k l
  block_keeps setting code at k (Last e) ds end l h = expression_keeps setting code at k e ds end l h
  block_keeps setting code at k (Let bs e rest) ds end l (inl h) =
      let s = values_step setting code at k e h.0 h.1 h.2 h.3 in
      let after = block_keeps setting code h.1 (with_names h.2 bs h.0) rest ds end l h.4 in
      record {
        tidy = λ t. after.tidy (tidy_named h.2 bs h.0 (values_fixed setting code at k e h.0 h.1 h.2 t h.3) (tidy_on k h.2 s t));
        unknown = λ d u. after.unknown d (unknown_named h.2 bs h.0 d (unknown_on k h.2 d s u) (values_elsewhere setting code at k e h.0 h.1 h.2 d u h.3));
      }
  block_keeps setting code at k (Let bs e rest) ds end l (inr h) =
      let k0 = reserved k bs in
      let regs = registers_for k.next bs in
      let s0 = reserved_step k bs in
      let bound = expression_keeps setting code at k0 e regs h.0 h.1 h.2 in
      let after = block_keeps setting code h.0 (with_names h.1 bs regs) rest ds end l h.3 in
      record {
        tidy = λ t. after.tidy (tidy_named h.1 bs regs (all_fixed k0 h.1 regs bound.unknown (reserved_unknown k bs t)) (bound.tidy (tidy_on k k0 s0 t)));
        unknown = λ d u. after.unknown d (unknown_named h.1 bs regs d (bound.unknown d (unknown_on k k0 d s0 u)) (reserved_elsewhere k bs d u.fixed));
      }

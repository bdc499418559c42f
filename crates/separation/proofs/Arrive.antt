-- Where an instruction goes on to, there is an instruction, and what is known there holds.
use Rattle.std.proofs.Common.{◌≡◌, inl, inr, ℕ, suc, ◌<◌, true, false, List, length, Option, Some, None, refl, sym, ap, ◌∙◌, subst, true≢false, arith, nat_lt}
use Rattle.std.specs.Prelude.{is_some}
use Rattle.separation_kinds.specs.fip_language.Store.{Placed}
use Rattle.separation_kinds.specs.cell_code.declared.code.Instr.{Instr}
use Rattle.separation_kinds.specs.cell_code.declared.code.Instr.TheVariants as I
use Rattle.separation_kinds.specs.cell_code.declared.kind.Kind.{Kind}
use Rattle.separation_kinds.specs.machine_semantics.Cells.{Store}
use Rattle.separation_kinds.specs.machine_semantics.Apart.{Holding}
use Rattle.separation_kinds.specs.cell_code.Plain.{PlainFunction, PlainCode, function_at}
use Rattle.separation_kinds.specs.code_rules.Codes.{label_at}
use Rattle.separation_kinds.specs.code_rules.Kinds.{at}
use Rattle.separation_kinds.specs.code_rules.Ranges.{in_range, is_target}
use Rattle.separation_kinds.specs.code_rules.Leaves.{Leaves, Jumps}
use Rattle.separation_kinds.specs.code_rules.Flow.{IsInstr, Comes, KnownAt, GoesTo}
use Rattle.separation_kinds.specs.code_rules.Endings.{is_end}
use Rattle.separation_kinds.specs.code_rules.Breaks.{IsSound}
use Rattle.separation_kinds.specs.Meanings.{AreMeant, owned_by}
use Rattle.separation_kinds.proofs.Basics.{both, below, get_within}
use Rattle.separation_kinds.proofs.Fits.{fit_length, fitted_meant, count_fitted}
use Rattle.separation.proofs.ReadingRows.{get_some}
use Rattle.separation.proofs.Sound.{formed, not_last, fits_label, has_form, good_map}

no_end : (c : PlainCode) (ks : List Kind) (x : Instr) (left : List Kind) → Leaves c ks x left → is_end x ≡ false
no_end c ks (I.Const d v) left l = refl
no_end c ks (I.Atom d t k) left l = refl
no_end c ks (I.Move d r) left l = refl
no_end c ks (I.Arith d o x y line col) left l = refl
no_end c ks (I.Test r k target) left l = refl
no_end c ks (I.TestInt r v target) left l = refl
no_end c ks (I.Peek d r i) left l = refl
no_end c ks (I.Take r ds) left l = refl
no_end c ks (I.Put d t k rs) left l = refl
no_end c ks (I.Drop r) left l = refl
no_end c ks (I.Free r) left l = refl
no_end c ks (I.Call g rs ds) left l = refl
no_end c ks (I.Tail g rs) left l = absurd l
no_end c ks (I.Ret rs) left l = absurd l
no_end c ks (I.Jump target) left l = absurd l

jump_target : (c : PlainCode) (f : PlainFunction) (i j : ℕ) (ks : List Kind) (x : Instr) (left : List Kind) → in_range c f i x ≡ true → Jumps ks x j left → is_target f i j ≡ true
jump_target c f i j ks (I.Const d v) left e l = absurd l
jump_target c f i j ks (I.Atom d t k) left e l = absurd l
jump_target c f i j ks (I.Move d r) left e l = absurd l
jump_target c f i j ks (I.Arith d o x y line col) left e l = absurd l
jump_target c f i j ks (I.Test r k target) left e l = subst (λ t. is_target f i t ≡ true) (sym l.0) (both (nat_lt r f.registers) (is_target f i target) e).1
jump_target c f i j ks (I.TestInt r v target) left e l = subst (λ t. is_target f i t ≡ true) (sym l.0) (both (nat_lt r f.registers) (is_target f i target) e).1
jump_target c f i j ks (I.Peek d r n) left e l = absurd l
jump_target c f i j ks (I.Take r ds) left e l = absurd l
jump_target c f i j ks (I.Put d t k rs) left e l = absurd l
jump_target c f i j ks (I.Drop r) left e l = absurd l
jump_target c f i j ks (I.Free r) left e l = absurd l
jump_target c f i j ks (I.Call g rs ds) left e l = absurd l
jump_target c f i j ks (I.Tail g rs) left e l = absurd l
jump_target c f i j ks (I.Ret rs) left e l = absurd l
jump_target c f i j ks (I.Jump target) left e l = subst (λ t. is_target f i t ≡ true) (sym l.0) e

there_is : (c : PlainCode) (n i j : ℕ) (f : PlainFunction) (left : List Kind) → IsSound c → function_at c n ≡ Some f → GoesTo c f i j left → j < length f.instrs
there_is c n i j f left sound is g = elim g.goes as (λ v. j < length f.instrs) [
  | inl next ↦
      let here = get_within f.instrs i g.instr g.reached.instr in
      let j_is = next.0 in
      let more : suc i ≡ length f.instrs → ⊥ = not_last c n i f g.kinds g.instr sound is g.reached (no_end c g.kinds g.instr left next.1) in
      grind (arith, more)
  | inr jump ↦
      let a = both (in_range c f i g.instr) _ g.asked in
      let t = jump_target c f i j g.kinds g.instr left a.0 jump in
      let b = both (nat_lt i j) _ t in
      below j (length f.instrs) (both (nat_lt j (length f.instrs)) (is_some (label_at f.labels j)) b.1).0
]

-- without a label it comes from the instruction before
comes_from : (c : PlainCode) (i j : ℕ) (f : PlainFunction) (left : List Kind) → label_at f.labels j ≡ None → GoesTo c f i j left → (j ≡ suc i) × Comes c f (suc i) left
comes_from c i j f left none g = elim g.goes as (λ v. (j ≡ suc i) × Comes c f (suc i) left) [
  | inl next ↦ (next.0, (g.kinds, g.instr, g.reached.known, g.reached.instr, g.asked, next.1))
  | inr jump ↦
      let a = both (in_range c f i g.instr) _ g.asked in
      let t = jump_target c f i j g.kinds g.instr left a.0 jump in
      let b = both (nat_lt i j) _ t in
      let label = (both (nat_lt j (length f.instrs)) (is_some (label_at f.labels j)) b.1).1 in
      absurd (true≢false (sym label ∙ ap is_some none))
]

-- after an instruction
pub record Arrives (c : PlainCode) (f : PlainFunction) (s : Store) (b : List Placed) (j : ℕ) (left : List Kind) (ws : ℕ → ℕ) (hs : ℕ → Holding) : Type 0 where
  pub kinds : List Kind
  pub known : KnownAt c f j kinds
  pub instr : Instr
  pub is_instr : IsInstr f j instr
  pub wide : length kinds ≡ length left
  pub meant : AreMeant c.types s b (at kinds) ws hs
  pub count : (q : ℕ) → owned_by q (at kinds) hs (length kinds) ≡ owned_by q (at left) hs (length left)

pub arrive : (c : PlainCode) (n i j : ℕ) (f : PlainFunction) (s : Store) (b : List Placed) (left : List Kind) (ws : ℕ → ℕ) (hs : ℕ → Holding) → IsSound c → function_at c n ≡ Some f → GoesTo c f i j left → AreMeant c.types s b (at left) ws hs → Arrives c f s b j left ws hs
arrive c n i j f s b left ws hs sound is g m = by (label_at f.labels j) refl
  where
    by : (o : Option (List Kind)) → label_at f.labels j ≡ o → Arrives c f s b j left ws hs
    by None e =
        let from = comes_from c i j f left e g in
        let x = get_some f.instrs j (there_is c n i j f left sound is g) in
        record {
          kinds = left;
          known = rw e (subst (λ j. Comes c f j left) (sym from.0) from.1);
          instr = x.0;
          is_instr = x.1;
          wide = refl;
          meant = m;
          count = λ q. refl;
        }
    by (Some map) e =
        let fit = fits_label c n i j f left map sound is g e in
        let good = good_map c.types f 0 f.labels j map (has_form c f (formed c n f sound is)).maps e in
        let x = get_some f.instrs j (there_is c n i j f left sound is g) in
        record {
          kinds = map;
          known = rw e refl;
          instr = x.0;
          is_instr = x.1;
          wide = fit_length map left fit;
          meant = fitted_meant c.types s b map left ws hs fit good.good m;
          count = λ q. count_fitted q map left hs fit;
        }

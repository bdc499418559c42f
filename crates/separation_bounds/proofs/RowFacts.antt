-- What an instruction inside a frame does, whatever registers hold: it goes forward, and it releases nothing unless it
-- is a Drop or a Free.
use Rattle.std.proofs.Common.{◌≡◌, ℕ, ◌<◌, Bool, true, false, List, [], ◌∷◌, Option, Some, None, sym, ap, ◌∙◌, true≢false, arith, nat_lt, nat_eq}
use Rattle.std.specs.Prelude.{option_and_then, option_map}
use Rattle.std.proofs.lemmas.Option.{none-some, same_Some, option_and_then_some}
use Rattle.separation.specs.fip_language.Arithmetic.{Operated, Is, Fails}
use Rattle.separation.specs.fip_language.Store.{Cell}
use Rattle.separation.specs.cell_code.declared.code.Instr.{Instr}
use Rattle.separation.specs.cell_code.declared.code.Instr.TheVariants as I
use Rattle.separation.specs.cell_code.declared.kind.Kind.{Kind}
use Rattle.separation.specs.machine_semantics.Cells.{Store, Change, Write, Release, cell_at, size_of, written, changed, changed_by}
use Rattle.separation.specs.machine_semantics.States.{State}
use Rattle.separation.specs.machine_semantics.Rows as R
use Rattle.separation.specs.cell_code.Plain.{PlainFunction, PlainCode}
use Rattle.separation.specs.code_rules.Ranges.{in_range, is_target}
use Rattle.separation.specs.code_rules.Endings.{releases}
use Rattle.separation.proofs.separation_kinds.Basics.{pick, both, below}

-- no cell is released
abbrev pub AllWrites : List Change → Type 0
AllWrites [] = Unit {0}
AllWrites (Write p c ws ∷ cs) = AllWrites cs
AllWrites (Release p ∷ cs) = ⊥

write_keeps : (s t : Store) (p : ℕ) (new : Cell) (o : Option Cell) → written s p new o ≡ Some t → t.released ≡ s.released
write_keeps s t p new None e = absurd (none-some t e)
write_keeps s t p new (Some old) e = pick (λ o. o ≡ Some t → t.released ≡ s.released) (nat_eq (size_of old) (size_of new)) (Some _) None (λ b is. sym (ap (λ (u : Store). u.released) (same_Some _ t is))) (λ b is. absurd (none-some t is)) e

pub writes_keep : (cs : List Change) (s t : Store) → AllWrites cs → changed_by cs s ≡ Some t → t.released ≡ s.released
writes_keep [] s t w e = sym (ap (λ (u : Store). u.released) (same_Some s t e))
writes_keep (Release p ∷ cs) s t w e = absurd w
writes_keep (Write p c ws ∷ cs) s t w e = option_and_then_some (λ u. changed_by cs u) (changed (Write p c ws) s) t e (λ u first rest. writes_keep cs u t w rest ∙ write_keeps s u p (record { tag = c; fields = ws }) (cell_at s p) first)

-- what is done, where anything is
abbrev pub IsQuiet : Option R.Done → Type 0
IsQuiet None = Unit {0}
IsQuiet (Some d) = AllWrites d.changes

abbrev pub GoesForward : State → Option R.Done → Type 0
GoesForward s None = Unit {0}
GoesForward s (Some d) = s.running.at < d.at

quiet_on : (s : State) (o : Option (List ℕ)) → IsQuiet (R.on s o)
quiet_on s None = tt
quiet_on s (Some ws) = tt

forward_on : (s : State) (o : Option (List ℕ)) → GoesForward s (R.on s o)
forward_on s None = tt
forward_on s (Some ws) = omega arith

forward_with : (s : State) (o : Option (List Change)) → GoesForward s (R.on_with s o)
forward_with s None = tt
forward_with s (Some cs) = omega arith

quiet_calculated : (s : State) (d : ℕ) (o : Option Operated) → IsQuiet (R.calculated s d o)
quiet_calculated s d None = tt
quiet_calculated s d (Some (Is v)) = quiet_on s _
quiet_calculated s d (Some (Fails kind)) = tt

forward_calculated : (s : State) (d : ℕ) (o : Option Operated) → GoesForward s (R.calculated s d o)
forward_calculated s d None = tt
forward_calculated s d (Some (Is v)) = forward_on s _
forward_calculated s d (Some (Fails kind)) = tt

quiet_branch : (s : State) (target : ℕ) (o : Option Bool) → IsQuiet (R.branch s target o)
quiet_branch s target None = tt
quiet_branch s target (Some true) = tt
quiet_branch s target (Some false) = tt

forward_branch : (s : State) (target : ℕ) (o : Option Bool) → s.running.at < target → GoesForward s (R.branch s target o)
forward_branch s target None h = tt
forward_branch s target (Some true) h = omega arith
forward_branch s target (Some false) h = h

quiet_put : (s : State) (c : ℕ) (p : Option ℕ) (ws : Option (List ℕ)) → IsQuiet (R.on_with s (option_and_then (λ p. option_map (λ ws. Write p c ws ∷ []) ws) p))
quiet_put s c None ws = tt
quiet_put s c (Some p) None = tt
quiet_put s c (Some p) (Some ws) = tt

pub quiet : (c : PlainCode) (ks : List Kind) (s : State) (x : Instr) → releases c x ≡ false → IsQuiet (R.done c.types ks s x)
quiet c ks s (I.Const d v) e = quiet_on s _
quiet c ks s (I.Atom d t k) e = quiet_on s _
quiet c ks s (I.Move d r) e = quiet_on s _
quiet c ks s (I.Arith d o x y line col) e = quiet_calculated s d _
quiet c ks s (I.Test r k target) e = quiet_branch s target _
quiet c ks s (I.TestInt r v target) e = quiet_branch s target _
quiet c ks s (I.Peek d r i) e = quiet_on s _
quiet c ks s (I.Take r ds) e = quiet_on s _
quiet c ks s (I.Put d t k rs) e = quiet_put s k (R.place_in s d) (R.read_all s.running.words rs)
quiet c ks s (I.Drop r) e = absurd (true≢false e)
quiet c ks s (I.Free r) e = absurd (true≢false e)
quiet c ks s (I.Call g rs ds) e = tt
quiet c ks s (I.Tail g rs) e = tt
quiet c ks s (I.Ret rs) e = tt
quiet c ks s (I.Jump target) e = tt

target_above : (f : PlainFunction) (i t : ℕ) → is_target f i t ≡ true → i < t
target_above f i t e = below i t (both (nat_lt i t) _ e).0

pub forward : (c : PlainCode) (f : PlainFunction) (ks : List Kind) (s : State) (x : Instr) → in_range c f s.running.at x ≡ true → GoesForward s (R.done c.types ks s x)
forward c f ks s (I.Const d v) e = forward_on s _
forward c f ks s (I.Atom d t k) e = forward_on s _
forward c f ks s (I.Move d r) e = forward_on s _
forward c f ks s (I.Arith d o x y line col) e = forward_calculated s d _
forward c f ks s (I.Test r k target) e = forward_branch s target _ (target_above f s.running.at target (both (nat_lt r f.registers) _ e).1)
forward c f ks s (I.TestInt r v target) e = forward_branch s target _ (target_above f s.running.at target (both (nat_lt r f.registers) _ e).1)
forward c f ks s (I.Peek d r i) e = forward_on s _
forward c f ks s (I.Take r ds) e = forward_on s _
forward c f ks s (I.Put d t k rs) e = forward_with s _
forward c f ks s (I.Drop r) e = forward_with s _
forward c f ks s (I.Free r) e = forward_with s _
forward c f ks s (I.Call g rs ds) e = tt
forward c f ks s (I.Tail g rs) e = tt
forward c f ks s (I.Ret rs) e = tt
forward c f ks s (I.Jump target) e = target_above f s.running.at target e

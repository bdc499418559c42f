-- Label maps that are formed are in order, and report some constructor of each tree.
use Rattle.std.proofs.Common.{◌≡◌, ℕ, suc, true, ◌&&◌, not, List, [], ◌∷◌, length, refl, nat_lt, ◌==◌}
use Rattle.separation.specs.fip_language.Table.{Table}
use Rattle.separation.specs.cell_code.declared.kind.Kind.{Kind}
use Rattle.separation.specs.cell_code.declared.kind.Kind.TheVariants as K
use Rattle.separation.specs.cell_code.Plain.{LabelMap, PlainFunction}
use Rattle.separation.specs.code_rules.Headers.{are_rising, is_set, is_good_root, is_good_from, is_good_kind, are_good_kinds, are_good_maps}
use Rattle.separation.specs.code_rules.Types.{count}
use Rattle.separation.proofs.separation_kinds.Basics.{both, below}
use Rattle.lowering_relation.specs.Standing.{AreRising, is_open, are_open, AreOpen, MapsStand}
use Rattle.lowering_soundness.proofs.Giving.{and_to}

set_open : (w : Table) (t : ℕ) (s : List ℕ) → is_set w t s ≡ true → not (length s == 0) ≡ true
set_open w t s h = (both (not (length s == 0)) (are_rising (count w t) 0 s) h).0

kind_open : (w : Table) (ms : List Kind) (j : ℕ) (k : Kind) → is_good_kind w ms j k ≡ true → is_open k ≡ true
kind_open w ms j K.Gone h = refl
kind_open w ms j (K.Scalar t) h = refl
kind_open w ms j (K.Owned t s) h = set_open w t s h
kind_open w ms j (K.Lent t s root from) h = set_open w t s (both (is_set w t s) (is_good_root ms root && is_good_from w ms j root from) h).0
kind_open w ms j (K.Credit n) h = refl

kinds_open : (w : Table) (ms : List Kind) (j : ℕ) (ks : List Kind) → are_good_kinds w ms j ks ≡ true → are_open ks ≡ true
kinds_open w ms j [] h = refl
kinds_open w ms j (k ∷ ks) h =
    let x = both (is_good_kind w ms j k) (are_good_kinds w ms (suc j) ks) h in
    and_to (is_open k) (are_open ks) (kind_open w ms j k x.0) (kinds_open w ms (suc j) ks x.1)

maps_stand : (w : Table) (f : PlainFunction) (low : ℕ) (ms : List LabelMap) → are_good_maps w f low ms ≡ true → AreRising (length f.instrs) low ms × AreOpen ms
maps_stand w f low [] h = (tt, tt)
maps_stand w f low (m ∷ ms) h =
    let a = both (nat_lt low m.at) (nat_lt m.at (length f.instrs) && ((length m.kinds == f.registers) && (are_good_kinds w m.kinds 0 m.kinds && are_good_maps w f m.at ms))) h in
    let b = both (nat_lt m.at (length f.instrs)) ((length m.kinds == f.registers) && (are_good_kinds w m.kinds 0 m.kinds && are_good_maps w f m.at ms)) a.1 in
    let d = both (length m.kinds == f.registers) (are_good_kinds w m.kinds 0 m.kinds && are_good_maps w f m.at ms) b.1 in
    let e = both (are_good_kinds w m.kinds 0 m.kinds) (are_good_maps w f m.at ms) d.1 in
    let rest = maps_stand w f m.at ms e.1 in (
      (below low m.at a.0, below m.at (length f.instrs) b.0, rest.0),
      (kinds_open w m.kinds 0 m.kinds e.0, rest.1),
    )

pub formed_stand : (w : Table) (f : PlainFunction) → are_good_maps w f 0 f.labels ≡ true → MapsStand f
formed_stand w f h = let x = maps_stand w f 0 f.labels h in record { rising = x.0; opens = x.1 }

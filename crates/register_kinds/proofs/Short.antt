-- Two lists in step, of which the other ends first.
use Rattle.std.proofs.Common.{◌≡◌, ℕ, zero, suc, ◌<◌, ◌≤◌, List, [], ◌∷◌, None, drop, length, refl, arith}
use Rattle.std.specs.Prelude.{Bool, true}
use Rattle.kind_domain.specs.fip_language.Table.{Table}
use Rattle.kind_domain.specs.fip_base.declared.plain.Param.{Param}
use Rattle.kind_domain.specs.cell_code.declared.kind.Kind.{Kind}
use Rattle.kind_domain.specs.code_rules.Handing.{give_all, pass_all, hand_all, lend_all}
use Rattle.kind_domain.specs.code_rules.Leaves.{received}
use Rattle.kind_domain.specs.code_rules.Taking.{part_from}
use Rattle.kind_domain.proofs.fip_language.Facts.{drop_end as drop_past}
pub use Rattle.kind_domain.proofs.fip_language.Facts.{drop_of_none as drop_none}

more : {X : Type 0} (xs : List X) (i : ℕ) → i < length xs → (x : X) × (rest : List X) × (drop i xs ≡ x ∷ rest)
more [] i h = absurd (omega arith)
more (x ∷ xs) zero h = (x, xs, refl)
more (x ∷ xs) (suc i) h = more xs i (omega arith)

pub give_short : (ks : List Kind) (ss ts : List ℕ) (i j : ℕ) → i < length ss → length ts ≤ j →
    give_all ks (drop i ss) (drop j ts) ≡ None
give_short ks ss ts i j h e = let m = more ss i h in rw (m.2, drop_past ts j e) refl

pub pass_short : (w : Table) (ks : List Kind) (ss : List Param) (ts : List ℕ) (i j : ℕ) → i < length ss →
    length ts ≤ j → pass_all w ks (drop i ss) (drop j ts) ≡ None
pass_short w ks ss ts i j h e = let m = more ss i h in rw (m.2, drop_past ts j e) refl

pub hand_short : (ks : List Kind) (ss ts : List ℕ) (i j : ℕ) → i < length ss → length ts ≤ j →
    hand_all ks (drop i ss) (drop j ts) ≡ None
hand_short ks ss ts i j h e = let m = more ss i h in rw (m.2, drop_past ts j e) refl

pub lend_short : (w : Table) (tail : Bool) (ks : List Kind) (ss : List Param) (ts : List ℕ) (i j : ℕ) →
    i < length ss → length ts ≤ j → lend_all w tail ks (drop i ss) (drop j ts) ≡ true
lend_short w tail ks ss ts i j h e = let m = more ss i h in rw (m.2, drop_past ts j e) refl

pub received_short : (w : Table) (ks : List Kind) (ss ts : List ℕ) (i j : ℕ) → i < length ss → length ts ≤ j →
    received w ks (drop i ss) (drop j ts) ≡ ks
received_short w ks ss ts i j h e = let m = more ss i h in rw (m.2, drop_past ts j e) refl

pub part_short : (n : ℕ) (ss ts : List ℕ) (i j q : ℕ) → i < length ss → length ts ≤ j →
    part_from n (drop i ss) (drop j ts) q ≡ None
part_short n ss ts i j q h e = let m = more ss i h in rw (m.2, drop_past ts j e) refl

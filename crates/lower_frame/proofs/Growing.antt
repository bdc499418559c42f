-- Positions of a match that are added one after another.
use Rattle.std.proofs.Common.{◌≡◌, refl, sym, ap, ◌∙◌, subst, arith, ℕ, zero, suc, ◌≤◌, List, [], ◌∷◌, ◌++◌, length, take, Some, slice_get, slice_set}
use Rattle.fip_trees.specs.declared.program.Pattern.{Pattern as Tree}
use Rattle.std.specs.declared.vec.Vec.{Vec}
use Rattle.std.specs.declared.alloc.Global.{Global}
use Rattle.cell_code.specs.fip_language.declared.Place.{Place}
use Rattle.fip_trees.specs.declared.program.Pattern.TheVariants as PV
use Rattle.fip_trees.specs.Tree.{Name, Pattern}
use Rattle.fip_trees.specs.TreeView.{pattern, patterns}
use Rattle.fip_trees.proofs.TreeViews.{pattern_constructor}
use Rattle.lowering_relation.specs.Known.{Known, with_used}
use Rattle.lowering_relation.specs.Spots as S
use Rattle.lowering_relation.specs.Opening.{Roomy, AllRoomy}
use Rattle.lowering_relation.specs.Growing.{Grows, AllGrow}
use Rattle.lowering_relation.proofs.Growths.{grow_none, grow_on, with_spot, grow_spot, grow_first, grow_later, grow_fields}
use Rattle.lower_frame.specs.declared.spots.Spot.{Spot, out-Spot, roll-Spot}
use Rattle.lower_frame.specs.declared.spots.Spot.TheFolds.{fold_out-Spot, fold-roll-Spot}
use Rattle.lower_frame.specs.Registers.{HasRoom, registers}
use Rattle.lower_frame.specs.Positions.{spot_of, spot_step, spots_of, RoomyAt, reaching}
use Rattle.fip_base.proofs.fip_language.Facts.{same_some}

pushed : (ss : List Spot) (s : Spot) (r : ℕ) → spot_of s ≡ S.At r S.NoSpots → spots_of (ss ++ s ∷ []) ≡ with_spot (spots_of ss) r
pushed [] s r e = ap (λ x. S.MoreSpots x S.NoSpots) e
pushed (t ∷ ss) s r e = ap (λ x. S.MoreSpots (spot_of t) x) (pushed ss s r e)

-- a position more, with the next register
pub field_added : (ss ts : List Spot) (s : Spot) (r a b : ℕ) → ts ≡ ss ++ s ∷ [] → spot_of s ≡ S.At r S.NoSpots → r ≡ a → b ≡ suc a → AllGrow (spots_of ss) (spots_of ts) a b
field_added ss ts s r a b e f g h =
    subst (λ x. AllGrow (spots_of ss) (spots_of x) a b) (sym e) (subst (λ x. AllGrow (spots_of ss) x a b) (sym (pushed ss s r f))
    (subst (λ x. AllGrow (spots_of ss) (with_spot (spots_of ss) r) x b) g (subst (λ x. AllGrow (spots_of ss) (with_spot (spots_of ss) r) r x) (sym (h ∙ ap suc (sym g))) (grow_spot (spots_of ss) r))))

pub grown_none : (ss : List Spot) (n : ℕ) → AllGrow (spots_of ss) (spots_of ss) n n
grown_none ss n = grow_none (spots_of ss) n

pub grown_on : (ss ts us : List Spot) (a b c : ℕ) → AllGrow (spots_of ss) (spots_of ts) a b → AllGrow (spots_of ts) (spots_of us) b c → AllGrow (spots_of ss) (spots_of us) a c
grown_on ss ts us a b c p q = grow_on (spots_of ss) (spots_of ts) (spots_of us) a b c p q

pub reached_on : (k l m : Known) → l ≡ reaching k l.next → m ≡ reaching l m.next → m ≡ reaching k m.next
reached_on k l m e f = f ∙ ap (λ x. reaching x m.next) e

pub reached_used : (k l : Known) → l ≡ with_used k → l ≡ reaching k l.next
reached_used k l e = e ∙ ap (λ x. reaching k x.next) (sym e)

pub reached_same : (k : Known) → k ≡ reaching k k.next
reached_same k = refl

-- as many as the function has
pub room_on : (k l m : Known) → l ≡ reaching k l.next → HasRoom k l → HasRoom l m → HasRoom k m
room_on k l m e a b = let n : registers l ≡ registers k = ap registers e in omega (arith, n, a, b)

pub room_same : (k l : Known) → l.next ≡ k.next → HasRoom k l
room_same k l e = omega (arith, e)

-- one that grows among others
pub grown_at : (ss : List Spot) (n : ℕ) (s t : Spot) (a b : ℕ) → slice_get ss n ≡ Some s → Grows (spot_of s) (spot_of t) a b → AllGrow (spots_of ss) (spots_of (slice_set ss n t)) a b
grown_at [] n s t a b e g = absurd (cc)
grown_at (u ∷ ss) zero s t a b e g = grow_first (spot_of u) (spot_of t) (spots_of ss) a b (subst (λ x. Grows (spot_of x) (spot_of t) a b) (sym (same_some u s e)) g)
grown_at (u ∷ ss) (suc n) s t a b e g = grow_later (spot_of u) (spots_of ss) (spots_of (slice_set ss n t)) a b (grown_at ss n s t a b e g)

pub roomy_set : (ss : List Spot) (n : ℕ) (s t : Spot) (q : Pattern) → slice_get ss n ≡ Some s → Roomy q (spot_of t) → RoomyAt q n (spots_of (slice_set ss n t))
roomy_set [] n s t q e h = absurd (cc)
roomy_set (u ∷ ss) zero s t q e h = h
roomy_set (u ∷ ss) (suc n) s t q e h = roomy_set ss n s t q e h

-- the patterns up to a place
roomy_more : (ps : List Tree) (n : ℕ) (p : Tree) (ss : S.Spots) → slice_get ps n ≡ Some p → AllRoomy (patterns (take n ps)) ss → RoomyAt (pattern p) n ss → AllRoomy (patterns (take (suc n) ps)) ss
roomy_more [] n p ss e h r = absurd (cc)
roomy_more (q ∷ ps) n p S.NoSpots e h r = absurd r
roomy_more (q ∷ ps) zero p (S.MoreSpots s ss) e h r = (subst (λ x. Roomy (pattern x) s) (sym (same_some q p e)) r, tt)
roomy_more (q ∷ ps) (suc n) p (S.MoreSpots s ss) e h r = (h.0, roomy_more ps n p ss e h.1 r)

pub roomy_on : (ps : List Tree) (n m : ℕ) (p : Tree) (ss ts : List Spot) (a b : ℕ) → m ≡ suc n → slice_get ps n ≡ Some p → AllGrow (spots_of ss) (spots_of ts) a b → AllRoomy (patterns (take n ps)) (spots_of ss) → RoomyAt (pattern p) n (spots_of ts) → AllRoomy (patterns (take m ps)) (spots_of ts)
roomy_on ps n m p ss ts a b e f g h r = subst (λ x. AllRoomy (patterns (take x ps)) (spots_of ts)) (sym e) (roomy_more ps n p (spots_of ts) f (g.roomy (patterns (take n ps)) h) r)

all_taken : (ps : List Tree) (n : ℕ) → length ps ≤ n → take n ps ≡ ps
all_taken [] zero h = refl
all_taken [] (suc n) h = refl
all_taken (p ∷ ps) zero h = absurd (omega (arith, h))
all_taken (p ∷ ps) (suc n) h = ap (λ x. p ∷ x) (all_taken ps n (omega (arith, h)))

pub roomy_all : (ps : List Tree) (n : ℕ) (ss : S.Spots) → length ps ≤ n → AllRoomy (patterns (take n ps)) ss → AllRoomy (patterns ps) ss
roomy_all ps n ss e h = subst (λ x. AllRoomy (patterns x) ss) (all_taken ps n e) h

-- a position whose fields grow

rolled : (r : ℕ) (fs : Vec Spot Global) → spot_of (roll-Spot record { register = r; fields = fs }) ≡ S.At r (spots_of fs.items)
rolled r fs = fold-roll-Spot S.Spot spot_step record { register = r; fields = fs }

pub spot_grown : (s : Spot) (fs : Vec Spot Global) (a b : ℕ) → AllGrow (spots_of (out-Spot s).fields.items) (spots_of fs.items) a b → Grows (spot_of s) (spot_of (roll-Spot record { register = (out-Spot s).register; fields = fs })) a b
spot_grown s fs a b h =
    subst (λ x. Grows x (spot_of (roll-Spot record { register = (out-Spot s).register; fields = fs })) a b) (sym (fold_out-Spot S.Spot spot_step s))
    (subst (λ x. Grows (S.At (out-Spot s).register (spots_of (out-Spot s).fields.items)) x a b) (sym (rolled (out-Spot s).register fs)) (grow_fields (out-Spot s).register (spots_of (out-Spot s).fields.items) (spots_of fs.items) a b h))

pub spot_roomy : (t d c : ℕ) (n : Name) (p : Place) (ps : Vec Tree Global) (r : ℕ) (fs : Vec Spot Global) → AllRoomy (patterns ps.items) (spots_of fs.items) → Roomy (pattern (PV.Constructor t d c n p ps)) (spot_of (roll-Spot record { register = r; fields = fs }))
spot_roomy t d c n p ps r fs h = subst (λ x. Roomy x (spot_of (roll-Spot record { register = r; fields = fs }))) (sym (pattern_constructor t d c n p ps)) (subst (Roomy (Rattle.fip_trees.specs.Tree.ConstructorPattern t d c n p (patterns ps.items))) (sym (rolled r fs)) h)

pub ruleset growing = (field_added, grown_none, grown_on, reached_on, reached_used, reached_same, room_on)

-- It serves the proof that lowered code is sound: what is reported of the registers of a match while its clause is chosen.
-- A position whose value was read has the kind of its field, with the constructors that it may still have; one that
-- wasn't is Gone. Other registers have the kinds that are reported before the match.
-- In match xs { Cons(x, Cons(y, t)) -> .. } with xs owned in register 0, where the test of the first Cons holds and its
-- fields are in 1 and 2: 0 is Owned 2 (1 ∷ []), and where the second position was read 2 is
-- Lent 2 (0 ∷ 1 ∷ []) (Some 0) with a from of register 0 and field 1.
use Rattle.std.specs.Prelude.{◌≡◌, ◌⊎◌, ℕ, suc, Bool, true, false, not, List, [], ◌∷◌, Option, Some, None}
use Rattle.std.specs.Prelude.{if◌then◌else◌}
use Rattle.tree_semantics.specs.fip_language.Table.{Table}
use Rattle.tree_semantics.specs.fip_language.Every.{Among}
use Rattle.code_rules.specs.cell_code.declared.kind.Kind.{Kind}
use Rattle.code_rules.specs.cell_code.declared.kind.Kind.TheVariants as K
use Rattle.code_rules.specs.Types.{all, fields, is_scalar_type}
use Rattle.match_knowledge.specs.declared.heads.Head.{Head}
use Rattle.match_knowledge.specs.declared.heads.Head.TheVariants.{Number, Tag}
use Rattle.match_knowledge.specs.ValueHeads.{same_head}
use Rattle.match_knowledge.specs.Known.{Known, Open, Is, Knowns, NoKnowns, MoreKnowns, is_in}
use Rattle.lowering_relation.specs.Spots.{Spot, At, Spots, NoSpots, MoreSpots, register, below, all_in}
use Rattle.lowering_relation.specs.Reading.{contains}
use Rattle.lowering_relation.specs.Entering.{root_of}
use Rattle.lowering_relation.specs.declared.held.Held.{Held}
use Rattle.lowering_relation.specs.declared.held.Held.TheVariants as H
use Rattle.lowering_relation.specs.Describing.{Holding, kind_of}

-- the numbers of a list for which something holds
abbrev pub kept : (ℕ → Bool) → List ℕ → List ℕ
kept p [] = []
kept p (x ∷ xs) = if p x then x ∷ kept p xs else kept p xs

abbrev pub not_in : List Head → ℕ → Bool
not_in out n = not (is_in (Tag n) out)

abbrev pub is_tag : Head → ℕ → Bool
is_tag h n = same_head h (Tag n)

-- the constructors that a value of type t may have, of which this is known
abbrev pub left : Table → ℕ → Known → List ℕ
left w t (Open out) = kept (not_in out) (all w t)
left w t (Is h ks) = kept (is_tag h) (all w t)

-- the kind of a position that was read as field i of the cell in register r
abbrev pub part_kind : Table → Option ℕ → ℕ → Known → ℕ → ℕ → Kind
part_kind w root t k r i =
    if is_scalar_type w t then K.Scalar t
    else K.Lent t (left w t k) root (Some (record { register = r; field = i }))

-- these positions weren't read
abbrev pub Unread : List ℕ → List ℕ → (ℕ → Kind) → Type 0
Unread zs read m = (z : ℕ) → Among z zs → (contains z read ≡ false) × (m z ≡ K.Gone)

-- nothing was found out by a test
abbrev mutual
  pub Fresh : Table → ℕ → Known → Type 0
  Fresh w t (Open out) = left w t (Open out) ≡ all w t
  Fresh w t (Is (Number i) ks) = ⊥
  Fresh w t (Is (Tag c) ks) = (left w t (Is (Tag c) ks) ≡ all w t) × AllFresh w (fields w t c) ks

  pub AllFresh : Table → List ℕ → Knowns → Type 0
  AllFresh w [] ks = Unit {0}
  AllFresh w (t ∷ ts) NoKnowns = ⊥
  AllFresh w (t ∷ ts) (MoreKnowns k ks) = Fresh w t k × AllFresh w ts ks

-- the positions below that of a value of type t, whose tree lies in that of a root
abbrev mutual
  pub Below : Table → Option ℕ → ℕ → Known → Spot → List ℕ → (ℕ → Kind) → Type 0
  Below w root t (Open out) (At r fs) read m = Unread (all_in fs) read m
  Below w root t (Is (Number i) ks) (At r fs) read m = Unread (all_in fs) read m
  Below w root t (Is (Tag c) ks) (At r fs) read m = AllBelow w root (fields w t c) ks fs r 0 read m

  pub AllBelow : Table → Option ℕ → List ℕ → Knowns → Spots → ℕ → ℕ → List ℕ → (ℕ → Kind) → Type 0
  AllBelow w root ts ks NoSpots r i read m = Unit {0}
  AllBelow w root [] ks (MoreSpots s ss) r i read m = Unread (all_in (MoreSpots s ss)) read m
  AllBelow w root (t ∷ ts) NoKnowns (MoreSpots s ss) r i read m = ⊥
  AllBelow w root (t ∷ ts) (MoreKnowns k ks) (MoreSpots s ss) r i read m =
      (((contains (register s) read ≡ true) × (m (register s) ≡ part_kind w root t k r i)
      × Below w root t k s read m)
      ⊎ ((contains (register s) read ≡ false) × (m (register s) ≡ K.Gone) × Unread (below s) read m × Fresh w t k))
      × AllBelow w root ts ks ss r (suc i) read m

-- the scrutinee's own register, which held this before the match
abbrev pub seen_kind : Table → ℕ → Held → Known → Kind
seen_kind w t H.Nothing k = K.Gone
seen_kind w t (H.Scalar u) k = K.Scalar u
seen_kind w t (H.Owned u b) k = K.Owned t (left w t k)
seen_kind w t (H.Lent u root) k = K.Lent t (left w t k) root None
seen_kind w t (H.Credit n) k = K.Credit n
seen_kind w t (H.Bare u c) k = K.Owned u (c ∷ [])

-- all registers: of the scrutinee of type t, in the register of the first position, this is known
pub record Sight (w : Table) (g : Holding) (t : ℕ) (s : Spot) (k : Known) (read : List ℕ) (m : ℕ → Kind) : Type 0 where
  pub root : m (register s) ≡ seen_kind w t (g (register s)) k
  pub parts : Below w (root_of (register s) (g (register s))) t k s read m
  pub others : (q : ℕ) → (q ≡ register s → ⊥) → (Among q (below s) → ⊥) → m q ≡ kind_of w (g q)

-- What is reported of positions stays so where their registers aren't written, and where nothing was found out.
use Rattle.std.proofs.Common.{◌≡◌, ◌⊎◌, inl, inr, ℕ, suc, Bool, true, false, List, [], ◌∷◌, ◌++◌, Option, Some, None, refl, sym, ap, ◌∙◌, true≢false, if◌then◌else◌, ◌==◌}
use Rattle.separation.specs.fip_language.Table.{Table}
use Rattle.separation.specs.fip_language.Every.{Among}
use Rattle.separation.specs.cell_code.declared.kind.From.{From}
use Rattle.separation.specs.cell_code.declared.kind.Kind.{Kind}
use Rattle.separation.specs.cell_code.declared.kind.Kind.TheVariants as K
use Rattle.separation.specs.code_rules.Types.{all, fields}
use Rattle.separation.specs.code_rules.Kinds.{from_of}
use Rattle.separation.specs.code_rules.Changes.{forget}
use Rattle.separation.proofs.separation_kinds.Basics.{chosen, refused, or_not, itself, unequal_is}
use Rattle.lowering_relation.specs.match_knowledge.declared.heads.Head.TheVariants.{Number, Tag}
use Rattle.lowering_relation.specs.match_knowledge.Known.{Known, Open, Is, Knowns, NoKnowns, MoreKnowns}
use Rattle.lowering_relation.specs.Spots.{Spot, At, Spots, NoSpots, MoreSpots, register, below, all_in}
use Rattle.lowering_relation.specs.Reading.{contains}
use Rattle.lowering_relation.proofs.MatchLists.{in_head, in_tail, in_part}
use Rattle.lowering_relation.specs.Sights.{left, part_kind, Unread, Fresh, AllFresh, Below, AllBelow}

-- ---- registers that were read

pub contains_new : (d : ℕ) (read : List ℕ) → contains d (read ++ d ∷ []) ≡ true
contains_new d [] = chosen (d == d) true false (itself d)
contains_new d (r ∷ rs) = elim (or_not (d == r)) as (λ v. contains d ((r ∷ rs) ++ d ∷ []) ≡ true) [
  | inl e ↦ chosen (d == r) true (contains d (rs ++ d ∷ [])) e
  | inr e ↦ refused (d == r) true (contains d (rs ++ d ∷ [])) e ∙ contains_new d rs
]

pub contains_other : (z d : ℕ) (read : List ℕ) → (z ≡ d → ⊥) → contains z (read ++ d ∷ []) ≡ contains z read
contains_other z d [] ne = refused (z == d) true false (unequal_is z d ne)
contains_other z d (r ∷ rs) ne = ap (λ b. if z == r then true else b) (contains_other z d rs ne)

-- ---- one position

abbrev pub OnePart : Table → Option ℕ → ℕ → Known → Spot → ℕ → ℕ → List ℕ → (ℕ → Kind) → Type 0
OnePart w root t k s r i read m =
    ((contains (register s) read ≡ true) × (m (register s) ≡ part_kind w root t k r i) × Below w root t k s read m)
    ⊎ ((contains (register s) read ≡ false) × (m (register s) ≡ K.Gone) × Unread (below s) read m × Fresh w t k)

-- the same is reported, and was read
abbrev pub SameOn : List ℕ → List ℕ → List ℕ → (ℕ → Kind) → (ℕ → Kind) → Type 0
SameOn zs read more m l = (z : ℕ) → Among z zs → (contains z more ≡ contains z read) × (l z ≡ m z)

pub unread_on : (zs read more : List ℕ) (m l : ℕ → Kind) → Unread zs read m → SameOn zs read more m l → Unread zs more l
unread_on zs read more m l u same z a = ((same z a).0 ∙ (u z a).0, (same z a).1 ∙ (u z a).1)

-- one position, by what is reported below it
part_by : (w : Table) (root : Option ℕ) (t : ℕ) (k : Known) (s : Spot) (r i : ℕ) (read more : List ℕ) (m l : ℕ → Kind) → OnePart w root t k s r i read m → SameOn (register s ∷ below s) read more m l → (Below w root t k s read m → Below w root t k s more l) → OnePart w root t k s r i more l
part_by w root t k s r i read more m l (inl h) same deep =
    let here = same (register s) (inl refl) in
    inl (here.0 ∙ h.0, here.1 ∙ h.1, deep h.2)
part_by w root t k s r i read more m l (inr h) same deep =
    let here = same (register s) (inl refl) in
    inr (here.0 ∙ h.0, here.1 ∙ h.1, unread_on (below s) read more m l h.2 (λ z a. same z (inr a)), h.3)

mutual
  pub below_on : (w : Table) (root : Option ℕ) (t : ℕ) (k : Known) (s : Spot) (read more : List ℕ) (m l : ℕ → Kind) → Below w root t k s read m → SameOn (below s) read more m l → Below w root t k s more l
  below_on w root t (Open out) (At r fs) read more m l b same = unread_on (all_in fs) read more m l b same
  below_on w root t (Is (Number i) ks) (At r fs) read more m l b same = unread_on (all_in fs) read more m l b same
  below_on w root t (Is (Tag n) ks) (At r fs) read more m l b same = all_below_on w root (fields w t n) ks fs r 0 read more m l b same

  pub all_below_on : (w : Table) (root : Option ℕ) (ts : List ℕ) (ks : Knowns) (ss : Spots) (r i : ℕ) (read more : List ℕ) (m l : ℕ → Kind) → AllBelow w root ts ks ss r i read m → SameOn (all_in ss) read more m l → AllBelow w root ts ks ss r i more l
  all_below_on w root ts ks NoSpots r i read more m l b same = tt
  all_below_on w root [] ks (MoreSpots s ss) r i read more m l b same = unread_on (all_in (MoreSpots s ss)) read more m l b same
  all_below_on w root (t ∷ ts) NoKnowns (MoreSpots s ss) r i read more m l b same = absurd b
  all_below_on w root (t ∷ ts) (MoreKnowns k ks) (MoreSpots s ss) r i read more m l b same = (
    part_by w root t k s r i read more m l b.0 (λ z a. same z (in_part z s ss a)) (λ d. below_on w root t k s read more m l d (λ z a. same z (in_head z s ss a))),
    all_below_on w root ts ks ss r (suc i) read more m l b.1 (λ z a. same z (in_tail z s ss a)),
  )

pub part_on : (w : Table) (root : Option ℕ) (t : ℕ) (k : Known) (s : Spot) (r i : ℕ) (read more : List ℕ) (m l : ℕ → Kind) → OnePart w root t k s r i read m → SameOn (register s ∷ below s) read more m l → OnePart w root t k s r i more l
part_on w root t k s r i read more m l h same = part_by w root t k s r i read more m l h same (λ d. below_on w root t k s read more m l d (λ z a. same z (inr a)))

-- ---- nothing was found out

pub fresh_left : (w : Table) (t : ℕ) (k : Known) → Fresh w t k → left w t k ≡ all w t
fresh_left w t (Open out) h = h
fresh_left w t (Is (Number i) ks) h = absurd h
fresh_left w t (Is (Tag n) ks) h = h.0

mutual
  pub fresh_below : (w : Table) (root : Option ℕ) (t : ℕ) (k : Known) (s : Spot) (read : List ℕ) (m : ℕ → Kind) → Fresh w t k → Unread (below s) read m → Below w root t k s read m
  fresh_below w root t (Open out) (At r fs) read m h u = u
  fresh_below w root t (Is (Number i) ks) (At r fs) read m h u = u
  fresh_below w root t (Is (Tag n) ks) (At r fs) read m h u = all_fresh_below w root (fields w t n) ks fs r 0 read m h.1 u

  pub all_fresh_below : (w : Table) (root : Option ℕ) (ts : List ℕ) (ks : Knowns) (ss : Spots) (r i : ℕ) (read : List ℕ) (m : ℕ → Kind) → AllFresh w ts ks → Unread (all_in ss) read m → AllBelow w root ts ks ss r i read m
  all_fresh_below w root ts ks NoSpots r i read m h u = tt
  all_fresh_below w root [] ks (MoreSpots s ss) r i read m h u = u
  all_fresh_below w root (t ∷ ts) NoKnowns (MoreSpots s ss) r i read m h u = absurd h
  all_fresh_below w root (t ∷ ts) (MoreKnowns k ks) (MoreSpots s ss) r i read m h u = (
    inr ((u (register s) (inl refl)).0, (u (register s) (inl refl)).1, (λ z a. u z (in_head z s ss a)), h.0),
    all_fresh_below w root ts ks ss r (suc i) read m h.1 (λ z a. u z (in_tail z s ss a)),
  )

-- ---- froms

-- a from names the register of a match's scrutinee, or one that was read
pub record Froms (r0 : ℕ) (read : List ℕ) (m : ℕ → Kind) : Type 0 where
  pub each : (q : ℕ) (g : From) → from_of (m q) ≡ Some g → (g.register ≡ r0) ⊎ (contains g.register read ≡ true)

pub forget_same : (p : ℕ → Bool) (k : Kind) → ((g : From) → from_of k ≡ Some g → p g.register ≡ false) → forget p k ≡ k
forget_same p K.Gone h = refl
forget_same p (K.Scalar t) h = refl
forget_same p (K.Owned t s) h = refl
forget_same p (K.Lent t s root None) h = refl
forget_same p (K.Lent t s root (Some g)) h = ap (K.Lent t s root) (refused (p g.register) None (Some g) (h g refl))
forget_same p (K.Credit n) h = refl

-- a register that wasn't read is named by none
pub unnamed : (r0 d : ℕ) (read : List ℕ) (m : ℕ → Kind) (q : ℕ) (g : From) → Froms r0 read m → contains d read ≡ false → (d ≡ r0 → ⊥) → from_of (m q) ≡ Some g → (g.register == d) ≡ false
unnamed r0 d read m q g froms none other e = unequal_is g.register d (λ same. by same (froms.each q g e))
  where
    by : g.register ≡ d → (g.register ≡ r0) ⊎ (contains g.register read ≡ true) → ⊥
    by same (inl a) = other (sym same ∙ a)
    by same (inr a) = true≢false (sym a ∙ (ap (λ z. contains z read) same ∙ none))

-- Tests from one place up to a jump, or up to a clause's body: each instruction keeps the rules.
use Rattle.std.proofs.Common.{◌≡◌, ◌⊎◌, inl, inr, ℕ, zero, suc, ◌<◌, ◌≤◌, Bool, true, false, List, [], ◌∷◌, slice_get, length, Option, Some, None, refl, sym, ap, ◌∙◌, subst, arith, if◌then◌else◌, ◌==◌}
use Rattle.std.proofs.lemmas.Option.{none-some, same_Some}
use Rattle.separation.specs.fip_language.Table.{Table}
use Rattle.separation.specs.fip_language.Every.{Among}
use Rattle.separation.specs.cell_code.declared.code.Instr.TheVariants as I
use Rattle.separation.specs.cell_code.declared.kind.From.{From}
use Rattle.separation.specs.cell_code.declared.kind.Kind.{Kind}
use Rattle.separation.specs.cell_code.declared.kind.Kind.TheVariants as K
use Rattle.lowering_relation.specs.fip_trees.Tree.{Pattern}
use Rattle.separation.specs.cell_code.Plain.{PlainFunction, PlainCode}
use Rattle.separation.specs.code_rules.Types.{fields, is_scalar_type}
use Rattle.separation.specs.code_rules.Kinds.{has, from_of}
use Rattle.separation.proofs.separation_kinds.Basics.{or_not, equal, unequal, less_or_not}
use Rattle.lowering_relation.specs.match_knowledge.declared.heads.Head.TheVariants.{Number, Tag}
use Rattle.lowering_relation.specs.match_knowledge.Known as M
use Rattle.lowering_relation.specs.match_knowledge.Known.{Open, Is, Knowns, NoKnowns, MoreKnowns}
use Rattle.lowering_relation.specs.Spots.{Spot, At, Spots, NoSpots, MoreSpots, register, below, all_in}
use Rattle.lowering_relation.specs.Entering.{root_of}
use Rattle.lowering_relation.proofs.MatchLists.{among_either}
use Rattle.lowering_relation.specs.declared.held.Held.{Held}
use Rattle.lowering_relation.specs.declared.held.Held.TheVariants as H
use Rattle.lowering_relation.specs.Known.{Known}
use Rattle.lowering_relation.specs.Values.{Setting}
use Rattle.lowering_relation.specs.Describing.{Holding, held_at, kind_of}
use Rattle.lowering_soundness.specs.Parts.{Arrives, Admits, IsKept, AreKept, Part, LastPart}
use Rattle.lowering_relation.specs.Labels.{Takes, Catches, Quiet, reported}
use Rattle.lowering_relation.specs.Sights.{left, part_kind, Below, AllBelow, seen_kind, Sight}
use Rattle.lowering_relation.specs.Tests.{Choice, BeginsBody, ChunkLaid, SidesLaid}
use Rattle.lowering_relation.proofs.Growing.{tests_end}
use Rattle.lowering_relation.specs.Matches.{widened, wide_at, entered, EntryLaid}
use Rattle.lowering_soundness.proofs.Fitting.{takes_less}
use Rattle.lowering_soundness.proofs.Parts.{part_and_last, both_parts}
use Rattle.lowering_soundness.proofs.Branches.{jump_last, catch_part, came_quiet}
use Rattle.lowering_soundness.proofs.Positions.{OnePart}
use Rattle.lowering_soundness.proofs.Peeking.{Seen}
use Rattle.lowering_soundness.proofs.Heirs.{has_among, not_among, from_at}
use Rattle.lowering_soundness.proofs.Choosing.{Right, Looks, BodiesTake, Ran, run_at_once, run}
use Rattle.lowering_soundness.proofs.Settling.{Based, settle}
use Rattle.lowering_soundness.proofs.Settling.{no_from as kind_from}

-- ---- froms name positions that were read

part_from : (w : Table) (root : Option ℕ) (t : ℕ) (k : M.Known) (x i : ℕ) (own : Kind) (g : From) → own ≡ part_kind w root t k x i → from_of own ≡ Some g → g.register ≡ x
part_from w root t k x i own g is e = by (is_scalar_type w t) (sym (ap from_of is) ∙ e)
  where
    by : (b : Bool) → from_of (if b then K.Scalar t else K.Lent t (left w t k) root (Some (from_at x i))) ≡ Some g → g.register ≡ x
    by true h = absurd (cc)
    by false h = ap (λ (g : From). g.register) (sym (same_Some (from_at x i) g h))

gone_from : (own : Kind) (g : From) → own ≡ K.Gone → from_of own ≡ Some g → ⊥
gone_from own g is e = absurd (none (sym (ap from_of is) ∙ e))
  where
    none : None ≡ Some g → ⊥
    none h = absurd (cc)

-- below one position, by what is reported there
deep_from : (w : Table) (root : Option ℕ) (t : ℕ) (k : M.Known) (s : Spot) (r i : ℕ) (read : List ℕ) (m : ℕ → Kind) (r0 q : ℕ) (g : From) → OnePart w root t k s r i read m → from_of (m q) ≡ Some g → Among q (below s) → (Below w root t k s read m → Seen r0 read (register s) → Seen r0 read g.register) → Seen r0 read g.register
deep_from w root t k s r i read m r0 q g (inl h) e a deep = deep h.2 (inr h.0)
deep_from w root t k s r i read m r0 q g (inr h) e a deep = absurd (gone_from (m q) g (h.2 q a).1 e)

one_from : (w : Table) (root : Option ℕ) (t : ℕ) (k : M.Known) (s : Spot) (r i : ℕ) (read : List ℕ) (m : ℕ → Kind) (r0 : ℕ) (g : From) → OnePart w root t k s r i read m → from_of (m (register s)) ≡ Some g → Seen r0 read r → Seen r0 read g.register
one_from w root t k s r i read m r0 g (inl h) e seen = subst (Seen r0 read) (sym (part_from w root t k r i (m (register s)) g h.1 e)) seen
one_from w root t k s r i read m r0 g (inr h) e seen = absurd (gone_from (m (register s)) g h.1 e)

mutual
  below_from : (w : Table) (root : Option ℕ) (t : ℕ) (k : M.Known) (s : Spot) (read : List ℕ) (m : ℕ → Kind) (r0 q : ℕ) (g : From) → Below w root t k s read m → Seen r0 read (register s) → from_of (m q) ≡ Some g → Among q (below s) → Seen r0 read g.register
  below_from w root t (Open out) (At r fs) read m r0 q g b seen e a = absurd (gone_from (m q) g (b q a).1 e)
  below_from w root t (Is (Number i) ks) (At r fs) read m r0 q g b seen e a = absurd (gone_from (m q) g (b q a).1 e)
  below_from w root t (Is (Tag n) ks) (At r fs) read m r0 q g b seen e a = all_from w root (fields w t n) ks fs r 0 read m r0 q g b seen e a

  all_from : (w : Table) (root : Option ℕ) (ts : List ℕ) (ks : Knowns) (ss : Spots) (r i : ℕ) (read : List ℕ) (m : ℕ → Kind) (r0 q : ℕ) (g : From) → AllBelow w root ts ks ss r i read m → Seen r0 read r → from_of (m q) ≡ Some g → Among q (all_in ss) → Seen r0 read g.register
  all_from w root ts ks NoSpots r i read m r0 q g b seen e a = absurd a
  all_from w root [] ks (MoreSpots s ss) r i read m r0 q g b seen e a = absurd (gone_from (m q) g (b q a).1 e)
  all_from w root (t ∷ ts) NoKnowns (MoreSpots s ss) r i read m r0 q g b seen e a = absurd b
  all_from w root (t ∷ ts) (MoreKnowns k ks) (MoreSpots s ss) r i read m r0 q g b seen e (inl same) =
      one_from w root t k s r i read m r0 g b.0 (ap (λ q. from_of (m q)) (sym same) ∙ e) seen
  all_from w root (t ∷ ts) (MoreKnowns k ks) (MoreSpots s ss) r i read m r0 q g b seen e (inr a) =
      elim (among_either q (below s) (all_in ss) a) as (λ v. Seen r0 read g.register) [
        | inl y ↦ deep_from w root t k s r i read m r0 q g b.0 e y (λ d x. below_from w root t k s read m r0 q g d x e y)
        | inr y ↦ all_from w root ts ks ss r (suc i) read m r0 q g b.1 seen e y
      ]

seen_from : (w : Table) (t : ℕ) (h : Held) (k : M.Known) → from_of (seen_kind w t h k) ≡ None
seen_from w t H.Nothing k = refl
seen_from w t (H.Scalar u) k = refl
seen_from w t (H.Owned u b) k = refl
seen_from w t (H.Lent u root) k = refl
seen_from w t (H.Credit n) k = refl
seen_from w t (H.Bare u c) k = refl

none_from : (own : Kind) (g : From) → from_of own ≡ None → from_of own ≡ Some g → ⊥
none_from own g is e = none-some g (sym is ∙ e)

pub sight_looks : (c : PlainCode) (g : Holding) (ch : Choice) (k : M.Known) (read : List ℕ) (m : ℕ → Kind) → Sight c.types g ch.type ch.root k read m → Looks c g ch k read m
sight_looks c g ch k read m sight = record { sight = sight; froms = record { each = from } }
  where
    from : (q : ℕ) (x : From) → from_of (m q) ≡ Some x → Seen (register ch.root) read x.register
    from q x e = elim (or_not (q == register ch.root)) as (λ v. Seen (register ch.root) read x.register) [
      | inl y ↦ absurd (none_from (m q) x (ap from_of (ap m (equal q (register ch.root) y) ∙ sight.root) ∙ seen_from c.types ch.type (g (register ch.root)) k) e)
      | inr y ↦ elim (or_not (has (below ch.root) q)) as (λ v. Seen (register ch.root) read x.register) [
        | inl a ↦ below_from c.types (root_of (register ch.root) (g (register ch.root))) ch.type k ch.root read m (register ch.root) q x sight.parts (inl refl) e (has_among (below ch.root) q a)
        | inr a ↦ absurd (none_from (m q) x (ap from_of (sight.others q (unequal q (register ch.root) y) (not_among (below ch.root) q a)) ∙ kind_from c.types (g q)) e)
      ]
    ]

-- ---- instructions up to a place to which nothing goes on from before, or where a label is

pub record Stretch (c : PlainCode) (f : PlainFunction) (a : ℕ) (m : ℕ → Kind) (b : ℕ) : Type 0 where
  pub grows : a ≤ b
  pub admits : Admits f a m
  pub kept : b < length f.instrs → Arrives c f a m → AreKept c f a b
  pub closed : (l : ℕ → Kind) → Arrives c f b l

pub last_stretch : (c : PlainCode) (f : PlainFunction) (a : ℕ) (m : ℕ → Kind) (b : ℕ) → LastPart c f a m b → Stretch c f a m b
last_stretch c f a m b x = record {
  grows = (let y = x.grows in omega (arith, y));
  admits = x.admits;
  kept = λ more. x.kept;
  closed = λ l none ks h. absurd (x.ends ks h);
}

joined_kept : (c : PlainCode) (f : PlainFunction) (p q r : ℕ) → AreKept c f p q → AreKept c f q r → AreKept c f p r
joined_kept c f p q r g h i low high = elim (less_or_not i q) as (λ v. IsKept c f i) [
  | inl e ↦ g i low e
  | inr e ↦ h i e high
]

pub stretch_on : (c : PlainCode) (f : PlainFunction) (a : ℕ) (m : ℕ → Kind) (b : ℕ) (l : ℕ → Kind) (d : ℕ) → Stretch c f a m b → Stretch c f b l d → Stretch c f a m d
stretch_on c f a m b l d x y =
    let p = x.grows in
    let q = y.grows in
    record {
      grows = omega (arith, p, q);
      admits = x.admits;
      kept = λ more arrives. joined_kept c f a b d (x.kept (omega (arith, q, more)) arrives) (y.kept more (x.closed l));
      closed = y.closed;
    }

pub stretch_last : (c : PlainCode) (f : PlainFunction) (a : ℕ) (m : ℕ → Kind) (b : ℕ) (l : ℕ → Kind) (d : ℕ) → Stretch c f a m b → LastPart c f b l d → LastPart c f a m d
stretch_last c f a m b l d x y =
    let p = x.grows in
    let q = y.grows in
    let inside = y.inside in
    record {
      grows = omega (arith, p, q);
      inside = omega (arith, p, inside);
      admits = x.admits;
      kept = λ arrives. joined_kept c f a b d (x.kept inside arrives) (y.kept (x.closed l));
      ends = y.ends;
    }

pub stretch_part : (c : PlainCode) (f : PlainFunction) (a : ℕ) (m : ℕ → Kind) (b : ℕ) (l : ℕ → Kind) (d : ℕ) (k : ℕ → Kind) → Stretch c f a m b → Part c f b l d k → Part c f a m d k
stretch_part c f a m b l d k x y =
    let p = x.grows in
    let q = y.grows in
    record {
      grows = omega (arith, p, q);
      admits = λ admits. x.admits;
      kept = λ more admits arrives. joined_kept c f a b d (x.kept (omega (arith, q, more)) arrives) (y.kept more admits (x.closed l));
      arrives = λ arrives. y.arrives (x.closed l);
    }

-- a part that goes on to a label
part_stretch : (c : PlainCode) (f : PlainFunction) (a : ℕ) (m : ℕ → Kind) (b : ℕ) (l : ℕ → Kind) → Part c f a m b l → Catches f b l → Stretch c f a m b
part_stretch c f a m b l x caught = record {
  grows = x.grows;
  admits = x.admits admits;
  kept = λ more arrives. x.kept more admits arrives;
  closed = λ k none. absurd (none-some caught.map (sym none ∙ caught.there));
}
  where
    admits : Admits f b l
    admits map there = subst (λ map. Takes f.registers map l) (same_Some caught.map map (sym caught.there ∙ there)) caught.takes

pub chunk_grows : (c : PlainCode) (f : PlainFunction) (g : Holding) (ch : Choice) (at : ℕ) (κ : M.Known) (read : List ℕ) (m : ℕ → Kind) (next : ℕ) → ChunkLaid c f g ch at κ read m next → at ≤ next
chunk_grows c f g ch at κ read m next h =
    let a = tests_end f c g ch h.steps at κ read h.clause h.end h.tests in
    elim h.goes as (λ v. at ≤ next) [
      | inl j ↦ (let one = j.2 in omega (arith, a, one))
      | inr j ↦ (let one = j.1 in omega (arith, a, one))
    ]

module _ (c : PlainCode) (f : PlainFunction) (st : Setting) (ch : Choice) (k : Known) (entries : (i : ℕ) (q : Pattern) (e : ℕ) → slice_get ch.patterns i ≡ Some q → slice_get ch.entries i ≡ Some e → (n : ℕ) × EntryLaid c st f ch k i q e n) where
  positive_entry : (i : ℕ) (q : Pattern) (e n : ℕ) → 0 < e → EntryLaid c st f ch k i q e n → Catches f e (reported c (entered st ch q k n))
  positive_entry i q e n low h = elim h.enters as (λ v. Catches f e (reported c (entered st ch q k n))) [
    | inl y ↦ y.1
    | inr y ↦ (let z = y.0 in absurd (let x : ⊥ = omega (arith, low, z) in x))
  ]

  -- the clause's label takes what comes
  caught_by : (e : ℕ) (l m : ℕ → Kind) → Catches f e l → ((r : ℕ) → Rattle.separation.specs.code_rules.Fitting.fits (l r) (m r) ≡ true) → Catches f e m
  caught_by e l m caught less = record { map = caught.map; there = caught.there; takes = takes_less f.registers caught.map m l caught.takes less }

  none_reported : (at : ℕ) (m : ℕ → Kind) → Quiet f at at m
  none_reported at m = record {
    first = λ low. absurd (let x : ⊥ = omega (arith, low) in x);
    others = λ p low high. absurd (let x : ⊥ = omega (arith, low, high) in x);
  }

  -- the label of a body takes what is reported where it is chosen without an instruction
  pub bodies_take : (g : Holding) (right : Right c f g ch) (based : Based c st ch k g) → BodiesTake c f g ch
  bodies_take g right based = record { by = take }
    where
      take : (at : ℕ) (κ : M.Known) (read : List ℕ) (m : ℕ → Kind) → 0 < at → Looks c g ch κ read m → BeginsBody c f ch at κ read → Catches f at m
      take at κ read m low looks h =
          let ran = run_at_once c f g ch right h.steps κ read m at h.clause looks h.chosen in
          let s = settle c f st g ch right k based h.clause at at at m ran (none_reported at m) (omega arith) in
          let entry = entries h.clause ran.chosen.pattern at ran.chosen.there h.entry in
          let l = reported c (entered st ch ran.chosen.pattern k entry.0) in
          caught_by at l m (positive_entry h.clause ran.chosen.pattern at entry.0 low entry.1)
          (λ r. ap (Rattle.separation.specs.code_rules.Fitting.fits (l r)) (s.came.still refl r) ∙ s.enters entry.0 r)

  pub chunk_stretch : (g : Holding) (right : Right c f g ch) (based : Based c st ch k g) (at : ℕ) (κ : M.Known) (read : List ℕ) (m : ℕ → Kind) (next : ℕ) → Looks c g ch κ read m → ChunkLaid c f g ch at κ read m next → 0 < next → Stretch c f at m next
  chunk_stretch g right based at κ read m next looks h low = by h.goes
    where
      ran_to : h.end ≤ next → Ran c f g ch right at m h.clause h.end
      ran_to le = run c f g ch right (bodies_take g right based) h.steps κ read m at h.clause h.end next looks h.tests h.quiet le

      by : ((slice_get f.instrs h.end ≡ Some (I.Jump h.place)) × (h.end < h.place) × (next ≡ suc h.end)) ⊎ ((h.place ≡ h.end) × (next ≡ h.end)) → Stretch c f at m next
      by (inl j) =
          let one = j.2 in
          let le : h.end ≤ next = omega (arith, one) in
          let ran = ran_to le in
          let s = settle c f st g ch right k based h.clause h.end next at m ran h.quiet le in
          let entry = entries h.clause ran.chosen.pattern h.place ran.chosen.there h.entry in
          let ahead = j.1 in
          let caught = caught_by h.place (reported c (entered st ch ran.chosen.pattern k entry.0)) s.following (positive_entry h.clause ran.chosen.pattern h.place entry.0 (omega (arith, ahead)) entry.1) (λ r. s.enters entry.0 r) in
          let quiet = came_quiet c f at h.end next m s.following s.came h.quiet in
          subst (Stretch c f at m) (sym one) (last_stretch c f at m (suc h.end) (part_and_last c f at h.end (suc h.end) m s.following s.came.part (jump_last c f h.end s.following h.place j.0 caught (quiet.first (omega (arith, one))))))
      by (inr j) =
          let one = j.1 in
          let le : h.end ≤ next = omega (arith, one) in
          let ran = ran_to le in
          let s = settle c f st g ch right k based h.clause h.end next at m ran h.quiet le in
          let entry = entries h.clause ran.chosen.pattern h.place ran.chosen.there h.entry in
          let same = j.0 in
          let l = reported c (entered st ch ran.chosen.pattern k entry.0) in
          let caught : Catches f h.end l = subst (λ e. Catches f e l) same (positive_entry h.clause ran.chosen.pattern h.place entry.0 (omega (arith, same, one, low)) entry.1) in
          subst (Stretch c f at m) (sym one) (part_stretch c f at m h.end l (both_parts c f at h.end h.end m s.following l s.came.part (catch_part c f h.end s.following l caught (λ r. s.enters entry.0 r))) caught)

  -- ---- what fails a test

  wide_twice : (h : Held) → widened (widened h) ≡ widened h
  wide_twice H.Nothing = refl
  wide_twice (H.Scalar t) = refl
  wide_twice (H.Owned t b) = refl
  wide_twice (H.Lent t root) = refl
  wide_twice (H.Credit n) = refl
  wide_twice (H.Bare t d) = refl

  pub sides_on : (right : Right c f (wide_at (held_at k.held)) ch) (based : Based c st ch k (wide_at (held_at k.held))) (n a : ℕ) (m : ℕ → Kind) (at end : ℕ) → Stretch c f a m at → SidesLaid c f (wide_at (held_at k.held)) ch n at end → Stretch c f a m end
  sides_on right based zero a m at end x h = subst (Stretch c f a m) (sym h) x
  sides_on right based (suc n) a m at end x h =
      let side = h.1 in
      let grows = chunk_grows c f (wide_at (held_at k.held)) ch at side.known side.read side.reported h.0 side.chunk in
      let later = side.later in
      let one = chunk_stretch (wide_at (held_at k.held)) right based at side.known side.read side.reported h.0 (sight_looks c (wide_at (held_at k.held)) ch side.known side.read side.reported side.sight) side.chunk (omega (arith, grows, later)) in
      sides_on right based n a m h.0 end (stretch_on c f a m at side.reported h.0 x one) h.2

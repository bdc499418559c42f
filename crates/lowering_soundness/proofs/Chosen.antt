-- The tests of a match, from its first instruction up to the last that belongs to them: each keeps the rules.
use Rattle.std.proofs.Common.{◌≡◌, ℕ, ◌<◌, ◌≤◌, [], Option, Some, None, refl, sym, ap, ◌∙◌, subst, zero, suc, arith}
use Rattle.separation.specs.fip_language.Table.{Table}
use Rattle.separation.specs.fip_language.Every.{Among}
use Rattle.separation.specs.cell_code.Plain.{PlainFunction, PlainCode}
use Rattle.lowering_relation.specs.match_knowledge.Known.{Open}
use Rattle.lowering_relation.specs.Spots.{Spot, At, register, below}
use Rattle.lowering_relation.specs.Entering.{root_of}
use Rattle.lowering_relation.specs.declared.held.Held.{Held}
use Rattle.lowering_relation.specs.declared.held.Held.TheVariants as H
use Rattle.separation.specs.cell_code.declared.kind.Kind.{Kind}
use Rattle.separation.specs.cell_code.declared.kind.Kind.TheVariants as K
use Rattle.lowering_relation.specs.Known.{Known}
use Rattle.lowering_relation.specs.Values.{Setting}
use Rattle.lowering_relation.specs.Describing.{Holding, held_at, kind_of, is_tree}
use Rattle.lowering_relation.specs.Labels.{reported}
use Rattle.lowering_relation.specs.Sights.{Below, seen_kind, Sight}
use Rattle.lowering_relation.specs.Tests.{Choice, ChunkLaid, SidesLaid}
use Rattle.lowering_soundness.proofs.Standing.{Seeing, SeesScalar, SeesLent, SeesOwned, MatchStands}
use Rattle.lowering_relation.specs.Matches.{widened, wide_at}
use Rattle.lowering_soundness.proofs.Standing.{EntriesLaid}
use Rattle.lowering_soundness.proofs.Lefts.{left_open}
use Rattle.lowering_soundness.proofs.Choosing.{Right}
use Rattle.lowering_soundness.proofs.Settling.{Based}
use Rattle.lowering_soundness.proofs.Chunks.{Stretch, sight_looks, chunk_grows, chunk_stretch, sides_on}
use Rattle.lowering_soundness.proofs.Cleared.{wide_tree}

-- ---- nothing was tested yet

first_kind : (w : Table) (t : ℕ) (h : Held) → Seeing w t h → kind_of w h ≡ seen_kind w t h (Open [])
first_kind w t h (SeesScalar e s) = subst (λ h. kind_of w h ≡ seen_kind w t h (Open [])) (sym e) refl
first_kind w t h (SeesLent root e s) = subst (λ h. kind_of w h ≡ seen_kind w t h (Open [])) (sym e) (ap (λ cs. K.Lent t cs root None) (sym (left_open w t)))
first_kind w t h (SeesOwned e s) = subst (λ h. kind_of w h ≡ seen_kind w t h (Open [])) (sym e) (ap (K.Owned t) (sym (left_open w t)))

first_below : (w : Table) (root : Option ℕ) (t : ℕ) (s : Spot) (m : ℕ → Kind) → ((z : ℕ) → Among z (below s) → m z ≡ K.Gone) → Below w root t (Open []) s [] m
first_below w root t (At r fs) m gone = λ z a. (refl, gone z a)

-- ---- which constructor was built is forgotten

twice : (h : Held) → widened (widened h) ≡ widened h
twice H.Nothing = refl
twice (H.Scalar t) = refl
twice (H.Owned t b) = refl
twice (H.Lent t root) = refl
twice (H.Credit n) = refl
twice (H.Bare t d) = refl

wide_seen : (w : Table) (t : ℕ) (h : Held) → Seeing w t h → Seeing w t (widened h)
wide_seen w t h (SeesScalar e s) = SeesScalar (ap widened e) s
wide_seen w t h (SeesLent root e s) = SeesLent root (ap widened e) s
wide_seen w t h (SeesOwned e s) = SeesOwned (ap widened e) s

wide_lent : (h : Held) (t q : ℕ) → widened h ≡ H.Lent t (Some q) → h ≡ H.Lent t (Some q)
wide_lent H.Nothing t q e = e
wide_lent (H.Scalar u) t q e = e
wide_lent (H.Owned u b) t q e = absurd (cc)
wide_lent (H.Lent u o) t q e = e
wide_lent (H.Credit n) t q e = e
wide_lent (H.Bare u c) t q e = e

pub wide_built : (h : Held) (t d : ℕ) → widened h ≡ H.Owned t (Some d) → ⊥
wide_built H.Nothing t d e = absurd (cc)
wide_built (H.Scalar u) t d e = absurd (cc)
wide_built (H.Owned u b) t d e = absurd (cc)
wide_built (H.Lent u o) t d e = absurd (cc)
wide_built (H.Credit n) t d e = absurd (cc)
wide_built (H.Bare u c) t d e = absurd (cc)

module _ (c : PlainCode) (st : Setting) (f : PlainFunction) (ch : Choice) (k : Known) (stands : MatchStands c st f ch k) where
  abbrev g : Holding
  g = held_at k.held

  right : Right c f g ch
  right = record {
    seeing = stands.sees;
    fresh = λ z a. (let u = stands.unused z a in (u.0, (u.1, u.2)));
    differ = stands.differ;
    rooted = stands.rooted;
    typed = stands.typed;
    roomy = stands.roomy;
  }

  pub right_wide : Right c f (wide_at g) ch
  right_wide = record {
    seeing = wide_seen c.types ch.type (g (register ch.root)) stands.sees;
    fresh = λ z a. (let u = stands.unused z a in (ap widened u.0, (u.1, u.2)));
    differ = stands.differ;
    rooted = λ r t q e. wide_tree (g q) ∙ stands.rooted r t q (wide_lent (g r) t q e);
    typed = stands.typed;
    roomy = stands.roomy;
  }

  based : Based c st ch k g
  based = record {
    wide = λ r. refl;
    built = stands.built;
    takes = stands.takes;
    slots = stands.slots;
    within = stands.within;
  }

  based_wide : Based c st ch k (wide_at g)
  based_wide = record {
    wide = λ r. sym (twice (g r));
    built = λ r. record { there = λ t d e. absurd (wide_built (g r) t d e) };
    takes = λ e. wide_tree (g (register ch.root)) ∙ stands.takes e;
    slots = stands.slots;
    within = stands.within;
  }

  pub first_sight : Sight c.types g ch.type ch.root (Open []) [] (reported c k)
  first_sight = record {
    root = first_kind c.types ch.type (g (register ch.root)) stands.sees;
    parts = first_below c.types (root_of (register ch.root) (g (register ch.root))) ch.type ch.root (reported c k) (λ z a. ap (kind_of c.types) (stands.unused z a).0);
    others = λ q ne away. refl;
  }

  pub match_grows : (at mid : ℕ) → ChunkLaid c f g ch at (Open []) [] (reported c k) mid → at ≤ mid
  match_grows at mid first = chunk_grows c f g ch at (Open []) [] (reported c k) mid first

  pub sides_grow : (n at end : ℕ) → SidesLaid c f (wide_at g) ch n at end → at ≤ end
  sides_grow zero at end h = let z = h in omega (arith, z)
  sides_grow (suc n) at end h =
      let side = h.1 in
      let a = chunk_grows c f (wide_at g) ch at side.known side.read side.reported h.0 side.chunk in
      let b = sides_grow n h.0 end h.2 in
      omega (arith, a, b)

  module _ (entries : EntriesLaid c st f ch k) where
    pub match_stretch : (at mid n end : ℕ) → ChunkLaid c f g ch at (Open []) [] (reported c k) mid → SidesLaid c f (wide_at g) ch n mid end → 0 < mid → Stretch c f at (reported c k) end
    match_stretch at mid n end first sides low =
        sides_on c f st ch k entries right_wide based_wide n at (reported c k) mid end
        (chunk_stretch c f st ch k entries g right based at (Open []) [] (reported c k) mid (sight_looks c g ch (Open []) [] (reported c k) first_sight) first low) sides

    -- tests after a body
    pub match_sides : (n a : ℕ) (m : ℕ → Kind) (at end : ℕ) → Stretch c f a m at → SidesLaid c f (wide_at g) ch n at end → Stretch c f a m end
    match_sides n a m at end x sides = sides_on c f st ch k entries right_wide based_wide n a m at end x sides

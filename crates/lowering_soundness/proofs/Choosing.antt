-- Tests, one after another, up to the clause that is chosen.
use Rattle.std.proofs.Common.{◌≡◌, inl, inr, ℕ, zero, suc, ◌<◌, ◌≤◌, Bool, true, false, List, [], ◌∷◌, slice_get, Option, Some, None, refl, sym, ap, ◌∙◌, subst, arith, ◌==◌}
use Rattle.separation.specs.fip_language.Table.{Table}
use Rattle.separation.specs.fip_language.Every.{Among}
use Rattle.separation.specs.cell_code.declared.kind.Kind.{Kind}
use Rattle.separation.specs.cell_code.declared.kind.Kind.TheVariants as K
use Rattle.lowering_relation.specs.fip_trees.Tree.{Pattern}
use Rattle.separation.specs.cell_code.Plain.{PlainFunction, PlainCode}
use Rattle.separation.specs.code_rules.Kinds.{from_of, set_of}
use Rattle.separation.specs.code_rules.Changes.{narrow, without}
use Rattle.separation.proofs.separation_kinds.Basics.{pick}
use Rattle.separation.proofs.separation_kinds.Fits.{narrowed}
use Rattle.lowering_relation.specs.match_knowledge.declared.heads.Head.{Head}
use Rattle.lowering_relation.specs.match_knowledge.declared.heads.Head.TheVariants.{Number, Tag}
use Rattle.lowering_relation.specs.match_knowledge.declared.verdicts.Verdict.TheVariants.{Asks}
use Rattle.lowering_relation.specs.match_knowledge.Patterns as M
use Rattle.lowering_relation.specs.match_knowledge.Patterns.{IsPattern}
use Rattle.lowering_relation.specs.match_knowledge.Known.{Known, compare, side, is_last}
use Rattle.lowering_relation.specs.Spots.{register, below, Differ}
use Rattle.lowering_relation.specs.Rows.{row_of}
use Rattle.lowering_relation.specs.Opening.{Roomy}
use Rattle.lowering_relation.specs.Entering.{root_of}
use Rattle.lowering_relation.specs.declared.held.Held.{Held}
use Rattle.lowering_relation.specs.declared.held.Held.TheVariants as H
use Rattle.lowering_relation.specs.Describing.{Holding}
use Rattle.lowering_soundness.specs.Ties.{Rooted}
use Rattle.lowering_relation.specs.Labels.{Catches, Quiet}
use Rattle.lowering_soundness.proofs.Standing.{Seeing, SeesScalar, SeesLent, SeesOwned}
use Rattle.lowering_relation.specs.Sights.{left, seen_kind, Sight}
use Rattle.lowering_relation.specs.Tests.{Choice, Asking, TestLaid, ChosenLaid, TestsLaid, ReadsLaid, ChosenAtOnce, BeginsBody, TakenAt}
use Rattle.lowering_relation.proofs.Growing.{tests_end}
use Rattle.lowering_soundness.proofs.Branches.{Came, came_none, came_one, came_on, came_quiet}
use Rattle.lowering_soundness.proofs.Looking.{sided, test_part}
use Rattle.lowering_soundness.proofs.Positions.{Froms}
use Rattle.lowering_soundness.proofs.Peeking.{Ready, OwnKind, MayRead, reads}
use Rattle.lowering_soundness.proofs.Testing.{Form, AsScalar, AsOwned, AsLent, formed, FormRight, Here, Tested, tests, sided_other}
use Rattle.lowering_soundness.proofs.Lasting.{last_left, last_below}

-- ---- the scrutinee's register

pub seen_form : (w : Table) (t : ℕ) (h : Held) → Seeing w t h → (form : Form) × FormRight w t form × ((k : Known) → seen_kind w t h k ≡ formed t form (left w t k))
seen_form w t h (SeesScalar e s) = (AsScalar, s, (λ k. ap (λ h. seen_kind w t h k) e))
seen_form w t h (SeesLent root e s) = (AsLent root None, s, (λ k. ap (λ h. seen_kind w t h k) e))
seen_form w t h (SeesOwned e s) = (AsOwned, s, (λ k. ap (λ h. seen_kind w t h k) e))

pub seen_own : (w : Table) (t r : ℕ) (h : Held) (k : Known) → Seeing w t h → OwnKind w (root_of r h) t k r (seen_kind w t h k)
seen_own w t r h k (SeesScalar e s) = inl s
seen_own w t r h k (SeesLent root e s) = subst (λ h. OwnKind w (root_of r h) t k r (seen_kind w t h k)) (sym e) (inr (refl, refl))
seen_own w t r h k (SeesOwned e s) = subst (λ h. OwnKind w (root_of r h) t k r (seen_kind w t h k)) (sym e) (inr (refl, refl))

seen_same : (w : Table) (t : ℕ) (h : Held) (k l : Known) → left w t l ≡ left w t k → seen_kind w t h l ≡ seen_kind w t h k
seen_same w t H.Nothing k l e = refl
seen_same w t (H.Scalar u) k l e = refl
seen_same w t (H.Owned u b) k l e = ap (K.Owned t) e
seen_same w t (H.Lent u root) k l e = ap (λ cs. K.Lent t cs root None) e
seen_same w t (H.Credit n) k l e = refl
seen_same w t (H.Bare u c) k l e = refl

-- ---- froms stay where a register is tested

narrow_from : (cs : List ℕ) (k : Kind) → from_of (narrow cs k) ≡ from_of k
narrow_from cs K.Gone = refl
narrow_from cs (K.Scalar t) = refl
narrow_from cs (K.Owned t s) = refl
narrow_from cs (K.Lent t s root from) = refl
narrow_from cs (K.Credit n) = refl

narrowed_from : (m : ℕ → Kind) (r : ℕ) (cs : List ℕ) (q : ℕ) → from_of (narrowed m r cs q) ≡ from_of (m q)
narrowed_from m r cs q = pick (λ k. from_of k ≡ from_of (m q)) (q == r) (narrow cs (m q)) (m q) (λ e. narrow_from cs (m q)) (λ e. refl)

sided_from : (h : Head) (r : ℕ) (b : Bool) (m : ℕ → Kind) (q : ℕ) → from_of (sided h r b m q) ≡ from_of (m q)
sided_from (Number i) r b m q = refl
sided_from (Tag n) r true m q = narrowed_from m r (n ∷ []) q
sided_from (Tag n) r false m q = narrowed_from m r (without n (set_of (m r))) q

froms_sided : (r0 : ℕ) (read : List ℕ) (h : Head) (r : ℕ) (b : Bool) (m : ℕ → Kind) → Froms r0 read m → Froms r0 read (sided h r b m)
froms_sided r0 read h r b m froms = record { each = λ q g e. froms.each q g (sym (sided_from h r b m q) ∙ e) }

-- ---- a match whose tests may be written

pub record Right (c : PlainCode) (f : PlainFunction) (g : Holding) (ch : Choice) : Type 0 where
  pub seeing : Seeing c.types ch.type (g (register ch.root))
  pub fresh : (z : ℕ) → Among z (below ch.root) → (g z ≡ H.Nothing) × MayRead f.registers (register ch.root) z
  pub differ : Differ ch.root
  pub rooted : Rooted g
  pub typed : (i : ℕ) (q : Pattern) → slice_get ch.patterns i ≡ Some q → IsPattern c.types ch.type (row_of q)
  pub roomy : (i : ℕ) (q : Pattern) → slice_get ch.patterns i ≡ Some q → Roomy q ch.root

pub right_off : (c : PlainCode) (f : PlainFunction) (g : Holding) (ch : Choice) → Right c f g ch → Among (register ch.root) (below ch.root) → ⊥
right_off c f g ch right a = (right.fresh (register ch.root) a).1.1 refl

-- what is reported of the registers, with where froms lead
pub record Looks (c : PlainCode) (g : Holding) (ch : Choice) (k : Known) (read : List ℕ) (m : ℕ → Kind) : Type 0 where
  pub sight : Sight c.types g ch.type ch.root k read m
  pub froms : Froms (register ch.root) read m

-- a label where a body begins that is chosen there without an instruction takes what is reported
pub record BodiesTake (c : PlainCode) (f : PlainFunction) (g : Holding) (ch : Choice) : Type 0 where
  pub by : (at : ℕ) (k : Known) (read : List ℕ) (m : ℕ → Kind) → 0 < at → Looks c g ch k read m → BeginsBody c f ch at k read → Catches f at m

caught_at : (c : PlainCode) (f : PlainFunction) (g : Holding) (ch : Choice) (at : ℕ) (k : Known) (read : List ℕ) (m : ℕ → Kind) → BodiesTake c f g ch → 0 < at → Looks c g ch k read m → TakenAt c f g ch at k read → Catches f at m
caught_at c f g ch at k read m bodies low looks (inl h) = h m looks.sight
caught_at c f g ch at k read m bodies low looks (inr h) = bodies.by at k read m low looks h

module _ (c : PlainCode) (f : PlainFunction) (g : Holding) (ch : Choice) (right : Right c f g ch) where
  abbrev Root : Option ℕ
  Root = root_of (register ch.root) (g (register ch.root))

  -- up to the clause that is chosen
  pub record Ran (at : ℕ) (m : ℕ → Kind) (i end : ℕ) : Type 0 where
    pub place : ℕ
    pub known : Known
    pub read : List ℕ
    pub following : ℕ → Kind
    pub came : Came c f at m place following
    pub looks : Looks c g ch known read following
    pub chosen : ChosenLaid f ch place known read i end

  ran_on : (at mid : ℕ) (m l : ℕ → Kind) (i end : ℕ) → Came c f at m mid l → Ran mid l i end → Ran at m i end
  ran_on at mid m l i end came ran = record {
    place = ran.place;
    known = ran.known;
    read = ran.read;
    following = ran.following;
    came = came_on c f at mid ran.place m l ran.following came ran.came;
    looks = ran.looks;
    chosen = ran.chosen;
  }

  -- it is known that a test holds that no value fails
  last_looks : (k : Known) (read : List ℕ) (m : ℕ → Kind) (p : M.Pattern) → IsPattern c.types ch.type p → compare p k ≡ Asks → is_last c.types p k ≡ true → Looks c g ch k read m → Looks c g ch (side true p k) read m
  last_looks k read m p typed asks last looks = record {
    sight = record {
      root = looks.sight.root ∙ sym (seen_same c.types ch.type (g (register ch.root)) k (side true p k) (last_left c.types ch.type p k typed asks last));
      parts = last_below c.types Root ch.type p k ch.root read m typed asks last looks.sight.parts;
      others = looks.sight.others;
    };
    froms = looks.froms;
  }

  typed_at : (k : Known) (p : M.Pattern) → Asking ch k p → IsPattern c.types ch.type p
  typed_at k p asking = subst (IsPattern c.types ch.type) (sym asking.same) (right.typed asking.number asking.pattern asking.there)

  -- a clause is chosen without an instruction
  pub run_at_once : (n : ℕ) (k : Known) (read : List ℕ) (m : ℕ → Kind) (at i : ℕ) → Looks c g ch k read m → ChosenAtOnce c f ch n at k read i → Ran at m i at
  run_at_once zero k read m at i looks h = record { place = at; known = k; read = read; following = m; came = came_none c f at m; looks = looks; chosen = h }
  run_at_once (suc n) k read m at i looks (p, asking, last, h) =
      run_at_once n (side true p k) read m at i (last_looks k read m p (typed_at k p asking) asking.asks last looks) h

  -- the positions that a test needs were read
  record ReadOn (k : Known) (p : M.Pattern) (at : ℕ) (m : ℕ → Kind) (mid : ℕ) (more : List ℕ) : Type 0 where
    pub following : ℕ → Kind
    pub came : Came c f at m mid following
    pub looks : Looks c g ch k more following
    pub ready : Ready p k ch.root more

  read_on : (k : Known) (read : List ℕ) (m : ℕ → Kind) (p : M.Pattern) (at mid end : ℕ) (more : List ℕ) → IsPattern c.types ch.type p → compare p k ≡ Asks → Looks c g ch k read m → ReadsLaid f at p k ch.root read mid more → Quiet f at end m → mid ≤ end → ReadOn k p at m mid more
  read_on k read m p at mid end more typed asks looks h quiet le =
      let off = right_off c f g ch right in
      let r = reads c f (register ch.root) Root ch.type p k ch.root at read m mid more end typed asks right.differ off (λ z a. (right.fresh z a).1)
      (subst (OwnKind c.types Root ch.type k (register ch.root)) (sym looks.sight.root) (seen_own c.types ch.type (register ch.root) (g (register ch.root)) k right.seeing)) (inl refl) looks.sight.parts h looks.froms quiet le in
      record {
        following = r.following;
        came = r.came;
        looks = record {
          sight = record {
            root = (r.others (register ch.root) off).1 ∙ looks.sight.root;
            parts = r.parts;
            others = λ q ne away. (r.others q away).1 ∙ looks.sight.others q ne away;
          };
          froms = r.froms;
        };
        ready = r.ready;
      }

  tested_sight : (k : Known) (read : List ℕ) (m : ℕ → Kind) (p : M.Pattern) (form : Form) (found : Rattle.lowering_relation.specs.Reading.Asked) (b : Bool) → ((k : Known) → seen_kind c.types ch.type (g (register ch.root)) k ≡ formed ch.type form (left c.types ch.type k)) → Looks c g ch k read m → Tested c.types (λ b l. Here c.types Root ch.type form (side b p k) ch.root read l) (register ch.root ∷ below ch.root) found m → Sight c.types g ch.type ch.root (side b p k) read (sided found.head found.register b m)
  tested_sight k read m p form found b is looks tested =
      let h = tested.parts b in record {
        root = h.own ∙ sym (is (side b p k));
        parts = h.parts;
        others = λ q ne away. sided_other found.head found.register b m q (λ e. out q ne away (subst (λ z. Among z (register ch.root ∷ below ch.root)) (sym e) tested.within)) ∙ looks.sight.others q ne away;
      }
    where
      out : (q : ℕ) → (q ≡ register ch.root → ⊥) → (Among q (below ch.root) → ⊥) → Among q (register ch.root ∷ below ch.root) → ⊥
      out q ne away (inl e) = ne e
      out q ne away (inr a) = away a

  one_test : BodiesTake c f g ch → (k : Known) (read : List ℕ) (m : ℕ → Kind) (p : M.Pattern) (at mid end : ℕ) (more : List ℕ) → IsPattern c.types ch.type p → compare p k ≡ Asks → Looks c g ch k read m → TestLaid c f g ch at p k read mid more → Quiet f at end m → mid ≤ end → (l : ℕ → Kind) × Came c f at m mid l × Looks c g ch (side true p k) more l
  one_test bodies k read m p at mid end more typed asks looks h quiet le =
      let one = h.one in
      let r = read_on k read m p at h.mid end more typed asks looks h.reads quiet (omega (arith, one, le)) in
      let form = seen_form c.types ch.type (g (register ch.root)) right.seeing in
      let tested = tests c.types Root ch.type form.0 p k ch.root h.found more r.following typed asks right.differ (right_off c f g ch right) form.1
      (record { own = r.looks.sight.root ∙ form.2 k; parts = r.looks.sight.parts }) r.ready h.asks in
      let yes = sided h.found.head h.found.register true r.following in
      let ahead = h.ahead in
      let failed = sided h.found.head h.found.register false r.following in
      let caught = caught_at c f g ch h.target (side false p k) more failed bodies (omega (arith, ahead)) (record { sight = tested_sight k more r.following p form.0 h.found false form.2 r.looks tested; froms = froms_sided (register ch.root) more h.found.head h.found.register false r.following r.looks.froms }) h.fails in
      let quiet2 = came_quiet c f at h.mid end m r.following r.came quiet in
      let part = test_part c f h.mid r.following h.found.register h.found.head h.target h.written tested.may caught (quiet2.first (omega (arith, one, le))) in (
        yes,
        subst (λ b. Came c f at m b yes) (sym one) (came_on c f at h.mid (suc h.mid) m r.following yes r.came (came_one c f h.mid r.following yes part)),
        record { sight = tested_sight k more r.following p form.0 h.found true form.2 r.looks tested; froms = froms_sided (register ch.root) more h.found.head h.found.register true r.following r.looks.froms },
      )

  pub run : BodiesTake c f g ch → (n : ℕ) (k : Known) (read : List ℕ) (m : ℕ → Kind) (at i end next : ℕ) → Looks c g ch k read m → TestsLaid c f g ch n at k read i end → Quiet f at next m → end ≤ next → Ran at m i end
  run bodies zero k read m at i end next looks h quiet le = record { place = at; known = k; read = read; following = m; came = came_none c f at m; looks = looks; chosen = h }
  run bodies (suc n) k read m at i end next looks (p, asking, inl y) quiet le =
      run bodies n (side true p k) read m at i end next (last_looks k read m p (typed_at k p asking) asking.asks y.0 looks) y.1 quiet le
  run bodies (suc n) k read m at i end next looks (p, asking, inr y) quiet le =
      let later = tests_end f c g ch n y.0 (side true p k) y.1 i end y.3 in
      let one = one_test bodies k read m p at y.0 next y.1 (typed_at k p asking) asking.asks looks y.2 quiet (omega (arith, later, le)) in
      ran_on at y.0 m one.0 i end one.1 (run bodies n (side true p k) y.1 one.0 y.0 i end next one.2 y.3 (came_quiet c f at y.0 next m one.0 one.1 quiet) le)

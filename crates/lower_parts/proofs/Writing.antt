-- What the lowering of arguments has written, and how values are handed on, a case at a time.
use Rattle.std.proofs.Common.{◌≡◌, inl, inr, refl, sym, ap, ◌∙◌, subst, arith, ℕ, zero, suc, ◌+◌, ◌≤◌, ◌⊎◌, ℤ, Bool, true, false, List, [], ◌∷◌, ◌++◌, length, drop, Option, Some, None, slice_get, slice_set, get_or}
use Rattle.fip_language.specs.declared.Place.{Place}
use Rattle.fip_language.specs.Table.{Table}
use Rattle.fip_trees.specs.Tree.{Name, Argument, Variable, Literal, Constructor, Arguments, NoArguments, MoreArguments}
use Rattle.fip_trees.specs.declared.program.Argument.{Argument as Tree}
use Rattle.fip_trees.specs.declared.program.Argument.TheOpen as AO
use Rattle.fip_trees.specs.declared.program.Argument.TheVariants as AV
use Rattle.fip_trees.specs.declared.program.Argument.TheFolds.{fold-roll-Argument}
use Rattle.fip_trees.specs.TreeView.{argument, argument_step, arguments}
use Rattle.cell_code.specs.declared.code.Instr.{Instr}
use Rattle.cell_code.specs.declared.code.Instr.TheVariants as I
use Rattle.lower_frame.specs.lowering_relation.declared.held.Held.{Held}
use Rattle.lower_frame.specs.lowering_relation.declared.held.Held.TheVariants as H
use Rattle.lower_frame.specs.lowering_relation.Known.{Known, register_of, holding, with_next, using, used, used_all}
use Rattle.code_size.specs.Places.{argument_places, arguments_places}
use Rattle.lower_frame.specs.lowering_relation.Values.{Setting, built, built_if, is_scalar}
use Rattle.lower_frame.specs.lowering_relation.LoweredBodies.{Return, Into, moved, as_value, MovedAt, IsMove, IsThere}
use Rattle.lower_frame.specs.lowering_relation.Credits.{LastGone}
use Rattle.lower_frame.specs.lowering_relation.Moves.{MoveLaid, MovesLaid}
use Rattle.lower_frame.specs.Credits.{Accounted, AllSolid, is_credit, is_credit_of}
use Rattle.lower_frame.specs.lowering_relation.Describing.{held_at, kind_of}
use Rattle.lower_frame.specs.Frames.{Takes, TakesBare}
use Rattle.lower_frame.proofs.Accounts.{all_solid_on, already_used, credit_used, moved_accounted, no_new_credit, of_none, set_itself, next_accounted, reused_accounted, filled_accounted, last_same, last_on, taken_last}
use Rattle.lower_frame.specs.Registers.{registers, HasRoom}
use Rattle.lower_parts.specs.Growth.{Sheds}
use Rattle.lower_parts.proofs.Shedding.{set_length, used_length, used_all_length, takes_length, bare_length, sheds_on, adds_shed, adds_none, adds_one, adds_on, adds_less}
use Rattle.lower_frame.specs.lowering_relation.Written.{Written, size, added, GivesUp}
use Rattle.lower_parts.specs.Writing.{HandsOn, Movable, Named, Still, Kept, Computes, ComputesAll, Builds, Follow, Gives, Moves, MovesOne, MovesTo, FollowMoves}
use Rattle.lower_frame.proofs.lowering_relation.Placing.{same_extends, extends_on, added_extends, one_longer, front, back, stands, up_to, given_up}
use Rattle.fip_language.proofs.Facts.{append_none, append_one, drop_at_next as at_drop, drop_end as drop_done}
use Rattle.lower_parts.proofs.Laying.{room_then as room_on}

-- equal values may stand for one another
pub three : {A B C : Type 0} (P : A → B → C → Type 0) (a b : A) (c d : B) (e f : C) → b ≡ a → d ≡ c → f ≡ e → P a c e → P b d f
three P a b c d e f x y z h = subst (λ u. P u d f) (sym x) (subst (λ u. P a u f) (sym y) (subst (λ u. P a c u) (sym z) h))

-- arguments

pub argument_literal : (i : ℤ) (p : Place) → argument (AV.Literal i p) ≡ Literal i p
argument_literal i p = ap argument (sym (AV.rolls-Literal i p)) ∙ fold-roll-Argument Argument argument_step (AO.Literal i p)

named_solid : (k : Known) (x : Option ℕ) (r : ℕ) → register_of k.names x ≡ Some r → Named k → AllSolid k (r ∷ [])
named_solid k None r e named = absurd (cc)
named_solid k (Some x) r e named = named x r e

pub computes_variable : (s : Setting) (k l : Known) (v w : Written) (x : Option ℕ) (n : Name) (p : Place) (r : ℕ) → register_of k.names x ≡ Some r → l ≡ k → w ≡ v → Computes s k v (Variable x n p) r l w
computes_variable s k l v w x n p r h e f =
    three (λ (u : ℕ) y z. Computes s k v (Variable x n p) r y z) 0 0 k l v w refl e f
    (record { extends = same_extends v; code = λ to code h'. record { named = h; nothing = refl; known = refl }; maps = refl; as_many = refl; room = omega arith; kept = λ a. (a, last_same k.credits); names = refl; grows = omega arith; still = λ e tb q. refl; solid = λ a named. named_solid k x r h named; few = adds_less 0 0 1 0 v v (omega arith) (omega arith) (adds_none v) })

pub computes_literal : (s : Setting) (k l : Known) (v w : Written) (i : ℤ) (p : Place) (r : ℕ) → r ≡ k.next → l ≡ with_next k (H.Scalar 0) → HasRoom k l → w ≡ added v (I.Const k.next i) → Computes s k v (Literal i p) r l w
computes_literal s k l v w i p r e f room g =
    three (λ x y z. Computes s k v (Literal i p) x y z) k.next r (with_next k (H.Scalar 0)) l (added v (I.Const k.next i)) w e f g
    (record {
      extends = added_extends v (I.Const k.next i);
      code = λ to code h. record {
        written = stands v (I.Const k.next i) (size v) to code (omega arith) h;
        fresh = refl;
        one = one_longer v (I.Const k.next i);
        known = refl;
      };
      maps = refl;
      as_many = set_length k.held k.next (H.Scalar 0);
      room = subst (HasRoom k) f room;
      kept = λ a. (next_accounted k (H.Scalar 0) (λ n. refl) a, last_same k.credits);
      names = refl;
      grows = omega arith;
      still = λ same tb q. absurd (omega (arith, same, one_longer v (I.Const k.next i)));
      solid = λ a named. (omega arith, set_itself k.held k.next (H.Scalar 0) refl, tt);
      few = adds_one v (I.Const k.next i);
    })

-- what is kept, and where there is room

still_on : (k m l : Known) (v w z : Written) → size v ≤ size w → size w ≤ size z → (size w ≡ size v → Still k m) → (size z ≡ size w → Still m l) → size z ≡ size v → Still k l
still_on k m l v w z a b f g e tb q = g (omega (arith, a, b, e)) tb q ∙ f (omega (arith, a, b, e)) tb q

pub solid_on : (k l : Known) (rs : List ℕ) → Accounted k → Kept k l → k.next ≤ l.next → AllSolid k rs → AllSolid l rs
solid_on k l rs a kept le s = let b = kept a in all_solid_on k l rs le (λ r. no_new_credit k l r a b.0 b.1) s

pub named_on : (k l : Known) → Accounted k → Kept k l → l.names ≡ k.names → k.next ≤ l.next → Named k → Named l
named_on k l a kept same le named x r e = solid_on k l (r ∷ []) a kept le (named x r (sym (ap (λ ns. register_of ns (Some x)) same) ∙ e))

kept_on : (k m l : Known) → Kept k m → Kept m l → Kept k l
kept_on k m l a b = λ x. let y = a x in let z = b y.0 in (z.0, last_on k.credits m.credits l.credits y.1 z.1)

pub computes_constructor : (s : Setting) (k : Known) (v : Written) (t d c : ℕ) (n : Name) (p : Place) (as' : Arguments) (rs : List ℕ) (m : Known) (w : Written) (r : ℕ) (l : Known) (z : Written) → ComputesAll s k v as' rs m w → Builds s m w t c rs r l z → Computes s k v (Constructor t d c n p as') r l z
computes_constructor s k v t d c n p as' rs m w r l z a b = record {
  extends = extends_on v w z a.extends b.extends;
  code = λ to code h. (
    rs,
    size w,
    m,
    a.code to code (front (size v) w z to code b.extends h),
    b.code to code (back (size v) (size w) z to code a.extends.grows h),
  );
  maps = b.maps ∙ a.maps;
  as_many = b.as_many ∙ a.as_many;
  room = room_on k m l a.as_many a.room b.room;
  kept = kept_on k m l a.kept b.kept;
  names = b.names ∙ a.names;
  grows = let x = a.grows in let y = b.grows in omega (arith, x, y);
  still = still_on k m l v w z a.extends.grows b.extends.grows a.still b.still;
  solid = λ x named. b.solid (a.kept x).0;
  few = adds_less (arguments_places as' + 1) (0 + 0) (suc (arguments_places as')) 0 v z (omega arith) (omega arith) (adds_on (arguments_places as') 0 1 0 v w z a.few b.few);
}

pub computes_none : (s : Setting) (k : Known) (v : Written) → ComputesAll s k v NoArguments [] k v
computes_none s k v = record { extends = same_extends v; code = λ to code h. (refl, refl); maps = refl; as_many = refl; room = omega arith; kept = λ a. (a, last_same k.credits); names = refl; grows = omega arith; still = λ e tb q. refl; solid = λ a named. tt; few = adds_none v; a_register_each = omega arith }

-- each argument has a place
pub argument_one : (a : Argument) → 1 ≤ argument_places a
argument_one (Variable x n p) = omega arith
argument_one (Literal i p) = omega arith
argument_one (Constructor t d c n p as') = omega arith

pub computes_more : (s : Setting) (k : Known) (v : Written) (a : Argument) (as' : Arguments) (r : ℕ) (m : Known) (w : Written) (rs : List ℕ) (l : Known) (z : Written) → Computes s k v a r m w → ComputesAll s m w as' rs l z → ComputesAll s k v (MoreArguments a as') (r ∷ rs) l z
computes_more s k v a as' r m w rs l z p q = record {
  extends = extends_on v w z p.extends q.extends;
  code = λ to code h. (
    size w,
    m,
    p.code to code (front (size v) w z to code q.extends h),
    q.code to code (back (size v) (size w) z to code p.extends.grows h),
  );
  maps = q.maps ∙ p.maps;
  as_many = q.as_many ∙ p.as_many;
  room = room_on k m l p.as_many p.room q.room;
  kept = kept_on k m l p.kept q.kept;
  names = q.names ∙ p.names;
  grows = let x = p.grows in let y = q.grows in omega (arith, x, y);
  still = still_on k m l v w z p.extends.grows q.extends.grows p.still q.still;
  solid = λ x named.
      let am = p.kept x in
      let first = solid_on m l (r ∷ []) am.0 q.kept q.grows (p.solid x named) in
      (first.0, first.1, q.solid am.0 (named_on k m x p.kept p.names p.grows named));
  few = adds_less (argument_places a + arguments_places as') (0 + 0) (argument_places a + arguments_places as') 0 v z (omega arith) (omega arith) (adds_on (argument_places a) 0 (arguments_places as') 0 v w z p.few q.few);
  a_register_each = let e = q.a_register_each in omega (arith, e, argument_one a);
}

pub follow_start : (s : Setting) (k : Known) (v : Written) (as' : Arguments) → Follow s k v as' k v as' []
follow_start s k v as' = record { by = λ rs l w h. h }

pub follow_next : (s : Setting) (k0 : Known) (v0 : Written) (as0 : Arguments) (k : Known) (v : Written) (a : Argument) (as' : Arguments) (before : List ℕ) (r : ℕ) (m : Known) (w : Written) → Follow s k0 v0 as0 k v (MoreArguments a as') before → Computes s k v a r m w → Follow s k0 v0 as0 m w as' (before ++ r ∷ [])
follow_next s k0 v0 as0 k v a as' before r m w f c = record {
  by = λ rs l z h. subst (λ qs. ComputesAll s k0 v0 as0 qs l z) (append_one before r rs) (f.by (r ∷ rs) l z (computes_more s k v a as' r m w rs l z c h));
}

pub follow_end : (s : Setting) (k0 : Known) (v0 : Written) (as0 : Arguments) (k : Known) (v : Written) (before : List ℕ) → Follow s k0 v0 as0 k v NoArguments before → ComputesAll s k0 v0 as0 before k v
follow_end s k0 v0 as0 k v before f = subst (λ qs. ComputesAll s k0 v0 as0 qs k v) (append_none before) (f.by [] k v (computes_none s k v))

-- the arguments from place i on

pub arguments_at : (ts : List Tree) (i : ℕ) (t : Tree) → slice_get ts i ≡ Some t → arguments (drop i ts) ≡ MoreArguments (argument t) (arguments (drop (suc i) ts))
arguments_at [] i t e = absurd (cc)
arguments_at (u ∷ ts) zero t e = ap (λ x. MoreArguments (argument x) (arguments ts)) (same_some u t e)
  where
    same_some : (x y : Tree) → Some x ≡ Some y → x ≡ y
    same_some x y h = cc
arguments_at (u ∷ ts) (suc i) t e = arguments_at ts i t e

pub follow_at : (s : Setting) (k0 : Known) (v0 : Written) (as0 : Arguments) (k : Known) (v : Written) (ts : List Tree) (i : ℕ) (t : Tree) (before : List ℕ) (r : ℕ) (m : Known) (w : Written) → slice_get ts i ≡ Some t → Follow s k0 v0 as0 k v (arguments (drop i ts)) before → Computes s k v (argument t) r m w → Follow s k0 v0 as0 m w (arguments (drop (suc i) ts)) (before ++ r ∷ [])
follow_at s k0 v0 as0 k v ts i t before r m w e f c =
    follow_next s k0 v0 as0 k v (argument t) (arguments (drop (suc i) ts)) before r m w (subst (λ x. Follow s k0 v0 as0 k v x before) (arguments_at ts i t e) f) c

-- constructors

still_reused : (tb : Table) (hs : List Held) (r t c q : ℕ) → slice_get hs r ≡ Some (H.Bare t c) → kind_of tb (held_at (slice_set (slice_set hs r H.Nothing) r (H.Owned t (Some c))) q) ≡ kind_of tb (held_at hs q)
still_reused tb [] r t c q e = absurd (cc)
still_reused tb (h ∷ hs) zero t c zero e = ap (kind_of tb) (same_some (H.Bare t c) h (sym e))
  where
    same_some : (x y : Held) → Some x ≡ Some y → x ≡ y
    same_some x y i = cc
still_reused tb (h ∷ hs) zero t c (suc q) e = refl
still_reused tb (h ∷ hs) (suc r) t c zero e = refl
still_reused tb (h ∷ hs) (suc r) t c (suc q) e = still_reused tb hs r t c q e

pub builds_reused : (s : Setting) (k m l : Known) (v w : Written) (t c r : ℕ) → TakesBare k t c r m → l ≡ holding m r (H.Owned t (Some c)) → w ≡ v → Builds s k v t c [] r l w
builds_reused s k m l v w t c r h e f =
    three (λ (u : ℕ) y z. Builds s k v t c [] r y z) 0 0 (holding m r (H.Owned t (Some c))) l v w refl e f
    (record {
      extends = same_extends v;
      code = λ to code h'. inl (record { held = h.there; nothing = refl; known = ap (λ x. holding x r (H.Owned t (Some c))) h.known });
      maps = refl;
      as_many = set_length m.held r (H.Owned t (Some c)) ∙ bare_length k m t c r h;
      room = let same : m.next ≡ k.next = ap (λ (x : Known). x.next) h.known in omega (arith, same);
      names = ap (λ (x : Known). x.names) h.known;
      grows = let same : m.next ≡ k.next = ap (λ (x : Known). x.next) h.known in omega (arith, same);
      still = λ e tb q. subst (λ (x : Known). kind_of tb (held_at (slice_set x.held r (H.Owned t (Some c))) q) ≡ kind_of tb (held_at k.held q)) (sym h.known) (still_reused tb k.held r t c q h.there);
      solid = λ a. (let lt = already_used k r t c a h.there in let same : m.next ≡ k.next = ap (λ (x : Known). x.next) h.known in omega (arith, lt, same), set_itself m.held r (H.Owned t (Some c)) refl, tt);
      kept = λ a. (reused_accounted k m (holding m r (H.Owned t (Some c))) t c r h refl a, subst (λ (x : Known). LastGone k.credits x.credits) (sym h.known) (last_same k.credits));
      few = adds_less 0 0 1 0 v v (omega arith) (omega arith) (adds_none v);
    })

built_credit : (b : Bool) (t c m : ℕ) → is_credit_of m (Some (built_if b t c)) ≡ false
built_credit true t c m = refl
built_credit false t c m = refl

pub builds_atom : (s : Setting) (k l : Known) (v w : Written) (t c r : ℕ) → r ≡ k.next → l ≡ with_next k (built s t c) → HasRoom k l → w ≡ added v (I.Atom k.next t c) → Builds s k v t c [] r l w
builds_atom s k l v w t c r e f room g =
    three (λ x y z. Builds s k v t c [] x y z) k.next r (with_next k (built s t c)) l (added v (I.Atom k.next t c)) w e f g
    (record {
      extends = added_extends v (I.Atom k.next t c);
      code = λ to code h. inr (record {
        written = stands v (I.Atom k.next t c) (size v) to code (omega arith) h;
        fresh = refl;
        one = one_longer v (I.Atom k.next t c);
        known = refl;
      });
      maps = refl;
      as_many = set_length k.held k.next (built s t c);
      room = subst (HasRoom k) f room;
      kept = λ a. (next_accounted k (built s t c) (built_credit (is_scalar s t) t c) a, last_same k.credits);
      names = refl;
      grows = omega arith;
      still = λ same tb q. absurd (omega (arith, same, one_longer v (I.Atom k.next t c)));
      solid = λ a. (omega arith, set_itself k.held k.next (built s t c) (of_none (Some (built s t c)) (built_credit (is_scalar s t) t c)), tt);
      few = adds_one v (I.Atom k.next t c);
    })

pub builds_put : (s : Setting) (k m l : Known) (v w : Written) (t c f : ℕ) (fs : List ℕ) (r : ℕ) → Takes k (length (f ∷ fs)) r m → l ≡ holding (using m (used_all m.held (f ∷ fs))) r (H.Owned t (Some c)) → w ≡ added v (I.Put r t c (f ∷ fs)) → Builds s k v t c (f ∷ fs) r l w
builds_put s k m l v w t c f fs r h e g =
    three (λ (u : ℕ) y z. Builds s k v t c (f ∷ fs) r y z) 0 0 (holding (using m (used_all m.held (f ∷ fs))) r (H.Owned t (Some c))) l (added v (I.Put r t c (f ∷ fs))) w refl e g
    (record {
      extends = added_extends v (I.Put r t c (f ∷ fs));
      code = λ to code h'. record {
        credits = h.rest;
        taken = h.taken;
        written = stands v (I.Put r t c (f ∷ fs)) (size v) to code (omega arith) h';
        one = one_longer v (I.Put r t c (f ∷ fs));
        known = ap (λ x. holding (using x (used_all x.held (f ∷ fs))) r (H.Owned t (Some c))) h.known;
      };
      maps = refl;
      as_many = set_length (used_all m.held (f ∷ fs)) r (H.Owned t (Some c)) ∙ used_all_length m.held (f ∷ fs) ∙ takes_length k m (length (f ∷ fs)) r h;
      room = let same : m.next ≡ k.next = ap (λ (x : Known). x.next) h.known in omega (arith, same);
      names = ap (λ (x : Known). x.names) h.known;
      grows = let same : m.next ≡ k.next = ap (λ (x : Known). x.next) h.known in omega (arith, same);
      still = λ same tb q. absurd (omega (arith, same, one_longer v (I.Put r t c (f ∷ fs))));
      solid = λ a. (let lt = credit_used k m (length (f ∷ fs)) r a h in let same : m.next ≡ k.next = ap (λ (x : Known). x.next) h.known in omega (arith, lt, same), set_itself (used_all m.held (f ∷ fs)) r (H.Owned t (Some c)) refl, tt);
      kept = λ a. (filled_accounted k m (holding (using m (used_all m.held (f ∷ fs))) r (H.Owned t (Some c))) (length (f ∷ fs)) r t c (f ∷ fs) h refl a, taken_last k m (length (f ∷ fs)) r h a);
      few = adds_one v (I.Put r t c (f ∷ fs));
    })

pub builds_fields : (s : Setting) (k m l : Known) (v w : Written) (t c : ℕ) (fs : List ℕ) (r : ℕ) → (length fs ≡ 0 → ⊥) → Takes k (length fs) r m → l ≡ holding (using m (used_all m.held fs)) r (H.Owned t (Some c)) → w ≡ added v (I.Put r t c fs) → Builds s k v t c fs r l w
builds_fields s k m l v w t c [] r n h e g = absurd (n refl)
builds_fields s k m l v w t c (f ∷ fs) r n h e g = builds_put s k m l v w t c f fs r h e g

-- registers that are used up

pub used_next : (hs : List Held) (rs : List ℕ) (i r : ℕ) → slice_get rs i ≡ Some r → used_all (used hs r) (drop (suc i) rs) ≡ used_all hs (drop i rs)
used_next hs [] i r e = absurd (cc)
used_next hs (q ∷ rs) zero r e = ap (λ x. used_all (used hs x) rs) (sym (same_some q r e))
  where
    same_some : (x y : ℕ) → Some x ≡ Some y → x ≡ y
    same_some x y h = cc
used_next hs (q ∷ rs) (suc i) r e = used_next hs rs i r e

-- results

pub gives_return : (k k1 k2 l : Known) (v w1 w2 w : Written) (rs : List ℕ) → GivesUp v w1 → GivesUp w1 w2 → w ≡ added w2 (I.Ret rs) → k1 ≡ using k (used_all k.held rs) → Sheds k1 v k2 w1 → Sheds k2 w1 l w2 → Gives k v rs Return l w
gives_return k k1 k2 l v w1 w2 w rs a b e f s t = subst (Gives k v rs Return l) (sym e) whole
  where
    last : Instr
    last = I.Ret rs

    both : GivesUp v w2
    both = Rattle.lower_frame.proofs.lowering_relation.Placing.gives_up_on v w1 w2 a b

    many : registers k1 ≡ registers k
    many = ap registers f ∙ used_all_length k.held rs

    number : (n : ℕ) × (size v + n ≡ size w2)
    number = up_to (size v) (size w2) both.extends.grows

    whole : Gives k v rs Return l (added w2 last)
    whole = record {
      extends = extends_on v w2 (added w2 last) both.extends (added_extends w2 last);
      code = λ to code h. record {
        given_up = number.0;
        give_up = given_up v w2 (added w2 last) (size v) number.0 to code both (added_extends w2 last) h (omega arith) number.1;
        written = ap (slice_get code) number.1 ∙ stands w2 last (size v) to code both.extends.grows h;
        one = one_longer w2 last ∙ ap suc (sym number.1);
      };
      stay = tt;
      few = adds_less (registers k1 + 1) (0 + 0) (suc (registers k) + length rs) 0 v (added w2 last) (omega (arith, many)) (omega arith) (adds_on (registers k1) 0 1 0 v w2 (added w2 last) (adds_shed k1 v l w2 (sheds_on k1 v k2 w1 l w2 s t)) (adds_one w2 last));
    }

moved_so : (code : List Instr) (at : ℕ) (k : Known) (rs ds : List ℕ) (end : ℕ) (l : Known) → MovesLaid code at k rs ds end l → MovedAt code at k rs ds end l
moved_so code at k [] ds end l m = m
moved_so code at k (r ∷ rs) [] end l m = m
moved_so code at k (r ∷ rs) (d ∷ ds) end l m = (m.0, m.1, one m.2, moved_so code m.0 m.1 rs ds end l m.3)
  where
    one : MoveLaid code at k r d m.0 m.1 → IsMove code at k r d m.0 m.1 ⊎ IsThere at k r d m.0 m.1
    one (inl x) = inl x.1
    one (inr x) = inr x

pub gives_into : (k l : Known) (v w : Written) (rs ds : List ℕ) → Moves k v rs ds l w → Gives k v rs (Into ds) l w
gives_into k l v w rs ds m = record { extends = m.extends; code = λ to code h. moved_so code (size v) k rs ds (size w) l (m.code to code h); stay = m.as_many; few = adds_less (length rs) 0 (suc (registers k) + length rs) 0 v w (omega arith) (omega arith) m.few }

hands_none : (k : Known) (v : Written) (rs ds : List ℕ) → HandsOn k v rs ds k v
hands_none k v rs ds = record { names = refl; next = refl; credits = refl; accounts = λ a x. a; still = λ e. refl }

pub moves_there : (k l : Known) (v w : Written) (r d : ℕ) → r ≡ d → l ≡ k → w ≡ v → MovesOne k v r d l w
moves_there k l v w r d e f g =
    three (λ (u : ℕ) y z. MovesOne k v r d y z) 0 0 k l v w refl f g
    (record { extends = same_extends v; code = λ to code h. inr (record { same = e; nothing = refl; known = refl }); maps = refl; hands = hands_none k v (r ∷ []) (d ∷ []); as_many = refl; few = adds_less 0 0 1 0 v v (omega arith) (omega arith) (adds_none v) })

pub moves_word : (k l : Known) (v w : Written) (r d : ℕ) → (r ≡ d → ⊥) → l ≡ moved k d r → w ≡ added v (I.Move d r) → MovesOne k v r d l w
moves_word k l v w r d ne f g =
    three (λ (u : ℕ) y z. MovesOne k v r d y z) 0 0 (moved k d r) l (added v (I.Move d r)) w refl f g
    (record {
      extends = added_extends v (I.Move d r);
      code = λ to code h. inl (
        ne,
        record {
          written = stands v (I.Move d r) (size v) to code (omega arith) h;
          one = one_longer v (I.Move d r);
          known = refl;
        },
      );
      maps = refl;
      hands = record {
        names = refl;
        next = refl;
        credits = refl;
        accounts = λ a x. moved_accounted k r d a x.1 x.2 x.3;
        still = λ same. absurd (omega (arith, same, one_longer v (I.Move d r)));
      };
      as_many = set_length (used k.held r) d (as_value (get_or k.held r H.Nothing)) ∙ used_length k.held r;
      few = adds_one v (I.Move d r);
    })

moves_none : (k : Known) (v : Written) (rs : List ℕ) → Moves k v rs [] k v
moves_none k v [] = record { extends = same_extends v; code = λ to code h'. (refl, refl); maps = refl; hands = hands_none k v [] []; as_many = refl; few = adds_none v }
moves_none k v (r ∷ rs) = record { extends = same_extends v; code = λ to code h'. (refl, refl); maps = refl; hands = hands_none k v (r ∷ rs) []; as_many = refl; few = adds_less 0 0 (length (r ∷ rs)) 0 v v (omega arith) (omega arith) (adds_none v) }

moves_over : (k : Known) (v : Written) (ds : List ℕ) → Moves k v [] ds k v
moves_over k v ds = record { extends = same_extends v; code = λ to code h'. (refl, refl); maps = refl; hands = hands_none k v [] ds; as_many = refl; few = adds_none v }

hands_any : (k : Known) (v : Written) (l : Known) (w : Written) (rs qs : List ℕ) → Movable k rs [] → HandsOn k v rs [] l w → HandsOn k v qs [] l w
hands_any k v l w rs qs x h = record { names = h.names; next = h.next; credits = h.credits; accounts = λ a y. h.accounts a x; still = h.still }

-- without destinations nothing is moved
moves_any : (k l : Known) (v w : Written) (rs qs : List ℕ) → length rs ≤ length qs → Moves k v rs [] l w → Moves k v qs [] l w
moves_any k l v w [] [] n m = record { extends = m.extends; code = m.code; maps = m.maps; hands = m.hands; as_many = m.as_many; few = m.few }
moves_any k l v w [] (q ∷ qs) n m = record { extends = m.extends; code = m.code; maps = m.maps; hands = hands_any k v l w [] (q ∷ qs) tt m.hands; as_many = m.as_many; few = adds_less 0 0 (length (q ∷ qs)) 0 v w n (omega arith) m.few }
moves_any k l v w (r ∷ rs) [] n m = absurd (omega (arith, n))
moves_any k l v w (r ∷ rs) (q ∷ qs) n m = record { extends = m.extends; code = m.code; maps = m.maps; hands = hands_any k v l w (r ∷ rs) (q ∷ qs) tt m.hands; as_many = m.as_many; few = adds_less (length (r ∷ rs)) 0 (length (q ∷ qs)) 0 v w n (omega arith) m.few }

movable_on : (k m : Known) (rs ds : List ℕ) → k.next ≤ m.next → ((r : ℕ) → is_credit (slice_get k.held r) ≡ false → is_credit (slice_get m.held r) ≡ false) → Movable k rs ds → Movable m rs ds
movable_on k m [] ds le f x = tt
movable_on k m (r ∷ rs) [] le f x = tt
movable_on k m (r ∷ rs) (d ∷ ds) le f x = (let a = x.0 in omega (arith, a, le), f r x.1, (let a = x.2 in omega (arith, a, le)), f d x.3, movable_on k m rs ds le f x.4)

hands_more : (k : Known) (v : Written) (m : Known) (w : Written) (l : Known) (z : Written) (r d : ℕ) (rs ds : List ℕ) → size v ≤ size w → size w ≤ size z → HandsOn k v (r ∷ []) (d ∷ []) m w → HandsOn m w rs ds l z → HandsOn k v (r ∷ rs) (d ∷ ds) l z
hands_more k v m w l z r d rs ds first second a b = record {
  names = b.names ∙ a.names;
  next = b.next ∙ a.next;
  credits = b.credits ∙ a.credits;
  accounts = λ ac x.
      let am : Accounted m = a.accounts ac (x.0, x.1, x.2, x.3, tt) in
      let gone : LastGone k.credits m.credits = subst (LastGone k.credits) (sym a.credits) (last_same k.credits) in
      b.accounts am (movable_on k m rs ds (let e = a.next in omega (arith, e)) (λ q. no_new_credit k m q ac am gone) x.4);
  still = λ e. b.still (omega (arith, first, second, e)) ∙ a.still (omega (arith, first, second, e));
}

moves_more : (k m l : Known) (v w z : Written) (r d : ℕ) (rs ds : List ℕ) → MovesOne k v r d m w → Moves m w rs ds l z → Moves k v (r ∷ rs) (d ∷ ds) l z
moves_more k m l v w z r d rs ds a b = record {
  extends = extends_on v w z a.extends b.extends;
  code = λ to code h. (
    size w,
    m,
    a.code to code (front (size v) w z to code b.extends h),
    b.code to code (back (size v) (size w) z to code a.extends.grows h),
  );
  maps = b.maps ∙ a.maps;
  hands = hands_more k v m w l z r d rs ds a.extends.grows b.extends.grows a.hands b.hands;
  as_many = b.as_many ∙ a.as_many;
  few = adds_less (1 + length rs) (0 + 0) (length (r ∷ rs)) 0 v z (omega arith) (omega arith) (adds_on 1 0 (length rs) 0 v w z a.few b.few);
}

pub moves_start : (k : Known) (v : Written) (rs ds : List ℕ) → FollowMoves k v rs ds k v rs ds
moves_start k v rs ds = record { by = λ l w h. h }

pub moves_next : (k0 : Known) (v0 : Written) (rs0 ds0 : List ℕ) (k m : Known) (v w : Written) (r d : ℕ) (rs ds : List ℕ) → FollowMoves k0 v0 rs0 ds0 k v (r ∷ rs) (d ∷ ds) → MovesOne k v r d m w → FollowMoves k0 v0 rs0 ds0 m w rs ds
moves_next k0 v0 rs0 ds0 k m v w r d rs ds f a = record { by = λ l z h. f.by l z (moves_more k m l v w z r d rs ds a h) }

pub moves_at : (k0 : Known) (v0 : Written) (rs0 ds0 : List ℕ) (k m : Known) (v w : Written) (rs ds : List ℕ) (i r d : ℕ) → slice_get rs i ≡ Some r → slice_get ds i ≡ Some d → FollowMoves k0 v0 rs0 ds0 k v (drop i rs) (drop i ds) → MovesOne k v r d m w → FollowMoves k0 v0 rs0 ds0 m w (drop (suc i) rs) (drop (suc i) ds)
moves_at k0 v0 rs0 ds0 k m v w rs ds i r d e f h a =
    moves_next k0 v0 rs0 ds0 k m v w r d (drop (suc i) rs) (drop (suc i) ds)
    (subst (λ x. FollowMoves k0 v0 rs0 ds0 k v x (d ∷ drop (suc i) ds)) (at_drop rs i r e) (subst (λ x. FollowMoves k0 v0 rs0 ds0 k v (drop i rs) x) (at_drop ds i d f) h)) a

drop_none : {A : Type 0} (xs : List A) (i : ℕ) → slice_get xs i ≡ None → (drop i xs ≡ []) × (drop (suc i) xs ≡ [])
drop_none [] zero e = (refl, refl)
drop_none [] (suc i) e = (refl, refl)
drop_none (x ∷ xs) zero e = absurd (cc)
drop_none (x ∷ xs) (suc i) e = drop_none xs i e

drop_less : {A : Type 0} (xs : List A) (i : ℕ) → length (drop (suc i) xs) ≤ length (drop i xs)
drop_less [] zero = omega arith
drop_less [] (suc i) = omega arith
drop_less (x ∷ xs) zero = omega arith
drop_less (x ∷ xs) (suc i) = drop_less xs i

pub moves_step : (k0 : Known) (v0 : Written) (rs0 ds0 : List ℕ) (k m : Known) (v w : Written) (rs ds : List ℕ) (i r : ℕ) → slice_get rs i ≡ Some r → FollowMoves k0 v0 rs0 ds0 k v (drop i rs) (drop i ds) → MovesTo k v r (slice_get ds i) m w → FollowMoves k0 v0 rs0 ds0 m w (drop (suc i) rs) (drop (suc i) ds)
moves_step k0 v0 rs0 ds0 k m v w rs ds i r e h t = by_get (slice_get ds i) refl t
  where
    by_get : (o : Option ℕ) → slice_get ds i ≡ o → MovesTo k v r o m w → FollowMoves k0 v0 rs0 ds0 m w (drop (suc i) rs) (drop (suc i) ds)
    by_get None f t' =
        let none = drop_none ds i f in
        subst (λ x. FollowMoves k0 v0 rs0 ds0 m w (drop (suc i) rs) x) (sym none.1)
        (three (λ (u : ℕ) x y. FollowMoves k0 v0 rs0 ds0 x y (drop (suc i) rs) []) 0 0 k m v w refl t'.0 t'.1
        (record { by = λ l z n. (subst (λ x. FollowMoves k0 v0 rs0 ds0 k v (drop i rs) x) none.0 h).by l z (moves_any k l v z (drop (suc i) rs) (drop i rs) (drop_less rs i) n) }))
    by_get (Some d) f t' = moves_at k0 v0 rs0 ds0 k m v w rs ds i r d e f h t'

pub moves_end : (k0 : Known) (v0 : Written) (rs0 ds0 : List ℕ) (k : Known) (v : Written) (ds : List ℕ) → FollowMoves k0 v0 rs0 ds0 k v [] ds → Moves k0 v0 rs0 ds0 k v
moves_end k0 v0 rs0 ds0 k v ds f = f.by k v (moves_over k v ds)

pub follow_done : (s : Setting) (k0 : Known) (v0 : Written) (as0 : Arguments) (k : Known) (v : Written) (ts : List Tree) (i : ℕ) (before : List ℕ) → length ts ≤ i → Follow s k0 v0 as0 k v (arguments (drop i ts)) before → ComputesAll s k0 v0 as0 before k v
follow_done s k0 v0 as0 k v ts i before e f = follow_end s k0 v0 as0 k v before (subst (λ x. Follow s k0 v0 as0 k v (arguments x) before) (drop_done ts i e) f)

pub moves_done : (k0 : Known) (v0 : Written) (rs0 ds0 : List ℕ) (k : Known) (v : Written) (rs ds : List ℕ) (i : ℕ) → length rs ≤ i → FollowMoves k0 v0 rs0 ds0 k v (drop i rs) ds → Moves k0 v0 rs0 ds0 k v
moves_done k0 v0 rs0 ds0 k v rs ds i e f = moves_end k0 v0 rs0 ds0 k v ds (subst (λ x. FollowMoves k0 v0 rs0 ds0 k v x ds) (drop_done rs i e) f)

pub used_on : (k m : Known) (rs : List ℕ) (i r : ℕ) → slice_get rs i ≡ Some r → m ≡ using k (used k.held r) → using m (used_all m.held (drop (suc i) rs)) ≡ using k (used_all k.held (drop i rs))
used_on k m rs i r e f = ap (λ x. using x (used_all x.held (drop (suc i) rs))) f ∙ ap (using k) (used_next k.held rs i r e)

-- the place is counted beside the loop
pub moves_to : (k0 : Known) (v0 : Written) (rs0 ds0 : List ℕ) (k m : Known) (v w : Written) (rs ds : List ℕ) (i j n r : ℕ) → j ≡ i → n ≡ suc j → slice_get rs i ≡ Some r → FollowMoves k0 v0 rs0 ds0 k v (drop j rs) (drop j ds) → MovesTo k v r (slice_get ds j) m w → FollowMoves k0 v0 rs0 ds0 m w (drop n rs) (drop n ds)
moves_to k0 v0 rs0 ds0 k m v w rs ds i j n r a b e f t = subst (λ z. FollowMoves k0 v0 rs0 ds0 m w (drop z rs) (drop z ds)) (sym b) (moves_step k0 v0 rs0 ds0 k m v w rs ds j r (ap (slice_get rs) a ∙ e) f t)

pub follow_to : (s : Setting) (k0 : Known) (v0 : Written) (as0 : Arguments) (k : Known) (v : Written) (ts : List Tree) (i j : ℕ) (t : Tree) (before rs : List ℕ) (r : ℕ) (m : Known) (w : Written) → j ≡ suc i → slice_get ts i ≡ Some t → Follow s k0 v0 as0 k v (arguments (drop i ts)) before → Computes s k v (argument t) r m w → rs ≡ before ++ r ∷ [] → Follow s k0 v0 as0 m w (arguments (drop j ts)) rs
follow_to s k0 v0 as0 k v ts i j t before rs r m w a e f c g =
    subst (λ z. Follow s k0 v0 as0 m w (arguments (drop z ts)) rs) (sym a) (subst (Follow s k0 v0 as0 m w (arguments (drop (suc i) ts))) (sym g) (follow_at s k0 v0 as0 k v ts i t before r m w e f c))

pub ruleset writing = (computes_variable, computes_literal, computes_constructor, builds_reused, builds_atom, builds_fields)

pub ruleset following = (follow_start, follow_at, follow_done)

pub ruleset using_up = (used_on)

pub ruleset moving = (moves_there, moves_word, moves_start, moves_step, moves_done)

pub ruleset giving = (gives_return, gives_into)

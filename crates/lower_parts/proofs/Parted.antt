-- How arguments whose values are handed on are laid out, and calls and operators of arguments.
use Rattle.std.proofs.Common.{◌≡◌, ◌⊎◌, inl, inr, refl, sym, ap, ◌∙◌, subst, arith, ℕ, ◌≤◌, ◌<◌, Bool, false, List, [], ◌∷◌, Some, None}
use Rattle.std.specs.Prelude.{◌==◌, if◌then◌else◌}
use Rattle.std.proofs.lemmas.Bool.{cases_eq}
use Rattle.std.proofs.lemmas.Bool.Decides.{nat_tests}
use Rattle.fip_language.specs.declared.Operator.{Operator}
use Rattle.fip_language.specs.declared.Place.{Place}
use Rattle.fip_language.specs.Table.{Table}
use Rattle.fip_trees.specs.Tree.{Argument, Arguments, NoArguments, MoreArguments}
use Rattle.cell_code.specs.declared.kind.Kind.{Kind}
use Rattle.cell_code.specs.Plain.{LabelMap, PlainFunction, PlainCode}
use Rattle.lower_frame.specs.code_rules.Codes.{label_at}
use Rattle.lower_frame.specs.lowering_relation.Known.{Known}
use Rattle.lower_frame.specs.lowering_relation.Values.{Setting}
use Rattle.lower_frame.specs.lowering_relation.LoweredBodies.{Target, Return, Into}
use Rattle.lower_frame.specs.lowering_relation.Written.{Written, size, Extends, HasFrom}
use Rattle.lower_frame.proofs.lowering_relation.Placing.{front, back}
use Rattle.lower_frame.specs.lowering_relation.Credits.{LastGone}
use Rattle.lower_frame.specs.lowering_relation.Describing.{held_at, kind_of, kinds_of}
use Rattle.lower_frame.specs.lowering_relation.Labels.{reported, Reports, Quiet}
use Rattle.lower_frame.specs.lowering_relation.LaidBodies.{ValuesLaid}
use Rattle.lower_frame.specs.Credits.{Accounted, AllSolid}
use Rattle.lower_frame.specs.Labels.{Rising}
use Rattle.lower_frame.specs.Registers.{registers}
use Rattle.lower_frame.proofs.Accounts.{last_same}
use Rattle.lower_parts.specs.Growth.{Stay}
use Rattle.lower_parts.specs.Laying.{AccountedAt, IntoAt, ResultsIn, GivesLaid, OperatesLaid, CallsLaid, HasPart, Underway, GivesValuesLaid, AppliesLaid, AppliedLaid}
use Rattle.lower_parts.specs.Writing.{HandsOn, Kept, Movable, Named, Still, Computes, ComputesAll, Gives, Operates, CallsAt}
use Rattle.lower_parts.proofs.Writing.{computes_none, computes_more, named_on, solid_on}
use Rattle.lower_parts.proofs.Laying.{room_then}
use Rattle.fip_language.proofs.Facts.{unequal_false as unequal_is}
use Rattle.lower_parts.proofs.Laying.{at_end}

-- no label stands past the last one

pub none_past : (high low : ℕ) (ms : List LabelMap) (p : ℕ) → Rising high low ms → high < p → label_at ms p ≡ None
none_past high low [] p r lt = refl
none_past high low (m ∷ ms) p r lt = ap (λ b. if b then Some m.kinds else label_at ms p) (unequal_is m.at p (λ e. absurd (omega (arith, e, lt, r.1)))) ∙ none_past high m.at ms p r.2 lt

-- what is reported in a part that reports nothing itself
pub quiet_part : (tb : Table) (k : Known) (v w : Written) → w.maps ≡ v.maps → Underway tb k v → (c : PlainCode) (to : ℕ → ℕ) (f : PlainFunction) → c.types ≡ tb → f.registers ≡ registers k → HasPart (size v) w to f → Quiet f (size v) (size w) (reported c k)
quiet_part tb k v w same under c to f types many has = record {
  first = λ lt map e. reports map (under.shown map (sym (has.reported (size v) (omega arith) lt ∙ ap (λ ms. label_at ms (size v)) same) ∙ e));
  others = λ p low high. has.reported p (omega (arith, low)) high ∙ ap (λ ms. label_at ms p) same ∙ none_past (size v) 0 v.maps p under.rising low;
}
  where
    reports : (map : List Kind) → Reports (registers k) map (kinds_of tb (held_at k.held)) → Reports f.registers map (reported c k)
    reports map t = subst (λ n. Reports n map (kinds_of c.types (held_at k.held))) (sym many) (subst (λ x. Reports (registers k) map (kinds_of x (held_at k.held))) (sym types) t)

-- where lowering goes on

under_on : (tb : Table) (m l : Known) (u w : Written) → w.maps ≡ u.maps → size u ≤ size w → (size w ≡ size u → Still m l) → registers l ≡ registers m → Accounted l → l.next ≤ registers l → Named l → Underway tb m u → Underway tb l w
under_on tb m l u w same le still many a room named under = record {
  accounts = a;
  named = named;
  room = room;
  rising = subst (Rising (size w) 0) (sym same) (higher (size u) (size w) 0 u.maps le under.rising);
  shown = λ map e. by map e (split (size w) (size u));
}
  where
    higher : (n m low : ℕ) (ms : List LabelMap) → n ≤ m → Rising n low ms → Rising m low ms
    higher n m low [] h r = tt
    higher n m low (x ∷ ms) h r = (r.0, omega (arith, h, r.1), higher n m x.at ms h r.2)

    split : (a b : ℕ) → (a ≡ b) ⊎ (a ≡ b → ⊥)
    split a b = cases_eq a b

    here : (map : List Kind) → label_at w.maps (size w) ≡ Some map → (size w ≡ size u) → Reports (registers m) map (kinds_of tb (held_at m.held))
    here map e z = under.shown map (sym (ap (λ ms. label_at ms (size u)) same) ∙ ap (λ n. label_at w.maps n) (sym z) ∙ e)

    by : (map : List Kind) → label_at w.maps (size w) ≡ Some map → (size w ≡ size u) ⊎ (size w ≡ size u → ⊥) → Reports (registers l) map (kinds_of tb (held_at l.held))
    by map e (inl z) = let t = here map e z in record { wide = t.wide ∙ sym many; each = λ r. t.each r ∙ sym (still z tb r) }
    by map e (inr z) = absurd (none_some (sym (ap (λ ms. label_at ms (size w)) same ∙ none_past (size u) 0 u.maps (size w) under.rising (omega (arith, le, z))) ∙ e))
      where
        none_some : None ≡ Some map → ⊥
        none_some x = absurd (cc)

pub under_values : (s : Setting) (k m : Known) (v u : Written) (as' : Arguments) (rs : List ℕ) → ComputesAll s k v as' rs m u → Underway s.types k v → Underway s.types m u
under_values s k m v u as' rs p under =
    under_on s.types k m v u p.maps p.extends.grows p.still p.as_many (p.kept under.accounts).0 (let a = p.room in let b = under.room in let c = p.as_many in omega (arith, a, b, c))
    (named_on k m under.accounts p.kept p.names p.grows under.named) under

movable : (k : Known) (rs ds : List ℕ) → AllSolid k rs → AllSolid k ds → Movable k rs ds
movable k [] ds x y = tt
movable k (r ∷ rs) [] x y = tt
movable k (r ∷ rs) (d ∷ ds) x y = (x.0, x.1, y.0, y.1, movable k rs ds x.2 y.2)

into_given : (s : Setting) (target : Target) (k m l : Known) (v u w : Written) (as' : Arguments) (rs : List ℕ) → ComputesAll s k v as' rs m u → Extends u w → w.maps ≡ u.maps → Stay target m l → IntoAt target (λ ds. HandsOn m u rs ds l w) → IntoAt target (λ ds. Underway s.types k v → AllSolid k ds → Underway s.types l w)
into_given s Return k m l v u w as' rs p later same many h = tt
into_given s (Into ds) k m l v u w as' rs p later same many h = λ under solid.
    let um : Underway s.types m u = under_values s k m v u as' rs p under in
    let rm : AllSolid m rs = p.solid under.accounts under.named in
    let dm : AllSolid m ds = solid_on k m ds under.accounts p.kept p.grows solid in
    let al : Accounted l = h.accounts um.accounts (movable m rs ds rm dm) in
    let kept : Kept m l = λ a. (al, subst (LastGone m.credits) (sym h.credits) (last_same m.credits)) in
    under_on s.types m l u w same later.grows (λ e tb r. ap (λ (x : Known). kind_of tb (held_at x.held r)) (h.still e)) many al (let a = um.room in let n = h.next in omega (arith, a, n, many))
    (named_on m l um.accounts kept h.names (let n = h.next in omega (arith, n)) um.named) um

into_results : (s : Setting) (target : Target) (k m l : Known) (v u w : Written) (as' : Arguments) (rs : List ℕ) → ComputesAll s k v as' rs m u → w.maps ≡ u.maps → Stay target m l → IntoAt target (λ ds. ResultsIn m u ds l w) → IntoAt target (λ ds. Underway s.types k v → AllSolid k ds → Underway s.types l w)
into_results s Return k m l v u w as' rs p same many x = tt
into_results s (Into ds) k m l v u w as' rs p same many x = λ under solid.
    let um : Underway s.types m u = under_values s k m v u as' rs p under in
    let dm : AllSolid m ds = solid_on k m ds under.accounts p.kept p.grows solid in
    let al = x.accounts um.accounts dm in
    under_on s.types m l u w same (let z = x.longer in omega (arith, z)) (λ e. absurd (let z = x.longer in omega (arith, z, e))) many al.0 (let a = um.room in let n = x.room in omega (arith, a, n, many))
    (named_on m l um.accounts (λ a. al) x.names x.grows um.named) um

-- values, and what they leave

pub values_laid : (s : Setting) (k m : Known) (v u w : Written) (as' : Arguments) (rs : List ℕ) → ComputesAll s k v as' rs m u → Extends u w → Underway s.types k v → (c : PlainCode) (to : ℕ → ℕ) (f : PlainFunction) → f.registers ≡ registers k → HasFrom (size v) w to f.instrs → ValuesLaid c s f (size v) k as' rs (size u) m
values_laid s k m v u w as' rs p later under c to f many has = record {
  arguments = p.code to f.instrs (front (size v) u w to f.instrs later has);
  room = let a = p.room in let b = under.room in omega (arith, a, b, many);
  last = (p.kept under.accounts).1;
}

pub gives_values_laid : (s : Setting) (fip : Bool) (k m l : Known) (v u w : Written) (as' : Arguments) (rs : List ℕ) (target : Target) → ComputesAll s k v as' rs m u → Gives m u rs target l w → GivesLaid fip m u rs target l w → GivesValuesLaid s fip k v as' target l w
gives_values_laid s fip k m l v u w as' rs target p given g = record {
  maps = same;
  room = room_then k m l p.as_many p.room g.room;
  by = λ under c to f types many has. record {
    registers = rs;
    mid = size u;
    m = m;
    values = values_laid s k m v u w as' rs p given.extends under c to f many has.code;
    given = g.by (at_end target m (p.kept under.accounts).0) to f (back (size v) (size u) w to f.instrs p.extends.grows has.code);
    quiet = quiet_part s.types k v w same under c to f types many has;
  };
  into = into_given s target k m l v u w as' rs p given.extends g.maps given.stay g.into;
}
  where
    same : w.maps ≡ v.maps
    same = g.maps ∙ p.maps

pub computes_one : (s : Setting) (k m : Known) (v u : Written) (a : Argument) (r : ℕ) → Computes s k v a r m u → ComputesAll s k v (MoreArguments a NoArguments) (r ∷ []) m u
computes_one s k m v u a r p = computes_more s k v a NoArguments r m u [] m u p (computes_none s m u)

pub gives_one_laid : (s : Setting) (fip : Bool) (k m l : Known) (v u w : Written) (a : Argument) (r : ℕ) (target : Target) → Computes s k v a r m u → Gives m u (r ∷ []) target l w → GivesLaid fip m u (r ∷ []) target l w → GivesValuesLaid s fip k v (MoreArguments a NoArguments) target l w
gives_one_laid s fip k m l v u w a r target p given g = gives_values_laid s fip k m l v u w (MoreArguments a NoArguments) (r ∷ []) target (computes_one s k m v u a r p) given g

pub applies_laid : (s : Setting) (fip : Bool) (k m l : Known) (v u w : Written) (g : ℕ) (as' : Arguments) (rs : List ℕ) (target : Target) → ComputesAll s k v as' rs m u → CallsAt s m u g rs target l w → CallsLaid s fip m u g rs target l w → AppliesLaid s fip k v g as' target l w
applies_laid s fip k m l v u w g as' rs target p at call = record {
  maps = same;
  room = room_then k m l p.as_many p.room call.room;
  by = λ under c to f types many has. record {
    registers = rs;
    mid = size u;
    m = m;
    values = values_laid s k m v u w as' rs p at.extends under c to f many has.code;
    call = call.by (p.kept under.accounts).0 to f (back (size v) (size u) w to f.instrs p.extends.grows has.code);
    quiet = quiet_part s.types k v w same under c to f types many has;
  };
  into = into_results s target k m l v u w as' rs p call.maps at.stay call.into;
}
  where
    same : w.maps ≡ v.maps
    same = call.maps ∙ p.maps

pub applied_laid : (s : Setting) (fip : Bool) (k m n l : Known) (v u x w : Written) (o : Operator) (p : Place) (a b : Argument) (q r : ℕ) (target : Target) → Computes s k v a q m u → Computes s m u b r n x → Operates n x o p q r target l w → OperatesLaid fip n x o p q r target l w → AppliedLaid s fip k v o p a b target l w
applied_laid s fip k m n l v u x w o p a b q r target one two at operates = record {
  maps = same;
  room = room_then k n l both.as_many both.room operates.room;
  by = λ under c to f types many has.
      let done = operates.by (at_end target n (both.kept under.accounts).0) to f (back (size v) (size x) w to f.instrs both.extends.grows has.code) in
      record {
        left = q;
        right = r;
        mid = size x;
        m = n;
        values = values_laid s k n v x w (MoreArguments a (MoreArguments b NoArguments)) (q ∷ r ∷ []) both at.extends under c to f many has.code;
        operation = done.0;
        one_more = let y = done.1 in let z = both.room in let e = under.room in let e' = both.as_many in omega (arith, y, z, e, e', many);
        quiet = quiet_part s.types k v w same under c to f types many has;
      };
  into = into_results s target k n l v x w (MoreArguments a (MoreArguments b NoArguments)) (q ∷ r ∷ []) both operates.maps at.stay operates.into;
}
  where
    both : ComputesAll s k v (MoreArguments a (MoreArguments b NoArguments)) (q ∷ r ∷ []) n x
    both = computes_more s k v a (MoreArguments b NoArguments) q m u (r ∷ []) n x one (computes_one s m n u x b r two)

    same : w.maps ≡ v.maps
    same = operates.maps ∙ both.maps

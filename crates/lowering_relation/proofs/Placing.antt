-- What was written stays, and labels that have a place keep it.
use Rattle.std.proofs.Common.{◌≡◌, inl, inr, refl, sym, ap, ◌∙◌, subst, arith, ℕ, zero, suc, ◌+◌, ◌<◌, ◌≤◌, List, [], ◌∷◌, ◌++◌, length, length-append, map, Option, Some, None, slice_get, slice_set}
use Rattle.std.specs.Prelude.{◌⊎◌, option_map}
use Rattle.tree_semantics.proofs.fip_language.Search.{le_or_less}
use Rattle.std.proofs.lemmas.Option.{slice_get-map}
use Rattle.code_rules.specs.cell_code.declared.code.Instr.{Instr}
use Rattle.code_rules.specs.cell_code.declared.code.Instr.TheVariants as I
use Rattle.code_rules.specs.cell_code.Plain.{LabelMap}
use Rattle.code_rules.specs.Codes.{label_at}
use Rattle.lowering_relation.specs.Known.{joined}
use Rattle.lowering_relation.specs.LoweredBodies as B
use Rattle.lowering_relation.specs.Written.{Written, size, settled, IsAt, Extends, HasFrom, added, or_zero, place_of, GivesUp}
use Rattle.match_knowledge.proofs.fip_base.fip_language.Facts.{get_more as kept_by, same_some}

pub same_extends : (v : Written) → Extends v v
same_extends v = record { grows = omega arith; same = λ p i h. h; placed = λ l p h. h; reported = λ p h. refl }

pub extends_on : (v w z : Written) → Extends v w → Extends w z → Extends v z
extends_on v w z a b = record {
  grows = let p = a.grows in let q = b.grows in omega (arith, p, q);
  same = λ p i h. b.same p i (a.same p i h);
  placed = λ l p h. b.placed l p (a.placed l p h);
  reported = λ p h. b.reported p (let g = a.grows in omega (arith, g, h)) ∙ a.reported p h;
}

stands_last : (xs : List Instr) (i : Instr) → slice_get (xs ++ i ∷ []) (length xs) ≡ Some i
stands_last [] i = refl
stands_last (x ∷ xs) i = stands_last xs i

pub one_longer : (v : Written) (i : Instr) → size (added v i) ≡ suc (size v)
one_longer v i = omega (arith, length-append v.instrs (i ∷ []))

pub added_extends : (v : Written) (i : Instr) → Extends v (added v i)
added_extends v i = record { grows = omega (arith, one_longer v i); same = kept_by v.instrs (i ∷ []); placed = λ l p h. h; reported = λ p h. refl }

pub added_to_extends : (v w : Written) (i : Instr) → w ≡ added v i → Extends v w
added_to_extends v w i e = subst (Extends v) (sym e) (added_extends v i)

-- what was written before, and after
pub front : (n : ℕ) (w z : Written) (to : ℕ → ℕ) (code : List Instr) → Extends w z → HasFrom n z to code → HasFrom n w to code
front n w z to code e h = record { by = λ p i le s. h.by p i le (e.same p i s); at = λ l p a. h.at l p (e.placed l p a) }

pub back : (n m : ℕ) (z : Written) (to : ℕ → ℕ) (code : List Instr) → n ≤ m → HasFrom n z to code → HasFrom m z to code
back n m z to code less h = record { by = λ p i le s. h.by p i (omega (arith, less, le)) s; at = h.at }

pub stands : (v : Written) (i : Instr) (n : ℕ) (to : ℕ → ℕ) (code : List Instr) → n ≤ size v → HasFrom n (added v i) to code → slice_get code (size v) ≡ Some (settled to i)
stands v i n to code le h = h.by (size v) i le (stands_last v.instrs i)

-- labels

get_pushed : (ps : List (Option ℕ)) (o : Option ℕ) (l p : ℕ) → joined (slice_get ps l) ≡ Some p → joined (slice_get (ps ++ o ∷ []) l) ≡ Some p
get_pushed [] o l p h = absurd (cc)
get_pushed (q ∷ ps) o zero p h = h
get_pushed (q ∷ ps) o (suc l) p h = get_pushed ps o l p h

pub label_extends : (is : List Instr) (ps qs : List (Option ℕ)) (ms : List LabelMap) → qs ≡ ps ++ None ∷ [] → Extends (record { instrs = is; places = ps; maps = ms }) (record { instrs = is; places = qs; maps = ms })
label_extends is ps qs ms e = record { grows = omega arith; same = λ p i h. h; placed = λ l p h. ap (λ x. joined (slice_get x l)) e ∙ get_pushed ps None l p h; reported = λ p h. refl }

set_keeps : (ps : List (Option ℕ)) (n here l p : ℕ) → slice_get ps n ≡ Some None → joined (slice_get ps l) ≡ Some p → joined (slice_get (slice_set ps n (Some here)) l) ≡ Some p
set_keeps [] n here l p e h = absurd (cc)
set_keeps (q ∷ ps) zero here zero p e h = absurd (none_some (sym (ap joined e) ∙ h))
  where
    none_some : None ≡ Some p → ⊥
    none_some x = absurd (cc)
set_keeps (q ∷ ps) zero here (suc l) p e h = h
set_keeps (q ∷ ps) (suc n) here zero p e h = h
set_keeps (q ∷ ps) (suc n) here (suc l) p e h = set_keeps ps n here l p e h

set_there : (ps : List (Option ℕ)) (n here : ℕ) (o : Option ℕ) → slice_get ps n ≡ Some o → joined (slice_get (slice_set ps n (Some here)) n) ≡ Some here
set_there [] n here o e = absurd (cc)
set_there (q ∷ ps) zero here o e = refl
set_there (q ∷ ps) (suc n) here o e = set_there ps n here o e

pub put_extends : (is : List Instr) (ps qs : List (Option ℕ)) (ms ns : List LabelMap) (n here : ℕ) → slice_get ps n ≡ Some None → qs ≡ slice_set ps n (Some here) → ((p : ℕ) → p < length is → label_at ns p ≡ label_at ms p) → Extends (record { instrs = is; places = ps; maps = ms }) (record { instrs = is; places = qs; maps = ns })
put_extends is ps qs ms ns n here e f t = record { grows = omega arith; same = λ p i h. h; placed = λ l p h. ap (λ x. joined (slice_get x l)) f ∙ set_keeps ps n here l p e h; reported = t }

pub put_there : (is : List Instr) (ps qs : List (Option ℕ)) (ms : List LabelMap) (n here p : ℕ) → slice_get ps n ≡ Some None → qs ≡ slice_set ps n (Some here) → here ≡ p → IsAt (record { instrs = is; places = qs; maps = ms }) n p
put_there is ps qs ms n here p e f g = ap (λ x. joined (slice_get x n)) f ∙ set_there ps n here None e ∙ ap Some g

pub ruleset placing = (label_extends, put_extends, put_there, same_extends, added_to_extends)

-- the whole
pub has_all : (w : Written) (code : List Instr) → code ≡ map (settled (place_of w.places)) w.instrs → HasFrom 0 w (place_of w.places) code
has_all w code e = record {
  by = λ p i le s. ap (λ x. slice_get x p) e ∙ slice_get-map (settled (place_of w.places)) w.instrs p ∙ ap (option_map (settled (place_of w.places))) s;
  at = λ l p h. ap or_zero h;
}

-- instructions that give up

pub gives_none : (v : Written) → GivesUp v v
gives_none v = record { extends = same_extends v; only = λ p le lt. absurd (omega (arith, le, lt)) }

still_up : (to : ℕ → ℕ) (i : Instr) → B.GivesUp (Some i) → B.GivesUp (Some (settled to i))
still_up to (I.Const d v) h = h
still_up to (I.Atom d t c) h = h
still_up to (I.Move d r) h = h
still_up to (I.Arith d o x y line col) h = h
still_up to (I.Test r c label) h = h
still_up to (I.TestInt r v label) h = h
still_up to (I.Peek d r i) h = h
still_up to (I.Take r ds) h = h
still_up to (I.Put r t c ss) h = h
still_up to (I.Drop r) h = h
still_up to (I.Free r) h = h
still_up to (I.Call f ss ds) h = h
still_up to (I.Tail f ss) h = h
still_up to (I.Ret ss) h = h
still_up to (I.Jump label) h = h

up_some : (o : Option Instr) → B.GivesUp o → (i : Instr) × (o ≡ Some i)
up_some None h = absurd h
up_some (Some i) h = (i, refl)

kept_up : (v w : Written) (p : ℕ) → Extends v w → B.GivesUp (slice_get v.instrs p) → B.GivesUp (slice_get w.instrs p)
kept_up v w p e h = let s = up_some (slice_get v.instrs p) h in subst B.GivesUp (s.1 ∙ sym (e.same p s.0 s.1)) h

pub gives_up_on : (v w z : Written) → GivesUp v w → GivesUp w z → GivesUp v z
gives_up_on v w z a b = record {
  extends = extends_on v w z a.extends b.extends;
  only = λ p le lt. by_place p le lt;
}
  where
    by_order : (p : ℕ) → (size w ≤ p) ⊎ (p < size w) → size v ≤ p → p < size z → B.GivesUp (slice_get z.instrs p)
    by_order p (inl more) le lt = b.only p more lt
    by_order p (inr less) le lt = kept_up w z p b.extends (a.only p le less)

    by_place : (p : ℕ) → size v ≤ p → p < size z → B.GivesUp (slice_get z.instrs p)
    by_place p le lt = by_order p (le_or_less (size w) p) le lt

get_last : (xs : List Instr) (i : Instr) (p : ℕ) → length xs ≤ p → p < suc (length xs) → slice_get (xs ++ i ∷ []) p ≡ Some i
get_last xs i p le lt = subst (λ q. slice_get (xs ++ i ∷ []) q ≡ Some i) (omega (arith, le, lt)) (stands_last xs i)

pub gives_one : (v w : Written) (i : Instr) → w ≡ added v i → B.GivesUp (Some i) → GivesUp v w
gives_one v w i e h = subst (GivesUp v) (sym e) (record {
  extends = added_extends v i;
  only = λ p le lt. subst B.GivesUp (sym (get_last v.instrs i p le (omega (arith, lt, one_longer v i)))) h;
})

-- so many instructions
pub up_to : (a b : ℕ) → a ≤ b → (n : ℕ) × (a + n ≡ b)
up_to zero b h = (b, omega arith)
up_to (suc a) zero h = absurd (omega (arith, h))
up_to (suc a) (suc b) h = let x = up_to a b (omega (arith, h)) in (x.0, omega (arith, x.1))

pub given_up : (v w z : Written) (n m : ℕ) (to : ℕ → ℕ) (code : List Instr) → GivesUp v w → Extends w z → HasFrom n z to code → n ≤ size v → size v + m ≡ size w → B.GiveUp code m (size v)
given_up v w z n m to code g e h le s p low high =
    let up = g.only p low (omega (arith, high, s)) in
    let i = up_some (slice_get w.instrs p) up in
    subst B.GivesUp (sym (h.by p i.0 (omega (arith, le, low)) (e.same p i.0 i.1))) (still_up to i.0 (subst B.GivesUp i.1 up))

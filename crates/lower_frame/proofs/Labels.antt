-- Labels that are made, or get their place, and what is reported where they are.
use Rattle.std.proofs.Common.{◌≡◌, ◌⊎◌, inl, inr, refl, sym, ap, ◌∙◌, subst, arith, true≢false, ℕ, zero, suc, ◌≤◌, ◌<◌, ◌-◌, Bool, true, false, List, [], ◌∷◌, ◌++◌, length, length-append, map, take, Option, Some, None, slice_get, slice_set}
use Rattle.std.specs.Prelude.{option_map, is_some, if◌then◌else◌, ◌==◌}
use Rattle.std.proofs.lemmas.Bool.{cases_eq, eqb-true, eqb-false}
use Rattle.std.proofs.lemmas.Bool.Decides.{nat_tests}
use Rattle.std.proofs.lemmas.List.{length-map, take-map}
use Rattle.std.proofs.lemmas.Option.{slice_get-map}
use Rattle.cell_code.specs.declared.code.Instr.{Instr}
use Rattle.cell_code.specs.declared.kind.Kind.{Kind}
use Rattle.cell_code.specs.declared.kind.Label.{Label}
use Rattle.cell_code.specs.Plain.{LabelMap, plain_label}
use Rattle.lowering_relation.specs.code_rules.Codes.{label_at}
use Rattle.lowering_relation.specs.Known.{joined}
use Rattle.lowering_relation.specs.Standing.{AreOpen, are_open}
use Rattle.lowering_relation.specs.Written.{Extends}
use Rattle.lowering_relation.proofs.Placing.{label_extends, put_extends, put_there, same_extends, added_to_extends}
use Rattle.lower_frame.specs.Labels.{placed, stands_at, untold, telling, HaveMaps, Rising}
use Rattle.fip_base.proofs.fip_language.Facts.{equal_true as equal_is, same_some, unequal_false as unequal_is}

pub one_label : (ps qs : List (Option ℕ)) → qs ≡ ps ++ None ∷ [] → length qs ≡ suc (length ps)
one_label ps qs e = ap length e ∙ omega (arith, length-append ps (None ∷ []))

pub as_many : (ps qs : List (Option ℕ)) (n p : ℕ) → qs ≡ slice_set ps n (Some p) → length qs ≡ length ps
as_many ps qs n p e = ap length e ∙ set ps n
  where
    set : (ps : List (Option ℕ)) (n : ℕ) → length (slice_set ps n (Some p)) ≡ length ps
    set [] n = refl
    set (o ∷ ps) zero = refl
    set (o ∷ ps) (suc n) = ap suc (set ps n)

-- how many have a place

pub placed_pushed : (ps qs : List (Option ℕ)) (n : ℕ) → qs ≡ ps ++ None ∷ [] → n ≤ placed ps → n ≤ placed qs
placed_pushed ps qs n e h = let f : placed qs ≡ placed ps = ap placed e ∙ pushed ps in omega (arith, f, h)
  where
    pushed : (ps : List (Option ℕ)) → placed (ps ++ None ∷ []) ≡ placed ps
    pushed [] = refl
    pushed (None ∷ ps) = pushed ps
    pushed (Some p ∷ ps) = ap suc (pushed ps)

set_one : (ps : List (Option ℕ)) (n p : ℕ) → slice_get ps n ≡ Some None → placed (slice_set ps n (Some p)) ≡ suc (placed ps)
set_one [] n p e = absurd (cc)
set_one (None ∷ ps) zero p e = refl
set_one (Some q ∷ ps) zero p e = absurd (cc)
set_one (None ∷ ps) (suc n) p e = set_one ps n p e
set_one (Some q ∷ ps) (suc n) p e = ap suc (set_one ps n p e)

pub placed_more : (ps qs : List (Option ℕ)) (n p a b : ℕ) → slice_get ps n ≡ Some None → qs ≡ slice_set ps n (Some p) → a ≤ placed ps → b ≤ suc a → b ≤ placed qs
placed_more ps qs n p a b e f g h = let x : placed qs ≡ suc (placed ps) = ap placed f ∙ set_one ps n p e in omega (arith, x, g, h)

few_placed : (ps : List (Option ℕ)) → placed ps ≤ length ps
few_placed [] = omega arith
few_placed (None ∷ ps) = omega (arith, few_placed ps)
few_placed (Some p ∷ ps) = omega (arith, few_placed ps)

pub placed_few : (ps : List (Option ℕ)) (n : ℕ) → n ≤ placed ps → n ≤ length ps
placed_few ps n h = omega (arith, few_placed ps, h)

-- what is reported at places

last_of : (ls : List Label) → slice_get (map plain_label ls) (length (map plain_label ls) - 1) ≡ option_map plain_label (slice_get ls (length ls - 1))
last_of ls = ap (λ n. slice_get (map plain_label ls) (n - 1)) (length-map ls plain_label) ∙ slice_get-map plain_label ls (length ls - 1)

pub last_none : (ls : List Label) (p : ℕ) → slice_get ls (length ls - 1) ≡ None → false ≡ stands_at p (slice_get (map plain_label ls) (length (map plain_label ls) - 1))
last_none ls p e = sym (ap (stands_at p) (last_of ls ∙ ap (option_map plain_label) e))

pub last_some : (ls : List Label) (l : Label) (p : ℕ) → slice_get ls (length ls - 1) ≡ Some l → (l.at == p) ≡ stands_at p (slice_get (map plain_label ls) (length (map plain_label ls) - 1))
last_some ls l p e = sym (ap (stands_at p) (last_of ls ∙ ap (option_map plain_label) e))

untold_last : (ls : List Label) (p : ℕ) → stands_at p (slice_get (map plain_label ls) (length (map plain_label ls) - 1)) ≡ true → map plain_label (take (length ls - 1) ls) ≡ untold p (map plain_label ls)
untold_last ls p e =
    sym (take-map plain_label (length ls - 1) ls) ∙ ap (λ n. take (n - 1) (map plain_label ls)) (sym (length-map ls plain_label))
    ∙ sym (ap (λ x. if x then take (length (map plain_label ls) - 1) (map plain_label ls) else map plain_label ls) e)

untold_none : (ls : List Label) (p : ℕ) → stands_at p (slice_get (map plain_label ls) (length (map plain_label ls) - 1)) ≡ false → map plain_label ls ≡ untold p (map plain_label ls)
untold_none ls p e = sym (ap (λ x. if x then take (length (map plain_label ls) - 1) (map plain_label ls) else map plain_label ls) e)

pub reported_first : (ks : List Kind) (ms : List LabelMap) (p : ℕ) → p ≡ 0 → ms ≡ telling p ks ms
reported_first ks ms zero e = refl
reported_first ks ms (suc p) e = absurd (cc)

reported_later : (ks : List Kind) (ms : List LabelMap) (p : ℕ) → (p ≡ 0 → ⊥) → telling p ks ms ≡ untold p ms ++ record { at = p; kinds = ks } ∷ []
reported_later ks ms zero h = absurd (h refl)
reported_later ks ms (suc p) h = refl

map_append : (ls : List Label) (l : Label) → map plain_label (ls ++ l ∷ []) ≡ map plain_label ls ++ plain_label l ∷ []
map_append [] l = refl
map_append (k ∷ ls) l = ap (λ xs. plain_label k ∷ xs) (map_append ls l)

reported_after : (ls ks : List Label) (l : Label) (p : ℕ) → (p ≡ 0 → ⊥) → map plain_label ks ≡ untold p (map plain_label ls) → l.at ≡ p → map plain_label (ks ++ l ∷ []) ≡ telling p l.kinds.items (map plain_label ls)
reported_after ls ks l p h e f =
    map_append ks l ∙ ap (λ ms. ms ++ plain_label l ∷ []) e ∙ ap (λ x. untold p (map plain_label ls) ++ record { at = x; kinds = l.kinds.items } ∷ []) f
    ∙ sym (reported_later l.kinds.items (map plain_label ls) p h)

pub reported_pushed : (ls ns : List Label) (l : Label) (p : ℕ) (b : Bool) → (p ≡ 0 → ⊥) → b ≡ stands_at p (slice_get (map plain_label ls) (length (map plain_label ls) - 1)) → b ≡ false → ns ≡ ls ++ l ∷ [] → l.at ≡ p → map plain_label ns ≡ telling p l.kinds.items (map plain_label ls)
reported_pushed ls ns l p b h e f g at = ap (map plain_label) g ∙ reported_after ls ls l p h (untold_none ls p (sym e ∙ f)) at

set_last : (ls : List Label) (l : Label) (n : ℕ) → suc n ≡ length ls → slice_set ls n l ≡ take n ls ++ l ∷ []
set_last [] l n e = absurd (omega (arith, e))
set_last (k ∷ []) l zero e = refl
set_last (k ∷ j ∷ ls) l zero e = absurd (omega (arith, e))
set_last (k ∷ ls) l (suc n) e = ap (λ ks. k ∷ ks) (set_last ls l n (omega (arith, e)))

stands_some : (ls : List Label) (p : ℕ) → stands_at p (slice_get (map plain_label ls) (length (map plain_label ls) - 1)) ≡ true → suc (length ls - 1) ≡ length ls
stands_some [] p e = absurd (true≢false (sym e))
stands_some (l ∷ ls) p e = omega arith

pub reported_again : (ls ns : List Label) (l : Label) (p : ℕ) (b : Bool) → (p ≡ 0 → ⊥) → b ≡ stands_at p (slice_get (map plain_label ls) (length (map plain_label ls) - 1)) → b ≡ true → ns ≡ slice_set ls (length ls - 1) l → l.at ≡ p → map plain_label ns ≡ telling p l.kinds.items (map plain_label ls)
reported_again ls ns l p b h e f g at =
    let here = sym e ∙ f in
    ap (map plain_label) (g ∙ set_last ls l (length ls - 1) (stands_some ls p here)) ∙ reported_after ls (take (length ls - 1) ls) l p h (untold_last ls p here) at

pub ruleset telling_on = (last_none, last_some, reported_first, reported_pushed, reported_again)

-- they rise

pub rising_higher : (n m low : ℕ) (ms : List LabelMap) → n ≤ m → Rising n low ms → Rising m low ms
rising_higher n m low [] h r = tt
rising_higher n m low (x ∷ ms) h r = (r.0, omega (arith, h, r.1), rising_higher n m x.at ms h r.2)

pub rising_pushed : (is js : List Instr) (i : Instr) (ms : List LabelMap) → js ≡ is ++ i ∷ [] → Rising (length is) 0 ms → Rising (length js) 0 ms
rising_pushed is js i ms e r = rising_higher (length is) (length js) 0 ms (omega (arith, ap length e, length-append is (i ∷ []))) r

rising_take : (n low k : ℕ) (ms : List LabelMap) → Rising n low ms → Rising n low (take k ms)
rising_take n low zero [] r = tt
rising_take n low zero (m ∷ ms) r = tt
rising_take n low (suc k) [] r = tt
rising_take n low (suc k) (m ∷ ms) r = (r.0, r.1, rising_take n m.at k ms r.2)

rising_if : (b : Bool) (n low : ℕ) (ms ks : List LabelMap) → Rising n low ms → Rising n low ks → Rising n low (if b then ms else ks)
rising_if true n low ms ks r s = r
rising_if false n low ms ks r s = s

rising_untold : (n p : ℕ) (ms : List LabelMap) → Rising n 0 ms → Rising n 0 (untold p ms)
rising_untold n p ms r = rising_if (stands_at p (slice_get ms (length ms - 1))) n 0 (take (length ms - 1) ms) ms (rising_take n 0 (length ms - 1) ms r) r

-- where the last isn't at the end, all are below it
rising_after : (n low j : ℕ) (ms : List LabelMap) (ks : List Kind) → suc j ≡ length ms → stands_at n (slice_get ms j) ≡ false → Rising n low ms → Rising n low (ms ++ record { at = n; kinds = ks } ∷ [])
rising_after n low j [] ks l e r = absurd (omega (arith, l))
rising_after n low zero (m ∷ []) ks l e r = (r.0, r.1, (less m.at r.1 e, omega arith, tt))
  where
    less : (a : ℕ) → a ≤ n → (a == n) ≡ false → a < n
    less a le f = let differ : a ≡ n → ⊥ = eqb-false a n f in omega (arith, le, differ)
rising_after n low zero (m ∷ k ∷ ms) ks l e r = absurd (omega (arith, l))
rising_after n low (suc j) (m ∷ ms) ks l e r = (r.0, r.1, rising_after n m.at j ms ks (omega (arith, l)) e r.2)

-- without it all that is left is below
rising_less : (n low j : ℕ) (ms : List LabelMap) (ks : List Kind) → suc j ≡ length ms → Rising n low ms → Rising n low (take j ms ++ record { at = n; kinds = ks } ∷ [])
rising_less n low j [] ks l r = absurd (omega (arith, l))
rising_less n low zero (m ∷ ms) ks l r = (omega (arith, r.0, r.1), omega arith, tt)
rising_less n low (suc j) (m ∷ ms) ks l r = (r.0, r.1, rising_less n m.at j ms ks (omega (arith, l)) r.2)

pub rising_reported : (n : ℕ) (ks : List Kind) (ms : List LabelMap) → Rising n 0 ms → Rising n 0 (telling n ks ms)
rising_reported zero ks ms r = r
rising_reported (suc n) ks [] r = (omega arith, omega arith, tt)
rising_reported (suc n) ks (m ∷ ms) r = subst (λ j. Rising (suc n) 0 ((if stands_at (suc n) (slice_get (m ∷ ms) j) then take j (m ∷ ms) else m ∷ ms) ++ new ∷ [])) last (by (stands_at (suc n) (slice_get (m ∷ ms) (length ms))) refl)
  where
    new : LabelMap
    new = record { at = suc n; kinds = ks }

    last : length ms ≡ length (m ∷ ms) - 1
    last = omega arith

    by : (b : Bool) → stands_at (suc n) (slice_get (m ∷ ms) (length ms)) ≡ b → Rising (suc n) 0 ((if b then take (length ms) (m ∷ ms) else m ∷ ms) ++ new ∷ [])
    by true e = rising_less (suc n) 0 (length ms) (m ∷ ms) ks (omega arith) r
    by false e = rising_after (suc n) 0 (length ms) (m ∷ ms) ks (omega arith) e r

pub still_rising : (is : List Instr) (p : ℕ) (ks : List Kind) (ls ns : List Label) → p ≡ length is → map plain_label ns ≡ telling p ks (map plain_label ls) → Rising (length is) 0 (map plain_label ls) → Rising (length is) 0 (map plain_label ns)
still_rising is p ks ls ns e f r = subst (Rising (length is) 0) (sym (f ∙ ap (λ x. telling x ks (map plain_label ls)) e)) (rising_reported (length is) ks (map plain_label ls) r)

-- what was reported before stays

below_append : (ms : List LabelMap) (n p : ℕ) (ks : List Kind) → (n ≡ p → ⊥) → label_at (ms ++ record { at = n; kinds = ks } ∷ []) p ≡ label_at ms p
below_append [] n p ks ne = ap (λ b. if b then Some ks else None) (unequal_is n p ne)
below_append (m ∷ ms) n p ks ne = ap (λ x. if m.at == p then Some m.kinds else x) (below_append ms n p ks ne)

below_take : (j : ℕ) (ms : List LabelMap) (n p : ℕ) → suc j ≡ length ms → stands_at n (slice_get ms j) ≡ true → (n ≡ p → ⊥) → label_at (take j ms) p ≡ label_at ms p
below_take j [] n p l e ne = absurd (omega (arith, l))
below_take zero (m ∷ []) n p l e ne = sym (ap (λ b. if b then Some m.kinds else None) (unequal_is m.at p (λ x. ne (sym (eqb-true m.at n e) ∙ x))))
below_take zero (m ∷ k ∷ ms) n p l e ne = absurd (omega (arith, l))
below_take (suc j) (m ∷ ms) n p l e ne = ap (λ x. if m.at == p then Some m.kinds else x) (below_take j ms n p (omega (arith, l)) e ne)

below_untold : (n p : ℕ) (ms : List LabelMap) → (n ≡ p → ⊥) → label_at (untold n ms) p ≡ label_at ms p
below_untold n p [] ne = refl
below_untold n p (m ∷ ms) ne = subst (λ j. label_at (if stands_at n (slice_get (m ∷ ms) j) then take j (m ∷ ms) else m ∷ ms) p ≡ label_at (m ∷ ms) p) last (by (stands_at n (slice_get (m ∷ ms) (length ms))) refl)
  where
    last : length ms ≡ length (m ∷ ms) - 1
    last = omega arith

    by : (b : Bool) → stands_at n (slice_get (m ∷ ms) (length ms)) ≡ b → label_at (if b then take (length ms) (m ∷ ms) else m ∷ ms) p ≡ label_at (m ∷ ms) p
    by true e = below_take (length ms) (m ∷ ms) n p (omega arith) e ne
    by false e = refl

reported_other : (n p : ℕ) (ks : List Kind) (ms : List LabelMap) → (n ≡ p → ⊥) → label_at (telling n ks ms) p ≡ label_at ms p
reported_other zero p ks ms ne = refl
reported_other (suc n) p ks ms ne = below_append (untold (suc n) ms) (suc n) p ks ne ∙ below_untold (suc n) p ms ne

pub reported_extends : (is : List Instr) (ps qs : List (Option ℕ)) (ls ns : List Label) (ks : List Kind) (n here at : ℕ) → slice_get ps n ≡ Some None → qs ≡ slice_set ps n (Some here) → at ≡ length is → map plain_label ns ≡ telling at ks (map plain_label ls) → Extends (record { instrs = is; places = ps; maps = map plain_label ls }) (record { instrs = is; places = qs; maps = map plain_label ns })
reported_extends is ps qs ls ns ks n here at e f g h = put_extends is ps qs (map plain_label ls) (map plain_label ns) n here e f
    (λ p lt. ap (λ x. label_at x p) h ∙ reported_other at p ks (map plain_label ls) (λ x. absurd (omega (arith, lt, g, x))))

-- and are not many more

taken_few : (n : ℕ) (ms : List LabelMap) → length (take n ms) ≤ length ms
taken_few zero [] = omega arith
taken_few zero (m ∷ ms) = omega arith
taken_few (suc n) [] = omega arith
taken_few (suc n) (m ∷ ms) = omega (arith, taken_few n ms)

few_if : (b : Bool) (ms ks : List LabelMap) (n : ℕ) → length ms ≤ n → length ks ≤ n → length (if b then ms else ks) ≤ n
few_if true ms ks n r s = r
few_if false ms ks n r s = s

few_untold : (p : ℕ) (ms : List LabelMap) → length (untold p ms) ≤ length ms
few_untold p ms = few_if (stands_at p (slice_get ms (length ms - 1))) (take (length ms - 1) ms) ms (length ms) (taken_few (length ms - 1) ms) (omega arith)

few_reported : (p : ℕ) (ks : List Kind) (ms : List LabelMap) → length (telling p ks ms) ≤ suc (length ms)
few_reported zero ks ms = omega arith
few_reported (suc p) ks ms = omega (arith, few_untold (suc p) ms, length-append (untold (suc p) ms) (record { at = suc p; kinds = ks } ∷ []))

pub few_more : (p : ℕ) (ks : List Kind) (ls ns : List Label) → map plain_label ns ≡ telling p ks (map plain_label ls) → length ns ≤ suc (length ls)
few_more p ks ls ns e = omega (arith, ap length e, few_reported p ks (map plain_label ls), length-map ls plain_label, length-map ns plain_label)

-- where a label has its place

pub have_none : HaveMaps [] []
have_none = record { by = λ l p e. absurd (cc) }

pub have_pushed : (ps qs : List (Option ℕ)) (ms : List LabelMap) → qs ≡ ps ++ None ∷ [] → HaveMaps ps ms → HaveMaps qs ms
have_pushed ps qs ms e h = record { by = λ l p f. h.by l p (before ps l p (ap (λ x. joined (slice_get x l)) (sym e) ∙ f)) }
  where
    before : (ps : List (Option ℕ)) (l p : ℕ) → joined (slice_get (ps ++ None ∷ []) l) ≡ Some p → joined (slice_get ps l) ≡ Some p
    before [] zero p e = absurd (cc)
    before [] (suc l) p e = absurd (cc)
    before (o ∷ ps) zero p e = e
    before (o ∷ ps) (suc l) p e = before ps l p e

some_after : (ms : List LabelMap) (n : ℕ) (ks : List Kind) → is_some (label_at (ms ++ record { at = n; kinds = ks } ∷ []) n) ≡ true
some_after [] n ks = ap (λ b. is_some (if b then Some ks else None)) (equal_is n n refl)
some_after (m ∷ ms) n ks = by (m.at == n) (some_after ms n ks)
  where
    by : (b : Bool) → is_some (label_at (ms ++ record { at = n; kinds = ks } ∷ []) n) ≡ true → is_some (if b then Some m.kinds else label_at (ms ++ record { at = n; kinds = ks } ∷ []) n) ≡ true
    by true rest = refl
    by false rest = rest

reported_here : (n : ℕ) (ks : List Kind) (ms : List LabelMap) → 0 < n → is_some (label_at (telling n ks ms) n) ≡ true
reported_here zero ks ms h = absurd (omega (arith, h))
reported_here (suc n) ks ms h = some_after (untold (suc n) ms) (suc n) ks

set_at : (ps : List (Option ℕ)) (n here l p : ℕ) → joined (slice_get (slice_set ps n (Some here)) l) ≡ Some p → (here ≡ p) ⊎ (joined (slice_get ps l) ≡ Some p)
set_at [] n here l p e = absurd (cc)
set_at (o ∷ ps) zero here zero p e = inl (same_some here p e)
set_at (o ∷ ps) zero here (suc l) p e = inr e
set_at (o ∷ ps) (suc n) here zero p e = inr e
set_at (o ∷ ps) (suc n) here (suc l) p e = set_at ps n here l p e

pub have_reported : (ps qs : List (Option ℕ)) (ls ns : List Label) (ks : List Kind) (n here : ℕ) → qs ≡ slice_set ps n (Some here) → map plain_label ns ≡ telling here ks (map plain_label ls) → HaveMaps ps (map plain_label ls) → HaveMaps qs (map plain_label ns)
have_reported ps qs ls ns ks n here e f h = record { by = λ l p at more. ap (λ ms. is_some (label_at ms p)) f ∙ by l p more (set_at ps n here l p (ap (λ x. joined (slice_get x l)) (sym e) ∙ at)) }
  where
    by : (l p : ℕ) → 0 < p → (here ≡ p) ⊎ (joined (slice_get ps l) ≡ Some p) → is_some (label_at (telling here ks (map plain_label ls)) p) ≡ true
    by l p more (inl same) = subst (λ q. is_some (label_at (telling here ks (map plain_label ls)) q) ≡ true) same (reported_here here ks (map plain_label ls) (omega (arith, more, same)))
    by l p more (inr old) = elim (cases_eq here p) [
      | inl same ↦ subst (λ q. is_some (label_at (telling here ks (map plain_label ls)) q) ≡ true) same (reported_here here ks (map plain_label ls) (omega (arith, more, same)))
      | inr ne ↦ ap is_some (reported_other here p ks (map plain_label ls) ne) ∙ h.by l p old more
    ]

-- each tree may have some constructor

opens_if : (b : Bool) (ms ks : List LabelMap) → AreOpen ms → AreOpen ks → AreOpen (if b then ms else ks)
opens_if true ms ks h k = h
opens_if false ms ks h k = k

opens_first : (n : ℕ) (ms : List LabelMap) → AreOpen ms → AreOpen (take n ms)
opens_first zero [] h = tt
opens_first zero (m ∷ ms) h = tt
opens_first (suc n) [] h = tt
opens_first (suc n) (m ∷ ms) h = (h.0, opens_first n ms h.1)

opens_after : (ms : List LabelMap) (m : LabelMap) → are_open m.kinds ≡ true → AreOpen ms → AreOpen (ms ++ m ∷ [])
opens_after [] m k h = (k, tt)
opens_after (n ∷ ms) m k h = (h.0, opens_after ms m k h.1)

opens_telling : (p : ℕ) (ks : List Kind) (ms : List LabelMap) → are_open ks ≡ true → AreOpen ms → AreOpen (telling p ks ms)
opens_telling zero ks ms k h = h
opens_telling (suc p) ks ms k h =
    opens_after (untold (suc p) ms) (record { at = suc p; kinds = ks }) k
    (opens_if (stands_at (suc p) (slice_get ms (length ms - 1))) (take (length ms - 1) ms) ms (opens_first (length ms - 1) ms h) h)

pub opens_reported : (p : ℕ) (ks : List Kind) (ls ns : List Label) → map plain_label ns ≡ telling p ks (map plain_label ls) → are_open ks ≡ true → AreOpen (map plain_label ls) → AreOpen (map plain_label ns)
opens_reported p ks ls ns e k h = subst AreOpen (sym e) (opens_telling p ks (map plain_label ls) k h)

pub ruleset placing = (rising_pushed, still_rising, few_more, label_extends, same_extends, added_to_extends, one_label, as_many, placed_pushed, placed_more, have_none, have_pushed, have_reported, opens_reported)

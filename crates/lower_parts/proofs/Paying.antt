-- The tests of a match are paid by the branches of its decision tree.
use Rattle.std.proofs.Common.{◌≡◌, ◌⊎◌, inl, inr, refl, sym, ap, ◌∙◌, subst, arith, ℕ, zero, suc, ◌+◌, ◌*◌, ◌<◌, ◌≤◌, mul-le-mul_left, Bool, true, false, ◌==◌, List, [], ◌∷◌, ◌++◌, length, length-append, Some, None, slice_get, get_or}
use Rattle.std.specs.Prelude.{if◌then◌else◌}
use Rattle.std.proofs.lemmas.Bool.{eqb-true, eqb-false, eq-eqb}
use Rattle.fip_language.specs.Every.{Among}
use Rattle.fip_language.specs.Table.{Table}
use Rattle.fip_trees.specs.Tree.{Pattern, BinderPattern, LiteralPattern, ConstructorPattern, Patterns, NoPatterns, MorePatterns}
use Rattle.cell_code.specs.declared.code.Instr.TheVariants as I
use Rattle.match_knowledge.specs.declared.rows.Row.{Row}
use Rattle.match_knowledge.specs.declared.verdicts.Verdict.TheVariants as D
use Rattle.match_knowledge.specs.Patterns as M
use Rattle.match_knowledge.specs.Known.{Known, Open, Is, Knowns, NoKnowns, MoreKnowns, compare, is_asks, is_last, side}
use Rattle.match_knowledge.specs.View.{row, rows}
use Rattle.code_size.specs.match_cover.DecisionTree.{by_verdict, Done, Split, first_live}
use Rattle.code_size.specs.match_cover.TreeView.{IsSplit}
use Rattle.code_size.proofs.match_cover.TreeGrowth.{last_arm, count_arm}
use Rattle.lower_frame.specs.lowering_relation.Written.{Written, size}
use Rattle.lower_frame.specs.lowering_relation.Spots as S
use Rattle.lower_frame.specs.lowering_relation.Opening.{naming, naming_all, names_any, taking, taking_all, take_if}
use Rattle.lower_frame.specs.lowering_relation.Reading.{Reading, read_if, read_one, reading, reading_first, contains}
use Rattle.lower_frame.specs.lowering_relation.Landing.{Side}
use Rattle.lower_frame.proofs.lowering_relation.MatchLists.{among_left, among_right, among_either, contains_among}
use Rattle.lower_frame.proofs.lowering_relation.Placing.{one_longer}
use Rattle.lower_frame.specs.Labels.{labels}
use Rattle.lower_parts.specs.Growth.{unread, IsRoom, left, Spends, sides_cost, sides_left, side_cost, way_cost, way_left}
use Rattle.fip_language.proofs.Facts.{append_one, if_true_else as or_contains, same_some}

-- the tree where a clause is chosen, or a pattern asks

abbrev MissedUpTo : List M.Pattern → Known → ℕ → Type 0
MissedUpTo ps k i = (j : ℕ) (p : M.Pattern) → j < i → slice_get ps j ≡ Some p → compare p k ≡ D.Misses

pub live_split : (ps : List M.Pattern) (k : Known) (i n : ℕ) (p : M.Pattern) → slice_get ps i ≡ Some p → compare p k ≡ D.Asks → MissedUpTo ps k i → first_live n ps k ≡ Split p
live_split [] k i n p e a m = absurd (cc)
live_split (q ∷ ps) k zero n p e a m = ap (λ v. by_verdict v (Done n) (first_live (suc n) ps k) (Split q)) (ap (λ x. compare x k) (same_some q p e) ∙ a) ∙ ap Split (same_some q p e)
live_split (q ∷ ps) k (suc i) n p e a m = ap (λ v. by_verdict v (Done n) (first_live (suc n) ps k) (Split q)) (m zero q (omega arith) refl) ∙ live_split ps k i (suc n) p e a (λ j r lt at. m (suc j) r (omega (arith, lt)) at)

-- a pattern that asks, as a row
split_at : (ps : List Row) (k : Known) (i : ℕ) (p : M.Pattern) → slice_get (rows ps) i ≡ Some p → compare p k ≡ D.Asks → first_live 0 (rows ps) k ≡ Split p → IsSplit (rows ps) k i
split_at ps k i p e a f = (p, e, f, a)

named_row : (ps : List Row) (i : ℕ) (p : M.Pattern) → slice_get (rows ps) i ≡ Some p → (r : Row) × (r ≡ get_or ps i r) × (row r ≡ p)
named_row [] i p e = absurd (cc)
named_row (q ∷ ps) zero p e = (q, refl, same_some (row q) p e)
named_row (q ∷ ps) (suc i) p e = named_row ps i p e

pub left_last : (tb : Table) (ps : List Row) (k : Known) (i : ℕ) (p : M.Pattern) → slice_get (rows ps) i ≡ Some p → compare p k ≡ D.Asks → first_live 0 (rows ps) k ≡ Split p → is_last tb p k ≡ true → left tb (rows ps) (side true p k) ≤ left tb (rows ps) k
left_last tb ps k i p e a f l = least (left tb (rows ps) (side true p k)) (left tb (rows ps) k) fewer
  where
    r : (r : Row) × (r ≡ get_or ps i r) × (row r ≡ p)
    r = named_row ps i p e

    fewer : (n : ℕ) → n < left tb (rows ps) (side true p k) → n < left tb (rows ps) k
    fewer n h = last_arm tb ps k (side true p k) i r.0 n None true (split_at ps k i p e a f) r.1 (ap (λ x. side true x k) (sym r.2)) (sym l ∙ ap (λ x. is_last tb x k) (sym r.2)) refl h

    least : (a b : ℕ) → ((n : ℕ) → n < a → n < b) → a ≤ b
    least zero b h = omega arith
    least (suc a) b h = let x = h a (omega arith) in omega (arith, x)

pub left_branch : (tb : Table) (ps : List Row) (k : Known) (i : ℕ) (p : M.Pattern) → slice_get (rows ps) i ≡ Some p → compare p k ≡ D.Asks → first_live 0 (rows ps) k ≡ Split p → is_last tb p k ≡ false → left tb (rows ps) k ≡ suc (left tb (rows ps) (side true p k) + left tb (rows ps) (side false p k))
left_branch tb ps k i p e a f l = count_arm tb ps k (side true p k) (side false p k) i r.0 false (split_at ps k i p e a f) r.1 (sym l ∙ ap (λ x. is_last tb x k) (sym r.2)) refl (ap (λ x. side true x k) (sym r.2)) (ap (λ x. side false x k) (sym r.2))
  where
    r : (r : Row) × (r ≡ get_or ps i r) × (row r ≡ p)
    r = named_row ps i p e

-- registers that are read

contains_last : (d : ℕ) (rs : List ℕ) → contains d (rs ++ d ∷ []) ≡ true
contains_last d [] = ap (λ b. if b then true else false) (eq-eqb d d refl)
contains_last d (r ∷ rs) = or_contains (d == r) (contains d (rs ++ d ∷ [])) (contains_last d rs)

contains_if : (b c e : Bool) → (c ≡ true → e ≡ true) → (if b then true else c) ≡ true → (if b then true else e) ≡ true
contains_if true c e f h = refl
contains_if false c e f h = f h

contains_more : (z d : ℕ) (rs : List ℕ) → contains z rs ≡ true → contains z (rs ++ d ∷ []) ≡ true
contains_more z d [] h = absurd (cc)
contains_more z d (r ∷ rs) h = contains_if (z == r) (contains z rs) (contains z (rs ++ d ∷ [])) (contains_more z d rs) h

abbrev one_if : Bool → ℕ
one_if b = if b then 0 else 1

less_if : (b c : Bool) → (b ≡ true → c ≡ true) → one_if c ≤ one_if b
less_if true true h = omega arith
less_if true false h = absurd (false_true (h refl))
  where
    false_true : false ≡ true → ⊥
    false_true e = absurd (cc)
less_if false true h = omega arith
less_if false false h = omega arith

pub unread_less : (n d : ℕ) (read : List ℕ) → unread n (read ++ d ∷ []) ≤ unread n read
unread_less zero d read = omega arith
unread_less (suc n) d read = omega (arith, less_if (contains n read) (contains n (read ++ d ∷ [])) (contains_more n d read), unread_less n d read)

one_less : (b c : Bool) → b ≡ false → c ≡ true → suc (one_if c) ≤ one_if b
one_less b c e f = subst (λ x. suc (one_if x) ≤ one_if b) (sym f) (subst (λ x. suc (one_if true) ≤ one_if x) (sym e) (omega arith))

last_or_before : (n d : ℕ) → d < suc n → (d ≡ n) ⊎ (d < n)
last_or_before n d h = by_order (d == n) refl
  where
    by_order : (b : Bool) → (d == n) ≡ b → (d ≡ n) ⊎ (d < n)
    by_order true e = inl (eqb-true d n e)
    by_order false e = inr (let f = eqb-false d n e in omega (arith, h, f))

unread_by : (n d : ℕ) (read : List ℕ) → contains d read ≡ false → (d < n → suc (unread n (read ++ d ∷ [])) ≤ unread n read) → (d ≡ n) ⊎ (d < n) → suc (unread (suc n) (read ++ d ∷ [])) ≤ unread (suc n) read
unread_by n d read e rest (inl same) = omega (arith, one_less (contains n read) (contains n (read ++ d ∷ [])) (ap (λ z. contains z read) (sym same) ∙ e) (subst (λ z. contains z (read ++ d ∷ []) ≡ true) same (contains_last d read)), unread_less n d read)
unread_by n d read e rest (inr less) = let r = rest less in omega (arith, less_if (contains n read) (contains n (read ++ d ∷ [])) (contains_more n d read), r)

pub unread_one : (n d : ℕ) (read : List ℕ) → d < n → contains d read ≡ false → suc (unread n (read ++ d ∷ [])) ≤ unread n read
unread_one zero d read lt e = absurd (omega (arith, lt))
unread_one (suc n) d read lt e = unread_by n d read e (λ less. unread_one n d read less e) (last_or_before n d lt)

pub unread_most : (n : ℕ) (read : List ℕ) → unread n read ≤ n
unread_most zero read = omega arith
unread_most (suc n) read = omega (arith, at_most (contains n read), unread_most n read)
  where
    at_most : (b : Bool) → one_if b ≤ 1
    at_most true = omega arith
    at_most false = omega arith

-- all registers of a list have their place among the first n, and none stands twice
abbrev NoneTwice : List ℕ → Type 0
NoneTwice [] = Unit {0}
NoneTwice (x ∷ xs) = (Among x xs → ⊥) × NoneTwice xs

not_contained : (d : ℕ) (rs : List ℕ) → (Among d rs → ⊥) → contains d rs ≡ false
not_contained d rs h = by_test (contains d rs) refl
  where
    by_test : (b : Bool) → contains d rs ≡ b → contains d rs ≡ false
    by_test true e = absurd (h (contains_among d rs e))
    by_test false e = e

fit_unread : (n : ℕ) (xs read : List ℕ) → NoneTwice xs → S.Apart xs read → ((z : ℕ) → Among z xs → z < n) → length xs ≤ unread n read
fit_unread n [] read d a w = omega arith
fit_unread n (x ∷ xs) read d a w =
    omega (
      arith,
      unread_one n x read (w x (inl refl)) (not_contained x read (λ h. a x (inl refl) h)),
      fit_unread n xs (read ++ x ∷ []) d.1 (λ z h k. apart z h (among_either z read (x ∷ []) k)) (λ z h. w z (inr h)),
    )
  where
    apart : (z : ℕ) → Among z xs → Among z read ⊎ Among z (x ∷ []) → ⊥
    apart z h (inl k) = a z (inr h) k
    apart z h (inr (inl e)) = d.0 (subst (λ y. Among y xs) e h)
    apart z h (inr (inr k)) = absurd k

pub fit : (n : ℕ) (xs : List ℕ) → NoneTwice xs → ((z : ℕ) → Among z xs → z < n) → length xs ≤ n
fit n xs d w = omega (arith, fit_unread n xs [] d (λ z h k. absurd k) w, unread_most n [])

twice_append : (xs ys : List ℕ) → NoneTwice xs → NoneTwice ys → S.Apart xs ys → NoneTwice (xs ++ ys)
twice_append [] ys a b c = b
twice_append (x ∷ xs) ys a b c = (λ h. by_side (among_either x xs ys h), twice_append xs ys a.1 b (λ z h k. c z (inr h) k))
  where
    by_side : Among x xs ⊎ Among x ys → ⊥
    by_side (inl h) = a.0 h
    by_side (inr h) = c x (inl refl) h

not_either : (x : ℕ) (xs ys : List ℕ) → (Among x xs → ⊥) → (Among x ys → ⊥) → Among x xs ⊎ Among x ys → ⊥
not_either x xs ys f g (inl h) = f h
not_either x xs ys f g (inr h) = g h

mutual
  below_differ : (s : S.Spot) → S.Differ s → NoneTwice (S.below s)
  below_differ (S.At r fs) h = all_differ fs h

  all_differ : (ss : S.Spots) → S.AllDiffer ss → NoneTwice (S.all_in ss)
  all_differ S.NoSpots h = tt
  all_differ (S.MoreSpots s ss) h = (
    λ x. not_either (S.register s) (S.below s) (S.all_in ss) h.0 h.1 (among_either (S.register s) (S.below s) (S.all_in ss) x),
    twice_append (S.below s) (S.all_in ss) (below_differ s h.3) (all_differ ss h.4) h.2,
  )

pub room_below : (n : ℕ) (s : S.Spot) → IsRoom n s → length (S.below s) ≤ n
room_below n s h = fit n (S.below s) (below_differ s h.differ) h.within

-- cells that are taken apart

take_size : (r : ℕ) (ps : Patterns) (ss : S.Spots) (w : Written) → size (take_if r ps ss w) ≤ suc (size w)
take_size r NoPatterns ss w = omega arith
take_size r (MorePatterns p ps) ss w = omega (arith, one_longer w (I.Take r (Rattle.lower_frame.specs.lowering_relation.Opening.as_many (MorePatterns p ps) ss)))

take_labels : (r : ℕ) (ps : Patterns) (ss : S.Spots) (w : Written) → labels (take_if r ps ss w) ≡ labels w
take_labels r NoPatterns ss w = refl
take_labels r (MorePatterns p ps) ss w = refl

mutual
  pub taking_size : (q : Pattern) (s : S.Spot) (w : Written) → size (taking q s w) ≤ suc (size w + length (S.below s))
  taking_size (BinderPattern b) s w = omega arith
  taking_size (LiteralPattern i p) s w = omega arith
  taking_size (ConstructorPattern t d c n p ps) (S.At r fs) w = omega (arith, all_taking_size ps fs (take_if r ps fs w), take_size r ps fs w)

  all_taking_size : (ps : Patterns) (ss : S.Spots) (w : Written) → size (taking_all ps ss w) ≤ size w + length (S.all_in ss)
  all_taking_size NoPatterns ss w = omega arith
  all_taking_size (MorePatterns p ps) S.NoSpots w = omega arith
  all_taking_size (MorePatterns p ps) (S.MoreSpots s ss) w = omega (arith, all_taking_size ps ss (taking p s w), taking_size p s w, length-append (S.below s) (S.all_in ss))

mutual
  pub taking_labels : (q : Pattern) (s : S.Spot) (w : Written) → labels (taking q s w) ≡ labels w
  taking_labels (BinderPattern b) s w = refl
  taking_labels (LiteralPattern i p) s w = refl
  taking_labels (ConstructorPattern t d c n p ps) (S.At r fs) w = all_taking_labels ps fs (take_if r ps fs w) ∙ take_labels r ps fs w

  all_taking_labels : (ps : Patterns) (ss : S.Spots) (w : Written) → labels (taking_all ps ss w) ≡ labels w
  all_taking_labels NoPatterns ss w = refl
  all_taking_labels (MorePatterns p ps) S.NoSpots w = refl
  all_taking_labels (MorePatterns p ps) (S.MoreSpots s ss) w = all_taking_labels ps ss (taking p s w) ∙ taking_labels p s w

-- what is read is paid by the registers that weren't

pub record Reads (n : ℕ) (x y : Reading) : Type 0 where
  pub longer : size y.written + unread n y.read ≤ size x.written + unread n x.read
  pub same_labels : labels y.written ≡ labels x.written

reads_same : (n : ℕ) (x : Reading) → Reads n x x
reads_same n x = record { longer = omega arith; same_labels = refl }

reads_on : (n : ℕ) (x y z : Reading) → Reads n x y → Reads n y z → Reads n x z
reads_on n x y z a b = record { longer = let p = a.longer in let q = b.longer in omega (arith, p, q); same_labels = b.same_labels ∙ a.same_labels }

reads_if : (n : ℕ) (b : Bool) (x : Reading) (r i d : ℕ) → contains d x.read ≡ b → d < n → Reads n x (read_if b x r i d)
reads_if n true x r i d e lt = reads_same n x
reads_if n false x r i d e lt = record { longer = omega (arith, one_longer x.written (I.Peek d r i), unread_one n d x.read lt e); same_labels = refl }

reads_one : (n : ℕ) (x : Reading) (r i d : ℕ) → d < n → Reads n x (read_one x r i d)
reads_one n x r i d lt = reads_if n (contains d x.read) x r i d refl lt

reads_either : (n : ℕ) (b : Bool) (x y z : Reading) → Reads n x y → Reads n x z → Reads n x (if b then y else z)
reads_either n true x y z h k = h
reads_either n false x y z h k = k

mutual
  pub reading_pays : (n : ℕ) (p : M.Pattern) (k : Known) (s : S.Spot) (x : Reading) → ((z : ℕ) → Among z (S.below s) → z < n) → Reads n x (reading p k s x)
  reading_pays n M.Any k s x w = reads_same n x
  reading_pays n (M.Test t h ps) (Open out) s x w = reads_same n x
  reading_pays n (M.Test t h ps) (Is g ks) (S.At r fs) x w = reading_first_pays n ps ks fs r 0 x w

  reading_first_pays : (n : ℕ) (ps : M.Patterns) (ks : Knowns) (ss : S.Spots) (r i : ℕ) (x : Reading) → ((z : ℕ) → Among z (S.all_in ss) → z < n) → Reads n x (reading_first ps ks ss r i x)
  reading_first_pays n M.NoPatterns ks ss r i x w = reads_same n x
  reading_first_pays n (M.MorePatterns p ps) NoKnowns ss r i x w = reads_same n x
  reading_first_pays n (M.MorePatterns p ps) (MoreKnowns k ks) S.NoSpots r i x w = reads_same n x
  reading_first_pays n (M.MorePatterns p ps) (MoreKnowns k ks) (S.MoreSpots s ss) r i x w =
      reads_either n (is_asks (compare p k)) x (reading p k s (read_one x r i (S.register s))) (reading_first ps ks ss r (suc i) x)
      (reads_on n x (read_one x r i (S.register s)) (reading p k s (read_one x r i (S.register s))) (reads_one n x r i (S.register s) (w (S.register s) (inl refl)))
      (reading_pays n p k s (read_one x r i (S.register s)) (λ z h. w z (inr (among_left z (S.below s) (S.all_in ss) h)))))
      (reading_first_pays n ps ks ss r (suc i) x (λ z h. w z (inr (among_right z (S.below s) (S.all_in ss) h))))

abbrev one_named : Pattern → S.Spot → ℕ → ℕ → Reading → Reading
one_named p s r i y = if names_any p then naming p s (read_one y r i (S.register s)) else y

mutual
  pub naming_pays : (n : ℕ) (q : Pattern) (s : S.Spot) (x : Reading) → ((z : ℕ) → Among z (S.below s) → z < n) → Reads n x (naming q s x)
  naming_pays n (BinderPattern b) s x w = reads_same n x
  naming_pays n (LiteralPattern i p) s x w = reads_same n x
  naming_pays n (ConstructorPattern t d c m p ps) (S.At r fs) x w = naming_all_pays n ps fs r 0 x w

  naming_all_pays : (n : ℕ) (ps : Patterns) (ss : S.Spots) (r i : ℕ) (x : Reading) → ((z : ℕ) → Among z (S.all_in ss) → z < n) → Reads n x (naming_all ps ss r i x)
  naming_all_pays n NoPatterns ss r i x w = reads_same n x
  naming_all_pays n (MorePatterns p ps) S.NoSpots r i x w = reads_same n x
  naming_all_pays n (MorePatterns p ps) (S.MoreSpots s ss) r i x w =
      reads_on n x (one_named p s r i x) (naming_all ps ss r (suc i) (one_named p s r i x))
      (reads_either n (names_any p) x (naming p s (read_one x r i (S.register s))) x
      (reads_on n x (read_one x r i (S.register s)) (naming p s (read_one x r i (S.register s))) (reads_one n x r i (S.register s) (w (S.register s) (inl refl)))
      (naming_pays n p s (read_one x r i (S.register s)) (λ z h. w z (inr (among_left z (S.below s) (S.all_in ss) h)))))
      (reads_same n x))
      (naming_all_pays n ps ss r (suc i) (one_named p s r i x) (λ z h. w z (inr (among_right z (S.below s) (S.all_in ss) h))))

-- what is spent

pub spends_on : (a b c d e f : ℕ) (v w z : Written) → Spends a b v c d w → Spends c d w e f z → Spends a b v e f z
spends_on a b c d e f v w z p q = record {
  spent_instructions = let x = p.spent_instructions in let y = q.spent_instructions in omega (arith, x, y);
  spent_labels = let x = p.spent_labels in let y = q.spent_labels in omega (arith, x, y);
}

pub spends_none : (a b c d : ℕ) (v : Written) → c ≤ a → d ≤ b → Spends a b v c d v
spends_none a b c d v e f = record { spent_instructions = omega (arith, e); spent_labels = omega (arith, f) }

pub spends_moved : (a b c d : ℕ) (v u w : Written) → size u ≡ size v → labels u ≡ labels v → Spends a b u c d w → Spends a b v c d w
spends_moved a b c d v u w e f p = record {
  spent_instructions = let x = p.spent_instructions in omega (arith, x, e);
  spent_labels = let x = p.spent_labels in omega (arith, x, f);
}

pub spends_less : (a b c d : ℕ) (v w : Written) → Spends a b v (suc c) d w → Spends a b v c d w
spends_less a b c d v w p = record {
  spent_instructions = let x = p.spent_instructions in omega (arith, x);
  spent_labels = p.spent_labels;
}

pub spends_one : (a b c d : ℕ) (v w z : Written) → size z ≡ suc (size w) → labels z ≡ labels w → Spends a b v (suc c) d w → Spends a b v c d z
spends_one a b c d v w z e f p = record {
  spent_instructions = let x = p.spent_instructions in omega (arith, x, e);
  spent_labels = let x = p.spent_labels in omega (arith, x, f);
}

pub cost_more : (n : ℕ) (tb : Table) (rs : List M.Pattern) (ds es : List Side) → sides_cost n tb rs (ds ++ es) ≡ sides_cost n tb rs ds + sides_cost n tb rs es
cost_more n tb rs [] es = refl_of (sides_cost n tb rs es)
  where
    refl_of : (a : ℕ) → a ≡ 0 + a
    refl_of a = omega arith
cost_more n tb rs (d ∷ ds) es = again (side_cost n (left tb rs d.known)) (sides_cost n tb rs (ds ++ es)) (sides_cost n tb rs ds) (sides_cost n tb rs es) (cost_more n tb rs ds es)
  where
    again : (a b c d : ℕ) → b ≡ c + d → a + b ≡ (a + c) + d
    again a b c d e = omega (arith, e)

pub left_more : (n : ℕ) (tb : Table) (rs : List M.Pattern) (ds es : List Side) → sides_left n tb rs (ds ++ es) ≡ sides_left n tb rs ds + sides_left n tb rs es
left_more n tb rs [] es = refl_of (sides_left n tb rs es)
  where
    refl_of : (a : ℕ) → a ≡ 0 + a
    refl_of a = omega arith
left_more n tb rs (d ∷ ds) es = again (left tb rs d.known) (sides_left n tb rs (ds ++ es)) (sides_left n tb rs ds) (sides_left n tb rs es) (left_more n tb rs ds es)
  where
    again : (a b c d : ℕ) → b ≡ c + d → a + b ≡ (a + c) + d
    again a b c d e = omega (arith, e)

-- more branches cost more
cost_of_more : (n b c : ℕ) → b ≤ c → (2 * n + 3) * b ≤ (2 * n + 3) * c
cost_of_more n b c h = mul-le-mul_left (2 * n + 3) h

module _ (n : ℕ) (tb : Table) (rs : List M.Pattern) where
  last_paid : (a b u s : ℕ) → b ≤ a → (suc n + ((2 * n + 3) * b + u)) + s ≤ (suc n + ((2 * n + 3) * a + u)) + s
  last_paid a b u s h = omega (arith, cost_of_more n b a h)

  pub pays_last : (k l : Known) (read : List ℕ) (ds : List Side) (v : Written) → left tb rs l ≤ left tb rs k → Spends (way_cost n tb rs None k read ds) (way_left n tb rs None k ds) v (way_cost n tb rs None l read ds) (way_left n tb rs None l ds) v
  pays_last k l read ds v h = spends_none (way_cost n tb rs None k read ds) (way_left n tb rs None k ds) (way_cost n tb rs None l read ds) (way_left n tb rs None l ds) v
      (last_paid (left tb rs k) (left tb rs l) (unread n read) (sides_cost n tb rs ds) h) (same_side (left tb rs k) (left tb rs l) (sides_left n tb rs ds) h)
    where
      same_side : (a b c : ℕ) → b ≤ a → b + c ≤ a + c
      same_side a b c e = omega (arith, e)

  test_paid : (k held failed u u' s s' v y w : ℕ) → k ≡ suc (held + failed) → s' ≡ s + ((2 * n + 2) + (2 * n + 3) * failed) → w ≡ suc y → y + u' ≤ v + u → w + ((suc n + ((2 * n + 3) * held + u')) + s') ≤ v + ((suc n + ((2 * n + 3) * k + u)) + s)
  test_paid k held failed u u' s s' v y w e f g h = subst (λ z. w + ((suc n + ((2 * n + 3) * held + u')) + s') ≤ v + ((suc n + ((2 * n + 3) * z + u)) + s)) (sym e) (omega (arith, f, g, h))

  pub pays_test : (k held failed : Known) (read read_on : List ℕ) (ds es : List Side) (d : Side) (x y : Reading) (v w : Written) → left tb rs k ≡ suc (left tb rs held + left tb rs failed) → es ≡ ds ++ d ∷ [] → d.known ≡ failed → Reads n x y → x.written ≡ v → x.read ≡ read → y.read ≡ read_on → size w ≡ suc (size y.written) → labels w ≡ suc (labels y.written) → Spends (way_cost n tb rs None k read ds) (way_left n tb rs None k ds) v (way_cost n tb rs None held read_on es) (way_left n tb rs None held es) w
  pays_test k held failed read read_on ds es d x y v w e f g r xv xr yr s l = record {
    spent_instructions = test_paid (left tb rs k) (left tb rs held) (left tb rs failed) (unread n read) (unread n read_on) (sides_cost n tb rs ds) (sides_cost n tb rs es) (size v) (size y.written) (size w) e cost s
        (subst (λ z. size y.written + unread n z ≤ size v + unread n read) yr (subst (λ z. size y.written + unread n y.read ≤ size v + unread n z) xr (subst (λ z. size y.written + unread n y.read ≤ size z + unread n x.read) xv r.longer)));
    spent_labels = label_paid (left tb rs k) (left tb rs held) (left tb rs failed) (sides_left n tb rs ds) (sides_left n tb rs es) (labels v) (labels y.written) (labels w) e branches_more l (r.same_labels ∙ ap labels xv);
  }
    where
      cost : sides_cost n tb rs es ≡ sides_cost n tb rs ds + ((2 * n + 2) + (2 * n + 3) * left tb rs failed)
      cost = ap (sides_cost n tb rs) f ∙ cost_more n tb rs ds (d ∷ []) ∙ ap (λ z. sides_cost n tb rs ds + z) (last_one (side_cost n (left tb rs d.known)) ∙ ap (λ z. side_cost n (left tb rs z)) g)
        where
          last_one : (a : ℕ) → a + 0 ≡ a
          last_one a = omega arith

      branches_more : sides_left n tb rs es ≡ sides_left n tb rs ds + left tb rs failed
      branches_more = ap (sides_left n tb rs) f ∙ left_more n tb rs ds (d ∷ []) ∙ ap (λ z. sides_left n tb rs ds + z) (last_one (left tb rs d.known) ∙ ap (left tb rs) g)
        where
          last_one : (a : ℕ) → a + 0 ≡ a
          last_one a = omega arith

      label_paid : (k held failed s s' v y w : ℕ) → k ≡ suc (held + failed) → s' ≡ s + failed → w ≡ suc y → y ≡ v → w + (held + s') ≤ v + (k + s)
      label_paid k held failed s s' v y w e' f' g' h' = omega (arith, e', f', g', h')

  taken_paid : (a u s v w : ℕ) → w ≤ suc (v + n) → w + s ≤ v + ((suc n + (a + u)) + s)
  taken_paid a u s v w h = omega (arith, h)

  same_labels_paid : (a s v w : ℕ) → w ≡ v → w + s ≤ v + (a + s)
  same_labels_paid a s v w h = omega (arith, h)

  pub pays_taken : (k : Known) (read read_on : List ℕ) (ds : List Side) (i : ℕ) (q : Pattern) (s : S.Spot) (v w : Written) → IsRoom n s → w ≡ taking q s v → Spends (way_cost n tb rs None k read ds) (way_left n tb rs None k ds) v (way_cost n tb rs (Some i) k read_on ds) (way_left n tb rs (Some i) k ds) w
  pays_taken k read read_on ds i q s v w room e = record {
    spent_instructions = taken_paid ((2 * n + 3) * left tb rs k) (unread n read) (sides_cost n tb rs ds) (size v) (size w) (subst (λ z. size z ≤ suc (size v + n)) (sym e) (omega (arith, taking_size q s v, room_below n s room)));
    spent_labels = same_labels_paid (left tb rs k) (sides_left n tb rs ds) (labels v) (labels w) (ap labels e ∙ taking_labels q s v);
  }

  named_paid : (a u u' s v w : ℕ) → w + u' ≤ v + u → w + s ≤ v + ((suc n + (a + u)) + s)
  named_paid a u u' s v w h = omega (arith, h)

  pub pays_named : (k : Known) (read read_on : List ℕ) (ds : List Side) (i : ℕ) (x y : Reading) (v w : Written) → Reads n x y → x.written ≡ v → x.read ≡ read → y.written ≡ w → Spends (way_cost n tb rs None k read ds) (way_left n tb rs None k ds) v (way_cost n tb rs (Some i) k read_on ds) (way_left n tb rs (Some i) k ds) w
  pays_named k read read_on ds i x y v w r xv xr yw = record {
    spent_instructions = named_paid ((2 * n + 3) * left tb rs k) (unread n read) (unread n y.read) (sides_cost n tb rs ds) (size v) (size w)
        (subst (λ z. size z + unread n y.read ≤ size v + unread n read) yw (subst (λ z. size y.written + unread n y.read ≤ size v + unread n z) xr (subst (λ z. size y.written + unread n y.read ≤ size z + unread n x.read) xv r.longer)));
    spent_labels = same_labels_paid (left tb rs k) (sides_left n tb rs ds) (labels v) (labels w) (ap labels (sym yw) ∙ r.same_labels ∙ ap labels xv);
  }

  -- from a side on
  side_paid : (b u a s v y w t : ℕ) → u ≤ n → a ≡ s + ((2 * n + 2) + (2 * n + 3) * b) → y ≡ v → w + t ≤ y + ((suc n + ((2 * n + 3) * b + u)) + s) → w + suc t ≤ v + a
  side_paid b u a s v y w t e f g h = omega (arith, e, f, g, h)

  pub pays_side : (d : Side) (k : Known) (read : List ℕ) (ds es : List Side) (c e : ℕ) (v u w : Written) → k ≡ d.known → size u ≡ size v → labels u ≡ labels v → c ≡ sides_cost n tb rs es → e ≡ sides_left n tb rs es → Spends (way_cost n tb rs None k read ds) (way_left n tb rs None k ds) u c e w → Spends (sides_cost n tb rs (ds ++ d ∷ [])) (sides_left n tb rs (ds ++ d ∷ [])) v (suc (sides_cost n tb rs es)) (sides_left n tb rs es) w
  pays_side d k read ds es c e v u w f g h cc' ee p = record {
    spent_instructions = subst (λ z. size w + suc z ≤ size v + sides_cost n tb rs (ds ++ d ∷ [])) cc' (side_paid (left tb rs k) (unread n read) (sides_cost n tb rs (ds ++ d ∷ [])) (sides_cost n tb rs ds) (size v) (size u) (size w) c (unread_most n read) cost g p.spent_instructions);
    spent_labels = subst (λ z. labels w + z ≤ labels v + sides_left n tb rs (ds ++ d ∷ [])) ee (label_paid (left tb rs k) (sides_left n tb rs (ds ++ d ∷ [])) (sides_left n tb rs ds) (labels v) (labels u) (labels w) e branches_more h p.spent_labels);
  }
    where
      last_one : (a : ℕ) → a + 0 ≡ a
      last_one a = omega arith

      cost : sides_cost n tb rs (ds ++ d ∷ []) ≡ sides_cost n tb rs ds + ((2 * n + 2) + (2 * n + 3) * left tb rs k)
      cost = cost_more n tb rs ds (d ∷ []) ∙ ap (λ z. sides_cost n tb rs ds + z) (last_one (side_cost n (left tb rs d.known)) ∙ ap (λ z. side_cost n (left tb rs z)) (sym f))

      branches_more : sides_left n tb rs (ds ++ d ∷ []) ≡ sides_left n tb rs ds + left tb rs k
      branches_more = left_more n tb rs ds (d ∷ []) ∙ ap (λ z. sides_left n tb rs ds + z) (last_one (left tb rs d.known) ∙ ap (left tb rs) (sym f))

      label_paid : (b a s v y w t : ℕ) → a ≡ s + b → y ≡ v → w + t ≤ y + (b + s) → w + t ≤ v + a
      label_paid b a s v y w t e' f' g' = omega (arith, e', f', g')
